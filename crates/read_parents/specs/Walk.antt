-- A step over the words of a line: the word after the place q ends behind q and within the line.
use Rattle.std.specs.Prelude.{ℕ, ◌+◌, ◌≤◌, ◌<◌, ◌≡◌, List, length}
use Rattle.std.proofs.Common.{arith}
use Rattle.text_lex.specs.Scan.{is_byte, end_within}
use Rattle.text_lex.specs.Piece.{end_after, end_after_law}

pub end_within_line : (s : List ℕ) (q : ℕ) → q < length s → (e : ℕ) → e ≡ end_after 32 s q → (q < e) × (e ≤ length s)
end_within_line s q h e k =
    let l = end_after_law 32 s q h in
    (omega arith, omega (arith, end_within (is_byte 32) s (q + 1) (omega arith)))
