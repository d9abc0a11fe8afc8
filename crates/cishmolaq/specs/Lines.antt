-- The line of a fault is a small number.
use Rattle.std.specs.Prelude.{ℕ, zero, suc, ◌+◌, ◌≤◌, ◌<◌, ◌≡◌, refl, Bool, true, false, cond, List, [], ◌∷◌, length, eqb, ltb}
use Rattle.std.proofs.Common.{arith, ap, ltb-false}
use Rattle.model.specs.Text.{cut, pieces, lines_and_rest}
use Rattle.model.specs.Form.{Line, Place, lines_from, rest_of, at_start, may_stand, place_after, place_number, within_body, first_misplaced}
use Rattle.model.specs.Library.{Library, nothing, add}
use Rattle.model.specs.Fault.{fault_of}
use Rattle.model.specs.Read.{Reading, refused, fault_and_line, unless, judged, or_judged, read_pieces, read}

lines_few : (ps : List (List ℕ)) (at : ℕ) → length (lines_from at ps) ≤ length ps
unfolding lines_from
lines_few [] at = omega arith
lines_few (l ∷ []) at = omega arith
lines_few (l ∷ m ∷ ls) at = let h = lines_few (m ∷ ls) (at + length l + 1) in omega arith

cut_few : (d : Bool) (b : ℕ) (ps : List (List ℕ)) → length (cut d b ps) ≤ suc (length ps)
cut_few true b ps = omega arith
cut_few false b [] = omega arith
cut_few false b (p ∷ ps) = omega arith

pieces_few : (s : List ℕ) → length (pieces 10 s) ≤ suc (length s)
unfolding pieces
pieces_few [] = omega arith
pieces_few (b ∷ s) = let h = pieces_few s in omega (arith, cut_few (eqb b 10) b (pieces 10 s))

misplaced_le : (ls : List Line) (n : ℕ) (p : Place) (rest : List ℕ) → first_misplaced n p ls rest ≤ n + length ls
unfolding first_misplaced
misplaced_le [] n p [] = go (eqb (place_number p) (place_number within_body))
  where
    go : (b : Bool) → cond b n 0 ≤ n + 0
    go true = omega arith
    go false = omega arith
misplaced_le [] n p (b ∷ rest) = omega arith
misplaced_le (l ∷ ls) n p rest = go (may_stand l.form p) (misplaced_le ls (n + 1) (place_after l.form) rest)
  where
    go : (b : Bool) → first_misplaced (n + 1) (place_after l.form) ls rest ≤ n + 1 + length ls
        → cond b (first_misplaced (n + 1) (place_after l.form) ls rest) n ≤ n + suc (length ls)
    go true h = omega arith
    go false h = omega arith

abbrev line_of : Reading → ℕ
line_of r = (fault_and_line r).1

judged_le : (ls : List Line) (l : Library) (n : ℕ) → line_of (judged l n ls) ≤ n + length ls
unfolding judged
judged_le [] l n = omega arith
judged_le (line ∷ below) l n = go (fault_of l below line.form) (judged_le below (add l line line.form) (n + 1))
  where
    go : (f : ℕ) → line_of (judged (add l line line.form) (n + 1) below) ≤ n + 1 + length below
        → line_of (unless f n (judged (add l line line.form) (n + 1) below)) ≤ n + suc (length below)
    go zero h = omega arith
    go (suc f) h = omega arith

or_judged_le : (n : ℕ) (ls : List Line) → n ≤ 1 + length ls → line_of (or_judged n ls) ≤ 1 + length ls
or_judged_le zero ls h = judged_le ls nothing 1
or_judged_le (suc n) ls h = h

pub line_small : (text : List ℕ) (number line : ℕ) → read text ≡ refused number line → line < 4294967296
unfolding read read_pieces
line_small text number line e = go (ltb 32768 (length text)) refl
  where
    at : line_of (read text) ≡ line
    at = ap line_of e

    go : (b : Bool) → ltb 32768 (length text) ≡ b → line < 4294967296
    go true q = omega (arith, at, ap (λ (b : Bool). line_of (cond b (refused 11 0) (read_pieces (lines_and_rest text)))) q)
    go false q =
        let ls = lines_from 0 (lines_and_rest text) in
        let n = first_misplaced 1 at_start ls (rest_of (lines_and_rest text)) in
        omega (
          arith,
          at,
          ap (λ (b : Bool). line_of (cond b (refused 11 0) (read_pieces (lines_and_rest text)))) q,
          or_judged_le n ls (misplaced_le ls 1 at_start (rest_of (lines_and_rest text))),
          lines_few (lines_and_rest text) 0,
          pieces_few text,
          ltb-false 32768 (length text) q,
        )
