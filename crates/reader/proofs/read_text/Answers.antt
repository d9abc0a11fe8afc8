-- `read_text` meets its contract: 11, then 12, then the second pass, as in the model's reading.
use Rattle.std.specs.Prelude.{ℕ, zero, suc, ◌≡◌, ◌≢◌, Some, None, refl}
use Rattle.std.proofs.Common.{arith}
use Rattle.text_syntax.specs.Places.{line_in}
use Rattle.reader.specs.Verdicts.{too_long, misplaced, second_pass}
use Rattle.reader.proofs.read_text.Goals as goal

-- The number of the line that the first pass names.
named : (n line : ℕ) → Some line ≡ line_in n → (line ≡ n) × (line ≢ 0)
named zero line e = let z : ◌≡◌ {A = ℕ} 0 1 = cc in absurd (omega arith)
named (suc n) line e = let l : line ≡ suc n = cc in (l, λ z. omega arith)

unnamed : (n : ℕ) → None ≡ line_in n → 0 ≡ n
unnamed zero e = refl
unnamed (suc n) e = let z : ◌≡◌ {A = ℕ} 0 1 = cc in absurd (omega arith)

pub returns-then-text-gt-MAX_TEXT : goal.returns-then-text-gt-MAX_TEXT
returns-then-text-gt-MAX_TEXT c = too_long c.args.text.now _ c.if-text-gt-MAX_TEXT.true

pub returns-in-Some : goal.returns-in-Some
returns-in-Some c =
    let l = named _ c.in-Some.line c.in-Some.ensures in
    misplaced c.args.text.now _ c.if-text-gt-MAX_TEXT.false c.in-Some.line l.0 l.1

pub returns : goal.returns
returns c = second_pass c.args.text.now c.judge.new.tables c.if-text-gt-MAX_TEXT.false 0 (unnamed _ c.in_default.ensures) refl c.judge.result c.judge.ensures
