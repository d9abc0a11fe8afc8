-- The iterator over words meets its contract: it gives the first of those left, and leaves the others.
use mathlib.Core.List.{List}
use lib.ListN.{length}
use native.Mathlib.Omega.{arith}
use Prim.Native.Nat.{ℕ}
use Rattle.std.proofs.Common.{ap}
use Rattle.text_lex.specs.Words.{next_word}
use Rattle.text_lex.proofs.WordsIterator.next.Goals as goal

pub returns-clause-steps : goal.returns-clause-steps
returns-clause-steps c =
    let s = c.args.self.now in
    next_word s.line.now s.at _ _ c.if-self.false c.word_after-word.ensures c.word_end_after-self.ensures

pub returns-clause-goes : goal.returns-clause-goes
returns-clause-goes c =
    let s = c.args.self.now in
    let e = ap (length {A = List ℕ}) (next_word s.line.now s.at _ _ c.if-self.false c.word_after-word.ensures c.word_end_after-self.ensures) in
    record { on = λ _. (tt, tt, omega arith); keeps = tt; rests = λ _. tt }
