-- On words that represent a world no call gives 21 or 24, since no call of the model does.
use Rattle.std.specs.Prelude.{ℕ, ◌≤◌, ◌≡◌}
use Rattle.std.proofs.Common.{arith, sym, ap, ◌∙◌}
use Rattle.model.specs.Vector.{Program}
use Rattle.model.specs.Service.{Answer, done, going, answer, refuse, held, stopped, World}
use Rattle.model.specs.Machine.{service, Call, call}
use Rattle.twophase.specs.Moves.{Move, refused, closes_circle, joins, starts, goes_on, replies, halts, commits, aborts, moves}
use Rattle.machine_words.specs.Calls.{Lent, called}
use Rattle.machine_refinement.specs.Rep.{Rep}
use Rattle.machine_refinement.specs.Refines.{refines}

-- The number of a refusal; for any other answer the least number that a call refuses with.
abbrev refusal : Answer → ℕ
refusal done = 31
refusal going = 31
refusal (answer v) = 31
refusal (refuse n) = n
refusal (held s) = 31
refusal stopped = 31

-- A call of the model refuses with 31 or more.
move_number : (p : Program) {w : World (service p)} {c : Call} {y : Answer × World (service p)} → Move (service p) w c y → 31 ≤ refusal y.0
move_number p (refused c n g l) = g
move_number p (closes_circle s q m k a h o e) = omega arith
move_number p (joins s q m k a h o e) = omega arith
move_number p (starts s q m a e) = omega arith
move_number p (goes_on s y r r' e a v) = omega arith
move_number p (replies s y r n e a v) = omega arith
move_number p (halts s y r a v) = omega arith
move_number p (commits s y below o still n) = omega arith
move_number p (aborts s y below o) = omega arith

-- On words that represent a world no call gives 21 or 24: every number that it refuses with is 31 or more.
pub never_unfit : (lent : Lent) (p : Program) (w : World (service p)) → Rep lent p w → (c : Call) (n : ℕ)
    → (called lent c).answered ≡ refuse n → 31 ≤ n
never_unfit lent p w rep c n e =
    let same : refusal (call p w c).0 ≡ n = ap refusal (sym (refines lent p w rep c).0 ∙ e) in
    omega (arith, move_number p (moves (service p) w c))
