-- `owns_locks` meets its contract, by the target's kind.
use native.Mathlib.Omega.{arith}
use Prim.Native.Nat.{ℕ}
use mathlib.Core.Path.{◌≡◌, ap, ◌∙◌}
use mathlib.Core.Bool.{not}
use Rattle.laws.specs.Bits.{bit}
use Rattle.machine_conflicts.specs.Own.{owns_domain, owns_class, owns_not, owns_object}
use Rattle.machine_conflicts.proofs.own.owns_locks.Goals as goal

pub returns-then-wanted-ge-DOMAIN_KIND : goal.returns-then-wanted-ge-DOMAIN_KIND
returns-then-wanted-ge-DOMAIN_KIND c = ap not c.misses_one.ensures ∙ owns_domain _ _ _ _ c.if-wanted-ge-DOMAIN_KIND.true

pub returns-then-wanted-eq-CLASS_KIND : goal.returns-then-wanted-eq-CLASS_KIND
returns-then-wanted-eq-CLASS_KIND c =
    let a = c.args in
    c.has_bit.ensures ∙ ap (λ (w : ℕ). bit w a.wanted.place) c.get-whole.ensures ∙ owns_class _ _ _ _ c.if-wanted-eq-CLASS_KIND.true

pub returns-then-not-has_bit : goal.returns-then-not-has_bit
returns-then-not-has_bit c =
    let a = c.args in
    let k : a.wanted.kind ≡ 0 = omega (arith, c.if-wanted-eq-CLASS_KIND.false, c.if-wanted-ge-DOMAIN_KIND.false) in
    owns_not _ _ _ _ k _ (c.has_bit-2.ensures ∙ ap (λ (w : ℕ). bit w a.wanted.place) c.get-object.ensures) c.if-not-has_bit.true

pub returns : goal.returns
returns c =
    let a = c.args in
    let k : a.wanted.kind ≡ 0 = omega (arith, c.if-wanted-eq-CLASS_KIND.false, c.if-wanted-ge-DOMAIN_KIND.false) in
    c.has_bit-3.ensures ∙ ap (λ (w : ℕ). bit w a.wanted.place) c.get-class.ensures
    ∙ owns_object _ _ _ _ k _ (c.has_bit-2.ensures ∙ ap (λ (w : ℕ). bit w a.wanted.place) c.get-object.ensures) c.if-not-has_bit.false
