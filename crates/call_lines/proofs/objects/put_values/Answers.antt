-- `put_values` meets its contract: at each turn the values before are written, at most 11 bytes each.
use native.Mathlib.Omega.{arith}
use mathlib.Core.List.{flat_map, map}
use Rattle.std.proofs.Common.{ℕ, ◌-◌, ◌<◌, ◌≡◌, List, [], ◌∷◌, ◌++◌, length, take, drop, sym, ap, subst, ◌∙◌, length-append, length-take, min, Iter}
use Rattle.std.proofs.lemmas.List.{map-append, take_rest, drop_min}
use Rattle.std.proofs.lemmas.Fn.{fronts}
use Rattle.std.proofs.lemmas.Iterator.{YieldsList, YieldsList-from_slice, YieldsList-from_take}
use Rattle.std.proofs.lemmas.Iterator.Consumers.{YieldsList-turn, YieldsList-end}
use Rattle.std.specs.Iterator.Adapters.{take_source, take_count, take_steps}
use Rattle.std.specs.Slice.Iter.{iter_rest}
use Rattle.std.specs.declared.iter.Take.{Take}
use Rattle.output.specs.Append.{appended_none, appended_then, appended_as}
use Rattle.output.specs.Digits.{digits_le}
use Rattle.call_lines.specs.Objects.{value_printed, values_push}
use Rattle.call_lines.proofs.objects.put_values.Goals as goal
use Rattle.call_lines.proofs.objects.put_values.Goals.{In-Some}

-- What the loop goes over: the values behind the front that is left out.
shown : (rest : List ℕ) (count : ℕ) {i : Iter ℕ} {t u : Take (Iter ℕ)} → iter_rest i ≡ rest → take_source t ≡ i → take_count t ≡ count → u ≡ t
    → YieldsList (take_steps fronts) (λ v. v.now) u (take count rest)
shown rest count {i} {t} {u} e f g h =
    let all : YieldsList fronts (λ v. v.now) (take_source t) rest = YieldsList-from_slice rest (ap iter_rest f ∙ e) in
    subst (λ z. YieldsList (take_steps fronts) (λ v. v.now) z (take count rest)) (sym h) (YieldsList-from_take count all g)

-- The values from `base` on; none where there are no more.
behind : (values : List ℕ) (base : ℕ) {m : ℕ} → m ≡ min base (length values) → take (length values - m) (drop m values) ≡ drop base values
behind values base {m} e = take_rest values m ∙ ap (λ n. drop n values) e ∙ drop_min base values

-- Fewer than 32 values are written before a turn.
few : (c : In-Some) → length c.loop-value.yielded < 32
few c =
    let a = c.args in
    let gives =
    shown (drop a.base a.values.now) a.count (c.iter.ensures.rest ∙ behind a.values.now a.base (omega (arith, c.min.ensures)))
    c.take-value-items.ensures.source (omega (arith, c.take-value-items.ensures.count)) c.into_iter-value-iterator.ensures.into_iter_gives in
    let turn = YieldsList-turn gives c.loop-value.yielded _ c.loop-value.yielded_by _ _ c.in-Some.value c.in-Some.is c.next.ensures.steps in
    omega (arith, turn.0, c.requires.0, length-take a.count (drop a.base a.values.now))

pub loop-value-init : goal.loop-value-init
unfolding flat_map
loop-value-init c = (omega arith, appended_none c.args.out.now c.args.at)

pub put_byte-end-requires : goal.put_byte-end-requires
put_byte-end-requires c = omega (arith, c.loop-value.invariant.0, few (goal.at.put_byte-end-requires c).In-Some)

pub put_digits-end-requires : goal.put_digits-end-requires
put_digits-end-requires c = omega (arith, c.loop-value.invariant.0, c.put_byte-end.ensures.behind, few (goal.at.put_digits-end-requires c).In-Some)

pub loop-value-preserved : goal.loop-value-preserved
loop-value-preserved c =
    let l = c.loop-value in
    let v = c.in-Some.value in
    let more : flat_map value_printed (map (λ v. v.now) (l.yielded ++ (v ∷ []))) ≡ flat_map value_printed (map (λ v. v.now) l.yielded) ++ value_printed v.now =
    ap (flat_map value_printed) (map-append (λ v. v.now) l.yielded (v ∷ [])) ∙ values_push (map (λ v. v.now) l.yielded) v.now in (
      omega (arith, l.invariant.0, c.put_byte-end.ensures.behind, c.put_digits-end.ensures.behind, digits_le 10 v.now, length-append l.yielded (v ∷ [])),
      appended_as (sym more) (appended_then l.invariant.1 (appended_then c.put_byte-end.ensures c.put_digits-end.ensures)),
    )

pub returns : goal.returns
returns c =
    let a = c.args in
    let gives =
    shown (drop a.base a.values.now) a.count (c.iter.ensures.rest ∙ behind a.values.now a.base (omega (arith, c.min.ensures)))
    c.take-value-items.ensures.source (omega (arith, c.take-value-items.ensures.count)) c.into_iter-value-iterator.ensures.into_iter_gives in
    let end = YieldsList-end gives c.loop-value.yielded _ c.loop-value.yielded_by _ _ c.in-None.is c.next.ensures.steps in
    appended_as (ap (flat_map value_printed) end.0) c.loop-value.invariant.1
