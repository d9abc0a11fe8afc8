-- `put_values` meets its contract: at each turn the values of the fields before are written, and `place` is where their words end.
use Prim.Native.Nat.{ℕ}
use mathlib.Core.Path.{◌≡◌, refl, sym, ap, ◌∙◌}
use mathlib.Core.List.{[], ◌∷◌, ◌++◌}
use native.Mathlib.Omega.{arith}
use Rattle.layout.specs.Layout.{object_class_at, object_line_at}
use Rattle.model.specs.Base.{upto}
use Rattle.text_lex.specs.Piece.{words_after}
use Rattle.text_lex.specs.Words.{left}
use Rattle.catalog.specs.View.{part_of, value_of, object_word}
use Rattle.laws.specs.Upto.{upto_more}
use Rattle.catalog.specs.Look.{shown_count}
use Rattle.output.specs.Append.{appended_then, appended_as}
use Rattle.image.specs.Sizes.{shown_le}
use Rattle.image.specs.Values.{values_counted, word_at, words_behind}
use Rattle.image.proofs.value.put_values.Goals as goal
use Rattle.image.proofs.value.put_values.Invariants.{saidIn}

pub overflow_add-at : goal.overflow_add-at
overflow_add-at c = omega (arith, c.shown_count-count.ensures, shown_le c.args.tables.now c.class_of.result 0)

pub overflow_add-result : goal.overflow_add-result
overflow_add-result c = omega (arith, c.shown_count-count.ensures, shown_le c.args.tables.now c.class_of.result 0)

pub loop-field-init : goal.loop-field-init
unfolding upto
loop-field-init c = (refl, record { stored = refl; behind = omega arith })

pub loop-field-preserved : goal.loop-field-preserved
loop-field-preserved c =
    let l = c.loop-field in
    let ws = left c.words_after-words.result in
    let word = c.unwrap_or-word in
    let e : c.value_of.result ≡ saidIn ws l.field =
    c.value_of.ensures ∙ ap value_of (ap (λ w. w.now) word.ensures ∙ word_at ws l.field c.next.result l.words c.next.new.self l.invariant.0 c.next.ensures.steps _ refl) in (
      words_behind ws l.field c.next.result l.words c.next.new.self l.invariant.0 c.next.ensures.steps,
      appended_as (ap (λ (x : ℕ). upto (saidIn ws) l.field ++ (x ∷ [])) e ∙ sym (upto_more (saidIn ws) l.field))
          (appended_then l.invariant.1 (record { stored = c.put.ensures; behind = omega arith })),
    )

pub returns : goal.returns
returns c =
    let a = c.args in
    let text = a.text.now in
    let ws = a.tables.now in
    let count : c.loop-field.field ≡ shown_count ws (object_word ws a.object object_class_at) 0 =
    omega (arith, c.shown_count-count.ensures ∙ ap (λ (k : ℕ). shown_count ws k 0) c.class_of.ensures) in
    let line : c.part_of-line.result.now ≡ part_of text (object_word ws a.object object_line_at) = c.part_of-line.ensures ∙ ap (part_of text) c.object_word.ensures in
    let words : left c.words_after-words.result ≡ words_after (part_of text (object_word ws a.object object_line_at)) = c.words_after-words.ensures ∙ ap words_after line in
    let all = appended_as ((λ i. upto (saidIn (words i)) (count i)) ∙ values_counted text ws a.object) c.loop-field.invariant.1 in
    record { stored = all.stored; behind = omega (arith, all.behind) }
