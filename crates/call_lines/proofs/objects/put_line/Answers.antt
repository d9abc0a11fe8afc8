-- `put_line` meets its contract: name, values and LF, at most 384 bytes.
use Prim.Native.Nat.{ℕ}
use native.Mathlib.Omega.{arith}
use mathlib.Core.Path.{ap, ◌∙◌}
use mathlib.Core.List.{◌++◌, flat_map}
use lib.ListN.{length, take, drop}
use Rattle.model.specs.Base.{bytes}
use Rattle.catalog.specs.View.{name_of}
use Rattle.catalog.specs.Look.{shown_count, shown_le}
use Rattle.output.specs.Append.{appended_then, appended_as}
use Rattle.call_lines.specs.Objects.{value_printed, object_printed, name_few, printed_few}
use Rattle.call_lines.proofs.objects.put_line.Goals as goal

pub put_bytes-end-requires : goal.put_bytes-end-requires
put_bytes-end-requires c = omega (arith, ap length c.name_of.ensures, name_few c.args.text.now c.object_word-word.result)

pub put_values-end-requires : goal.put_values-end-requires
put_values-end-requires c =
    let a = c.args in (
      omega (arith, c.shown_count-count.ensures, shown_le a.tables.now c.class_of.result 0),
      c.requires.0,
      omega (arith, c.put_bytes-end.ensures.behind, ap length c.name_of.ensures, name_few a.text.now c.object_word-word.result),
    )

pub put_byte-requires : goal.put_byte-requires
put_byte-requires c =
    let a = c.args in
    omega (
      arith,
      c.put_bytes-end.ensures.behind,
      ap length c.name_of.ensures,
      name_few a.text.now c.object_word-word.result,
      c.put_values-end.ensures.behind,
      printed_few (drop a.base a.values.now) c.shown_count-count.result (omega (arith, c.shown_count-count.ensures, shown_le a.tables.now c.class_of.result 0)),
    )

pub returns : goal.returns
unfolding object_printed
returns c =
    let a = c.args in
    let name = c.name_of.ensures ∙ ap (name_of a.text.now) c.object_word-word.ensures in
    let count = c.shown_count-count.ensures ∙ ap (λ (k : ℕ). shown_count a.tables.now k 0) c.class_of.ensures in
    appended_as (λ i. name i ++ (flat_map value_printed (take (count i) (drop a.base a.values.now)) ++ bytes "\n"))
    (appended_then c.put_bytes-end.ensures (appended_then c.put_values-end.ensures c.put_byte.ensures))
