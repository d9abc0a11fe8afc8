-- `write_image` meets its contract: the pairs and the four parts, one after the other, from the front on.
use native.Mathlib.Omega.{arith}
use Rattle.catalog.specs.View.{class_count}
use Rattle.image.specs.Written.{image_from, masks_from, commute_from}
use Rattle.output.specs.Append.{appended_then, appended_as, appended_over}
use Rattle.image.specs.Sizes.{total_methods_le, places_length, masks_length, commute_length, image_pairs}
use Rattle.image.proofs.write_image.Goals as goal

pub put_pairs-at-requires : goal.put_pairs-at-requires
put_pairs-at-requires c =
    let ws = c.args.tables.now in
    (omega (arith, c.statement_count.ensures), omega (arith, c.method_count.ensures, total_methods_le ws (class_count ws)))

pub put_classes-at-requires : goal.put_classes-at-requires
put_classes-at-requires c =
    let ws = c.args.tables.now in
    omega (arith, c.put_pairs-at.ensures.behind, c.put_places-at.ensures.behind, places_length ws)

pub put_classes-at-requires-2 : goal.put_classes-at-requires-2
unfolding masks_from
put_classes-at-requires-2 c =
    let ws = c.args.tables.now in
    omega (arith, c.put_pairs-at.ensures.behind, c.put_places-at.ensures.behind, c.put_classes-at.ensures.behind, places_length ws, masks_length ws, total_methods_le ws (class_count ws))

pub put_classes-requires : goal.put_classes-requires
unfolding masks_from commute_from
put_classes-requires c =
    let ws = c.args.tables.now in
    omega
    (arith, c.put_pairs-at.ensures.behind, c.put_places-at.ensures.behind, c.put_classes-at.ensures.behind, c.put_classes-at-2.ensures.behind, places_length ws, masks_length ws, commute_length ws, total_methods_le ws (class_count ws))

pub returns : goal.returns
unfolding image_from
returns c =
    let ws = c.args.tables.now in
    appended_over
    (appended_then
    (appended_then
    (appended_then
    (appended_then
    (appended_as (image_pairs ws c.statement_count.result c.method_count.result c.statement_count.ensures c.method_count.ensures) c.put_pairs-at.ensures)
    c.put_places-at.ensures)
    c.put_classes-at.ensures)
    c.put_classes-at-2.ensures)
    c.put_classes.ensures)
