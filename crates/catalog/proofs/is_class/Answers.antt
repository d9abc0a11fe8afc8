-- `catalog::is_class` meets its contract: a name is known exactly if its number is below the number of classes.
use mathlib.Core.Path.{sym, ap₂, ◌∙◌}
use lib.Dec.{ltb}
use Rattle.catalog.specs.Look.{is_class_law}
use Rattle.catalog.proofs.is_class.Goals as goal

pub returns : goal.returns
returns c =
    let a = c.args in
    ap₂ ltb c.class_number.ensures c.class_count.ensures ∙ sym (is_class_law a.text.now a.tables.now a.name.now)
