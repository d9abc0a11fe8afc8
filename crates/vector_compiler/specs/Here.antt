-- The fields of a class and the calls on its objects, by the class as the code holds it.
use Rattle.std.specs.Prelude.{ℕ, List}
use Rattle.model.specs.Word.{Name}
use Rattle.vector_direct.specs.Fields.{fields_in}
use Rattle.vector_compiler.specs.declared.body.Class.{Class}
use Rattle.vector_compiler.specs.Nodes.{Calls}

abbrev pub fields_of : Class → List Name
fields_of k = fields_in k.text.now k.tables.now k.number

abbrev pub CallsIn : Class → ℕ → ℕ → Type 0
CallsIn k = Calls k.text.now k.tables.now k.number
