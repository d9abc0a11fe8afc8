-- `is_when` meets its contract: the derived equality, keyword by keyword.
use Rattle.std.proofs.Common.{◌≡◌, refl, ◌∙◌}
use Rattle.std.specs.Prelude.{Option, Some, None}
use Rattle.std.specs.Option.{option_eq}
use Rattle.text_syntax.specs.declared.keyword.Keyword.{Keyword}
use Rattle.text_syntax.specs.declared.keyword.Keyword.TheVariants.{Class, Field, Method, End, Object, Set, Add, Send, Reply, When}
use Rattle.text_syntax.specs.contracts.keyword.KeywordPartialEq.TheImpl.{eq-value}
use Rattle.text_syntax.specs.Keywords.{said_keyword}
use Rattle.machine_statement.specs.Actions.{is_when}
use Rattle.machine_statement.proofs.line.is_when.Goals as goal

same_when : (k : Option Keyword) → option_eq eq-value.it k (Some When) ≡ is_when (said_keyword k)
same_when (Some Class) = refl
same_when (Some Field) = refl
same_when (Some Method) = refl
same_when (Some End) = refl
same_when (Some Object) = refl
same_when (Some Set) = refl
same_when (Some Add) = refl
same_when (Some Send) = refl
same_when (Some Reply) = refl
same_when (Some When) = refl
same_when None = refl

pub returns : goal.returns
returns c = c.eq.ensures ∙ same_when c.args.keyword
