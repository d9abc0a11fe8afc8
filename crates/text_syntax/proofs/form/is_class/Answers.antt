-- `is_class` meets its contract: its words one after the other, each found after the end of the one before.
use mathlib.Core.Path.{refl, ap, ◌∙◌}
use Prim.Native.Nat.{ℕ}
use mathlib.Core.List.{List}
use Rattle.model.specs.Base.{bytes, same}
use Rattle.model.specs.Word.{is_name}
use Rattle.text_lex.specs.Tests.{◌and◌, ◌or◌}
use Rattle.text_lex.specs.Piece.{first, behind, at_end}
use Rattle.text_syntax.specs.Kinds.{are_names, is_class}
use Rattle.text_syntax.proofs.form.is_class.Goals as goal

pub returns : goal.returns
unfolding is_class
returns c =
    let e2 = c.word_end_after-colon in
    let e1 = c.word_end_after-name in
    let a = c.args in
    let s = a.line.now in
    let b1 = behind 32 s a.at e1.result e1.ensures refl in
    let b2 = behind 32 s e1.result e2.result e2.ensures b1 in
    (c.is_name.ensures ∙ ap is_name c.word_after.ensures)
    and (at_end 32 s e1.result b1
    or (c.same.ensures ∙ ap (λ (w : List ℕ). same w (bytes ":")) (c.word_after-2.ensures ∙ ap first b1))
    and (c.are_names.ensures ∙ ap are_names b2))
