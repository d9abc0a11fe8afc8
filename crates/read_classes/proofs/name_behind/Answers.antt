-- `read_classes::name_behind` meets its contract: the name follows the end of the first word, counted from the line's place.
use mathlib.Core.Path.{◌∙◌}
use native.Mathlib.Omega.{arith}
use Rattle.text_lex.specs.Scan.{is_byte, before_le}
use Rattle.read_classes.specs.Lines.{line_of, line_length, line_word_law}
use Rattle.read_classes.proofs.name_behind.Goals as goal

pub overflow_add-place : goal.overflow_add-place
overflow_add-place c =
    let a = c.args in
    let l = line_length a.text.now a.place.now.start a.place.now.end c.requires.at_le_end c.requires.end_in_bounds in
    omega (arith, c.word_end-from.ensures, before_le (is_byte 32) (line_of a.text.now a.place.now.start a.place.now.end))

pub overflow_add-place-2 : goal.overflow_add-place-2
overflow_add-place-2 c =
    let a = c.args in
    let l = line_length a.text.now a.place.now.start a.place.now.end c.requires.at_le_end c.requires.end_in_bounds in
    omega (arith, c.word_end-from.ensures, before_le (is_byte 32) (line_of a.text.now a.place.now.start a.place.now.end))

pub returns : goal.returns
returns c =
    let a = c.args in
    let n = c.word_after-size in
    c.name_word.ensures ∙ line_word_law a.text.now a.place.now.start a.place.now.end a.class c.word_end-from.result n.result.now c.word_end-from.ensures n.ensures
