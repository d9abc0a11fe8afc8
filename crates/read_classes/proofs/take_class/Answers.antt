-- `read_classes::take_class` meets its contract: in a line of that form the name follows the first word, and the parents the third.
use mathlib.Core.Path.{ap, ◌∙◌}
use native.Mathlib.Omega.{arith}
use Rattle.text_lex.specs.Scan.{is_byte, before_le}
use Rattle.catalog.specs.View.{name_of, library_of}
use Rattle.read_classes.specs.Lines.{line_of, class_name, class_parents}
use Rattle.read_classes.proofs.ClassLaws.{end_after_within, took_named}
use Rattle.read_classes.proofs.take_class.Goals as goal

pub slice_bounds-add_class-count : goal.slice_bounds-add_class-count
slice_bounds-add_class-count c =
    let q = c.word_end_after-behind in
    let p = c.word_end_after-name_end in
    let s = line_of c.args.text.now c.args.place.now.start c.args.place.now.end in
    end_after_within s p.result q.result q.ensures
    (end_after_within s c.word_end.result p.result p.ensures (omega (arith, c.word_end.ensures, before_le (is_byte 32) s)))

pub slice_bounds-add_class-start : goal.slice_bounds-add_class-start
slice_bounds-add_class-start c =
    let q = c.word_end_after-behind in
    let p = c.word_end_after-name_end in
    let s = line_of c.args.text.now c.args.place.now.start c.args.place.now.end in
    end_after_within s p.result q.result q.ensures
    (end_after_within s c.word_end.result p.result p.ensures (omega (arith, c.word_end.ensures, before_le (is_byte 32) s)))

pub returns : goal.returns
returns c =
    let q = c.word_end_after-behind in
    let p = c.word_end_after-name_end in
    let a = c.args in
    λ line n ps e.
    took_named (library_of a.text.now a.tables.now) line
    (ap (name_of a.text.now) c.name_behind-word.ensures ∙ class_name a.text.now a.place.now.start a.place.now.end c.requires.order c.requires.within c.requires.small n 0 ps e)
    (class_parents a.text.now a.place.now.start a.place.now.end c.requires.order c.requires.within n ps c.word_end.result p.result q.result e
    c.word_end.ensures p.ensures q.ensures)
    (c.add_class.ensures line)
