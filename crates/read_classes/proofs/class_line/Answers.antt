-- `read_classes::class_line` meets its contract: cut to the text, the line has the same bytes.
use Rattle.read_classes.specs.Lines.{form_cut}
use Rattle.read_classes.proofs.class_line.Goals as goal

pub returns : goal.returns
returns c =
    λ line n ps e. c.take_class.ensures line n ps (form_cut _ _ _ c.clip.ensures.end c.clip.ensures.start e)
