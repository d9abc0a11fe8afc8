-- `object_line` meets its contract: cut to the text, the line has the same bytes.
use Rattle.read_classes.specs.Lines.{form_cut}
use Rattle.read_lines.proofs.object_line.Goals as goal

pub returns : goal.returns
returns c =
    λ line n k vs e. c.take_object.ensures line n k vs (form_cut _ _ _ c.clip.ensures.end c.clip.ensures.start e)
