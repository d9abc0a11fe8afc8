-- `read_classes::method_line` meets its contract: cut to the text, the line has the same bytes.
use Rattle.read_classes.specs.Lines.{form_cut}
use Rattle.read_classes.proofs.method_line.Goals as goal

pub returns : goal.returns
returns c =
    λ line n e. c.take_method.ensures line n (form_cut _ _ _ c.clip.ensures.end c.clip.ensures.start e)
