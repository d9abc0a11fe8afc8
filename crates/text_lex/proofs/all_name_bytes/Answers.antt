-- `text_lex::all_name_bytes` meets its contract: at each turn the bytes left may all stand in a name iff all may.
use mathlib.Core.Path.{sym, ◌∙◌}
use native.Mathlib.Omega.{arith}
use Rattle.model.specs.Word.{is_name_byte}
use Rattle.text_lex.proofs.ListLaws.{every_end, every_stop, every_more}
use Rattle.text_lex.proofs.all_name_bytes.Goals as goal

pub returns-then-not-is_name_byte : goal.returns-then-not-is_name_byte
returns-then-not-is_name_byte c =
    let e = sym c.is_name_byte.ensures ∙ c.if-not-is_name_byte.true in
    sym (every_stop is_name_byte c.args.bytes.now c.loop-byte.byte-index (omega arith) e) ∙ c.loop-byte.invariant

pub loop-byte-preserved : goal.loop-byte-preserved
loop-byte-preserved c =
    let e = sym c.is_name_byte.ensures ∙ c.if-not-is_name_byte.false in
    sym (every_more is_name_byte c.args.bytes.now c.loop-byte.byte-index (omega arith) e) ∙ c.loop-byte.invariant

pub returns : goal.returns
returns c =
    sym (every_end is_name_byte c.args.bytes.now c.loop-byte.byte-index (omega arith)) ∙ c.loop-byte.invariant
