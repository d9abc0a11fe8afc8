-- `behind_send` meets its contract: each turn looks at one word, and what follows `send` stays the same.
use mathlib.Core.Path.{◌≡◌, sym, ap, ◌∙◌}
use mathlib.Core.Bool.{Bool, true, false}
use mathlib.Core.List.{List, ◌∷◌}
use Prim.Native.Nat.{ℕ}
use native.Mathlib.Omega.{arith}
use lib.ListN.{take}
use lib.Seq.{length-take-le}
use Rattle.model.specs.Text.{words}
use Rattle.text_lex.specs.Scan.{is_byte, before_le}
use Rattle.text_lex.specs.Piece.{first_piece}
use Rattle.text_lex.specs.Words.{left}
use Rattle.vector_direct.specs.Calls.{behind_send}
use Rattle.vector_direct.specs.Targets.{send_left, send_look, send_none}
use Rattle.vector_direct.proofs.behind_send.Goals as goal
use Rattle.vector_direct.proofs.behind_send.Goals.{After-same}

-- The line's first word, and those after it.
looked : (c : After-same) {t : Bool} → c.same.result ≡ t → send_left t (left c.words_after-words.result) ≡ behind_send (words c.args.line.now)
looked c e =
    let s = c.args.line.now in
    let n = c.word_end-first in
    send_look (take n.result s) (words s) (left c.words_after-words.result) _
    (first_piece 32 s n.result n.ensures ∙ ap (λ (ws : List (List ℕ)). take n.result s ∷ ws) (sym c.words_after-words.ensures))
    (sym e ∙ c.same.ensures)

pub slice_bounds-same-end : goal.slice_bounds-same-end
slice_bounds-same-end c =
    let e = c.word_end-first in
    let s = c.args.line.now in
    sym (length-take-le e.result s (omega (arith, e.ensures, before_le (is_byte 32) s)))

pub returns-then-same : goal.returns-then-same
returns-then-same c = looked (goal.at.returns-then-same c).After-same c.if-same.true

pub loop-word-init : goal.loop-word-init
loop-word-init c = record { can = tt; ends = tt; same = looked (goal.at.loop-word-init c).After-same c.if-same.false }

pub returns-then-same-2 : goal.returns-then-same-2
returns-then-same-2 c = send_look _ _ _ true c.in-Some.ensures.steps c.if-same-2.ensures ∙ c.loop-word.invariant.same

pub loop-word-preserved : goal.loop-word-preserved
loop-word-preserved c = record {
  can = tt;
  ends = tt;
  same = send_look _ _ _ false c.in-Some.ensures.steps c.if-same-2.ensures ∙ c.loop-word.invariant.same;
}

pub returns : goal.returns
returns c = let s = c.in_default.ensures.steps in s.1 ∙ send_none _ s.0 ∙ c.loop-word.invariant.same
