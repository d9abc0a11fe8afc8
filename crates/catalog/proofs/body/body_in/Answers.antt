-- `body_in` meets its contract: the method's place in the class that defines it, where its body's word holds the rest.
use native.Mathlib.Omega.{arith}
use mathlib.Core.Path.{◌∙◌}
use Rattle.catalog.specs.Bodies.{body_there, body_none, body_missing, body_missing_in}
use Rattle.catalog.proofs.body.body_in.Goals as goal

pub returns-in_err-found : goal.returns-in_err-found
returns-in_err-found c = c.from_residual.ensures ∙ body_missing _ _ _ _ c.in_err-found.ensures

pub returns-in_err-place : goal.returns-in_err-place
returns-in_err-place c =
    c.from_residual-in_err-place.ensures
    ∙ body_missing_in _ _ _ _ _ c.in_ok-found.ensures.0 _ c.origin_at-origin.ensures c.in_err-place.ensures

pub returns-then-place-shown_count : goal.returns-then-place-shown_count
returns-then-place-shown_count c =
    body_there _ _ _ _ _ _ c.in_ok-found.ensures.0 c.origin_at-origin.ensures _ c.in_ok-place.ensures.0
    _ (c.body_of.ensures _) (omega (arith, c.shown_count.ensures))

pub returns-else-place-shown_count : goal.returns-else-place-shown_count
returns-else-place-shown_count c =
    body_none _ _ _ _ _ _ c.in_ok-found.ensures.0 c.origin_at-origin.ensures _ c.in_ok-place.ensures.0
    (omega (arith, c.shown_count.ensures))
