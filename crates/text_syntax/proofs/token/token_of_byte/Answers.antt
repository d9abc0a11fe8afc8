-- `token_of_byte` meets its contract: for an operator by computation; any other byte is a letter, a digit or neither.
use Prim.Native.Nat.{ℕ}
use mathlib.Core.Path.{◌≡◌, ap, ◌∙◌}
use mathlib.Core.List.{[], ◌∷◌}
use native.Mathlib.Omega.{arith}
use Rattle.model.specs.Expression.{leaf, number, token_of}
use Rattle.text_syntax.proofs.TokenLaws.{inside, below, above, byte_leaf, alone}
use Rattle.text_syntax.proofs.token.token_of_byte.Goals as goal

pub returns-in-43 : goal.returns-in-43
unfolding token_of
returns-in-43 c = rw c.in-43.is

pub returns-in-45 : goal.returns-in-45
unfolding token_of
returns-in-45 c = rw c.in-45.is

pub returns-in-42 : goal.returns-in-42
unfolding token_of
returns-in-42 c = rw c.in-42.is

pub returns-in-60 : goal.returns-in-60
unfolding token_of
returns-in-60 c = rw c.in-60.is

pub returns-in-61 : goal.returns-in-61
unfolding token_of
returns-in-61 c = rw c.in-61.is

pub returns-in-48-to-57 : goal.returns-in-48-to-57
returns-in-48-to-57 c =
    let b = c.args.byte in
    ap (λ (n : ℕ). leaf (number n)) c.from.ensures
    ∙ rw (below 97 122 b (omega arith), inside 48 57 b (omega arith) (omega arith)) at ((let known : byte_leaf c.args.byte ≡ token_of (c.args.byte ∷ []) = let r = c.in-48-to-57.in_default-own.rest in alone c.args.byte r.0.0.0.0.1 r.0.0.0.1 r.0.0.1 r.0.1 r.1 in known))

pub returns-in-97-to-122 : goal.returns-in-97-to-122
returns-in-97-to-122 c =
    let b = c.args.byte in
    rw (inside 97 122 b (omega arith) (omega arith)) at ((let known : byte_leaf c.args.byte ≡ token_of (c.args.byte ∷ []) = let r = c.in-97-to-122.in_default-own.rest in alone c.args.byte r.0.0.0.0.1 r.0.0.0.1 r.0.0.1 r.0.1 r.1 in known))

pub returns-in_default : goal.returns-in_default
returns-in_default c =
    let b = c.args.byte in
    rw (below 97 122 b (omega arith), below 48 57 b (omega arith)) at ((let known : byte_leaf c.args.byte ≡ token_of (c.args.byte ∷ []) = let r = c.in_default.in_default-own.rest in alone c.args.byte r.0.0.0.0.1 r.0.0.0.1 r.0.0.1 r.0.1 r.1 in known))

pub returns-in_default-2 : goal.returns-in_default-2
returns-in_default-2 c =
    let b = c.args.byte in
    rw (below 97 122 b (omega arith), above 48 57 b (omega arith)) at ((let known : byte_leaf c.args.byte ≡ token_of (c.args.byte ∷ []) = let r = c.in_default.in_default-own.rest in alone c.args.byte r.0.0.0.0.1 r.0.0.0.1 r.0.0.1 r.0.1 r.1 in known))

pub returns-in_default-3 : goal.returns-in_default-3
returns-in_default-3 c =
    let b = c.args.byte in
    rw (above 97 122 b (omega arith), above 48 57 b (omega arith)) at ((let known : byte_leaf c.args.byte ≡ token_of (c.args.byte ∷ []) = let r = c.in_default.in_default-own.rest in alone c.args.byte r.0.0.0.0.1 r.0.0.0.1 r.0.0.1 r.0.1 r.1 in known))
