-- The vertex that a line calls, by its words, and the numbers of vertices.
use Rattle.std.specs.Prelude.{ℕ, ◌+◌, ◌*◌, ◌≡◌, refl, Bool, true, false, cond}
use Rattle.std.proofs.Common.{sym, subst, ◌∙◌, true≢false}
use Rattle.std.proofs.Math.Path.{ap}
use mathlib.Core.List.{List, [], ◌∷◌}
use Rattle.model.specs.Base.{bytes, same}
use Rattle.model.specs.Text.{pieces}
use Rattle.model.specs.Word.{Name, is_name}
use Rattle.model.specs.Expression.{Expression, Token, operator, leaf, neither, token_of, parsed, expression}
use Rattle.model.specs.Form.{Action, Statement}
use Rattle.model.specs.Library.{Library, class_at, member_place, among, class_number}
use Rattle.model.specs.Graph.{Node, callee}
use Rattle.laws.specs.Lists.{same_sound}
use Rattle.text_syntax.specs.Spelling.{change_no_send, ActionWords, assigns, sends, sends_prefixed, replies, StatementWords, bare, guarded}
use Rattle.text_syntax.specs.Expressions.{no_token, Taken, Walked, walked}

-- A vertex's number: 32 for each class before its own, plus the place of its method there; 512 where there is no such method.
unfoldable pub number_of : Library → Node → ℕ
unfolding among member_place
number_of l v =
    let methods = (class_at l v.class).methods in
    cond (among methods v.method) (v.class * 32 + member_place methods v.method) 512

-- The number of the one vertex that an action calls; 512 where it calls none.
abbrev pub number_in : Library → List Node → ℕ
number_in l [] = 512
number_in l (v ∷ vs) = number_of l v

-- The words after the first `send`; none where there is no `send`.
unfoldable pub behind_send : List (List ℕ) → List (List ℕ)
unfolding same
behind_send [] = []
behind_send (w ∷ ws) = cond (same w (bytes "send")) ws (behind_send ws)

-- The vertex that `M` or `C.M`, cut at its points, names on an object of class c.
abbrev pub target_in : Library → ℕ → List Name → Node
target_in l c [] = record { class = c; method = [] }
target_in l c (m ∷ []) = record { class = c; method = m }
target_in l c (d ∷ m ∷ ns) = record { class = class_number l d; method = m }

abbrev pub called_behind : Library → ℕ → List (List ℕ) → List Node
called_behind l c [] = []
called_behind l c (target ∷ ws) = target_in l c (pieces 46 target) ∷ []

-- ---- an expression sends nothing

taken : (w : List ℕ) (t : Token) → token_of w ≡ t → Taken behind_send (λ e ws. ws) w t
unfolding behind_send token_of
taken w (operator o) e = λ ws. rw (no_token (bytes "send") refl w (operator o) e tt)
taken w (leaf x) e = λ ws. rw (no_token (bytes "send") refl w (leaf x) e tt)
taken w neither e = tt

behind : (ws : List (List ℕ)) (e : Expression) (rest : List (List ℕ)) → expression ws ≡ parsed e rest → behind_send ws ≡ behind_send rest
behind ws e rest q = subst (Walked behind_send (λ x vs. vs) ws) q (walked behind_send (λ x vs. vs) (λ w. taken w (token_of w) refl) (λ o a b x. refl) 9 ws)

name_apart : (g : Name) → is_name g ≡ true → same g (bytes "send") ≡ false
unfolding is_name
name_apart g n = go (same g (bytes "send")) refl
  where
    go : (b : Bool) → same g (bytes "send") ≡ b → same g (bytes "send") ≡ false
    go true r = absurd (true≢false (sym n ∙ ap is_name (same_sound g (bytes "send") r)))
    go false r = r

module _ (l : Library) (c : ℕ) where
  action_calls : {ws : List (List ℕ)} {a : Action} → ActionWords ws a → called_behind l c (behind_send ws) ≡ callee l c a
  unfolding behind_send same callee
  action_calls (assigns how g ws e n q) = rw (change_no_send how, name_apart g n) (ap (called_behind l c) (behind ws e [] q))
  action_calls (sends target m ws e h q) = ap (λ (ps : List Name). target_in l c ps ∷ []) h
  action_calls (sends_prefixed target d m ws e h q) = ap (λ (ps : List Name). target_in l c ps ∷ []) h
  action_calls (replies ws e q) = ap (called_behind l c) (behind ws e [] q)

  -- The vertex that the statement of a line calls.
  pub called : {ws : List (List ℕ)} {s : Statement} → StatementWords ws s → called_behind l c (behind_send ws) ≡ callee l c s.action
  unfolding behind_send same
  called (bare h) = action_calls h
  called (guarded {ws} {rest} {e} {a} q h) = ap (called_behind l c) (behind ws e rest q) ∙ action_calls h
