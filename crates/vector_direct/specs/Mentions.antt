-- The fields that a line mentions, by its words, and that they are those which its statement depends on and changes.
use Rattle.std.specs.Prelude.{ℕ, ◌≡◌, Bool, true, false, not, cond, ◌&&◌}
use Rattle.std.proofs.Math.Path.{refl, sym, ap, ap₂}
use Rattle.std.proofs.Common.{subst, ◌∙◌, true≢false}
use Rattle.std.proofs.Math.Bool.{◌||◌, and-true, and-false, or-false, or_assoc}
use mathlib.Core.List.{List, [], ◌∷◌}
use Rattle.model.specs.Base.{bytes, same}
use Rattle.model.specs.Word.{Name, is_name}
use Rattle.model.specs.Expression.{Operator, Expression, number, field, argument, got, apply, Token, operator, leaf, neither, token_of, parsed, expression}
use Rattle.model.specs.Form.{Change, replace, increase, Action, Statement}
use Rattle.model.specs.Mode.{Mode, Null, Read, Add, Write, depends, changes, join}
use Rattle.model.specs.Vector.{mention, mode_of, in_expression, in_action, in_statement}
use Rattle.laws.specs.Lists.{same_sound}
use Rattle.laws.specs.Modes.{depends_join, changes_join}
use Rattle.text_lex.specs.Piece.{first, others}
use Rattle.text_syntax.specs.Spelling.{change_word, change_no_name, ActionWords, assigns, sends, sends_prefixed, replies, StatementWords, bare, guarded}
use Rattle.text_syntax.specs.Expressions.{Named, named, IsToken, no_token, Taken, Walked, walked}

-- Whether the word after this one counts: as usual, and the opposite after the keyword and after `add`.
abbrev pub counts : List ℕ → Bool → List ℕ → Bool
counts keyword usual w = cond (same w keyword || same w (bytes "add")) (not usual) usual

-- Whether some word that counts is the name f; `on` tells whether the first word counts.
unfoldable pub mentions : List ℕ → Bool → Name → Bool → List (List ℕ) → Bool
unfolding same is_name
mentions keyword usual f on [] = false
mentions keyword usual f on (w ∷ ws) = (on && is_name w && same f w) || mentions keyword usual f (counts keyword usual w) ws

-- The same for the words after the first.
abbrev pub mentions_behind : List ℕ → Bool → List (List ℕ) → Name → Bool
mentions_behind keyword usual ws f = mentions keyword usual f (counts keyword usual (first ws)) (others ws)

-- A test of modes, and the words that decide it: a name counts as usual, but never after `send`, and after `set` and `add` as the
-- test answers for Write and Add.
pub record Test (p : Mode → Bool) (keyword : List ℕ) (usual : Bool) : Type 0 where
  pub null : p Null ≡ false
  pub read : p Read ≡ usual
  pub joined : (a b : Mode) → p (join a b) ≡ p a || p b
  pub no_name : is_name keyword ≡ false
  pub no_word : token_of keyword ≡ neither
  pub set : counts keyword usual (bytes "set") ≡ p Write
  pub add : counts keyword usual (bytes "add") ≡ p Add
  pub send : counts keyword usual (bytes "send") ≡ false
  pub reply : counts keyword usual (bytes "reply") ≡ usual
  pub guard : counts keyword usual (bytes "when") ≡ usual
  pub to : counts keyword usual (bytes "to") ≡ usual
  pub self : counts keyword usual (bytes "self") ≡ usual

-- A field is depended on where it is named, except after `send` and `add`.
pub depends_test : Test depends (bytes "send") true
unfolding same is_name token_of
depends_test = record {
  null = refl;
  read = refl;
  joined = depends_join;
  no_name = refl;
  no_word = refl;
  set = refl;
  add = refl;
  send = refl;
  reply = refl;
  guard = refl;
  to = refl;
  self = refl;
}

-- A field is changed where it follows `set` or `add`.
pub changes_test : Test changes (bytes "set") false
unfolding same is_name token_of
changes_test = record {
  null = refl;
  read = refl;
  joined = changes_join;
  no_name = refl;
  no_word = refl;
  set = refl;
  add = refl;
  send = refl;
  reply = refl;
  guard = refl;
  to = refl;
  self = refl;
}

module _ {p : Mode → Bool} {keyword : List ℕ} {usual : Bool} (test : Test p keyword usual) (f : Name) where
  abbrev at : Bool → List (List ℕ) → Bool
  at on ws = mentions keyword usual f on ws

  abbrev found : Expression → Bool → Bool
  found e rest = p (in_expression f e) || rest

  -- A word that is not a name is passed over.
  pass : (on : Bool) (w : List ℕ) (ws : List (List ℕ)) → is_name w ≡ false → at on (w ∷ ws) ≡ at (counts keyword usual w) ws
  unfolding mentions
  pass on w ws e = rw (e, and-false on)

  chosen : (m : Mode) (b : Bool) → p (cond b m Null) ≡ p m && b
  chosen m true = sym (and-true (p m))
  chosen m false = test.null ∙ sym (and-false (p m))

  -- After a word that is neither the keyword nor `add`, words count as usual.
  as_usual : (w : List ℕ) (ws : List (List ℕ)) → same w keyword || same w (bytes "add") ≡ false → at (counts keyword usual w) ws ≡ at usual ws
  as_usual w ws e = ap (λ (b : Bool). at (cond b (not usual) usual) ws) e

  nothing : (e : Expression) (w : List ℕ) (ws : List (List ℕ)) → in_expression f e ≡ Null → is_name w ≡ false → same w keyword || same w (bytes "add") ≡ false
      → at usual (w ∷ ws) ≡ found e (at usual ws)
  nothing e w ws h n k = pass usual w ws n ∙ as_usual w ws k ∙ sym (ap (λ (m : Mode). p m || at usual ws) h ∙ ap (λ (b : Bool). b || at usual ws) test.null)

  apart : (w : List ℕ) (t : Token) → token_of w ≡ t → IsToken t → same w keyword || same w (bytes "add") ≡ false
  unfolding token_of
  apart w t e h = ap₂ ◌||◌ (no_token keyword test.no_word w t e h) (no_token (bytes "add") refl w t e h)

  taken : (w : List ℕ) (t : Token) → token_of w ≡ t → Named w t → Taken (at usual) found w t
  unfolding mentions in_expression
  taken w (operator o) e n = λ ws. pass usual w ws n ∙ as_usual w ws (apart w (operator o) e tt)
  taken w (leaf (number k)) e n = λ ws. nothing (number k) w ws refl n (apart w (leaf (number k)) e tt)
  taken w (leaf (field g)) e n = λ ws.
      ap₂ ◌||◌
      (ap (λ (b : Bool). usual && b && same f w) n.0 ∙ ap (λ (b : Bool). b && same f w) (and-true usual ∙ sym test.read)
      ∙ sym (chosen Read (same f w)) ∙ ap (λ (v : Name). p (mention Read f v)) (sym n.1))
      (as_usual w ws (apart w (leaf (field g)) e tt))
  taken w (leaf argument) e n = λ ws. nothing argument w ws refl n (apart w (leaf argument) e tt)
  taken w (leaf got) e n = λ ws. nothing got w ws refl n (apart w (leaf got) e tt)
  taken w (leaf (apply o a b)) e n = absurd n
  taken w neither e n = tt

  two : (o : Operator) (a b : Expression) (x : Bool) → found (apply o a b) x ≡ found a (found b x)
  unfolding in_expression
  two o a b x = ap (λ (t : Bool). t || x) (test.joined (in_expression f a) (in_expression f b)) ∙ or_assoc (p (in_expression f a)) (p (in_expression f b)) x

  -- The words of an expression, and those after it.
  behind : (ws : List (List ℕ)) (e : Expression) (rest : List (List ℕ)) → expression ws ≡ parsed e rest → at usual ws ≡ p (in_expression f e) || at usual rest
  behind ws e rest q = subst (Walked (at usual) found ws) q (walked (at usual) found (λ w. taken w (token_of w) refl (named w)) two 9 ws)

  alone : (ws : List (List ℕ)) (e : Expression) → expression ws ≡ parsed e [] → at usual ws ≡ p (in_expression f e)
  unfolding mentions
  alone ws e q = behind ws e [] q ∙ or-false (p (in_expression f e))

  name_apart : (g k : List ℕ) → is_name g ≡ true → is_name k ≡ false → same g k ≡ false
  name_apart g k n h = go (same g k) refl
    where
      go : (b : Bool) → same g k ≡ b → same g k ≡ false
      go true r = absurd (true≢false (sym n ∙ ap is_name (same_sound g k r) ∙ h))
      go false r = r

  -- An action begins with a word that is not a name, so it does not matter whether that word counts.
  sent : (on : Bool) (target : List ℕ) (ws : List (List ℕ)) (e : Expression) → expression ws ≡ parsed e []
      → at on (bytes "send" ∷ target ∷ bytes "to" ∷ bytes "self" ∷ ws) ≡ p (in_expression f e)
  unfolding mentions is_name
  sent on target ws e q =
      let there = bytes "to" ∷ bytes "self" ∷ ws in
      pass on (bytes "send") (target ∷ there) refl
      ∙ ap (λ (b : Bool). at b (target ∷ there)) test.send
      ∙ pass (counts keyword usual target) (bytes "to") (bytes "self" ∷ ws) refl
      ∙ ap (λ (b : Bool). at b (bytes "self" ∷ ws)) test.to
      ∙ pass usual (bytes "self") ws refl
      ∙ ap (λ (b : Bool). at b ws) test.self
      ∙ alone ws e q

  -- After the keyword of a change a name counts as the test answers for the change's mode.
  after_change : (how : Change) → counts keyword usual (change_word how) ≡ p (mode_of how)
  after_change replace = test.set
  after_change increase = test.add

  action_mentions : (on : Bool) {ws : List (List ℕ)} {a : Action} → ActionWords ws a → at on ws ≡ p (in_action f a)
  unfolding mentions in_action is_name
  action_mentions on (assigns how g ws e n q) =
      let m = mode_of how in
      pass on (change_word how) (g ∷ ws) (change_no_name how)
      ∙ ap (λ (b : Bool). at b (g ∷ ws)) (after_change how)
      ∙ ap₂ ◌||◌
      (ap (λ (b : Bool). p m && b && same f g) n ∙ ap (λ (b : Bool). b && same f g) (and-true (p m)) ∙ sym (chosen m (same f g)))
      (as_usual g ws (ap₂ ◌||◌ (name_apart g keyword n test.no_name) (name_apart g (bytes "add") n refl)) ∙ alone ws e q)
      ∙ sym (test.joined (mention m f g) (in_expression f e))
  action_mentions on (sends target m ws e h q) = sent on target ws e q
  action_mentions on (sends_prefixed target c m ws e h q) = sent on target ws e q
  action_mentions on (replies ws e q) =
      pass on (bytes "reply") ws refl ∙ ap (λ (b : Bool). at b ws) test.reply ∙ alone ws e q

  statement_mentions : (on : Bool) {ws : List (List ℕ)} {s : Statement} → StatementWords ws s → at on ws ≡ p (in_statement f s)
  unfolding in_statement is_name
  statement_mentions on (bare h) = action_mentions on h
  statement_mentions on (guarded {ws} {rest} {e} {a} q h) =
      pass on (bytes "when") ws refl
      ∙ ap (λ (b : Bool). at b ws) test.guard
      ∙ behind ws e rest q
      ∙ ap (λ (b : Bool). p (in_expression f e) || b) (action_mentions usual h)
      ∙ sym (test.joined (in_expression f e) (in_action f a))

  -- No statement begins with a name.
  first_word : {ws : List (List ℕ)} {s : Statement} → StatementWords ws s → at usual ws ≡ mentions_behind keyword usual ws f
  unfolding is_name
  first_word (bare (assigns how g ws e n q)) = pass usual (change_word how) (g ∷ ws) (change_no_name how)
  first_word (bare (sends target m ws e h q)) = pass usual (bytes "send") (target ∷ bytes "to" ∷ bytes "self" ∷ ws) refl
  first_word (bare (sends_prefixed target c m ws e h q)) = pass usual (bytes "send") (target ∷ bytes "to" ∷ bytes "self" ∷ ws) refl
  first_word (bare (replies ws e q)) = pass usual (bytes "reply") ws refl
  first_word (guarded {ws} {rest} {e} {a} q h) = pass usual (bytes "when") ws refl

  -- The fields mentioned are those of the statement's modes.
  pub mentioned : {ws : List (List ℕ)} {s : Statement} → StatementWords ws s → mentions_behind keyword usual ws f ≡ p (in_statement f s)
  mentioned h = sym (first_word h) ∙ statement_mentions usual h
