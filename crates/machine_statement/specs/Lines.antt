-- The turn of a line, from its form to what the code reads: its keyword, the words up to its expressions, and their values.
use Rattle.std.specs.Prelude.{ℕ, ◌+◌, ◌-◌, ◌/◌, ◌%◌, ◌≤◌, ◌<◌, ◌≡◌, Bool, false, cond, ◌||◌, ◌&&◌, length, take, drop, eqb, leb, ltb}
use Rattle.std.proofs.Math.Path.{refl}
use Rattle.std.proofs.Common.{sym, ◌∙◌, ltb-false, le-leb}
use Rattle.std.proofs.Math.Bool.{true}
use Rattle.std.proofs.Math.Option.{Option, none, some}
use mathlib.Core.List.{List, [], ◌∷◌}
use native.Mathlib.Omega.{arith}
use Rattle.std.proofs.lemmas.Bool.{lt-leb}
use Rattle.layout.specs.Layout.{object_class_at, object_values_at}
use Rattle.model.specs.Base.{bytes, same}
use Rattle.model.specs.Text.{pieces, words}
use Rattle.model.specs.Word.{is_name}
use Rattle.model.specs.Expression.{Expression, Parsed, parsed, unread, expression}
use Rattle.model.specs.Form.{Keyword, class_word, field_word, method_word, end_word, object_word, set_word, add_word, send_word, reply_word, when_word, other_word}
use Rattle.model.specs.Form.{Change, replace, increase, Action, assign, send, send_prefixed, reply, Form, class_line, field_line, method_line, statement_line, end_line, object_line, malformed}
use Rattle.model.specs.Form.{keyword_of, whole, given, send_to, assign_action, action_of, statement_form, when_form, form_as, form_of}
use Rattle.text_lex.specs.Tests.{and_false}
use Rattle.text_lex.specs.Scan.{is_byte, before}
use Rattle.text_lex.specs.Piece.{words_after, span, first, others, is_empty, first_piece, empty_after}
use Rattle.text_syntax.specs.Reading.{Left, tail_after, left_behind}
use Rattle.text_syntax.specs.Kinds.{kind_of, is_target, fits, kind_by, kind_as, and_yes}
use Rattle.catalog.specs.View.{part_of, statement_word, class_count, member_count}
use Rattle.catalog.specs.View as View
use Rattle.machine_evaluate.specs.declared.Value.{Value}
use Rattle.std.specs.Prelude.{Some, None}
use Rattle.machine_evaluate.specs.Valued.{value_here, found_value, not_found, value_placed}
use Rattle.machine_words.specs.Row.{Turn, misfit, skip}
use Rattle.machine_words.specs.Turn.{value_in, statement_turn, assign_turn, with_value, call_turn, action_turn, form_turn, line_turn}
use Rattle.machine_statement.specs.declared.line.Frame.{Frame}
use Rattle.machine_statement.specs.Actions.{is_when, is_begun, skipped, target_body, acted_turn, skipped_turn, valued_in, turn_in, formed_turn}

-- A test between two misfits.
either_misfit : (t : Bool) → misfit ≡ cond t misfit misfit
either_misfit true = refl
either_misfit false = refl

module _ (frame : Frame) where
  abbrev value : Expression → Option ℕ
  value = value_here frame.scope

  abbrev formed : Option Action → Turn
  formed = formed_turn frame

  abbrev turn_of : Form → Turn
  turn_of f = form_turn f (turn_in frame)

  -- ---- an action, by the words up to its expression and the expression's value

  -- The turn for the value of an expression that takes all the words.
  abbrev whole_turn : (ℕ → Turn) → Parsed → Turn
  whole_turn turn (parsed e ws) = cond (is_empty ws) (with_value (value e) turn) misfit
  whole_turn turn unread = misfit

  whole_turn_law : (t : Bool) (act : Expression → Action) (turn : ℕ → Turn) (p : Parsed) → ((e : Expression) → formed (some (act e)) ≡ with_value (value e) turn)
      → formed (given t (whole act p)) ≡ cond t (whole_turn turn p) misfit
  whole_turn_law false act turn p h = refl
  whole_turn_law true act turn (parsed e []) h = h e
  whole_turn_law true act turn (parsed e (w ∷ ws)) h = refl
  whole_turn_law true act turn unread h = refl

  given_turn : (t u : Bool) (a : Option Action) (x : Turn) → formed a ≡ cond u x misfit → formed (given t a) ≡ cond (t && u) x misfit
  given_turn true u a x h = h
  given_turn false u a x h = refl

  target_turn : (ps ws : List (List ℕ))
      → formed (send_to ps ws) ≡ cond (is_target ps) (whole_turn (call_turn frame.depth (target_body frame.scope.text.now frame.scope.tables.now frame.scope.class ps)) (expression ws)) misfit
  unfolding is_target is_name target_body action_turn
  target_turn [] ws = refl
  target_turn (m ∷ []) ws = rw (and_yes (is_name m)) (whole_turn_law (is_name m) (send m) _ (expression ws) (λ e. refl))
  target_turn (d ∷ m ∷ []) ws = rw (and_yes (is_name m)) (whole_turn_law (is_name d && is_name m) (send_prefixed d m) _ (expression ws) (λ e. refl))
  target_turn (d ∷ m ∷ n ∷ ns) ws = rw (and_false (is_name m) refl, and_false (is_name d) refl)

  assign_turn_law : (how : Change) (ws : List (List ℕ))
      → formed (assign_action how ws) ≡ cond (is_name (first ws)) (whole_turn (assign_turn frame.scope.text.now frame.scope.tables.now frame.scope.class frame.base how (first ws)) (expression (others ws))) misfit
  unfolding assign_turn action_turn is_name
  assign_turn_law how [] = refl
  assign_turn_law how (f ∷ ws) = whole_turn_law (is_name f) (assign how f) _ (expression ws) (λ e. refl)

  action_turn_law : (k : Keyword) (ws : List (List ℕ))
      → formed (action_of k ws) ≡ cond (is_begun k ws) (whole_turn (acted_turn frame k (first ws)) (expression (skipped k ws))) misfit
  unfolding action_of action_turn is_name same is_target
  action_turn_law set_word ws = assign_turn_law replace ws
  action_turn_law add_word ws = assign_turn_law increase ws
  action_turn_law send_word [] = refl
  action_turn_law send_word (m ∷ []) = refl
  action_turn_law send_word (m ∷ t ∷ []) = rw (and_false (same t (bytes "to")) refl)
  action_turn_law send_word (m ∷ t ∷ s ∷ ws) =
      given_turn (same t (bytes "to") && same s (bytes "self")) (is_target (pieces 46 m)) (send_to (pieces 46 m) ws) _ (target_turn (pieces 46 m) ws)
  action_turn_law reply_word ws = whole_turn_law true reply _ (expression ws) (λ e. refl)
  action_turn_law class_word ws = refl
  action_turn_law field_word ws = refl
  action_turn_law method_word ws = refl
  action_turn_law end_word ws = refl
  action_turn_law object_word ws = refl
  action_turn_law when_word ws = refl
  action_turn_law other_word ws = refl

  pub words_unbegun : (k : Keyword) (ws : List (List ℕ)) → is_begun k ws ≡ false → misfit ≡ formed (action_of k ws)
  words_unbegun k ws h = sym (action_turn_law k ws ∙ rw h)

  -- ---- a statement, by the keyword of its line

  plain_turn : (a : Option Action) → turn_of (statement_form none a) ≡ formed a
  plain_turn none = refl
  plain_turn (some a) = refl

  -- The turn of an action after a guard of a value, if it has one.
  abbrev guarded : Option ℕ → Option Action → Turn
  guarded none a = misfit
  guarded (some v) a = cond (eqb v 0) (skipped_turn a) (formed a)

  guard_turn : (e : Expression) (a : Option Action) → turn_of (statement_form (some e) a) ≡ guarded (value e) a
  guard_turn e none = go (value e)
    where
      go : (x : Option ℕ) → misfit ≡ guarded x none
      go none = refl
      go (some v) = either_misfit (eqb v 0)
  guard_turn e (some a) = go (value e)
    where
      go : (x : Option ℕ) → with_value x (λ v. cond (eqb v 0) skip (formed (some a))) ≡ guarded x (some a)
      go none = refl
      go (some v) = refl

  when_turn : (e : Expression) (ws : List (List ℕ)) → turn_of (when_form (parsed e ws)) ≡ guarded (value e) (action_of (keyword_of (first ws)) (others ws))
  unfolding keyword_of action_of same
  when_turn e [] = guard_turn e none
  when_turn e (w ∷ ws) = guard_turn e (action_of (keyword_of w) ws)

  form_misfit : (f : Form) → (kind_of f ≡ 3 → ⊥) → turn_of f ≡ misfit
  form_misfit (class_line n ps) h = refl
  form_misfit (field_line n) h = refl
  form_misfit (method_line n) h = refl
  form_misfit (statement_line s) h = absurd (h refl)
  form_misfit end_line h = refl
  form_misfit (object_line n d vs) h = refl
  form_misfit malformed h = refl

  -- A keyword of another kind of line begins no statement.
  other_misfit : (k : Keyword) (ws : List (List ℕ)) → (kind_by k ≡ 3 → ⊥) → turn_of (form_as k ws) ≡ misfit
  other_misfit k ws n = form_misfit (form_as k ws) (λ h. go (fits k ws) (sym (kind_as k ws) ∙ h))
    where
      go : (t : Bool) → cond t (kind_by k) 6 ≡ 3 → ⊥
      go true e = n e
      go false e = omega arith

  form_turn_law : (k : Keyword) (ws : List (List ℕ)) → turn_of (form_as k ws) ≡ cond (is_when k) (turn_of (when_form (expression ws))) (formed (action_of k ws))
  unfolding form_as action_of
  form_turn_law set_word ws = plain_turn (action_of set_word ws)
  form_turn_law add_word ws = plain_turn (action_of add_word ws)
  form_turn_law send_word ws = plain_turn (action_of send_word ws)
  form_turn_law reply_word ws = plain_turn (action_of reply_word ws)
  form_turn_law when_word ws = refl
  form_turn_law class_word ws = other_misfit class_word ws (λ e. omega arith)
  form_turn_law field_word ws = other_misfit field_word ws (λ e. omega arith)
  form_turn_law method_word ws = other_misfit method_word ws (λ e. omega arith)
  form_turn_law end_word ws = other_misfit end_word ws (λ e. omega arith)
  form_turn_law object_word ws = other_misfit object_word ws (λ e. omega arith)
  form_turn_law other_word ws = refl

  -- The line s, where w is the keyword of its first word, which ends at e.
  module _ (s : List ℕ) (e : ℕ) (q : e ≡ 0 + before (is_byte 32) s) (w : Keyword) (r : w ≡ keyword_of (take e s)) where
    by_keyword : turn_of (form_of (words s)) ≡ cond (is_when w) (turn_of (when_form (expression (words_after (drop e s))))) (formed (action_of w (words_after (drop e s))))
    unfolding form_of
    by_keyword = rw (first_piece 32 s e q, ← r) (form_turn_law w (words_after (drop e s)))

    pub line_guarded : is_when w ≡ true → turn_of (when_form (expression (words_after (drop e s)))) ≡ turn_of (form_of (words s))
    line_guarded t = sym (by_keyword ∙ rw t)

    pub line_words : is_when w ≡ false → formed (action_of w (words_after (drop e s))) ≡ turn_of (form_of (words s))
    line_words t = sym (by_keyword ∙ rw t)

  -- ---- by what the evaluator answered in a line s

  module _ (s : List ℕ) where
    whole_found : (turn : ℕ → Turn) (p : Parsed) (v : Value) → Left s v.end p → Some v ≡ valued_in frame s p
        → cond (leb (length s) v.end) (turn v.number) misfit ≡ whole_turn turn p
    whole_found turn unread v l q = absurd l
    whole_found turn (parsed e ws) v l q = rw ((found_value (value e) (length s - span ws) v q).0, l.1, empty_after 32 s v.end)

    whole_none : (turn : ℕ → Turn) (p : Parsed) → None ≡ valued_in frame s p → misfit ≡ whole_turn turn p
    whole_none turn (parsed e ws) q = rw (not_found (value e) (length s - span ws) q) (either_misfit (is_empty ws))
    whole_none turn unread q = refl

    guard_found : (p : Parsed) (v : Value) → Left s v.end p → Some v ≡ valued_in frame s p
        → guarded (some v.number) (action_of (keyword_of (first (words_after (drop v.end s)))) (others (words_after (drop v.end s)))) ≡ turn_of (when_form p)
    guard_found unread v l q = absurd l
    guard_found (parsed e ws) v l q = rw (← l.1) (sym (when_turn e ws ∙ rw (found_value (value e) (length s - span ws) v q).0))

    guard_unread : (p : Parsed) → None ≡ valued_in frame s p → misfit ≡ turn_of (when_form p)
    guard_unread (parsed e ws) q = sym (when_turn e ws ∙ rw (not_found (value e) (length s - span ws) q))
    guard_unread unread q = refl

    -- The expression after the place i.
    module _ (i : ℕ) where
      abbrev read : Parsed
      read = expression (words_after (drop i s))

      left_there : (v : Value) → Some v ≡ valued_in frame s read → Left s v.end read
      left_there v q =
          left_behind s read v.end (tail_after s 9 i) (value_placed value s read v q)

      -- It is the expression of an action: the words ws follow the keyword k.
      module _ (k : Keyword) (ws : List (List ℕ)) (b : is_begun k ws ≡ true) (h : words_after (drop i s) ≡ skipped k ws) where
        begun_turn : formed (action_of k ws) ≡ whole_turn (acted_turn frame k (first ws)) read
        begun_turn = action_turn_law k ws ∙ rw (b, h)

        pub words_none : None ≡ valued_in frame s read → misfit ≡ formed (action_of k ws)
        words_none q = whole_none _ read q ∙ sym begun_turn

        -- It has the value v.
        module _ (v : Value) (q : Some v ≡ valued_in frame s read) where
          found_turn : cond (leb (length s) v.end) (acted_turn frame k (first ws) v.number) misfit ≡ formed (action_of k ws)
          found_turn = whole_found _ read v (left_there v q) q ∙ sym begun_turn

          pub words_more : v.end < length s → misfit ≡ formed (action_of k ws)
          words_more l = rw (← found_turn, lt-leb (length s) v.end l)

          pub words_found : length s ≤ v.end → (w : List ℕ) → w ≡ first ws → acted_turn frame k w v.number ≡ formed (action_of k ws)
          words_found l w e = rw (e, ← found_turn, le-leb (length s) v.end l)

      -- It is the guard after a `when`.
      pub guard_none : None ≡ valued_in frame s read → misfit ≡ turn_of (when_form read)
      guard_none q = guard_unread read q

      -- It has the value v, and its end is followed by a word of the keyword k and the words ws.
      module _ (v : Value) (q : Some v ≡ valued_in frame s read)
          (k : Keyword) (e : k ≡ keyword_of (first (words_after (drop v.end s)))) (ws : List (List ℕ)) (r : ws ≡ others (words_after (drop v.end s))) where
        pub guard_there : {b : Bool} → eqb v.number 0 ≡ b → cond b (skipped_turn (action_of k ws)) (formed (action_of k ws)) ≡ turn_of (when_form read)
        guard_there h = rw (← h, e, r) (guard_found read v (left_there v q) q)

-- ---- the statement s on object o, at the place in the word w; there are n classes

module _ (text tables values : List ℕ) (o depth s arg got c base size n w : ℕ) (p : c ≡ View.object_word tables o object_class_at) (q : base ≡ View.object_word tables o object_values_at)
    (r : size ≡ member_count tables c 0) (u : n ≡ class_count tables) (v : w ≡ statement_word tables s) where
  pub line_misfit : (leb n c || ltb (length values) (base + size) || ltb (length text) (w / 65536 + w % 65536)) ≡ true
      → misfit ≡ line_turn text tables values o depth s arg got
  unfolding line_turn
  line_misfit h = rw (← p, ← q, ← r, ← u, ← v, h)

  pub line_fits : (leb n c || ltb (length values) (base + size) || ltb (length text) (w / 65536 + w % 65536)) ≡ false → (l : List ℕ) → l ≡ part_of text w
      → form_turn (form_of (words l)) (statement_turn text tables c base depth (value_in text tables c (take (base + size - base) (drop base values)) arg got))
      ≡ line_turn text tables values o depth s arg got
  unfolding line_turn
  line_fits h l e = let d : base + size - base ≡ size = omega arith in rw (← p, ← q, ← r, ← u, ← v, h, e, d)

-- After those tests the values exist.
pub values_there : (n c l e i j : ℕ) → (leb n c || ltb l e || ltb i j) ≡ false → e ≤ l
values_there n c l e i j h = ltb-false l e (middle (leb n c) (ltb l e) h)
  where
    middle : (t u : Bool) → (t || u || ltb i j) ≡ false → u ≡ false
    middle true u h = cc
    middle false true h = h
    middle false false h = refl
