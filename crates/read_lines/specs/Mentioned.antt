-- The faults of the words of a statement: 14 for a name that is no field of the class; after `send` 14 for an unknown method or
-- class and 16 for a class that is no ancestor. And that these are the statement's faults.
use Prim.Native.Nat.{ℕ, ◌+◌}
use Rattle.std.specs.Prelude.{◌≡◌, Bool, ◌&&◌, ◌||◌, take, drop, eqb, leb}
use Rattle.std.proofs.Math.Path.{refl, sym, ap, ap₂}
use Rattle.std.proofs.Common.{subst, ◌∙◌, true≢false}
use Rattle.std.proofs.Math.Bool.{true, false, not, cond, or-false}
use mathlib.Core.List.{List, [], ◌∷◌}
use Rattle.model.specs.Base.{bytes, same}
use Rattle.model.specs.Text.{pieces, words}
use Rattle.model.specs.Word.{Name, is_name}
use Rattle.model.specs.Expression.{Operator, Expression, number, field, argument, got, apply, Token, operator, leaf, neither, token_of, parsed, expression}
use Rattle.model.specs.Form.{Action, Statement, statement_line, form_of, Line}
use Rattle.model.specs.Library.{Library, among, class_number, is_class, class_at, last_number, last_class}
use Rattle.model.specs.Fault.{strange, own_method, method_of, unknown_in, no_ancestor, strange_guard, statements_so_far, statement_fault}
use Rattle.laws.specs.Lists.{same_sound}
use Rattle.text_lex.specs.Scan.{is_byte, before}
use Rattle.text_lex.specs.Piece.{words_after, first, others, first_piece}
use Rattle.text_syntax.specs.Spelling.{change_word, change_no_name, change_no_send, ActionWords, assigns, sends, sends_prefixed, replies, StatementWords, bare, guarded, spelled}
use Rattle.text_syntax.specs.Expressions.{Named, named, no_token, Taken, Walked, walked}
use Rattle.read_lines.specs.Lower.{lower, lower_assoc, lower_zero, lowest, lowest_both, lowest_then}

module _ (l : Library) where
  -- Whether the word is a name but no field of the class being read.
  abbrev pub is_stray : List ℕ → Bool
  is_stray w = is_name w && not (among (last_class l).fields w)

  -- Whether the prefix of a target, which is split at its points, is no proper ancestor.
  abbrev pub is_foreign : List Name → Bool
  is_foreign [] = false
  is_foreign (m ∷ []) = false
  is_foreign (c ∷ m ∷ ms) = not ((last_class l).ancestors (class_number l c))

module _ (l : Library) (below : List Line) where
  -- Whether the class with the number k has the method.
  abbrev pub method_at : ℕ → Name → Bool
  method_at k m = cond (eqb k (last_number l)) (own_method l below m) (among (class_at l k).methods m)

  -- Whether the target names an unknown class or method.
  abbrev pub is_unknown : List Name → Bool
  is_unknown [] = false
  is_unknown (m ∷ []) = not (own_method l below m)
  is_unknown (c ∷ m ∷ ms) = not (is_class l c) || not (method_of l below c m)

  abbrev pub target_fault : List Name → ℕ
  target_fault ps = lowest (is_unknown ps) (is_foreign l ps)

  -- The fault of a word, or 0; `sent` where it follows `send`.
  abbrev pub word_fault : Bool → List ℕ → ℕ
  word_fault true w = target_fault (pieces 46 w)
  word_fault false w = lowest (is_stray l w) false

  unfoldable pub fault_from : Bool → List (List ℕ) → ℕ
  unfolding same is_name among pieces own_method is_class method_of class_number
  fault_from sent [] = 0
  fault_from sent (w ∷ ws) = lower (word_fault sent w) (fault_from (not sent && same w (bytes "send")) ws)

  -- The fault of the words after the first, or 0.
  abbrev pub fault_behind : List (List ℕ) → ℕ
  fault_behind ws = fault_from (same (first ws) (bytes "send")) (others ws)

  -- ---- the words of an expression

  pass : (w : List ℕ) (ws : List (List ℕ)) → is_name w ≡ false → fault_from false (w ∷ ws) ≡ fault_from (same w (bytes "send")) ws
  unfolding fault_from
  pass w ws e = rw e

  abbrev found : Expression → ℕ → ℕ
  found e x = lower (lowest (strange (last_class l) e) false) x

  plain : (w : List ℕ) (ws : List (List ℕ)) → is_name w ≡ false → same w (bytes "send") ≡ false → fault_from false (w ∷ ws) ≡ fault_from false ws
  plain w ws e q = pass w ws e ∙ ap (λ (t : Bool). fault_from t ws) q

  taken : (w : List ℕ) (t : Token) → token_of w ≡ t → Named w t → Taken (fault_from false) found w t
  unfolding fault_from strange token_of
  taken w (operator o) e n = λ ws. plain w ws n (no_token (bytes "send") refl w (operator o) e tt)
  taken w (leaf (number k)) e n = λ ws. plain w ws n (no_token (bytes "send") refl w (leaf (number k)) e tt)
  taken w (leaf (field g)) e n = λ ws.
      ap₂ (λ (t u : Bool). lower (lowest (t && not (among (last_class l).fields w)) false) (fault_from u ws)) n.0 (no_token (bytes "send") refl w (leaf (field g)) e tt)
      ∙ ap (λ (v : Name). lower (lowest (not (among (last_class l).fields v)) false) (fault_from false ws)) (sym n.1)
  taken w (leaf argument) e n = λ ws. plain w ws n (no_token (bytes "send") refl w (leaf argument) e tt)
  taken w (leaf got) e n = λ ws. plain w ws n (no_token (bytes "send") refl w (leaf got) e tt)
  taken w (leaf (apply o a b)) e n = absurd n
  taken w neither e n = tt

  two : (o : Operator) (a b : Expression) (x : ℕ) → found (apply o a b) x ≡ found a (found b x)
  unfolding strange
  two o a b x =
      let c = last_class l in
      ap (λ (n : ℕ). lower n x) (sym (lowest_both (strange c a) false (strange c b) false))
      ∙ lower_assoc (lowest (strange c a) false) (lowest (strange c b) false) x

  behind : (ws : List (List ℕ)) (e : Expression) (rest : List (List ℕ)) → expression ws ≡ parsed e rest → fault_from false ws ≡ found e (fault_from false rest)
  behind ws e rest q = subst (Walked (fault_from false) found ws) q (walked (fault_from false) found (λ w. taken w (token_of w) refl (named w)) two 9 ws)

  alone : (ws : List (List ℕ)) (e : Expression) → expression ws ≡ parsed e [] → fault_from false ws ≡ lowest (strange (last_class l) e) false
  unfolding fault_from
  alone ws e q = behind ws e [] q ∙ lowest_both (strange (last_class l) e) false false false ∙ ap (λ (t : Bool). lowest t false) (or-false (strange (last_class l) e))

  -- ---- the words of a statement

  name_apart : (g : Name) → is_name g ≡ true → same g (bytes "send") ≡ false
  unfolding is_name
  name_apart g n = go (same g (bytes "send")) refl
    where
      go : (t : Bool) → same g (bytes "send") ≡ t → same g (bytes "send") ≡ false
      go true r = absurd (true≢false (sym n ∙ ap is_name (same_sound g (bytes "send") r)))
      go false r = r

  sent : (target : List ℕ) (ps : List Name) (ws : List (List ℕ)) (e : Expression) → pieces 46 target ≡ ps → expression ws ≡ parsed e []
      → fault_from false (bytes "send" ∷ target ∷ bytes "to" ∷ bytes "self" ∷ ws) ≡ lowest (is_unknown ps || strange (last_class l) e) (is_foreign l ps || false)
  unfolding fault_from same is_name
  sent target ps ws e h q =
      let s = strange (last_class l) e in
      ap₂ (λ (vs : List Name) (n : ℕ). lower (target_fault vs) n) h
      (plain (bytes "to") (bytes "self" ∷ ws) refl refl ∙ plain (bytes "self") ws refl refl ∙ alone ws e q)
      ∙ lowest_both (is_unknown ps) (is_foreign l ps) s false

  action_deserves : {ws : List (List ℕ)} {a : Action} → ActionWords ws a → fault_from false ws ≡ lowest (unknown_in l below a) (no_ancestor l a)
  unfolding fault_from unknown_in no_ancestor same is_name
  action_deserves (assigns how g ws e n q) =
      let s = strange (last_class l) e in
      plain (change_word how) (g ∷ ws) (change_no_name how) (change_no_send how)
      ∙ ap₂ (λ (t u : Bool). lower (lowest (t && not (among (last_class l).fields g)) false) (fault_from u ws)) n (name_apart g n)
      ∙ ap (λ (x : ℕ). lower (lowest (not (among (last_class l).fields g)) false) x) (alone ws e q)
      ∙ lowest_both (not (among (last_class l).fields g)) false s false
  action_deserves (sends target m ws e h q) = sent target (m ∷ []) ws e h q
  action_deserves (sends_prefixed target c m ws e h q) =
      sent target (c ∷ m ∷ []) ws e h q
      ∙ ap (λ (t : Bool). lowest (is_unknown (c ∷ m ∷ []) || strange (last_class l) e) t) (or-false (is_foreign l (c ∷ m ∷ [])))
  action_deserves (replies ws e q) = alone ws e q

  -- No statement begins with a name.
  first_word : {ws : List (List ℕ)} {a : Action} → ActionWords ws a → fault_behind ws ≡ fault_from false ws
  unfolding is_name
  first_word (assigns how g ws e n q) = sym (pass (change_word how) (g ∷ ws) (change_no_name how))
  first_word (sends target m ws e h q) = sym (pass (bytes "send") (target ∷ bytes "to" ∷ bytes "self" ∷ ws) refl)
  first_word (sends_prefixed target c m ws e h q) = sym (pass (bytes "send") (target ∷ bytes "to" ∷ bytes "self" ∷ ws) refl)
  first_word (replies ws e q) = sym (pass (bytes "reply") ws refl)

  deserves : {ws : List (List ℕ)} {s : Statement} → StatementWords ws s
      → fault_behind ws ≡ lowest (strange_guard (last_class l) s.guard || unknown_in l below s.action) (no_ancestor l s.action)
  unfolding same
  deserves (bare h) = first_word h ∙ action_deserves h
  deserves (guarded {ws} {rest} {e} {a} q h) =
      let s = strange (last_class l) e in
      behind ws e rest q
      ∙ ap (λ (n : ℕ). lower (lowest s false) n) (action_deserves h)
      ∙ lowest_both s false (unknown_in l below a) (no_ancestor l a)

  -- A statement's fault is that of its words, or 17 where they have none.
  pub statement_fault_law : (ws : List (List ℕ)) (s : Statement) → form_of ws ≡ statement_line s
      → statement_fault l below s ≡ cond (eqb (fault_behind ws) 0) (cond (leb 32 (statements_so_far (last_class l))) 17 0) (fault_behind ws)
  unfolding statement_fault
  statement_fault_law ws s e =
      let n : ℕ = cond (leb 32 (statements_so_far (last_class l))) 17 0 in
      lowest_then (strange_guard (last_class l) s.guard || unknown_in l below s.action) (no_ancestor l s.action) n
      ∙ ap (λ (k : ℕ). cond (eqb k 0) n k) (sym (deserves (spelled ws s e)))

  -- ---- the words as a loop over a line reads them

  pub begins : (line : List ℕ) (e : ℕ) {sent : Bool} → e ≡ 0 + before (is_byte 32) line → sent ≡ same (take e line) (bytes "send")
      → fault_from sent (words_after (drop e line)) ≡ fault_behind (words line)
  begins line e h q = ap (λ (t : Bool). fault_from t (words_after (drop e line))) q ∙ sym (ap fault_behind (first_piece 32 line e h))

  module _ (sent : Bool) (fault : ℕ) where
    -- The word w, of fault n; t tells whether the next word follows `send`.
    pub goes_on : (w : List ℕ) (ws rest : List (List ℕ)) {n : ℕ} {t : Bool} → ws ≡ w ∷ rest → n ≡ lower fault (word_fault sent w) → t ≡ same w (bytes "send")
        → lower n (fault_from (not sent && t) rest) ≡ lower fault (fault_from sent ws)
    unfolding fault_from
    goes_on w ws rest q e h =
        ap₂ (λ (m : ℕ) (t : Bool). lower m (fault_from (not sent && t) rest)) e h
        ∙ lower_assoc fault (word_fault sent w) (fault_from (not sent && same w (bytes "send")) rest)
        ∙ ap (λ (vs : List (List ℕ)). lower fault (fault_from sent vs)) (sym q)

    pub ends : fault ≡ lower fault (fault_from sent [])
    unfolding fault_from
    ends = sym (lower_zero fault)
