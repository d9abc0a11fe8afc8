-- A statement line has at least 7 bytes, so a text holds at most 4,096 of them with their LF.
use Rattle.std.specs.Prelude.{ℕ, suc, ◌≤◌, ◌≡◌, refl, true, List, [], ◌∷◌, length, drop}
use Rattle.std.proofs.Common.{sym, ap, subst, ◌∙◌, arith, length-drop}
use Rattle.std.proofs.lemmas.Bool.{false≢true}
use Rattle.model.specs.Text.{words}
use Rattle.model.specs.Word.{Name, is_name, is_number}
use Rattle.model.specs.Expression.{Expression, parsed, unread, expression, token_of, read_levels}
use Rattle.model.specs.Form.{Change, replace, increase, Action, Statement, statement_line, form_of}
use Rattle.text_lex.specs.Scan.{is_byte, before}
use Rattle.text_lex.specs.Piece.{words_after, others, span, pieces_step, span_after}
use Rattle.text_syntax.specs.Reading.{Tail, tail_after}
use Rattle.text_syntax.specs.Spelling.{change_word, ActionWords, assigns, sends, sends_prefixed, replies, StatementWords, bare, guarded, spelled}

-- An expression's first word is not empty.
expression_size : (ws : List (List ℕ)) (e : Expression) (rest : List (List ℕ)) → expression ws ≡ parsed e rest → 2 ≤ span ws
unfolding span read_levels token_of is_name is_number
expression_size [] e rest q = let z : ◌≡◌ {A = ℕ} 0 1 = cc in absurd (omega arith)
expression_size ([] ∷ ws) e rest q = let p : unread ≡ parsed e rest = q in let z : ◌≡◌ {A = ℕ} 0 1 = cc in absurd (omega arith)
expression_size ((b ∷ w) ∷ ws) e rest q = omega arith

name_size : (g : Name) → is_name g ≡ true → 1 ≤ length g
unfolding is_name
name_size [] n = absurd (false≢true n)
name_size (b ∷ g) n = omega arith

change_size : (how : Change) → length (change_word how) ≡ 3
change_size replace = refl
change_size increase = refl

action_size : {ws : List (List ℕ)} {a : Action} → ActionWords ws a → 8 ≤ span ws
unfolding span
action_size (assigns how g ws e n q) = omega (arith, change_size how, name_size g n, expression_size ws e [] q)
action_size (sends target m ws e h q) = omega arith
action_size (sends_prefixed target c m ws e h q) = omega arith
action_size (replies ws e q) = omega (arith, expression_size ws e [] q)

module _ (line : List ℕ) where
  line_span : span (words line) ≡ suc (length line)
  line_span = span_after 32 (0 ∷ line)

  -- The words left after an expression are no longer than the line.
  left_size : (ws rest : List (List ℕ)) (e : Expression) → ws ≡ others (words line) → expression ws ≡ parsed e rest → span rest ≤ length line
  left_size ws rest e h q =
      let p = before (is_byte 32) line in
      let v : ws ≡ words_after (drop p line) = h ∙ ap others (pieces_step 32 line) in
      let t : Tail line (parsed e rest) = subst (Tail line) (ap expression (sym v) ∙ q) (tail_after line 9 p) in
      omega (arith, ap span t.2, span_after 32 (drop t.0 line), length-drop t.0 line)

  pub statement_size : (s : Statement) → form_of (words line) ≡ statement_line s → 7 ≤ length line
  statement_size s e = go (words line) (spelled (words line) s e) refl
    where
      go : (ws : List (List ℕ)) {s : Statement} → StatementWords ws s → ws ≡ words line → 7 ≤ length line
      go ws (bare h) q = omega (arith, action_size h, ap span q, line_span)
      go ws (guarded {ws = vs} {rest = rest} {e = e} p h) q = omega (arith, action_size h, left_size vs rest e (ap others q) p)
