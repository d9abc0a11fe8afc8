-- Where an expression ends in its line, and that the words left by a reading are those after that place.
use Prim.Native.Nat.{ℕ, zero, suc, ◌+◌, ◌-◌, ◌≤◌, ◌<◌}
use Rattle.std.specs.Prelude.{Option, Some, None, ◌≡◌, Bool, List, length, take, drop}
use Rattle.std.proofs.Math.Path.{refl}
use Rattle.std.proofs.Common.{sym, ap, subst, ◌∙◌, length-take, length-drop, take_all}
use Rattle.std.proofs.Math.Bool.{true, false}
use native.Mathlib.Omega.{arith}
use Rattle.std.proofs.Math.Dec.{ltb}
use borrow.Author.Tests.{ltb-true, ltb-false}
use Rattle.model.specs.Text.{words}
use Rattle.model.specs.Expression.{Expression, Operator, apply, Token, operator, leaf, neither, token_of, Parsed, parsed, unread, and_then, from, read_levels}
use Rattle.text_lex.specs.Scan.{is_byte, before, before_le, end_within}
use Rattle.text_lex.specs.Piece.{words_after, span, pieces_step, first_piece, none_after, next_piece, pieces_after_law, span_after}
use Rattle.text_syntax.specs.declared.token.Operator.{Operator as OperatorAnswer}
use Rattle.text_syntax.specs.declared.token.Leaf.{Leaf as LeafAnswer}
use Rattle.text_syntax.specs.declared.token.Token.{Token as TokenAnswer}
use Rattle.text_syntax.specs.declared.token.Token.TheVariants.{Sign, Single}
use Rattle.text_syntax.specs.Tokens.{said_operator, said_token}

-- The place in s after what was read: the end of its last word.
abbrev pub placed : List ℕ → Parsed → Option ℕ
placed s (parsed e ws) = Some (length s - span ws)
placed s unread = None

-- The same place, counted from n bytes earlier.
abbrev pub shifted : ℕ → Option ℕ → Option ℕ
shifted n (Some m) = Some (n + m)
shifted n None = None

-- The words left are those after some place of s.
abbrev pub Tail : List ℕ → Parsed → Type 0
Tail s (parsed e ws) = (j : ℕ) × (j ≤ length s) × (ws ≡ words_after (drop j s))
Tail s unread = Unit {0}

-- The words left are those after the place m of s.
abbrev pub Left : List ℕ → ℕ → Parsed → Type 0
Left s m (parsed e ws) = (m ≤ length s) × (ws ≡ words_after (drop m s))
Left s m unread = ⊥

module _ (s : List ℕ) where
  tail_then : (p : Parsed) (f : Expression → List (List ℕ) → Parsed) → Tail s p
      → ((e : Expression) (j : ℕ) → j ≤ length s → Tail s (f e (words_after (drop j s)))) → Tail s (and_then p f)
  tail_then unread f t g = tt
  tail_then (parsed e ws) f t g = subst (λ (vs : List (List ℕ)). Tail s (f e vs)) (sym t.2) (g e t.0 t.1)

  tail_from : (k : ℕ) (t : Token) → ((i : ℕ) → Tail s (read_levels k (words_after (drop i s))))
      → (j : ℕ) → j ≤ length s → Tail s (from (read_levels k) t (words_after (drop j s)))
  tail_from k (operator o) ih j h =
      tail_then (read_levels k (words_after (drop j s))) _ (ih j)
      (λ a i l. tail_then (read_levels k (words_after (drop i s))) _ (ih i) (λ b n m. (n, m, refl)))
  tail_from k (leaf e) ih j h = (j, h, refl)
  tail_from k neither ih j h = tt

  pub tail_after : (k i : ℕ) → Tail s (read_levels k (words_after (drop i s)))
  unfolding read_levels
  tail_after zero i = tt
  tail_after (suc k) i = go (ltb i (length s)) refl (tail_after k)
    where
      go : (t : Bool) → ltb i (length s) ≡ t → ((i : ℕ) → Tail s (read_levels k (words_after (drop i s))))
          → Tail s (read_levels (suc k) (words_after (drop i s)))
      go true t ih =
          let e = i + 1 + before (is_byte 32) (drop (i + 1) s) in
          let l = ltb-true i (length s) t in
          rw (next_piece 32 s i l e refl) (tail_from k (token_of (take (e - (i + 1)) (drop (i + 1) s))) ih e (end_within (is_byte 32) s (i + 1) (omega arith)))
      go false t ih = rw (none_after 32 s i (ltb-false i (length s) t)) tt

  pub tail_words : (k : ℕ) → Tail s (read_levels k (words s))
  unfolding read_levels
  tail_words zero = tt
  tail_words (suc k) =
      let e = before (is_byte 32) s in
      rw (pieces_step 32 s) (tail_from k (token_of (take e s)) (tail_after k) e (before_le (is_byte 32) s))

  -- The place that a reading gives is the one after which its words are left.
  pub left_behind : (p : Parsed) (m : ℕ) → Tail s p → Some m ≡ placed s p → Left s m p
  left_behind unread m t q = let z : ◌≡◌ {A = ℕ} 0 1 = cc in omega arith
  left_behind (parsed e ws) m t q =
      let k : m ≡ length s - span ws = cc in
      let j : m ≡ t.0 = omega (arith, ap span t.2, span_after 32 (drop t.0 s), length-drop t.0 s) in
      (omega arith, t.2 ∙ ap (λ (i : ℕ). words_after (drop i s)) (sym j))

  placed_le : (p : Parsed) (m : ℕ) → Some m ≡ placed s p → m ≤ length s
  placed_le unread m q = let z : ◌≡◌ {A = ℕ} 0 1 = cc in omega arith
  placed_le (parsed e ws) m q = let k : m ≡ length s - span ws = cc in omega arith

module _ (s : List ℕ) where
  -- The place after what was read in the part from n on, counted from the start of the whole.
  pub placed_part : (n : ℕ) (p : Parsed) → n ≤ length s → Tail (drop n s) p → shifted n (placed (drop n s) p) ≡ placed s p
  placed_part n unread h t = refl
  placed_part n (parsed e ws) h t =
      ap Some (omega (arith, ap span t.2, span_after 32 (drop t.0 (drop n s)), length-drop t.0 (drop n s), length-drop n s))

  -- A place of the part from n on lies within the whole.
  pub part_within : (n : ℕ) (p : Parsed) (m : ℕ) → n ≤ length s → Some m ≡ placed (take (length s - n) (drop n s)) p → n + m ≤ length s
  part_within n p m h q =
      let t = take (length s - n) (drop n s) in
      omega (arith, placed_le t p m q, length-take (length s - n) (drop n s), length-drop n s)

  -- An operand after the place i, read in the part from i + 1 on.
  pub operand_part : (k i : ℕ) → i < length s
      → shifted (i + 1) (placed (take (length s - (i + 1)) (drop (i + 1) s)) (read_levels k (words (take (length s - (i + 1)) (drop (i + 1) s)))))
      ≡ placed s (read_levels k (words_after (drop i s)))
  operand_part k i h =
      let n = i + 1 in
      rw (take_all (length s - n) (drop n s) (omega (arith, length-drop n s)), pieces_after_law 32 s i h)
      (placed_part n (read_levels k (words (drop n s))) (omega arith) (tail_words (drop n s) k))

  -- Past the end there is nothing to read.
  pub operand_none : (k i : ℕ) → length s ≤ i → read_levels k (words_after (drop i s)) ≡ unread
  unfolding read_levels
  operand_none zero i h = refl
  operand_none (suc k) i h = rw (none_after 32 s i h)

  pub no_levels : (n : ℕ) (ws : List (List ℕ)) → n ≡ 0 → read_levels n ws ≡ unread
  unfolding read_levels
  no_levels n ws h = rw h

  then_rest : (p : Parsed) (f : Expression → Expression) → placed s (and_then p (λ e ws. parsed (f e) ws)) ≡ placed s p
  then_rest (parsed e ws) f = refl
  then_rest unread f = refl

  -- Two operands: the second is read where the first ends.
  two_operands : (k m : ℕ) (o : Operator) (p : Parsed) → Left s m p
      → placed s (read_levels k (words_after (drop m s))) ≡ placed s (and_then p (λ a rest. and_then (read_levels k rest) (λ b behind. parsed (apply o a b) behind)))
  two_operands k m o unread l = absurd l
  two_operands k m o (parsed a ws) l = rw l.1 (sym (then_rest (read_levels k (words_after (drop m s))) (apply o a)))

  no_operands : (k : ℕ) (o : Operator) (p : Parsed) → None ≡ placed s p
      → None ≡ placed s (and_then p (λ a rest. and_then (read_levels k rest) (λ b behind. parsed (apply o a b) behind)))
  no_operands k o unread q = refl
  no_operands k o (parsed a ws) q = cc

-- An expression of at most n levels, whose first word ends at e.
module _ (s : List ℕ) (n e : ℕ) (h : n ≡ 0 → ⊥) (q : e ≡ 0 + before (is_byte 32) s) where
  -- Its reading depends on that word's token.
  pub first_token : (t : Token) → token_of (take e s) ≡ t → read_levels n (words s) ≡ from (read_levels (n - 1)) t (words_after (drop e s))
  unfolding read_levels
  first_token t r = go n h
    where
      go : (n : ℕ) → (n ≡ 0 → ⊥) → read_levels n (words s) ≡ from (read_levels (n - 1)) t (words_after (drop e s))
      go zero h = absurd (h refl)
      go (suc k) h = let j : suc k - 1 ≡ k = omega arith in rw (j, first_piece 32 s e q, r)

  pub first_within : e ≤ length s
  first_within = omega (arith, before_le (is_byte 32) s)

-- The same, where the word's token is known by an answer of `token_of`.
module _ (s : List ℕ) (n e : ℕ) (h : n ≡ 0 → ⊥) (q : e ≡ 0 + before (is_byte 32) s) (t : Option TokenAnswer) (r : said_token (take e s) t ≡ token_of (take e s)) where
  by_token : (u : Option TokenAnswer) → t ≡ u → placed s (from (read_levels (n - 1)) (said_token (take e s) u) (words_after (drop e s))) ≡ placed s (read_levels n (words s))
  by_token u k = sym (ap (placed s) (first_token s n e h q (said_token (take e s) u) (sym r ∙ ap (said_token (take e s)) k)))

  pub end_of_second : (o : OperatorAnswer) → t ≡ Some (Sign o) → (m : ℕ) → Some m ≡ placed s (read_levels (n - 1) (words_after (drop e s)))
      → placed s (read_levels (n - 1) (words_after (drop m s))) ≡ placed s (read_levels n (words s))
  end_of_second o k m f =
      let p = read_levels (n - 1) (words_after (drop e s)) in
      two_operands s (n - 1) m (said_operator o) p (left_behind s p m (tail_after s (n - 1) e) f) ∙ by_token (Some (Sign o)) k

  pub end_of_none : (o : OperatorAnswer) → t ≡ Some (Sign o) → None ≡ placed s (read_levels (n - 1) (words_after (drop e s)))
      → None ≡ placed s (read_levels n (words s))
  end_of_none o k f = no_operands s (n - 1) (said_operator o) (read_levels (n - 1) (words_after (drop e s))) f ∙ by_token (Some (Sign o)) k

  pub end_of_leaf : (x : LeafAnswer) → t ≡ Some (Single x) → Some e ≡ placed s (read_levels n (words s))
  end_of_leaf x k =
      ap Some (omega (arith, first_within s n e h q, span_after 32 (drop e s), length-drop e s)) ∙ by_token (Some (Single x)) k

  pub end_of_neither : t ≡ None → None ≡ placed s (read_levels n (words s))
  end_of_neither k = by_token None k
