-- The value of an expression with the place after it in its line, and how it is made of its operands' values.
use Rattle.std.specs.Prelude.{◌≡◌, ℕ, ◌+◌, ◌-◌, ◌<◌, ◌≤◌, Bool, true, false, cond, not, ◌||◌, ltb, List, length, take, drop, nat_lt, slice_index}
use Rattle.std.proofs.Math.Path.{refl, sym, ap}
use Rattle.std.proofs.lemmas.Option.{none-some, same_Some}
use Rattle.std.proofs.Common.{◌∙◌, arith, length-drop, take_all, length-take-le}
use Rattle.std.proofs.Math.Option.{Option, none, some}
use borrow.Author.Tests.{lt-ltb, le-ltb}
use Rattle.model.specs.Text.{words}
use Rattle.model.specs.Word.{Name}
use Rattle.model.specs.Expression.{Expression, field, Operator, apply, token_of, Parsed, parsed, unread, and_then, from, read_levels, operate, value_of}
use Rattle.model.specs.Library.{member_place}
use Rattle.model.specs.Fault.{strange}
use Rattle.text_lex.specs.Scan.{is_byte, before, before_le}
use Rattle.text_lex.specs.Piece.{words_after, span, pieces_after_law, span_after}
use Rattle.text_syntax.specs.declared.token.Operator.{Operator as OperatorAnswer}
use Rattle.text_syntax.specs.declared.token.Leaf.{Leaf as LeafAnswer}
use Rattle.text_syntax.specs.declared.token.Token.{Token as TokenAnswer}
use Rattle.text_syntax.specs.declared.token.Token.TheVariants.{Sign, Single}
use Rattle.text_syntax.specs.Tokens.{said_operator, said_leaf, said_token}
use Rattle.text_syntax.specs.Reading.{placed, Tail, Left, tail_after, tail_words, left_behind, placed_part, part_within, first_token, first_within}
use Rattle.catalog.specs.View.{member_count, members_of, class_of}
use Rattle.catalog.specs.Look.{member_count_law, among_place}
use Rattle.machine_words.specs.Turn.{field_in, value_in}
use Rattle.machine_evaluate.specs.declared.Value.{Value}
use Rattle.machine_evaluate.specs.declared.Scope.{Scope}
use Rattle.std.specs.Prelude as rust
use Rattle.std.specs.Prelude.{Some, None}

-- A value, if there is one, with the place after its expression.
abbrev pub valued_at : Option ℕ → ℕ → rust.Option Value
valued_at none m = None
valued_at (some v) m = Some (record { number = v; end = m })

-- The value of what was read at the front of s, and the place in s after it.
abbrev pub valued : (Expression → Option ℕ) → List ℕ → Parsed → rust.Option Value
valued value s (parsed e ws) = valued_at (value e) (length s - span ws)
valued value s unread = None

-- The operator's result for a first operand and the second, with the place after the second.
abbrev pub joined : Operator → ℕ → rust.Option Value → rust.Option Value
joined o x (Some y) = Some (record { number = operate o x y.number; end = y.end })
joined o x None = None

-- The same value, with its place moved on by n bytes.
abbrev pub moved : ℕ → rust.Option Value → rust.Option Value
moved n (Some v) = Some (record { number = v.number; end = n + v.end })
moved n None = None

-- The value of an expression in a scope.
abbrev pub value_here : Scope → Expression → Option ℕ
value_here c = value_in c.text.now c.tables.now c.class c.own.now c.arg c.got

-- ---- what an expression's value is made of

-- The operator's result for two values; none where one of them is missing.
abbrev pub operated : Operator → Option ℕ → Option ℕ → Option ℕ
operated o none y = none
operated o (some x) none = none
operated o (some x) (some y) = some (operate o x y)

module _ (text tables : List ℕ) (c : ℕ) (own : List ℕ) (arg got : ℕ) where
  pub apply_value : (o : Operator) (a b : Expression)
      → value_in text tables c own arg got (apply o a b) ≡ operated o (value_in text tables c own arg got a) (value_in text tables c own arg got b)
  unfolding value_in
  apply_value o a b =
      go (strange (class_of text tables c) a) (strange (class_of text tables c) b)
      (value_of (field_in text tables c own) arg got a) (value_of (field_in text tables c own) arg got b)
    where
      go : (t u : Bool) (x y : ℕ) → cond (t || u) none (some (operate o x y)) ≡ operated o (cond t none (some x)) (cond u none (some y))
      go true u x y = refl
      go false true x y = refl
      go false false x y = refl

  -- The field f, found at place k of n.
  module _ (f : Name) (k n : ℕ) (e : k ≡ member_place (members_of text tables c 0) f) (q : n ≡ member_count tables c 0) where
    field_strange : strange (class_of text tables c) (field f) ≡ not (nat_lt k n)
    unfolding strange class_of
    field_strange =
        ap not (among_place (members_of text tables c 0) f ∙ (λ i. ltb (sym e i) ((member_count_law text tables c 0 ∙ sym q) i)))

    pub field_there : k < n → value_in text tables c own arg got (field f) ≡ some (slice_index own k)
    unfolding value_in
    field_there h = rw (field_strange, lt-ltb k n h, ← e)

    pub field_none : n ≤ k → value_in text tables c own arg got (field f) ≡ none
    unfolding value_in
    field_none h = rw (field_strange, le-ltb k n h)

-- ---- what was read, and its value and place

-- A value that was found is the expression's, with the place after it.
pub found_value : (x : Option ℕ) (n : ℕ) (v : Value) → Some v ≡ valued_at x n → (x ≡ some v.number) × (v.end ≡ n)
found_value none n v q = absurd (none-some v (sym q))
found_value (some w) n v q = let e = same_Some v (record { number = w; end = n }) q in (ap (λ (u : Value). some u.number) (sym e), ap (λ (u : Value). u.end) e)

pub not_found : (x : Option ℕ) (n : ℕ) → None ≡ valued_at x n → x ≡ none
not_found none n q = refl
not_found (some v) n q = cc

module _ (value : Expression → Option ℕ) (s : List ℕ) where
  -- The place of a value is the place after its expression.
  pub value_placed : (p : Parsed) (v : Value) → Some v ≡ valued value s p → Some v.end ≡ placed s p
  value_placed (parsed e ws) v q = ap Some (found_value (value e) (length s - span ws) v q).1
  value_placed unread v q = absurd (none-some v (sym q))

  value_part : (n : ℕ) (p : Parsed) → n ≤ length s → Tail (drop n s) p → moved n (valued value (drop n s) p) ≡ valued value s p
  value_part n unread h t = refl
  value_part n (parsed e ws) h t =
      let q = placed_part s n (parsed e ws) h t in
      let k : n + (length (drop n s) - span ws) ≡ length s - span ws = cc in
      go (value e) (length (drop n s) - span ws) ∙ ap (valued_at (value e)) k
    where
      go : (x : Option ℕ) (m : ℕ) → moved n (valued_at x m) ≡ valued_at x (n + m)
      go none m = refl
      go (some v) m = refl

  -- An operand after the place i, read in the part from i + 1 on.
  pub operand_value : (k i : ℕ) → i < length s
      → moved (i + 1) (valued value (take (length s - (i + 1)) (drop (i + 1) s)) (read_levels k (words (take (length s - (i + 1)) (drop (i + 1) s)))))
      ≡ valued value s (read_levels k (words_after (drop i s)))
  operand_value k i h =
      let n = i + 1 in
      rw (take_all (length s - n) (drop n s) (omega (arith, length-drop n s)), pieces_after_law 32 s i h)
      (value_part n (read_levels k (words (drop n s))) (omega arith) (tail_words (drop n s) k))

  -- An operator's result is made of its operands' values.
  module _ (law : (o : Operator) (a b : Expression) → value (apply o a b) ≡ operated o (value a) (value b)) where
    second_value : (o : Operator) (a : Expression) (x : ℕ) → value a ≡ some x → (p : Parsed)
        → joined o x (valued value s p) ≡ valued value s (and_then p (λ b behind. parsed (apply o a b) behind))
    second_value o a x e unread = refl
    second_value o a x e (parsed b ws) = rw (law o a b, e) (go (value b) (length s - span ws))
      where
        go : (y : Option ℕ) (n : ℕ) → joined o x (valued_at y n) ≡ valued_at (operated o (some x) y) n
        go none n = refl
        go (some y) n = refl

    two_values : (k : ℕ) (x : Value) (o : Operator) (p : Parsed) → Left s x.end p → Some x ≡ valued value s p
        → joined o x.number (valued value s (read_levels k (words_after (drop x.end s))))
        ≡ valued value s (and_then p (λ a rest. and_then (read_levels k rest) (λ b behind. parsed (apply o a b) behind)))
    two_values k x o unread l q = absurd l
    two_values k x o (parsed a ws) l q =
        rw l.1 (second_value o a x.number (found_value (value a) (length s - span ws) x q).0 (read_levels k (words_after (drop x.end s))))

    none_then : (o : Operator) (a : Expression) → value a ≡ none → (p : Parsed)
        → None ≡ valued value s (and_then p (λ b behind. parsed (apply o a b) behind))
    none_then o a e unread = refl
    none_then o a e (parsed b ws) = rw (law o a b, e)

    no_values : (k : ℕ) (o : Operator) (p : Parsed) → None ≡ valued value s p
        → None ≡ valued value s (and_then p (λ a rest. and_then (read_levels k rest) (λ b behind. parsed (apply o a b) behind)))
    no_values k o unread q = refl
    no_values k o (parsed a ws) q = none_then o a (not_found (value a) (length s - span ws) q) (read_levels k ws)

-- The place of a value in the part from n on is within the whole.
pub value_within : (value : Expression → Option ℕ) (s : List ℕ) (n : ℕ) (p : Parsed) (v : Value) → n ≤ length s
    → Some v ≡ valued value (take (length s - n) (drop n s)) p → n + v.end ≤ length s
value_within value s n p v h q = part_within s n p v.end h (value_placed value (take (length s - n) (drop n s)) p v q)

-- An expression of at most n levels, whose first word ends at e and has the token that `token_of` answered.
module _ (value : Expression → Option ℕ) (s : List ℕ) (n e : ℕ) (h : n ≡ 0 → ⊥) (q : e ≡ 0 + before (is_byte 32) s) where
  module _ (t : rust.Option TokenAnswer) (r : said_token (take e s) t ≡ token_of (take e s)) where
    by_token : (u : rust.Option TokenAnswer) → t ≡ u
        → valued value s (from (read_levels (n - 1)) (said_token (take e s) u) (words_after (drop e s))) ≡ valued value s (read_levels n (words s))
    by_token u k = sym (ap (valued value s) (first_token s n e h q (said_token (take e s) u) (sym r ∙ ap (said_token (take e s)) k)))

    module _ (law : (o : Operator) (a b : Expression) → value (apply o a b) ≡ operated o (value a) (value b)) (o : OperatorAnswer) (k : t ≡ Some (Sign o)) where
      pub value_of_two : (x : Value) → Some x ≡ valued value s (read_levels (n - 1) (words_after (drop e s)))
          → joined (said_operator o) x.number (valued value s (read_levels (n - 1) (words_after (drop x.end s)))) ≡ valued value s (read_levels n (words s))
      value_of_two x f =
          let p = read_levels (n - 1) (words_after (drop e s)) in
          two_values value s law (n - 1) x (said_operator o) p (left_behind s p x.end (tail_after s (n - 1) e) (value_placed value s p x f)) f
          ∙ by_token (Some (Sign o)) k

      pub value_of_one : None ≡ valued value s (read_levels (n - 1) (words_after (drop e s))) → None ≡ valued value s (read_levels n (words s))
      value_of_one f = no_values value s law (n - 1) (said_operator o) (read_levels (n - 1) (words_after (drop e s))) f ∙ by_token (Some (Sign o)) k

    pub value_of_leaf : (x : LeafAnswer) → t ≡ Some (Single x) → valued_at (value (said_leaf (take e s) x)) (length (take e s)) ≡ valued value s (read_levels n (words s))
    value_of_leaf x k =
        let w = first_within s n e h q in
        let m : length (take e s) ≡ length s - span (words_after (drop e s)) = omega (arith, length-take-le e s w, span_after 32 (drop e s), length-drop e s) in
        ap (valued_at (value (said_leaf (take e s) x))) m ∙ by_token (Some (Single x)) k

    pub value_of_none : t ≡ None → None ≡ valued value s (read_levels n (words s))
    value_of_none k = by_token None k

-- The first piece of s, which ends at e, is e bytes long.
pub first_length : (d : ℕ) (s : List ℕ) (e : ℕ) → e ≡ 0 + before (is_byte d) s → e ≡ length (take e s)
first_length d s e h = sym (length-take-le e s (omega (arith, before_le (is_byte d) s)))
