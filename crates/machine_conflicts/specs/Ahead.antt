-- The line as the code reads it: its count, its first places one by one, and a waiting send.
use Rattle.std.specs.Prelude.{ℕ, ◌+◌, ◌*◌, ◌%◌, ◌≤◌, ◌<◌, ◌≡◌, refl, Bool, true, false, cond, List, length, get_or, drop, eqb, ltb}
use Rattle.std.proofs.Common.{arith, sym, ap, ◌∙◌, length-take, length-drop, get_or-take, get_or-drop, ext_get_or}
use borrow.Author.Tests.{eq-eqb, ne_eqb, lt-ltb, le-ltb, ltb-true, ltb-false}
use Rattle.layout.specs.Layout.{names_at, kind_words, method_names_at, object_class_at, kind_at, number_at, argument_at, place_at, line_at, first_in_line_at, state_words}
use Rattle.model.specs.Base.{any, upto}
use Rattle.catalog.specs.View.{object_word, class_word}
use Rattle.laws.specs.Lists.{both_left}
use Rattle.laws.specs.Upto.{length_upto, get_d_upto}
use Rattle.machine_words.specs.Request.{Wanted, wanted, class_for}
use Rattle.machine_words.specs.Line.{row_of, phase_of, wanted_in, count_in, first_in_line, slot_at, is_waiting, waits_ahead}

-- The lesser of the count and 8.
pub count_is : (ws : List ℕ) (n m : ℕ) → n ≡ get_or ws line_at 0 → (8 < n → m ≡ 8) → (n ≤ 8 → m ≡ n) → m ≡ count_in ws
unfolding count_in
count_is ws n m e most few = rw (← e) (go (ltb 8 n) refl)
  where
    go : (b : Bool) → ltb 8 n ≡ b → m ≡ cond b 8 n
    go true b = most (ltb-true 8 n b)
    go false b = few (ltb-false 8 n b)

pub count_le : (ws : List ℕ) → count_in ws ≤ 8
unfolding count_in
count_le ws = go (ltb 8 (get_or ws line_at 0)) refl
  where
    go : (b : Bool) → ltb 8 (get_or ws line_at 0) ≡ b → cond b 8 (get_or ws line_at 0) ≤ 8
    go true b = omega arith
    go false b = ltb-false 8 (get_or ws line_at 0) b

-- The first n places.
pub line_upto : (ws : List ℕ) (n : ℕ) → state_words ≤ length ws → n ≤ 8 → upto (slot_at ws) n ≡ first_in_line ws n
line_upto ws n long h =
    let size : length (first_in_line ws n) ≡ n = omega (arith, length-take n (drop first_in_line_at ws), length-drop first_in_line_at ws) in
    ext_get_or 0 (upto (slot_at ws) n) (first_in_line ws n) (length_upto (slot_at ws) n ∙ sym size)
    (λ i l. let k : i < n = omega (arith, length_upto (slot_at ws) n) in
    get_d_upto (slot_at ws) n i 0 k ∙ sym (get_or-take n (drop first_in_line_at ws) i 0 k ∙ get_or-drop first_in_line_at ws i 0))

-- Its class, by the kind of its target.
module _ (tables : List ℕ) (kind n : ℕ) where
  pub class_one : (c : ℕ) → kind ≡ 0 → c ≡ object_word tables n object_class_at → c ≡ class_for tables kind n
  unfolding class_for
  class_one c z e = e ∙ rw (eq-eqb kind 0 z)

  pub class_own : (kind ≡ 0 → ⊥) → n ≡ class_for tables kind n
  unfolding class_for
  class_own z = rw (ne_eqb kind 0 z)

-- The send with its method's name from the word of the class.
pub wanted_by : (tables : List ℕ) (kind o c k a name : ℕ) → name ≡ class_word tables c (names_at + (1 * kind_words + k))
    → record { kind = kind; number = o; class = c; place = k; name = name % 1048576; argument = a } ≡ wanted tables kind o c k a
wanted_by tables kind o c k a name e =
    let at : names_at + (1 * kind_words + k) ≡ method_names_at + k = omega arith in
    ap (λ (n : ℕ). record { kind = kind; number = o; class = c; place = k; name = n % 1048576; argument = a }) (e ∙ ap (class_word tables c) at)

-- The send of the words that were read.
pub wanted_read : (tables waiting : List ℕ) (kind n k a c : ℕ) (q : Wanted) → kind ≡ get_or waiting kind_at 0 → n ≡ get_or waiting number_at 0 → k ≡ get_or waiting place_at 0
    → a ≡ get_or waiting argument_at 0 → c ≡ class_for tables kind n → q ≡ wanted tables kind n c k a → q ≡ wanted_in tables waiting
unfolding wanted_in
wanted_read tables waiting kind n k a c q p r s t u e =
    e ∙ ap (λ (x : ℕ). wanted tables kind n x k a) u ∙ (λ i. wanted tables (p i) (r i) (class_for tables (p i) (r i)) (s i) (t i))

-- ---- whether a slot waits

module _ (ws : List ℕ) (t : ℕ) where
  pub no_slot : 8 ≤ t → false ≡ is_waiting ws t
  unfolding is_waiting
  no_slot h = rw (le-ltb t 8 h)

  pub slot_waits : t < 8 → (f : ℕ) → f ≡ phase_of (row_of ws t) → eqb f 3 ≡ is_waiting ws t
  unfolding is_waiting
  slot_waits h f p = rw (lt-ltb t 8 h, ← p)

  pub waiting_slot : (b : Bool) → b ≡ is_waiting ws t → b ≡ true → t < 8
  unfolding is_waiting
  waiting_slot b e z = ltb-true t 8 (both_left (ltb t 8) (eqb (phase_of (row_of ws t)) 3) (sym e ∙ z))

  module _ (n : ℕ) (b : Bool) (e : b ≡ any (eqb t) (first_in_line ws n)) where
    pub not_ahead : b ≡ false → false ≡ waits_ahead ws n t
    unfolding waits_ahead
    not_ahead z = rw (← e, z)

    pub is_ahead : b ≡ true → is_waiting ws t ≡ waits_ahead ws n t
    unfolding waits_ahead
    is_ahead z = rw (← e, z)
