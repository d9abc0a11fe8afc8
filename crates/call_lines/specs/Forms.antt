-- A call line by its words as the code reads them: a missing word counts as empty, and an empty word is nothing.
use Rattle.std.specs.Prelude.{ℕ, ◌+◌, ◌≡◌, refl, Bool, true, false, cond, ◌&&◌, List, [], ◌∷◌, take, drop}
use Rattle.std.proofs.Common.{sym, ap, ◌∙◌, arith}
use Rattle.std.proofs.Math.Option.{Option, none, some}
use Rattle.model.specs.Base.{bytes, same}
use Rattle.model.specs.Text.{words}
use Rattle.model.specs.Word.{Name, is_name, is_number, decimal}
use Rattle.model.specs.Rehearsal.{CallLine, at_object, at_class, at_domain, step_line, commit_line, abort_line, send_line, slot_form, send_form, call_line}
use Rattle.text_lex.specs.Number.{number_of}
use Rattle.text_lex.specs.Scan.{is_byte, before}
use Rattle.text_lex.specs.Piece.{words_after, first, others, is_empty, first_piece}

-- A send, by its argument, where the words around it are of the right form.
abbrev pub send_by : List ℕ → ℕ → Name → Name → Bool → Option ℕ → Option CallLine
send_by k s n m formed none = none
send_by k s n m formed (some a) = cond formed (send_form k s n m a) none

-- The words after the slot of a line that has some: a name, a method, an argument, and nothing more.
abbrev pub send_after : List ℕ → ℕ → List (List ℕ) → Option CallLine
send_after k s ws =
    let n = first ws in
    let m = first (others ws) in
    send_by k s n m (is_name n && is_name m && is_empty (others (others (others ws)))) (number_of (first (others (others ws))))

-- A line by its slot and the words after that.
abbrev pub slot_then : List ℕ → Option ℕ → List (List ℕ) → Option CallLine
slot_then k none ws = none
slot_then k (some s) [] = slot_form k s
slot_then k (some s) (n ∷ ws) = send_after k s (n ∷ ws)

-- A line by its keyword and the words after it.
abbrev pub line_after : List ℕ → List (List ℕ) → Option CallLine
line_after k ws = slot_then k (number_of (first ws)) (others ws)

-- A line of two words, by whether the second is a number.
two_words : (k s : List ℕ) → call_line (k ∷ s ∷ []) ≡ slot_then k (number_of s) []
unfolding call_line number_of
two_words k s = go (is_number s)
  where
    go : (t : Bool) → cond t (slot_form k (decimal 0 s)) none ≡ slot_then k (cond t (some (decimal 0 s)) none) []
    go true = refl
    go false = refl

-- A line of five words.
five_words : (k s n m a : List ℕ) → call_line (k ∷ s ∷ n ∷ m ∷ a ∷ []) ≡ slot_then k (number_of s) (n ∷ m ∷ a ∷ [])
unfolding call_line number_of
five_words k s n m a = outer (is_number s)
  where
    call : Option CallLine
    call = send_form k (decimal 0 s) n m (decimal 0 a)

    inner : (y z u : Bool) → cond (y && z && u) call none ≡ send_by k (decimal 0 s) n m (y && z && true) (cond u (some (decimal 0 a)) none)
    inner false z false = refl
    inner false z true = refl
    inner true false false = refl
    inner true false true = refl
    inner true true false = refl
    inner true true true = refl

    outer : (x : Bool) → cond (x && is_name n && is_name m && is_number a) call none ≡ slot_then k (cond x (some (decimal 0 s)) none) (n ∷ m ∷ a ∷ [])
    outer true = inner (is_name n) (is_name m) (is_number a)
    outer false = refl

-- A line of any other number of words.
module _ (k : List ℕ) (ns : List (List ℕ)) (none-for : (s : ℕ) → slot_then k (some s) ns ≡ none) where
  no_form : (o : Option ℕ) → none ≡ slot_then k o ns
  no_form none = refl
  no_form (some s) = sym (none-for s)

more_words : (k : List ℕ) (s : ℕ) (n m a b : List ℕ) (ws : List (List ℕ)) → slot_then k (some s) (n ∷ m ∷ a ∷ b ∷ ws) ≡ none
more_words k s n m a b ws = go (is_name n) (is_name m) (number_of a)
  where
    go : (x y : Bool) (o : Option ℕ) → send_by k s n m (x && y && false) o ≡ none
    go x y none = refl
    go true true (some v) = refl
    go true false (some v) = refl
    go false y (some v) = refl

pub line_after_law : (k : List ℕ) (ws : List (List ℕ)) → call_line (k ∷ ws) ≡ line_after k ws
unfolding call_line number_of is_number
line_after_law k [] = refl
line_after_law k (s ∷ []) = two_words k s
line_after_law k (s ∷ n ∷ []) = no_form k (n ∷ []) (λ v. refl) (number_of s)
line_after_law k (s ∷ n ∷ m ∷ []) = no_form k (n ∷ m ∷ []) (λ v. refl) (number_of s)
line_after_law k (s ∷ n ∷ m ∷ a ∷ []) = five_words k s n m a
line_after_law k (s ∷ n ∷ m ∷ a ∷ b ∷ ws) = no_form k (n ∷ m ∷ a ∷ b ∷ ws) (λ v. more_words k v n m a b ws) (number_of s)

-- ---- words found one by one

-- The keyword and the slot: `e` is where the keyword ends.
pub line_slot : (line : List ℕ) (e : ℕ) → e ≡ 0 + before (is_byte 32) line → {w : List ℕ} {o : Option ℕ} → w ≡ first (words_after (drop e line)) → o ≡ number_of w
    → call_line (words line) ≡ slot_then (take e line) o (others (words_after (drop e line)))
line_slot line e h k f =
    let ws = words_after (drop e line) in
    ap call_line (first_piece 32 line e h)
    ∙ line_after_law (take e line) ws
    ∙ (λ i. slot_then (take e line) (sym (f ∙ ap number_of k) i) (others ws))

-- Words follow the slot.
pub slot_more : (k : List ℕ) (s : ℕ) (ws : List (List ℕ)) {n : List ℕ} {ns : List (List ℕ)} → ws ≡ n ∷ ns → slot_then k (some s) ws ≡ send_after k s ws
slot_more k s [] e = let z : ◌≡◌ {A = ℕ} 0 1 = cc in absurd (omega arith)
slot_more k s (w ∷ ws) e = refl

-- The words after the slot.
pub send_found : (k : List ℕ) (s : ℕ) (ws : List (List ℕ)) {n m : Name} {formed : Bool} {o : Option ℕ} → n ≡ first ws → m ≡ first (others ws)
    → formed ≡ (is_name n && is_name m && is_empty (others (others (others ws)))) → o ≡ number_of (first (others (others ws))) → send_after k s ws ≡ send_by k s n m formed o
send_found k s ws {n} {m} en em et eo =
    (λ i. send_by k s (sym en i) (sym em i) (is_name (sym en i) && is_name (sym em i) && is_empty (others (others (others ws)))) (number_of (first (others (others ws)))))
    ∙ (λ i. send_by k s n m (sym et i) (sym eo i))

-- ---- the keywords

module _ (k : List ℕ) (s : ℕ) where
  pub slot_step : same k (bytes "step") ≡ true → slot_form k s ≡ some (step_line s)
  slot_step e = rw e

  module _ (t : same k (bytes "step") ≡ false) where
    pub slot_commit : same k (bytes "commit") ≡ true → slot_form k s ≡ some (commit_line s)
    slot_commit e = rw (t, e)

    module _ (c : same k (bytes "commit") ≡ false) where
      pub slot_abort : same k (bytes "abort") ≡ true → slot_form k s ≡ some (abort_line s)
      slot_abort e = rw (t, c, e)

      pub slot_none : same k (bytes "abort") ≡ false → slot_form k s ≡ none
      slot_none e = rw (t, c, e)

module _ (k : List ℕ) (s : ℕ) (n m : Name) (a : ℕ) where
  pub send_object : same k (bytes "send") ≡ true → send_form k s n m a ≡ some (send_line s (at_object n) m a)
  send_object e = rw e

  module _ (x : same k (bytes "send") ≡ false) where
    pub send_class : same k (bytes "all") ≡ true → send_form k s n m a ≡ some (send_line s (at_class n) m a)
    send_class e = rw (x, e)

    module _ (y : same k (bytes "all") ≡ false) where
      pub send_domain : same k (bytes "tree") ≡ true → send_form k s n m a ≡ some (send_line s (at_domain n) m a)
      send_domain e = rw (x, y, e)

      pub send_none : same k (bytes "tree") ≡ false → send_form k s n m a ≡ none
      send_none e = rw (x, y, e)
