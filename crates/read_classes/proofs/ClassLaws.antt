-- A class line's fault as the code finds it: first of its names, then of its numbers of parents and members.
use Prim.Native.Nat.{ℕ, ◌≤◌}
use mathlib.Core.Path.{◌≡◌, refl, sym, ap, subst₂, ◌∙◌}
use mathlib.Core.Logic.{◌≢◌}
use mathlib.Core.Bool.{Bool, true, false, cond, ◌||◌}
use mathlib.Core.List.{List}
use native.Mathlib.Omega.{arith}
use lib.ListN.{length}
use lib.Dec.{eqb, leb, ltb}
use borrow.Author.Tests.{ne_eqb, leb-false, ltb-true, ltb-false}
use Rattle.layout.specs.Layout.{table_words}
use Rattle.model.specs.Word.{Name}
use Rattle.model.specs.Form.{Line, class_line}
use Rattle.model.specs.Library.{Library, inherited}
use Rattle.model.specs.Fault.{class_too_many, class_fault}
use Rattle.text_lex.specs.Piece.{end_after, end_after_none}
use Rattle.catalog.specs.View.{class_count, library_of}
use Rattle.catalog.specs.Look.{class_count_law}
use Rattle.read_parents.specs.Walk.{end_within_line}
use Rattle.read_parents.specs.Parents.{parent_fault, class_fault_law}
use Rattle.read_classes.specs.Took.{Took}
use Rattle.read_classes.specs.Made.{Free, member_fault}

one_by_one : (a b c : Bool) → ◌≡◌ {A = ℕ} (cond (a || b || c) 17 0) (cond a 17 (cond (b || c) 17 0))
one_by_one true b c = refl
one_by_one false b c = refl

-- There is room for a class where the first test fails.
pub free : (ws : List ℕ) (count : ℕ) (t : Bool) → count ≡ class_count ws → length ws ≡ table_words → (leb 16 count || t) ≡ false → Free ws
free ws count t e h k = record { classes = omega (arith, leb-false 16 count (left (leb 16 count) k)); words = h }
  where
    left : (a : Bool) → (a || t) ≡ false → a ≡ false
    left true z = z
    left false z = refl

-- No class is added where there is a fault.
refused : {l : Library} {line : Line} {n : Name} {ps : List Name} {fault r : ℕ} {after : Library} → r ≡ fault → r ≢ 0 → Took l line (class_line n ps) fault r after
refused e h = record { number = e; known = λ z. absurd (h z) }

module _ (text ws : List ℕ) (n : Name) (ps : List Name) (line : Line) where
  pub by_names : (r : ℕ) (m : Name) → r ≡ parent_fault (library_of text ws) m ps → m ≡ n → r ≢ 0 → (after : Library)
      → Took (library_of text ws) line (class_line n ps) (class_fault (library_of text ws) n ps) r after
  by_names r m e d h after =
      let l = library_of text ws in
      let k : r ≡ parent_fault l n ps = e ∙ ap (λ (x : Name). parent_fault l x ps) d in
      let t = ne_eqb (parent_fault l n ps) 0 (λ z. h (k ∙ z)) in
      refused (k ∙ sym (class_fault_law l n ps ∙ ap (λ (b : Bool). cond b (cond (class_too_many l ps) 17 0) (parent_fault l n ps)) t)) h

  module _ (r : ℕ) (m : Name) (e : r ≡ parent_fault (library_of text ws) m ps) (d : m ≡ n) (z : r ≡ 0) (count parents : ℕ) (c : count ≡ class_count ws)
      (k : parents ≡ length ps) where
    -- Where the names have no fault.
    rest : (t : Bool) → (leb 16 count || ltb 4 parents) ≡ t → class_fault (library_of text ws) n ps ≡ cond t 17 (member_fault (library_of text ws) ps)
    unfolding class_too_many member_fault
    rest t h =
        let l = library_of text ws in
        let f : parent_fault l n ps ≡ 0 = ap (λ (x : Name). parent_fault l x ps) (sym d) ∙ sym e ∙ z in
        let q : (leb 16 (length l.classes) || ltb 4 (length ps)) ≡ t = (λ i. leb 16 ((class_count_law text ws ∙ sym c) i) || ltb 4 (sym k i)) ∙ h in
        let fields = ltb 32 (length (inherited (λ c. c.fields) l ps)) in
        let methods = ltb 32 (length (inherited (λ c. c.methods) l ps)) in
        class_fault_law l n ps
        ∙ ap (λ (x : ℕ). cond (eqb x 0) (cond (class_too_many l ps) 17 0) x) f
        ∙ ap (λ (b : Bool). cond (b || fields || methods) 17 0) q
        ∙ one_by_one t fields methods

    pub too_many : (leb 16 count || ltb 4 parents) ≡ true → (after : Library)
        → Took (library_of text ws) line (class_line n ps) (class_fault (library_of text ws) n ps) 17 after
    too_many h after = refused (sym (rest true h)) (λ z. omega arith)

    pub by_members : (leb 16 count || ltb 4 parents) ≡ false → (s : ℕ) (after : Library)
        → Took (library_of text ws) line (class_line n ps) (member_fault (library_of text ws) ps) s after
        → Took (library_of text ws) line (class_line n ps) (class_fault (library_of text ws) n ps) s after
    by_members h s after t = record { number = t.number ∙ sym (rest false h); known = t.known }

-- A class line whose names are equal to the given ones.
pub took_named : (l : Library) (line : Line) {m n : Name} {qs ps : List Name} {r : ℕ} {after : Library} → m ≡ n → qs ≡ ps
    → Took l line (class_line m qs) (class_fault l m qs) r after → Took l line (class_line n ps) (class_fault l n ps) r after
took_named l line {r = r} {after = after} e d t = subst₂ (λ (x : Name) (xs : List Name). Took l line (class_line x xs) (class_fault l x xs) r after) e d t

pub end_after_within : (s : List ℕ) (p q : ℕ) → q ≡ end_after 32 s p → p ≤ length s → q ≤ length s
end_after_within s p q e h = side (ltb p (length s)) refl
  where
    side : (t : Bool) → ltb p (length s) ≡ t → q ≤ length s
    side true t = omega (arith, end_within_line s p (ltb-true p (length s) t) q e)
    side false t = omega (arith, end_after_none 32 s p (ltb-false p (length s) t))
