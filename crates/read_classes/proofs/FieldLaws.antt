-- Adding a field to a class, and the two ways in which it is refused.
use Prim.Native.Nat.{ℕ, ◌+◌}
use mathlib.Core.Path.{◌≡◌, refl, sym, ◌∙◌}
use mathlib.Core.Bool.{Bool, true, false, cond}
use mathlib.Core.List.{List, [], ◌∷◌, ◌++◌}
use native.Mathlib.Omega.{arith}
use lib.ListN.{length, length-append}
use lib.Dec.{leb}
use borrow.Author.Tests.{le-leb, lt-leb, ltb-true, ltb-false}
use Rattle.model.specs.Library.{among, with_field}
use Rattle.model.specs.Fault.{field_fault}
use Rattle.catalog.specs.View.{name_of, member_in, members_of, class_of}
use Rattle.laws.specs.Bits.{bit}
use Rattle.catalog.specs.Frames.{kept_word, kept_methods}
use Rattle.read_classes.specs.Made.{FieldAdded}
use Rattle.read_classes.specs.Joins.{Appended}

module _ (text ws : List ℕ) (c w : ℕ) where
  fault : {a b : Bool} → among (members_of text ws c 0) (name_of text w) ≡ a → leb 32 (length (members_of text ws c 0)) ≡ b
      → cond a 13 (cond b 17 0) ≡ field_fault (class_of text ws c) (name_of text w)
  unfolding field_fault class_of
  fault p q = λ i. cond (sym p i) 13 (cond (sym q i) 17 0)

  pub field_known : among (members_of text ws c 0) (name_of text w) ≡ true → (ws' : List ℕ)
      → FieldAdded text ws c w 13 ws'
  field_known e ws' = record { number = fault e refl; around = λ z. absurd (omega arith); class = λ z. absurd (omega arith) }

  module _ (e : among (members_of text ws c 0) (name_of text w) ≡ false) (over : Bool) (ws' : List ℕ)
      (t : Appended text ws c 0 w 0 over ws') where
    one_more : length (members_of text ws c 0 ++ (member_in text w 0 ∷ [])) ≡ length (members_of text ws c 0) + 1
    one_more = length-append (members_of text ws c 0) (member_in text w 0 ∷ [])

    pub field_over : over ≡ true → FieldAdded text ws c w 17 ws'
    field_over z =
        let k = ltb-true 32 (length (members_of text ws c 0 ++ (member_in text w 0 ∷ []))) (sym t.many ∙ z) in
        record {
          number = fault e (le-leb 32 (length (members_of text ws c 0)) (omega (arith, one_more)));
          around = λ y. absurd (omega arith);
          class = λ y. absurd (omega arith);
        }

    pub field_made : over ≡ false → FieldAdded text ws c w 0 ws'
    unfolding class_of with_field
    field_made z =
        let k = ltb-false 32 (length (members_of text ws c 0 ++ (member_in text w 0 ∷ []))) (sym t.many ∙ z) in
        record {
          number = fault e (lt-leb 32 (length (members_of text ws c 0)) (omega (arith, one_more)));
          around = λ y. t.kept.around;
          class = λ y i. record {
            name = name_of text (kept_word t.kept 0 (omega arith) (λ q. omega arith) i);
            ancestors = bit (kept_word t.kept 3 (omega arith) (λ q. omega arith) i);
            fields = t.made z i;
            methods = kept_methods text t.kept i;
            latest = kept_word t.kept 4 (omega arith) (λ q. omega arith) i;
          };
        }
