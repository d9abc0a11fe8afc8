-- A member appended to a row, or joined to it: what the tables then hold, for each branch of the code.
use Prim.Native.Nat.{ℕ, ◌+◌, ◌≤◌, ◌<◌}
use mathlib.Core.Path.{◌≡◌, sym, ap, subst, ◌∙◌}
use mathlib.Core.Bool.{Bool, true, false, false≢true}
use mathlib.Core.List.{List, [], ◌∷◌, ◌++◌}
use native.Mathlib.Omega.{arith}
use lib.ListN.{length, length-append}
use borrow.Author.Tests.{lt-ltb, le-ltb}
use Rattle.model.specs.Library.{among}
use Rattle.catalog.specs.View.{name_of, member_count, member_in, members_of}
use Rattle.catalog.specs.Rows.{with_member, with_count, members_added}
use Rattle.catalog.specs.Frames.{kept_refl, kept_then, kept_member, kept_count}
use Rattle.catalog.specs.Look.{member_count_law}
use Rattle.read_classes.specs.Joins.{Room, Appended, MemberJoined, joined_present, joined_new, joined_from, joined_done}

module _ (text ws : List ℕ) (c p w b : ℕ) where
  pub append_full : 32 ≤ member_count ws c p → Appended text ws c p w b true ws
  append_full h = record {
    kept = kept_refl ws c p;
    many =
        sym
        (lt-ltb 32 (length (members_of text ws c p ++ (member_in text w b ∷ [])))
        (omega (arith, length-append (members_of text ws c p) (member_in text w b ∷ []), member_count_law text ws c p)));
    made = λ z. absurd (false≢true (sym z));
  }

  pub append_made : Room ws c p → (n : ℕ) → n ≡ member_count ws c p → n < 32 → (ws₁ ws' : List ℕ) → ws₁ ≡ with_member ws c p n w b → ws' ≡ with_count ws₁ c p (n + 1)
      → Appended text ws c p w b false ws'
  append_made r n e h ws₁ ws' d k =
      subst (λ (t : List ℕ). Appended text ws c p w b false t)
      (sym (k ∙ ap (λ (t : List ℕ). with_count t c p (n + 1)) d))
      (record {
        kept = kept_then (kept_member ws c p r.kind n w b h) (kept_count (with_member ws c p n w b) c p r.kind (n + 1));
        many =
            sym
            (le-ltb 32 (length (members_of text ws c p ++ (member_in text w b ∷ [])))
            (omega (arith, length-append (members_of text ws c p) (member_in text w b ∷ []), member_count_law text ws c p)));
        made = λ z. members_added text ws c p n w b (omega arith) e h;
      })

  pub add_present : among (members_of text ws c p) (name_of text w) ≡ true → MemberJoined text ws c p w b false ws
  add_present e = joined_done text ws c p _ (sym (joined_present (members_of text ws c p) (member_in text w b) e))

  pub add_new : {over : Bool} {ws' : List ℕ} → among (members_of text ws c p) (name_of text w) ≡ false → Appended text ws c p w b over ws'
      → MemberJoined text ws c p w b over ws'
  add_new e t = joined_from (kept_refl ws c p) (sym (joined_new (members_of text ws c p) (member_in text w b) e)) t
