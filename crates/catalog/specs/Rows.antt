-- Storing a member in a class: the row of its fields or methods with the member replacing another, or added.
use Rattle.std.specs.Prelude.{ℕ, ◌+◌, ◌*◌, ◌<◌, ◌≡◌, ◌≢◌, List, [], ◌∷◌, ◌++◌, length, set}
use Rattle.std.proofs.Math.Path.{ap, ap₂}
use Rattle.std.proofs.Common.{◌∙◌}
use native.Mathlib.Omega.{arith}
use Rattle.std.proofs.Math.ListN.{get_or, length-set}
use Rattle.std.proofs.Math.Seq.{get_or-set_same, get_or-set_other}
use Rattle.layout.specs.Layout.{names_at, bodies_at, kind_words, class_words, classes_at}
use Rattle.model.specs.Base.{upto, alter}
use Rattle.model.specs.Library.{Member}
use Rattle.catalog.specs.View.{class_word, member_count, member_in, member_at, members_of}
use Rattle.laws.specs.Upto.{upto_grown, upto_alter}
use Rattle.catalog.specs.Store.{member_same}

-- The places of the words of member j, and of the word that counts a row.
abbrev pub name_place : ℕ → ℕ → ℕ → ℕ
name_place k p j = classes_at + (k * class_words + (names_at + (p * kind_words + j)))

abbrev pub body_place : ℕ → ℕ → ℕ → ℕ
body_place k p j = classes_at + (k * class_words + (bodies_at + (p * kind_words + j)))

abbrev pub count_place : ℕ → ℕ → ℕ
count_place k p = classes_at + (k * class_words + (1 + p))

-- The tables with the words of member j set, and with a count set.
abbrev pub with_member : List ℕ → ℕ → ℕ → ℕ → ℕ → ℕ → List ℕ
with_member ws k p j w b = set (set ws (name_place k p j) w) (body_place k p j) b

abbrev pub with_count : List ℕ → ℕ → ℕ → ℕ → List ℕ
with_count ws k p n = set ws (count_place k p) n

module _ (text ws : List ℕ) (k p j w b : ℕ) where
  pub member_here : body_place k p j < length ws → member_at text (with_member ws k p j w b) k p j ≡ member_in text w b
  unfolding member_at class_word
  member_here h =
      ap₂ (member_in text)
      (get_or-set_other (set ws (name_place k p j) w) (body_place k p j) (name_place k p j) b 0 (λ e. omega arith) ∙ get_or-set_same ws (name_place k p j) w 0 (omega arith))
      (get_or-set_same (set ws (name_place k p j) w) (body_place k p j) b 0 (omega (arith, length-set ws (name_place k p j) w)))

  pub member_other : (i : ℕ) → i < 32 → j < 32 → i ≢ j → member_at text (with_member ws k p j w b) k p i ≡ member_at text ws k p i
  unfolding class_word
  member_other i h l d =
      member_same text ws (with_member ws k p j w b) k p i
      (apart (name_place k p i) (λ e. d (omega arith)) (λ e. omega arith))
      (apart (body_place k p i) (λ e. omega arith) (λ e. d (omega arith)))
    where
      apart : (a : ℕ) → a ≢ name_place k p j → a ≢ body_place k p j → get_or (with_member ws k p j w b) a 0 ≡ get_or ws a 0
      apart a n m = get_or-set_other (set ws (name_place k p j) w) (body_place k p j) a b 0 m ∙ get_or-set_other ws (name_place k p j) a w 0 n

  pub members_altered : body_place k p j < length ws → j < member_count ws k p
      → members_of text (with_member ws k p j w b) k p ≡ alter j (λ m. member_in text w b) (members_of text ws k p)
  unfolding members_of member_count class_word
  members_altered h l =
      let ws' = with_member ws k p j w b in
      let e =
      get_or-set_other (set ws (name_place k p j) w) (body_place k p j) (count_place k p) b 0 (λ q. omega arith)
      ∙ get_or-set_other ws (name_place k p j) (count_place k p) w 0 (λ q. omega arith) in
      let n : member_count ws' k p ≡ member_count ws k p = omega arith in
      ap (upto (member_at text ws' k p)) n
      ∙ upto_alter (member_at text ws k p) (member_at text ws' k p) (λ m. member_in text w b) (member_count ws k p) j l (member_here h)
      (λ i q d. member_other i (omega arith) (omega arith) d)

  pub members_added : body_place k p j < length ws → j ≡ member_count ws k p → j < 32
      → members_of text (with_count (with_member ws k p j w b) k p (j + 1)) k p ≡ members_of text ws k p ++ (member_in text w b ∷ [])
  unfolding members_of member_count class_word
  members_added h e l =
      let ws₁ = with_member ws k p j w b in
      let ws' = with_count ws₁ k p (j + 1) in
      let s =
      get_or-set_same ws₁ (count_place k p) (j + 1) 0
      (omega (arith, length-set (set ws (name_place k p j) w) (body_place k p j) b, length-set ws (name_place k p j) w)) in
      upto_grown (member_at text ws k p) (member_at text ws' k p) j (member_count ws' k p) (omega arith)
      (λ i q. counted i ∙ member_other i (omega arith) l (λ z. omega arith))
      ∙ ap₂ (λ (n : ℕ) (m : Member). upto (member_at text ws k p) n ++ (m ∷ [])) e (counted j ∙ member_here h)
    where
      counted : (i : ℕ) → member_at text (with_count (with_member ws k p j w b) k p (j + 1)) k p i ≡ member_at text (with_member ws k p j w b) k p i
      counted i =
          member_same text (with_member ws k p j w b) (with_count (with_member ws k p j w b) k p (j + 1)) k p i
          (get_or-set_other (with_member ws k p j w b) (count_place k p) (name_place k p i) (j + 1) 0 (λ q. omega arith))
          (get_or-set_other (with_member ws k p j w b) (count_place k p) (body_place k p i) (j + 1) 0 (λ q. omega arith))
