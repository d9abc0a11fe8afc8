-- A loop over words that gathers the fields they mention: what is gathered, together with what the remaining words mention, is all.
use Rattle.std.specs.Prelude.{ℕ, ◌≡◌, Bool, false, ◌&&◌, ◌||◌}
use Rattle.std.proofs.Math.Path.{sym, ap, ap₂}
use Rattle.std.proofs.Common.{◌∙◌}
use Rattle.std.proofs.Math.Bool.{or-false, or_assoc}
use mathlib.Core.List.{List, [], ◌∷◌, map}
use Rattle.std.specs.Int.Bits.{bit_or}
use Rattle.model.specs.Base.{same}
use Rattle.model.specs.Word.{Name, is_name}
use Rattle.model.specs.Image.{mask}
use Rattle.vector_direct.specs.Masks.{mask_same, mask_none, mask_or}
use Rattle.vector_direct.specs.Mentions.{counts, mentions, mentions_behind}

pub record Gathered (fields : List Name) (keyword : List ℕ) (usual : Bool) (all : Name → Bool) (sum : ℕ) (on : Bool) (left : List (List ℕ)) : Type 0 where
  pub met : Name → Bool
  pub gathered : sum ≡ mask (map met fields)
  pub rest : (f : Name) → met f || mentions keyword usual f on left ≡ all f

module _ (fields : List Name) (keyword : List ℕ) (usual : Bool) where
  pub gather_none : (on : Bool) (w : List ℕ) (ws left : List (List ℕ)) → on ≡ counts keyword usual w → ws ≡ w ∷ left
      → Gathered fields keyword usual (mentions_behind keyword usual ws) 0 on left
  gather_none on w ws left e q = record {
    met = λ f. false;
    gathered = sym (mask_none fields);
    rest = λ f. ap (λ (t : Bool). mentions keyword usual f t left) e ∙ sym (ap (λ (vs : List (List ℕ)). mentions_behind keyword usual vs f) q);
  }

  module _ (all : Name → Bool) (sum : ℕ) (on : Bool) (ws : List (List ℕ)) (g : Gathered fields keyword usual all sum on ws) where
    pub gather_more : (w : List ℕ) (left : List (List ℕ)) (on' : Bool) (r : ℕ) → ws ≡ w ∷ left → on' ≡ counts keyword usual w
        → r ≡ mask (map (λ f. on && is_name w && same f w) fields) → Gathered fields keyword usual all (bit_or sum r) on' left
    unfolding mentions
    gather_more w left on' r q e k = record {
      met = λ f. g.met f || (on && is_name w && same f w);
      gathered = ap₂ bit_or g.gathered k ∙ mask_or g.met (λ f. on && is_name w && same f w) fields;
      rest = λ f.
          or_assoc (g.met f) (on && is_name w && same f w) (mentions keyword usual f on' left)
          ∙ ap (λ (t : Bool). g.met f || ((on && is_name w && same f w) || mentions keyword usual f t left)) e
          ∙ ap (λ (vs : List (List ℕ)). g.met f || mentions keyword usual f on vs) (sym q)
          ∙ g.rest f;
    }

    pub gather_end : ws ≡ [] → sum ≡ mask (map all fields)
    unfolding mentions
    gather_end q =
        g.gathered
        ∙ mask_same g.met all fields (λ f. sym (or-false (g.met f)) ∙ ap (λ (vs : List (List ℕ)). g.met f || mentions keyword usual f on vs) (sym q) ∙ g.rest f)
