-- What the masks of a vector represent: for each field of a class, whether its mode depends on it and whether its mode changes it.
use Rattle.std.specs.Prelude.{◌≡◌, ◌||◌, List, map}
use Rattle.std.proofs.Common.{sym, ap, ap₂, ◌∙◌}
use Rattle.std.specs.Int.Bits.{bit_or}
use Rattle.model.specs.Word.{Name}
use Rattle.model.specs.Mode.{Mode, Null, depends, changes, join}
use Rattle.model.specs.Image.{mask}
use Rattle.laws.specs.Modes.{depends_join, changes_join}
use Rattle.vector_direct.specs.declared.Vector.{Vector}
use Rattle.vector_direct.specs.Masks.{mask_same, mask_none, mask_or}

pub record Says (fields : List Name) (mode : Name → Mode) (v : Vector) : Type 0 where
  pub depend : v.depends ≡ mask (map (λ f. depends (mode f)) fields)
  pub change : v.changes ≡ mask (map (λ f. changes (mode f)) fields)

abbrev pub joined_vector : Vector → Vector → Vector
joined_vector v w = record { depends = bit_or v.depends w.depends; changes = bit_or v.changes w.changes }

module _ (fields : List Name) (mode : Name → Mode) where
  pub says_nothing : ((f : Name) → mode f ≡ Null) → Says fields mode (record { depends = 0; changes = 0 })
  says_nothing h = record {
    depend = sym (mask_same (λ f. depends (mode f)) _ fields (λ f. ap depends (h f)) ∙ mask_none fields);
    change = sym (mask_same (λ f. changes (mode f)) _ fields (λ f. ap changes (h f)) ∙ mask_none fields);
  }

  pub says_same : (other : Name → Mode) (v : Vector) → ((f : Name) → mode f ≡ other f) → Says fields mode v → Says fields other v
  says_same other v h s = record {
    depend = s.depend ∙ mask_same (λ f. depends (mode f)) (λ f. depends (other f)) fields (λ f. ap depends (h f));
    change = s.change ∙ mask_same (λ f. changes (mode f)) (λ f. changes (other f)) fields (λ f. ap changes (h f));
  }

  pub says_joined : (other : Name → Mode) (v w : Vector) → Says fields mode v → Says fields other w → Says fields (λ f. join (mode f) (other f)) (joined_vector v w)
  says_joined other v w s t = record {
    depend =
        ap₂ bit_or s.depend t.depend ∙ mask_or (λ f. depends (mode f)) (λ f. depends (other f)) fields
        ∙ sym (mask_same (λ f. depends (join (mode f) (other f))) (λ f. depends (mode f) || depends (other f)) fields (λ f. depends_join (mode f) (other f)));
    change =
        ap₂ bit_or s.change t.change ∙ mask_or (λ f. changes (mode f)) (λ f. changes (other f)) fields
        ∙ sym (mask_same (λ f. changes (join (mode f) (other f))) (λ f. changes (mode f) || changes (other f)) fields (λ f. changes_join (mode f) (other f)));
  }
