-- The faults of a class line's names (01, "Numbers given"): 13, 14 or 15, which come before 17.
use Rattle.std.specs.Prelude.{ℕ, ◌/◌, ◌≡◌, refl, Bool, true, false, not, cond, ◌&&◌, ◌||◌, List, eqb}
use Rattle.std.proofs.Common.{sym}
use Rattle.model.specs.Base.{same, any, some_pair}
use Rattle.model.specs.Word.{Name}
use Rattle.model.specs.Library.{Member, Library, is_class, class_at, class_name}
use Rattle.model.specs.Fault.{different, disagree, class_too_many, class_fault}
use Rattle.catalog.specs.View.{name_of}

-- Whether the name is that of no class.
abbrev pub unknown : Library → Name → Bool
unknown l p = not (is_class l p)

-- Whether two classes have different fields of one name: by their names, by their numbers, or by a number and a name.
abbrev pub apart : Library → Name → Name → Bool
apart l p q = disagree (class_name l p).fields (class_name l q).fields

abbrev pub numbers_apart : Library → ℕ → ℕ → Bool
numbers_apart l k m = disagree (class_at l k).fields (class_at l m).fields

abbrev pub apart_from : Library → ℕ → Name → Bool
apart_from l k q = disagree (class_at l k).fields (class_name l q).fields

-- Whether two fields are different fields of one name: both given by their words, or the second as the field g.
abbrev pub differ : List ℕ → ℕ → ℕ → Bool
differ text w v = same (name_of text w) (name_of text v) && not (eqb (w / 1048576) (v / 1048576))

abbrev pub differing : List ℕ → ℕ → Member → Bool
differing text w g = same (name_of text w) g.name && not (eqb (w / 1048576) g.origin)

-- Whether the field f differs from one of the fields that has its name.
abbrev pub differs_from : List Member → Member → Bool
differs_from gs f = any (different f) gs

-- The lowest number whose test holds, else d.
abbrev pub lowest : Bool → Bool → Bool → ℕ → ℕ
lowest a b c d = cond a 13 (cond b 14 (cond c 15 d))

unfoldable pub parent_fault : Library → Name → List Name → ℕ
unfolding any same is_class class_name some_pair disagree
parent_fault l n ps = lowest (is_class l n || some_pair same ps) (any (unknown l) ps) (some_pair (apart l) ps) 0

pub parent_fault_law : (l : Library) (n : Name) (ps : List Name) {a b c : Bool}
    → (is_class l n || some_pair same ps) ≡ a → any (unknown l) ps ≡ b → some_pair (apart l) ps ≡ c → lowest a b c 0 ≡ parent_fault l n ps
unfolding parent_fault
parent_fault_law l n ps p q r = λ i. lowest (sym p i) (sym q i) (sym r i) 0

parts : (a b c : Bool) (d : ℕ) → lowest a b c d ≡ cond (eqb (lowest a b c 0) 0) d (lowest a b c 0)
parts true b c d = refl
parts false true c d = refl
parts false false true d = refl
parts false false false d = refl

-- 17 is tested where the names have no fault.
pub class_fault_law : (l : Library) (n : Name) (ps : List Name)
    → class_fault l n ps ≡ cond (eqb (parent_fault l n ps) 0) (cond (class_too_many l ps) 17 0) (parent_fault l n ps)
unfolding class_fault parent_fault
class_fault_law l n ps =
    parts (is_class l n || some_pair same ps) (any (unknown l) ps) (some_pair (apart l) ps) (cond (class_too_many l ps) 17 0)
