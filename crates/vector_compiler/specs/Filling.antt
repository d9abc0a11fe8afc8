-- The loops that fill the tables with masks: what each turn adds, and what it leaves unchanged.
use Prim.Native.Nat.{ℕ, ◌+◌, ◌*◌, ◌≤◌, ◌<◌}
use Rattle.std.specs.Prelude.{◌≡◌, refl, ◌≢◌, Bool}
use Rattle.std.proofs.Math.Path.{sym, ap, ap₂, subst}
use Rattle.std.proofs.Common.{◌∙◌}
use Rattle.std.proofs.Math.Bool.{true, false}
use mathlib.Core.List.{List, [], map}
use native.Mathlib.Omega.{arith}
use Rattle.std.proofs.Math.ListN.{length, get_or, set, length-set, length-map}
use Rattle.std.proofs.Math.Seq.{get_or-set_same, get_or-set_other}
use Rattle.std.specs.Int.Bits.{bit_or}
use Rattle.std.proofs.Math.Dec.{eqb}
use borrow.Author.Tests.{eqb-true, eqb-false}
use Rattle.layout.specs.Layout.{read_masks_at, write_masks_at, commuting_at, add_masks_at, class_words, classes_at, table_words}
use Rattle.model.specs.Base.{upto}
use Rattle.model.specs.Library.{Library, Member, Class, class_at, as_recorded, method_names}
use Rattle.model.specs.Vector.{transitive, commute}
use Rattle.model.specs.Vector as model
use Rattle.model.specs.Image.{mask, read_mask, write_mask, add_mask, commute_mask}
use Rattle.catalog.specs.View.{class_word, class_count, member_count, class_of, library_of}
use Rattle.laws.specs.Upto.{upto_same}
use Rattle.catalog.specs.Look.{class_at_law, member_count_law}
use Rattle.vector_direct.specs.declared.Vector.{Vector}
use Rattle.vector_direct.specs.Fields.{map_upto}
use Rattle.vector_commute.specs.Lists.{listed}
use Rattle.vector_compiler.specs.Closure.{VectorFound, vector_length}
use Rattle.vector_commute.specs.Commuting.{Masks, mode_mask, read_mask_law, write_mask_law, add_mask_law, stored_masks, apart, apart_commute}
use Rattle.vector_compiler.specs.Filled.{Within, OnlyMasks, within_none, within_set, within_then, masks_none, masks_then, MasksOf, masks_of_class, same_classes, same_methods, same_library, vectors_in, MethodMasks, Filled}

-- ---- the loop that stores the masks of each method's modes

-- The place of the mask of class c's method j in a row of masks.
abbrev mask_place : ℕ → ℕ → ℕ → ℕ
mask_place c row j = classes_at + (c * class_words + (row + j))

-- The tables with a vector stored.
abbrev pub with_vector : List ℕ → ℕ → ℕ → Vector → List ℕ
with_vector ws c j v =
    set (set (set ws (mask_place c read_masks_at j) (mode_mask v 1)) (mask_place c write_masks_at j) (mode_mask v 3)) (mask_place c add_masks_at j) (mode_mask v 2)

-- It alters masks of its class.
pub vector_within : (ws : List ℕ) (c j : ℕ) (v : Vector) → j < 32 → MasksOf c ws (with_vector ws c j v)
vector_within ws c j v h =
    let from = classes_at + read_masks_at + c * class_words in
    let end = classes_at + class_words + c * class_words in
    let one = set ws (mask_place c read_masks_at j) (mode_mask v 1) in
    let two = set one (mask_place c write_masks_at j) (mode_mask v 3) in
    within_then from end
    (within_then from end
    (within_set from end ws (mask_place c read_masks_at j) (mode_mask v 1) (omega arith) (omega arith))
    (within_set from end one (mask_place c write_masks_at j) (mode_mask v 3) (omega arith) (omega arith)))
    (within_set from end two (mask_place c add_masks_at j) (mode_mask v 2) (omega arith) (omega arith))

-- The masks of Read, Write and Add of method j of class c, where the class's methods have the vectors vs.
pub record ModeMasks (vs : List model.Vector) (c j : ℕ) (ws : List ℕ) : Type 0 where
  pub read : class_word ws c (read_masks_at + j) ≡ read_mask (get_or vs j [])
  pub write : class_word ws c (write_masks_at + j) ≡ write_mask (get_or vs j [])
  pub add : class_word ws c (add_masks_at + j) ≡ add_mask (get_or vs j [])

-- The first n methods of class c have them.
pub record ModesTo (text ws : List ℕ) (c n : ℕ) (ws' : List ℕ) : Type 0 where
  pub within : MasksOf c ws ws'
  pub masks : table_words ≤ length ws → c < class_count ws → (j : ℕ) → j < n → ModeMasks (vectors_in (library_of text ws) c) c j ws'

pub modes_none : (text ws : List ℕ) (c : ℕ) → ModesTo text ws c 0 ws
modes_none text ws c = record { within = within_none (classes_at + read_masks_at + c * class_words) (classes_at + class_words + c * class_words) ws; masks = λ h k j l. absurd (omega arith) }

module _ (text ws : List ℕ) (c n : ℕ) (ws₁ : List ℕ) (i : ModesTo text ws c n ws₁) (v : Vector) (below : n < member_count ws c 1) where
  few : n < 32
  unfolding member_count
  few = omega arith

  abbrev read_at : ℕ → ℕ
  read_at j = mask_place c read_masks_at j

  abbrev write_at : ℕ → ℕ
  write_at j = mask_place c write_masks_at j

  abbrev add_at : ℕ → ℕ
  add_at j = mask_place c add_masks_at j

  abbrev one : List ℕ
  one = set ws₁ (read_at n) (mode_mask v 1)

  abbrev two : List ℕ
  two = set one (write_at n) (mode_mask v 3)

  abbrev after : List ℕ
  after = with_vector ws₁ c n v

  old : (k : ℕ) → k ≢ read_at n → k ≢ write_at n → k ≢ add_at n → get_or after k 0 ≡ get_or ws₁ k 0
  old k p q r =
      get_or-set_other two (add_at n) k (mode_mask v 2) 0 r ∙ get_or-set_other one (write_at n) k (mode_mask v 3) 0 q ∙ get_or-set_other ws₁ (read_at n) k (mode_mask v 1) 0 p

  old_masks : (vs : List model.Vector) (j : ℕ) → j < n → ModeMasks vs c j ws₁ → ModeMasks vs c j after
  unfolding class_word
  old_masks vs j h m =
      let f = few in
      record {
        read = old (read_at j) (λ e. omega arith) (λ e. omega arith) (λ e. omega arith) ∙ m.read;
        write = old (write_at j) (λ e. omega arith) (λ e. omega arith) (λ e. omega arith) ∙ m.write;
        add = old (add_at j) (λ e. omega arith) (λ e. omega arith) (λ e. omega arith) ∙ m.add;
      }

  module _ (size : table_words ≤ length ws) (known : c < class_count ws) (found : VectorFound text ws₁ c n v) where
    only : OnlyMasks ws ws₁
    only = masks_of_class c ws ws₁ (omega arith) i.within

    vector : Masks (get_or (vectors_in (library_of text ws) c) n []) v
    vector =
        subst (λ (l : Library). Masks (get_or (vectors_in l c) n []) v) (same_library only text)
        (found (omega (arith, same_classes only)) (omega (arith, same_methods only c (omega arith))))

    new_masks : ModeMasks (vectors_in (library_of text ws) c) c n after
    unfolding class_word
    new_masks =
        let f = few in
        let s = i.within.size in
        let t = length-set ws₁ (read_at n) (mode_mask v 1) in
        let u = length-set one (write_at n) (mode_mask v 3) in
        let modes = get_or (vectors_in (library_of text ws) c) n [] in
        let long = vector_length text ws c n known below in
        record {
          read =
              get_or-set_other two (add_at n) (read_at n) (mode_mask v 2) 0 (λ e. omega arith)
              ∙ get_or-set_other one (write_at n) (read_at n) (mode_mask v 3) 0 (λ e. omega arith)
              ∙ get_or-set_same ws₁ (read_at n) (mode_mask v 1) 0 (omega arith)
              ∙ read_mask_law modes v long vector;
          write =
              get_or-set_other two (add_at n) (write_at n) (mode_mask v 2) 0 (λ e. omega arith)
              ∙ get_or-set_same one (write_at n) (mode_mask v 3) 0 (omega arith)
              ∙ write_mask_law modes v long vector;
          add = get_or-set_same two (add_at n) (mode_mask v 2) 0 (omega arith) ∙ add_mask_law modes v long vector;
        }

  -- One method more.
  pub modes_more : (ws₂ : List ℕ) → VectorFound text ws₁ c n v → ws₂ ≡ after → ModesTo text ws c (n + 1) ws₂
  modes_more ws₂ found q =
      subst (ModesTo text ws c (n + 1)) (sym q) (record {
        within = within_then (classes_at + read_masks_at + c * class_words) (classes_at + class_words + c * class_words) i.within (vector_within ws₁ c n v few);
        masks = λ size known j h. go size known j h (eqb j n) refl;
      })
    where
      go : table_words ≤ length ws → c < class_count ws → (j : ℕ) → j < n + 1 → (t : Bool) → eqb j n ≡ t → ModeMasks (vectors_in (library_of text ws) c) c j after
      go size known j h true t = subst (λ (k : ℕ). ModeMasks (vectors_in (library_of text ws) c) c k after) (sym (eqb-true j n t)) (new_masks size known found)
      go size known j h false t =
          let l : j < n = omega (arith, eqb-false j n t) in
          old_masks (vectors_in (library_of text ws) c) j l (i.masks size known j l)

-- ---- the loop that stores the commuting masks

-- A method's vector, by the three masks that are stored.
abbrev pub stored : List ℕ → ℕ → ℕ → Vector
stored ws c j = record {
  depends = bit_or (class_word ws c (read_masks_at + j)) (class_word ws c (write_masks_at + j));
  changes = bit_or (class_word ws c (write_masks_at + j)) (class_word ws c (add_masks_at + j));
}

-- The methods of class c that its method j commutes with, by what is stored.
unfoldable pub commuting_mask : List ℕ → ℕ → ℕ → ℕ
unfolding mask upto class_word member_count
commuting_mask ws c j = mask (upto (λ k. apart (stored ws c j) (stored ws c k)) (member_count ws c 1))

-- Only commuting masks of class c are altered.
abbrev CommutingOf : ℕ → List ℕ → List ℕ → Type 0
CommutingOf c ws ws' = Within (classes_at + commuting_at + c * class_words) (classes_at + add_masks_at + c * class_words) ws ws'

-- The first n methods of class c have their commuting mask, and nothing else is altered.
pub record CommutingTo (ws : List ℕ) (c n : ℕ) (ws' : List ℕ) : Type 0 where
  pub within : CommutingOf c ws ws'
  pub masks : table_words ≤ length ws → c < 16 → (j : ℕ) → j < n → class_word ws' c (commuting_at + j) ≡ commuting_mask ws c j

pub commuting_none : (ws : List ℕ) (c : ℕ) → CommutingTo ws c 0 ws
commuting_none ws c = record { within = within_none (classes_at + commuting_at + c * class_words) (classes_at + add_masks_at + c * class_words) ws; masks = λ h k j l. absurd (omega arith) }

module _ (ws : List ℕ) (c : ℕ) (ws₁ : List ℕ) (h : CommutingOf c ws ws₁) where
  stored_same : (j : ℕ) → j < 32 → stored ws₁ c j ≡ stored ws c j
  unfolding class_word
  stored_same j l =
      let r = h.low (mask_place c read_masks_at j) (omega arith) in
      let w = h.low (mask_place c write_masks_at j) (omega arith) in
      let a = h.high (mask_place c add_masks_at j) (omega arith) in
      λ i. record { depends = bit_or (r i) (w i); changes = bit_or (w i) (a i) }

  commuting_same : (j : ℕ) → j < 32 → commuting_mask ws₁ c j ≡ commuting_mask ws c j
  unfolding commuting_mask member_count class_word
  commuting_same j l =
      let n : member_count ws₁ c 1 ≡ member_count ws c 1 = omega (arith, h.low (classes_at + (c * class_words + (1 + 1))) (omega arith)) in
      ap (λ (m : ℕ). mask (upto (λ k. apart (stored ws₁ c j) (stored ws₁ c k)) m)) n
      ∙ ap mask (upto_same (λ k. apart (stored ws c j) (stored ws c k)) (λ k. apart (stored ws₁ c j) (stored ws₁ c k)) (member_count ws c 1)
      (λ k m. ap₂ apart (stored_same j l) (stored_same k (omega arith))))

module _ (ws : List ℕ) (c n : ℕ) (ws₁ : List ℕ) (few : n < 32) (i : CommutingTo ws c n ws₁) where
  abbrev place : ℕ
  place = mask_place c commuting_at n

  abbrev stores : List ℕ
  stores = set ws₁ place (commuting_mask ws₁ c n)

  -- One method more.
  pub commuting_more : (at m : ℕ) (ws₂ : List ℕ) → at ≡ place → m ≡ commuting_mask ws₁ c n → ws₂ ≡ set ws₁ at m → CommutingTo ws c (n + 1) ws₂
  unfolding class_word
  commuting_more at m ws₂ e q k = subst (CommutingTo ws c (n + 1)) (sym (k ∙ ap₂ (λ (j v : ℕ). set ws₁ j v) e q)) (record {
    within =
        let from = classes_at + commuting_at + c * class_words in
        let end = classes_at + add_masks_at + c * class_words in
        within_then from end i.within (within_set from end ws₁ place (commuting_mask ws₁ c n) (omega arith) (omega arith));
    masks = λ size known j h. go size known j h (eqb j n) refl;
  })
    where
      go : table_words ≤ length ws → c < 16 → (j : ℕ) → j < n + 1 → (t : Bool) → eqb j n ≡ t → get_or stores (classes_at + (c * class_words + (commuting_at + j))) 0 ≡ commuting_mask ws c j
      go size known j h true t =
          let s = i.within.size in
          subst (λ (k : ℕ). get_or stores (classes_at + (c * class_words + (commuting_at + k))) 0 ≡ commuting_mask ws c k) (sym (eqb-true j n t))
          (get_or-set_same ws₁ place (commuting_mask ws₁ c n) 0 (omega arith) ∙ commuting_same ws c ws₁ i.within n few)
      go size known j h false t =
          get_or-set_other ws₁ place (classes_at + (c * class_words + (commuting_at + j))) (commuting_mask ws₁ c n) 0 (λ e. eqb-false j n t (omega arith))
          ∙ i.masks size known j (omega (arith, eqb-false j n t))

-- ---- a class

-- Each method of class c has its four masks, and no other word is altered.
pub record ClassFilled (text ws : List ℕ) (c : ℕ) (ws' : List ℕ) : Type 0 where
  pub within : MasksOf c ws ws'
  pub masks : table_words ≤ length ws → c < class_count ws → (j : ℕ) → j < member_count ws c 1 → MethodMasks (vectors_in (library_of text ws) c) c j ws'

module _ (text ws : List ℕ) (c : ℕ) (known : c < class_count ws) where
  abbrev l : Library
  l = library_of text ws

  abbrev vs : List model.Vector
  vs = vectors_in l c

  vector_count : length vs ≡ member_count ws c 1
  unfolding class_of
  vector_count =
      length-map (method_names l c) (transitive l (as_recorded l) c)
      ∙ length-map (class_at l c).methods (λ (m : Member). m.name)
      ∙ ap (λ (k : Class). length k.methods) (class_at_law text ws c known)
      ∙ member_count_law text ws c 1

  -- Where the three masks of every method are right, so are the commuting masks made of them.
  commuting_right : (ws₁ : List ℕ) → member_count ws₁ c 1 ≡ member_count ws c 1 → ((j : ℕ) → j < member_count ws c 1 → ModeMasks vs c j ws₁)
      → (j : ℕ) → j < member_count ws c 1 → commuting_mask ws₁ c j ≡ commute_mask vs (get_or vs j [])
  unfolding commuting_mask
  commuting_right ws₁ e modes j h =
      ap (λ (n : ℕ). mask (upto (λ k. apart (stored ws₁ c j) (stored ws₁ c k)) n)) e
      ∙ ap mask (upto_same (λ k. commute (get_or vs j []) (get_or vs k [])) (λ k. apart (stored ws₁ c j) (stored ws₁ c k)) (member_count ws c 1)
      (λ k m. apart_commute (get_or vs j []) (get_or vs k []) (stored ws₁ c j) (stored ws₁ c k) (vector_length text ws c j known h) (vector_length text ws c k known m) (masks j h) (masks k m)))
      ∙ ap (λ (n : ℕ). mask (upto (λ k. commute (get_or vs j []) (get_or vs k [])) n)) (sym vector_count)
      ∙ sym (ap mask (ap (map (commute (get_or vs j []))) (listed [] vs)
      ∙ map_upto (commute (get_or vs j [])) (λ k. get_or vs k []) (length vs)))
    where
      masks : (k : ℕ) → k < member_count ws c 1 → Masks (get_or vs k []) (stored ws₁ c k)
      masks k m =
          let word : ℕ → ℕ = λ row. class_word ws₁ c (row + k) in
          stored_masks (get_or vs k []) (word read_masks_at) (word write_masks_at) (word add_masks_at) (modes k m).read (modes k m).write (modes k m).add

pub class_filled : (text ws : List ℕ) (c : ℕ) (ws₁ ws₂ : List ℕ) → ModesTo text ws c (member_count ws c 1) ws₁ → CommutingTo ws₁ c (member_count ws₁ c 1) ws₂
    → ClassFilled text ws c ws₂
unfolding class_word member_count
class_filled text ws c ws₁ ws₂ modes commuting = record {
  within = within_then (classes_at + read_masks_at + c * class_words) (classes_at + class_words + c * class_words) modes.within (record {
    size = commuting.within.size;
    low = λ i h. commuting.within.low i (omega arith);
    high = λ i h. commuting.within.high i (omega arith);
  });
  masks = masks;
}
  where
    masks : table_words ≤ length ws → c < class_count ws → (j : ℕ) → j < member_count ws c 1 → MethodMasks (vectors_in (library_of text ws) c) c j ws₂
    masks size known j h =
        let only = masks_of_class c ws ws₁ (omega arith) modes.within in
        let count = same_methods only c (omega arith) in
        let there = modes.masks size known in
        record {
          read = commuting.within.low (mask_place c read_masks_at j) (omega arith) ∙ (there j h).read;
          write = commuting.within.low (mask_place c write_masks_at j) (omega arith) ∙ (there j h).write;
          commuting =
              commuting.masks (omega (arith, only.size)) (omega arith) j (omega arith)
              ∙ commuting_right text ws c known ws₁ count there j h;
          add = commuting.within.high (mask_place c add_masks_at j) (omega arith) ∙ (there j h).add;
        }

-- ---- all classes

-- The first n classes are filled.
pub record FilledTo (text ws : List ℕ) (n : ℕ) (ws' : List ℕ) : Type 0 where
  pub only : OnlyMasks ws ws'
  pub masks : table_words ≤ length ws → (c j : ℕ) → c < n → j < member_count ws c 1 → MethodMasks (vectors_in (library_of text ws) c) c j ws'

pub filled_none : (text ws : List ℕ) → FilledTo text ws 0 ws
filled_none text ws = record { only = masks_none ws; masks = λ h c j k l. absurd (omega arith) }

pub filled_more : (text ws : List ℕ) (n : ℕ) (ws₁ ws₂ : List ℕ) → n < class_count ws → FilledTo text ws n ws₁ → ClassFilled text ws₁ n ws₂ → FilledTo text ws (n + 1) ws₂
unfolding class_word member_count
filled_more text ws n ws₁ ws₂ known i f = record {
  only = masks_then i.only (masks_of_class n ws₁ ws₂ (omega arith) f.within);
  masks = λ size c j h k. go size c j h k (eqb c n) refl;
}
  where
    earlier : (c j : ℕ) → c < n → j < member_count ws c 1 → MethodMasks (vectors_in (library_of text ws) c) c j ws₁ → MethodMasks (vectors_in (library_of text ws) c) c j ws₂
    earlier c j h k m = record {
      read = f.within.low (mask_place c read_masks_at j) (omega arith) ∙ m.read;
      write = f.within.low (mask_place c write_masks_at j) (omega arith) ∙ m.write;
      commuting = f.within.low (mask_place c commuting_at j) (omega arith) ∙ m.commuting;
      add = f.within.low (mask_place c add_masks_at j) (omega arith) ∙ m.add;
    }

    this : table_words ≤ length ws → (j : ℕ) → j < member_count ws n 1 → MethodMasks (vectors_in (library_of text ws) n) n j ws₂
    this size j k =
        let count = same_methods i.only n (omega arith) in
        subst (λ (l : Library). MethodMasks (vectors_in l n) n j ws₂) (same_library i.only text)
        (f.masks (omega (arith, i.only.size)) (omega (arith, same_classes i.only)) j (omega arith))

    go : table_words ≤ length ws → (c j : ℕ) → c < n + 1 → j < member_count ws c 1 → (t : Bool) → eqb c n ≡ t → MethodMasks (vectors_in (library_of text ws) c) c j ws₂
    go size c j h k true t =
        let e : c ≡ n = eqb-true c n t in
        subst (λ (d : ℕ). MethodMasks (vectors_in (library_of text ws) d) d j ws₂) (sym e) (this size j (subst (λ (d : ℕ). j < member_count ws d 1) e k))
    go size c j h k false t =
        let l : c < n = omega (arith, eqb-false c n t) in
        earlier c j l k (i.masks size c j l k)

pub filled : (text ws ws' : List ℕ) (n : ℕ) → n ≡ class_count ws → FilledTo text ws n ws' → Filled text ws ws'
filled text ws ws' n e i = record {
  only = i.only;
  library = same_library i.only text;
  masks = λ size c j h k. i.masks size c j (omega arith) k;
}
