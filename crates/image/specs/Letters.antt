-- The letters of a vector and the flags of a method, by their masks: bit k of a mask is the k-th of its tests.
use Rattle.std.specs.Prelude.{ℕ, ◌≡◌, refl, false, cond, List, [], ◌∷◌, map, length, get_or}
use Rattle.std.proofs.Common.{sym, ap, ◌∙◌}
use Rattle.std.proofs.Math.ListN.{get_or-map}
use Rattle.model.specs.Mode.{Mode, Null, Read, Add, Write}
use Rattle.model.specs.Vector.{Vector, commute}
use Rattle.model.specs.Image.{is_read, is_write, is_add, read_mask, write_mask, add_mask, commute_mask}
use Rattle.model.specs.Tables.{letter, letters, yes_or_no}
use Rattle.laws.specs.Lists.{map_at}
use Rattle.laws.specs.Bits.{bit, bit_mask}
use Rattle.laws.specs.Upto.{upto_same}
use Rattle.output.specs.Each.{numbers, map_numbers, map_listed}
use Rattle.image.specs.Written.{letter_from, letters_from}

-- ---- letters

letter_is : (m : Mode) → cond (is_write m) 87 (cond (is_read m) 82 (cond (is_add m) 65 78)) ≡ letter m
letter_is Null = refl
letter_is Read = refl
letter_is Add = refl
letter_is Write = refl

letter_at : (v : Vector) (k : ℕ) → letter_from (read_mask v) (write_mask v) (add_mask v) k ≡ letter (get_or v k Null)
unfolding letter_from
letter_at v k =
    let w = bit_mask (map is_write v) k ∙ get_or-map is_write v k Null in
    let r = bit_mask (map is_read v) k ∙ get_or-map is_read v k Null in
    let a = bit_mask (map is_add v) k ∙ get_or-map is_add v k Null in
    (λ i. cond (w i) 87 (cond (r i) 82 (cond (a i) 65 78))) ∙ letter_is (get_or v k Null)

pub letters_are : (v : Vector) → letters_from (read_mask v) (write_mask v) (add_mask v) (length v) ≡ letters v
letters_are [] = refl
letters_are (m ∷ ms) =
    let v = m ∷ ms in
    let f = letter_from (read_mask v) (write_mask v) (add_mask v) in
    map_numbers f (length v)
    ∙ upto_same (λ k. letter (get_or v k Null)) f (length v) (λ k h. letter_at v k)
    ∙ sym (map_listed Null letter v)

-- ---- flags

pub flags_are : (vs : List Vector) (v : Vector)
    → map (λ i. yes_or_no (bit (commute_mask vs v) i)) (numbers (length vs)) ≡ map (λ w. yes_or_no (commute v w)) vs
flags_are vs v =
    map_numbers (λ i. yes_or_no (bit (commute_mask vs v) i)) (length vs)
    ∙ upto_same (λ i. yes_or_no (commute v (get_or vs i []))) (λ i. yes_or_no (bit (commute_mask vs v) i)) (length vs)
    (λ i h. ap yes_or_no (bit_mask (map (commute v) vs) i ∙ map_at (commute v) vs i [] false h))
    ∙ sym (map_listed [] (λ w. yes_or_no (commute v w)) vs)
