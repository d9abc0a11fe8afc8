-- Vectors of modes as masks: what is stored of them, and that commuting (definition 5) is a test of masks by Table 1.
use Rattle.std.specs.Prelude.{ℕ, zero, suc, ◌+◌, ◌-◌, ◌*◌, ◌^◌, ◌≤◌, ◌<◌, ◌≡◌, refl, Bool, true, false, not, ◌&&◌, ◌||◌, List, [], ◌∷◌, ◌++◌, map, length, get_or, replicate, eqb}
use Rattle.std.proofs.Common.{sym, ap, ap₂, ◌∙◌, arith, length-append, ne_eqb}
use Rattle.std.proofs.Math.Bool.{not-not}
use Rattle.std.proofs.lemmas.List.{length-map, length-replicate}
use Rattle.std.specs.Int.Bits.{bit_and, bit_or}
use Rattle.model.specs.Base.{every, digit}
use Rattle.model.specs.Word.{Name}
use Rattle.model.specs.Mode.{Mode, Null, rank, depends, changes, compatible, clash}
use Rattle.model.specs.Vector.{commute}
use Rattle.model.specs.Image.{mask, is_read, is_write, is_add, read_mask, write_mask, add_mask}
use Rattle.laws.specs.Modes.{rank_null, rank_read, rank_add, rank_write, rank_lt, null_apart, apart_null}
use Rattle.vector_direct.specs.declared.Vector.{Vector}
use Rattle.vector_direct.specs.Masks.{mask_not, mask_same, mask_none, mask_or, mask_and, mask_without}
use Rattle.vector_direct.specs.Says.{Says}
use Rattle.vector_commute.specs.Lists.{at_place}
use Rattle.vector_commute.specs.Ranks.{Square, goes, all_apart, row_length, rank_mask, together, ranks_apart}

-- The masks of a vector of modes.
pub record Masks (modes : List Mode) (v : Vector) : Type 0 where
  pub depend : v.depends ≡ mask (map depends modes)
  pub change : v.changes ≡ mask (map changes modes)

map_map : {A B C : Type 0} (f : B → C) (g : A → B) (xs : List A) → map (λ x. f (g x)) xs ≡ map f (map g xs)
map_map f g [] = refl
map_map {C = C} f g (x ∷ xs) = ap (λ (ys : List C). f (g x) ∷ ys) (map_map f g xs)

pub says_masks : (fields : List Name) (mode : Name → Mode) (v : Vector) → Says fields mode v → Masks (map mode fields) v
says_masks fields mode v s = record {
  depend = s.depend ∙ ap mask (map_map depends mode fields);
  change = s.change ∙ ap mask (map_map changes mode fields);
}

-- ---- the masks of the modes

-- The fields in the mode of a rank, by whether it depends on them and whether it changes them. A number that is no rank has none.
abbrev pub mode_mask : Vector → ℕ → ℕ
mode_mask v zero = (2 ^ 32 - 1) - bit_or v.depends v.changes
mode_mask v (suc zero) = bit_and v.depends ((2 ^ 32 - 1) - v.changes)
mode_mask v (suc (suc zero)) = bit_and v.changes ((2 ^ 32 - 1) - v.depends)
mode_mask v (suc (suc (suc zero))) = bit_and v.depends v.changes
mode_mask v (suc (suc (suc (suc i)))) = 0

pub past_masks : (v : Vector) (i : ℕ) → 4 ≤ i → mode_mask v i ≡ 0
past_masks v zero h = absurd (omega arith)
past_masks v (suc zero) h = absurd (omega arith)
past_masks v (suc (suc zero)) h = absurd (omega arith)
past_masks v (suc (suc (suc zero))) h = absurd (omega arith)
past_masks v (suc (suc (suc (suc i)))) h = refl

-- "a field's bit is set in at most one mask"
module _ (modes : List Mode) (v : Vector) (h : length modes ≤ 32) (m : Masks modes v) where
  pub read_mask_law : mode_mask v 1 ≡ read_mask modes
  read_mask_law = ap₂ (λ (d c : ℕ). bit_and d ((2 ^ 32 - 1) - c)) m.depend m.change ∙ mask_without depends changes 32 modes h

  pub add_mask_law : mode_mask v 2 ≡ add_mask modes
  add_mask_law = ap₂ (λ (d c : ℕ). bit_and c ((2 ^ 32 - 1) - d)) m.depend m.change ∙ mask_without changes depends 32 modes h

  pub write_mask_law : mode_mask v 3 ≡ write_mask modes
  write_mask_law = ap₂ bit_and m.depend m.change ∙ mask_and depends changes modes

-- Each of 32 modes is in the mask of its rank, and in no other.
mode_mask_law : (modes : List Mode) (v : Vector) → length modes ≡ 32 → Masks modes v → (i : ℕ) → mode_mask v i ≡ rank_mask rank modes i
unfolding rank_mask
mode_mask_law modes v h m zero =
    let busy : List Bool = map (λ a. depends a || changes a) modes in
    ap₂ (λ (d c : ℕ). (2 ^ 32 - 1) - bit_or d c) m.depend m.change
    ∙ ap (λ (n : ℕ). (2 ^ 32 - 1) - n) (mask_or depends changes modes)
    ∙ mask_not 32 busy (length-map modes (λ a. depends a || changes a) ∙ h)
    ∙ ap mask (sym (map_map not (λ a. depends a || changes a) modes))
    ∙ sym (mask_same (λ a. eqb (rank a) 0) (λ a. not (depends a || changes a)) modes rank_null)
mode_mask_law modes v h m (suc zero) = read_mask_law modes v (omega arith) m ∙ sym (mask_same (λ a. eqb (rank a) 1) is_read modes rank_read)
mode_mask_law modes v h m (suc (suc zero)) = add_mask_law modes v (omega arith) m ∙ sym (mask_same (λ a. eqb (rank a) 2) is_add modes rank_add)
mode_mask_law modes v h m (suc (suc (suc zero))) = write_mask_law modes v (omega arith) m ∙ sym (mask_same (λ a. eqb (rank a) 3) is_write modes rank_write)
mode_mask_law modes v h m (suc (suc (suc (suc i)))) =
    let n = suc (suc (suc (suc i))) in
    sym (mask_same (λ a. eqb (rank a) n) (λ a. false) modes (λ a. ne_eqb (rank a) n (λ e. omega (arith, rank_lt a))) ∙ mask_none modes)

-- ---- the stored masks

-- A field that is depended on is read or written, ..
read_or_write : (d c : Bool) → ((d && not c) || (d && c)) ≡ d
read_or_write true true = refl
read_or_write true false = refl
read_or_write false c = refl

-- .. and one that is changed is written or added to.
write_or_add : (d c : Bool) → ((d && c) || (c && not d)) ≡ c
write_or_add true true = refl
write_or_add true false = refl
write_or_add false true = refl
write_or_add false false = refl

pub stored_masks : (modes : List Mode) (read write add : ℕ) → read ≡ read_mask modes → write ≡ write_mask modes → add ≡ add_mask modes
    → Masks modes (record { depends = bit_or read write; changes = bit_or write add })
stored_masks modes read write add r w a = record {
  depend = ap₂ bit_or r w ∙ mask_or is_read is_write modes ∙ mask_same (λ m. is_read m || is_write m) depends modes (λ m. read_or_write (depends m) (changes m));
  change = ap₂ bit_or w a ∙ mask_or is_write is_add modes ∙ mask_same (λ m. is_write m || is_add m) changes modes (λ m. write_or_add (depends m) (changes m));
}

-- ---- fields past the last one are Null

abbrev padded : List Mode → List Mode
padded modes = modes ++ replicate (32 - length modes) Null

padded_length : (modes : List Mode) → length modes ≤ 32 → length (padded modes) ≡ 32
padded_length modes h =
    omega (arith, length-append modes (replicate (32 - length modes) Null), length-replicate {A = Mode} (32 - length modes) Null)

padded_mask : (p : Mode → Bool) → p Null ≡ false → (modes : List Mode) (n : ℕ) → mask (map p (modes ++ replicate n Null)) ≡ mask (map p modes)
unfolding mask
padded_mask p e [] zero = refl
padded_mask p e [] (suc n) = ap₂ (λ (m : ℕ) (b : Bool). m * 2 + digit b) (padded_mask p e [] n) e
padded_mask p e (a ∷ modes) n = ap (λ (m : ℕ). m * 2 + digit (p a)) (padded_mask p e modes n)

padded_masks : (modes : List Mode) (v : Vector) → Masks modes v → Masks (padded modes) v
padded_masks modes v m = record {
  depend = m.depend ∙ sym (padded_mask depends refl modes (32 - length modes));
  change = m.change ∙ sym (padded_mask changes refl modes (32 - length modes));
}

null_left : (n : ℕ) (ws : List Mode) → commute (replicate n Null) ws ≡ true
unfolding commute
null_left zero ws = refl
null_left (suc n) [] = refl
null_left (suc n) (w ∷ ws) = ap₂ (λ (t u : Bool). not t && u) (null_apart w) (null_left n ws)

null_right : (vs : List Mode) (n : ℕ) → commute vs (replicate n Null) ≡ true
unfolding commute
null_right [] n = refl
null_right (v ∷ vs) zero = refl
null_right (v ∷ vs) (suc n) = ap₂ (λ (t u : Bool). not t && u) (apart_null v) (null_right vs n)

padded_commute : (vs ws : List Mode) (m n : ℕ) → commute (vs ++ replicate m Null) (ws ++ replicate n Null) ≡ commute vs ws
unfolding commute
padded_commute [] ws m n = null_left m (ws ++ replicate n Null)
padded_commute (v ∷ vs) [] m n = null_right (v ∷ (vs ++ replicate m Null)) n
padded_commute (v ∷ vs) (w ∷ ws) m n = ap (λ (t : Bool). not (clash v w) && t) (padded_commute vs ws m n)

-- ---- commuting

-- No pair of modes that the table forbids has a field in common.
abbrev pub apart : Vector → Vector → Bool
apart a b = all_apart compatible (mode_mask a) (mode_mask b)

-- Table 1 has an entry for each pair of ranks, and the code reads only entries that exist.
table_square : Square compatible
unfolding every
table_square = refl

pub table_at : (i j : ℕ) → i < length compatible → j < length compatible → get_or (get_or compatible i []) j false ≡ goes compatible i j
table_at i j h k = at_place (get_or compatible i []) j false true (omega (arith, row_length compatible table_square i h))

together_commute : (vs ws : List Mode) → together rank compatible vs ws ≡ commute vs ws
unfolding together commute
together_commute [] ws = refl
together_commute (v ∷ vs) [] = refl
together_commute (v ∷ vs) (w ∷ ws) = ap₂ ◌&&◌ (sym (not-not (goes compatible (rank v) (rank w)))) (together_commute vs ws)

pub apart_commute : (vs ws : List Mode) (a b : Vector) → length vs ≤ 32 → length ws ≤ 32 → Masks vs a → Masks ws b → apart a b ≡ commute vs ws
apart_commute vs ws a b h k m n =
    let e = mode_mask_law (padded vs) a (padded_length vs h) (padded_masks vs a m) in
    let q = mode_mask_law (padded ws) b (padded_length ws k) (padded_masks ws b n) in
    (λ t. all_apart compatible (λ i. e i t) (λ j. q j t))
    ∙ ranks_apart rank compatible table_square (padded vs) (padded ws)
    ∙ together_commute (padded vs) (padded ws)
    ∙ padded_commute vs ws (32 - length vs) (32 - length ws)
