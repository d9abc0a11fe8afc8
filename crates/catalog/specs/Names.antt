-- The words of names and of parts of the text, as the code makes them, and that they stand for what they are made of.
use Rattle.std.specs.Prelude.{ℕ, ◌+◌, ◌*◌, ◌/◌, ◌%◌, ◌<◌, ◌≡◌, List, drop}
use Rattle.std.proofs.Math.Path.{ap₂}
use native.Mathlib.Omega.{arith}
use Rattle.std.proofs.Math.ListN.{take}
use Rattle.catalog.specs.View.{name_of, part_of}
use Rattle.layout.specs.Layout.{origin_unit, part_unit}

-- The word of a name with its origin.
abbrev pub name_word : ℕ → ℕ → ℕ → ℕ
name_word c at size = c % 4096 * origin_unit + (at % 32768 * 32 + size % 32)

abbrev pub part_word : ℕ → ℕ → ℕ
part_word at size = at % part_unit * part_unit + size % part_unit

module _ (text : List ℕ) (c at size : ℕ) (h : at < 32768) (k : size < 32) where
  pub name_word_name : name_of text (name_word c at size) ≡ take size (drop at text)
  unfolding name_of
  name_word_name =
      let w = name_word c at size in
      let q : w / 32 ≡ c % 4096 * 32768 + at = omega arith in
      let d : w / 32 % 32768 ≡ at = omega arith in
      let l : w % 32 ≡ size = omega arith in
      ap₂ (λ (n i : ℕ). take n (drop i text)) l d

  pub name_word_origin : c < 4096 → name_word c at size / 1048576 ≡ c
  name_word_origin l = omega arith

pub part_word_part : (text : List ℕ) (at size : ℕ) → at < 65536 → size < 65536 → part_of text (part_word at size) ≡ take size (drop at text)
unfolding part_of
part_word_part text at size h k =
    let w = part_word at size in
    let d : w / 65536 ≡ at = omega arith in
    let l : w % 65536 ≡ size = omega arith in
    ap₂ (λ (n i : ℕ). take n (drop i text)) l d
