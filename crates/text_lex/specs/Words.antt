-- The words that an iterator over a line has still to give, and laws of a loop over them.
use Rattle.std.specs.List.{list_all, list_any}
use Rattle.std.specs.Prelude.{ℕ, ◌<◌, ◌≡◌, refl, Bool, true, false, ◌&&◌, ◌||◌, List, [], ◌∷◌, length, drop}
use Rattle.std.proofs.Common.{sym, ap, ◌∙◌}
use Rattle.model.specs.Base.{any, every}
use Rattle.text_lex.specs.Piece.{words_after, first, end_after, cons_after}
use Rattle.text_lex.specs.declared.Words.{Words}

abbrev pub left : Words → List (List ℕ)
left w = words_after (drop w.at w.line.now)

-- The next word, and where it ends.
pub next_word : (line : List ℕ) (at : ℕ) (word : List ℕ) (end : ℕ) → at < length line
    → word ≡ first (words_after (drop at line)) → end ≡ end_after 32 line at
    → words_after (drop at line) ≡ word ∷ words_after (drop end line)
next_word line at word end h w e =
    cons_after 32 line at h
    ∙ ap (λ (v : List ℕ). v ∷ words_after (drop (end_after 32 line at) line)) (sym w)
    ∙ ap (λ (p : ℕ). word ∷ words_after (drop p line)) (sym e)

-- A loop that takes the first item off those left: at the end, at an item that decides, after one that does not.
module _ {A : Type 0} (p : A → Bool) {xs : List A} where
  pub any_none : xs ≡ [] → any p xs ≡ false
  unfolding any
  any_none e = ap (any p) e

  pub every_none : xs ≡ [] → every p xs ≡ true
  unfolding every
  every_none e = ap (every p) e

  module _ {x : A} {rest : List A} (e : xs ≡ x ∷ rest) where
    pub any_first : p x ≡ true → any p xs ≡ true
    unfolding any
    any_first t = ap (any p) e ∙ ap (λ (b : Bool). b || any p rest) t

    pub any_later : p x ≡ false → any p xs ≡ any p rest
    unfolding any
    any_later t = ap (any p) e ∙ ap (λ (b : Bool). b || any p rest) t

    pub every_first : p x ≡ false → every p xs ≡ false
    unfolding every
    every_first t = ap (every p) e ∙ ap (λ (b : Bool). b && every p rest) t

    pub every_later : p x ≡ true → every p xs ≡ every p rest
    unfolding every
    every_later t = ap (every p) e ∙ ap (λ (b : Bool). b && every p rest) t

-- std's tests of each and of some item.
pub every_all : {A : Type 0} (p : A → Bool) (xs : List A) → list_all p xs ≡ every p xs
unfolding every
every_all p [] = refl
every_all p (x ∷ xs) = ap (λ (b : Bool). p x && b) (every_all p xs)

pub any_any : {A : Type 0} (p : A → Bool) (xs : List A) → list_any p xs ≡ any p xs
unfolding any
any_any p [] = refl
any_any p (x ∷ xs) = ap (λ (b : Bool). p x || b) (any_any p xs)
