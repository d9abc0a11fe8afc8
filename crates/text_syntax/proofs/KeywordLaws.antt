-- The keyword of a word is found among the words of its length.
use Prim.Native.Nat.{ℕ}
use mathlib.Core.Path.{◌≡◌, refl, sym, ap, ◌∙◌}
use mathlib.Core.Bool.{false, cond}
use mathlib.Core.List.{List, [], ◌∷◌}
use lib.ListN.{length}
use lib.Dec.{eqb}
use Rattle.model.specs.Base.{bytes, any}
use Rattle.model.specs.Form.{keyword_of, class_word, field_word, method_word, end_word, object_word, set_word, add_word, send_word, reply_word, when_word, other_word}
use Rattle.model.specs.Form as model
use Rattle.text_lex.specs.Among.{of_length, none_of_length, among, by_length}

-- A word and its keyword.
abbrev Entry : Type 0
Entry = (word : List ℕ) × model.Keyword

abbrev pub word : Entry → List ℕ
word e = e.0

abbrev pub keywords : List Entry
keywords =
    (bytes "class", class_word) ∷ (bytes "field", field_word) ∷ (bytes "method", method_word) ∷ (bytes "end", end_word) ∷ (bytes "object", object_word) ∷
    (bytes "set", set_word) ∷ (bytes "add", add_word) ∷ (bytes "send", send_word) ∷ (bytes "reply", reply_word) ∷ (bytes "when", when_word) ∷ []

abbrev pub keyword_among : List Entry → List ℕ → model.Keyword
keyword_among es w = among word (λ e t k. cond t e.1 k) other_word es w

module _ (w : List ℕ) where
  pub keyword_of_law : (n : ℕ) → length w ≡ n → keyword_among (of_length word n keywords) w ≡ keyword_of w
  unfolding keyword_of
  keyword_of_law n h = sym (rw h at (by_length word (λ e t k. cond t e.1 k) other_word (λ e k. refl) keywords w))

  pub keyword_none : any (λ e. eqb (length w) (length (word e))) keywords ≡ false → other_word ≡ keyword_of w
  keyword_none e = ap (λ (es : List Entry). keyword_among es w) (sym (none_of_length word (length w) keywords e)) ∙ keyword_of_law (length w) refl
