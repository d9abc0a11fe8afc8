-- The values of an object by counting, and the invariant of a loop over the words of its line.
use Rattle.std.specs.Prelude.{ℕ, zero, suc, ◌+◌, ◌-◌, ◌≤◌, ◌<◌, ◌≡◌, refl, Bool, true, false, cond, List, [], ◌∷◌, ◌++◌, map, length, get_or, take, drop, replicate, ltb, Some, None, unwrap_or}
use Rattle.std.specs.Prelude as rust
use Rattle.std.proofs.Common.{sym, ap, ◌∙◌, add-one, arith, length-append, length-take, get_or-take, get_or-append-add, ext_get_or, ltb-true, ltb-false}
use Rattle.std.proofs.Math.Option.{Option, none as nothing, some}
use Rattle.std.proofs.lemmas.List.{length-map, length-replicate, get_or-replicate}
use Rattle.std.proofs.Math.ListN.{get_or-append, get_or-map, get_or-eq_default}
use Rattle.layout.specs.Layout.{object_class_at, object_line_at}
use Rattle.model.specs.Base.{upto}
use Rattle.model.specs.Word.{is_number, decimal}
use Rattle.text_lex.specs.Number.{number_of, said}
use Rattle.text_lex.specs.Piece.{words_after, first, others}
use Rattle.text_lex.specs.Words.{left}
use Rattle.text_lex.specs.declared.Words.{Words}
use Rattle.std.specs.Iterator.{YieldsFirstRef}
use Rattle.std.proofs.Common.{Bor}
use Rattle.catalog.specs.View.{part_of, value_of, object_word}
use Rattle.laws.specs.Upto.{length_upto, get_d_upto}
use Rattle.catalog.specs.Look.{shown_count}
use Rattle.image.specs.Written.{values_from}

-- The value of a word, by the number that `text_lex` reads in it.
abbrev pub or_zero : Option ℕ → ℕ
or_zero nothing = 0
or_zero (some n) = n

pub value_said : (w : List ℕ) → or_zero (number_of w) ≡ value_of w
unfolding number_of value_of
value_said w = go (is_number w)
  where
    go : (t : Bool) → or_zero (cond t (some (decimal 0 w)) nothing) ≡ cond t (decimal 0 w) 0
    go true = refl
    go false = refl

pub value_unwrapped : (r : rust.Option ℕ) (w : List ℕ) → said r ≡ number_of w → unwrap_or r 0 ≡ value_of w
value_unwrapped r w e = unwrapped r ∙ ap or_zero e ∙ value_said w
  where
    unwrapped : (r : rust.Option ℕ) → unwrap_or r 0 ≡ or_zero (said r)
    unwrapped (Some n) = refl
    unwrapped None = refl

module _ (f : List ℕ → ℕ) (none : f [] ≡ 0) (ps : List (List ℕ)) (n : ℕ) where
  element : (i : ℕ) → i < n → get_or (map f ps ++ replicate n 0) i 0 ≡ f (get_or ps i [])
  element i h = go (ltb i (length ps)) refl
    where
      go : (t : Bool) → ltb i (length ps) ≡ t → get_or (map f ps ++ replicate n 0) i 0 ≡ f (get_or ps i [])
      go true t =
          let l : i < length (map f ps) = omega (arith, length-map ps f, ltb-true i (length ps) t) in
          get_or-append (map f ps) (replicate n 0) 0 i l ∙ ap (get_or (map f ps) i) (sym none) ∙ get_or-map f ps i []
      go false t =
          let l : length ps ≤ i = ltb-false i (length ps) t in
          let e : length (map f ps) + (i - length ps) ≡ i = omega (arith, length-map ps f) in
          ap (λ (k : ℕ). get_or (map f ps ++ replicate n 0) k 0) (sym e)
          ∙ get_or-append-add (map f ps) (replicate n 0) (i - length ps) 0
          ∙ get_or-replicate n (i - length ps) 0 0 (omega arith)
          ∙ sym none
          ∙ ap f (sym (get_or-eq_default ps [] l))

  -- A missing word counts as empty.
  counted : take n (map f ps ++ replicate n 0) ≡ upto (λ j. f (get_or ps j [])) n
  counted =
      let long : length (take n (map f ps ++ replicate n 0)) ≡ n =
      omega (arith, length-take n (map f ps ++ replicate n 0), length-append (map f ps) (replicate n 0), length-replicate {A = ℕ} n 0) in
      ext_get_or 0 (take n (map f ps ++ replicate n 0)) (upto (λ j. f (get_or ps j [])) n) (long ∙ sym (length_upto (λ j. f (get_or ps j [])) n))
      (λ i h. let l : i < n = omega arith in get_or-take n (map f ps ++ replicate n 0) i 0 l ∙ element i l ∙ sym (get_d_upto (λ j. f (get_or ps j [])) n i 0 l))

pub values_counted : (text ws : List ℕ) (o : ℕ)
    → upto (λ j. value_of (get_or (words_after (part_of text (object_word ws o object_line_at))) j [])) (shown_count ws (object_word ws o object_class_at) 0) ≡ values_from text ws o
unfolding values_from
values_counted text ws o = sym (counted value_of refl (words_after (part_of text (object_word ws o object_line_at))) (shown_count ws (object_word ws o object_class_at) 0))

-- ---- a walk over words

first_at : (ps : List (List ℕ)) (j : ℕ) → first (drop j ps) ≡ get_or ps j []
first_at [] zero = refl
first_at [] (suc j) = refl
first_at (p ∷ ps) zero = refl
first_at (p ∷ ps) (suc j) = first_at ps j

others_at : (ps : List (List ℕ)) (j : ℕ) → others (drop j ps) ≡ drop (suc j) ps
others_at [] zero = refl
others_at [] (suc j) = refl
others_at (p ∷ ps) zero = refl
others_at (p ∷ ps) (suc j) = others_at ps j

-- The next word, which counts as empty where none is left, and the words left after it.
taken_first : (r : rust.Option (Bor (List ℕ))) (none : Bor (List ℕ)) (u v : Words) → none.now ≡ [] → YieldsFirstRef left u r v → (unwrap_or r none).now ≡ first (left u)
taken_first (Some x) none u v e h = ap first (sym h)
taken_first None none u v e h = e ∙ ap first (sym h.0)

taken_others : (r : rust.Option (Bor (List ℕ))) (u v : Words) → YieldsFirstRef left u r v → left v ≡ others (left u)
taken_others (Some x) u v h = ap others (sym h)
taken_others None u v h = h.1 ∙ ap others (sym h.0)

module _ (ws : List (List ℕ)) (j : ℕ) (r : rust.Option (Bor (List ℕ))) (u v : Words) (at : left u ≡ drop j ws) (h : YieldsFirstRef left u r v) where
  pub word_at : (none : Bor (List ℕ)) → none.now ≡ [] → (unwrap_or r none).now ≡ get_or ws j []
  word_at none e = taken_first r none u v e h ∙ ap first at ∙ first_at ws j

  pub words_behind : left v ≡ drop (j + 1) ws
  words_behind = taken_others r u v h ∙ ap others at ∙ others_at ws j ∙ rw (← add-one j)
