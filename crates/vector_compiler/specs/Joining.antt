-- Vectors joined in a loop: the masks gathered represent, for each field, the join of the modes passed.
use Rattle.std.specs.Prelude.{ℕ, ◌+◌, ◌≡◌, refl, List, [], ◌∷◌, ◌++◌}
use Rattle.std.proofs.Common.{sym, ap, subst, ◌∙◌}
use Rattle.model.specs.Base.{upto}
use Rattle.model.specs.Word.{Name}
use Rattle.model.specs.Form.{Statement}
use Rattle.model.specs.Mode.{Mode, Null, join, joins}
use Rattle.model.specs.Vector.{in_statement, in_body}
use Rattle.laws.specs.Modes.{le_refl, le_trans, le_antisym, null_le, le_left, le_right, join_le}
use Rattle.catalog.specs.View.{part_of, statement_word}
use Rattle.laws.specs.Upto.{upto_more}
use Rattle.vector_direct.specs.declared.Vector.{Vector}
use Rattle.vector_direct.specs.Says.{Says, joined_vector, says_nothing, says_same, says_joined}
use Rattle.vector_direct.specs.Fields.{map_upto}
use Rattle.vector_direct.specs.Lines.{statement_of}
use Rattle.vector_compiler.specs.Nodes.{body_of_node}
use Rattle.vector_compiler.specs.Bodies.{statement_at, line_says_it}

join_null : (a : Mode) → join a Null ≡ a
join_null a = le_antisym (join a Null) a (join_le a Null a (le_refl a) (null_le a)) (le_left a Null)

join_assoc : (a b c : Mode) → join a (join b c) ≡ join (join a b) c
join_assoc a b c =
    le_antisym (join a (join b c)) (join (join a b) c)
    (join_le a (join b c) (join (join a b) c) (le_trans (le_left a b) (le_left (join a b) c))
    (join_le b c (join (join a b) c) (le_trans (le_right a b) (le_left (join a b) c)) (le_right (join a b) c)))
    (join_le (join a b) c (join a (join b c))
    (join_le a b (join a (join b c)) (le_left a (join b c)) (le_trans (le_left b c) (le_right a (join b c))))
    (le_trans (le_right b c) (le_right a (join b c))))

joins_last : (ms : List Mode) (m : Mode) → joins (ms ++ (m ∷ [])) ≡ join (joins ms) m
unfolding joins
joins_last [] m = join_null m
joins_last (a ∷ ms) m = ap (join a) (joins_last ms m) ∙ join_assoc a (joins ms) m

-- The join of the modes of n things, where thing i has the mode h i f for the field f.
abbrev pub joined_modes : (ℕ → Name → Mode) → ℕ → Name → Mode
joined_modes h n f = joins (upto (λ i. h i f) n)

module _ (fields : List Name) (h : ℕ → Name → Mode) where
  pub none_joined : Says fields (joined_modes h 0) (record { depends = 0; changes = 0 })
  unfolding upto joins
  none_joined = says_nothing fields (joined_modes h 0) (λ f. refl)

  pub one_more_joined : (n : ℕ) (v w : Vector) → Says fields (joined_modes h n) v → Says fields (h n) w → Says fields (joined_modes h (n + 1)) (joined_vector v w)
  one_more_joined n v w s t =
      says_same fields (λ f. join (joined_modes h n f) (h n f)) (joined_modes h (n + 1)) (joined_vector v w)
      (λ f. sym (ap joins (upto_more (λ i. h i f) n) ∙ joins_last (upto (λ i. h i f) n) (h n f)))
      (says_joined fields (joined_modes h n) (h n) v w s t)

-- A body's mode is its statements' joined.
pub body_joined : (g : ℕ → Statement) (n : ℕ) (f : Name) → joined_modes (λ i f. in_statement f (g i)) n f ≡ in_body f (upto g n)
unfolding in_body
body_joined g n f = ap joins (sym (map_upto (in_statement f) g n))

-- The modes of the first n statements of a run joined.
abbrev pub run_modes : List ℕ → List ℕ → ℕ → ℕ → Name → Mode
run_modes text ws first = joined_modes (λ i f. in_statement f (statement_at text ws first i))

-- A turn of the loop over them, and its end.
module _ (text ws : List ℕ) (fields : List Name) (first : ℕ) where
  pub statement_joined : (n : ℕ) (line : List ℕ) (v w r : Vector) → Says fields (run_modes text ws first n) v → line ≡ part_of text (statement_word ws (first + n))
      → Says fields (λ f. in_statement f (statement_of line)) w → r ≡ joined_vector v w → Says fields (run_modes text ws first (n + 1)) r
  statement_joined n line v w r s e t q =
      subst (Says fields (run_modes text ws first (n + 1))) (sym q)
      (one_more_joined fields (λ i f. in_statement f (statement_at text ws first i)) n v w s
      (says_same fields (λ f. in_statement f (statement_of line)) (λ f. in_statement f (statement_at text ws first n)) w
      (λ f. ap (in_statement f) (line_says_it text ws first n line e)) t))

  pub run_joined : (x n size : ℕ) (v : Vector) → n ≡ size
      → body_of_node text ws x ≡ upto (statement_at text ws first) size
      → Says fields (run_modes text ws first n) v → Says fields (λ f. in_body f (body_of_node text ws x)) v
  run_joined x n size v e q s =
      says_same fields (run_modes text ws first n) (λ f. in_body f (body_of_node text ws x)) v
      (λ f. ap (λ (k : ℕ). run_modes text ws first k f) e ∙ body_joined (statement_at text ws first) size f ∙ ap (in_body f) (sym q)) s
