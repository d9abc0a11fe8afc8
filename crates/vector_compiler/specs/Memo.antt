-- What is kept of methods and statements while the vectors of a class's methods are made: what is kept is right, and stays so
-- where only masks are altered.
use Rattle.std.specs.Prelude.{ℕ, ◌+◌, ◌*◌, ◌/◌, ◌%◌, ◌≤◌, ◌<◌, ◌≡◌, refl, ◌⊎◌, Bool, true, false, List, [], ◌∷◌, length, get_or, set, replicate, eqb, ltb, Option, Some, None}
use Rattle.std.proofs.Math.Logic.{inl, inr}
use Rattle.std.proofs.lemmas.Option.{none-some, same_Some}
use Rattle.std.proofs.Common.{sym, subst, ◌∙◌, arith, length-set, get_or-set_same, get_or-set_other, eqb-true, ltb-true, ltb-false}
use Rattle.std.proofs.Math.Path.{ap, ap₂}
use Rattle.std.proofs.lemmas.List.{length-replicate, get_or-replicate}
use Rattle.std.proofs.Math.ListN.{get_or-eq_default}
use Rattle.std.proofs.lemmas.Bool.{eqb-false}
use Rattle.layout.specs.Layout.{names_at, kind_words, class_words, statements_at}
use Rattle.model.specs.Base.{upto}
use Rattle.model.specs.Form.{Statement}
use Rattle.model.specs.Library.{Library, Placed, as_recorded, field_names}
use Rattle.model.specs.Graph.{Node, callee}
use Rattle.model.specs.Vector.{in_body}
use Rattle.vector_theory.specs.VectorLaws.{body_at}
use Rattle.catalog.specs.View.{class_word, statement_word, name_of, placed_of, library_of}
use Rattle.laws.specs.Upto.{upto_same}
use Rattle.catalog.specs.Store.{statement_same}
use Rattle.vector_direct.specs.declared.Vector.{Vector}
use Rattle.vector_direct.specs.Fields.{fields_in}
use Rattle.vector_direct.specs.Says.{Says}
use Rattle.vector_direct.specs.Calls.{number_in}
use Rattle.vector_compiler.specs.declared.memo.Direct.{Direct}
use Rattle.vector_compiler.specs.declared.memo.Memo.{Memo}
use Rattle.vector_compiler.specs.declared.body.Class.{Class}
use Rattle.vector_compiler.specs.Nodes.{node_at, body_of_node, vertex_le}
use Rattle.vector_compiler.specs.Bodies.{statement_at}
use Rattle.vector_compiler.specs.Meeting.{call_at}
use Rattle.vector_compiler.specs.Filled.{OnlyMasks, MasksOf, masks_of_class, same_library}
use Rattle.vector_compiler.specs.Filling.{with_vector, vector_within}

-- ---- what is kept of a method

-- What vertex x does by itself, over the fields of class c.
pub record Right (text ws : List ℕ) (c x : ℕ) (d : Direct) : Type 0 where
  pub body : body_of_node text ws x ≡ upto (statement_at text ws d.body.first) d.body.size
  pub vector : Says (fields_in text ws c) (λ f. in_body f (body_of_node text ws x)) d.vector

-- What is kept of vertices is right.
pub record Bodies (text ws : List ℕ) (c : ℕ) (bs : List (Option Direct)) : Type 0 where
  pub size : length bs ≡ 512
  pub right : (x : ℕ) (d : Direct) → get_or bs x None ≡ Some d → Right text ws c x d

module _ {A : Type 0} where
  none_kept : (n x : ℕ) (d : A) → get_or (replicate n None) x None ≡ Some d → ⊥
  none_kept n x d e = go (ltb x n) refl
    where
      go : (t : Bool) → ltb x n ≡ t → ⊥
      go true t = none-some d (sym (get_or-replicate n x None None (ltb-true x n t)) ∙ e)
      go false t = none-some d (sym (get_or-eq_default (replicate n None) None (omega (arith, length-replicate {A = Option A} n None, ltb-false x n t))) ∙ e)

  -- A place where something is kept is within the list.
  kept_inside : (l : List (Option A)) (x : ℕ) (d : A) → get_or l x None ≡ Some d → x < length l
  kept_inside l x d e = go (ltb x (length l)) refl
    where
      go : (t : Bool) → ltb x (length l) ≡ t → x < length l
      go true t = ltb-true x (length l) t
      go false t = absurd (none-some d (sym (get_or-eq_default l None (ltb-false x (length l) t)) ∙ e))

  -- Where one more thing is kept, it is that or was kept before.
  kept_before : (l : List (Option A)) (x y : ℕ) (a d : A) → get_or (set l x (Some a)) y None ≡ Some d → ((y ≡ x) × (d ≡ a)) ⊎ (get_or l y None ≡ Some d)
  kept_before l x y a d e = go (eqb y x) refl
    where
      go : (t : Bool) → eqb y x ≡ t → ((y ≡ x) × (d ≡ a)) ⊎ (get_or l y None ≡ Some d)
      go true t =
          let q : y ≡ x = eqb-true y x t in
          let h = kept_inside (set l x (Some a)) y d e in
          let s = ap (λ (i : ℕ). get_or (set l x (Some a)) i None) (sym q) ∙ e in
          inl (q, same_Some d a (sym s ∙ get_or-set_same l x (Some a) None (omega (arith, length-set l x (Some a)))))
      go false t = inr (sym (get_or-set_other l x y (Some a) None (eqb-false y x t)) ∙ e)

module _ (text ws : List ℕ) (c : ℕ) where
  bodies_none : Bodies text ws c (replicate 512 None)
  bodies_none = record { size = length-replicate {A = Option Direct} 512 None; right = λ x d h. absurd (none_kept 512 x d h) }

  -- One more vertex is kept.
  bodies_more : (bs : List (Option Direct)) (x : ℕ) (d : Direct) → Bodies text ws c bs → Right text ws c x d → Bodies text ws c (set bs x (Some d))
  bodies_more bs x d b r = record {
    size = length-set bs x (Some d) ∙ b.size;
    right = λ y e h. elim (kept_before bs x y d e h) [
      | inl same ↦ subst (λ (z : ℕ). Right text ws c z e) (sym same.0) (subst (Right text ws c x) (sym same.1) r)
      | inr before ↦ b.right y e before
    ];
  }

-- What is kept of statements is right.
pub record Callees (text ws : List ℕ) (c : ℕ) (ns : List (Option ℕ)) : Type 0 where
  pub right : (first i y : ℕ) → get_or ns (first + i) None ≡ Some y → y ≡ call_at text ws c first i

module _ (text ws : List ℕ) (c : ℕ) where
  abbrev l : Library
  l = library_of text ws

  number_le : (vs : List Node) → number_in l vs ≤ 512
  number_le [] = omega arith
  number_le (v ∷ vs) = vertex_le text ws v.class v.method

  -- A callee's number is at most 512.
  pub call_le : (first i : ℕ) → call_at text ws c first i ≤ 512
  unfolding call_at
  call_le first i = number_le (callee l c (statement_at text ws first i).action)

  same_place : (first i first' i' : ℕ) → first + i ≡ first' + i' → call_at text ws c first i ≡ call_at text ws c first' i'
  unfolding call_at
  same_place first i first' i' e = ap (λ (s : ℕ). number_in l (callee l c (placed_of text ws s).statement.action)) e

  callees_none : Callees text ws c (replicate 4096 None)
  callees_none = record { right = λ f i y h. absurd (none_kept 4096 (f + i) y h) }

  -- One more statement is kept.
  callees_more : (ns : List (Option ℕ)) (first i y : ℕ) → Callees text ws c ns → y ≡ call_at text ws c first i → Callees text ws c (set ns (first + i) (Some y))
  callees_more ns first i y n r = record {
    right = λ f j z h. elim (kept_before ns (first + i) (f + j) y z h) [
      | inl same ↦ same.1 ∙ r ∙ same_place first i f j (sym same.0)
      | inr before ↦ n.right f j z before
    ];
  }

-- ---- both, where only masks are altered

-- What a memo keeps is right.
pub record Memory (text ws : List ℕ) (c : ℕ) (m : Memo) : Type 0 where
  pub bodies : Bodies text ws c m.bodies
  pub callees : Callees text ws c m.callees

-- The same, by the class as the code holds it.
abbrev pub Kept : Class → Memo → Type 0
Kept k m = Memory k.text.now k.tables.now k.number m

module _ (text ws : List ℕ) (c : ℕ) where
  pub memory_none : (m : Memo) → m.bodies ≡ replicate 512 None → m.callees ≡ replicate 4096 None → Memory text ws c m
  memory_none m e q = record {
    bodies = subst (Bodies text ws c) (sym e) (bodies_none text ws c);
    callees = subst (Callees text ws c) (sym q) (callees_none text ws c);
  }

  pub memory_body : (m m' : Memo) (x : ℕ) (d : Direct) → Memory text ws c m → Right text ws c x d
      → m'.bodies ≡ set m.bodies x (Some d) → m'.callees ≡ m.callees → Memory text ws c m'
  memory_body m m' x d k r e q = record {
    bodies = subst (Bodies text ws c) (sym e) (bodies_more text ws c m.bodies x d k.bodies r);
    callees = subst (Callees text ws c) (sym q) k.callees;
  }

  pub memory_callee : (m m' : Memo) (first i y : ℕ) → Memory text ws c m → y ≡ call_at text ws c first i
      → m'.bodies ≡ m.bodies → m'.callees ≡ set m.callees (first + i) (Some y) → Memory text ws c m'
  memory_callee m m' first i y k r e q = record {
    bodies = subst (Bodies text ws c) (sym e) k.bodies;
    callees = subst (Callees text ws c) (sym q) (callees_more text ws c m.callees first i y k.callees r);
  }

module _ (text : List ℕ) {ws ws' : List ℕ} (h : OnlyMasks ws ws') where
  same_placed : (s : ℕ) → placed_of text ws' s ≡ placed_of text ws s
  unfolding statement_word
  same_placed s = statement_same text ws ws' s (h.rest (statements_at + s) (omega arith))

  same_node : (x : ℕ) → x < 512 → node_at text ws' x ≡ node_at text ws x
  unfolding node_at class_word
  same_node x l =
      let e = h.class (x / 32) (omega arith) (8 + (x / 32 * class_words + (names_at + (1 * kind_words + x % 32)))) (omega arith) (omega arith) in
      ap (λ (w : ℕ). record { class = x / 32; method = name_of text w }) e

  same_body : (x : ℕ) → x < 512 → body_of_node text ws' x ≡ body_of_node text ws x
  same_body x l = ap₂ (λ (k : Library) (v : Node). body_at k (as_recorded k) v) (same_library h text) (same_node x l)

  same_right : (c x : ℕ) (d : Direct) → x < 512 → Right text ws c x d → Right text ws' c x d
  same_right c x d l r = record {
    body =
        same_body x l ∙ r.body
        ∙ sym (upto_same (statement_at text ws d.body.first) (statement_at text ws' d.body.first) d.body.size (λ i k. ap (λ (p : Placed). p.statement) (same_placed (d.body.first + i))));
    vector =
        subst (λ (b : List Statement). Says (fields_in text ws' c) (λ f. in_body f b) d.vector) (sym (same_body x l))
        (subst (λ (k : Library). Says (field_names k c) (λ f. in_body f (body_of_node text ws x)) d.vector) (sym (same_library h text)) r.vector);
  }

  same_call : (c first i : ℕ) → call_at text ws' c first i ≡ call_at text ws c first i
  unfolding call_at
  same_call c first i = ap₂ (λ (k : Library) (p : Placed). number_in k (callee k c p.statement.action)) (same_library h text) (same_placed (first + i))

  -- What is kept stays right.
  pub memory_same : (c : ℕ) (m : Memo) → Memory text ws c m → Memory text ws' c m
  memory_same c m k = record {
    bodies = record {
      size = k.bodies.size;
      right = λ x d e. same_right c x d (omega (arith, kept_inside m.bodies x d e, k.bodies.size)) (k.bodies.right x d e);
    };
    callees = record { right = λ f i y e. k.callees.right f i y e ∙ sym (same_call c f i) };
  }

-- So does it where the masks of a method are stored.
pub memory_stored : (text ws : List ℕ) (c j : ℕ) (v : Vector) (ws' : List ℕ) (m : Memo) → c < 16 → j < 32 → ws' ≡ with_vector ws c j v
    → Memory text ws c m → Memory text ws' c m
memory_stored text ws c j v ws' m h k q =
    memory_same text (masks_of_class c ws ws' h (subst (MasksOf c ws) (sym q) (vector_within ws c j v k))) c m
