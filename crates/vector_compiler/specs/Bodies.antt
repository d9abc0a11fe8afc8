-- The body of a vertex as the tables hold it: a run of statements, cut at the last one of the text.
use Rattle.std.specs.Prelude.{ℕ, ◌+◌, ◌-◌, ◌*◌, ◌/◌, ◌%◌, min, Bool, cond, take, drop, Some, None}
use Rattle.std.proofs.Common.{arith, sym, ◌∙◌}
use Rattle.std.proofs.Math.Path.{◌≡◌, refl, ap}
use Rattle.std.proofs.Math.Bool.{true, false}
use Rattle.std.proofs.Math.Option.{none, some}
use mathlib.Core.List.{List, map}
use Rattle.std.proofs.Math.ListN.{get_or-eq_default}
use Rattle.layout.specs.Layout.{names_at, kind_words}
use Rattle.model.specs.Base.{upto}
use Rattle.model.specs.Word.{Name}
use Rattle.model.specs.Form.{Statement}
use Rattle.model.specs.Library.{Member, Placed, no_member, class_at, member, among, as_recorded, statements_of, body_of}
use Rattle.laws.specs.Lookup.{place_unknown}
use Rattle.catalog.specs.View.{class_word, statement_word, statement_count, placed_of, library_of, part_of, name_of}
use Rattle.catalog.specs.Bodies as Look
use Rattle.catalog.specs.Bodies.{bounds_of}
use Rattle.catalog.specs.declared.body.Statements.{Statements}
use Rattle.std.proofs.lemmas.Option.{same_Some}
use Rattle.vector_direct.specs.Fields.{map_upto}
use Rattle.vector_direct.specs.Lines.{statement_of}
use Rattle.vector_commute.specs.Lists.{run_upto}
use Rattle.vector_compiler.specs.Nodes.{node_at, body_of_node}

-- Statement i of a run that begins with the text's statement `first`.
abbrev pub statement_at : List ℕ → List ℕ → ℕ → ℕ → Statement
statement_at text ws first i = (placed_of text ws (first + i)).statement

module _ (text ws : List ℕ) where
  -- A method's statements.
  pub statements_upto : (m : Member) (first size : ℕ) → m.first ≡ first → size ≡ min m.count (statement_count ws - first)
      → statements_of (library_of text ws) m ≡ upto (statement_at text ws first) size
  unfolding statements_of library_of
  statements_upto m first size e k =
      ap (λ (j : ℕ). map (λ (s : Placed). s.statement) (take m.count (drop j (upto (placed_of text ws) (statement_count ws))))) e
      ∙ ap (map (λ (s : Placed). s.statement)) (run_upto (placed_of text ws) (placed_of text ws 0) (statement_count ws) first m.count)
      ∙ map_upto (λ (s : Placed). s.statement) (λ i. placed_of text ws (first + i)) (min m.count (statement_count ws - first))
      ∙ ap (upto (statement_at text ws first)) (sym k)

  -- The line of statement i holds it.
  pub line_says_it : (first i : ℕ) (line : List ℕ) → line ≡ part_of text (statement_word ws (first + i)) → statement_of line ≡ statement_at text ws first i
  unfolding placed_of
  line_says_it first i line e = ap statement_of e

-- The statements from one up to another, as many of them as the text has.
pub record Cut (ws : List ℕ) (first end at size : ℕ) : Type 0 where
  pub at_is : at ≡ first
  pub size_is : size ≡ min (end - first) (statement_count ws - first)

-- The method of that name in class c, in the class that defines its body.
module _ (text ws : List ℕ) (c : ℕ) (n : Name) where
  abbrev methods : List Member
  methods = (class_at (library_of text ws) (as_recorded (library_of text ws) c n)).methods

  abbrev written : Member
  written = member methods n

  found_written : (s : Statements) → Some s ≡ bounds_of (Look.body_in text ws c n) → (written.first ≡ s.first) × (written.count ≡ s.end - s.first)
  unfolding Look.body_in
  found_written s = go (among methods n)
    where
      go : (t : Bool) → Some s ≡ bounds_of (cond t (some written) none) → (written.first ≡ s.first) × (written.count ≡ s.end - s.first)
      go true q =
          let same : s ≡ record { first = written.first; end = written.first + written.count } = same_Some _ _ q in
          let b : s.end ≡ written.first + written.count = ap (λ (r : Statements). r.end) same in
          let a : s.first ≡ written.first = ap (λ (r : Statements). r.first) same in
          (sym a, omega arith)
      go false q = let z : ◌≡◌ {A = ℕ} 0 1 = cc in absurd (omega arith)

  none_written : None ≡ bounds_of (Look.body_in text ws c n) → written ≡ no_member
  unfolding Look.body_in
  none_written = go (among methods n) refl
    where
      go : (t : Bool) → among methods n ≡ t → None ≡ bounds_of (cond t (some written) none) → written ≡ no_member
      go true e q = let z : ◌≡◌ {A = ℕ} 0 1 = cc in absurd (omega arith)
      go false e q = unfold member in get_or-eq_default methods no_member (omega (arith, place_unknown methods n e))

-- The body of a vertex: the run that is found for its name, or none.
module _ (text ws : List ℕ) (node w : ℕ) (name : Name) (q : w ≡ class_word ws (node / 32) (names_at + (1 * kind_words + node % 32))) (e : name ≡ name_of text w) where
  body_is : body_of_node text ws node ≡ statements_of (library_of text ws) (written text ws (node / 32) name)
  unfolding body_of node_at
  body_is = ap (λ (n : Name). body_of (library_of text ws) (as_recorded (library_of text ws)) (node / 32) n) (sym (e ∙ ap (name_of text) q))

  pub body_found : (s : Statements) (at size : ℕ) → Some s ≡ bounds_of (Look.body_in text ws (node / 32) name) → Cut ws s.first s.end at size
      → body_of_node text ws node ≡ upto (statement_at text ws at) size
  body_found s at size f k =
      let m = found_written text ws (node / 32) name s f in
      body_is ∙ statements_upto text ws (written text ws (node / 32) name) at size (m.0 ∙ sym k.at_is) (omega (arith, m.1, k.at_is, k.size_is))

  pub body_missing : None ≡ bounds_of (Look.body_in text ws (node / 32) name) → body_of_node text ws node ≡ upto (statement_at text ws 0) 0
  unfolding statements_of upto
  body_missing f = body_is ∙ ap (statements_of (library_of text ws)) (none_written text ws (node / 32) name f)
