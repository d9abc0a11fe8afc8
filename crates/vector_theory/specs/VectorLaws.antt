-- The transitive vectors: the mode of a field is the join of its modes in the reached bodies (definition 10), and a program's
-- table holds it at the field's place.
use Rattle.std.specs.Prelude.{ℕ, ◌<◌, ◌≡◌, ◌↔◌, Bool, true, false, length}
use Rattle.std.proofs.Common.{arith, sym, ◌∙◌}
use Rattle.std.proofs.Math.Path.{refl, ap, subst}
use mathlib.Core.List.Memᴰ
use mathlib.Core.List.{List, [], map, Memᴰ}
use Rattle.std.proofs.Math.ListN.{get_or, length-map, get_or-eq_default}
use Rattle.model.specs.Word.{Name}
use Rattle.model.specs.Form.{Statement}
use Rattle.model.specs.Library.{Library, Resolution, class_at, member_place, among, as_recorded, body_of, field_names, method_names}
use Rattle.model.specs.Mode.{Mode, Null, joins}
use Rattle.model.specs.Graph.{Node, calls, successors, here, further, Reached, reached}
use Rattle.model.specs.Vector.{in_statement, in_body, joined_vector, transitive, vectors_of, Program, program_by, program, vector_of}
use Rattle.laws.specs.Lists.{upto_at, map_at, map_in, in_map}
use Rattle.vector_theory.specs.Reachability.{reached_sound, reached_complete}
use Rattle.laws.specs.Modes.{Le, le_refl, le_trans, le_antisym, null_le, joins_upper, joins_least}
use Rattle.laws.specs.Lookup.{place_known, place_unknown, name_at, class_with_field}
use Rattle.vector_theory.specs.Lawful.{Lawful, as_recorded_lawful}

-- A method's vertex in the graph of a class.
abbrev pub root : ℕ → Name → Node
root c m = record { class = c; method = m }

-- The body of a vertex.
abbrev pub body_at : Library → Resolution → Node → List Statement
body_at l resolve v = body_of l resolve v.class v.method

-- The modes of a statement are within those of its body.
statement_in_body : (f : Name) (ss : List Statement) (s : Statement) → Memᴰ s ss → Le (in_statement f s) (in_body f ss)
unfolding in_body
statement_in_body f ss s k = joins_upper (map_in (in_statement f) k)

module _ (l : Library) (resolve : Resolution) (c : ℕ) (m : Name) where
  -- The mode of a field, by its name, in the transitive vector.
  abbrev pub transitive_mode : Name → Mode
  transitive_mode f = joins (map (λ v. in_body f (body_at l resolve v)) (reached l resolve c (root c m)))

  -- The modes of every reached body are within the transitive vector.
  pub reached_within : (v : Node) → Reached l resolve c (root c m) v → (f : Name) → Le (in_body f (body_at l resolve v)) (transitive_mode f)
  reached_within v r f = joins_upper (map_in (λ w. in_body f (body_at l resolve w)) (reached_complete l resolve c (root c m) v r))

  -- So are those of every statement of a reached body.
  pub statement_within : (v : Node) → Reached l resolve c (root c m) v → (s : Statement) → Memᴰ s (body_at l resolve v)
      → (f : Name) → Le (in_statement f s) (transitive_mode f)
  statement_within v r s k f = le_trans (statement_in_body f (body_at l resolve v) s k) (reached_within v r f)

  -- The transitive vector is no more than the reached bodies require.
  pub mode_is_join : (f : Name) (x : Mode)
      → Le (transitive_mode f) x ↔ ((v : Node) → Reached l resolve c (root c m) v → Le (in_body f (body_at l resolve v)) x)
  mode_is_join f x =
      (λ h v r. le_trans (reached_within v r f) h, λ h. joins_least _ x (λ a k. each h a (in_map _ (reached l resolve c (root c m)) k)))
    where
      each : ((v : Node) → Reached l resolve c (root c m) v → Le (in_body f (body_at l resolve v)) x) → (a : Mode)
          → ((v : Node) × Memᴰ v (reached l resolve c (root c m)) × (a ≡ in_body f (body_at l resolve v))) → Le a x
      each h a (v, k, e) = subst (λ y. Le y x) (sym e) (h v (reached_sound l resolve c (root c m) v k))

  -- The vector has that mode at the field's place.
  pub transitive_at : (f : Name) → member_place (class_at l c).fields f < length (class_at l c).fields
      → get_or (transitive l resolve c m) (member_place (class_at l c).fields f) Null ≡ transitive_mode f
  unfolding transitive joined_vector
  transitive_at f h =
      let fs = (class_at l c).fields in
      map_at transitive_mode (field_names l c) (member_place fs f) [] Null (let e = length-map fs (λ x. x.name) in omega arith)
      ∙ ap transitive_mode (name_at fs f h)

  -- The table of a program holds the transitive vector of a method that the class has.
  pub vector_known : c < length l.classes → among (class_at l c).methods m ≡ true
      → vector_of (program_by l resolve) c m ≡ transitive l resolve c m
  unfolding vector_of program_by
  vector_known w e =
      let ms = (class_at l c).methods in
      let h = place_known ms m e in
      ap (λ vs. get_or vs (member_place ms m) []) (upto_at (vectors_of l resolve) [] (length l.classes) c w)
      ∙ map_at (transitive l resolve c) (method_names l c) (member_place ms m) [] [] (let q = length-map ms (λ x. x.name) in omega arith)
      ∙ ap (transitive l resolve c) (name_at ms m h)

  -- The table holds an empty vector for any other method.
  vector_unknown : c < length l.classes → among (class_at l c).methods m ≡ false → vector_of (program_by l resolve) c m ≡ []
  unfolding vector_of program_by
  vector_unknown w e =
      let ms = (class_at l c).methods in
      ap (λ vs. get_or vs (member_place ms m) []) (upto_at (vectors_of l resolve) [] (length l.classes) c w)
      ∙ get_or-eq_default (vectors_of l resolve c) []
      (let q = length-map ms (λ x. x.name) in
      let r = length-map (method_names l c) (transitive l resolve c) in
      let t = place_unknown ms m e in
      omega arith)

  -- From an empty body nothing further is reached.
  reached_root : body_of l resolve c m ≡ [] → (v : Node) → Reached l resolve c (root c m) v → v ≡ root c m
  unfolding successors
  reached_root e v here = refl
  reached_root e v (further {v = u} r k) =
      let called = subst (λ x. Memᴰ v (successors l resolve c x)) (reached_root e u r) k in
      absurd (Memᴰ.not-nil (subst (λ b. Memᴰ v (calls l c b)) e called))

  -- The transitive vector of an empty body is Null throughout.
  null_unknown : body_of l resolve c m ≡ [] → (f : Name) → transitive_mode f ≡ Null
  unfolding in_body
  null_unknown e f = le_antisym (transitive_mode f) Null ((mode_is_join f Null).1 each) (null_le (transitive_mode f))
    where
      each : (v : Node) → Reached l resolve c (root c m) v → Le (in_body f (body_at l resolve v)) Null
      each v r = subst (λ b. Le (in_body f b) Null) (sym (ap (body_at l resolve) (reached_root e v r) ∙ e)) (le_refl Null)

  -- The table holds the mode of each field at the field's place, whether or not the class has the method.
  pub vector_at : Lawful l resolve → (f : Name) → member_place (class_at l c).fields f < length (class_at l c).fields
      → get_or (vector_of (program_by l resolve) c m) (member_place (class_at l c).fields f) Null ≡ transitive_mode f
  vector_at lawful f h = go (among (class_at l c).methods m) refl
    where
      k : ℕ
      k = member_place (class_at l c).fields f

      go : (b : Bool) → among (class_at l c).methods m ≡ b → get_or (vector_of (program_by l resolve) c m) k Null ≡ transitive_mode f
      go true e = ap (λ v. get_or v k Null) (vector_known (class_with_field l c k h) e) ∙ transitive_at f h
      go false e = ap (λ v. get_or v k Null) (vector_unknown (class_with_field l c k h) e) ∙ sym (null_unknown (lawful.unknown c m e) f)

-- ---- programs

-- A program whose table holds the transitive vectors of its library.
pub record Compiled (p : Program) : Type 0 where
  pub mode_at : (c : ℕ) (m f : Name) → member_place (class_at p.library c).fields f < length (class_at p.library c).fields
      → get_or (vector_of p c m) (member_place (class_at p.library c).fields f) Null ≡ transitive_mode p.library p.resolve c m f

-- The program of a library is such a program, by any lawful rule and so by 01's.
pub program_by_compiled : (l : Library) (resolve : Resolution) → Lawful l resolve → Compiled (program_by l resolve)
unfolding program_by
program_by_compiled l resolve lawful = record { mode_at = λ c m f h. vector_at l resolve c m lawful f h }

pub program_compiled : (l : Library) → Compiled (program l)
unfolding program
program_compiled l = program_by_compiled l (as_recorded l) (as_recorded_lawful l)
