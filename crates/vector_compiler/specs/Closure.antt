-- From marks to vectors: where the marked vertices are those reached, their bodies make the transitive vector.
use Rattle.std.specs.Prelude.{ℕ, ◌+◌, ◌*◌, ◌/◌, ◌%◌, ◌≤◌, ◌<◌, ◌≡◌, Bool, true, false, length, get_or, replicate, ltb}
use Rattle.std.proofs.Math.Path.{refl, sym, ap, ap₂, subst}
use Rattle.std.proofs.Common.{◌∙◌}
use Rattle.std.proofs.Math.Bool.{cond}
use mathlib.Core.List.{List, [], ◌∷◌, map, Memᴰ}
use native.Mathlib.Omega.{arith}
use Rattle.std.proofs.Math.ListN.{length-map, get_or-eq_default}
use Rattle.std.proofs.lemmas.List.{length-replicate, get_or-replicate}
use borrow.Author.Tests.{ltb-true, ltb-false, lt-ltb, le-ltb}
use Rattle.layout.specs.Layout.{names_at, kind_words}
use Rattle.model.specs.Base.{upto}
use Rattle.model.specs.Word.{Name}
use Rattle.model.specs.Form.{Statement}
use Rattle.model.specs.Library.{Library, Member, Class, no_member, class_at, as_recorded, method_names}
use Rattle.model.specs.Mode.{Mode, Null, joins}
use Rattle.model.specs.Graph.{Node, Star, Reached}
use Rattle.model.specs.Vector.{in_body, joined_vector, transitive, vectors_of}
use Rattle.laws.specs.Lists.{in_upto, map_at}
use Rattle.laws.specs.Modes.{Le, null_le, le_antisym, joins_upper, joins_least}
use Rattle.vector_theory.specs.VectorLaws.{root, body_at, transitive_mode, reached_within, mode_is_join}
use Rattle.catalog.specs.View.{name_of, class_word, class_count, member_count, member_at, members_of, class_of, library_of}
use Rattle.laws.specs.Upto.{length_upto}
use Rattle.catalog.specs.Look.{shown_count, class_at_law, member_at_law, member_count_law, shown_members, shown_le}
use Rattle.vector_direct.specs.declared.Vector.{Vector}
use Rattle.vector_direct.specs.Fields.{fields_in}
use Rattle.vector_direct.specs.Says.{Says, says_nothing, says_same}
use Rattle.vector_commute.specs.Lists.{upto_in}
use Rattle.vector_compiler.specs.Nodes.{node_at, body_of_node, Calls, back, forth, star_below}
use Rattle.vector_compiler.specs.Marks.{touch, Partly, Closed, partly_root}
use Rattle.vector_compiler.specs.Joining.{joined_modes}
use Rattle.vector_commute.specs.Commuting.{Masks, says_masks}

module _ (text ws : List ℕ) (c : ℕ) where
  abbrev l : Library
  l = library_of text ws

  -- The mode that a vertex adds, where it is marked.
  unfoldable pub marked_mode : List ℕ → ℕ → Name → Mode
  unfolding in_body node_at
  marked_mode ms x f = cond (ltb 0 (get_or ms x 0)) (in_body f (body_of_node text ws x)) Null

  module _ (ms : List ℕ) (x : ℕ) (fields : List Name) where
    pub marked_is : (v : Vector) → 0 < get_or ms x 0 → Says fields (λ f. in_body f (body_of_node text ws x)) v → Says fields (marked_mode ms x) v
    unfolding marked_mode
    marked_is v h s =
        let body = body_of_node text ws x in
        says_same fields (λ f. in_body f body) (marked_mode ms x) v (λ f. sym (ap (λ (t : Bool). cond t (in_body f body) Null) (lt-ltb 0 (get_or ms x 0) h))) s

    pub unmarked_is : get_or ms x 0 ≤ 0 → Says fields (marked_mode ms x) (record { depends = 0; changes = 0 })
    unfolding marked_mode
    unmarked_is h =
        let body = body_of_node text ws x in
        says_nothing fields (marked_mode ms x) (λ f. ap (λ (t : Bool). cond t (in_body f body) Null) (le-ltb 0 (get_or ms x 0) h))

  module _ (ms : List ℕ) (r : ℕ) (m : Name) (h : r < 512) (e : node_at text ws r ≡ root c m) (closed : Closed (Calls text ws c) r ms) (f : Name) where
    abbrev mode : Mode
    mode = transitive_mode l (as_recorded l) c m f

    marked_within : (x : ℕ) (t : Bool) → ltb 0 (get_or ms x 0) ≡ t → Le (cond t (in_body f (body_of_node text ws x)) Null) mode
    marked_within x true t =
        reached_within l (as_recorded l) c m (node_at text ws x) (back text ws c r (root c m) e (closed.sound x (ltb-true 0 (get_or ms x 0) t))) f
    marked_within x false t = null_le mode

    all : List Mode
    all = upto (λ x. marked_mode ms x f) 512

    marked_there : (x : ℕ) → Star (Calls text ws c) r x → Le (in_body f (body_of_node text ws x)) (joins all)
    unfolding marked_mode all
    marked_there x s =
        let t = lt-ltb 0 (get_or ms x 0) (closed.complete x s) in
        let b = in_body f (body_of_node text ws x) in
        let m : marked_mode ms x f ≡ b = ap (λ (d : Bool). cond d b Null) t in
        subst (λ (a : Mode). Le a (joins all)) m (joins_upper (in_upto (λ y. marked_mode ms y f) 512 x (star_below text ws c h s)))

    body_within : (v : Node) → Reached l (as_recorded l) c (root c m) v → Le (in_body f (body_at l (as_recorded l) v)) (joins all)
    unfolding in_body joins
    body_within v p = go (body_at l (as_recorded l) v) refl
      where
        go : (b : List Statement) → body_at l (as_recorded l) v ≡ b → Le (in_body f (body_at l (as_recorded l) v)) (joins all)
        go [] q = subst (λ (b : List Statement). Le (in_body f b) (joins all)) (sym q) (null_le (joins all))
        go (s ∷ ss) q =
            let (x, i, n) = forth text ws c r (root c m) e p s (subst (Memᴰ s) (sym q) (Memᴰ.head refl)) in
            subst (λ (w : Node). Le (in_body f (body_at l (as_recorded l) w)) (joins all)) n (marked_there x i)

    -- The marked bodies joined are the transitive mode.
    pub marked_mode_law : joined_modes (marked_mode ms) 512 f ≡ mode
    unfolding marked_mode all
    marked_mode_law =
        le_antisym (joins all) mode
        (joins_least all mode (λ a i. let (x, k, q) = upto_in (λ y. marked_mode ms y f) 512 i in subst (λ (b : Mode). Le b mode) (sym q) (marked_within x (ltb 0 (get_or ms x 0)) refl)))
        ((mode_is_join l (as_recorded l) c m f (joins all)).1 body_within)

-- ---- a method of a class as the root

module _ (text ws : List ℕ) (c j : ℕ) (known : c < class_count ws) (below : j < member_count ws c 1) where
  abbrev library : Library
  library = library_of text ws

  abbrev name : Name
  name = get_or (method_names library c) j []

  methods : (class_at library c).methods ≡ members_of text ws c 1
  unfolding class_of
  methods = ap (λ (k : Class). k.methods) (class_at_law text ws c known)

  inside : j < length (method_names library c)
  inside = omega (arith, length-map (class_at library c).methods (λ (m : Member). m.name), ap length methods, member_count_law text ws c 1)

  member_here : get_or (class_at library c).methods j no_member ≡ member_at text ws c 1 j
  member_here = ap (λ (ms : List Member). get_or ms j no_member) methods ∙ member_at_law text ws c 1 j below

  pub below_512 : c * 32 + j < 512
  unfolding member_count
  below_512 = omega arith

  root_node : node_at text ws (c * 32 + j) ≡ root c name
  unfolding node_at member_at member_count
  root_node =
      let d : (c * 32 + j) / 32 ≡ c = omega arith in
      let m : (c * 32 + j) % 32 ≡ j = omega arith in
      let n =
      ap₂ (λ (k i : ℕ). name_of text (class_word ws k (names_at + (1 * kind_words + i)))) d m
      ∙ sym (ap (λ (x : Member). x.name) member_here)
      ∙ sym (map_at (λ (x : Member). x.name) (class_at library c).methods j no_member [] (omega (arith, inside, length-map (class_at library c).methods (λ (x : Member). x.name)))) in
      λ i. record { class = d i; method = n i }

  vector_here : get_or (vectors_of library (as_recorded library) c) j [] ≡ map (transitive_mode library (as_recorded library) c name) (fields_in text ws c)
  unfolding transitive joined_vector
  vector_here = map_at (transitive library (as_recorded library) c) (method_names library c) j [] [] inside

  -- The marked bodies' vector is the method's transitive one.
  pub root_masks : (ms : List ℕ) (v : Vector) → Closed (Calls text ws c) (c * 32 + j) ms → Says (fields_in text ws c) (joined_modes (marked_mode text ws c ms) 512) v
      → Masks (get_or (vectors_of library (as_recorded library) c) j []) v
  root_masks ms v closed says =
      subst (λ (modes : List Mode). Masks modes v) (sym vector_here)
      (says_masks (fields_in text ws c) (transitive_mode library (as_recorded library) c name) v
      (says_same (fields_in text ws c) (joined_modes (marked_mode text ws c ms) 512) (transitive_mode library (as_recorded library) c name) v
      (λ f. marked_mode_law text ws c ms (c * 32 + j) name below_512 root_node closed f) says))

  -- It has a mode for each of at most 32 fields.
  pub vector_length : length (get_or (vectors_of library (as_recorded library) c) j []) ≤ 32
  vector_length =
      let mode = transitive_mode library (as_recorded library) c name in
      let fields = (class_at library c).fields in
      omega (
        arith,
        ap length vector_here,
        length-map (fields_in text ws c) mode,
        length-map fields (λ (m : Member). m.name),
        ap length (shown_members text ws c 0 (omega arith)),
        length_upto (member_at text ws c 0) (shown_count ws c 0),
        shown_le ws c 0,
      )

-- The vector of a method, where there is one.
abbrev pub VectorFound : List ℕ → List ℕ → ℕ → ℕ → Vector → Type 0
VectorFound text ws c j v = c < class_count ws → j < member_count ws c 1 → Masks (get_or (vectors_of (library_of text ws) (as_recorded (library_of text ws)) c) j []) v

-- It is found by marking: one root, all that is reached from it, the marked bodies joined.
pub vector_found : (text ws : List ℕ) (c j : ℕ) (ms₀ ms : List ℕ) (v : Vector) → ms₀ ≡ touch (c % 16 * 32 + j % 32) (replicate 512 0)
    → ((r : ℕ) → Partly (Calls text ws c) r ms₀ → Closed (Calls text ws c) r ms)
    → Says (fields_in text ws c) (joined_modes (marked_mode text ws c ms) 512) v → VectorFound text ws c j v
unfolding member_count
vector_found text ws c j ms₀ ms v e closed says known below =
    let r : c % 16 * 32 + j % 32 ≡ c * 32 + j = omega arith in
    let begun : Partly (Calls text ws c) (c * 32 + j) (touch (c * 32 + j) blank) =
    partly_root (Calls text ws c) (c * 32 + j) blank (length-replicate {A = ℕ} 512 0) (below_512 text ws c j known below) blank_at in
    root_masks text ws c j known below ms v
    (closed (c * 32 + j) (subst (Partly (Calls text ws c) (c * 32 + j)) (sym (e ∙ ap (λ (x : ℕ). touch x blank) r)) begun)) says
  where
    blank : List ℕ
    blank = replicate 512 0

    blank_at : (x : ℕ) → get_or blank x 0 ≡ 0
    blank_at x = go (ltb x 512) refl
      where
        go : (t : Bool) → ltb x 512 ≡ t → get_or blank x 0 ≡ 0
        go true t = get_or-replicate 512 x 0 0 (ltb-true x 512 t)
        go false t =
            let h : length blank ≤ x = omega (arith, length-replicate {A = ℕ} 512 0, ltb-false x 512 t) in
            get_or-eq_default blank 0 h
