-- What a class has, and what the class being read may name, by the tables.
use Prim.Native.Nat.{ℕ, ◌+◌, ◌≤◌, ◌<◌}
use Rattle.std.specs.Prelude.{◌≡◌, ◌≢◌, Bool, false, ◌&&◌, ◌||◌, length, take, drop}
use Rattle.std.proofs.Math.Path.{sym, ap, ap₂}
use Rattle.std.proofs.Common.{◌∙◌, take_all, lt-ltb, le-ltb, eq-eqb, ne_eqb}
use Rattle.std.proofs.Math.Bool.{not}
use mathlib.Core.List.{List, [], ◌∷◌}
use Rattle.std.proofs.Math.Dec.{ltb}
use Rattle.layout.specs.Layout.{ancestors_at}
use Rattle.model.specs.Base.{any, upto}
use Rattle.model.specs.Text.{pieces}
use Rattle.model.specs.Word.{Name, is_name}
use Rattle.model.specs.Form.{Line}
use Rattle.model.specs.Library.{Member, Class, among, class_number, class_at, class_name, last_number, last_class}
use Rattle.model.specs.Fault.{own_method, method_of}
use Rattle.text_lex.specs.Scan.{is_byte, before}
use Rattle.text_lex.specs.Piece.{pieces_after, first, first_piece, none_after, cons_after}
use Rattle.catalog.specs.View.{class_word, class_count, member_count, member_at, members_of, class_of, library_of}
use Rattle.laws.specs.Bits.{bit}
use Rattle.catalog.specs.Look.{shown_count, part, class_at_law, class_past, shown_members, is_class_law}
use Rattle.read_lines.specs.Below.{is_later}
use Rattle.read_lines.specs.Lower.{lowest}
use Rattle.read_lines.specs.Mentioned.{is_stray, is_foreign, method_at, target_fault}
use Rattle.read_lines.specs.Added.{last_of, last_number_law, last_class_law}

module _ (text ws : List ℕ) where
  -- A counted class has the members of its row, and a number past those of the classes has none.
  module _ (k p : ℕ) (h : p < 2) (n : Name) where
    pub has_shown : k < class_count ws → among (members_of text ws k p) n ≡ among (part p (class_at (library_of text ws) k)) n
    unfolding shown_count members_of
    has_shown l =
        let e : shown_count ws k p ≡ member_count ws k p = rw (lt-ltb k (class_count ws) l) in
        ap (λ (i : ℕ). among (upto (member_at text ws k p) i) n) (sym e) ∙ ap (λ (ms : List Member). among ms n) (sym (shown_members text ws k p h))

    pub has_past : class_count ws ≤ k → false ≡ among (part p (class_at (library_of text ws) k)) n
    unfolding shown_count upto among any
    has_past l =
        let e : shown_count ws k p ≡ 0 = rw (le-ltb k (class_count ws) l) in
        sym (ap (λ (ms : List Member). among ms n) (shown_members text ws k p h) ∙ ap (λ (i : ℕ). among (upto (member_at text ws k p) i) n) e)

  -- The class k is the one being read.
  last_at : (k : ℕ) → k ≡ last_of ws → class_at (library_of text ws) k ≡ last_class (library_of text ws)
  last_at k h = ap (class_at (library_of text ws)) h ∙ sym (last_class_law text ws)

  module _ (below : List Line) (k : ℕ) where
    module _ (h : k ≡ last_of ws) where
      pub own_method_law : (m : Name) {t : Bool} → t ≡ among (part 1 (class_at (library_of text ws) k)) m → (t || is_later m below) ≡ own_method (library_of text ws) below m
      unfolding own_method
      own_method_law m e = ap (λ (t : Bool). t || is_later m below) (e ∙ ap (λ (c : Class). among c.methods m) (last_at k h))

      pub method_here : (m : Name) → own_method (library_of text ws) below m ≡ method_at (library_of text ws) below k m
      method_here m = rw (eq-eqb k (last_number (library_of text ws)) (h ∙ sym (last_number_law text ws)))

    pub method_there : k ≢ last_of ws → (m : Name) → among (part 1 (class_at (library_of text ws) k)) m ≡ method_at (library_of text ws) below k m
    method_there h m = rw (ne_eqb k (last_number (library_of text ws)) (λ e. h (e ∙ last_number_law text ws)))

  module _ (k : ℕ) (h : k ≡ last_of ws) where
    pub stray : (w : List ℕ) {a b : Bool} → a ≡ is_name w → b ≡ among (part 0 (class_at (library_of text ws) k)) w → (a && not b) ≡ is_stray (library_of text ws) w
    stray w p q = ap₂ (λ (a b : Bool). a && not b) p (q ∙ ap (λ (c : Class). among c.fields w) (last_at k h))

    pub ancestor : (d : ℕ) {w : ℕ} → k < class_count ws → w ≡ class_word ws k ancestors_at → bit w d ≡ (last_class (library_of text ws)).ancestors d
    unfolding class_of
    ancestor d l e = ap (λ (m : ℕ). bit m d) e ∙ ap (λ (c : Class). c.ancestors d) (sym (class_at_law text ws k l) ∙ last_at k h)

    pub no_ancestor : (d : ℕ) → class_count ws ≤ k → false ≡ (last_class (library_of text ws)).ancestors d
    no_ancestor d l = ap (λ (c : Class). c.ancestors d) (sym (class_past text ws k l) ∙ last_at k h)

  module _ (below : List Line) where
    pub prefixed : (c m : Name) {k n : ℕ} {t u : Bool} → k ≡ class_number (library_of text ws) c → n ≡ class_count ws
        → t ≡ method_at (library_of text ws) below k m → u ≡ (last_class (library_of text ws)).ancestors k
        → lowest (not (ltb k n) || not t) (not u) ≡ target_fault (library_of text ws) below (c ∷ m ∷ [])
    unfolding method_of class_name
    prefixed c m {k} {n} p q r s =
        let l = library_of text ws in
        ap₂ (λ (a b : Bool). lowest (not (ltb k n) || not a) (not b)) r s
        ∙ (λ i. lowest (not (ltb (p i) (q i)) || not (method_at l below (p i) m)) (not ((last_class l).ancestors (p i))))
        ∙ ap (λ (t : Bool). lowest (not t || not (method_of l below c m)) (is_foreign l (c ∷ m ∷ []))) (sym (is_class_law text ws c))

    -- A target whose first part ends at a point, or that has no point.
    module _ (target : List ℕ) (point : ℕ) (e : point ≡ 0 + before (is_byte 46) target) where
      pub target_prefixed : point < length target
          → target_fault (library_of text ws) below (take point target ∷ first (pieces_after 46 (drop point target)) ∷ []) ≡ target_fault (library_of text ws) below (pieces 46 target)
      target_prefixed h =
          sym (ap (target_fault (library_of text ws) below)
          (first_piece 46 target point e ∙ ap (λ (ps : List (List ℕ)). take point target ∷ ps) (cons_after 46 target point h)))

      pub target_plain : length target ≤ point → lowest (not (own_method (library_of text ws) below target)) false ≡ target_fault (library_of text ws) below (pieces 46 target)
      target_plain h =
          sym (ap (target_fault (library_of text ws) below)
          (first_piece 46 target point e ∙ ap₂ (λ (w : List ℕ) (ps : List (List ℕ)). w ∷ ps) (take_all point target h) (none_after 46 target point h)))
