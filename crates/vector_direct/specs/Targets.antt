-- How the vertex that a line calls is found by places: the end of its `send`, the point in its target, the method's place.
use Prim.Native.Nat.{ℕ, ◌+◌, ◌*◌, ◌≤◌, ◌<◌}
use Rattle.std.specs.Prelude.{◌≡◌, Bool, length, take, drop}
use Rattle.std.proofs.Math.Path.{refl, sym, ap}
use Rattle.std.proofs.Common.{ap₂, ◌∙◌, arith, take_all}
use Rattle.std.proofs.Math.Bool.{true, false, cond}
use mathlib.Core.List.{List, [], ◌∷◌}
use Rattle.std.proofs.Math.Dec.{ltb}
use borrow.Author.Tests.{ltb-true, ltb-false, lt-ltb, le-ltb}
use Rattle.model.specs.Base.{bytes, same, any}
use Rattle.model.specs.Text.{pieces, words}
use Rattle.model.specs.Word.{Name}
use Rattle.model.specs.Form.{form_of}
use Rattle.model.specs.Library.{Library, Member, Class, class_at, member_place, among, class_number}
use Rattle.model.specs.Graph.{callee}
use Rattle.text_lex.specs.Scan.{is_byte, before}
use Rattle.text_lex.specs.Piece.{pieces_after, first, first_piece, none_after, cons_after}
use Rattle.catalog.specs.View.{class_count, member_count, members_of, class_of, library_of}
use Rattle.catalog.specs.Look.{shown_count, member_count_law, class_at_law, class_past, among_place, shown_class}
use Rattle.vector_direct.specs.Calls.{number_of, number_in, behind_send, target_in, called_behind}
use Rattle.vector_direct.specs.Lines.{statement_of, is_statement, line_calls, line_calls_none}

-- ---- the words after `send`

-- The words after `send`, as a search sees them: those left once it has found `send`, else those after it among those left.
abbrev pub send_left : Bool → List (List ℕ) → List (List ℕ)
send_left found ws = cond found ws (behind_send ws)

pub send_look : (w : List ℕ) (ws left : List (List ℕ)) (found : Bool) → ws ≡ w ∷ left → found ≡ same w (bytes "send") → send_left found left ≡ behind_send ws
unfolding behind_send
send_look w ws left found q e = ap (λ (t : Bool). send_left t left) e ∙ ap behind_send (sym q)

pub send_none : (ws : List (List ℕ)) → ws ≡ [] → [] ≡ behind_send ws
unfolding behind_send
send_none ws e = sym (ap behind_send e)

-- ---- the target

module _ (l : Library) (c : ℕ) (target : List ℕ) (point : ℕ) (e : point ≡ 0 + before (is_byte 46) target) where
  -- What precedes a point is the class, what follows it the method.
  pub target_prefixed : (r d : ℕ) (m : Name) → point < length target → d ≡ class_number l (take point target) → m ≡ first (pieces_after 46 (drop point target))
      → r ≡ number_of l (record { class = d; method = m }) → r ≡ number_of l (target_in l c (pieces 46 target))
  target_prefixed r d m h p q k =
      let ps = first_piece 46 target point e ∙ ap (λ (ws : List (List ℕ)). take point target ∷ ws) (cons_after 46 target point h) in
      k ∙ ap (number_of l) (λ i. record { class = p i; method = q i }) ∙ sym (ap (λ (ws : List (List ℕ)). number_of l (target_in l c ws)) ps)

  -- Without a point the class is the object's.
  pub target_plain : (r : ℕ) → length target ≤ point → r ≡ number_of l (record { class = c; method = target }) → r ≡ number_of l (target_in l c (pieces 46 target))
  target_plain r h k =
      let ps = first_piece 46 target point e ∙ ap₂ (λ (w : List ℕ) (ws : List (List ℕ)). w ∷ ws) (take_all point target h) (none_after 46 target point h) in
      k ∙ sym (ap (λ (ws : List (List ℕ)). number_of l (target_in l c ws)) ps)

-- ---- the method's place

module _ (text ws : List ℕ) (c : ℕ) where
  methods : c < class_count ws → (class_at (library_of text ws) c).methods ≡ members_of text ws c 1
  unfolding class_of
  methods h = ap (λ (k : Class). k.methods) (class_at_law text ws c h)

  shown : c < class_count ws → shown_count ws c 1 ≡ member_count ws c 1
  unfolding shown_count
  shown h = rw (lt-ltb c (class_count ws) h)

  -- The class has the method where its place is one that the tables show.
  has_method : (n : Name) → among (class_at (library_of text ws) c).methods n ≡ ltb (member_place (members_of text ws c 1) n) (shown_count ws c 1)
  unfolding among any shown_count
  has_method n = go (ltb c (class_count ws)) refl
    where
      place : ℕ
      place = member_place (members_of text ws c 1) n

      go : (t : Bool) → ltb c (class_count ws) ≡ t → among (class_at (library_of text ws) c).methods n ≡ ltb place (cond t (member_count ws c 1) 0)
      go true t =
          ap (λ (ms : List Member). among ms n) (methods (ltb-true c (class_count ws) t))
          ∙ among_place (members_of text ws c 1) n
          ∙ ap (ltb place) (member_count_law text ws c 1)
      go false t =
          ap (λ (k : Class). among k.methods n) (class_past text ws c (ltb-false c (class_count ws) t)) ∙ sym (le-ltb place 0 (omega arith))

  module _ (n : Name) (place : ℕ) (e : place ≡ member_place (members_of text ws c 1) n) where
    pub number_known : place < shown_count ws c 1 → c * 32 + place ≡ number_of (library_of text ws) (record { class = c; method = n })
    unfolding number_of
    number_known h =
        let k = shown_class ws c 1 place h in
        let t : ltb (member_place (members_of text ws c 1) n) (shown_count ws c 1) ≡ true = lt-ltb (member_place (members_of text ws c 1) n) (shown_count ws c 1) (omega arith) in
        let p : place ≡ member_place (class_at (library_of text ws) c).methods n = e ∙ ap (λ (ms : List Member). member_place ms n) (sym (methods k)) in
        ap (λ (j : ℕ). c * 32 + j) p ∙ sym (ap (λ (b : Bool). cond b (c * 32 + member_place (class_at (library_of text ws) c).methods n) 512) (has_method n ∙ t))

    pub number_unknown : shown_count ws c 1 ≤ place → ◌≡◌ {A = ℕ} 512 (number_of (library_of text ws) (record { class = c; method = n }))
    unfolding number_of
    number_unknown h =
        let t : ltb (member_place (members_of text ws c 1) n) (shown_count ws c 1) ≡ false = le-ltb (member_place (members_of text ws c 1) n) (shown_count ws c 1) (omega arith) in
        sym (ap (λ (b : Bool). cond b (c * 32 + member_place (class_at (library_of text ws) c).methods n) 512) (has_method n ∙ t))

    pub number_missing : member_count ws c 1 ≤ place → ◌≡◌ {A = ℕ} 512 (number_of (library_of text ws) (record { class = c; method = n }))
    unfolding shown_count
    number_missing h = number_unknown (go (ltb c (class_count ws)))
      where
        go : (t : Bool) → cond t (member_count ws c 1) 0 ≤ place
        go true = h
        go false = omega arith

-- ---- the line

-- The words ws follow the line's `send`.
module _ (l : Library) (c : ℕ) (line : List ℕ) (ws : List (List ℕ)) (behind : ws ≡ behind_send (words line)) where
  pub callee_found : (w : List ℕ) (rest : List (List ℕ)) (r : ℕ) → is_statement (form_of (words line)) ≡ true → ws ≡ w ∷ rest
      → r ≡ number_of l (target_in l c (pieces 46 w)) → r ≡ number_in l (callee l c (statement_of line).action)
  callee_found w rest r s e k =
      k ∙ ap (λ (vs : List (List ℕ)). number_in l (called_behind l c vs)) (sym e ∙ behind) ∙ line_calls line l c s

  pub callee_idle : is_statement (form_of (words line)) ≡ false → ◌≡◌ {A = ℕ} 512 (number_in l (callee l c (statement_of line).action))
  callee_idle e = line_calls_none line l c e

  pub callee_none : ws ≡ [] → ◌≡◌ {A = ℕ} 512 (number_in l (callee l c (statement_of line).action))
  callee_none h = go (is_statement (form_of (words line))) refl
    where
      go : (s : Bool) → is_statement (form_of (words line)) ≡ s → ◌≡◌ {A = ℕ} 512 (number_in l (callee l c (statement_of line).action))
      go true e = ap (λ (vs : List (List ℕ)). number_in l (called_behind l c vs)) (sym h ∙ behind) ∙ line_calls line l c e
      go false e = callee_idle e
