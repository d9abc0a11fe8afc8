-- Which kind of line may stand in which place, and the place after it, as a table; and the first pass over the lines of a text
-- from a given line on.
use Prim.Native.Nat.{ℕ, zero, suc, ◌+◌, ◌-◌, ◌≤◌, ◌<◌, min}
use Rattle.std.specs.Prelude as rust
use Rattle.std.specs.Prelude.{Some, None}
use Rattle.std.specs.Prelude.{◌≡◌, refl, Bool, true, false, cond, ◌&&◌, ◌||◌, List, [], ◌∷◌, drop, get_or, eqb, ltb}
use Rattle.std.proofs.Common.{sym, subst, ◌∙◌, arith, lt-ltb, le-ltb, ltb-true, ltb-false}
use Rattle.std.proofs.Math.Path.{ap}
use Rattle.std.proofs.Math.ListN.{length, take, length-take, length-drop}
use Rattle.model.specs.Text.{pieces, words}
use Rattle.model.specs.Form.{Form, class_line, field_line, method_line, statement_line, end_line, object_line, malformed, form_of, lines_from, rest_of}
use Rattle.model.specs.Form.{Place, at_start, among_fields, within_body, among_methods, among_objects, place_number, place_after, may_stand, first_misplaced}
use Rattle.text_lex.specs.Scan.{is_byte, before}
use Rattle.text_lex.specs.Piece.{is_empty, pieces_step, piece_at, none_after, pieces_after_law}
use Rattle.text_syntax.specs.Kinds.{kind_of}
use Rattle.text_syntax.specs.declared.place.Place.{Place as CodePlace}
use Rattle.text_syntax.specs.declared.place.Place.TheVariants.{Start, Fields, Body, Methods, Objects}

abbrev pub said_place : CodePlace → Place
said_place Start = at_start
said_place Fields = among_fields
said_place Body = within_body
said_place Methods = among_methods
said_place Objects = among_objects

-- The row of a place: for each kind the place after such a line, or None where it may not stand.
abbrev pub row : CodePlace → List (rust.Option CodePlace)
row Start = Some Fields ∷ None ∷ None ∷ None ∷ None ∷ Some Objects ∷ []
row Fields = Some Fields ∷ Some Fields ∷ Some Body ∷ None ∷ None ∷ Some Objects ∷ []
row Body = None ∷ None ∷ None ∷ Some Body ∷ Some Methods ∷ None ∷ []
row Methods = Some Fields ∷ None ∷ Some Body ∷ None ∷ None ∷ Some Objects ∷ []
row Objects = None ∷ None ∷ None ∷ None ∷ None ∷ Some Objects ∷ []

-- The place after a line of a kind, given by its number; None past the last kind.
abbrev pub next_place : CodePlace → ℕ → rust.Option CodePlace
next_place p kind = get_or (row p) kind None

-- The entry says what the model's rule says of a form in a place.
abbrev pub Follows : rust.Option CodePlace → Form → Place → Type 0
Follows None f p = may_stand f p ≡ false
Follows (Some q) f p = (may_stand f p ≡ true) × (said_place q ≡ place_after f)

rows : (f : Form)
    → Follows (next_place Start (kind_of f)) f at_start × Follows (next_place Fields (kind_of f)) f among_fields
    × Follows (next_place Body (kind_of f)) f within_body × Follows (next_place Methods (kind_of f)) f among_methods
    × Follows (next_place Objects (kind_of f)) f among_objects
unfolding may_stand
rows (class_line n ps) = ((refl, refl), (refl, refl), refl, (refl, refl), refl)
rows (field_line n) = (refl, (refl, refl), refl, refl, refl)
rows (method_line n) = (refl, (refl, refl), refl, (refl, refl), refl)
rows (statement_line s) = (refl, refl, (refl, refl), refl, refl)
rows end_line = (refl, refl, (refl, refl), refl, refl)
rows (object_line n c vs) = ((refl, refl), (refl, refl), refl, (refl, refl), (refl, refl))
rows malformed = (refl, refl, refl, refl, refl)

follows_at : (f : Form) (p : CodePlace) → Follows (next_place p (kind_of f)) f (said_place p)
follows_at f Start = (rows f).0
follows_at f Fields = (rows f).1
follows_at f Body = (rows f).2
follows_at f Methods = (rows f).3
follows_at f Objects = (rows f).4

-- The same for an entry found by the number of a kind.
pub follows : (f : Form) (p : CodePlace) (kind : ℕ) (r : rust.Option CodePlace) → r ≡ next_place p kind → kind ≡ kind_of f → Follows r f (said_place p)
follows f p kind r e k =
    subst (λ (q : rust.Option CodePlace). Follows q f (said_place p)) (sym (e ∙ ap (next_place p) k)) (follows_at f p)

-- A line's number, or None where it is 0.
abbrev pub line_in : ℕ → rust.Option ℕ
line_in zero = None
line_in (suc n) = Some (suc n)

pub line_some : (n : ℕ) → 1 ≤ n → Some n ≡ line_in n
line_some zero h = absurd (omega arith)
line_some (suc n) h = refl

-- The first pass over the rest of a text, whose next line is line n and begins at `at`.
unfoldable pub pass_from : ℕ → Place → List ℕ → ℕ → ℕ
unfolding first_misplaced lines_from rest_of pieces
pass_from n p s at = first_misplaced n p (lines_from at (pieces 10 (drop at s))) (rest_of (pieces 10 (drop at s)))

-- At the end of a text a line without LF is left, or an `end` is missing.
abbrev pub is_unfinished : Place → Bool → Bool
is_unfinished p left = left || eqb (place_number p) 2

abbrev pub at_end : ℕ → Place → Bool → ℕ
at_end n p left = cond (is_unfinished p left) n 0

line_step : (n : ℕ) (p : Place) (at : ℕ) (l : List ℕ) (ps : List (List ℕ)) → is_empty ps ≡ false
    → first_misplaced n p (lines_from at (l ∷ ps)) (rest_of (l ∷ ps))
    ≡ cond (may_stand (form_of (words l)) p) (first_misplaced (n + 1) (place_after (form_of (words l))) (lines_from (at + length l + 1) ps) (rest_of ps)) n
unfolding first_misplaced lines_from rest_of
line_step n p at l [] h = let z : ◌≡◌ {A = Bool} true false = h in cc
line_step n p at l (m ∷ ms) h = refl

end_step : (n : ℕ) (p : Place) (l : List ℕ) → first_misplaced n p [] l ≡ at_end n p (ltb 0 (length l))
unfolding first_misplaced
end_step n p [] = refl
end_step n p (b ∷ l) = rw (lt-ltb 0 (length (b ∷ l)) (omega arith))

module _ (n : ℕ) (p : Place) (s : List ℕ) (at e : ℕ) (h : e ≡ at + before (is_byte 10) (drop at s)) where
  abbrev line : Form
  line = form_of (words (take (e - at) (drop at s)))

  pass_line : e < length s → pass_from n p s at ≡ cond (may_stand line p) (pass_from (n + 1) (place_after line) s (e + 1)) n
  unfolding pass_from
  pass_line k =
      let l = take (e - at) (drop at s) in
      let z : at + length l + 1 ≡ e + 1 = omega (arith, length-take (e - at) (drop at s), length-drop at s) in
      rw (piece_at 10 s at e h, pieces_after_law 10 s e k, ← z)
      (line_step n p at l (pieces 10 (drop (at + length l + 1) s)) (ap is_empty (pieces_step 10 (drop (at + length l + 1) s))))

  -- The next line may not stand here, or may.
  pub pass_stop : e < length s → may_stand line p ≡ false → pass_from n p s at ≡ n
  pass_stop k m = pass_line k ∙ ap (λ (t : Bool). cond t (pass_from (n + 1) (place_after line) s (e + 1)) n) m

  pub pass_more : e < length s → may_stand line p ≡ true → pass_from n p s at ≡ pass_from (n + 1) (place_after line) s (e + 1)
  pass_more k m = pass_line k ∙ ap (λ (t : Bool). cond t (pass_from (n + 1) (place_after line) s (e + 1)) n) m

  -- No line is left.
  pub pass_end : length s ≤ e → pass_from n p s at ≡ at_end n p (ltb at (length s))
  unfolding pass_from lines_from rest_of
  pass_end k =
      rw (piece_at 10 s at e h, none_after 10 s e k)
      (end_step n p (take (e - at) (drop at s)) ∙ ap (at_end n p) (go (ltb at (length s)) refl))
    where
      size : length (take (e - at) (drop at s)) ≡ min (e - at) (length s - at)
      size = length-take (e - at) (drop at s) ∙ ap (min (e - at)) (length-drop at s)

      go : (t : Bool) → ltb at (length s) ≡ t → ltb 0 (length (take (e - at) (drop at s))) ≡ ltb at (length s)
      go true t = let l = ltb-true at (length s) t in lt-ltb 0 (length (take (e - at) (drop at s))) (omega (arith, size)) ∙ sym t
      go false t = let l = ltb-false at (length s) t in le-ltb 0 (length (take (e - at) (drop at s))) (omega (arith, size)) ∙ sym t
