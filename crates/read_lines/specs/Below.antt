-- The lines of a text from a place on, one by one, and whether they still define a method of the class above them.
use Rattle.std.specs.Prelude.{ℕ, ◌+◌, ◌-◌, ◌≤◌, ◌<◌, ◌≡◌, ◌≢◌, Bool, ◌||◌, cond, drop, Option, Some, None}
use Rattle.std.proofs.Math.Path.{refl, ap}
use Rattle.std.proofs.Common.{◌∙◌, arith}
use Rattle.std.proofs.Math.Bool.{true, false}
use mathlib.Core.List.{List, [], ◌∷◌}
use Rattle.std.proofs.Math.ListN.{length, length-take, length-drop}
use Rattle.std.proofs.Math.Dec.{eqb}
use Rattle.model.specs.Base.{same, any, digit}
use Rattle.model.specs.Text.{pieces, words}
use Rattle.model.specs.Word.{Name}
use Rattle.model.specs.Form.{Form, class_line, field_line, method_line, statement_line, end_line, object_line, malformed, form_of, Line, lines_from}
use Rattle.model.specs.Fault.{later}
use Rattle.text_lex.specs.Scan.{is_byte, before}
use Rattle.text_lex.specs.Piece.{is_empty, pieces_step, piece_at, none_after, pieces_after_law}
use Rattle.read_classes.specs.Lines.{line_of}

-- The lines from a place on.
unfoldable pub lines_at : List ℕ → ℕ → List Line
unfolding lines_from pieces
lines_at s at = lines_from at (pieces 10 (drop at s))

-- The line from one place to another, LF excluded.
abbrev pub placed_line : List ℕ → ℕ → ℕ → Line
placed_line s at end = record { form = form_of (words (line_of s at end)); at = at; size = length (line_of s at end) }

more : (at : ℕ) (l : List ℕ) (ps : List (List ℕ)) → is_empty ps ≡ false
    → lines_from at (l ∷ ps) ≡ record { form = form_of (words l); at = at; size = length l } ∷ lines_from (at + length l + 1) ps
unfolding lines_from
more at l [] h = let z : ◌≡◌ {A = Bool} true false = h in cc
more at l (m ∷ ms) h = refl

module _ (s : List ℕ) (at end : ℕ) (h : end ≡ at + before (is_byte 10) (drop at s)) where
  pub lines_more : end < length s → lines_at s at ≡ placed_line s at end ∷ lines_at s (end + 1)
  unfolding lines_at
  lines_more k =
      let l = line_of s at end in
      let z : at + length l + 1 ≡ end + 1 = omega (arith, length-take (end - at) (drop at s), length-drop at s) in
      ap (lines_from at) (piece_at 10 s at end h ∙ ap (λ (ps : List (List ℕ)). l ∷ ps) (pieces_after_law 10 s end k))
      ∙ more at l (pieces 10 (drop (end + 1) s)) (ap is_empty (pieces_step 10 (drop (end + 1) s)))
      ∙ ap (λ (i : ℕ). placed_line s at end ∷ lines_from i (pieces 10 (drop (end + 1) s))) z

  pub lines_end : length s ≤ end → lines_at s at ≡ []
  unfolding lines_at lines_from
  lines_end k = ap (lines_from at) (piece_at 10 s at end h ∙ ap (λ (ps : List (List ℕ)). line_of s at end ∷ ps) (none_after 10 s end k))

-- ---- methods that the lines below still define

-- What a line means for the method m: 1 it defines it, 2 the class ends there, 0 neither.
abbrev pub look_at : Name → Form → ℕ
look_at m (class_line n ps) = 2
look_at m (field_line n) = 0
look_at m (method_line n) = digit (same m n)
look_at m (statement_line s) = 0
look_at m end_line = 0
look_at m (object_line n c vs) = 2
look_at m malformed = 0

-- The same as the code answers it: whether the line defines the method, where it decides.
abbrev pub seen : Option Bool → ℕ
seen None = 0
seen (Some d) = cond d 1 2

-- Whether the lines still define the method m.
abbrev pub is_later : Name → List Line → Bool
is_later m ls = any (same m) (later ls)

module _ (m : Name) (line : Line) (below : List Line) where
  goes : (f : Form) → line.form ≡ f → look_at m f ≡ 0 → is_later m (line ∷ below) ≡ is_later m below
  unfolding later any
  goes (class_line n ps) e h = absurd (omega arith)
  goes (field_line n) e h = rw e
  goes (method_line n) e h = rw e (go (same m n) h)
    where
      go : (t : Bool) → digit t ≡ 0 → (t || any (same m) (later below)) ≡ any (same m) (later below)
      go true h = absurd (omega arith)
      go false h = refl
  goes (statement_line s) e h = rw e
  goes end_line e h = rw e
  goes (object_line n c vs) e h = absurd (omega arith)
  goes malformed e h = rw e

  stops : (f : Form) → line.form ≡ f → look_at m f ≢ 0 → is_later m (line ∷ below) ≡ eqb (look_at m f) 1
  unfolding later any
  stops (class_line n ps) e h = rw e
  stops (field_line n) e h = absurd (h refl)
  stops (method_line n) e h = rw e (go (same m n) h)
    where
      go : (t : Bool) → digit t ≢ 0 → (t || any (same m) (later below)) ≡ eqb (digit t) 1
      go true h = refl
      go false h = absurd (h refl)
  stops (statement_line s) e h = absurd (h refl)
  stops end_line e h = absurd (h refl)
  stops (object_line n c vs) e h = rw e
  stops malformed e h = absurd (h refl)

  -- A line that means nothing for the method, and one that decides.
  pub later_more : look_at m line.form ≡ 0 → is_later m (line ∷ below) ≡ is_later m below
  later_more = goes line.form refl

  pub later_here : look_at m line.form ≢ 0 → is_later m (line ∷ below) ≡ eqb (look_at m line.form) 1
  later_here = stops line.form refl
