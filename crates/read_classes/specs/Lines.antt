-- Where the name after a line's keyword stands in the text, and the word for it.
use Rattle.std.specs.Prelude.{ℕ, min, ◌+◌, ◌-◌, ◌/◌, ◌≤◌, ◌<◌, ◌≡◌, refl, Bool, true, false, not, ◌&&◌, List, [], ◌∷◌, drop, leb}
use Rattle.std.proofs.Math.Path.{sym, ap, ap₂}
use Rattle.std.proofs.Common.{◌∙◌, length-take, drop-drop, take-take, take-add, drop_at, take_all}
use Rattle.std.proofs.lemmas.Bool.{false≢true}
use native.Mathlib.Omega.{arith}
use Rattle.std.proofs.Math.ListN.{length, take, length-drop}
use Rattle.std.proofs.Math.Seq.{length-take-le}
use borrow.Author.Tests.{leb-true, leb-false}
use Rattle.model.specs.Base.{every}
use Rattle.model.specs.Text.{words}
use Rattle.model.specs.Word.{Name, is_name, is_name_byte, is_reserved, begins_with_letter}
use Rattle.model.specs.Form.{Form, class_line, field_line, method_line, form_of}
use Rattle.text_lex.specs.Scan.{is_byte, before, before_le}
use Rattle.text_lex.specs.Piece.{words_after, first, others, end_after, next_piece, first_piece, at_end, behind}
use Rattle.catalog.specs.View.{name_of}
use Rattle.catalog.specs.Names.{name_word, name_word_name}
use Rattle.read_classes.specs.Forms.{Names, and_left, class_line_law, field_line_law, method_line_law}

and_right : (a b : Bool) → (a && b) ≡ true → b ≡ true
and_right true b e = e
and_right false b e = absurd (false≢true e)

name_size : (n : Name) → is_name n ≡ true → (0 < length n) × (length n ≤ 16)
unfolding is_name
name_size [] e = absurd (false≢true e)
name_size (b ∷ n) e =
    let w = b ∷ n in
    let s =
    and_left (begins_with_letter w && leb (length w) 16) (every is_name_byte w)
    (and_left (begins_with_letter w && leb (length w) 16 && every is_name_byte w) (not (is_reserved w)) e) in
    (omega arith, leb-true (length w) 16 (and_right (begins_with_letter w) (leb (length w) 16) s))

-- A part of a part of the text.
part_part : (s : List ℕ) (at i m n : ℕ) → at + n ≤ length s → i + m ≤ n → take m (drop i (take n (drop at s))) ≡ take m (drop (at + i) s)
part_part s at i m n h k =
    let t = drop at s in
    let e : n ≡ i + (n - i) = omega arith in
    ap (λ (j : ℕ). take m (drop i (take j t))) e
    ∙ ap (λ (l : List ℕ). take m (drop i l)) (take-add i (n - i) t)
    ∙ ap (take m) (drop_at (take i t) (take (n - i) (drop i t)) i (length-take-le i t (omega (arith, length-drop at s))))
    ∙ take-take m (n - i) (drop i t) (omega arith)
    ∙ ap (take m) (drop-drop i at s)

-- The bytes of the line from `at` to `end`.
abbrev pub line_of : List ℕ → ℕ → ℕ → List ℕ
line_of text at end = take (end - at) (drop at text)

empty : (l : List ℕ) → length l ≡ 0 → l ≡ []
empty [] h = refl
empty (x ∷ l) h = absurd (omega arith)

-- A line that runs past the text is its part within the text.
pub line_cut : (text : List ℕ) (at end from stop : ℕ) → stop ≡ min end (length text) → from ≡ min at stop → line_of text from stop ≡ line_of text at end
line_cut text at end from stop h k = go (leb at stop) (leb end (length text)) refl refl
  where
    size : (i j : ℕ) → length (line_of text i j) ≡ min (j - i) (length text - i)
    size i j = omega (arith, length-take (j - i) (drop i text), length-drop i text)

    go : (a b : Bool) → leb at stop ≡ a → leb end (length text) ≡ b → line_of text from stop ≡ line_of text at end
    go true true p q =
        let e : from ≡ at = omega (arith, leb-true at stop p) in
        let f : stop ≡ end = omega (arith, leb-true end (length text) q) in
        λ i. line_of text (e i) (f i)
    go true false p q =
        let e : from ≡ at = omega (arith, leb-true at stop p) in
        let s = length-drop at text in
        ap (λ (i : ℕ). line_of text i stop) e
        ∙ take_all (stop - at) (drop at text) (omega (arith, leb-false end (length text) q))
        ∙ sym (take_all (end - at) (drop at text) (omega (arith, leb-false end (length text) q)))
    go false b p q =
        let e = leb-false at stop p in
        empty (line_of text from stop) (omega (arith, size from stop)) ∙ sym (empty (line_of text at end) (omega (arith, size at end)))

-- So it has the same form.
pub form_cut : (text : List ℕ) (at end : ℕ) {from stop : ℕ} {f : Form} → stop ≡ min end (length text) → from ≡ min at stop
    → form_of (words (line_of text at end)) ≡ f → form_of (words (line_of text from stop)) ≡ f
form_cut text at end {from} {stop} h k e = ap (λ (l : List ℕ). form_of (words l)) (line_cut text at end from stop h k) ∙ e

-- The word, for class c, of the name after the line's first word.
unfoldable pub line_word : List ℕ → ℕ → ℕ → ℕ → ℕ
unfolding before
line_word text at end c =
    let l = line_of text at end in
    let from = before (is_byte 32) l in
    name_word c (at + from + 1) (length (first (words_after (drop from l))))

pub line_origin : (text : List ℕ) (at end c : ℕ) → c < 4096 → line_word text at end c / 1048576 ≡ c
unfolding line_word
line_origin text at end c h = omega arith

-- As the code finds it: the first word ends at `from`, and w follows it.
pub line_word_law : (text : List ℕ) (at end c from : ℕ) (w : Name) → from ≡ 0 + before (is_byte 32) (line_of text at end)
    → w ≡ first (words_after (drop from (line_of text at end))) → name_word c (at + from + 1) (length w) ≡ line_word text at end c
unfolding line_word
line_word_law text at end c from w h k =
    let e : from ≡ before (is_byte 32) (line_of text at end) = omega arith in
    ap₂ (λ (i j : ℕ). name_word c (at + i + 1) j) e (ap length k ∙ ap (λ (i : ℕ). length (first (words_after (drop i (line_of text at end))))) e)

module _ (text : List ℕ) (at end : ℕ) (o : at ≤ end) (b : end ≤ length text) where
  pub line_length : length (line_of text at end) ≡ end - at
  line_length = length-take-le (end - at) (drop at text) (omega (arith, length-drop at text))

  abbrev line : List ℕ
  line = line_of text at end

  abbrev from : ℕ
  from = before (is_byte 32) line

  -- The words after the first.
  abbrev rest : List Name
  rest = words_after (drop from line)

  keyword_words : words line ≡ take from line ∷ rest
  keyword_words = first_piece 32 line from (omega arith)

  module _ (u : length text ≤ 32768) (n : Name) (c : ℕ) where
    named : (ws : List Name) → Names n ws rest → name_of text (line_word text at end c) ≡ n
    unfolding line_word
    named ws k =
        let q = from + 1 in
        let p : from < length line = leb-false (length line) from (at_end 32 line from k.line) in
        let m = before (is_byte 32) (drop q line) in
        let e : q + m - q ≡ m = omega arith in
        let w : n ≡ take m (drop q line) = ap first (sym k.line ∙ next_piece 32 line from p (q + m) refl) ∙ ap (λ (j : ℕ). take j (drop q line)) e in
        let y : at + q ≡ at + from + 1 = omega arith in
        let v : m ≤ length line - q = omega (arith, before_le (is_byte 32) (drop q line), length-drop q line) in
        let z : length n ≡ m = ap length w ∙ length-take-le m (drop q line) (omega (arith, length-drop q line)) in
        let s = name_size n k.name in
        ap (λ (x : Name). name_of text (name_word c (at + from + 1) (length x))) (ap first k.line)
        ∙ name_word_name text c (at + from + 1) (length n) (omega (arith, line_length)) (omega arith)
        ∙ ap₂ (λ (j i : ℕ). take j (drop i text)) z (sym y)
        ∙ sym (part_part text at q m (end - at) (omega arith) (omega (arith, line_length)))
        ∙ sym w

    pub field_name : form_of (words line) ≡ field_line n → name_of text (line_word text at end c) ≡ n
    field_name e = named (others rest) (field_line_law (take from line) rest n (ap form_of (sym keyword_words) ∙ e))

    pub method_name : form_of (words line) ≡ method_line n → name_of text (line_word text at end c) ≡ n
    method_name e = named (others rest) (method_line_law (take from line) rest n (ap form_of (sym keyword_words) ∙ e))

    pub class_name : (ps : List Name) → form_of (words line) ≡ class_line n ps → name_of text (line_word text at end c) ≡ n
    class_name ps e = named (others rest) (class_line_law (take from line) rest n ps (ap form_of (sym keyword_words) ∙ e)).0

  -- The parents follow the colon, which ends at q.
  pub class_parents : (n : Name) (ps : List Name) (i p q : ℕ) → form_of (words line) ≡ class_line n ps → i ≡ 0 + before (is_byte 32) line
      → p ≡ end_after 32 line i → q ≡ end_after 32 line p
      → words_after (take (length line - q) (drop q line)) ≡ ps
  class_parents n ps i p q e h k r =
      let d : i ≡ from = omega arith in
      ap words_after (take_all (length line - q) (drop q line) (omega (arith, length-drop q line)))
      ∙ behind 32 line p q r (behind 32 line i p k (ap (λ (j : ℕ). words_after (drop j line)) d))
      ∙ sym (class_line_law (take from line) rest n ps (ap form_of (sym keyword_words) ∙ e)).1
