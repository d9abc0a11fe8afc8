-- The fault of an object line, and what it adds, by its words.
use Rattle.std.specs.Prelude.{ℕ, ◌+◌, ◌-◌, ◌≤◌, ◌<◌, ◌≡◌, refl, ◌≢◌, Bool, true, not, cond, ◌&&◌, ◌||◌, List, [], ◌∷◌, map, take, drop}
use Rattle.std.proofs.Math.Path.{sym, ap}
use Rattle.std.proofs.Common.{ap₂, ◌∙◌, arith, length-drop, drop-drop, drop_at, take-add, take_all, take-take, length-take-le}
use Rattle.std.proofs.Math.Bool.{false}
use Rattle.std.proofs.Math.ListN.{length}
use Rattle.std.proofs.lemmas.List.{length-map}
use Rattle.std.proofs.Math.Dec.{leb, ltb}
use borrow.Author.Tests.{ltb-true, ltb-false, leb-true, leb-false}
use Rattle.model.specs.Base.{same, any, every, first_at}
use Rattle.model.specs.Text.{words}
use Rattle.model.specs.Word.{Name, is_name, is_name_byte, begins_with_letter, is_number, decimal}
use Rattle.model.specs.Form.{object_line, form_of}
use Rattle.model.specs.Library.{class_number, is_class, class_name, add}
use Rattle.model.specs.Fault.{object_fault}
use Rattle.text_lex.specs.Tests.{and_true}
use Rattle.text_lex.specs.Scan.{is_byte, before, before_le}
use Rattle.text_lex.specs.Piece.{words_after, first, end_after, next_piece, end_after_none, behind, at_end}
use Rattle.catalog.specs.View.{name_of, part_of, value_of, numbers_in, class_count, object_count, member_at, library_of}
use Rattle.laws.specs.Upto.{length_upto}
use Rattle.catalog.specs.Names.{name_word, part_word, name_word_name, part_word_part}
use Rattle.catalog.specs.Look.{shown_count, object_count_law, shown_members, is_class_law, is_object}
use Rattle.read_parents.specs.Walk.{end_within_line}
use Rattle.read_classes.specs.Took.{Lent}
use Rattle.read_classes.specs.Lines.{line_of, line_length}
use Rattle.read_lines.specs.Spelled.{ObjectWords, spelled}
use Rattle.read_lines.specs.Added.{with_object, with_object_words, object_added}
use Rattle.read_lines.specs.Took.{ObjectTook}

-- The lowest number whose test holds.
abbrev pub object_lowest : Bool → Bool → Bool → ℕ
object_lowest a b c = cond a 13 (cond b 14 (cond c 17 0))

module _ (text ws : List ℕ) where
  field_count : (c : Name) → shown_count ws (class_number (library_of text ws) c) 0 ≡ length (class_name (library_of text ws) c).fields
  unfolding class_name
  field_count c =
      let k = class_number (library_of text ws) c in
      sym (ap length (shown_members text ws k 0 (omega arith)) ∙ length_upto (member_at text ws k 0) (shown_count ws k 0))

  pub object_fault_law : (n c : Name) (vs : List ℕ) {place objects k count fields values : ℕ}
      → place ≡ first_at (λ o. same o.name n) (library_of text ws).objects → objects ≡ object_count ws
      → k ≡ class_number (library_of text ws) c → count ≡ class_count ws → fields ≡ shown_count ws k 0 → values ≡ length vs
      → object_lowest (ltb place objects) (not (ltb k count)) (leb 64 objects || ltb fields values) ≡ object_fault (library_of text ws) n c vs
  unfolding object_fault
  object_fault_law n c vs {place} {objects} {k} {count} {fields} {values} p o q e f v =
      let l = library_of text ws in
      let taken : ltb place objects ≡ any (λ x. same x.name n) l.objects = (λ i. ltb (p i) (o i)) ∙ sym (is_object text ws n) in
      let known : ltb k count ≡ is_class l c = (λ i. ltb (q i) (e i)) ∙ sym (is_class_law text ws c) in
      let many : leb 64 objects ≡ leb 64 (length l.objects) = ap (leb 64) (o ∙ sym (object_count_law text ws)) in
      let more : ltb fields values ≡ ltb (length (class_name l c).fields) (length vs) =
      λ i. ltb ((f ∙ ap (λ (j : ℕ). shown_count ws j 0) q ∙ field_count c) i) (v i) in
      λ i. object_lowest (taken i) (not (known i)) (many i || more i)

-- ---- where its words end

-- The line's first word ends at e, its name at f and its class at g.
pub record Ends (line : List ℕ) (e f g : ℕ) : Type 0 where
  pub word : e ≡ 0 + before (is_byte 32) line
  pub name : f ≡ end_after 32 line e
  pub class : g ≡ end_after 32 line f

end_within : (s : List ℕ) (e f : ℕ) → f ≡ end_after 32 s e → e ≤ length s → f ≤ length s
end_within s e f q h = go (ltb e (length s)) refl
  where
    go : (t : Bool) → ltb e (length s) ≡ t → f ≤ length s
    go true t = (end_within_line s e (ltb-true e (length s) t) f q).1
    go false t = omega (arith, end_after_none 32 s e (ltb-false e (length s) t))

-- They lie in the line.
pub ends_within : (line : List ℕ) (e f g : ℕ) → Ends line e f g → (e ≤ length line) × (g ≤ length line)
ends_within line e f g ends =
    let h : e ≤ length line = omega (arith, ends.word, before_le (is_byte 32) line) in
    (h, end_within line f g ends.class (end_within line e f ends.name h))

name_size : (n : Name) → is_name n ≡ true → length n ≤ 16
unfolding is_name
name_size n e =
    let s = begins_with_letter n && leb (length n) 16 in
    leb-true (length n) 16 (and_true (begins_with_letter n) (and_true s (and_true (s && every is_name_byte n) e).0).0).1

-- The value of a number is that of its digits.
numbers_said : (ps : List (List ℕ)) → every is_number ps ≡ true → map value_of ps ≡ map (decimal 0) ps
unfolding every value_of
numbers_said [] e = refl
numbers_said (p ∷ ps) e =
    let t = and_true (is_number p) e in
    rw t.0 (ap (λ (vs : List ℕ). decimal 0 p ∷ vs) (numbers_said ps t.1))

room : (a b c d : Bool) → object_lowest a b (c || d) ≡ 0 → c ≡ false
room true b c d e = absurd (omega arith)
room false true c d e = absurd (omega arith)
room false false true d e = absurd (omega arith)
room false false false d e = refl

module _ (text ws : List ℕ) (at end : ℕ) (lent : Lent text ws at end) where
  abbrev line : List ℕ
  line = line_of text at end

  size : length line ≡ end - at
  size = line_length text at end lent.order lent.within

  -- The rest of the line from a place on, as a part of the text.
  from : (p : ℕ) → p ≤ length line → take (length line - p) (drop (at + p) text) ≡ drop p line
  from p h =
      let t = drop at text in
      let n = length line - p in
      let e : end - at ≡ p + n = omega (arith, size) in
      sym
      (ap (λ (j : ℕ). drop p (take j t)) e
      ∙ ap (drop p) (take-add p n t)
      ∙ drop_at (take p t) (take n (drop p t)) p (length-take-le p t (omega (arith, size, lent.within, length-drop at text)))
      ∙ ap (take n) (drop-drop p at text))

  module _ (e f g : ℕ) (ends : Ends line e f g) where
    -- ---- the parts of the line

    module _ (n c : Name) (vs : List ℕ) (s : form_of (words line) ≡ object_line n c vs) where
      parts : ObjectWords (words_after (drop e line)) n c vs
      parts = spelled line e ends.word (object_line n c vs) s

      behind_name : words_after (drop f line) ≡ c ∷ parts.values
      behind_name = behind 32 line e f ends.name parts.line

      behind_class : words_after (drop g line) ≡ parts.values
      behind_class = behind 32 line f g ends.class behind_name

      value_count_law : length vs ≡ length (words_after (take (length line - g) (drop g line)))
      value_count_law =
          ap length parts.numbers
          ∙ length-map parts.values (decimal 0)
          ∙ ap length (sym (ap words_after (take_all (length line - g) (drop g line) (omega (arith, length-drop g line))) ∙ behind_class))

      word_within : e < length line
      word_within = leb-false (length line) e (at_end 32 line e parts.line)

      name_within : f < length line
      name_within = leb-false (length line) f (at_end 32 line f behind_name)

      class_within : g ≤ length line
      class_within = (end_within_line line f name_within g ends.class).1

      -- The words of the tables stand for its name and its values.
      named : name_of text (name_word 0 (at + e + 1) (length n)) ≡ n
      named =
          let k = e + 1 in
          let m = before (is_byte 32) (drop k line) in
          let j : k + m - k ≡ m = omega arith in
          let w : n ≡ take m (drop k line) =
          sym (ap first parts.line) ∙ ap first (next_piece 32 line e word_within (k + m) refl) ∙ ap (λ (i : ℕ). take i (drop k line)) j in
          let v : m ≤ length line - k = omega (arith, before_le (is_byte 32) (drop k line), length-drop k line) in
          let z : length n ≡ m = ap length w ∙ length-take-le m (drop k line) (omega (arith, length-drop k line)) in
          let y : at + k ≡ at + e + 1 = omega arith in
          let u = (end_within_line line e word_within f ends.name).0 in
          name_word_name text 0 (at + e + 1) (length n) (omega (arith, size, lent.within, lent.small, name_within)) (omega (arith, name_size n parts.name))
          ∙ ap₂ (λ (i j : ℕ). take i (drop j text)) z (sym y)
          ∙ sym (take-take m (length line - k) (drop (at + k) text) v)
          ∙ ap (take m) (from k (omega (arith, word_within)))
          ∙ sym w

      values : numbers_in (part_of text (part_word (at + g) (length line - g))) ≡ vs
      values =
          ap numbers_in
          (part_word_part text (at + g) (length line - g) (omega (arith, size, lent.order, lent.within, lent.small, class_within)) (omega (arith, size, lent.within, lent.small))
          ∙ from g class_within)
          ∙ ap (map value_of) behind_class
          ∙ numbers_said parts.values parts.all_numbers
          ∙ sym parts.numbers

    -- ---- the line, with its name, its class and the number of its values, and their faults

    module _ (name class : Name) (x : name ≡ first (words_after (drop e line))) (y : class ≡ first (words_after (drop f line)))
        (count fault : ℕ) (z : count ≡ length (words_after (take (length line - g) (drop g line))))
        (t : (vs : List ℕ) → length vs ≡ count → fault ≡ object_fault (library_of text ws) name class vs) where
      module _ (n c : Name) (vs : List ℕ) (s : form_of (words line) ≡ object_line n c vs) where
        its_name : name ≡ n
        its_name = x ∙ ap first (parts n c vs s).line

        its_class : class ≡ c
        its_class = y ∙ ap first (behind_name n c vs s)

        deserved : fault ≡ object_fault (library_of text ws) n c vs
        deserved = t vs (value_count_law n c vs s ∙ sym z) ∙ (λ i. object_fault (library_of text ws) (its_name i) (its_class i) vs)

      pub object_refused : fault ≢ 0 → (ws' : List ℕ) → ObjectTook text ws at end fault ws'
      object_refused h ws' placed n c vs s = record { number = deserved n c vs s; known = λ d. absurd (h d) }

      pub object_taken : fault ≡ 0 → (k word part : ℕ) → k ≡ class_number (library_of text ws) class → word ≡ name_word 0 (at + e + 1) (length name)
          → part ≡ part_word (at + g) (length line - g) → (ws' : List ℕ) → ws' ≡ with_object_words ws word k part → ObjectTook text ws at end 0 ws'
      unfolding add object_fault
      object_taken h k word part i j m ws' w placed n c vs s =
          let l = library_of text ws in
          let d = deserved n c vs s in
          let few : leb 64 (length l.objects) ≡ false =
          room (any (λ a. same a.name n) l.objects) (not (is_class l c)) _ (ltb (length (class_name l c).fields) (length vs)) (sym d ∙ h) in
          let called : name_of text word ≡ n =
          ap (name_of text) (j ∙ ap (λ (a : Name). name_word 0 (at + e + 1) (length a)) (its_name n c vs s)) ∙ named n c vs s in
          let starts : numbers_in (part_of text part) ≡ vs = ap (λ (a : ℕ). numbers_in (part_of text a)) m ∙ values n c vs s in
          let kind : k ≡ class_number l c = i ∙ ap (class_number l) (its_class n c vs s) in
          record {
            number = sym h ∙ d;
            known = λ a.
                ap (library_of text) w
                ∙ object_added text ws word k part (omega (arith, leb-false 64 (length l.objects) few, object_count_law text ws)) lent.room
                ∙ (λ v. with_object l (record { name = called v; class = kind v; values = starts v }));
          }
