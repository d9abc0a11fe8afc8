-- The library that the words of the tables represent, whatever the words are: the layout is in crates/layout/specs/Layout.antt. A body's word
-- is first * 64 + count.
use Rattle.std.specs.Prelude.{ℕ, ◌+◌, ◌*◌, ◌/◌, ◌%◌, min, cond, List, map, get_or, take, drop}
use Rattle.std.proofs.Math.Option.{none}
use Rattle.layout.specs.Layout.{classes_most, members_most, statements_most, objects_most, class_count_at, statement_count_at, object_count_at, class_name_at, member_counts_at, ancestors_at, latest_at, names_at, bodies_at, kind_words, class_words, object_name_at, object_class_at, object_line_at, object_words, classes_at, objects_at, statements_at, origin_unit, part_unit}
use Rattle.model.specs.Base.{upto}
use Rattle.laws.specs.Bits.{bit}
use Rattle.model.specs.Text.{words}
use Rattle.model.specs.Word.{Name, is_number, decimal}
use Rattle.model.specs.Expression.{number}
use Rattle.model.specs.Form.{Statement, Form, class_line, field_line, method_line, statement_line, end_line, object_line, malformed, form_of, reply}
use Rattle.model.specs.Library.{Member, Class, Placed, Object, Library}
use Rattle.text_lex.specs.Piece.{words_after}

-- ---- parts of the text

-- A name, by its word: at most 31 bytes at a place below 32,768.
unfoldable pub name_of : List ℕ → ℕ → Name
name_of text w = take (w % 32) (drop (w / 32 % 32768) text)

-- A part of the text, by its word.
unfoldable pub part_of : List ℕ → ℕ → List ℕ
part_of text w = take (w % part_unit) (drop (w / part_unit) text)

-- The statement of a line; for any other line a statement that does nothing here.
abbrev pub statement_in : Form → Statement
statement_in (class_line n ps) = record { guard = none; action = reply (number 0) }
statement_in (field_line n) = record { guard = none; action = reply (number 0) }
statement_in (method_line n) = record { guard = none; action = reply (number 0) }
statement_in (statement_line s) = s
statement_in end_line = record { guard = none; action = reply (number 0) }
statement_in (object_line n c vs) = record { guard = none; action = reply (number 0) }
statement_in malformed = record { guard = none; action = reply (number 0) }

-- The value of a word; 0 where it is no number.
unfoldable pub value_of : List ℕ → ℕ
unfolding is_number decimal
value_of w = let n = decimal 0 w in cond (is_number w) n 0

-- The numbers after the space at the front; none at the end.
abbrev pub numbers_in : List ℕ → List ℕ
numbers_in s = map value_of (words_after s)

-- ---- the tables

unfoldable pub class_word : List ℕ → ℕ → ℕ → ℕ
class_word ws k i = get_or ws (classes_at + (k * class_words + i)) 0

unfoldable pub object_word : List ℕ → ℕ → ℕ → ℕ
object_word ws o i = get_or ws (objects_at + (o * object_words + i)) 0

unfoldable pub statement_word : List ℕ → ℕ → ℕ
statement_word ws s = get_or ws (statements_at + s) 0

-- Counts are capped at the tables' room.
abbrev pub class_count : List ℕ → ℕ
class_count ws = min classes_most (get_or ws class_count_at 0)

abbrev pub statement_count : List ℕ → ℕ
statement_count ws = min statements_most (get_or ws statement_count_at 0)

abbrev pub object_count : List ℕ → ℕ
object_count ws = min objects_most (get_or ws object_count_at 0)

-- The fields of a class (p is 0) or its methods (p is 1).
unfoldable pub member_count : List ℕ → ℕ → ℕ → ℕ
unfolding class_word
member_count ws k p = min members_most (class_word ws k (member_counts_at + p))

abbrev pub member_in : List ℕ → ℕ → ℕ → Member
member_in text w b = record { origin = w / origin_unit; name = name_of text w; first = b / 64; count = b % 64 }

unfoldable pub member_at : List ℕ → List ℕ → ℕ → ℕ → ℕ → Member
unfolding class_word name_of
member_at text ws k p j = member_in text (class_word ws k (names_at + (p * kind_words + j))) (class_word ws k (bodies_at + (p * kind_words + j)))

unfoldable pub members_of : List ℕ → List ℕ → ℕ → ℕ → List Member
unfolding upto member_at member_count
members_of text ws k p = upto (member_at text ws k p) (member_count ws k p)

unfoldable pub class_of : List ℕ → List ℕ → ℕ → Class
unfolding class_word name_of members_of bit
class_of text ws k =
    record {
      name = name_of text (class_word ws k class_name_at);
      ancestors = bit (class_word ws k ancestors_at);
      fields = members_of text ws k 0;
      methods = members_of text ws k 1;
      latest = class_word ws k latest_at;
    }

unfoldable pub placed_of : List ℕ → List ℕ → ℕ → Placed
unfolding statement_word part_of form_of
placed_of text ws s =
    let w = statement_word ws s in
    record { statement = statement_in (form_of (words (part_of text w))); at = w / part_unit; size = w % part_unit }

unfoldable pub object_of : List ℕ → List ℕ → ℕ → Object
unfolding object_word name_of part_of value_of
object_of text ws o =
    record { name = name_of text (object_word ws o object_name_at); class = object_word ws o object_class_at; values = numbers_in (part_of text (object_word ws o object_line_at)) }

-- The library that the words represent, given the text.
unfoldable pub library_of : List ℕ → List ℕ → Library
unfolding upto class_of placed_of object_of
library_of text ws =
    record {
      classes = upto (class_of text ws) (class_count ws);
      statements = upto (placed_of text ws) (statement_count ws);
      objects = upto (object_of text ws) (object_count ws);
    }
