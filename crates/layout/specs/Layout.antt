-- The layout of the state's words, stated once: sizes first, and places derived from them. src/lib.rt has the same names for code.
-- `At` is a place, `Words` a size, `Most` a limit of 01. docs/STATE.md shows the layout as a table.
use Rattle.std.specs.Prelude.{ℕ, ◌+◌, ◌*◌, ◌/◌}

-- ---- limits

abbrev pub classes_most : ℕ
classes_most = 16

abbrev pub members_most : ℕ
members_most = 32

abbrev pub statements_most : ℕ
statements_most = 4096

abbrev pub objects_most : ℕ
objects_most = 64

abbrev pub values_most : ℕ
values_most = 2048

abbrev pub slots_most : ℕ
slots_most = 8

abbrev pub activations_most : ℕ
activations_most = 8

-- ---- what words mean

-- The mark that a start leaves.
abbrev pub start_mark : ℕ
start_mark = 1128352845

-- A name's word is origin * origin_unit + place * 32 + length; a part's word is place * part_unit + length.
abbrev pub origin_unit : ℕ
origin_unit = 1048576

abbrev pub part_unit : ℕ
part_unit = 65536

-- The kinds of a class's members.
abbrev pub field_kind : ℕ
field_kind = 0

abbrev pub method_kind : ℕ
method_kind = 1

-- The kinds of a send's target.
abbrev pub object_kind : ℕ
object_kind = 0

abbrev pub class_kind : ℕ
class_kind = 1

abbrev pub domain_kind : ℕ
domain_kind = 2

-- A slot's phase: closed, open, with a message running, waiting with a send.
abbrev pub closed_phase : ℕ
closed_phase = 0

abbrev pub idle_phase : ℕ
idle_phase = 1

abbrev pub running_phase : ℕ
running_phase = 2

abbrev pub waiting_phase : ℕ
waiting_phase = 3

-- ---- the tables' head: how many classes, statements, objects and values, the text's length, the mark of a start; two words spare

abbrev pub class_count_at : ℕ
class_count_at = 0

abbrev pub statement_count_at : ℕ
statement_count_at = 1

abbrev pub object_count_at : ℕ
object_count_at = 2

abbrev pub value_count_at : ℕ
value_count_at = 3

abbrev pub text_length_at : ℕ
text_length_at = 4

abbrev pub start_mark_at : ℕ
start_mark_at = 5

abbrev pub head_words : ℕ
head_words = 8

-- ---- a class: its name, how many fields and methods, its ancestors (bit d for class d), the place of its latest method, its domain
-- ---- (bit d for class d), two words spare; for its fields, then for its methods, names and bodies; four masks for each method

abbrev pub class_name_at : ℕ
class_name_at = 0

-- Fields are kind 0, methods kind 1.
abbrev pub member_counts_at : ℕ
member_counts_at = 1

abbrev pub field_count_at : ℕ
field_count_at = 1

abbrev pub method_count_at : ℕ
method_count_at = 2

abbrev pub ancestors_at : ℕ
ancestors_at = 3

abbrev pub latest_at : ℕ
latest_at = 4

abbrev pub domain_at : ℕ
domain_at = 5

abbrev pub names_at : ℕ
names_at = 8

abbrev pub bodies_at : ℕ
bodies_at = names_at + members_most

-- Names and bodies of one kind, fields or methods.
abbrev pub kind_words : ℕ
kind_words = 2 * members_most

abbrev pub method_names_at : ℕ
method_names_at = names_at + 2 * members_most

abbrev pub method_bodies_at : ℕ
method_bodies_at = bodies_at + 2 * members_most

abbrev pub read_masks_at : ℕ
read_masks_at = method_bodies_at + members_most

abbrev pub write_masks_at : ℕ
write_masks_at = read_masks_at + members_most

abbrev pub commuting_at : ℕ
commuting_at = write_masks_at + members_most

abbrev pub add_masks_at : ℕ
add_masks_at = commuting_at + members_most

abbrev pub class_words : ℕ
class_words = add_masks_at + members_most

-- ---- an object: its name, its class, where its values begin, the part of its line with values

abbrev pub object_name_at : ℕ
object_name_at = 0

abbrev pub object_class_at : ℕ
object_class_at = 1

abbrev pub object_values_at : ℕ
object_values_at = 2

abbrev pub object_line_at : ℕ
object_line_at = 3

abbrev pub object_words : ℕ
object_words = 4

-- ---- the tables: the head, the classes, the objects, each statement's place in the text

abbrev pub classes_at : ℕ
classes_at = head_words

abbrev pub objects_at : ℕ
objects_at = classes_at + classes_most * class_words

abbrev pub statements_at : ℕ
statements_at = objects_at + objects_most * object_words

abbrev pub table_words : ℕ
table_words = statements_at + statements_most

-- ---- a slot's row: the message, its activations, the locks, the marks of the values that have a note and of those that were set, the
-- ---- notes

abbrev pub phase_at : ℕ
phase_at = 0

abbrev pub depth_at : ℕ
depth_at = 1

abbrev pub steps_at : ℕ
steps_at = 2

abbrev pub sum_at : ℕ
sum_at = 3

abbrev pub object_at : ℕ
object_at = 4

abbrev pub kind_at : ℕ
kind_at = 5

abbrev pub number_at : ℕ
number_at = 6

abbrev pub name_at : ℕ
name_at = 7

abbrev pub argument_at : ℕ
argument_at = 8

-- 1 where a value was set or added to.
abbrev pub changed_at : ℕ
changed_at = 9

-- Where locks were taken: bit b for words 8 * b to 8 * b + 7. So every lock stands below word 256.
abbrev pub lock_marks_at : ℕ
lock_marks_at = 10

-- 1 where a self-call was made.
abbrev pub called_at : ℕ
called_at = 11

-- Words 12, 13 and 15 are spare, and in a row 14 too: a waiting send's words have the method's place in its class there.
abbrev pub head_spare_at : ℕ
head_spare_at = 12

abbrev pub place_at : ℕ
place_at = 14

-- An activation: its next statement, the statement past its last, its arg, its got, its reply.
abbrev pub activations_at : ℕ
activations_at = 16

abbrev pub next_at : ℕ
next_at = 0

abbrev pub end_at : ℕ
end_at = 1

abbrev pub arg_at : ℕ
arg_at = 2

abbrev pub got_at : ℕ
got_at = 3

abbrev pub reply_at : ℕ
reply_at = 4

abbrev pub activation_words : ℕ
activation_words = 5

-- The words after the first activation; and the words before the others, in whole eights.
abbrev pub shallow_at : ℕ
shallow_at = activations_at + activation_words

abbrev pub shallow_words : ℕ
shallow_words = activations_at + 8

-- Bit j of a lock word is method j of the object's or the class's own class.
abbrev pub object_locks_at : ℕ
object_locks_at = activations_at + activations_most * activation_words

abbrev pub class_locks_at : ℕ
class_locks_at = object_locks_at + objects_most

-- Locks on a class with its objects.
abbrev pub whole_locks_at : ℕ
whole_locks_at = class_locks_at + classes_most

-- A bit for each value that was set or added to; and one for each that was set.
abbrev pub marks_at : ℕ
marks_at = whole_locks_at + classes_most

abbrev pub set_marks_at : ℕ
set_marks_at = marks_at + values_most / 32

-- A waiting send with its locks, laid out as the words before the marks are; 0 where the slot does not wait.
abbrev pub waiting_at : ℕ
waiting_at = set_marks_at + values_most / 32

abbrev pub waiting_words : ℕ
waiting_words = marks_at

-- Spare: a note for each object's number and its marks.
abbrev pub spare_at : ℕ
spare_at = waiting_at + waiting_words

abbrev pub spare_words : ℕ
spare_words = objects_most + objects_most / 32

abbrev pub notes_at : ℕ
notes_at = spare_at + spare_words

abbrev pub row_words : ℕ
row_words = notes_at + values_most

-- ---- the state: the tables, then the rows of the slots, then the line: how many slots wait, and which, the first to arrive first

abbrev pub line_at : ℕ
line_at = table_words + slots_most * row_words

abbrev pub first_in_line_at : ℕ
first_in_line_at = line_at + 1

abbrev pub line_words : ℕ
line_words = 1 + slots_most

abbrev pub slots_words : ℕ
slots_words = slots_most * row_words + line_words

abbrev pub state_words : ℕ
state_words = table_words + slots_words
