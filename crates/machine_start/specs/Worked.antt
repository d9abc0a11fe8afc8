-- What a start works out from the words of the tables, and the tables with that stored: each class's domain, where each object's
-- values begin, and the words of the head that tell what later calls must be lent.
use Rattle.std.specs.Prelude.{ℕ, zero, suc, ◌+◌, ◌*◌, Bool, ◌||◌, List, set, eqb}
use Rattle.layout.specs.Layout.{value_count_at, text_length_at, start_mark_at, ancestors_at, class_words, object_class_at, object_words, classes_at, objects_at, class_count_at, statement_count_at, object_count_at}
use Rattle.model.specs.Base.{upto}
use Rattle.model.specs.Image.{mask}
use Rattle.catalog.specs.View.{class_word, object_word, class_count, statement_count, object_count}
use Rattle.laws.specs.Bits.{bit}
use Rattle.catalog.specs.Look.{shown_count}
use Rattle.output.specs.Each.{total}
use Rattle.machine_words.specs.Calls.{mark}

-- The tables with a word stored for each number below n: f k at the place of k.
unfoldable pub with_each : (ℕ → ℕ) → (ℕ → ℕ) → List ℕ → ℕ → List ℕ
with_each place f ws zero = ws
with_each place f ws (suc n) = set (with_each place f ws n) (place n) (f n)

-- ---- domains

-- Whether class d is in the domain of class c: it is c, or c is among its ancestors.
unfoldable pub belongs : List ℕ → ℕ → ℕ → Bool
unfolding class_word bit
belongs ws c d = eqb d c || bit (class_word ws d ancestors_at) c

-- The domain of class c, bit d for class d.
unfoldable pub domain_mask : List ℕ → ℕ → ℕ
unfolding mask upto belongs
domain_mask ws c = mask (upto (belongs ws c) (class_count ws))

-- The tables with the domains of the first n classes.
abbrev pub with_domains : List ℕ → ℕ → List ℕ
with_domains ws n = with_each (λ c. classes_at + (c * class_words + 5)) (domain_mask ws) ws n

-- ---- where values begin

-- The number of an object's values: the number of its class's fields.
abbrev pub values_of : List ℕ → ℕ → ℕ
values_of ws o = shown_count ws (object_word ws o object_class_at) 0

-- The place of the first value of object o: after those of the objects before it.
unfoldable pub first_value : List ℕ → ℕ → ℕ
unfolding total shown_count object_word
first_value ws o = total (values_of ws) o

-- The tables with these places of the first n objects.
abbrev pub with_places : List ℕ → ℕ → List ℕ
with_places ws n = with_each (λ o. objects_at + (o * object_words + 2)) (first_value ws) ws n

-- ---- what later calls must be lent

-- The tables with their counts of classes, statements and objects written again, as far as there is room.
abbrev pub with_counts : List ℕ → List ℕ
with_counts ws =
    let a = set ws class_count_at (class_count ws) in
    let b = set a statement_count_at (statement_count a) in
    set b object_count_at (object_count b)

-- The tables with the number of values, the text's length, and the mark.
abbrev pub with_header : List ℕ → ℕ → ℕ → List ℕ
with_header ws values size = set (set (set ws value_count_at values) text_length_at size) start_mark_at mark
