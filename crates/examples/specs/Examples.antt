-- The examples: one table, each row an input and the expected result, and one theorem, that no row fails. The starred examples of
-- document 01 come first, then edges of its rules. Its examples without a star are run by the tests of `host/`.
use Rattle.std.specs.Prelude.{ℕ, Bool, true, false, ◌&&◌, length, take, replicate, eqb}
use Prim.Native.String.{String}
use Rattle.std.proofs.Math.Option.{Option, none, some}
use mathlib.Core.List.{List, [], ◌∷◌, ◌++◌, map, flat_map}
use Rattle.model.specs.Base.{bytes, same, every}
use Rattle.model.specs.Text.{pieces, words}
use Rattle.model.specs.Expression.{Parsed, parsed, unread, read_levels, expression, value_of}
use Rattle.model.specs.Library.{as_recorded}
use Rattle.model.specs.Read.{verdict, library}
use Rattle.model.specs.Vector.{joined_vector}
use Rattle.model.specs.Told.{number_of}
use Rattle.model.specs.Image.{image, u32_bytes, starting_values, starting_values_into, statement_part, statement_answer, compile_answer, compiled_into, values_answer}
use Rattle.model.specs.Tables.{printed, print_answer, printed_into, letters}
use Rattle.model.specs.Rehearsal.{rehearsed}
use Rattle.model.specs.Service.{call_number, call_detail}
use Rattle.model.specs.Machine.{object, class, domain, to, Call, send, step, commit, abort, Answer, done, going, answer, refuse, held, stopped, start_answer, played}
use Rattle.model.specs.Course.{Compared, course}
use Rattle.examples.specs.ExampleTexts.{text, lanes, figure1, endless, spiral, diamond, circle, prefixed, mixed, echo, tally, long}

-- An input and the expected result.
pub data Row : Type 0 where
  -- the number and the line of a text's fault
  reads : List ℕ → ℕ → ℕ → Row
  -- what `tables` prints for a text
  prints : List ℕ → List ℕ → Row
  -- the direct vector of a class's method, in the letters of `tables`
  direct : List ℕ → ℕ → String → String → Row
  -- the length of a text's image, and its pairs; the whole image, in u32 numbers
  pairs : List ℕ → ℕ → List ℕ → Row
  images : List ℕ → List ℕ → Row
  -- a statement of a text by its count; the number of a refused look-up
  finds : List ℕ → ℕ → String → Row
  misses : List ℕ → ℕ → ℕ → Row
  -- the number answered by compiling or printing into a buffer of that many bytes, by writing starting values into a list of that
  -- many, and by a start on a list of that many, where a state has the one length, in a state of so many words
  compiles_into : List ℕ → ℕ → ℕ → Row
  prints_into : List ℕ → ℕ → ℕ → Row
  counts : List ℕ → ℕ → ℕ → Row
  starts_in : List ℕ → ℕ → ℕ → ℕ → ℕ → Row
  -- the contents of a list after the starting values are written into it, and of a buffer after compiling or printing into it
  starts : List ℕ → List ℕ → List ℕ → Row
  leaves : List ℕ → List ℕ → List ℕ → Row
  leaves_printed : List ℕ → List ℕ → List ℕ → Row
  -- the value of an expression without fields, with `arg` 7 and `got` 9
  values : String → ℕ → Row
  -- the answers of a list of calls made after a start on the text's starting values, and the final fields
  plays : List ℕ → List Call → List Answer → List ℕ → Row
  -- the same list leaves nothing open, and the plain course ends with the same fields and answers
  agrees : List ℕ → List Call → Row
  -- the answers of the list that the plain course compares with its own
  compares : List ℕ → List Call → List ℕ → Row
  -- what `rehearse` prints for a text and call lines
  rehearses : List ℕ → List ℕ → List ℕ → Row

-- ---- how a row is tested

abbrev pub same_lists : List (List ℕ) → List (List ℕ) → Bool
same_lists [] [] = true
same_lists [] (y ∷ ys) = false
same_lists (x ∷ xs) [] = false
same_lists (x ∷ xs) (y ∷ ys) = same x y && same_lists xs ys

abbrev pub coded : Answer → List ℕ
coded a = call_number a ∷ call_detail a ∷ []

abbrev pub whole : Parsed → ℕ → Bool
whole (parsed e []) v = eqb (value_of (λ f. 0) 7 9 e) v
whole (parsed e (w ∷ ws)) v = false
whole unread v = false

abbrev pub right : Compared → Bool
right y = is_it y.run
  where
    is_it : Option ℕ → Bool
    is_it none = false
    is_it (some v) = eqb v y.got

abbrev pub given : List ℕ → List Call → List Answer × List ℕ
given t cs = played t (starting_values (library t)) cs

unfoldable pub passes : Row → Bool
unfolding same every pieces read_levels value_of verdict library printed print_answer printed_into image starting_values starting_values_into statement_part statement_answer compile_answer compiled_into values_answer start_answer joined_vector as_recorded played course rehearsed
passes (reads t n l) = let v = verdict t in eqb v.0 n && eqb v.1 l
passes (prints t s) = same (printed t) s
passes (direct t c m s) =
    let l = library t in
    same (letters (joined_vector l (as_recorded l) c (record { class = c; method = bytes m } ∷ []))) (bytes s)
passes (pairs t n ps) = eqb (length (image t)) n && same (take 32 (image t)) (flat_map u32_bytes ps)
passes (images t ns) = same (image t) (flat_map u32_bytes ns)
passes (finds t k s) = same (statement_part t k) (bytes s)
passes (misses t k n) = eqb (number_of (statement_answer t k)) n && same (statement_part t k) []
passes (compiles_into t k n) = eqb (number_of (compile_answer t k)) n
passes (prints_into t k n) = eqb (number_of (print_answer t k)) n
passes (counts t k n) = eqb (number_of (values_answer t k)) n
passes (starts_in t one k m n) = eqb (number_of (start_answer one t k m)) n
passes (starts t vs ws) = same (starting_values_into t vs) ws
passes (leaves t bs cs) = same (compiled_into t bs) cs
passes (leaves_printed t bs cs) = same (printed_into t bs) cs
passes (values s v) = whole (expression (words (bytes s))) v
passes (plays t cs rs fs) = let x = given t cs in same_lists (map coded x.0) (map coded rs) && same x.1 fs
passes (agrees t cs) =
    let x = given t cs in
    let y = course t (starting_values (library t)) cs x.0 in
    same x.1 y.fields && every right y.compared
passes (compares t cs vs) = same (map (λ y. y.got) (course t (starting_values (library t)) cs (given t cs).0).compared) vs
passes (rehearses t cs s) = same (rehearsed t cs) s

-- ---- the rows

-- lane1 is object 0, of class 1; its methods are shot 0, plot 1, tune 2.
abbrev pub starred : List Row
starred =
    prints lanes (text ("run shot WN ny" ∷ "run plot NR yy" ∷ "lane shot WNW nyn" ∷ "lane plot NRN yyy" ∷ "lane tune NNW nyn" ∷ [])) ∷
    pairs lanes 152 (32 ∷ 40 ∷ 72 ∷ 40 ∷ 112 ∷ 20 ∷ 132 ∷ 20 ∷ []) ∷
    images lanes
    ((32 ∷ 40 ∷ 72 ∷ 40 ∷ 112 ∷ 20 ∷ 132 ∷ 20 ∷ []) ++ (50 ∷ 21 ∷ 88 ∷ 14 ∷ 148 ∷ 25 ∷ 174 ∷ 13 ∷ 204 ∷ 21 ∷ []) ++
    (0 ∷ 1 ∷ 2 ∷ 0 ∷ 0 ∷ 5 ∷ 2 ∷ 0 ∷ 0 ∷ 4 ∷ []) ++ (2 ∷ 3 ∷ 2 ∷ 7 ∷ 2 ∷ []) ++ (0 ∷ 0 ∷ 0 ∷ 0 ∷ 0 ∷ [])) ∷
    prints figure1
    (text
    ("c1 m1 WRR nny" ∷ "c1 m2 WRN nny" ∷ "c1 m3 NRR yyy" ∷ "c2 m1 WRRWRN nnyy" ∷ "c2 m2 WRNWRN nnyy" ∷ "c2 m3 NRRNNN yyyy" ∷
    "c2 m4 NNNNRW yyyn" ∷ [])) ∷
    direct figure1 1 "m1" "NNNNNN" ∷
    direct figure1 1 "m2" "NNNWRN" ∷
    direct figure1 0 "m2" "WRN" ∷
    direct figure1 1 "m3" "NRRNNN" ∷
    direct figure1 1 "m4" "NNNNRW" ∷
    reads [] 0 0 ∷
    pairs [] 32 (32 ∷ 0 ∷ 32 ∷ 0 ∷ 32 ∷ 0 ∷ 32 ∷ 0 ∷ []) ∷
    values "- 0 1" 4294967295 ∷
    values "* 65536 65536" 0 ∷
    values "< 0 4294967295" 0 ∷
    values "< 4294967295 0" 1 ∷
    values "< 2147483648 2147483647" 1 ∷
    plays lanes (send 0 (to (object 0) 0 0) ∷ send 1 (to (object 0) 1 0) ∷ send 2 (to (object 0) 2 0) ∷ []) (done ∷ done ∷ held 0 ∷ []) (0 ∷ 0 ∷ 0 ∷ []) ∷
    plays lanes (send 0 (to (object 0) 0 40) ∷ step 0 ∷ step 0 ∷ step 0 ∷ step 0 ∷ step 0 ∷ send 0 (to (object 0) 2 0) ∷ [])
    (done ∷ going ∷ going ∷ going ∷ going ∷ answer 0 ∷ done ∷ []) (1 ∷ 0 ∷ 40 ∷ []) ∷
    plays lanes (send 0 (to (object 0) 2 5) ∷ step 0 ∷ step 0 ∷ send 0 (to (object 0) 2 5) ∷ step 0 ∷ step 0 ∷ [])
    (done ∷ going ∷ answer 0 ∷ done ∷ going ∷ answer 0 ∷ []) (0 ∷ 0 ∷ 10 ∷ []) ∷
    plays lanes (send 0 (to (object 0) 2 5) ∷ step 0 ∷ step 0 ∷ send 0 (to (object 0) 2 5) ∷ step 0 ∷ step 0 ∷ abort 0 ∷ [])
    (done ∷ going ∷ answer 0 ∷ done ∷ going ∷ answer 0 ∷ done ∷ []) (0 ∷ 0 ∷ 0 ∷ []) ∷
    plays lanes (send 1 (to (object 0) 1 0) ∷ send 0 (to (class 1) 0 0) ∷ []) (done ∷ done ∷ []) (0 ∷ 0 ∷ 0 ∷ []) ∷
    plays endless (send 0 (to (object 0) 0 0) ∷ replicate 8 (step 0)) (done ∷ replicate 7 going ++ (stopped ∷ [])) [] ∷ []

-- The builder's numbers, and the buffers after a refusal.
abbrev pub lent : List Row
lent =
    finds lanes 3 "set focus arg" ∷
    misses lanes 5 23 ∷
    compiles_into lanes 151 21 ∷
    leaves [] (replicate 33 9) (image [] ++ (9 ∷ [])) ∷
    prints_into (bytes "class") 12 21 ∷
    leaves_printed (bytes "class") (replicate 13 9) (text ("refused 12 1" ∷ [])) ∷
    counts lanes 2 22 ∷
    starts_in lanes 100 2 99 21 ∷
    starts_in lanes 100 2 100 22 ∷
    starts mixed (replicate 4 9) (5 ∷ 7 ∷ 0 ∷ 4294967295 ∷ []) ∷ []

-- Resolution, cycles, prefixes.
abbrev pub vectors : List Row
vectors =
    prints diamond (text ("a m WN n" ∷ "b m WNN n" ∷ "c m NW n" ∷ "d m WNN n" ∷ [])) ∷
    prints circle (text ("a p WRW nnnn" ∷ "a q WRW nnnn" ∷ "a r WRW nnnn" ∷ "a s WRW nnnn" ∷ [])) ∷
    prints prefixed (text ("a m WN nn" ∷ "a n WN nn" ∷ "b m NW nn" ∷ "b n NW nn" ∷ "c m NNW nn" ∷ "c n NNW nn" ∷ [])) ∷ []

-- In `mixed` the methods of a and b are g 0 and h 1; the objects are one of a, one of b and another of a. They are visited in text order,
-- those of a domain and those of a class. `got` is 0 where a method opens, sent or called. A first send that gets 36 leaves its slot
-- closed; one that gets 40 opens it.
abbrev pub machine : List Row
machine =
    plays mixed (send 0 (to (domain 0) 0 3) ∷ replicate 12 (step 0)) (done ∷ replicate 11 going ++ (answer 18 ∷ [])) (8 ∷ 7 ∷ 3 ∷ 2 ∷ []) ∷
    plays mixed (send 0 (to (domain 0) 0 3) ∷ replicate 4 (step 0)) (done ∷ replicate 4 going) (8 ∷ 7 ∷ 3 ∷ 4294967295 ∷ []) ∷
    plays mixed (send 0 (to (class 0) 0 3) ∷ replicate 3 (step 0)) (done ∷ replicate 3 going) (8 ∷ 7 ∷ 0 ∷ 4294967295 ∷ []) ∷
    plays echo (send 0 (to (object 0) 0 7) ∷ replicate 2 (step 0) ++ (send 0 (to (object 0) 1 7) ∷ replicate 5 (step 0)))
    (done ∷ going ∷ answer 0 ∷ done ∷ going ∷ going ∷ going ∷ going ∷ answer 0 ∷ []) [] ∷
    plays mixed
    (send 8 (to (object 0) 1 0) ∷ step 6 ∷ send 7 (to (object 3) 0 0) ∷ send 7 (to (class 3) 0 0) ∷ send 7 (to (object 0) 2 0) ∷ abort 7 ∷
    send 7 (to (object 0) 1 0) ∷ abort 7 ∷ abort 7 ∷ [])
    (refuse 31 ∷ refuse 32 ∷ refuse 36 ∷ refuse 36 ∷ refuse 36 ∷ refuse 32 ∷ done ∷ done ∷ refuse 32 ∷ []) (5 ∷ 7 ∷ 0 ∷ 4294967295 ∷ []) ∷
    plays mixed
    (send 5 (to (object 1) 0 9) ∷ step 5 ∷ step 5 ∷ send 2 (to (domain 0) 0 1) ∷ commit 2 ∷ send 2 (to (class 0) 0 1) ∷ step 2 ∷ abort 2 ∷ abort 5 ∷ [])
    (done ∷ going ∷ going ∷ held 5 ∷ refuse 37 ∷ refuse 37 ∷ refuse 37 ∷ done ∷ done ∷ []) (5 ∷ 7 ∷ 0 ∷ 4294967295 ∷ []) ∷
    []

-- Additions. In `tally` the methods are count 0, look 1, fix 2, twice 3, maybe 4, both 5. They run side by side and are taken back one
-- by one; a set notes the value right before it less what was added until then, and what is added after it is lost with it; an
-- addition that is skipped is none.
abbrev pub additions : List Row
additions =
    prints tally (text ("a count AN ynnnyn" ∷ "a look RN nynnnn" ∷ "a fix WN nnnnnn" ∷ "a twice WN nnnnnn" ∷ "a maybe AR ynnnyn" ∷ "a both WN nnnnnn" ∷ [])) ∷
    images tally
    ((32 ∷ 64 ∷ 96 ∷ 48 ∷ 144 ∷ 24 ∷ 168 ∷ 24 ∷ []) ++
    (37 ∷ 9 ∷ 63 ∷ 7 ∷ 86 ∷ 9 ∷ 113 ∷ 7 ∷ 138 ∷ 14 ∷ 169 ∷ 22 ∷ 192 ∷ 19 ∷ 212 ∷ 9 ∷ []) ++
    (0 ∷ 0 ∷ 1 ∷ 0 ∷ 0 ∷ 1 ∷ 0 ∷ 1 ∷ 2 ∷ 0 ∷ 0 ∷ 1 ∷ []) ++ (17 ∷ 2 ∷ 0 ∷ 0 ∷ 17 ∷ 0 ∷ []) ++ (1 ∷ 0 ∷ 0 ∷ 0 ∷ 1 ∷ 0 ∷ [])) ∷
    reads (text ("class a" ∷ "field x" ∷ "method m" ∷ "add y 1" ∷ "end" ∷ [])) 14 4 ∷
    reads (text ("class a" ∷ "field x" ∷ "method m" ∷ "add x" ∷ "end" ∷ [])) 12 4 ∷
    reads (text ("class a" ∷ "field x" ∷ "method m" ∷ "add x 1 1" ∷ "end" ∷ [])) 12 4 ∷
    plays tally
    (send 0 (to (object 0) 0 3) ∷ send 1 (to (object 0) 0 5) ∷ send 4 (to (object 0) 4 0) ∷ send 2 (to (object 0) 1 0) ∷ send 3 (to (object 0) 3 0) ∷
    step 0 ∷ step 1 ∷ step 0 ∷ step 1 ∷ abort 0 ∷ [])
    (done ∷ done ∷ done ∷ held 0 ∷ held 0 ∷ going ∷ going ∷ answer 0 ∷ answer 0 ∷ done ∷ []) (4 ∷ 0 ∷ []) ∷
    plays tally
    (send 0 (to (object 0) 0 3) ∷ send 1 (to (object 0) 0 5) ∷ step 0 ∷ step 0 ∷ step 1 ∷ step 1 ∷ commit 1 ∷ send 0 (to (object 0) 2 9) ∷ step 0 ∷ step 0 ∷
    send 0 (to (object 0) 0 6) ∷ step 0 ∷ step 0 ∷ [])
    (done ∷ done ∷ going ∷ answer 0 ∷ going ∷ answer 0 ∷ done ∷ done ∷ going ∷ answer 0 ∷ done ∷ going ∷ answer 0 ∷ []) (15 ∷ 0 ∷ []) ∷
    plays tally
    (send 0 (to (object 0) 0 3) ∷ send 1 (to (object 0) 0 5) ∷ step 0 ∷ step 0 ∷ step 1 ∷ step 1 ∷ commit 1 ∷ send 0 (to (object 0) 2 9) ∷ step 0 ∷ step 0 ∷
    send 0 (to (object 0) 0 6) ∷ step 0 ∷ step 0 ∷ abort 0 ∷ [])
    (done ∷ done ∷ going ∷ answer 0 ∷ going ∷ answer 0 ∷ done ∷ done ∷ going ∷ answer 0 ∷ done ∷ going ∷ answer 0 ∷ done ∷ []) (4 ∷ 0 ∷ []) ∷
    agrees tally
    (send 0 (to (object 0) 0 3) ∷ send 1 (to (class 0) 0 5) ∷ send 2 (to (domain 0) 4 0) ∷ step 1 ∷ step 0 ∷ step 2 ∷ step 2 ∷ step 0 ∷ step 1 ∷ abort 2 ∷
    commit 1 ∷ send 0 (to (object 0) 5 1) ∷ replicate 8 (step 0) ++ (commit 0 ∷ [])) ∷
    []

-- The line. A commit wakes the first in it, and 40 names the lowest slot, not the first in line; an abort wakes one that does not clash
-- with those ahead; a new send waits behind a waiting one that it clashes with, and starts when that one is withdrawn; a send whose
-- locks its slot holds passes, one to an object after one to its class does not, and would wait for one that waits for its slot; 41 and
-- commit wake; and a list against the course.
abbrev pub line : List Row
line =
    plays mixed
    (send 6 (to (object 0) 0 1) ∷ send 5 (to (object 0) 0 2) ∷ send 3 (to (object 0) 0 4) ∷ send 7 (to (object 0) 0 8) ∷
    send 5 (to (object 0) 1 0) ∷ step 5 ∷ commit 5 ∷ step 6 ∷ step 6 ∷ step 6 ∷ commit 6 ∷ step 3 ∷ step 5 ∷ step 7 ∷ [])
    (done ∷ held 6 ∷ held 5 ∷ held 3 ∷ refuse 37 ∷ refuse 37 ∷ refuse 37 ∷ going ∷ going ∷ answer 6 ∷ done ∷ refuse 37 ∷ going ∷ refuse 37 ∷ [])
    (8 ∷ 7 ∷ 0 ∷ 4294967295 ∷ []) ∷
    plays mixed
    (send 0 (to (object 0) 0 1) ∷ send 1 (to (object 2) 0 1) ∷ send 2 (to (object 0) 0 1) ∷ send 3 (to (object 2) 0 1) ∷ send 4 (to (object 1) 0 1) ∷
    abort 1 ∷ step 2 ∷ step 3 ∷ [])
    (done ∷ done ∷ held 0 ∷ held 1 ∷ done ∷ done ∷ refuse 37 ∷ going ∷ []) (5 ∷ 7 ∷ 0 ∷ 0 ∷ []) ∷
    plays mixed
    (send 0 (to (object 0) 1 0) ∷ send 1 (to (object 0) 0 1) ∷ send 2 (to (object 0) 1 0) ∷ step 2 ∷ abort 1 ∷ step 2 ∷ step 1 ∷ [])
    (done ∷ held 0 ∷ held 1 ∷ refuse 37 ∷ done ∷ going ∷ refuse 32 ∷ []) (5 ∷ 7 ∷ 0 ∷ 4294967295 ∷ []) ∷
    plays mixed
    (send 0 (to (domain 0) 1 0) ∷ replicate 6 (step 0) ++ (send 1 (to (object 0) 0 1) ∷ send 0 (to (class 0) 1 0) ∷ replicate 4 (step 0)) ++
    (send 0 (to (object 0) 1 0) ∷ []))
    (done ∷ replicate 5 going ++ (answer 11 ∷ held 0 ∷ done ∷ going ∷ going ∷ going ∷ answer 4 ∷ refuse 42 ∷ [])) (5 ∷ 7 ∷ 0 ∷ 4294967295 ∷ []) ∷
    plays spiral
    (send 0 (to (object 0) 0 0) ∷ send 1 (to (object 0) 1 9) ∷ send 2 (to (object 0) 1 3) ∷ replicate 16 (step 0) ++
    (step 2 ∷ step 1 ∷ step 1 ∷ commit 1 ∷ step 2 ∷ []))
    (done ∷ held 0 ∷ held 0 ∷ replicate 15 going ++ (stopped ∷ refuse 37 ∷ going ∷ answer 0 ∷ done ∷ going ∷ [])) (3 ∷ []) ∷
    agrees mixed
    (send 0 (to (object 0) 0 1) ∷ send 1 (to (class 0) 0 2) ∷ send 2 (to (object 0) 1 0) ∷ replicate 3 (step 0) ++ (commit 0 ∷ replicate 6 (step 1)) ++
    (commit 1 ∷ step 2 ∷ step 2 ∷ commit 2 ∷ [])) ∷
    []

-- Circles of waits. Two slots that ask for each other's objects: the second gets 42, which changes nothing, so that it may ask again, send
-- where it has the locks, and commit; a third slot that asks for an object of a waiting one gets 40. A send that clashes only with a
-- waiting one, which waits for the sender's locks, closes a circle too. So do three slots, by way of the last one.
abbrev crossing : List Call
crossing =
    send 0 (to (object 0) 0 1) ∷ replicate 3 (step 0) ++ (send 1 (to (object 2) 0 1) ∷ replicate 3 (step 1)) ++
    (send 0 (to (object 2) 0 2) ∷ send 1 (to (object 0) 0 2) ∷ send 1 (to (object 0) 1 0) ∷ step 1 ∷ send 2 (to (object 0) 0 3) ∷
    send 1 (to (object 2) 0 4) ∷ replicate 3 (step 1)) ++
    (step 0 ∷ commit 1 ∷ replicate 3 (step 0)) ++ (commit 0 ∷ replicate 3 (step 2)) ++ (commit 2 ∷ [])

abbrev pub circles : List Row
circles =
    plays mixed crossing
    (done ∷ going ∷ going ∷ answer 6 ∷ done ∷ going ∷ going ∷ answer 0 ∷
    held 1 ∷ refuse 42 ∷ refuse 42 ∷ refuse 35 ∷ held 0 ∷ done ∷ going ∷ going ∷ answer 4 ∷
    refuse 37 ∷ done ∷ going ∷ going ∷ answer 6 ∷ done ∷ going ∷ going ∷ answer 9 ∷ done ∷ [])
    (9 ∷ 7 ∷ 0 ∷ 6 ∷ []) ∷
    agrees mixed crossing ∷
    plays mixed
    (send 0 (to (object 0) 0 1) ∷ replicate 3 (step 0) ++ (send 1 (to (class 0) 0 2) ∷ send 0 (to (object 2) 0 3) ∷ commit 0 ∷ step 1 ∷ []))
    (done ∷ going ∷ going ∷ answer 6 ∷ held 0 ∷ refuse 42 ∷ done ∷ going ∷ []) (8 ∷ 7 ∷ 0 ∷ 4294967295 ∷ []) ∷
    plays mixed
    (send 5 (to (object 0) 1 0) ∷ step 5 ∷ step 5 ∷ send 7 (to (object 2) 1 0) ∷ step 7 ∷ step 7 ∷ send 6 (to (object 1) 0 1) ∷ replicate 6 (step 6) ++
    (send 5 (to (object 2) 0 1) ∷ send 7 (to (object 1) 0 2) ∷ send 6 (to (object 0) 0 1) ∷ commit 6 ∷ step 7 ∷ step 5 ∷ []))
    (done ∷ going ∷ answer 5 ∷ done ∷ going ∷ answer 4294967295 ∷ done ∷ replicate 5 going ++
    (answer 8 ∷ held 7 ∷ held 6 ∷ refuse 42 ∷ done ∷ going ∷ refuse 37 ∷ []))
    (5 ∷ 7 ∷ 2 ∷ 4294967295 ∷ []) ∷
    []

-- A message of 1,024 steps, and one of one more step.
abbrev pub stops : List Row
stops =
    plays long (send 0 (to (object 0) 1 0) ∷ replicate 1024 (step 0)) (done ∷ replicate 1023 going ++ (answer 0 ∷ [])) (961 ∷ []) ∷
    plays long (send 0 (to (object 0) 2 0) ∷ replicate 1025 (step 0)) (done ∷ replicate 1023 going ++ (stopped ∷ refuse 32 ∷ [])) (0 ∷ []) ∷ []

-- A list that leaves nothing open, against the plain course; and what is compared of one in which slot 0 gets its answers before slot 1
-- and commits after it, slot 2 aborts after an answer and is open in the end with another.
abbrev pub courses : List Row
courses =
    agrees mixed
    (send 0 (to (object 0) 0 1) ∷ send 1 (to (class 1) 0 2) ∷ step 0 ∷ step 1 ∷ step 1 ∷ step 0 ∷ step 1 ∷ step 1 ∷ step 0 ∷ step 1 ∷ step 1 ∷
    commit 1 ∷ send 0 (to (domain 0) 0 4) ∷ replicate 12 (step 0) ++ (commit 0 ∷ send 0 (to (object 0) 0 7) ∷ step 0 ∷ abort 0 ∷ [])) ∷
    compares mixed
    (send 0 (to (object 0) 0 1) ∷ replicate 3 (step 0) ++ (send 0 (to (object 0) 1 0) ∷ step 0 ∷ step 0 ∷ send 1 (to (object 1) 1 0) ∷ step 1 ∷ step 1 ∷
    send 2 (to (object 2) 0 2) ∷ replicate 3 (step 2)) ++
    (commit 1 ∷ abort 2 ∷ commit 0 ∷ send 2 (to (object 2) 1 0) ∷ step 2 ∷ step 2 ∷ []))
    (7 ∷ 6 ∷ 6 ∷ []) ∷ []

-- 51 for a line of another form and for a last line without LF, 36 for an unknown name, 40 with its slot, 37 until the line wakes, 42;
-- 31, 37 and 34 before an unknown name, and the values as an open transaction left them; a faulty text; no input.
abbrev adder : List ℕ
adder = text ("class a" ∷ "field x" ∷ "method m" ∷ "set x + x arg" ∷ "end" ∷ "object o a 5" ∷ [])

abbrev pub rehearsals : List Row
rehearsals =
    rehearses adder
    (text
    ("send 0 o m 3" ∷ "step 0" ∷ "step 0" ∷ "send 1 o m 1" ∷ "step 1" ∷ "send 1 o q 1" ∷ "send 2 o q 1" ∷ "all 2 b m 1" ∷ "step" ∷ "open 1" ∷
    "all 0 a m 4" ∷ "commit 0" ∷ "tree 1 a m 4" ∷ "step 1" ∷ "step 8" ∷ []) ++ bytes "abort 1")
    (text
    ("ok" ∷ "going" ∷ "answer 0" ∷ "40 0" ∷ "37" ∷ "37" ∷ "36" ∷ "36" ∷ "51" ∷ "51" ∷ "42" ∷ "ok" ∷ "34" ∷ "going" ∷ "31" ∷ "51" ∷ "o 9" ∷ [])) ∷
    rehearses adder (text ("send 8 b m 1" ∷ "send 0 o m 3" ∷ "step 0" ∷ "send 0 b m 1" ∷ [])) (text ("31" ∷ "ok" ∷ "going" ∷ "34" ∷ "o 8" ∷ [])) ∷
    rehearses (bytes "class a\nclass a\n") (bytes "step 0\n") (bytes "refused 13 2\n") ∷
    rehearses lanes [] (text ("lane1 0 0 0" ∷ [])) ∷
    rehearses [] [] [] ∷
    []

-- The table.
abbrev pub rows : List Row
rows = starred ++ (lent ++ (vectors ++ (machine ++ (additions ++ (line ++ (circles ++ (stops ++ (courses ++ rehearsals))))))))
