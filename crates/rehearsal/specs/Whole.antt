-- Whatever parts the input comes in, all that a rehearsal writes is what the definition prints for the text and the whole input.
use Rattle.std.specs.Prelude.{Ok, Err, ℕ, ◌≤◌, ◌≡◌, refl, Bool, true, false, length, take, drop, ltb}
use Rattle.std.proofs.Common.{arith, sym, ap, ◌∙◌, take_all, take_at, length-take-le, ltb-true, ltb-false, lt-ltb}
use mathlib.Core.List.{List, [], ◌∷◌, ◌++◌, flatten}
use Rattle.model.specs.Read.{Reading, accepted, refused, read}
use Rattle.model.specs.Vector.{program}
use Rattle.model.specs.Service.{fresh}
use Rattle.model.specs.Machine.{service}
use Rattle.model.specs.Rehearsal.{printed_for, on_program, rehearsed_on, rehearsed}
use Rattle.machine_words.specs.Calls.{Lent, lending}
use Rattle.output.specs.Append.{Printed, over_fits}
use Rattle.machine_refinement.specs.Refines.{fresh_rep}
use Rattle.call_lines.specs.Lent.{on_lent}
use Rattle.rehearsal.specs.declared.NotReady.{NotReady}
use Rattle.rehearsal.specs.Parts as Parts
use Rattle.rehearsal.specs.Parts.{fed, Fed, ended, whatever_the_parts}
use Rattle.rehearsal.specs.OnWords.{lent_front_only, lent_prints}
use Rattle.rehearsal.specs.Feeds.{Feeds, end_most, Finishes}
use Rattle.rehearsal.specs.Ready.{refusal_most, with_first, PreparesOn, Prepares}
use Rattle.rehearsal.specs.Room.{refusal_few}

-- ---- the parts of an input

-- Parts read one after another, each on what the one before left, and what was written for each: contracts of `feed`.
pub data Played : Lent → List ℕ → ℕ → List (List ℕ) → List (List ℕ) → Lent → List ℕ → ℕ → Type 0 where
  none : {x : Lent} {line : List ℕ} {kept : ℕ} → Played x line kept [] [] x line kept
  then : {x x₁ x₂ : Lent} {line part out line₁ out₁ line₂ : List ℕ} {kept read kept₁ size₁ kept₂ : ℕ} {parts outs : List (List ℕ)}
      → Feeds x line kept part out read x₁ line₁ kept₁ out₁ size₁ → Played x₁ line₁ kept₁ parts outs x₂ line₂ kept₂
      → Played x line kept (take read part ∷ parts) (take size₁ out₁ ∷ outs) x₂ line₂ kept₂

-- One part more at the end.
pub played_then : {x y z : Lent} {line line₁ part out line₂ out₁ : List ℕ} {kept kept₁ read kept₂ size₁ : ℕ} {parts outs : List (List ℕ)}
    → Played x line kept parts outs y line₁ kept₁ → Feeds y line₁ kept₁ part out read z line₂ kept₂ out₁ size₁
    → Played x line kept (parts ++ (take read part ∷ [])) (outs ++ (take size₁ out₁ ∷ [])) z line₂ kept₂
played_then none f = then f none
played_then (then g p) f = then g (played_then p f)

all_fed : {x y : Lent} {line line' : List ℕ} {most kept kept' : ℕ} {parts outs : List (List ℕ)} → length line ≡ most
    → Played x line kept parts outs y line' kept' → Fed on_lent most x (take kept line) parts outs y (take kept' line')
all_fed e none = Parts.none
all_fed {x} {line = line} {kept = kept} e (then {part = part} {read = read} f p) =
    Parts.then
    (ap (λ (n : ℕ). fed on_lent n (record { out = []; machine = x; line = take kept line }) (take read part)) (sym e) ∙ f.feeds.reaches)
    (all_fed (f.feeds.same ∙ e) p)

-- What is written for the parts and at the end is what the lent machine prints for the whole input.
pub parts_print : {x y : Lent} {line line' : List ℕ} {kept' : ℕ} {parts outs : List (List ℕ)} → 61 ≤ length line → Played x line 0 parts outs y line' kept'
    → flatten outs ++ ended on_lent y (take kept' line') ≡ printed_for on_lent x (flatten parts)
parts_print {line = line} h p = whatever_the_parts on_lent (length line) (lent_front_only (length line) h) (all_fed refl p)

-- ---- a rehearsal

-- A run that fits is the front of what it is written over.
printed_front : {run list list' : List ℕ} {size : ℕ} → Printed run list size list' → length run ≤ length list → take size list' ≡ run
printed_front {run} {list} {list'} {size} p h = ap (take size) (p.bytes ∙ over_fits run list h) ∙ take_at run (drop (length run) list) size (sym p.count)

-- A refused text prints its line, whatever the calls.
pub refused_prints : {x y : Lent} {out out' : List ℕ} {n : NotReady} → refusal_most ≤ length out → Prepares x out (Err n) y out'
    → (calls : List ℕ) → take n.size out' ≡ rehearsed x.text calls
unfolding rehearsed
refused_prints {x} {y} {out} {out'} {n} long p calls = go (read x.text) p.by_reading
  where
    go : (r : Reading) → PreparesOn x out r (Err n) y out' → take n.size out' ≡ rehearsed_on r calls
    go (refused fault line) h = printed_front h.0 (omega (arith, refusal_few fault line))
    go (accepted l) h = absurd h

-- What the lent machine prints from the start of a rehearsal on.
pub ready_prints : {x y : Lent} {out out' : List ℕ} {count : ℕ} → Prepares x out (Ok count) y out'
    → (calls : List ℕ) → printed_for on_lent (with_first count y) calls ≡ rehearsed x.text calls
unfolding rehearsed
ready_prints {x} {y} {out} {out'} {count} p calls = go (read x.text) p.by_reading
  where
    first : Lent
    first = with_first count y

    go : (r : Reading) → PreparesOn x out r (Ok count) y out' → printed_for on_lent first calls ≡ rehearsed_on r calls
    go (refused fault line) h = absurd h
    go (accepted l) h =
        let q = program l in
        lent_prints q first (fresh (service q) first.values) calls (fresh_rep first q h.0.started.fresh)
        ∙ ap (λ (v : List ℕ). printed_for (on_program q) (fresh (service q) v) calls) h.0.started.starting

-- `prepare`, `feed` for each part, and `finish`, each on what the one before left: the parts that were read, and all that was written.
pub data Rehearses (text : List ℕ) : List (List ℕ) → List ℕ → Type 0 where
  refusal : {list words out out' : List ℕ} {y : Lent} {n : NotReady} {parts : List (List ℕ)} → refusal_most ≤ length out
      → Prepares (lending text words list) out (Err n) y out' → Rehearses text parts (take n.size out')
  play : {list words out out₁ line line' out₂ out₃ : List ℕ} {y z : Lent} {count kept size : ℕ} {parts outs : List (List ℕ)}
      → Prepares (lending text words list) out (Ok count) y out₁
      → 61 ≤ length line → Played (with_first count y) line 0 parts outs z line' kept
      → end_most ≤ length out₂ → Finishes z line' kept out₂ size out₃
      → Rehearses text parts (flatten outs ++ take size out₃)

-- Readings, P10: "What it prints is one definition of the two inputs, whatever the parts".
pub rehearsal_prints : {text written : List ℕ} {parts : List (List ℕ)} → Rehearses text parts written → written ≡ rehearsed text (flatten parts)
rehearsal_prints {parts = parts} (refusal long p) = refused_prints long p (flatten parts)
rehearsal_prints {text} {parts = parts} (play {outs = outs} p most f long e) =
    ap (λ (l : List ℕ). flatten outs ++ l) (printed_front e.printed (omega (arith, e.few, e.printed.count)))
    ∙ parts_print most f
    ∙ ready_prints p (flatten parts)

-- ---- the front of a text

-- 01: at most "32,768 bytes", and "11 text too long" with more. So many bytes of a text decide what is rehearsed.
abbrev pub text_room : ℕ
text_room = 32769

front_read : (text : List ℕ) → read (take text_room text) ≡ read text
unfolding read
front_read text = go (ltb text_room (length text)) refl
  where
    go : (t : Bool) → ltb text_room (length text) ≡ t → read (take text_room text) ≡ read text
    go false t = ap read (take_all text_room text (ltb-false text_room (length text) t))
    go true t =
        let long = ltb-true text_room (length text) t in
        let front = length-take-le text_room text (omega arith) in
        rw (lt-ltb 32768 (length (take text_room text)) (omega arith), lt-ltb 32768 (length text) (omega arith))

pub front_rehearsed : (text calls : List ℕ) → rehearsed (take text_room text) calls ≡ rehearsed text calls
unfolding rehearsed
front_rehearsed text calls = ap (λ (r : Reading). rehearsed_on r calls) (front_read text)

-- A rehearsal on so many bytes of a text is one on the text.
pub front_prints : (text : List ℕ) {written : List ℕ} {parts : List (List ℕ)} → Rehearses (take text_room text) parts written → written ≡ rehearsed text (flatten parts)
front_prints text {parts = parts} r = rehearsal_prints r ∙ front_rehearsed text (flatten parts)
