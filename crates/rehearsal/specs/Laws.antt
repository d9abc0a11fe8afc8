-- What the functions that read an input promise, from what their parts do.
use Rattle.std.specs.Prelude.{ℕ, ◌+◌, ◌-◌, ◌≤◌, ◌<◌, min, ◌≡◌, refl, Bool, true, false, length, drop, get_or, set, ltb}
use Rattle.std.proofs.Common.{add-one, arith, sym, ◌∙◌, length-append, length-take, drop_of_length-le, drop-drop, drop_at, take_at, take_all, take-suc-set, length-take-le, eq-eqb, ne_eqb, ltb-true, ltb-false}
use Rattle.std.proofs.Math.Path.{ap}
use Rattle.std.proofs.Math.Option.{Option, none, some}
use mathlib.Core.List.{List, [], ◌∷◌, ◌++◌}
use Rattle.std.proofs.Math.ListN.{take}
use Rattle.std.proofs.Math.Seq.{drop-cons, set_out, take-append_seam}
use Rattle.std.proofs.lemmas.List.Edits.{sets-eq}
use Rattle.model.specs.Base.{bytes}
use Rattle.model.specs.Text.{words}
use Rattle.model.specs.Tables.{digits}
use Rattle.model.specs.Service.{Answer, done, going, answer, refuse, held, stopped}
use Rattle.model.specs.Rehearsal.{unended, CallLine, call_line, call_for, answer_printed}
use Rattle.machine_words.specs.Calls.{Lent, called}
use Rattle.output.specs.Append.{Appended, Printed, appended_none, appended_then, appended_printed}
use Rattle.output.specs.Digits.{digits_le}
use Rattle.call_lines.specs.Lent.{lent_library, lent_reply, lent_last, on_lent}
use Rattle.call_lines.specs.Says.{Says}
use Rattle.rehearsal.specs.Parts.{Reached, ended, on_byte, next, fed}
use Rattle.rehearsal.specs.Feeds.{widest, reached, Holding, holding, held_on, held_next, held_after, Keeps, Advances, FeedsAll, Finishes}
use Rattle.rehearsal.specs.Room.{ended_few}

-- ---- a line kept

module _ (line : List ℕ) (kept byte : ℕ) where
  pub kept_more : kept < length line → Keeps line kept byte (set line kept byte) (kept + 1)
  kept_more h =
      let few : length (take kept line ++ (byte ∷ [])) ≤ length line = omega (arith, length-append (take kept line) (byte ∷ []), length-take-le kept line (omega arith)) in
      record {
        bytes = rw (add-one, take-suc-set line kept byte h) (sym (take_all (length line) (take kept line ++ (byte ∷ [])) few));
        stored = refl;
        count = omega arith;
      }

  pub kept_full : kept ≡ length line → Keeps line kept byte line kept
  kept_full e = record {
    bytes = rw (take_all kept line (omega arith), take-append_seam line (byte ∷ []));
    stored = sym (set_out line kept byte (omega arith));
    count = omega arith;
  }

-- ---- a line answered

printed_few : (a : Answer) → length (answer_printed a) ≤ widest
printed_few done = omega arith
printed_few going = omega arith
printed_few (answer v) = omega (arith, digits_le 10 v, length-append (digits 10 v) (bytes "\n"))
printed_few (refuse n) = omega (arith, digits_le 10 n, length-append (digits 10 n) (bytes "\n"))
printed_few (held s) = omega (arith, digits_le 10 s, length-append (digits 10 s) (bytes "\n"))
printed_few stopped = omega arith

-- The line of an answer has at most 18 bytes: `answer`, a space, ten digits and LF.
pub reply_few : (x : Lent) (o : Option CallLine) → length (lent_reply x o).printed ≤ widest
reply_few x none = omega arith
reply_few x (some c) = printed_few (called x (call_for (lent_library x.text x.words) c)).answered

-- What was written before, followed by the run.
pub appended_front : {run list list' : List ℕ} {at end : ℕ} → Appended run list at end list' → end ≤ length list → take end list' ≡ take at list ++ run
appended_front {run} {list} {list'} {at} {end} h fits =
    let long : at + length run ≤ length list = omega (arith, h.behind) in
    let size : length (take at list ++ run) ≡ end = omega (arith, h.behind, length-append (take at list) run, length-take-le at list (omega arith)) in
    ap (take end) (h.stored ∙ sets-eq run list at long)
    ∙ take_at (take at list ++ run) (drop (at + length run) list) end size

-- What lies past the run stays.
pub appended_past : {run list list' : List ℕ} {at end : ℕ} → Appended run list at end list' → end ≤ length list → drop end list' ≡ drop end list
appended_past {run} {list} {list'} {at} {end} h fits =
    let size : length (take at list ++ run) ≡ end = omega (arith, h.behind, length-append (take at list) run, length-take-le at list (omega (arith, h.behind))) in
    ap (drop end) (h.stored ∙ sets-eq run list at (omega (arith, h.behind)))
    ∙ drop_at (take at list ++ run) (drop (at + length run) list) end size
    ∙ ap (λ (n : ℕ). drop n list) (sym h.behind)

module _ (x : Lent) (line : List ℕ) (kept : ℕ) (out : List ℕ) (size byte : ℕ) where
  before : Reached Lent
  before = reached x line kept out size

  pub on_lf : byte ≡ 10 → size + widest ≤ length out → {y : Lent} {out' : List ℕ} {size' : ℕ}
      → Says (lent_reply x (call_line (words (take kept line)))) out size size' y out'
      → Advances x line kept out size byte y line 0 out' size'
  unfolding before on_lent
  on_lf e room {out' = out'} {size' = size'} a =
      let o = call_line (words (take kept line)) in
      let few : size' ≤ size + widest = omega (arith, a.written.behind, reply_few x o) in
      record {
        reaches =
            ap (on_byte on_lent (length line) before byte) (eq-eqb byte 10 e)
            ∙ ap (λ (l : List ℕ). record { out = l; machine = (lent_reply x o).machine; line = [] }) (sym (appended_front a.written (omega arith)))
            ∙ ap (λ (m : Lent). record { out = take size' out'; machine = m; line = [] }) a.left;
        holds = ap (held_on (holding line kept) byte) (eq-eqb byte 10 e);
        short = omega arith;
        more = omega (arith, a.written.behind);
        few = few;
        past = appended_past a.written (omega arith);
      }

  pub on_other : (byte ≡ 10 → ⊥) → {line' : List ℕ} {kept' : ℕ} → Keeps line kept byte line' kept' → Advances x line kept out size byte x line' kept' out size
  unfolding before
  on_other e {line'} {kept'} k =
      record {
        reaches =
            ap (on_byte on_lent (length line) before byte) (ne_eqb byte 10 e)
            ∙ ap (λ (l : List ℕ). record { out = take size out; machine = x; line = l }) (sym k.bytes);
        holds =
            ap (held_on (holding line kept) byte) (ne_eqb byte 10 e)
            ∙ ap (λ (n : ℕ). holding (set line kept byte) n) (sym k.count)
            ∙ ap (λ (l : List ℕ). holding l kept') (sym k.stored);
        short = omega (arith, k.count);
        more = omega arith;
        few = omega arith;
        past = refl;
      }

-- ---- a loop over the bytes of a part

module _ (most : ℕ) (y : Reached Lent) (part : List ℕ) (i : ℕ) where
  pub fed_end : length part ≤ i → fed on_lent most y (drop i part) ≡ y
  unfolding fed
  fed_end h = rw (drop_of_length-le part h)

  fed_more : i < length part → fed on_lent most y (drop i part) ≡ fed on_lent most (next on_lent most y (get_or part i 0)) (drop (i + 1) part)
  unfolding fed
  fed_more h = rw (add-one, drop-cons part i 0 h)

-- One turn: a byte more is read.
pub fed_turn : (part : List ℕ) (i most : ℕ) {x y : Lent} {line line' out out' : List ℕ} {kept size kept' size' : ℕ} → i < length part → length line ≡ most
    → Advances x line kept out size (get_or part i 0) y line' kept' out' size'
    → fed on_lent most (reached y line' kept' out' size') (drop (i + 1) part) ≡ fed on_lent most (reached x line kept out size) (drop i part)
fed_turn part i most {x} {line = line} {out = out} {kept = kept} {size = size} h e a =
    let before = reached x line kept out size in
    sym (fed_more most before part i h
    ∙ ap (λ (n : ℕ). fed on_lent most (next on_lent n before (get_or part i 0)) (drop (i + 1) part)) (sym e)
    ∙ ap (λ (r : Reached Lent). fed on_lent most r (drop (i + 1) part)) a.reaches)

-- The list of the unfinished line, in the same turns.
module _ (h : Holding) (part : List ℕ) (i : ℕ) where
  pub held_end : length part ≤ i → held_after h (drop i part) ≡ h
  unfolding held_after
  held_end g = rw (drop_of_length-le part g)

  pub held_turn : i < length part → {line' : List ℕ} {kept' : ℕ} → held_next h (get_or part i 0) ≡ holding line' kept'
      → held_after (holding line' kept') (drop (i + 1) part) ≡ held_after h (drop i part)
  unfolding held_after
  held_turn g e = ap (λ (k : Holding). held_after k (drop (i + 1) part)) (sym e) ∙ rw (add-one, drop-cons part i 0 g)

pub held_least : (line : List ℕ) (kept : ℕ) (part : List ℕ) → kept ≤ length line → held_after (holding line (min kept (length line))) part ≡ held_after (holding line kept) part
held_least line kept part h = let q : min kept (length line) ≡ kept = omega arith in ap (λ (n : ℕ). held_after (holding line n) part) q

-- What lies past the bytes written stays, turn by turn.
pub past_turn : (first : List ℕ) {x y : Lent} {line line' out out' : List ℕ} {kept size byte kept' size' : ℕ}
    → Advances x line kept out size byte y line' kept' out' size' → drop size out ≡ drop size first → drop size' out' ≡ drop size' first
past_turn first {out = out} {size = size} {size' = size'} a e =
    let more = size' - size in
    let q : size + more ≡ size' = omega (arith, a.more) in
    a.past
    ∙ ap (λ (n : ℕ). drop n out) (sym q)
    ∙ sym (drop-drop more size out)
    ∙ ap (drop more) e
    ∙ drop-drop more size first
    ∙ ap (λ (n : ℕ). drop n first) q

-- ---- as much as there is room for

take_least : (kept : ℕ) (line : List ℕ) (n : ℕ) → n ≡ min kept (length line) → take n line ≡ take kept line
take_least kept line n e = go (ltb (length line) kept) refl
  where
    go : (t : Bool) → ltb (length line) kept ≡ t → take n line ≡ take kept line
    go false t = let h = ltb-false (length line) kept t in let q : n ≡ kept = omega arith in ap (λ (k : ℕ). take k line) q
    go true t = let h = ltb-true (length line) kept t in take_all n line (omega arith) ∙ sym (take_all kept line (omega arith))

pub feeds_begun : {x y : Lent} {line part out line' out' : List ℕ} {kept begun kept' size' : ℕ} → begun ≡ min kept (length line)
    → FeedsAll x line begun part out y line' kept' out' size' → FeedsAll x line kept part out y line' kept' out' size'
feeds_begun {x} {line = line} {part = part} {kept = kept} {begun = begun} e f = record {
  reaches =
      ap (λ (l : List ℕ). fed on_lent (length line) (record { out = []; machine = x; line = l }) part) (sym (take_least kept line begun e))
      ∙ f.reaches;
  holds = let q : min kept (length line) ≡ min begun (length line) = omega arith in ap (λ (n : ℕ). held_after (holding line n) part) q ∙ f.holds;
  same = f.same;
  room = f.room;
  past = f.past;
}

-- ---- the end of the input

module _ (line : List ℕ) (kept n : ℕ) (e : n ≡ min kept (length line)) where
  few : length (take kept line) ≡ n
  few = omega (arith, length-take kept line)

  pub unended_none : (out : List ℕ) → n ≡ 0 → Appended (unended (take kept line)) out 0 0 out
  unended_none out z = go (take kept line) (few ∙ z)
    where
      go : (l : List ℕ) → length l ≡ 0 → Appended (unended l) out 0 0 out
      go [] q = appended_none out 0
      go (b ∷ l) q = absurd (omega arith)

  pub unended_some : (n ≡ 0 → ⊥) → bytes "51\n" ≡ unended (take kept line)
  unended_some h = go (take kept line) (λ q. h (sym few ∙ q))
    where
      go : (l : List ℕ) → (length l ≡ 0 → ⊥) → bytes "51\n" ≡ unended l
      go [] k = absurd (k refl)
      go (b ∷ l) k = refl

-- 51 or nothing, then the objects' lines.
pub finishes : (x : Lent) (line : List ℕ) (kept : ℕ) {out out₁ out₂ : List ℕ} {at size : ℕ} → Appended (unended (take kept line)) out 0 at out₁
    → Appended (lent_last x) out₁ at size out₂ → Finishes x line kept out size out₂
unfolding on_lent
finishes x line kept {out} {out₂ = out₂} {size = size} h k =
    let all : Printed (ended on_lent x (take kept line)) out size out₂ = appended_printed (appended_then h k) in
    record { printed = all; few = omega (arith, all.count, ended_few x (take kept line)) }
