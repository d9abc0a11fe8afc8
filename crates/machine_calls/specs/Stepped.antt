-- A step: the turn that is decided on the slot's row, and carried out on it.
use Rattle.std.specs.Prelude.{ℕ, ◌+◌, ◌-◌, ◌++◌, ◌≡◌, refl, List, length, take, drop, Option, Result, Ok}
use Rattle.refusals.specs.declared.Refusal.{Refusal}
use Rattle.std.proofs.Common.{ap, ap₂, ◌∙◌}
use Rattle.layout.specs.Layout.{row_words}
use Rattle.machine_words.specs.Row as State
use Rattle.machine_words.specs.Row.{Left, carried}
use Rattle.machine_words.specs.Turn.{decided}
use Rattle.model.specs.Service as Service
use Rattle.machine_words.specs.Calls.{Lent, lending, lending_same, tables_of, row_start, row_of, with_row, woken_by, laid}
use Rattle.machine_words.specs.declared.Turn.{Turn}
use Rattle.machine_apply.specs.Carried as Rows
use Rattle.machine_words.specs.declared.Outcome.TheVariants.{Done, Going, Answer, Held, Stopped}
use Rattle.machine_words.specs.declared.Outcome.{Outcome}
use Rattle.machine_words.specs.Said.{said_turn, told}
use Rattle.machine_checks.specs.Told.{Leaves}
use Rattle.machine_checks.specs.Lent.{Within, part_at, lent_at}

-- The slot's row stands from a to z.
module _ (x : Lent) (s : ℕ) (h : Within x.words s) (a z : ℕ) (b : a ≡ row_start s) (c : z ≡ row_start s + row_words) (turn : Option Turn)
    (d : said_turn turn ≡ decided x.text (tables_of x.words) (row_of x.words s) x.values) (r : Result Outcome Refusal) (row values' : List ℕ) (size : length row ≡ row_words)
    (k : Rows.Leaves (carried (take (z - a) (drop a x.words)) x.values (said_turn turn)) r row values') where
  abbrev ws : List ℕ
  ws = x.words

  abbrev turned : List ℕ → Left
  turned r = carried r x.values (decided x.text (tables_of ws) r x.values)

  abbrev left : Left
  left = turned (row_of ws s)

  left_is : carried (take (z - a) (drop a ws)) x.values (said_turn turn) ≡ left
  left_is = ap₂ (λ (row : List ℕ) (t : State.Turn). carried row x.values t) (part_at ws s a z b c) d

  -- The row is written; then those who wait are woken where the message stopped.
  pub stepped : (now : List ℕ) → now ≡ woken_by (told r) x.text (take a ws ++ (row ++ drop (z - a) (drop a ws))) → Leaves (laid x s left) r (lending x.text now values')
  stepped now w =
      let answer : told r ≡ left.answered = k.says ∙ ap (λ (l : Left). l.answered) left_is in
      let words : take a ws ++ (row ++ drop (z - a) (drop a ws)) ≡ with_row ws s left.row =
      lent_at ws s h a z b c row left.row size (k.row_is ∙ ap (λ (l : Left). l.row) left_is) in
      record {
        says = answer;
        left = lending_same refl (w ∙ ap₂ (λ (a : Service.Answer) (l : List ℕ). woken_by a x.text l) answer words) (k.values_are ∙ ap (λ (l : Left). l.values) left_is);
      }

-- Nobody is woken where the message has not stopped.
pub goes_on : (o : Outcome) → (o ≡ Stopped → ⊥) → (text words : List ℕ) → words ≡ woken_by (told (Ok o)) text words
goes_on Done n text words = refl
goes_on Going n text words = refl
goes_on (Answer v) n text words = refl
goes_on (Held t) n text words = refl
goes_on Stopped n text words = absurd (n refl)
