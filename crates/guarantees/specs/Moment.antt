-- Ticket 4 over the words: what holds after any list of calls after a fresh start, whatever it leaves open.
use Prim.Native.Nat.{ℕ, zero, suc, ◌≤◌, ◌<◌}
use Rattle.std.proofs.Common.{arith, sym, subst, ◌∙◌}
use Rattle.std.specs.Prelude.{◌≡◌, List}
use Rattle.std.proofs.Math.Path.{refl, ap, fun_ext}
use Rattle.model.specs.Vector.{Program}
use Rattle.model.specs.Undo.{Undo, put_back}
use Rattle.model.specs.Service.{Answer, World, Slot, closed, opened, standing, fresh, run_calls, compared_in}
use Rattle.model.specs.Machine.{service, Call}
use Rattle.laws.specs.Basics.{All}
use Rattle.laws.specs.PutBack.{back_clean}
use Rattle.twophase.specs.Claims.{Right, put_back_slot, put_back_all}
use Rattle.vector_theory.specs.VectorLaws.{Compiled}
use Rattle.theory.specs.CommitOrder.{left, AtThisMoment, at_every_moment_by}
use Rattle.machine_words.specs.Row.{note_at}
use Rattle.machine_words.specs.Calls.{Lent, tables_of, row_of, phase_of}
use Rattle.machine_refinement.specs.Rep.{settled, Rep, Fresh}
use Rattle.machine_refinement.specs.WaitRows.{settled_notes}
use Rattle.machine_refinement.specs.State.{row_size, slot_stands, closed_phase}
use Rattle.machine_refinement.specs.Refines.{fresh_rep}
use Rattle.guarantees.specs.Course.{AfterAll, called_all, all_refine, course_of}

-- The values with the notes of rows n - 1 to 0 put back: their open transactions are undone, and a closed slot has no notes.
unfoldable pub notes_back : List ℕ → ℕ → List ℕ → List ℕ
unfolding put_back note_at row_of
notes_back ws zero values = values
notes_back ws (suc n) values = notes_back ws n (put_back (note_at (row_of ws n)) values)

module _ (x : Lent) (p : Program) (w : World (service p)) (rep : Rep x p w) where
  stands_back : (z : Slot (service p)) (fields : List ℕ) → put_back (standing (service p) z).undo fields ≡ put_back_slot (service p) z fields
  stands_back closed fields = back_clean fields
  stands_back (opened t) fields = refl

  row_back : (n : ℕ) → n < 8 → (fields : List ℕ) → put_back (note_at (row_of x.words n)) fields ≡ put_back_slot (service p) (w.slots n) fields
  row_back n h fields =
      let row = row_of x.words n in
      ap (λ (u : Undo). put_back u fields) (fun_ext (λ k.
      sym (settled_notes row (row_size x p w rep n h) k) ∙ (slot_stands x.text (tables_of x.words) p (settled row) (w.slots n) (rep.slots n h)).undo k))
      ∙ stands_back (w.slots n) fields

  -- The rows' notes undo what the world's transactions undo.
  notes_back_law : (n : ℕ) → n ≤ 8 → (fields : List ℕ) → notes_back x.words n fields ≡ put_back_all (service p) n w.slots fields
  unfolding notes_back
  notes_back_law zero h fields = refl
  notes_back_law (suc n) h fields =
      ap (notes_back x.words n) (row_back n (omega arith) fields) ∙ notes_back_law n (omega arith) (put_back_slot (service p) (w.slots n) fields)

-- What Ticket 4 requires of what a list of calls answered and left, after a fresh start on `values`.
pub record AtMoment (p : Program) (values : List ℕ) (cs : List Call) (y : AfterAll) : Type 0 where
  -- "undoing all open transactions must give the fields of the committed ones run in commit order"
  pub undone : notes_back y.lent.words 8 y.lent.values ≡ (course_of p values cs y.answers).fields
  -- "The answers that any transaction got .. are those it would get running alone": one that is open ..
  pub open_alone : (s : ℕ) → s < 8 → (phase_of (row_of y.lent.words s) ≡ 0 → ⊥)
      → All Right (compared_in (service p) ((course_of p values cs y.answers).slots s).list (course_of p values cs y.answers).fields)
  -- .. and those that are committed.
  pub committed_alone : All Right (course_of p values cs y.answers).compared

-- After any list of calls.
pub at_moment : (x : Lent) (p : Program) → Compiled p → Fresh x p → (cs : List Call) → AtMoment p x.values cs (called_all x cs)
at_moment x p compiled start cs =
    record {
      undone = notes_back_law y.lent p w rep 8 (omega arith) y.lent.values
          ∙ ap (put_back_all (service p) 8 w.slots) (sym rep.fields)
          ∙ now.undone ∙ ap (λ (l : List Answer). (course_of p values cs l).fields) same;
      open_alone = λ s h ne. subst (λ (l : List Answer). All Right (compared_in (service p) ((course_of p values cs l).slots s).list (course_of p values cs l).fields)) same
          (by_slot s h ne (w.slots s) refl);
      committed_alone = subst (λ (l : List Answer). All Right (course_of p values cs l).compared) same now.committed_alone;
    }
  where
    y : AfterAll
    y = called_all x cs

    values : List ℕ
    values = x.values

    w : World (service p)
    w = left p values cs

    all : (y.answers ≡ (run_calls (service p) (fresh (service p) values) cs).0) × Rep y.lent p w
    all = all_refine x p (fresh (service p) values) (fresh_rep x p start) cs

    rep : Rep y.lent p w
    rep = all.1

    same : (run_calls (service p) (fresh (service p) values) cs).0 ≡ y.answers
    same = sym all.0

    now : AtThisMoment p values cs
    now = at_every_moment_by p values cs compiled

    by_slot : (s : ℕ) → s < 8 → (phase_of (row_of y.lent.words s) ≡ 0 → ⊥) → (z : Slot (service p)) → w.slots s ≡ z
        → let plain = course_of p values cs (run_calls (service p) (fresh (service p) values) cs).0 in
        All Right (compared_in (service p) (plain.slots s).list plain.fields)
    by_slot s h ne closed e = absurd (ne (closed_phase y.lent p w rep s h e))
    by_slot s h ne (opened t) e = now.got_alone s t e
