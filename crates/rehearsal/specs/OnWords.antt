-- On words that represent a world, call lines over the lent words print the same as over the model.
use Rattle.std.specs.Prelude.{ℕ, ◌≤◌, ◌≡◌, refl, List}
use Rattle.std.proofs.Common.{arith, sym, ap, subst, ◌∙◌}
use Rattle.std.proofs.Math.Option.{Option, none, some}
use Rattle.model.specs.Text.{words}
use Rattle.model.specs.Library.{Library}
use Rattle.model.specs.Vector.{Program}
use Rattle.model.specs.Service.{World}
use Rattle.model.specs.Machine.{Call, call, service}
use Rattle.model.specs.Rehearsal.{printed_for, CallLine, call_line, call_for, answer_printed, reply_to, objects_printed, on_program}
use Rattle.machine_words.specs.Calls.{Lent, called}
use Rattle.machine_refinement.specs.Rep.{Rep}
use Rattle.machine_refinement.specs.Refines.{refines}
use Rattle.call_lines.specs.Lent.{lent_library, lent_reply, lent_last, on_lent}
use Rattle.rehearsal.specs.Parts.{Short, same_printed}
use Rattle.rehearsal.specs.Short.{line_front}

pub lent_front_only : (most : ℕ) → 61 ≤ most → Short on_lent most
unfolding on_lent
lent_front_only most h = record { front = λ x l. ap (lent_reply x) (line_front most h l); some = omega arith }

module _ (p : Program) where
  -- What is lent represents a world.
  abbrev Stands : Lent → World (service p) → Type 0
  Stands x w = Rep x p w

  same_call : (x : Lent) (w : World (service p)) → Stands x w → (c : CallLine) → call_for (lent_library x.text x.words) c ≡ call_for p.library c
  same_call x w rep c = ap (λ (l : Library). call_for l c) rep.fits.library

  reply_same : (x : Lent) (w : World (service p)) (o : Option CallLine) → Stands x w → (lent_reply x o).printed ≡ (reply_to p w o).printed
  reply_same x w none rep = refl
  reply_same x w (some c) rep =
      ap (λ (k : Call). answer_printed (called x k).answered) (same_call x w rep c) ∙ ap answer_printed (refines x p w rep (call_for p.library c)).0

  reply_stands : (x : Lent) (w : World (service p)) (o : Option CallLine) → Stands x w → Stands (lent_reply x o).machine (reply_to p w o).machine
  reply_stands x w none rep = rep
  reply_stands x w (some c) rep =
      let k = call_for p.library c in
      subst (λ (d : Call). Rep (called x d).lent p (call p w k).1) (sym (same_call x w rep c)) (refines x p w rep k).1

  last_same : (x : Lent) (w : World (service p)) → Stands x w → lent_last x ≡ objects_printed p.library p.library.objects w.fields
  last_same x w rep =
      ap (λ (l : Library). objects_printed l l.objects x.values) rep.fits.library
      ∙ ap (objects_printed p.library p.library.objects) (sym rep.fields)

  -- On what start and the calls left, the lent machine prints what the model does.
  pub lent_prints : (x : Lent) (w : World (service p)) (input : List ℕ) → Stands x w → printed_for on_lent x input ≡ printed_for (on_program p) w input
  unfolding on_lent on_program
  lent_prints x w input rep =
      same_printed (on_program p) on_lent Stands
      (λ y v l h. reply_same y v (call_line (words l)) h) (λ y v l h. reply_stands y v (call_line (words l)) h) last_same x w input rep
