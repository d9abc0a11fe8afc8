-- A send that begins: its locks are taken and its message is at its start, in the row of the transaction that it belongs to.
use Rattle.std.specs.Prelude.{ℕ, ◌<◌, ◌≡◌, List, ◌++◌, length}
use Rattle.std.proofs.Common.{arith, ◌∙◌}
use Rattle.layout.specs.Layout.{row_words}
use Rattle.model.specs.Vector.{Program}
use Rattle.model.specs.Message.{Target}
use Rattle.model.specs.Lock.{Lock, locks_for}
use Rattle.model.specs.Service.{Transaction, starting}
use Rattle.model.specs.Machine.{service}
use Rattle.catalog.specs.View.{class_count, member_count}
use Rattle.machine_words.specs.Request.{Wanted, locked, first_of, entered, wanted}
use Rattle.machine_words.specs.Calls.{phase_of}
use Rattle.machine_refinement.specs.Rep.{Fits, OpenRep, method_of, Aims, message_for}
use Rattle.machine_refinement.specs.Runs.{note_same}
use Rattle.machine_refinement.specs.Locks.{holds_alike}
use Rattle.machine_refinement.specs.Taking.{took_locks}
use Rattle.machine_refinement.specs.Starts.{There, starts}
use Rattle.machine_refinement.specs.Freeing.{clean_alike}
use Rattle.machine_refinement.specs.State.{StandingRep}

-- The row of a transaction whose message is at its start.
pub record Begun (text tables : List ℕ) (p : Program) (q : Wanted) (row : List ℕ) (t : Transaction (service p)) : Type 0 where
  pub there : There (first_of text tables q)
  pub long : length (entered q (first_of text tables q) (locked text tables q row)) ≡ row_words
  pub phase : phase_of (entered q (first_of text tables q) (locked text tables q row)) ≡ 2
  pub is_open : OpenRep text tables p (entered q (first_of text tables q) (locked text tables q row)) t

pub begins : (text tables : List ℕ) (p : Program) (fits : Fits text tables p) (c k a : ℕ) → c < class_count tables → k < member_count tables c 1
    → (kind n : ℕ) (x : Target) → Aims tables c kind n x → (row : List ℕ) → length row ≡ row_words → (t : Transaction (service p)) → StandingRep p row t
    → Begun text tables p (wanted tables kind n c k a) row (starting (service p) t (message_for p x c k a))
begins text tables p fits c k a l has kind n x aims row size t before =
    let q : Wanted = wanted tables kind n c k a in
    let took = took_locks text tables p fits c k a l has row (omega arith) t.locks before.locks kind n x aims in
    let row₁ = locked text tables q row in
    let at-start = starts text tables p fits c k a l has kind n x aims row₁ (took.long ∙ size) in
    let start = at-start.1 in
    let row₂ = entered q (first_of text tables q) row₁ in
    let locks : List Lock = locks_for p x (method_of p c k) ++ t.locks in
    record {
      there = at-start.0;
      long = start.long;
      phase = start.phase;
      is_open = record {
        undo = λ j.
            note_same row₁ row₂ (λ i g e. start.tail i (omega arith) e) j
            ∙ note_same row row₁ (λ i g e. took.kept i (omega arith) (λ y z. omega arith)) j ∙ before.undo j;
        clean = clean_alike row₁ row₂ start.head start.tail (λ d. start.depth) (took.clean before.clean);
        locks = holds_alike text tables p fits row₁ row₂ locks (λ i g e. start.tail i (omega arith) (omega arith)) took.holds;
        now = (start.phase, start.run, start.runs, start.names);
      };
    }
