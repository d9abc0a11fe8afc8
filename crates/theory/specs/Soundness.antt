-- Vectors are sound (01, "Vectors and commuting"): at every moment of a message's run, the next step reads only fields that are Read
-- or Write, sets only fields that are Write, and adds only to fields that are Add or Write, in the transitive vector of its method in
-- its object's class.
use Rattle.std.specs.Prelude.{ℕ, ◌≡◌, List}
use Rattle.model.specs.Vector.{Program}
use Rattle.model.specs.Message.{Message, Run, turn}
use Rattle.model.specs.Machine.{service}
use Rattle.twophase.specs.Laws.{Part, start, more}
use Rattle.vector_theory.specs.VectorLaws.{Compiled}
use Rattle.theory.specs.Footprint.{Agree}
use Rattle.theory.specs.Coverage.{Of, of_begun}
use Rattle.theory.specs.ReadsOnly.{turn_local}
use Rattle.theory.specs.SetsOnly.{Fine, turn_fine, of_turn}

-- What the next step reads: the outcome is the same for any fields that agree wherever the message may read. What it changes: the
-- effect is one that the message may have.
pub record Sound (p : Program) (m : Message) (r : Run) (fields : List ℕ) : Type 0 where
  pub reads_only : (others : List ℕ) → Agree p m fields others → turn p r fields ≡ turn p r others
  pub sets_only : Fine p m (turn p r fields)

module _ (p : Program) (right : Compiled p) (m : Message) where
  -- The run stays one of the message.
  pub part_of : {first : List ℕ} {r : Run} {fields : List ℕ} → Part (service p) m first r fields → Of p m r
  part_of start = of_begun p m
  part_of (more {r = r} {G = fields} r' e t q) = of_turn p right m r r' e fields (part_of t) q

  -- So at every moment the next step keeps to its vector.
  pub vectors_sound : {first : List ℕ} {r : Run} {fields : List ℕ} → Part (service p) m first r fields → Sound p m r fields
  vectors_sound {r = r} {fields = fields} t =
      let i = part_of t in
      record { reads_only = λ others a. turn_local p right m r fields others i a; sets_only = turn_fine p right m r fields i }
