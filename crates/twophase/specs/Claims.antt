-- What is claimed over any service of a list of calls that leaves nothing open, and of each moment. Waiting and InTime have the line's
-- promises, Compared which answers are compared.
use Rattle.std.specs.Prelude.{ℕ, zero, suc, ◌≡◌, List, [], ◌∷◌}
use Rattle.std.proofs.Math.Option.{some}
use Rattle.model.specs.Service.{Service, Call, Compared, Transaction, Slot, closed, opened, World, fresh, call, Course, compared_in, fed}
use Rattle.laws.specs.Basics.{All}

-- The answer given is the one that the run gives. A run that would be stopped gives none.
abbrev pub Right : Compared → Type 0
Right y = y.run ≡ some y.got

module _ (𝓢 : Service) where
  open 𝓢 use {Fields, Request, put_back}

  -- Machine and course after a list of calls, the course fed each call with the machine's answer.
  abbrev pub both : World 𝓢 → Course 𝓢 → List (Call Request) → World 𝓢 × Course 𝓢
  both w x [] = (w, x)
  both w x (c ∷ cs) = let y = call 𝓢 w c in both y.1 (fed 𝓢 x c y.0) cs

  -- The fields with a slot's noted values put back.
  abbrev pub put_back_slot : Slot 𝓢 → Fields → Fields
  put_back_slot closed fields = fields
  put_back_slot (opened t) fields = put_back t.undo fields

  -- The fields with the noted values of the open transactions of slots n - 1 to 0 put back.
  abbrev pub put_back_all : ℕ → (ℕ → Slot 𝓢) → Fields → Fields
  put_back_all zero slots fields = fields
  put_back_all (suc n) slots fields = put_back_all n slots (put_back_slot (slots n) fields)

  -- With no transaction open: the fields are the course's, each answer compared at a commit is the one that its run gives,
  -- and the machine is as after a start on these fields.
  pub record Serial (w : World 𝓢) (x : Course 𝓢) : Type 0 where
    pub same_fields : w.fields ≡ x.fields
    pub same_answers : All Right x.compared
    pub as_new : w ≡ fresh 𝓢 x.fields

  -- At each moment: undoing all open transactions gives the course's fields; the answers given to an open transaction are those
  -- of its sends run on the course's fields; and each answer compared at a commit is the one that its run gave.
  pub record Moment (w : World 𝓢) (x : Course 𝓢) : Type 0 where
    pub undone_fields : put_back_all 8 w.slots w.fields ≡ x.fields
    pub open_answers : (t : ℕ) (y : Transaction 𝓢) → w.slots t ≡ opened y → All Right (compared_in 𝓢 (x.slots t).list x.fields)
    pub committed_answers : All Right x.compared
