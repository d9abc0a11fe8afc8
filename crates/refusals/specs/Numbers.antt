-- The numbers of faults and refusals (01, "Numbers given"; 37 and 42 are 02's).
use Rattle.std.specs.Prelude.{ℕ, ◌≡◌, refl, cond, eqb, Result, Ok, Err}
use Rattle.refusals.specs.declared.Fault.{Fault}
use Rattle.refusals.specs.declared.Fault.TheVariants.{TooLong, Misplaced, Repeated, Unknown, FieldsDiffer, NoAncestor, TooMany}
use Rattle.refusals.specs.declared.Refusal.{Refusal}
use Rattle.refusals.specs.declared.Refusal.TheVariants.{TooShort, OtherCount, NoStatement, Misfit, NoSlot, NotOpen, Running, NotRunning, NothingThere, Waiting, Circle}

abbrev pub fault_number : Fault → ℕ
fault_number TooLong = 11
fault_number Misplaced = 12
fault_number Repeated = 13
fault_number Unknown = 14
fault_number FieldsDiffer = 15
fault_number NoAncestor = 16
fault_number TooMany = 17

abbrev pub refusal_number : Refusal → ℕ
refusal_number TooShort = 21
refusal_number OtherCount = 22
refusal_number NoStatement = 23
refusal_number Misfit = 24
refusal_number NoSlot = 31
refusal_number NotOpen = 32
refusal_number Running = 34
refusal_number NotRunning = 35
refusal_number NothingThere = 36
refusal_number Waiting = 37
refusal_number Circle = 42

-- The number of what was refused; 0 where nothing was.
abbrev pub fault_in : {T : Type 0} → Result T Fault → ℕ
fault_in (Ok x) = 0
fault_in (Err f) = fault_number f

abbrev pub refusal_in : {T : Type 0} → Result T Refusal → ℕ
refusal_in (Ok x) = 0
refusal_in (Err r) = refusal_number r

-- The refusal with a number; any refusal for a number of none.
abbrev pub refusal_of : ℕ → Refusal
refusal_of n =
    cond (eqb n 21) TooShort (cond (eqb n 22) OtherCount (cond (eqb n 23) NoStatement (cond (eqb n 24) Misfit (cond (eqb n 31) NoSlot
    (cond (eqb n 32) NotOpen (cond (eqb n 34) Running (cond (eqb n 35) NotRunning (cond (eqb n 36) NothingThere (cond (eqb n 37) Waiting Circle)))))))))

pub refusal_back : (r : Refusal) → refusal_of (refusal_number r) ≡ r
refusal_back TooShort = refl
refusal_back OtherCount = refl
refusal_back NoStatement = refl
refusal_back Misfit = refl
refusal_back NoSlot = refl
refusal_back NotOpen = refl
refusal_back Running = refl
refusal_back NotRunning = refl
refusal_back NothingThere = refl
refusal_back Waiting = refl
refusal_back Circle = refl
