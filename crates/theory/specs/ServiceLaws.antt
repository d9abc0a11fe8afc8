-- 01's messages, locks and undo notes satisfy the laws of a service, for every library and every lawful resolution.
use Rattle.model.specs.Library.{Library, Resolution}
use Rattle.model.specs.Vector.{Program, program_by, program}
use Rattle.model.specs.Machine.{service}
use Rattle.twophase.specs.Laws.{Laws}
use Rattle.vector_theory.specs.Lawful.{Lawful}
use Rattle.vector_theory.specs.VectorLaws.{Compiled, program_by_compiled, program_compiled}
use Rattle.theory.specs.Footprint.{May, Agree, Aside}
use Rattle.theory.specs.Coverage.{Of, of_begun}
use Rattle.theory.specs.ReadsOnly.{turn_local}
use Rattle.theory.specs.SetsOnly.{of_turn, may_goes, may_ends}
use Rattle.theory.specs.Locality.{agree_refl, agree_sym, agree_trans, agree_act, free_commute, free_agree}
use Rattle.theory.specs.LockLaws.{locks_of, meets_free, locks_sym, clash_none, clash_append, held_meets}
use Rattle.laws.specs.PutBack.{back_clean}
use Rattle.theory.specs.UndoLaws.{back_noted, noted_local, aside_clean, aside_noted, aside_back}
use Rattle.theory.specs.Alone.{alone_end}

-- The laws, for a program whose vectors are those of its library.
unfoldable pub laws : (p : Program) → Compiled p → Laws (service p)
laws p right = record {
  Ok = λ fields. Unit {0};
  Of = Of p;
  May = May p;
  Agree = Agree p;
  Aside = Aside;
  agree_refl = agree_refl p;
  agree_sym = agree_sym p;
  agree_trans = agree_trans p;
  agree_act = agree_act p;
  of_begun = of_begun p;
  of_turn = λ m r r' e fields ok. of_turn p right m r r' e fields;
  may_goes = λ m r r' e fields ok. may_goes p right m r r' e fields;
  may_ends = λ m r v e fields ok. may_ends p right m r v e fields;
  turn_local = turn_local p right;
  ok_act = λ m e fields ok may. tt;
  free_commute = λ m n d e fields f. free_commute p m n d e fields (meets_free p m n f);
  free_agree = λ m n e fields f. free_agree p m n e fields (meets_free p m n f);
  meets_sym = λ m n. locks_sym p (locks_of p m) (locks_of p n);
  clash_none = λ m. clash_none p (locks_of p m);
  clash_lock = λ m n held. clash_append p (locks_of p m) (locks_of p n) held;
  holds_meets = λ m n held. held_meets p (locks_of p m) (locks_of p n) held;
  back_clean = back_clean;
  back_noted = λ m u e fields ok may. back_noted u e fields;
  noted_local = noted_local p;
  aside_clean = aside_clean;
  aside_noted = λ m n u d e fields f. aside_noted p m n u d e fields (meets_free p m n f);
  aside_back = aside_back;
  alone_end = alone_end p;
}

-- The laws, for the program of a library by any lawful resolution, and so by 01's.
pub laws_by : (l : Library) (resolve : Resolution) → Lawful l resolve → Laws (service (program_by l resolve))
laws_by l resolve lawful = laws (program_by l resolve) (program_by_compiled l resolve lawful)

pub program_laws : (l : Library) → Laws (service (program l))
program_laws l = laws (program l) (program_compiled l)
