-- Names of a call line looked up in the lent words.
use Rattle.std.specs.Prelude.{ℕ, ◌≤◌, ◌<◌, ◌≡◌, refl, true, false, List, map, length, get_or, Result}
use Rattle.std.proofs.Common.{arith, sym, ◌∙◌}
use Rattle.std.proofs.Math.Path.{ap, subst}
use Rattle.std.proofs.Math.Option.{none, some}
use Rattle.std.proofs.Math.ListN.{get_or-eq_default}
use Rattle.layout.specs.Layout.{object_class_at}
use Rattle.model.specs.Base.{bytes, same, first_at, upto}
use Rattle.model.specs.Word.{Name}
use Rattle.model.specs.Library.{Library, Class, Object, class_at, class_number, member_place}
use Rattle.model.specs.Machine.{object, class, domain, to, send}
use Rattle.model.specs.Rehearsal.{Aim, at_object, at_class, at_domain, send_line, send_form, class_of_number, request_for, call_for}
use Rattle.laws.specs.Upto.{length_upto, get_d_upto}
use Rattle.catalog.specs.View.{class_count, object_count, object_word, members_of, class_of, object_of, library_of}
use Rattle.catalog.specs.Look.{class_at_law, class_past, class_count_law}
use Rattle.machine_words.specs.Calls.{Lent, tables_of, called}
use Rattle.machine_words.specs.declared.Outcome.{Outcome}
use Rattle.machine_words.specs.declared.Target.{Target}
use Rattle.machine_words.specs.Said.{aimed}
use Rattle.refusals.specs.declared.Refusal.{Refusal}
use Rattle.machine_checks.specs.Told.{Leaves}
use Rattle.output.specs.Each.{map_upto}
use Rattle.call_lines.specs.declared.name.Receiver.{Receiver}
use Rattle.call_lines.specs.Lent.{lent_library}
use Rattle.call_lines.specs.Forms.{send_object, send_class, send_domain}

-- The place of a class's method of that name; the number of its methods where there is none, 0 where there is no such class.
abbrev pub method_named : List ℕ → List ℕ → ℕ → Name → ℕ
method_named text ws c n = member_place (class_at (lent_library text ws) c).methods n

abbrev pub object_named : List ℕ → List ℕ → Name → ℕ
object_named text ws n = first_at (λ x. same x.name n) (lent_library text ws).objects

module _ (text ws : List ℕ) where
  pub method_there : (c : ℕ) (n : Name) → c < class_count (tables_of ws) → member_place (members_of text (tables_of ws) c 1) n ≡ method_named text ws c n
  unfolding class_of
  method_there c n h = ap (λ (k : Class). member_place k.methods n) (sym (class_at_law text (tables_of ws) c h))

  pub method_nowhere : (c : ℕ) (n : Name) → class_count (tables_of ws) ≤ c → 0 ≡ method_named text ws c n
  unfolding member_place first_at
  method_nowhere c n h = ap (λ (k : Class). member_place k.methods n) (sym (class_past text (tables_of ws) c h))

  classes_are : map (λ x. x.class) (lent_library text ws).objects ≡ upto (λ o. object_word (tables_of ws) o object_class_at) (object_count (tables_of ws))
  unfolding library_of object_of
  classes_are = map_upto (λ (x : Object). x.class) (object_of text (tables_of ws)) (object_count (tables_of ws))

  pub class_there : (o : ℕ) → o < object_count (tables_of ws) → object_word (tables_of ws) o object_class_at ≡ class_of_number (lent_library text ws) o
  class_there o h =
      sym (ap (λ (l : List ℕ). get_or l o (length (lent_library text ws).classes)) classes_are
      ∙ get_d_upto (λ k. object_word (tables_of ws) k object_class_at) (object_count (tables_of ws)) o (length (lent_library text ws).classes) h)

  pub class_nowhere : (o : ℕ) → object_count (tables_of ws) ≤ o → class_count (tables_of ws) ≡ class_of_number (lent_library text ws) o
  class_nowhere o h =
      let known = upto (λ k. object_word (tables_of ws) k object_class_at) (object_count (tables_of ws)) in
      let past = length (lent_library text ws).classes in
      sym (ap (λ (l : List ℕ). get_or l o past) classes_are
      ∙ get_or-eq_default known past (omega (arith, length_upto (λ k. object_word (tables_of ws) k object_class_at) (object_count (tables_of ws))))
      ∙ class_count_law text (tables_of ws))

-- No send has the keyword.
abbrev pub NoForm : List ℕ → Name → Type 0
NoForm k n = (s : ℕ) (m : Name) (a : ℕ) → send_form k s n m a ≡ none

-- Whom a send is to, and the class whose methods it has, by the numbers that its name was looked up by.
abbrev pub Named : List ℕ → List ℕ → Aim → Target → ℕ → Type 0
Named text ws (at_object n) (Target.Object o) c = (o ≡ object_named text ws n) × (c ≡ class_of_number (lent_library text ws) o)
Named text ws (at_class n) (Target.Class d) c = (d ≡ class_number (lent_library text ws) n) × (c ≡ d)
Named text ws (at_domain n) (Target.Domain d) c = (d ≡ class_number (lent_library text ws) n) × (c ≡ d)
Named text ws _ _ c = ⊥

-- The keyword is that of a send, and whom it names there is the receiver.
pub record Finds (text ws k : List ℕ) (n : Name) (r : Receiver) : Type 0 where
  pub aim : Aim
  pub form : (s : ℕ) (m : Name) (a : ℕ) → send_form k s n m a ≡ some (send_line s aim m a)
  pub named : Named text ws aim r.target r.class

module _ (text ws k : List ℕ) (n : Name) where
  pub finds_object : (o c : ℕ) → same k (bytes "send") ≡ true → o ≡ object_named text ws n → c ≡ class_of_number (lent_library text ws) o
      → Finds text ws k n (record { target = Target.Object o; class = c })
  finds_object o c t e f = record { aim = at_object n; form = λ s m a. send_object k s n m a t; named = (e, f) }

  module _ (x : same k (bytes "send") ≡ false) (c : ℕ) (e : c ≡ class_number (lent_library text ws) n) where
    pub finds_class : same k (bytes "all") ≡ true → Finds text ws k n (record { target = Target.Class c; class = c })
    finds_class t = record { aim = at_class n; form = λ s m a. send_class k s n m a x t; named = (e, refl) }

    pub finds_domain : same k (bytes "all") ≡ false → same k (bytes "tree") ≡ true → Finds text ws k n (record { target = Target.Domain c; class = c })
    finds_domain y t = record { aim = at_domain n; form = λ s m a. send_domain k s n m a x y t; named = (e, refl) }

-- The call of a line whose names were looked up one by one.
module _ (x : Lent) (s : ℕ) (n m : Name) (a : ℕ) where
  abbrev library : Library
  library = lent_library x.text x.words

  abbrev place : ℕ → ℕ
  place c = method_named x.text x.words c m

  module _ {k : ℕ} {r : Result Outcome Refusal} {y : Lent} where
    pub leaves_object : {o c : ℕ} → o ≡ object_named x.text x.words n → c ≡ class_of_number library o → k ≡ place c
        → Leaves (called x (send s (to (object o) k a))) r y → Leaves (called x (call_for library (send_line s (at_object n) m a))) r y
    unfolding request_for
    leaves_object {o} e f g h =
        subst (λ (d : ℕ). Leaves (called x (send s (to (object d) (place (class_of_number library d)) a))) r y) e
        (subst (λ (d : ℕ). Leaves (called x (send s (to (object o) (place d) a))) r y) f
        (subst (λ (j : ℕ). Leaves (called x (send s (to (object o) j a))) r y) g h))

    module _ {c : ℕ} (e : c ≡ class_number library n) (g : k ≡ place c) where
      pub leaves_class : Leaves (called x (send s (to (class c) k a))) r y → Leaves (called x (call_for library (send_line s (at_class n) m a))) r y
      unfolding request_for
      leaves_class h =
          subst (λ (d : ℕ). Leaves (called x (send s (to (class d) (place d) a))) r y) e
          (subst (λ (j : ℕ). Leaves (called x (send s (to (class c) j a))) r y) g h)

      pub leaves_domain : Leaves (called x (send s (to (domain c) k a))) r y → Leaves (called x (call_for library (send_line s (at_domain n) m a))) r y
      unfolding request_for
      leaves_domain h =
          subst (λ (d : ℕ). Leaves (called x (send s (to (domain d) (place d) a))) r y) e
          (subst (λ (j : ℕ). Leaves (called x (send s (to (domain c) j a))) r y) g h)

-- The call of a line, made on the receiver.
pub leaves_found : (x : Lent) (k : List ℕ) (s : ℕ) (n m : Name) (a j : ℕ) {v : Receiver} {r : Result Outcome Refusal} {y : Lent}
    → (f : Finds x.text x.words k n v) → j ≡ method_named x.text x.words v.class m
    → Leaves (called x (send s (to (aimed v.target) j a))) r y → Leaves (called x (call_for (lent_library x.text x.words) (send_line s f.aim m a))) r y
leaves_found x k s n m a j {v} {r} {y} f e h = go f.aim v.target f.named h
  where
    go : (i : Aim) (t : Target) → Named x.text x.words i t v.class → Leaves (called x (send s (to (aimed t) j a))) r y
        → Leaves (called x (call_for (lent_library x.text x.words) (send_line s i m a))) r y
    go (at_object q) (Target.Object o) d = leaves_object x s q m a d.0 d.1 e
    go (at_class q) (Target.Class c) d = leaves_class x s q m a d.0 (e ∙ ap (λ (z : ℕ). method_named x.text x.words z m) d.1)
    go (at_domain q) (Target.Domain c) d = leaves_domain x s q m a d.0 (e ∙ ap (λ (z : ℕ). method_named x.text x.words z m) d.1)
    go (at_object q) (Target.Class c) d = elim d [ ]
    go (at_object q) (Target.Domain c) d = elim d [ ]
    go (at_class q) (Target.Object o) d = elim d [ ]
    go (at_class q) (Target.Domain c) d = elim d [ ]
    go (at_domain q) (Target.Object o) d = elim d [ ]
    go (at_domain q) (Target.Class c) d = elim d [ ]
