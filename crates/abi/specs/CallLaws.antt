-- From what the machine's entries ensure to what the C functions return; and that no refusal is returned as anything else.
use Rattle.refusals.specs.declared.Refusal.{Refusal}
use Rattle.std.specs.Prelude.{Err, ℕ, ◌≤◌, ◌≡◌, refl, Bool, true, false, ◌||◌, List, [], ◌∷◌, length, ltb, eqb}
use Rattle.std.proofs.Common.{arith, sym, ap, subst, ◌∙◌, eq-eqb, ne_eqb, le-ltb, eqb-true}
use Rattle.std.proofs.lemmas.Bool.{false≢true}
use Rattle.layout.specs.Layout.{state_words}
use Rattle.model.specs.Told.{Told}
use Rattle.model.specs.Service.{call_number, call_detail}
use Rattle.model.specs.Machine.{Call, send, to, Target, object, class, domain, start_answer, step, commit, abort}
use Rattle.catalog.specs.View.{object_count}
use Rattle.machine_words.specs.Calls.{Lent, tables_of, refused, sent_by}
use Rattle.machine_words.specs.Said.{CallResult, told}
use Rattle.cishmolaq.specs.Answers.{Done, StartLeaves, Begins}
use Rattle.cishmolaq.specs.Keeps.{refusals_of, others_of, is_among, Among, Numbered}
use Rattle.cishmolaq.specs.Promises.{Does}
use Rattle.abi.specs.Calls.{target_of, Called}
use Rattle.laws.specs.Basics.{All}

-- ---- start

-- What is left is what the returned answer leaves.
pub start_leaves : {x y : Lent} {r : Done} → Begins x r y → StartLeaves x (start_answer state_words x.text (length x.values) (length x.words)) y
start_leaves {x} {y} h = subst (λ (t : Told). StartLeaves x t y) h.says h.leaves

-- ---- a call

-- The outcome of an entry, as it is returned.
pub tells_call : {x y : Lent} {c : Call} {outcome : CallResult} {r detail : ℕ} → Does x c outcome y
    → r ≡ call_number (told outcome) → detail ≡ call_detail (told outcome) → Called x c r detail y
tells_call {outcome = outcome} h n d = record { outcome = outcome; does = h; number = n; beside = d }

-- ---- a target by its kind

-- A send to a target is a send to the target that a kind and a number name.
pub sent_to : {x y : Lent} {s k a : ℕ} {t u : Target} {r : CallResult} → Does x (send s (to t k a)) r y → t ≡ u → Does x (send s (to u k a)) r y
sent_to {x} {y} {s} {k} {a} {r = r} h e = subst (λ (t : Target). Does x (send s (to t k a)) r y) e h

module _ (kind n : ℕ) where
  pub to_object : kind ≡ 0 → object n ≡ target_of kind n
  to_object e = rw (eq-eqb kind 0 e) refl

  pub to_class : (kind ≡ 0 → ⊥) → kind ≡ 1 → class n ≡ target_of kind n
  to_class a e = rw (ne_eqb kind 0 a, eq-eqb kind 1 e) refl

  pub to_domain : (kind ≡ 0 → ⊥) → (kind ≡ 1 → ⊥) → kind ≡ 2 → domain n ≡ target_of kind n
  to_domain a b e = rw (ne_eqb kind 0 a, ne_eqb kind 1 b, eq-eqb kind 2 e) refl

  pub to_none : (kind ≡ 0 → ⊥) → (kind ≡ 1 → ⊥) → (kind ≡ 2 → ⊥) → object 64 ≡ target_of kind n
  to_none a b d = rw (ne_eqb kind 0 a, ne_eqb kind 1 b, ne_eqb kind 2 d) refl

  -- A send of any other kind answers 36 where a send to an object is granted, or answers 40 or 36, whatever is lent.
  pub another_kind : (x : Lent) (s k a : ℕ) → 3 ≤ kind → sent_by x s (to (target_of kind n) k a) ≡ refused x 36
  another_kind x s k a h =
      let tables = tables_of x.words in
      let few : object_count tables ≤ 64 = omega arith in
      let none_there : ltb 64 (object_count tables) ≡ false = le-ltb 64 (object_count tables) few in
      rw (sym (to_none (λ e. absurd (omega (arith, e, h))) (λ e. absurd (omega (arith, e, h))) (λ e. absurd (omega (arith, e, h)))), none_there) refl

-- ---- numbers

-- A refusal's number is one of the call's refusals ..
pub refused_number : {x y : Lent} {c : Call} {r detail : ℕ} (h : Called x c r detail y) → (e : Refusal) → h.outcome ≡ Err e → Among (refusals_of c) r
refused_number {c = c} h n e =
    subst (Among (refusals_of c)) (sym (h.number ∙ ap (λ (o : CallResult). call_number (told o)) e)) (subst (λ (o : CallResult). Numbered c (told o)) e h.does.number)

-- What holds of every number of a list holds of one that is among them.
among_all : (P : ℕ → Type 0) (n : ℕ) (ns : List ℕ) → All P ns → Among ns n → P n
among_all P n [] all e = absurd (false≢true e)
among_all P n (m ∷ ms) all e = go (among_all P n ms all.1) (eqb n m) refl e
  where
    go : (Among ms n → P n) → (b : Bool) → eqb n m ≡ b → (b || is_among ms n) ≡ true → P n
    go rest true q f = subst P (sym (eqb-true n m q)) all.0
    go rest false q f = rest f

-- .. and none of the numbers of its other answers, so the number alone tells what the call answered.
pub refused_apart : (c : Call) (n : ℕ) → Among (refusals_of c) n → is_among (others_of c) n ≡ false
refused_apart (send s q) n = among_all (λ m. is_among (others_of (send s q)) m ≡ false) n (refusals_of (send s q)) (refl, (refl, (refl, (refl, (refl, (refl, (refl, tt)))))))
refused_apart (step s) n = among_all (λ m. is_among (others_of (step s)) m ≡ false) n (refusals_of (step s)) (refl, (refl, (refl, (refl, (refl, (refl, tt))))))
refused_apart (commit s) n = among_all (λ m. is_among (others_of (commit s)) m ≡ false) n (refusals_of (commit s)) (refl, (refl, (refl, (refl, (refl, (refl, tt))))))
refused_apart (abort s) n = among_all (λ m. is_among (others_of (abort s)) m ≡ false) n (refusals_of (abort s)) (refl, (refl, (refl, (refl, tt))))
