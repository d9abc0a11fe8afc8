-- Rows of joined members (01, "each parent's fields in written order, one already present skipped"), and a row of the tables that
-- becomes such a row, or has no room for it.
use Rattle.std.specs.Prelude.{ℕ, ◌+◌, ◌≤◌, ◌<◌, ◌≡◌, Bool, true, false, length, ltb}
use Rattle.std.proofs.Math.Path.{refl, ap}
use Rattle.std.proofs.Common.{sym, ◌∙◌, length-append, ltb-true, lt-ltb, le-ltb}
use Rattle.std.proofs.Math.Bool.{cond}
use Rattle.std.proofs.lemmas.Bool.{false≢true}
use mathlib.Core.List.{List, [], ◌∷◌, ◌++◌}
use native.Mathlib.Omega.{arith}
use Rattle.layout.specs.Layout.{table_words}
use Rattle.model.specs.Base.{fold, upto}
use Rattle.model.specs.Word.{Name}
use Rattle.model.specs.Library.{Member, Library, among, class_at, class_name, joined}
use Rattle.catalog.specs.View.{class_count, member_count, member_in, members_of, library_of}
use Rattle.laws.specs.Upto.{upto_more}
use Rattle.catalog.specs.Frames.{Kept, kept_refl, kept_then}
use Rattle.catalog.specs.Look.{part, member_count_law}

-- Row p of class c becomes l, or l is too long for it.
pub record Joined (text ws : List ℕ) (c p : ℕ) (l : List Member) (over : Bool) (ws' : List ℕ) : Type 0 where
  pub kept : Kept ws c p ws'
  pub many : over ≡ ltb 32 (length l)
  pub made : over ≡ false → members_of text ws' c p ≡ l

-- There is room for row p of class c.
pub record Room (ws : List ℕ) (c p : ℕ) : Type 0 where
  pub class : c < 16
  pub kind : p < 2
  pub words : length ws ≡ table_words

-- Class c is being made: it has room, and is not counted yet.
pub record Making (ws : List ℕ) (c p : ℕ) : Type 0 where
  pub room : Room ws c p
  pub uncounted : class_count ws ≡ c

-- The members of a class that has those of `done` and then inherits from the parents.
unfoldable pub inherited_behind : ℕ → Library → List Member → List Name → List Member
unfolding fold joined class_name
inherited_behind p l done ps = fold (λ ms n. joined ms (part p (class_name l n))) done ps

-- The results of the four functions that join: appending a member, joining one, joining all of a class, joining all of its parents.
module _ (text ws : List ℕ) (c p : ℕ) where
  abbrev pub Appended : ℕ → ℕ → Bool → List ℕ → Type 0
  Appended w b over ws' = Joined text ws c p (members_of text ws c p ++ (member_in text w b ∷ [])) over ws'

  abbrev pub MemberJoined : ℕ → ℕ → Bool → List ℕ → Type 0
  MemberJoined w b over ws' = Joined text ws c p (joined (members_of text ws c p) (member_in text w b ∷ [])) over ws'

  abbrev pub ClassJoined : ℕ → Bool → List ℕ → Type 0
  ClassJoined d over ws' = Joined text ws c p (joined (members_of text ws c p) (part p (class_at (library_of text ws) d))) over ws'

  abbrev pub ParentsJoined : List Name → Bool → List ℕ → Type 0
  ParentsJoined ps over ws' = Joined text ws c p (inherited_behind p (library_of text ws) (members_of text ws c p) ps) over ws'

-- ---- lists

module _ {A B : Type 0} (f : B → A → B) where
  fold_append : (b : B) (xs ys : List A) → fold f b (xs ++ ys) ≡ fold f (fold f b xs) ys
  unfolding fold
  fold_append b [] ys = refl
  fold_append b (x ∷ xs) ys = fold_append (f b x) xs ys

module _ {A : Type 0} (f : List Member → A → List Member) (h : (ms : List Member) (x : A) → length ms ≤ length (f ms x)) where
  fold_grows : (ms : List Member) (xs : List A) → length ms ≤ length (fold f ms xs)
  unfolding fold
  fold_grows ms [] = omega arith
  fold_grows ms (x ∷ xs) = omega (arith, h ms x, fold_grows (f ms x) xs)

module _ (ms : List Member) (m : Member) where
  pub joined_present : among ms m.name ≡ true → joined ms (m ∷ []) ≡ ms
  unfolding joined fold
  joined_present e = ap (λ (t : Bool). cond t ms (ms ++ (m ∷ []))) e

  pub joined_new : among ms m.name ≡ false → joined ms (m ∷ []) ≡ ms ++ (m ∷ [])
  unfolding joined fold
  joined_new e = ap (λ (t : Bool). cond t ms (ms ++ (m ∷ []))) e

  one_grows : (t : Bool) → length ms ≤ length (cond t ms (ms ++ (m ∷ [])))
  one_grows true = omega arith
  one_grows false = omega (arith, length-append ms (m ∷ []))

pub joined_grows : (ms ns : List Member) → length ms ≤ length (joined ms ns)
unfolding joined
joined_grows ms ns = fold_grows (λ done m. cond (among done m.name) done (done ++ (m ∷ []))) (λ done m. one_grows done m (among done m.name)) ms ns

-- One more member is joined.
pub joined_more : (ms : List Member) (f : ℕ → Member) (j : ℕ) → joined ms (upto f (j + 1)) ≡ joined (joined ms (upto f j)) (f j ∷ [])
unfolding joined
joined_more ms f j =
    ap (joined ms) (upto_more f j) ∙ fold_append (λ done m. cond (among done m.name) done (done ++ (m ∷ []))) ms (upto f j) (f j ∷ [])

pub behind_grows : (p : ℕ) (l : Library) (ms : List Member) (ps : List Name) → length ms ≤ length (inherited_behind p l ms ps)
unfolding inherited_behind
behind_grows p l ms ps = fold_grows (λ done n. joined done (part p (class_name l n))) (λ done n. joined_grows done (part p (class_name l n))) ms ps

-- ---- a row that becomes such a list

module _ {text ws : List ℕ} {c p : ℕ} {l : List Member} {over : Bool} {ws' : List ℕ} where
  -- From an earlier state of the tables, and for an equal list.
  pub joined_from : {ws₀ : List ℕ} {k : List Member} → Kept ws₀ c p ws → l ≡ k → Joined text ws c p l over ws' → Joined text ws₀ c p k over ws'
  joined_from k e t = record {
    kept = kept_then k t.kept;
    many = t.many ∙ ap (λ (m : List Member). ltb 32 (length m)) e;
    made = λ z. t.made z ∙ e;
  }

  -- A row that is too long already is too long in the end.
  pub joined_over : (k : List Member) → over ≡ true → length l ≤ length k → Joined text ws c p l over ws' → Joined text ws c p k true ws'
  joined_over k e g t =
      let n = ltb-true 32 (length l) (sym t.many ∙ e) in
      record { kept = t.kept; many = sym (lt-ltb 32 (length k) (omega arith)); made = λ z. absurd (false≢true (sym z)) }

-- The row is already as required.
pub joined_done : (text ws : List ℕ) (c p : ℕ) (l : List Member) → members_of text ws c p ≡ l → Joined text ws c p l false ws
unfolding member_count
joined_done text ws c p l e = record {
  kept = kept_refl ws c p;
  many = sym (le-ltb 32 (length l) (omega (arith, ap length e, member_count_law text ws c p)));
  made = λ z. e;
}
