-- The library being read, its last class counted with the methods that the lines below still define in it. Counted this way, no
-- class loses anything by a line.
use Rattle.std.specs.Prelude.{ℕ, pred, ◌≡◌, Bool, true, false, ◌||◌, length}
use Rattle.std.proofs.Math.Path.{refl, sym, subst}
use Rattle.std.proofs.Common.{ap, ◌∙◌}
use Rattle.std.proofs.Math.Bool.{or-true, or-false as or_nothing, or_assoc, or_comm}
use Rattle.std.proofs.lemmas.Bool.{false≢true}
use mathlib.Core.List.{List, [], ◌∷◌, ◌++◌, map}
use Rattle.model.specs.Base.{same, any, alter}
use Rattle.model.specs.Word.{Name}
use Rattle.model.specs.Form.{Form, class_line, field_line, method_line, statement_line, end_line, object_line, malformed, Line}
use Rattle.model.specs.Library.{Member, Class, Library, among, last_number, new_class, with_field, with_method, with_statement, add}
use Rattle.model.specs.Fault.{later_by}
use Rattle.laws.specs.Lists.{same_comm, alter_length, alter_twice, alter_none}
use Rattle.text_theory.specs.Accepted.{among_append}
use Rattle.text_theory.specs.Heirs.{Wider, wider_same, Grown, grown_same, grown_over, grown_more, Over, grown_alter, field_wider, method_among, statement_wider}

-- ---- methods that a class has yet to define

-- A method by its name alone.
abbrev unwritten : Name → Member
unwritten n = record { origin = 0; name = n; first = 0; count = 0 }

-- The class with methods of these names added to its own.
abbrev pub with_methods : List Name → Class → Class
with_methods ns k =
    record {
      name = k.name;
      ancestors = k.ancestors;
      fields = k.fields;
      methods = k.methods ++ map unwritten ns;
      latest = k.latest;
    }

-- The classes, the last one with the methods that it has yet to define.
abbrev pub ahead : List Name → List Class → List Class
ahead ns cs = alter (pred (length cs)) (with_methods ns) cs

-- The library with those classes.
abbrev pub awaiting : List Name → Library → Library
awaiting ns l = record { classes = ahead ns l.classes; statements = l.statements; objects = l.objects }

only_names : (ns : List Name) (x : Name) → among (map unwritten ns) x ≡ any (same x) ns
unfolding among any
only_names [] x = refl
only_names (n ∷ ns) x = rw (same_comm n x) (ap (λ (b : Bool). same x n || b) (only_names ns x))

-- A name is then among the class's methods, or is one of those yet to be defined.
pub with_among : (ns : List Name) (k : Class) (x : Name) → among (with_methods ns k).methods x ≡ (among k.methods x || any (same x) ns)
with_among ns k x =
    among_append k.methods (map unwritten ns) x ∙ ap (λ (b : Bool). among k.methods x || b) (only_names ns x)

or_still : (a b c d : Bool) → (a ≡ true → c ≡ true) → (b ≡ true → d ≡ true) → (a || b) ≡ true → (c || d) ≡ true
or_still true b c d f g e = rw (f refl)
or_still false b c d f g e = rw (g e) (or-true c)

-- Adding methods preserves `Wider`: a wider class with at least the same methods added is wider.
with_wider : (ns os : List Name) → ((x : Name) → any (same x) ns ≡ true → any (same x) os ≡ true) → (h k : Class) → Wider h k
    → Wider (with_methods ns h) (with_methods os k)
with_wider ns os more h k w =
    record {
      fields = w.fields;
      methods = λ x e.
          with_among os k x
          ∙ or_still (among h.methods x) (any (same x) ns) (among k.methods x) (any (same x) os) (w.methods x) (more x) (sym (with_among ns h x) ∙ e);
      ancestors = w.ancestors;
    }

pub with_more : (ns : List Name) (k : Class) → Wider k (with_methods ns k)
with_more ns k = record { fields = λ x e. e; methods = λ x e. with_among ns k x ∙ rw e; ancestors = λ d e. e }

-- ---- one more line

module _ (cs : List Class) where
  -- Counting the methods yet to be defined takes nothing from a class.
  pub grown_ahead : (ns : List Name) → Grown cs (ahead ns cs)
  grown_ahead ns =
      subst (λ (ds : List Class). Grown ds (ahead ns cs)) (alter_none (pred (length cs)) cs)
      (grown_alter (λ k. k) (with_methods ns) (λ k. (refl, with_more ns k)) (pred (length cs)) cs)

  -- With no method yet to be defined, it adds nothing.
  pub grown_ended : Grown (ahead [] cs) cs
  unfolding any
  grown_ended =
      subst (Grown (ahead [] cs)) (alter_none (pred (length cs)) cs)
      (grown_alter (with_methods []) (λ k. k)
      (λ k. (
        refl,
        record { fields = λ x e. e; methods = λ x e. sym (or_nothing (among k.methods x)) ∙ sym (with_among [] k x) ∙ e; ancestors = λ d e. e },
      )) (pred (length cs)) cs)

  -- Altering the last class, with the methods yet to be defined counted before and after.
  grown_last : (ns os : List Name) (f : Class → Class) → Over (with_methods ns) (λ k. with_methods os (f k))
      → Grown (ahead ns cs) (ahead os (alter (pred (length cs)) f cs))
  grown_last ns os f o =
      let n = pred (length cs) in
      subst (λ (j : ℕ). Grown (ahead ns cs) (alter (pred j) (with_methods os) (alter n f cs))) (sym (alter_length n f cs))
      (subst (Grown (ahead ns cs)) (sym (alter_twice n f (with_methods os) cs)) (grown_alter (with_methods ns) (λ k. with_methods os (f k)) o n cs))

-- Defining a method moves it from those yet to be defined to the class's own: the class has it, so counted, before and after.
method_over : (ns : List Name) (c : ℕ) (n : Name) (first : ℕ) → Over (with_methods (n ∷ ns)) (λ k. with_methods ns (with_method c n first k))
unfolding any with_method
method_over ns c n first k =
    (refl, record { fields = λ x e. e; methods = λ x e. names x ∙ e; ancestors = λ d e. e })
  where
    names : (x : Name) → among (with_methods ns (with_method c n first k)).methods x ≡ among (with_methods (n ∷ ns) k).methods x
    names x =
        with_among ns (with_method c n first k) x
        ∙ ap (λ (b : Bool). b || any (same x) ns) (method_among c n first k x ∙ or_comm (same n x) (among k.methods x) ∙ ap (λ (b : Bool). among k.methods x || b) (same_comm n x))
        ∙ or_assoc (among k.methods x) (same x n) (any (same x) ns)
        ∙ sym (with_among (n ∷ ns) k x)

-- A line takes from no class anything that it has or has yet to define.
pub add_grown : (l : Library) (line : Line) (f : Form) (ns : List Name) → Grown (ahead (later_by f ns) l.classes) (ahead ns (add l line f).classes)
unfolding add any with_field with_statement
add_grown l line (class_line n ps) ns =
    let cs = l.classes in
    let ds = cs ++ (new_class l n ps ∷ []) in
    grown_over (ahead [] cs) cs (ahead ns ds) (grown_ended cs) (grown_over cs ds (ahead ns ds) (grown_more cs (new_class l n ps ∷ [])) (grown_ahead ds ns))
add_grown l line (field_line n) ns =
    let c = last_number l in
    grown_last l.classes ns ns (with_field c n) (λ k. (refl, with_wider ns ns (λ x e. e) k (with_field c n k) (field_wider c n k)))
add_grown l line (method_line n) ns = grown_last l.classes (n ∷ ns) ns (with_method (last_number l) n (length l.statements)) (method_over ns (last_number l) n (length l.statements))
add_grown l line (statement_line s) ns = grown_last l.classes ns ns with_statement (λ k. (refl, with_wider ns ns (λ x e. e) k (with_statement k) (statement_wider k)))
add_grown l line end_line ns = grown_same (ahead ns l.classes)
add_grown l line (object_line n c vs) ns =
    grown_alter (with_methods []) (with_methods ns) (λ k. (refl, with_wider [] ns (λ x e. absurd (false≢true e)) k k (wider_same k))) (last_number l) l.classes
add_grown l line malformed ns = grown_same (ahead ns l.classes)
