-- The library that the tables represent once a statement is counted in its method, a statement's place is stored, or an object is
-- added.
use Prim.Native.Nat.{ℕ, zero, suc, pred, min, ◌+◌, ◌-◌, ◌*◌, ◌/◌, ◌%◌, ◌≤◌, ◌<◌}
use Rattle.std.specs.Prelude.{◌≡◌, ◌≢◌, Bool, get_or, set, take, drop, leb}
use Rattle.std.proofs.Math.Path.{refl, sym, ap}
use Rattle.std.proofs.Common.{ap₂, ◌∙◌, length-set, ltb-true, lt-ltb, le-leb}
use Rattle.std.proofs.Math.Bool.{true, false, cond}
use mathlib.Core.List.{List, [], ◌∷◌, ◌++◌}
use native.Mathlib.Omega.{arith}
use Rattle.std.proofs.Math.ListN.{length, get_or-eq_default}
use Rattle.std.proofs.Math.Seq.{get_or-set_same, get_or-set_other}
use Rattle.std.proofs.Math.Dec.{ltb}
use Rattle.std.proofs.lemmas.Bool.{lt-leb}
use Rattle.layout.specs.Layout.{members_most, statements_most, statement_count_at, object_count_at, member_counts_at, latest_at, names_at, bodies_at, kind_words, object_words, objects_at, statements_at, table_words}
use Rattle.model.specs.Base.{alter}
use Rattle.model.specs.Text.{words}
use Rattle.model.specs.Form.{Statement, statement_line, form_of}
use Rattle.model.specs.Library.{Member, Class, Placed, Object, Library, no_member, one_more, with_statement, class_at, last_number, last_class, alter_last}
use Rattle.model.specs.Fault.{statements_so_far}
use Rattle.catalog.specs.View.{name_of, part_of, statement_in, numbers_in, class_word, object_word, statement_word, class_count, statement_count, object_count, member_count}
use Rattle.catalog.specs.View.{member_in, member_at, members_of, class_of, placed_of, object_of, library_of}
use Rattle.laws.specs.Bits.{bit}
use Rattle.laws.specs.Upto.{length_upto, alter_out}
use Rattle.catalog.specs.Names.{part_word, part_word_part}
use Rattle.catalog.specs.Store.{classes_same, statements_same, statements_added, objects_same, objects_added}
use Rattle.catalog.specs.Rows.{with_member, members_altered}
use Rattle.catalog.specs.Frames.{Kept, kept_member, kept_word, kept_fields, around_altered}
use Rattle.catalog.specs.Look.{shown_count, class_count_law, class_at_law, shown_members, member_at_law, shown_class}

module _ {A : Type 0} where
  alter_same : (n : ℕ) (g : A → A) (l : List A) (d : A) → g (get_or l n d) ≡ get_or l n d → alter n g l ≡ l
  unfolding alter
  alter_same n g [] d h = refl
  alter_same zero g (x ∷ l) d h = ap (λ (y : A). y ∷ l) h
  alter_same (suc n) g (x ∷ l) d h = ap (λ (m : List A). x ∷ m) (alter_same n g l d h)

  -- An element replaced by the value of a function at it.
  alter_by : (n : ℕ) (g : A → A) (l : List A) (d x : A) → get_or l n d ≡ x → alter n (λ y. g x) l ≡ alter n g l
  unfolding alter
  alter_by n g [] d x h = refl
  alter_by zero g (y ∷ l) d x h = ap (λ (z : A). g z ∷ l) (sym h)
  alter_by (suc n) g (y ∷ l) d x h = ap (λ (m : List A). y ∷ m) (alter_by n g l d x h)

-- A library with one more statement in the method being read, with a statement's place, with an object.
abbrev pub counted : Library → Library
counted l = record { classes = alter_last with_statement l; statements = l.statements; objects = l.objects }

abbrev pub with_placed : Library → Placed → Library
with_placed l p = record { classes = l.classes; statements = l.statements ++ (p ∷ []); objects = l.objects }

abbrev pub with_object : Library → Object → Library
with_object l o = record { classes = l.classes; statements = l.statements; objects = l.objects ++ (o ∷ []) }

-- ---- one more statement

-- The statement is counted, or the answer is 17 where the method already has 32.
pub record Counts (text ws : List ℕ) (r : ℕ) (ws' : List ℕ) : Type 0 where
  pub number : r ≡ cond (leb 32 (statements_so_far (last_class (library_of text ws)))) 17 0
  pub known : r ≡ 0 → library_of text ws' ≡ counted (library_of text ws)

-- The class being read.
abbrev pub last_of : List ℕ → ℕ
last_of ws = class_count ws - 1

module _ (text ws : List ℕ) where
  pub last_number_law : last_number (library_of text ws) ≡ last_of ws
  last_number_law = before (length (library_of text ws).classes) ∙ ap (λ (n : ℕ). n - 1) (class_count_law text ws)
    where
      before : (n : ℕ) → pred n ≡ n - 1
      before zero = refl
      before (suc n) = omega arith

  pub last_class_law : last_class (library_of text ws) ≡ class_at (library_of text ws) (last_of ws)
  last_class_law = ap (class_at (library_of text ws)) last_number_law

-- The class k is the one being read, and m the place of its latest method.
module _ (text ws : List ℕ) (k m : ℕ) (h : k ≡ last_of ws) (e : m ≡ class_word ws k latest_at) where
  read_class : last_class (library_of text ws) ≡ class_at (library_of text ws) k
  read_class = last_class_law text ws ∙ ap (class_at (library_of text ws)) (sym h)

  latest_place : k < class_count ws → (last_class (library_of text ws)).latest ≡ m
  unfolding class_of
  latest_place l = ap (λ (c : Class). c.latest) (read_class ∙ class_at_law text ws k l) ∙ sym e

  method_count : length (last_class (library_of text ws)).methods ≡ shown_count ws k 1
  method_count =
      ap (λ (c : Class). length c.methods) read_class
      ∙ ap length (shown_members text ws k 1 (omega arith))
      ∙ length_upto (member_at text ws k 1) (shown_count ws k 1)

  -- No method is being read.
  module _ (n : shown_count ws k 1 ≤ m) where
    past : length (last_class (library_of text ws)).methods ≤ (last_class (library_of text ws)).latest
    unfolding shown_count
    past = go (ltb k (class_count ws)) refl
      where
        go : (t : Bool) → ltb k (class_count ws) ≡ t → length (last_class (library_of text ws)).methods ≤ (last_class (library_of text ws)).latest
        go true t = omega (arith, method_count, latest_place (ltb-true k (class_count ws) t))
        go false t =
            let z : shown_count ws k 1 ≡ 0 = rw t in
            omega (arith, method_count)

    pub counts_none : Counts text ws 0 ws
    unfolding with_statement
    counts_none =
        let l = library_of text ws in
        let c = last_class l in
        let q = alter_out c.latest one_more c.methods past in
        let same_class : with_statement c ≡ c =
        λ i. record { name = c.name; ancestors = c.ancestors; fields = c.fields; methods = q i; latest = c.latest } in
        record {
          number = ap (λ (x : Member). cond (leb 32 x.count) 17 0) (sym (get_or-eq_default c.methods no_member past));
          known = λ z i. record {
            classes = sym (alter_same (last_number l) with_statement l.classes _ same_class) i;
            statements = l.statements;
            objects = l.objects;
          };
        }

  -- The method's words: its name's w and its body's b.
  module _ (n : m < shown_count ws k 1) (w b : ℕ) (f : w ≡ class_word ws k (names_at + (1 * kind_words + m))) (g : b ≡ class_word ws k (bodies_at + (1 * kind_words + m))) where
    within : k < class_count ws
    within = shown_class ws k 1 m n

    row : m < member_count ws k 1
    unfolding shown_count
    row = let j : m < cond (ltb k (class_count ws)) (member_count ws k 1) 0 = n in rw (lt-ltb k (class_count ws) within) at j

    method_now : get_or (members_of text ws k 1) m no_member ≡ member_in text w b
    unfolding member_at
    method_now = member_at_law text ws k 1 m row ∙ sym (ap₂ (member_in text) f g)

    so_far : statements_so_far (last_class (library_of text ws)) ≡ b % 64
    unfolding class_of
    so_far =
        ap statements_so_far (read_class ∙ class_at_law text ws k within)
        ∙ ap (λ (j : ℕ). (get_or (members_of text ws k 1) j no_member).count) (sym e)
        ∙ ap (λ (x : Member). x.count) method_now

    pub counts_over : 32 ≤ b % 64 → (ws' : List ℕ) → Counts text ws 17 ws'
    counts_over l ws' = record {
      number = sym (ap (λ (t : Bool). cond t 17 0) (ap (leb 32) so_far ∙ le-leb 32 (b % 64) l));
      known = λ z. absurd (omega arith);
    }

    module _ (z : length ws ≡ table_words) (r : b % 64 < 32) where
      abbrev after : List ℕ
      after = with_member ws k 1 m w (b + 1)

      low_row : m < 32
      unfolding member_count
      low_row = let j : m < min members_most (class_word ws k (member_counts_at + 1)) = row in omega arith

      kept : Kept ws k 1 after
      kept = kept_member ws k 1 (omega arith) m w (b + 1) low_row

      methods : members_of text after k 1 ≡ alter m one_more (members_of text ws k 1)
      methods =
          let ms = members_of text ws k 1 in
          let p : (b + 1) / 64 ≡ b / 64 = omega arith in
          let q : (b + 1) % 64 ≡ suc (b % 64) = omega arith in
          let more : member_in text w (b + 1) ≡ one_more (member_in text w b) =
          λ i. record { origin = w / 1048576; name = name_of text w; first = p i; count = q i } in
          members_altered text ws k 1 m w (b + 1) (omega (arith, within, low_row)) row
          ∙ ap (λ (x : Member). alter m (λ y. x) ms) more
          ∙ alter_by m one_more ms no_member (member_in text w b) method_now

      altered : class_of text after k ≡ with_statement (class_of text ws k)
      unfolding class_of with_statement
      altered = λ i. record {
        name = name_of text (kept_word kept 0 (omega arith) (λ d. omega arith) i);
        ancestors = bit (kept_word kept 3 (omega arith) (λ d. omega arith) i);
        fields = kept_fields text kept i;
        methods = (methods ∙ ap (λ (j : ℕ). alter j one_more (members_of text ws k 1)) e) i;
        latest = kept_word kept 4 (omega arith) (λ d. omega arith) i;
      }

      pub counts_here : (ws' : List ℕ) → ws' ≡ after → Counts text ws 0 ws'
      counts_here ws' q =
          let l = library_of text ws in
          record {
            number = sym (ap (λ (t : Bool). cond t 17 0) (ap (leb 32) so_far ∙ lt-leb 32 (b % 64) r));
            known = λ d.
                ap (library_of text) q
                ∙ around_altered text kept.around with_statement within altered
                ∙ (λ i. record {
                  classes = alter ((h ∙ sym (last_number_law text ws)) i) with_statement l.classes;
                  statements = l.statements;
                  objects = l.objects;
                });
          }

-- ---- a statement's place

module _ (ws : List ℕ) (at size : ℕ) where
  abbrev pub with_statement_at : List ℕ
  with_statement_at = set (set ws (statements_at + statement_count ws) (part_word at size)) statement_count_at (statement_count ws + 1)

module _ (text ws : List ℕ) (at size : ℕ) (h : statement_count ws < statements_most) (z : length ws ≡ table_words) where
  other : (i : ℕ) → i ≢ 1 → i ≢ statements_at + statement_count ws → get_or (with_statement_at ws at size) i 0 ≡ get_or ws i 0
  other i p q =
      let n = statement_count ws in
      let w = part_word at size in
      get_or-set_other (set ws (statements_at + n) w) statement_count_at i (n + 1) 0 p ∙ get_or-set_other ws (statements_at + n) i w 0 q

  module _ (a : at < 65536) (b : size < 65536) (s : Statement) (e : form_of (words (take size (drop at text))) ≡ statement_line s) where
    new_placed : placed_of text (with_statement_at ws at size) (statement_count ws) ≡ record { statement = s; at = at; size = size }
    unfolding placed_of statement_word
    new_placed =
        let n = statement_count ws in
        let w = part_word at size in
        let said : ℕ → Placed = λ v. record { statement = statement_in (form_of (words (part_of text v))); at = v / 65536; size = v % 65536 } in
        let p : w / 65536 ≡ at = omega arith in
        let q : w % 65536 ≡ size = omega arith in
        ap said (get_or-set_other (set ws (statements_at + n) w) statement_count_at (statements_at + n) (n + 1) 0 (λ d. omega arith) ∙ get_or-set_same ws (statements_at + n) w 0 (omega arith))
        ∙ (λ i. record { statement = statement_in ((ap (λ (l : List ℕ). form_of (words l)) (part_word_part text at size a b) ∙ e) i); at = p i; size = q i })

    pub statement_added : library_of text (with_statement_at ws at size) ≡ with_placed (library_of text ws) (record { statement = s; at = at; size = size })
    statement_added =
        let n = statement_count ws in
        let ws' = with_statement_at ws at size in
        let k : get_or ws' statement_count_at 0 ≡ n + 1 =
        get_or-set_same (set ws (statements_at + n) (part_word at size)) statement_count_at (n + 1) 0 (omega (arith, length-set ws (statements_at + n) (part_word at size))) in
        λ i. record {
          classes = classes_same text ws ws' (other 0 (λ d. omega arith) (λ d. omega arith)) (λ j p q. other j (λ d. omega arith) (λ d. omega arith)) i;
          statements =
              (statements_added text ws ws' n refl h k (λ j p q. other j (λ d. omega arith) (λ d. omega arith))
              ∙ ap (λ (x : Placed). (library_of text ws).statements ++ (x ∷ [])) new_placed) i;
          objects = objects_same text ws ws' (other 2 (λ d. omega arith) (λ d. omega arith)) (λ j p q. other j (λ d. omega arith) (λ d. omega arith)) i;
        }

-- ---- an object

module _ (ws : List ℕ) (word class part : ℕ) where
  abbrev pub with_object_words : List ℕ
  with_object_words =
      let o = object_count ws in
      set (set (set (set ws (objects_at + (o * object_words + 0)) word) (objects_at + (o * object_words + 1)) class) (objects_at + (o * object_words + 3)) part) object_count_at (o + 1)

module _ (text ws : List ℕ) (word class part : ℕ) (h : object_count ws < 64) (z : length ws ≡ table_words) where
  abbrev ws₁ : List ℕ
  ws₁ = set ws (objects_at + (object_count ws * object_words + 0)) word

  abbrev ws₂ : List ℕ
  ws₂ = set ws₁ (objects_at + (object_count ws * object_words + 1)) class

  abbrev ws₃ : List ℕ
  ws₃ = set ws₂ (objects_at + (object_count ws * object_words + 3)) part

  size₁ : length ws₁ ≡ table_words
  size₁ = length-set ws (objects_at + (object_count ws * object_words + 0)) word ∙ z

  size₂ : length ws₂ ≡ table_words
  size₂ = length-set ws₁ (objects_at + (object_count ws * object_words + 1)) class ∙ size₁

  size₃ : length ws₃ ≡ table_words
  size₃ = length-set ws₂ (objects_at + (object_count ws * object_words + 3)) part ∙ size₂

  apart : (i : ℕ) → i ≢ 2 → (objects_at + object_count ws * object_words ≤ i → i < objects_at + object_words + object_count ws * object_words → ⊥) → get_or (with_object_words ws word class part) i 0 ≡ get_or ws i 0
  apart i p q =
      let o = object_count ws in
      get_or-set_other ws₃ object_count_at i (o + 1) 0 p
      ∙ get_or-set_other ws₂ (objects_at + (o * object_words + 3)) i part 0 (λ e. q (omega arith) (omega arith))
      ∙ get_or-set_other ws₁ (objects_at + (o * object_words + 1)) i class 0 (λ e. q (omega arith) (omega arith))
      ∙ get_or-set_other ws (objects_at + (o * object_words + 0)) i word 0 (λ e. q (omega arith) (omega arith))

  abbrev new : Object
  new = record { name = name_of text word; class = class; values = numbers_in (part_of text part) }

  new_object : object_of text (with_object_words ws word class part) (object_count ws) ≡ new
  unfolding object_of object_word
  new_object =
      let o = object_count ws in
      let a = objects_at + (o * object_words + 0) in
      let b = objects_at + (o * object_words + 1) in
      let c = objects_at + (o * object_words + 3) in
      let p =
      get_or-set_other ws₃ object_count_at a (o + 1) 0 (λ e. omega arith) ∙ get_or-set_other ws₂ c a part 0 (λ e. omega arith)
      ∙ get_or-set_other ws₁ b a class 0 (λ e. omega arith) ∙ get_or-set_same ws a word 0 (omega arith) in
      let q =
      get_or-set_other ws₃ object_count_at b (o + 1) 0 (λ e. omega arith) ∙ get_or-set_other ws₂ c b part 0 (λ e. omega arith)
      ∙ get_or-set_same ws₁ b class 0 (omega (arith, size₁)) in
      let r = get_or-set_other ws₃ object_count_at c (o + 1) 0 (λ e. omega arith) ∙ get_or-set_same ws₂ c part 0 (omega (arith, size₂)) in
      λ i. record { name = name_of text (p i); class = q i; values = numbers_in (part_of text (r i)) }

  pub object_added : library_of text (with_object_words ws word class part) ≡ with_object (library_of text ws) new
  object_added =
      let o = object_count ws in
      let ws' = with_object_words ws word class part in
      let k : get_or ws' object_count_at 0 ≡ o + 1 = get_or-set_same ws₃ object_count_at (o + 1) 0 (omega (arith, size₃)) in
      λ i. record {
        classes = classes_same text ws ws' (apart 0 (λ d. omega arith) (λ u v. omega arith)) (λ j p q. apart j (λ d. omega arith) (λ u v. omega arith)) i;
        statements = statements_same text ws ws' (apart 1 (λ d. omega arith) (λ u v. omega arith)) (λ j p q. apart j (λ d. omega arith) (λ u v. omega arith)) i;
        objects =
            (objects_added text ws ws' o refl h k (λ j p q. apart j (λ d. omega arith) (λ u v. omega arith))
            ∙ ap (λ (x : Object). (library_of text ws).objects ++ (x ∷ [])) new_object) i;
      }
