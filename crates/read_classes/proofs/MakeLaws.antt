-- Making a class: beginning it, inheriting, counting it; and the two ways in which it has too many members.
use Prim.Native.Nat.{ℕ, ◌+◌, ◌*◌, ◌<◌}
use mathlib.Core.Path.{◌≡◌, refl, sym, ap, ap₂, subst, ◌∙◌}
use mathlib.Core.Logic.{◌≢◌}
use mathlib.Core.Bool.{Bool, true, false, cond, ◌||◌}
use mathlib.Core.List.{List, [], ◌∷◌, ◌++◌}
use native.Mathlib.Omega.{arith}
use lib.ListN.{length, set, length-set}
use lib.Seq.{get_or-set_same, get_or-set_other}
use lib.Dec.{ltb}
use Rattle.layout.specs.Layout.{class_count_at, class_name_at, member_counts_at, ancestors_at, latest_at, class_words, classes_at, table_words}
use Rattle.model.specs.Base.{upto}
use Rattle.model.specs.Word.{Name}
use Rattle.model.specs.Form.{Line, class_line}
use Rattle.model.specs.Library.{Member, Library, inherited, above, new_class, add}
use Rattle.catalog.specs.View.{name_of, class_word, class_count, member_count, member_at, members_of, class_of, library_of}
use Rattle.laws.specs.Bits.{bit}
use Rattle.catalog.specs.Frames.{Around, around_then, around_set, kept_word, kept_methods, kept_fields, around_library, around_added}
use Rattle.read_classes.specs.Took.{Took}
use Rattle.read_classes.specs.Made.{Free, begun, member_fault}
use Rattle.read_classes.specs.Joins.{Making, ParentsJoined, inherited_behind}

-- ---- beginning a class

module _ (ws : List ℕ) (c v : ℕ) (i : ℕ) where
  pub word_here : c < 16 → i < class_words → length ws ≡ table_words → class_word (set ws (classes_at + (c * class_words + i)) v) c i ≡ v
  unfolding class_word
  word_here h k l = get_or-set_same ws (classes_at + (c * class_words + i)) v 0 (omega arith)

  pub word_other : (j : ℕ) → j ≢ i → class_word (set ws (classes_at + (c * class_words + i)) v) c j ≡ class_word ws c j
  unfolding class_word
  word_other j d = get_or-set_other ws (classes_at + (c * class_words + i)) (classes_at + (c * class_words + j)) v 0 (λ e. d (omega arith))

-- The words of a class that has been begun.
record Begun (ws : List ℕ) (c word mask : ℕ) (ws' : List ℕ) : Type 0 where
  around : Around ws c ws'
  name : class_word ws' c class_name_at ≡ word
  fields : class_word ws' c 1 ≡ 0
  methods : class_word ws' c 2 ≡ 0
  ancestors : class_word ws' c ancestors_at ≡ mask
  latest : class_word ws' c latest_at ≡ 0

begun_words : (ws : List ℕ) (c word mask : ℕ) → c < 16 → length ws ≡ table_words → Begun ws c word mask (begun ws c word mask)
begun_words ws c word mask h l =
    let at : ℕ → ℕ = λ i. classes_at + (c * class_words + i) in
    let w₁ = set ws (at 0) word in
    let w₂ = set w₁ (at 1) 0 in
    let w₃ = set w₂ (at 2) 0 in
    let w₄ = set w₃ (at 3) mask in
    let l₁ = length-set ws (at 0) word ∙ l in
    let l₂ = length-set w₁ (at 1) 0 ∙ l₁ in
    let l₃ = length-set w₂ (at 2) 0 ∙ l₂ in
    let l₄ = length-set w₃ (at 3) mask ∙ l₃ in
    record {
      around =
          around_then (around_set ws c 0 word (omega arith)) (around_then (around_set w₁ c 1 0 (omega arith)) (around_then (around_set w₂ c 2 0 (omega arith))
          (around_then (around_set w₃ c 3 mask (omega arith)) (around_set w₄ c 4 0 (omega arith)))));
      name =
          word_other w₄ c 0 4 0 (λ e. omega arith) ∙ word_other w₃ c mask 3 0 (λ e. omega arith) ∙ word_other w₂ c 0 2 0 (λ e. omega arith)
          ∙ word_other w₁ c 0 1 0 (λ e. omega arith) ∙ word_here ws c word 0 h (omega arith) l;
      fields =
          word_other w₄ c 0 4 1 (λ e. omega arith) ∙ word_other w₃ c mask 3 1 (λ e. omega arith) ∙ word_other w₂ c 0 2 1 (λ e. omega arith)
          ∙ word_here w₁ c 0 1 h (omega arith) l₁;
      methods = word_other w₄ c 0 4 2 (λ e. omega arith) ∙ word_other w₃ c mask 3 2 (λ e. omega arith) ∙ word_here w₂ c 0 2 h (omega arith) l₂;
      ancestors = word_other w₄ c 0 4 3 (λ e. omega arith) ∙ word_here w₃ c mask 3 h (omega arith) l₃;
      latest = word_here w₄ c 0 4 h (omega arith) l₄;
    }

no_members : (text ws : List ℕ) (c p : ℕ) → class_word ws c (member_counts_at + p) ≡ 0 → members_of text ws c p ≡ []
unfolding members_of member_count upto
no_members text ws c p e =
    let n : member_count ws c p ≡ 0 = omega arith in
    ap (upto (member_at text ws c p)) n

module _ (text ws₀ : List ℕ) (c word mask : ℕ) (f : Free ws₀) (u : c ≡ class_count ws₀) (ps : List Name)
    (m : (d : ℕ) → bit mask d ≡ above (library_of text ws₀) ps d) (ws₁ : List ℕ) (s : ws₁ ≡ begun ws₀ c word mask) where
  abbrev l : Library
  l = library_of text ws₀

  start : Begun ws₀ c word mask ws₁
  start = subst (λ (ws : List ℕ). Begun ws₀ c word mask ws) (sym s) (begun_words ws₀ c word mask (omega (arith, f.classes)) f.words)

  making : (ws : List ℕ) (p : ℕ) → p < 2 → Around ws₀ c ws → Making ws c p
  making ws p h k =
      let z = k.low 0 (omega arith) (omega arith) in
      record {
        room = record { class = omega (arith, f.classes); kind = h; words = k.size ∙ f.words };
        uncounted = omega arith;
      }

  same_library : (ws : List ℕ) → Around ws₀ c ws → library_of text ws ≡ l
  same_library ws k = around_library text k (sym u) (omega (arith, f.classes))

  fields_row : inherited_behind 0 (library_of text ws₁) (members_of text ws₁ c 0) ps ≡ inherited (λ k. k.fields) l ps
  unfolding inherited_behind inherited
  fields_row = ap₂ (λ (k : Library) (ms : List Member). inherited_behind 0 k ms ps) (same_library ws₁ start.around) (no_members text ws₁ c 0 start.fields)

  fault : {a b : Bool} → a ≡ ltb 32 (length (inherited (λ k. k.fields) l ps)) → b ≡ ltb 32 (length (inherited (λ k. k.methods) l ps))
      → cond (a || b) 17 0 ≡ member_fault l ps
  unfolding member_fault
  fault p q = λ i. cond (p i || q i) 17 0

  module _ (over₀ : Bool) (ws₂ : List ℕ) (t₀ : ParentsJoined text ws₁ c 0 ps over₀ ws₂) where
    around₂ : Around ws₀ c ws₂
    around₂ = around_then start.around t₀.kept.around

    methods_row : inherited_behind 1 (library_of text ws₂) (members_of text ws₂ c 1) ps ≡ inherited (λ k. k.methods) l ps
    unfolding inherited_behind inherited
    methods_row =
        ap₂ (λ (k : Library) (ms : List Member). inherited_behind 1 k ms ps) (same_library ws₂ around₂)
        (kept_methods text t₀.kept ∙ no_members text ws₁ c 1 start.methods)

    many_fields : over₀ ≡ ltb 32 (length (inherited (λ k. k.fields) l ps))
    many_fields = t₀.many ∙ ap (λ (ms : List Member). ltb 32 (length ms)) fields_row

    pub too_many_fields : over₀ ≡ true → (line : Line) (after : Library) → Took l line (class_line (name_of text word) ps) (member_fault l ps) 17 after
    too_many_fields z line after = record { number = fault (sym z ∙ many_fields) refl; known = λ e. absurd (omega arith) }

    module _ (over₁ : Bool) (ws₃ : List ℕ) (t₁ : ParentsJoined text ws₂ c 1 ps over₁ ws₃) (z₀ : over₀ ≡ false) where
      many_methods : over₁ ≡ ltb 32 (length (inherited (λ k. k.methods) l ps))
      many_methods = t₁.many ∙ ap (λ (ms : List Member). ltb 32 (length ms)) methods_row

      pub too_many_methods : over₁ ≡ true → (line : Line) (after : Library) → Took l line (class_line (name_of text word) ps) (member_fault l ps) 17 after
      too_many_methods z line after = record { number = fault (sym z₀ ∙ many_fields) (sym z ∙ many_methods); known = λ e. absurd (omega arith) }

      module _ (z₁ : over₁ ≡ false) where
        word_kept : (i : ℕ) → i < 8 → i ≢ 1 → i ≢ 2 → class_word ws₃ c i ≡ class_word ws₁ c i
        word_kept i h p q = kept_word t₁.kept i h q ∙ kept_word t₀.kept i h p

        class_is : class_of text ws₃ c ≡ new_class l (name_of text word) ps
        unfolding class_of new_class
        class_is =
            λ i. record {
              name = name_of text ((word_kept 0 (omega arith) (λ e. omega arith) (λ e. omega arith) ∙ start.name) i);
              ancestors = λ d. (ap (λ (n : ℕ). bit n d) (word_kept 3 (omega arith) (λ e. omega arith) (λ e. omega arith) ∙ start.ancestors) ∙ m d) i;
              fields = (kept_fields text t₁.kept ∙ t₀.made z₀ ∙ fields_row) i;
              methods = (t₁.made z₁ ∙ methods_row) i;
              latest = (word_kept 4 (omega arith) (λ e. omega arith) (λ e. omega arith) ∙ start.latest) i;
            }

        pub class_made : (ws₄ : List ℕ) → ws₄ ≡ set ws₃ class_count_at (c + 1) → (line : Line)
            → Took l line (class_line (name_of text word) ps) (member_fault l ps) 0 (library_of text ws₄)
        unfolding add
        class_made ws₄ e line = record {
          number = fault (sym z₀ ∙ many_fields) (sym z₁ ∙ many_methods);
          known = λ r.
              ap (library_of text) e
              ∙ around_added text (around_then around₂ t₁.kept.around) (sym u) (omega (arith, f.classes)) (omega (arith, f.words))
              ∙ (λ i. record { classes = l.classes ++ (class_is i ∷ []); statements = l.statements; objects = l.objects });
        }
