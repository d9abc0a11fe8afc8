-- Classes made or changed in the tables: the results of the functions that the three line functions call.
use Rattle.std.specs.Prelude.{ℕ, ◌+◌, ◌*◌, ◌/◌, ◌<◌, ◌≤◌, ◌≡◌, cond, ◌||◌, List, length, set, ltb}
use Rattle.layout.specs.Layout.{class_words, classes_at, table_words}
use Rattle.model.specs.Word.{Name}
use Rattle.model.specs.Form.{Line, class_line}
use Rattle.model.specs.Library.{Class, Library, member_place, with_field, with_method, inherited}
use Rattle.model.specs.Fault.{class_fault, field_fault, method_fault}
use Rattle.catalog.specs.View.{name_of, class_count, statement_count, member_count, members_of, class_of, library_of}
use Rattle.catalog.specs.Frames.{Around}
use Rattle.read_classes.specs.Took.{Took}

-- There is room for one more class.
pub record Free (ws : List ℕ) : Type 0 where
  pub classes : class_count ws < 16
  pub words : length ws ≡ table_words

-- The tables with class c begun.
abbrev pub begun : List ℕ → ℕ → ℕ → ℕ → List ℕ
begun ws c word mask =
    set (set (set (set (set ws (classes_at + (c * class_words + 0)) word) (classes_at + (c * class_words + 1)) 0) (classes_at + (c * class_words + 2)) 0) (classes_at + (c * class_words + 3)) mask) (classes_at + (c * class_words + 4)) 0

-- "32 fields and 32 methods a class (inherited ones counted)"
unfoldable pub member_fault : Library → List Name → ℕ
unfolding inherited
member_fault l ps = cond (ltb 32 (length (inherited (λ c. c.fields) l ps)) || ltb 32 (length (inherited (λ c. c.methods) l ps))) 17 0

-- One class is changed: the answer is its fault; without one the class is as g makes it and all else is unchanged.
pub record Altered (text ws : List ℕ) (c : ℕ) (g : Class → Class) (fault r : ℕ) (ws' : List ℕ) : Type 0 where
  pub number : r ≡ fault
  pub around : r ≡ 0 → Around ws c ws'
  pub class : r ≡ 0 → class_of text ws' c ≡ g (class_of text ws c)

-- Classes made, by the words of their names: where the names have no fault, and in any case.
module _ (text ws : List ℕ) where
  abbrev pub ClassMade : ℕ → List Name → ℕ → List ℕ → Type 0
  ClassMade w ps r ws' =
      (line : Line) → Took (library_of text ws) line (class_line (name_of text w) ps) (member_fault (library_of text ws) ps) r (library_of text ws')

  abbrev pub ClassAdded : ℕ → List Name → ℕ → List ℕ → Type 0
  ClassAdded w ps r ws' =
      (line : Line) → Took (library_of text ws) line (class_line (name_of text w) ps) (class_fault (library_of text ws) (name_of text w) ps) r (library_of text ws')

  module _ (c : ℕ) where
    abbrev pub FieldAdded : ℕ → ℕ → List ℕ → Type 0
    FieldAdded w r ws' = Altered text ws c (with_field (w / 1048576) (name_of text w)) (field_fault (class_of text ws c) (name_of text w)) r ws'

    abbrev pub MethodAdded : ℕ → ℕ → List ℕ → Type 0
    MethodAdded w r ws' =
        Altered text ws c (with_method (w / 1048576) (name_of text w) (statement_count ws)) (method_fault c (class_of text ws c) (name_of text w)) r ws'

    -- A method set at the place of its name, or appended where the class has no method of its name.
    abbrev pub MethodReplaced : ℕ → ℕ → ℕ → List ℕ → Type 0
    MethodReplaced w place r ws' = place ≡ member_place (members_of text ws c 1) (name_of text w) → MethodAdded w r ws'

    abbrev pub MethodAppended : ℕ → ℕ → List ℕ → Type 0
    MethodAppended w r ws' = member_count ws c 1 ≤ member_place (members_of text ws c 1) (name_of text w) → MethodAdded w r ws'
