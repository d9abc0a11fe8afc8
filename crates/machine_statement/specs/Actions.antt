-- The turn of an action in a frame, by its keyword, the words after that and its expression's value.
use Rattle.std.specs.Prelude.{ℕ, ◌+◌, ◌≤◌, ◌<◌, ◌≡◌, refl, Bool, true, false, cond, ◌&&◌, List, length, take, drop, leb}
use Rattle.std.proofs.Math.Option.{Option, none, some}
use borrow.Author.Tests.{lt-ltb, le-ltb, le-leb, lt-leb}
use Rattle.model.specs.Base.{bytes, same}
use Rattle.model.specs.Text.{pieces}
use Rattle.model.specs.Word.{is_name}
use Rattle.model.specs.Expression.{Parsed}
use Rattle.model.specs.Form.{Change, replace, increase, Keyword, class_word, field_word, method_word, end_word, object_word, set_word, add_word, send_word, reply_word, when_word, other_word, Action, Statement}
use Rattle.model.specs.Library.{Member, member_place, class_number}
use Rattle.text_lex.specs.Scan.{is_byte, before}
use Rattle.text_lex.specs.Piece.{pieces_after, first, others, is_empty, first_piece, empty_after}
use Rattle.text_syntax.specs.Kinds.{is_action, is_target}
use Rattle.catalog.specs.View.{member_count, members_of, library_of}
use Rattle.machine_evaluate.specs.declared.Value.{Value}
use Rattle.machine_evaluate.specs.Valued.{value_here, valued}
use Rattle.machine_words.specs.Row.{Turn, misfit, stop, skip, assign, call, reply}
use Rattle.catalog.specs.Bodies.{body_in, bounds_of}
use Rattle.machine_words.specs.Turn.{assign_turn, call_turn, action_turn, statement_turn}
use Rattle.catalog.specs.declared.body.Statements.{Statements}
use Rattle.std.specs.Prelude as rust
use Rattle.std.specs.Prelude.{Some, None}
use Rattle.machine_statement.specs.declared.line.Frame.{Frame}

abbrev pub is_when : Keyword → Bool
is_when class_word = false
is_when field_word = false
is_when method_word = false
is_when end_word = false
is_when object_word = false
is_when set_word = false
is_when add_word = false
is_when send_word = false
is_when reply_word = false
is_when when_word = true
is_when other_word = false

-- Whether the words begin with "to self".
abbrev pub is_to_self : List (List ℕ) → Bool
is_to_self ws = same (first ws) (bytes "to") && same (first (others ws)) (bytes "self")

-- Whether the words after a keyword are those of an action up to its expression.
abbrev pub is_begun : Keyword → List (List ℕ) → Bool
is_begun class_word ws = false
is_begun field_word ws = false
is_begun method_word ws = false
is_begun end_word ws = false
is_begun object_word ws = false
is_begun set_word ws = is_name (first ws)
is_begun add_word ws = is_name (first ws)
is_begun send_word ws = is_to_self (others ws) && is_target (pieces 46 (first ws))
is_begun reply_word ws = true
is_begun when_word ws = false
is_begun other_word ws = false

-- The words from an action's expression on, of those after its keyword.
abbrev pub skipped : Keyword → List (List ℕ) → List (List ℕ)
skipped class_word ws = ws
skipped field_word ws = ws
skipped method_word ws = ws
skipped end_word ws = ws
skipped object_word ws = ws
skipped set_word ws = others ws
skipped add_word ws = others ws
skipped send_word ws = others (others (others ws))
skipped reply_word ws = ws
skipped when_word ws = ws
skipped other_word ws = ws

-- The body that `M` or `C.M` names for class c, cut at its points.
unfoldable pub target_body : List ℕ → List ℕ → ℕ → List (List ℕ) → Option Member
unfolding body_in class_number library_of
target_body text tables c ps =
    cond (is_empty (others ps)) (body_in text tables c (first ps))
    (body_in text tables (class_number (library_of text tables) (first ps)) (first (others ps)))

-- The turn for the keyword, the word w after it and the value v.
abbrev pub acted_turn : Frame → Keyword → List ℕ → ℕ → Turn
acted_turn frame set_word w v = assign_turn frame.scope.text.now frame.scope.tables.now frame.scope.class frame.base replace w v
acted_turn frame add_word w v = assign_turn frame.scope.text.now frame.scope.tables.now frame.scope.class frame.base increase w v
acted_turn frame send_word w v = call_turn frame.depth (target_body frame.scope.text.now frame.scope.tables.now frame.scope.class (pieces 46 w)) v
acted_turn frame reply_word w v = reply v
acted_turn frame class_word w v = misfit
acted_turn frame field_word w v = misfit
acted_turn frame method_word w v = misfit
acted_turn frame end_word w v = misfit
acted_turn frame object_word w v = misfit
acted_turn frame when_word w v = misfit
acted_turn frame other_word w v = misfit

-- The turn of an action after a guard of value 0; a misfit where there is no action.
abbrev pub skipped_turn : Option Action → Turn
skipped_turn a = cond (is_action a) skip misfit

module _ (frame : Frame) where
  -- What the evaluator answers for an expression that was read at the front of s.
  abbrev pub valued_in : List ℕ → Parsed → rust.Option Value
  valued_in = valued (value_here frame.scope)

  abbrev pub turn_in : Statement → Turn
  turn_in = statement_turn frame.scope.text.now frame.scope.tables.now frame.scope.class frame.base frame.depth (value_here frame.scope)

  -- The turn of an action that was read; a misfit where there is none.
  abbrev pub formed_turn : Option Action → Turn
  formed_turn none = misfit
  formed_turn (some a) = action_turn frame.scope.text.now frame.scope.tables.now frame.scope.class frame.base frame.depth (value_here frame.scope) a

-- The target t, whose first point is at e, or which has none.
module _ (text tables : List ℕ) (c : ℕ) (t : List ℕ) (e : ℕ) (h : e ≡ 0 + before (is_byte 46) t) where
  pub target_own : length t ≤ e → target_body text tables c (pieces 46 t) ≡ body_in text tables c (take e t)
  unfolding target_body
  target_own l = rw (first_piece 46 t e h, empty_after 46 t e, le-leb (length t) e l)

  pub target_other : e < length t → (d : ℕ) → d ≡ class_number (library_of text tables) (take e t) → (m : List ℕ) → m ≡ first (pieces_after 46 (drop e t))
      → target_body text tables c (pieces 46 t) ≡ body_in text tables d m
  unfolding target_body
  target_other l d p m q = rw (first_piece 46 t e h, empty_after 46 t e, lt-leb (length t) e l, p, q)

-- The turn of a self-call, by the answer for its body.
abbrev pub call_by : ℕ → ℕ → rust.Option Statements → Turn
call_by depth v (Some s) = cond (leb 8 depth) stop (call s.first s.end v)
call_by depth v None = misfit

pub called_by : (depth v : ℕ) (m : Option Member) → call_by depth v (bounds_of m) ≡ call_turn depth m v
called_by depth v none = refl
called_by depth v (some m) = refl

-- The field f, found at place k of n.
module _ (text tables : List ℕ) (c base : ℕ) (how : Change) (f : List ℕ) (v k n : ℕ) (e : k ≡ member_place (members_of text tables c 0) f) (q : n ≡ member_count tables c 0) where
  pub assign_there : k < n → assign how (base + k) v ≡ assign_turn text tables c base how f v
  unfolding assign_turn
  assign_there h = rw (← e, ← q, lt-ltb k n h)

  pub assign_none : n ≤ k → misfit ≡ assign_turn text tables c base how f v
  unfolding assign_turn
  assign_none h = rw (← e, ← q, le-ltb k n h)
