-- What the end of an expression determines about the words after it: that there are none, or that they are an action.
use Prim.Native.Nat.{ℕ}
use mathlib.Core.Path.{◌≡◌, refl, sym, ap}
use mathlib.Core.Bool.{false}
use mathlib.Core.List.{List}
use lib.ListN.{length, drop}
use lib.Dec.{leb}
use Rattle.model.specs.Expression.{Parsed, parsed, unread, expression}
use Rattle.model.specs.Form.{keyword_of, action_of}
use Rattle.text_lex.specs.Piece.{words_after, first, others, at_end}
use Rattle.std.specs.Prelude.{Some, None}
use Rattle.text_syntax.specs.Reading.{placed, Left, tail_after, left_behind}
use Rattle.text_syntax.specs.Kinds.{is_action, is_whole, is_guarded, fits}
use Rattle.text_syntax.specs.Keywords.{said_keyword}
use Rattle.text_syntax.specs.declared.keyword.Keyword.{Keyword}
use Rattle.text_syntax.specs.declared.keyword.Keyword.TheVariants.{Class, Field, Method, End, Object, Set, Add, Send, Reply, When}

module _ (s : List ℕ) where
  unread_here : (p : Parsed) → None ≡ placed s p → p ≡ unread
  unread_here (parsed e ws) q = cc
  unread_here unread q = refl

  whole_left : (m : ℕ) (p : Parsed) → Left s m p → leb (length s) m ≡ is_whole p
  whole_left m (parsed e ws) l = at_end 32 s m (sym l.1)
  whole_left m unread l = absurd l

  guarded_left : (m : ℕ) (p : Parsed) → Left s m p
      → is_action (action_of (keyword_of (first (words_after (drop m s)))) (others (words_after (drop m s)))) ≡ is_guarded p
  unfolding is_guarded
  guarded_left m (parsed e ws) l = ap (λ (vs : List (List ℕ)). is_action (action_of (keyword_of (first vs)) (others vs))) (sym l.1)
  guarded_left m unread l = absurd l

  -- No expression follows `at`.
  module _ (at : ℕ) (q : None ≡ placed s (expression (words_after (drop at s)))) where
    pub whole_none : false ≡ is_whole (expression (words_after (drop at s)))
    whole_none = rw (unread_here (expression (words_after (drop at s))) q)

    pub guarded_none : false ≡ is_guarded (expression (words_after (drop at s)))
    unfolding is_guarded
    guarded_none = rw (unread_here (expression (words_after (drop at s))) q)

  -- The expression after `at` ends at m.
  module _ (at m : ℕ) (q : Some m ≡ placed s (expression (words_after (drop at s)))) where
    left : Left s m (expression (words_after (drop at s)))
    left = left_behind s (expression (words_after (drop at s))) m (tail_after s 9 at) q

    pub whole_at : leb (length s) m ≡ is_whole (expression (words_after (drop at s)))
    whole_at = whole_left m (expression (words_after (drop at s))) left

    pub guarded_at : is_action (action_of (keyword_of (first (words_after (drop m s)))) (others (words_after (drop m s))))
        ≡ is_guarded (expression (words_after (drop at s)))
    guarded_at = guarded_left m (expression (words_after (drop at s))) left

-- The keywords of no action.
module _ (k : Keyword) (ws : List (List ℕ)) where
  pub no_action : (k ≡ Set → ⊥) → (k ≡ Add → ⊥) → (k ≡ Send → ⊥) → (k ≡ Reply → ⊥) → false ≡ is_action (action_of (said_keyword (Some k)) ws)
  unfolding action_of
  no_action = go k
    where
      go : (k : Keyword) → (k ≡ Set → ⊥) → (k ≡ Add → ⊥) → (k ≡ Send → ⊥) → (k ≡ Reply → ⊥) → false ≡ is_action (action_of (said_keyword (Some k)) ws)
      go Class s a t r = refl
      go Field s a t r = refl
      go Method s a t r = refl
      go End s a t r = refl
      go Object s a t r = refl
      go Set s a t r = absurd (s refl)
      go Add s a t r = absurd (a refl)
      go Send s a t r = absurd (t refl)
      go Reply s a t r = absurd (r refl)
      go When s a t r = refl

  -- A keyword of another kind of line fits by its action.
  pub fits_action : (k ≡ Class → ⊥) → (k ≡ Field → ⊥) → (k ≡ Method → ⊥) → (k ≡ End → ⊥) → (k ≡ Object → ⊥) → (k ≡ When → ⊥)
      → is_action (action_of (said_keyword (Some k)) ws) ≡ fits (said_keyword (Some k)) ws
  unfolding fits
  fits_action = go k
    where
      go : (k : Keyword) → (k ≡ Class → ⊥) → (k ≡ Field → ⊥) → (k ≡ Method → ⊥) → (k ≡ End → ⊥) → (k ≡ Object → ⊥) → (k ≡ When → ⊥)
          → is_action (action_of (said_keyword (Some k)) ws) ≡ fits (said_keyword (Some k)) ws
      go Class c f m e o w = absurd (c refl)
      go Field c f m e o w = absurd (f refl)
      go Method c f m e o w = absurd (m refl)
      go End c f m e o w = absurd (e refl)
      go Object c f m e o w = absurd (o refl)
      go Set c f m e o w = refl
      go Add c f m e o w = refl
      go Send c f m e o w = refl
      go Reply c f m e o w = refl
      go When c f m e o w = absurd (w refl)
