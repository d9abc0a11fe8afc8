-- A call line has at most 60 bytes, so that the first 61 bytes of any line tell whether it is one.
use Rattle.std.specs.Prelude.{ℕ, zero, suc, ◌+◌, ◌-◌, ◌*◌, ◌≤◌, ◌≡◌, refl, Bool, true, false, cond, ◌&&◌, List, [], ◌∷◌, length, take, eqb, ltb, leb}
use Rattle.std.proofs.Common.{arith, sym, ap, ◌∙◌, take_all, length-take-le, ltb-true, ltb-false, leb-true}
use Rattle.std.proofs.lemmas.Bool.{false≢true, eqb-false, not-true}
use Rattle.std.proofs.Math.Option.{none}
use Rattle.model.specs.Base.{bytes, every}
use Rattle.model.specs.Text.{words}
use Rattle.model.specs.Word.{is_digit, well_begun, is_name, is_number, is_name_byte, begins_with_letter, decimal}
use Rattle.model.specs.Vector.{Program}
use Rattle.model.specs.Rehearsal.{slot_form, send_form, call_line, reply_to, on_program}
use Rattle.text_lex.specs.Tests.{and_true}
use Rattle.text_lex.specs.Among.{same_lengths}
use Rattle.text_lex.specs.Piece.{span, span_after}
use Rattle.rehearsal.specs.Parts.{Short}

-- ---- numbers and names

-- A number with k zeros after it.
abbrev tens : ℕ → ℕ → ℕ
tens zero m = m
tens (suc k) m = tens k (10 * m)

decimal_least : (w : List ℕ) (k m n : ℕ) → every is_digit w ≡ true → k ≤ length w → m ≤ n → tens k m ≤ decimal n w
unfolding every decimal
decimal_least [] zero m n d h l = l
decimal_least [] (suc k) m n d h l = absurd (omega arith)
decimal_least (b ∷ w) zero m n d h l =
    let e = and_true (is_digit b) d in
    decimal_least w zero m (10 * n + b - 48) e.1 (omega arith) (omega (arith, leb-true 48 b (and_true (leb 48 b) e.0).0))
decimal_least (b ∷ w) (suc k) m n d h l =
    let e = and_true (is_digit b) d in
    decimal_least w k (10 * m) (10 * n + b - 48) e.1 (omega arith) (omega (arith, leb-true 48 b (and_true (leb 48 b) e.0).0))

-- A number has at most ten digits.
number_short : (w : List ℕ) → 11 ≤ length w → is_number w ≡ false
unfolding is_number every decimal
number_short [] h = absurd (omega arith)
number_short (b ∷ []) h = absurd (omega arith)
number_short (b ∷ c ∷ w) h = go (is_number (b ∷ c ∷ w)) refl
  where
    v : List ℕ
    v = b ∷ c ∷ w

    go : (t : Bool) → is_number v ≡ t → t ≡ false
    go false e = refl
    go true e =
        let k = and_true (well_begun v && every is_digit v) e in
        let d = and_true (well_begun v) k.0 in
        let g = and_true (is_digit b) d.1 in
        let z = eqb-false b 48 (not-true (eqb b 48) d.0) in
        absurd (omega (
          arith,
          leb-true (decimal 0 v) 4294967295 k.1,
          leb-true 48 b (and_true (leb 48 b) g.0).0,
          decimal_least (c ∷ w) 10 1 (0 + b - 48) g.1 (omega arith) (omega (arith, leb-true 48 b (and_true (leb 48 b) g.0).0)),
        ))

number_few : (w : List ℕ) → is_number w ≡ true → length w ≤ 10
number_few w e = go (ltb 10 (length w)) refl
  where
    go : (t : Bool) → ltb 10 (length w) ≡ t → length w ≤ 10
    go false t = ltb-false 10 (length w) t
    go true t = absurd (false≢true (sym (number_short w (ltb-true 10 (length w) t)) ∙ e))

name_few : (w : List ℕ) → is_name w ≡ true → length w ≤ 16
unfolding is_name
name_few w e =
    let a = and_true (begins_with_letter w && leb (length w) 16 && every is_name_byte w) e in
    let b = and_true (begins_with_letter w && leb (length w) 16) a.0 in
    leb-true (length w) 16 (and_true (begins_with_letter w) b.0).1

-- Words that take more than 60 bytes, with a space between each, are no call line.
long_none : (ws : List (List ℕ)) → 62 ≤ span ws → call_line ws ≡ none
unfolding call_line span
long_none [] h = refl
long_none (k ∷ []) h = refl
long_none (k ∷ s ∷ []) h = go (is_number s) refl
  where
    go : (t : Bool) → is_number s ≡ t → cond t (slot_form k (decimal 0 s)) none ≡ none
    go false e = refl
    go true e =
        let few = number_few s e in
        rw (
          same_lengths k (bytes "step") (λ q. omega arith),
          same_lengths k (bytes "commit") (λ q. omega arith),
          same_lengths k (bytes "abort") (λ q. omega arith),
        )
long_none (k ∷ s ∷ n ∷ []) h = refl
long_none (k ∷ s ∷ n ∷ m ∷ []) h = refl
long_none (k ∷ s ∷ n ∷ m ∷ a ∷ []) h = go (is_number s && is_name n && is_name m && is_number a) refl
  where
    go : (t : Bool) → (is_number s && is_name n && is_name m && is_number a) ≡ t → cond t (send_form k (decimal 0 s) n m (decimal 0 a)) none ≡ none
    go false e = refl
    go true e =
        let x = and_true (is_number s && is_name n && is_name m) e in
        let y = and_true (is_number s && is_name n) x.0 in
        let z = and_true (is_number s) y.0 in
        let f1 = number_few s z.0 in
        let f2 = name_few n z.1 in
        let f3 = name_few m y.1 in
        let f4 = number_few a x.1 in
        rw (same_lengths k (bytes "send") (λ q. omega arith), same_lengths k (bytes "all") (λ q. omega arith), same_lengths k (bytes "tree") (λ q. omega arith))
long_none (k ∷ s ∷ n ∷ m ∷ a ∷ b ∷ ws) h = refl

pub line_front : (most : ℕ) → 61 ≤ most → (l : List ℕ) → call_line (words (take most l)) ≡ call_line (words l)
line_front most h l = go (ltb most (length l)) refl
  where
    go : (t : Bool) → ltb most (length l) ≡ t → call_line (words (take most l)) ≡ call_line (words l)
    go false t = ap (λ (x : List ℕ). call_line (words x)) (take_all most l (ltb-false most (length l) t))
    go true t =
        let g = ltb-true most (length l) t in
        let k = length-take-le most l (omega arith) in
        long_none (words (take most l)) (omega (arith, span_after 32 (0 ∷ take most l))) ∙ sym (long_none (words l) (omega (arith, span_after 32 (0 ∷ l))))

pub front_only : (p : Program) (most : ℕ) → 61 ≤ most → Short (on_program p) most
unfolding on_program
front_only p most h = record { front = λ w l. ap (reply_to p w) (line_front most h l); some = omega arith }
