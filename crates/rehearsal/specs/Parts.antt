-- An input of lines in parts, over any machine that answers lines: whatever the parts, what is printed in all is what is printed for the
-- whole input. Of a line only the first `most` bytes are kept.
use Rattle.std.specs.Prelude.{ℕ, zero, suc, ◌≤◌, Bool, true, false, drop, eqb}
use Rattle.std.proofs.Common.{arith, sym, ap₂, ◌∙◌}
use Rattle.std.proofs.Math.Path.{◌≡◌, refl, ap}
use mathlib.Core.List.{List, [], ◌∷◌, ◌++◌, flatten, append_assoc, append-nil}
use Rattle.std.proofs.Math.ListN.{take}
use Rattle.model.specs.Text.{cut, pieces}
use Rattle.model.specs.Rehearsal.{Reply, Lines, unended, by_lines, printed_for}
use Rattle.text_lex.specs.Scan.{is_byte, before}
use Rattle.text_lex.specs.Piece.{pieces_after, pieces_step}

-- What is printed at the end of the input.
abbrev pub ended : {W : Type 0} → Lines W → W → List ℕ → List ℕ
ended m w line = unended line ++ m.last w

-- ---- byte by byte

-- How far an input has been read: what was printed, the machine, and the first bytes of the unfinished line.
pub record Reached (W : Type 0) : Type 0 where
  pub out : List ℕ
  pub machine : W
  pub line : List ℕ

module _ {W : Type 0} (m : Lines W) (most : ℕ) where
  abbrev pub on_byte : Reached W → ℕ → Bool → Reached W
  on_byte x b true =
      let r = m.reply x.machine x.line in
      record { out = x.out ++ r.printed; machine = r.machine; line = [] }
  on_byte x b false = record { out = x.out; machine = x.machine; line = take most (x.line ++ (b ∷ [])) }

  abbrev pub next : Reached W → ℕ → Reached W
  next x b = on_byte x b (eqb b 10)

  unfoldable pub fed : Reached W → List ℕ → Reached W
  fed x [] = x
  fed x (b ∷ s) = fed (next x b) s

  -- Two parts one after the other are the whole.
  pub fed_append : (x : Reached W) (s t : List ℕ) → fed x (s ++ t) ≡ fed (fed x s) t
  unfolding fed
  fed_append x [] t = refl
  fed_append x (b ∷ s) t = fed_append (next x b) s t

  -- What was printed before stays at the front.
  abbrev pub printed_after : List ℕ → Reached W → Reached W
  printed_after o x = record { out = o ++ x.out; machine = x.machine; line = x.line }

  next_after : (o : List ℕ) (x : Reached W) (b : ℕ) → next (printed_after o x) b ≡ printed_after o (next x b)
  next_after o x b = go (eqb b 10)
    where
      go : (t : Bool) → on_byte (printed_after o x) b t ≡ printed_after o (on_byte x b t)
      go true =
          let r = m.reply x.machine x.line in
          ap (λ (l : List ℕ). record { out = l; machine = r.machine; line = [] }) (append_assoc o x.out r.printed)
      go false = refl

  pub fed_after : (o : List ℕ) (x : Reached W) (s : List ℕ) → fed (printed_after o x) s ≡ printed_after o (fed x s)
  unfolding fed
  fed_after o x [] = refl
  fed_after o x (b ∷ s) = ap (λ (y : Reached W). fed y s) (next_after o x b) ∙ fed_after o (next x b) s

  -- ---- whatever the parts

  -- The parts of an input, each read where the one before ended, with what each printed.
  pub data Fed : W → List ℕ → List (List ℕ) → List (List ℕ) → W → List ℕ → Type 0 where
    none : {w : W} {line : List ℕ} → Fed w line [] [] w line
    then : {w w₁ w₂ : W} {line line₁ line₂ part out : List ℕ} {parts outs : List (List ℕ)}
        → fed (record { out = []; machine = w; line = line }) part ≡ record { out = out; machine = w₁; line = line₁ }
        → Fed w₁ line₁ parts outs w₂ line₂ → Fed w line (part ∷ parts) (out ∷ outs) w₂ line₂

  fed_whole : {w w' : W} {line line' : List ℕ} {parts outs : List (List ℕ)} → Fed w line parts outs w' line'
      → fed (record { out = []; machine = w; line = line }) (flatten parts) ≡ record { out = flatten outs; machine = w'; line = line' }
  unfolding fed flatten
  fed_whole none = refl
  fed_whole {w} {w'} {line} {line'} (then {w₁ = w₁} {line₁ = line₁} {part = part} {out = out} {parts = parts} {outs = outs} e f) =
      let begun : Reached W = record { out = []; machine = w; line = line } in
      let new : Reached W = record { out = []; machine = w₁; line = line₁ } in
      fed_append begun part (flatten parts)
      ∙ ap (λ (x : Reached W). fed x (flatten parts)) (e ∙ ap (λ (l : List ℕ). record { out = l; machine = w₁; line = line₁ }) (sym (append-nil out)))
      ∙ fed_after out new (flatten parts)
      ∙ ap (printed_after out) (fed_whole f)

  -- ---- by lines and byte by byte

  -- The machine answers a line by its first bytes, of which at least one is kept.
  pub record Short : Type 0 where
    pub front : (w : W) (l : List ℕ) → m.reply w (take most l) ≡ m.reply w l
    pub some : 1 ≤ most

  -- An unfinished line, continued by the first piece.
  abbrev joined : List ℕ → List (List ℕ) → List (List ℕ)
  joined l [] = l ∷ []
  joined l (p ∷ ps) = (l ++ p) ∷ ps

  module _ (h : Short) where
    take_twice : (n : ℕ) (l p : List ℕ) → take n (take n l ++ p) ≡ take n (l ++ p)
    take_twice zero l p = refl
    take_twice (suc n) [] p = refl
    take_twice (suc n) (b ∷ l) p = ap (λ (k : List ℕ). b ∷ k) (take_twice n l p)

    same_reply : (w : W) (l p : List ℕ) → m.reply w (take most l ++ p) ≡ m.reply w (l ++ p)
    same_reply w l p = sym (h.front w (take most l ++ p)) ∙ ap (m.reply w) (take_twice most l p) ∙ h.front w (l ++ p)

    same_rest : (n : ℕ) → 1 ≤ n → (l p : List ℕ) → unended (take n l ++ p) ≡ unended (l ++ p)
    same_rest zero g l p = absurd (omega arith)
    same_rest (suc n) g [] p = refl
    same_rest (suc n) g (b ∷ l) p = refl

    -- Of the unfinished line only the first bytes count.
    same_lines : (w : W) (l p : List ℕ) (ps : List (List ℕ)) → by_lines m w ((take most l ++ p) ∷ ps) ≡ by_lines m w ((l ++ p) ∷ ps)
    same_lines w l p [] = ap (λ (k : List ℕ). k ++ m.last w) (same_rest most h.some l p)
    same_lines w l p (q ∷ ps) = ap (λ (r : Reply W). r.printed ++ by_lines m r.machine (q ∷ ps)) (same_reply w l p)

    -- One more byte, before the pieces of the rest.
    one_byte : (x : Reached W) (b : ℕ) (t : Bool) (p : List ℕ) (ps : List (List ℕ))
        → (on_byte x b t).out ++ by_lines m (on_byte x b t).machine (joined (on_byte x b t).line (p ∷ ps)) ≡ x.out ++ by_lines m x.machine (joined x.line (cut t b (p ∷ ps)))
    one_byte x b true p ps =
        let r = m.reply x.machine x.line in
        append_assoc x.out r.printed (by_lines m r.machine (p ∷ ps))
        ∙ ap (λ (k : List ℕ). x.out ++ by_lines m x.machine (k ∷ p ∷ ps)) (sym (append-nil x.line))
    one_byte x b false p ps =
        ap (λ (k : List ℕ). x.out ++ k)
        (same_lines x.machine (x.line ++ (b ∷ [])) p ps ∙ ap (λ (k : List ℕ). by_lines m x.machine (k ∷ ps)) (append_assoc x.line (b ∷ []) p))

    -- Wherever the input is continued, what is printed in all is what is printed by lines.
    by_lines_law : (s : List ℕ) (x : Reached W)
        → (fed x s).out ++ ended m (fed x s).machine (fed x s).line ≡ x.out ++ by_lines m x.machine (joined x.line (pieces 10 s))
    unfolding fed pieces
    by_lines_law [] x = ap (λ (l : List ℕ). x.out ++ (unended l ++ m.last x.machine)) (sym (append-nil x.line))
    by_lines_law (b ∷ s) x =
        let ps = pieces_after 10 (drop (before (is_byte 10) s) s) in
        let p = take (before (is_byte 10) s) s in
        by_lines_law s (next x b)
        ∙ ap (λ (k : List (List ℕ)). (next x b).out ++ by_lines m (next x b).machine (joined (next x b).line k)) (pieces_step 10 s)
        ∙ one_byte x b (eqb b 10) p ps
        ∙ ap (λ (k : List (List ℕ)). x.out ++ by_lines m x.machine (joined x.line (cut (eqb b 10) b k))) (sym (pieces_step 10 s))

    -- "feeding the input in any parts gives the definition on the whole": what is printed for the parts and at the end.
    pub whatever_the_parts : {w w' : W} {line' : List ℕ} {parts outs : List (List ℕ)} → Fed w [] parts outs w' line'
        → flatten outs ++ ended m w' line' ≡ printed_for m w (flatten parts)
    unfolding printed_for
    whatever_the_parts {w} {w'} {line'} {parts} {outs} f =
        ap (λ (x : Reached W). x.out ++ ended m x.machine x.line) (sym (fed_whole f))
        ∙ by_lines_law (flatten parts) (record { out = []; machine = w; line = [] })
        ∙ ap (by_lines m w) (joined_none (pieces 10 (flatten parts)) (pieces_step 10 (flatten parts)))
      where
        joined_none : (ps : List (List ℕ)) {q : List ℕ} {qs : List (List ℕ)} → ps ≡ q ∷ qs → joined [] ps ≡ ps
        joined_none [] e = let z : ◌≡◌ {A = ℕ} 0 1 = cc in absurd (omega arith)
        joined_none (p ∷ ps) e = refl

-- ---- one machine for another

-- Two machines whose states correspond print the same.
module _ {U W : Type 0} (m : Lines W) (n : Lines U) (Stands : U → W → Type 0)
    (reply_same : (v : U) (w : W) (l : List ℕ) → Stands v w → (n.reply v l).printed ≡ (m.reply w l).printed)
    (reply_stands : (v : U) (w : W) (l : List ℕ) → Stands v w → Stands (n.reply v l).machine (m.reply w l).machine)
    (last_same : (v : U) (w : W) → Stands v w → n.last v ≡ m.last w) where
  same_by_lines : (v : U) (w : W) (ls : List (List ℕ)) → Stands v w → by_lines n v ls ≡ by_lines m w ls
  same_by_lines v w [] h = last_same v w h
  same_by_lines v w (r ∷ []) h = ap (λ (k : List ℕ). unended r ++ k) (last_same v w h)
  same_by_lines v w (l ∷ k ∷ ls) h =
      ap₂ (λ (a b : List ℕ). a ++ b) (reply_same v w l h)
      (same_by_lines (n.reply v l).machine (m.reply w l).machine (k ∷ ls) (reply_stands v w l h))

  pub same_printed : (v : U) (w : W) (input : List ℕ) → Stands v w → printed_for n v input ≡ printed_for m w input
  unfolding printed_for
  same_printed v w input h = same_by_lines v w (pieces 10 input) h
