-- From positions to pieces (words, lines, the parts of `C.M`): the piece after a divider, and where it ends.
use Rattle.std.specs.Prelude.{ℕ, suc, ◌+◌, ◌-◌, ◌≤◌, ◌<◌, ◌≡◌, refl, Bool, true, false, cond, ◌&&◌, List, [], ◌∷◌, length, take, drop, leb, ltb}
use Rattle.std.proofs.Common.{sym, ◌∙◌, add-one, arith, length-drop, drop_of_length-le, drop-cons, drop-drop, take_all, lt-ltb, le-ltb, ltb-true, ltb-false, leb-true, leb-false}
use Rattle.std.proofs.Math.Path.{ap}
use Rattle.model.specs.Base.{every}
use Rattle.model.specs.Text.{cut, pieces}
use Rattle.text_lex.specs.Scan.{is_byte, before}

-- The pieces after the divider at the front; none at the end.
abbrev pub pieces_after : ℕ → List ℕ → List (List ℕ)
pieces_after d [] = []
pieces_after d (b ∷ s) = pieces d s

abbrev pub words_after : List ℕ → List (List ℕ)
words_after s = pieces_after 32 s

-- The first piece, empty where there is none, and those after it.
abbrev pub first : List (List ℕ) → List ℕ
first [] = []
first (w ∷ ws) = w

abbrev pub others : List (List ℕ) → List (List ℕ)
others [] = []
others (w ∷ ws) = ws

abbrev pub is_empty : List (List ℕ) → Bool
is_empty [] = true
is_empty (w ∷ ws) = false

-- Where the piece after the divider at p ends; p where there is none.
unfoldable pub end_after : ℕ → List ℕ → ℕ → ℕ
unfolding before
end_after d s p = cond (ltb p (length s)) (p + 1 + before (is_byte d) (drop (p + 1) s)) p

-- The number of bytes of the pieces with a divider before each.
unfoldable pub span : List (List ℕ) → ℕ
span [] = 0
span (w ∷ ws) = 1 + length w + span ws

-- The first piece ends at the first divider.
pub pieces_step : (d : ℕ) (s : List ℕ) → pieces d s ≡ take (before (is_byte d) s) s ∷ pieces_after d (drop (before (is_byte d) s) s)
unfolding pieces before
pieces_step d [] = refl
pieces_step d (b ∷ s) = go (is_byte d b) refl (pieces_step d s)
  where
    go : (t : Bool) → is_byte d b ≡ t → pieces d s ≡ take (before (is_byte d) s) s ∷ pieces_after d (drop (before (is_byte d) s) s)
        → pieces d (b ∷ s) ≡ take (before (is_byte d) (b ∷ s)) (b ∷ s) ∷ pieces_after d (drop (before (is_byte d) (b ∷ s)) (b ∷ s))
    go true e h = rw e
    go false e h = rw e (ap (cut false b) h)

-- The same with a name for the end.
pub first_piece : (d : ℕ) (s : List ℕ) (e : ℕ) → e ≡ 0 + before (is_byte d) s → pieces d s ≡ take e s ∷ pieces_after d (drop e s)
first_piece d s e h =
    let b : before (is_byte d) s ≡ e = omega arith in
    pieces_step d s ∙ ap (λ (n : ℕ). take n s ∷ pieces_after d (drop n s)) b

module _ (d : ℕ) (s : List ℕ) (p : ℕ) where
  -- The piece that begins at p and ends at e.
  pub piece_at : (e : ℕ) → e ≡ p + before (is_byte d) (drop p s) → pieces d (drop p s) ≡ take (e - p) (drop p s) ∷ pieces_after d (drop e s)
  piece_at e h =
      let n = before (is_byte d) (drop p s) in
      let k : n ≡ e - p = omega arith in
      pieces_step d (drop p s)
      ∙ ap (λ (j : ℕ). take j (drop p s) ∷ pieces_after d (drop n (drop p s))) k
      ∙ ap (λ (l : List ℕ). take (e - p) (drop p s) ∷ pieces_after d l) (drop-drop n p s ∙ ap (λ (j : ℕ). drop j s) (sym h))

module _ (d : ℕ) (s : List ℕ) (p : ℕ) where
  -- At the end nothing follows p.
  pub none_after : length s ≤ p → pieces_after d (drop p s) ≡ []
  none_after h = rw (drop_of_length-le s h)

  pub pieces_after_law : p < length s → pieces_after d (drop p s) ≡ pieces d (drop (p + 1) s)
  pieces_after_law h = rw (add-one, drop-cons s p 0 h)

  -- The piece after the divider at p, which ends at e.
  pub next_piece : p < length s → (e : ℕ) → e ≡ p + 1 + before (is_byte d) (drop (p + 1) s)
      → pieces_after d (drop p s) ≡ take (e - (p + 1)) (drop (p + 1) s) ∷ pieces_after d (drop e s)
  next_piece h e k = pieces_after_law h ∙ piece_at d s (p + 1) e k

  -- The pieces after p, as those of the part from p + 1 on.
  pub rest_pieces : p < length s → pieces_after d (drop p s) ≡ pieces d (take (length s - (p + 1)) (drop (p + 1) s))
  rest_pieces h = pieces_after_law h ∙ ap (pieces d) (sym (take_all (length s - (p + 1)) (drop (p + 1) s) (omega (arith, length-drop (p + 1) s))))

  pub end_after_law : p < length s → end_after d s p ≡ p + 1 + before (is_byte d) (drop (p + 1) s)
  unfolding end_after
  end_after_law h = rw (lt-ltb p (length s) h)

  pub end_after_none : length s ≤ p → end_after d s p ≡ p
  unfolding end_after
  end_after_none h = rw (le-ltb p (length s) h)

  -- The other pieces follow the end of the next one.
  pub others_after : pieces_after d (drop (end_after d s p) s) ≡ others (pieces_after d (drop p s))
  others_after = go (ltb p (length s)) refl
    where
      go : (t : Bool) → ltb p (length s) ≡ t → pieces_after d (drop (end_after d s p) s) ≡ others (pieces_after d (drop p s))
      go true t = let h = ltb-true p (length s) t in ap others (sym (next_piece h (end_after d s p) (end_after_law h)))
      go false t = let h = ltb-false p (length s) t in rw (end_after_none h, none_after h)

  -- A turn of a loop over pieces: the next one, and those after its end.
  pub cons_after : p < length s → pieces_after d (drop p s) ≡ first (pieces_after d (drop p s)) ∷ pieces_after d (drop (end_after d s p) s)
  cons_after h = let e = next_piece h (end_after d s p) (end_after_law h) in e ∙ ap (λ (w : List ℕ). w ∷ pieces_after d (drop (end_after d s p) s)) (sym (ap first e))

  pub empty_after : is_empty (pieces_after d (drop p s)) ≡ leb (length s) p
  empty_after = go (leb (length s) p) refl
    where
      go : (t : Bool) → leb (length s) p ≡ t → is_empty (pieces_after d (drop p s)) ≡ leb (length s) p
      go true t = rw (t, none_after (leb-true (length s) p t))
      go false t = rw (t, pieces_after_law (leb-false (length s) p t), pieces_step d (drop (p + 1) s))

  -- The same with names for the pieces after p and for the end: one step of a walk over pieces.
  pub behind : (e : ℕ) {ps : List (List ℕ)} → e ≡ end_after d s p → pieces_after d (drop p s) ≡ ps → pieces_after d (drop e s) ≡ others ps
  behind e h k = ap (λ (j : ℕ). pieces_after d (drop j s)) h ∙ others_after ∙ ap others k

  -- Whether nothing follows p, as a test of positions.
  pub at_end : {ps : List (List ℕ)} → pieces_after d (drop p s) ≡ ps → leb (length s) p ≡ is_empty ps
  at_end k = sym empty_after ∙ ap is_empty k

  -- A test of each piece after p, as a loop makes it: at the end, at a piece that fails, at one that passes.
  module _ (test : List ℕ → Bool) where
    pub each_end : length s ≤ p → every test (pieces_after d (drop p s)) ≡ true
    unfolding every
    each_end h = rw (none_after h)

    pub each_stop : p < length s → test (first (pieces_after d (drop p s))) ≡ false → every test (pieces_after d (drop p s)) ≡ false
    unfolding every
    each_stop h e = ap (every test) (cons_after h) ∙ ap (λ (t : Bool). t && every test (pieces_after d (drop (end_after d s p) s))) e

    pub each_more : p < length s → test (first (pieces_after d (drop p s))) ≡ true
        → every test (pieces_after d (drop p s)) ≡ every test (pieces_after d (drop (end_after d s p) s))
    unfolding every
    each_more h e = ap (every test) (cons_after h) ∙ ap (λ (t : Bool). t && every test (pieces_after d (drop (end_after d s p) s))) e

span_pieces : (d : ℕ) (s : List ℕ) → span (pieces d s) ≡ 1 + length s
unfolding pieces span
span_pieces d [] = refl
span_pieces d (b ∷ s) = go (is_byte d b) (pieces d s) (span_pieces d s)
  where
    go : (t : Bool) (ps : List (List ℕ)) → span ps ≡ 1 + length s → span (cut t b ps) ≡ 1 + suc (length s)
    go true ps h = omega arith
    go false [] h = omega arith
    go false (p ∷ ps) h = omega arith

pub span_after : (d : ℕ) (s : List ℕ) → span (pieces_after d s) ≡ length s
unfolding span
span_after d [] = refl
span_after d (b ∷ s) = omega (arith, span_pieces d s)
