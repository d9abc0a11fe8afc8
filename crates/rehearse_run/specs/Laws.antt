-- What the program's functions promise, from what their parts do.
use Rattle.std.specs.Prelude.{Ok, Err, ℕ, ◌+◌, ◌*◌, ◌≤◌, ◌≡◌, refl, length, take}
use Rattle.std.proofs.Common.{arith, sym, ap, subst, ◌∙◌, inl, inr, length-append, length-take-le}
use mathlib.Core.List.{List, [], ◌∷◌, ◌++◌, flatten}
use Rattle.machine_words.specs.Calls.{Lent, lending}
use Rattle.rehearsal.specs.declared.NotReady.{NotReady}
use Rattle.rehearsal.specs.Feeds.{widest, Feeds, end_most, Finishes}
use Rattle.rehearsal.specs.Ready.{refusal_most, with_first, Prepared, Prepares}
use Rattle.rehearsal.specs.Whole.{none, played_then, refusal, play}
use Rattle.rehearse_run.specs.Plays.{PlaysPart, ReadsOnce, turns_most, PlaysOn, PlaysAll, Plays, Rehearsed}

-- There is room for an answer to each byte of a part, and what is written out is what was written.
pub plays_part : {x y : Lent} {line part out line' out' : List ℕ} {kept read kept' size written : ℕ} → widest * length part ≤ length out
    → Feeds x line kept part out read y line' kept' out' size → written ≡ size → PlaysPart x line kept part out y line' out' read kept' written
plays_part {x} {y} {line} {part} {out} {line'} {out'} {kept} {read} {kept'} room f e =
    record { whole = omega (arith, f.front); feeds = subst (λ (n : ℕ). Feeds x line kept part out read y line' kept' out' n) (sym e) f }

pub reads_once : {x y : Lent} {line part out line' out' : List ℕ} {kept read kept' written : ℕ}
    → PlaysPart x line kept part out y line' out' read kept' written → length part ≤ 4096 → ReadsOnce x line kept out y line' out' read kept' written
reads_once {part = part} p few = record { part = part; few = few; plays = p }

-- ---- turn by turn

pub plays_first : (x : Lent) (line : List ℕ) → PlaysOn x line x line 0 turns_most
plays_first x line = record { parts = []; outs = []; played = none; turns = omega arith }

module _ {x y z : Lent} {line line₁ line₂ out out₁ : List ℕ} {kept left read kept₁ written : ℕ}
    (p : PlaysOn x line y line₁ kept left) (r : ReadsOnce y line₁ kept out z line₂ out₁ read kept₁ written) where
  pub plays_next : (left₁ : ℕ) → left ≡ left₁ + 1 → PlaysOn x line z line₂ kept₁ left₁
  plays_next left₁ e = record {
    parts = p.parts ++ (take read r.part ∷ []);
    outs = p.outs ++ (take written out₁ ∷ []);
    played = played_then p.played r.plays.feeds;
    turns = omega (arith, p.turns, length-append p.parts (take read r.part ∷ []));
  }

  -- The read that gives nothing is the last.
  pub plays_end : read ≡ 0 → PlaysAll x line z line₂ kept₁
  plays_end e = record {
    parts = p.parts ++ (take read r.part ∷ []);
    outs = p.outs ++ (take written out₁ ∷ []);
    played = played_then p.played r.plays.feeds;
    ended = inl (p.parts, ap (λ (n : ℕ). p.parts ++ (take n r.part ∷ [])) e);
  }

pub plays_out : {x y : Lent} {line line' : List ℕ} {kept left : ℕ} → left ≡ 0 → PlaysOn x line y line' kept left → PlaysAll x line y line' kept
plays_out e p = record { parts = p.parts; outs = p.outs; played = p.played; ended = inr (omega (arith, p.turns)) }

-- ---- a rehearsal

-- What is written out at the end is what was written.
pub plays : {x y : Lent} {line line' room out : List ℕ} {kept size last : ℕ} → 61 ≤ length line → PlaysAll x line y line' kept → end_most ≤ length room
    → Finishes y line' kept room size out → last ≡ size → Plays x y out last
plays {x} {y} {line} {line'} {room} {out} {kept} long all wide f e = record {
  line = line;
  line' = line';
  kept = kept;
  room = room;
  long = long;
  all = all;
  wide = wide;
  finishes = subst (λ (n : ℕ). Finishes y line' kept room n out) (sym e) f;
}

module _ {text list words out : List ℕ} {y : Lent} {out₁ : List ℕ} {r : Prepared} (p : Prepares (lending text words list) out r y out₁) where
  pub refused_rehearsed : {n : NotReady} {last : ℕ} → r ≡ Err n → refusal_most ≤ length out → n.size ≤ length out₁ → last ≡ n.size → Rehearsed text last
  refused_rehearsed {n} e long fits q = record {
    parts = [] ∷ [];
    answers = [];
    lines = take n.size out₁;
    rehearses = refusal long (subst (λ (t : Prepared). Prepares (lending text words list) out t y out₁) e p);
    ended = inl ([], refl);
    count = q ∙ sym (length-take-le n.size out₁ fits);
  }

  pub played_rehearsed : {count : ℕ} → r ≡ Ok count → {z : Lent} {out₂ : List ℕ} {last : ℕ} → Plays (with_first count y) z out₂ last → last ≤ length out₂ → Rehearsed text last
  played_rehearsed {count} e {z} {out₂} {last} a fits = record {
    parts = a.all.parts;
    answers = flatten a.all.outs;
    lines = take last out₂;
    rehearses = play (subst (λ (t : Prepared). Prepares (lending text words list) out t y out₁) e p) a.long a.all.played a.wide a.finishes;
    ended = a.all.ended;
    count = sym (length-take-le last out₂ fits);
  }
