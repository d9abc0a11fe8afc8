-- `close_slots` meets its contract: the words of the rows and of the line are filled with 0, and those before and behind stay.
use Prim.Native.Nat.{ℕ, ◌+◌, ◌≤◌}
use mathlib.Core.Path.{◌≡◌, sym, ap, ap₂, ◌∙◌}
use mathlib.Core.List.{List, ◌++◌, append_assoc}
use native.Mathlib.Omega.{arith}
use lib.ListN.{length, length-replicate, replicate, take, drop}
use Rattle.std.proofs.Common.{rules, length-drop, length-take-le}
use Rattle.std.proofs.lemmas.List.{take-append-drop}
use Rattle.std.proofs.lemmas.Slice.{take-put_mid, drop-put_mid}
use borrow.Rule.Slice.PartMut.{put_mid}
use Rattle.layout.specs.Layout.{table_words, slots_words, state_words}
use Rattle.machine_start.proofs.close_slots.Goals as goal

-- A part of a list from `at` on put in place of as many elements.
placed : (at size end : ℕ) (ws part : List ℕ) → end ≡ at + size → end ≤ length ws → length part ≡ size
    → put_mid at size ws part ≡ take at ws ++ (part ++ drop end ws)
placed at size end ws part e h l =
    sym (take-append-drop end (put_mid at size ws part))
    ∙ ap₂ ◌++◌ (take-put_mid at size ws part end (omega arith) (omega arith)) (drop-put_mid at size ws part end (omega arith) (omega arith) l)
    ∙ append_assoc (take at ws) part (drop end ws)

pub returns : goal.returns
returns c =
    let ws = c.args.state.now in
    let size : length (take slots_words (drop table_words ws)) ≡ slots_words =
    length-take-le slots_words (drop table_words ws) (omega (arith, length-drop table_words ws)) in
    let cleared : c.fill.new.self ≡ replicate slots_words 0 = c.fill.ensures.after (search rules) ∙ ap (λ (n : ℕ). replicate n 0) size in
    placed table_words slots_words state_words ws c.fill.new.self (omega arith) c.requires (ap length cleared ∙ length-replicate {A = ℕ} slots_words 0)
    ∙ ap (λ (l : List ℕ). take table_words ws ++ (l ++ drop state_words ws)) cleared
