-- Tables that represent the library of an accepted text, and hold what a start works out from them, fit that text's program.
use Prim.Native.Nat.{ℕ, zero, suc, ◌+◌, ◌/◌, ◌%◌, ◌≤◌, ◌<◌}
use Rattle.std.specs.Prelude.{◌≡◌, Bool, cond, ◌&&◌, ◌||◌, take, drop}
use Rattle.std.proofs.Math.Path.{refl, ap, ap₂, subst}
use Rattle.std.proofs.Common.{sym, ◌∙◌, arith}
use Rattle.std.proofs.Math.Bool.{true, false}
use Rattle.std.proofs.Math.Option.{none}
use mathlib.Core.List.{List, [], map}
use Rattle.std.proofs.Math.ListN.{length, get_or, get_or-eq_default}
use Rattle.std.proofs.lemmas.List.{length-map}
use Rattle.std.proofs.Math.Dec.{eqb, ltb}
use borrow.Author.Tests.{ltb-true, ltb-false}
use Rattle.layout.specs.Layout.{ancestors_at, commuting_at, object_class_at}
use Rattle.model.specs.Base.{upto}
use Rattle.model.specs.Text.{words, lines_and_rest}
use Rattle.model.specs.Expression as Expression
use Rattle.model.specs.Form.{reply, statement_line, form_of}
use Rattle.model.specs.Library.{Library, Member, Class, Placed, Object, no_member, class_at, as_recorded, method_names}
use Rattle.model.specs.Read.{accepted, refused, library_in, read_pieces, read, library}
use Rattle.model.specs.Vector.{program, program_by, transitive}
use Rattle.model.specs.Image.{commute_mask}
use Rattle.model.specs.Message.{size_of, base_of}
use Rattle.model.specs.Message as Model
use Rattle.laws.specs.Basics.{All}
use Rattle.laws.specs.Lists.{upto_at, map_at}
use Rattle.text_theory.specs.Accepted.{Within, unique_place, Good, all_below, class_good, Sound, Known, Placing, library_sound, library_known, library_placing, Inside, library_within}
use Rattle.text_theory.specs.Copies.{Copied, library_copied}
use Rattle.text_theory.specs.Named.{Names}
use Rattle.text_theory.specs.NamedLines.{library_names}
use Rattle.catalog.specs.View.{part_of, class_word, object_word, statement_word, class_count, object_count, statement_count, member_count, members_of, class_of, placed_of, object_of, library_of}
use Rattle.laws.specs.Bits.{bit, bit_mask}
use Rattle.laws.specs.Upto.{length_upto, get_d_upto}
use Rattle.catalog.specs.Look.{class_count_law, statement_count_law, object_count_law, member_count_law, class_at_law, shown_members, shown_count}
use Rattle.output.specs.Each.{total}
use Rattle.machine_refinement.specs.Rep.{statement_at, Distinct, Fits}
use Rattle.machine_start.specs.Worked.{belongs, domain_mask, values_of, first_value}
use Rattle.machine_start.specs.Stored.{WorkedOut}

-- An accepted text is not too long.
pub accepted_size : (text : List ℕ) (l : Library) → read text ≡ accepted l → length text ≤ 32768
unfolding read
accepted_size text l e = go (ltb 32768 (length text)) refl e
  where
    go : (t : Bool) → ltb 32768 (length text) ≡ t → cond t (refused 11 0) (read_pieces (lines_and_rest text)) ≡ accepted l → length text ≤ 32768
    go true t q = let z : ◌≡◌ {A = ℕ} 0 1 = cc in absurd (omega arith)
    go false t q = ltb-false 32768 (length text) t

-- ---- the library that the words represent

module _ (text ws : List ℕ) where
  abbrev l : Library
  l = library_of text ws

  methods_are : (c : ℕ) → c < class_count ws → (class_at l c).methods ≡ members_of text ws c 1
  unfolding class_of
  methods_are c h = ap (λ (k : Class). k.methods) (class_at_law text ws c h)

  method_count : (c : ℕ) → c < class_count ws → length (class_at l c).methods ≡ member_count ws c 1
  method_count c h = ap length (methods_are c h) ∙ member_count_law text ws c 1

  ancestors_are : (d : ℕ) → d < class_count ws → (class_at l d).ancestors ≡ bit (class_word ws d ancestors_at)
  unfolding class_of
  ancestors_are d h = ap (λ (k : Class). k.ancestors) (class_at_law text ws d h)

  object_at : (o : ℕ) (d : Object) → o < object_count ws → get_or l.objects o d ≡ object_of text ws o
  unfolding library_of
  object_at o d h = get_d_upto (object_of text ws) (object_count ws) o d h

  statement_at_law : (s : ℕ) (d : Placed) → s < statement_count ws → get_or l.statements s d ≡ placed_of text ws s
  unfolding library_of
  statement_at_law s d h = get_d_upto (placed_of text ws) (statement_count ws) s d h

  class_of_law : (o : ℕ) → o < object_count ws → Model.class_of (program l) o ≡ object_word ws o object_class_at
  unfolding program program_by object_of
  class_of_law o h =
      map_at (λ (x : Object). x.class) l.objects o (object_of text ws o) (length l.classes) (omega (arith, object_count_law text ws))
      ∙ ap (λ (x : Object). x.class) (object_at o (object_of text ws o) h)

  -- ---- the program

  vectors_at : (c : ℕ) → c < class_count ws → get_or (program l).vectors c [] ≡ map (transitive l (as_recorded l) c) (method_names l c)
  unfolding program program_by
  vectors_at c h = upto_at (λ k. map (transitive l (as_recorded l) k) (method_names l k)) [] (length l.classes) c (omega (arith, class_count_law text ws))

  rows_are : (c : ℕ) → c < class_count ws → length (get_or (program l).vectors c []) ≡ member_count ws c 1
  rows_are c h =
      ap length (vectors_at c h)
      ∙ length-map (method_names l c) (transitive l (as_recorded l) c)
      ∙ length-map (class_at l c).methods (λ (m : Member). m.name)
      ∙ method_count c h

  -- ---- domains

  belongs_is : (c d : ℕ) → d < class_count ws → belongs ws c d ≡ Model.in_domain (program l) c d
  unfolding belongs program program_by
  belongs_is c d h = ap (λ (f : ℕ → Bool). eqb d c || f c) (sym (ancestors_are d h))

  domain_bit : (c d : ℕ) → bit (domain_mask ws c) d ≡ (ltb d (class_count ws) && Model.in_domain (program l) c d)
  unfolding domain_mask
  domain_bit c d = bit_mask (upto (belongs ws c) (class_count ws)) d ∙ go (ltb d (class_count ws)) refl
    where
      go : (t : Bool) → ltb d (class_count ws) ≡ t → get_or (upto (belongs ws c) (class_count ws)) d false ≡ (t && Model.in_domain (program l) c d)
      go true t =
          let h = ltb-true d (class_count ws) t in
          get_d_upto (belongs ws c) (class_count ws) d false h ∙ belongs_is c d h
      go false t =
          get_or-eq_default (upto (belongs ws c) (class_count ws)) false
          (omega (arith, ltb-false d (class_count ws) t, length_upto (belongs ws c) (class_count ws)))

  -- ---- where values begin

  size_is : (o : ℕ) → o < object_count ws → size_of (program l) o ≡ values_of ws o
  unfolding program program_by
  size_is o h =
      ap (λ (c : ℕ). length (class_at l c).fields) (class_of_law o h)
      ∙ ap length (shown_members text ws (object_word ws o object_class_at) 0 (omega arith))
      ∙ length_upto _ (shown_count ws (object_word ws o object_class_at) 0)

  pub base_is : (o : ℕ) → o ≤ object_count ws → first_value ws o ≡ base_of (program l) o
  unfolding first_value base_of total
  base_is zero h = refl
  base_is (suc o) h = ap₂ ◌+◌ (base_is o (omega arith)) (sym (size_is o (omega arith)))

  -- ---- what accepting the text gives

  module _ (e : read text ≡ accepted (library_of text ws)) where
    library_is : library text ≡ l
    unfolding library
    library_is = ap library_in e

    known : (o : ℕ) → o < object_count ws → object_word ws o object_class_at < class_count ws
    unfolding object_of
    known o h =
        let all : Known l = subst Known library_is (library_known text) in
        let there = all_below (λ (x : Object). x.class < length l.classes) l.objects (object_of text ws o) all o (omega (arith, object_count_law text ws)) in
        omega (arith, there, class_count_law text ws, ap (λ (x : Object). x.class) (object_at o (object_of text ws o) h))

    good : (c : ℕ) → Good (length l.statements) (class_at l c).methods
    good c = class_good l (length l.statements) (subst Sound library_is (library_sound text)) c

    distinct : (c : ℕ) → Distinct (program l) c
    unfolding program program_by
    distinct c j h = unique_place (class_at l c).methods (good c).unique j h

    bodies : (c j : ℕ) → c < class_count ws → j < member_count ws c 1
        → let b = get_or (class_at (program l).library c).methods j no_member in b.first + b.count ≤ statement_count ws
    unfolding program program_by
    bodies c j h k =
        let there = all_below (Within (length l.statements)) (class_at l c).methods no_member (good c).within j (omega (arith, method_count c h)) in
        omega (arith, there, statement_count_law text ws)

    copies : (c j : ℕ) → c < class_count ws → j < member_count ws c 1 → Copied (program l).library (get_or (class_at (program l).library c).methods j no_member)
    unfolding program program_by
    copies c j h k =
        subst (λ (z : Library). j < length (class_at z c).methods → Copied z (get_or (class_at z c).methods j no_member)) library_is (library_copied text c j)
        (omega (arith, method_count c h))

    lines : (s : ℕ) → s < statement_count ws → form_of (words (part_of text (statement_word ws s))) ≡ statement_line (statement_at (program l).library s)
    unfolding program program_by placed_of part_of
    lines s h =
        let all : Placing text l = subst (Placing text) library_is (library_placing text) in
        let long : s < length l.statements = omega (arith, statement_count_law text ws) in
        let at = statement_at_law s (placed_of text ws s) h in
        let there = all_below (λ (x : Placed). form_of (words (take x.size (drop x.at text))) ≡ statement_line x.statement) l.statements (placed_of text ws s) all s long in
        ap (λ (x : Placed). form_of (words (take x.size (drop x.at text)))) (sym at)
        ∙ there
        ∙ ap statement_line (sym (map_at (λ (x : Placed). x.statement) l.statements s (placed_of text ws s) (record { guard = none; action = reply (Expression.number 0) }) long))

    places : (s : ℕ) → s < statement_count ws → let w = statement_word ws s in w / 65536 + w % 65536 ≤ length text
    unfolding placed_of
    places s h =
        let all = subst (λ (z : Library). All (Inside text) z.statements) library_is (library_within text) in
        let there = all_below (Inside text) l.statements (placed_of text ws s) all s (omega (arith, statement_count_law text ws)) in
        rw (statement_at_law s (placed_of text ws s) h) at there

    -- ---- all of it

    -- The tables fit, where they hold the masks too.
    pub fitting : WorkedOut ws
        → ((c j : ℕ) → c < class_count ws → j < member_count ws c 1
        → class_word ws c (commuting_at + j) ≡ commute_mask (get_or (program l).vectors c []) (get_or (get_or (program l).vectors c []) j []))
        → Fits text ws (program l)
    unfolding program program_by
    fitting w masks = record {
      library = refl;
      resolve = refl;
      commuting = masks;
      rows = rows_are;
      domains = λ c d h. ap (λ (m : ℕ). bit m d) (w.domains c h) ∙ domain_bit c d;
      bases = λ o h. w.places o h ∙ base_is o (omega arith);
      total = w.values ∙ base_is (object_count ws) (omega arith);
      known = known;
      distinct = λ c h. distinct c;
      bodies = bodies;
      copies = copies;
      lines = lines;
      places = places;
      names = subst Names library_is (library_names text);
    }
