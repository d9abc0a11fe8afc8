-- A step that runs a statement: each action over the words matches what the model performs.
use Prim.Native.Nat.{ℕ, suc, ◌+◌, ◌/◌, ◌%◌, ◌≤◌, ◌<◌}
use Rattle.std.proofs.Common.{arith, sym, ap₂, ◌∙◌, le-ltb, leb-true, leb-false}
use Rattle.std.specs.Prelude.{◌≡◌, Bool, not, ◌||◌, List, ◌∷◌, length, get_or, eqb, leb, ltb}
use Rattle.std.proofs.Math.Path.{refl, ap, subst}
use Rattle.std.proofs.Math.Bool.{true, false, cond}
use Rattle.std.proofs.Math.Option.{Option, none, some}
use Rattle.std.proofs.lemmas.Bool.{lt-leb}
use Rattle.layout.specs.Layout.{values_most, value_count_at, object_class_at, object_values_at, depth_at, steps_at, object_at, next_at, end_at, arg_at, got_at, row_words}
use Rattle.model.specs.Text.{words}
use Rattle.model.specs.Word.{Name}
use Rattle.model.specs.Expression.{Expression, value_of}
use Rattle.model.specs.Form.{Change, Action, send, send_prefixed, Statement, Form, form_of}
use Rattle.model.specs.Form as Line
use Rattle.model.specs.Library.{Library, Member, class_at, member_place, among, class_number, class_name, body_of}
use Rattle.model.specs.Fault.{strange, strange_guard}
use Rattle.model.specs.Vector.{Program}
use Rattle.model.specs.Message.{idle, store, store_at, place_of, look, Activation, Run, Outcome, ends, stops, onward, opened, with_rest, replied, worth, called, holds, perform, guarded, limited, turn}
use Rattle.model.specs.Message as Model
use Rattle.text_theory.specs.Named.{NamedBody}
use Rattle.text_theory.specs.Named as Named
use Rattle.text_theory.specs.NamedRuns.{class_on, NamedRun, KnownAction, guard_known, statement_known}
use Rattle.catalog.specs.View.{part_of, statement_word, object_word, class_count, statement_count, object_count, member_count, members_of}
use Rattle.machine_words.specs.Row.{Turn, misfit, stop, skip, assign, call, reply, act, carried}
use Rattle.catalog.specs.Bodies.{body_in}
use Rattle.machine_words.specs.Turn.{values_at, value_in, with_value, assign_turn, call_turn, action_turn, guard_turn, statement_turn, form_turn, line_turn}
use Rattle.machine_refinement.specs.Rep.{Fits, Running, message_of, statement_at, between, activation_of, stack_of, objects_from, run_of}
use Rattle.machine_refinement.specs.Tables.{method_for, statement_total, class_is, body_found, body_is, body_end, room, assign_is, value_is}
use Rattle.machine_refinement.specs.Runs.{between_more, stack_length}
use Rattle.machine_refinement.specs.Outcomes.{Comes, by, halts, early_on, late_on, late_call, turn_on, rest_named}
use Rattle.machine_refinement.specs.Going.{skip_goes, reply_goes, call_goes}
use Rattle.machine_refinement.specs.Noting.{assign_goes}

module _ (text tables : List ℕ) (p : Program) (fits : Fits text tables p) (row values : List ℕ) (size : length row ≡ row_words) (runs : Running tables p row)
    (named : NamedRun p (run_of text p row)) (long : length values ≡ get_or tables value_count_at 0) (few : length values ≤ values_most) where
  abbrev r : Run
  r = run_of text p row

  abbrev o : ℕ
  o = get_or row object_at 0

  abbrev later : List ℕ
  later = objects_from p (message_of text row).target (suc o)

  abbrev Now : Turn → Outcome → Type 0
  Now = Comes text tables p row values

  module _ (here : o < object_count tables) (k : ℕ) (deep : get_or row depth_at 0 ≡ suc k) where
    abbrev l : Library
    l = p.library

    abbrev a : Activation
    a = activation_of l row k

    abbrev below : List Activation
    below = stack_of l row k

    abbrev from : ℕ
    from = act row k next_at

    abbrev end : ℕ
    end = act row k end_at

    abbrev fields : Name → ℕ
    fields = look p values o

    inside : end ≤ statement_count tables
    inside = runs.ends k (omega arith)

    module _ (more : from < end) where
      abbrev s : Statement
      s = statement_at l from

      abbrev a' : Activation
      a' = with_rest a (between l (suc from) end)

      rest_is : between l from end ≡ s ∷ between l (suc from) end
      rest_is = between_more l from end more (omega (arith, statement_total text tables p fits, inside))

      -- The statement's names are known.
      known : Named.named l (class_on p o) s ≡ true
      unfolding activation_of
      known =
          let all : NamedBody l (class_on p o) (s ∷ between l (suc from) end) =
          subst (NamedBody l (class_on p o)) rest_is (rest_named text tables p fits row runs here k deep named) in
          all.0

      turn_more : turn p r values ≡ limited (guarded p r o a' below fields s.action (holds a fields s.guard))
      unfolding activation_of
      turn_more = turn_on text tables p fits row runs here k deep values (s ∷ between l (suc from) end) rest_is

      -- Whatever the action, the 1,024th step stops it.
      late_any : 1024 ≤ suc (get_or row steps_at 0) → (x : Action) (b : Bool) → limited (guarded p r o a' below fields x b) ≡ stops
      late_any h x false = late_on text p row (a' ∷ below) idle h
      late_any h (Line.assign how f e) true = late_on text p row (a' ∷ below) (store_at how (place_of p o f) (worth a' fields e)) h
      late_any h (send m e) true = late_call text p row (opened (body_of l p.resolve (Model.class_of p o) m) (worth a' fields e) ∷ a' ∷ below)
          (leb 8 (length (a' ∷ below))) h
      late_any h (send_prefixed c m e) true = late_call text p row
          (opened (body_of l p.resolve (class_number l c) m) (worth a' fields e) ∷ a' ∷ below) (leb 8 (length (a' ∷ below))) h
      late_any h (Line.reply e) true = late_on text p row (replied a' (worth a' fields e) ∷ below) idle h

      module _ (early : suc (get_or row steps_at 0) < 1024) where
        abbrev c : ℕ
        c = object_word tables o object_class_at

        abbrev base : ℕ
        base = object_word tables o object_values_at

        abbrev depth : ℕ
        depth = get_or row depth_at 0

        abbrev own : List ℕ
        own = values_at tables values o (member_count tables c 0)

        abbrev value : Expression → Option ℕ
        value = value_in text tables c own (act row k arg_at) (act row k got_at)

        -- The value of an expression whose fields are known.
        worth_is : (e : Expression) → strange (class_on p o) e ≡ false → value e ≡ some (value_of fields (act row k arg_at) (act row k got_at) e)
        worth_is e h = value_is text tables p fits o here values (act row k arg_at) (act row k got_at) e h

        skips : Now skip (limited (onward r (a' ∷ below) idle))
        unfolding carried
        skips = by refl (early_on text p row (a' ∷ below) idle early) (record { matches = skip_goes text tables p row values size runs k deep early more })

        assigns : (how : Change) (i v : ℕ) → i < values_most → Now (assign how i v) (limited (onward r (a' ∷ below) (store how i v)))
        unfolding carried
        assigns how i v h =
            by refl (early_on text p row (a' ∷ below) (store how i v) early)
            (record { matches = assign_goes text tables p row values size runs k deep early more how i v h })

        replies : (v : ℕ) → Now (reply v) (limited (onward r (replied a' v ∷ below) idle))
        unfolding carried
        replies v =
            by refl (early_on text p row (replied a' v ∷ below) idle early)
            (record { matches = reply_goes text tables p row values size runs k deep early v })

        -- A self-call to a body, by its first statement and the one past its last.
        calls : (d : ℕ) (m : Name) (v : ℕ) → among (class_at l d).methods m ≡ true
            → Now (call_turn depth (some (method_for p d m)) v) (limited (called r a' below (body_of l p.resolve d m) v))
        unfolding carried
        calls d m v h = go (leb 8 (suc k)) refl
          where
            b : Member
            b = method_for p d m

            started : List Activation
            started = opened (between l b.first (b.first + b.count)) v ∷ a' ∷ below

            there : (x : Bool) → leb 8 (suc k) ≡ x → call_turn depth (some b) v ≡ cond x stop (call b.first (b.first + b.count) v)
            there x f = ap (λ (n : ℕ). call_turn n (some b) v) deep ∙ ap (λ (y : Bool). cond y stop (call b.first (b.first + b.count) v)) f

            then : (x : Bool) → leb 8 (suc k) ≡ x → limited (called r a' below (body_of l p.resolve d m) v) ≡ limited (cond x stops (onward r started idle))
            then x f =
                ap₂ (λ (n : ℕ) (ss : List Statement). limited (cond (leb 8 (suc n)) stops (onward r (opened ss v ∷ a' ∷ below) idle))) (stack_length l row k)
                (body_is text tables p fits d m h)
                ∙ ap (λ (y : Bool). limited (cond y stops (onward r started idle))) f

            go : (x : Bool) → leb 8 (suc k) ≡ x → Now (call_turn depth (some b) v) (limited (called r a' below (body_of l p.resolve d m) v))
            go true f = by (there true f) (then true f) halts
            go false f =
                by (there false f) (then false f ∙ early_on text p row started idle early)
                (record {
                  matches = call_goes text tables p row values size runs k deep early b.first (b.first + b.count) v more (omega arith)
                      (body_end text tables p fits d m) (leb-false 8 (suc k) f);
                })

        -- Each action.
        actions : (x : Action) → KnownAction l (class_on p o) x → Now (action_turn text tables c base depth value x) (limited (perform p r o a' below fields x))
        unfolding action_turn activation_of class_name
        actions (Line.assign how f e) known =
            let v = value_of fields (act row k arg_at) (act row k got_at) e in
            let i = base + member_place (members_of text tables c 0) f in
            let there = assign_is text tables p fits o here how f known.0 in
            by (ap (λ (y : Option ℕ). with_value y (assign_turn text tables c base how f)) (worth_is e known.1) ∙ there.2 v)
            (ap (λ (y : Option ℕ). limited (onward r (a' ∷ below) (store_at how y v))) there.0) (assigns how i v (omega (arith, there.1)))
        actions (send m e) known =
            let there = ap (λ (d : ℕ). body_in text tables d m) (sym (class_is text tables p fits o here)) ∙ body_found text tables p fits (Model.class_of p o) m known.0 in
            by (ap₂ (λ (y : Option ℕ) (b : Option Member). with_value y (call_turn depth b)) (worth_is e known.1) there) refl
            (calls (Model.class_of p o) m (value_of fields (act row k arg_at) (act row k got_at) e) known.0)
        actions (send_prefixed d m e) known =
            let there = ap (λ (z : Library). body_in text tables (class_number z d) m) fits.library ∙ body_found text tables p fits (class_number l d) m known.2 in
            by (ap₂ (λ (y : Option ℕ) (b : Option Member). with_value y (call_turn depth b)) (worth_is e known.3) there) refl
            (calls (class_number l d) m (value_of fields (act row k arg_at) (act row k got_at) e) known.2)
        actions (Line.reply e) known =
            by (ap (λ (y : Option ℕ). with_value y reply) (worth_is e known)) refl (replies (value_of fields (act row k arg_at) (act row k got_at) e))

        -- A guard by its value.
        guard_is : (g : Option Expression) (t : Turn) → strange_guard (class_on p o) g ≡ false → guard_turn g value t ≡ cond (holds a fields g) t skip
        unfolding activation_of
        guard_is none t h = refl
        guard_is (some e) t h =
            ap (λ (y : Option ℕ). with_value y (λ v. cond (eqb v 0) skip t)) (worth_is e h) ∙ go (eqb (value_of fields (act row k arg_at) (act row k got_at) e) 0)
          where
            go : (b : Bool) → cond b skip t ≡ cond (not b) t skip
            go true = refl
            go false = refl

        -- The statement, with its guard.
        statement : Now (statement_turn text tables c base depth value s) (turn p r values)
        statement =
            by (guard_is s.guard (action_turn text tables c base depth value s.action) (guard_known l (class_on p o) s known))
            turn_more (go (holds a fields s.guard))
          where
            go : (b : Bool) → Now (cond b (action_turn text tables c base depth value s.action) skip) (limited (guarded p r o a' below fields s.action b))
            go true = actions s.action (statement_known l (class_on p o) s known)
            go false = skips

        -- The line is that statement, and its object's class and values exist.
        line_is : line_turn text tables values o depth from (act row k arg_at) (act row k got_at) ≡ statement_turn text tables c base depth value s
        unfolding line_turn
        line_is =
            ap (λ (b : Bool). cond b misfit (form_turn (form_of (words (part_of text w))) (statement_turn text tables c base depth value))) tests
            ∙ ap (λ (x : Form). form_turn x (statement_turn text tables c base depth value)) (fits.lines from (omega (arith, inside)))
          where
            w : ℕ
            w = statement_word tables from

            size_of : ℕ
            size_of = member_count tables c 0

            tests : (leb (class_count tables) c || ltb (length values) (base + size_of) || ltb (length text) (w / 65536 + w % 65536)) ≡ false
            tests =
                let t₁ : leb (class_count tables) c ≡ false = lt-leb (class_count tables) c (fits.known o here) in
                let t₂ : ltb (length values) (base + size_of) ≡ false =
                le-ltb (length values) (base + size_of) (omega (arith, room text tables p fits o here)) in
                let t₃ : ltb (length text) (w / 65536 + w % 65536) ≡ false =
                le-ltb (length text) (w / 65536 + w % 65536) (fits.places from (omega (arith, inside))) in
                rw (t₁, t₂, t₃) refl

    -- The statement at the activation's place, unless this is the 1,024th step.
    pub goes_comes : from < end → (b : Bool) → leb 1024 (get_or row steps_at 0 + 1) ≡ b
        → Now (cond b stop (line_turn text tables values o (get_or row depth_at 0) from (act row k arg_at) (act row k got_at))) (turn p r values)
    goes_comes more true f =
        by refl (turn_more more ∙ late_any more (omega (arith, leb-true 1024 (get_or row steps_at 0 + 1) f)) (s more).action (holds a fields (s more).guard)) halts
    goes_comes more false f =
        let early : suc (get_or row steps_at 0) < 1024 = omega (arith, leb-false 1024 (get_or row steps_at 0 + 1) f) in
        by (line_is more early) refl (statement more early)
