-- The calls of a vertex by the statements of its body: a loop that meets the callee of each meets all that it calls.
use Rattle.std.specs.Prelude.{ℕ, ◌+◌, ◌≡◌, refl}
use Rattle.std.proofs.Common.{sym, ◌∙◌}
use Rattle.std.proofs.Math.Path.{ap, subst}
use mathlib.Core.List.{List, Memᴰ}
use Rattle.model.specs.Base.{upto}
use Rattle.model.specs.Form.{Statement}
use Rattle.model.specs.Graph.{callee}
use Rattle.laws.specs.Lists.{in_upto}
use Rattle.catalog.specs.View.{part_of, statement_word, library_of}
use Rattle.vector_direct.specs.Calls.{number_in}
use Rattle.vector_direct.specs.Lines.{statement_of}
use Rattle.vector_commute.specs.Lists.{upto_in}
use Rattle.vector_compiler.specs.Nodes.{body_of_node, Calls}
use Rattle.vector_compiler.specs.Bodies.{statement_at, line_says_it}
use Rattle.vector_compiler.specs.Marks.{touch, touched, touched_more, CallsMet}

-- The number of what statement i of a run calls on an object of class c.
unfoldable pub call_at : List ℕ → List ℕ → ℕ → ℕ → ℕ → ℕ
unfolding callee
call_at text ws c first i = number_in (library_of text ws) (callee (library_of text ws) c (statement_at text ws first i).action)

module _ (text ws : List ℕ) (c first : ℕ) where
  abbrev number : Statement → ℕ
  number s = number_in (library_of text ws) (callee (library_of text ws) c s.action)

  -- A statement's callee is found by its line.
  pub call_found : (i y : ℕ) (line : List ℕ) → line ≡ part_of text (statement_word ws (first + i))
      → y ≡ number_in (library_of text ws) (callee (library_of text ws) c (statement_of line).action) → y ≡ call_at text ws c first i
  unfolding call_at
  call_found i y line e k = k ∙ ap number (line_says_it text ws first i line e)

  -- A turn of the loop.
  pub one_more_met : (n y : ℕ) (ms₀ ms ms' : List ℕ) → ms ≡ touched (call_at text ws c first) n ms₀ → y ≡ call_at text ws c first n → ms' ≡ touch y ms
      → ms' ≡ touched (call_at text ws c first) (n + 1) ms₀
  one_more_met n y ms₀ ms ms' e k r =
      r ∙ ap (λ (x : ℕ). touch x ms) k ∙ ap (touch (call_at text ws c first n)) e ∙ touched_more (call_at text ws c first) n ms₀

  -- The end of the loop.
  pub calls_met : (x n size : ℕ) (ms ms' : List ℕ) → n ≡ size
      → body_of_node text ws x ≡ upto (statement_at text ws first) size
      → ms' ≡ touched (call_at text ws c first) n ms → CallsMet (Calls text ws c) x ms ms'
  unfolding call_at
  calls_met x n size ms ms' e b r = record {
    call = call_at text ws c first;
    count = size;
    sound = λ j h k. record {
      by = statement_at text ws first j;
      written = subst (Memᴰ (statement_at text ws first j)) (sym b) (in_upto (statement_at text ws first) size j h);
      called = refl;
      is = k;
    };
    complete = λ y k.
        let (j, h, q) = upto_in (statement_at text ws first) size (subst (Memᴰ k.by) b k.written) in
        (j, h, ap number (sym q) ∙ k.called, k.is);
    result = r ∙ ap (λ (m : ℕ). touched (call_at text ws c first) m ms) e;
  }
