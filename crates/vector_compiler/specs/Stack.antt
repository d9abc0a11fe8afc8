-- The stack of methods to follow: their numbers, of which the latest comes off first.
use Rattle.std.specs.Prelude.{ℕ, ◌+◌, ◌-◌, ◌&&◌, cond, ltb, set, slice_get, Option, None}
use Rattle.vector_compiler.specs.declared.closure.Stack.{Stack}

-- The stack with a method on top; as it was for a number that no method has, or where there is no room.
abbrev pub pushed : ℕ → Stack → Stack
pushed node s = cond (ltb node 512 && ltb s.count 512) (record { nodes = set s.nodes s.count node; count = s.count + 1 }) s

-- The method on top; none where the stack is empty.
abbrev pub latest : Stack → Option ℕ
latest s = cond (ltb 0 s.count) (slice_get s.nodes (s.count - 1)) None
