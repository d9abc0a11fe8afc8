-- How many bytes of a list a read has filled.
use Rattle.std.specs.Prelude.{Result, Ok, Err, ℕ, ◌≤◌, ◌≡◌, List, [], length, take}

-- The list has so many bytes, and so many stand at its front.
abbrev pub IsPrefixLen : ℕ → List ℕ → Type 0
IsPrefixLen n xs = (n ≤ length xs) × (n ≡ length (take n xs))

-- The bytes at the list's front, as many as an answer tells; none of a refusal.
abbrev pub front : {E : Type 0} → List ℕ → Result ℕ E → List ℕ
front list (Ok size) = take size list
front list (Err e) = []
