-- Every row of the table passes, by computation on the model, a group of rows at a time.
use Rattle.std.specs.Prelude.{◌≡◌, refl, Bool, true, false, ◌&&◌}
use mathlib.Core.List.{List, [], ◌∷◌, ◌++◌}
use Rattle.model.specs.Base.{every}
use Rattle.examples.specs.ExampleTexts.{circle, diamond, echo, endless, figure1, lanes, long, mixed, prefixed, spiral, tally, text}
use Rattle.examples.specs.Examples.{Row, passes, rows, starred, lent, vectors, machine, additions, line, circles, stops, courses, rehearsals}

abbrev Passing : List Row → Type 0
Passing rs = every passes rs ≡ true

both : (qs rs : List Row) → Passing qs → Passing rs → Passing (qs ++ rs)
unfolding every
both [] rs h k = k
both (q ∷ qs) rs h k = go (passes q) (λ e. both qs rs e k) h
  where
    go : (b : Bool) → (Passing qs → Passing (qs ++ rs)) → b && every passes qs ≡ true → b && every passes (qs ++ rs) ≡ true
    go true rest e = rest e
    go false rest e = e

starred_pass : Passing starred
unfolding every passes lanes figure1 endless text
starred_pass = refl

lent_pass : Passing lent
unfolding every passes lanes mixed text
lent_pass = refl

vectors_pass : Passing vectors
unfolding every passes text diamond circle prefixed
vectors_pass = refl

machine_pass : Passing machine
unfolding every passes mixed echo
machine_pass = refl

additions_pass : Passing additions
unfolding every passes tally text
additions_pass = refl

line_pass : Passing line
unfolding every passes mixed spiral
line_pass = refl

circles_pass : Passing circles
unfolding every passes mixed
circles_pass = refl

stops_pass : Passing stops
unfolding every passes long
stops_pass = refl

courses_pass : Passing courses
unfolding every passes mixed
courses_pass = refl

rehearsals_pass : Passing rehearsals
unfolding every passes lanes text
rehearsals_pass = refl

-- Every row passes.
pub every_row_passes : every passes rows ≡ true
every_row_passes =
    both starred _ starred_pass (both lent _ lent_pass (both vectors _ vectors_pass (both machine _ machine_pass
    (both additions _ additions_pass (both line _ line_pass (both circles _ circles_pass (both stops _ stops_pass (both courses _ courses_pass rehearsals_pass))))))))
