-- A turn is counted each time, and reads one part more.
use Rattle.std.proofs.Common.{◌-◌}
use Rattle.machine_words.specs.Calls.{lending}
use Rattle.rehearse_run.specs.Plays.{turns_most, PlaysOn}
use Rattle.rehearse_run.proofs.play_all.Given as goal

abbrev pub invariant-loop-turn : goal.invariant-loop-turn
invariant-loop-turn g l = PlaysOn (lending l.text l.initial.state l.initial.values) l.initial.line (lending l.text l.state l.values) l.line l.kept (turns_most - l._turn)
