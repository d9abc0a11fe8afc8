-- Each turn is carried out by its own function.
use Rattle.std.proofs.Common.{refl}
use Rattle.machine_words.specs.Row.{carried}
use Rattle.machine_apply.proofs.carry.Goals as goal

pub returns-in_default : goal.returns-in_default
unfolding carried
returns-in_default c = rw c.in_default.is (record { says = refl; row_is = refl; values_are = refl })

pub returns-in-Skip : goal.returns-in-Skip
unfolding carried
returns-in-Skip c = rw (c.in-Some.is, c.in-Skip.is) (record { says = refl; row_is = c.skip.ensures; values_are = refl })

pub returns-in-Call : goal.returns-in-Call
unfolding carried
returns-in-Call c = rw (c.in-Some.is, c.in-Call.is) (record { says = refl; row_is = c.call.ensures; values_are = refl })

pub returns-in-Reply : goal.returns-in-Reply
unfolding carried
returns-in-Reply c = rw (c.in-Some.is, c.in-Reply.is) (record { says = refl; row_is = c.reply.ensures; values_are = refl })

pub returns-in-Back : goal.returns-in-Back
unfolding carried
returns-in-Back c = rw (c.in-Some.is, c.in-Back.is) (record { says = refl; row_is = c.back.ensures; values_are = refl })

pub returns-in-Next : goal.returns-in-Next
unfolding carried
returns-in-Next c = rw (c.in-Some.is, c.in-Next.is) (record { says = refl; row_is = c.enter_object.ensures; values_are = refl })

pub returns-in-Answer : goal.returns-in-Answer
unfolding carried
returns-in-Answer c = rw (c.in-Some.is, c.in-Answer.is) (record { says = refl; row_is = c.finish.ensures; values_are = refl })
