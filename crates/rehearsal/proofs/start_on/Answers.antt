-- Both entries are done, since the lists have the lengths that they ask for.
use Rattle.rehearsal.specs.Start.{starts_on}
use Rattle.rehearsal.proofs.start_on.Goals as goal

pub returns : goal.returns
returns c =
    starts_on c.args.text.now c.args.values.now c.args.state.now c.requires c.starting_values.ensures c.start.ensures
