-- An unfinished body goes up to the close, or is cut, as its end says.
use Rattle.ts_passing.proofs.Fed.{ends_closed, ends_cut}
use Rattle.ts_relay.proofs.feed.ends_here.Goals as goal

pub returns-in-Ended-finish : goal.returns-in-Ended-finish
returns-in-Ended-finish c = ends_closed c.args.body.now c.in-Ended-finish.ensures.cut

pub returns-in-Cut : goal.returns-in-Cut
returns-in-Cut c = ends_cut c.args.body.now c.in-Cut.ensures.cut
