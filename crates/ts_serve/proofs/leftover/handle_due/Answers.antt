-- After a turn of one group, all fit the tags that they fitted, and were made as they were.
use Rattle.ts_thread.specs.declared.TheConstants.{MOST_TURNS}
use Rattle.ts_serve.proofs.Leftovers.{made_gone, stay_gone}
use Rattle.ts_serve.proofs.leftover.handle_due.Goals as goal

pub returns-in_err-step_at-clause-fit : goal.returns-in_err-step_at-clause-fit
returns-in_err-step_at-clause-fit g c = stay_gone g.W.Slotted.fits g.W.World.sound g.W.World.only_asked
    g.W.World.is_first g.W.World.left MOST_TURNS 1 c.step_at.result c.args.groups.now c.step_at.new.groups
    c.step_at.ensures.goes

pub returns-clause-fit : goal.returns-clause-fit
returns-clause-fit g c = stay_gone g.W.Slotted.fits g.W.World.sound g.W.World.only_asked
    g.W.World.is_first g.W.World.left MOST_TURNS 1 c.step_at.result c.args.groups.now c.step_at.new.groups
    c.step_at.ensures.goes

pub returns-in_err-step_at-clause-made : goal.returns-in_err-step_at-clause-made
returns-in_err-step_at-clause-made g c = made_gone g.W.Slotted.fits g.W.World.sound g.W.World.only_asked
    g.W.World.is_first g.W.World.left MOST_TURNS 1 c.step_at.result c.args.groups.now c.step_at.new.groups
    c.step_at.ensures.goes

pub returns-clause-made : goal.returns-clause-made
returns-clause-made g c = made_gone g.W.Slotted.fits g.W.World.sound g.W.World.only_asked
    g.W.World.is_first g.W.World.left MOST_TURNS 1 c.step_at.result c.args.groups.now c.step_at.new.groups
    c.step_at.ensures.goes
