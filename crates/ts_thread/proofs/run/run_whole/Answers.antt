use Rattle.ts_thread.specs.declared.TheConstants.{MOST_ALONE}
use Rattle.ts_thread.specs.Threads.{turns_of}
use Rattle.ts_thread.proofs.Rows.{no_fault}
use Rattle.ts_thread.proofs.Ended.{all_tell, turns_enough, have_ended}
use Rattle.ts_thread.proofs.run.run_whole.Goals as goal

pub finish_within-requires-clause-fits : goal.finish_within-requires-clause-fits
finish_within-requires-clause-fits g c = (
  c.args.tags.items,
  c.requires.run.asks,
  c.in_ok-groups.ensures.groups.fits,
)

pub finish_within-requires-clause-tells : goal.finish_within-requires-clause-tells
finish_within-requires-clause-tells g c =
    all_tell g.W.Slotted.fits g.W.World.sound g.W.World.only_asked g.W.World.is_first g.W.World.left
    c.args.tags.items c.in_ok-groups.groups.items c.requires.tells c.in_ok-groups.ensures.groups.fits

pub returns-clause-ended : goal.returns-clause-ended
returns-clause-ended g c =
    let run = c.in_ok-groups.ensures.groups in
    let ends = c.in_ok-finish_within.ensures.finishes in
    have_ended g.W.Slotted.fits g.W.World.sound g.W.World.only_asked g.W.World.is_first g.W.World.left
    g.W.World.begun c.args.tags.items c.args.plan.starts c.args.plan.threads c.args.plan.budget ends.turns
    c.args.groups.items c.in_ok-groups.groups.items c.finish_within.new.groups.items run ends.goes
    ends.idle

pub returns-in_err-finish_within-clause-spares : goal.returns-in_err-finish_within-clause-spares
returns-in_err-finish_within-clause-spares g c = λ soon.
    let run = c.in_ok-groups.ensures.groups in
    no_fault c.from_residual-in_err-finish_within.result _ _ c.from_residual-in_err-finish_within.ensures.1
    (c.in_err-finish_within.ensures.spares
    (turns_enough g.W.Slotted.fits g.W.World.sound g.W.World.only_asked g.W.World.is_first g.W.World.left
    MOST_ALONE (turns_of c.args.plan.starts c.args.plan.threads c.args.plan.budget) c.args.tags.items
    c.in_ok-groups.groups.items soon run.fits run.turns))
