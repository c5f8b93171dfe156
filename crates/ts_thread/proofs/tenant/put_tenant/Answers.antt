-- The group that is put there was made with the number of the turn, and stands after what the turn found.
use Rattle.std.proofs.Common.{inr, ap, sym, subst}
use Rattle.ts_journal.specs.State.{State}
use Rattle.ts_group.specs.Context.{IsFresh}
use Rattle.ts_slot.specs.Words.{tags_of, view}
use Rattle.ts_thread.specs.Held.{FitsHere}
use Rattle.ts_thread.specs.Seats.{KnowsTurn}
use Rattle.ts_thread.proofs.Standing.{stands_new}
use Rattle.ts_thread.proofs.tenant.put_tenant.Goals as goal

pub leave-requires-clause-value : goal.leave-requires-clause-value
leave-requires-clause-value g c =
    let new = sym c.replace-other.ensures.after in
    let fresh = subst (λ x. IsFresh c.args.turn.number x.cx) new c.requires.fresh in
    record {
      fit = subst (FitsHere g.W.Slotted.fits g.W.World.sound g.W.World.only_asked g.W.World.is_first
          (tags_of c.args.slots.now) c.args.turn.group) new c.requires.fits;
      stamped = inr (ap (λ (s : State). s.turns) fresh.state);
      later = stands_new g.W.Slotted.fits c.args.turn.found.value c.replace-other.new.dest c.args.turn.number
          c.requires.finds.lived c.requires.finds.later fresh;
    }

pub returns-clause-knows : goal.returns-clause-knows
returns-clause-knows g c = subst
    (λ x. KnowsTurn c.args.turn.group c.args.turn.number x (view c.leave.new.seat).known)
    c.replace-other.ensures.after c.leave.ensures.knows
