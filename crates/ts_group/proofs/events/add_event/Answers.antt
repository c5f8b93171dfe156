-- What the entry of an event that is set leaves.
use Rattle.std.proofs.Common.{ap}
use Rattle.ts_journal.specs.State.{State}
use Rattle.ts_group.proofs.Facts.{has_set, stay_set}
use Rattle.ts_group.proofs.events.add_event.Goals as goal

pub returns-clause-set : goal.returns-clause-set
returns-clause-set c =
    let e = c.push.ensures.state in
    has_set c.args.journal.now.state c.push.new.self.state c.args.event c.known.ensures.valid
    c.requires.can.number
    (ap (λ (s : State). s.pending) e) (ap (λ (s : State). s.next) e) (ap (λ (s : State). s.live) e)

pub returns-clause-stay : goal.returns-clause-stay
returns-clause-stay c = stay_set c.args.journal.now.state c.push.new.self.state c.args.event
    (returns-clause-set c)
