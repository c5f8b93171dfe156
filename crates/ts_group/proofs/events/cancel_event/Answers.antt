-- The end of a pending event leaves the others.
use Rattle.std.proofs.Common.{◌≡◌, ◌+◌, ap, ◌∙◌, arith}
use Rattle.ts_journal.specs.State.{State}
use Rattle.ts_group.specs.Context.{needed}
use Rattle.ts_group.proofs.Facts.{has_closed, less_closed, stay_less}
use Rattle.ts_group.proofs.Room.{needed_closed}
use Rattle.ts_group.proofs.events.cancel_event.Goals as goal

pub returns-clause-closed : goal.returns-clause-closed
returns-clause-closed c =
    let can = c.requires.can in
    let e = c.push.ensures.state in
    has_closed c.args.journal.now.state c.push.new.self.state c.args.number can.event c.known.ensures.valid
    can.there
    (ap (λ (x : State). x.pending) e) (ap (λ (x : State). x.next) e) (ap (λ (x : State). x.live) e)

pub returns-clause-stay : goal.returns-clause-stay
returns-clause-stay c = stay_less c.args.journal.now.state c.push.new.self.state
    (less_closed c.args.journal.now.state c.push.new.self.state c.args.number (returns-clause-closed c))

pub returns-clause-room : goal.returns-clause-room
returns-clause-room c =
    let can = c.requires.can in
    let s : State = c.args.journal.now.state in
    let t : State = c.push.new.self.state in
    let e = c.push.ensures.state in
    let n : needed t + 1 ≡ needed s = needed_closed s t c.args.number can.event can.there can.turn
    (ap (λ (x : State). x.pending) e) (ap (λ (x : State). x.live) e)
    (ap (λ (x : State). x.held) e ∙ can.turn) in
    let room = can.room in
    let left = c.push.ensures.room in
    omega arith
