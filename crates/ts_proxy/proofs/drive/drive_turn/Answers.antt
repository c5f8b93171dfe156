-- The turn is one of the serial driver's where the event is what it handles next.
use Rattle.std.proofs.Common.{◌+◌, rules}
use Rattle.ts_proxy.proofs.Serial.{serial_if_ok}
use Rattle.ts_proxy.proofs.drive.drive_turn.Goals as goal

pub returns-clause-serial : goal.returns-clause-serial
returns-clause-serial g c =
    let handled = c.handle_next-handled.new.group in
    serial_if_ok c.handle_next-handled.result c.args.group.now.cx.log c.begin_alone.new.self.cx.log
    handled.cx.log c.give_turn.new.self.cx.log (c.args.group.now.cx.log.state.turns + 1)
    handled.cx.log.state.turns c.args.number c.args.moment (search rules)
    c.in-Ok.ensures.begins.by c.handle_next-handled.ensures.within c.give_turn.ensures.gives.by
