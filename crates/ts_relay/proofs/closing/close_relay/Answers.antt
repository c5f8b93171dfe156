-- The reader and the stages are gone, with their events.
use Rattle.std.proofs.Common.{refl}
use Rattle.ts_transform.proofs.Seats.{clears_then}
use Rattle.ts_relay.specs.Duties.{relay_seats}
use Rattle.ts_relay.proofs.closing.close_relay.Goals as goal

pub returns-clause-clears : goal.returns-clause-clears
returns-clause-clears g c =
    clears_then c.args.relay.reader c.args.relay.driven.table.items (relay_seats c.args.relay) c.args.cx.now
    c.destroy_end.new.cx c.close.new.cx refl c.destroy_end.ensures.clears c.close.ensures.clears
