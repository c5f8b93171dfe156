-- The first event of a series is pending, and what its end leaves.
use Rattle.std.proofs.Common.{◌≡◌, ap, Some, sym, ◌∙◌}
use Rattle.ts_journal.specs.State.{State, first_in_series}
use Rattle.ts_journal.proofs.Lookups.{number_there}
use Rattle.ts_group.proofs.Acts.{cancels_one}
use Rattle.ts_group.proofs.events.cancel_series.Goals as goal

pub cancel_event-requires : goal.cancel_event-requires
cancel_event-requires c =
    let s : State = c.args.journal.now.state in
    let found : first_in_series c.args.series s.pending ≡ Some c.in-Some.number = ap
    (first_in_series c.args.series) (sym c.pending.ensures) ∙ sym c.in-Some.ensures in
    let there = number_there c.args.series s.pending 0 s.next c.in-Some.number c.known.ensures.valid.rises
    found in
    record {
      can = record { turn = c.requires.turn; event = there.0; there = there.1; room = c.requires.room };
    }

pub returns-in-Some-clause-cancels : goal.returns-in-Some-clause-cancels
returns-in-Some-clause-cancels c =
    let s : State = c.args.journal.now.state in
    let found : first_in_series c.args.series s.pending ≡ Some c.in-Some.number = ap
    (first_in_series c.args.series) (sym c.pending.ensures) ∙ sym c.in-Some.ensures in
    cancels_one c.args.journal.now c.cancel_event.new.journal c.args.series c.in-Some.number found
    c.cancel_event.ensures.log c.cancel_event.ensures.closed c.cancel_event.ensures.turn
