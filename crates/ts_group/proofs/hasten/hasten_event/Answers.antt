-- A late event gets one that is due at once in its place, or stays.
use Rattle.std.proofs.Common.{◌≡◌, Some, ap, sym, ◌∙◌}
use Rattle.ts_journal.specs.State.{State}
use Rattle.ts_group.specs.Late.{late_in}
use Rattle.ts_group.proofs.Late.{hastens_err, hastens_one, late_there}
use Rattle.ts_group.proofs.hasten.hasten_event.Goals as goal

pub cancel_event-requires : goal.cancel_event-requires
cancel_event-requires c =
    let s : State = c.args.journal.now.state in
    let late = c.in-Some.late in
    let found : late_in c.args.key c.args.moment s.pending ≡ Some late = ap
    (late_in c.args.key c.args.moment) (sym c.pending.ensures) ∙ sym c.in-Some.ensures in
    let there = late_there c.args.key c.args.moment s.pending 0 s.next late c.known.ensures.valid.rises found
    in
    record {
      can = record {
        turn = c.in-Ok.ensures.sets.turn;
        event = late;
        there = c.in-Ok.ensures.sets.more.stays late.number late there.0;
        room = c.set_event.ensures.room;
      };
    }

pub returns-in-Ok-clause-hastens : goal.returns-in-Ok-clause-hastens
returns-in-Ok-clause-hastens c =
    let s : State = c.args.journal.now.state in
    let late = c.in-Some.late in
    let found : late_in c.args.key c.args.moment s.pending ≡ Some late = ap
    (late_in c.args.key c.args.moment) (sym c.pending.ensures) ∙ sym c.in-Some.ensures in
    hastens_one c.args.journal.now c.set_event.new.journal c.cancel_event.new.journal
    c.in-Ok._action c.args.key late c.args.moment c.known.ensures.valid found
    c.in-Ok.ensures.sets c.cancel_event.ensures.log c.cancel_event.ensures.closed
    c.cancel_event.ensures.turn

pub returns-in-Err-clause-hastens : goal.returns-in-Err-clause-hastens
returns-in-Err-clause-hastens c =
    let s : State = c.args.journal.now.state in
    let late = c.in-Some.late in
    let found : late_in c.args.key c.args.moment s.pending ≡ Some late = ap
    (late_in c.args.key c.args.moment) (sym c.pending.ensures) ∙ sym c.in-Some.ensures in
    hastens_err c.args.journal.now c.set_event.new.journal c.in-Err.fault c.args.key late c.args.moment
    c.known.ensures.valid found c.in-Err.ensures.sets
