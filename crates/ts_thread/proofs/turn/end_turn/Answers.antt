use Rattle.std.proofs.Common.{refl, sym, ap, arith}
use Rattle.ts_lists.proofs.Places.{place_below}
use Rattle.ts_slot.specs.Words.{tags_of}
use Rattle.ts_thread.proofs.Ends.{told_given, ends_turn}
use Rattle.ts_thread.proofs.Groups.{ok_to}
use Rattle.ts_thread.proofs.Worked.{given_marks}
use Rattle.ts_thread.proofs.turn.end_turn.Goals as goal

pub tell_news-told-requires-clause-group : goal.tell_news-told-requires-clause-group
tell_news-told-requires-clause-group g c =
    let low = place_below (tags_of c.args.shared.now.slots.now) c.args.turn.group c.requires.fits.0 c.requires.fits.1 in
    let is = c.group-k.ensures in omega arith

pub leave-requires-clause-marks : goal.leave-requires-clause-marks
leave-requires-clause-marks g c mark there =
    let told = c.tell_news-told.ensures in
    let given = told_given g.W.Slotted.fits c.args.turn.found.value c.args.turn.boxed.value c.value.result.now
    c.tell_news-told.new.group c.value-2.result.now c.give.new.group c.args.turn.number
    c.args.desk.now.seat.number c.requires.has c.value.ensures.value told.same c.value-2.ensures.value
    c.give.ensures.gives in
    given_marks g.W.Slotted.fits c.args.turn.found.value c.give.new.group c.args.turn.found.value
    c.args.turn.number c.args.turn.number c.args.desk.now.seat.number
    c.tell_news-told.new.desk.seat.number given refl refl (ap (λ s. s.number) (sym told.seat.0)) mark
    there

pub returns-clause-ends : goal.returns-clause-ends
returns-clause-ends g c =
    let told = c.tell_news-told.ensures in
    ok_to c.tell_news-told.result
    (ends_turn c.args.hands_over c.args.turn.group c.group-k.result c.args.turn.number c.args.moment
    c.args.turn.boxed.value c.value.result.now c.tell_news-told.new.group c.value-2.result.now c.give.new.group
    c.args.desk.now
    c.tell_news-told.new.desk
    (record {
      seat = c.leave.new.seat;
      pass = c.tell_news-told.new.desk.pass;
      wheel =
          c.tell_news-told.new.desk.wheel;
    })
    c.group-k.ensures
    c.value.ensures.value
    told.same.cx
    told.same.world
    c.value-2.ensures.value
    c.give.ensures.gives
    refl
    refl
    c.leave.ensures.knows)
    told.told
