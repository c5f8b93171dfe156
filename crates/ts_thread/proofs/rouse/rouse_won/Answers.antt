-- A group that was won and roused is left as one that was started.
use Rattle.std.proofs.Common.{refl, sym, ◌∙◌, ◌<◌, subst, arith}
use Rattle.std.specs.Prelude.{⊤}
use Rattle.ts_slot.specs.Words.{tags_of, view}
use Rattle.ts_thread.specs.Held.{HasTurn}
use Rattle.ts_thread.specs.News.{HasPlaceAt}
use Rattle.ts_thread.proofs.Groups.{ok_to}
use Rattle.ts_thread.proofs.Starts.{start_fits, starts_won}
use Rattle.ts_thread.proofs.Worked.{given_marks}
use Rattle.ts_thread.proofs.rouse.rouse_won.Goals as goal

pub leave-requires-clause-marks : goal.leave-requires-clause-marks
leave-requires-clause-marks g c mark there =
    given_marks g.W.Slotted.fits c.value.result.now c.begin.new.group c.args.turn.found.value
    c.number-number.result c.args.turn.number c.number-owner.result
    c.args.desk.now.seat.number
    c.in-Err.ensures.err.0
    (c.value.ensures.value ∙ sym c.requires.won.found)
    c.number-number.ensures
    c.number-owner.ensures
    mark
    there

pub end_turn-requires-clause-fits : goal.end_turn-requires-clause-fits
end_turn-requires-clause-fits g c =
    let tag = c.requires.tag in
    let begun = c.in_default.ensures in
    let later : c.args.turn.boxed.value.cx.log.state.turns < c.number-number.result = let h =
    c.requires.won.later in let e = c.number-number.ensures in omega arith in
    start_fits g.W.Slotted.fits g.W.World.sound g.W.World.only_asked g.W.World.is_first (λ old new. ⊤)
    (tags_of c.args.shared.now.slots.now) c.args.turn.group c.args.turn.group c.number-number.result
    c.number-owner.result
    c.args.turn.boxed.value
    c.value.result.now
    c.begin.new.group
    c.value-2.result.now
    c.rouse.new.group
    tag.0
    c.requires.fits
    tag.1
    tag.2
    refl
    c.value.ensures.value
    begun.begun
    begun.same
    c.value-2.ensures.value
    c.rouse.ensures.rouses
    later

pub returns-clause-roused : goal.returns-clause-roused
returns-clause-roused g c =
    let won = c.requires.won in
    let begun = c.in_default.ensures in
    ok_to c.end_turn.result
    (λ ends. record {
      turn = c.args.turn.number;
      found = c.args.turn.found.value;
      started = c.rouse.new.group;
      left = ends.left;
      starts = starts_won g.W.Slotted.fits g.W.World.sound g.W.World.only_asked g.W.World.is_first
          (λ old new. ⊤) (tags_of c.args.shared.now.slots.now)
          (HasPlaceAt c.args.moment c.end_turn.new.desk) c.args.turn.group c.args.turn.number c.number-owner.result
          c.args.turn.found.value
          c.args.turn.boxed.value
          c.value.result.now
          c.begin.new.group
          c.value-2.result.now
          c.rouse.new.group
          ends.left
          (view c.args.desk.now.seat)
          (view c.end_turn.new.desk.seat)
          c.requires.fits
          won.found
          c.value.ensures.value
          (subst (λ n. HasTurn g.W.Slotted.fits c.value.result.now c.begin.new.group n c.number-owner.result)
          c.number-number.ensures begun.begun)
          begun.same
          c.value-2.ensures.value
          c.rouse.ensures.rouses
          won.later
          won.knows
          c.end_turn.ensures.leaves.seat
          ends.as_now.world
          ends.as_now.made
          ends.as_now.later
          ends.told.none
          ends.told.each
          ends.knows;
    })
    c.end_turn.ensures.ends
