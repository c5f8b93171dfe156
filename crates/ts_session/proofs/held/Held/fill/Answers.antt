-- What came stands behind what was held.
use Rattle.std.proofs.Common.{◌≤◌, ◌-◌, ap, arith, drop, length, subst, sym, ◌∙◌}
use Rattle.std.proofs.Common.{◌+◌}
use Rattle.std.specs.List.{slice_range}
use Rattle.std.proofs.lemmas.List.{take-take}
use Rattle.ts_session.specs.Held.{AreBlank}
use Rattle.ts_session.proofs.EmptyLines.{blank_moved}
use Rattle.ts_session.proofs.HeldBytes.{slice_more}
use Rattle.ts_session.proofs.held.Held.fill.Goals as goal

pub blank_len-self-inside-requires-clause-blank : goal.blank_len-self-inside-requires-clause-blank
blank_len-self-inside-requires-clause-blank g c =
    let x = c.self.inside in
    let room = c.move_front.new.room.items in
    let reads = c.read_behind-got.ensures.reads in
    let within : x.to - x.from ≤ length room = omega (arith, reads.long) in
    blank_moved (slice_range x.room.items x.from x.to) room c.deref.result.now reads.into (x.to - x.from) x.blank
    c.self.invariant.3 within c.move_front.ensures.front (c.deref.ensures.value ∙ reads.room_is)
    (subst AreBlank (sym (take-take x.blank (x.to - x.from) (drop x.from x.room.items) c.self.invariant.3))
    c.self.invariant.4)

pub returns-clause-fills : goal.returns-clause-fills
returns-clause-fills g c =
    let x = c.self.inside in
    let room = c.move_front.new.room.items in
    let new = c.read_behind-got.new.room.items in
    let reads = c.read_behind-got.ensures.reads in
    let within : x.to - x.from ≤ length room = omega (arith, reads.long) in
    rw (← c.self.view_is) (record {
      into = reads.into;
      reads = reads.reads;
      whole = reads.whole;
      held_is = ap (λ k. slice_range new 0 ((x.to - x.from) + k)) c.count_of.ensures
          ∙ slice_more x.room.items room new reads.into x.from x.to _ within c.move_front.ensures.front
          reads.room_is;
    })
