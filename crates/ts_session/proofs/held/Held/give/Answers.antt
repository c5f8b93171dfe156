-- What is given is no longer held.
use Rattle.std.proofs.Common.{◌≤◌, ◌-◌, arith, drop, subst, sym}
use Rattle.std.specs.List.{slice_range}
use Rattle.std.proofs.lemmas.List.{length-take}
use Rattle.ts_session.specs.Held.{CopiesMost}
use Rattle.ts_session.proofs.HeldBytes.{drop_slice}
use Rattle.ts_session.proofs.held.Held.give.Goals as goal

pub returns : goal.returns
returns c =
    let x = c.self.inside in
    let n = c.copy_most-count.result in
    let new = c.copy_most-count.new.into in
    let copies : CopiesMost (slice_range x.room.items x.from x.to) c.args.most c.args.into.now new n =
    subst (λ r. CopiesMost (slice_range r x.from x.to) c.args.most c.args.into.now new n)
    c.deref.ensures.value c.copy_most-count.ensures in
    let within : n ≤ x.to - x.from =
    omega (arith, copies.count_is, length-take (x.to - x.from) (drop x.from x.room.items)) in
    rw (← c.self.view_is) (record {
      copies = copies;
      held_is = sym (drop_slice x.room.items x.from x.to n within);
    })
