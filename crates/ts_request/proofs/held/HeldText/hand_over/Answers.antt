-- What is handed over is no longer held.
use Rattle.std.proofs.Common.{◌≤◌, ◌-◌, subst, sym, drop, take, arith}
use Rattle.std.specs.List.{slice_range}
use Rattle.std.proofs.lemmas.List.{length-take}
use Rattle.ts_request.specs.Held.{Copies}
use Rattle.ts_request.proofs.HeldBytes.{drop_slice}
use Rattle.ts_request.proofs.held.HeldText.hand_over.Goals as goal

pub returns : goal.returns
returns c =
    let x = c.self.inside in
    let n = c.copy_front-count.result in
    let copies : Copies (slice_range x.room.items x.from x.to) c.args.into.now c.copy_front-count.new.into n =
    subst (λ r. Copies (slice_range r x.from x.to) c.args.into.now c.copy_front-count.new.into n)
    c.deref.ensures.value c.copy_front-count.ensures in
    let within : n ≤ x.to - x.from =
    omega (arith, copies.count_is, length-take (x.to - x.from) (drop x.from x.room.items)) in
    rw (← c.self.view_is) (record {
      text = λ i. record {
        stage = x.stage;
        front = take x.kept x.room.items;
        shown = x.shown;
        used = x.used;
        behind = sym (drop_slice x.room.items x.from x.to n within) i;
      };
      copies = copies;
    })
