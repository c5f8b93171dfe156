-- The call that is set is plain and due, and waits behind the others.
use Rattle.std.proofs.Common.{◌<◌, [], ◌∷◌, ◌++◌, refl, ap, ◌∙◌, arith}
use Rattle.ts_journal.specs.declared.entry.Pending.{Pending}
use Rattle.ts_journal.specs.State.{State}
use Rattle.ts_group.proofs.Grows.{waits_call}
use Rattle.ts_group.proofs.calls.call_event.Goals as goal

pub returns-in-Ok-clause-waits : goal.returns-in-Ok-clause-waits
returns-in-Ok-clause-waits c = λ k le h.
    let t : State = c.set_event.new.journal.state in
    let n = c.in-Ok.action.series in
    let p : Pending = record {
      number = n;
      key = c.args.key;
      event = c.args.event;
      due = c.args.moment;
      series
          = n;
      period = 0;
    } in
    let is = c.in-Ok.ensures.sets.ok.0 in
    let next = c.in-Ok.ensures.sets.count.0 in
    let below : n < t.next = omega arith in
    waits_call c.args.journal.now.state t c.args.moment n k c.args.calls.now.items
    c.push_reserved.new.self.items p c.set_event.ensures.stay
    (c.push_reserved.ensures.items ∙ ap (λ ns. ns ++ n ∷ []) c.reserve.ensures.items) le
    c.in-Ok.ensures.sets.there (omega arith) refl below h
