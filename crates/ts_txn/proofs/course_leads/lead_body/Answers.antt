-- A body that is passed on stays where it is, and one that is left is taken out.
use Rattle.std.proofs.Common.{sym, subst, ◌∙◌}
use Rattle.ts_txn.specs.CourseCover.{PassesBody}
use Rattle.ts_txn.proofs.Leading.{leads_on, leads_out}
use Rattle.ts_txn.proofs.course_leads.lead_body.Goals as goal

pub returns-then-is_passed_on : goal.returns-then-is_passed_on
returns-then-is_passed_on g c =
    leads_on c.args.step c.args.course.now c.args.main.now c.args.cx.now c.requires.relays c.requires.turn
    (sym c.is_passed_on.ensures ∙ c.if-is_passed_on.true)

pub relay_of-relay-requires : goal.relay_of-relay-requires
relay_of-relay-requires g c = subst (λ x. PassesBody x) (sym c.replace-was.ensures.value) c.requires.relays

pub returns : goal.returns
returns g c =
    leads_out c.args.step c.args.course.now c.relay_of-relay.result c.leave_body-is.result c.replace.new.dest
    c.args.main.now c.leave_body-is.new.main c.args.cx.now c.leave_body-is.new.cx
    (sym c.replace-was.ensures.value ∙ c.relay_of-relay.ensures) c.replace.ensures.after
    (record {
      led = c.leave_body-is.ensures.course;
      within = c.leave_body-is.ensures.within;
      due = c.leave_body-is.ensures.due;
      spent = c.leave_body-is.ensures.spent;
      covered = c.leave_body-is.ensures.covered;
    })
