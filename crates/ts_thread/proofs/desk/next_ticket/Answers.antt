use Rattle.std.proofs.Common.{◌∙◌, arith}
use Rattle.ts_queue.specs.Passes.{pass_view}
use Rattle.ts_thread.proofs.Tokens.{lets_go_one}
use Rattle.ts_thread.proofs.desk.next_ticket.Goals as goal

pub looks-preserved : goal.looks-preserved
looks-preserved g c =
    let ticket = c.in_ok-ticket.ensures in
    let foreign = c.if-ticket-groups.false in (
      ticket.pass,
      lets_go_one c.args.groups (pass_view c.args.pass.now) (pass_view c.looks.pass)
          (pass_view c.take.new.pass) c.in_ok-ticket.ticket c.looks.invariant.1 ticket.took (omega arith),
      ticket.empties ∙ c.looks.invariant.2,
    )
