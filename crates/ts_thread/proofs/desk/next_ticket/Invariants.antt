use Rattle.std.proofs.Common.{◌≡◌}
use Rattle.ts_queue.specs.Passes.{IsPassOf, pass_view, empties_of}
use Rattle.ts_thread.specs.Tokens.{LetsGo}
use Rattle.ts_thread.proofs.desk.next_ticket.Given as goal

abbrev pub invariant-looks : goal.invariant-looks
invariant-looks g l = IsPassOf l.queue l.pass × LetsGo l.groups (pass_view l.initial.pass) (pass_view l.pass)
    × (empties_of l.pass ≡ empties_of l.initial.pass)
