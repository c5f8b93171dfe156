-- Nothing was looked at before.
use Rattle.std.proofs.Common.{◌≡◌, ◌-◌, ap, arith, length, subst, sym, take}
use Rattle.ts_wire.specs.Heads.{LacksRequest}
use Rattle.ts_session.proofs.FoundHeads.{lacks_none}
use Rattle.ts_session.proofs.request.Request.behind.Goals as goal

pub decide-requires-clause-fresh : goal.decide-requires-clause-fresh
decide-requires-clause-fresh c = omega (arith, c.len-fresh.ensures)

pub decide-requires-clause-lacks : goal.decide-requires-clause-lacks
decide-requires-clause-lacks c =
    let none : length c.args.held - c.len-fresh.result ≡ 0 = omega (arith, c.len-fresh.ensures) in
    subst LacksRequest (sym (ap (λ n. take n c.args.held) none)) lacks_none
