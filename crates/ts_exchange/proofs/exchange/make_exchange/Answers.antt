-- A transaction that was made between two ends fits the tag that names them.
use Rattle.std.proofs.Common.{◌≡◌, ◌∙◌, ap, false, refl, rules, sym}
use Rattle.std.specs.Arc.{arc_value}
use Rattle.ts_exchange.specs.Ends.{IsTagBetween, ends_of}
use Rattle.ts_txn.specs.declared.txn.TxnTag.{TxnTag}
use Rattle.ts_exchange.proofs.Made.{fits_between}
use Rattle.ts_exchange.proofs.exchange.make_exchange.Goals as goal

pub returns-clause-fits : goal.returns-clause-fits
returns-clause-fits g c =
    let tag : TxnTag g.row.C.Denot g.row.O.Denot = record {
      number = c.args.number;
      setup = c.of.result;
      plugins_at = c.args.setting.now.plugins_at;
      client = c.of-2.result;
      origin = c.of-3.result;
      sure = c.args.promise.is_sure;
      first = c.args.promise.is_first;
      started = false;
    } in
    let is : IsTagBetween (ends_of c.args.setting.now c.args.number c.args.client c.args.origin)
    c.args.promise false tag = search rules in
    let made = c.in_ok-exchange.ensures in
    fits_between g.C.Link g.O.Link (ends_of c.args.setting.now c.args.number c.args.client c.args.origin)
    c.args.promise tag c.in_ok-exchange.exchange is made.named.0
    (ap arc_value made.named.1 ∙ c.in_ok-setup.ensures.cases) made.named.2 made.links.0 made.links.1
    (λ l. g.met.C.Link.goes_still l l (g.met.C.Link.stays l))
    (λ l. g.met.O.Link.goes_still l l (g.met.O.Link.stays l)) c.requires.sure
