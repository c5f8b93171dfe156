use Rattle.std.proofs.Common.{◌≡◌, ◌+◌, ◌-◌, take, drop, subst, arith}
use Rattle.ts_stock.specs.Dropping.{ArePlaces}
use Rattle.ts_stock.proofs.dropping.take_block.Goals as goal

pub take_runs-requires-clause-places : goal.take_runs-requires-clause-places
take_runs-requires-clause-places c =
    let start = c.args.start in
    let whole : start + 64 - start ≡ 64 = omega arith in
    subst (λ n. ArePlaces c.args.byte (take n (drop start c.args.input.now)) c.places_in-places.result) whole
    c.places_in-places.ensures
