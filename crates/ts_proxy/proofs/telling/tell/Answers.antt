use Rattle.std.proofs.Common.{arith, inl, inr}
use Rattle.ts_link.specs.Counts.{Rose}
use Rattle.ts_proxy.proofs.Parts.{told-broken}
use Rattle.ts_proxy.proofs.telling.tell.Goals as goal

pub returns-in-Failed : goal.returns-in-Failed
returns-in-Failed g c = λ tells.
    let old = g.E.Sink.seen c.args.err.now in
    let new = g.E.Sink.seen c.write_all.new.out in
    let rose : Rose old.faults new.faults = omega (
      arith,
      c.in-Failed.ensures.faults,
      c.loop-part.invariant.faults,
    ) in
    told-broken c.args.parts.now c.loop-part.part-index _ old (g.E.Sink.seen c.loop-part.err) new
    (c.loop-part.invariant.took tells) c.loop-part-test.true (c.in-Failed.ensures.told tells) (inl rose)

pub returns-in-NoMemory : goal.returns-in-NoMemory
returns-in-NoMemory g c = λ tells.
    let old = g.E.Sink.seen c.args.err.now in
    let new = g.E.Sink.seen c.write_all.new.out in
    let rose : Rose old.lacks new.lacks = omega (
      arith,
      c.in-NoMemory.ensures.lacks,
      c.loop-part.invariant.lacks,
    ) in
    told-broken c.args.parts.now c.loop-part.part-index _ old (g.E.Sink.seen c.loop-part.err) new
    (c.loop-part.invariant.took tells) c.loop-part-test.true (c.in-NoMemory.ensures.told tells) (inr rose)
