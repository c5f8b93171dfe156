-- Each write of the client passes on some of what is owed.
use Rattle.std.proofs.Common.{arith, refl}
use Rattle.ts_link.specs.declared.link.Put.TheVariants as P
use Rattle.ts_session.proofs.Paying.{pays_all, pays_more, pays_none, pays_nothing}
use Rattle.ts_session.proofs.writing.pay_line.Goals as goal

pub owed-init : goal.owed-init
owed-init g c = record {
  within = omega arith;
  pays = pays_nothing g.C.Link.tells c.args.from (g.C.Link.look c.args.client.now);
  goes = g.met.C.Link.stays c.args.client.now;
}

pub owed-preserved : goal.owed-preserved
owed-preserved g c = record {
  within = omega (arith, c.in-Took.ensures.writes.takes);
  pays = pays_more g.C.Link.tells c.args.from c.owed.at c.args.to (g.C.Link.look c.args.client.now)
      (g.C.Link.look c.owed.client) (g.C.Link.look c.write.new.self) c.in-Took.count c.owed.invariant.pays
      c.in-Took.ensures.writes c.owed-test.true c.requires.within;
  goes = g.met.C.Link.goes_on _ _ _ c.owed.invariant.goes c.in-Took.ensures.goes;
}

pub returns-in-Again-clause-pays : goal.returns-in-Again-clause-pays
returns-in-Again-clause-pays g c =
    pays_none g.C.Link.tells c.args.from c.owed.at (g.C.Link.look c.args.client.now)
    (g.C.Link.look c.owed.client) (g.C.Link.look c.write.new.self) P.Again _ c.owed.invariant.pays
    c.in-Again.ensures.writes refl

pub returns-in-Again-clause-goes : goal.returns-in-Again-clause-goes
returns-in-Again-clause-goes g c = g.met.C.Link.goes_on _ _ _ c.owed.invariant.goes c.in-Again.ensures.goes

pub returns-in-Failed-clause-pays : goal.returns-in-Failed-clause-pays
returns-in-Failed-clause-pays g c =
    pays_none g.C.Link.tells c.args.from c.owed.at (g.C.Link.look c.args.client.now)
    (g.C.Link.look c.owed.client) (g.C.Link.look c.write.new.self) P.Failed _ c.owed.invariant.pays
    c.in-Failed.ensures.writes refl

pub returns-in-Failed-clause-goes : goal.returns-in-Failed-clause-goes
returns-in-Failed-clause-goes g c = g.met.C.Link.goes_on _ _ _ c.owed.invariant.goes c.in-Failed.ensures.goes

pub returns-in-NoMemory-clause-pays : goal.returns-in-NoMemory-clause-pays
returns-in-NoMemory-clause-pays g c =
    pays_none g.C.Link.tells c.args.from c.owed.at (g.C.Link.look c.args.client.now)
    (g.C.Link.look c.owed.client) (g.C.Link.look c.write.new.self) P.NoMemory _ c.owed.invariant.pays
    c.in-NoMemory.ensures.writes refl

pub returns-in-NoMemory-clause-goes : goal.returns-in-NoMemory-clause-goes
returns-in-NoMemory-clause-goes g c = g.met.C.Link.goes_on _ _ _ c.owed.invariant.goes c.in-NoMemory.ensures.goes

pub returns-clause-pays : goal.returns-clause-pays
returns-clause-pays g c =
    pays_all g.C.Link.tells c.args.from c.owed.at c.args.to (g.C.Link.look c.args.client.now)
    (g.C.Link.look c.owed.client) c.owed.invariant.within c.owed-test.false c.owed.invariant.pays
