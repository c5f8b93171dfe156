-- A stage that must work does something.
use Rattle.std.proofs.Common.{arith, refl}
use Rattle.ts_request.proofs.Working.{must_moves}
use Rattle.ts_request.proofs.passage.Passage.work.Goals as goal

pub returns-clause-ok : goal.returns-clause-ok
returns-clause-ok g c =
    let chain = c.args.self.now.chain in
    let pumped = c.in_ok-_pumped._pumped in
    let said = c.in_ok-_pumped.ensures in
    let moves = must_moves chain.given chain.first chain.stages c.args.at pumped c.requires.must said.answer
    in
    record {
      at = c.args.at;
      pumps = record { pumped = pumped; answers = said.answer; steps = said.steps; given = said.kept.0 };
      flow = said.flow;
      falls = λ z last. let fell = said.falls z last in omega (arith, fell, moves);
      given = said.kept.0;
      few = said.kept.1;
      others = refl;
    }
