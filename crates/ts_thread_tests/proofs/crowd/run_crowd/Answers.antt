-- The laws of a bound hold wherever a thread may run; `toy` says them where this function runs.
use Rattle.std.proofs.Common.{◌≤◌, ◌*◌, arith}
use Rattle.std.proofs.lemmas.Nat.{mul-le}
use Rattle.ts_thread.specs.declared.TheConstants.{MOST_THREADS}
use Rattle.ts_thread_tests.specs.declared.row.TheConstants.{BUDGET}
use Rattle.ts_thread_tests.proofs.ToyRows.{toys_start, toys_can_ask}
use Rattle.ts_thread_tests.proofs.crowd.run_crowd.Goals as goal

pub run_groups-requires-clause-run : goal.run_groups-requires-clause-run
run_groups-requires-clause-run g c κs within =
    let toy = g.met.W.Toy g.world.𝓛 g.world.𝓜 g.world.𝓡 ((λ s x. x), (λ x. x), (λ x. x), λ x. x) in
    let are = c.make_toys-groups.ensures in
    let n = are.count_is in
    let some = c.requires.count.0 in
    let most = c.requires.count.1 in
    let times : c.args.threads * (2 * BUDGET) ≤ MOST_THREADS * (2 * BUDGET) = mul-le c.args.threads
    (2 * BUDGET) MOST_THREADS (2 * BUDGET) c.requires.threads.1 (omega arith) in record {
      some = omega arith;
      few = omega arith;
      fits = are.fits;
      new = are.new;
      plan = record {
        tagged = toys_start g.W.Slotted.fits g.W.World.sound g.W.World.only_asked g.W.World.is_first
            (g.W.Toy.tagged c.args.todo) c.args.count _ _ (toy.works c.args.todo) are;
        some = c.requires.threads.0;
        most = c.requires.threads.1;
        turns = omega arith;
      };
      asks = toys_can_ask g.W.Slotted.fits g.W.World.only_asked g.W.World.may_ask g.W.World.right
          g.W.World.answers _ toy.alone toy.fair;
    }
