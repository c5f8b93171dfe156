-- The laws of a bound hold wherever a thread may run; `toy` says them where this function runs.
use Rattle.std.proofs.Common.{◌≡◌, ◌≤◌, ◌*◌, ◌+◌, ◌<◌, All, length, arith}
use Rattle.std.proofs.lemmas.Result.{IfOk-weaker}
use Rattle.std.proofs.lemmas.Nat.{mul-le}
use Rattle.ts_group.specs.declared.slot.TheConstants.{MOST_IN_TURN}
use Rattle.ts_toys.specs.declared.toy.TheConstants.{MOST_WORK}
use Rattle.ts_thread.specs.declared.TheConstants.{MOST_ALONE, MOST_THREADS}
use Rattle.ts_thread.specs.Threads.{turns_of}
use Rattle.ts_thread_tests.specs.declared.row.TheConstants.{BUDGET}
use Rattle.ts_thread_tests.specs.declared.toys.TheConstants.{TOYS}
use Rattle.ts_thread_tests.specs.ToyRows.{HasEnded}
use Rattle.ts_thread_tests.proofs.ToyRows.{toys_start, toys_can_ask, row_tells, row_ends, toys_count, all_ended}
use Rattle.ts_thread_tests.proofs.Ends.{only_memory}
use Rattle.ts_thread_tests.proofs.toys.run_toys.Goals as goal

pub run_whole-requires-clause-run : goal.run_whole-requires-clause-run
run_whole-requires-clause-run g c κs within =
    let toy = g.met.W.Toy g.world.𝓛 g.world.𝓜 g.world.𝓡 ((λ s x. x), (λ x. x), (λ x. x), λ x. x) in
    let are = c.make_toys-groups.ensures in
    let n = are.count_is in
    let times : c.args.threads * (2 * BUDGET) ≤ MOST_THREADS * (2 * BUDGET) = mul-le c.args.threads
    (2 * BUDGET) MOST_THREADS (2 * BUDGET) c.requires.threads.1 (omega arith) in record {
      some = omega arith;
      few = omega arith;
      fits = are.fits;
      new = are.new;
      plan = record {
        tagged = toys_start g.W.Slotted.fits g.W.World.sound g.W.World.only_asked g.W.World.is_first
            (g.W.Toy.tagged c.args.todo) TOYS _ _ (toy.works c.args.todo) are;
        some = c.requires.threads.0;
        most = c.requires.threads.1;
        turns = omega arith;
      };
      asks = toys_can_ask g.W.Slotted.fits g.W.World.only_asked g.W.World.may_ask g.W.World.right
          g.W.World.answers _ toy.alone toy.fair;
    }

pub run_whole-requires-clause-tells : goal.run_whole-requires-clause-tells
run_whole-requires-clause-tells g c κs within =
    let toy = g.met.W.Toy g.world.𝓛 g.world.𝓜 g.world.𝓡 ((λ s x. x), (λ x. x), (λ x. x), λ x. x) in
    row_tells g.W.Slotted.fits g.W.World.sound g.W.World.only_asked g.W.World.is_first g.W.World.left
    toy.little (g.W.Toy.tagged c.args.todo) TOYS _ _ c.make_toys-groups.ensures

pub returns-clause-count : goal.returns-clause-count
returns-clause-count g c =
    IfOk-weaker c.run_whole.result _ (λ gs. length gs.items ≡ TOYS)
    (λ gs ended. toys_count g.W.Slotted.fits g.W.World.sound g.W.World.only_asked g.W.World.is_first
    (g.W.Toy.tagged c.args.todo) TOYS _ _ gs.items c.make_toys-groups.ensures ended.fits)
    c.run_whole.ensures.ended

pub returns-clause-ended : goal.returns-clause-ended
returns-clause-ended g c =
    let toy = g.met.W.Toy g.world.𝓛 g.world.𝓜 g.world.𝓡 ((λ s x. x), (λ x. x), (λ x. x), λ x. x) in
    IfOk-weaker c.run_whole.result _ (λ gs. All (HasEnded (g.W.Toy.counted c.args.todo)) gs.items)
    (λ gs ended.
    all_ended g.W.Slotted.fits g.W.World.sound g.W.World.only_asked g.W.World.is_first
    (g.W.Toy.tagged c.args.todo) (g.W.Toy.counted c.args.todo) _ gs.items (toy.ends c.args.todo)
    c.make_toys-groups.ensures.tagged ended.fits ended.idle)
    c.run_whole.ensures.ended

pub returns-clause-lacks : goal.returns-clause-lacks
returns-clause-lacks g c =
    let toy = g.met.W.Toy g.world.𝓛 g.world.𝓜 g.world.𝓡 ((λ s x. x), (λ x. x), (λ x. x), λ x. x) in
    let times : c.args.threads * (2 * BUDGET) ≤ MOST_THREADS * (2 * BUDGET) = mul-le c.args.threads
    (2 * BUDGET) MOST_THREADS (2 * BUDGET) c.requires.threads.1 (omega arith) in
    let low : turns_of TOYS c.args.threads BUDGET + TOYS *
    (MOST_IN_TURN * turns_of TOYS c.args.threads BUDGET + 1 + MOST_WORK) + 1 < MOST_ALONE = omega arith in
    only_memory c.run_whole.result (c.run_whole.ensures.spares
    (row_ends g.W.Slotted.fits g.W.World.sound g.W.World.only_asked g.W.World.is_first g.W.World.left
    toy.little (g.W.Toy.tagged c.args.todo) (turns_of TOYS c.args.threads BUDGET) TOYS _ _
    c.make_toys-groups.ensures low))
