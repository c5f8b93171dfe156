use Rattle.ts_thread_tests.specs.ToyRows.{AreToys}
use Rattle.ts_thread_tests.proofs.toys.make_toys.Given as goal

abbrev pub invariant-toys : goal.invariant-toys
invariant-toys g l = AreToys g.W.Slotted.fits g.W.World.sound g.W.World.only_asked g.W.World.is_first
    (g.W.Toy.tagged l.todo) l._toy l.tags.items l.groups.items
