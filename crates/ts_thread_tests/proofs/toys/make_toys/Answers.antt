use Rattle.std.proofs.Common.{◌≡◌, subst, arith}
use Rattle.std.proofs.lemmas.Result.{IfOk-at_ok}
use Rattle.ts_thread_tests.specs.ToyRows.{AreToys}
use Rattle.ts_thread_tests.proofs.ToyRows.{toys_begin, toys_next}
use Rattle.ts_thread_tests.proofs.toys.make_toys.Goals as goal

pub toys-init : goal.toys-init
toys-init g c =
    toys_begin g.W.Slotted.fits g.W.World.sound g.W.World.only_asked g.W.World.is_first
    (g.W.Toy.tagged c.args.todo) c.new-tags.result.items c.new-groups.result.items
    c.new-tags.ensures.items c.new-groups.ensures.items

pub toys-preserved : goal.toys-preserved
toys-preserved g c =
    let made = c.expect-group.ensures in
    let tagged = c.tag-tag.ensures in
    toys_next g.W.Slotted.fits g.W.World.sound g.W.World.only_asked g.W.World.is_first
    (g.W.Toy.tagged c.args.todo) c.toys._toy c.toys.tags.items c.push-in-toys.new.self.items
    c.toys.groups.items c.push.new.self.items c.tag-tag.result c.expect-group.result
    c.toys.invariant
    (rw c.expect-in-toys.ensures at c.push-in-toys.ensures.items)
    (rw c.expect.ensures at c.push.ensures.items)
    tagged
    (g.met.W.Toy.works c.args.todo c.tag-tag.result tagged)
    (IfOk-at_ok _ made (c.group.ensures.fits c.tag-tag.result tagged))
    (IfOk-at_ok _ made c.group.ensures.sound)
    (IfOk-at_ok _ made c.group.ensures.fresh)

pub returns : goal.returns
returns g c =
    let is : c.toys._toy ≡ c.args.count = (let low = c.toys-test.false in let most = c.toys.auto._toy-end in
    omega arith) in
    subst (λ n. AreToys g.W.Slotted.fits g.W.World.sound g.W.World.only_asked g.W.World.is_first
    (g.W.Toy.tagged c.args.todo) n c.toys.tags.items c.toys.groups.items) is c.toys.invariant
