use Rattle.std.proofs.Common.{◌++◌, ap, sym, ◌∙◌, subst}
use Rattle.std.specs.List.{slice_get}
use Rattle.ts_lists.proofs.Anys.{any_back}
use Rattle.ts_lists.proofs.Gets.{get_rest}
use Rattle.ts_thread.specs.Goings.{AllGoOn, IsWorn, came_of}
use Rattle.ts_thread.proofs.Rows.{all_both, all_refl}
use Rattle.ts_thread.proofs.end.ask_at.Goals as goal

pub ask_first-requires-clause-there : goal.ask_first-requires-clause-there
ask_first-requires-clause-there g c =
    let h = c.requires.there in
    let split = c.split_at_mut-rest.ensures in
    let before = c.split_at_mut-rest.result.0.now in
    let rest = c.split_at_mut-rest.result.1.now in (
      h.0,
      h.1,
      sym (get_rest before rest c.args.place split.front_len) ∙ ap (λ gs. slice_get gs c.args.place)
          (sym split.value) ∙ h.2,
      h.3,
      h.4,
    )

pub returns-clause-goes : goal.returns-clause-goes
returns-clause-goes g c =
    let before = c.split_at_mut-rest.result.0.now in
    let rest = c.split_at_mut-rest.result.1.now in
    subst (λ gs. AllGoOn g.W.Slotted.fits g.W.World.sound g.W.World.only_asked g.W.World.is_first
    g.W.World.left c.args.limit (came_of c.ask_first.result) gs (before ++ c.ask_first.new.groups) 1)
    (sym c.split_at_mut-rest.ensures.value)
    (all_both g.W.Slotted.fits g.W.World.sound g.W.World.only_asked g.W.World.is_first g.W.World.left
    c.args.limit _ before before rest c.ask_first.new.groups 1
    (all_refl g.W.Slotted.fits g.W.World.sound g.W.World.only_asked g.W.World.is_first g.W.World.left
    c.args.limit _ before 1) c.ask_first.ensures.goes)

pub returns-clause-answer : goal.returns-clause-answer
returns-clause-answer g c = λ other there.
    let split = c.split_at_mut-rest.ensures in
    c.ask_first.ensures.answer other
    (sym (get_rest c.split_at_mut-rest.result.0.now c.split_at_mut-rest.result.1.now c.args.place
    split.front_len) ∙ ap (λ gs. slice_get gs c.args.place) (sym split.value) ∙ there)

pub returns-clause-worn : goal.returns-clause-worn
returns-clause-worn g c = λ is. any_back (IsWorn g.W.Slotted.fits g.W.World.sound g.W.World.only_asked
    g.W.World.is_first c.args.limit) c.split_at_mut-rest.result.0.now c.ask_first.new.groups
    (c.ask_first.ensures.worn is)
