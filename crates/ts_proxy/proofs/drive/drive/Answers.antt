-- The world is sound in its new group, whose journal is added once it was driven to its end.
use Rattle.std.proofs.Common.{[], ◌∷◌, ◌++◌, sym, ap, subst, ◌∙◌}
use Rattle.ts_group.specs.Context.{AllPlain}
use Rattle.ts_transform.specs.World.{IsSound}
use Rattle.ts_proxy.specs.Journals.{IsOfDriver}
use Rattle.ts_proxy.proofs.Serial.{of_driver}
use Rattle.ts_proxy.proofs.drive.drive.Goals as goal

pub drive_group-driven-requires-clause-sound : goal.drive_group-driven-requires-clause-sound
drive_group-driven-requires-clause-sound g c =
    let cx = c.in-Ok-make.group.cx in
    subst (λ w. IsSound w cx.log.state.pending cx.roles) (sym c.in-Ok-make.ensures.world)
    (c.requires.sound cx.log.state.pending cx.roles (subst (λ s. AllPlain s.pending)
    (sym c.in-Ok-make.ensures.fresh.state) tt))

pub returns-clause-journals : goal.returns-clause-journals
returns-clause-journals g c =
    let journal = c.into_parts-journal.result.1 in
    let fresh = c.in-Ok-make.ensures.fresh in (
      journal,
      c.push_reserved.ensures.items ∙ ap (λ js. js ++ journal ∷ []) c.reserve.ensures.items,
      subst IsOfDriver (sym c.into_parts-journal.ensures.1) (of_driver c.in-Ok-make.group.cx.log
          c.drive_group-driven.new.group.cx.log fresh.base fresh.entries fresh.state c.in-Done.ensures.ends),
    )
