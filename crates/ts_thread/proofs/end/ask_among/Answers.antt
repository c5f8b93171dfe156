use Rattle.std.proofs.Common.{◌∷◌, sym, ◌∙◌}
use Rattle.ts_lists.proofs.Anys.{any_back, any_front}
use Rattle.ts_lists.proofs.Gets.{get_back, get_front}
use Rattle.ts_thread.specs.Goings.{IsWorn}
use Rattle.ts_thread.proofs.Rows.{all_refl}
use Rattle.ts_thread.proofs.end.ask_among.Goals as goal

pub ask_at-requires-clause-there : goal.ask_at-requires-clause-there
ask_at-requires-clause-there g c =
    let h = c.requires.there in (
      h.0,
      h.1,
      sym
          (get_front c.args.before.now (h.2 ∷ c.args.after.now) c.args.number c.if-place-before.true) ∙ h.4,
      h.5,
      h.6,
    )

pub ask_at-requires-else-place-before-clause-there : goal.ask_at-requires-else-place-before-clause-there
ask_at-requires-else-place-before-clause-there g c =
    let h = c.requires.there in (
      h.0,
      h.1,
      sym
          (get_back c.args.before.now h.2 c.args.after.now c.args.number c.if-place-before.false h.3) ∙ h.4,
      h.5,
      h.6,
    )

pub returns-then-place-before-clause-after : goal.returns-then-place-before-clause-after
returns-then-place-before-clause-after g c = all_refl g.W.Slotted.fits g.W.World.sound g.W.World.only_asked
    g.W.World.is_first g.W.World.left c.args.limit _ c.args.after.now 1

pub returns-then-place-before-clause-answer : goal.returns-then-place-before-clause-answer
returns-then-place-before-clause-answer g c = λ other here there.
    c.ask_at.ensures.answer other (sym (get_front c.args.before.now (here ∷ c.args.after.now) c.args.number
    c.if-place-before.true) ∙ there)

pub returns-else-place-before-clause-before : goal.returns-else-place-before-clause-before
returns-else-place-before-clause-before g c = all_refl g.W.Slotted.fits g.W.World.sound g.W.World.only_asked
    g.W.World.is_first g.W.World.left c.args.limit _ c.args.before.now 1

pub returns-else-place-before-clause-answer : goal.returns-else-place-before-clause-answer
returns-else-place-before-clause-answer g c = λ other here there.
    c.ask_at-else-place-before.ensures.answer other
    (sym (get_back c.args.before.now here c.args.after.now c.args.number c.if-place-before.false
    c.requires.there.3) ∙ there)

pub returns-then-place-before-clause-worn : goal.returns-then-place-before-clause-worn
returns-then-place-before-clause-worn g c = λ is. any_front
    (IsWorn g.W.Slotted.fits g.W.World.sound g.W.World.only_asked g.W.World.is_first c.args.limit)
    c.ask_at.new.groups c.args.after.now (c.ask_at.ensures.worn is)

pub returns-else-place-before-clause-worn : goal.returns-else-place-before-clause-worn
returns-else-place-before-clause-worn g c = λ is. any_back
    (IsWorn g.W.Slotted.fits g.W.World.sound g.W.World.only_asked g.W.World.is_first c.args.limit)
    c.args.before.now c.ask_at-else-place-before.new.groups (c.ask_at-else-place-before.ensures.worn is)
