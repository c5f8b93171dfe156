-- What holds of a world, and what is left to do, stays when a turn is given back.
use Rattle.std.proofs.Common.{sym, ap, subst, ◌∙◌}
use Rattle.ts_journal.specs.State.{State}
use Rattle.ts_group.proofs.group.Group.give_turn.Goals as goal

pub returns-clause-sound : goal.returns-clause-sound
returns-clause-sound g c = λ h.
    let w = c.args.self.now.world in
    let s : State = c.args.self.now.cx.log.state in
    let roles = c.args.self.now.cx.roles in
    let t : State = c.give_turn.new.self.log.state in
    let now = subst (λ (x : State). g.W.World.sound w x roles) (sym c.give_turn.ensures.gives.state)
    (g.met.W.World.sound_given w s s.turns roles h) in
    subst (λ rs. g.W.World.sound w t rs) (sym c.give_turn.ensures.kept.roles) now

pub returns-clause-left : goal.returns-clause-left
returns-clause-left g c =
    let w = c.args.self.now.world in
    let s : State = c.args.self.now.cx.log.state in
    ap (λ (x : State). g.W.World.left w x) c.give_turn.ensures.gives.state ∙ g.met.W.World.left_given w s
    s.turns
