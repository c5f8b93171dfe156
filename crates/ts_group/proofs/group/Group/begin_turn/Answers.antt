-- What holds of a world, and what is left to do, stays when a turn is taken.
use Rattle.std.proofs.Common.{◌≡◌, sym, ap, subst, ◌∙◌}
use Rattle.ts_journal.specs.State.{State}
use Rattle.ts_group.proofs.Results.{on_either}
use Rattle.ts_group.proofs.group.Group.begin_turn.Goals as goal

pub returns-clause-sound : goal.returns-clause-sound
returns-clause-sound g c = λ h.
    let w = c.args.self.now.world in
    let s : State = c.args.self.now.cx.log.state in
    let roles = c.args.self.now.cx.roles in
    let t : State = c.begin_turn.new.self.log.state in
    let now = on_either c.begin_turn.result _ _ (g.W.World.sound w t roles) c.begin_turn.ensures.begins
    c.begin_turn.ensures.err
    (λ ok. subst (λ (x : State). g.W.World.sound w x roles) (sym ok.state)
    (g.met.W.World.sound_taken w s c.args.turn c.args.seat roles h))
    (λ err. subst (λ (x : State). g.W.World.sound w x roles) (sym err.log.state) h) in
    subst (λ rs. g.W.World.sound w t rs) (sym c.begin_turn.ensures.kept.roles) now

pub returns-clause-left : goal.returns-clause-left
returns-clause-left g c =
    let w = c.args.self.now.world in
    let s : State = c.args.self.now.cx.log.state in
    let t : State = c.begin_turn.new.self.log.state in
    on_either c.begin_turn.result _ _ (g.W.World.left w t ≡ g.W.World.left w s) c.begin_turn.ensures.begins
    c.begin_turn.ensures.err
    (λ ok. ap (λ (x : State). g.W.World.left w x) ok.state ∙ g.met.W.World.left_taken w s c.args.turn
    c.args.seat)
    (λ err. ap (λ (x : State). g.W.World.left w x) err.log.state)
