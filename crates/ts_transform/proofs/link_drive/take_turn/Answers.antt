-- A turn of its own handles an event, or nothing, and what it moves is what its handlers move.
use Rattle.std.proofs.Common.{◌+◌, arith, sym, subst, ◌∙◌}
use Rattle.ts_transform.specs.Carrying.{CarriesTo}
use Rattle.ts_transform.proofs.Runs.{handle_carries, handled_nothing, takes_turn, to_refl}
use Rattle.ts_transform.proofs.link_drive.take_turn.Goals as goal

-- No turn was made.
pub returns-in-Err-Worn-clause-carries : goal.returns-in-Err-Worn-clause-carries
returns-in-Err-Worn-clause-carries g c =
    to_refl g.P.Transform.rest g.I.Link.tells g.K.Link.tells g.I.Link.look g.K.Link.look
    c.args.group.now.world
    c.begin_alone.new.self.world c.begin_alone.ensures.world

pub returns-in-Err-NoMemory-clause-carries : goal.returns-in-Err-NoMemory-clause-carries
returns-in-Err-NoMemory-clause-carries g c =
    to_refl g.P.Transform.rest g.I.Link.tells g.K.Link.tells g.I.Link.look g.K.Link.look
    c.args.group.now.world
    c.begin_alone.new.self.world c.begin_alone.ensures.world

-- The event was handled.
pub returns-in-Ok-Handled-clause-carries : goal.returns-in-Ok-Handled-clause-carries
returns-in-Ok-Handled-clause-carries g c =
    let rest = g.P.Transform.rest in
    let was = c.args.group.now.world in
    let handled = c.handle-handled.new.self in
    subst (λ w. CarriesTo rest g.I.Link.tells g.K.Link.tells g.I.Link.look g.K.Link.look was w)
    (sym c.give_turn.ensures.world)
    (subst (λ w. CarriesTo rest g.I.Link.tells g.K.Link.tells g.I.Link.look g.K.Link.look w handled.world)
    c.begin_alone.ensures.world
    (handle_carries rest g.I.Link.tells g.K.Link.tells g.I.Link.look g.K.Link.look c.begin_alone.new.self
    handled
    c.args.number c.args.moment c.in-Ok-Handled.field-0 c.in-Ok-Handled.ensures-1.gives))

pub returns-in-Ok-Handled-clause-turn : goal.returns-in-Ok-Handled-clause-turn
returns-in-Ok-Handled-clause-turn g c =
    takes_turn _ c.args.group.now.cx c.begin_alone.new.self c.handle-handled.new.self
    c.give_turn.new.self.cx _ c.args.due c.args.number c.args.moment c.in-Ok-Handled.field-0 c.requires.due
    c.in-Ok.ensures.begins c.in-Ok-Handled.ensures-1.gives c.give_turn.ensures.gives

-- Memory lacked for the next event of its series.
pub returns-in-Err-clause-carries : goal.returns-in-Err-clause-carries
returns-in-Err-clause-carries g c =
    to_refl g.P.Transform.rest g.I.Link.tells g.K.Link.tells g.I.Link.look g.K.Link.look
    c.args.group.now.world
    c.give_turn.new.self.world
    (c.give_turn.ensures.world ∙ c.in-Err.ensures.err.same.world ∙ c.begin_alone.ensures.world)

-- So nothing was handled in the turn.
pub returns-in-Err-clause-fault : goal.returns-in-Err-clause-fault
returns-in-Err-clause-fault g c =
    handled_nothing c.args.group.now.cx c.begin_alone.new.self.cx c.handle-handled.new.self.cx
    c.give_turn.new.self.cx
    (c.args.group.now.cx.log.state.turns + 1) _ c.args.moment c.in-Ok.ensures.begins
    c.in-Err.ensures.err.same.cx
    c.give_turn.ensures.gives (omega arith)
