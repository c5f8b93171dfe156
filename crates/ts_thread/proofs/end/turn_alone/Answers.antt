use Rattle.std.proofs.Common.{◌+◌, ◌≤◌, ◌≢◌, [], inl, refl, ap, sym, subst}
use Rattle.ts_lists.proofs.Anys.{any_around, any_middle}
use Rattle.ts_journal.specs.State.{State}
use Rattle.ts_group.specs.Due.{IsDueFirst}
use Rattle.ts_thread.specs.Goings.{IsWorn}
use Rattle.ts_thread.proofs.Rows.{all_refl, fit_middle, around}
use Rattle.ts_thread.proofs.Moves.{next_pending, stepped}
use Rattle.ts_thread.proofs.end.turn_alone.Goals as goal

pub begin_alone-requires : goal.begin_alone-requires
begin_alone-requires g c =
    let fits = c.requires.fits in
    let fit = fit_middle g.W.Slotted.fits g.W.World.sound g.W.World.only_asked g.W.World.is_first
    g.W.World.left c.args.limit fits.0 c.args.before.now c.args.group.now c.args.after.now fits.2 in
    record { idle = fit.1.2.0 }

-- no memory for the turn: nothing was done to any group
pub returns-in-Err-NoMemory-clause-before : goal.returns-in-Err-NoMemory-clause-before
returns-in-Err-NoMemory-clause-before g c = all_refl g.W.Slotted.fits g.W.World.sound g.W.World.only_asked
    g.W.World.is_first g.W.World.left c.args.limit _ c.args.before.now 1

pub returns-in-Err-NoMemory-clause-after : goal.returns-in-Err-NoMemory-clause-after
returns-in-Err-NoMemory-clause-after g c = all_refl g.W.Slotted.fits g.W.World.sound g.W.World.only_asked
    g.W.World.is_first g.W.World.left c.args.limit _ c.args.after.now 1

-- the group is worn: nothing was done to any group
pub returns-in-Err-Worn-clause-worn : goal.returns-in-Err-Worn-clause-worn
returns-in-Err-Worn-clause-worn g c = λ is.
    let none = c.in-Err-Worn.ensures in
    let within = rw c.in-Err-Worn.field-0-is at none.within in
    let stays = sym none.err.log.state in
    any_middle (IsWorn g.W.Slotted.fits g.W.World.sound g.W.World.only_asked g.W.World.is_first c.args.limit)
    c.args.before.now c.begin_alone.new.self c.args.after.now (
      subst (λ (s : State). c.args.limit ≤ s.turns) stays within.0,
      inl (subst (λ (s : State). s.pending ≢ []) stays
          (next_pending c.args.group.now.cx.log.state c.args.moment c.args.number c.requires.due.0)),
    )

pub returns-in-Err-Worn-clause-before : goal.returns-in-Err-Worn-clause-before
returns-in-Err-Worn-clause-before g c = all_refl g.W.Slotted.fits g.W.World.sound g.W.World.only_asked
    g.W.World.is_first g.W.World.left c.args.limit _ c.args.before.now 1

pub returns-in-Err-Worn-clause-after : goal.returns-in-Err-Worn-clause-after
returns-in-Err-Worn-clause-after g c = all_refl g.W.Slotted.fits g.W.World.sound g.W.World.only_asked
    g.W.World.is_first g.W.World.left c.args.limit _ c.args.after.now 1

pub handle_and_ask-answer-requires-clause-turn : goal.handle_and_ask-answer-requires-clause-turn
handle_and_ask-answer-requires-clause-turn g c =
    let fits = c.requires.fits in
    let fit = fit_middle g.W.Slotted.fits g.W.World.sound g.W.World.only_asked g.W.World.is_first
    g.W.World.left c.args.limit fits.0 c.args.before.now c.args.group.now c.args.after.now fits.2 in
    let begun = c.in-Ok.ensures in (
      ap (λ (s : State). s.held) begun.begins.state,
      begun.sound fit.1.1,
      subst (λ (s : State). IsDueFirst s c.args.moment c.args.number) (sym begun.begins.state) c.requires.due.0,
    )

pub handle_and_ask-answer-requires-clause-fits : goal.handle_and_ask-answer-requires-clause-fits
handle_and_ask-answer-requires-clause-fits g c =
    let fits = c.requires.fits in (
      fits.0,
      fits.1,
      around g.W.Slotted.fits g.W.World.sound g.W.World.only_asked g.W.World.is_first g.W.World.left
          c.args.limit fits.0 c.args.before.now c.args.group.now c.begin_alone.new.self.world c.args.after.now
          fits.2 c.in-Ok.ensures.world,
    )

pub returns-clause-own : goal.returns-clause-own
returns-clause-own g c =
    let begun = c.in-Ok.ensures in
    let given = c.give_turn.ensures in
    let works = c.handle_and_ask-answer.ensures.works in
    stepped g.W.Slotted.fits g.W.World.sound g.W.World.only_asked g.W.World.is_first g.W.World.left
    c.args.limit c.args.group.now c.begin_alone.new.self c.handle_and_ask-answer.new.group
    c.give_turn.new.self (c.args.group.now.cx.log.state.turns + 1) c.args.moment c.args.number
    c.requires.due.0 begun.within
    refl begun.begins begun.world begun.left works given.gives given.world given.left
    (given.sound works.sound)

pub returns-clause-worn : goal.returns-clause-worn
returns-clause-worn g c = λ is. any_around (IsWorn g.W.Slotted.fits g.W.World.sound g.W.World.only_asked
    g.W.World.is_first c.args.limit) c.handle_and_ask-answer.new.before c.give_turn.new.self
    c.handle_and_ask-answer.new.after (c.handle_and_ask-answer.ensures.worn is)
