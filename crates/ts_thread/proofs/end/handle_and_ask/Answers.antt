use Rattle.std.proofs.Common.{ℕ, refl, sym, ◌∙◌, subst}
use Rattle.ts_thread.proofs.Rows.{all_refl, askable, answer_right, told_falls, well_then}
use Rattle.ts_group.specs.Answers.{LeavesLess}
use Rattle.ts_thread.specs.Goings.{AllGoOn}
use Rattle.ts_thread.proofs.Moves.{handled_works, told_works, same_works}
use Rattle.ts_thread.proofs.end.handle_and_ask.Goals as goal

pub ask_among-asked-requires-clause-there : goal.ask_among-asked-requires-clause-there
ask_among-asked-requires-clause-there g c =
    let fits = c.requires.fits in
    let asks = c.in-Ok-Asks.ensures in
    let keeps = rw c.in-Ok-Asks.field-0-is at asks.keeps in
    let group = c.handle.new.self in
    let may = askable g.W.Slotted.fits g.W.World.sound g.W.World.only_asked g.W.World.is_first g.W.World.left
    c.args.limit g.W.World.may_ask g.W.World.right g.W.World.answers fits.0 c.args.before.now
    c.args.after.now c.args.group.now.world group.world group
    c.in-Ok-Asks.other fits.1 fits.2 asks.promises.tags keeps.1 in
    (may.tag, may.group, group, may.other, may.there, may.fits, may.asked)

pub answered-requires-clause-asking : goal.answered-requires-clause-asking
answered-requires-clause-asking g c =
    let fits = c.requires.fits in
    let asks = c.in-Ok-Asks.ensures in
    let keeps = rw c.in-Ok-Asks.field-0-is at asks.keeps in
    let group = c.handle.new.self in
    let may = askable g.W.Slotted.fits g.W.World.sound g.W.World.only_asked g.W.World.is_first g.W.World.left
    c.args.limit g.W.World.may_ask g.W.World.right g.W.World.answers fits.0 c.args.before.now
    c.args.after.now c.args.group.now.world group.world group
    c.in-Ok-Asks.other fits.1 fits.2 asks.promises.tags keeps.1 in
    record {
      group = c.in-Ok-Asks.other;
      question = c.in-Ok-Asks.question;
      asking = keeps.0;
      answer = answer_right (λ (_ : ℕ) q r. g.W.World.answers may.group.world q r)
          (g.W.World.right group.world) 0 c.in-Ok-Asks.other c.in-Ok-Asks.question c.ask_among-asked.result
          (c.ask_among-asked.ensures.answer may.group group may.there)
          (λ r. may.right c.in-Ok-Asks.question r);
    }

pub returns-in-Ok-Handled-clause-before : goal.returns-in-Ok-Handled-clause-before
returns-in-Ok-Handled-clause-before g c = all_refl g.W.Slotted.fits g.W.World.sound g.W.World.only_asked
    g.W.World.is_first g.W.World.left c.args.limit _ c.args.before.now 1

pub returns-in-Ok-Handled-clause-after : goal.returns-in-Ok-Handled-clause-after
returns-in-Ok-Handled-clause-after g c = all_refl g.W.Slotted.fits g.W.World.sound g.W.World.only_asked
    g.W.World.is_first g.W.World.left c.args.limit _ c.args.after.now 1

pub returns-in-Ok-Asks-clause-before : goal.returns-in-Ok-Asks-clause-before
returns-in-Ok-Asks-clause-before g c =
    subst (λ r. AllGoOn g.W.Slotted.fits g.W.World.sound g.W.World.only_asked g.W.World.is_first
    g.W.World.left c.args.limit r c.args.before.now c.ask_among-asked.new.before 1)
    (sym c.came_of-answer.ensures) c.ask_among-asked.ensures.before

pub returns-in-Ok-Asks-clause-after : goal.returns-in-Ok-Asks-clause-after
returns-in-Ok-Asks-clause-after g c =
    subst (λ r. AllGoOn g.W.Slotted.fits g.W.World.sound g.W.World.only_asked g.W.World.is_first
    g.W.World.left c.args.limit r c.args.after.now c.ask_among-asked.new.after 1)
    (sym c.came_of-answer.ensures) c.ask_among-asked.ensures.after

pub returns-in-Ok-Asks-clause-worn : goal.returns-in-Ok-Asks-clause-worn
returns-in-Ok-Asks-clause-worn g c = λ is. c.ask_among-asked.ensures.worn (sym c.came_of-answer.ensures ∙ is)

pub returns-in-Err-clause-before : goal.returns-in-Err-clause-before
returns-in-Err-clause-before g c = all_refl g.W.Slotted.fits g.W.World.sound g.W.World.only_asked
    g.W.World.is_first g.W.World.left c.args.limit _ c.args.before.now 1

pub returns-in-Err-clause-after : goal.returns-in-Err-clause-after
returns-in-Err-clause-after g c = all_refl g.W.Slotted.fits g.W.World.sound g.W.World.only_asked
    g.W.World.is_first g.W.World.left c.args.limit _ c.args.after.now 1

pub returns-in-Ok-Handled-clause-works : goal.returns-in-Ok-Handled-clause-works
returns-in-Ok-Handled-clause-works g c =
    let handle = c.in-Ok-Handled.ensures in
    let gives = rw c.in-Ok-Handled.field-0-is at handle.gives in
    let keeps = rw c.in-Ok-Handled.field-0-is at handle.keeps in
    let falls = rw c.in-Ok-Handled.field-0-is at handle.falls in
    handled_works g.W.Slotted.fits g.W.World.sound g.W.World.only_asked g.W.World.is_first g.W.World.left
    c.args.limit g.W.World.called c.args.group.now c.handle.new.self c.args.number c.args.moment _
    c.requires.turn.2 c.known.ensures.valid gives.0
    handle.promises.tags
    keeps
    handle.few
    falls

pub returns-in-Ok-Asks-clause-works : goal.returns-in-Ok-Asks-clause-works
returns-in-Ok-Asks-clause-works g c =
    let handle = c.in-Ok-Asks.ensures in
    let gives = rw c.in-Ok-Asks.field-0-is at handle.gives in
    let falls = rw c.in-Ok-Asks.field-0-is at handle.falls in
    let told = c.answered.ensures in
    (told_works g.W.Slotted.fits g.W.World.sound g.W.World.only_asked g.W.World.is_first g.W.World.left
    c.args.limit {r = c.came_of-answer.result} g.W.World.called c.args.group.now c.handle.new.self
    c.answered.new.self c.args.number c.args.moment _ c.requires.turn.2 c.known.ensures.valid
    c.known-in-Ok-Asks.ensures.valid gives handle.promises.tags handle.few falls told.grows told.turn
    told.sound told.promises.tags told.few
    (λ well. told_falls c.ask_among-asked.result _ _ told.hears.falls
    (λ is. well (c.came_of-answer.ensures ∙ is)))).0

pub returns-in-Ok-Asks-clause-falls : goal.returns-in-Ok-Asks-clause-falls
returns-in-Ok-Asks-clause-falls g c =
    let handle = c.in-Ok-Asks.ensures in
    let gives = rw c.in-Ok-Asks.field-0-is at handle.gives in
    let falls = rw c.in-Ok-Asks.field-0-is at handle.falls in
    let told = c.answered.ensures in
    well_then c.came_of-answer.result (LeavesLess g.W.World.left c.args.group.now 1 c.answered.new.self)
    (told_works g.W.Slotted.fits g.W.World.sound g.W.World.only_asked g.W.World.is_first g.W.World.left
    c.args.limit {r = c.came_of-answer.result} g.W.World.called c.args.group.now c.handle.new.self
    c.answered.new.self c.args.number c.args.moment _ c.requires.turn.2 c.known.ensures.valid
    c.known-in-Ok-Asks.ensures.valid gives handle.promises.tags handle.few falls told.grows told.turn
    told.sound told.promises.tags told.few
    (λ well. told_falls c.ask_among-asked.result _ _ told.hears.falls
    (λ is. well (c.came_of-answer.ensures ∙ is)))).1

pub returns-in-Err-clause-works : goal.returns-in-Err-clause-works
returns-in-Err-clause-works g c =
    same_works g.W.Slotted.fits g.W.World.sound g.W.World.only_asked g.W.World.is_first g.W.World.left
    c.args.limit c.args.group.now c.handle.new.self c.requires.turn.0 c.requires.turn.1
    c.in-Err.ensures.err.same refl
