-- The first turn is one of the serial driver's, which stays at its first moment.
use Rattle.std.proofs.Common.{◌≡◌, ◌+◌, ap, arith, refl, ◌∙◌}
use Rattle.ts_group.proofs.Grows.{grows_trans}
use Rattle.ts_proxy.specs.Journals.{first_moment, opening_turn}
use Rattle.ts_proxy.proofs.Serial.{serial_opens}
use Rattle.ts_proxy.proofs.drive.start.Goals as goal

pub returns-in-Ok-woken-clause-serial : goal.returns-in-Ok-woken-clause-serial
returns-in-Ok-woken-clause-serial g c =
    let before = c.begin_alone.new.self.cx in
    let after = c.wake-woken.new.group.cx in
    let grows = grows_trans c.start.ensures.grows c.wake-woken.ensures.keeps.grows in
    let given : after.log.state.turns ≡ opening_turn =
    c.wake-woken.ensures.keeps.turns ∙ c.start.ensures.turn.turns ∙ ap (λ s. s.turns)
    c.in-Ok.ensures.begins.state ∙ omega (arith, c.requires.unused.none) in
    serial_opens first_moment c.args.group.now.cx.log before after c.give_turn.new.self.cx.log
    (c.args.group.now.cx.log.state.turns + 1) after.log.state.turns refl c.in-Ok.ensures.begins.by grows given
    c.give_turn.ensures.gives.by
