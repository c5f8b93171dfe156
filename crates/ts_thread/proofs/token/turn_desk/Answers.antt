use Rattle.std.proofs.Common.{subst}
use Rattle.ts_lists.proofs.Results.{on_err_any}
use Rattle.ts_slot.specs.Words.{tags_of}
use Rattle.ts_thread.specs.Tokens.{Gets}
use Rattle.ts_thread.specs.Turning.{Uses, IsDid}
use Rattle.ts_thread.proofs.Uses.{ok_all, desk_taken, takes_one}
use Rattle.ts_thread.proofs.token.turn_desk.Goals as goal

pub enter_token-requires-clause-desk : goal.enter_token-requires-clause-desk
enter_token-requires-clause-desk g c = desk_taken c.args.shared.now.slots.now c.args.shared.now.queue.now c.args.desk.now
    c.next_token.new.desk c.args.moment c.requires.desk c.next_token.ensures.pass c.next_token.ensures.seat
    c.next_token.ensures.wheel

pub returns-clause-err : goal.returns-clause-err
returns-clause-err g c =
    let gets = subst (λ n. Gets n c.args.moment c.args.desk.now c.next_token.new.desk c.in-Some.token)
    c.groups-groups.ensures c.in-Some.ensures.token in
    on_err_any c.enter_token.result (record {
      token = c.in-Some.token;
      taken = c.next_token.new.desk;
      gets = gets;
      keeps = c.enter_token.ensures.keeps.places;
    })

pub returns-clause-did : goal.returns-clause-did
returns-clause-did g c =
    let gets = subst (λ n. Gets n c.args.moment c.args.desk.now c.next_token.new.desk c.in-Some.token)
    c.groups-groups.ensures c.in-Some.ensures.token in
    ok_all c.enter_token.result (Uses g.W.Slotted.fits g.W.World.asking g.W.World.answers g.W.World.called
    g.W.World.heard g.W.World.left (tags_of c.args.shared.now.slots.now) c.in-Some.token c.args.moment
    c.next_token.new.desk c.enter_token.new.desk)
    (IsDid g.W.Slotted.fits g.W.World.asking g.W.World.answers g.W.World.called g.W.World.heard
    g.W.World.left (tags_of c.args.shared.now.slots.now) c.args.moment c.args.desk.now c.enter_token.new.desk)
    (takes_one g.W.Slotted.fits g.W.World.asking g.W.World.answers g.W.World.called g.W.World.heard
    g.W.World.left (tags_of c.args.shared.now.slots.now) c.args.moment c.in-Some.token c.args.desk.now
    c.next_token.new.desk c.enter_token.new.desk gets)
    c.enter_token.ensures.uses
