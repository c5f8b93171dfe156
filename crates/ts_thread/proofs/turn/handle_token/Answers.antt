use Rattle.std.proofs.Common.{refl, inl, inr}
use Rattle.ts_lists.proofs.Places.{place_below}
use Rattle.ts_slot.specs.Words.{tags_of, view}
use Rattle.ts_thread.specs.Asks.{GivesReply}
use Rattle.ts_thread.proofs.Ends.{desk_added}
use Rattle.ts_thread.proofs.Telling.{keeps_added}
use Rattle.ts_thread.proofs.Uses.{same_desk}
use Rattle.ts_thread.proofs.Worked.{may_be_asked, answer_over, handles_goes, handles_due, handles_few, told_worked, told_due, asked_works, asked_shown}
use Rattle.ts_thread.proofs.turn.handle_token.Goals as goal

pub ask_other-asked-requires-clause-asked : goal.ask_other-asked-requires-clause-asked
ask_other-asked-requires-clause-asked g c =
    let done = c.in_ok-events.ensures in
    let keeps = rw c.in-Asks.is at done.keeps in
    let own = c.requires.group in
    let may = may_be_asked g.W.Slotted.fits g.W.World.only_asked g.W.World.may_ask g.W.World.right
    g.W.World.answers (tags_of c.args.slots.now) c.args.token.group c.in-Asks.other own.2
    c.handle.new.self.world c.requires.asks own.3 (done.promises.tags own.2 own.4) keeps.1 in
    (may.tag, may.there, may.asked)

pub answered-requires-clause-asking : goal.answered-requires-clause-asking
answered-requires-clause-asking g c =
    let done = c.in_ok-events.ensures in
    let keeps = rw c.in-Asks.is at done.keeps in
    let own = c.requires.group in
    let may = may_be_asked g.W.Slotted.fits g.W.World.only_asked g.W.World.may_ask g.W.World.right
    g.W.World.answers (tags_of c.args.slots.now) c.args.token.group c.in-Asks.other own.2
    c.handle.new.self.world c.requires.asks own.3 (done.promises.tags own.2 own.4) keeps.1 in
    record {
      group = c.in-Asks.other;
      question = c.in-Asks.question;
      asking = keeps.0;
      answer = answer_over (GivesReply g.W.Slotted.fits g.W.World.answers (tags_of c.args.slots.now))
          (g.W.World.right c.handle.new.self.world) c.in-Asks.other c.in-Asks.question
          c.ask_other-asked.result c.ask_other-asked.ensures.answer (λ r. may.right c.in-Asks.question r);
    }

pub returns-in-Handled-clause-worked : goal.returns-in-Handled-clause-worked
returns-in-Handled-clause-worked g c =
    let done = c.in_ok-events.ensures in
    let gives = rw c.in-Handled.is at done.gives in
    let keeps = rw c.in-Handled.is at done.keeps in
    record {
      goes = handles_goes g.W.World.called g.W.Slotted.fits c.args.group.now c.handle.new.self
          c.args.token.number c.args.moment c.in-Handled.events c.known.ensures.valid gives.0
          done.promises.tags;
      sound = keeps;
      few = handles_few g.W.World.called g.W.Slotted.fits c.args.group.now c.handle.new.self
          c.args.token.number c.args.moment c.in-Handled.events c.known.ensures.valid gives.0 done.few;
      ran = inr (inl (record {
        events = c.in-Handled.events;
        handles = gives.0;
        counts = record
            { turns = refl; misses = refl };
        is = refl;
      }));
    }

pub returns-in-Handled-clause-shown : goal.returns-in-Handled-clause-shown
returns-in-Handled-clause-shown g c =
    let done = c.in_ok-events.ensures in
    let gives = rw c.in-Handled.is at done.gives in
    handles_due g.W.World.called g.W.Slotted.fits c.args.group.now c.handle.new.self c.args.token.number
    c.args.moment c.in-Handled.events c.known.ensures.valid gives.0

pub returns-in-Asks-clause-worked : goal.returns-in-Asks-clause-worked
returns-in-Asks-clause-worked g c =
    let done = c.in_ok-events.ensures in
    let gives = rw c.in-Asks.is at done.gives in
    let keeps = rw c.in-Asks.is at done.keeps in
    let told = c.answered.ensures in
    told_worked g.W.World.sound g.W.Slotted.fits g.W.World.asking g.W.World.answers g.W.World.called
    g.W.World.heard g.W.World.left (tags_of c.args.slots.now) c.args.group.now c.handle.new.self
    c.answered.new.self c.args.token.number c.args.moment c.in-Asks.events (view c.args.desk.now.seat)
    (view c.ask_other-asked.new.seat) c.did_of-did.result c.known.ensures.valid
    c.known-in-Asks.ensures.valid gives done.promises.tags done.few told.grows told.turn told.sound
    told.promises.tags told.few
    (inr (inr (record {
      events = c.in-Asks.events;
      asking = c.handle.new.self;
      handles = gives;
      group = c.in-Asks.other;
      question = c.in-Asks.question;
      waits = keeps.0;
      came = c.ask_other-asked.result;
      by = c.ask_other-asked.ensures.came;
      answer = c.ask_other-asked.ensures.answer;
      hears = told.hears;
      says = c.did_of-did.ensures;
    })))

pub returns-in-Asks-clause-works : goal.returns-in-Asks-clause-works
returns-in-Asks-clause-works g c =
    let done = c.in_ok-events.ensures in
    let keeps = rw c.in-Asks.is at done.keeps in
    let own = c.requires.group in
    let may = may_be_asked g.W.Slotted.fits g.W.World.only_asked g.W.World.may_ask g.W.World.right
    g.W.World.answers (tags_of c.args.slots.now) c.args.token.group c.in-Asks.other own.2
    c.handle.new.self.world c.requires.asks own.3 (done.promises.tags own.2 own.4) keeps.1 in
    asked_works c.args.token c.args.desk.now (record
    { seat = c.ask_other-asked.new.seat; pass = c.args.desk.now.pass; wheel = c.args.desk.now.wheel })
    c.in-Asks.events c.in-Asks.other c.ask_other-asked.result c.did_of-did.result may.other
    c.did_of-did.ensures c.ask_other-asked.ensures.came refl refl

pub returns-in-Asks-clause-shown : goal.returns-in-Asks-clause-shown
returns-in-Asks-clause-shown g c =
    let done = c.in_ok-events.ensures in
    let gives = rw c.in-Asks.is at done.gives in
    asked_shown c.args.group.now.cx.log.state c.answered.new.self.cx.log.state c.args.token.number
    c.args.moment c.in-Asks.events c.in-Asks.other c.ask_other-asked.result c.did_of-did.result
    c.did_of-did.ensures
    (told_due g.W.World.called g.W.Slotted.fits c.args.group.now c.handle.new.self c.answered.new.self
    c.args.token.number c.args.moment c.in-Asks.events c.known.ensures.valid c.known-in-Asks.ensures.valid
    gives c.answered.ensures.grows)

pub returns-in_ok-add-in-NotDue-clause-keeps : goal.returns-in_ok-add-in-NotDue-clause-keeps
returns-in_ok-add-in-NotDue-clause-keeps g c =
    record {
      desk = same_desk c.args.desk.now (record
          { seat = c.args.desk.now.seat; pass = c.args.desk.now.pass; wheel = c.add.new.self }) 1 refl refl;
      places = keeps_added c.args.desk.now (record
          { seat = c.args.desk.now.seat; pass = c.args.desk.now.pass; wheel = c.add.new.self }) c.args.token
          c.in-NotDue.due c.in_ok-add-in-NotDue.ensures.ok refl;
    }

pub returns-in_ok-add-in-NotDue-clause-desk : goal.returns-in_ok-add-in-NotDue-clause-desk
returns-in_ok-add-in-NotDue-clause-desk g c queue was =
    let low = place_below (tags_of c.args.slots.now) c.args.token.group c.requires.group.2 c.requires.group.3
    in
    desk_added c.args.slots.now queue c.args.desk.now
    (record { seat = c.args.desk.now.seat; pass = c.args.desk.now.pass; wheel = c.add.new.self })
    c.args.token c.in-NotDue.due low was.seat refl c.in_ok-add-in-NotDue.ensures.ok was
