-- One event is handled: its entries, and those of its handler.
use Rattle.std.proofs.Common.{◌≡◌, ◌≤◌, None, ◌∷◌, ◌++◌, refl, sym, ap, subst, ◌∙◌}
use Rattle.ts_journal.specs.declared.entry.Entry.TheVariants.{Handled}
use Rattle.ts_journal.specs.State.{State}
use Rattle.ts_journal.specs.Machine.{replay}
use Rattle.ts_journal.specs.Log.{Log, Extends}
use Rattle.ts_journal.proofs.Extends.{extends_trans}
use Rattle.ts_group.specs.Context.{Context, role_at}
use Rattle.ts_group.specs.Entries.{AreCalls, renewal}
use Rattle.ts_group.specs.Calls.{IsCalled}
use Rattle.ts_group.specs.Answers.{Falls}
use Rattle.ts_group.proofs.Runs.{grows_stays, stays_trans, stays_same}
use Rattle.ts_group.proofs.group.Group.run_one.Goals as goal

pub returns-clause-run : goal.returns-clause-run
returns-clause-run g c =
    let grows = c.handle-want.ensures.grows in
    let enters = c.enter_event-role.ensures.enters in
    let runs = c.enter_event-role.ensures.runs in
    let s : State = c.args.self.now.cx.log.state in
    let moment = c.args.self.now.cx.moment in
    let left : c.leave.new.self ≡ record c.handle-want.new.cx { running = None } = c.leave.ensures in
    let log : c.leave.new.self.log ≡ c.handle-want.new.cx.log = ap (λ (x : Context). x.log) left in
    record {
      asked = grows.log.asked;
      run = (Handled c.args.event.number moment ∷ renewal c.args.event s.next moment) ++ grows.log.own;
      is_run = record {
        event = c.args.event;
        there = c.requires.ready.there;
        own = grows.log.own;
        all_own = grows.log.all_own;
        are_calls = subst (λ m. AreCalls m grows.log.asked grows.log.own) runs.moment grows.log.are_calls;
        entries_are = refl;
      };
      by = subst (λ (l : Log). Extends c.args.self.now.cx.log l
          ((Handled c.args.event.number moment ∷ renewal c.args.event s.next moment) ++ grows.log.own))
          (sym log)
          (extends_trans enters.by grows.log.by);
      calls = ap (λ (x : Context). x.calls) left ∙ grows.log.calls ∙ ap (λ ns. ns ++ grows.log.asked)
          runs.calls;
      called = c.handle-want.ensures.called grows.log.asked grows.log.calls;
      turn = stays_same (ap (λ (l : Log). l.state) log)
          (stays_trans enters.turn (grows_stays grows enters.turn.held));
      moment = ap (λ (x : Context). x.moment) left ∙ grows.moment ∙ runs.moment;
      idle = ap (λ (x : Context). x.running) left;
      news_from = ap (λ (x : Context). x.news_from) left ∙ grows.news_from ∙ runs.news_from;
    }

pub returns-clause-falls : goal.returns-clause-falls
returns-clause-falls g c =
    let w = c.args.self.now.world in
    let s : State = c.args.self.now.cx.log.state in
    let enters = c.enter_event-role.ensures.enters in
    let runs = c.enter_event-role.ensures.runs in
    let now : Context = c.enter_event-role.new.self in
    let called : IsCalled (g.W.World.sound w) now c.enter_event-role.result c.args.event.event = record {
      before = s;
      handled = c.args.event;
      sound = subst (λ rs. g.W.World.sound w s rs) (sym runs.roles) c.requires.sound;
      valid = c.known.ensures.valid;
      there = c.requires.ready.there;
      known = c.requires.ready.known;
      due = subst (λ m. c.args.event.due ≤ m) (sym runs.moment) c.requires.ready.due;
      now_is = subst (λ m. now.log.state ≡ replay s
          (Handled c.args.event.number m ∷ renewal c.args.event s.next m)) (sym runs.moment) enters.by.state;
      event_is = refl;
      role_is = ap (role_at c.args.event.key.index) runs.roles ∙ c.enter_event-role.ensures.role;
      running = runs.running;
      orderly = c.known-2.ensures;
      has = enters.has;
    } in
    let left : c.leave.new.self ≡ record c.handle-want.new.cx { running = None } = c.leave.ensures in
    let log : c.handle-want.new.cx.log ≡ c.leave.new.self.log = ap (λ (x : Context). x.log) (sym left) in
    subst (λ (l : Log). Falls (g.W.World.left w s) 1 (g.W.World.left c.handle-want.new.self l.state)) log
    (c.handle-want.ensures.falls called)
