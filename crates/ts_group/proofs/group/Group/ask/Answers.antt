-- An event of the group's own key is set and handled, and the world is asked.
use Rattle.std.proofs.Common.{◌≡◌, ◌++◌, None, sym, ap, subst, ◌∙◌}
use Rattle.ts_journal.specs.State.{State}
use Rattle.ts_journal.specs.Machine.{replay}
use Rattle.ts_journal.specs.Log.{Log, Extends}
use Rattle.ts_journal.proofs.Extends.{extends_trans}
use Rattle.ts_group.specs.Context.{Context}
use Rattle.ts_group.specs.Entries.{asking_entries}
use Rattle.ts_group.specs.Calls.{IsAsked}
use Rattle.ts_group.specs.Answers.{Falls}
use Rattle.ts_group.proofs.Runs.{grows_stays, stays_trans, stays_same}
use Rattle.ts_group.proofs.group.Group.ask.Goals as goal

pub returns-clause-replied : goal.returns-clause-replied
returns-clause-replied g c =
    let s : State = c.args.self.now.cx.log.state in
    let grows = c.asked-reply.ensures.grows in
    let ok = c.in_default.ensures.ok in
    let runs = c.in_default.ensures.runs in
    let left : c.leave.new.self ≡ record c.asked-reply.new.cx { running = None } = c.leave.ensures in
    let log : c.leave.new.self.log ≡ c.asked-reply.new.cx.log = ap (λ (x : Context). x.log) left in
    record {
      taken = record {
        own = grows.log.own;
        all_own = grows.log.all_own;
        by = subst (λ (l : Log). Extends c.args.self.now.cx.log l
            (asking_entries s.next c.args.moment ++ grows.log.own)) (sym log)
            (extends_trans ok.by grows.log.by);
        turn = stays_same (ap (λ (l : Log). l.state) log)
            (stays_trans ok.turn (grows_stays grows ok.turn.held));
        now = ap (λ (x : Context). x.moment) left ∙ grows.moment ∙ runs.at_moment;
        idle = ap (λ (x : Context). x.running) left;
        role = ap (λ (x : Context). x.role) left ∙ grows.role ∙ runs.role;
        news_from = ap (λ (x : Context). x.news_from) left ∙ grows.news_from ∙ runs.news_from;
      };
      answers = c.asked-reply.ensures.answers;
    }

pub returns-clause-falls : goal.returns-clause-falls
returns-clause-falls g c =
    let w = c.args.self.now.world in
    let s : State = c.args.self.now.cx.log.state in
    let ok = c.in_default.ensures.ok in
    let runs = c.in_default.ensures.runs in
    let now : Context = c.enter_question.new.self in
    let asked : IsAsked (g.W.World.sound w) now = record {
      before = s;
      sound = subst (λ rs. g.W.World.sound w s rs) (sym runs.roles) c.requires.sound;
      now_is = subst (λ m. now.log.state ≡ replay s (asking_entries s.next m)) (sym runs.at_moment)
          ok.by.state;
      earlier = c.args.self.now.cx.log.entries;
      entered = subst (λ m. now.log.entries ≡ c.args.self.now.cx.log.entries ++ asking_entries s.next m)
          (sym runs.at_moment) ok.by.entries;
      running = runs.running;
      orderly = c.known.ensures;
      pending = ok.pending;
      next = ok.next;
      live = ok.live;
    } in
    let log : c.asked-reply.new.cx.log ≡ c.leave.new.self.log = ap (λ (x : Context). x.log)
    (sym c.leave.ensures) in
    subst (λ (l : Log). Falls (g.W.World.left w s) 0 (g.W.World.left c.asked-reply.new.self l.state)) log
    (c.asked-reply.ensures.falls asked)
