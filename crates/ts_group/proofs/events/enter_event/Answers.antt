-- What the entries of an event that is handled leave.
use Rattle.std.proofs.Common.{◌≡◌, ◌+◌, ◌<◌, ap, sym, subst, inl, inr, ◌∙◌, arith, rules, true}
use Rattle.std.proofs.lemmas.Grind.{common_steps}
use Rattle.ts_journal.specs.declared.entry.Event.TheVariants.{Timeout}
use Rattle.ts_journal.specs.declared.entry.Entry.TheVariants.{Handled}
use Rattle.ts_journal.specs.declared.entry.Pending.{Pending}
use Rattle.ts_journal.specs.State.{State}
use Rattle.ts_journal.specs.Machine.{IsValid}
use Rattle.ts_journal.proofs.Validity.{valid_after}
use Rattle.ts_group.specs.Context.{needed}
use Rattle.ts_group.specs.Changes.{HasHandled}
use Rattle.ts_group.proofs.Facts.{handled_plain, handled_again, stay_handled}
use Rattle.ts_group.proofs.Room.{needed_closed, needed_set}
use Rattle.ts_group.proofs.events.enter_event.Goals as goal

pub returns-then-renewed-lt-GREATEST-clause-enters : goal.returns-then-renewed-lt-GREATEST-clause-enters
returns-then-renewed-lt-GREATEST-clause-enters c =
    let s : State = c.args.journal.now.state in
    let m : State = c.push.new.self.state in
    let t : State = c.push-then-renewed-lt-GREATEST.new.self.state in
    let e = c.push.ensures.state in
    let f = c.push-then-renewed-lt-GREATEST.ensures.state in
    let next : c.next-renewed.result ≡ s.next = c.next-renewed.ensures ∙ ap (λ (x : State). x.next) e in
    let r : Pending = record {
      number = c.next-renewed.result;
      key = c.args.event.key;
      event = Timeout;
      due =
          c.saturating_add.result;
      series = c.args.event.series;
      period = c.args.event.period;
    } in
    let again : 0 < c.args.event.period = c.if-event-gt0.true in
    let w : IsValid m = subst (λ (x : State). IsValid x) (sym e)
    (valid_after s (Handled c.args.event.number c.args.moment) c.known.ensures.valid
    (c.requires.turn, c.args.event, c.requires.ready.there, c.requires.ready.due)) in
    let has : HasHandled s t c.args.event = handled_again s m t c.args.event c.args.moment r again
    c.known.ensures.valid w c.requires.ready.there next e f in
    record {
      by = grind (arith, common_steps);
      turn = record {
        held = ap (λ (x : State). x.held) f ∙ ap (λ (x : State). x.held) e ∙ c.requires.turn;
        turns = ap (λ (x : State). x.turns) f ∙ ap (λ (x : State). x.turns) e;
      };
      has = has;
      rose = let a = ap (λ (x : State). x.next) e in let b = ap (λ (x : State). x.next) f in omega arith;
    }

pub returns-then-renewed-lt-GREATEST-clause-stay : goal.returns-then-renewed-lt-GREATEST-clause-stay
returns-then-renewed-lt-GREATEST-clause-stay c =
    let h = returns-then-renewed-lt-GREATEST-clause-enters c in
    stay_handled c.args.journal.now.state c.push-then-renewed-lt-GREATEST.new.self.state c.args.event h.rose
    h.has

pub returns-then-renewed-lt-GREATEST-clause-room : goal.returns-then-renewed-lt-GREATEST-clause-room
returns-then-renewed-lt-GREATEST-clause-room c =
    let s : State = c.args.journal.now.state in
    let m : State = c.push.new.self.state in
    let t : State = c.push-then-renewed-lt-GREATEST.new.self.state in
    let e = c.push.ensures.state in
    let f = c.push-then-renewed-lt-GREATEST.ensures.state in
    let r : Pending = record {
      number = c.next-renewed.result;
      key = c.args.event.key;
      event = Timeout;
      due =
          c.saturating_add.result;
      series = c.args.event.series;
      period = c.args.event.period;
    } in
    let held : m.held ≡ true = ap (λ (x : State). x.held) e ∙ c.requires.turn in
    let a : needed m + 1 ≡ needed s = needed_closed s m c.args.event.number c.args.event
    c.requires.ready.there c.requires.turn (ap (λ (x : State). x.pending) e)
    (ap (λ (x : State). x.live) e) held in
    let b : needed t ≡ needed m + 1 = needed_set m t r held (ap (λ (x : State). x.pending) f)
    (ap (λ (x : State). x.live) f) (ap (λ (x : State). x.held) f ∙ held) in
    let again : 0 < c.args.event.period = c.if-event-gt0.true in
    let room = c.push.ensures.room in
    let left = c.push-then-renewed-lt-GREATEST.ensures.room in
    elim c.requires.ready.renew [ inl z ↦ absurd (omega arith) | inr q ↦ let enough = q.0 in omega arith ]

pub returns-else-event-gt0-clause-enters : goal.returns-else-event-gt0-clause-enters
returns-else-event-gt0-clause-enters c =
    let e = c.push.ensures.state in
    record {
      by = search rules;
      turn = record {
        held = ap (λ (x : State). x.held) e ∙ c.requires.turn;
        turns = ap
            (λ (x : State). x.turns) e;
      };
      has = handled_plain c.args.journal.now.state c.push.new.self.state c.args.event c.args.moment
          c.known.ensures.valid c.requires.ready.there e;
      rose = let a = ap (λ (x : State). x.next) e in omega arith;
    }

pub returns-else-event-gt0-clause-stay : goal.returns-else-event-gt0-clause-stay
returns-else-event-gt0-clause-stay c =
    let h = returns-else-event-gt0-clause-enters c in
    stay_handled c.args.journal.now.state c.push.new.self.state c.args.event h.rose h.has

pub returns-else-event-gt0-clause-room : goal.returns-else-event-gt0-clause-room
returns-else-event-gt0-clause-room c =
    let s : State = c.args.journal.now.state in
    let m : State = c.push.new.self.state in
    let e = c.push.ensures.state in
    let a : needed m + 1 ≡ needed s = needed_closed s m c.args.event.number c.args.event
    c.requires.ready.there c.requires.turn (ap (λ (x : State). x.pending) e)
    (ap (λ (x : State). x.live) e) (ap (λ (x : State). x.held) e ∙ c.requires.turn) in
    let room = c.push.ensures.room in
    let enough = c.requires.room in
    omega arith
