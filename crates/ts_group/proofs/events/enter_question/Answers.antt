-- An event that is set and handled at once leaves nothing pending.
use Rattle.std.proofs.Common.{◌≡◌, ◌+◌, ap, sym, subst, ◌∙◌, arith}
use Rattle.ts_journal.specs.declared.entry.Event.TheVariants.{Hook}
use Rattle.ts_journal.specs.declared.entry.Pending.{Pending}
use Rattle.ts_journal.specs.State.{State}
use Rattle.ts_journal.specs.Log.{Extends}
use Rattle.ts_journal.proofs.Extends.{extends_after, extends_trans}
use Rattle.ts_group.specs.Context.{needed, own_key}
use Rattle.ts_group.specs.Entries.{asking_entries}
use Rattle.ts_group.proofs.Facts.{has_set, pending_asked, stay_same}
use Rattle.ts_group.proofs.Room.{needed_same}
use Rattle.ts_group.proofs.events.enter_question.Goals as goal

pub push-requires-2-clause-allowed : goal.push-requires-2-clause-allowed
push-requires-2-clause-allowed c =
    let s : State = c.spare.new.journal.state in
    let e = c.push.ensures.state in
    let p : Pending = record {
      number = c.next-number.result;
      key = own_key;
      event = Hook;
      due =
          c.args.moment;
      series = c.next-number.result;
      period = 0;
    } in
    let set = has_set s c.push.new.self.state p c.known.ensures.valid c.next-number.ensures
    (ap (λ (x : State). x.pending) e) (ap (λ (x : State). x.next) e) (ap (λ (x : State). x.live) e) in (
      ap (λ (x : State). x.held) e ∙ ap (λ (x : State). x.held) c.spare.ensures.same.state ∙
          c.requires.can.turn,
      p,
      set.there,
      omega arith,
    )

pub returns-clause-ok : goal.returns-clause-ok
returns-clause-ok c =
    let s : State = c.spare.new.journal.state in
    let e = c.push.ensures.state in
    let f = c.push-2.ensures.state in
    let g = c.spare.ensures.same.state in
    let p : Pending = record {
      number = c.next-number.result;
      key = own_key;
      event = Hook;
      due =
          c.args.moment;
      series = c.next-number.result;
      period = 0;
    } in
    let number : c.next-number.result ≡ c.args.journal.now.state.next = c.next-number.ensures ∙ ap
    (λ (x : State). x.next) g in
    record {
      by = extends_after c.spare.ensures.same (subst
          (λ n. Extends c.spare.new.journal c.push-2.new.self (asking_entries n c.args.moment)) number
          (extends_trans c.push.ensures.log c.push-2.ensures.log));
      turn = record {
        held = ap (λ (x : State). x.held) f ∙ ap (λ (x : State). x.held) e ∙ ap (λ (x : State). x.held) g ∙
            c.requires.can.turn;
        turns = ap (λ (x : State). x.turns) f ∙ ap (λ (x : State). x.turns) e ∙ ap (λ (x : State). x.turns) g;
      };
      pending = pending_asked s c.push.new.self.state c.push-2.new.self.state p c.args.moment
          c.known.ensures.valid c.next-number.ensures e f ∙ ap (λ (x : State). x.pending) g;
      next = ap (λ (x : State). x.next) f ∙ ap (λ (x : State). x.next) e ∙ ap (λ (x : State). x.next + 1) g;
      live = ap (λ (x : State). x.live) f ∙ ap (λ (x : State). x.live) e ∙ ap (λ (x : State). x.live) g;
    }

pub returns-clause-stay : goal.returns-clause-stay
returns-clause-stay c =
    let q = returns-clause-ok c in
    let next = q.next in
    stay_same c.args.journal.now.state c.push-2.new.self.state q.pending (omega arith)

pub returns-clause-room : goal.returns-clause-room
returns-clause-room c =
    let s : State = c.args.journal.now.state in
    let t : State = c.push-2.new.self.state in
    let q = returns-clause-ok c in
    let held : t.held ≡ s.held = q.turn.held ∙ sym c.requires.can.turn in
    let n : needed t ≡ needed s = needed_same s t q.pending q.live held in
    let m : needed c.spare.new.journal.state ≡ needed s = ap needed c.spare.ensures.same.state in
    let enough = c.in_default.ensures.ok.room in
    let a = c.push.ensures.room in
    let b = c.push-2.ensures.room in
    omega arith
