-- The event that is handled is the one that was set.
use Rattle.std.proofs.Common.{◌≡◌, [], ◌∷◌, ◌++◌, ap, ◌∙◌, arith}
use Rattle.std.proofs.lemmas.Result.{IfOk-at_ok}
use Rattle.ts_journal.specs.declared.entry.Pending.{Pending}
use Rattle.ts_journal.specs.declared.entry.Event.TheVariants.{Hook}
use Rattle.ts_journal.specs.State.{State, pending_at}
use Rattle.ts_base_tests.proofs.journals.a_key_goes.Goals as goal

pub push-requires-3-clause-allowed : goal.push-requires-3-clause-allowed
push-requires-3-clause-allowed g c =
    let p : Pending = record {
      number = 1;
      key = record { index = 0; generation = 1 };
      event = Hook;
      due = 5;
      series = 1;
      period = 0;
    } in
    let none : c.push.new.self.state.pending ≡ [] =
    ap (λ (s : State). s.pending) c.push.ensures.state ∙ ap (λ (s : State). s.pending)
    c.reserve.ensures.same.state ∙ ap (λ (s : State). s.pending)
    (IfOk-at_ok _ c.expect-journal.ensures c.with_key.ensures.state) in
    let one : c.push-2.new.self.state.pending ≡ p ∷ [] = ap (λ (s : State). s.pending) c.push-2.ensures.state
    ∙ ap (λ ps. ps ++ p ∷ []) none in (
      ap (λ (s : State). s.held) c.push-2.ensures.state ∙ ap (λ (s : State). s.held) c.push.ensures.state,
      p,
      ap (pending_at 1) one,
      omega arith,
    )
