-- What was lost is told as it is: the number of the next event never falls, so numbers that are used up stay
-- so.
use Rattle.std.proofs.Common.{◌≡◌, ◌≤◌, inl, inr, ℕ, List, [], ◌∷◌, Option, Some, None, arith, sym, ap, ◌∙◌}
use Rattle.std.specs.Prelude.{⊤}
use Rattle.ts_journal.specs.declared.entry.Entry.{Entry}
use Rattle.ts_journal.specs.declared.entry.Entry.TheVariants.{Took, Gave, Made, Set, Handled, Cancelled, Dropped, Destroyed}
use Rattle.ts_journal.specs.declared.entry.Event.{Event}
use Rattle.ts_journal.specs.declared.entry.TheConstants.{GREATEST}
use Rattle.ts_journal.specs.Machine.{after, replay}
use Rattle.ts_journal.specs.State.{State}
use Rattle.ts_group.specs.Calls.{IsCalled}
use Rattle.ts_group.specs.Context.{Context}
use Rattle.ts_group.specs.Entries.{Grows, renewal}
use Rattle.ts_group.specs.declared.action.SetFault.{SetFault}
use Rattle.ts_group.specs.declared.action.SetFault.TheVariants as F
use Rattle.ts_transform.specs.declared.driven.DrivenChain.{DrivenChain}
use Rattle.ts_transform.specs.declared.link_world.LinkWorld.{LinkWorld}
use Rattle.ts_transform.specs.declared.loss.Loss.{Loss}
use Rattle.ts_transform.specs.declared.loss.Loss.TheVariants as L
use Rattle.ts_transform.specs.Carrying.{HasBegunAlong, IsCarried, IsCarriedTo}
use Rattle.ts_transform.specs.Driven.{MayLose}
use Rattle.ts_transform.specs.Driving.{IsCause}
use Rattle.ts_transform.specs.Loss.{IsCauseOf, loss_of}
use Rattle.ts_transform.proofs.Handled.{handled_by}

-- no entry lowers the number of the next event
next_after : (s : State) (e : Entry) → s.next ≤ (after s e).next
next_after s (Took turn seat) = omega arith
next_after s (Gave turn) = omega arith
next_after s (Made key) = omega arith
next_after s (Set number key event due series period) = omega arith
next_after s (Handled number moment) = omega arith
next_after s (Cancelled number) = omega arith
next_after s (Dropped number) = omega arith
next_after s (Destroyed key) = omega arith

next_replayed : (s : State) (es : List Entry) → s.next ≤ (replay s es).next
next_replayed s [] = omega arith
next_replayed s (e ∷ es) =
    let first : s.next ≤ (after s e).next = next_after s e in
    let others : (after s e).next ≤ (replay (after s e) es).next = next_replayed (after s e) es in
    omega (arith, first, others)

next_rises : (s t : State) (es : List Entry) → t ≡ replay s es → s.next ≤ t.next
next_rises s t es is =
    let up : s.next ≤ (replay s es).next = next_replayed s es in
    let same : t.next ≡ (replay s es).next = ap (λ x. x.next) is in
    omega (arith, up, same)

pub grows_next : (a b : Context) → Grows a b → a.log.state.next ≤ b.log.state.next
grows_next a b grows = next_rises a.log.state b.log.state grows.log.own grows.log.by.state

-- what a handler of a world is called with
pub carried_to : {I K P : Type 0} (w : LinkWorld I K P) (now : Context) (role : ℕ) (event : Event)
    (c : IsCalled (λ s roles. IsCarried w s.pending s.next roles) now role event)
    → IsCarriedTo role event w c.before.pending c.before.next now
carried_to w now role event c = record {
  carried = c.sound;
  handled = handled_by (λ s roles. IsCarried w s.pending s.next roles) now role event c;
  next_rises = next_rises c.before now.log.state
      (Handled c.handled.number now.moment ∷ renewal c.handled c.before.next now.moment) c.now_is;
}

-- Where it is told that the numbers are used up, they are: so it was before, or an event could not be set for
-- this cause.
pub told_then : {P Live : Type 0} (d e : DrivenChain P) (n : ℕ) (now : Context) → MayLose Live d e now
    → n ≤ now.log.state.next → (d.lost ≡ Some L.Spent → GREATEST ≤ n) → e.lost ≡ Some L.Spent
    → GREATEST ≤ now.log.state.next
told_then d e n now (inl (same, lost)) rises told spent = let used : GREATEST ≤ n = told (sym lost ∙ spent) in
    omega (arith, used, rises)
told_then {P} {Live} d e n now (inr (fault, stopped, lost, cause)) rises told spent = by_fault fault cause
    (sym lost ∙ spent)
  where
    by_fault : (f : SetFault) → IsCause Live f now → Some (loss_of f) ≡ Some L.Spent
        → GREATEST ≤ now.log.state.next
    by_fault F.Spent why is = why
    by_fault F.NoMemory why is = absurd (let wrong : Some L.NoMemory ≡ Some L.Spent = is in cc)
    by_fault F.Dead why is = absurd (let wrong : Some L.Dead ≡ Some L.Spent = is in cc)

-- So it is where a world begins.
pub told_begun : {I K P : Type 0} (w : LinkWorld I K P) (now : Context) → HasBegunAlong w now
    → w.driven.lost ≡ Some L.Spent → GREATEST ≤ now.log.state.next
told_begun w now (inl (runs, none, live)) spent = absurd
    (let wrong : ◌≡◌ {A = Option Loss} None (Some L.Spent) = sym none ∙ spent in cc)
told_begun w now (inr (loss, stopped, lost, cause)) spent = by_loss loss cause (sym lost ∙ spent)
  where
    by_loss : (l : Loss) → IsCauseOf ⊤ l now → Some l ≡ Some L.Spent → GREATEST ≤ now.log.state.next
    by_loss L.Spent why is = why
    by_loss L.NoMemory why is = absurd (let wrong : Some L.NoMemory ≡ Some L.Spent = is in cc)
    by_loss L.TableFull why is = absurd (let wrong : Some L.TableFull ≡ Some L.Spent = is in cc)
    by_loss L.Dead why is = absurd (let wrong : Some L.Dead ≡ Some L.Spent = is in cc)
