-- What is left to do pays for the events that are set, so that each event that is handled lowers the
-- number of a transaction.
use Rattle.std.proofs.Common.{◌≡◌, ℕ, ◌+◌, ◌*◌, ◌<◌, ◌≤◌, List, [], ◌∷◌, length, arith, ap}
use Rattle.std.proofs.Math.Nat.{le_trans}
use Rattle.std.specs.Prelude.{Option, Some, None}
use Rattle.ts_journal.specs.declared.entry.TheConstants.{GREATEST}
use Rattle.ts_journal.specs.declared.entry.Entry.{Entry}
use Rattle.ts_journal.specs.declared.entry.Entry.TheVariants.{Made, Set, Cancelled, Dropped, Destroyed}
use Rattle.ts_journal.specs.declared.entry.Pending.{Pending}
use Rattle.ts_journal.specs.State.{State, pending_at, without}
use Rattle.ts_journal.specs.Machine.{IsLawful, after, replay}
use Rattle.ts_journal.proofs.Events.{length_without}
use Rattle.ts_group.specs.Answers.{Falls}
use Rattle.ts_group.specs.Context.{Context}
use Rattle.ts_group.specs.Entries.{AllOwn, Grows}
use Rattle.ts_link.specs.Link.{Fewer, NoMore}
use Rattle.ts_phases.specs.Cover.{set_after}
use Rattle.ts_phases.specs.Lowering.{StepFalls, events_paid, if_told, number_left}
use Rattle.ts_phases.specs.declared.phase.Next.{Next}
use Rattle.ts_phases.specs.declared.phase.Next.TheVariants as N

-- ---- once the event numbers are used up, none is set

fewer_without : (n : ℕ) (ps : List Pending) (p : Pending) → pending_at n ps ≡ Some p
    → length (without n ps) ≤ length ps
fewer_without n ps p there = omega (arith, length_without n ps p there)

-- no entry of a handler's own sets one then
spent_own : (s : State) (es : List Entry) → AllOwn es → IsLawful s es → GREATEST ≤ s.next
    → length (replay s es).pending ≤ length s.pending
spent_own s [] own lawful spent = omega arith
spent_own s (Made key ∷ es) own lawful spent = spent_own (after s (Made key)) es own.1 lawful.1 spent
spent_own s (Set number key event due series period ∷ es) own lawful spent =
    let is : number ≡ s.next = lawful.0.1 in
    let below : number < GREATEST = lawful.0.2 in
    absurd (omega (arith, is, below, spent))
spent_own s (Cancelled number ∷ es) own lawful spent =
    le_trans (spent_own (after s (Cancelled number)) es own.1 lawful.1 spent) (fewer_without number s.pending
    lawful.0.1 lawful.0.2)
spent_own s (Dropped number ∷ es) own lawful spent =
    le_trans (spent_own (after s (Dropped number)) es own.1 lawful.1 spent) (fewer_without number s.pending
    lawful.0.1 lawful.0.2)
spent_own s (Destroyed key ∷ es) own lawful spent = spent_own (after s (Destroyed key)) es own.1 lawful.1
    spent
spent_own s _ own lawful spent = absurd own.0

pub spent_none : (a b : Context) → Grows a b → GREATEST ≤ a.log.state.next → length b.log.state.pending
    ≤ length a.log.state.pending
spent_none a b grows spent =
    let now : length b.log.state.pending ≡ length (replay a.log.state grows.log.own).pending =
    ap (λ (s : State). length s.pending) grows.log.by.state in
    omega (arith, now, spent_own a.log.state grows.log.own grows.log.all_own grows.log.by.lawful spent)

-- ---- numbers that are told

-- what is left fell, and pays for the events that were set, and for so many more
pub paid_fewer : (before now : List Pending) (m m' : Option ℕ) (more : ℕ) → Fewer m m'
    → length now + more ≤ length before + events_paid
    → Falls (number_left before m) more (number_left now m')
paid_fewer before now None m' more fell few = tt
paid_fewer before now (Some x) None more fell few = absurd fell
paid_fewer before now (Some x) (Some x') more fell few = omega (arith, fell, few)

-- it is no more, and no event was set
pub paid_none : (before now : List Pending) (m m' : Option ℕ) → NoMore m m' → length now ≤ length before
    → Falls (number_left before m) 0 (number_left now m')
paid_none before now None m' kept few = tt
paid_none before now (Some x) None kept few = absurd kept
paid_none before now (Some x) (Some x') kept few = omega (arith, kept, few)

-- the same by a sum, where as many Again answers are left
pub paid_sum : (before now : List Pending) (m : Option ℕ) (f g : ℕ → ℕ) (more : ℕ)
    → ((x : ℕ) → events_paid * g x + length now + more ≤ events_paid * f x + length before)
    → Falls (number_left before (if_told m (Some 0) (λ x y. f x))) more (number_left now (if_told m (Some 0)
    (λ x y. g x)))
paid_sum before now None f g more pays = tt
paid_sum before now (Some x) f g more pays = omega (arith, pays x)

-- what was paid before pays for so much
pub paid_then : (before mid now : List Pending) (m m' : Option ℕ) (more less : ℕ)
    → Falls (number_left before m) more (number_left mid m') → length now + less ≤ length mid + more
    → Falls (number_left before m) less (number_left now m')
paid_then before mid now None m' more less paid few = tt
paid_then before mid now (Some x) None more less paid few = absurd paid
paid_then before mid now (Some x) (Some x') more less paid few = omega (arith, paid, few)

-- the event that was handled is pending no more
pub handled_falls : (before after now : List Pending) (m m' : Option ℕ) → length after + 1 ≤ length before
    → Falls (number_left after m) 0 (number_left now m')
    → Falls (number_left before m) 1 (number_left now m')
handled_falls before after now None m' handled paid = tt
handled_falls before after now (Some x) None handled paid = absurd paid
handled_falls before after now (Some x) (Some x') handled paid = omega (arith, handled, paid)

-- ---- the step of a phase

pub one_paid : (a b : ℕ) → a ≤ b + 1 → a + 0 ≤ b + events_paid
one_paid a b few = omega (arith, few)

none_more : (a b : ℕ) → a ≤ b + 0 → a ≤ b
none_more a b few = omega (arith, few)

pub step_pays : (before now : List Pending) (next : Next) (m m' : Option ℕ) → StepFalls next m m'
    → length now ≤ length before + set_after next
    → Falls (number_left before m) 0 (number_left now m')
step_pays before now N.Done m m' kept few = paid_none before now m m' kept (none_more (length now)
    (length before) few)
step_pays before now _ m m' fell few = paid_fewer before now m m' 0 fell (one_paid (length now)
    (length before) few)
