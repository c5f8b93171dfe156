-- What holds of every lawful journal, counted from its base and said of the list of its entries.
use Rattle.std.specs.Prelude.{⊤, ◌≡◌, ℕ, ◌+◌, ◌<◌, ◌≤◌, ◌==◌, ◌⊎◌, true, false, List, [], ◌∷◌, ◌++◌, Some, None, if◌then◌else◌}
use Rattle.std.specs.Option.{MatchOption}
use Rattle.ts_journal.specs.declared.entry.ContKey.{ContKey}
use Rattle.ts_journal.specs.declared.entry.Pending.{Pending}
use Rattle.ts_journal.specs.declared.entry.Entry.{Entry}
use Rattle.ts_journal.specs.declared.entry.Entry.TheVariants.{Took, Gave, Made, Set, Handled, Cancelled, Dropped, Destroyed}
use Rattle.ts_journal.specs.State.{State, pending_at, IsLive}
use Rattle.ts_journal.specs.Machine.{Allowed, after, step, run, IsLawful, IsValid, Balances, replay}

-- the machine's function and the words for it agree, entry by entry and over a journal
abbrev pub StepIsAllowed : Type 0
StepIsAllowed = (s : State) (e : Entry) →
    MatchOption (step s e) (Allowed s e → ⊥) (λ t. Allowed s e × (t ≡ after s e))

abbrev pub RunIsLawful : Type 0
RunIsLawful = (s : State) (es : List Entry) →
    MatchOption (run (Some s) es) (IsLawful s es → ⊥) (λ t. IsLawful s es × (t ≡ replay s es))

-- the numbers that are set, in order
abbrev pub numbers_set : List Entry → List ℕ
numbers_set [] = []
numbers_set (Set number key event due series period ∷ es) = number ∷ numbers_set es
numbers_set (_ ∷ es) = numbers_set es

-- numbers that rise from the bound on
abbrev pub RiseFrom : ℕ → List ℕ → Type 0
RiseFrom low [] = ⊤
RiseFrom low (n ∷ ns) = (low ≤ n) × RiseFrom (n + 1) ns

-- First: a number is set at most once, above all that were set before.
abbrev pub NumbersRise : Type 0
NumbersRise = (base : State) (es : List Entry) → IsLawful base es → RiseFrom base.next (numbers_set es)

-- how often a number is set
abbrev pub times_set : ℕ → List Entry → ℕ
times_set n [] = 0
times_set n (Set number key event due series period ∷ es) = (if number == n then 1 else 0) + times_set n es
times_set n (_ ∷ es) = times_set n es

-- how often it is handled, cancelled or dropped
abbrev pub times_closed : ℕ → List Entry → ℕ
times_closed n [] = 0
times_closed n (Handled number moment ∷ es) = (if number == n then 1 else 0) + times_closed n es
times_closed n (Cancelled number ∷ es) = (if number == n then 1 else 0) + times_closed n es
times_closed n (Dropped number ∷ es) = (if number == n then 1 else 0) + times_closed n es
times_closed n (_ ∷ es) = times_closed n es

-- how often it is pending
abbrev pub times_pending : ℕ → List Pending → ℕ
times_pending n [] = 0
times_pending n (p ∷ ps) = (if p.number == n then 1 else 0) + times_pending n ps

-- the entry handles, cancels or drops the event of the number
abbrev pub Closes : ℕ → Entry → Type 0
Closes n (Handled number moment) = number ≡ n
Closes n (Cancelled number) = number ≡ n
Closes n (Dropped number) = number ≡ n
Closes n _ = ⊥

-- Second: a number is closed at most once, and only after it was set or where it was pending at the base.
-- What was set and not closed is pending.
pub record IsClosedOnce (base : State) (es : List Entry) (n : ℕ) : Type 0 where
  pub once : times_closed n es ≤ 1
  pub set_before : (before rest : List Entry) (e : Entry) → es ≡ before ++ e ∷ rest → Closes n e
      → (times_closed n before ≡ 0) × (times_pending n base.pending + times_set n before ≡ 1)
  pub adds_up :
      times_closed n es + times_pending n (replay base es).pending
      ≡ times_pending n base.pending + times_set n es

abbrev pub ClosedOnce : Type 0
ClosedOnce = (base : State) (es : List Entry) → IsValid base → IsLawful base es →
    (n : ℕ) → IsClosedOnce base es n

-- no entry destroys the key
abbrev pub NotDestroyed : ContKey → List Entry → Type 0
NotDestroyed key [] = ⊤
NotDestroyed key (Destroyed k ∷ es) = (k ≡ key → ⊥) × NotDestroyed key es
NotDestroyed key (_ ∷ es) = NotDestroyed key es

-- no entry makes the key
abbrev pub NotMade : ContKey → List Entry → Type 0
NotMade key [] = ⊤
NotMade key (Made k ∷ es) = (k ≡ key → ⊥) × NotMade key es
NotMade key (_ ∷ es) = NotMade key es

-- after these entries a key stands: it was live at the base or was made, and was not destroyed since
abbrev pub Stands : State → List Entry → ContKey → Type 0
Stands base es key =
    (IsLive base.live key × NotDestroyed key es)
    ⊎ ((before : List Entry) × (rest : List Entry) × (es ≡ before ++ Made key ∷ rest) × NotDestroyed key rest)

-- Third: where an event is handled, its key is live.
abbrev pub HandledLive : Type 0
HandledLive = (base : State) (before : List Entry) (number moment : ℕ) (rest : List Entry) →
    IsValid base → IsLawful base (before ++ Handled number moment ∷ rest) →
    (p : Pending) × (pending_at number (replay base before).pending ≡ Some p)
    × IsLive (replay base before).live p.key × Stands base before p.key

-- no turn begins or ends among these entries
abbrev pub NoTurns : List Entry → Type 0
NoTurns [] = ⊤
NoTurns (Took turn seat ∷ es) = ⊥
NoTurns (Gave turn ∷ es) = ⊥
NoTurns (_ ∷ es) = NoTurns es

-- an entry of a turn: any but those that begin and end one
abbrev pub IsInner : Entry → Type 0
IsInner (Took turn seat) = ⊥
IsInner (Gave turn) = ⊥
IsInner _ = ⊤

-- this turn was held at the base or began among these entries, and no turn began or ended since
abbrev pub Began : State → List Entry → ℕ → Type 0
Began base es turn =
    ((base.held ≡ true) × (turn ≡ base.turns) × NoTurns es)
    ⊎ ((before : List Entry) × (seat : ℕ) × (rest : List Entry)
    × (es ≡ before ++ Took turn seat ∷ rest) × NoTurns rest)

-- this turn ends among these entries, and no turn begins or ends before that
abbrev pub Ends : List Entry → ℕ → Type 0
Ends es turn =
    (before : List Entry) × (rest : List Entry) × (es ≡ before ++ Gave turn ∷ rest) × NoTurns before

-- Fourth: each entry stands in a turn, and where the journal is at rest the end of that turn stands after it.
abbrev pub StandInTurns : Type 0
StandInTurns = (base : State) (before : List Entry) (e : Entry) (rest : List Entry) →
    IsLawful base (before ++ e ∷ rest) → IsInner e →
    (turn : ℕ) × Began base before turn × ((replay base (before ++ e ∷ rest)).held ≡ false → Ends rest turn)

-- Fifth: the counts add up, if they do at the base.
abbrev pub CountsBalance : Type 0
CountsBalance = (base : State) (es : List Entry) →
    Balances base → IsLawful base es → Balances (replay base es)

-- Sixth: a key that was destroyed is not made again, and never live again.
abbrev pub NeverAgain : Type 0
NeverAgain = (base : State) (before rest : List Entry) (key : ContKey) →
    IsValid base → IsLawful base (before ++ Destroyed key ∷ rest) →
    (IsLive (replay base (before ++ Destroyed key ∷ rest)).live key → ⊥) × NotMade key rest

-- Seventh: a number below the base's next that is not pending there is never closed again; so it can never be
-- handled, however little of what came before the base is kept.
abbrev pub ClosedForGood : Type 0
ClosedForGood = (base : State) (es : List Entry) (n : ℕ) → IsValid base → IsLawful base es →
    n < base.next → pending_at n base.pending ≡ None → times_closed n es ≡ 0
