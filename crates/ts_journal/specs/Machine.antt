-- The event machine: which entries a state allows, what each of them changes, and which journals are lawful.
use Rattle.std.specs.Prelude.{⊤, ◌≡◌, ℕ, ◌+◌, ◌<◌, ◌≤◌, ◌==◌, ◌&&◌, ◌||◌, ◌⊎◌, Bool, true, false, not, nat_lt, nat_le, List, [], ◌∷◌, ◌++◌, Option, Some, None, length, if◌then◌else◌, unwrap_or, is_some}
use Rattle.ts_journal.specs.declared.entry.TheConstants.{MOST_KEYS, GREATEST}
use Rattle.ts_journal.specs.declared.entry.ContKey.{ContKey}
use Rattle.ts_journal.specs.declared.entry.Pending.{Pending}
use Rattle.ts_journal.specs.declared.entry.Latest.{Latest}
use Rattle.ts_journal.specs.declared.entry.Entry.{Entry}
use Rattle.ts_journal.specs.declared.entry.Entry.TheVariants.{Took, Gave, Made, Set, Handled, Cancelled, Dropped, Destroyed}
use Rattle.ts_journal.specs.State.{State, fresh, fresh_with, pending_at, without, generation_at, without_index, with_key, IsLive, numbers_of, latest_of, latest_at}

-- an event of this series is pending
abbrev pub HasSeries : Latest → List Pending → Type 0
HasSeries l [] = ⊥
HasSeries l (p ∷ ps) = (latest_of p ≡ l) ⊎ HasSeries l ps

-- A first or only event begins its series. A later one comes at a period, while an event of the series is
-- pending or was the last one handled.
abbrev pub MayBelong : State → Latest → ℕ → Type 0
MayBelong s l number =
    (l.series ≡ number)
    ⊎ ((l.series < number) × (0 < l.period) × ((s.latest ≡ Some l) ⊎ HasSeries l s.pending))

-- where an entry is allowed
abbrev pub Allowed : State → Entry → Type 0
Allowed s (Took turn seat) = (s.held ≡ false) × (s.turns < turn)
Allowed s (Gave turn) = (s.held ≡ true) × (turn ≡ s.turns)
Allowed s (Made key) =
    (s.held ≡ true) × (key.index < MOST_KEYS) × (generation_at key.index s.live ≡ None)
    × (key.generation ≡ unwrap_or (generation_at key.index s.newest) 0 + 1) × (key.generation ≤ GREATEST)
Allowed s (Set number key event due series period) =
    (s.held ≡ true) × (number ≡ s.next) × (number < GREATEST) × IsLive s.live key
    × MayBelong s (record { key = key; series = series; period = period }) number
Allowed s (Handled number moment) =
    (s.held ≡ true) × (p : Pending) × (pending_at number s.pending ≡ Some p) × (p.due ≤ moment)
Allowed s (Cancelled number) = (s.held ≡ true) × (p : Pending) × (pending_at number s.pending ≡ Some p)
Allowed s (Dropped number) = (s.held ≡ true) × (p : Pending) × (pending_at number s.pending ≡ Some p)
Allowed s (Destroyed key) = (s.held ≡ true) × IsLive s.live key × (numbers_of key s.pending ≡ [])

-- what an entry changes; all else stays
abbrev pub after : State → Entry → State
after s (Took turn seat) = record s { turns = turn; held = true }
after s (Gave turn) = record s { held = false }
after s (Made key) = record s { live = s.live ++ key ∷ []; newest = with_key key s.newest }
after s (Set number key event due series period) = record s {
  next = s.next + 1;
  pending =
      s.pending
      ++ record { number = number; key = key; event = event; due = due; series = series; period = period } ∷ [];
  set_count = s.set_count + 1;
}
after s (Handled number moment) = record s {
  pending = without number s.pending;
  latest = latest_at number s.pending;
  handled_count = s.handled_count + 1;
}
after s (Cancelled number) = record s {
  pending = without number s.pending;
  cancelled_count = s.cancelled_count + 1;
}
after s (Dropped number) = record s {
  pending = without number s.pending;
  dropped_count = s.dropped_count + 1;
}
after s (Destroyed key) = record s { live = without_index key.index s.live }

-- The tests of the machine, which compute; the first asks whether there is a generation, and it is this.
abbrev pub has_generation : Option ℕ → ℕ → Bool
has_generation None g = false
has_generation (Some h) g = h == g

abbrev pub is_live : List ContKey → ContKey → Bool
is_live live key = has_generation (generation_at key.index live) key.generation

abbrev pub same_series : Latest → Latest → Bool
same_series a b =
    (a.key.index == b.key.index) && (a.key.generation == b.key.generation)
    && (a.series == b.series) && (a.period == b.period)

abbrev pub is_latest : Option Latest → Latest → Bool
is_latest None l = false
is_latest (Some m) l = same_series m l

abbrev pub has_series : Latest → List Pending → Bool
has_series l [] = false
has_series l (p ∷ ps) = same_series (latest_of p) l || has_series l ps

abbrev pub may_belong : State → Latest → ℕ → Bool
may_belong s l number =
    (l.series == number)
    || (nat_lt l.series number && nat_lt 0 l.period && (is_latest s.latest l || has_series l s.pending))

abbrev pub is_due : Option Pending → ℕ → Bool
is_due None moment = false
is_due (Some p) moment = nat_le p.due moment

abbrev pub is_empty : List ℕ → Bool
is_empty [] = true
is_empty (n ∷ ns) = false

abbrev pub is_allowed : State → Entry → Bool
is_allowed s (Took turn seat) = not s.held && nat_lt s.turns turn
is_allowed s (Gave turn) = s.held && (turn == s.turns)
is_allowed s (Made key) =
    s.held && nat_lt key.index MOST_KEYS && not (is_some (generation_at key.index s.live))
    && (key.generation == unwrap_or (generation_at key.index s.newest) 0 + 1)
    && nat_le key.generation GREATEST
is_allowed s (Set number key event due series period) =
    s.held && (number == s.next) && nat_lt number GREATEST && is_live s.live key
    && may_belong s (record { key = key; series = series; period = period }) number
is_allowed s (Handled number moment) = s.held && is_due (pending_at number s.pending) moment
is_allowed s (Cancelled number) = s.held && is_some (pending_at number s.pending)
is_allowed s (Dropped number) = s.held && is_some (pending_at number s.pending)
is_allowed s (Destroyed key) = s.held && is_live s.live key && is_empty (numbers_of key s.pending)

-- The machine: the state that an entry leads to, or nothing where it is not allowed.
abbrev pub step : State → Entry → Option State
step s e = if is_allowed s e then Some (after s e) else None

-- the state that entries lead to, or nothing where one of them is not allowed
abbrev pub run : Option State → List Entry → Option State
run None es = None
run (Some s) [] = Some s
run (Some s) (e ∷ es) = run (step s e) es

-- each entry is allowed where it stands
abbrev pub IsLawful : State → List Entry → Type 0
IsLawful s [] = ⊤
IsLawful s (e ∷ es) = Allowed s e × IsLawful (after s e) es

-- the state that entries lead to where they are lawful
abbrev pub replay : State → List Entry → State
replay s [] = s
replay s (e ∷ es) = replay (after s e) es

-- numbers that rise, none below the one bound and each below the other
abbrev pub Rises : ℕ → List Pending → ℕ → Type 0
Rises low [] high = low ≤ high
Rises low (p ∷ ps) high = (low ≤ p.number) × Rises (p.number + 1) ps high

-- each pending event is of a live key
abbrev pub AllLive : List ContKey → List Pending → Type 0
AllLive live [] = ⊤
AllLive live (p ∷ ps) = IsLive live p.key × AllLive live ps

-- each pending event is in a series that began with it or before it
abbrev pub AllBegun : List Pending → Type 0
AllBegun [] = ⊤
AllBegun (p ∷ ps) = (p.series ≤ p.number) × AllBegun ps

-- each index is live once, below the most keys, under the newest generation that it was given
abbrev pub AreNewest : List ContKey → List ContKey → Type 0
AreNewest newest [] = ⊤
AreNewest newest (k ∷ ks) =
    (generation_at k.index newest ≡ Some k.generation) × (generation_at k.index ks ≡ None)
    × (k.index < MOST_KEYS) × AreNewest newest ks

-- the counts add up: each event that was set is handled, cancelled, dropped or pending
abbrev pub Balances : State → Type 0
Balances s = s.set_count ≡ s.handled_count + s.cancelled_count + s.dropped_count + length s.pending

-- what holds of each state that a lawful journal reaches
pub record IsValid (s : State) : Type 0 where
  pub rises : Rises 0 s.pending s.next
  pub alive : AllLive s.live s.pending
  pub newest : AreNewest s.newest s.live
  pub begun : AllBegun s.pending
  pub counts : Balances s
  pub few : s.set_count < s.next
  pub fits : s.next ≤ GREATEST

-- what is known of the pending event of a number
pub record IsKnown (s : State) (n : ℕ) (p : Pending) : Type 0 where
  pub number : p.number ≡ n
  pub live : IsLive s.live p.key
  pub below : p.number < s.next
  pub begun : p.series ≤ p.number

-- lawful entries lead from a base to a state
pub record IsReached (base : State) (entries : List Entry) (s : State) : Type 0 where
  pub lawful : IsLawful base entries
  pub state : s ≡ replay base entries
  pub valid_base : IsValid base
  pub valid : IsValid s

-- where a journal begins that is made with so many turns: with no key, or with one that is live
abbrev pub IsBeginning : ℕ → State → Type 0
IsBeginning turns s = (s ≡ fresh turns) ⊎ ((key : ContKey) × (s ≡ fresh_with turns key))

-- A state is what a whole life led to: entries, each allowed where it stood, from where a journal begins that
-- is made with so many turns. So its counts are those of the whole life, however much of it is kept.
pub record HasLived (made : ℕ) (s : State) : Type 0 where
  pub beginning : State
  pub is_beginning : IsBeginning made beginning
  pub life : List Entry
  pub lawful : IsLawful beginning life
  pub state : s ≡ replay beginning life
