-- Which pending event comes first, and which is news.
use Rattle.std.specs.Prelude.{◌≡◌, ℕ, ◌<◌, ◌≤◌, ◌⊎◌, Option, Some, None, if◌then◌else◌, nat_le}
use Rattle.ts_journal.specs.declared.entry.Pending.{Pending}
use Rattle.ts_journal.specs.State.{State, pending_at}
use Rattle.ts_group.specs.Context.{Context}

-- an event stands before another by its due moment, and then by its number
abbrev pub IsBefore : Pending → Pending → Type 0
IsBefore a b = (a.due < b.due) ⊎ ((a.due ≡ b.due) × (a.number ≤ b.number))

-- this event is pending, and no pending event stands before it
abbrev pub IsFirstDue : State → Pending → Type 0
IsFirstDue s first =
    (pending_at first.number s.pending ≡ Some first)
    × ((n : ℕ) (p : Pending) → pending_at n s.pending ≡ Some p → IsBefore first p)

-- the event that is due first has this due moment and this number
abbrev pub IsDueFirst : State → ℕ → ℕ → Type 0
IsDueFirst s due number = (p : Pending) × IsFirstDue s p × (p.due ≡ due) × (p.number ≡ number)

-- no pending event is news: each has a number below this
abbrev pub NoNews : ℕ → State → Type 0
NoNews from s = (n : ℕ) (p : Pending) → pending_at n s.pending ≡ Some p → n < from

-- this event is pending and is news, and each other one that is news has a greater number
abbrev pub IsNews : ℕ → State → Pending → Type 0
IsNews from s news =
    (pending_at news.number s.pending ≡ Some news) × (from ≤ news.number)
    × ((n : ℕ) (p : Pending) → pending_at n s.pending ≡ Some p → from ≤ n → news.number ≤ n)

-- the first event that is news has this number and this due moment
abbrev pub IsFirstNews : Context → ℕ → ℕ → Type 0
IsFirstNews now number due =
    (p : Pending) × IsNews now.news_from now.log.state p × (p.number ≡ number) × (p.due ≡ due)

-- the event that comes first of two, of which the second has the greater number
abbrev pub sooner : Option Pending → Pending → Pending
sooner None p = p
sooner (Some b) p = if nat_le b.due p.due then b else p
