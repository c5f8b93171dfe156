-- How many turns a state has that has lived.
use Rattle.std.proofs.Common.{◌≡◌, ℕ, ◌≤◌, inl, inr, List, [], ◌∷◌, ap, arith}
use Rattle.ts_journal.specs.declared.entry.Entry.{Entry}
use Rattle.ts_journal.specs.declared.entry.Entry.TheVariants.{Took, Gave, Made, Set, Handled, Cancelled}
use Rattle.ts_journal.specs.declared.entry.Entry.TheVariants.{Dropped, Destroyed}
use Rattle.ts_journal.specs.State.{State}
use Rattle.ts_journal.specs.Machine.{Allowed, after, IsLawful, HasLived, replay}

-- an entry takes no turn back
turns_after : (s : State) (e : Entry) → Allowed s e → s.turns ≤ (after s e).turns
turns_after s (Took turn seat) allowed = let later = allowed.1 in omega arith
turns_after s (Gave turn) allowed = omega arith
turns_after s (Made key) allowed = omega arith
turns_after s (Set number key event due series period) allowed = omega arith
turns_after s (Handled number moment) allowed = omega arith
turns_after s (Cancelled number) allowed = omega arith
turns_after s (Dropped number) allowed = omega arith
turns_after s (Destroyed key) allowed = omega arith

turns_replay : (s : State) (es : List Entry) → IsLawful s es → s.turns ≤ (replay s es).turns
turns_replay s [] lawful = omega arith
turns_replay s (e ∷ es) lawful =
    let first = turns_after s e lawful.0 in
    let rest = turns_replay (after s e) es lawful.1 in omega arith

-- a state has as many turns as those with which its journal was made, or more
pub lived_turns : (made : ℕ) (s : State) → HasLived made s → made ≤ s.turns
lived_turns made s lived =
    let rises = turns_replay lived.beginning lived.life lived.lawful in
    let now : s.turns ≡ (replay lived.beginning lived.life).turns = ap (λ (t : State). t.turns) lived.state in
    elim lived.is_beginning [
      | inl fresh ↦
          let first : lived.beginning.turns ≡ made = ap (λ (t : State). t.turns) fresh in omega arith
      | inr keyed ↦
          let first : lived.beginning.turns ≡ made = ap (λ (t : State). t.turns) keyed.1 in omega arith
    ]
