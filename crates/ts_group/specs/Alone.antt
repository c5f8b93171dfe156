-- How many turns a group gets that nobody else has.
use Rattle.std.specs.Prelude.{ℕ, ◌<◌, ◌≤◌, Result, Ok, Err}
use Rattle.ts_journal.specs.declared.entry.TheConstants.{GREATEST}
use Rattle.ts_group.specs.declared.alone.TurnFault.{TurnFault}
use Rattle.ts_group.specs.declared.alone.TurnFault.TheVariants.{NoMemory, Worn}

-- A group that has had so many turns gets one more below the limit, unless memory lacks; else it is worn.
abbrev pub IsWithin : ℕ → ℕ → Result (Unit {0}) TurnFault → Type 0
IsWithin limit turns (Ok done) = turns < limit
IsWithin limit turns (Err NoMemory) = turns < limit
IsWithin limit turns (Err Worn) = (limit ≤ turns) × (turns ≤ GREATEST)
