-- Two turns with the same parts are one.
use Rattle.std.proofs.Common.{◌≡◌, ◌<◌, ◌≤◌}
use Rattle.std.proofs.Math.Bridge.{le_prop}
use mathlib.Core.HLevel.{is_prop→PathP}
use Rattle.ts_journal.specs.declared.slotted.Slotted.{Ghosts}
use Rattle.ts_slot.specs.declared.seat.Turn.{Turn}
use Rattle.ts_slot.specs.Limits.{last_turn}

pub turn_same : {X G T : Type 0} {d : Ghosts X G T} (t u : Turn X G T d) → t.group ≡ u.group
    → t.number ≡ u.number → t.boxed ≡ u.boxed → t.found ≡ u.found → t ≡ u
turn_same {d = d} t u group number boxed found = λ i. record {
  group = group i;
  number = number i;
  boxed = boxed i;
  found = found i;
  young = is_prop→PathP (λ j. d.stamp (found j).value < number j) (λ j. le_prop) t.young u.young i;
  bounded = is_prop→PathP (λ j. number j ≤ last_turn) (λ j. le_prop) t.bounded u.bounded i;
}
