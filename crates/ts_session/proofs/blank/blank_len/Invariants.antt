use Rattle.std.proofs.Common.{◌≤◌, ◌-◌, take}
use Rattle.ts_session.specs.Held.{AreBlank}
use Rattle.ts_session.proofs.blank.blank_len.Given as goal

-- the bytes so far are of empty lines
abbrev pub invariant-blank : goal.invariant-blank
invariant-blank l = (l.len ≤ l.kept) × AreBlank (take l.len l.room)

abbrev pub decreases-blank : goal.decreases-blank
decreases-blank l = l.kept - l.len
