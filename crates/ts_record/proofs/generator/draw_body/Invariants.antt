use Rattle.std.proofs.Common.{◌≡◌, ◌++◌, ◌-◌}
use Rattle.ts_record.specs.Generator.{after, letters}
use Rattle.ts_record.proofs.generator.draw_body.Given as goal

-- the letters so far and those that are still to be drawn are all letters
abbrev pub invariant-letters : goal.invariant-letters
invariant-letters l =
    (l.body.items ++ letters (l.count - l.counter) l.draws.state ≡ letters l.count l.initial.draws.state)
    × (after (l.count - l.counter) l.draws.state ≡ after l.count l.initial.draws.state)
