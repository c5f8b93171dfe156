use Rattle.std.proofs.Common.{length, map}
use Rattle.ts_config.proofs.WordsSoFar.{ReadSoFar}
use Rattle.ts_config.proofs.words.words_of.Given as goal

-- the words so far are those before the rest
abbrev pub invariant-loop-words : goal.invariant-loop-words
invariant-loop-words l = ReadSoFar l.line l.rest (map (λ w. w.now) l.words.items)

abbrev pub decreases-loop-words : goal.decreases-loop-words
decreases-loop-words l = length l.rest
