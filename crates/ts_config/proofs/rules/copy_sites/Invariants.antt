use Rattle.std.proofs.Common.{◌≡◌, map, take}
use Rattle.ts_config.proofs.rules.copy_sites.Given as goal

-- the words that were passed are copied
abbrev pub invariant-loop-word : goal.invariant-loop-word
invariant-loop-word l = l.sites.items ≡ map (λ w. w.now) (take l.word-index l.words)
