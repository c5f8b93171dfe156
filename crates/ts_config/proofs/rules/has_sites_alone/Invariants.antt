use Rattle.std.proofs.Common.{◌≡◌, drop, map}
use Rattle.std.specs.List.{list_all}
use Rattle.ts_config.specs.Rules.{is_site}
use Rattle.ts_config.proofs.rules.has_sites_alone.Given as goal

-- the words that were passed are sites
abbrev pub invariant-loop-word : goal.invariant-loop-word
invariant-loop-word l =
    list_all is_site (map (λ w. w.now) l.words)
    ≡ list_all is_site (map (λ w. w.now) (drop l.word-index l.words))
