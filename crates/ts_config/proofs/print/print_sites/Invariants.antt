use Rattle.std.proofs.Common.{◌≡◌, ◌++◌, take}
use Rattle.ts_config.specs.Printing.{spelled_words}
use Rattle.ts_config.proofs.print.print_sites.Given as goal

-- the sites that were passed are printed
abbrev pub invariant-loop-site : goal.invariant-loop-site
invariant-loop-site l = l.out.items ≡ l.initial.out.items ++ spelled_words (take l.site-index l.sites)
