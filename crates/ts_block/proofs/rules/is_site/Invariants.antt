-- The host is none of the sites that were passed.
use Rattle.std.proofs.Common.{◌≡◌, drop}
use Rattle.ts_block.specs.Rules.{is_site}
use Rattle.ts_block.proofs.rules.is_site.Given as goal

abbrev pub invariant-loop-site : goal.invariant-loop-site
invariant-loop-site l = is_site l.host l.listed ≡ is_site l.host (drop l.site-index l.listed)
