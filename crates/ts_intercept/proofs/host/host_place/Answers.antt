-- The line is looked for in a copy of the head in lower case.
use Rattle.std.proofs.Common.{◌≡◌, List, ℕ, rules, subst}
use Rattle.http_header.specs.Token.{lowercase}
use Rattle.memchr.proofs.lemmas.ValueLemmas.{FindsNeedle-value}
use Rattle.ts_intercept.specs.Served.{first_match, host_start}
use Rattle.ts_intercept.proofs.host.host_place.Goals as goal

pub returns-clause-value : goal.returns-clause-value
returns-clause-value c =
    let same : c.bytes.result.now ≡ lowercase c.args.head.now = search rules in
    subst (λ (x : List ℕ). c.find.result ≡ first_match x host_start) same
    (FindsNeedle-value c.bytes.result.now host_start c.find.result c.find.ensures)
