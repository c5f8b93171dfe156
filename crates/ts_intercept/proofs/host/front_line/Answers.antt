-- The line ends with the first end of a line.
use Rattle.std.proofs.Common.{ap, ◌∙◌}
use Rattle.std.specs.Prelude.{Some, None}
use Rattle.memchr.proofs.lemmas.ValueLemmas.{FindsNeedle-value}
use Rattle.ts_intercept.specs.Served.{front_to, line_end}
use Rattle.ts_intercept.proofs.host.front_line.Goals as goal

pub returns-in-Some : goal.returns-in-Some
returns-in-Some c =
    let text = c.args.text.now in
    c.split_at.ensures.front
    ∙ ap (λ o. front_to o text) (FindsNeedle-value text line_end (Some c.in-Some.place) c.in-Some.ensures)

pub returns-in-None : goal.returns-in-None
returns-in-None c =
    let text = c.args.text.now in
    ap (λ o. front_to o text) (FindsNeedle-value text line_end None c.in-None.ensures)
