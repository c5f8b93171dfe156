-- A line of a head has ended.
use Rattle.std.proofs.Common.{ap, ◌||◌, ◌∙◌}
use Rattle.ts_session.proofs.LineFronts.{field_ended, first_ended}
use Rattle.ts_session.proofs.lines.Lines.end_line.Goals as goal

pub returns-then-self : goal.returns-then-self
returns-then-self c =
    first_ended c.args.self c.new-front.result c.is_bodiless.result c.requires c.if-self.true
    c.new-front.ensures c.is_bodiless.ensures

pub returns : goal.returns
returns c =
    field_ended c.args.self c.new-front.result c.is_either.result c.is_last.result c.requires c.if-self.false
    c.new-front.ensures (c.is_either.ensures ∙ ap (λ t. c.args.self.told || t) c.tells_end.ensures)
    c.is_last.ensures
