-- What was found of the held bytes decides.
use Rattle.std.proofs.Common.{◌<◌, length, subst}
use Rattle.ts_wire.specs.Heads.{LacksRequest}
use Rattle.ts_wire.specs.Limits.{head_limit}
use Rattle.ts_session.specs.Finding.{NeverRequest}
use Rattle.ts_session.proofs.Decisions.{decides_more, decides_never}
use Rattle.ts_session.proofs.request.Request.decide.Goals as goal

pub returns-then-not-may_end : goal.returns-then-not-may_end
returns-then-not-may_end c =
    let quiet = c.may_end.ensures c.if-not-may_end.true in
    decides_more c.args.self.now c.requires.head (quiet.lacks c.requires.lacks) quiet.short

pub returns-in-More : goal.returns-in-More
returns-in-More c =
    decides_more c.args.self.now c.requires.head (subst LacksRequest c.bytes.ensures.value c.in-More.ensures.0)
    (subst (λ b. length b < head_limit) c.bytes.ensures.value c.in-More.ensures.1)

pub returns-in-Never : goal.returns-in-Never
returns-in-Never c =
    decides_never c.args.self.now (subst NeverRequest c.bytes.ensures.value c.in-Never.ensures)
