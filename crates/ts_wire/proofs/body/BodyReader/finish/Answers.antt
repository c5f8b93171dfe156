use Rattle.std.proofs.Common.{sym, ap, ◌∙◌}
use Rattle.ts_wire.proofs.OneBody.{one_body}
use Rattle.ts_wire.proofs.FrontBody.{body_grows}
use Rattle.ts_wire.proofs.CutLemmas.{cut_short, ended_whole, open_whole, others_unfinished}
use Rattle.ts_wire.proofs.body.BodyReader.finish.Goals as goal

pub returns-in-Ended-clause-cut : goal.returns-in-Ended-clause-cut
returns-in-Ended-clause-cut c =
    ended_whole c.args.self.now (sym (ap (λ p. p.phase) c.self.view_is) ∙ c.in-Ended.is)

pub returns-in-Ended-clause-one_body : goal.returns-in-Ended-clause-one_body
returns-in-Ended-clause-one_body c = one_body

pub returns-in-Ended-clause-grows : goal.returns-in-Ended-clause-grows
returns-in-Ended-clause-grows c = body_grows

pub returns-in-Open-clause-cut : goal.returns-in-Open-clause-cut
returns-in-Open-clause-cut c =
    open_whole c.args.self.now (sym (ap (λ p. p.phase) c.self.view_is) ∙ c.in-Open.is)

pub returns-in-Open-clause-one_body : goal.returns-in-Open-clause-one_body
returns-in-Open-clause-one_body c = one_body

pub returns-in-Open-clause-grows : goal.returns-in-Open-clause-grows
returns-in-Open-clause-grows c = body_grows

pub returns-in_default-clause-cut : goal.returns-in_default-clause-cut
returns-in_default-clause-cut c =
    let phase = ap (λ p. p.phase) c.self.view_is in
    cut_short c.args.self.now (others_unfinished c.args.self.now.phase
    (λ ended. c.in_default.not-Ended (phase ∙ ended)) c.requires)
    (λ up. c.in_default.not-Open (phase ∙ up))

pub returns-in_default-clause-one_body : goal.returns-in_default-clause-one_body
returns-in_default-clause-one_body c = one_body

pub returns-in_default-clause-grows : goal.returns-in_default-clause-grows
returns-in_default-clause-grows c = body_grows
