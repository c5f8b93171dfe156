-- What is owed is passed on first; then the head goes on.
use Rattle.std.proofs.Common.{ap, inr, refl, subst}
use Rattle.ts_link.specs.declared.link.Put.TheVariants as P
use Rattle.ts_session.specs.Course.{IsWithin, has_found}
use Rattle.ts_session.specs.declared.response.Sending.TheVariants as S
use Rattle.ts_session.proofs.HeldLines.{paid_drops, paid_writes, part_drops, part_writes}
use Rattle.ts_session.proofs.writing.write_owed.Goals as goal

pub pay_line-requires-clause-owed : goal.pay_line-requires-clause-owed
pay_line-requires-clause-owed g c = (subst IsWithin c.requires.owed c.requires.within).0

pub pay_line-requires-clause-within : goal.pay_line-requires-clause-within
pay_line-requires-clause-within g c = (subst IsWithin c.requires.owed c.requires.within).1

pub returns-in-All-clause-writes : goal.returns-in-All-clause-writes
returns-in-All-clause-writes g c =
    paid_writes g.C.Link.tells c.args.rule.may_go_on c.args.rule.asks_head c.args.response.now
    (g.C.Link.look c.args.cut.now.value) (g.C.Link.look c.args.client.now) (g.C.Link.look c.pay_line.new.client)
    c.args.from c.args.to c.args.piece.now c.requires.owed (subst IsWithin c.requires.owed c.requires.within)
    c.in-All.ensures.pays c.write_head.new.response (g.C.Link.look c.write_head.new.cut.value)
    (g.C.Link.look c.write_head.new.client) c.write_head.result c.write_head.ensures.writes

pub returns-in-All-clause-drops : goal.returns-in-All-clause-drops
returns-in-All-clause-drops g c =
    paid_drops g.C.Link.tells c.args.rule.may_go_on c.args.rule.asks_head c.args.response.now
    (g.C.Link.look c.args.cut.now.value) (g.C.Link.look c.args.client.now) (g.C.Link.look c.pay_line.new.client)
    c.args.from c.args.to c.args.piece.now c.requires.owed (subst IsWithin c.requires.owed c.requires.within)
    c.in-All.ensures.pays c.write_head.new.response c.write_head.result c.write_head.ensures.drops

pub returns-in-All-clause-goes : goal.returns-in-All-clause-goes
returns-in-All-clause-goes g c = g.met.C.Link.goes_on _ _ _ c.in-All.ensures.goes c.write_head.ensures.goes

pub returns-in-Again-clause-writes : goal.returns-in-Again-clause-writes
returns-in-Again-clause-writes g c =
    part_writes g.C.Link.tells c.args.rule.may_go_on c.args.rule.asks_head c.args.response.now
    (g.C.Link.look c.args.cut.now.value) (g.C.Link.look c.args.client.now) (g.C.Link.look c.pay_line.new.client)
    c.args.from c.args.to c.args.piece.now c.requires.owed (subst IsWithin c.requires.owed c.requires.within)
    c.in-Again.at P.Again c.in-Again.ensures.to c.in-Again.ensures.pays refl (λ q. tt) (λ long. tt)

pub returns-in-Again-clause-drops : goal.returns-in-Again-clause-drops
returns-in-Again-clause-drops g c =
    part_drops g.C.Link.tells c.args.rule.may_go_on c.args.rule.asks_head c.args.response.now
    (g.C.Link.look c.args.cut.now.value) (g.C.Link.look c.args.client.now) (g.C.Link.look c.pay_line.new.client)
    c.args.from c.args.to c.args.piece.now c.requires.owed (subst IsWithin c.requires.owed c.requires.within)
    c.in-Again.at P.Again c.in-Again.ensures.to c.in-Again.ensures.pays refl (λ q. tt)
    (record { sending = S.Owed c.in-Again.at c.args.to; lines = c.args.response.now.lines })

pub returns-in-Again-clause-within : goal.returns-in-Again-clause-within
returns-in-Again-clause-within g c =
    let within = subst IsWithin c.requires.owed c.requires.within in (c.in-Again.ensures.to, within.1)

pub returns-in-Failed-clause-writes : goal.returns-in-Failed-clause-writes
returns-in-Failed-clause-writes g c =
    part_writes g.C.Link.tells c.args.rule.may_go_on c.args.rule.asks_head c.args.response.now
    (g.C.Link.look c.args.cut.now.value) (g.C.Link.look c.args.client.now) (g.C.Link.look c.pay_line.new.client)
    c.args.from c.args.to c.args.piece.now c.requires.owed (subst IsWithin c.requires.owed c.requires.within)
    c.in-Failed.at P.Failed c.in-Failed.ensures.to c.in-Failed.ensures.pays refl (λ q. tt) (λ long. tt)

pub returns-in-Failed-clause-drops : goal.returns-in-Failed-clause-drops
returns-in-Failed-clause-drops g c =
    part_drops g.C.Link.tells c.args.rule.may_go_on c.args.rule.asks_head c.args.response.now
    (g.C.Link.look c.args.cut.now.value) (g.C.Link.look c.args.client.now) (g.C.Link.look c.pay_line.new.client)
    c.args.from c.args.to c.args.piece.now c.requires.owed (subst IsWithin c.requires.owed c.requires.within)
    c.in-Failed.at P.Failed c.in-Failed.ensures.to c.in-Failed.ensures.pays refl (λ q. tt)
    (record { sending = S.Owed c.in-Failed.at c.args.to; lines = c.args.response.now.lines })

pub returns-in-Failed-clause-within : goal.returns-in-Failed-clause-within
returns-in-Failed-clause-within g c =
    let within = subst IsWithin c.requires.owed c.requires.within in (c.in-Failed.ensures.to, within.1)

pub returns-in-NoMemory-clause-writes : goal.returns-in-NoMemory-clause-writes
returns-in-NoMemory-clause-writes g c =
    part_writes g.C.Link.tells c.args.rule.may_go_on c.args.rule.asks_head c.args.response.now
    (g.C.Link.look c.args.cut.now.value) (g.C.Link.look c.args.client.now) (g.C.Link.look c.pay_line.new.client)
    c.args.from c.args.to c.args.piece.now c.requires.owed (subst IsWithin c.requires.owed c.requires.within)
    c.in-NoMemory.at P.NoMemory c.in-NoMemory.ensures.to c.in-NoMemory.ensures.pays refl (λ q. inr (ap has_found c.requires.owed)) (λ long. tt)

pub returns-in-NoMemory-clause-drops : goal.returns-in-NoMemory-clause-drops
returns-in-NoMemory-clause-drops g c =
    part_drops g.C.Link.tells c.args.rule.may_go_on c.args.rule.asks_head c.args.response.now
    (g.C.Link.look c.args.cut.now.value) (g.C.Link.look c.args.client.now) (g.C.Link.look c.pay_line.new.client)
    c.args.from c.args.to c.args.piece.now c.requires.owed (subst IsWithin c.requires.owed c.requires.within)
    c.in-NoMemory.at P.NoMemory c.in-NoMemory.ensures.to c.in-NoMemory.ensures.pays refl (λ q. inr (ap has_found c.requires.owed))
    (record { sending = S.Owed c.in-NoMemory.at c.args.to; lines = c.args.response.now.lines })

pub returns-in-NoMemory-clause-within : goal.returns-in-NoMemory-clause-within
returns-in-NoMemory-clause-within g c =
    let within = subst IsWithin c.requires.owed c.requires.within in (c.in-NoMemory.ensures.to, within.1)
