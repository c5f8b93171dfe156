-- Each answer of the client.
use Rattle.std.proofs.Common.{refl, subst, sym}
use Rattle.ts_link.specs.declared.link.Put.TheVariants as P
use Rattle.ts_session.specs.Course.{IsWithin}
use Rattle.ts_session.specs.Lines.{GoesOver}
use Rattle.ts_session.proofs.Writes.{head_writes, none_writes, stage_within}
use Rattle.ts_session.proofs.writing.write_lines.Goals as goal

pub returns-in-Took-clause-writes : goal.returns-in-Took-clause-writes
returns-in-Took-clause-writes g c may asks =
    let p = c.args.response.now in
    let q = c.pass_over.new.self in
    head_writes g.C.Link.tells may asks p q (g.C.Link.look c.args.cut.now.value)
    (g.C.Link.look c.args.client.now) (g.C.Link.look c.write.new.self) (P.Took c.in-Took.count)
    c.args.piece.now c.requires.head c.pass_over.ensures.stage (λ wrong. absurd (cc)) c.in-Took.ensures.writes
    (subst (λ b. GoesOver p.lines b q.lines) c.split_at.ensures.front c.pass_over.ensures.over)

pub returns-in-Took-clause-within : goal.returns-in-Took-clause-within
returns-in-Took-clause-within g c =
    subst IsWithin (sym c.pass_over.ensures.stage) (stage_within c.pass_over.new.self.lines.ended)

pub returns-in-Again-clause-writes : goal.returns-in-Again-clause-writes
returns-in-Again-clause-writes g c may asks =
    none_writes g.C.Link.tells may asks c.args.response.now (g.C.Link.look c.args.cut.now.value)
    (g.C.Link.look c.args.client.now) (g.C.Link.look c.write.new.self) P.Again c.args.piece.now refl
    c.requires.head c.in-Again.ensures.writes

pub returns-in-Again-clause-within : goal.returns-in-Again-clause-within
returns-in-Again-clause-within g c = subst IsWithin (sym c.requires.head) tt

pub returns-in-Failed-clause-writes : goal.returns-in-Failed-clause-writes
returns-in-Failed-clause-writes g c may asks =
    none_writes g.C.Link.tells may asks c.args.response.now (g.C.Link.look c.args.cut.now.value)
    (g.C.Link.look c.args.client.now) (g.C.Link.look c.write.new.self) P.Failed c.args.piece.now refl
    c.requires.head c.in-Failed.ensures.writes

pub returns-in-Failed-clause-within : goal.returns-in-Failed-clause-within
returns-in-Failed-clause-within g c = subst IsWithin (sym c.requires.head) tt

pub returns-in-NoMemory-clause-writes : goal.returns-in-NoMemory-clause-writes
returns-in-NoMemory-clause-writes g c may asks =
    none_writes g.C.Link.tells may asks c.args.response.now (g.C.Link.look c.args.cut.now.value)
    (g.C.Link.look c.args.client.now) (g.C.Link.look c.write.new.self) P.NoMemory c.args.piece.now refl
    c.requires.head c.in-NoMemory.ensures.writes

pub returns-in-NoMemory-clause-within : goal.returns-in-NoMemory-clause-within
returns-in-NoMemory-clause-within g c = subst IsWithin (sym c.requires.head) tt
