-- Each answer of a write of what waits: where it leads, what it leaves, and that it lowers what is left to
-- do.
use Rattle.std.proofs.Common.{refl}
use Rattle.ts_relay.proofs.LoweringRelay as lowering
use Rattle.ts_relay.proofs.Relaying.{writes_lacks, writes_left, writes_on}
use Rattle.ts_relay.proofs.StepsOwed.{writer_wrote_still}
use Rattle.ts_relay.proofs.client_end.write_some.Goals as goal

pub returns-in-Some-clause-leads : goal.returns-in-Some-clause-leads
returns-in-Some-clause-leads g c = λ told also.
    writes_on _ _ _ _ _ _ _ _ _ _ told c.in-Some.ensures.writes (c.requires.fact told also)

pub returns-in-Some-clause-steps : goal.returns-in-Some-clause-steps
returns-in-Some-clause-steps g c = λ now turn.
    writer_wrote_still g.C.Link g.O.Link g.O.Upstream _ _ _ _ now _ turn c.write_client.ensures.keeps
    c.in-Some.ensures.writes refl refl refl

pub returns-in-Some-clause-lowers : goal.returns-in-Some-clause-lowers
returns-in-Some-clause-lowers g c = λ now.
    lowering.writes_goes _ _ _ _ _ _ _ _ now _ c.in-Some.ensures.writes

pub returns-in-Nothing-clause-steps : goal.returns-in-Nothing-clause-steps
returns-in-Nothing-clause-steps g c = λ now turn.
    writer_wrote_still g.C.Link g.O.Link g.O.Upstream _ _ _ _ now _ turn c.write_client.ensures.keeps
    c.in-Nothing.ensures.writes refl refl refl

pub returns-in-Nothing-clause-lowers : goal.returns-in-Nothing-clause-lowers
returns-in-Nothing-clause-lowers g c = λ now.
    lowering.writes_nothing _ _ _ _ _ _ _ _ now c.in-Nothing.ensures.writes
    c.requires.some

pub returns-in-Again-clause-leads : goal.returns-in-Again-clause-leads
returns-in-Again-clause-leads g c = λ told also.
    writes_on _ _ _ _ _ _ _ _ _ _ told c.in-Again.ensures.writes (c.requires.fact told also)

pub returns-in-Again-clause-steps : goal.returns-in-Again-clause-steps
returns-in-Again-clause-steps g c = λ now turn.
    writer_wrote_still g.C.Link g.O.Link g.O.Upstream _ _ _ _ now _ turn c.write_client.ensures.keeps
    c.in-Again.ensures.writes refl refl refl

pub returns-in-Again-clause-lowers : goal.returns-in-Again-clause-lowers
returns-in-Again-clause-lowers g c = λ now.
    lowering.writes_waits _ _ _ _ _ _ _ _ now c.in-Again.ensures.writes

pub returns-in-Failed-clause-leads : goal.returns-in-Failed-clause-leads
returns-in-Failed-clause-leads g c = λ told also.
    writes_left _ _ _ _ _ _ _ _ _ told c.in-Failed.ensures.writes (c.requires.fact told also)

pub returns-in-Failed-clause-steps : goal.returns-in-Failed-clause-steps
returns-in-Failed-clause-steps g c = λ now turn.
    writer_wrote_still g.C.Link g.O.Link g.O.Upstream _ _ _ _ now _ turn c.write_client.ensures.keeps
    c.in-Failed.ensures.writes refl refl refl

pub returns-in-Failed-clause-lowers : goal.returns-in-Failed-clause-lowers
returns-in-Failed-clause-lowers g c = λ now.
    lowering.writes_closes _ _ _ _ _ _ _ _ now _ _ c.in-Failed.ensures.writes

pub returns-in-NoMemory-clause-leads : goal.returns-in-NoMemory-clause-leads
returns-in-NoMemory-clause-leads g c = λ told also.
    writes_lacks _ _ _ _ _ _ _ _ _ _ told c.in-NoMemory.ensures.writes (c.requires.fact told also)

pub returns-in-NoMemory-clause-steps : goal.returns-in-NoMemory-clause-steps
returns-in-NoMemory-clause-steps g c = λ now turn.
    writer_wrote_still g.C.Link g.O.Link g.O.Upstream _ _ _ _ now _ turn c.write_client.ensures.keeps
    c.in-NoMemory.ensures.writes refl refl refl

pub returns-in-NoMemory-clause-lowers : goal.returns-in-NoMemory-clause-lowers
returns-in-NoMemory-clause-lowers g c = λ now.
    lowering.writes_lacks _ _ _ _ _ _ _ _ now _ c.in-NoMemory.ensures.writes
