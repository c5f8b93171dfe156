-- Each answer of a read of the origin: where it leads, what it leaves, and that it lowers what is left to do.
use Rattle.std.proofs.Common.{Some, arith, refl}
use Rattle.ts_vconn.specs.declared.moves.Pulled.TheVariants as L
use Rattle.ts_relay.specs.declared.last_writes.BodyStep.TheVariants as S
use Rattle.ts_relay.specs.declared.relay.Short.TheVariants as K
use Rattle.ts_relay.proofs.BodyLinks.{reader_ended, reader_read, reader_rests, short_none}
use Rattle.ts_relay.proofs.Chaining.{chain_more, chain_still}
use Rattle.ts_relay.proofs.LoweringRelay.{closes_input, reads_finishes, reads_goes, reads_waits, stands_lacks}
use Rattle.ts_relay.proofs.LoweringRelay.{stops_short}
use Rattle.ts_relay.proofs.Relaying.{reads_on}
use Rattle.ts_relay.proofs.StepsOwed.{reader_read_still, reader_still}
use Rattle.ts_relay.proofs.Stopping.{closes_lead, reads_cut, reads_failed, unread_lacks}
use Rattle.ts_relay.proofs.origin_end.pull_relay.Goals as goal

-- ---- where it leads

pub returns-in-Err-clause-leads : goal.returns-in-Err-clause-leads
returns-in-Err-clause-leads g c = λ told also.
    unread_lacks _ _ g.P.Transform _ _ _ _ _ c.in-Err.ensures.err (c.requires.fact told also)

pub returns-in-Some-clause-leads : goal.returns-in-Some-clause-leads
returns-in-Some-clause-leads g c = λ told also.
    reads_on _ _ g.P.Transform _ _ _ _ _ _ _ also c.requires.goes_on.1.0 c.requires.goes_on.0
    c.in-Ok.ensures.reads
    (c.requires.fact told also)

pub returns-in-Again-clause-leads : goal.returns-in-Again-clause-leads
returns-in-Again-clause-leads g c = λ told also.
    reads_on _ _ g.P.Transform _ _ _ _ _ _ _ also c.requires.goes_on.1.0 c.requires.goes_on.0
    c.in-Ok.ensures.reads
    (c.requires.fact told also)

pub returns-in-Failed-clause-leads : goal.returns-in-Failed-clause-leads
returns-in-Failed-clause-leads g c = λ told also.
    reads_failed _ _ g.P.Transform _ _ _ _ _ _ also c.requires.goes_on.1.0 c.requires.goes_on.0
    (c.requires.fact told also) (rw c.in-Failed.is at c.in-Ok.ensures.reads)

pub returns-else-ends_here-clause-leads : goal.returns-else-ends_here-clause-leads
returns-else-ends_here-clause-leads g c = λ told also.
    reads_cut _ _ g.P.Transform _ _ _ _ _ _ also c.requires.goes_on.1.0 c.requires.goes_on.0
    (c.requires.fact told also) (rw c.in-End.is at c.in-Ok.ensures.reads) c.requires.empty
    c.ends_here.result c.ends_here.ensures c.if-ends_here.false

pub returns-then-ends_here-clause-leads : goal.returns-then-ends_here-clause-leads
returns-then-ends_here-clause-leads g c = λ told also.
    closes_lead _ _ g.P.Transform _ _ _ _ _ _ also c.requires.goes_on.1.0 c.requires.goes_on.0
    (c.requires.fact told also) c.close_input.new.driven.chain c.close_input.result
    (rw c.in-End.is at c.in-Ok.ensures.reads) c.requires.empty c.ends_here.result c.ends_here.ensures
    c.if-ends_here.true c.close_input.ensures.gets

-- ---- what it leaves

pub returns-in-Err-clause-steps : goal.returns-in-Err-clause-steps
returns-in-Err-clause-steps g c =
    reader_still g.C.Link g.O.Link g.O.Upstream _ _ _ _ _ c.requires.turn c.read_origin.ensures.keeps
    (reader_rests _ _ _ _ _ _ _ (record { client = refl; origin = refl; late = refl }) c.in-Err.ensures.err
    refl)

pub returns-in-Some-clause-steps : goal.returns-in-Some-clause-steps
returns-in-Some-clause-steps g c =
    reader_read_still g.C.Link g.O.Link g.O.Upstream _ _ _ _ _ c.in-Some.is c.requires.turn
    c.read_origin.ensures.keeps
    c.requires.goes_on c.requires.empty c.in-Ok.ensures.reads refl refl refl

pub returns-in-Again-clause-steps : goal.returns-in-Again-clause-steps
returns-in-Again-clause-steps g c =
    reader_read_still g.C.Link g.O.Link g.O.Upstream _ _ _ _ _ c.in-Again.is c.requires.turn
    c.read_origin.ensures.keeps
    c.requires.goes_on c.requires.empty c.in-Ok.ensures.reads refl refl refl

pub returns-in-Failed-clause-steps : goal.returns-in-Failed-clause-steps
returns-in-Failed-clause-steps g c =
    reader_read_still g.C.Link g.O.Link g.O.Upstream _ _ _ _ _ c.in-Failed.is c.requires.turn
    c.read_origin.ensures.keeps
    c.requires.goes_on c.requires.empty c.in-Ok.ensures.reads refl refl refl

pub returns-else-ends_here-clause-steps : goal.returns-else-ends_here-clause-steps
returns-else-ends_here-clause-steps g c = record {
  keeps = c.read_origin.ensures.keeps;
  links = reader_read _ _ _ _ c.args.relay.now (record c.args.relay.now { short = Some K.Cut }) S.Goes L.End
      refl refl refl c.requires.goes_on c.requires.empty refl (rw c.in-End.is at c.in-Ok.ensures.reads);
  chain = chain_still S.Goes 2 c.args.relay.now.driven c.args.cx.now c.requires.turn;
  reader = refl;
  stays = short_none c.args.relay.now (record c.args.relay.now { short = Some K.Cut }) c.requires.goes_on.0;
}

pub returns-then-ends_here-clause-steps : goal.returns-then-ends_here-clause-steps
returns-then-ends_here-clause-steps g c = record {
  keeps = c.read_origin.ensures.keeps;
  links = reader_ended _ _ _ _ _ _ _ c.requires.goes_on c.requires.empty c.close_input.ensures.gets
      (rw c.in-End.is at c.in-Ok.ensures.reads);
  chain = chain_more _ 1 2 _ _ _ _ (omega arith) c.close_input.ensures.chain;
  reader = refl;
  stays = λ why is. is;
}

-- ---- what it lowers

pub returns-in-Err-clause-lowers : goal.returns-in-Err-clause-lowers
returns-in-Err-clause-lowers g c = stands_lacks _ _ _ _ _ _ _ _ _ c.in-Err.ensures.err

pub returns-in-Some-clause-lowers : goal.returns-in-Some-clause-lowers
returns-in-Some-clause-lowers g c = reads_goes _ _ _ _ _ _ _ _ _ _ (rw c.in-Some.is at c.in-Ok.ensures.reads)

pub returns-in-Again-clause-lowers : goal.returns-in-Again-clause-lowers
returns-in-Again-clause-lowers g c = reads_waits _ _ _ _ _ _ _ _ _ (rw c.in-Again.is at c.in-Ok.ensures.reads)

pub returns-in-Failed-clause-lowers : goal.returns-in-Failed-clause-lowers
returns-in-Failed-clause-lowers g c = reads_finishes _ _ _ _ _ _ _ _ _ _ _ (rw c.in-Failed.is
    at c.in-Ok.ensures.reads)

pub returns-else-ends_here-clause-lowers : goal.returns-else-ends_here-clause-lowers
returns-else-ends_here-clause-lowers g c =
    stops_short _ _ _ _ _ _ _ c.args.relay.now (record c.args.relay.now { short = Some K.Cut }) _ _ K.Cut refl
    c.requires.goes_on (rw c.in-End.is at c.in-Ok.ensures.reads)

pub returns-then-ends_here-clause-lowers : goal.returns-then-ends_here-clause-lowers
returns-then-ends_here-clause-lowers g c =
    closes_input _ _ _ _ _ _ _ _ _ _ _ _ c.close_input.ensures.gets c.requires.goes_on (rw c.in-End.is
    at c.in-Ok.ensures.reads)
    (c.close_input.ensures.chain.seats.same, c.close_input.ensures.chain.falls) refl
