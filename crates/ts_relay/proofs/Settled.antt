-- A step's facts, said of what the origin's link refuses after it: what it refused before, and nothing else.
use Rattle.std.proofs.Common.{◌≡◌, ◌⊎◌, inl, inr, ℕ, List, Bool, true, false, Option, Result, Ok, Err}
use Rattle.ts_config.specs.declared.setup.Setup.{Setup}
use Rattle.ts_hooks.specs.declared.txn_end.TxnEnd.{TxnEnd}
use Rattle.ts_hooks.specs.declared.txn_end.TxnEnd.TheVariants as E
use Rattle.ts_link.specs.Link.{all_of}
use Rattle.ts_transform.specs.Flow.{ChainState}
use Rattle.ts_transform.specs.declared.transform.Transform as transform
use Rattle.ts_wire.specs.Check.{check}
use Rattle.ts_wire.specs.declared.heads.RequestHead.{RequestHead}
use Rattle.ts_wire.specs.declared.heads.ResponseHead.{ResponseHead}
use Rattle.ts_wire.specs.Place.{Place}
use Rattle.ts_block.specs.Block.{DenySays, DialSays, IsBlock, VerdictSays, asked, no_head, silent}
use Rattle.ts_phases.specs.View.{LinkSide, View}
use Rattle.ts_phases.specs.Facts.{AwaitsFinal, OwnCause, OwnReady, OwnSends, Relays, Served, TookExactly}
use Rattle.ts_phases.specs.Facts.{decided, fault}
use Rattle.ts_phases.specs.Ends.{AnyEnd, EndFact, EndsBy, FaultText, HasBlock, Relayed, SomeText}
use Rattle.ts_phases.specs.Ends as ends
use Rattle.ts_relay.specs.Finishing.{IsFinishing, QueuesBlock, QueuesFor, QueuesShort}
use Rattle.ts_phases.specs.Holding.{PhaseFact}
use Rattle.ts_relay.specs.Relaying.{ReadsBody, RelaysBody}
use Rattle.ts_relay.specs.Entering.{EntersBody}
use Rattle.ts_relay.specs.declared.relay.Short.{Short}
use Rattle.ts_block.specs.declared.block.Block.{Block}
use Rattle.ts_phases.specs.declared.phase.OwnAnswer.{OwnAnswer}
use Rattle.ts_phases.specs.declared.phase.Phase.{Phase}
use Rattle.ts_phases.specs.declared.phase.Phase.TheVariants as P
use Rattle.ts_phases.specs.declared.phase.Request.{Request}

module _ (setup : Setup) (R S : Type 0) (from : S → R) where
  served : (c : List ℕ) (q : Request) (dialed : Bool) (o : LinkSide) → Served setup R c q dialed o
      → Served setup S c q dialed o
  served c q dialed o h = record {
    goes = h.goes;
    accepts = λ s. h.accepts (from s);
    uploaded = h.uploaded;
    count = h.count;
    carries = h.carries;
    no_waits = h.no_waits;
  }

  -- ---- a body that is passed on

  reads_body : (q : Request) (h : ResponseHead) (c : List ℕ) (dialed : Bool) (o : LinkSide) (place : Place)
      (read : List ℕ) → ReadsBody setup R q h c dialed o place read
      → ReadsBody setup S q h c dialed o place read
  reads_body q h c dialed o place read r = record {
    served = served c q dialed o r.served;
    good = r.good;
    fed = r.fed;
    reads = r.reads;
    is_fed = r.is_fed;
  }

  pub relaying : {P L : Type 0} (stage : transform.Ghosts P L) (v : View) (c : ChainState P) (place : Place)
      (short : Option Short) → RelaysBody setup R stage v c place short
      → RelaysBody setup S stage v c place short
  relaying stage v c place short r = record {
    q = r.q;
    h = r.h;
    read = r.read;
    reads = reads_body r.q r.h (all_of v.client.look) v.dialed v.origin place r.read r.reads;
    gives_end = record { ended = r.gives_end.ended; goes_on = r.gives_end.goes_on };
    sends = record {
      count = r.sends.count;
      some = r.sends.some;
      mode = r.sends.mode;
      body = r.sends.body;
      text = r.sends.text;
      sends = r.sends.sends;
    };
  }

  -- its head is queued
  pub entering : {P L : Type 0} (stage : transform.Ghosts P L) (v : View) (c : ChainState P) (place : Place)
      → EntersBody setup R stage v c place → EntersBody setup S stage v c place
  entering stage v c place e = record {
    q = e.q;
    h = e.h;
    read = e.read;
    reads = reads_body e.q e.h (all_of v.client.look) v.dialed v.origin place e.read e.reads;
    going = e.going;
    sends = record {
      count = e.sends.count;
      some = e.sends.some;
      mode = e.sends.mode;
      body = e.sends.body;
      text = e.sends.text;
      sends = e.sends.sends;
    };
  }

module _ (setup : Setup) (R S : Type 0) (to : R → S) (from : S → R) where
  -- ---- the block

  dial : (dialed : Bool) (o request : List ℕ) (q : RequestHead) (b : Block) (d : Bool)
      → DialSays setup dialed R o d request q b → DialSays setup dialed S o d request q b
  dial dialed o request q b false h = h
  dial dialed o request q b true (inl (refused, is)) = inl (to refused, is)
  dial dialed o request q b true (inr (not, says)) = inr (λ s. not (from s), says)

  deny : (dialed : Bool) (o request : List ℕ) (q : RequestHead) (b : Block) (d : Bool)
      → DenySays setup dialed R o d request q b → DenySays setup dialed S o d request q b
  deny dialed o request q b true h = h
  deny dialed o request q b false h = dial dialed o request q b dialed h

  verdict : (dialed : Bool) (o : List ℕ) (q : RequestHead) (b : Block) (r : Result (List ℕ × List ℕ) ℕ)
      → VerdictSays setup dialed R o r q b → VerdictSays setup dialed S o r q b
  verdict dialed o q b (Err status) h = h
  verdict dialed o q b (Ok (target, host)) h = deny dialed o _ q b _ h

  block : (dialed : Bool) (o c : List ℕ) (b : Block) → IsBlock setup dialed R o c b → IsBlock setup dialed S o
      c b
  block dialed o c b (silent none is) = silent none is
  block dialed o c b (no_head some lacks is) = no_head some lacks is
  block dialed o c b (asked some q rest has says) = asked some q rest has (verdict dialed o q b (check q)
      says)

  -- ---- the facts

  took_exactly : (request : List ℕ) (o : LinkSide) → TookExactly R request o → TookExactly S request o
  took_exactly request o h = record {
    text = h.text;
    nothing = h.nothing;
    uploaded = λ some. by_refusal (h.uploaded some);
    no_waits = h.no_waits;
  }
    where
      by_refusal : (o.look.uploaded ≡ true) ⊎ R → (o.look.uploaded ≡ true) ⊎ S
      by_refusal (inl moved) = inl moved
      by_refusal (inr refused) = inr (to refused)

  cause : (c : List ℕ) (dialed : Bool) (o : LinkSide) (a : OwnAnswer) → OwnCause setup R c dialed o a
      → OwnCause setup S c dialed o a
  cause c dialed o a (decided request is whole took) =
      decided request (block dialed _ c _ is) whole (took_exactly request o took)
  cause c dialed o a (fault q goes status to_head end failed lacks) = fault q goes status to_head end failed
      lacks

  awaits : (v : View) (q : Request) → AwaitsFinal setup R v q → AwaitsFinal setup S v q
  awaits v q h = record {
    waits = h.waits;
    served = served setup R S from _ q v.dialed v.origin h.served;
    passed = h.passed;
    held = h.held;
  }

  relays : (v : View) (q : Request) (r : ResponseHead) → Relays setup R v q r → Relays setup S v q r
  relays v q r h = record {
    waits = h.waits;
    served = served setup R S from _ q v.dialed v.origin h.served;
    reads = h.reads;
    good = h.good;
    held = h.held;
  }

  ready : (v : View) (a : OwnAnswer) → OwnReady setup R v a → OwnReady setup S v a
  ready v a h = record { waits = h.waits; cause = cause _ v.dialed v.origin a h.cause; took = h.took }

  sends : (v : View) (a : OwnAnswer) → OwnSends setup R v a → OwnSends setup S v a
  sends v a h = record {
    count = h.count;
    some = h.some;
    cause = cause _ v.dialed v.origin a h.cause;
    took = h.took;
    text = h.text;
  }

  abbrev relayed : (v : View) (done fin : Bool) (sent : List ℕ) → Relayed setup R v done fin sent
      → Relayed setup S v done fin sent
  relayed v done fin sent h = record {
    q = h.q;
    h = h.h;
    served = served setup R S from _ h.q v.dialed v.origin h.served;
    good = h.good;
    fed = h.fed;
    read = h.read;
    place = h.place;
    reads = h.reads;
    is_fed = h.is_fed;
    over = h.over;
    mode = h.mode;
    text = h.text;
    front = h.front;
    whole = h.whole;
  }

  some_text : (v : View) → SomeText setup R v → SomeText setup S v
  some_text v (ends.quiet q) = ends.quiet q
  some_text v (ends.own a why text) = ends.own a (cause _ v.dialed v.origin a why) text
  some_text v (ends.relayed done fin sent h) = ends.relayed done fin sent (relayed v done fin sent h)

  any : (v : View) → AnyEnd setup R v → AnyEnd setup S v
  any v h = record { took = h.took; text = some_text v h.text }

  has_block : (v : View) (end : TxnEnd) (b : Block) → HasBlock setup R v end b → HasBlock setup S v end b
  has_block v end b h = record {
    is_block = block v.dialed _ _ b h.is_block;
    ends = h.ends;
    took = took_exactly b.request v.origin h.took;
    no_waits = h.no_waits;
    mode = h.mode;
  }

  fault_text : (v : View) → FaultText setup R v → FaultText setup S v
  fault_text v (ends.FaultText.own a end why text) = ends.FaultText.own a end (cause _ v.dialed v.origin a
      why) text
  fault_text v (ends.cut_off done sent h) = ends.cut_off done sent (relayed v done false sent h)

  by_end : (v : View) (end : TxnEnd) → EndsBy setup R v end → EndsBy setup S v end
  unfolding relayed
  by_end v E.Whole h = record { block = h.block; has = has_block v E.Whole h.block h.has; text = h.text }
  by_end v E.OriginCut h = record {
    block = h.block;
    has = has_block v E.OriginCut h.block h.has;
    sent = h.sent;
    text = h.text;
    relayed = relayed v false false h.sent h.relayed;
    soon = h.soon;
  }
  by_end v E.OriginBad h = record {
    block = h.block;
    has = has_block v E.OriginBad h.block h.has;
    sent = h.sent;
    text = h.text;
    relayed = relayed v false false h.sent h.relayed;
    soon = h.soon;
  }
  by_end v E.OriginFault h = record { failed = h.failed; no_waits = h.no_waits; text = fault_text v h.text }
  by_end v E.ClientFault h = h
  by_end v E.NoMemory h = h

  end_fact : (v : View) (end : TxnEnd) → EndFact setup R v end → EndFact setup S v end
  end_fact v end h = record { any = any v h.any; by = by_end v end h.by }

  -- ---- the last of a body

  abbrev queues_block : (v : View) (end : TxnEnd) (fin : Bool) → QueuesBlock setup R v end fin
      → QueuesBlock setup S v end fin
  queues_block v end fin h = record {
    block = h.block;
    is_block = block v.dialed _ _ h.block h.is_block;
    ends = h.ends;
    took = took_exactly h.block.request v.origin h.took;
    mode = h.mode;
    sent = h.sent;
    text = h.text;
  }

  queues_short : (v : View) (end : TxnEnd) → QueuesShort setup R v end → QueuesShort setup S v end
  unfolding queues_block relayed
  queues_short v end h = record {
    queues = queues_block v end false h.queues;
    relayed = relayed v false false h.queues.sent h.relayed;
    soon = h.soon;
  }

  queues_for : (v : View) (end : TxnEnd) → QueuesFor setup R v end → QueuesFor setup S v end
  unfolding queues_block
  queues_for v E.Whole h = record {
    queues = queues_block v E.Whole true h.queues;
    whole = h.whole;
    done = h.done;
    relayed = relayed v h.done true h.queues.sent h.relayed;
  }
  queues_for v E.OriginCut h = queues_short v E.OriginCut h
  queues_for v E.OriginBad h = queues_short v E.OriginBad h
  queues_for v E.OriginFault h = record {
    failed = h.failed;
    done = h.done;
    sent = h.sent;
    relayed = relayed v
        h.done false h.sent h.relayed;
  }
  queues_for v E.ClientFault h = absurd h
  queues_for v E.NoMemory h = absurd h

  pub finishing : (v : View) (end : TxnEnd) → IsFinishing setup R v end → IsFinishing setup S v end
  finishing v end h = record {
    count = h.count;
    some = h.some;
    took = h.took;
    queues = queues_for v end
        h.queues;
  }

  pub phase_fact : (v : View) (p : Phase) → PhaseFact setup R v p → PhaseFact setup S v p
  phase_fact v (P.ReadResponse q) h = awaits v q h
  phase_fact v (P.ReadResponseHdr q r) h = relays v q r h
  phase_fact v (P.ResponseTransform q r) h = relays v q r h
  phase_fact v (P.RuleResponse q r place fields) h = (relays v q r h.0, h.1)
  phase_fact v (P.SendResponseHdr a) h = ready v a h
  phase_fact v (P.RuleAnswer a place fields) h = (ready v a h.0, h.1)
  phase_fact v (P.Sending a) h = sends v a h
  phase_fact v (P.TxnClose end) h = end_fact v end h
  phase_fact v (P.Ended end) h = end_fact v end h
  phase_fact v _ h = h
