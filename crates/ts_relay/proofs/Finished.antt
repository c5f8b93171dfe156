-- The last writes of a transaction that passed a body on: where each answer of the client's link leads.
use Rattle.std.proofs.Common.{◌≡◌, ℕ, List, [], Bool, true, false, refl, sym, subst, ◌∙◌}
use Rattle.ts_config.specs.declared.setup.Setup.{Setup}
use Rattle.ts_hooks.specs.declared.txn_end.TxnEnd.{TxnEnd}
use Rattle.ts_hooks.specs.declared.txn_end.TxnEnd.TheVariants as E
use Rattle.ts_link.specs.Link.{all_of}
use Rattle.ts_vconn.specs.declared.moves.Pushed.{Pushed}
use Rattle.ts_vconn.specs.declared.moves.Pushed.TheVariants as V
use Rattle.ts_block.specs.Block.{IsBlock, relayed_head}
use Rattle.ts_phases.specs.View.{LinkSide, View}
use Rattle.ts_phases.specs.Moving.{SideWrites, WritesClient}
use Rattle.ts_phases.specs.Facts.{OriginTook, Served}
use Rattle.ts_phases.specs.Ends.{AnyEnd, EndFact, EndsBy, HasBlock, HasText, Relayed, ShortEnd, SomeText}
use Rattle.ts_phases.specs.Ends as ends
use Rattle.ts_relay.specs.Finishing.{IsFinishing, QueuesBlock, QueuesFor, QueuesShort}
use Rattle.ts_phases.proofs.OneSide.{write_count, write_failed}
use Rattle.ts_phases.proofs.Owns.{all_took}
use Rattle.ts_relay.proofs.Relaying.{text_written}

module _ (setup : Setup) (refuses : Type 0) where
  -- ---- whatever the end

  some_text : (v : View) (end : TxnEnd) → QueuesFor setup refuses v end → SomeText setup refuses v
  some_text v E.Whole q = ends.relayed q.done true q.queues.sent q.relayed
  some_text v E.OriginCut q = ends.relayed false false q.queues.sent q.relayed
  some_text v E.OriginBad q = ends.relayed false false q.queues.sent q.relayed
  some_text v E.OriginFault q = ends.relayed q.done false q.sent q.relayed
  some_text v E.ClientFault q = absurd q
  some_text v E.NoMemory q = absurd q

  pub finishing_any : (v : View) (end : TxnEnd) → IsFinishing setup refuses v end → AnyEnd setup refuses v
  finishing_any v end h = record { took = h.took; text = some_text v end h.queues }

  -- ---- a write of what was queued

  abbrev relayed_side : (t : Bool) (v : View) (s : LinkSide) (p : Pushed) (done fin : Bool) (sent : List ℕ)
      → t ≡ true → SideWrites t v.client s p
      → all_of s.look ≡ all_of v.client.look → Relayed setup refuses v done fin sent
      → Relayed setup refuses (record v { client = s }) done fin sent
  relayed_side t v s p done fin sent told writes all h = record {
    q = h.q;
    h = h.h;
    served = subst (λ (c : List ℕ). Served setup refuses c h.q v.dialed v.origin) (sym all) h.served;
    good = h.good;
    fed = h.fed;
    read = h.read;
    place = h.place;
    reads = h.reads;
    is_fed = h.is_fed;
    over = h.over;
    mode = h.mode;
    text = text_written t v.client s p v.sent (relayed_head setup h.q.head h.h) sent fin told writes h.text;
    front = h.front;
    whole = h.whole;
  }

  abbrev block_side : (t : Bool) (v : View) (s : LinkSide) (p : Pushed) (end : TxnEnd) (fin : Bool) → t ≡ true
      → SideWrites t v.client s p
      → all_of s.look ≡ all_of v.client.look → QueuesBlock setup refuses v end fin → QueuesBlock setup refuses
      (record v { client = s }) end fin
  block_side t v s p end fin told writes all h = record {
    block = h.block;
    is_block = subst (λ (c : List ℕ). IsBlock setup v.dialed refuses (all_of v.origin.look) c h.block)
        (sym all) h.is_block;
    ends = h.ends;
    took = h.took;
    mode = h.mode;
    sent = h.sent;
    text = text_written t v.client s p v.sent h.block.head h.sent fin told writes h.text;
  }

  short_side : (t : Bool) (v : View) (s : LinkSide) (p : Pushed) (end : TxnEnd) → t ≡ true
      → SideWrites t v.client s p → all_of s.look ≡ all_of v.client.look → QueuesShort setup refuses v end
      → QueuesShort setup refuses (record v { client = s }) end
  short_side t v s p end told writes all h = record {
    queues = block_side t v s p end false told writes all h.queues;
    relayed = relayed_side t v s p false false h.queues.sent told writes all h.relayed;
    soon = record {
      rest = h.soon.rest;
      reads = h.soon.reads;
      body = h.soon.body;
      stops = h.soon.stops;
      so = h.soon.so;
    };
  }

  queues_side : (t : Bool) (v : View) (s : LinkSide) (p : Pushed) (end : TxnEnd) → t ≡ true
      → SideWrites t v.client s p
      → all_of s.look ≡ all_of v.client.look → QueuesFor setup refuses v end → QueuesFor setup refuses
      (record v { client = s }) end
  queues_side t v s p E.Whole told writes all q = record {
    queues = block_side t v s p E.Whole true told writes all q.queues;
    whole = q.whole;
    done = q.done;
    relayed = relayed_side t v s p q.done true q.queues.sent told writes all q.relayed;
  }
  queues_side t v s p E.OriginCut told writes all q = short_side t v s p E.OriginCut told writes all q
  queues_side t v s p E.OriginBad told writes all q = short_side t v s p E.OriginBad told writes all q
  queues_side t v s p E.OriginFault told writes all q =
      record {
        failed = q.failed;
        done = q.done;
        sent = q.sent;
        relayed = relayed_side t v s p q.done false
            q.sent told writes all q.relayed;
      }
  queues_side t v s p E.ClientFault told writes all q = q
  queues_side t v s p E.NoMemory told writes all q = q

  finishing_side : (t : Bool) (v : View) (s : LinkSide) (p : Pushed) (end : TxnEnd) → t ≡ true
      → SideWrites t v.client s p → IsFinishing setup refuses v end
      → IsFinishing setup refuses (record v { client = s }) end
  finishing_side t v s p end told writes h =
      let takes = writes.pushes.told told in
      let all = all_took v.client.look s.look _ h.some takes in
      record {
        count = write_count t v.client s p writes h.count;
        some = λ e. h.some (sym takes.given ∙ e);
        took = subst (λ (c : List ℕ). OriginTook setup c v.dialed v.origin) (sym all) h.took;
        queues = queues_side t v s p end told writes all h.queues;
      }

  pub finishing_on : (t : Bool) (v w : View) (p : Pushed) (end : TxnEnd) → t ≡ true
      → IsFinishing setup refuses v end → WritesClient t v w p
      → IsFinishing setup refuses w end
  finishing_on t v w p end told h writes =
      subst (λ (x : View). IsFinishing setup refuses x end) (sym writes.others) (finishing_side t v w.client p
      end told writes.client h)

  -- ---- all of it was written

  has_block : (v : View) (end : TxnEnd) (fin : Bool) → v.client.outbox ≡ []
      → (q : QueuesBlock setup refuses v end fin) → HasBlock setup refuses v end q.block
  has_block v end fin none q = record {
    is_block = q.is_block;
    ends = q.ends;
    took = q.took;
    no_waits = none;
    mode = q.mode;
  }

  short_end : (v : View) (end : TxnEnd) → v.client.outbox ≡ [] → QueuesShort setup refuses v end
      → ShortEnd setup refuses v end
  short_end v end none q = record {
    block = q.queues.block;
    has = has_block v end false none q.queues;
    sent = q.queues.sent;
    text = q.queues.text;
    relayed = q.relayed;
    soon = q.soon;
  }

  ends_by : (v : View) (end : TxnEnd) → v.client.outbox ≡ [] → QueuesFor setup refuses v end
      → EndsBy setup refuses v end
  ends_by v E.Whole none q = record {
    block = q.queues.block;
    has = has_block v E.Whole true none q.queues;
    text = subst (λ (b : List ℕ). HasText v.client v.sent q.queues.block.head b true) q.whole q.queues.text;
  }
  ends_by v E.OriginCut none q = short_end v E.OriginCut none q
  ends_by v E.OriginBad none q = short_end v E.OriginBad none q
  ends_by v E.OriginFault none q = record {
    failed = q.failed;
    no_waits = none;
    text = ends.cut_off q.done
        q.sent q.relayed;
  }
  ends_by v E.ClientFault none q = absurd q
  ends_by v E.NoMemory none q = tt

  pub finished : (t : Bool) (v w : View) (end : TxnEnd) → t ≡ true → IsFinishing setup refuses v end
      → WritesClient t v w V.Nothing
      → EndFact setup refuses w end
  finished t v w end told h writes =
      let on = finishing_on t v w V.Nothing end told h writes in
      record {
        any = finishing_any w end on;
        by = ends_by w end (writes.client.pushes.went.1
            ∙ writes.client.pushes.went.0) on.queues;
      }

  -- the client's link failed
  pub finish_failed : (t : Bool) (v w : View) (end : TxnEnd) → t ≡ true → IsFinishing setup refuses v end
      → WritesClient t v w V.Failed
      → EndFact setup refuses w E.ClientFault
  finish_failed t v w end told h writes =
      record {
        any = finishing_any w end (finishing_on t v w V.Failed end told h writes);
        by = write_failed t
            v.client w.client V.Failed refl writes.client h.count;
      }

  -- memory lacked
  pub finish_lacks : (t : Bool) (v w : View) (end : TxnEnd) → t ≡ true → IsFinishing setup refuses v end
      → WritesClient t v w V.NoMemory
      → EndFact setup refuses w E.NoMemory
  finish_lacks t v w end told h writes = record {
    any = finishing_any w end (finishing_on t v w V.NoMemory end
        told h writes);
    by = tt;
  }
