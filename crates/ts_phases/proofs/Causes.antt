-- A count of faults never falls, so that a link that has failed has failed for ever, and with it the cause of
-- an end stays: over each call of a step, over what a plugin is asked, and over its reply.
use Rattle.std.proofs.Common.{◌≡◌, ℕ, ◌≤◌, List, Bool, true, false, arith, sym, ap, subst}
use Rattle.std.proofs.Common.{Result, Ok, Err}
use Rattle.ts_config.specs.declared.fields.PluginLine.{PluginLine}
use Rattle.ts_group.specs.declared.world.Asked.{Asked}
use Rattle.ts_group.specs.declared.world.Asked.TheVariants as A
use Rattle.ts_hooks.specs.declared.hook.HookAnswer.{HookAnswer}
use Rattle.ts_hooks.specs.declared.hook.HookAnswer.TheVariants.{Continue, Error}
use Rattle.ts_hooks.specs.declared.txn_end.TxnEnd.{TxnEnd}
use Rattle.ts_hooks.specs.declared.txn_end.TxnEnd.TheVariants as E
use Rattle.ts_link.specs.Counts.{Counted, Rose}
use Rattle.ts_upstream.specs.declared.upstream.Uploaded.{Uploaded}
use Rattle.ts_upstream.specs.declared.upstream.Uploaded.TheVariants as U
use Rattle.ts_vconn.specs.declared.moves.Pulled.{Pulled}
use Rattle.ts_vconn.specs.declared.moves.Pushed.{Pushed}
use Rattle.ts_vconn.specs.MoveAnswers.{pull_failed, push_failed}
use Rattle.ts_plugin.specs.declared.question.HookQuestion.{HookQuestion}
use Rattle.ts_plugin.specs.declared.question.HookReply.{HookReply}
use Rattle.ts_plugin.specs.declared.question.PluginFault.{PluginFault}
use Rattle.ts_wire.specs.declared.fields.Field.{Field}
use Rattle.ts_wire.specs.declared.heads.RequestHead.{RequestHead}
use Rattle.ts_wire.specs.declared.heads.ResponseHead.{ResponseHead}
use Rattle.ts_wire.specs.Heads.{LacksRequest, LacksResponse}
use Rattle.ts_block.specs.Heads.{HasRequest, HasResponse}
use Rattle.ts_phases.specs.Asking.{asked_phase, continued_step, refused_step, replied_step, told_step}
use Rattle.ts_phases.specs.Causes.{EndsForCause, HasCause, HasCounts}
use Rattle.ts_phases.specs.Moving.{MovesUpload, QueuesOwn, QueuesRequest, Seeks, SeeksRequest, SeeksResponse}
use Rattle.ts_phases.specs.Moving.{SideReads, SideWrites, WritesClient, WritesOrigin}
use Rattle.ts_phases.specs.Owed.{MayAsk, MayFollow}
use Rattle.ts_phases.specs.Steps.{AnswersOriginFault, AnswersRefusal, ClosesForClientFault, UploadLeads}
use Rattle.ts_phases.specs.View.{HasCount, HasFailed, LinkSide, View}
use Rattle.ts_phases.specs.declared.head_reader.Found.{Found}
use Rattle.ts_phases.specs.declared.head_reader.Found.TheVariants as F
use Rattle.ts_phases.specs.declared.phase.OwnAnswer.{OwnAnswer}
use Rattle.ts_phases.specs.declared.phase.Phase.{Phase}
use Rattle.ts_phases.specs.declared.phase.Phase.TheVariants as P
use Rattle.ts_phases.specs.declared.phase.Request.{Request}
use Rattle.ts_phases.specs.declared.phase.Step.{Step}
use Rattle.ts_phases.proofs.OneSide.{failed}

-- ---- one side

-- the same link as before, which has forgotten no fault
pub record KeepsCount (s r : LinkSide) : Type 0 where
  pub base : r.base ≡ s.base
  pub faults : s.look.faults ≤ r.look.faults

-- a count over any call
pub counted_on : (b : Bool) (old new : ℕ) → Counted b old new → old ≤ new
counted_on true old new rose = omega (arith, rose)
counted_on false old new same = omega (arith, same)

module _ (s r : LinkSide) where
  pub same_kept : r ≡ s → KeepsCount s r
  same_kept same = record {
    base = ap (λ (x : LinkSide). x.base) same;
    faults = counted_on false s.look.faults r.look.faults (ap (λ (x : LinkSide). x.look.faults) same);
  }

  module _ (k : KeepsCount s r) where
    pub count_kept : HasCount s → HasCount r
    count_kept has = let base = k.base in let faults = k.faults in omega (arith, has, base, faults)

    pub failed_kept : HasFailed s → HasFailed r
    failed_kept rose = let base = k.base in let faults = k.faults in omega (arith, rose, base, faults)

    -- a fault that it meets is one since the transaction was made
    pub failed_now : Rose s.look.faults r.look.faults → HasCount s → HasFailed r
    failed_now rose has = subst (λ (n : ℕ). Rose n r.look.faults) (sym k.base)
        (failed s.base s.look.faults r.look.faults rose has)

read_kept : (t : Bool) (s r : LinkSide) (p : Pulled) → SideReads t s r p → KeepsCount s r
read_kept t s r p reads = record {
  base = reads.base;
  faults = counted_on (pull_failed p) s.look.faults r.look.faults reads.pulls.pulls.calls.faults;
}

write_kept : (t : Bool) (s r : LinkSide) (p : Pushed) → SideWrites t s r p → KeepsCount s r
write_kept t s r p writes = record {
  base = writes.base;
  faults = counted_on (push_failed p) s.look.faults r.look.faults writes.pushes.calls.faults;
}

found_kept : {H : Type 0} (has : List ℕ → H → List ℕ → Type 0) (lacks : List ℕ → Type 0) (t : Bool)
    (s r : LinkSide) (found : Found H) → Seeks has lacks t s r found → KeepsCount s r
found_kept has lacks t s r (F.Head head) seeks = record {
  base = ap (λ (x : LinkSide). x.base) seeks.2;
  faults = counted_on false s.look.faults r.look.faults (ap (λ (x : LinkSide). x.look.faults) seeks.2);
}
found_kept has lacks t s r F.Never seeks = same_kept s r seeks.1
found_kept has lacks t s r (F.Read p) seeks = read_kept t s r p seeks.1
found_kept has lacks t s r F.NoMemory seeks = same_kept s r seeks

-- ---- both sides

pub record KeepsCounts (v w : View) : Type 0 where
  pub client : KeepsCount v.client w.client
  pub origin : KeepsCount v.origin w.origin

module _ (v w : View) where
  module _ (k : KeepsCounts v w) where
    pub counts_kept : HasCounts v → HasCounts w
    counts_kept has = record {
      client = count_kept v.client w.client k.client has.client;
      origin = count_kept v.origin w.origin k.origin has.origin;
    }

    -- the cause of an end stays
    pub cause_kept : (end : TxnEnd) → HasCause v end → HasCause w end
    cause_kept E.Whole has = tt
    cause_kept E.OriginCut has = tt
    cause_kept E.OriginBad has = tt
    cause_kept E.OriginFault has = failed_kept v.origin w.origin k.origin has
    cause_kept E.ClientFault has = failed_kept v.client w.client k.client has
    cause_kept E.NoMemory has = tt

  pub still_kept : w ≡ v → KeepsCounts v w
  still_kept same = record {
    client = same_kept v.client w.client (ap (λ (x : View). x.client) same);
    origin = same_kept v.origin w.origin (ap (λ (x : View). x.origin) same);
  }

  pub asked_kept : (t : Bool) (found : Found RequestHead) → SeeksRequest t v w found → KeepsCounts v w
  asked_kept t found hears = record {
    client = found_kept HasRequest LacksRequest t v.client w.client found hears.finds;
    origin = same_kept v.origin w.origin (ap (λ (x : View). x.origin) hears.others);
  }

  pub heard_kept : (t : Bool) (found : Found ResponseHead) → SeeksResponse t v w found → KeepsCounts v w
  heard_kept t found hears = record {
    client = same_kept v.client w.client (ap (λ (x : View). x.client) hears.others);
    origin = found_kept HasResponse LacksResponse t v.origin w.origin found hears.finds;
  }

  pub sent_kept : (t : Bool) (p : Pushed) → WritesOrigin t v w p → KeepsCounts v w
  sent_kept t p writes = record {
    client = same_kept v.client w.client (ap (λ (x : View). x.client) writes.others);
    origin = write_kept t v.origin w.origin p writes.origin;
  }

  pub told_kept : (t : Bool) (p : Pushed) → WritesClient t v w p → KeepsCounts v w
  told_kept t p writes = record {
    client = write_kept t v.client w.client p writes.client;
    origin = same_kept v.origin w.origin (ap (λ (x : View). x.origin) writes.others);
  }

  pub queued_kept : (text : List ℕ) → QueuesRequest text v w → KeepsCounts v w
  queued_kept text queues = record {
    client = same_kept v.client w.client (ap (λ (x : View). x.client) queues);
    origin = record {
      base = ap (λ (x : View). x.origin.base) queues;
      faults = counted_on false v.origin.look.faults w.origin.look.faults
          (ap (λ (x : View). x.origin.look.faults) queues);
    };
  }

  pub own_kept : (head body : List ℕ) → QueuesOwn head body v w → KeepsCounts v w
  own_kept head body queues = record {
    client = record {
      base = ap (λ (x : LinkSide). x.base) queues.client;
      faults = counted_on false v.client.look.faults w.client.look.faults
          (ap (λ (x : LinkSide). x.look.faults) queues.client);
    };
    origin = same_kept v.origin w.origin queues.origin;
  }

  pub upload_kept : (ctells otells : Bool) (refuses : List ℕ → Type 0) (answer : Uploaded)
      → MovesUpload ctells otells refuses answer v w → KeepsCounts v w
  upload_kept ctells otells refuses answer m = record {
    client = record {
      base = ap (λ (x : View). x.client.base) m.others;
      faults = m.moves.keeps.client.faults;
    };
    origin = record {
      base = ap (λ (x : LinkSide). x.base) m.moves.others;
      faults = m.moves.keeps.origin.faults;
    };
  }

-- ---- the phase that a step leads to

-- the whole end has no cause
pub whole_cause : (v : View) (end : TxnEnd) → end ≡ E.Whole → HasCause v end
whole_cause v end is = subst (λ (e : TxnEnd). HasCause v e) (sym is) tt

module _ (v : View) where
  -- an end for a fault of the client, and one for a fault of the origin
  pub closes_cause : (n : Phase) → ClosesForClientFault n → HasFailed v.client → EndsForCause v n
  closes_cause (P.TxnClose end) is rose = subst (λ (e : TxnEnd). HasCause v e) (sym is) rose
  closes_cause _ is rose = absurd is

  pub answers_cause : (n : Phase) → AnswersOriginFault n → HasFailed v.origin → EndsForCause v n
  answers_cause (P.SendResponseHdr a) is rose = subst (λ (e : TxnEnd). HasCause v e) (sym is.1) rose
  answers_cause _ is rose = absurd is

  -- the next phase behind a queued request, and behind a queued answer
  pub request_cause : (lines : List PluginLine) (q : Request) (place : ℕ) (fields : List Field) (n : Phase)
      → MayFollow lines (P.RuleRequest q place fields) n → EndsForCause v n
  request_cause lines q place fields (P.SendRequest r) follows = tt
  request_cause lines q place fields (P.Ended last) follows =
      subst (λ (e : TxnEnd). HasCause v e) (sym follows) tt
  request_cause lines q place fields _ follows = absurd follows

  pub answer_cause : (lines : List PluginLine) (a : OwnAnswer) (place : ℕ) (fields : List Field) (n : Phase)
      → MayFollow lines (P.RuleAnswer a place fields) n → HasCause v a.end → EndsForCause v n
  answer_cause lines a place fields (P.Sending b) follows has =
      subst (λ (x : OwnAnswer). HasCause v x.end) (sym follows.0) has
  answer_cause lines a place fields (P.Ended last) follows has =
      subst (λ (e : TxnEnd). HasCause v e) (sym follows) tt
  answer_cause lines a place fields _ follows has = absurd follows

  -- a plugin is asked in a phase whose end is that of the phase before
  pub asks_cause : (p n : Phase) → MayAsk p n → EndsForCause v p → EndsForCause v n
  asks_cause (P.OsDns q place) (P.OsDns r same) may has = tt
  asks_cause (P.SendRequestHdr q) (P.RuleRequest r place fields) may has = tt
  asks_cause (P.RuleRequest q place fields) (P.RuleRequest r same still) may has = tt
  asks_cause (P.ResponseTransform q h) (P.RuleResponse r k place fields) may has = tt
  asks_cause (P.RuleResponse q h place fields) (P.RuleResponse r k same still) may has = tt
  asks_cause (P.SendResponseHdr a) (P.RuleAnswer b place fields) may has =
      subst (λ (x : OwnAnswer). HasCause v x.end) (sym may.0) has
  asks_cause (P.RuleAnswer a place fields) (P.RuleAnswer b same still) may has =
      subst (λ (x : OwnAnswer). HasCause v x.end) (sym may.0) has
  asks_cause _ _ may has = absurd may

-- ---- a reply

module _ (v : View) where
  -- the end of a phase does not depend on the fields that its question holds
  pub asked_cause : (p : Phase) (question other : HookQuestion) → EndsForCause v (asked_phase p question)
      → EndsForCause v (asked_phase p other)
  asked_cause (P.RuleRequest q place fields) question other has = tt
  asked_cause (P.RuleResponse q h place fields) question other has = tt
  asked_cause (P.RuleAnswer a place fields) question other has = has
  asked_cause _ question other has = has

  -- nor on whether they are put back
  pub waits_cause : (p : Phase) (question : HookQuestion) → EndsForCause v p
      → EndsForCause v (asked_phase p question)
  waits_cause (P.RuleRequest q place fields) question has = tt
  waits_cause (P.RuleResponse q h place fields) question has = tt
  waits_cause (P.RuleAnswer a place fields) question has = has
  waits_cause _ question has = has

  continued_cause : (p : Phase) (question : HookQuestion) (fields : List Field)
      → EndsForCause v (asked_phase p question) → EndsForCause v (continued_step p fields).phase
  continued_cause (P.OsDns q place) question fields has = tt
  continued_cause (P.RuleRequest q place none) question fields has = tt
  continued_cause (P.RuleResponse q h place none) question fields has = tt
  continued_cause (P.RuleAnswer a place none) question fields has = has
  continued_cause _ question fields has = tt

  refused_cause : (p : Phase) (question : HookQuestion) (fields : List Field)
      → EndsForCause v (asked_phase p question) → EndsForCause v (refused_step p fields).phase
  refused_cause (P.OsDns q place) question fields has = tt
  refused_cause (P.RuleRequest q place none) question fields has = tt
  refused_cause p question fields has = continued_cause p question fields has

  replied_cause : (p : Phase) (question : HookQuestion) (answer : Result HookAnswer PluginFault)
      (fields : List Field) → EndsForCause v (asked_phase p question)
      → EndsForCause v (replied_step p answer fields).phase
  replied_cause p question (Ok Continue) fields has = continued_cause p question fields has
  replied_cause p question (Ok Error) fields has = refused_cause p question fields has
  replied_cause p question (Err fault) fields has = tt

  -- what it was told leads on to an end that has its cause
  pub told_cause : (p : Phase) (question : HookQuestion) (asked : Asked HookQuestion HookReply)
      → EndsForCause v (asked_phase p question) → EndsForCause v (told_step p asked).phase
  told_cause p question (A.Reply reply) has = replied_cause p question reply.answer reply.fields has
  told_cause p question (A.Missed seen other) has = asked_cause p question other has
  told_cause p question (A.NoMemory other) has = tt

-- ---- where an upload leads

pub upload_cause : (v w : View) (ctells otells : Bool) (refuses : List ℕ → Type 0) (q : Request) (s : Step)
    (answer : Uploaded) → UploadLeads answer q s → MovesUpload ctells otells refuses answer v w → HasCounts v
    → EndsForCause w s.phase
upload_cause v w ctells otells refuses q s U.Done leads m has =
    subst (λ (x : Step). EndsForCause w x.phase) (sym leads) tt
upload_cause v w ctells otells refuses q s U.More leads m has =
    subst (λ (x : Step). EndsForCause w x.phase) (sym leads) tt
upload_cause v w ctells otells refuses q s U.Again leads m has =
    subst (λ (x : Step). EndsForCause w x.phase) (sym leads) tt
upload_cause v w ctells otells refuses q s U.ClientFailed leads m has = closes_cause w s.phase leads
    (failed_now v.client w.client (upload_kept v w ctells otells refuses U.ClientFailed m).client
    m.moves.causes.counts has.client)
upload_cause v w ctells otells refuses q s U.OriginFailed leads m has = answers_cause w s.phase leads
    (failed_now v.origin w.origin (upload_kept v w ctells otells refuses U.OriginFailed m).origin
    m.moves.causes.counts has.origin)
upload_cause v w ctells otells refuses q s U.Refused leads m has = refused s.phase leads
  where
    refused : (n : Phase) → AnswersRefusal n → EndsForCause w n
    refused (P.SendResponseHdr a) is = whole_cause w a.end is.1
    refused _ is = absurd is
upload_cause v w ctells otells refuses q s U.NoMemory leads m has =
    subst (λ (x : Step). EndsForCause w x.phase) (sym leads) tt
