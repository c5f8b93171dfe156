-- What the step of a phase owes beside the fact of the phase that it leads to: the fault of a link decides
-- where it leads, nothing but the request and its upload is sent to the origin, and it waits for a link alone
-- (RFC 9110, sections 7.6 and 15.6.3).
use Rattle.std.specs.Prelude.{◌≡◌, ◌<◌, ◌++◌, ◌⊎◌, ⊤, Bool, List, ℕ, Option}
use Rattle.ts_hooks.specs.declared.txn_end.TxnEnd.TheVariants as E
use Rattle.ts_link.specs.Counts.{Rose}
use Rattle.ts_link.specs.declared.link.Link as link
use Rattle.ts_upstream.specs.declared.upstream.Upstream as upstream
use Rattle.ts_upstream.specs.declared.upstream.Uploaded.{Uploaded}
use Rattle.ts_upstream.specs.declared.upstream.Uploaded.TheVariants as U
use Rattle.ts_phases.specs.Moving.{LowersUpload, MovesUpload}
use Rattle.ts_phases.specs.View.{IsOneUpload, View, refuses_if, upload_of, view_of}
use Rattle.ts_phases.specs.declared.parts.Core.{Core}
use Rattle.ts_phases.specs.declared.phase.Request.{Request}
use Rattle.ts_block.specs.declared.own_answer.OwnStatus.TheVariants as O
use Rattle.ts_phases.specs.declared.phase.Next.{Next}
use Rattle.ts_phases.specs.declared.phase.Next.TheVariants as N
use Rattle.ts_phases.specs.declared.phase.Phase.{Phase}
use Rattle.ts_phases.specs.declared.phase.Phase.TheVariants as P
use Rattle.ts_phases.specs.declared.phase.Step.{Step}

-- the 502 answer is next, and the end for the origin's fault after it
abbrev pub AnswersOriginFault : Phase → Type 0
AnswersOriginFault (P.SendResponseHdr a) = (a.status ≡ O.BadGateway) × (a.end ≡ E.OriginFault)
AnswersOriginFault _ = ⊥

-- the 400 answer is next, and then the whole end
abbrev pub AnswersRefusal : Phase → Type 0
AnswersRefusal (P.SendResponseHdr a) = (a.status ≡ O.BadRequest) × (a.end ≡ E.Whole)
AnswersRefusal _ = ⊥

-- the end for the client's fault is next
abbrev pub ClosesForClientFault : Phase → Type 0
ClosesForClientFault (P.TxnClose end) = end ≡ E.ClientFault
ClosesForClientFault _ = ⊥

-- Where a link's count of faults rose in a step, that decides where it leads; where a link was not ready, the
-- next step is made later.
pub record MindsLinks (v w : View) (s : Step) : Type 0 where
  pub client_fault : v.client.look.faults < w.client.look.faults → ClosesForClientFault s.phase
  pub origin_fault : v.origin.look.faults < w.origin.look.faults → AnswersOriginFault s.phase
  pub client_again : v.client.look.waits < w.client.look.waits → s.next ≡ N.Wait
  pub origin_again : v.origin.look.waits < w.origin.look.waits → s.next ≡ N.Wait

-- nothing is sent to the origin
pub record LeavesOrigin (v w : View) : Type 0 where
  pub taken : w.origin.look.taken ≡ v.origin.look.taken
  pub carried : w.origin.look.carried ≡ v.origin.look.carried
  pub waits : w.origin.outbox ≡ v.origin.outbox

-- a text waits for the origin behind what did, and the origin takes nothing
pub record QueuesBehind (v w : View) : Type 0 where
  pub text : List ℕ
  pub taken : w.origin.look.taken ≡ v.origin.look.taken
  pub waits : w.origin.outbox ≡ v.origin.outbox ++ text

-- the origin takes a front of what waited for it, and nothing else
pub record MovesOutbox (v w : View) : Type 0 where
  pub front : List ℕ
  pub taken : w.origin.look.taken ≡ v.origin.look.taken ++ front
  pub waits : v.origin.outbox ≡ front ++ w.origin.outbox

-- the origin takes what an upload wrote behind all that it took, and what waits for it stays
pub record TakesUpload (v w : View) : Type 0 where
  pub upload : List ℕ
  pub taken : w.origin.look.taken ≡ v.origin.look.taken ++ upload
  pub carried : w.origin.look.carried ≡ v.origin.look.carried ++ upload
  pub waits : w.origin.outbox ≡ v.origin.outbox

-- Something is in four phases alone: the request's head is queued in two, and only moved on in the third; and
-- in the last the origin takes what an upload wrote. The fact of each says which head that is.
abbrev pub LeavesOriginIn : Phase → View → View → Type 0
LeavesOriginIn (P.SendRequestHdr q) v w = QueuesBehind v w
LeavesOriginIn (P.RuleRequest q place fields) v w = QueuesBehind v w
LeavesOriginIn (P.SendRequest q) v w = MovesOutbox v w
LeavesOriginIn (P.Upload q) v w = TakesUpload v w
LeavesOriginIn _ v w = LeavesOrigin v w

-- the next step is made later only where a link was not ready
abbrev pub WaitsRightly : Next → View → View → Type 0
WaitsRightly N.Wait v w =
    Rose v.client.look.waits w.client.look.waits ⊎ Rose v.origin.look.waits w.origin.look.waits
WaitsRightly _ v w = ⊤

-- where the answer of an upload leads
abbrev pub UploadLeads : Uploaded → Request → Step → Type 0
UploadLeads U.Done q s = s ≡ record { phase = P.ReadResponse q; next = N.Go }
UploadLeads U.More q s = s ≡ record { phase = P.Upload q; next = N.Go }
UploadLeads U.Again q s = s ≡ record { phase = P.Upload q; next = N.Wait }
UploadLeads U.ClientFailed q s = ClosesForClientFault s.phase
UploadLeads U.OriginFailed q s = AnswersOriginFault s.phase
UploadLeads U.Refused q s = AnswersRefusal s.phase
UploadLeads U.NoMemory q s = s ≡ record { phase = P.Ended E.NoMemory; next = N.Done }

-- one upload was made, and its answer decides where the step leads
pub record UploadsOnce (client origin : Bool) (refuses : List ℕ → Type 0) (once : Uploaded → Type 0)
    (q : Request) (left left_then : Option ℕ) (v w : View) (s : Step) : Type 0 where
  pub answer : Uploaded
  pub one : once answer
  pub moves : MovesUpload client origin refuses answer v w
  pub lowers : LowersUpload answer left left_then v w
  pub leads : UploadLeads answer q s

module _ {C O : Type 0} (client : link.Ghosts C) (origin : link.Ghosts O) (pair : upstream.Ghosts O C)
    (t u : Core C O) where
  -- a link's fault and a link that was not ready decide where a step leads; in an upload its answer does; and
  -- one that closes ends so
  abbrev pub MindsLinksIn : Phase → Step → Type 0
  MindsLinksIn (P.Upload q) s = UploadsOnce client.tells origin.tells (refuses_if pair.refuses t.origin)
      (IsOneUpload pair t u) q (upload_of pair t) (upload_of pair u)
      (view_of client origin t) (view_of client origin u) s
  MindsLinksIn (P.TxnClose end) s = MindsLinks (view_of client origin t) (view_of client origin u) s
      × (s ≡ record { phase = P.Ended end; next = N.Done })
  MindsLinksIn _ s = MindsLinks (view_of client origin t) (view_of client origin u) s

-- nothing is read of the client, and what it gave is kept
pub record LeavesClient (v w : View) : Type 0 where
  pub reads : w.client.look.reads ≡ v.client.look.reads
  pub given : w.client.look.given ≡ v.client.look.given
  pub held : w.client.inbox ≡ v.client.inbox

-- it gave some more
abbrev pub GivesOn : View → View → Type 0
GivesOn v w = (more : List ℕ) × (w.client.look.given ≡ v.client.look.given ++ more)

-- it is read for the request's head alone
abbrev pub LeavesClientIn : Phase → View → View → Type 0
LeavesClientIn P.ReadRequest v w = GivesOn v w
LeavesClientIn _ v w = LeavesClient v w

-- what the step of a phase leaves as it is of both sides
pub record LeavesSides (p : Phase) (v w : View) : Type 0 where
  pub origin : LeavesOriginIn p v w
  pub client : LeavesClientIn p v w
