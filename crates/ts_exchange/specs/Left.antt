-- What is left of a transaction between plain links, once it is taken apart (Developer's Guide, "HTTP Hooks and
-- Transactions"; RFC 9112, section 8, on incomplete messages).
use Rattle.std.specs.Prelude.{◌≡◌, ℕ, ◌<◌, ◌≤◌, List, [], Bool, true, Option, Some, None, ⊤, is_some}
use Rattle.ts_config.specs.declared.setup.Setup.{Setup}
use Rattle.ts_config.specs.declared.setup.TransformLine.{TransformLine}
use Rattle.ts_group.specs.declared.action.Named.{Named}
use Rattle.ts_hooks.specs.declared.txn_end.TxnEnd.{TxnEnd}
use Rattle.ts_hooks.specs.declared.txn_end.TxnEnd.TheVariants as E
use Rattle.ts_journal.specs.State.{State}
use Rattle.ts_journal.specs.declared.entry.TheConstants.{GREATEST}
use Rattle.ts_link.specs.Link.{Look}
use Rattle.ts_link.specs.declared.link.Link as link
use Rattle.ts_upstream.specs.declared.upstream.Upstream as upstream
use Rattle.ts_transform.specs.declared.transform.Transform as transform
use Rattle.ts_phases.specs.Causes.{HasCause}
use Rattle.ts_phases.specs.Ends.{EndFact}
use Rattle.ts_phases.specs.Holding.{IfTold, IsSameLink}
use Rattle.ts_phases.specs.View.{View, no_side}
use Rattle.ts_txn.specs.Making.{base_if, end_of_course, link_if}
use Rattle.ts_txn.specs.Resting.{NeverFailed, SendsBlock}
use Rattle.ts_txn.specs.Sending.{LinksTakeOnce, SendsRequestFirst}
use Rattle.ts_txn.specs.World.{IsSoundTxn, IsTxnOf, faults_if}
use Rattle.ts_txn.specs.declared.making.TxnParts.{TxnParts}
use Rattle.ts_txn.specs.declared.txn.Txn.{Txn}
use Rattle.ts_txn.specs.declared.txn.TxnTag.{TxnTag}
use Rattle.ts_exchange.specs.Ends.{Ends, IsTagBetween}
use Rattle.ts_exchange.specs.declared.exchange.Promise.{Promise}

-- ---- a transaction before it is taken apart

-- its number, whether it holds an origin, how it ended, and whether it has
abbrev pub number_of : {C O Q : Type 0} → Txn C O Q → ℕ
number_of t = t.core.number

abbrev pub holds_origin : {C O Q : Type 0} → Txn C O Q → Bool
holds_origin t = is_some t.core.origin

abbrev pub end_of : {C O Q : Type 0} → Txn C O Q → Option TxnEnd
end_of t = end_of_course t.course

abbrev pub has_ended : {C O Q : Type 0} → Txn C O Q → Bool
has_ended t = is_some (end_of t)

-- These are the parts that it is taken apart into.
pub record IsApart {C O Q : Type 0} (t : Txn C O Q) (parts : TxnParts C O) : Type 0 where
  pub number : parts.number ≡ number_of t
  pub client : parts.client ≡ t.core.client.link
  pub origin : parts.origin ≡ link_if t.core.origin
  pub head : parts.head ≡ t.core.sent.head
  pub mode : parts.mode ≡ t.core.sent.mode
  pub cuts : parts.cuts.items ≡ t.core.sent.cuts.items
  pub client_faults : parts.client_faults ≡ t.core.client.base
  pub origin_faults : parts.origin_faults ≡ base_if t.core.origin
  pub end_is : parts.end ≡ end_of t

-- ---- what is left

module _ {L : Type 0} (look : L → Look) where
  -- the origin's link, if there is one, is the same
  abbrev pub IsSameOrigin : Option L → Option L → Type 0
  IsSameOrigin None None = ⊤
  IsSameOrigin None (Some new) = ⊥
  IsSameOrigin (Some old) None = ⊥
  IsSameOrigin (Some old) (Some new) = IsSameLink (look old) (look new)

  -- what is seen of it
  abbrev pub look_if : Option L → Look
  look_if None = no_side.look
  look_if (Some l) = look l

-- it is still that link, whatever was called on it
abbrev pub IsStillOrigin : {L : Type 0} → (L → L → Type 0) → Option L → Option L → Type 0
IsStillOrigin still None None = ⊤
IsStillOrigin still None (Some new) = ⊥
IsStillOrigin still (Some old) None = ⊥
IsStillOrigin still (Some old) (Some new) = still old new

-- The links are those between which it was made, whatever was called on them: they keep their sources, names and
-- plans, and their faults are counted from then on.
pub record KeepsEnds {C O : Type 0} (client : link.Ghosts C) (origin : link.Ghosts O) (ends : Ends C O)
    (parts : TxnParts C O) : Type 0 where
  pub number : parts.number ≡ ends.number
  pub client_is : IsSameLink (client.look ends.client) (client.look parts.client)
  pub origin_is : IsSameOrigin origin.look ends.origin parts.origin
  pub client_still : client.still ends.client parts.client
  pub origin_still : IsStillOrigin origin.still ends.origin parts.origin
  pub client_faults : parts.client_faults ≡ (client.look ends.client).faults
  pub origin_faults : parts.origin_faults ≡ faults_if origin.look ends.origin

module _ {C O : Type 0} (clook : C → Look) (olook : O → Look) where
  -- A transaction that saw this of its two sides left these parts.
  pub record IsSeenAs (v : View) (parts : TxnParts C O) : Type 0 where
    pub client : v.client.look ≡ clook parts.client
    pub client_base : v.client.base ≡ parts.client_faults
    pub dialed : v.dialed ≡ is_some parts.origin
    pub origin : v.origin.look ≡ look_if olook parts.origin
    pub origin_base : v.origin.base ≡ parts.origin_faults
    pub head : parts.head ≡ v.sent.head
    pub mode : parts.mode ≡ v.sent.mode
    pub cuts : parts.cuts.items ≡ v.sent.cuts.items

-- the origin's link, if there is one, refuses the upload of this list
abbrev pub RefusesIf : {O : Type 0} → (O → List ℕ → Type 0) → Option O → List ℕ → Type 0
RefusesIf refuses None list = ⊥
RefusesIf refuses (Some o) list = refuses o list

-- the origin's link that is left refuses the upload of the client
abbrev pub RefusesLeft : {C O : Type 0} → link.Ghosts C → upstream.Ghosts O C → TxnParts C O → Type 0
RefusesLeft client both parts = RefusesIf both.refuses parts.origin (client.look parts.client).source

module _ {C O : Type 0} (client : link.Ghosts C) (origin : link.Ghosts O) (both : upstream.Ghosts O C) where
  -- Where it has ended so: what holds of that end, where its links tell, and the cause, whether they tell or
  -- not.
  pub record HasEndedAs (setup : Setup) (v : View) (parts : TxnParts C O) (end : TxnEnd) : Type 0 where
    pub fact : IfTold client.tells origin.tells (EndFact setup (RefusesLeft client both parts) v end)
    pub cause : HasCause v end

  -- It has ended, and the client took what the block says, where both links tell.
  abbrev pub LeavesBlock : Setup → View → TxnParts C O → Type 0
  LeavesBlock setup v parts = IfTold client.tells origin.tells
      ((end : TxnEnd) × (parts.end ≡ Some end) × SendsBlock setup (RefusesLeft client both parts) v end)

  -- What is left of a transaction between these ends, which was started or not and whose group has a journal in
  -- this state.
  pub record Exchanges (ends : Ends C O) (started : Bool) (s : State) (parts : TxnParts C O) : Type 0 where
    pub keeps : KeepsEnds client origin ends parts
    -- what it saw of its two sides
    pub view : View
    pub seen : IsSeenAs client.look origin.look view parts
    -- how it ended, if it has
    pub ended : (end : TxnEnd) → parts.end ≡ Some end → HasEndedAs ends.setup view parts end
    -- once nothing is pending of one that was started, it has ended, or the event numbers are used up
    pub rests : started ≡ true → s.pending ≡ [] → parts.end ≡ None → GREATEST ≤ s.next
    -- and where none of its links failed and memory did not lack, the client took what the block says
    pub block : started ≡ true → s.pending ≡ [] → s.next < GREATEST → NeverFailed view
        → (parts.end ≡ Some E.NoMemory → ⊥) → LeavesBlock ends.setup view parts
    -- it sent one request at most, and behind it one response at most
    pub once : IfTold client.tells origin.tells (LinksTakeOnce view)
    pub first : IfTold client.tells origin.tells (SendsRequestFirst ends.setup (RefusesLeft client both parts) view)

module _ {C O Q : Type 0} (client : link.Ghosts C) (origin : link.Ghosts O) (both : upstream.Ghosts O C)
    (stage : transform.Ghosts Q TransformLine) where
  -- It is the transaction between these ends, which was started or not, and what is to hold of it holds, where
  -- the journal of its group is in this state.
  pub record IsBetween (ends : Ends C O) (started : Bool) (t : Txn C O Q) (s : State) : Type 0 where
    pub promise : Promise
    pub tag : TxnTag C O
    pub tag_is : IsTagBetween ends promise started tag
    pub fits : IsTxnOf client origin tag t
    pub roles : List Named
    pub sound : IsSoundTxn client origin both stage t s.pending s.next roles
