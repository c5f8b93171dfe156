-- A recorded transaction that has ended, and what it left.
use Rattle.std.specs.Prelude.{◌≡◌, ℕ, ◌<◌, ◌≤◌, List, [], ◌∷◌, ◌++◌, length, All, Bool, true, false}
use Rattle.std.specs.Prelude.{IsSomeAnd, None, Option, Some, take, ⊤}
use Rattle.ts_block.specs.Sent.{HasPlainRules}
use Rattle.ts_config.specs.declared.setup.Setup.{Setup}
use Rattle.ts_group.specs.declared.either.Either.TheVariants.{One, Other}
use Rattle.ts_exchange.specs.Ends.{Ends}
use Rattle.ts_hooks.specs.declared.txn_end.TxnEnd.{TxnEnd}
use Rattle.ts_hooks.specs.declared.txn_end.TxnEnd.TheVariants as E
use Rattle.ts_journal.specs.State.{State}
use Rattle.ts_intercept.specs.Uploading.{owed}
use Rattle.ts_layers.specs.Layers.{HasChosen, IsLayeredBetween, LayeredExchanges, StaysOver}
use Rattle.ts_layers.specs.declared.layers.PlainExchange.{PlainExchange}
use Rattle.ts_journal.specs.declared.entry.TheConstants.{GREATEST}
use Rattle.ts_link.specs.Link.{Look, Plan}
use Rattle.ts_link.specs.MemLink.{LinkState, look_of}
use Rattle.ts_record.specs.Report.{IsReported}
use Rattle.ts_record.specs.declared.report.ReportBlock.{ReportBlock}
use Rattle.ts_replay.specs.AtOrigin.{none_there}
use Rattle.ts_replay.specs.declared.at_origin.AtOrigin.{AtOrigin}
use Rattle.ts_replay.specs.Recorded.{Recorded, RecordedCarrier, RowWorld, TakesSome, recorded_origin}
use Rattle.ts_replay.specs.Reports.{BothSides, IsShownOf}
use Rattle.ts_replay.specs.Unframing.{IsFramed}
use Rattle.ts_stock.specs.StockTransform.{stock_transform}
use Rattle.ts_tap.specs.Sums.{HasSummed}
use Rattle.ts_tap.specs.declared.sum.Sum.{Sum}
use Rattle.ts_txn.specs.Making.{end_of_course, link_if}
use Rattle.ts_block.specs.declared.block.Block.{Block}
use Rattle.ts_txn.specs.declared.making.TxnParts.{TxnParts}
use Rattle.ts_upstream.specs.InMemory.{memory_link}
use Rattle.ts_wire.specs.Blank.{EndsBlank, LacksBlank}
use Rattle.ts_wire.specs.Frames.{IsPiece, cut_body, frames}
use Rattle.ts_wire.specs.Limits.{body_limit}
use Rattle.ts_wire.specs.declared.frames.Mode.{Mode}

-- how many bytes a link takes in all, where it leaves
abbrev pub leave_told : Option Plan → Option ℕ
leave_told None = None
leave_told (Some p) = p.leave

abbrev pub leave_of : Look → Option ℕ
leave_of l = leave_told l.plan

-- These ends are of this setup, whose header rules leave alone what the proxy sees to itself, and two sides
-- that give these bytes, of which the client leaves or stays.
pub record AreEndsOf (setup : Setup) (sides : BothSides) (ends : Ends LinkState LinkState) : Type 0 where
  pub setup_is : ends.setup ≡ setup
  pub plain : HasPlainRules setup
  pub gives : (look_of ends.client).source ≡ sides.client
  pub leaves : leave_of (look_of ends.client) ≡ sides.leave
  pub takes_some : TakesSome sides.leave
  pub origin : LinkState
  pub dialed : ends.origin ≡ Some origin
  pub answers : (look_of origin).source ≡ sides.origin
  pub stays : leave_of (look_of origin) ≡ None

-- The transaction is one between such ends with their layers, of which the origin's keep what is taken in its
-- place. It was started, nothing of its group is pending, the group has an event number left, and what is to
-- hold of it holds.
pub record IsRunBetween (setup : Setup) (sides : BothSides) (t : Recorded) : Type 0 where
  pub ends : Ends LinkState LinkState
  pub ends_are : AreEndsOf setup sides ends
  pub state : State
  pub idle : state.pending ≡ []
  pub numbers : state.next < GREATEST
  pub between : IsLayeredBetween memory_link memory_link recorded_origin stock_transform ends true true t
      state

-- what is left of such a transaction
pub record IsLeftBetween (setup : Setup) (sides : BothSides) (left : PlainExchange LinkState LinkState)
    : Type 0 where
  pub ends : Ends LinkState LinkState
  pub ends_are : AreEndsOf setup sides ends
  pub state : State
  pub idle : state.pending ≡ []
  pub numbers : state.next < GREATEST
  pub exchanges : LayeredExchanges memory_link memory_link recorded_origin stock_transform ends true
      true state left

-- Behind the head at the origin stands this body, as it was delivered there, if it was: in pieces in their
-- frames, with its end.
abbrev pub StandsBehind : Option Mode → Option (List ℕ) → List ℕ → Type 0
StandsBehind None None bytes = ⊤
StandsBehind None (Some body) bytes = ⊥
StandsBehind (Some mode) None bytes = ⊥
StandsBehind (Some mode) (Some body) bytes =
    (pieces : List (List ℕ)) × IsFramed mode bytes pieces × (cut_body pieces ≡ body)

-- This is at an origin that took these bytes: a head and what stands behind it; or nothing, where no head is
-- whole.
pub data HasTaken (taken : List ℕ) (mode : Option Mode) (at : AtOrigin) : Type 0 where
  no_head : LacksBlank taken → at ≡ none_there → HasTaken taken mode at
  head : (behind : List ℕ) → EndsBlank at.request → taken ≡ at.request ++ behind
      → StandsBehind mode at.upload behind → HasTaken taken mode at

-- the client took the head of the block, and behind it this much of a body in pieces in their frames, with
-- its end or without
pub record HasGot (parts : TxnParts LinkState LinkState) (b : Block) (sent : List ℕ) (fin : Bool)
    : Type 0 where
  pub pieces : List (List ℕ)
  pub each : All IsPiece pieces
  pub text : parts.client.taken ≡ b.head ++ frames parts.mode pieces fin
  pub head : parts.head ≡ length b.head
  pub body : cut_body pieces ≡ sent

-- by the end: the whole body, or some of it
abbrev pub GotBy : TxnEnd → TxnParts LinkState LinkState → Block → Type 0
GotBy E.Whole parts b = HasGot parts b b.body true
GotBy other parts b = (b.body ≡ []) × ((sent : List ℕ) × HasGot parts b sent false)

-- a tap that counts at most so many bytes summed up this body, or there is none where none was asked for
abbrev pub TapsBody : Option ℕ → Option Sum → List ℕ → Type 0
TapsBody None sum body = sum ≡ None
TapsBody (Some most) sum body = (s : Sum) × (sum ≡ Some s) × (s.most ≡ most) × HasSummed s body

-- A transaction that has ended so, and in whose origin's place these bytes were taken, came to this block;
-- this is at the origin; and where the block has a body, which is no longer than a list in memory is, a tap of
-- at most so many bytes summed it up.
pub record LeavesBlock (left : PlainExchange LinkState LinkState) (kept : List ℕ) (end : TxnEnd)
    (most : Option ℕ) (at : AtOrigin) (b : Block) : Type 0 where
  pub end_is : b.end ≡ end
  pub taken : HasTaken kept left.upload at
  pub got : GotBy end left.parts b
  pub tapped : end ≡ E.Whole → length b.body ≤ body_limit → TapsBody most left.sum b.body

-- A transaction in whose origin's place these bytes were taken, and whose client leaves after so many bytes,
-- sent this head: the client took the first so many bytes of it, or all of it; and this is at the origin.
pub record LeavesHeads (left : PlainExchange LinkState LinkState) (kept : List ℕ) (most : ℕ)
    (at : AtOrigin) (head : List ℕ) : Type 0 where
  pub taken : HasTaken kept left.upload at
  pub got : take left.parts.head left.parts.client.taken ≡ take most head

-- ---- what is shown of it

-- how a transaction may end: for its client's fault only where the client leaves
abbrev pub MayEnd : Option ℕ → TxnEnd → Type 0
MayEnd None E.ClientFault = ⊥
MayEnd None end = IsReported end
MayEnd (Some most) end = IsReported end

-- What a block says of an end: the end itself, where the client stays. Where it leaves, the transaction has
-- ended so or otherwise, and the block says that the client left.
abbrev pub ShowsEnd : Option ℕ → Option TxnEnd → TxnEnd → Type 0
ShowsEnd None end shown = (end ≡ Some shown) × MayEnd None shown
ShowsEnd (Some most) end shown = IsSomeAnd end (MayEnd (Some most)) × (shown ≡ E.ClientFault)

-- Who answered in the place of a transaction's origin: this side was handed in, nothing was read of it before
-- a head was whole, and nothing that was written for it waits; and where a line served, it gave nothing and
-- took nothing (Developer's Guide, "Intercepting HTTP Transactions").
pub record HasAnswered (setup : Setup) (side : Option LinkState) (end : RecordedCarrier) : Type 0 where
  pub stays : StaysOver setup true side end
  pub chosen : HasChosen memory_link end
  pub on_time : end.origin.inner.early ≡ false
  pub handed_on : owed end.origin.inner ≡ []

-- its origin's end is there, and has answered so
abbrev pub ChoseWell : Setup → Option LinkState → Recorded → Type 0
ChoseWell setup side t = IsSomeAnd (link_if t.core.origin) (HasAnswered setup side)

-- the block is the one of whatever setup and two sides a transaction ran between, and tells how it ended
pub record TellsOf (t : Recorded) (b : ReportBlock) : Type 0 where
  pub shown : (setup : Setup) (sides : BothSides) → IsRunBetween setup sides t → IsShownOf setup sides b
  pub ended : (setup : Setup) (sides : BothSides) → IsRunBetween setup sides t
      → ShowsEnd sides.leave (end_of_course t.course) b.end
  pub reported : IsReported b.end
  pub chose : (setup : Setup) (sides : BothSides) → (run : IsRunBetween setup sides t)
      → ChoseWell setup run.ends.origin t

-- where the world of a group is a transaction, it has run
abbrev pub HasRun : RowWorld → Type 0
HasRun (One t) = (setup : Setup) × (sides : BothSides) × IsRunBetween setup sides t
HasRun (Other p) = ⊤

-- the block of a transaction stands behind others, and a plugin has none
abbrev pub AddsBlock : RowWorld → List ReportBlock → List ReportBlock → Type 0
AddsBlock (One t) old new = (b : ReportBlock) × (new ≡ old ++ b ∷ []) × TellsOf t b
AddsBlock (Other p) old new = new ≡ old
