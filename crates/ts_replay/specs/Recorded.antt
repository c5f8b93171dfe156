-- The row of a replay: its groups with the tags of their slots, and what is to hold of each.
use Rattle.std.specs.List.{AllByRecursion}
use Rattle.std.specs.Prelude.{◌≡◌, ◌≤◌, ℕ, List, Bool, true, false, Option, None, Some, ⊤}
use Rattle.ts_block.specs.Sent.{HasPlainRules}
use Rattle.ts_config.specs.Reading.{AreFew}
use Rattle.ts_config.specs.Setup.{lines_of}
use Rattle.ts_config.specs.declared.setup.Setup.{Setup}
use Rattle.ts_exchange.specs.Ends.{Ends}
use Rattle.ts_exchange.specs.Rows as rows
use Rattle.ts_exchange.specs.declared.exchange.Promise.{Promise}
use Rattle.ts_group.specs.Either.{OfBoth}
use Rattle.ts_group.specs.declared.action.Named.{Named}
use Rattle.ts_group.specs.declared.either.EitherTag.TheVariants as kind
use Rattle.ts_journal.specs.State.{State}
use Rattle.ts_journal.specs.declared.entry.Pending.{Pending}
use Rattle.ts_layers.specs.Layers.{IsLayeredTag}
use Rattle.ts_layers.specs.Links.{Carried, ClientEnd, OriginEnd, carried_link, carried_origin, client_link}
use Rattle.ts_layers.specs.Links.{origin_link, origin_uploads, watched_link}
use Rattle.ts_link.specs.Link.{Look}
use Rattle.ts_link.specs.MemLink.{LinkState}
use Rattle.ts_link.specs.declared.link.Link as link
use Rattle.ts_plugin.specs.Lines.{AreOrdered}
use Rattle.ts_record.specs.Grammar.{TxnPieces}
use Rattle.ts_record.specs.Links.{recorded_side}
use Rattle.ts_replay.specs.Members.{HookPlugin, Member, Transaction}
use Rattle.ts_stock.specs.StockTransform.{stock_transform}
use Rattle.ts_stock.specs.declared.stock.State.{State as StockState}
use Rattle.ts_tap.specs.declared.watched.Watched.{Watched}
use Rattle.ts_txn.specs.World.{HasTxnBegun, IsSoundTxn, IsTxnOf}
use Rattle.ts_txn.specs.declared.txn.Txn.{Txn}
use Rattle.ts_txn.specs.declared.txn.TxnTag.{TxnTag}
use Rattle.ts_upstream.specs.InMemory.{memory_link}
use Rattle.ts_upstream.specs.Uploads.{MovesNothing}
use Rattle.ts_upstream.specs.declared.upstream.Upstream as upstream

-- the client of a recorded transaction and its origin, each a recorded side with its layers over it
abbrev pub RecordedFront : Type 0
RecordedFront = ClientEnd LinkState

abbrev pub RecordedCarrier : Type 0
RecordedCarrier = OriginEnd LinkState StockState

-- a transaction between two recorded sides with their layers, both of whose bodies go through stock
-- transforms, and the tag of its slot
abbrev pub Recorded : Type 0
Recorded = Txn RecordedFront RecordedCarrier StockState

abbrev pub RecordedTag : Type 0
RecordedTag = TxnTag RecordedFront RecordedCarrier

-- the world of a group in the row: a transaction or a hook plugin
abbrev pub RowWorld : Type 0
RowWorld = rows.RowWorld RecordedFront RecordedCarrier StockState

abbrev pub RowTag : Type 0
RowTag = rows.RowTag RecordedFront RecordedCarrier

abbrev pub RowGroup : Type 0
RowGroup = rows.RowGroup RecordedFront RecordedCarrier StockState

-- a setup has no more lines than a configuration, its header rules leave alone what the proxy sees to
-- itself, and its plugin lines stand in the order in which they act
pub record HasPlainLines (setup : Setup) : Type 0 where
  pub few : AreFew (lines_of setup)
  pub plain : HasPlainRules setup
  pub ordered : AreOrdered setup.plugins.items

-- a client that leaves takes at least one byte before
abbrev pub TakesSome : Option ℕ → Type 0
TakesSome None = ⊤
TakesSome (Some most) = 1 ≤ most

-- the clients of these transactions do
abbrev pub AllTakeSome : List TxnPieces → Type 0
AllTakeSome txns = AllByRecursion (λ txn. TakesSome txn.leave) txns

-- ---- the tags

-- the transaction of this number is made between sides that give these pieces, with their stalls, and asks
-- plugins in the groups from `at` on
abbrev pub recorded_ends : Setup → ℕ → ℕ → TxnPieces → Ends LinkState LinkState
recorded_ends setup at number txn = record {
  number = number;
  setup = setup;
  plugins_at = at;
  client = recorded_side txn.client txn.leave;
  origin = Some (recorded_side txn.origin None);
}

-- no call of its links fails or waits by its number, and its slot had no other tenant
abbrev pub recorded_promise : Promise
recorded_promise = record { is_sure = true; is_first = true }

-- The tag is that of this transaction, which was started or not, whose origin's end keeps what is taken in
-- the origin's place, and whose client takes at least one byte before it leaves, if it does.
pub record IsTagOf (setup : Setup) (at number : ℕ) (txn : TxnPieces) (started : Bool)
    (tag : RecordedTag) : Type 0 where
  pub between : IsLayeredTag (recorded_ends setup at number txn) true recorded_promise started tag
  pub takes_some : TakesSome txn.leave

-- the tag is that of a member of the row, of a transaction that was not started
abbrev pub IsNewTagOf : Setup → ℕ → Member → RowTag → Type 0
IsNewTagOf setup at (Transaction number txn) (kind.One t) = IsTagOf setup at number txn false t
IsNewTagOf setup at (Transaction number txn) (kind.Other p) = ⊥
IsNewTagOf setup at (HookPlugin line) (kind.One t) = ⊥
IsNewTagOf setup at (HookPlugin line) (kind.Other p) = p.line.value ≡ line

-- ---- what is to hold

-- a recorded side as the link to an origin, which refuses no upload of its own and has none left
abbrev pub recorded_origin : upstream.Ghosts LinkState LinkState
recorded_origin = record {
  paired = λ c o. ⊤;
  one_upload = MovesNothing;
  refuses = λ o list. false ≡ true;
  upload_left = λ c o. Some 0;
}

-- what the front of a recorded transaction is over, and its carrier, and the uploads between these two
abbrev pub recorded_client : link.Ghosts (Watched LinkState)
recorded_client = watched_link memory_link

abbrev pub seen_client : Watched LinkState → Look
seen_client = recorded_client.look

abbrev pub recorded_link : link.Ghosts (Carried LinkState)
recorded_link = carried_link memory_link

abbrev pub seen_carried : Carried LinkState → Look
seen_carried = recorded_link.look

abbrev pub recorded_uploads : upstream.Ghosts (Carried LinkState) (Watched LinkState)
recorded_uploads = carried_origin memory_link recorded_origin

-- the two links of a recorded transaction with their layers, and the uploads between them
abbrev pub layered_client : link.Ghosts RecordedFront
layered_client = client_link memory_link

abbrev pub layered_link : link.Ghosts RecordedCarrier
layered_link = origin_link memory_link

abbrev pub layered_origin : upstream.Ghosts RecordedCarrier RecordedFront
layered_origin = origin_uploads memory_link memory_link recorded_origin stock_transform

-- the transaction is the one that the tag names
abbrev pub IsOfTag : RecordedTag → Recorded → Type 0
IsOfTag = IsTxnOf layered_client layered_link

-- what is to hold of it holds, where these events are pending and this event number is next
abbrev pub IsSoundWith : Recorded → List Pending → ℕ → List Named → Type 0
IsSoundWith t pending next roles =
    IsSoundTxn layered_client layered_link layered_origin stock_transform t pending next roles

-- and in a journal's state
abbrev pub IsSoundRecorded : Recorded → State → List Named → Type 0
IsSoundRecorded t s roles = IsSoundWith t s.pending s.next roles

-- the world is the one that the tag names: that transaction, or the plugin of that line
abbrev pub IsOfRowTag : RowTag → RowWorld → Type 0
IsOfRowTag = rows.FitsRow layered_client layered_link layered_origin stock_transform

-- what is to hold of it holds in a journal's state
abbrev pub IsSoundRow : RowWorld → State → List Named → Type 0
IsSoundRow = rows.IsSoundRow layered_client layered_link layered_origin stock_transform

-- a transaction was started, and a plugin stays as it is
abbrev pub HasRowBegun : RowWorld → RowWorld → Type 0
HasRowBegun = OfBoth HasTxnBegun (λ old new. new ≡ old)

-- its group fits the tag
abbrev pub FitsIn : RowTag → RowGroup → Type 0
FitsIn = rows.FitsIn layered_client layered_link layered_origin stock_transform

-- groups fit tags, each the tag at its place
abbrev pub FitInRow : List RowTag → List RowGroup → Type 0
FitInRow = rows.FitInRow layered_client layered_link layered_origin stock_transform
