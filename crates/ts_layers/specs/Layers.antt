-- A transaction between plain links, with the layers over its two ends: how they are put on, and what is left
-- of each where they are taken off (RFC 9112, section 6; Developer's Guide, "Transformations" and
-- "Intercepting HTTP Transactions").
use Rattle.std.specs.Prelude.{◌≡◌, ◌≢◌, ◌↔◌, ℕ, List, [], Bool, true, false, Option, Some, None, IsTrue}
use Rattle.std.specs.Prelude.{IfSome, Vec, is_some, ⊤}
use Rattle.std.specs.Arc.{arc_value}
use Rattle.std.specs.Option.{option_map}
use Rattle.std.specs.declared.alloc.Global.{Global}
use Rattle.ts_config.specs.declared.setup.Setup.{Setup}
use Rattle.ts_config.specs.declared.setup.TransformLine.{TransformLine}
use Rattle.ts_intercept.specs.Answered.{Answered}
use Rattle.ts_intercept.specs.Seen.{inside}
use Rattle.ts_intercept.specs.Standing.{IsMadeOf, IsUnused, KeepsOrigin}
use Rattle.ts_intercept.specs.Uploading.{owed}
use Rattle.ts_journal.specs.State.{State}
use Rattle.ts_link.specs.Link.{IsSure, Look, NeverLeaves}
use Rattle.ts_link.specs.declared.link.Link as link
use Rattle.ts_request.specs.Carrying.{IsFreshCarrier}
use Rattle.ts_request.specs.Delivered.{DeliversIfPaired, upload_mode_of}
use Rattle.ts_request.specs.Front.{ShowsClient, fresh_front}
use Rattle.ts_request.specs.Pairing.{CarrierPair}
use Rattle.ts_request.specs.declared.stage.Stage.TheVariants as S
use Rattle.ts_tap.specs.Optional.{client_of, most_of}
use Rattle.ts_tap.specs.Sums.{SumsBody}
use Rattle.ts_tap.specs.declared.sum.Sum.{Sum}
use Rattle.ts_transform.specs.declared.transform.Transform as transform
use Rattle.ts_txn.specs.Making.{link_if}
use Rattle.ts_txn.specs.declared.making.TxnParts.{TxnParts}
use Rattle.ts_txn.specs.declared.txn.Txn.{Txn}
use Rattle.ts_txn.specs.declared.txn.TxnTag.{TxnTag}
use Rattle.ts_upstream.specs.declared.upstream.Upstream as upstream
use Rattle.ts_exchange.specs.Ends.{AreNewEnds, Ends, IsTagBetween}
use Rattle.ts_exchange.specs.Left.{Exchanges, IsApart, IsBetween}
use Rattle.ts_exchange.specs.declared.exchange.Promise.{Promise}
use Rattle.ts_layers.specs.Kept.{IsKept, KeepsNone, fresh_kept}
use Rattle.ts_layers.specs.Links.{ClientEnd, OriginEnd, carried_link, carried_origin, client_link}
use Rattle.ts_layers.specs.Links.{lifted_if, lifted_look, origin_link, origin_uploads, unlifted_if}
use Rattle.ts_layers.specs.Links.{watched_link, watched_look}
use Rattle.ts_layers.specs.declared.layers.PlainExchange.{PlainExchange}

-- ---- the layers are put on

-- the origin, if there is one, refuses no upload of its own
abbrev pub TakesUploads : {O : Type 0} → (O → List ℕ → Type 0) → Option O → Type 0
TakesUploads refuses None = ⊤
TakesUploads refuses (Some o) = (list : List ℕ) → refuses o list → ⊥

-- Layers may be put over these two links: they were not used and belong together, and the origin refuses no
-- upload of its own.
pub record MayBeLayered {C O : Type 0} (clients : link.Ghosts C) (origins : link.Ghosts O)
    (both : upstream.Ghosts O C) (client : C) (origin : Option O) : Type 0 where
  pub new : AreNewEnds clients origins both client origin
  pub takes : TakesUploads both.refuses origin

-- this is the end over a client under this setup, of which no call was made: its tap counts as many bytes as
-- the setup's tap line says, and there is none without such a line
pub record IsClientOver {C : Type 0} (setup : Setup) (client : C) (over : ClientEnd C) : Type 0 where
  pub fresh : over ≡ fresh_front over.client
  pub inside : client_of over.client ≡ client
  pub most : most_of over.client ≡ setup.tap

-- this is the end over an origin, if there is one, of which no call was made: its carrier and its link that
-- chooses have this setup, and it keeps what it takes, or does not
pub record IsOriginOver {O P : Type 0} (setup : Setup) (keeps : Bool) (origin : Option O)
    (over : OriginEnd O P) : Type 0 where
  pub carries : IsFreshCarrier over.origin setup over
  pub keeping : over.origin ≡ fresh_kept keeps over.origin.inner
  pub chooses : IsMadeOf (lifted_if origin) setup over.origin.inner

-- it is always there, also where no origin is
abbrev pub IsLayerOver : {O P : Type 0} → Setup → Bool → Option O → Option (OriginEnd O P) → Type 0
IsLayerOver setup keeps origin None = ⊥
IsLayerOver setup keeps origin (Some over) = IsOriginOver setup keeps origin over

-- these are the ends with the layers over them, of which no call was made
pub record AreLayersOver {C O P : Type 0} (ends : Ends C O) (keeps : Bool)
    (layered : Ends (ClientEnd C) (OriginEnd O P)) : Type 0 where
  pub number : layered.number ≡ ends.number
  pub setup : layered.setup ≡ ends.setup
  pub plugins_at : layered.plugins_at ≡ ends.plugins_at
  pub client : IsClientOver ends.setup ends.client layered.client
  pub origin : IsLayerOver ends.setup keeps ends.origin layered.origin

-- no call of the two links fails or waits by its number, and the origin never leaves
pub record AreSureLayers {C O : Type 0} (clook : C → Look) (olook : O → Look) (client : C) (origin : Option O)
    : Type 0 where
  pub sure : IsSure (clook client)
  pub sure_origin : (o : O) → origin ≡ Some o → IsSure (olook o) × NeverLeaves (olook o)

-- the tag is that of the transaction between these ends with their layers
pub record IsLayeredTag {C O P : Type 0} (ends : Ends C O) (keeps : Bool) (promise : Promise)
    (started : Bool) (tag : TxnTag (ClientEnd C) (OriginEnd O P)) : Type 0 where
  pub layered : Ends (ClientEnd C) (OriginEnd O P)
  pub over : AreLayersOver ends keeps layered
  pub tag_is : IsTagBetween layered promise started tag

-- an origin was handed in, of which this is the end
abbrev pub is_handed : {O P : Type 0} → Option (OriginEnd O P) → Bool
is_handed None = false
is_handed (Some over) = is_some over.origin.inner.handed.value

-- a transaction holds an origin that was handed in
abbrev pub holds_origin : {C O P Q : Type 0} → Txn C (OriginEnd O P) Q → Bool
holds_origin t = is_handed (link_if t.core.origin)

-- ---- and taken off

-- the origin inside, if there is one
abbrev pub origin_inside : {O P : Type 0} → Option (OriginEnd O P) → Option O
origin_inside None = None
origin_inside (Some over) = unlifted_if over.origin.inner.origin

-- the client and the origin inside, and all else as it is
pub record IsInside {C O P : Type 0} (parts : TxnParts (ClientEnd C) (OriginEnd O P)) (plain : TxnParts C O)
    : Type 0 where
  pub number : plain.number ≡ parts.number
  pub client : plain.client ≡ client_of parts.client.client
  pub origin : plain.origin ≡ origin_inside parts.origin
  pub head : plain.head ≡ parts.head
  pub mode : plain.mode ≡ parts.mode
  pub client_faults : plain.client_faults ≡ parts.client_faults
  pub origin_faults : plain.origin_faults ≡ parts.origin_faults
  pub cuts : plain.cuts ≡ parts.cuts
  pub end_is : plain.end ≡ parts.end

-- The sum of a client's tap: it counts at most as many bytes as this says, and sums up the body data of what
-- the client took. There is none where none was asked for.
pub record IsTapped {C : Type 0} (clients : link.Ghosts C) (most : Option ℕ) (client : C) (sum : Option Sum)
    : Type 0 where
  pub most_is : option_map (λ (s : Sum). s.most) sum ≡ most
  pub sums : clients.tells ≡ true → IfSome sum (SumsBody (clients.look client).taken)

-- What is left of the link that chooses: an origin where one was handed in, who answered, that the one handed
-- in was not used before, and that it still is so unless it was handed on to.
pub record HasChosen {O P : Type 0} (origins : link.Ghosts O) (over : OriginEnd O P) : Type 0 where
  pub there : is_some over.origin.inner.origin ≡ is_some over.origin.inner.handed.value
  pub answered : origins.tells ≡ true → Answered (lifted_look origins.look) over.origin.inner
  pub unused : origins.tells ≡ true
      → IsUnused (inside (lifted_look origins.look) over.origin.inner.handed.value)
  pub same : KeepsOrigin over.origin.inner

-- What was kept: it is all that was taken in the origin's place, where that was asked for, and else nothing.
pub record HasKept {O P : Type 0} (origins : link.Ghosts O) (taken : Option (Vec ℕ Global))
    (over : OriginEnd O P) : Type 0 where
  pub bytes : option_map (λ (v : Vec ℕ Global). v.items) taken ≡ Some over.origin.kept
  pub all : IsKept origins.tells over.origin.keeps ((carried_link origins).look over.origin) over.origin.kept
  pub none : KeepsNone over.origin.keeps over.origin.kept

-- It is the end over this origin, whatever was called on it: its request lines and its intercept lines are
-- those of the setup, it keeps what it takes, or does not, and this origin was handed in.
pub record StaysOver {O P : Type 0} (setup : Setup) (keeps : Bool) (origin : Option O) (over : OriginEnd O P)
    : Type 0 where
  pub carries : arc_value over.setup ≡ setup
  pub keeping : over.origin.keeps ≡ keeps
  pub chooses : arc_value over.origin.inner.setup ≡ setup
  pub handed : over.origin.inner.handed.value ≡ lifted_if origin

-- it is known what the front shows of its client, nothing waits for the origin in the carrier or in the link
-- that chooses, and that one was not read before a head was whole
pub record IsSettled {C O P : Type 0} (front : ClientEnd C) (over : OriginEnd O P) : Type 0 where
  pub known : front.text.stage ≢ S.Heading
  pub sent : over.out ≡ []
  pub handed_on : owed over.origin.inner ≡ []
  pub on_time : over.origin.inner.early ≡ false

-- the same of parts, where they have an origin's end
abbrev pub AreSettled : {C O P : Type 0} → ClientEnd C → Option (OriginEnd O P) → Type 0
AreSettled front None = ⊥
AreSettled front (Some over) = IsSettled front over

module _ {C O P : Type 0} (client : link.Ghosts C) (origin : link.Ghosts O) (inner : upstream.Ghosts O C)
    (stage : transform.Ghosts P TransformLine) where
  -- the two ends belong together
  abbrev pub EndsPair : ClientEnd C → OriginEnd O P → Type 0
  EndsPair front over =
      CarrierPair (watched_link client) (carried_link origin) (carried_origin origin inner) stage front over

  -- what was taken in the origin's place, where the two ends belong together
  abbrev pub EndsDeliver : ClientEnd C → OriginEnd O P → Type 0
  EndsDeliver front over =
      DeliversIfPaired (watched_link client) (carried_link origin) (carried_origin origin inner) stage front
      over

  -- It is the transaction between these ends with their layers, and what is to hold of it holds, where the
  -- journal of its group is in this state.
  pub record IsLayeredBetween (ends : Ends C O) (keeps started : Bool)
      (t : Txn (ClientEnd C) (OriginEnd O P) P) (s : State) : Type 0 where
    pub layered : Ends (ClientEnd C) (OriginEnd O P)
    pub over : AreLayersOver ends keeps layered
    pub between : IsBetween (client_link client) (origin_link origin)
        (origin_uploads client origin inner stage) stage layered started t s

  -- What is left of a transaction between these ends: it is left by one with the layers over them, of which
  -- holds what holds of a transaction, and each layer left what holds of it.
  pub record LayeredExchanges (ends : Ends C O) (keeps started : Bool) (s : State) (left : PlainExchange C O)
      : Type 0 where
    pub layered : Ends (ClientEnd C) (OriginEnd O P)
    pub over : AreLayersOver ends keeps layered
    pub shown : TxnParts (ClientEnd C) (OriginEnd O P)
    pub inside : IsInside shown left.parts
    pub exchanges : Exchanges (client_link client) (origin_link origin)
        (origin_uploads client origin inner stage) layered started s shown
    -- the origin's end is there, and is still the one that was made
    pub last : OriginEnd O P
    pub there : shown.origin ≡ Some last
    pub stays : StaysOver ends.setup keeps ends.origin last
    -- the front shows its client, and the carrier brought the upload so
    pub shows : client.tells ≡ true → ShowsClient (watched_look client.look) shown.client
    pub paired : EndsPair shown.client last
    pub carried : EndsDeliver shown.client last
    -- how its body stands behind the head there, where it was delivered whole
    pub upload : left.upload ≡ upload_mode_of last
    -- what was kept, who answered, and the tap
    pub kept : HasKept origin left.taken last
    pub chosen : HasChosen origin last
    pub tapped : IsTapped client ends.setup.tap left.parts.client left.sum
    pub settled : IsTrue left.settled ↔ IsSettled shown.client last

  -- A transaction between these ends was taken apart into this.
  pub record LeavesExchange (ends : Ends C O) (keeps started : Bool) (s : State)
      (t : Txn (ClientEnd C) (OriginEnd O P) P) (left : PlainExchange C O) : Type 0 where
    pub exchanges : LayeredExchanges ends keeps started s left
    pub apart : IsApart t exchanges.shown
