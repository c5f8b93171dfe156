-- What one call on a side of a transaction moves, and which head it finds at the front of what came.
use Rattle.std.specs.Prelude.{◌≡◌, ℕ, ◌<◌, ◌≤◌, ◌++◌, List, [], ◌∷◌, length, Bool, true, Option}
use Rattle.ts_vconn.specs.Moves.{PullsOn, Pushes}
use Rattle.ts_vconn.specs.declared.moves.Pulled.{Pulled}
use Rattle.ts_vconn.specs.declared.moves.Pushed.{Pushed}
use Rattle.ts_vconn.specs.declared.moves.TheConstants.{MOST_PULLED}
use Rattle.ts_upstream.specs.declared.upstream.Uploaded.{Uploaded}
use Rattle.ts_upstream.specs.Uploads.{UploadCauses, UploadFalls, UploadKeeps, Uploads, both}
use Rattle.ts_wire.specs.declared.frames.Mode.TheVariants as M
use Rattle.ts_wire.specs.declared.heads.RequestHead.{RequestHead}
use Rattle.ts_wire.specs.declared.heads.ResponseHead.{ResponseHead}
use Rattle.ts_wire.specs.Limits.{head_limit}
use Rattle.ts_wire.specs.Heads.{LacksRequest, LacksResponse}
use Rattle.ts_block.specs.Heads.{HasRequest, HasResponse}
use Rattle.ts_link.specs.Link.{Look}
use Rattle.ts_phases.specs.View.{GoesIf, LinkSide, View, is_dialed, side_if}
use Rattle.ts_phases.specs.declared.parts.Peer.{Peer}
use Rattle.ts_phases.specs.declared.head_reader.Found.{Found}
use Rattle.ts_phases.specs.declared.head_reader.Found.TheVariants as F

-- one read of the link, behind what came before
pub record SideReads (tells : Bool) (old new : LinkSide) (answer : Pulled) : Type 0 where
  pub most : ℕ
  pub few : most ≤ MOST_PULLED
  pub pulls : PullsOn tells old.look new.look old.inbox new.inbox answer most
  pub base : new.base ≡ old.base
  pub outbox : new.outbox ≡ old.outbox

-- one write of what waits for the link
pub record SideWrites (tells : Bool) (old new : LinkSide) (answer : Pushed) : Type 0 where
  pub pushes : Pushes tells old.look new.look answer old.outbox new.outbox
  pub base : new.base ≡ old.base
  pub inbox : new.inbox ≡ old.inbox

-- the same on the client's side of a transaction, and on the origin's
pub record WritesClient (tells : Bool) (v w : View) (answer : Pushed) : Type 0 where
  pub client : SideWrites tells v.client w.client answer
  pub others : w ≡ record v { client = w.client }

pub record WritesOrigin (tells : Bool) (v w : View) (answer : Pushed) : Type 0 where
  pub origin : SideWrites tells v.origin w.origin answer
  pub others : w ≡ record v { origin = w.origin }

-- the lengths of the pieces of a body that is sent in one
abbrev pub cuts_of : List ℕ → List ℕ
cuts_of [] = []
cuts_of (b ∷ bs) = length (b ∷ bs) ∷ []

-- Some of the upload of a request was moved, by calls that are made on the two links alone.
pub record MovesBoth (ctells otells : Bool) (refuses : List ℕ → Type 0) (answer : Uploaded) (c d : Look)
    (o p : LinkSide) : Type 0 where
  pub causes : UploadCauses ctells refuses answer c d o.look p.look
  pub bytes : Uploads ctells otells c d o.look p.look
  pub keeps : UploadKeeps c d o.look p.look
  pub others : p ≡ record o { look = p.look }

pub record MovesUpload (ctells otells : Bool) (refuses : List ℕ → Type 0) (answer : Uploaded)
    (v w : View) : Type 0 where
  pub moves : MovesBoth ctells otells refuses answer v.client.look w.client.look v.origin w.origin
  pub others : w ≡ record v { client = record v.client { look = w.client.look }; origin = w.origin }

-- a text was queued for a link
abbrev pub QueuesOn : {L : Type 0} → (L → Look) → List ℕ → Option (Peer L) → Option (Peer L) → Type 0
QueuesOn look text old new =
    (is_dialed new ≡ is_dialed old) × GoesIf (λ k l. l ≡ k) old new
    × (side_if look new ≡ record (side_if look old) { outbox = (side_if look old).outbox ++ text })

-- What came of looking for a head at the front of what a link gave, which bytes have or lack as is said
-- here: a head is taken away from there; none can come; or none is there yet, and one read was made, to no
-- more than the most that a head is long.
abbrev pub Seeks : {H : Type 0} → (List ℕ → H → List ℕ → Type 0) → (List ℕ → Type 0)
    → Bool → LinkSide → LinkSide → Found H → Type 0
Seeks has lacks tells old new (F.Head head) =
    has old.inbox head new.inbox × (length new.inbox < length old.inbox)
    × (new ≡ record old { inbox = new.inbox })
Seeks has lacks tells old new F.Never = ((more : List ℕ) → lacks (old.inbox ++ more)) × (new ≡ old)
Seeks has lacks tells old new (F.Read answer) =
    lacks old.inbox × SideReads tells old new answer × (length new.inbox ≤ head_limit)
Seeks has lacks tells old new F.NoMemory = new ≡ old

-- the head of a request was looked for on the client's side of a transaction, that of a response on the
-- origin's
pub record SeeksRequest (tells : Bool) (v w : View) (found : Found RequestHead) : Type 0 where
  pub finds : Seeks HasRequest LacksRequest tells v.client w.client found
  pub others : w ≡ record v { client = w.client }

pub record SeeksResponse (tells : Bool) (v w : View) (found : Found ResponseHead) : Type 0 where
  pub finds : Seeks HasResponse LacksResponse tells v.origin w.origin found
  pub others : w ≡ record v { origin = w.origin }

-- the head of a request was queued for the origin
abbrev pub QueuesRequest : List ℕ → View → View → Type 0
QueuesRequest text v w = w ≡ record v { origin = record v.origin { outbox = v.origin.outbox ++ text } }

-- a head was queued for the client, with a body of one piece, if that is not empty
pub record QueuesOwn (head body : List ℕ) (v w : View) : Type 0 where
  pub client : w.client ≡ record v.client { outbox = v.client.outbox ++ (head ++ body) }
  pub dialed : w.dialed ≡ v.dialed
  pub origin : w.origin ≡ v.origin
  pub head_is : w.sent.head ≡ length head
  pub plain : w.sent.mode ≡ M.Plain
  pub cuts : w.sent.cuts.items ≡ cuts_of body

-- what an upload lowered of what is left: of the upload, and of the Again answers of both links
abbrev pub LowersUpload : Uploaded → Option ℕ → Option ℕ → View → View → Type 0
LowersUpload answer left left_then v w = UploadFalls answer left left_then
    (both v.client.look.agains v.origin.look.agains) (both w.client.look.agains w.origin.look.agains)
