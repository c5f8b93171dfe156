-- What a carrier's origin took of a request: its head with the framing line, and behind it the frames of a
-- front of the request lines' work on the body; and all of it once the upload is done (RFC 9112, sections 6
-- and 7.1).
use Rattle.std.specs.Prelude.{◌≡◌, ℕ, ◌++◌, ◌⊎◌, List, [], Bool, true, false, All, Option, Some, None, ⊤}
use Rattle.std.specs.Prelude.{if◌then◌else◌}
use Rattle.ts_config.specs.declared.setup.TransformLine.{TransformLine}
use Rattle.ts_config.specs.Bodies.{compose_lines, is_early}
use Rattle.ts_config.specs.declared.setup.Setup.{Setup}
use Rattle.ts_link.specs.declared.link.Link as link
use Rattle.ts_passing.specs.Lines.{ActsAsLines}
use Rattle.ts_transform.specs.declared.transform.Transform as transform
use Rattle.ts_upstream.specs.declared.upstream.Upstream as upstream
use Rattle.ts_wire.specs.declared.body.BodyState.{BodyState}
use Rattle.ts_wire.specs.declared.body.BodyState.TheVariants as B
use Rattle.ts_wire.specs.declared.framing.Framing.{Framing}
use Rattle.ts_wire.specs.Body.{BodyOf}
use Rattle.ts_wire.specs.declared.frames.Mode.{Mode}
use Rattle.ts_wire.specs.Frames.{IsPiece, cut_body, frames}
use Rattle.ts_request.specs.BodyWay.{IsFrontOfWork, IsWholeWork, mode_said}
use Rattle.ts_request.specs.Carrying.{IsFreshCarrier, carrier_look, request_lines}
use Rattle.ts_request.specs.Front.{FrontSeen, fresh_front}
use Rattle.ts_request.specs.Pairing.{CarrierPair, all_sent, handed_of, own_of, source_of}
use Rattle.ts_request.specs.Sent.{sent_framing, sent_head}
use Rattle.ts_request.specs.Upload.{LacksUpload}
use Rattle.ts_request.specs.declared.carrier.Carrier.{Carrier}
use Rattle.ts_request.specs.declared.carrier.HeadState.TheVariants as H
use Rattle.ts_request.specs.declared.passage.Passage.{Passage}
use Rattle.ts_request.specs.declared.stage.Stage.TheVariants as S

-- the frames of these pieces behind the head, as they go to an origin
abbrev pub upload_text : Framing → List TransformLine → List ℕ → List (List ℕ) → Bool → List ℕ
upload_text framing lines head pieces fin =
    sent_head framing lines head ++ frames (mode_said (sent_framing framing lines)) pieces fin

-- The body was sent whole: it has ended, or a line finished early, whatever of it still comes.
pub record IsDelivered (lines : List TransformLine) (framing : Framing) (head read : List ℕ)
    (state : BodyState) (pieces : List (List ℕ)) (taken : List ℕ) : Type 0 where
  pub text : taken ≡ upload_text framing lines head pieces true
  pub whole : cut_body pieces ≡ compose_lines lines read
  pub over : (state ≡ B.Ended) ⊎ ((more : List ℕ) → is_early lines (read ++ more) ≡ true)

-- Of a body that is framed so and of which so much came, so much was read; and what was taken, with what waits
-- to be, is the head and the frames of pieces, which are a front of the lines' work: on what was read, once it
-- has ended, and before that on whatever begins with it. The frames have their end only where the pieces are
-- the whole work. Where the upload is over, all of it was taken.
pub record CarriesUpload (lines : List TransformLine) (framing : Framing) (head taken out : List ℕ)
    (over : Bool) (came : List ℕ → Type 0) : Type 0 where
  pub fed : List ℕ
  pub waits : List ℕ
  pub came_is : came (fed ++ waits)
  pub read : List ℕ
  pub state : BodyState
  pub body : BodyOf framing fed read state
  pub pieces : List (List ℕ)
  pub each : All IsPiece pieces
  pub fin : Bool
  pub took : taken ++ out ≡ upload_text framing lines head pieces fin
  pub ended : Bool
  pub ends : ended ≡ true → state ≡ B.Ended
  pub front : IsFrontOfWork lines ended read (cut_body pieces)
  pub closes : fin ≡ true → IsWholeWork lines ended read (cut_body pieces)
  pub whole : over ≡ true → IsDelivered lines framing head read state pieces taken

module _ {C O P : Type 0} (client : link.Ghosts C) (origin : link.Ghosts O) where
  -- what the origin inside took of a request with this head, and what waits for it
  pub data Took (f : FrontSeen C) (c : Carrier O P) (head : List ℕ) : Type 0 where
    -- nothing: the head is held
    held : c.head ≡ H.Held → (origin.look c.origin).taken ≡ [] → c.over ≡ false → Took f c head
    -- of one that has no upload, the head
    plain : (client.tells ≡ true → LacksUpload (source_of client.look f)) → all_sent origin.look c ≡ head
        → (c.over ≡ true → (origin.look c.origin).taken ≡ head) → Took f c head
    -- of one that has one, the head with its framing line, and frames of the body
    upload : (framing : Framing) → f.text.stage ≡ S.Uploading framing
        → CarriesUpload (request_lines c) framing head (origin.look c.origin).taken c.out c.over
        (λ came. client.tells ≡ true → handed_of client.look f ≡ came) → Took f c head

  -- The carrier tells this head, with what its upload wrote behind it, and that is what its origin took so.
  pub record Delivers (f : FrontSeen C) (c : Carrier O P) : Type 0 where
    pub head : List ℕ
    pub told : (carrier_look origin.tells origin.look c).taken
        ≡ head ++ (carrier_look origin.tells origin.look c).carried
    pub took : Took f c head

  -- What holds of every front and carrier that belong together, where the origin inside tells and moved no
  -- upload of its own.
  abbrev pub DeliversIfPaired : (inner : upstream.Ghosts O C) → transform.Ghosts P TransformLine → FrontSeen C
      → Carrier O P → Type 0
  DeliversIfPaired inner stage f c =
      CarrierPair client origin inner stage f c → origin.tells ≡ true → own_of origin.look c ≡ []
      → Delivers f c

module _ {C O P : Type 0} (client : link.Ghosts C) (origin : link.Ghosts O) (inner : upstream.Ghosts O C)
    (stage : transform.Ghosts P TransformLine) where
  -- A front and a carrier of which no call was made belong together, where the two links inside do, and the
  -- origin took nothing.
  abbrev pub PairsIfFresh : FrontSeen C → Carrier O P → Type 0
  PairsIfFresh f c =
      (l : C) (o : O) (setup : Setup) → f ≡ fresh_front l → IsFreshCarrier o setup c → inner.paired l o
      → ActsAsLines stage
      → (origin.tells ≡ true → ((origin.look o).taken ≡ []) × ((origin.look o).carried ≡ []))
      → CarrierPair client origin inner stage f c

-- ---- how a body stands at the origin

-- the way of a body frames its pieces so
abbrev pub mode_of : {P : Type 0} → Option (Passage P) → Option Mode
mode_of None = None
mode_of (Some p) = Some p.mode

-- how the body of an upload stands behind the head at the origin, once it was delivered whole; nothing before
-- that, and where there is no upload
abbrev pub upload_mode_of : {O P : Type 0} → Carrier O P → Option Mode
upload_mode_of c = if c.over then mode_of c.passage else None

-- the same of the carrier of a transaction, if it has one
abbrev pub upload_mode : {O P : Type 0} → Option (Carrier O P) → Option Mode
upload_mode None = None
upload_mode (Some c) = upload_mode_of c

-- nothing waits for the origin of a transaction, if it has one
abbrev pub IsSent : {O P : Type 0} → Option (Carrier O P) → Type 0
IsSent None = ⊤
IsSent (Some c) = c.out ≡ []
