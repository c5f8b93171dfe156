-- What holds of a front and a carrier that belong together: what the origin inside took, with what waits, is
-- the head of the request with its framing line, and behind it the frames of a front of the request lines'
-- work on what was read of the body (RFC 9112, sections 6 and 7.1; Developer's Guide, "Transformations").
use Rattle.std.specs.Prelude.{◌≡◌, ℕ, ◌+◌, ◌*◌, ◌≤◌, ◌⊎◌, List, [], ◌++◌, length, Bool, true, false, Option}
use Rattle.std.specs.Prelude.{Some, None, ⊤}
use Rattle.ts_config.specs.declared.setup.TransformLine.{TransformLine}
use Rattle.ts_link.specs.Link.{Look}
use Rattle.ts_link.specs.declared.link.Link as link
use Rattle.ts_passing.specs.Lines.{ActsAsLines, lines_length, passes}
use Rattle.ts_transform.specs.declared.transform.Transform as transform
use Rattle.ts_upstream.specs.declared.upstream.Upstream as upstream
use Rattle.ts_wire.specs.Limits.{framing_limit}
use Rattle.ts_wire.specs.Printed.{framing_line}
use Rattle.ts_wire.specs.declared.framing.Framing.{Framing}
use Rattle.ts_request.specs.BodyWay.{Writes, end_cost, mode_said, pass_cost, passage_left, to_come, to_read}
use Rattle.ts_request.specs.BodyWay.{write_cost}
use Rattle.ts_request.specs.Carrying.{request_lines}
use Rattle.ts_request.specs.Front.{FrontSeen, body_given, body_most}
use Rattle.ts_request.specs.Sent.{RefusesUpload, sent_framing, sent_head}
use Rattle.ts_request.specs.Upload.{LacksUpload}
use Rattle.ts_request.specs.declared.carrier.Carrier.{Carrier}
use Rattle.ts_request.specs.declared.carrier.HeadState.{HeadState}
use Rattle.ts_request.specs.declared.carrier.HeadState.TheVariants as H
use Rattle.ts_request.specs.declared.carrier.TheConstants.{MOST_HELD}
use Rattle.ts_request.specs.declared.passage.Passage.{Passage}
use Rattle.ts_request.specs.declared.stage.Stage.TheVariants as S

-- what a carrier refuses of a client: an upload of the kind that is refused, and what its origin refuses
abbrev pub CarrierRefuses : {O P : Type 0} → (O → List ℕ → Type 0) → Carrier O P → List ℕ → Type 0
CarrierRefuses refuses c list = RefusesUpload (request_lines c) list ⊎ refuses c.origin list

-- ---- words of the two links

-- the client's source
abbrev pub source_of : {C : Type 0} → (C → Look) → FrontSeen C → List ℕ
source_of look f = (look f.client).source

-- what was handed over of its upload
abbrev pub handed_of : {C : Type 0} → (C → Look) → FrontSeen C → List ℕ
handed_of look f = body_given f.text (look f.client)

-- what the origin inside took, and what waits for it
abbrev pub all_sent : {O P : Type 0} → (O → Look) → Carrier O P → List ℕ
all_sent look c = (look c.origin).taken ++ c.out

-- what an upload of the origin's own wrote
abbrev pub own_of : {O P : Type 0} → (O → Look) → Carrier O P → List ℕ
own_of look c = (look c.origin).carried

-- of what goes to the origin, so many bytes are a head, this is the head as it goes there, and this comes
-- behind it
pub record StandsFirst {O P : Type 0} (look : O → Look) (len : ℕ) (sent : List ℕ → List ℕ) (behind : List ℕ)
    (c : Carrier O P) : Type 0 where
  pub head : List ℕ
  pub long : length head ≡ len
  pub text : all_sent look c ≡ sent head ++ behind

-- the body's end was framed, if there is a body
abbrev pub IsEnded : {P : Type 0} → Option (Passage P) → Type 0
IsEnded None = ⊤
IsEnded (Some p) = p.ended ≡ true

-- ---- how much upload is left

-- what a passage that sets out has to do at most
abbrev pub fresh_left : List TransformLine → ℕ
fresh_left lines = pass_cost * passes lines (lines_length lines + 3) + end_cost + 1

-- as long as the head is held, the room that all of it may need
abbrev pub held_left : List TransformLine → ℕ → ℕ
held_left lines most =
    write_cost * (MOST_HELD + framing_limit) + 2 + (to_read lines most 0 + fresh_left lines)

-- of the body's way, if it has one
abbrev pub way_left : {P : Type 0} → List TransformLine → (P → List ℕ → List ℕ) → ℕ → ℕ → Option (Passage P)
    → ℕ
way_left lines rest most held None = 0
way_left lines rest most held (Some p) = to_read lines most held + passage_left rest p

abbrev pub work_left : {O P : Type 0} → (P → List ℕ → List ℕ) → ℕ → HeadState → Carrier O P → ℕ
work_left rest most H.Held c = held_left (request_lines c) most
work_left rest most (H.Sent len line) c =
    write_cost * length c.out + (to_come c.asked + to_come c.over)
    + way_left (request_lines c) rest most (length c.inbox) c.passage

-- what a carrier has left, of whose body at most so many bytes are still to be read
abbrev pub carrier_work : {O P : Type 0} → (P → List ℕ → List ℕ) → ℕ → Carrier O P → ℕ
carrier_work rest most c = work_left rest most c.head c

-- with what the origin inside has left, where both links tell
abbrev pub left_if : Bool → Bool → Option ℕ → ℕ → Option ℕ
left_if true true (Some k) n = Some (k + n)
left_if true true None n = None
left_if true false inside n = None
left_if false origin inside n = None

-- ---- the pair

module _ {C O P : Type 0} (client : link.Ghosts C) (origin : link.Ghosts O) (inner : upstream.Ghosts O C)
    (stage : transform.Ghosts P TransformLine) where
  abbrev pub carrier_left : FrontSeen C → Carrier O P → Option ℕ
  carrier_left f c =
      left_if client.tells origin.tells (inner.upload_left f.client c.origin)
      (carrier_work stage.rest (body_most f.text (client.look f.client)) c)

  -- The head is held: nothing was sent, and nothing read of a body.
  pub record HoldsBack (f : FrontSeen C) (c : Carrier O P) : Type 0 where
    pub passage : c.passage ≡ None
    pub inbox : c.inbox ≡ []
    pub asked : c.asked ≡ false
    pub over : c.over ≡ false
    pub few : length c.out ≤ MOST_HELD
    pub handed : client.tells ≡ true → handed_of client.look f ≡ []
    pub taken : origin.tells ≡ true → (origin.look c.origin).taken ≡ []
    pub own : origin.tells ≡ true → own_of origin.look c ≡ []

  -- The request has no upload, and its head goes on as it was written.
  pub record SendsPlain (len line : ℕ) (f : FrontSeen C) (c : Carrier O P) : Type 0 where
    pub line_is : line ≡ 0
    pub lacks : client.tells ≡ true → LacksUpload (source_of client.look f)
    pub stands : origin.tells ≡ true → StandsFirst origin.look len (λ head. head) (own_of origin.look c) c

  -- It has one, whose body goes on so.
  pub record SendsBody (len line : ℕ) (p : Passage P) (f : FrontSeen C) (c : Carrier O P) : Type 0 where
    pub framing : Framing
    pub uploading : f.text.stage ≡ S.Uploading framing
    pub line_is : line ≡ length (framing_line (sent_framing framing (request_lines c)))
    pub mode_is : p.mode ≡ mode_said (sent_framing framing (request_lines c))
    pub fed : List ℕ
    pub read : List ℕ
    pub text : List ℕ
    pub came : client.tells ≡ true → handed_of client.look f ≡ fed ++ c.inbox
    pub writes : Writes stage (request_lines c) framing fed read text p
    pub before : c.asked ≡ false → text ≡ []
    pub stands : origin.tells ≡ true
        → StandsFirst origin.look len (sent_head framing (request_lines c)) (own_of origin.look c ++ text) c

  abbrev pub WayBy : HeadState → Option (Passage P) → FrontSeen C → Carrier O P → Type 0
  WayBy H.Held p f c = HoldsBack f c
  WayBy (H.Sent len line) None f c = SendsPlain len line f c
  WayBy (H.Sent len line) (Some p) f c = SendsBody len line p f c

  -- The upload is done: the origin's own is, all was sent, and it is not refused.
  pub record IsDone (f : FrontSeen C) (c : Carrier O P) : Type 0 where
    pub asked : c.asked ≡ true
    pub sent : c.out ≡ []
    pub ended : IsEnded c.passage
    pub accepts : client.tells ≡ true → CarrierRefuses inner.refuses c (source_of client.look f) → ⊥

  -- They belong together.
  pub record CarrierPair (f : FrontSeen C) (c : Carrier O P) : Type 0 where
    pub inside : inner.paired f.client c.origin
    pub acts : ActsAsLines stage
    pub way : WayBy c.head c.passage f c
    pub own_done : c.asked ≡ true → client.tells ≡ true → inner.refuses c.origin (source_of client.look f) → ⊥
    pub done : c.over ≡ true → IsDone f c
