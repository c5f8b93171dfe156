-- The steps of an upload: when each comes, and what it leaves.
use Rattle.std.specs.Prelude.{◌≡◌, ℕ, ◌++◌, List, take}
use Rattle.ts_config.specs.declared.setup.TransformLine.{TransformLine}
use Rattle.ts_link.specs.Link.{NoMore}
use Rattle.ts_link.specs.LinkAnswers.{count_got}
use Rattle.ts_link.specs.declared.link.Got.{Got}
use Rattle.ts_link.specs.declared.link.Link as link
use Rattle.ts_transform.specs.declared.transform.Transform as transform
use Rattle.ts_upstream.specs.declared.upstream.Uploaded.{Uploaded}
use Rattle.ts_upstream.specs.declared.upstream.Upstream as upstream
use Rattle.ts_wire.specs.declared.framing.Framing.{Framing}
use Rattle.ts_request.specs.Carried.{UploadsStep}
use Rattle.ts_request.specs.Carrying.{carrier_look}
use Rattle.ts_request.specs.Front.{FrontSeen, ReadsBody}
use Rattle.ts_request.specs.Pairing.{CarrierPair, carrier_left}
use Rattle.ts_request.specs.PassageSteps.{IsNextBy}
use Rattle.ts_request.specs.declared.carrier.Carrier.{Carrier}
use Rattle.ts_request.specs.declared.carrier.HeadState.{HeadState}
use Rattle.ts_request.specs.declared.carrier.HeadState.TheVariants as H
use Rattle.ts_request.specs.declared.passage.Next.{Next}
use Rattle.ts_request.specs.declared.stage.Stage.TheVariants as S

-- the upload has begun
abbrev pub IsBegun : HeadState → Type 0
IsBegun head = (len : ℕ) × (line : ℕ) × (head ≡ H.Sent len line)

-- what comes next of the body that a carrier has
abbrev pub IsNextOf : {O P : Type 0} → Carrier O P → Next → Type 0
IsNextOf c next = IsNextBy c.passage c.inbox next

module _ {C O P : Type 0} (client : link.Ghosts C) (origin : link.Ghosts O) (inner : upstream.Ghosts O C)
    (stage : transform.Ghosts P TransformLine) where
  -- a step of the carrier alone, whatever front belongs to it
  abbrev pub StepsWith : Uploaded → Carrier O P → Carrier O P → Type 0
  StepsWith answer c d = (f : FrontSeen C) → CarrierPair client origin inner stage f c
      → UploadsStep client origin inner stage answer f f c d

  -- The upload begins: what is seen stays, the front and the carrier still belong together, and no more is
  -- left.
  pub record Begins (f : FrontSeen C) (c d : Carrier O P) : Type 0 where
    pub begun : IsBegun d.head
    pub pair : CarrierPair client origin inner stage f d
    pub look : carrier_look origin.tells origin.look d ≡ carrier_look origin.tells origin.look c
    pub origin_is : d.origin ≡ c.origin
    pub setup : d.setup ≡ c.setup
    pub left : NoMore (carrier_left client origin inner stage f c)
        (carrier_left client origin inner stage f d)

module _ {C O P : Type 0} (client : link.Ghosts C) (origin : link.Ghosts O) (inner : upstream.Ghosts O C)
    (stage : transform.Ghosts P TransformLine) where
  -- the same, whatever front belongs to the carrier that has found an upload with this framing
  abbrev pub BeginsWith : Framing → Carrier O P → Carrier O P → Type 0
  BeginsWith framing c d = (f : FrontSeen C) → CarrierPair client origin inner stage f c
      → f.text.stage ≡ S.Uploading framing → Begins client origin inner stage f c d

-- One read of the body came behind what waits.
pub record ReadsOn {C : Type 0} (client : link.Ghosts C) (f g : FrontSeen C) (before after : List ℕ)
    (answer : Got) : Type 0 where
  pub into : List ℕ
  pub grows : after ≡ before ++ take (count_got answer) into
  pub reads : ReadsBody client.tells f.text g.text (client.look f.client) (client.look g.client) answer into
  pub goes : client.goes f.client g.client
  pub front : g ≡ record f { client = g.client; text = g.text }
