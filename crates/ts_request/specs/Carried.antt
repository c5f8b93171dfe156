-- One step of an upload, and what was carried of it.
use Rattle.std.specs.Prelude.{Bool, true, false, Result, Ok, Err, ⊤}
use Rattle.ts_config.specs.declared.setup.TransformLine.{TransformLine}
use Rattle.ts_link.specs.Link.{IsSure}
use Rattle.ts_link.specs.declared.link.Got.{Got}
use Rattle.ts_link.specs.declared.link.Got.TheVariants as G
use Rattle.ts_link.specs.declared.link.Link as link
use Rattle.ts_link.specs.declared.octets.NoMemory.{NoMemory}
use Rattle.ts_transform.specs.declared.transform.Transform as transform
use Rattle.ts_upstream.specs.Uploads.{StayPaired, UploadCauses, UploadFalls, UploadKeeps, Uploads}
use Rattle.ts_upstream.specs.Uploads.{UploadsSurely, both}
use Rattle.ts_upstream.specs.declared.upstream.Uploaded.{Uploaded}
use Rattle.ts_upstream.specs.declared.upstream.Uploaded.TheVariants as U
use Rattle.ts_upstream.specs.declared.upstream.Upstream as upstream
use Rattle.ts_vconn.specs.declared.moves.Pushed.{Pushed}
use Rattle.ts_vconn.specs.declared.moves.Pushed.TheVariants as V
use Rattle.ts_request.specs.Carrying.{CarrierStill, carrier_look}
use Rattle.ts_request.specs.Front.{FrontSeen, FrontStill, front_look}
use Rattle.ts_request.specs.Pairing.{CarrierPair, CarrierRefuses, carrier_left}
use Rattle.ts_request.specs.declared.carrier.Carrier.{Carrier}

module _ {C O P : Type 0} (client : link.Ghosts C) (origin : link.Ghosts O) (inner : upstream.Ghosts O C)
    (stage : transform.Ghosts P TransformLine) where
  -- one step of an upload, from the first two links to the last two: all that is asked of one
  pub record UploadsStep (answer : Uploaded) (f g : FrontSeen C) (c d : Carrier O P) : Type 0 where
    pub paired : StayPaired (FrontStill client) (CarrierStill origin) (CarrierPair client origin inner stage)
        (CarrierRefuses inner.refuses) f g c d
    pub causes : UploadCauses client.tells (CarrierRefuses inner.refuses c) answer
        (front_look client.look f) (front_look client.look g)
        (carrier_look origin.tells origin.look c) (carrier_look origin.tells origin.look d)
    pub bytes : Uploads client.tells origin.tells (front_look client.look f) (front_look client.look g)
        (carrier_look origin.tells origin.look c) (carrier_look origin.tells origin.look d)
    pub keeps : UploadKeeps (front_look client.look f) (front_look client.look g)
        (carrier_look origin.tells origin.look c) (carrier_look origin.tells origin.look d)
    pub falls : UploadFalls answer (carrier_left client origin inner stage f c)
        (carrier_left client origin inner stage g d)
        (both (front_look client.look f).agains (carrier_look origin.tells origin.look c).agains)
        (both (front_look client.look g).agains (carrier_look origin.tells origin.look d).agains)
    pub sure : IsSure (front_look client.look f) → IsSure (carrier_look origin.tells origin.look c)
        → UploadsSurely answer (front_look client.look f) (front_look client.look g)
        (carrier_look origin.tells origin.look c) (carrier_look origin.tells origin.look d)

-- ---- the answer of a step, by that of the call that it makes

-- of a write to the origin
abbrev pub answer_pushed : Pushed → Uploaded
answer_pushed (V.Some n) = U.More
answer_pushed V.Nothing = U.NoMemory
answer_pushed V.Again = U.Again
answer_pushed V.Failed = U.OriginFailed
answer_pushed V.NoMemory = U.NoMemory

-- of the origin's own upload, which ends a stage
abbrev pub answer_asked : Uploaded → Uploaded
answer_asked U.Done = U.More
answer_asked answer = answer

abbrev pub is_done : Uploaded → Bool
is_done U.Done = true
is_done answer = false

-- of a read of the body
abbrev pub answer_read : Got → Uploaded
answer_read (G.Bytes n) = U.More
answer_read G.End = U.Refused
answer_read G.Again = U.Again
answer_read G.Failed = U.ClientFailed

-- of work on what is here
abbrev pub answer_work : Result ⊤ NoMemory → Uploaded
answer_work (Ok x) = U.More
answer_work (Err lack) = U.NoMemory
