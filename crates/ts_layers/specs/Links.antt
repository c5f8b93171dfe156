-- The two ends of a transaction between plain links, and what each of their layers is as a link: a front over
-- a client with a tap or with none; and a carrier over a link that keeps what it takes, over one that chooses
-- between an origin, if there is one, and the lines of a setup (RFC 9112, section 6; Developer's Guide,
-- "Transformations" and "Intercepting HTTP Transactions").
use Rattle.std.specs.Prelude.{◌≡◌, Option}
use Rattle.std.specs.Option.{option_map}
use Rattle.ts_config.specs.declared.setup.TransformLine.{TransformLine}
use Rattle.ts_intercept.specs.Moving.{Goes, IsStill}
use Rattle.ts_intercept.specs.Seen.{seen}
use Rattle.ts_intercept.specs.Uploading.{IsOneUpload, Pairs, RefusesNone, left_of}
use Rattle.ts_intercept.specs.declared.choice.Choice.{Choice}
use Rattle.ts_link.specs.Link.{Look}
use Rattle.ts_link.specs.declared.link.Link as link
use Rattle.ts_request.specs.Carrying.{CarrierGoes, CarrierStill, carrier_look}
use Rattle.ts_request.specs.Front.{FrontGoes, FrontSeen, FrontStill, front_look}
use Rattle.ts_request.specs.Pairing.{CarrierPair, CarrierRefuses, carrier_left}
use Rattle.ts_request.specs.declared.carrier.Carrier.{Carrier}
use Rattle.ts_tap.specs.Optional.{client_of, most_of}
use Rattle.ts_tap.specs.declared.lifted.Lifted.{Lifted}
use Rattle.ts_tap.specs.declared.watched.Watched.{Watched}
use Rattle.ts_transform.specs.declared.transform.Transform as transform
use Rattle.ts_upstream.specs.declared.upstream.Upstream as upstream
use Rattle.ts_layers.specs.Kept.{Keeping, kept_link, kept_origin}

-- ---- what the ends are

-- the client's end
abbrev pub ClientEnd : Type 0 → Type 0
ClientEnd C = FrontSeen (Watched C)

-- what a carrier of the origin's end is over
abbrev pub Carried : Type 0 → Type 0
Carried O = Keeping (Choice (Lifted O))

-- the origin's end
abbrev pub OriginEnd : Type 0 → Type 0 → Type 0
OriginEnd O P = Carrier (Carried O) P

-- ---- the layers of a client

-- what is seen of a client with a tap or with none is what is seen of the client
abbrev pub watched_look : {C : Type 0} → (C → Look) → Watched C → Look
watched_look look w = look (client_of w)

abbrev pub watched_link : {C : Type 0} → link.Ghosts C → link.Ghosts (Watched C)
watched_link client = record {
  tells = client.tells;
  look = watched_look client.look;
  goes = λ v w. client.goes (client_of v) (client_of w) × (most_of w ≡ most_of v);
  still = λ v w. client.still (client_of v) (client_of w) × (most_of w ≡ most_of v);
}

-- a front over such a client
abbrev pub front_link : {C : Type 0} → link.Ghosts C → link.Ghosts (FrontSeen C)
front_link client = record {
  tells = client.tells;
  look = front_look client.look;
  goes = FrontGoes client;
  still = FrontStill client;
}

-- the client's end as a link
abbrev pub client_link : {C : Type 0} → link.Ghosts C → link.Ghosts (ClientEnd C)
client_link client = front_link (watched_link client)

-- ---- the layers of an origin

-- the link to an origin for a client with a tap or with none, and back
abbrev pub lifted : {O : Type 0} → O → Lifted O
lifted o = record { origin = o }

abbrev pub lifted_if : {O : Type 0} → Option O → Option (Lifted O)
lifted_if origin = option_map lifted origin

abbrev pub unlifted_if : {O : Type 0} → Option (Lifted O) → Option O
unlifted_if origin = option_map (λ l. l.origin) origin

-- what is seen of it is what is seen of the origin
abbrev pub lifted_look : {O : Type 0} → (O → Look) → Lifted O → Look
lifted_look look l = look l.origin

abbrev pub lifted_link : {O : Type 0} → link.Ghosts O → link.Ghosts (Lifted O)
lifted_link origin = record {
  tells = origin.tells;
  look = lifted_look origin.look;
  goes = λ l m. origin.goes l.origin m.origin;
  still = λ l m. origin.still l.origin m.origin;
}

abbrev pub lifted_origin : {C O : Type 0} → upstream.Ghosts O C → upstream.Ghosts (Lifted O) (Watched C)
lifted_origin inner = record {
  paired = λ w l. inner.paired (client_of w) l.origin;
  refuses = λ l list. inner.refuses l.origin list;
  upload_left = λ w l. inner.upload_left (client_of w) l.origin;
  one_upload = λ v l w m answer. inner.one_upload (client_of v) l.origin (client_of w) m.origin answer;
}

-- a link that chooses between such an origin and the lines of a setup
abbrev pub chosen_link : {O : Type 0} → link.Ghosts O → link.Ghosts (Choice O)
chosen_link origin = record {
  tells = origin.tells;
  look = seen origin.look;
  goes = Goes origin.goes;
  still = IsStill origin.still;
}

abbrev pub chosen_origin : {C O : Type 0} → link.Ghosts O → upstream.Ghosts O C → upstream.Ghosts (Choice O) C
chosen_origin origin inner = record {
  paired = Pairs inner.paired inner.refuses;
  refuses = RefusesNone;
  upload_left = left_of origin.tells inner.upload_left;
  one_upload = IsOneUpload origin.look inner.one_upload;
}

-- a carrier over such a link, and its uploads
abbrev pub carrier_link : {O P : Type 0} → link.Ghosts O → link.Ghosts (Carrier O P)
carrier_link origin = record {
  tells = origin.tells;
  look = carrier_look origin.tells origin.look;
  goes = CarrierGoes origin;
  still = CarrierStill origin;
}

abbrev pub carrier_origin : {C O P : Type 0} → link.Ghosts C → link.Ghosts O → upstream.Ghosts O C
    → transform.Ghosts P TransformLine → upstream.Ghosts (Carrier O P) (FrontSeen C)
carrier_origin client origin inner stage = record {
  paired = CarrierPair client origin inner stage;
  refuses = CarrierRefuses inner.refuses;
  upload_left = carrier_left client origin inner stage;
  one_upload = λ f c g d answer. CarrierStill origin c d;
}

-- what a carrier of the origin's end is over, as a link and as the link to an origin
abbrev pub carried_link : {O : Type 0} → link.Ghosts O → link.Ghosts (Carried O)
carried_link origin = kept_link (chosen_link (lifted_link origin))

abbrev pub carried_origin : {C O : Type 0} → link.Ghosts O → upstream.Ghosts O C
    → upstream.Ghosts (Carried O) (Watched C)
carried_origin origin inner = kept_origin (chosen_origin (lifted_link origin) (lifted_origin inner))

-- the origin's end as a link, and its uploads
abbrev pub origin_link : {O P : Type 0} → link.Ghosts O → link.Ghosts (OriginEnd O P)
origin_link origin = carrier_link (carried_link origin)

abbrev pub origin_uploads : {C O P : Type 0} → link.Ghosts C → link.Ghosts O → upstream.Ghosts O C
    → transform.Ghosts P TransformLine → upstream.Ghosts (OriginEnd O P) (ClientEnd C)
origin_uploads client origin inner stage =
    carrier_origin (watched_link client) (carried_link origin) (carried_origin origin inner) stage
