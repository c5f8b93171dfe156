-- What an upload of a link that chooses does: first it sends what is held, and then the origin's own upload
-- is moved.
use Rattle.std.specs.Prelude.{◌≡◌, ◌≢◌, ℕ, ◌+◌, ◌-◌, ◌*◌, Bool, true, false, ◌||◌, List, [], Option, Some}
use Rattle.std.specs.Prelude.{None, ⊤}
use Rattle.std.specs.Option.{option_map}
use Rattle.ts_link.specs.Link.{IsOneWrite, IsSure, Look}
use Rattle.ts_link.specs.LinkAnswers.{count_put}
use Rattle.ts_link.specs.declared.link.Put.{Put}
use Rattle.ts_link.specs.declared.link.Put.TheVariants as P
use Rattle.ts_link.specs.declared.link.Link as link
use Rattle.ts_upstream.specs.Uploads.{StayPaired, UploadCauses, UploadFalls, UploadKeeps, Uploads}
use Rattle.ts_upstream.specs.Uploads.{UploadsSurely, both}
use Rattle.ts_upstream.specs.declared.upstream.Upstream as upstream
use Rattle.ts_upstream.specs.declared.upstream.Uploaded.{Uploaded}
use Rattle.ts_upstream.specs.declared.upstream.Uploaded.TheVariants as U
use Rattle.ts_intercept.specs.Limits.{held_weight, most_held}
use Rattle.ts_intercept.specs.Moving.{IsStill}
use Rattle.ts_intercept.specs.Seen.{seen, unsent}
use Rattle.ts_intercept.specs.declared.choice.Choice.{Choice}
use Rattle.ts_intercept.specs.declared.choice.Stage.{Stage}
use Rattle.ts_intercept.specs.declared.choice.Stage.TheVariants as S

-- what an upload answers where it made one write of what is held
abbrev pub sending : Put → Uploaded
sending (P.Took n) = U.More
sending P.Again = U.Again
sending P.Failed = U.OriginFailed
sending P.NoMemory = U.NoMemory

abbrev pub is_done : Uploaded → Bool
is_done U.Done = true
is_done _ = false

-- what is left of an upload, with all that may still be held
abbrev pub with_held : ℕ → Option ℕ → Option ℕ
with_held sent left = option_map (λ n. n + held_weight * (most_held - sent)) left

-- a number that is told only where the origin tells
abbrev pub told_if : Bool → Option ℕ → Option ℕ
told_if true n = n
told_if false n = None

module _ {C O : Type 0} where
  -- The client belongs to the origin, which refuses no list.
  pub record PairsWith (paired : C → O → Type 0) (refuses : O → List ℕ → Type 0) (client : C) (o : O) : Type 0
    where
      pub pair : paired client o
      pub takes : (list : List ℕ) → refuses o list → ⊥

  -- it belongs to the client: to any, without an origin
  abbrev pub PairIf : (C → O → Type 0) → (O → List ℕ → Type 0) → C → Option O → Type 0
  PairIf paired refuses client None = ⊤
  PairIf paired refuses client (Some o) = PairsWith paired refuses client o

  -- how much upload the client and an origin that tells have left, and what of the held bytes may still be
  -- sent
  abbrev pub left_if : Bool → (C → O → Option ℕ) → ℕ → C → Option O → Option ℕ
  left_if tells left sent client None = Some 0
  left_if tells left sent client (Some o) = told_if tells (with_held sent (left client o))

module _ {C O : Type 0} where
  -- the client belongs to the link that chooses
  abbrev pub Pairs : (C → O → Type 0) → (O → List ℕ → Type 0) → C → Choice O → Type 0
  Pairs paired refuses client c = PairIf paired refuses client c.origin

  -- how much upload the two have left
  abbrev pub left_of : Bool → (C → O → Option ℕ) → C → Choice O → Option ℕ
  left_of tells left client c = left_if tells left c.sent client c.origin

module _ {O : Type 0} where
  -- what it holds for the origin: nothing where there is none, or where it does not hand on
  abbrev pub owed_by : Stage → Option O → List ℕ → List ℕ
  owed_by S.HandedOn (Some o) waits = waits
  owed_by _ _ waits = []

  abbrev pub owed : Choice O → List ℕ
  owed c = owed_by c.stage c.origin (unsent c)

  -- it refuses no list
  abbrev pub RefusesNone : Choice O → List ℕ → Type 0
  RefusesNone c list = ⊥

  -- there is no upload to move
  abbrev pub HasNoUpload : Stage → Option O → Type 0
  HasNoUpload S.HandedOn (Some o) = ⊥
  HasNoUpload _ _ = ⊤

module _ {C O : Type 0} (look : O → Look) (once : C → O → C → O → Uploaded → Type 0) where
  -- ONE UPLOAD led from these links to those, with this answer: it had nothing to move, or made one write
  -- of what is held, or one upload of the origin's.
  pub data IsOneUpload (c : C) (s : Choice O) (d : C) (t : Choice O) (answer : Uploaded) : Type 0 where
    none_to_move : HasNoUpload s.stage s.origin → d ≡ c → t ≡ record s { uploaded = true } → answer ≡ U.Done
        → IsOneUpload c s d t answer
    one_write : (o p : O) (put : Put) → s.stage ≡ S.HandedOn → s.origin ≡ Some o → unsent s ≢ []
        → IsOneWrite put (look o) (look p) → d ≡ c
        → t ≡ record s { origin = Some p; sent = s.sent + count_put put } → answer ≡ sending put
        → IsOneUpload c s d t answer
    one_upload : (o p : O) → s.stage ≡ S.HandedOn → s.origin ≡ Some o → unsent s ≡ [] → once c o d p answer
        → t ≡ record s { origin = Some p; uploaded = is_done answer || s.uploaded }
        → IsOneUpload c s d t answer

-- AN UPLOAD led from these links to those, with this answer, as the link to an origin promises it; and once
-- it is done, nothing is held for the origin.
module _ {C O : Type 0} (clients : link.Ghosts C) (origins : link.Ghosts O) (pair : upstream.Ghosts O C) where
  pub record UploadsAs (c : C) (s : Choice O) (d : C) (t : Choice O) (answer : Uploaded) : Type 0 where
    pub paired : StayPaired clients.still (IsStill origins.still) (Pairs pair.paired pair.refuses) RefusesNone
        c d s t
    pub once : IsOneUpload origins.look pair.one_upload c s d t answer
    pub causes : UploadCauses clients.tells (RefusesNone s) answer
        (clients.look c) (clients.look d) (seen origins.look s) (seen origins.look t)
    pub bytes : Uploads clients.tells origins.tells
        (clients.look c) (clients.look d) (seen origins.look s) (seen origins.look t)
    pub keeps : UploadKeeps (clients.look c) (clients.look d) (seen origins.look s) (seen origins.look t)
    pub falls : UploadFalls answer (left_of origins.tells pair.upload_left c s)
        (left_of origins.tells pair.upload_left d t)
        (both (clients.look c).agains (seen origins.look s).agains)
        (both (clients.look d).agains (seen origins.look t).agains)
    pub sure : IsSure (clients.look c) → IsSure (seen origins.look s)
        → UploadsSurely answer (clients.look c) (clients.look d) (seen origins.look s) (seen origins.look t)
    pub sends : answer ≡ U.Done → owed t ≡ []
