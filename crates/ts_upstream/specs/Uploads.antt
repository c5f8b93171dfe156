-- What an upload does to the two links that it is between: `c` and `c'` are the client's link before and
-- after it, `o` and `o'` the origin's.
use Rattle.std.specs.Prelude.{◌≡◌, ℕ, ◌+◌, ◌-◌, ◌*◌, ◌≤◌, ◌++◌, ◌⊎◌, List, length, ⊤, Bool, true, false, Option, Some, None}
use Rattle.ts_link.specs.Counts.{Rose}
use Rattle.ts_link.specs.Link.{Look, all_of, MayReplace, NoMore, Fewer, NeverStalls, NeverLeaves}
use Rattle.ts_upstream.specs.declared.upstream.Uploaded.{Uploaded}
use Rattle.ts_upstream.specs.declared.upstream.Uploaded.TheVariants as U

-- Again, ClientFailed and OriginFailed come only where a count rose
abbrev pub UploadCounts : Uploaded → Look → Look → Look → Look → Type 0
UploadCounts U.Again c c' o o' = Rose c.waits c'.waits ⊎ Rose o.waits o'.waits
UploadCounts U.ClientFailed c c' o o' = Rose c.faults c'.faults
UploadCounts U.OriginFailed c c' o o' = Rose o.faults o'.faults
UploadCounts _ c c' o o' = ⊤

-- Refused comes only where the client's source is refused, and Done only where it is not
abbrev pub UploadRefuses : Uploaded → Type 0 → Type 0
UploadRefuses U.Done refuses = refuses → ⊥
UploadRefuses U.Refused refuses = refuses
UploadRefuses _ refuses = ⊤

-- want of memory leaves all that is seen of the two links
abbrev pub UploadLacks : Uploaded → Look → Look → Look → Look → Type 0
UploadLacks U.NoMemory c c' o o' = (c' ≡ c) × (o' ≡ o)
UploadLacks _ c c' o o' = ⊤

-- Done leaves no upload that the origin's link has to move
abbrev pub UploadEnds : Uploaded → Look → Type 0
UploadEnds U.Done o' = o'.uploaded ≡ true
UploadEnds _ o' = ⊤

-- Why an upload answers as it does. What the client's source is, is known only where its link tells.
pub record UploadCauses (tells : Bool) (Refuses : List ℕ → Type 0) (answer : Uploaded) (c c' o o' : Look) :
    Type 0 where
  pub refusal : tells ≡ true → UploadRefuses answer (Refuses c.source)
  pub counts : UploadCounts answer c c' o o'
  pub lacks : UploadLacks answer c c' o o'
  pub ends : UploadEnds answer o'

-- What an upload leaves of the client's link, where it tells: it reads nothing that the link shows as given.
pub record UploadsClient (c c' : Look) : Type 0 where
  pub all : all_of c' ≡ all_of c
  pub given : c'.given ≡ c.given
  pub taken : c'.taken ≡ c.taken

-- And of the origin's, which may have taken more: all of that is what the upload wrote.
pub record UploadsOrigin (o o' : Look) : Type 0 where
  pub given : o'.given ≡ o.given
  pub left : MayReplace o.given o.left o'.left
  pub more : List ℕ
  pub taken : o'.taken ≡ o.taken ++ more
  pub carried : o'.carried ≡ o.carried ++ more

-- the same of each link that tells, by itself
pub record Uploads (client_tells origin_tells : Bool) (c c' o o' : Look) : Type 0 where
  pub client : client_tells ≡ true → UploadsClient c c'
  pub origin : origin_tells ≡ true → UploadsOrigin o o'

-- what an upload leaves of one link, whether it tells or not: its counts do not fall
pub record KeepsLink (old new : Look) : Type 0 where
  pub source : new.source ≡ old.source
  pub name : new.name ≡ old.name
  pub plan : new.plan ≡ old.plan
  pub before : new.before ≡ old.before
  pub faults : old.faults ≤ new.faults
  pub waits : old.waits ≤ new.waits

-- what it leaves of both: the client's link counts no read and no write, and is moved for no other
pub record UploadKeeps (c c' o o' : Look) : Type 0 where
  pub client : KeepsLink c c'
  pub reads : c'.reads ≡ c.reads
  pub writes : c'.writes ≡ c.writes
  pub carried : c'.carried ≡ c.carried
  pub uploaded : c'.uploaded ≡ c.uploaded
  pub origin : KeepsLink o o'

-- an origin refuses the same lists
pub record SameRefusal (old new : List ℕ → Type 0) : Type 0 where
  pub still : (list : List ℕ) → old list → new list
  pub before : (list : List ℕ) → new list → old list

-- the two links after an upload are the same ones, they belong together, and what is refused stays
pub record StayPaired {C O : Type 0} (client_still : C → C → Type 0) (origin_still : O → O → Type 0)
    (paired : C → O → Type 0) (refuses : O → List ℕ → Type 0) (c c' : C) (o o' : O) : Type 0 where
  pub client : client_still c c'
  pub origin : origin_still o o'
  pub pair : paired c' o'
  pub refusal : SameRefusal (refuses o) (refuses o')

-- the sum of two numbers, where both are told
abbrev pub both : Option ℕ → Option ℕ → Option ℕ
both (Some m) (Some n) = Some (m + n)
both (Some m) None = None
both None n = None

-- More lowers what the upload has left, and Again how many Again answers the two links have left; nothing
-- raises either
abbrev pub UploadFalls : Uploaded → Option ℕ → Option ℕ → Option ℕ → Option ℕ → Type 0
UploadFalls U.More left left' agains agains' = Fewer left left' × NoMore agains agains'
UploadFalls U.Again left left' agains agains' = NoMore left left' × Fewer agains agains'
UploadFalls _ left left' agains agains' = NoMore left left' × NoMore agains agains'

abbrev pub upload_failed : Uploaded → Bool
upload_failed U.ClientFailed = true
upload_failed U.OriginFailed = true
upload_failed _ = false

abbrev pub upload_waits : Uploaded → Bool
upload_waits U.Again = true
upload_waits _ = false

-- between sure links, of which the origin never leaves, no fault is met, and nothing waits where neither
-- stalls
pub record UploadsSurely (answer : Uploaded) (c c' o o' : Look) : Type 0 where
  pub faults : NeverLeaves o → (upload_failed answer ≡ false) × (c'.faults ≡ c.faults) ×
      (o'.faults ≡ o.faults)
  pub waits : NeverStalls c → NeverStalls o → upload_waits answer ≡ false

-- the number rose by at most 8 for each of n bytes, where it is told
abbrev pub Rose8 : Option ℕ → Option ℕ → ℕ → Type 0
Rose8 None new n = ⊤
Rose8 (Some k) None n = ⊥
Rose8 (Some k) (Some m) n = m ≤ k + 8 * n

-- how many bytes a link took from one look to the next
abbrev pub taken_since : Look → Look → ℕ
taken_since old new = length new.taken - length old.taken

-- an upload of a link that has none to move: it is done, and the two links are as they were
abbrev pub MovesNothing : {C O : Type 0} → C → O → C → O → Uploaded → Type 0
MovesNothing c o c' o' answer = (answer ≡ U.Done) × (c' ≡ c) × (o' ≡ o)
