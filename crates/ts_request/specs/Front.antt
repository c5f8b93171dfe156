-- A front, the link that shows what `Strips` says of the client's bytes: as a link, and the body of an upload
-- that it hands over apart from it.
use Rattle.std.specs.Prelude.{◌≡◌, ℕ, ◌-◌, ◌<◌, ◌≤◌, List, [], ◌++◌, length, take, drop, Bool, true, ⊤}
use Rattle.httparse.specs.Grammar as grammar
use Rattle.httparse.specs.Grammar.{HasNoRequest, print_request}
use Rattle.ts_link.specs.Link.{Look, Calls, ReadsSurely, GivesMore, all_of}
use Rattle.ts_link.specs.LinkAnswers.{FillsSome, EndsWell, count_got, got_again, got_failed}
use Rattle.ts_link.specs.declared.link.Got.{Got}
use Rattle.ts_link.specs.declared.link.Link as link
use Rattle.ts_wire.specs.Limits.{head_limit}
use Rattle.ts_wire.specs.declared.framing.Framing.{Framing}
use Rattle.ts_request.specs.Text.{Text, no_text, waiting}
use Rattle.ts_request.specs.Upload.{HasUpload, LacksUpload, without_body}
use Rattle.ts_request.specs.declared.stage.Stage.{Stage}
use Rattle.ts_request.specs.declared.stage.Stage.TheVariants as S

-- what contracts see of a front: the client that it is over, what it holds of that one's bytes, and how many
-- reads of the front were made
pub record FrontSeen (C : Type 0) : Type 0 where
  pub client : C
  pub text : Text
  pub reads : ℕ

-- a front over this client, of which no call was made
abbrev pub fresh_front : {C : Type 0} → C → FrontSeen C
fresh_front client = record { client = client; text = no_text; reads = 0 }

-- ---- what is shown, by how far the front is

abbrev pub given_by : Stage → Text → List ℕ → List ℕ
given_by S.Heading t given = []
given_by S.Passing t given = take (length given - length (waiting t)) given
given_by (S.Uploading framing) t given = take t.shown t.front

abbrev pub left_by : Stage → Text → List ℕ → List ℕ
left_by S.Heading t left = t.front ++ left
left_by S.Passing t left = waiting t ++ left
left_by (S.Uploading framing) t left = waiting t

-- what a front with this text shows over a client that is seen so; the body of an upload is none of it
abbrev pub shown_through : Text → Look → Look
shown_through t l = record l { given = given_by t.stage t l.given; left = left_by t.stage t l.left }

-- a front as a link
abbrev pub front_look : {C : Type 0} → (C → Look) → FrontSeen C → Look
front_look look f = record (shown_through f.text (look f.client)) { reads = f.reads }

-- ---- the body of an upload

abbrev pub body_given_by : Stage → Text → List ℕ → List ℕ
body_given_by (S.Uploading framing) t given = drop t.used (take (length given - length t.behind) given)
body_given_by _ t given = []

abbrev pub body_left_by : Stage → Text → List ℕ → List ℕ
body_left_by (S.Uploading framing) t left = t.behind ++ left
body_left_by _ t left = []

-- what was handed over of it, raw, as it is framed
abbrev pub body_given : Text → Look → List ℕ
body_given t l = body_given_by t.stage t l.given

-- and what may still be
abbrev pub body_left : Text → Look → List ℕ
body_left t l = body_left_by t.stage t l.left

-- at most so many bytes of a body are still to be handed over
abbrev pub body_most_by : Stage → Text → Look → ℕ
body_most_by S.Heading t l = length (all_of l)
body_most_by S.Passing t l = 0
body_most_by (S.Uploading framing) t l = length (t.behind ++ l.left)

abbrev pub body_most : Text → Look → ℕ
body_most t l = body_most_by t.stage t l

-- ---- what holds of every front

-- there is no upload: some of what the client gave was shown, and the rest of it waits
pub record PassesOn (t : Text) (l : Look) : Type 0 where
  pub before : List ℕ
  pub given : l.given ≡ before ++ waiting t
  pub lacks : LacksUpload (all_of l)
  pub some : l.given ≡ [] → l.left ≡ []

-- there is one: its head was stripped, and some of what came behind it was handed over
pub record HandsOn (framing : Framing) (t : Text) (l : Look) : Type 0 where
  pub head : grammar.RequestHead
  pub handed : List ℕ
  pub has : HasUpload l.given head framing (handed ++ t.behind)
  pub front_is : t.front ≡ print_request (without_body head)
  pub used_is : t.used ≡ length (print_request head)

-- the text is such as its stage says
abbrev pub HoldsText : Stage → Text → Type 0
HoldsText S.Heading t =
    (t.shown ≡ 0) × (t.behind ≡ []) × (length t.front < head_limit) × HasNoRequest t.front
HoldsText S.Passing t = (t.shown ≤ length t.front) × (t.behind ≡ [])
HoldsText (S.Uploading framing) t = t.shown ≤ length t.front

-- and what the client gave, where it tells, stands to it as the stage says
abbrev pub HoldsLink : Stage → Text → Look → Type 0
HoldsLink S.Heading t l = l.given ≡ t.front
HoldsLink S.Passing t l = PassesOn t l
HoldsLink (S.Uploading framing) t l = HandsOn framing t l

pub record Holds (tells : Bool) (t : Text) (l : Look) : Type 0 where
  pub text : HoldsText t.stage t
  pub link : tells ≡ true → HoldsLink t.stage t l

-- ---- what is known of the client's bytes, all that it gave and may still give, and of what is shown of them

-- Until the head of the request is known, that is all of them. From then on it is what `Strips` says, and of
-- an upload, what was handed over and may still be is all that follows the head.
abbrev pub IsShown : Stage → List ℕ → List ℕ → List ℕ → Type 0
IsShown S.Heading c shown body = shown ≡ c
IsShown S.Passing c shown body = LacksUpload c × (shown ≡ c)
IsShown (S.Uploading framing) c shown body =
    (h : grammar.RequestHead) × HasUpload c h framing body × (shown ≡ print_request (without_body h))

-- a front shows its client's bytes so
abbrev pub ShowsClient : {C : Type 0} → (C → Look) → FrontSeen C → Type 0
ShowsClient look f =
    IsShown f.text.stage (all_of (look f.client)) (all_of (front_look look f))
    (body_given f.text (look f.client) ++ body_left f.text (look f.client))

-- No whole head of a request stands in these bytes, and they are fewer than a head may have (RFC 9112, section
-- 2.1).
pub record AwaitsHead (c : List ℕ) : Type 0 where
  pub none : HasNoRequest c
  pub short : length c < head_limit

-- a front that does not know yet what it shows asks its client for more: what this one gave awaits a head
abbrev pub AsksClient : {C : Type 0} → (C → Look) → FrontSeen C → Type 0
AsksClient look f = f.text.stage ≡ S.Heading → AwaitsHead (look f.client).given

-- ---- calls

-- once it is known what is shown, that stays so
abbrev pub StageStays : Stage → Stage → Type 0
StageStays S.Heading new = ⊤
StageStays old new = new ≡ old

-- of an upload, what may still be handed over stays
abbrev pub BodyStays : Stage → List ℕ → List ℕ → Type 0
BodyStays (S.Uploading framing) old new = new ≡ old
BodyStays _ old new = ⊤

-- what calls of a front as a link leave of the upload: they hand over nothing of it
pub record KeepsBody (tells : Bool) (t t' : Text) (l l' : Look) : Type 0 where
  pub stage : StageStays t.stage t'.stage
  pub given : tells ≡ true → body_given t' l' ≡ body_given t l
  pub left : tells ≡ true → BodyStays t.stage (body_left t l) (body_left t' l')
  pub most : tells ≡ true → body_most t' l' ≤ body_most t l

-- the second front is the first after some calls of it as a link
pub record FrontGoes {C : Type 0} (client_link : link.Ghosts C) (f g : FrontSeen C) : Type 0 where
  pub client : client_link.goes f.client g.client
  pub source : (client_link.look g.client).source ≡ (client_link.look f.client).source
  pub body : KeepsBody client_link.tells f.text g.text (client_link.look f.client) (client_link.look g.client)

-- it is the same front, whatever was called on it
abbrev pub FrontStill : {C : Type 0} → link.Ghosts C → FrontSeen C → FrontSeen C → Type 0
FrontStill client_link f g = client_link.still f.client g.client

-- What some reads of the client lead to, the last of which failed or waited or did neither: the front has
-- shown so much more.
pub record Moves (tells : Bool) (t t' : Text) (l l' : Look) (failed waited : Bool) (more : List ℕ) :
    Type 0 where
  pub calls : Calls l l' failed waited
  pub writes : l'.writes ≡ l.writes
  pub sure : ReadsSurely l failed waited
  pub told : tells ≡ true → GivesMore (shown_through t l) (shown_through t' l') more
  pub body : KeepsBody tells t t' l l'

-- one read of the front
pub record Shows (tells : Bool) (t t' : Text) (l l' : Look) (answer : Got) (into : List ℕ) : Type 0 where
  pub fills : FillsSome answer (length into)
  pub moves : Moves tells t t' l l' (got_failed answer) (got_again answer) (take (count_got answer) into)
  pub ends : tells ≡ true → EndsWell answer (shown_through t' l').left

-- ---- the upload is read

-- some more of the body was handed over
pub record HandsMore (t t' : Text) (l l' : Look) (more : List ℕ) : Type 0 where
  pub given : body_given t' l' ≡ body_given t l ++ more
  pub left : body_left t l ≡ more ++ body_left t' l'
  pub taken : l'.taken ≡ l.taken

-- one read of the body: nothing else of the front is changed, and the client is read once at most
pub record ReadsBody (tells : Bool) (t t' : Text) (l l' : Look) (answer : Got) (into : List ℕ) : Type 0 where
  pub fills : FillsSome answer (length into)
  pub text : t' ≡ record t { behind = t'.behind }
  pub calls : Calls l l' (got_failed answer) (got_again answer)
  pub writes : l'.writes ≡ l.writes
  pub sure : ReadsSurely l (got_failed answer) (got_again answer)
  pub told : tells ≡ true → HandsMore t t' l l' (take (count_got answer) into)
  pub ends : tells ≡ true → EndsWell answer (body_left t' l')
