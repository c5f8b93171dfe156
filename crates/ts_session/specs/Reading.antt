-- What reads of a span do to its request and to its client.
use Rattle.std.specs.Prelude.{◌≡◌, ℕ, ◌<◌, ◌⊎◌, Bool, true, false, List, [], length, take, ⊤}
use Rattle.ts_link.specs.Link.{Calls, GivesMore, Look}
use Rattle.ts_link.specs.LinkAnswers.{EndsWell, FillsSome, count_got, got_again, got_failed}
use Rattle.ts_link.specs.declared.link.Got.{Got}
use Rattle.ts_session.specs.Course.{HoldsRequest, is_head, request_through}
use Rattle.ts_session.specs.declared.course.Polled.{Polled}
use Rattle.ts_session.specs.declared.course.Polled.TheVariants as P
use Rattle.ts_session.specs.declared.reading.Sought.{Sought}
use Rattle.ts_session.specs.declared.reading.Sought.TheVariants as K
use Rattle.ts_session.specs.declared.request.Reading.{Reading}
use Rattle.ts_session.specs.declared.request.Reading.TheVariants as R
use Rattle.ts_session.specs.declared.request.Request.{Request}

abbrev pub sought_failed : Sought → Bool
sought_failed K.Failed = true
sought_failed _ = false

abbrev pub sought_again : Sought → Bool
sought_again K.Again = true
sought_again _ = false

-- a request that was given whole is left as it is
abbrev pub Rests : Request → Request → Type 0
Rests r r' = r.reading ≡ R.Known 0 → r' ≡ r

-- What some reads of the client lead to, the last of which failed or waited or did neither, whatever stands
-- before the request: so much more of it was given.
pub record Moves (tells : Bool) (before : List ℕ) (r r' : Request) (l l' : Look) (failed waited : Bool)
    (more : List ℕ) : Type 0 where
  pub calls : Calls l l' failed waited
  pub writes : l'.writes ≡ l.writes
  pub told : tells ≡ true → GivesMore (request_through before r l) (request_through before r' l') more
  pub rests : Rests r r'

-- and what holds then
pub record MovesTo (tells : Bool) (before : List ℕ) (r r' : Request) (l l' : Look) (failed waited : Bool)
    (more : List ℕ) : Type 0 where
  pub moves : Moves tells before r r' l l' failed waited more
  pub holds : HoldsRequest tells before r' l'

-- whatever stood before a request of which this holds
abbrev pub MovesOn : Bool → Request → Request → Look → Look → Bool → Bool → List ℕ → Type 0
MovesOn tells r r' l l' failed waited more =
    (before : List ℕ) → HoldsRequest tells before r l → MovesTo tells before r r' l l' failed waited more

-- one read of the request
pub record Shows (tells : Bool) (r r' : Request) (l l' : Look) (answer : Got) (into : List ℕ) : Type 0 where
  pub fills : FillsSome answer (length into)
  pub moves : MovesOn tells r r' l l' (got_failed answer) (got_again answer) (take (count_got answer) into)
  pub ends : (before : List ℕ) → HoldsRequest tells before r l → tells ≡ true
      → EndsWell answer (request_through before r' l').left

-- it is known how the request ends, or more is held
abbrev pub SeeksOn : Request → Request → Sought → Type 0
SeeksOn old new K.On = (is_head new.reading ≡ false) ⊎ (length old.held < length new.held)
SeeksOn old new _ = ⊤

-- its head is known, unless the client failed or waits
abbrev pub HasHead : Request → Sought → Type 0
HasHead r K.On = is_head r.reading ≡ false
HasHead r _ = ⊤

-- some of it may be given: its head is known, and of a body in chunks some is held
abbrev pub IsThere : Reading → List ℕ → Type 0
IsThere R.Head held = ⊥
IsThere R.Chunks held = 0 < length held
IsThere _ held = ⊤

-- and so it is, unless the client failed or waits
abbrev pub IsSought : Request → Sought → Type 0
IsSought r K.On = IsThere r.reading r.held
IsSought r _ = ⊤

-- ---- a poll

abbrev pub poll_failed : Polled → Bool
poll_failed P.Failed = true
poll_failed _ = false

abbrev pub poll_again : Polled → Bool
poll_again P.Again = true
poll_again _ = false

-- Some comes exactly where something is held, and End where nothing is left
abbrev pub PollsHeld : Bool → Polled → Request → Look → Type 0
PollsHeld tells P.Some r l = 0 < length r.held
PollsHeld tells P.End r l = (r.held ≡ []) × (tells ≡ true → l.left ≡ [])
PollsHeld tells _ r l = r.held ≡ []

-- nothing of the request was given
abbrev pub IsUnread : Request → Type 0
IsUnread r = (is_head r.reading ≡ true) ⊎ (0 < length r.held)

-- a poll: one read of the client at most, of which nothing is given on, so that the next one is allowed too
pub record Polls (tells : Bool) (r r' : Request) (l l' : Look) (answer : Polled) : Type 0 where
  pub holds : PollsHeld tells answer r' l'
  pub moves : MovesOn tells r r' l l' (poll_failed answer) (poll_again answer) []
  pub unread : IsUnread r'
