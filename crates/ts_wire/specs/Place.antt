-- Where a reader of bodies stands, and what that says of the bytes that it was fed and the body that it gave.
use Rattle.std.specs.Prelude.{◌≡◌, ◌≢◌, ℕ, ◌+◌, ◌-◌, ◌<◌, ◌≤◌, ◌⊎◌, List, [], ◌∷◌, ◌++◌, length, take, slice_range, vec_capacity, if◌then◌else◌, ◌==◌, ⊤}
use Rattle.httparse.specs.Ascii.{carriage_return}
use Rattle.httparse.specs.Grammar.{HasNoChunkLine, MayBecomeChunkLine, HasNoSection, MayBecomeSection}
use Rattle.ts_wire.specs.declared.framing.Framing.{Framing}
use Rattle.ts_wire.specs.declared.framing.Framing.TheVariants as F
use Rattle.ts_wire.specs.declared.phases.BodyPhase.{BodyPhase}
use Rattle.ts_wire.specs.declared.phases.BodyPhase.TheVariants.{Counted, Open, Line, Content, Gap, GapEnd, Trailer, Ended, Bad}
use Rattle.ts_wire.specs.declared.phases.FrontStep.{FrontStep}
use Rattle.ts_wire.specs.declared.body.BodyState.{BodyState}
use Rattle.ts_wire.specs.declared.body.BodyState.TheVariants as S
use Rattle.ts_wire.specs.declared.body.BodyReader.TheInside.{Inside}
use Rattle.ts_wire.specs.declared.body.Fed.{Fed}
use Rattle.ts_wire.specs.Limits.{body_limit, line_limit, trailer_limit, trailer_lines, word_limit}
use Rattle.ts_wire.specs.Body.{line_feeds, AfterChunks, InChunk, InTrailer, IsEndedChunked, IsBadChunked, BodyOf}

-- how far the body is
abbrev pub state_of : BodyPhase → BodyState
state_of Ended = S.Ended
state_of Bad = S.Bad
state_of _ = S.Unfinished

-- the room that a phase may need, now or later
abbrev pub room_of : BodyPhase → ℕ
room_of (Counted left) = 0
room_of Open = 0
room_of Ended = 0
room_of Bad = 0
room_of _ = trailer_limit

-- the part of a body that a phase is in, as a number
abbrev pub part_number : BodyPhase → ℕ
part_number (Counted left) = 0
part_number Open = 1
part_number Line = 2
part_number (Content left) = 3
part_number Gap = 4
part_number GapEnd = 5
part_number Trailer = 6
part_number Ended = 7
part_number Bad = 8

-- what of a chunk line or a trailer section was kept is not whole, and the body is not too long
abbrev pub IsSoundPhase : BodyPhase → List ℕ → ℕ → Type 0
IsSoundPhase (Counted left) held total = (0 < left) × (total + left < word_limit)
IsSoundPhase Open held total = total ≤ body_limit
IsSoundPhase Line held total = (length held < line_limit) × (total ≤ body_limit) × HasNoChunkLine held
IsSoundPhase (Content left) held total = (held ≡ []) × (0 < left) × (total + left ≤ body_limit)
IsSoundPhase Gap held total = (held ≡ []) × (total ≤ body_limit)
IsSoundPhase GapEnd held total = (held ≡ []) × (total ≤ body_limit)
IsSoundPhase Trailer held total = (length held < trailer_limit) × HasNoSection held
IsSoundPhase _ held total = ⊤

-- a reader that was fed these bytes has given this body and stands at this phase
abbrev pub StandsIn : Framing → List ℕ → List ℕ → List ℕ → BodyPhase → Type 0
StandsIn framing fed body held (Counted left) =
    (n : ℕ) × (framing ≡ F.Sized n) × (body ≡ fed) × (length fed + left ≡ n)
StandsIn framing fed body held Open = (framing ≡ F.UntilClose) × (body ≡ fed)
StandsIn framing fed body held Line =
    (framing ≡ F.Chunked) × AfterChunks fed body held [] × MayBecomeChunkLine held
StandsIn framing fed body held (Content left) =
    (framing ≡ F.Chunked) × (part : List ℕ) × InChunk fed body (length part + left) part []
StandsIn framing fed body held Gap =
    (framing ≡ F.Chunked) × (part : List ℕ) × InChunk fed body (length part) part []
StandsIn framing fed body held GapEnd =
    (framing ≡ F.Chunked) × (part : List ℕ) × InChunk fed body (length part) part (carriage_return ∷ [])
StandsIn framing fed body held Trailer =
    (framing ≡ F.Chunked) × InTrailer fed body held × MayBecomeSection held
    × (line_feeds held < trailer_lines)
StandsIn F.Nothing fed body held Ended = (fed ≡ []) × (body ≡ [])
StandsIn (F.Sized n) fed body held Ended = (body ≡ fed) × (length fed ≡ n)
StandsIn F.Chunked fed body held Ended = (e : IsEndedChunked fed body) × (e.rest ≡ [])
StandsIn F.Chunked fed body held Bad = IsBadChunked fed body
StandsIn F.UntilClose fed body held Bad = (body_limit < length fed) × (body ≡ take body_limit fed)
StandsIn _ fed body held _ = ⊥

-- whatever was fed before, the piece goes on with it and gives this part of the body
abbrev pub GoesTo : BodyPhase → List ℕ → ℕ → BodyPhase → List ℕ → List ℕ → List ℕ → Type 0
GoesTo old held total new held' piece given =
    (framing : Framing) (fed body : List ℕ) → total ≡ length body → StandsIn framing fed body held old
    → StandsIn framing (fed ++ piece) (body ++ given) held' new

-- one step of a reader: which front of the bytes it takes, which part of the body it gives, and where it then
-- stands
pub record StepsOn (old : BodyPhase) (held : List ℕ) (total : ℕ) (bytes : List ℕ) (step : FrontStep)
    (held' : List ℕ)
    : Type 0 where
  pub ordered : step.from ≤ step.to
  pub within : step.to ≤ step.taken
  pub taken : step.taken ≤ length bytes
  pub whole :
      state_of step.phase ≡ S.Unfinished → part_number old ≡ part_number step.phase
      → step.taken ≡ length bytes
  pub progress :
      0 < length bytes → state_of old ≡ S.Unfinished → (0 < step.taken) ⊎ (state_of step.phase ≢ S.Unfinished)
  pub rests : state_of old ≢ S.Unfinished → step.taken ≡ 0
  pub stays : state_of old ≢ S.Unfinished → state_of step.phase ≡ state_of old
  pub fits : total + (step.to - step.from) < word_limit
  pub room : room_of step.phase ≤ room_of old
  pub sound : IsSoundPhase step.phase held' (total + (step.to - step.from))
  pub goes :
      GoesTo old held total step.phase held' (take step.taken bytes) (slice_range bytes step.from step.to)

-- the phase in which a body begins that ends so
abbrev pub first_phase : Framing → BodyPhase
first_phase F.Nothing = Ended
first_phase (F.Sized n) = if n == 0 then Ended else Counted n
first_phase F.Chunked = Line
first_phase F.UntilClose = Open
first_phase F.Faulty = Bad

-- the room that a reader of such a body needs, now or later
abbrev pub room_for : Framing → ℕ
room_for F.Chunked = trailer_limit
room_for _ = 0

-- what a contract sees of a reader: its phase, what it keeps of a chunk line or a trailer section, how long the
-- body is so far, and the room that it has
pub record Place : Type 0 where
  pub phase : BodyPhase
  pub held : List ℕ
  pub total : ℕ
  pub room : ℕ

abbrev pub place_of : Inside → Place
place_of r = record { phase = r.phase; held = r.held.items; total = r.total; room = vec_capacity r.held }

abbrev pub IsSoundInside : Inside → Type 0
IsSoundInside r =
    (room_of r.phase ≤ vec_capacity r.held) × (r.total < word_limit)
    × IsSoundPhase r.phase r.held.items r.total

-- a reader for this framing that was fed these bytes has given this body
pub record IsFed (framing : Framing) (fed body : List ℕ) (place : Place) : Type 0 where
  pub stands : StandsIn framing fed body place.held place.phase
  pub counted : place.total ≡ length body
  pub sound : IsSoundPhase place.phase place.held place.total

-- which front of the bytes is taken, and which part of it is body. A reader that stays in the same part of
-- the body has taken all the bytes: it passes over a run of them as a whole.
pub record TakesBytes (old new : Place) (bytes : List ℕ) (answer : Fed) : Type 0 where
  pub ordered : answer.from ≤ answer.to
  pub within : answer.to ≤ answer.taken
  pub taken : answer.taken ≤ length bytes
  pub whole :
      answer.state ≡ S.Unfinished → part_number old.phase ≡ part_number new.phase
      → answer.taken ≡ length bytes
  pub state : answer.state ≡ state_of new.phase
  pub progress :
      0 < length bytes → state_of old.phase ≡ S.Unfinished
      → (0 < answer.taken) ⊎ (answer.state ≢ S.Unfinished)

-- whatever was fed before, the piece goes on with it and gives this part of the body
abbrev pub GoesOn : Place → Place → List ℕ → List ℕ → Type 0
GoesOn old new piece given =
    (framing : Framing) (fed body : List ℕ) → IsFed framing fed body old
    → IsFed framing (fed ++ piece) (body ++ given) new

-- what was given with it is the body of what was fed with it; and where that has ended or is bad, it stays so
-- whatever follows
abbrev pub GivesBody : Place → List ℕ → List ℕ → BodyState → Type 0
GivesBody old piece given state =
    (framing : Framing) (fed body rest : List ℕ) → IsFed framing fed body old
    → (state ≡ S.Unfinished → rest ≡ []) → BodyOf framing ((fed ++ piece) ++ rest) (body ++ given) state
