-- How a body comes to a chain: what waits of the bytes that were read is fed to a reader of bodies, and what of
-- it is body is given to the chain (RFC 9112, sections 6.3 and 7.1).
use Rattle.std.specs.Prelude.{◌≡◌, ◌≢◌, ℕ, ◌<◌, ◌≤◌, ◌⊎◌, ◌++◌, List, length, Bool, true, false}
use Rattle.ts_transform.specs.Flow.{ChainState, given_if, wants}
use Rattle.ts_wire.specs.declared.body.BodyState.{BodyState}
use Rattle.ts_wire.specs.declared.body.BodyState.TheVariants as B
use Rattle.ts_wire.specs.declared.framing.Framing.{Framing}
use Rattle.ts_wire.specs.declared.framing.Framing.TheVariants as G
use Rattle.ts_wire.specs.Body.{IsCutShort}
use Rattle.ts_wire.specs.Place.{GoesOn, IsFed, Place, state_of}

-- what the chain gets of a body in this state: a part of it, which it drops where it wants no more, and its
-- end; a bad one has none
abbrev pub GetsPart : {P : Type 0} → BodyState → List ℕ → ChainState P → ChainState P → Type 0
GetsPart B.Unfinished part c d = d ≡ record c { first = given_if (wants c) c.first part }
GetsPart B.Ended part c d = d ≡ record c { first = given_if (wants c) c.first part; given = true }
GetsPart B.Bad part c d = d ≡ record c { first = given_if (wants c) c.first part }

-- A front of what waits was fed to the reader of bodies, and what of it is body came to the chain.
pub record FeedsPart {P : Type 0} (old new : Place) (c d : ChainState P)
    (before after : List ℕ) : Type 0 where
  pub piece : List ℕ
  pub part : List ℕ
  pub within : length part ≤ length piece
  pub taken : before ≡ piece ++ after
  pub progress : state_of old.phase ≡ B.Unfinished
      → (0 < length piece) ⊎ (state_of new.phase ≢ B.Unfinished)
  pub goes : GoesOn old new piece part
  pub gets : GetsPart (state_of new.phase) part c d

-- An unfinished body that ends with its bytes goes up to the close; else it is cut.
pub record EndsHere (ends : Bool) (place : Place) : Type 0 where
  pub closes : ends ≡ true → (framing : Framing) (fed read : List ℕ) → state_of place.phase ≡ B.Unfinished
      → IsFed framing fed read place → framing ≡ G.UntilClose
  pub cuts : ends ≡ false → (framing : Framing) (fed read : List ℕ) → state_of place.phase ≡ B.Unfinished
      → IsFed framing fed read place → IsCutShort framing fed read
