-- What each step of a request's body leaves of the way that it goes (RFC 9112, sections 6.3 and 7.1;
-- Developer's Guide, "Transformations").
use Rattle.std.specs.Prelude.{◌≡◌, ◌≢◌, ℕ, ◌+◌, ◌<◌, ◌≤◌, ◌++◌, List, [], length, take, true, false}
use Rattle.std.specs.Prelude.{Option, Some, None}
use Rattle.std.specs.Bool.{OnTrue}
use Rattle.ts_passing.specs.Feeding.{FeedsPart}
use Rattle.ts_transform.specs.Flow.{ChainState, IsFinished, KeepsFlow, MustWork, MustWrite, PumpsAt, Rests}
use Rattle.ts_transform.specs.Flow.{TakesAway, client_wait, left_to_do}
use Rattle.ts_wire.specs.declared.body.BodyState.TheVariants as B
use Rattle.ts_wire.specs.Place.{state_of}
use Rattle.ts_wire.specs.Frames.{IsPiece, frame_of}
use Rattle.ts_request.specs.declared.passage.Next.{Next}
use Rattle.ts_request.specs.declared.passage.Next.TheVariants as N
use Rattle.ts_request.specs.declared.passage.Passage.{Passage}

-- no stage must work
abbrev pub HasNoWork : {P : Type 0} → ChainState P → Type 0
HasNoWork c = (j : ℕ) → MustWork c j → ⊥

-- A front of what waits was fed to the reader of bodies, and what of it is body came to the chain.
pub record FeedsPassage {P : Type 0} (p q : Passage P) (before after : List ℕ) : Type 0 where
  pub feeds : FeedsPart p.body q.body p.chain q.chain before after
  pub lost : q.lost ≡ p.lost
  pub mode : q.mode ≡ p.mode
  pub ended : q.ended ≡ p.ended

-- Memory lacked for a part of the body, which its reader has passed over.
pub record LosesPart {P : Type 0} (p q : Passage P) : Type 0 where
  pub chain : q.chain ≡ p.chain
  pub lost : q.lost ≡ true
  pub mode : q.mode ≡ p.mode
  pub ended : q.ended ≡ p.ended

-- A stage worked: the flow stays, and less is left to do.
pub record Works {P : Type 0} (rest : P → List ℕ → List ℕ) (soon : P → List ℕ → Option (List ℕ))
    (p q : Passage P) : Type 0 where
  pub at : ℕ
  pub pumps : PumpsAt rest at p.chain q.chain
  pub flow : KeepsFlow rest soon p.chain q.chain
  pub falls : (z : List ℕ) → OnTrue p.chain.given (z ≡ [])
      → left_to_do rest q.chain z + 1 ≤ left_to_do rest p.chain z
  pub given : q.chain.given ≡ p.chain.given
  pub few : length q.chain.stages ≡ length p.chain.stages
  pub others : q ≡ record p { chain = q.chain }

-- A piece of what the chain gave was framed behind what waits for the origin.
pub record FramesPiece {P : Type 0} (rest : P → List ℕ → List ℕ) (p q : Passage P) (before after : List ℕ) :
    Type 0
  where
    pub piece : List ℕ
    pub good : IsPiece piece
    pub front : piece ≡ take (length piece) (client_wait p.chain)
    pub takes : TakesAway rest (length piece) p.chain q.chain
    pub frame : after ≡ before ++ frame_of p.mode piece
    pub others : q ≡ record p { chain = q.chain }

-- The chain has given all that it gives before more of the body comes, and its client has not all that it
-- gets.
pub record Stalls {P : Type 0} (p : Passage P) : Type 0 where
  pub rests : Rests p.chain
  pub more : IsFinished p.chain → ⊥
  pub kept : p.lost ≡ false

-- what comes next, where these bytes of the body wait to be fed
abbrev pub IsNext : {P : Type 0} → Passage P → List ℕ → Next → Type 0
IsNext p inbox N.Finish = p.ended ≡ true
IsNext p inbox N.Frame = (p.ended ≡ false) × MustWrite p.chain
IsNext p inbox (N.Work at) = (p.ended ≡ false) × (at < length p.chain.stages) × MustWork p.chain at
IsNext p inbox N.End = (p.ended ≡ false) × IsFinished p.chain
IsNext p inbox N.Lacks = p.lost ≡ true
IsNext p inbox N.Refuse = (p.ended ≡ false) × Stalls p × (state_of p.body.phase ≡ B.Bad)
IsNext p inbox N.Feed = (p.ended ≡ false) × Stalls p × (state_of p.body.phase ≢ B.Bad) × (inbox ≢ [])
IsNext p inbox N.Read = (p.ended ≡ false) × Stalls p × (state_of p.body.phase ≢ B.Bad) × (inbox ≡ [])

-- the same where there may be no body
abbrev pub IsNextBy : {P : Type 0} → Option (Passage P) → List ℕ → Next → Type 0
IsNextBy None inbox next = next ≡ N.Finish
IsNextBy (Some p) inbox next = IsNext p inbox next
