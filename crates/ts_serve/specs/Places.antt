-- What holds of a place: what holds of the world that lives in it, and that an empty one has nothing to do.
use Rattle.std.specs.Prelude.{⊤, ◌≡◌, refl, ℕ, List, [], Option, Some}
use Rattle.std.proofs.Common.{◌∙◌}
use Rattle.ts_journal.specs.State.{State}
use Rattle.ts_group.specs.declared.action.Named.{Named}
use Rattle.ts_group.specs.declared.world.Asked.{Asked}
use Rattle.ts_serve.specs.declared.place.Place.{Place}
use Rattle.ts_serve.specs.declared.placed.AtPlace.{AtPlace}
use Rattle.ts_serve.specs.declared.place.Place.TheVariants.{Empty, Tenant}

-- Whoever lives there fits a tag of its own, which keeps the terms of the place.
abbrev pub PlaceFits : {W T A : Type 0} → (T → W → Type 0) → (A → T → Type 0) → A → Place W → Type 0
PlaceFits Fits Keeps terms Empty = ⊤
PlaceFits {T = T} Fits Keeps terms (Tenant w) = (tag : T) × Keeps terms tag × Fits tag w

-- What fits a tag at a place among the transactions of a client is at that place.
pub record FitsAtPlace {S T : Type 0} (Fits : S → T → Type 0) (tag : AtPlace S) (t : AtPlace T) : Type 0 where
  pub value : Fits tag.value t.value
  pub place : t.place ≡ tag.place

-- what holds between calls; in an empty place nothing is pending
abbrev pub PlaceSound : {W : Type 0} → (W → State → List Named → Type 0) → Place W → State → List Named
    → Type 0
PlaceSound Sound Empty s roles = s.pending ≡ []
PlaceSound Sound (Tenant w) s roles = Sound w s roles

-- what holds while the handler of a role waits for the reply of a group; in an empty place none runs
abbrev pub PlaceAsking : {W X : Type 0} → (W → State → List Named → ℕ → ℕ → X → Type 0)
    → Place W → State → List Named → ℕ → ℕ → X → Type 0
PlaceAsking Asking Empty s roles role group question = ⊥
PlaceAsking Asking (Tenant w) s roles role group question = Asking w s roles role group question

-- a reply of a group to a question is right
abbrev pub PlaceRight : {W X Y : Type 0} → (W → ℕ → X → Y → Type 0) → Place W → ℕ → X → Y → Type 0
PlaceRight Right Empty group question reply = ⊤
PlaceRight Right (Tenant w) group question reply = Right w group question reply

-- the groups that may be asked; an empty place asks nobody
abbrev pub PlaceMayAsk : {W : Type 0} → (W → ℕ → Type 0) → Place W → ℕ → Type 0
PlaceMayAsk MayAsk Empty group = ⊥
PlaceMayAsk MayAsk (Tenant w) group = MayAsk w group

-- the replies that it gives to a question
abbrev pub PlaceAnswers : {W X Y : Type 0} → (W → X → Y → Type 0) → Place W → X → Y → Type 0
PlaceAnswers Answers Empty question reply = ⊤
PlaceAnswers Answers (Tenant w) question reply = Answers w question reply

-- what it has left to do; an empty place nothing
abbrev pub place_left : {W : Type 0} → (W → State → Option ℕ) → Place W → State → Option ℕ
place_left left Empty s = Some 0
place_left left (Tenant w) s = left w s

-- What led from one place to the other: nothing where both are empty, and what led from the one tenant to the
-- other where both have one. No call of a world empties a place, or fills one.
abbrev pub OfPlaces : {W : Type 0} → (W → W → Type 0) → Place W → Place W → Type 0
OfPlaces Led Empty Empty = ⊤
OfPlaces Led Empty (Tenant new) = ⊥
OfPlaces Led (Tenant old) Empty = ⊥
OfPlaces Led (Tenant old) (Tenant new) = Led old new

-- what `start` made of it
abbrev pub PlaceBegun : {W : Type 0} → (W → W → Type 0) → Place W → Place W → Type 0
PlaceBegun Begun old new = OfPlaces Begun old new

-- what a handler did that was called, and asked for these direct calls
abbrev pub PlaceCalled : {W : Type 0} → (W → W → List ℕ → Type 0) → Place W → Place W → List ℕ → Type 0
PlaceCalled Called old new calls = OfPlaces (λ v w. Called v w calls) old new

-- what a handler was told that asked
abbrev pub PlaceHeard : {W X Y : Type 0} → (W → W → Asked X Y → Type 0) → Place W → Place W → Asked X Y
    → Type 0
PlaceHeard Heard old new asked = OfPlaces (λ v w. Heard v w asked) old new

-- The laws of these words, of those of whoever lives there.

pub sound_on : {W : Type 0} (Sound : W → State → List Named → Type 0) (s s2 : State) (roles : List Named)
    → s2.pending ≡ s.pending → ((w : W) → Sound w s roles → Sound w s2 roles)
    → (p : Place W) → PlaceSound Sound p s roles → PlaceSound Sound p s2 roles
sound_on Sound s s2 roles same on Empty h = same ∙ h
sound_on Sound s s2 roles same on (Tenant w) h = on w h

pub left_on : {W : Type 0} (left : W → State → Option ℕ) (s s2 : State) → ((w : W) → left w s ≡ left w s2)
    → (p : Place W) → place_left left p s ≡ place_left left p s2
left_on left s s2 on Empty = refl
left_on left s s2 on (Tenant w) = on w
