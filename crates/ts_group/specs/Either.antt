-- What holds of a world that is of one of two kinds: what its kind says.
use Rattle.std.specs.Prelude.{◌≡◌, ℕ, List, Bool, Option}
use Rattle.std.specs.Bool.{OnTrue}
use Rattle.ts_journal.specs.State.{State}
use Rattle.ts_group.specs.declared.action.Named.{Named}
use Rattle.ts_group.specs.declared.either.Either.{Either}
use Rattle.ts_group.specs.declared.either.Either.TheVariants.{One, Other}
use Rattle.ts_group.specs.declared.either.EitherTag.{EitherTag}
use Rattle.ts_group.specs.declared.either.EitherTag.TheVariants as tag
use Rattle.ts_group.specs.declared.world.Asked.{Asked}

-- a fact of whichever of the two it is
abbrev pub OfEither : {A B : Type 0} → (A → Type 0) → (B → Type 0) → Either A B → Type 0
OfEither P Q (One a) = P a
OfEither P Q (Other b) = Q b

-- a value of whichever of the two it is
abbrev pub either_of : {A B R : Type 0} → (A → R) → (B → R) → Either A B → R
either_of f g (One a) = f a
either_of f g (Other b) = g b

-- Both are of one kind, of which this holds.
abbrev pub OfBoth : {A B : Type 0} → (A → A → Type 0) → (B → B → Type 0) → Either A B → Either A B → Type 0
OfBoth P Q (One old) (One new) = P old new
OfBoth P Q (Other old) (Other new) = Q old new
OfBoth P Q (One old) (Other new) = ⊥
OfBoth P Q (Other old) (One new) = ⊥

-- The world is of the kind of its tag, and fits it.
abbrev pub EitherFits : {A B S T : Type 0} → (S → A → Type 0) → (T → B → Type 0)
    → EitherTag S T → Either A B → Type 0
EitherFits F G (tag.One s) (One a) = F s a
EitherFits F G (tag.Other t) (Other b) = G t b
EitherFits F G (tag.One s) (Other b) = ⊥
EitherFits F G (tag.Other t) (One a) = ⊥

-- a value of a tag, by its kind
abbrev pub tag_of : {S T R : Type 0} → (S → R) → (T → R) → EitherTag S T → R
tag_of f g (tag.One s) = f s
tag_of f g (tag.Other t) = g t

-- what holds of the world, with the state and the roles of its continuations
abbrev pub EitherSound : {A B : Type 0} → (A → State → List Named → Type 0)
    → (B → State → List Named → Type 0) → Either A B → State → List Named → Type 0
EitherSound P Q w s roles = OfEither (λ a. P a s roles) (λ b. Q b s roles) w

-- what holds of it while the handler of a role waits for the reply of a group to a question
abbrev pub EitherAsking : {A B X : Type 0} → (A → State → List Named → ℕ → ℕ → X → Type 0)
    → (B → State → List Named → ℕ → ℕ → X → Type 0)
    → Either A B → State → List Named → ℕ → ℕ → X → Type 0
EitherAsking P Q w s roles role group question =
    OfEither (λ a. P a s roles role group question) (λ b. Q b s roles role group question) w

-- a reply of a group to a question is right
abbrev pub EitherRight : {A B X Y : Type 0} → (A → ℕ → X → Y → Type 0) → (B → ℕ → X → Y → Type 0)
    → Either A B → ℕ → X → Y → Type 0
EitherRight P Q w group question reply =
    OfEither (λ a. P a group question reply) (λ b. Q b group question reply) w

-- the groups that it may ask
abbrev pub EitherMayAsk : {A B : Type 0} → (A → ℕ → Type 0) → (B → ℕ → Type 0) → Either A B → ℕ → Type 0
EitherMayAsk P Q w group = OfEither (λ a. P a group) (λ b. Q b group) w

-- the replies that it gives to a question
abbrev pub EitherAnswers : {A B X Y : Type 0} → (A → X → Y → Type 0) → (B → X → Y → Type 0)
    → Either A B → X → Y → Type 0
EitherAnswers P Q w question reply = OfEither (λ a. P a question reply) (λ b. Q b question reply) w

-- what it has left to do
abbrev pub either_left : {A B : Type 0} → (A → State → Option ℕ) → (B → State → Option ℕ)
    → Either A B → State → Option ℕ
either_left f g w s = either_of (λ a. f a s) (λ b. g b s) w

-- what a handler did that was called, and asked for these direct calls
abbrev pub EitherCalled : {A B : Type 0} → (A → A → List ℕ → Type 0) → (B → B → List ℕ → Type 0)
    → Either A B → Either A B → List ℕ → Type 0
EitherCalled P Q old new calls = OfBoth (λ a c. P a c calls) (λ b d. Q b d calls) old new

-- what a handler was told that asked
abbrev pub EitherHeard : {A B X Y : Type 0} → (A → A → Asked X Y → Type 0) → (B → B → Asked X Y → Type 0)
    → Either A B → Either A B → Asked X Y → Type 0
EitherHeard P Q old new asked = OfBoth (λ a c. P a c asked) (λ b d. Q b d asked) old new

-- The laws of these words, of the laws of both kinds.

pub by_kind : {A B : Type 0} (P P2 : A → Type 0) (Q Q2 : B → Type 0)
    → ((a : A) → P a → P2 a) → ((b : B) → Q b → Q2 b)
    → (w : Either A B) → OfEither P Q w → OfEither P2 Q2 w
by_kind P P2 Q Q2 one other (One a) holds = one a holds
by_kind P P2 Q Q2 one other (Other b) holds = other b holds

pub same_by_kind : {A B R : Type 0} (f f2 : A → R) (g g2 : B → R)
    → ((a : A) → f a ≡ f2 a) → ((b : B) → g b ≡ g2 b)
    → (w : Either A B) → either_of f g w ≡ either_of f2 g2 w
same_by_kind f f2 g g2 one other (One a) = one a
same_by_kind f f2 g g2 one other (Other b) = other b

pub rests_by_kind : {A B S T : Type 0} (F : S → A → Type 0) (G : T → B → Type 0)
    (P : A → Type 0) (Q : B → Type 0) (f : S → Bool) (g : T → Bool) (Live : Type 0)
    → ((s : S) (a : A) → F s a → P a → OnTrue (f s) Live)
    → ((t : T) (b : B) → G t b → Q b → OnTrue (g t) Live)
    → (t : EitherTag S T) (w : Either A B) → EitherFits F G t w → OfEither P Q w → OnTrue (tag_of f g t) Live
rests_by_kind F G P Q f g Live one other (tag.One s) (One a) fits holds = one s a fits holds
rests_by_kind F G P Q f g Live one other (tag.Other t) (Other b) fits holds = other t b fits holds
rests_by_kind F G P Q f g Live one other (tag.One s) (Other b) fits holds = absurd fits
rests_by_kind F G P Q f g Live one other (tag.Other t) (One a) fits holds = absurd fits
