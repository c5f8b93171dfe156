-- Whether the bytes of a body ended before it.
use Rattle.std.proofs.Common.{◌≡◌, ◌≢◌, ℕ, List, [], refl, sym, ap, subst, ◌∙◌}
use Rattle.std.specs.Prelude.{◌↔◌}
use Rattle.std.proofs.lemmas.List.{append-nil}
use Rattle.ts_wire.specs.declared.framing.Framing.{Framing}
use Rattle.ts_wire.specs.declared.framing.Framing.TheVariants as F
use Rattle.ts_wire.specs.declared.body.BodyState.TheVariants as S
use Rattle.ts_wire.specs.declared.body.BodyEnd.{BodyEnd}
use Rattle.ts_wire.specs.declared.body.BodyEnd.TheVariants as E
use Rattle.ts_wire.specs.declared.phases.BodyPhase.{BodyPhase}
use Rattle.ts_wire.specs.declared.phases.BodyPhase.TheVariants.{Counted, Open, Line, Content, Gap, GapEnd, Trailer, Ended, Bad}
use Rattle.ts_wire.specs.Body.{BodyOf, IsCutShort}
use Rattle.ts_wire.specs.Place.{Place, state_of, StandsIn, IsFed}
use Rattle.ts_wire.proofs.PlaceBody.{place_body}
use Rattle.ts_wire.proofs.OneBody.{one_body}

-- a reader whose body is unfinished, and not up to the close
unfinished_short : (framing : Framing) (fed body held : List ℕ) (phase : BodyPhase)
    → state_of phase ≡ S.Unfinished → phase ≢ Open
    → StandsIn framing fed body held phase → framing ≢ F.UntilClose
unfinished_short framing fed body held (Counted left) state closed (size, sized, same, whole) up =
    absurd (let e : F.Sized size ≡ F.UntilClose = sym sized ∙ up in cc)
unfinished_short framing fed body held Open state closed stands up = closed refl
unfinished_short framing fed body held Line state closed (chunked, after, may) up =
    absurd (let e : F.Chunked ≡ F.UntilClose = sym chunked ∙ up in cc)
unfinished_short framing fed body held (Content left) state closed (chunked, part, chunk) up =
    absurd (let e : F.Chunked ≡ F.UntilClose = sym chunked ∙ up in cc)
unfinished_short framing fed body held Gap state closed (chunked, part, chunk) up =
    absurd (let e : F.Chunked ≡ F.UntilClose = sym chunked ∙ up in cc)
unfinished_short framing fed body held GapEnd state closed (chunked, part, chunk) up =
    absurd (let e : F.Chunked ≡ F.UntilClose = sym chunked ∙ up in cc)
unfinished_short framing fed body held Trailer state closed (chunked, trailer, may, few) up =
    absurd (let e : F.Chunked ≡ F.UntilClose = sym chunked ∙ up in cc)
unfinished_short framing fed body held Ended state closed stands up =
    absurd (let e : S.Ended ≡ S.Unfinished = state in cc)
unfinished_short framing fed body held Bad state closed stands up =
    absurd (let e : S.Bad ≡ S.Unfinished = state in cc)

body_now : (framing : Framing) (fed body : List ℕ) (place : Place) → IsFed framing fed body place
    → BodyOf framing fed body (state_of place.phase)
body_now framing fed body place was =
    subst (λ f. BodyOf framing f body (state_of place.phase)) (append-nil fed)
    (place_body framing fed body place.held place.phase place.total was.stands was.counted was.sound []
    (λ unfinished. refl))

abbrev SaysCut : BodyEnd → Place → Type 0
SaysCut end place = (framing : Framing) (fed body : List ℕ) → IsFed framing fed body place
    → ((end ≡ E.Cut) ↔ IsCutShort framing fed body)

pub cut_short : (place : Place) → state_of place.phase ≡ S.Unfinished → place.phase ≢ Open
    → SaysCut E.Cut place
cut_short place state closed framing fed body was = (
  λ cut. (
    subst (BodyOf framing fed body) state (body_now framing fed body place was),
    unfinished_short framing fed body place.held place.phase state closed was.stands,
  ),
  λ short. refl,
)

pub ended_whole : (place : Place) → place.phase ≡ Ended → SaysCut E.Ended place
ended_whole place ended framing fed body was = (
  λ cut. absurd (let e : E.Ended ≡ E.Cut = cut in cc),
  λ short. absurd (let e : S.Ended ≡ S.Unfinished =
      sym (ap state_of ended) ∙ (one_body framing fed body body _ _
      (body_now framing fed body place was) short.0).1 in cc),
)

pub open_whole : (place : Place) → place.phase ≡ Open → SaysCut E.Ended place
open_whole place is framing fed body was = (
  λ cut. absurd (let e : E.Ended ≡ E.Cut = cut in cc),
  λ short. absurd (short.1 (subst (StandsIn framing fed body place.held) is was.stands).0),
)

-- the other phases
pub others_unfinished : (phase : BodyPhase) → phase ≢ Ended → state_of phase ≢ S.Bad
    → state_of phase ≡ S.Unfinished
others_unfinished (Counted left) going good = refl
others_unfinished Open going good = refl
others_unfinished Line going good = refl
others_unfinished (Content left) going good = refl
others_unfinished Gap going good = refl
others_unfinished GapEnd going good = refl
others_unfinished Trailer going good = refl
others_unfinished Ended going good = absurd (going refl)
others_unfinished Bad going good = absurd (good refl)
