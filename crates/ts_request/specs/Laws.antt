-- What calls of a front as a link leave of an upload: none at all, and calls after calls.
use Rattle.std.specs.Prelude.{List, ℕ, Bool, refl}
use Rattle.std.proofs.Common.{arith, subst, ◌∙◌}
use Rattle.ts_link.specs.Link.{Look}
use Rattle.ts_request.specs.Front.{BodyStays, KeepsBody, StageStays}
use Rattle.ts_request.specs.Text.{Text}
use Rattle.ts_request.specs.declared.stage.Stage.{Stage}
use Rattle.ts_request.specs.declared.stage.Stage.TheVariants as S

pub stage_stays : (a : Stage) → StageStays a a
stage_stays S.Heading = tt
stage_stays S.Passing = refl
stage_stays (S.Uploading framing) = refl

pub stage_goes_on : (a b c : Stage) → StageStays a b → StageStays b c → StageStays a c
stage_goes_on S.Heading b c p q = tt
stage_goes_on S.Passing b c p q = subst (λ s. StageStays s c) p q
stage_goes_on (S.Uploading framing) b c p q = subst (λ s. StageStays s c) p q

body_stays : (a : Stage) (x : List ℕ) → BodyStays a x x
body_stays S.Heading x = tt
body_stays S.Passing x = tt
body_stays (S.Uploading framing) x = refl

body_goes_on : (a b : Stage) (x y z : List ℕ) → StageStays a b → BodyStays a x y → BodyStays b y z
    → BodyStays a x z
body_goes_on S.Heading b x y z p q r = tt
body_goes_on S.Passing b x y z p q r = tt
body_goes_on (S.Uploading framing) b x y z p q r = subst (λ s. BodyStays s y z) p r ∙ q

pub keeps_body : (tells : Bool) (t : Text) (l : Look) → KeepsBody tells t t l l
keeps_body tells t l = record {
  stage = stage_stays t.stage;
  given = λ told. refl;
  left = λ told. body_stays t.stage _;
  most = λ told. Prim.omega arith;
}

pub keeps_body_on : (tells : Bool) (t u v : Text) (l m n : Look) → KeepsBody tells t u l m
    → KeepsBody tells u v m n → KeepsBody tells t v l n
keeps_body_on tells t u v l m n p q = record {
  stage = stage_goes_on t.stage u.stage v.stage p.stage q.stage;
  given = λ told. q.given told ∙ p.given told;
  left = λ told. body_goes_on t.stage u.stage _ _ _ p.stage (p.left told) (q.left told);
  most = λ told. let a = p.most told in let b = q.most told in Prim.omega arith;
}
