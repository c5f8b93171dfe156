-- One step of an upload, by what it calls: all that is asked of a step follows from what it leaves.
use Rattle.std.proofs.Common.{◌≡◌, ℕ, ◌≤◌, List, [], ◌∷◌, ◌++◌, Bool, true, false, refl, sym, ap, subst, ◌∙◌}
use Rattle.std.proofs.Common.{arith}
use Rattle.std.specs.Prelude.{IsSomeAnd, Option, Some, None}
use Rattle.ts_config.specs.declared.setup.TransformLine.{TransformLine}
use Rattle.ts_link.specs.Counts.{Counted, Rose}
use Rattle.ts_link.specs.Link.{AgainsFall, Fewer, Look, MayReplace, NoMore, Plan}
use Rattle.ts_link.specs.declared.link.Link as link
use Rattle.ts_transform.specs.declared.transform.Transform as transform
use Rattle.ts_upstream.specs.Uploads.{KeepsLink, UploadCounts, UploadEnds, UploadFalls, UploadLacks}
use Rattle.ts_upstream.specs.Uploads.{UploadRefuses, UploadsOrigin, both, upload_failed, upload_waits}
use Rattle.ts_upstream.specs.declared.upstream.Uploaded.{Uploaded}
use Rattle.ts_upstream.specs.declared.upstream.Uploaded.TheVariants as U
use Rattle.ts_upstream.specs.declared.upstream.Upstream as upstream
use Rattle.ts_request.specs.Carried.{UploadsStep}
use Rattle.ts_request.specs.Carrying.{behind_head, carrier_look, plan_if, stays_plan, without_line}
use Rattle.ts_request.specs.Front.{FrontSeen, front_look}
use Rattle.ts_request.specs.Pairing.{CarrierPair, CarrierRefuses, all_sent, carrier_left, own_of, source_of}
use Rattle.ts_request.specs.declared.carrier.Carrier.{Carrier}
use Rattle.ts_request.specs.declared.carrier.HeadState.{HeadState}
use Rattle.ts_request.specs.declared.passage.Passage.{Passage}
use Rattle.ts_request.proofs.Told.{told_is}

-- ---- numbers that are told

pub no_more_self : (n : Option ℕ) → NoMore n n
no_more_self None = tt
no_more_self (Some n) = omega arith

pub may_same : (given left : List ℕ) → MayReplace given left left
may_same [] left = omega arith
may_same (b ∷ bs) left = refl

-- a number that counts in both
pub both_less : (again : Bool) (m n n' : Option ℕ) → AgainsFall again n n'
    → AgainsFall again (both m n) (both m n')
both_less true None n n' fell = tt
both_less false None n n' fell = tt
both_less true (Some m) None n' fell = tt
both_less false (Some m) None n' fell = tt
both_less true (Some m) (Some n) None fell = fell
both_less false (Some m) (Some n) None fell = fell
both_less true (Some m) (Some n) (Some n') fell = omega (arith, fell)
both_less false (Some m) (Some n) (Some n') fell = omega (arith, fell)

pub both_less_first : (again : Bool) (m m' n : Option ℕ) → AgainsFall again m m'
    → AgainsFall again (both m n) (both m' n)
both_less_first true None m' n fell = tt
both_less_first false None m' n fell = tt
both_less_first true (Some m) None n fell = absurd fell
both_less_first false (Some m) None n fell = absurd fell
both_less_first true (Some m) (Some m') None fell = tt
both_less_first false (Some m) (Some m') None fell = tt
both_less_first true (Some m) (Some m') (Some n) fell = omega (arith, fell)
both_less_first false (Some m) (Some m') (Some n) fell = omega (arith, fell)

-- what an answer asks of the two numbers that an upload lowers
pub falls_by : (answer : Uploaded) (left left' agains agains' : Option ℕ)
    → (answer ≡ U.More → Fewer left left') → NoMore left left'
    → AgainsFall (upload_waits answer) agains agains' → UploadFalls answer left left' agains agains'
falls_by U.More left left' agains agains' more calm fell = (more refl, fell)
falls_by U.Again left left' agains agains' more calm fell = (calm, fell)
falls_by U.Done left left' agains agains' more calm fell = (calm, fell)
falls_by U.ClientFailed left left' agains agains' more calm fell = (calm, fell)
falls_by U.OriginFailed left left' agains agains' more calm fell = (calm, fell)
falls_by U.Refused left left' agains agains' more calm fell = (calm, fell)
falls_by U.NoMemory left left' agains agains' more calm fell = (calm, fell)

-- ---- answers that call no link

-- it neither waits nor fails
abbrev pub is_quiet : Uploaded → Bool
is_quiet U.Again = false
is_quiet U.ClientFailed = false
is_quiet U.OriginFailed = false
is_quiet _ = true

quiet_counts : (answer : Uploaded) (c c' o o' : Look) → is_quiet answer ≡ true → UploadCounts answer c c' o o'
quiet_counts U.Again c c' o o' quiet = absurd (let wrong : false ≡ true = quiet in cc)
quiet_counts U.ClientFailed c c' o o' quiet = absurd (let wrong : false ≡ true = quiet in cc)
quiet_counts U.OriginFailed c c' o o' quiet = absurd (let wrong : false ≡ true = quiet in cc)
quiet_counts U.Done c c' o o' quiet = tt
quiet_counts U.More c c' o o' quiet = tt
quiet_counts U.Refused c c' o o' quiet = tt
quiet_counts U.NoMemory c c' o o' quiet = tt

quiet_waits : (answer : Uploaded) → is_quiet answer ≡ true → upload_waits answer ≡ false
quiet_waits U.Again quiet = absurd (let wrong : false ≡ true = quiet in cc)
quiet_waits U.ClientFailed quiet = refl
quiet_waits U.OriginFailed quiet = refl
quiet_waits U.Done quiet = refl
quiet_waits U.More quiet = refl
quiet_waits U.Refused quiet = refl
quiet_waits U.NoMemory quiet = refl

quiet_failed : (answer : Uploaded) → is_quiet answer ≡ true → upload_failed answer ≡ false
quiet_failed U.Again quiet = refl
quiet_failed U.ClientFailed quiet = absurd (let wrong : false ≡ true = quiet in cc)
quiet_failed U.OriginFailed quiet = absurd (let wrong : false ≡ true = quiet in cc)
quiet_failed U.Done quiet = refl
quiet_failed U.More quiet = refl
quiet_failed U.Refused quiet = refl
quiet_failed U.NoMemory quiet = refl

-- an answer asks these things of its own
pub lacks_if : (answer : Uploaded) (c c' o o' : Look) → (answer ≡ U.NoMemory → (c' ≡ c) × (o' ≡ o))
    → UploadLacks answer c c' o o'
lacks_if U.NoMemory c c' o o' lacks = lacks refl
lacks_if U.Again c c' o o' lacks = tt
lacks_if U.ClientFailed c c' o o' lacks = tt
lacks_if U.OriginFailed c c' o o' lacks = tt
lacks_if U.Done c c' o o' lacks = tt
lacks_if U.More c c' o o' lacks = tt
lacks_if U.Refused c c' o o' lacks = tt

pub ends_if : (answer : Uploaded) (o' : Look) → (answer ≡ U.Done → o'.uploaded ≡ true) → UploadEnds answer o'
ends_if U.Done o' ends = ends refl
ends_if U.NoMemory o' ends = tt
ends_if U.Again o' ends = tt
ends_if U.ClientFailed o' ends = tt
ends_if U.OriginFailed o' ends = tt
ends_if U.More o' ends = tt
ends_if U.Refused o' ends = tt

-- ---- what calls of a link leave of what is seen

pub rose_up : (old new : ℕ) → Rose old new → old ≤ new
rose_up old new rose = omega (arith, rose)

pub counted_up : (b : Bool) (old new : ℕ) → Counted b old new → old ≤ new
counted_up true old new counted = rose_up old new counted
counted_up false old new counted = omega (arith, counted)

pub counted_same : (b : Bool) (old new : ℕ) → b ≡ false → Counted b old new → new ≡ old
counted_same true old new none counted = absurd (let wrong : true ≡ false = none in cc)
counted_same false old new none counted = counted

pub counted_rose : (b : Bool) (old new : ℕ) → b ≡ true → Counted b old new → Rose old new
counted_rose true old new some counted = counted
counted_rose false old new none counted = absurd (let wrong : false ≡ true = none in cc)

pub keeps_same : (l : Look) → KeepsLink l l
keeps_same l = record {
  source = refl;
  name = refl;
  plan = refl;
  before = refl;
  faults = omega arith;
  waits = omega arith;
}

-- ---- a plan that never leaves

sure_inside : (leave : Option ℕ) (plan : Plan) (P : Plan → Type 0) → IsSomeAnd (plan_if leave plan) P → P plan
sure_inside None plan P sure = sure
sure_inside (Some m) plan P sure = absurd sure

-- what holds of the plan that a carrier tells holds of its origin's
pub plan_inside : (plan : Option Plan) (P : Plan → Type 0) → IsSomeAnd (stays_plan plan) P → IsSomeAnd plan P
plan_inside None P sure = sure
plan_inside (Some plan) P sure = sure_inside plan.leave plan P sure

-- its origin never leaves
leaves_none : (leave : Option ℕ) (plan : Plan) (P : Plan → Type 0) → IsSomeAnd (plan_if leave plan) P
    → leave ≡ None
leaves_none None plan P sure = refl
leaves_none (Some m) plan P sure = absurd sure

pub stays_inside : (plan : Option Plan) (P : Plan → Type 0) → IsSomeAnd (stays_plan plan) P
    → IsSomeAnd plan (λ p. p.leave ≡ None)
stays_inside None P sure = sure
stays_inside (Some plan) P sure = leaves_none plan.leave plan P sure

pub not_left : (plan : Option Plan) (n : ℕ) → IsSomeAnd plan (λ p. p.leave ≡ None)
    → IsSomeAnd plan (λ p. p.leave ≡ Some n) → ⊥
not_left None n never left = left
not_left (Some plan) n never left = let wrong : ◌≡◌ {A = Option ℕ} None (Some n) = sym never ∙ left in cc

module _ {C O P : Type 0} (client : link.Ghosts C) (origin : link.Ghosts O) (inner : upstream.Ghosts O C)
    (stage : transform.Ghosts P TransformLine) (client_still : (c : C) → client.still c c) where
  -- ---- a step that calls no link

  module _ (origin_still : (o : O) → origin.still o o) (f : FrontSeen C) (c : Carrier O P)
      (out inbox : List ℕ)
      (head : HeadState) (asked over : Bool) (passage : Option (Passage P)) where
    abbrev pub moved_on : Carrier O P
    moved_on = record c {
      out = out;
      inbox = inbox;
      head = head;
      asked = asked;
      over = over;
      passage = passage;
    }

    -- what is told of the origin grew by this much
    pub record TellsMore : Type 0 where
      pub more : List ℕ
      pub taken : without_line head ((origin.look c.origin).taken ++ out)
          ≡ without_line c.head (all_sent origin.look c) ++ more
      pub carried : behind_head head (own_of origin.look c) ((origin.look c.origin).taken ++ out)
          ≡ behind_head c.head (own_of origin.look c) (all_sent origin.look c) ++ more

    told_more : origin.tells ≡ true → TellsMore
        → UploadsOrigin (carrier_look origin.tells origin.look c)
        (carrier_look origin.tells origin.look moved_on)
    told_more told tells = record {
      given = refl;
      left = may_same (origin.look c.origin).given (origin.look c.origin).left;
      more = tells.more;
      taken = told_is origin.tells _ [] told ∙ tells.taken
          ∙ ap (λ xs. xs ++ tells.more) (sym (told_is origin.tells _ [] told));
      carried = told_is origin.tells _ [] told ∙ tells.carried
          ∙ ap (λ xs. xs ++ tells.more) (sym (told_is origin.tells _ [] told));
    }

    pub quiet_step : (answer : Uploaded) → is_quiet answer ≡ true
        → CarrierPair client origin inner stage f moved_on
        → (client.tells ≡ true
        → UploadRefuses answer (CarrierRefuses inner.refuses c (source_of client.look f)))
        → (origin.tells ≡ true → TellsMore)
        → (answer ≡ U.NoMemory
        → carrier_look origin.tells origin.look moved_on ≡ carrier_look origin.tells origin.look c)
        → (answer ≡ U.Done → over ≡ true)
        → (answer ≡ U.More → Fewer (carrier_left client origin inner stage f c)
        (carrier_left client origin inner stage f moved_on))
        → NoMore (carrier_left client origin inner stage f c)
        (carrier_left client origin inner stage f moved_on)
        → UploadsStep client origin inner stage answer f f c moved_on
    quiet_step answer quiet pair refusal tells lacks done more calm =
        let fl = front_look client.look f in
        let cl = carrier_look origin.tells origin.look c in
        let dl = carrier_look origin.tells origin.look moved_on in
        record {
          paired = record {
            client = client_still f.client;
            origin = record { inside = origin_still c.origin; setup = refl };
            pair = pair;
            refusal = record { still = λ list r. r; before = λ list r. r };
          };
          causes = record {
            refusal = refusal;
            counts = quiet_counts answer fl fl cl dl quiet;
            lacks = lacks_if answer fl fl cl dl (λ e. (refl, lacks e));
            ends = ends_if answer dl done;
          };
          bytes = record {
            client = λ told. record { all = refl; given = refl; taken = refl };
            origin = λ told. told_more told (tells told);
          };
          keeps = record {
            client = keeps_same fl;
            reads = refl;
            writes = refl;
            carried = refl;
            uploaded = refl;
            origin = record {
              source = refl;
              name = refl;
              plan = refl;
              before = refl;
              faults = omega arith;
              waits = omega arith;
            };
          };
          falls = falls_by answer (carrier_left client origin inner stage f c)
              (carrier_left client origin inner stage f moved_on) (both fl.agains cl.agains)
              (both fl.agains dl.agains)
              more calm
              (subst (λ b. AgainsFall b (both fl.agains cl.agains) (both fl.agains dl.agains))
              (sym (quiet_waits answer quiet)) (no_more_self (both fl.agains cl.agains)));
          sure = λ sure also. record {
            faults = λ never. (quiet_failed answer quiet, refl, refl);
            waits = λ none also_none. quiet_waits answer quiet;
          };
        }
