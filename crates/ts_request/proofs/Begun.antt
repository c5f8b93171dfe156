-- A step behind the beginning of an upload is a step of it.
use Rattle.std.proofs.Common.{◌≡◌, ℕ, inl, inr, List, sym, ap, subst, ◌∙◌, arith}
use Rattle.std.specs.Prelude.{Option, Some, None}
use Rattle.std.specs.Arc.{arc_value}
use Rattle.ts_config.specs.declared.setup.Setup.{Setup}
use Rattle.ts_config.specs.declared.setup.TransformLine.{TransformLine}
use Rattle.ts_link.specs.Link.{Fewer, IsSure, Look, NoMore}
use Rattle.ts_link.specs.declared.link.Link as link
use Rattle.ts_transform.specs.declared.transform.Transform as transform
use Rattle.ts_upstream.specs.Uploads.{UploadCounts, UploadFalls, UploadKeeps, UploadLacks, UploadRefuses}
use Rattle.ts_upstream.specs.Uploads.{Uploads, UploadsSurely, both}
use Rattle.ts_upstream.specs.declared.upstream.Uploaded.{Uploaded}
use Rattle.ts_upstream.specs.declared.upstream.Uploaded.TheVariants as U
use Rattle.ts_upstream.specs.declared.upstream.Upstream as upstream
use Rattle.ts_request.specs.Begun.{Begins}
use Rattle.ts_request.specs.Carried.{UploadsStep}
use Rattle.ts_request.specs.Carrying.{carrier_look, request_lines}
use Rattle.ts_request.specs.Front.{FrontSeen, front_look}
use Rattle.ts_request.specs.Pairing.{CarrierRefuses, carrier_left, source_of}
use Rattle.ts_request.specs.Sent.{RefusesUpload}
use Rattle.ts_request.specs.declared.carrier.Carrier.{Carrier}

-- numbers that fall from a lower one
fewer_from : (a b x : Option ℕ) → NoMore a b → Fewer b x → Fewer a x
fewer_from None b x less fell = tt
fewer_from (Some k) None x less fell = absurd less
fewer_from (Some k) (Some m) None less fell = fell
fewer_from (Some k) (Some m) (Some n) less fell = omega (arith, less, fell)

no_more_from : (a b x : Option ℕ) → NoMore a b → NoMore b x → NoMore a x
no_more_from None b x less fell = tt
no_more_from (Some k) None x less fell = absurd less
no_more_from (Some k) (Some m) None less fell = fell
no_more_from (Some k) (Some m) (Some n) less fell = omega (arith, less, fell)

falls_from : (answer : Uploaded) (a b x m n : Option ℕ) → NoMore a b → UploadFalls answer b x m n
    → UploadFalls answer a x m n
falls_from U.More a b x m n less falls = (fewer_from a b x less falls.0, falls.1)
falls_from U.Again a b x m n less falls = (no_more_from a b x less falls.0, falls.1)
falls_from U.Done a b x m n less falls = (no_more_from a b x less falls.0, falls.1)
falls_from U.ClientFailed a b x m n less falls = (no_more_from a b x less falls.0, falls.1)
falls_from U.OriginFailed a b x m n less falls = (no_more_from a b x less falls.0, falls.1)
falls_from U.Refused a b x m n less falls = (no_more_from a b x less falls.0, falls.1)
falls_from U.NoMemory a b x m n less falls = (no_more_from a b x less falls.0, falls.1)

-- what is refused is the same
refuses_as : (answer : Uploaded) (R Q : Type 0) → (R → Q) → (Q → R) → UploadRefuses answer R
    → UploadRefuses answer Q
refuses_as U.Done R Q to back refusal = λ q. refusal (back q)
refuses_as U.Refused R Q to back refusal = to refusal
refuses_as U.More R Q to back refusal = tt
refuses_as U.Again R Q to back refusal = tt
refuses_as U.ClientFailed R Q to back refusal = tt
refuses_as U.OriginFailed R Q to back refusal = tt
refuses_as U.NoMemory R Q to back refusal = tt

module _ {C O P : Type 0} (client : link.Ghosts C) (origin : link.Ghosts O) (inner : upstream.Ghosts O C)
    (stage : transform.Ghosts P TransformLine) (answer : Uploaded) (f g : FrontSeen C) (c d e : Carrier O P)
    (b : Begins client origin inner stage f c d) (s : UploadsStep client origin inner stage answer f g d e)
  where
    lines_same : request_lines d ≡ request_lines c
    lines_same = ap (λ x. (arc_value {X = Setup} x).requests.items) b.setup

    refuses_begun : (list : List ℕ) → CarrierRefuses inner.refuses c list
        → CarrierRefuses inner.refuses d list
    refuses_begun list (inl r) = inl
        (subst (λ (ls : List TransformLine). RefusesUpload ls list) (sym lines_same) r)
    refuses_begun list (inr r) = inr (subst (λ (o : O). inner.refuses o list) (sym b.origin_is) r)

    refused_before : (list : List ℕ) → CarrierRefuses inner.refuses d list
        → CarrierRefuses inner.refuses c list
    refused_before list (inl r) =
        inl (subst (λ (ls : List TransformLine). RefusesUpload ls list) lines_same r)
    refused_before list (inr r) = inr (subst (λ (o : O). inner.refuses o list) b.origin_is r)

    abbrev fl : Look
    fl = front_look client.look f

    abbrev gl : Look
    gl = front_look client.look g

    abbrev el : Look
    el = carrier_look origin.tells origin.look e

    pub begun_step : UploadsStep client origin inner stage answer f g c e
    begun_step = record {
      paired = record {
        client = s.paired.client;
        origin = record {
          inside = subst (λ (o : O). origin.still o e.origin) b.origin_is s.paired.origin.inside;
          setup = s.paired.origin.setup ∙ b.setup;
        };
        pair = s.paired.pair;
        refusal = record {
          still = λ list r. s.paired.refusal.still list (refuses_begun list r);
          before = λ list r. refused_before list (s.paired.refusal.before list r);
        };
      };
      causes = record {
        refusal = λ told. refuses_as answer (CarrierRefuses inner.refuses d (source_of client.look f))
            (CarrierRefuses inner.refuses c (source_of client.look f))
            (refused_before (source_of client.look f))
            (refuses_begun (source_of client.look f)) (s.causes.refusal told);
        counts = subst (λ (l : Look). UploadCounts answer fl gl l el) b.look s.causes.counts;
        lacks = subst (λ (l : Look). UploadLacks answer fl gl l el) b.look s.causes.lacks;
        ends = s.causes.ends;
      };
      bytes = subst (λ (l : Look). Uploads client.tells origin.tells fl gl l el) b.look s.bytes;
      keeps = subst (λ (l : Look). UploadKeeps fl gl l el) b.look s.keeps;
      falls = falls_from answer (carrier_left client origin inner stage f c)
          (carrier_left client origin inner stage f d)
          (carrier_left client origin inner stage g e)
          (both fl.agains (carrier_look origin.tells origin.look c).agains) (both gl.agains el.agains) b.left
          (subst (λ (l : Look). UploadFalls answer (carrier_left client origin inner stage f d)
          (carrier_left client origin inner stage g e) (both fl.agains l.agains)
          (both gl.agains el.agains)) b.look s.falls);
      sure = λ sure also. subst (λ (l : Look). UploadsSurely answer fl gl l el) b.look
          (s.sure sure (subst (λ (l : Look). IsSure l) (sym b.look) also));
    }
