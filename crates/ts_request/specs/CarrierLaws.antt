-- Calls of a carrier as a link, and of the front that belongs to it: none at all, and calls after calls.
use Rattle.std.specs.Prelude.{◌≡◌, ℕ, ◌+◌, ◌*◌, ◌≤◌, List, [], ◌∷◌, ◌++◌, length, Bool, true, false, Option}
use Rattle.std.specs.Prelude.{Some, None}
use Rattle.std.proofs.Common.{◌∙◌, ap, arith, inl, inr, refl, subst, sym}
use Rattle.ts_config.specs.declared.setup.TransformLine.{TransformLine}
use Rattle.ts_link.specs.Link.{Look}
use Rattle.ts_link.specs.declared.link.Link as link
use Rattle.ts_passing.specs.Lines.{passes}
use Rattle.ts_transform.specs.declared.transform.Transform as transform
use Rattle.ts_upstream.specs.Uploads.{Rose8, SameRefusal, taken_since}
use Rattle.ts_upstream.specs.declared.upstream.Uploaded.{Uploaded}
use Rattle.ts_upstream.specs.declared.upstream.Upstream as upstream
use Rattle.ts_wire.specs.declared.framing.Framing.{Framing}
use Rattle.ts_request.specs.BodyWay.{to_read}
use Rattle.ts_request.specs.Carrying.{CarrierGoes, CarrierStill, GoesOut, carrier_look, request_lines}
use Rattle.ts_request.specs.Front.{FrontGoes, FrontSeen, StageStays, body_most}
use Rattle.ts_request.specs.Pairing.{CarrierPair, CarrierRefuses, StandsFirst, WayBy, all_sent, carrier_left}
use Rattle.ts_request.specs.Pairing.{carrier_work, handed_of, left_if, own_of, source_of, way_left, work_left}
use Rattle.ts_request.specs.declared.carrier.Carrier.{Carrier}
use Rattle.ts_request.specs.declared.carrier.HeadState.{HeadState}
use Rattle.ts_request.specs.declared.carrier.HeadState.TheVariants as H
use Rattle.ts_request.specs.declared.passage.Passage.{Passage}
use Rattle.ts_request.specs.declared.stage.Stage.{Stage}
use Rattle.ts_request.specs.declared.stage.Stage.TheVariants as S

-- ---- a link, an origin's link and a transform by their members

abbrev pub as_link : {L : Type 0} → Bool → (L → Look) → (L → L → Type 0) → (L → L → Type 0) → link.Ghosts L
as_link tells look goes still = record { tells = tells; look = look; goes = goes; still = still }

abbrev pub as_origin : {C O : Type 0} → (C → O → Type 0) → (O → List ℕ → Type 0) → (C → O → Option ℕ)
    → (C → O → C → O → Uploaded → Type 0) → upstream.Ghosts O C
as_origin paired refuses left once =
    record { paired = paired; refuses = refuses; upload_left = left; one_upload = once }

abbrev pub as_stage : {P : Type 0} → (P → List ℕ → List ℕ) → (P → List ℕ → Option (List ℕ))
    → (TransformLine → List ℕ → Option (List ℕ)) → (TransformLine → List ℕ → List ℕ) → (P → ℕ)
    → (TransformLine → ℕ)
    → transform.Ghosts P TransformLine
as_stage rest soon line_soon whole pause line_pause = record {
  rest = rest;
  soon = soon;
  line_soon = line_soon;
  whole = whole;
  pause = pause;
  line_pause = line_pause;
}

-- ---- of the carrier alone

pub out_stays : (head : HeadState) (out : List ℕ) → GoesOut head out out
out_stays H.Held out = λ few. few
out_stays (H.Sent len line) out = refl

out_goes_on : (head : HeadState) (a b c : List ℕ) → GoesOut head a b → GoesOut head b c → GoesOut head a c
out_goes_on H.Held a b c p q = λ few. q (p few)
out_goes_on (H.Sent len line) a b c p q = q ∙ p

module _ {O P : Type 0} (origin : link.Ghosts O) where
  pub carrier_stays : ((o : O) → origin.goes o o) → (c : Carrier O P) → CarrierGoes origin c c
  carrier_stays stays c = record {
    inside = stays c.origin;
    taken = λ told. refl;
    carried = refl;
    out = out_stays c.head c.out;
    others = refl;
  }

  pub carrier_goes_on : ((l m n : O) → origin.goes l m → origin.goes m n → origin.goes l n)
      → (a b c : Carrier O P) → CarrierGoes origin a b → CarrierGoes origin b c → CarrierGoes origin a c
  carrier_goes_on goes_on a b c g h = record {
    inside = goes_on a.origin b.origin c.origin g.inside h.inside;
    taken = λ told. h.taken told ∙ g.taken told;
    carried = h.carried ∙ g.carried;
    out = out_goes_on a.head a.out b.out c.out g.out
        (subst (λ (head : HeadState). GoesOut head b.out c.out)
        (ap (λ (x : Carrier O P). x.head) g.others) h.out);
    others = h.others
        ∙ ap (λ (x : Carrier O P). record x { origin = c.origin; out = c.out; writes = c.writes }) g.others;
  }

  pub carrier_goes_still : ((l m : O) → origin.goes l m → origin.still l m)
      → (a b : Carrier O P) → CarrierGoes origin a b → CarrierStill origin a b
  carrier_goes_still goes_still a b g = record {
    inside = goes_still a.origin b.origin g.inside;
    setup = ap (λ (x : Carrier O P). x.setup) g.others;
  }

  pub carrier_still_on : ((l m n : O) → origin.still l m → origin.still m n → origin.still l n)
      → (a b c : Carrier O P) → CarrierStill origin a b → CarrierStill origin b c → CarrierStill origin a c
  carrier_still_on still_on a b c g h = record {
    inside = still_on a.origin b.origin c.origin g.inside h.inside;
    setup = h.setup ∙ g.setup;
  }

-- what it refuses stays, where what its origin refuses does
pub refusal_on : {O P : Type 0} (origin : link.Ghosts O) (refuses : O → List ℕ → Type 0) (c d : Carrier O P)
    → CarrierGoes origin c d → SameRefusal (refuses c.origin) (refuses d.origin)
    → SameRefusal (CarrierRefuses refuses c) (CarrierRefuses refuses d)
refusal_on {O} {P} origin refuses c d also refusal =
    subst (λ (x : Carrier O P). SameRefusal (CarrierRefuses refuses c) (CarrierRefuses refuses x))
    (sym also.others) same
  where
    same : SameRefusal (CarrierRefuses refuses c)
        (CarrierRefuses refuses (record c { origin = d.origin; out = d.out; writes = d.writes }))
    same = record {
      still = λ list r. elim r [ inl a ↦ inl a | inr b ↦ inr (refusal.still list b) ];
      before = λ list r. elim r [ inl a ↦ inl a | inr b ↦ inr (refusal.before list b) ];
    }

-- ---- of the front and the carrier together

-- once it is known that there is an upload, it stays so
stage_kept : (old new : Stage) (framing : Framing) → old ≡ S.Uploading framing → StageStays old new
    → new ≡ S.Uploading framing
stage_kept S.Heading new framing is stays = absurd (let wrong : S.Heading ≡ S.Uploading framing = is in cc)
stage_kept S.Passing new framing is stays = absurd (let wrong : S.Passing ≡ S.Uploading framing = is in cc)
stage_kept (S.Uploading other) new framing is stays = stays ∙ is

-- less to read is less to do
pub passes_less : (ls : List TransformLine) (m n : ℕ) → m ≤ n → passes ls m ≤ passes ls n
passes_less [] m n less = less
passes_less (l ∷ ls) m n less =
    let rest : passes ls m ≤ passes ls n = passes_less ls m n less in omega (arith, rest, less)

read_less : (ls : List TransformLine) (m n held : ℕ) → m ≤ n → to_read ls m held ≤ to_read ls n held
read_less ls m n held less =
    let rest : passes ls (m + held) ≤ passes ls (n + held) =
    passes_less ls (m + held) (n + held) (omega (arith, less)) in
    omega (arith, rest, less)

way_less : {P : Type 0} (ls : List TransformLine) (rest : P → List ℕ → List ℕ) (m n held : ℕ)
    (p : Option (Passage P))
    → m ≤ n → way_left ls rest m held p ≤ way_left ls rest n held p
way_less ls rest m n held None less = omega arith
way_less ls rest m n held (Some p) less = let more = read_less ls m n held less in omega (arith, more)

-- what is left does not rise by more than what the origin inside rises by
rises_by : (ct ot : Bool) (inside inside' : Option ℕ) (work work' n k : ℕ)
    → (ct ≡ true → ot ≡ true → Rose8 inside inside' n) → (ct ≡ true → ot ≡ true → n ≡ 0)
    → (ct ≡ true → work' ≤ work) → Rose8 (left_if ct ot inside work) (left_if ct ot inside' work') k
rises_by false ot inside inside' work work' n k rose none less = tt
rises_by true false inside inside' work work' n k rose none less = tt
rises_by true true None inside' work work' n k rose none less = tt
rises_by true true (Some a) None work work' n k rose none less = rose refl refl
rises_by true true (Some a) (Some b) work work' n k rose none less =
    let up : b ≤ a + 8 * n = rose refl refl in
    let zero : n ≡ 0 = none refl refl in
    let calm : work' ≤ work = less refl in omega (arith, up, zero, calm)

module _ {C O P : Type 0} (client : link.Ghosts C) (origin : link.Ghosts O) (inner : upstream.Ghosts O C)
    (stage : transform.Ghosts P TransformLine) where
  module _ (f g : FrontSeen C) (c d : Carrier O P) (goes : FrontGoes client f g)
      (also : CarrierGoes origin c d) where
    abbrev pub gone : Carrier O P
    gone = record c { origin = d.origin; out = d.out; writes = d.writes }

    sent_same : d.out ≡ c.out → origin.tells ≡ true → all_sent origin.look gone ≡ all_sent origin.look c
    sent_same same told = λ i. also.taken told i ++ same i

    stands_on : (len : ℕ) (sent : List ℕ → List ℕ) (text : List ℕ) → d.out ≡ c.out
        → (origin.tells ≡ true → StandsFirst origin.look len sent (own_of origin.look c ++ text) c)
        → origin.tells ≡ true → StandsFirst origin.look len sent (own_of origin.look gone ++ text) gone
    stands_on len sent text same stands told =
        let s = stands told in
        record {
          head = s.head;
          long = s.long;
          text = sent_same same told ∙ s.text ∙ ap (λ own. sent s.head ++ (own ++ text)) (sym also.carried);
        }

    handed_on : client.tells ≡ true → handed_of client.look g ≡ handed_of client.look f
    handed_on told = goes.body.given told

    way_goes : (head : HeadState) (passage : Option (Passage P)) → GoesOut head c.out d.out
        → WayBy client origin inner stage head passage f c
        → WayBy client origin inner stage head passage g gone
    way_goes H.Held passage out way = record {
      passage = way.passage;
      inbox = way.inbox;
      asked = way.asked;
      over = way.over;
      few = out way.few;
      handed = λ told. handed_on told ∙ way.handed told;
      taken = λ told. also.taken told ∙ way.taken told;
      own = λ told. also.carried ∙ way.own told;
    }
    way_goes (H.Sent len line) None out way = record {
      line_is = way.line_is;
      lacks = λ told. subst (λ (list : List ℕ). Rattle.ts_request.specs.Upload.LacksUpload list)
          (sym goes.source)
          (way.lacks told);
      stands = λ told. record {
        head = (way.stands told).head;
        long = (way.stands told).long;
        text = sent_same out told ∙ (way.stands told).text
            ∙ ap (λ own. (way.stands told).head ++ own) (sym also.carried);
      };
    }
    way_goes (H.Sent len line) (Some p) out way = record {
      framing = way.framing;
      uploading = stage_kept f.text.stage g.text.stage way.framing way.uploading goes.body.stage;
      line_is = way.line_is;
      mode_is = way.mode_is;
      fed = way.fed;
      read = way.read;
      text = way.text;
      came = λ told. handed_on told ∙ way.came told;
      writes = way.writes;
      before = way.before;
      stands = stands_on len _ way.text out way.stands;
    }

    -- nothing waits where the upload is done
    none_waits : (head : HeadState) (passage : Option (Passage P)) → GoesOut head c.out d.out
        → WayBy client origin inner stage head passage f c → c.over ≡ true → c.out ≡ [] → d.out ≡ []
    none_waits H.Held passage out way over none =
        absurd (let wrong : false ≡ true = sym way.over ∙ over in cc)
    none_waits (H.Sent len line) passage out way over none = out ∙ none

    module _ (inside : inner.paired g.client d.origin)
        (refusal : SameRefusal (inner.refuses c.origin) (inner.refuses d.origin)) where
      refuses_back : (list list' : List ℕ) → list' ≡ list → CarrierRefuses inner.refuses gone list'
          → CarrierRefuses inner.refuses c list
      refuses_back list list' same (inl a) =
          inl (subst (λ (l : List ℕ). Rattle.ts_request.specs.Sent.RefusesUpload (request_lines c) l) same a)
      refuses_back list list' same (inr b) =
          inr (subst (λ (l : List ℕ). inner.refuses c.origin l) same (refusal.before list' b))

      pub pair_gone : CarrierPair client origin inner stage f c → CarrierPair client origin inner stage g gone
      pair_gone pair = record {
        inside = inside;
        acts = pair.acts;
        way = way_goes c.head c.passage also.out pair.way;
        own_done = λ asked told refused. pair.own_done asked told
            (subst (λ (l : List ℕ). inner.refuses c.origin l) goes.source (refusal.before _ refused));
        done = λ over.
            let done = pair.done over in
            record {
              asked = done.asked;
              sent = none_waits c.head c.passage also.out pair.way over done.sent;
              ended = done.ended;
              accepts = λ told refused. done.accepts told
                  (refuses_back (source_of client.look f) (source_of client.look g) goes.source refused);
            };
      }

    pub pair_on : inner.paired g.client d.origin
        → SameRefusal (inner.refuses c.origin) (inner.refuses d.origin)
        → CarrierPair client origin inner stage f c → CarrierPair client origin inner stage g d
    pair_on inside refusal pair =
        subst (λ (x : Carrier O P). CarrierPair client origin inner stage g x) (sym also.others)
        (pair_gone inside refusal pair)

    -- what is left

    work_on : (head : HeadState) → GoesOut head c.out d.out → (m n : ℕ) → n ≤ m
        → work_left stage.rest n head gone ≤ work_left stage.rest m head c
    work_on H.Held out m n less = let more = read_less (request_lines c) n m 0 less in omega (arith, more)
    work_on (H.Sent len line) out m n less =
        let same = ap length out in
        let more = way_less (request_lines c) stage.rest n m (length c.inbox) c.passage less in
        omega (arith, same, more)

    since_none : origin.tells ≡ true → taken_since (origin.look c.origin) (origin.look d.origin) ≡ 0
    since_none told = let same = ap length (also.taken told) in omega (arith, same)

    pub left_on : Rose8 (inner.upload_left f.client c.origin) (inner.upload_left g.client d.origin)
        (taken_since (origin.look c.origin) (origin.look d.origin))
        → Rose8 (carrier_left client origin inner stage f c) (carrier_left client origin inner stage g d)
        (taken_since (carrier_look origin.tells origin.look c) (carrier_look origin.tells origin.look d))
    left_on rose =
        subst (λ (x : Carrier O P). Rose8 (carrier_left client origin inner stage f c)
        (carrier_left client origin inner stage g x)
        (taken_since (carrier_look origin.tells origin.look c) (carrier_look origin.tells origin.look x)))
        (sym also.others)
        (rises_by client.tells origin.tells (inner.upload_left f.client c.origin)
        (inner.upload_left g.client d.origin)
        (carrier_work stage.rest (body_most f.text (client.look f.client)) c)
        (carrier_work stage.rest (body_most g.text (client.look g.client)) gone)
        (taken_since (origin.look c.origin) (origin.look d.origin))
        (taken_since (carrier_look origin.tells origin.look c) (carrier_look origin.tells origin.look gone))
        (λ told tells. rose) (λ told tells. since_none tells)
        (λ told. work_on c.head also.out (body_most f.text (client.look f.client))
        (body_most g.text (client.look g.client)) (goes.body.most told)))
