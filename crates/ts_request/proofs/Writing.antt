-- A step that writes to the origin inside what waits for it.
use Rattle.std.proofs.Common.{◌≡◌, ◌≢◌, ℕ, ◌+◌, ◌*◌, ◌-◌, ◌≤◌, inl, inr, List, [], ◌++◌, length, take, drop}
use Rattle.std.proofs.Common.{Bool, true, false, refl, sym, ap, subst, ◌∙◌, arith, length-append}
use Rattle.std.specs.Prelude.{IsSomeAnd, Option, Some, None, if◌then◌else◌}
use Rattle.std.proofs.lemmas.List.{append-nil, length-drop, length-take}
use Rattle.ts_config.specs.declared.setup.TransformLine.{TransformLine}
use Rattle.ts_link.specs.Counts.{Counted}
use Rattle.ts_link.specs.Link.{AgainsFall, Calls, Fewer, IsSure, IsSurePlan, Look, MayReplace, NeverLeaves}
use Rattle.ts_link.specs.Link.{NeverStalls, NoMore, Plan, TakesMore}
use Rattle.ts_link.specs.declared.link.Link as link
use Rattle.ts_transform.specs.declared.transform.Transform as transform
use Rattle.ts_upstream.specs.Uploads.{Rose8, SameRefusal, UploadCounts, UploadRefuses, both, taken_since}
use Rattle.ts_upstream.specs.Uploads.{upload_failed, upload_waits}
use Rattle.ts_upstream.specs.declared.upstream.Uploaded.TheVariants as U
use Rattle.ts_upstream.specs.declared.upstream.Upstream as upstream
use Rattle.ts_vconn.specs.MoveAnswers.{Went, count_pushed, push_again, push_failed}
use Rattle.ts_vconn.specs.Moves.{Pushes}
use Rattle.ts_vconn.specs.declared.moves.Pushed.{Pushed}
use Rattle.ts_vconn.specs.declared.moves.Pushed.TheVariants as V
use Rattle.ts_request.specs.BodyWay.{to_come, write_cost}
use Rattle.ts_request.specs.Carried.{UploadsStep, answer_pushed}
use Rattle.ts_request.specs.Carrying.{behind_head, carrier_look, look_over, request_lines, stays_plan}
use Rattle.ts_request.specs.Carrying.{without_line}
use Rattle.ts_request.specs.Front.{FrontSeen, body_most, front_look}
use Rattle.ts_request.specs.Pairing.{CarrierPair, CarrierRefuses, StandsFirst, WayBy, all_sent, carrier_left}
use Rattle.ts_request.specs.Pairing.{left_if, own_of, way_left, work_left}
use Rattle.ts_request.specs.declared.carrier.Carrier.{Carrier}
use Rattle.ts_request.specs.declared.carrier.HeadState.{HeadState}
use Rattle.ts_request.specs.declared.carrier.HeadState.TheVariants as H
use Rattle.ts_request.specs.declared.passage.Passage.{Passage}
use Rattle.ts_request.proofs.Steps.{both_less, counted_same, counted_up, ends_if, falls_by, keeps_same}
use Rattle.ts_request.proofs.Steps.{lacks_if, not_left, plan_inside, stays_inside}

-- ---- the answer

pub refuses_if : (p : Pushed) (R : Type 0) → UploadRefuses (answer_pushed p) R
refuses_if (V.Some n) R = tt
refuses_if V.Nothing R = tt
refuses_if V.Again R = tt
refuses_if V.Failed R = tt
refuses_if V.NoMemory R = tt

never_done : (p : Pushed) → answer_pushed p ≡ U.Done → ⊥
never_done (V.Some n) is = let wrong : U.More ≡ U.Done = is in cc
never_done V.Nothing is = let wrong : U.NoMemory ≡ U.Done = is in cc
never_done V.Again is = let wrong : U.Again ≡ U.Done = is in cc
never_done V.Failed is = let wrong : U.OriginFailed ≡ U.Done = is in cc
never_done V.NoMemory is = let wrong : U.NoMemory ≡ U.Done = is in cc

waits_if : (p : Pushed) → upload_waits (answer_pushed p) ≡ push_again p
waits_if (V.Some n) = refl
waits_if V.Nothing = refl
waits_if V.Again = refl
waits_if V.Failed = refl
waits_if V.NoMemory = refl

failed_if : (p : Pushed) → upload_failed (answer_pushed p) ≡ push_failed p
failed_if (V.Some n) = refl
failed_if V.Nothing = refl
failed_if V.Again = refl
failed_if V.Failed = refl
failed_if V.NoMemory = refl

counts_if : (p : Pushed) (l m o o' : Look) → Counted (push_failed p) o.faults o'.faults
    → Counted (push_again p) o.waits o'.waits → UploadCounts (answer_pushed p) l m o o'
counts_if (V.Some n) l m o o' faults waits = tt
counts_if V.Nothing l m o o' faults waits = tt
counts_if V.Again l m o o' faults waits = inr waits
counts_if V.Failed l m o o' faults waits = faults
counts_if V.NoMemory l m o o' faults waits = tt

-- how much went
went_fewer : (p : Pushed) (before after : List ℕ) → before ≢ [] → Went p before after
    → (length after + count_pushed p ≡ length before) × (answer_pushed p ≡ U.More → 1 ≤ count_pushed p)
went_fewer (V.Some n) before after some went = (
  let len : length after ≡ length before - n = ap length went.2 ∙ length-drop n before in
      let fits : n ≤ length before = went.1 in omega (arith, len, fits),
  λ is. went.0,
)
went_fewer V.Nothing before after some went = absurd (some went.0)
went_fewer V.Again before after some went =
    (omega (arith, ap length went.1), λ is. absurd (let wrong : U.Again ≡ U.More = is in cc))
went_fewer V.Failed before after some went =
    (omega (arith, ap length went.1), λ is. absurd (let wrong : U.OriginFailed ≡ U.More = is in cc))
went_fewer V.NoMemory before after some went =
    (omega (arith, ap length went.1), λ is. absurd (let wrong : U.NoMemory ≡ U.More = is in cc))

-- nothing went, and nothing is seen to have changed
still_if : (p : Pushed) (t : Bool) (k l : Look) (before after : List ℕ) → answer_pushed p ≡ U.NoMemory
    → before ≢ [] → Pushes t k l p before after → (l ≡ k) × (after ≡ before)
still_if (V.Some n) t k l before after is some pushes = absurd (let wrong : U.More ≡ U.NoMemory = is in cc)
still_if V.Nothing t k l before after is some pushes = absurd (some pushes.went.0)
still_if V.Again t k l before after is some pushes = absurd (let wrong : U.Again ≡ U.NoMemory = is in cc)
still_if V.Failed t k l before after is some pushes =
    absurd (let wrong : U.OriginFailed ≡ U.NoMemory = is in cc)
still_if V.NoMemory t k l before after is some pushes = (pushes.stands, pushes.went.1)

-- what is left falls by what went
left_falls : (ct ot : Bool) (inside inside' : Option ℕ) (n out out' rest : ℕ) → Rose8 inside inside' n
    → out' + n ≡ out
    → NoMore (left_if ct ot inside (write_cost * out + rest))
    (left_if ct ot inside' (write_cost * out' + rest))
left_falls false ot inside inside' n out out' rest rose went = tt
left_falls true false inside inside' n out out' rest rose went = tt
left_falls true true None inside' n out out' rest rose went = tt
left_falls true true (Some k) None n out out' rest rose went = absurd rose
left_falls true true (Some k) (Some m) n out out' rest rose went = omega (arith, rose, went)

left_less : (ct ot : Bool) (inside inside' : Option ℕ) (n out out' rest : ℕ) → Rose8 inside inside' n
    → out' + n ≡ out → 1 ≤ n
    → Fewer (left_if ct ot inside (write_cost * out + rest))
    (left_if ct ot inside' (write_cost * out' + rest))
left_less false ot inside inside' n out out' rest rose went some = tt
left_less true false inside inside' n out out' rest rose went some = tt
left_less true true None inside' n out out' rest rose went some = tt
left_less true true (Some k) None n out out' rest rose went some = absurd rose
left_less true true (Some k) (Some m) n out out' rest rose went some = omega (arith, rose, went, some)

-- what is not told is not measured
rose_if : (ct ot : Bool) (inside inside' : Option ℕ) (n : ℕ) (P : Option ℕ → Option ℕ → Type 0) (a b : ℕ)
    → ((x : Option ℕ) → P None x) → ((ot ≡ true) → Rose8 inside inside' n)
    → (Rose8 inside inside' n → P (left_if ct ot inside a) (left_if ct ot inside' b))
    → P (left_if ct ot inside a) (left_if ct ot inside' b)
rose_if false ot inside inside' n P a b none rose go = none None
rose_if true false inside inside' n P a b none rose go = none None
rose_if true true inside inside' n P a b none rose go = go (rose refl)

module _ {C O P : Type 0} (client : link.Ghosts C) (origin : link.Ghosts O) (inner : upstream.Ghosts O C)
    (stage : transform.Ghosts P TransformLine) (client_still : (c : C) → client.still c c) where
  module _ (f : FrontSeen C) (c : Carrier O P) (o : O) (out : List ℕ) (p : Pushed) where
    abbrev pub written_on : Carrier O P
    written_on = record c { origin = o; out = out }

    module _ (pushes : Pushes origin.tells (origin.look c.origin) (origin.look o) p c.out out) where
      -- what was sent and waits is the same
      abbrev SameSent : Type 0
      SameSent = origin.tells ≡ true → all_sent origin.look written_on ≡ all_sent origin.look c

      same_sent : SameSent
      same_sent told = pushes.text told

      same_stands : (len : ℕ) (sent : List ℕ → List ℕ) (behind : List ℕ → List ℕ)
          → (origin.tells ≡ true → StandsFirst origin.look len sent (behind (own_of origin.look c)) c)
          → origin.tells ≡ true
          → StandsFirst origin.look len sent (behind (own_of origin.look written_on)) written_on
      same_stands len sent behind stands told =
          let s = stands told in
          record {
            head = s.head;
            long = s.long;
            text = pushes.text told ∙ s.text ∙ ap (λ xs. sent s.head ++ behind xs) (sym pushes.calls.carried);
          }

      way_on : (head : HeadState) (passage : Option (Passage P)) (len line : ℕ) → head ≡ H.Sent len line
          → c.passage ≡ passage
          → WayBy client origin inner stage head passage f c
          → WayBy client origin inner stage head passage f written_on
      way_on H.Held passage len line begun is way = absurd (let wrong : H.Held ≡ H.Sent len line = begun in
          cc)
      way_on (H.Sent a b) None len line begun is way = record {
        line_is = way.line_is;
        lacks = way.lacks;
        stands = same_stands a (λ head. head) (λ own. own) way.stands;
      }
      way_on (H.Sent a b) (Some q) len line begun is way = record {
        framing = way.framing;
        uploading = way.uploading;
        line_is = way.line_is;
        mode_is = way.mode_is;
        fed = way.fed;
        read = way.read;
        text = way.text;
        came = way.came;
        writes = way.writes;
        before = way.before;
        stands = same_stands a _ (λ own. own ++ way.text) way.stands;
      }

      module _ (begun : (len : ℕ) × (line : ℕ) × (c.head ≡ H.Sent len line)) (some : c.out ≢ [])
          (pair : CarrierPair client origin inner stage f c) (inside : inner.paired f.client o)
          (refusal : SameRefusal (inner.refuses c.origin) (inner.refuses o)) (still : origin.still c.origin o)
          (rose : Rose8 (inner.upload_left f.client c.origin) (inner.upload_left f.client o)
          (taken_since (origin.look c.origin) (origin.look o))) where
        pair_written : CarrierPair client origin inner stage f written_on
        pair_written = record {
          inside = inside;
          acts = pair.acts;
          way = way_on c.head c.passage begun.0 begun.1 begun.2 refl pair.way;
          own_done = λ asked told refused. pair.own_done asked told (refusal.before _ refused);
          done = λ over. absurd (some (pair.done over).sent);
        }

        refusal_on : SameRefusal (CarrierRefuses inner.refuses c) (CarrierRefuses inner.refuses written_on)
        refusal_on = record {
          still = λ list r. elim r [ inl a ↦ inl a | inr b ↦ inr (refusal.still list b) ];
          before = λ list r. elim r [ inl a ↦ inl a | inr b ↦ inr (refusal.before list b) ];
        }

        taken_same : origin.tells ≡ true
            → (carrier_look origin.tells origin.look written_on).taken
            ≡ (carrier_look origin.tells origin.look c).taken
        taken_same told =
            ap (λ xs. if origin.tells then without_line c.head xs else []) (same_sent told)

        -- carried by each state of the head
        behind_same : (head : HeadState) (a b xs ys : List ℕ) → a ≡ b → xs ≡ ys
            → behind_head head a xs ≡ behind_head head b ys
        behind_same H.Held a b xs ys same also = same
        behind_same (H.Sent len line) a b xs ys same also = ap
            (λ zs. drop len (without_line (H.Sent len line) zs)) also

        carried_same : origin.tells ≡ true
            → (carrier_look origin.tells origin.look written_on).carried
            ≡ (carrier_look origin.tells origin.look c).carried
        carried_same told =
            ap (λ xs. if origin.tells then xs else [])
            (behind_same c.head _ _ _ _ pushes.calls.carried (same_sent told))

        since_is : origin.tells ≡ true → taken_since (origin.look c.origin) (origin.look o) ≡ count_pushed p
        since_is told =
            let len = ap length (pushes.told told).taken ∙ length-append (origin.look c.origin).taken
            (take (count_pushed p) c.out) in
            let gone = went_fewer p c.out out some pushes.went in
            let front = length-take (count_pushed p) c.out in
            omega (arith, len, gone.0, front)

        rose_on : origin.tells ≡ true → Rose8 (inner.upload_left f.client c.origin) (inner.upload_left
            f.client o) (count_pushed p)
        rose_on told = subst
            (λ n. Rose8 (inner.upload_left f.client c.origin) (inner.upload_left f.client o) n)
            (since_is told) rose

        -- the rest of what is left
        abbrev pub rest_left : ℕ
        rest_left = (to_come c.asked + to_come c.over)
            + way_left (request_lines c) stage.rest (body_most f.text (client.look f.client))
            (length c.inbox) c.passage

        left_is : (head : HeadState) (d : Carrier O P) (n : ℕ)
            → (len : ℕ) × (line : ℕ) × (head ≡ H.Sent len line)
            → work_left stage.rest n head d ≡ write_cost * length d.out
            + ((to_come d.asked + to_come d.over)
            + way_left (request_lines d) stage.rest n (length d.inbox) d.passage)
        left_is H.Held d n (len, line, is) = absurd (let wrong : H.Held ≡ H.Sent len line = is in cc)
        left_is (H.Sent a b) d n is = omega arith

        abbrev pub most : ℕ
        most = body_most f.text (client.look f.client)

        -- what is left, by what waits
        by_out : (Q : Option ℕ → Option ℕ → Type 0)
            → Q (left_if client.tells origin.tells (inner.upload_left f.client c.origin)
            (write_cost * length c.out + rest_left))
            (left_if client.tells origin.tells (inner.upload_left f.client o)
            (write_cost * length out + rest_left))
            → Q (carrier_left client origin inner stage f c)
            (carrier_left client origin inner stage f written_on)
        by_out Q at =
            subst (λ (n : ℕ). Q (left_if client.tells origin.tells (inner.upload_left f.client c.origin) n)
            (carrier_left client origin inner stage f written_on)) (sym (left_is c.head c most begun))
            (subst (λ (n : ℕ). Q (left_if client.tells origin.tells (inner.upload_left f.client c.origin)
            (write_cost * length c.out + rest_left))
            (left_if client.tells origin.tells (inner.upload_left f.client o) n))
            (sym (left_is c.head written_on most begun)) at)

        calm_left : NoMore (carrier_left client origin inner stage f c)
            (carrier_left client origin inner stage f written_on)
        calm_left =
            by_out NoMore
            (rose_if client.tells origin.tells (inner.upload_left f.client c.origin)
            (inner.upload_left f.client o)
            (count_pushed p) NoMore (write_cost * length c.out + rest_left)
            (write_cost * length out + rest_left)
            (λ x. tt) rose_on (λ r. left_falls client.tells origin.tells (inner.upload_left f.client c.origin)
            (inner.upload_left f.client o) (count_pushed p) (length c.out) (length out) rest_left r
            (went_fewer p c.out out some pushes.went).0))

        less_left : answer_pushed p ≡ U.More
            → Fewer (carrier_left client origin inner stage f c)
            (carrier_left client origin inner stage f written_on)
        less_left is =
            by_out Fewer
            (rose_if client.tells origin.tells (inner.upload_left f.client c.origin)
            (inner.upload_left f.client o)
            (count_pushed p) Fewer (write_cost * length c.out + rest_left)
            (write_cost * length out + rest_left)
            (λ x. tt) rose_on (λ r. left_less client.tells origin.tells (inner.upload_left f.client c.origin)
            (inner.upload_left f.client o) (count_pushed p) (length c.out) (length out) rest_left r
            (went_fewer p c.out out some pushes.went).0 ((went_fewer p c.out out some pushes.went).1 is)))

        -- where nothing is seen of the origin to have changed, nothing is of the carrier
        same_look : (l m : Look) → m ≡ l → out ≡ c.out
            → look_over origin.tells m written_on ≡ look_over origin.tells l c
        same_look l m same also =
            (λ i. look_over origin.tells (same i) (record c { origin = o; out = also i }))

        pub write_step : UploadsStep client origin inner stage (answer_pushed p) f f c written_on
        write_step =
            let fl = front_look client.look f in
            let cl = carrier_look origin.tells origin.look c in
            let dl = carrier_look origin.tells origin.look written_on in
            record {
              paired = record {
                client = client_still f.client;
                origin = record { inside = still; setup = refl };
                pair = pair_written;
                refusal = refusal_on;
              };
              causes = record {
                refusal = λ told. refuses_if p _;
                counts = counts_if p fl fl cl dl pushes.calls.faults pushes.calls.waits;
                lacks = lacks_if (answer_pushed p) fl fl cl dl (λ is.
                    let same = still_if p origin.tells (origin.look c.origin) (origin.look o) c.out out is
                    some pushes in
                    (refl, same_look (origin.look c.origin) (origin.look o) same.0 same.1));
                ends = ends_if (answer_pushed p) dl (λ is. absurd (never_done p is));
              };
              bytes = record {
                client = λ told. record { all = refl; given = refl; taken = refl };
                origin = λ told. record {
                  given = (pushes.told told).given;
                  left = (pushes.told told).left;
                  more = [];
                  taken = taken_same told ∙ sym (append-nil cl.taken);
                  carried = carried_same told ∙ sym (append-nil cl.carried);
                };
              };
              keeps = record {
                client = keeps_same fl;
                reads = refl;
                writes = refl;
                carried = refl;
                uploaded = refl;
                origin = record {
                  source = pushes.calls.source;
                  name = pushes.calls.name;
                  plan = ap stays_plan pushes.calls.plan;
                  before = pushes.calls.before;
                  faults = counted_up (push_failed p) (origin.look c.origin).faults
                      (origin.look o).faults pushes.calls.faults;
                  waits = counted_up (push_again p) (origin.look c.origin).waits
                      (origin.look o).waits pushes.calls.waits;
                };
              };
              falls = falls_by (answer_pushed p) (carrier_left client origin inner stage f c)
                  (carrier_left client origin inner stage f written_on) (both fl.agains cl.agains)
                  (both fl.agains dl.agains) less_left calm_left
                  (subst (λ b. AgainsFall b (both fl.agains cl.agains) (both fl.agains dl.agains))
                  (sym (waits_if p))
                  (both_less (push_again p) fl.agains cl.agains dl.agains pushes.calls.agains));
              sure = λ sure also.
                  let went = pushes.sure (plan_inside (origin.look c.origin).plan IsSurePlan also) in
                  record {
                    faults = λ never.
                        let none : push_failed p ≡ false = fails_not p
                        (stays_inside (origin.look c.origin).plan (λ q. q.leave ≡ None) never) went.1 in (
                          failed_if p ∙ none,
                          refl,
                          counted_same (push_failed p) (origin.look c.origin).faults
                              (origin.look o).faults none pushes.calls.faults,
                        );
                    waits = λ none also_none. waits_if p ∙ went.0;
                  };
            }
          where
            fails_not : (q : Pushed) → IsSomeAnd (origin.look c.origin).plan (λ x. x.leave ≡ None)
                → (push_failed q ≡ true → Rattle.ts_link.specs.Link.HasLeft (origin.look c.origin))
                → push_failed q ≡ false
            fails_not V.Failed never left =
                absurd (not_left (origin.look c.origin).plan (length (origin.look c.origin).taken) never
                (left refl))
            fails_not (V.Some n) never left = refl
            fails_not V.Nothing never left = refl
            fails_not V.Again never left = refl
            fails_not V.NoMemory never left = refl
