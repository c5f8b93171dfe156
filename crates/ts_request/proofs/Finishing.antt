-- The steps that end an upload: it is done, or refused; and a read of its body.
use Rattle.std.proofs.Common.{◌≡◌, ◌≢◌, ℕ, ◌≤◌, inl, inr, List, [], ◌++◌, true, refl, sym, ap, subst, ◌∙◌}
use Rattle.std.proofs.Common.{arith, append_assoc}
use Rattle.std.specs.Prelude.{Option, Some, None}
use Rattle.std.proofs.lemmas.List.{append-nil}
use Rattle.httparse.specs.Grammar as grammar
use Rattle.ts_config.specs.declared.setup.TransformLine.{TransformLine}
use Rattle.ts_link.specs.Link.{Look, all_of}
use Rattle.ts_link.specs.declared.link.Link as link
use Rattle.ts_transform.specs.declared.transform.Transform as transform
use Rattle.ts_upstream.specs.declared.upstream.Uploaded.TheVariants as U
use Rattle.ts_upstream.specs.declared.upstream.Upstream as upstream
use Rattle.ts_wire.specs.declared.body.BodyState.{BodyState}
use Rattle.ts_wire.specs.declared.body.BodyState.TheVariants as B
use Rattle.ts_wire.specs.declared.framing.Framing.{Framing}
use Rattle.ts_wire.specs.Frames.{cut_body}
use Rattle.ts_wire.specs.Place.{state_of}
use Rattle.ts_request.specs.Begun.{IsBegun}
use Rattle.ts_request.specs.Carried.{UploadsStep}
use Rattle.ts_request.specs.Carrying.{request_lines}
use Rattle.ts_request.specs.Front.{FrontSeen, IsShown, ShowsClient, body_left, body_most, front_look}
use Rattle.ts_request.specs.Pairing.{CarrierPair, CarrierRefuses, IsDone, IsEnded, SendsBody, SendsPlain}
use Rattle.ts_request.specs.Pairing.{WayBy, carrier_left, handed_of, source_of, work_left}
use Rattle.ts_request.specs.PassageSteps.{Stalls}
use Rattle.ts_request.specs.Sent.{RefusesUpload}
use Rattle.ts_request.specs.Upload.{HasUpload, LacksUpload}
use Rattle.ts_request.specs.declared.carrier.Carrier.{Carrier}
use Rattle.ts_request.specs.declared.carrier.HeadState.{HeadState}
use Rattle.ts_request.specs.declared.carrier.HeadState.TheVariants as H
use Rattle.ts_request.specs.declared.passage.Passage.{Passage}
use Rattle.ts_request.specs.declared.stage.Stage.{Stage}
use Rattle.ts_request.specs.declared.stage.Stage.TheVariants as S
use Rattle.ts_request.proofs.BodyWay.{finished_whole, rests_late}
use Rattle.ts_request.proofs.Bodies.{calm_work, idle_step, open_stalls, way_body}
use Rattle.ts_request.proofs.Judging.{early_accepts, ended_accepts, other_accepts, short_refused}
use Rattle.ts_request.proofs.Steps.{quiet_step}

-- ---- what a front knows of its client's source

shown_upload : (s : Stage) (framing : Framing) (c shown body : List ℕ) → s ≡ S.Uploading framing
    → IsShown s c shown body
    → (h : grammar.RequestHead) × HasUpload c h framing body
shown_upload S.Heading framing c shown body is shows = absurd (let wrong : S.Heading ≡ S.Uploading framing =
    is in cc)
shown_upload S.Passing framing c shown body is shows = absurd (let wrong : S.Passing ≡ S.Uploading framing =
    is in cc)
shown_upload (S.Uploading other) framing c shown body is shows =
    let same : other ≡ framing = ap (λ (s : Stage). framing_or framing s) is in
    (shows.0, subst (λ (g : Framing). HasUpload c shows.0 g body) same shows.1)
  where
    framing_or : Framing → Stage → Framing
    framing_or least (S.Uploading f) = f
    framing_or least s = least

shown_plain : (s : Stage) (c shown body : List ℕ) → s ≡ S.Passing → IsShown s c shown body → LacksUpload c
shown_plain S.Heading c shown body is shows = absurd (let wrong : S.Heading ≡ S.Passing = is in cc)
shown_plain S.Passing c shown body is shows = shows.0
shown_plain (S.Uploading framing) c shown body is shows =
    absurd (let wrong : S.Uploading framing ≡ S.Passing = is in cc)

-- what was handed over and may still be follows the head in the client's source
pub source_upload : {C : Type 0} (look : C → Look) (f : FrontSeen C) (framing : Framing)
    → f.text.stage ≡ S.Uploading framing → ShowsClient look f
    → all_of (look f.client) ≡ (look f.client).source
    → (h : grammar.RequestHead) × HasUpload (source_of look f) h framing
    (handed_of look f ++ body_left f.text (look f.client))
source_upload look f framing uploading shows known =
    let found = shown_upload f.text.stage framing (all_of (look f.client)) (all_of (front_look look f))
    (handed_of look f ++ body_left f.text (look f.client)) uploading shows in (
      found.0,
      subst (λ (list : List ℕ). HasUpload list found.0 framing
          (handed_of look f ++ body_left f.text (look f.client))) known found.1,
    )

-- or it has none
pub source_plain : {C : Type 0} (look : C → Look) (f : FrontSeen C) → f.text.stage ≡ S.Passing
    → ShowsClient look f
    → all_of (look f.client) ≡ (look f.client).source → LacksUpload (source_of look f)
source_plain look f passing shows known =
    subst (λ (list : List ℕ). LacksUpload list) known
    (shown_plain f.text.stage (all_of (look f.client)) (all_of (front_look look f))
    (handed_of look f ++ body_left f.text (look f.client)) passing shows)

module _ {C O P : Type 0} (client : link.Ghosts C) (origin : link.Ghosts O) (inner : upstream.Ghosts O C)
    (stage : transform.Ghosts P TransformLine) where
  -- the client's source, by what was fed of the body, what waits, and what is left
  fed_upload : (f : FrontSeen C) (c : Carrier O P) (len line : ℕ) (p : Passage P)
      → (b : SendsBody client origin inner stage len line p f c) → client.tells ≡ true
      → ShowsClient client.look f
      → all_of (client.look f.client) ≡ source_of client.look f
      → (h : grammar.RequestHead) × HasUpload (source_of client.look f) h b.framing
      (b.fed ++ (c.inbox ++ body_left f.text (client.look f.client)))
  fed_upload f c len line p b told shows known =
      let found = source_upload client.look f b.framing b.uploading shows known in (
        found.0,
        subst (λ (rest : List ℕ). HasUpload (source_of client.look f) found.0 b.framing rest)
            (ap (λ xs. xs ++ body_left f.text (client.look f.client)) (b.came told)
            ∙ append_assoc b.fed c.inbox (body_left f.text (client.look f.client))) found.1,
      )

  -- ---- the upload is done

  accepts_body : (f : FrontSeen C) (c : Carrier O P) (len line : ℕ) (p : Passage P)
      → (b : SendsBody client origin inner stage len line p f c) → p.ended ≡ true → client.tells ≡ true
      → ShowsClient client.look f → all_of (client.look f.client) ≡ source_of client.look f
      → RefusesUpload (request_lines c) (source_of client.look f) → ⊥
  accepts_body f c len line p b ended told shows known refused =
      let found = fed_upload f c len line p b told shows known in
      let way = b.writes.way in
      let more = c.inbox ++ body_left f.text (client.look f.client) in
      let whole = finished_whole stage (request_lines c) b.framing b.fed b.read (cut_body b.writes.pieces) p
      (b.writes.finished ended) way in
      elim whole.over [
        | inl given ↦ ended_accepts (request_lines c)
            (source_of client.look f) found.0 b.framing b.fed b.read more
            way.place found.1 way.is_fed (way.over given) refused
        | inr early ↦ early_accepts (request_lines c)
            (source_of client.look f) found.0 b.framing b.fed b.read more
            way.place found.1 way.is_fed early refused
      ]

  accepts_by : (f : FrontSeen C) (c : Carrier O P) (head : HeadState) (passage : Option (Passage P))
      → IsBegun head
      → IsEnded passage → client.tells ≡ true → ShowsClient client.look f
      → all_of (client.look f.client) ≡ source_of client.look f
      → WayBy client origin inner stage head passage f c
      → RefusesUpload (request_lines c) (source_of client.look f) → ⊥
  accepts_by f c H.Held passage (len, line, is) ended told shows known way refused =
      absurd (let wrong : H.Held ≡ H.Sent len line = is in cc)
  accepts_by f c (H.Sent len line) None begun ended told shows known way refused =
      other_accepts (request_lines c) (source_of client.look f) (way.lacks told) refused
  accepts_by f c (H.Sent len line) (Some p) begun ended told shows known way refused =
      accepts_body f c len line p way ended told shows known refused

  module _ (client_still : (c : C) → client.still c c) (origin_still : (o : O) → origin.still o o)
      (f : FrontSeen C) (c : Carrier O P) (pair : CarrierPair client origin inner stage f c)
      (shows : client.tells ≡ true → ShowsClient client.look f)
      (known : client.tells ≡ true → all_of (client.look f.client) ≡ source_of client.look f) where
    abbrev pub over_on : Carrier O P
    over_on = record c { over = true }

    accepts : IsBegun c.head → c.asked ≡ true → IsEnded c.passage → client.tells ≡ true
        → CarrierRefuses inner.refuses c (source_of client.look f) → ⊥
    accepts begun asked ended told (inl refused) =
        accepts_by f c c.head c.passage begun ended told (shows told) (known told) pair.way refused
    accepts begun asked ended told (inr refused) = pair.own_done asked told refused

    over_less : (head : HeadState) (n : ℕ)
        → work_left stage.rest n head over_on ≤ work_left stage.rest n head c
    over_less H.Held n = omega arith
    over_less (H.Sent len line) n = omega arith

    pub finish_step : IsBegun c.head → c.out ≡ [] → c.asked ≡ true → IsEnded c.passage
        → UploadsStep client origin inner stage U.Done f f c over_on
    finish_step begun none asked ended =
        let most = body_most f.text (client.look f.client) in
        quiet_step client origin inner stage client_still origin_still f c c.out c.inbox c.head c.asked true
        c.passage
        U.Done refl
        (record {
          inside = pair.inside;
          acts = pair.acts;
          way = way_over c.head c.passage begun pair.way;
          own_done = pair.own_done;
          done = λ over. record {
            asked = asked;
            sent = none;
            ended = ended;
            accepts = accepts begun asked
                ended;
          };
        })
        (accepts begun asked ended) (λ told. record {
          more = [];
          taken = sym (append-nil (Rattle.ts_request.specs.Carrying.without_line c.head
              (Rattle.ts_request.specs.Pairing.all_sent origin.look c)));
          carried = sym (append-nil (Rattle.ts_request.specs.Carrying.behind_head c.head
              (Rattle.ts_request.specs.Pairing.own_of origin.look c)
              (Rattle.ts_request.specs.Pairing.all_sent origin.look c)));
        })
        (λ e. absurd (let wrong : U.Done ≡ U.NoMemory = e in cc)) (λ e. refl)
        (λ e. absurd (let wrong : U.Done ≡ U.More = e in cc))
        (calm_work client.tells origin.tells (inner.upload_left f.client c.origin)
        (work_left stage.rest most c.head c)
        (work_left stage.rest most c.head over_on) (over_less c.head most))
      where
        way_over : (head : HeadState) (passage : Option (Passage P)) → IsBegun head
            → WayBy client origin inner stage head passage f c
            → WayBy client origin inner stage head passage f over_on
        way_over H.Held passage (len, line, is) way = absurd (let wrong : H.Held ≡ H.Sent len line = is in cc)
        way_over (H.Sent len line) None is way = record {
          line_is = way.line_is;
          lacks = way.lacks;
          stands = λ told.
              record {
                head = (way.stands told).head;
                long = (way.stands told).long;
                text = (way.stands
                    told).text;
              };
        }
        way_over (H.Sent len line) (Some p) is way = record {
          framing = way.framing;
          uploading = way.uploading;
          line_is = way.line_is;
          mode_is = way.mode_is;
          fed = way.fed;
          read = way.read;
          text = way.text;
          came = way.came;
          writes = way.writes;
          before = way.before;
          stands = λ told. record {
            head = (way.stands told).head;
            long = (way.stands told).long;
            text = (way.stands told).text;
          };
        }

    -- ---- it is refused

    pub refused_by : (p : Passage P) → c.passage ≡ Some p → Stalls p
        → ((t : P) (w : List ℕ) → stage.soon t [] ≡ Some w → w ≡ []) → (state : BodyState)
        → state_of p.body.phase ≡ state → state ≢ B.Ended
        → (state ≡ B.Unfinished → client.tells ≡ true
        → c.inbox ++ body_left f.text (client.look f.client) ≡ [])
        → client.tells ≡ true → RefusesUpload (request_lines c) (source_of client.look f)
    refused_by p is stalls silent state at short none told =
        let (len, line, head_is, b) = way_body client origin inner stage client_still origin_still f c p is
        pair in
        let found = fed_upload f c len line p b told (shows told) (known told) in
        let way = b.writes.way in
        let stands = way.now stalls.kept in
        short_refused (request_lines c) (source_of client.look f) found.0 b.framing b.fed b.read
        (c.inbox ++ body_left f.text (client.look f.client)) way.place state found.1 way.is_fed
        (ap (λ x. state_of x.phase) (sym stands) ∙ at) short (λ e. none e told)
        (rests_late stage (request_lines c) b.framing silent b.fed b.read
        (cut_body b.writes.pieces) p stalls.rests
        stalls.more (open_stalls p stalls) way)

    pub refuse_step : (p : Passage P) → c.passage ≡ Some p → Stalls p → state_of p.body.phase ≡ B.Bad
        → ((t : P) (w : List ℕ) → stage.soon t [] ≡ Some w → w ≡ [])
        → UploadsStep client origin inner stage U.Refused f f c c
    refuse_step p is stalls bad silent =
        idle_step client origin inner stage client_still origin_still f c U.Refused refl
        (λ e. let wrong : U.Refused ≡ U.More = e in cc)
        (λ e. absurd (let wrong : U.Refused ≡ U.Done = e in cc))
        (λ told. inl (refused_by p is stalls silent B.Bad bad (λ e. let wrong : B.Bad ≡ B.Ended = e in cc)
        (λ e. absurd (let wrong : B.Bad ≡ B.Unfinished = e in cc)) told)) pair
