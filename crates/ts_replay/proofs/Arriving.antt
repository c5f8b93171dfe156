-- What arrived at the origin of a transaction with a front and a carrier, of which nothing waits: the head that
-- was sent, and of an upload the line that says how its body is framed, and the lines' work on the body.
use Rattle.std.proofs.Common.{◌≡◌, ◌≢◌, ◌∙◌, ◌⊎◌, ℕ, List, [], ◌∷◌, ◌++◌, length, Bool, true, false}
use Rattle.std.proofs.Common.{Option, None}
use Rattle.std.proofs.Common.{Some, inl, inr, refl, sym, ap, subst, append_assoc}
use Rattle.std.specs.Prelude.{if◌then◌else◌}
use Rattle.std.proofs.lemmas.Bool.{false≢true}
use Rattle.std.proofs.lemmas.List.{append-nil, append_cancel_right}
use Rattle.httparse.specs.Grammar as grammar
use Rattle.ts_config.specs.Bodies.{is_early}
use Rattle.ts_config.specs.declared.setup.TransformLine.{TransformLine}
use Rattle.ts_link.specs.Link.{Look, all_of}
use Rattle.ts_link.specs.declared.link.Link as link
use Rattle.ts_phases.specs.Facts.{TookExactly}
use Rattle.ts_phases.specs.View.{LinkSide}
use Rattle.ts_replay.specs.AtOrigin.{IsWorkOn, StandsAt, none_there}
use Rattle.ts_replay.specs.AtOrigin as there
use Rattle.ts_replay.specs.Exchanged.{HasTaken, StandsBehind}
use Rattle.ts_replay.specs.Exchanged as exchanged
use Rattle.ts_replay.specs.declared.at_origin.AtOrigin.{AtOrigin}
use Rattle.ts_replay.proofs.SentHead.{IsOneSent, IsSentIf, bare_lacks, ends_some, framed_ends, lacks_none}
use Rattle.ts_replay.proofs.SentHead.{sent_ends}
use Rattle.ts_request.specs.Carrying.{behind_head, carrier_look, request_lines, without_line}
use Rattle.ts_request.specs.Delivered.{mode_of, upload_mode_of}
use Rattle.ts_request.specs.Front.{FrontSeen, IsShown, ShowsClient, body_given, body_left, front_look}
use Rattle.ts_request.specs.Pairing.{CarrierPair, HoldsBack, IsEnded, SendsBody, SendsPlain, WayBy, all_sent}
use Rattle.ts_request.specs.Pairing.{own_of}
use Rattle.ts_request.specs.Sent.{RefusesUpload, sent_framing, sent_head}
use Rattle.ts_request.specs.Upload.{HasUpload, Strips}
use Rattle.ts_request.specs.Upload as uploads
use Rattle.ts_request.specs.declared.carrier.Carrier.{Carrier}
use Rattle.ts_request.specs.declared.carrier.HeadState.{HeadState}
use Rattle.ts_request.specs.declared.carrier.HeadState.TheVariants as H
use Rattle.ts_request.specs.declared.passage.Passage.{Passage}
use Rattle.ts_request.specs.declared.stage.Stage.{Stage}
use Rattle.ts_request.specs.declared.stage.Stage.TheVariants as S
use Rattle.ts_request.proofs.BodyWay.{finished_whole}
use Rattle.ts_request.proofs.Judging.{body_fed}
use Rattle.ts_request.proofs.Told.{Unlines, behind_told, unlines_framed, unlines_plain}
use Rattle.ts_transform.specs.declared.transform.Transform as transform
use Rattle.ts_upstream.specs.declared.upstream.Upstream as upstream
use Rattle.ts_wire.specs.Body.{BodyOf}
use Rattle.ts_wire.specs.Blank.{LacksBlank}
use Rattle.ts_wire.specs.Frames.{cut_body, frames}
use Rattle.ts_wire.specs.Place.{state_of}
use Rattle.ts_wire.specs.declared.body.BodyState.{BodyState}
use Rattle.ts_wire.specs.declared.body.BodyState.TheVariants as B
use Rattle.ts_wire.specs.declared.frames.Mode.{Mode}

-- ---- what a front shows

-- once it is known, it is what `Strips` says
by_stage : (stage : Stage) (c shown body : List ℕ) → stage ≢ S.Heading → IsShown stage c shown body
    → Strips c shown
by_stage S.Heading c shown body known is = absurd (known refl)
by_stage S.Passing c shown body known is = uploads.other is.0 is.1
by_stage (S.Uploading framing) c shown body known is = uploads.upload is.0 framing body is.1 is.2

pub strips_known : {C : Type 0} (look : C → Look) (f : FrontSeen C) → f.text.stage ≢ S.Heading
    → ShowsClient look f → Strips (all_of (look f.client)) (all_of (front_look look f))
strips_known look f known shows = by_stage f.text.stage _ _ _ known shows

-- ---- what arrived

-- the front of nothing is nothing
none_before : (xs ys : List ℕ) → xs ++ ys ≡ [] → xs ≡ []
none_before [] ys none = refl
none_before (x ∷ xs) ys none = absurd (cc)

-- no mode, whether the upload is over or not
none_if : (over : Bool) (mode : Option Mode) → mode ≡ None → (if over then mode else None) ≡ None
none_if true mode none = none
none_if false mode none = refl

-- whatever the links are, which tell, and where the origin moved no upload of its own
module _ {C O P : Type 0} (client : link.Ghosts C) (origin : link.Ghosts O) (inner : upstream.Ghosts O C)
    (stage : transform.Ghosts P TransformLine) (f : FrontSeen C) (k : Carrier O P)
    (told : client.tells ≡ true) (also : origin.tells ≡ true)
    (pair : CarrierPair client origin inner stage f k) (own : own_of origin.look k ≡ []) (sent : k.out ≡ [])
    (whole : all_of (client.look f.client) ≡ (client.look f.client).source)
    (shows : ShowsClient client.look f) where
  abbrev pub lines : List TransformLine
  lines = request_lines k

  abbrev pub source : List ℕ
  source = (client.look f.client).source

  -- what the origin inside took, and what waits for it with that
  abbrev pub taken : List ℕ
  taken = (origin.look k.origin).taken

  abbrev all : List ℕ
  all = all_sent origin.look k

  -- of that, what an upload of the origin's own wrote
  abbrev wrote : List ℕ
  wrote = own_of origin.look k

  -- what is at the origin of a transaction that sent this head
  abbrev pub Arrived : List ℕ → Type 0
  Arrived request = (at : AtOrigin) × StandsAt lines source request at × HasTaken taken (upload_mode_of k) at

  -- what the carrier tells of such a head
  record Tells (request : List ℕ) : Type 0 where
    text : without_line k.head all ≡ request ++ behind_head k.head wrote all
    nothing : request ≡ [] → behind_head k.head wrote all ≡ []
    uploaded : request ≢ [] → (k.over ≡ true) ⊎ RefusesUpload lines source

  -- all was taken
  taken_all : (text : List ℕ) → all ≡ text → taken ≡ text
  taken_all text is = sym (append-nil taken) ∙ ap (λ xs. taken ++ xs) (sym sent) ∙ is

  -- the head is the one that stands first, and this is what was told behind it
  is_first : (request : List ℕ) (len line : ℕ) (put : List ℕ → List ℕ) (first behind : List ℕ)
      → Unlines len line put → k.head ≡ H.Sent len line → length first ≡ len → all ≡ put first ++ behind
      → Tells request → (request ≡ first) × (behind_head k.head wrote all ≡ behind)
  is_first request len line put first behind unlines at long is t =
      let here = H.Sent len line in
      let back = ap (behind_head here wrote) is ∙ behind_told len line put wrote first behind unlines long in
      let told = ap (without_line here) is ∙ unlines first behind long in
      let text = subst (λ x. without_line x all ≡ request ++ behind_head x wrote all) at t.text in (
        append_cancel_right request first behind (ap (λ b. request ++ b) (sym back) ∙ sym text ∙ told),
        ap (λ x. behind_head x wrote all) at ∙ back,
      )

  -- the head is held still: there is none
  while_held : (request : List ℕ) → k.head ≡ H.Held
      → HoldsBack client origin inner stage f k → Tells request → Arrived request
  while_held request at way t =
      let none : taken ≡ [] = way.taken also in
      let text = subst (λ x. without_line x all ≡ request ++ behind_head x wrote all) at t.text in
      let empty : all ≡ [] = ap (λ xs. xs ++ k.out) none ∙ sent in (
        none_there,
        there.nothing (none_before request (behind_head H.Held wrote all) (sym text ∙ empty)) refl,
        exchanged.no_head (subst LacksBlank (sym none) lacks_none) refl,
      )

  -- a request without an upload
  plain_taken : (request : List ℕ) → IsSentIf request → taken ≡ request → upload_mode_of k ≡ None
      → HasTaken taken (upload_mode_of k) (record { request = request; upload = None })
  plain_taken request (inl none) is mode =
      exchanged.no_head (subst LacksBlank (sym (is ∙ none)) lacks_none)
      (λ i. record { request = none i; upload = None })
  plain_taken request (inr one) is mode =
      exchanged.head [] (sent_ends request one) (is ∙ sym (append-nil request))
      (subst (λ m. StandsBehind m None []) (sym mode) tt)

  without_upload : (request : List ℕ) → IsSentIf request → (len line : ℕ) → k.head ≡ H.Sent len line
      → k.passage ≡ None → SendsPlain client origin inner stage len line f k → Tells request
      → Arrived request
  without_upload request head len line at none way t =
      let s = way.stands also in
      let same = (is_first request len line (λ x. x) s.head wrote
      (unlines_plain len line way.line_is) at s.long s.text t).0 in
      let bare = s.text ∙ ap (λ xs. s.head ++ xs) own ∙ append-nil s.head in
      let mode = ap (λ x. if k.over then mode_of x else None) none ∙ none_if k.over None refl in (
        record { request = request; upload = None },
        there.plain (way.lacks told) refl,
        plain_taken request head (taken_all s.head bare ∙ sym same) mode,
      )

  -- ---- a request with an upload

  module _ (request : List ℕ) (len line : ℕ) (p : Passage P) (at : k.head ≡ H.Sent len line)
      (passage : k.passage ≡ Some p) (b : SendsBody client origin inner stage len line p f k)
      (t : Tells request) where
    -- its head was sent, and this behind it
    text_all : all ≡ sent_head b.framing lines (b.stands also).head ++ b.text
    text_all =
        (b.stands also).text
        ∙ ap (λ xs. sent_head b.framing lines (b.stands also).head ++ (xs ++ b.text)) own

    is_sent : (request ≡ (b.stands also).head) × (behind_head k.head wrote all ≡ b.text)
    is_sent =
        is_first request len line (sent_head b.framing lines) (b.stands also).head b.text
        (unlines_framed len line (sent_framing b.framing lines) b.line_is) at (b.stands also).long text_all t

    text_taken : taken ≡ sent_head b.framing lines request ++ b.text
    text_taken =
        taken_all (sent_head b.framing lines (b.stands also).head ++ b.text) text_all
        ∙ ap (λ h. sent_head b.framing lines h ++ b.text) (sym is_sent.0)

    -- what of the client's body is still to come
    abbrev more : List ℕ
    more = k.inbox ++ body_left f.text (client.look f.client)

    -- the client has that upload
    has_it : (h : grammar.RequestHead) × HasUpload source h b.framing (b.fed ++ more)
    has_it =
        let is = subst (λ x. IsShown x (all_of (client.look f.client)) (all_of (front_look client.look f))
        (body_given f.text (client.look f.client) ++ body_left f.text (client.look f.client))) b.uploading shows in
        let rest = ap (λ l. l ++ body_left f.text (client.look f.client)) (b.came told)
        ∙ append_assoc b.fed k.inbox (body_left f.text (client.look f.client)) in (
          is.0,
          subst (λ c. HasUpload c is.0 b.framing (b.fed ++ more)) whole
              (subst (λ l. HasUpload (all_of (client.look f.client)) is.0 b.framing l) rest is.1),
        )

    abbrev place_now : BodyState
    place_now = state_of b.writes.way.place.phase

    -- no head of one was sent
    sent_none : request ≡ [] → Arrived request
    sent_none none =
        let (h, has) = has_it in
        let empty : b.text ≡ [] = sym is_sent.1 ∙ t.nothing none in
        let bare : taken ≡ sent_head b.framing lines [] =
        text_taken ∙ (λ i. sent_head b.framing lines (none i) ++ empty i)
        ∙ append-nil (sent_head b.framing lines []) in (
          none_there,
          there.nothing none refl,
          exchanged.no_head (subst LacksBlank (sym bare) (bare_lacks h b.framing lines has.framed)) refl,
        )

    -- the body was delivered whole
    work_whole : p.ended ≡ true → IsWorkOn lines b.framing (b.fed ++ more) (cut_body b.writes.pieces)
    work_whole over =
        let way = b.writes.way in
        let all_work = finished_whole stage lines b.framing b.fed b.read (cut_body b.writes.pieces) p
        (b.writes.finished over) way in
        let front : BodyOf b.framing b.fed b.read place_now =
        subst (λ (x : List ℕ). BodyOf b.framing x b.read place_now) (append-nil b.fed)
        (body_fed b.framing b.fed b.read [] way.place place_now way.is_fed refl (λ e. refl)) in
        elim all_work.over [
          | inl given ↦ there.ended b.read
              (body_fed b.framing b.fed b.read more way.place B.Ended way.is_fed (way.over given)
              (λ e. absurd (let wrong : B.Ended ≡ B.Unfinished = e in cc))) all_work.whole
          | inr soon ↦ there.early b.fed more b.read place_now refl front
              (subst (λ l. is_early lines l ≡ true) (append-nil b.read) (soon [])) all_work.whole
        ]

    sent_whole : IsOneSent request → request ≢ [] → k.over ≡ true → Arrived request
    sent_whole one some over =
        let (h, has) = has_it in
        let done = pair.done over in
        let ended : p.ended ≡ true =
        subst (λ (x : Option (Passage P)). IsEnded x) passage done.ended in
        let mode : upload_mode_of k ≡ Some p.mode = λ i. if over i then mode_of (passage i) else None in
        let pieces = b.writes.pieces in (
          record { request = sent_head b.framing lines request; upload = Some (cut_body pieces) },
          there.carried h b.framing (b.fed ++ more) (cut_body pieces) some has
              (λ r. done.accepts told (inl r)) (work_whole ended) refl,
          exchanged.head b.text (framed_ends h b.framing lines request has.framed one) text_taken
              (subst (λ m. StandsBehind m (Some (cut_body pieces)) b.text) (sym mode) (
                pieces,
                record {
                  each = b.writes.each;
                  bytes_are = b.writes.text_is ∙ ap (frames p.mode pieces) ended;
                },
                refl,
              )),
        )

    -- or it was refused
    sent_short : IsOneSent request → request ≢ [] → k.over ≡ false → RefusesUpload lines source
        → Arrived request
    sent_short one some over refuses =
        let (h, has) = has_it in
        let mode : upload_mode_of k ≡ None = ap (λ o. if o then mode_of k.passage else None) over in (
          record { request = sent_head b.framing lines request; upload = None },
          there.refused h b.framing (b.fed ++ more) some has refuses refl,
          exchanged.head b.text (framed_ends h b.framing lines request has.framed one) text_taken
              (subst (λ m. StandsBehind m None b.text) (sym mode) tt),
        )

    with_upload : IsSentIf request → Arrived request
    with_upload (inl none) = sent_none none
    with_upload (inr one) = by_over k.over refl
      where
        some : request ≢ []
        some none = ends_some request (sent_ends request one) none

        by_over : (over : Bool) → k.over ≡ over → Arrived request
        by_over true over = sent_whole one some over
        by_over false over = elim (t.uploaded some) [
          | inl moved ↦ absurd (false≢true (sym over ∙ moved))
          | inr refuses ↦ sent_short one some over refuses
        ]

  -- ---- whichever it is

  by_way : (request : List ℕ) → IsSentIf request → Tells request → (h : HeadState)
      (passage : Option (Passage P)) → k.head ≡ h → k.passage ≡ passage
      → WayBy client origin inner stage h passage f k → Arrived request
  by_way request head t H.Held passage at is way = while_held request at way t
  by_way request head t (H.Sent len line) None at is way = without_upload request head len line at is way t
  by_way request head t (H.Sent len line) (Some p) at is way = with_upload request len line p at is way t head

  -- of a head that the carrier tells
  pub arrives : (request : List ℕ) → IsSentIf request → (side : LinkSide)
      → side.look ≡ carrier_look true origin.look k → TookExactly (RefusesUpload lines source) request side
      → Arrived request
  arrives request head side is took =
      by_way request head (record {
        text = subst (λ (l : Look). l.taken ≡ request ++ l.carried) is took.text;
        nothing = λ none. subst (λ (l : Look). l.carried ≡ []) is (took.nothing none);
        uploaded = λ some. subst (λ (l : Look). (l.uploaded ≡ true) ⊎ RefusesUpload lines source) is
            (took.uploaded some);
      }) k.head k.passage refl refl pair.way
