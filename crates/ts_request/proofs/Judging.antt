-- When an upload is refused: its body is cut or bad and no line finished early on it; and when it is not.
use Rattle.std.proofs.Common.{◌≡◌, ◌≢◌, ℕ, List, [], ◌++◌, true, false, refl, sym, ap, subst, ◌∙◌}
use Rattle.std.specs.Prelude.{Option, Some}
use Rattle.std.proofs.lemmas.List.{append-nil}
use Rattle.std.proofs.lemmas.Bool.{true≢false}
use Rattle.std.proofs.lemmas.Option.{same_Some}
use Rattle.httparse.specs.Grammar as grammar
use Rattle.ts_config.specs.declared.setup.TransformLine.{TransformLine}
use Rattle.ts_config.specs.Bodies.{is_early}
use Rattle.ts_wire.specs.declared.body.BodyState.{BodyState}
use Rattle.ts_wire.specs.declared.body.BodyState.TheVariants as B
use Rattle.ts_wire.specs.declared.framing.Framing.{Framing}
use Rattle.ts_wire.specs.Body.{BodyOf}
use Rattle.ts_wire.specs.Place.{IsFed, Place, state_of}
use Rattle.ts_wire.proofs.FrontBody.{body_grows}
use Rattle.ts_wire.proofs.OneBody.{one_body}
use Rattle.ts_wire.proofs.OneRequest.{one_request}
use Rattle.ts_wire.proofs.PlaceBody.{place_body}
use Rattle.ts_request.specs.Sent.{RefusesUpload}
use Rattle.ts_request.specs.Upload.{HasUpload, IsUpload, LacksUpload, upload_framing}

-- ---- the body of what was fed

-- it is the body of all that follows, once it has ended or is bad, or where nothing follows
pub body_fed : (framing : Framing) (fed read more : List ℕ) (place : Place) (state : BodyState)
    → IsFed framing fed read place → state_of place.phase ≡ state → (state ≡ B.Unfinished → more ≡ [])
    → BodyOf framing (fed ++ more) read state
body_fed framing fed read more place state is at none =
    subst (BodyOf framing (fed ++ more) read) at
    (place_body framing fed read place.held place.phase place.total is.stands is.counted is.sound more
    (λ goes. none (sym at ∙ goes)))

-- ---- it is refused

pub short_refused : (lines : List TransformLine) (c : List ℕ) (h : grammar.RequestHead) (framing : Framing)
    (fed read more : List ℕ) (place : Place) (state : BodyState) → HasUpload c h framing (fed ++ more)
    → IsFed framing fed read place → state_of place.phase ≡ state → state ≢ B.Ended
    → (state ≡ B.Unfinished → more ≡ []) → is_early lines read ≡ false → RefusesUpload lines c
short_refused lines c h framing fed read more place state has is at short none late = record {
  framing = framing;
  body = read;
  state = state;
  upload = record {
    head = h;
    rest = fed ++ more;
    has = has;
    body_is = body_fed framing fed read more place state is at none;
  };
  short = short;
  late = late;
}

-- ---- it is not

-- there is no upload
pub other_accepts : (lines : List TransformLine) (c : List ℕ) → LacksUpload c → RefusesUpload lines c → ⊥
other_accepts lines c lacks r = lacks r.upload.head r.framing r.upload.rest r.upload.has

-- what is said of the upload of some bytes is said of the body that follows this head
upload_same : (c : List ℕ) (h : grammar.RequestHead) (framing framing' : Framing) (rest body : List ℕ)
    (state : BodyState) → HasUpload c h framing rest → IsUpload c framing' body state
    → BodyOf framing rest body state
upload_same c h framing framing' rest body state has u =
    let one = one_request c u.head h u.rest rest u.has.begins has.begins in
    let both : ◌≡◌ {A = Option Framing} (Some framing') (Some framing) =
    sym u.has.framed ∙ ap upload_framing one.0 ∙ has.framed in
    subst (λ (r : List ℕ). BodyOf framing r body state) one.1
    (subst (λ (g : Framing). BodyOf g u.rest body state) (same_Some framing' framing both) u.body_is)

-- its body has ended
pub ended_accepts : (lines : List TransformLine) (c : List ℕ) (h : grammar.RequestHead) (framing : Framing)
    (fed read more : List ℕ) (place : Place) → HasUpload c h framing (fed ++ more)
    → IsFed framing fed read place
    → state_of place.phase ≡ B.Ended → RefusesUpload lines c → ⊥
ended_accepts lines c h framing fed read more place has is at r =
    let all = upload_same c h framing r.framing (fed ++ more) r.body r.state has r.upload in
    let whole = body_fed framing fed read more place B.Ended is at
    (λ e. absurd (let wrong : B.Ended ≡ B.Unfinished = e in cc)) in
    r.short (sym (one_body framing (fed ++ more) read r.body B.Ended r.state whole all).1)

-- a line finished early on what was read of it
pub early_accepts : (lines : List TransformLine) (c : List ℕ) (h : grammar.RequestHead) (framing : Framing)
    (fed read more : List ℕ) (place : Place) → HasUpload c h framing (fed ++ more)
    → IsFed framing fed read place
    → ((z : List ℕ) → is_early lines (read ++ z) ≡ true) → RefusesUpload lines c → ⊥
early_accepts lines c h framing fed read more place has is early r =
    let all = upload_same c h framing r.framing (fed ++ more) r.body r.state has r.upload in
    let front : BodyOf framing fed read (state_of place.phase) =
    subst (λ (x : List ℕ). BodyOf framing x read (state_of place.phase)) (append-nil fed)
    (body_fed framing fed read [] place (state_of place.phase) is refl (λ e. refl)) in
    let grown = body_grows framing fed more read r.body (state_of place.phase) r.state front all in
    true≢false (sym (early grown.0) ∙ sym (ap (is_early lines) grown.1) ∙ r.late)
