-- A body is taken out of its frames, as a reader of bodies reads it.
use Rattle.std.proofs.Common.{◌≡◌, ◌≢◌, ◌∙◌, ℕ, ◌<◌, ◌≤◌, List, [], ◌∷◌, ◌++◌, take, drop, length}
use Rattle.std.proofs.Common.{⊎_elim, refl, sym, ap, subst, arith, append_assoc, length-append}
use Rattle.std.specs.Prelude.{flat_map, slice_range}
use Rattle.std.proofs.lemmas.List.{length-drop, take-append-drop}
use Rattle.httparse.specs.Ascii.{crlf_bytes}
use Rattle.ts_replay.specs.Unframing.{IsFramed}
use Rattle.ts_wire.specs.Body.{BodyOf}
use Rattle.ts_wire.specs.Frames.{cut_body, end_of, frame_of, hex}
use Rattle.ts_wire.specs.Limits.{body_limit}
use Rattle.ts_wire.specs.Place.{GivesBody, GoesOn, IsFed, Place, TakesBytes, state_of}
use Rattle.ts_wire.specs.declared.body.BodyState.{BodyState}
use Rattle.ts_wire.specs.declared.body.BodyState.TheVariants as B
use Rattle.ts_wire.specs.declared.body.Fed.{Fed}
use Rattle.ts_wire.specs.declared.framing.Framing.TheVariants as F
use Rattle.ts_wire.specs.declared.frames.Mode.TheVariants.{Chunked}
use Rattle.ts_wire.proofs.FrameLemmas.{reads_back}
use Rattle.ts_wire.proofs.OneBody.{one_body}
use Rattle.ts_wire.proofs.PlaceBody.{place_body}

-- ---- what is read of all of the frames

-- a body is not longer than its chunks
chunks_long : (pieces : List (List ℕ))
    → length (cut_body pieces) ≤ length (flat_map (frame_of Chunked) pieces)
chunks_long [] = omega arith
chunks_long (p ∷ ps) =
    let later = chunks_long ps in
    let body = length-append p (cut_body ps) in
    let all = length-append (frame_of Chunked p) (flat_map (frame_of Chunked) ps) in
    let size = length-append (hex (length p)) (crlf_bytes ++ (p ++ crlf_bytes)) in
    let line = length-append crlf_bytes (p ++ crlf_bytes) in
    let piece = length-append p crlf_bytes in
    omega (arith, later, body, all, size, line, piece)

-- whatever was read of them is the body
pub body_read : (framed body : List ℕ) (pieces : List (List ℕ)) (state : BodyState)
    → IsFramed Chunked framed pieces → length framed ≤ body_limit → BodyOf F.Chunked framed body state
    → body ≡ cut_body pieces
body_read framed body pieces state is short read =
    let long = ap length is.bytes_are
    ∙ length-append (flat_map (frame_of Chunked) pieces) (end_of Chunked) in
    let within = chunks_long pieces in
    (one_body F.Chunked framed body (cut_body pieces) state B.Ended read
    (subst (λ l. BodyOf F.Chunked l (cut_body pieces) B.Ended) (sym is.bytes_are)
    (reads_back pieces is.each (omega (arith, short, long, within))))).0

-- ---- part by part

-- a front of the bytes was fed, which gave this body, and these are left
pub record FedTo (framed rest body : List ℕ) (reader : Place) : Type 0 where
  pub front : List ℕ
  pub text : framed ≡ front ++ rest
  pub fed : IsFed F.Chunked front body reader

module _ (framed rest body : List ℕ) (old new : Place) (fed : Fed) (before : FedTo framed rest body old) where
  -- what was taken stands in front of what is left
  taken_off : framed ≡ (before.front ++ take fed.taken rest) ++ drop fed.taken rest
  taken_off =
      before.text ∙ ap (λ l. before.front ++ l) (sym (take-append-drop fed.taken rest))
      ∙ sym (append_assoc before.front (take fed.taken rest) (drop fed.taken rest))

  -- the next part was fed
  pub fed_more : (rest' body' : List ℕ) → rest' ≡ drop fed.taken rest
      → body' ≡ body ++ slice_range rest fed.from fed.to
      → GoesOn old new (take fed.taken rest) (slice_range rest fed.from fed.to) → FedTo framed rest' body' new
  fed_more rest' body' off more goes = record {
    front = before.front ++ take fed.taken rest;
    text = taken_off ∙ ap (λ l. (before.front ++ take fed.taken rest) ++ l) (sym off);
    fed = subst (λ b. IsFed F.Chunked (before.front ++ take fed.taken rest) b new) (sym more)
        (goes F.Chunked before.front body before.fed);
  }

  -- and less is left, where more may come
  pub fewer_left : (rest' : List ℕ) → 0 < length rest → fed.state ≡ B.Unfinished
      → TakesBytes old new rest fed → (state_of old.phase ≢ B.Unfinished → fed.state ≡ state_of old.phase)
      → rest' ≡ drop fed.taken rest → length rest' < length rest
  fewer_left rest' some goes takes stays off = by_state (state_of old.phase) refl
    where
      by_state : (s : BodyState) → state_of old.phase ≡ s → length rest' < length rest
      by_state B.Unfinished is =
          ⊎_elim
          (λ (low : 0 < fed.taken).
          let left = ap length off ∙ length-drop fed.taken rest in omega (arith, some, low, left))
          (λ (other : fed.state ≢ B.Unfinished). absurd (other goes))
          (takes.progress some is)
      by_state B.Ended is =
          absurd (let wrong : B.Unfinished ≡ B.Ended = sym goes ∙ stays (λ e. let both : B.Ended
          ≡ B.Unfinished
          = sym is ∙ e in cc) ∙ is in cc)
      by_state B.Bad is =
          absurd (let wrong : B.Unfinished ≡ B.Bad = sym goes ∙ stays (λ e. let both : B.Bad ≡ B.Unfinished
          = sym is ∙ e in cc) ∙ is in cc)

  -- where no more comes, the body is that of all bytes
  pub stopped : (body' : List ℕ) → body' ≡ body ++ slice_range rest fed.from fed.to
      → (fed.state ≡ B.Unfinished → ⊥)
      → GivesBody old (take fed.taken rest) (slice_range rest fed.from fed.to) fed.state
      → BodyOf F.Chunked framed body' fed.state
  stopped body' more other gives =
      subst (λ l. BodyOf F.Chunked l body' fed.state) (sym taken_off)
      (subst (λ b. BodyOf F.Chunked ((before.front ++ take fed.taken rest) ++ drop fed.taken rest) b
      fed.state)
      (sym more) (gives F.Chunked before.front body (drop fed.taken rest) before.fed (λ e. absurd (other e))))

-- and so it is where nothing is left
pub all_fed : (framed rest body : List ℕ) (reader : Place) → FedTo framed rest body reader → rest ≡ []
    → BodyOf F.Chunked framed body (state_of reader.phase)
all_fed framed rest body reader all none =
    subst (λ l. BodyOf F.Chunked l body (state_of reader.phase)) (sym all.text)
    (place_body F.Chunked all.front body reader.held reader.phase reader.total all.fed.stands all.fed.counted
    all.fed.sound rest (λ goes. none))
