-- Each step of a reader goes on with what it was fed before.
use Rattle.std.proofs.Common.{◌≡◌, ◌≢◌, ℕ, ◌+◌, ◌-◌, ◌^◌, ◌<◌, ◌≤◌, ◌⊎◌, min, List, [], ◌∷◌, ◌++◌, length, get_or, take, refl, sym, ap, subst, ◌∙◌, arith, inl, inr, length-append}
use Rattle.std.proofs.Math.Seq.{take-append-add}
use Rattle.std.proofs.lemmas.List.{append-nil, length-take-le, take_all}
use Rattle.httparse.specs.Ascii.{crlf_bytes}
use Rattle.httparse.specs.Grammar.{MayBecomeChunkLine}
use Rattle.ts_wire.specs.declared.framing.Framing.{Framing}
use Rattle.ts_wire.specs.declared.body.BodyState.TheVariants as S
use Rattle.ts_wire.specs.declared.phases.BodyPhase.{BodyPhase}
use Rattle.ts_wire.specs.declared.phases.BodyPhase.TheVariants.{Counted, Open, Line, Content, Gap, GapEnd, Ended, Bad}
use Rattle.ts_wire.specs.declared.phases.FrontStep.{FrontStep}
use Rattle.ts_wire.specs.Limits.{body_limit}
use Rattle.ts_wire.specs.Body.{AfterChunks, InChunk, BreaksCrlf, no_crlf}
use Rattle.ts_wire.specs.Place.{state_of, room_of, part_number, IsSoundPhase, StandsIn, GoesTo, StepsOn}
use Rattle.ts_wire.proofs.BodyLemmas.{no_line_yet, line_may_begin, more_content, more_tail, close_chunk}

-- a front of the bytes that is no body
pub frame_steps : (old new : BodyPhase) (held held' bytes : List ℕ) (total n : ℕ) (step : FrontStep)
    → step ≡ record { phase = new; taken = n; from = 0; to = 0 }
    → n ≤ length bytes → (state_of new ≡ S.Unfinished → part_number old ≡ part_number new → n ≡ length bytes)
    → state_of old ≡ S.Unfinished → (0 < length bytes → (0 < n) ⊎ (state_of new ≢ S.Unfinished))
    → total < 2 ^ 64
    → room_of new ≤ room_of old → IsSoundPhase new held' total
    → GoesTo old held total new held' (take n bytes) []
    → StepsOn old held total bytes step held'
frame_steps old new held held' bytes total n step is within whole unfinished progress fits room sound goes =
    let same : total ≡ total + (0 - 0) = omega arith in
    subst (λ s. StepsOn old held total bytes s held') (sym is) (record {
      ordered = omega arith;
      within = omega arith;
      taken = within;
      whole = whole;
      progress = λ some state. progress some;
      rests = λ over. absurd (over unfinished);
      stays = λ over. absurd (over unfinished);
      fits = omega arith;
      room = room;
      sound = subst (IsSoundPhase new held') same sound;
      goes = goes;
    })

-- a front of the bytes that is body
content_steps : (old new : BodyPhase) (held bytes : List ℕ) (total n : ℕ) (step : FrontStep)
    → step ≡ record { phase = new; taken = n; from = 0; to = n }
    → n ≤ length bytes → (state_of new ≡ S.Unfinished → part_number old ≡ part_number new → n ≡ length bytes)
    → state_of old ≡ S.Unfinished → (0 < length bytes → (0 < n) ⊎ (state_of new ≢ S.Unfinished))
    → total + n < 2 ^ 64
    → room_of new ≤ room_of old → IsSoundPhase new held (total + n)
    → GoesTo old held total new held (take n bytes) (take n bytes)
    → StepsOn old held total bytes step held
content_steps old new held bytes total n step is within whole unfinished progress fits room sound goes =
    let same : n ≡ n - 0 = omega arith in
    subst (λ s. StepsOn old held total bytes s held) (sym is) (record {
      ordered = omega arith;
      within = omega arith;
      taken = within;
      whole = whole;
      progress = λ some state. progress some;
      rests = λ over. absurd (over unfinished);
      stays = λ over. absurd (over unfinished);
      fits = omega arith;
      room = room;
      sound = subst (λ k. IsSoundPhase new held (total + k)) same sound;
      goes = subst (λ k. GoesTo old held total new held (take n bytes) (take k bytes)) same goes;
    })

-- nothing is fed
stays : (framing : Framing) (fed body held : List ℕ) (phase : BodyPhase)
    → StandsIn framing fed body held phase
    → StandsIn framing (fed ++ []) (body ++ []) held phase
stays framing fed body held phase stands =
    subst (λ f. StandsIn framing f (body ++ []) held phase) (sym (append-nil fed))
    (subst (λ b. StandsIn framing fed b held phase) (sym (append-nil body)) stands)

-- ---- a body of a known length, and one up to the close

-- the least of the two numbers is positive where both are
some_of : (left n : ℕ) (bytes : List ℕ) → n ≡ min left (length bytes) → 0 < left → 0 < length bytes → 0 < n
some_of left n bytes is some inside = omega arith

pub counted_stays : (held bytes : List ℕ) (total left n rest : ℕ) (step : FrontStep) → step ≡ record {
  phase = Counted rest;
  taken = n;
  from = 0;
  to = n;
}
    → IsSoundPhase (Counted left) held total → n ≡ min left (length bytes) → rest ≡ left - n → rest ≢ 0
    → StepsOn (Counted left) held total bytes step held
counted_stays held bytes total left n rest step is sound least rest_is some =
    let within : n ≤ length bytes = omega arith in
    let goes : GoesTo (Counted left) held total (Counted rest) held (take n bytes) (take n bytes) =
    λ framing fed body counted (size, sized, same, whole). (
      size,
      sized,
      ap (λ l. l ++ take n bytes) same,
      omega (arith, length-append fed (take n bytes), length-take-le n bytes within),
    ) in
    content_steps (Counted left) (Counted rest) held bytes total n step is within
    (λ unfinished same. omega arith) refl
    (λ inside. inl (some_of left n bytes least sound.0 inside)) (omega (arith, sound.1)) (omega arith)
    (omega arith, omega (arith, sound.1)) goes

pub counted_ends : (held bytes : List ℕ) (total left n : ℕ) (step : FrontStep)
    → step ≡ record { phase = Ended; taken = n; from = 0; to = n }
    → IsSoundPhase (Counted left) held total → n ≡ min left (length bytes) → left - n ≡ 0
    → StepsOn (Counted left) held total bytes step held
counted_ends held bytes total left n step is sound least none =
    let within : n ≤ length bytes = omega arith in
    let goes : GoesTo (Counted left) held total Ended held (take n bytes) (take n bytes) =
    λ framing fed body counted (size, sized, same, whole).
    subst (λ f. StandsIn f (fed ++ take n bytes) (body ++ take n bytes) held Ended) (sym sized) (
      ap (λ l. l ++ take n bytes) same,
      omega (
        arith,
        length-append fed (take n bytes),
        length-take-le n bytes within,
      ),
    ) in
    content_steps (Counted left) Ended held bytes total n step is within
    (λ unfinished other. absurd (omega arith)) refl
    (λ inside. inl (some_of left n bytes least sound.0 inside)) (omega (arith, sound.1)) (omega arith) tt goes

pub open_stays : (held bytes : List ℕ) (total n : ℕ) (step : FrontStep)
    → step ≡ record { phase = Open; taken = n; from = 0; to = n }
    → IsSoundPhase Open held total → n ≡ min (body_limit - total) (length bytes) → n ≡ length bytes
    → StepsOn Open held total bytes step held
open_stays held bytes total n step is sound least all =
    content_steps Open Open held bytes total n step is (omega arith) (λ unfinished same. all) refl
    (λ inside. inl (omega arith)) (omega (arith, sound)) (omega arith) (omega (arith, sound))
    (λ framing fed body counted (up, same). (up, ap (λ l. l ++ take n bytes) same))

-- the bytes are more than a body may have
pub open_bad : (held bytes : List ℕ) (total n : ℕ) → IsSoundPhase Open held total
    → n ≡ min (body_limit - total) (length bytes) → n ≢ length bytes
    → StepsOn Open held total bytes (record { phase = Bad; taken = length bytes; from = 0; to = n }) held
open_bad held bytes total n sound least more =
    let within : n < length bytes = omega arith in
    let size : n ≡ n - 0 = omega arith in
    let goes : GoesTo Open held total Bad held (take (length bytes) bytes) (take n bytes) =
    λ framing fed body counted (up, same).
    let piece : take (length bytes) bytes ≡ bytes = take_all (length bytes) bytes (omega arith) in
    let whole : length fed + n ≡ body_limit = omega (arith, ap length same, sound) in
    subst (λ f. StandsIn f (fed ++ take (length bytes) bytes) (body ++ take n bytes) held Bad) (sym up) (
      omega (arith, length-append fed (take (length bytes) bytes), ap length piece),
      ap (λ l. l ++ take n bytes) same ∙ sym (ap (λ k. take k (fed ++ take (length bytes) bytes)) (sym whole)
          ∙ take-append-add fed (take (length bytes) bytes) n ∙ ap (λ l. fed ++ take n l) piece),
    ) in
    record {
      ordered = omega arith;
      within = omega arith;
      taken = omega arith;
      whole = λ unfinished same. omega arith;
      progress = λ some state. inl some;
      rests = λ over. absurd (over refl);
      stays = λ over. absurd (over refl);
      fits = omega (arith, sound);
      room = omega arith;
      sound = tt;
      goes = subst (λ k. GoesTo Open held total Bad held (take (length bytes) bytes) (take k bytes)) size
          goes;
    }

-- ---- a body in chunks

pub content_stays : (held bytes : List ℕ) (total left n rest : ℕ) (step : FrontStep) → step ≡ record {
  phase = Content rest;
  taken = n;
  from = 0;
  to = n;
}
    → IsSoundPhase (Content left) held total → n ≡ min left (length bytes) → rest ≡ left - n → rest ≢ 0
    → StepsOn (Content left) held total bytes step held
content_stays held bytes total left n rest step is sound least rest_is some =
    let within : n ≤ length bytes = omega arith in
    let goes : GoesTo (Content left) held total (Content rest) held (take n bytes) (take n bytes) =
    λ framing fed body counted (chunked, part, chunk).
    let size : length part + left ≡ length (part ++ take n bytes) + rest =
    omega (arith, length-append part (take n bytes), length-take-le n bytes within) in (
      chunked,
      part ++ take n bytes,
      subst (λ k. InChunk (fed ++ take n bytes) (body ++ take n bytes) k
          (part ++ take n bytes) []) size (more_content fed body part (take n bytes)
          (length part + left) chunk),
    ) in
    content_steps (Content left) (Content rest) held bytes total n step is within
    (λ unfinished same. omega arith) refl
    (λ inside. inl (some_of left n bytes least sound.1 inside)) (omega (arith, sound.2)) (omega arith)
    (sound.0, omega arith, omega (arith, sound.2)) goes

pub content_ends : (held bytes : List ℕ) (total left n : ℕ) (step : FrontStep)
    → step ≡ record { phase = Gap; taken = n; from = 0; to = n }
    → IsSoundPhase (Content left) held total → n ≡ min left (length bytes) → left - n ≡ 0
    → StepsOn (Content left) held total bytes step held
content_ends held bytes total left n step is sound least none =
    let within : n ≤ length bytes = omega arith in
    let goes : GoesTo (Content left) held total Gap held (take n bytes) (take n bytes) =
    λ framing fed body counted (chunked, part, chunk).
    let size : length part + left ≡ length (part ++ take n bytes) =
    omega (arith, length-append part (take n bytes), length-take-le n bytes within) in (
      chunked,
      part ++ take n bytes,
      subst (λ k. InChunk (fed ++ take n bytes) (body ++ take n bytes) k
          (part ++ take n bytes) []) size (more_content fed body part (take n bytes)
          (length part + left) chunk),
    ) in
    content_steps (Content left) Gap held bytes total n step is within
    (λ unfinished other. absurd (omega arith)) refl
    (λ inside. inl (some_of left n bytes least sound.1 inside)) (omega (arith, sound.2)) (omega arith)
    (sound.0, omega (arith, sound.2)) goes

-- a phase that was given no bytes
pub none_stays : (phase : BodyPhase) (held bytes : List ℕ) (total : ℕ) (step : FrontStep)
    → step ≡ record { phase = phase; taken = 0; from = 0; to = 0 }
    → state_of phase ≡ S.Unfinished → length bytes ≡ 0 → total < 2 ^ 64 → IsSoundPhase phase held total
    → StepsOn phase held total bytes step held
none_stays phase held bytes total step is unfinished empty fits sound =
    frame_steps phase phase held held bytes total 0 step is (omega arith)
    (λ still same. omega arith) unfinished (λ some. absurd (omega arith)) fits (omega arith) sound
    (λ framing fed body counted stands. stays framing fed body held phase stands)

-- what follows the content is no CR LF
gap_breaks : (held tail : List ℕ) (total : ℕ) → BreaksCrlf tail → GoesTo Gap held total Bad held tail []
gap_breaks held tail total broken framing fed body counted (chunked, part, chunk) =
    subst (λ f. StandsIn f (fed ++ tail) (body ++ []) held Bad) (sym chunked)
    (no_crlf part tail (more_tail fed body part [] tail (length part) chunk) broken)

pub gap_bad : (held bytes : List ℕ) (total : ℕ) (step : FrontStep)
    → step ≡ record { phase = Bad; taken = 1; from = 0; to = 0 }
    → IsSoundPhase Gap held total → 0 < length bytes → get_or bytes 0 0 ≢ 13
    → StepsOn Gap held total bytes step held
gap_bad held [] total step is sound some other = absurd (omega arith)
gap_bad held (b ∷ bs) total step is sound some other =
    frame_steps Gap Bad held held (b ∷ bs) total 1 step is (omega arith)
    (λ unfinished other. absurd (omega arith)) refl (λ inside. inl (omega arith)) (omega (arith, sound.1))
    (omega arith) tt
    (gap_breaks held (b ∷ []) total other)

pub gap_cr : (held bytes : List ℕ) (total : ℕ) (step : FrontStep)
    → step ≡ record { phase = GapEnd; taken = 1; from = 0; to = 0 }
    → IsSoundPhase Gap held total → 0 < length bytes → get_or bytes 0 0 ≡ 13
    → StepsOn Gap held total bytes step held
gap_cr held [] total step is sound some cr = absurd (omega arith)
gap_cr held (b ∷ bs) total step is sound some cr =
    let goes : GoesTo Gap held total GapEnd held (b ∷ []) [] =
    λ framing fed body counted (chunked, part, chunk). (
      chunked,
      part,
      subst (λ x. InChunk (fed ++ b ∷ []) (body ++ []) (length part) part (x ∷ [])) cr
          (more_tail fed body part [] (b ∷ []) (length part) chunk),
    ) in
    frame_steps Gap GapEnd held held (b ∷ bs) total 1 step is (omega arith)
    (λ unfinished other. absurd (omega arith)) refl (λ inside. inl (omega arith)) (omega (arith, sound.1))
    (omega arith) sound goes

pub gap_bad_after : (held bytes : List ℕ) (total : ℕ) (step : FrontStep)
    → step ≡ record { phase = Bad; taken = 2; from = 0; to = 0 }
    → IsSoundPhase Gap held total → 1 < length bytes → get_or bytes 1 0 ≢ 10
    → StepsOn Gap held total bytes step held
gap_bad_after held [] total step is sound some other = absurd (omega arith)
gap_bad_after held (a ∷ []) total step is sound some other = absurd (omega arith)
gap_bad_after held (a ∷ b ∷ bs) total step is sound some other =
    frame_steps Gap Bad held held (a ∷ b ∷ bs) total 2 step is (omega arith)
    (λ unfinished other. absurd (omega arith)) refl (λ inside. inl (omega arith)) (omega (arith, sound.1))
    (omega arith) tt
    (gap_breaks held (a ∷ b ∷ []) total (inr other))

line_after_crlf : (fed body part held : List ℕ) → held ≡ [] → InChunk fed body (length part) part crlf_bytes
    → AfterChunks fed body held [] × MayBecomeChunkLine held
line_after_crlf fed body part held none chunk =
    subst (λ h. AfterChunks fed body h [] × MayBecomeChunkLine h) (sym none) (
      close_chunk fed body part chunk,
      line_may_begin,
    )

line_sound : (held : List ℕ) (total : ℕ) → held ≡ [] → total ≤ body_limit → IsSoundPhase Line held total
line_sound held total none fits =
    subst (λ h. IsSoundPhase Line h total) (sym none) (omega arith, fits, no_line_yet)

pub gap_crlf : (held bytes : List ℕ) (total : ℕ) (step : FrontStep)
    → step ≡ record { phase = Line; taken = 2; from = 0; to = 0 }
    → IsSoundPhase Gap held total → 1 < length bytes → get_or bytes 0 0 ≡ 13 → get_or bytes 1 0 ≡ 10
    → StepsOn Gap held total bytes step held
gap_crlf held [] total step is sound some cr lf = absurd (omega arith)
gap_crlf held (a ∷ []) total step is sound some cr lf = absurd (omega arith)
gap_crlf held (a ∷ b ∷ bs) total step is sound some cr lf =
    let goes : GoesTo Gap held total Line held (a ∷ b ∷ []) [] =
    λ framing fed body counted (chunked, part, chunk).
    let closed : InChunk (fed ++ a ∷ b ∷ []) (body ++ []) (length part) part crlf_bytes =
    subst (λ x. InChunk (fed ++ a ∷ b ∷ []) (body ++ []) (length part) part (13 ∷ x ∷ [])) lf
    (subst (λ x. InChunk (fed ++ a ∷ b ∷ []) (body ++ []) (length part) part (x ∷ b ∷ [])) cr
    (more_tail fed body part [] (a ∷ b ∷ []) (length part) chunk)) in
    let line = line_after_crlf (fed ++ a ∷ b ∷ []) (body ++ []) part held sound.0 closed in
    (chunked, line.0, line.1) in
    frame_steps Gap Line held held (a ∷ b ∷ bs) total 2 step is (omega arith)
    (λ unfinished other. absurd (omega arith)) refl (λ inside. inl (omega arith)) (omega (arith, sound.1))
    (omega arith)
    (line_sound held total sound.0 sound.1) goes

pub gap_end_bad : (held bytes : List ℕ) (total : ℕ) (step : FrontStep)
    → step ≡ record { phase = Bad; taken = 1; from = 0; to = 0 }
    → IsSoundPhase GapEnd held total → 0 < length bytes → get_or bytes 0 0 ≢ 10
    → StepsOn GapEnd held total bytes step held
gap_end_bad held [] total step is sound some other = absurd (omega arith)
gap_end_bad held (b ∷ bs) total step is sound some other =
    let goes : GoesTo GapEnd held total Bad held (b ∷ []) [] =
    λ framing fed body counted (chunked, part, chunk).
    subst (λ f. StandsIn f (fed ++ b ∷ []) (body ++ []) held Bad) (sym chunked)
    (no_crlf part (13 ∷ b ∷ []) (more_tail fed body part (13 ∷ []) (b ∷ []) (length part) chunk)
    (inr other)) in
    frame_steps GapEnd Bad held held (b ∷ bs) total 1 step is (omega arith)
    (λ unfinished other. absurd (omega arith)) refl (λ inside. inl (omega arith)) (omega (arith, sound.1))
    (omega arith) tt goes

pub gap_end_lf : (held bytes : List ℕ) (total : ℕ) (step : FrontStep)
    → step ≡ record { phase = Line; taken = 1; from = 0; to = 0 }
    → IsSoundPhase GapEnd held total → 0 < length bytes → get_or bytes 0 0 ≡ 10
    → StepsOn GapEnd held total bytes step held
gap_end_lf held [] total step is sound some lf = absurd (omega arith)
gap_end_lf held (b ∷ bs) total step is sound some lf =
    let goes : GoesTo GapEnd held total Line held (b ∷ []) [] =
    λ framing fed body counted (chunked, part, chunk).
    let closed : InChunk (fed ++ b ∷ []) (body ++ []) (length part) part crlf_bytes =
    subst (λ x. InChunk (fed ++ b ∷ []) (body ++ []) (length part) part (13 ∷ x ∷ [])) lf
    (more_tail fed body part (13 ∷ []) (b ∷ []) (length part) chunk) in
    let line = line_after_crlf (fed ++ b ∷ []) (body ++ []) part held sound.0 closed in
    (chunked, line.0, line.1) in
    frame_steps GapEnd Line held held (b ∷ bs) total 1 step is (omega arith)
    (λ unfinished other. absurd (omega arith)) refl (λ inside. inl (omega arith)) (omega (arith, sound.1))
    (omega arith)
    (line_sound held total sound.0 sound.1) goes
