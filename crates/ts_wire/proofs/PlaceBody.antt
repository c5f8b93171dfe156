-- What a reader gave is the body of what it was fed.
use Rattle.std.proofs.Common.{◌≡◌, ◌≢◌, ℕ, ◌+◌, ◌-◌, ◌≤◌, Bool, true, false, cond, eqb, List, [], ◌∷◌, ◌++◌, length, take, drop, refl, sym, ap, subst, ◌∙◌, ⊎_elim, arith, inl, inr, append_assoc, length-append}
use Rattle.std.specs.Prelude.{slice_range}
use Rattle.std.proofs.lemmas.List.{append-nil, take_all, take_at, take-append-le, length-take, length-drop}
use Rattle.std.proofs.lemmas.Bool.{eqb-true, lt-ltb, le-ltb}
use Rattle.httparse.specs.Grammar.{print_chunk_line, HasNoChunkLine, print_section}
use Rattle.ts_wire.specs.declared.framing.Framing.{Framing}
use Rattle.ts_wire.specs.declared.framing.Framing.TheVariants as F
use Rattle.ts_wire.specs.declared.body.BodyState.{BodyState}
use Rattle.ts_wire.specs.declared.body.BodyState.TheVariants as S
use Rattle.ts_wire.specs.declared.phases.BodyPhase.{BodyPhase}
use Rattle.ts_wire.specs.declared.phases.BodyPhase.TheVariants.{Counted, Open, Line, Content, Gap, GapEnd, Trailer, Ended, Bad}
use Rattle.ts_wire.specs.declared.phases.FrontStep.{FrontStep}
use Rattle.ts_wire.specs.Limits.{body_limit, line_limit, trailer_limit, trailer_lines}
use Rattle.ts_wire.specs.Body.{line_feeds, AfterChunks, InChunk, InTrailer, BreaksCrlf, in_line, in_content, in_gap, in_trailer, IsEndedChunked, IsBadChunked, no_line, long_line, long_body, no_crlf, no_trailer, long_trailer, BodyOf}
use Rattle.ts_wire.specs.Place.{Place, first_phase, state_of, IsSoundPhase, StandsIn, StepsOn, IsFed, GoesOn, GivesBody}
use Rattle.ts_wire.proofs.BodyLemmas.{no_chunks, line_may_begin, grow, more_tail, more_trailer}
use Rattle.ts_wire.proofs.TrailerLemmas.{line_feeds-append}
use Rattle.ts_wire.proofs.SectionLemmas.{lacks_more}

-- nothing follows
at_end : (P : List ℕ → Type 0) (fed rest : List ℕ) → rest ≡ [] → P fed → P (fed ++ rest)
at_end P fed rest none holds = subst P (sym (ap (λ l. fed ++ l) none ∙ append-nil fed)) holds

same_body : (P : List ℕ → Type 0) (body : List ℕ) → P (body ++ []) → P body
same_body P body holds = subst P (append-nil body) holds

breaks_more : (tail rest : List ℕ) → BreaksCrlf tail → BreaksCrlf (tail ++ rest)
breaks_more [] rest broken = absurd broken
breaks_more (a ∷ []) [] broken = broken
breaks_more (a ∷ []) (b ∷ bs) broken = inl broken
breaks_more (a ∷ b ∷ tail) rest broken = broken

-- a body that is bad stays so whatever follows
bad_more : (fed body rest : List ℕ) → IsBadChunked fed body → IsBadChunked (fed ++ rest) body
bad_more fed body rest (no_line text after refuses) =
    no_line (text ++ rest) (same_body (λ b. AfterChunks (fed ++ rest) b (text ++ rest) []) body
    (grow fed body text [] rest [] (text ++ rest) after refl))
    (λ more l r reads. refuses (rest ++ more) l r (reads.0, sym (append_assoc text rest more) ∙ reads.1))
bad_more fed body rest (long_line text after long lacks) =
    long_line (text ++ rest) (same_body (λ b. AfterChunks (fed ++ rest) b (text ++ rest) []) body
    (grow fed body text [] rest [] (text ++ rest) after refl))
    (omega (arith, length-append text rest, long))
    (subst HasNoChunkLine (sym (take-append-le line_limit text rest long)) lacks)
bad_more fed body rest (long_body l tail after good over) =
    let pl = print_chunk_line l in
    long_body l (tail ++ rest) (same_body (λ b. AfterChunks (fed ++ rest) b (pl ++ (tail ++ rest)) []) body
    (grow fed body (pl ++ tail) [] rest [] (pl ++ (tail ++ rest)) after
    (sym (append_assoc pl tail rest)))) good over
bad_more fed body rest (no_crlf part tail chunk broken) =
    no_crlf part (tail ++ rest) (same_body (λ b. InChunk (fed ++ rest) b (length part) part (tail ++ rest))
    body (more_tail fed body part tail rest (length part) chunk)) (breaks_more tail rest broken)
bad_more fed body rest (no_trailer text trailer refuses) =
    no_trailer (text ++ rest) (same_body (λ b. InTrailer (fed ++ rest) b (text ++ rest)) body
    (more_trailer fed body text rest trailer))
    (λ more fields last r reads. refuses (rest ++ more) fields last r (
      reads.0,
      sym (append_assoc text rest more) ∙ reads.1,
    ))
bad_more fed body rest (long_trailer text trailer full lacks) =
    long_trailer (text ++ rest) (same_body (λ b. InTrailer (fed ++ rest) b (text ++ rest)) body
    (more_trailer fed body text rest trailer))
    (⊎_elim (λ (lines : trailer_lines ≤ line_feeds text).
    inl (omega (arith, line_feeds-append text rest, lines)))
    (λ (bytes : trailer_limit ≤ length text). inr (omega (arith, length-append text rest, bytes))) full)
    (lacks_more text rest full lacks)

ended_more : (fed body rest : List ℕ) (e : IsEndedChunked fed body) → e.rest ≡ []
    → IsEndedChunked (fed ++ rest) body
ended_more fed body rest e none = record {
  text = e.text ++ rest;
  trailer = same_body (λ b. InTrailer (fed ++ rest) b (e.text ++ rest)) body
      (more_trailer fed body e.text rest e.trailer);
  fields = e.fields;
  last = e.last;
  rest = rest;
  reads = (
    e.reads.0,
    ap (λ l. l ++ rest) (e.reads.1 ∙ ap (λ l. print_section e.fields e.last ++ l) none
        ∙ append-nil (print_section e.fields e.last)),
  );
  few = e.few;
  short = e.short;
}

-- what was fed has the body that was given, in the reader's state, and what follows an end is none of it
pub place_body : (framing : Framing) (fed body held : List ℕ) (phase : BodyPhase) (total : ℕ)
    → StandsIn framing fed body held phase
    → total ≡ length body → IsSoundPhase phase held total → (rest : List ℕ)
    → (state_of phase ≡ S.Unfinished → rest ≡ [])
    → BodyOf framing (fed ++ rest) body (state_of phase)
place_body framing fed body held (Counted left) total (size, sized, same, whole) counted sound rest none =
    at_end (λ f. BodyOf framing f body S.Unfinished) fed rest (none refl)
    (subst (λ f. BodyOf f fed body S.Unfinished) (sym sized) (
      same ∙ sym (take_all size fed (omega arith)),
      sym (ap (λ t. cond t S.Unfinished S.Ended) (lt-ltb (length fed) size (omega (arith, sound.0)))),
    ))
place_body framing fed body held Open total (up, same) counted sound rest none =
    at_end (λ f. BodyOf framing f body S.Unfinished) fed rest (none refl)
    (subst (λ f. BodyOf f fed body S.Unfinished) (sym up) (
      same ∙ sym (take_all body_limit fed (omega (arith, ap length same, sound))),
      sym (ap (λ t. cond t S.Bad S.Unfinished) (le-ltb body_limit (length fed)
          (omega (arith, ap length same, sound)))),
    ))
place_body framing fed body held Line total (chunked, after, may) counted sound rest none =
    at_end (λ f. BodyOf framing f body S.Unfinished) fed rest (none refl)
    (subst (λ f. BodyOf f fed body S.Unfinished) (sym chunked) (in_line held after sound.2 may sound.0))
place_body framing fed body held (Content left) total (chunked, part, chunk) counted sound rest none =
    at_end (λ f. BodyOf framing f body S.Unfinished) fed rest (none refl)
    (subst (λ f. BodyOf f fed body S.Unfinished) (sym chunked)
    (in_content (length part + left) part chunk (omega (arith, sound.1))))
place_body framing fed body held Gap total (chunked, part, chunk) counted sound rest none =
    at_end (λ f. BodyOf framing f body S.Unfinished) fed rest (none refl)
    (subst (λ f. BodyOf f fed body S.Unfinished) (sym chunked) (in_gap part [] chunk (inl refl)))
place_body framing fed body held GapEnd total (chunked, part, chunk) counted sound rest none =
    at_end (λ f. BodyOf framing f body S.Unfinished) fed rest (none refl)
    (subst (λ f. BodyOf f fed body S.Unfinished) (sym chunked) (in_gap part (13 ∷ []) chunk (inr refl)))
place_body framing fed body held Trailer total (chunked, trailer, may, few) counted sound rest none =
    at_end (λ f. BodyOf framing f body S.Unfinished) fed rest (none refl)
    (subst (λ f. BodyOf f fed body S.Unfinished) (sym chunked)
    (in_trailer held trailer sound.1 may few sound.0))
place_body F.Nothing fed body held Ended total (none_fed, none_given) counted sound rest none =
    (none_given, refl)
place_body (F.Sized n) fed body held Ended total (same, whole) counted sound rest none = (
  same ∙ sym (take_at fed rest n whole),
  sym (ap (λ t. cond t S.Unfinished S.Ended)
      (le-ltb (length (fed ++ rest)) n (omega (arith, length-append fed rest, whole)))),
)
place_body F.Chunked fed body held Ended total (e, ends) counted sound rest none =
    ended_more fed body rest e ends
place_body F.UntilClose fed body held Ended total stands counted sound rest none = absurd stands
place_body F.Faulty fed body held Ended total stands counted sound rest none = absurd stands
place_body F.Nothing fed body held Bad total stands counted sound rest none = absurd stands
place_body (F.Sized n) fed body held Bad total stands counted sound rest none = absurd stands
place_body F.Chunked fed body held Bad total stands counted sound rest none = bad_more fed body rest stands
place_body F.UntilClose fed body held Bad total (over, front) counted sound rest none = (
  front ∙ sym (take-append-le body_limit fed rest (omega (arith, over))),
  sym (ap (λ t. cond t S.Bad S.Unfinished) (lt-ltb body_limit (length (fed ++ rest))
      (omega (arith, length-append fed rest, over)))),
)
place_body F.Faulty fed body held Bad total stands counted sound rest none = absurd stands

length-slice_range : (bytes : List ℕ) (from to : ℕ) → from ≤ to → to ≤ length bytes
    → length (slice_range bytes from to) ≡ to - from
length-slice_range bytes from to ordered within =
    omega (arith, length-take (to - from) (drop from bytes), length-drop from bytes)

-- a step leads from where the reader stood to where it stands
pub goes_on : (old new : Place) (bytes : List ℕ) (step : FrontStep)
    → StepsOn old.phase old.held old.total bytes step new.held → new.phase ≡ step.phase
    → new.total ≡ old.total + (step.to - step.from)
    → GoesOn old new (take step.taken bytes) (slice_range bytes step.from step.to)
goes_on old new bytes step steps phase total framing fed body was =
    let given = slice_range bytes step.from step.to in
    let within = steps.within in
    let taken = steps.taken in
    record {
      stands = subst (StandsIn framing (fed ++ take step.taken bytes) (body ++ given) new.held) (sym phase)
          (steps.goes framing fed body was.counted was.stands);
      counted = omega (
        arith,
        total,
        was.counted,
        length-append body given,
        length-slice_range bytes step.from step.to steps.ordered (omega arith),
      );
      sound = subst (λ p. IsSoundPhase p new.held new.total) (sym phase)
          (subst (IsSoundPhase step.phase new.held) (sym total) steps.sound);
    }

pub gives_body : (old new : Place) (piece given : List ℕ) (state : BodyState) → state ≡ state_of new.phase
    → GoesOn old new piece given → GivesBody old piece given state
gives_body old new piece given state is goes framing fed body rest was none =
    let now = goes framing fed body was in
    subst (BodyOf framing ((fed ++ piece) ++ rest) (body ++ given)) (sym is)
    (place_body framing (fed ++ piece) (body ++ given) new.held new.phase new.total now.stands now.counted
    now.sound rest (λ unfinished. none (is ∙ unfinished)))

-- how it stands in its first phase
first_stands : (framing : Framing) → framing ≢ F.Faulty → StandsIn framing [] [] [] (first_phase framing)
first_stands F.Nothing good = (refl, refl)
first_stands (F.Sized n) good = by_test (eqb n 0) refl
  where
    by_test : (t : Bool) → eqb n 0 ≡ t → StandsIn (F.Sized n) [] [] [] (cond t Ended (Counted n))
    by_test true none = (refl, sym (eqb-true n 0 none))
    by_test false some = (n, refl, refl, omega arith)
first_stands F.Chunked good = (refl, no_chunks, line_may_begin)
first_stands F.UntilClose good = (refl, refl)
first_stands F.Faulty good = absurd (good refl)

-- a reader that was fed nothing
pub begins : (framing : Framing) (phase : BodyPhase) (held : List ℕ) (room : ℕ) → framing ≢ F.Faulty
    → phase ≡ first_phase framing → held ≡ [] → IsSoundPhase phase [] 0
    → IsFed framing [] [] (record { phase = phase; held = held; total = 0; room = room })
begins framing phase held room good is none sound = record {
  stands = subst (StandsIn framing [] [] held) (sym is)
      (subst (λ (h : List ℕ). StandsIn framing [] [] h (first_phase framing)) (sym none)
      (first_stands framing good));
  counted = refl;
  sound = subst (λ (h : List ℕ). IsSoundPhase phase h 0) (sym none) sound;
}
