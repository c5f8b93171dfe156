-- The steps of a reader over a trailer section.
use Rattle.std.proofs.Common.{◌≡◌, ℕ, ◌+◌, ◌-◌, ◌^◌, ◌<◌, ◌≤◌, cond, eqb, List, [], ◌∷◌, ◌++◌, length, take, drop, refl, sym, ap, subst, ◌∙◌, ⊎_elim, arith, inl, inr, length-append}
use Rattle.std.specs.Prelude.{flat_map}
use Rattle.std.proofs.lemmas.List.{append-nil, length-take}
use Rattle.std.proofs.lemmas.List.Sums.{sum_by-append}
use Rattle.std.proofs.lemmas.Bool.{cases_lt}
use Rattle.ts_lists.proofs.Fronts.{front_was_there}
use Rattle.httparse.specs.Grammar.{LineEnd, crlf, lf, print_end, Field, print_field, print_section, HasNoSection, MayBecomeSection}
use Rattle.httparse.specs.Spans.{SectionOverflows, SectionExceeds}
use Rattle.ts_wire.specs.Limits.{trailer_limit, trailer_fields, trailer_lines}
use Rattle.ts_wire.specs.declared.body.BodyState.TheVariants as S
use Rattle.ts_wire.specs.declared.phases.BodyPhase.{BodyPhase}
use Rattle.ts_wire.specs.declared.phases.BodyPhase.TheVariants.{Counted, Open, Line, Content, Gap, GapEnd, Trailer, Ended, Bad}
use Rattle.ts_wire.specs.declared.phases.FrontStep.{FrontStep}
use Rattle.ts_wire.specs.Body.{line_feeds, InTrailer, LacksTrailer, IsEndedChunked, IsBadChunked, no_trailer, long_trailer}
use Rattle.ts_wire.specs.Judged.{IsTrailerOf, IsBadTrailer, never, long, JudgesTrailer, is_trailer}
use Rattle.ts_wire.specs.Place.{IsSoundPhase, StandsIn, StepsOn}
use Rattle.ts_wire.proofs.BodyLemmas.{more_trailer}
use Rattle.ts_wire.proofs.StepLemmas.{frame_steps}
use Rattle.ts_wire.proofs.LineLemmas.{IsText, all_new, front_new}

pub line_feeds-append : (a b : List ℕ) → line_feeds (a ++ b) ≡ line_feeds a + line_feeds b
line_feeds-append a b = sum_by-append (λ x. cond (eqb x 10) 1 0) a b

-- a line end has one line feed, and a field line at least that
pub end_has_one : (last : LineEnd) → line_feeds (print_end last) ≡ 1
end_has_one crlf = refl
end_has_one lf = refl

fields_have_ends : (fields : List Field) → length fields ≤ line_feeds (flat_map print_field fields)
fields_have_ends [] = omega arith
fields_have_ends (f ∷ fs) =
    let start = f.name ++ (58 ∷ f.raw) in
    omega (
      arith,
      fields_have_ends fs,
      line_feeds-append (print_field f) (flat_map print_field fs),
      line_feeds-append start (print_end f.end),
      end_has_one f.end,
    )

-- a section with more fields than there may be has begun: 65 lines are there
many_lines : (text : List ℕ) → SectionExceeds trailer_fields text → trailer_lines ≤ line_feeds text
many_lines text (front, rest, is, fields, reads, many) =
    let section = flat_map print_field fields in
    let whole : front ++ 10 ∷ [] ≡ section ++ 10 ∷ [] = reads.1 ∙ append-nil (section ++ 10 ∷ []) in
    omega (
      arith,
      many,
      fields_have_ends fields,
      ap line_feeds is,
      ap line_feeds whole,
      line_feeds-append front rest,
      line_feeds-append front (10 ∷ []),
      line_feeds-append section (10 ∷ []),
    )

lacks_any : (text : List ℕ) → HasNoSection text → LacksTrailer text
lacks_any text none fields last rest reads few short = none fields last rest reads

lacks_few : (text : List ℕ) → SectionOverflows trailer_fields text → LacksTrailer text
lacks_few text over fields last rest reads few short =
    let many = over [] fields last rest (reads.0, append-nil text ∙ reads.1) in
    absurd (omega (arith, many, few))

-- what the parser says of a section that has too many fields
pub many_fields_of : (text : List ℕ) → SectionOverflows trailer_fields text
    → SectionExceeds trailer_fields text → IsBadTrailer text
many_fields_of text over exceeds = long (inl (many_lines text exceeds)) (lacks_few text over)

-- a section that ends in the text is longer than what was kept
trailer_long : (held bytes text : List ℕ) (most len : ℕ) → HasNoSection held → IsText held bytes text most
    → IsTrailerOf text len → length held < len
trailer_long held bytes text most len none t trailer =
    let p = print_section trailer.fields trailer.last in
    ⊎_elim
    (λ (lt : length held < len). lt)
    (λ (ge : len ≤ length held). absurd (none trailer.fields trailer.last (drop (length p) held) (
      trailer.reads.0,
      front_was_there held t.piece p (drop len text) (sym t.text_is
          ∙ trailer.reads.1) (omega (arith, ge, trailer.len_is)),
    )))
    (cases_lt (length held) len)

trailer_new : (held bytes text : List ℕ) (most len : ℕ) → HasNoSection held → IsText held bytes text most
    → (trailer : IsTrailerOf text len)
    → (0 < len - length held) × (len - length held ≤ length bytes)
    × (print_section trailer.fields trailer.last ≡ held ++ take (len - length held) bytes)
trailer_new held bytes text most len none t trailer =
    let p = print_section trailer.fields trailer.last in
    let long = trailer_long held bytes text most len none t trailer in
    let new = front_new held bytes text p (drop len text) most t trailer.reads.1
    (omega (arith, long, trailer.len_is)) in
    let n : length p - length held ≡ len - length held = omega (arith, trailer.len_is) in
    (omega arith, omega (arith, new.0), new.1 ∙ ap (λ k. held ++ take k bytes) n)

pub judged_trailer_long : (held bytes text : List ℕ) (most len : ℕ) (phase : BodyPhase) → HasNoSection held
    → IsText held bytes text most → JudgesTrailer text phase len → length held ≤ len
judged_trailer_long held bytes text most len (Counted left) none t judged = absurd judged
judged_trailer_long held bytes text most len Open none t judged = absurd judged
judged_trailer_long held bytes text most len Line none t judged = absurd judged
judged_trailer_long held bytes text most len (Content left) none t judged = absurd judged
judged_trailer_long held bytes text most len Gap none t judged = absurd judged
judged_trailer_long held bytes text most len GapEnd none t judged = absurd judged
judged_trailer_long held bytes text most len Trailer none t judged =
    omega (arith, judged.0, ap length t.text_is, length-append held t.piece)
judged_trailer_long held bytes text most len Ended none t judged =
    omega (arith, trailer_long held bytes text most len none t judged)
judged_trailer_long held bytes text most len Bad none t judged =
    omega (arith, judged.0, ap length t.text_is, length-append held t.piece)

-- the section goes on to the phase that it was judged to
pub trailer_steps : (phase : BodyPhase) (held held' bytes text : List ℕ) (total len : ℕ) (step : FrontStep)
    → IsSoundPhase Trailer held total → total < 2 ^ 64
    → length text ≤ trailer_limit → IsText held bytes text (trailer_limit - length held)
    → JudgesTrailer text phase len → held' ≡ cond (is_trailer phase) text []
    → step ≡ record {
      phase = phase;
      taken = len - length held;
      from = 0;
      to = 0;
    } → StepsOn Trailer held total bytes step held'
trailer_steps (Counted left) held held' bytes text total len step sound fits size t judged kept is =
    absurd judged
trailer_steps Open held held' bytes text total len step sound fits size t judged kept is = absurd judged
trailer_steps Line held held' bytes text total len step sound fits size t judged kept is = absurd judged
trailer_steps (Content left) held held' bytes text total len step sound fits size t judged kept is =
    absurd judged
trailer_steps Gap held held' bytes text total len step sound fits size t judged kept is = absurd judged
trailer_steps GapEnd held held' bytes text total len step sound fits size t judged kept is = absurd judged
trailer_steps Trailer held held' bytes text total len step sound fits size t judged kept is =
    let most = trailer_limit - length held in
    let new = all_new held bytes text most t in
    let n : len - length held ≡ length text - length held = omega (arith, judged.0) in
    let piece : text ≡ held ++ take (len - length held) bytes =
    new.1 ∙ ap (λ k. held ++ take k bytes) (sym n) in
    let some : 0 < length bytes → 0 < len - length held =
    λ inside. omega (
      arith,
      judged.0,
      sound.0,
      ap length t.text_is,
      length-append held t.piece,
      ap length t.piece_is,
      length-take most bytes,
    ) in
    let all : len - length held ≡ length bytes =
    omega (
      arith,
      judged.0,
      judged.1,
      sound.0,
      ap length t.text_is,
      length-append held t.piece,
      ap length t.piece_is,
      length-take most bytes,
    ) in
    frame_steps Trailer Trailer held held' bytes total (len - length held) step is (omega (arith, new.0, n))
    (λ unfinished same. all) refl (λ inside. inl (some inside)) fits (omega arith)
    (subst (λ h. IsSoundPhase Trailer h total) (sym kept) (judged.1, judged.3))
    (λ framing fed body counted (chunked, trailer, may, few). (
      chunked,
      subst (InTrailer (fed ++ take (len - length held) bytes) (body ++ [])) (sym (kept ∙ piece))
          (more_trailer fed body held (take (len - length held) bytes) trailer),
      subst MayBecomeSection (sym kept) judged.4,
      omega (arith, ap line_feeds kept, judged.2),
    ))
trailer_steps Ended held held' bytes text total len step sound fits size t whole kept is =
    let most = trailer_limit - length held in
    let new = trailer_new held bytes text most len sound.1 t whole in
    let piece = take (len - length held) bytes in
    let p = print_section whole.fields whole.last in
    let short : length p ≤ trailer_limit =
    omega (arith, size, ap length whole.reads.1, length-append p (drop len text)) in
    let ends : (fed body : List ℕ) → InTrailer fed body held → IsEndedChunked (fed ++ piece) (body ++ []) =
    λ fed body trailer. record {
      text = p;
      trailer = subst (InTrailer (fed ++ piece) (body ++ [])) (sym new.2)
          (more_trailer fed body held piece trailer);
      fields = whole.fields;
      last = whole.last;
      rest = [];
      reads = (whole.reads.0, sym (append-nil p));
      few = whole.few;
      short = short;
    } in
    frame_steps Trailer Ended held held' bytes total (len - length held) step is new.1
    (λ unfinished other. absurd (omega arith)) refl (λ inside. inl new.0) fits (omega arith) tt
    (λ framing fed body counted (chunked, trailer, may, few).
    subst (λ f. StandsIn f (fed ++ piece) (body ++ []) held' Ended) (sym chunked) (
      ends fed body trailer,
      refl,
    ))
trailer_steps Bad held held' bytes text total len step sound fits size t (all, judged) kept is =
    let most = trailer_limit - length held in
    let new = all_new held bytes text most t in
    let n : len - length held ≡ length text - length held = omega (arith, all) in
    let piece : text ≡ held ++ take (len - length held) bytes =
    new.1 ∙ ap (λ k. held ++ take k bytes) (sym n) in
    frame_steps Trailer Bad held held' bytes total (len - length held) step is (omega (arith, new.0, n))
    (λ unfinished other. absurd (omega arith)) refl
    (λ inside. inr (λ e. absurd (let f : S.Bad ≡ S.Unfinished = e in cc))) fits (omega arith) tt
    (λ framing fed body counted (chunked, trailer, may, few).
    subst (λ f. StandsIn f (fed ++ take (len - length held) bytes) (body ++ []) held' Bad) (sym chunked)
    (bad (fed ++ take (len - length held) bytes) (body ++ [])
    (subst (InTrailer (fed ++ take (len - length held) bytes) (body ++ [])) (sym piece)
    (more_trailer fed body held (take (len - length held) bytes) trailer)) judged))
  where
    bad : (fed body : List ℕ) → InTrailer fed body text → IsBadTrailer text → IsBadChunked fed body
    bad fed body trailer (never refuses) = no_trailer text trailer refuses
    bad fed body trailer (long many lacks) = long_trailer text trailer many lacks
