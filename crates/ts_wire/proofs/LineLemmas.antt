-- The steps of a reader over a chunk line.
use Rattle.std.proofs.Common.{◌≡◌, ◌≢◌, ℕ, ◌-◌, ◌<◌, ◌≤◌, Bool, cond, eqb, List, [], ◌++◌, length, take, drop, refl, sym, ap, subst, ◌∙◌, ⊎_elim, arith, inl, inr, length-append}
use Rattle.std.proofs.lemmas.List.{append-nil, length-take, take-take, take_all}
use Rattle.std.proofs.lemmas.Bool.{cases_lt, cases_eq, lt-ltb, le-ltb, eq-eqb, ne_eqb}
use Rattle.ts_lists.proofs.Fronts.{front_ends_in, front_was_there}
use Rattle.httparse.specs.Grammar.{ChunkLine, print_chunk_line, HasNoChunkLine, MayBecomeChunkLine, MayBecomeSection}
use Rattle.httparse.specs.Spans.{IsChunkLineAt}
use Rattle.ts_wire.specs.declared.body.BodyState.TheVariants as S
use Rattle.ts_wire.specs.declared.phases.BodyPhase.{BodyPhase}
use Rattle.ts_wire.specs.declared.phases.BodyPhase.TheVariants.{Counted, Open, Line, Content, Gap, GapEnd, Trailer, Ended, Bad}
use Rattle.ts_wire.specs.declared.phases.FrontStep.{FrontStep}
use Rattle.ts_wire.specs.Limits.{body_limit, line_limit}
use Rattle.ts_wire.specs.Body.{line_feeds, AfterChunks, InTrailer, IsBadChunked, no_line, long_line, long_body}
use Rattle.ts_wire.specs.Judged.{IsLineOf, IsBadLine, never, full, large, JudgesLine, phase_after, is_line}
use Rattle.ts_wire.specs.Place.{IsSoundPhase, StandsIn, GoesTo, StepsOn}
use Rattle.ts_wire.proofs.BodyLemmas.{no_section_yet, section_may_begin, grow}
use Rattle.ts_wire.proofs.StepLemmas.{frame_steps}

-- what the parser says of a whole line
pub line_of : (text : List ℕ) (len size : ℕ) (l : ChunkLine) → length text ≤ line_limit
    → IsChunkLineAt text len size l → IsLineOf text len size
line_of text len size l short at = record {
  line = l;
  good = record {
    line = at.reads.0;
    short = omega (arith, ap length at.reads.1, length-append (print_chunk_line l) (drop len text));
  };
  text_is = at.reads.1;
  len_is = at.len_is;
  size_is = at.size_is;
}

-- a whole line is judged by its size
pub judged_size : (text : List ℕ) (total len size : ℕ) → total ≤ body_limit → IsLineOf text len size
    → JudgesLine text total (phase_after size total) len
judged_size text total len size fits line =
    ⊎_elim
    (λ (lt : body_limit - total < size). subst (λ t.
    JudgesLine text total (cond t Bad (cond (eqb size 0) Trailer (Content size))) len)
    (sym (lt-ltb (body_limit - total) size lt))
    (large size line (omega arith)))
    (λ (ge : size ≤ body_limit - total). subst (λ t.
    JudgesLine text total (cond t Bad (cond (eqb size 0) Trailer (Content size))) len)
    (sym (le-ltb (body_limit - total) size ge))
    (⊎_elim
    (λ (zero : size ≡ 0). subst (λ t. JudgesLine text total (cond t Trailer (Content size)) len)
    (sym (eq-eqb size 0 zero)) (subst (IsLineOf text len) zero line))
    (λ (some : size ≢ 0). subst (λ t. JudgesLine text total (cond t Trailer (Content size)) len)
    (sym (ne_eqb size 0 some)) (omega arith, omega arith, line))
    (cases_eq size 0)))
    (cases_lt (body_limit - total) size)

-- a text that is some bytes that were kept, which are no line, and a front of new ones
pub record IsText (held bytes text : List ℕ) (most : ℕ) : Type 0 where
  pub piece : List ℕ
  pub piece_is : piece ≡ take most bytes
  pub text_is : text ≡ held ++ piece

-- all that is new
pub all_new : (held bytes text : List ℕ) (most : ℕ) (t : IsText held bytes text most)
    → (length text - length held ≤ length bytes) × (text ≡ held ++ take (length text - length held) bytes)
all_new held bytes text most t =
    let n : length text - length held ≡ length t.piece =
    omega (arith, ap length t.text_is, length-append held t.piece) in
    let len : length t.piece ≤ length bytes = omega (arith, ap length t.piece_is, length-take most bytes) in
    let short : length t.piece ≤ most = omega (arith, ap length t.piece_is, length-take most bytes) in
    let whole : take (length t.piece) bytes ≡ t.piece =
    sym (take-take (length t.piece) most bytes short) ∙ ap (take (length t.piece)) (sym t.piece_is)
    ∙ take_all (length t.piece) t.piece (omega arith) in
    (omega arith, t.text_is ∙ ap (λ l. held ++ l) (sym whole) ∙ ap (λ k. held ++ take k bytes) (sym n))

-- where a front of the text is longer than what was kept, it ends in the new bytes
pub front_new : (held bytes text p rest : List ℕ) (most : ℕ) → IsText held bytes text most → text ≡ p ++ rest
    → length held < length p
    → (length p - length held ≤ length bytes) × (p ≡ held ++ take (length p - length held) bytes)
front_new held bytes text p rest most t is long =
    let n = length p - length held in
    let room : n ≤ length t.piece =
    omega (arith, ap length t.text_is, ap length is, length-append held t.piece, length-append p rest) in
    let len : length t.piece ≤ length bytes = omega (arith, ap length t.piece_is, length-take most bytes) in
    let short : length t.piece ≤ most = omega (arith, ap length t.piece_is, length-take most bytes) in (
      omega arith,
      front_ends_in held t.piece p rest (sym t.text_is ∙ is) (omega arith)
          ∙ ap (λ l. held ++ l) (ap (take n) t.piece_is ∙ take-take n most bytes (omega arith)),
    )

-- a line that ends in the text is longer than what was kept
line_long : (held bytes text : List ℕ) (most len size : ℕ) → HasNoChunkLine held → IsText held bytes text most
    → IsLineOf text len size → length held < len
line_long held bytes text most len size none t line =
    let p = print_chunk_line line.line in
    ⊎_elim
    (λ (lt : length held < len). lt)
    (λ (ge : len ≤ length held). absurd (none line.line (drop (length p) held) (
      line.good.line,
      front_was_there held t.piece p (drop len text) (sym t.text_is
          ∙ line.text_is) (omega (arith, ge, line.len_is)),
    )))
    (cases_lt (length held) len)

-- what a line is that ends in the new bytes
line_new : (held bytes text : List ℕ) (most len size : ℕ) → HasNoChunkLine held → IsText held bytes text most
    → (line : IsLineOf text len size)
    → (0 < len - length held) × (len - length held ≤ length bytes)
    × (print_chunk_line line.line ++ [] ≡ held ++ take (len - length held) bytes)
line_new held bytes text most len size none t line =
    let p = print_chunk_line line.line in
    let long = line_long held bytes text most len size none t line in
    let new = front_new held bytes text p (drop len text) most t line.text_is
    (omega (arith, long, line.len_is)) in
    let n : length p - length held ≡ len - length held = omega (arith, line.len_is) in
    (omega arith, omega (arith, new.0), append-nil p ∙ new.1 ∙ ap (λ k. held ++ take k bytes) n)

-- the number of bytes that are kept is no greater than that of those judged
pub judged_long : (held bytes text : List ℕ) (most total len : ℕ) (phase : BodyPhase) → HasNoChunkLine held
    → IsText held bytes text most → JudgesLine text total phase len → length held ≤ len
judged_long held bytes text most total len (Counted left) none t judged = absurd judged
judged_long held bytes text most total len Open none t judged = absurd judged
judged_long held bytes text most total len Line none t judged =
    omega (arith, judged.0, ap length t.text_is, length-append held t.piece)
judged_long held bytes text most total len (Content size) none t judged =
    omega (arith, line_long held bytes text most len size none t judged.2)
judged_long held bytes text most total len Gap none t judged = absurd judged
judged_long held bytes text most total len GapEnd none t judged = absurd judged
judged_long held bytes text most total len Trailer none t judged =
    omega (arith, line_long held bytes text most len 0 none t judged)
judged_long held bytes text most total len Ended none t judged = absurd judged
judged_long held bytes text most total len Bad none t (never refuses is) =
    omega (arith, is, ap length t.text_is, length-append held t.piece)
judged_long held bytes text most total len Bad none t (full lacks limit is) =
    omega (arith, is, ap length t.text_is, length-append held t.piece)
judged_long held bytes text most total len Bad none t (large size line over) =
    omega (arith, line_long held bytes text most len size none t line)

-- the line goes on to the phase that it was judged to
pub line_steps : (phase : BodyPhase) (held held' bytes text : List ℕ) (total len : ℕ) (step : FrontStep)
    → IsSoundPhase Line held total
    → IsText held bytes text (line_limit - length held) → JudgesLine text total phase len
    → held' ≡ cond (is_line phase) text []
    → step ≡ record {
      phase = phase;
      taken = len - length held;
      from = 0;
      to = 0;
    } → StepsOn Line held total bytes step held'
line_steps (Counted left) held held' bytes text total len step sound t judged kept is = absurd judged
line_steps Open held held' bytes text total len step sound t judged kept is = absurd judged
line_steps Gap held held' bytes text total len step sound t judged kept is = absurd judged
line_steps GapEnd held held' bytes text total len step sound t judged kept is = absurd judged
line_steps Ended held held' bytes text total len step sound t judged kept is = absurd judged
line_steps Line held held' bytes text total len step sound t judged kept is =
    let new = all_new held bytes text (line_limit - length held) t in
    let n : len - length held ≡ length text - length held = omega (arith, judged.0) in
    let piece : text ≡ held ++ take (len - length held) bytes =
    new.1 ∙ ap (λ k. held ++ take k bytes) (sym n) in
    let some : 0 < length bytes → 0 < len - length held =
    λ inside. omega (
      arith,
      judged.0,
      sound.0,
      ap length t.text_is,
      length-append held t.piece,
      ap length t.piece_is,
      length-take (line_limit - length held) bytes,
    ) in
    let all : len - length held ≡ length bytes =
    omega (
      arith,
      judged.0,
      judged.1,
      sound.0,
      ap length t.text_is,
      length-append held t.piece,
      ap length t.piece_is,
      length-take (line_limit - length held) bytes,
    ) in
    frame_steps Line Line held held' bytes total (len - length held) step is (omega (arith, new.0, n))
    (λ unfinished same. all) refl (λ inside. inl (some inside)) (omega (arith, sound.1)) (omega arith)
    (subst (λ h. IsSoundPhase Line h total) (sym kept) (judged.1, sound.1, judged.2))
    (λ framing fed body counted (chunked, after, may). (
      chunked,
      subst (λ h. AfterChunks (fed ++ take (len - length held) bytes) (body ++ []) h []) (sym kept)
          (grow fed body held [] (take (len - length held) bytes) [] text after piece),
      subst MayBecomeChunkLine (sym kept) judged.3,
    ))
line_steps (Content size) held held' bytes text total len step sound t (some, fits, line) kept is =
    let new = line_new held bytes text (line_limit - length held) len size sound.2 t line in
    let piece = take (len - length held) bytes in
    let goes : GoesTo Line held total (Content size) held' piece [] =
    λ framing fed body counted (chunked, after, may). (
      chunked,
      [],
      record {
        line = line.line;
        good = line.good;
        after = grow fed body held [] piece [] (print_chunk_line line.line ++ []) after new.2;
        size_is = sym line.size_is ∙ omega arith;
        some = omega arith;
        fits = omega (arith, length-append body [], fits, counted);
      },
    ) in
    frame_steps Line (Content size) held held' bytes total (len - length held) step is new.1
    (λ unfinished other. absurd (omega arith)) refl (λ inside. inl new.0) (omega (arith, sound.1))
    (omega arith)
    (kept, some, fits) goes
line_steps Trailer held held' bytes text total len step sound t line kept is =
    let new = line_new held bytes text (line_limit - length held) len 0 sound.2 t line in
    let piece = take (len - length held) bytes in
    let trailer : (fed body : List ℕ) → AfterChunks fed body held []
    → InTrailer (fed ++ piece) (body ++ []) [] = λ fed body after. record {
      line = line.line;
      good = line.good;
      after = grow fed body held [] piece [] (print_chunk_line line.line ++ []) after new.2;
      zero = sym line.size_is;
    } in
    let goes : GoesTo Line held total Trailer held' piece [] =
    λ framing fed body counted (chunked, after, may). (
      chunked,
      subst (InTrailer (fed ++ piece) (body ++ [])) (sym kept) (trailer fed body after),
      subst MayBecomeSection (sym kept) section_may_begin,
      omega (arith, ap line_feeds kept),
    ) in
    frame_steps Line Trailer held held' bytes total (len - length held) step is new.1
    (λ unfinished other. absurd (omega arith)) refl (λ inside. inl new.0) (omega (arith, sound.1))
    (omega arith)
    (subst (λ h. IsSoundPhase Trailer h total) (sym kept) (omega arith, no_section_yet)) goes
line_steps Bad held held' bytes text total len step sound t judged kept is =
    frame_steps Line Bad held held' bytes total (len - length held) step is (bad_within judged)
    (λ unfinished other. absurd (omega arith)) refl
    (λ inside. inr (λ e. absurd (let f : S.Bad ≡ S.Unfinished = e in cc))) (omega (arith, sound.1))
    (omega arith) tt
    (λ framing fed body counted (chunked, after, may).
    subst (λ f. StandsIn f (fed ++ take (len - length held) bytes) (body ++ []) held' Bad) (sym chunked)
    (bad fed body counted after judged))
  where
    bad_within : IsBadLine text total len → len - length held ≤ length bytes
    bad_within (never refuses is) =
        omega (arith, is, (all_new held bytes text (line_limit - length held) t).0)
    bad_within (full lacks limit is) =
        omega (arith, is, (all_new held bytes text (line_limit - length held) t).0)
    bad_within (large size line over) =
        (line_new held bytes text (line_limit - length held) len size sound.2 t line).1

    whole : len ≡ length text → text ≡ held ++ take (len - length held) bytes
    whole e = (all_new held bytes text (line_limit - length held) t).1
        ∙ ap (λ k. held ++ take (k - length held) bytes) (sym e)

    bad : (fed body : List ℕ) → total ≡ length body → AfterChunks fed body held [] → IsBadLine text total len
        → IsBadChunked (fed ++ take (len - length held) bytes) (body ++ [])
    bad fed body counted after (never refuses e) =
        no_line text (grow fed body held [] (take (len - length held) bytes) [] text after (whole e)) refuses
    bad fed body counted after (full lacks limit e) =
        long_line text (grow fed body held [] (take (len - length held) bytes) [] text after (whole e))
        (omega arith) (subst HasNoChunkLine (sym (take_all line_limit text (omega arith))) lacks)
    bad fed body counted after (large size line over) =
        long_body line.line [] (grow fed body held [] (take (len - length held) bytes) []
        (print_chunk_line line.line ++ []) after
        (line_new held bytes text (line_limit - length held) len size sound.2 t line).2)
        line.good (omega (arith, length-append body [], over, counted, line.size_is))

-- a text that came in one piece, where nothing was kept
pub in_place : (held bytes text : List ℕ) (most n : ℕ) → held ≡ [] → text ≡ take n bytes → n ≡ most
    → IsText held bytes text most
in_place held bytes text most n none is size =
    record {
      piece = text;
      piece_is = is ∙ ap (λ k. take k bytes) size;
      text_is = ap (λ l. l ++ text) (sym none);
    }

-- a text that was kept in part
pub cut_body : (held bytes piece whole text : List ℕ) (most n : ℕ) → piece ≡ take n bytes → n ≡ most
    → whole ≡ held ++ piece → text ≡ whole → IsText held bytes text most
cut_body held bytes piece whole text most n is size kept same =
    record { piece = piece; piece_is = is ∙ ap (λ k. take k bytes) size; text_is = same ∙ kept }

-- what is kept of a text in one piece
pub kept_in_place : (test wanted : Bool) (held held' text : List ℕ) → held ≡ [] → test ≡ wanted
    → held' ≡ cond test (held ++ text) held → held' ≡ cond wanted text []
kept_in_place test wanted held held' text none same is = is ∙ (λ i. cond (same i) (none i ++ text) (none i))

-- what is kept of a text that was kept in part
pub kept_joined : (test wanted : Bool) (whole held' text : List ℕ) → text ≡ whole → test ≡ wanted
    → held' ≡ cond test whole [] → held' ≡ cond wanted text []
kept_joined test wanted whole held' text is same kept = kept ∙ (λ i. cond (same i) (sym is i) [])

-- the number of bytes that are taken
pub taken_is : (phase : BodyPhase) (step : FrontStep) (n m : ℕ)
    → step ≡ record { phase = phase; taken = n; from = 0; to = 0 } → n ≡ m
    → step ≡ record { phase = phase; taken = m; from = 0; to = 0 }
taken_is phase step n m is same = is ∙ (λ i. record { phase = phase; taken = same i; from = 0; to = 0 })
