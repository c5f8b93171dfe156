-- The search for a final head, and for the end of a body, step by step.
use Rattle.std.proofs.Common.{◌≡◌, ◌≢◌, ◌⊎◌, ⊎_elim, inl, inr, refl, ℕ, ◌+◌, ◌<◌, ◌≤◌, List, ◌++◌, Option}
use Rattle.std.proofs.Common.{Some, None, length, take, drop, sym, ap, subst, ◌∙◌, true, false, arith}
use Rattle.std.proofs.Common.{drop-drop, append_assoc}
use Rattle.std.proofs.lemmas.List.{length-drop, take-append-drop, drop_all}
use Rattle.ts_wire.specs.declared.heads.ResponseHead.{ResponseHead}
use Rattle.ts_wire.specs.declared.framing.Framing.{Framing}
use Rattle.ts_wire.specs.declared.body.BodyState.{BodyState}
use Rattle.ts_wire.specs.declared.body.BodyState.TheVariants as B
use Rattle.ts_wire.specs.Body.{BodyOf}
use Rattle.std.specs.Prelude.{slice_range}
use Rattle.ts_wire.specs.declared.body.Fed.{Fed}
use Rattle.ts_wire.specs.Place.{Place, IsFed, TakesBytes, GoesOn, GivesBody, state_of}
use Rattle.ts_block.specs.Heads.{HasResponse, PassesInterims, LacksFinal, is_interim}
use Rattle.ts_block.specs.Finding.{FindsResponse, FindsFinal}
use Rattle.ts_block.specs.Reading.{HasFed}
use Rattle.ts_block.proofs.OneHead.{next_interim, lacks_final}

-- what was found stands at the place, and the rest is further on
further : (bytes : List ℕ) (at used : ℕ) (h : ResponseHead) → at ≤ length bytes
    → FindsResponse (drop at bytes) (Some (h, used))
    → HasResponse (drop at bytes) h (drop (at + used) bytes) × (at + used ≤ length bytes)
further bytes at used h within (has, some, most) =
    let len = length-drop at bytes in (
      subst (λ (r : List ℕ). HasResponse (drop at bytes) h r) (drop-drop used at bytes) has,
      omega
          (arith, within, most, len),
    )

-- one interim head more
pub passes : (bytes : List ℕ) (at used : ℕ) (h : ResponseHead) (o : Option (ResponseHead × ℕ))
    → PassesInterims bytes (drop at bytes) → at ≤ length bytes
    → FindsResponse (drop at bytes) o → o ≡ Some (h, used) → is_interim h.status ≡ true
    → PassesInterims bytes (drop (at + used) bytes) × (at + used ≤ length bytes)
passes bytes at used h o passed within found is interim =
    let here = further bytes at used h within (subst (FindsResponse (drop at bytes)) is found) in
    (next_interim bytes (drop at bytes) (drop (at + used) bytes) h passed here.0 interim, here.1)

-- the first that is not
pub finds : (bytes : List ℕ) (at used : ℕ) (h : ResponseHead) (o : Option (ResponseHead × ℕ))
    → PassesInterims bytes (drop at bytes) → at ≤ length bytes
    → FindsResponse (drop at bytes) o → o ≡ Some (h, used) → is_interim h.status ≡ false
    → FindsFinal bytes (Some (h, at + used))
finds bytes at used h o passed within found is final =
    let here = further bytes at used h within (subst (FindsResponse (drop at bytes)) is found) in
    (record { from = drop at bytes; passed = passed; reads = here.0; final = final }, here.1)

-- none
pub lacks : (bytes : List ℕ) (at : ℕ) (o : Option (ResponseHead × ℕ)) → PassesInterims bytes (drop at bytes)
    → FindsResponse (drop at bytes) o → o ≡ None → LacksFinal bytes
lacks bytes at o passed found is = lacks_final bytes (drop at bytes) passed
    (subst (FindsResponse (drop at bytes)) is found)

-- what was given with a piece is the body of all the bytes, where none follow it or the body goes no further
reads_all : (framing : Framing) (bytes body rest given made : List ℕ) (old : Place) (taken : ℕ)
    (state : BodyState) → HasFed framing bytes body rest old
    → GivesBody old (take taken rest) given state → made ≡ body ++ given
    → (state ≡ B.Unfinished → length rest ≤ taken) → BodyOf framing bytes made state
reads_all framing bytes body rest given made old taken state was gives is all =
    let whole : (was.fed ++ take taken rest) ++ drop taken rest ≡ bytes =
    append_assoc was.fed (take taken rest) (drop taken rest)
    ∙ ap (λ r. was.fed ++ r) (take-append-drop taken rest) ∙ was.text in
    let says = gives framing was.fed body (drop taken rest) was.is_fed (λ e. drop_all taken rest (all e)) in
    subst (λ (b : List ℕ). BodyOf framing b made state) whole
    (subst (λ (m : List ℕ). BodyOf framing ((was.fed ++ take taken rest) ++ drop taken rest) m state)
    (sym is) says)

-- so it is where the reader says in which state it is
reads_as : (framing : Framing) (bytes body rest made : List ℕ) (old : Place) (fed : Fed) (state : BodyState)
    → HasFed framing bytes body rest old
    → GivesBody old (take fed.taken rest) (slice_range rest fed.from fed.to) fed.state
    → made ≡ body ++ slice_range rest fed.from fed.to
    → fed.state ≡ state → (state ≡ B.Unfinished → length rest ≤ fed.taken) → BodyOf framing bytes made state
reads_as framing bytes body rest made old fed state was gives is so all =
    subst (λ (s : BodyState). BodyOf framing bytes made s) so
    (reads_all framing bytes body rest (slice_range rest fed.from fed.to) made old fed.taken fed.state was
    gives is (λ u. all (sym so ∙ u)))

-- the body has ended, or is bad
pub reads_ended : (framing : Framing) (bytes body rest made : List ℕ) (old : Place) (fed : Fed)
    → HasFed framing bytes body rest old
    → GivesBody old (take fed.taken rest) (slice_range rest fed.from fed.to) fed.state
    → made ≡ body ++ slice_range rest fed.from fed.to
    → fed.state ≡ B.Ended → BodyOf framing bytes made B.Ended
reads_ended framing bytes body rest made old fed was gives is so =
    reads_as framing bytes body rest made old fed B.Ended was gives is so (λ u. absurd (cc))

pub reads_bad : (framing : Framing) (bytes body rest made : List ℕ) (old : Place) (fed : Fed)
    → HasFed framing bytes body rest old
    → GivesBody old (take fed.taken rest) (slice_range rest fed.from fed.to) fed.state
    → made ≡ body ++ slice_range rest fed.from fed.to
    → fed.state ≡ B.Bad → BodyOf framing bytes made B.Bad
reads_bad framing bytes body rest made old fed was gives is so =
    reads_as framing bytes body rest made old fed B.Bad was gives is so (λ u. absurd (cc))

-- all bytes are read
pub reads_to_end : (framing : Framing) (bytes body rest made : List ℕ) (old : Place) (fed : Fed)
    → HasFed framing bytes body rest old
    → GivesBody old (take fed.taken rest) (slice_range rest fed.from fed.to) fed.state
    → made ≡ body ++ slice_range rest fed.from fed.to
    → fed.state ≡ B.Unfinished → length rest ≤ fed.taken → BodyOf framing bytes made B.Unfinished
reads_to_end framing bytes body rest made old fed was gives is so all =
    reads_as framing bytes body rest made old fed B.Unfinished was gives is so (λ u. all)

-- the reader goes on behind the piece
pub reads_on : (framing : Framing) (bytes body rest made left : List ℕ) (old new : Place) (fed : Fed)
    → HasFed framing bytes body rest old
    → GoesOn old new (take fed.taken rest) (slice_range rest fed.from fed.to)
    → made ≡ body ++ slice_range rest fed.from fed.to
    → left ≡ drop fed.taken rest → HasFed framing bytes made left new
reads_on framing bytes body rest made left old new fed was goes is behind =
    record {
      fed = was.fed ++ take fed.taken rest;
      is_fed = subst (λ (m : List ℕ). IsFed framing (was.fed ++ take fed.taken rest) m new) (sym is)
          (goes framing was.fed body was.is_fed);
      text = ap (λ (l : List ℕ). (was.fed ++ take fed.taken rest) ++ l) behind
          ∙ append_assoc was.fed (take fed.taken rest) (drop fed.taken rest)
          ∙ ap (λ r. was.fed ++ r) (take-append-drop fed.taken rest) ∙ was.text;
    }

is_unfinished : (s : BodyState) → (s ≡ B.Unfinished) ⊎ (s ≢ B.Unfinished)
is_unfinished B.Unfinished = inl refl
is_unfinished _ = inr (λ e. absurd (cc))

-- a reader that stays unfinished before the end of the bytes has taken some
pub reads_some : (rest left : List ℕ) (old new : Place) (fed : Fed) → TakesBytes old new rest fed
    → (state_of old.phase ≢ B.Unfinished → fed.state ≡ state_of old.phase)
    → fed.state ≡ B.Unfinished → fed.taken < length rest → left ≡ drop fed.taken rest
    → length left < length rest
reads_some rest left old new fed takes stays so small behind =
    let len = ap length behind ∙ length-drop fed.taken rest in
    ⊎_elim
    (λ (was : state_of old.phase ≡ B.Unfinished).
    let some : 0 < length rest = omega (arith, small) in
    ⊎_elim (λ (n : 0 < fed.taken). omega (arith, n, small, len))
    (λ (not : fed.state ≢ B.Unfinished). absurd (not so)) (takes.progress some was))
    (λ (other : state_of old.phase ≢ B.Unfinished). absurd (other (sym (stays other) ∙ so)))
    (is_unfinished (state_of old.phase))

-- what a piece makes of the body so far
pub ruleset body_reads = (reads_ended, reads_bad, reads_to_end, reads_on, reads_some)
