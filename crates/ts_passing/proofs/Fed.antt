-- A reader of bodies that is fed with what waits, and whether a body ends with its bytes.
use Rattle.std.proofs.Common.{◌≡◌, ◌≢◌, ℕ, ◌<◌, ◌≤◌, ◌⊎◌, inl, inr, arith, List, [], length, take, drop, true}
use Rattle.std.proofs.Common.{false, refl, subst, ◌∙◌}
use Rattle.std.specs.Prelude.{slice_range, ◌↔◌}
use Rattle.ts_lists.proofs.Fronts.{front_then_rest}
use Rattle.httparse.proofs.RunLemmas.{length-slice_range}
use Rattle.std.proofs.lemmas.List.{append-nil, length-take}
use Rattle.std.proofs.lemmas.Bool.{false≢true, true≢false}
use Rattle.ts_wire.specs.declared.body.BodyEnd.{BodyEnd}
use Rattle.ts_wire.specs.declared.body.BodyEnd.TheVariants as N
use Rattle.ts_wire.specs.declared.body.BodyState.{BodyState}
use Rattle.ts_wire.specs.declared.body.BodyState.TheVariants as B
use Rattle.ts_wire.specs.declared.body.Fed as wire
use Rattle.ts_wire.specs.declared.framing.Framing.{Framing}
use Rattle.ts_wire.specs.declared.framing.Framing.TheVariants as G
use Rattle.ts_wire.specs.Body.{BodyOf, IsCutShort}
use Rattle.ts_wire.specs.Place.{GoesOn, IsFed, Place, TakesBytes, state_of}
use Rattle.ts_wire.proofs.PlaceBody.{place_body}
use Rattle.ts_transform.specs.Flow.{ChainState}
use Rattle.ts_passing.specs.Feeding.{EndsHere, FeedsPart, GetsPart}

-- no more of it is body
part_within : (block : List ℕ) (from to n : ℕ) → from ≤ to → to ≤ n → n ≤ length block
    → length (slice_range block from to) ≤ length (take n block)
part_within block from to n ordered within taken =
    omega (
      arith,
      ordered,
      within,
      taken,
      length-slice_range block from to ordered
          (omega (arith, within, taken)),
      length-take n block,
    )

-- some of a block is used, until the body is over
takes_some : (old new : Place) (block : List ℕ) (fed : wire.Fed) → 0 < length block → TakesBytes old new block
    fed → state_of old.phase ≡ B.Unfinished
    → (0 < length (take fed.taken block)) ⊎ (state_of new.phase ≢ B.Unfinished)
takes_some old new block fed some takes is = by_progress (takes.progress some is)
  where
    by_progress : (0 < fed.taken) ⊎ (fed.state ≢ B.Unfinished) → (0 < length (take fed.taken block))
        ⊎ (state_of new.phase ≢ B.Unfinished)
    by_progress (inl taken) = inl (omega (arith, taken, takes.taken, length-take fed.taken block))
    by_progress (inr over) = inr (λ e. over (takes.state ∙ e))

-- so much of what waits comes to the chain as the reader took of a block of it
pub feeds_part : {P : Type 0} (old new : Place) (c d : ChainState P) (before after block : List ℕ)
    (fed : wire.Fed) → 0 < length block → block ≡ take (length block) before → TakesBytes old new block fed
    → GoesOn old new (take fed.taken block) (slice_range block fed.from fed.to)
    → after ≡ drop fed.taken before → GetsPart fed.state (slice_range block fed.from fed.to) c d
    → FeedsPart old new c d before after
feeds_part old new c d before after block fed some front takes goes left gets = record {
  piece = take fed.taken block;
  part = slice_range block fed.from fed.to;
  within = part_within block fed.from fed.to fed.taken takes.ordered takes.within takes.taken;
  taken = front_then_rest before after block fed.taken front takes.taken left;
  progress = takes_some old new block fed some takes;
  goes = goes;
  gets = subst (λ (b : BodyState). GetsPart b (slice_range block fed.from fed.to) c d) takes.state gets;
}

-- ---- whether a body ends with its bytes

abbrev CutLaw : BodyEnd → Place → Type 0
CutLaw end place = (framing : Framing) (fed read : List ℕ) → IsFed framing fed read place
    → ((end ≡ N.Cut) ↔ IsCutShort framing fed read)

unfinished : (framing : Framing) (fed read : List ℕ) (place : Place) → state_of place.phase ≡ B.Unfinished
    → IsFed framing fed read place → BodyOf framing fed read B.Unfinished
unfinished framing fed read place state is =
    subst (BodyOf framing fed read) state
    (subst (λ (f : List ℕ). BodyOf framing f read (state_of place.phase)) (append-nil fed)
    (place_body framing fed read place.held place.phase place.total is.stands is.counted is.sound []
    (λ goes. refl)))

up_to_close : (framing : Framing) (fed read : List ℕ) → BodyOf framing fed read B.Unfinished
    → (IsCutShort framing fed read → N.Ended ≡ N.Cut) → framing ≡ G.UntilClose
up_to_close G.UntilClose fed read body law = refl
up_to_close other fed read body law = absurd (let wrong : N.Ended ≡ N.Cut = law
    (body, λ e. (let no : other ≡ G.UntilClose = e in cc)) in cc)

pub ends_closed : (place : Place) → CutLaw N.Ended place → EndsHere true place
ends_closed place law = record {
  closes = λ so framing fed read state is. up_to_close framing fed read (unfinished framing fed read place
      state is) (law framing fed read is).1;
  cuts = λ no. absurd (true≢false no);
}

pub ends_cut : (place : Place) → CutLaw N.Cut place → EndsHere false place
ends_cut place law = record {
  closes = λ no. absurd (false≢true no);
  cuts = λ so framing fed read state is. (law framing fed read is).0 refl;
}
