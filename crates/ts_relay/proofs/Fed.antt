-- A reader of bodies that is fed with what waits of the origin's bytes.
use Rattle.std.proofs.Common.{◌≡◌, ◌<◌, List, ℕ, ap, drop, length, take, ◌∙◌}
use Rattle.std.specs.Prelude.{slice_range}
use Rattle.ts_passing.proofs.Fed.{feeds_part}
use Rattle.ts_passing.specs.Feeding.{GetsPart}
use Rattle.ts_relay.specs.Feeding.{FeedsBody, short_if}
use Rattle.ts_relay.specs.declared.relay.Relay.{Relay}
use Rattle.ts_wire.specs.declared.body.BodyState.{BodyState}
use Rattle.ts_wire.specs.declared.body.Fed as wire
use Rattle.ts_wire.specs.Place.{GoesOn, TakesBytes}

pub feeds_by : {P : Type 0} (r s : Relay P) (before after block : List ℕ) (fed : wire.Fed) → 0 < length block
    → block ≡ take (length block) before → TakesBytes r.body s.body block fed
    → GoesOn r.body s.body (take fed.taken block) (slice_range block fed.from fed.to)
    → after ≡ drop fed.taken before
    → GetsPart fed.state (slice_range block fed.from fed.to) r.driven.chain s.driven.chain
    → s.short ≡ short_if fed.state r.short → FeedsBody r s before after
feeds_by r s before after block fed some front takes goes left gets short = record {
  feeds = feeds_part r.body s.body r.driven.chain s.driven.chain before after block fed some front takes goes
      left gets;
  short = short ∙ ap (λ (b : BodyState). short_if b r.short) takes.state;
}
