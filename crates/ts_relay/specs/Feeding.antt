-- How a body comes to the chain: what waits of the origin's bytes is fed to a reader of bodies, and what of
-- it is body is given to the chain (RFC 9112, sections 6.3 and 7.1).
use Rattle.std.specs.Prelude.{◌≡◌, ℕ, List, Option, Some}
use Rattle.std.specs.Prelude.{⊤}
use Rattle.ts_wire.specs.declared.body.BodyState.{BodyState}
use Rattle.ts_wire.specs.declared.body.BodyState.TheVariants as B
use Rattle.ts_wire.specs.Place.{state_of}
use Rattle.ts_passing.specs.Feeding.{FeedsPart}
use Rattle.ts_phases.specs.View.{View}
use Rattle.ts_relay.specs.declared.last_writes.BodyStep.{BodyStep}
use Rattle.ts_relay.specs.declared.last_writes.BodyStep.TheVariants as S
use Rattle.ts_relay.specs.declared.relay.Relay.{Relay}
use Rattle.ts_relay.specs.declared.relay.Short.{Short}
use Rattle.ts_relay.specs.declared.relay.Short.TheVariants as K

-- a fact of a step that goes on, where a step may also lack memory, and leads nowhere else
abbrev pub OnGoes : BodyStep → Type 0 → Type 0
OnGoes S.Goes P = P
OnGoes S.Lacks P = ⊤
OnGoes step P = ⊥

-- no more of a body comes that is bad
abbrev pub short_if : BodyState → Option Short → Option Short
short_if B.Bad short = Some K.Bad
short_if state short = short

-- A front of what waits was fed to the reader of bodies, and what of it is body came to the chain.
pub record FeedsBody {P : Type 0} (r s : Relay P) (before after : List ℕ) : Type 0 where
  pub feeds : FeedsPart r.body s.body r.driven.chain s.driven.chain before after
  pub short : s.short ≡ short_if (state_of s.body.phase) r.short

-- the same by where the step leads
abbrev pub FeedsTo : {P : Type 0} → BodyStep → Relay P → Relay P → List ℕ → List ℕ → Type 0
FeedsTo S.Goes r s before after = FeedsBody r s before after
FeedsTo S.Lacks r s before after = (after ≡ before) × (s.short ≡ r.short)
FeedsTo step r s before after = ⊥

-- of a transaction nothing but the bytes that wait of the origin's changed
abbrev pub DrainsOrigin : View → View → Type 0
DrainsOrigin v w = w ≡ record v { origin = record v.origin { inbox = w.origin.inbox } }
