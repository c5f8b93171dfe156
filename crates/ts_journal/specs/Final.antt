-- A journal in which nothing is left to be handled.
use Rattle.std.specs.Prelude.{◌≡◌, ◌+◌, [], false}
use Rattle.ts_journal.specs.Log.{Log}
use Rattle.ts_journal.specs.Machine.{HasLived, IsLawful, replay}

-- A journal that is lawful from its base on and not held, with nothing pending. Its base, and so its state and
-- its counts, are those of its whole life: of the events that were set in it, before its base too, each was
-- handled, cancelled or dropped.
pub record IsFinal (j : Log) : Type 0 where
  pub lawful : IsLawful j.base.state j.entries
  pub state : j.state ≡ replay j.base.state j.entries
  pub lived_base : HasLived j.base.made j.base.state
  pub lived : HasLived j.base.made j.state
  pub given : j.state.held ≡ false
  pub none : j.state.pending ≡ []
  pub closed : j.state.set_count ≡ j.state.handled_count + j.state.cancelled_count + j.state.dropped_count
