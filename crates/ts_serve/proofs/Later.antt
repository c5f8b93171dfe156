-- A handler that was started, or roused, was so later on, as long as nothing is forgotten and no token is
-- lost.
use Rattle.std.proofs.Common.{ℕ, ◌-◌, inl, inr, List, true}
use Rattle.ts_journal.specs.declared.entry.Pending.{Pending}
use Rattle.ts_journal.specs.declared.slotted.Slotted.{Ghosts}
use Rattle.ts_journal.specs.State.{State}
use Rattle.ts_group.specs.declared.action.Named.{Named}
use Rattle.ts_group.specs.declared.group.Group.{Group}
use Rattle.ts_slot.specs.Words.{view}
use Rattle.ts_thread.specs.declared.desk.Desk.{Desk}
use Rattle.ts_thread.specs.Desks.{KeepsTokens}
use Rattle.ts_thread.specs.News.{HasPlaceAt, KeepsPlaces}
use Rattle.ts_thread.specs.Started.{Started}
use Rattle.ts_thread.specs.Tokens.{Stays}

module _ {X G T : Type 0} {d : Ghosts X G T} where
  -- what stays with its thread does so as long as no token is lost
  stays_on : (due moment : ℕ) (old new : Desk X G T d) → KeepsPlaces old new → Stays true due moment old
      → Stays true due moment new
  stays_on due moment old new keeps (inl late) = inl late
  stays_on due moment old new keeps (inr (inl own)) = inr (inl own)
  stays_on due moment old new keeps (inr (inr spent)) = inr (inr (keeps.spent spent))

  place_on : (moment k : ℕ) (p : Pending) (old new : Desk X G T d) → KeepsPlaces old new
      → HasPlaceAt moment old k p → HasPlaceAt moment new k p
  place_on moment k p old new keeps (inl waits) = inl (
    stays_on p.due moment old new keeps waits.0,
    keeps.wheel (p.due, record { group = k; number = p.number }) waits.1,
  )
  place_on moment k p old new keeps (inr put) = inr (
    put.0,
    put.1,
    keeps.put (record { group = k; number = p.number }) put.2,
  )

pub started_later : {W Q R T U : Type 0} {d : Ghosts (Group W Q R T U) T (Group W Q R T U)}
    (Fits : T → W → Type 0) (First : ℕ → ℕ → Type 0) (Begun : W → W → Type 0)
    (Sound : W → State → List Named → Type 0) (moment k most : ℕ)
    (old new : Desk (Group W Q R T U) T (Group W Q R T U) d) → KeepsTokens old new most
    → Started Q R U Fits First Begun Sound (HasPlaceAt moment old) (view old.seat).known k
    → Started Q R U Fits First Begun Sound (HasPlaceAt moment new) (view new.seat).known k
started_later Fits First Begun Sound moment k most old new keeps at = record {
  turn = at.turn;
  found = at.found;
  started = at.started;
  left = at.left;
  starts = record {
    first = at.starts.first;
    stood = keeps.desk.seat.known.stays (k, at.turn - 1, at.found) at.starts.stood;
    turned = at.starts.turned;
    goes = at.starts.goes;
    begun = at.starts.begun;
    sound = at.starts.sound;
    world = at.starts.world;
    made = at.starts.made;
    later = at.starts.later;
    told = at.starts.told;
    tokens = λ n p there news. place_on moment k p old new keeps.places (at.starts.tokens n p there news);
    knows = λ young. keeps.desk.seat.known.stays (k, at.turn, at.left) (at.starts.knows young);
  };
}
