-- How a transaction brings forward the events of those of its continuations that wait for a link.
use Rattle.std.specs.Prelude.{◌≡◌, ℕ, ◌+◌, ◌≤◌, length, List, Bool, true, false, Option, Some, None, Result}
use Rattle.ts_journal.specs.declared.entry.ContKey.{ContKey}
use Rattle.ts_group.specs.declared.action.SetFault.{SetFault}
use Rattle.ts_group.specs.Context.{AllPlain, Context}
use Rattle.ts_group.specs.Late.{Hastens}
use Rattle.ts_transform.specs.Driving.{HasEvent}
use Rattle.ts_transform.specs.Seats.{AllSeated}
use Rattle.ts_transform.specs.declared.continuation.StageContinuation.{StageContinuation}
use Rattle.ts_phases.specs.declared.phase.Phase.{Phase}
use Rattle.ts_phases.specs.declared.phase.Phase.TheVariants as P
use Rattle.ts_txn.specs.declared.course.Course.{Course}
use Rattle.ts_txn.specs.declared.course.Course.TheVariants as K
use Rattle.ts_txn.specs.declared.txn.Txn.{Txn}

-- the step of the phase calls a link, which may not be ready
abbrev pub is_at_link : Phase → Bool
is_at_link P.ReadRequest = true
is_at_link (P.SendRequest q) = true
is_at_link (P.Upload q) = true
is_at_link (P.ReadResponse q) = true
is_at_link (P.Sending a) = true
is_at_link _ = false

-- so does the next step of the transaction
abbrev pub is_link_next : {Q : Type 0} → Course Q → Bool
is_link_next (K.Phased p) = is_at_link p
is_link_next (K.Relaying r) = true
is_link_next (K.Finishing end) = true

-- the reader of the body that is passed on
abbrev pub reader_of : {Q : Type 0} → Course Q → Option StageContinuation
reader_of (K.Relaying r) = r.reader
reader_of _ = None

-- the first late event of a continuation is brought forward, or could not be; and nothing else changes
abbrev pub HastensEnd : Option StageContinuation → Context → Context → Type 0
HastensEnd None old new = new ≡ old
HastensEnd (Some t) old new = (result : Result Bool SetFault)
    × Hastens old.log new.log t.key old.moment result × (new.roles ≡ old.roles) × (new.calls ≡ old.calls)

-- so is that of one continuation, and then that of another
pub record HastensBoth (main reader : Option StageContinuation) (old new : Context) : Type 0 where
  pub mid : Context
  pub before : HastensEnd main old mid
  pub behind : HastensEnd reader mid new

-- Where the next step calls a link, the first continuation and the reader are hastened; the stages of a body
-- keep their pauses. Else nothing is done.
pub record RousesOn {Q : Type 0} (main : Option StageContinuation) (course : Course Q) (old new : Context)
    : Type 0 where
  pub rests : is_link_next course ≡ false → new ≡ old
  pub hastens : is_link_next course ≡ true → HastensBoth main (reader_of course) old new

-- how many events are set at most where one continuation is hastened, and where both are
abbrev pub set_by_end : ℕ
set_by_end = 1

abbrev pub set_by_both : ℕ
set_by_both = set_by_end + set_by_end

-- So it was roused, and is the same.
pub record HasRoused {C O Q : Type 0} (old new : Txn C O Q) (before after : Context) : Type 0 where
  pub same : new ≡ old
  pub on : RousesOn old.main old.course before after

-- What was pending is so, or an event of its key at which a stage works is pending in its place. At most so
-- many events were set.
pub record KeepsWork (most : ℕ) (old new : Context) : Type 0 where
  pub event : (key : ContKey) → HasEvent old.log.state.pending key → HasEvent new.log.state.pending key
  pub seated : (ts : List (Option StageContinuation))
      → AllSeated old.log.state.pending ts → AllSeated new.log.state.pending ts
  pub plain : AllPlain old.log.state.pending → AllPlain new.log.state.pending
  pub count : length new.log.state.pending ≡ length old.log.state.pending
  pub later : old.log.state.next ≤ new.log.state.next
  pub few : new.log.state.next ≤ old.log.state.next + most
  pub roles : new.roles ≡ old.roles
