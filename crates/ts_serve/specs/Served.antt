-- What serving a net comes to: what the net was handed by its end, and why the end came.
use Rattle.std.specs.Prelude.{⊤, ◌≡◌, ◌⊎◌, ℕ, ◌+◌, ◌≤◌, List, [], All}
use Rattle.std.specs.List.{sum_by}
use Rattle.ts_link.specs.Counts.{Rose, greatest}
use Rattle.ts_txn.specs.Net.{NetSeen}
use Rattle.ts_txn.specs.declared.retired.Noted.{Noted}
use Rattle.ts_txn.specs.declared.retired.Retired.{Retired}
use Rattle.ts_serve.specs.declared.acceptor.Served.{Served}
use Rattle.ts_serve.specs.declared.acceptor.Served.TheVariants as served
use Rattle.ts_serve.specs.declared.acceptor.Listening.{Listening}
use Rattle.ts_serve.specs.declared.acceptor.Listening.TheVariants as listening
use Rattle.ts_serve.specs.Balance.{had_number, is_given, lacked_origin}
use Rattle.ts_serve.specs.Notes.{AreInOrder, HadSessions, noted_none, notes_of}

-- how serving ended where the threads did what they were to, by whether the net gives more clients
abbrev pub served_by : Listening → Served
served_by listening.Open = served.Whole
served_by listening.Closed = served.Whole
served_by listening.Failed = served.Failed

module _ {C O : Type 0} where
  -- What a net that tells was handed while it was served.
  pub record AreRetired (Done : Retired C O → Type 0) (old new : NetSeen C O) : Type 0 where
    -- of each holds what holds of one that is done
    pub each : All Done new.retired
    -- its number is that of a client that the net gave, and no number stands twice
    pub once : (x : ℕ) → sum_by (had_number x) new.retired ≤ is_given new x
    -- no more have no origin than dials were missed, unless that count is at its end
    pub dialed : (old.counts.misdials + sum_by lacked_origin new.retired ≤ new.counts.misdials)
        ⊎ (greatest ≤ new.counts.misdials)

  -- What a net that tells was noted while it was served, and what the clients had that were handed over.
  pub record AreSessions (Note : Noted O → Type 0) (Session : List (Noted O) → Retired C O → Type 0)
      (old new : NetSeen C O) : Type 0 where
    -- of each note holds what holds of one
    pub each : All Note new.noted
    -- only clients that were given have notes, in the order of their places, none skipped and none twice
    pub known : (x : ℕ) → is_given new x ≡ 0 → notes_of x new.noted ≡ []
    pub order : (x : ℕ) → AreInOrder 1 (notes_of x new.noted)
    -- each client that was handed over had its session, behind its notes
    pub had : HadSessions Session new
    -- no more have no origin, handed over or noted, than dials were missed, unless that count is at its end
    pub dialed : (old.counts.misdials + sum_by lacked_origin new.retired + sum_by noted_none new.noted
        ≤ new.counts.misdials) ⊎ (greatest ≤ new.counts.misdials)

  -- no call of it failed, and none said that it is closed
  abbrev pub HasNotFailed : NetSeen C O → NetSeen C O → Type 0
  HasNotFailed old new = new.counts.faults ≡ old.counts.faults

  abbrev pub IsNotClosed : NetSeen C O → NetSeen C O → Type 0
  IsNotClosed old new = new.counts.ends ≡ old.counts.ends

  -- Of each client that the net gave, what is left of it was handed over.
  abbrev pub HandsAllOver : NetSeen C O → Type 0
  HandsAllOver net = net.handed ≡ net.given

  -- Why serving a net ended so: it gave as many clients as were to come, or is closed, and did not fail; or
  -- it failed, and is not closed. What is left of each client was handed over then.
  abbrev pub HasEndedFor : Served → ℕ → NetSeen C O → NetSeen C O → Type 0
  HasEndedFor served.Whole most old new =
      HandsAllOver new × HasNotFailed old new × ((new.given ≡ most) ⊎ Rose old.counts.ends new.counts.ends)
  HasEndedFor served.Failed most old new =
      HandsAllOver new × IsNotClosed old new × Rose old.counts.faults new.counts.faults
  HasEndedFor served.NoMemory most old new = ⊤

  -- What the net gave, was handed and counted while it was served, whatever the answer, and why that ended.
  -- Where memory lacked, this is all that is said of it.
  pub record IsServed (result : Served) (most : ℕ) (old new : NetSeen C O) : Type 0 where
    -- no more clients came than were to
    pub few : new.given ≤ most
    -- and no more are handed over than came
    pub no_more : new.handed ≤ new.given
    -- once it is closed or failed, it is asked for nobody more
    pub shut : HasNotFailed old new ⊎ IsNotClosed old new
    pub ended : HasEndedFor result most old new
