-- What `serve` leaves of the net: what it was handed, and why serving it ended.
use Rattle.std.specs.Prelude.{◌≡◌, ◌≢◌, ◌≤◌, ◌⊎◌, ⊤, ℕ, [], All, List, Bool, false, true, Option, Some}
use Rattle.ts_config.specs.Setup.{lines_of}
use Rattle.ts_config.specs.declared.setup.Setup.{Setup}
use Rattle.ts_link.specs.Counts.{Rose}
use Rattle.ts_link.specs.Seen.{ShelfSeen}
use Rattle.ts_history.specs.Sessions.{IsLastOf, IsNote, IsSessionOf, IsSpent}
use Rattle.ts_link.specs.declared.link.Link as link
use Rattle.ts_serve.specs.Served.{AreRetired, AreSessions, HandsAllOver, HasNotFailed, IsNotClosed}
use Rattle.ts_history.specs.Done.{IsTxnDone}
use Rattle.ts_serve.specs.Notes.{HadSessions}
use Rattle.ts_serve.specs.declared.acceptor.TheConstants.{PLACES}
use Rattle.ts_stock.specs.StockTransform.{stock_transform}
use Rattle.ts_txn.specs.Net.{NetSeen}
use Rattle.ts_txn.specs.declared.net.Began.{Began}
use Rattle.ts_txn.specs.declared.net.Began.TheVariants as B
use Rattle.ts_txn.specs.declared.retired.Retired.{Retired}
use Rattle.ts_upstream.specs.declared.upstream.Upstream as upstream
use Rattle.ts_proxy.specs.declared.answer.Answer.{Answer}
use Rattle.ts_proxy.specs.declared.answer.Answer.TheVariants as a
use Rattle.ts_proxy.specs.Answers.{IsServing}
use Rattle.ts_proxy.specs.Ends.{IsFileStatus, done, network, out_of_memory}
use Rattle.ts_proxy.specs.Outcome.{Outcome, Serving, outcome_of}
use Rattle.ts_proxy.specs.Words.{Serve, Task}
use Rattle.ts_words.specs.Serve.{ServeWords}

-- what an answer of the part that serves says of the net
abbrev pub EndsNet : {C O : Type 0} → Answer → ℕ → NetSeen C O → NetSeen C O → Type 0
EndsNet a.Done most old new =
    HandsAllOver new × HasNotFailed old new × ((new.given ≡ most) ⊎ Rose old.counts.ends new.counts.ends)
EndsNet a.Network most old new =
    HandsAllOver new × IsNotClosed old new × Rose old.counts.faults new.counts.faults
EndsNet a.OutOfMemory most old new = ⊤
EndsNet _ most old new = ⊥

-- What the part that serves leaves of a net, whatever its answer: no more clients came than were to, no more
-- were handed over than came, and it was asked for nobody more once it was closed or failed; and why serving
-- it ended.
pub record IsNetLeft {C O : Type 0} (answer : Answer) (most : ℕ) (old new : NetSeen C O) : Type 0 where
  pub few : new.given ≤ most
  pub no_more : new.handed ≤ new.given
  pub shut : HasNotFailed old new ⊎ IsNotClosed old new
  pub ended : EndsNet answer most old new

-- What a net that tells was handed and was noted while it was served by sessions under a setup: of each client
-- that was handed over its last transaction is done as if it were alone, and it had its session; and unless
-- memory lacked, nothing is left over of one that could have gone on.
pub record HasSessionsUnder {C O : Type 0} (client : link.Ghosts C) (origin : link.Ghosts O) (setup : Setup)
    (answer : Answer) (old new : NetSeen C O) : Type 0 where
  pub last : AreRetired (IsLastOf client origin stock_transform setup PLACES) old new
  pub had : AreSessions (IsNote client origin stock_transform setup PLACES)
      (IsSessionOf client origin stock_transform setup PLACES) old new
  pub spent : answer ≢ a.OutOfMemory → HadSessions (IsSpent client origin stock_transform setup PLACES) new

-- nothing was handed to it, and nothing noted
pub record IsHandedNone {C O : Type 0} (net : NetSeen C O) : Type 0 where
  pub retired : net.retired ≡ []
  pub noted : net.noted ≡ []

-- One setup stands behind all sessions, and where the files are told, it is the one that they give.
pub record HadSessionsAt {C O : Type 0} (client : link.Ghosts C) (origin : link.Ghosts O) (tells : Bool)
    (o : Outcome) (n : ℕ) (old new : NetSeen C O) : Type 0 where
  pub setup : Setup
  pub given : tells ≡ true → o ≡ Serving (lines_of setup)
  pub last : AreRetired (IsLastOf client origin stock_transform setup PLACES) old new
  pub had : AreSessions (IsNote client origin stock_transform setup PLACES)
      (IsSessionOf client origin stock_transform setup PLACES) old new
  pub spent : n ≢ out_of_memory → HadSessions (IsSpent client origin stock_transform setup PLACES) new

-- it was handed nothing, or had such sessions
abbrev pub HasSessionsIf : {C O : Type 0} → link.Ghosts C → link.Ghosts O → Setup → Answer → NetSeen C O
    → NetSeen C O → Type 0
HasSessionsIf client origin setup answer old new =
    IsHandedNone new ⊎ HasSessionsUnder client origin setup answer old new

module _ {C O : Type 0} (client : link.Ghosts C) (origin : link.Ghosts O) (both : upstream.Ghosts O C) where
  -- What is left of a transaction that has ended under a setup; where the files are told, that is the one
  -- that they give.
  pub record IsDoneAt (tells : Bool) (o : Outcome) (r : Retired C O) : Type 0 where
    pub setup : Setup
    pub given : tells ≡ true → o ≡ Serving (lines_of setup)
    pub is_done : IsTxnDone client origin both stock_transform setup PLACES r

  -- One setup stands behind all of them: each has ended under it, and where the files are told, it is the one
  -- that they give.
  pub record HaveOneSetup (tells : Bool) (o : Outcome) (all : List (Retired C O)) : Type 0 where
    pub setup : Setup
    pub given : tells ≡ true → o ≡ Serving (lines_of setup)
    pub are_done : All (IsTxnDone client origin both stock_transform setup PLACES) all

  -- What serving a net came to, and what that leaves of it.
  pub record IsServedNet (tells net_tells : Bool) (shelf shelf' : ShelfSeen) (words : ServeWords) (n : ℕ)
      (old new : NetSeen C O) : Type 0 where
    -- each client that was handed over is one that the net gave, which has ended under the lines of the
    -- files, where a connection carries one transaction
    pub retired : net_tells ≡ true → words.sessions ≡ false
        → AreRetired (IsDoneAt tells (outcome_of shelf (Some (Serve words)))) old new
    -- and all of them under one setup, if there is one
    pub one : net_tells ≡ true → words.sessions ≡ false
        → (new.retired ≡ []) ⊎ HaveOneSetup tells (outcome_of shelf (Some (Serve words))) new.retired
    -- where a connection carries several, the last transaction of each client that was handed over has ended
    -- under the lines of the files, and it had its session under them; and unless memory lacked, nothing is
    -- left over of one that could have gone on
    pub sessions : net_tells ≡ true → words.sessions ≡ true
        → IsHandedNone new
        ⊎ HadSessionsAt client origin tells (outcome_of shelf (Some (Serve words))) n old new
    -- and where a connection carries one, nothing was noted
    pub quiet : net_tells ≡ true → words.sessions ≡ false → new.noted ≡ []
    -- it gave no more than were asked for
    pub few : new.given ≤ words.connections
    -- and was handed no more than it gave
    pub no_more : new.handed ≤ new.given
    -- once it is closed or failed, it is asked for nobody more
    pub shut : HasNotFailed old new ⊎ IsNotClosed old new
    -- the job was done: it did not fail, it gave as many as that, or is closed, and what is left of each was
    -- handed over
    pub ended : n ≡ done → EndsNet a.Done words.connections old new
    -- it failed, and is not closed, and what is left of each client that it gave was handed over
    pub failed : n ≡ network → EndsNet a.Network words.connections old new
    -- where its files were not read, or not understood, the net was not used
    pub untouched : IsFileStatus n → new ≡ old
    -- where neither the shelf nor the net failed, the job was done, unless memory lacked
    pub completes : tells ≡ true → IsServing (outcome_of shelf (Some (Serve words)))
        → (Rose shelf.faults shelf'.faults → ⊥) → (Rose old.counts.faults new.counts.faults → ⊥)
        → (n ≡ done) ⊎ (n ≡ out_of_memory)

-- It was let begin at these two addresses before anything else, and was used then only if it was ready.
pub record BeginsAt {N : Type 0} (begins : List ℕ → List ℕ → Began → N → N → Type 0) (listen origin : List ℕ)
    (old new : N) : Type 0 where
  pub between : N
  pub answer : Began
  pub began : begins listen origin answer old between
  pub only : (answer ≡ B.Ready) ⊎ (new ≡ between)

-- it was not used, or it was let begin
abbrev pub IsLetBegin : {N : Type 0} → (List ℕ → List ℕ → Began → N → N → Type 0) → List ℕ → List ℕ → N → N
    → Type 0
IsLetBegin begins listen origin old new = (new ≡ old) ⊎ BeginsAt begins listen origin old new

module _ {N C O : Type 0} (client : link.Ghosts C) (origin : link.Ghosts O) (both : upstream.Ghosts O C)
    (begins : List ℕ → List ℕ → Began → N → N → Type 0) (seen : N → NetSeen C O) where
  -- What a task leaves of a net: one that serves it lets it begin at the two addresses of its words, as they
  -- are, and one that does not serve it leaves it as it is.
  abbrev pub LeavesNet : Bool → Bool → ShelfSeen → ShelfSeen → Option Task → ℕ → N → N → Type 0
  LeavesNet tells net_tells shelf shelf' (Some (Serve words)) n old new =
      IsServedNet client origin both tells net_tells shelf shelf' words n (seen old) (seen new)
      × IsLetBegin begins words.listen words.origin old new
  LeavesNet tells net_tells shelf shelf' _ n old new = new ≡ old
