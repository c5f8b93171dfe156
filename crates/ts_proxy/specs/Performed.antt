-- What a task answers and what it leaves: its journals, and what out took.
use Rattle.std.specs.Prelude.{◌≡◌, ℕ, List, [], ◌∷◌, ⊤, All, Bool, true, Option, Some}
use Rattle.ts_config.specs.Setup.{ConfigLines}
use Rattle.ts_journal.specs.Log.{Log}
use Rattle.ts_link.specs.Seen.{ShelfSeen, SinkSeen}
use Rattle.ts_proxy.specs.Answers.{ComesAt, HasFile, HasOutput, IsCausedBy, IsOfWork, IsReadBy, IsTextOf}
use Rattle.ts_proxy.specs.Answers.{OnCannotRead, OnNetwork, OnQuiet, TookAt}
use Rattle.ts_proxy.specs.Journals.{IsOfDriver}
use Rattle.ts_proxy.specs.Outcome.{Outcome, Report, Summary, outcome_of}
use Rattle.ts_proxy.specs.Summary.{fixed_lines, txns_of}
use Rattle.ts_proxy.specs.Words.{Transform, Replay, Task, Over, Make, Serve, Serves, config_in, input_in}
use Rattle.ts_proxy.specs.Words.{is_told}
use Rattle.ts_proxy.specs.declared.answer.Answer.{Answer}
use Rattle.ts_proxy.specs.declared.answer.Answer.TheVariants as a
use Rattle.ts_record.specs.Grammar.{Contents, IsRecording}
use Rattle.ts_journal.specs.Final.{IsFinal}
use Rattle.ts_replay.specs.Replayed.{IsReplayed}
use Rattle.ts_replay.specs.declared.outcomes.Replayed.{Replayed}

-- the journal of a job that was done by the serial driver of a body
abbrev pub IsOfBody : List Log → Type 0
IsOfBody js = (j : Log) × (js ≡ j ∷ []) × IsOfDriver j

-- the journals of one that was done by event threads
abbrev pub AreOfThreads : List Log → Type 0
AreOfThreads js = All IsFinal js

-- the journals of a job that was done, by its task
abbrev pub AreJournalsOf : Task → List Log → Type 0
AreJournalsOf (Over Transform config input) js = IsOfBody js
AreJournalsOf (Over Replay config input) js = AreOfThreads js
AreJournalsOf (Make numbers) js = AreOfThreads js
AreJournalsOf (Serve words) js = js ≡ []

-- the transactions of the recording in these bytes were replayed under these lines
pub record IsReplayOn (lines : ConfigLines) (bytes : List ℕ) (r : Replayed) : Type 0 where
  pub contents : Contents
  pub recording : IsRecording bytes contents
  pub replayed : IsReplayed lines contents.txns r

-- and the recording is of this version
pub record IsReplayIn (lines : ConfigLines) (bytes : List ℕ) (version : ℕ) (r : Replayed) : Type 0 where
  pub on : IsReplayOn lines bytes r
  pub version_is : on.contents.version ≡ version

-- the journals are those of an outcome: of recorded transactions, or of those that numbers stand for, in
-- their order, and behind them of the hook plugins of the lines
abbrev pub AreJournalsAt : Outcome → List Log → Type 0
AreJournalsAt (Report lines bytes) js = (r : Replayed) × IsReplayOn lines bytes r × (js ≡ r.journals.items)
AreJournalsAt (Summary numbers) js =
    (r : Replayed) × IsReplayed fixed_lines (txns_of numbers) r × (js ≡ r.journals.items)
AreJournalsAt _ js = ⊤

-- where the job was done its journals are left, and else none
abbrev pub LeavesJournals : (List Log → Type 0) → Answer → List Log → Type 0
LeavesJournals AreOurs a.Done js = AreOurs js
LeavesJournals AreOurs _ js = js ≡ []

-- where it was done, they are those of an outcome
abbrev pub LeavesJournalsAt : Answer → Outcome → List Log → Type 0
LeavesJournalsAt a.Done o js = AreJournalsAt o js
LeavesJournalsAt _ o js = ⊤

-- where a task names no file, and where there is none, what a shelf shows stays
abbrev pub LeavesShelf : Option Task → ShelfSeen → ShelfSeen → Type 0
LeavesShelf (Some (Over command config input)) old new = ⊤
LeavesShelf (Some (Serve words)) old new = ⊤
LeavesShelf _ old new = new ≡ old

-- where a net is served, what a sink shows stays
abbrev pub LeavesOut : Option Task → SinkSeen → SinkSeen → Type 0
LeavesOut (Some (Serve words)) old new = new ≡ old
LeavesOut _ old new = ⊤

-- the text and the journals of an outcome whose transactions were run by event threads
pub record IsRunTo (o : Outcome) (text : List ℕ) (js : List Log) : Type 0 where
  pub output : HasOutput o
  pub text_is : IsTextOf o text
  pub ours : AreOfThreads js
  pub each : AreJournalsAt o js

-- What the part of a command that comes after reading answers and leaves, whose outcome is this, and whose
-- journals are of this kind: it comes at the outcome, and out took what it is to take; with an answer that
-- comes before anything is written, out is as it was. A failed write was one of out.
pub record IsCarriedOut (AreOurs : List Log → Type 0) (o : Outcome) (out_tells : Bool)
    (out out' : SinkSeen) (answer : Answer) (js : List Log) : Type 0 where
  pub comes : (config name : List ℕ) → ComesAt config name answer o
  pub took : out_tells ≡ true → TookAt answer out out' o
  pub quiet : OnQuiet answer (out' ≡ out)
  pub cause : IsOfWork answer out out'
  pub journals : LeavesJournals AreOurs answer js
  pub each : LeavesJournalsAt answer o js

-- WHAT A TASK ANSWERS AND LEAVES, over a shelf and a sink that tell their contents or not.
pub record IsPerformed (task : Task) (tells out_tells : Bool) (shelf shelf' : ShelfSeen)
    (out out' : SinkSeen) (answer : Answer) (js : List Log) : Type 0 where
  pub comes : is_told tells (Some task) ≡ true
      → ComesAt (config_in task) (input_in task) answer (outcome_of shelf (Some task))
  pub named : is_told tells (Some task) ≡ true → OnCannotRead answer (IsReadBy shelf (config_in task))
  pub of_files : OnCannotRead answer (HasFile task)
  pub took : is_told tells (Some task) ≡ true → out_tells ≡ true
      → TookAt answer out out' (outcome_of shelf (Some task))
  pub quiet : OnQuiet answer (out' ≡ out)
  pub cause : IsCausedBy answer shelf shelf' out out'
  pub of_net : OnNetwork answer (Serves (Some task))
  pub unread : LeavesShelf (Some task) shelf shelf'
  pub unwritten : LeavesOut (Some task) out out'
  pub journals : LeavesJournals (AreJournalsOf task) answer js
  pub each : is_told tells (Some task) ≡ true → LeavesJournalsAt answer (outcome_of shelf (Some task)) js
