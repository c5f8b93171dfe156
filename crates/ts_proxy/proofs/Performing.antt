-- From the parts of a task's work to what the task came to.
use Rattle.std.proofs.Common.{◌≡◌, ◌∙◌, ℕ, Bool, true, List, [], ◌∷◌, Option, None, Some, ap, inl, inr, refl, sym}
use Rattle.std.proofs.Common.{subst}
use Rattle.std.specs.List.{AllByRecursion}
use Rattle.ts_config.specs.Setup.{ConfigLines}
use Rattle.ts_journal.specs.Log.{Log}
use Rattle.ts_link.specs.Counts.{Rose}
use Rattle.ts_link.specs.Seen.{ShelfSeen, SinkSeen}
use Rattle.ts_proxy.specs.declared.answer.Answer.{Answer}
use Rattle.ts_proxy.specs.declared.answer.Answer.TheVariants as a
use Rattle.ts_proxy.specs.declared.answer.NamedFile.{NamedFile}
use Rattle.ts_proxy.specs.declared.command.GenerateTask.{GenerateTask}
use Rattle.ts_proxy.specs.Answers.{ComesAt, HasFile, HasJob, HasOutput, IsCausedBy, IsOfReading}
use Rattle.ts_proxy.specs.Answers.{IsOfRunning, IsOfWork, IsUnfailed}
use Rattle.ts_proxy.specs.Answers.{IsReadBy, IsTextOf, OnCannotRead, OnNetwork, OnQuiet, TookAt, TookText}
use Rattle.ts_proxy.specs.Outcome.{Outcome, Usage, BadLine, Missing, Long, Text, Report, Summary, Serving}
use Rattle.ts_proxy.specs.Outcome.{performed, worked}
use Rattle.ts_proxy.specs.Performed.{AreJournalsAt, AreJournalsOf, AreOfThreads, IsCarriedOut, IsPerformed}
use Rattle.ts_proxy.specs.Performed.{IsReplayIn, IsRunTo, LeavesJournals, LeavesJournalsAt}
use Rattle.ts_proxy.specs.Summary.{fixed_lines, summary_of, summary_text, txns_of}
use Rattle.ts_proxy.specs.Took.{TookAll, TookFront, TookWhole}
use Rattle.ts_proxy.specs.Words.{Command, Over, Make}
use Rattle.ts_record.specs.Grammar.{IsTxn, MayLeave, TxnPieces}
use Rattle.ts_record.specs.Report.{report_text}
use Rattle.ts_replay.specs.Recorded.{AllTakeSome, TakesSome}
use Rattle.ts_replay.specs.Replayed.{IsReplayed}
use Rattle.ts_replay.specs.Reports.{AreBlocksOn}
use Rattle.ts_replay.specs.declared.outcomes.Replayed.{Replayed}

-- an answer of the part that comes after reading tells of no file
work-names : (answer : Answer) (out out' : SinkSeen) (P : NamedFile → Type 0) → IsOfWork answer out out'
    → OnCannotRead answer P
work-names a.Done out out' P h = tt
work-names a.Usage out out' P h = tt
work-names (a.BadLine f) out out' P h = tt
work-names (a.BadRecording offset) out out' P h = tt
work-names (a.CannotRead f) out out' P h = absurd h
work-names a.CannotWrite out out' P h = tt
work-names a.OutOfMemory out out' P h = tt
work-names (a.TooLong f) out out' P h = tt
work-names a.Network out out' P h = tt

-- and has its cause in out, where no read was refused
work-caused : (answer : Answer) (shelf shelf' : ShelfSeen) (out out' : SinkSeen) → IsUnfailed shelf shelf'
    → IsOfWork answer out out' → IsCausedBy answer shelf shelf' out out'
work-caused a.Done shelf shelf' out out' read h =
    record { reads = record { faults = read.faults; longs = read.longs }; writes = h }
work-caused a.Usage shelf shelf' out out' read h = h
work-caused (a.BadLine f) shelf shelf' out out' read h = absurd h
work-caused (a.BadRecording offset) shelf shelf' out out' read h =
    record { reads = record { faults = read.faults; longs = read.longs }; writes = h }
work-caused (a.CannotRead f) shelf shelf' out out' read h = absurd h
work-caused a.CannotWrite shelf shelf' out out' read h =
    record { reads = record { faults = read.faults; longs = read.longs }; writes = h }
work-caused a.OutOfMemory shelf shelf' out out' read h =
    record { reads = record { faults = read.faults; longs = read.longs }; writes = h }
work-caused (a.TooLong f) shelf shelf' out out' read h = absurd h
work-caused a.Network shelf shelf' out out' read h = absurd h

-- nor does a net
work-nets : (answer : Answer) (out out' : SinkSeen) (P : Type 0) → IsOfWork answer out out'
    → OnNetwork answer P
work-nets a.Done out out' P h = tt
work-nets a.Usage out out' P h = tt
work-nets (a.BadLine f) out out' P h = tt
work-nets (a.BadRecording offset) out out' P h = tt
work-nets (a.CannotRead f) out out' P h = tt
work-nets a.CannotWrite out out' P h = tt
work-nets a.OutOfMemory out out' P h = tt
work-nets (a.TooLong f) out out' P h = tt
work-nets a.Network out out' P h = absurd h

reading-nets : (answer : Answer) (shelf shelf' : ShelfSeen) (P : Type 0) → IsOfReading answer shelf shelf'
    → OnNetwork answer P
reading-nets a.Done shelf shelf' P h = tt
reading-nets a.Usage shelf shelf' P h = tt
reading-nets (a.BadLine f) shelf shelf' P h = tt
reading-nets (a.BadRecording offset) shelf shelf' P h = tt
reading-nets (a.CannotRead f) shelf shelf' P h = tt
reading-nets a.CannotWrite shelf shelf' P h = tt
reading-nets a.OutOfMemory shelf shelf' P h = tt
reading-nets (a.TooLong f) shelf shelf' P h = tt
reading-nets a.Network shelf shelf' P h = absurd h

-- ---- a command over files

-- the files of a command were read, and the part that comes after reading was done
pub performed-worked : (command : Command) (config input : List ℕ) (tells out_tells : Bool)
    (shelf shelf' : ShelfSeen) (out out' : SinkSeen) (answer : Answer) (js : List Log)
    (lines : ConfigLines) (bytes : List ℕ)
    → (tells ≡ true → (any : Command) → performed any shelf.file config input ≡ worked any lines bytes)
    → IsUnfailed shelf shelf'
    → IsCarriedOut (AreJournalsOf (Over command config input)) (worked command lines bytes) out_tells out out'
    answer js
    → IsPerformed (Over command config input) tells out_tells shelf shelf' out out' answer js
performed-worked command config input tells out_tells shelf shelf' out out' answer js lines bytes told read
    work =
    record {
      comes = λ tell. subst (ComesAt config input answer) (sym (told tell command)) (work.comes config input);
      named = λ tell. work-names answer out out' (IsReadBy shelf config) work.cause;
      of_files = work-names answer out out' (HasFile (Over command config input)) work.cause;
      took = λ tell out_tell. subst (TookAt answer out out') (sym (told tell command)) (work.took out_tell);
      quiet = work.quiet;
      cause = work-caused answer shelf shelf' out out' read work.cause;
      of_net = work-nets answer out out' ⊥ work.cause;
      unread = tt;
      unwritten = tt;
      journals = work.journals;
      each = λ tell. subst (λ o. LeavesJournalsAt answer o js) (sym (told tell command)) work.each;
    }

reading-caused : (answer : Answer) (shelf shelf' : ShelfSeen) (out : SinkSeen)
    → IsOfReading answer shelf shelf' → IsCausedBy answer shelf shelf' out out
reading-caused a.Done shelf shelf' out h = absurd h
reading-caused a.Usage shelf shelf' out h = h
reading-caused (a.BadLine f) shelf shelf' out h = record { reads = h; writes = refl }
reading-caused (a.BadRecording offset) shelf shelf' out h = absurd h
reading-caused (a.CannotRead f) shelf shelf' out h = record { reads = h; writes = refl }
reading-caused a.CannotWrite shelf shelf' out h = absurd h
reading-caused a.OutOfMemory shelf shelf' out h = record { reads = h; writes = refl }
reading-caused (a.TooLong f) shelf shelf' out h = record { reads = h; writes = refl }
reading-caused a.Network shelf shelf' out h = absurd h

reading-took : (answer : Answer) (shelf shelf' : ShelfSeen) (out : SinkSeen) (o : Outcome)
    → IsOfReading answer shelf shelf' → TookAt answer out out o
reading-took a.Done shelf shelf' out o h = absurd h
reading-took a.Usage shelf shelf' out o h = refl
reading-took (a.BadLine f) shelf shelf' out o h = refl
reading-took (a.BadRecording offset) shelf shelf' out o h = refl
reading-took (a.CannotRead f) shelf shelf' out o h = refl
reading-took a.CannotWrite shelf shelf' out o h = absurd h
reading-took a.OutOfMemory shelf shelf' out o h = inl refl
reading-took (a.TooLong f) shelf shelf' out o h = refl
reading-took a.Network shelf shelf' out o h = absurd h

-- what holds at all holds of an answer that comes before anything is written
quiet-by : (answer : Answer) (P : Type 0) → P → OnQuiet answer P
quiet-by a.Done P h = tt
quiet-by a.Usage P h = h
quiet-by (a.BadLine f) P h = h
quiet-by (a.BadRecording offset) P h = h
quiet-by (a.CannotRead f) P h = h
quiet-by a.CannotWrite P h = tt
quiet-by a.OutOfMemory P h = tt
quiet-by (a.TooLong f) P h = h
quiet-by a.Network P h = h

reading-leaves : (AreOurs : List Log → Type 0) (answer : Answer) (shelf shelf' : ShelfSeen)
    → IsOfReading answer shelf shelf' → LeavesJournals AreOurs answer []
reading-leaves AreOurs a.Done shelf shelf' h = absurd h
reading-leaves AreOurs a.Usage shelf shelf' h = refl
reading-leaves AreOurs (a.BadLine f) shelf shelf' h = refl
reading-leaves AreOurs (a.BadRecording offset) shelf shelf' h = refl
reading-leaves AreOurs (a.CannotRead f) shelf shelf' h = refl
reading-leaves AreOurs a.CannotWrite shelf shelf' h = refl
reading-leaves AreOurs a.OutOfMemory shelf shelf' h = refl
reading-leaves AreOurs (a.TooLong f) shelf shelf' h = refl
reading-leaves AreOurs a.Network shelf shelf' h = refl

reading-leaves-at : (answer : Answer) (shelf shelf' : ShelfSeen) (o : Outcome)
    → IsOfReading answer shelf shelf' → LeavesJournalsAt answer o []
reading-leaves-at a.Done shelf shelf' o h = absurd h
reading-leaves-at a.Usage shelf shelf' o h = tt
reading-leaves-at (a.BadLine f) shelf shelf' o h = tt
reading-leaves-at (a.BadRecording offset) shelf shelf' o h = tt
reading-leaves-at (a.CannotRead f) shelf shelf' o h = tt
reading-leaves-at a.CannotWrite shelf shelf' o h = tt
reading-leaves-at a.OutOfMemory shelf shelf' o h = tt
reading-leaves-at (a.TooLong f) shelf shelf' o h = tt
reading-leaves-at a.Network shelf shelf' o h = tt

-- what holds of whatever file an answer may name
names-any : (P : NamedFile → Type 0) → ((f : NamedFile) → P f) → (answer : Answer) → OnCannotRead answer P
names-any P all a.Done = tt
names-any P all a.Usage = tt
names-any P all (a.BadLine f) = tt
names-any P all (a.BadRecording offset) = tt
names-any P all (a.CannotRead f) = all f
names-any P all a.CannotWrite = tt
names-any P all a.OutOfMemory = tt
names-any P all (a.TooLong f) = tt
names-any P all a.Network = tt

-- the files of a command were not read
pub performed-unread : (command : Command) (config input : List ℕ) (tells out_tells : Bool)
    (shelf shelf' : ShelfSeen) (out : SinkSeen) (answer : Answer) (js : List Log)
    → (tells ≡ true → (any : Command) → ComesAt config input answer (performed any shelf.file config input))
    → (tells ≡ true → OnCannotRead answer (IsReadBy shelf config)) → IsOfReading answer shelf shelf'
    → js ≡ []
    → IsPerformed (Over command config input) tells out_tells shelf shelf' out out answer js
performed-unread command config input tells out_tells shelf shelf' out answer js told named cause none =
    let o : Outcome = performed command shelf.file config input in
    record {
      comes = λ tell. told tell command;
      named = named;
      of_files = names-any (HasFile (Over command config input)) (λ f. tt) answer;
      took = λ tell out_tell. reading-took answer shelf shelf' out o cause;
      quiet = quiet-by answer (out ≡ out) refl;
      cause = reading-caused answer shelf shelf' out cause;
      of_net = reading-nets answer shelf shelf' ⊥ cause;
      unread = tt;
      unwritten = tt;
      journals = subst (LeavesJournals (AreJournalsOf (Over command config input)) answer) (sym none)
          (reading-leaves (AreJournalsOf (Over command config input)) answer shelf shelf' cause);
      each = λ tell. subst (LeavesJournalsAt answer o) (sym none) (reading-leaves-at answer shelf shelf' o
          cause);
    }

-- ---- a command over numbers

-- the recording of the numbers was run
pub performed-made : (numbers : GenerateTask) (tells out_tells : Bool) (shelf : ShelfSeen)
    (out out' : SinkSeen)
    (answer : Answer) (js : List Log)
    → IsCarriedOut AreOfThreads (Summary numbers) out_tells out out' answer js
    → IsPerformed (Make numbers) tells out_tells shelf shelf out out' answer js
performed-made numbers tells out_tells shelf out out' answer js work = record {
  comes = λ tell. work.comes [] [];
  named = λ tell. work-names answer out out' (IsReadBy shelf []) work.cause;
  of_files = work-names answer out out' (HasFile (Make numbers)) work.cause;
  took = λ tell out_tell. work.took out_tell;
  quiet = work.quiet;
  cause = work-caused answer shelf shelf out out' (record { faults = refl; longs = refl }) work.cause;
  of_net = work-nets answer out out' ⊥ work.cause;
  unread = refl;
  unwritten = tt;
  journals = work.journals;
  each = λ tell. work.each;
}

-- ---- the part that comes after reading

-- a text that was taken whole is that of its outcome
text-took : (o : Outcome) (old new : SinkSeen) → HasOutput o → TookWhole (IsTextOf o) old new
    → TookText o old new
text-took Usage old new output h = h
text-took (BadLine n k) old new output h = h
text-took (Missing name) old new output h = h
text-took (Long name) old new output h = h
text-took (Text text) old new output h = h
text-took (Report lines bytes) old new output h = h
text-took (Summary numbers) old new output h = h
text-took (Serving lines) old new output h = absurd output

-- it is a job
output-job : (o : Outcome) → HasOutput o → HasJob o
output-job Usage h = h
output-job (BadLine n k) h = h
output-job (Missing name) h = h
output-job (Long name) h = h
output-job (Text text) h = h
output-job (Report lines bytes) h = h
output-job (Summary numbers) h = h
output-job (Serving lines) h = tt

-- all of the text was written
pub work-written : (AreOurs : List Log → Type 0) (o : Outcome) (text : List ℕ) (out_tells : Bool)
    (out out' : SinkSeen) (js : List Log) → HasOutput o → IsTextOf o text → AreOurs js → AreJournalsAt o js
    → (out_tells ≡ true → TookAll out out' text) → out'.faults ≡ out.faults
    → IsCarriedOut AreOurs o out_tells out out' a.Done js
work-written AreOurs o text out_tells out out' js output is ours each told same = record {
  comes = λ config name. output-job o output;
  took = λ tell. text-took o out out' output (text, is, told tell);
  quiet = tt;
  cause = same;
  journals = ours;
  each = each;
}

-- or a write of it failed
pub work-unwritten : (AreOurs : List Log → Type 0) (o : Outcome) (text : List ℕ) (out_tells : Bool)
    (out out' : SinkSeen) (js : List Log) → HasOutput o → IsTextOf o text
    → (out_tells ≡ true → TookFront out out' text) → Rose out.faults out'.faults → js ≡ []
    → IsCarriedOut AreOurs o out_tells out out' a.CannotWrite js
work-unwritten AreOurs o text out_tells out out' js output is told rose none = record {
  comes = λ config name. output;
  took = λ tell. inr (text, is, told tell);
  quiet = tt;
  cause = rose;
  journals = none;
  each = tt;
}

-- or memory lacked while it was written
pub work-stopped : (AreOurs : List Log → Type 0) (o : Outcome) (text : List ℕ) (out_tells : Bool)
    (out out' : SinkSeen) (js : List Log) → IsTextOf o text → (out_tells ≡ true → TookFront out out' text)
    → out'.faults ≡ out.faults → js ≡ [] → IsCarriedOut AreOurs o out_tells out out' a.OutOfMemory js
work-stopped AreOurs o text out_tells out out' js is told same none = record {
  comes = λ config name. tt;
  took = λ tell. inr (text, is, told tell);
  quiet = tt;
  cause = same;
  journals = none;
  each = tt;
}

-- or before
pub work-lacking : (AreOurs : List Log → Type 0) (o : Outcome) (out_tells : Bool) (out : SinkSeen)
    (js : List Log) → js ≡ [] → IsCarriedOut AreOurs o out_tells out out a.OutOfMemory js
work-lacking AreOurs o out_tells out js none = record {
  comes = λ config name. tt;
  took = λ tell. inl refl;
  quiet = tt;
  cause = refl;
  journals = none;
  each = tt;
}

-- the transactions of a recording were not run
pub work-unrun : (lines : ConfigLines) (bytes : List ℕ) (out_tells : Bool) (out : SinkSeen)
    (answer : Answer) (js : List Log)
    → IsOfRunning bytes answer → js ≡ []
    → IsCarriedOut AreOfThreads (Report lines bytes) out_tells out out answer js
work-unrun lines bytes out_tells out a.Done js h none = absurd h
work-unrun lines bytes out_tells out a.Usage js h none = absurd h
work-unrun lines bytes out_tells out (a.BadLine f) js h none = absurd h
work-unrun lines bytes out_tells out (a.BadRecording offset) js h none =
    record {
      comes = λ config name. h;
      took = λ told. refl;
      quiet = refl;
      cause = refl;
      journals = none;
      each = tt;
    }
work-unrun lines bytes out_tells out (a.CannotRead f) js h none = absurd h
work-unrun lines bytes out_tells out a.CannotWrite js h none = absurd h
work-unrun lines bytes out_tells out a.OutOfMemory js h none =
    work-lacking AreOfThreads (Report lines bytes) out_tells out js none
work-unrun lines bytes out_tells out (a.TooLong f) js h none = absurd h
work-unrun lines bytes out_tells out a.Network js h none = absurd h

-- ---- what transactions were run to

-- where a client leaves in a recording, it takes at least one byte before
take_some : (version : ℕ) (leave : Option ℕ) → MayLeave version leave → TakesSome leave
take_some version None may = tt
take_some version (Some most) may = may.1

pub all_take_some : (version : ℕ) (txns : List TxnPieces) → AllByRecursion (IsTxn version) txns
    → AllTakeSome txns
all_take_some version [] each = tt
all_take_some version (t ∷ ts) each =
    (take_some version t.leave each.0.leave, all_take_some version ts each.1)

-- the blocks of those that were run
blocks-on : (lines : ConfigLines) (txns : List TxnPieces) (r : Replayed) → IsReplayed lines txns r
    → AreBlocksOn lines txns r.blocks.items
blocks-on lines txns r on = record { setup = on.setup; lines_are = on.lines_are; each = on.comes.blocks }

-- those of a recording were run to the report on it
pub run-to-report : (lines : ConfigLines) (bytes : List ℕ) (version : ℕ) (r : Replayed) (text : List ℕ)
    → IsReplayIn lines bytes version r → text ≡ report_text version r.blocks.items
    → IsRunTo (Report lines bytes) text r.journals.items
run-to-report lines bytes version r text ran is =
    let on = ran.on in
    record {
      output = (on.contents, on.recording);
      text_is = record {
        contents = on.contents;
        recording = on.recording;
        blocks = r.blocks.items;
        are = blocks-on lines on.contents.txns r on.replayed;
        text_is = is ∙ ap (λ v. report_text v r.blocks.items) (sym ran.version_is);
      };
      ours = on.replayed.comes.final;
      each = (r, on, refl);
    }

-- and those that numbers stand for to their summary
pub run-to-summary : (numbers : GenerateTask) (r : Replayed) (text : List ℕ)
    → IsReplayed fixed_lines (txns_of numbers) r → text ≡ summary_text (summary_of r.blocks.items)
    → IsRunTo (Summary numbers) text r.journals.items
run-to-summary numbers r text on is = record {
  output = tt;
  text_is = record {
    blocks = r.blocks.items;
    are = blocks-on fixed_lines (txns_of numbers) r on;
    text_is = is;
  };
  ours = on.comes.final;
  each = (r, on, refl);
}
