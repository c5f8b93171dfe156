-- From what a task came to, to what a run says of it: the lemmas that the clauses of `run` want.
use Rattle.std.specs.Prelude.{◌≢◌, ⊤, nat_le, length}
use Rattle.std.proofs.Common.{◌≡◌, ◌⊎◌, ℕ, Bool, true, false, List, [], ◌∷◌, Option, Some, None, inl, inr}
use Rattle.std.proofs.Common.{ap, refl, subst, sym, arith, if◌then◌else◌}
use Rattle.std.proofs.lemmas.List.{append-nil}
use Rattle.ts_config.specs.Setup.{ConfigLines, file_at, in_order, with_file}
use Rattle.ts_config.specs.Value.{Reading, Good, Bad, config_of}
use Rattle.ts_config.specs.declared.setup.ConfigKind.{ConfigKind}
use Rattle.ts_config.specs.declared.setup.FilePlace.{FilePlace}
use Rattle.ts_journal.specs.Log.{Log}
use Rattle.ts_link.specs.Counts.{Counted}
use Rattle.ts_link.specs.Seen.{ShelfSeen, SinkSeen}
use Rattle.ts_proxy.specs.declared.answer.Answer.{Answer}
use Rattle.ts_proxy.specs.declared.answer.Answer.TheVariants as a
use Rattle.ts_proxy.specs.declared.command.GenerateTask.{GenerateTask}
use Rattle.ts_proxy.specs.Answers.{ComesAt, CountsCause, HasFile, IsCausedBy, IsTextOf, OnCannotRead}
use Rattle.ts_proxy.specs.Answers.{OnNetwork, OnQuiet, TookAt, TookText, file_name, is_long, is_unread}
use Rattle.ts_proxy.specs.Answers.{is_unwritten}
use Rattle.ts_proxy.specs.Ends.{EndsAt, HasCause, IsQuiet, IsStatus, IsStatusOf, RoseAt, Takes, TakesAt, bad_line}
use Rattle.ts_proxy.specs.Ends.{cannot_read, cannot_write, done, network, out_of_memory, status_of, too_long}
use Rattle.ts_proxy.specs.Ends.{usage}
use Rattle.ts_proxy.specs.Outcome.{Outcome, Usage, BadLine, Missing, Long, Text, Report, Summary, Serving}
use Rattle.ts_proxy.specs.Outcome.{lines_filled, most_append, most_config, most_input, opened}
use Rattle.ts_proxy.specs.Outcome.{outcome_of, performed, named_filled, set_up, understood, worked}
use Rattle.ts_proxy.specs.Performed.{IsPerformed}
use Rattle.ts_proxy.specs.Took.{TookSome, TookWhole}
use Rattle.ts_proxy.specs.Words.{Command, Transform, Replay, Task, Over, Make, Serve, config_in, input_in}
use Rattle.ts_proxy.specs.Words.{Serves, is_told}

-- ---- which outcomes a command has

-- What holds where the configuration or a file of its lines is not there, is too long or is refused, and of
-- what comes behind it, holds of the outcome.
module _ (Is : Outcome → Type 0) (missing : (name : List ℕ) → Is (Missing name))
    (long : (name : List ℕ) → Is (Long name))
    (bad : (n : ℕ) (k : ConfigKind) → Is (BadLine n k)) where
  if-of : (b : Bool) (x y : Outcome) → Is x → Is y → Is (if b then x else y)
  if-of true x y h k = h
  if-of false x y h k = k

  opened-of : (o : Option (List ℕ)) (most : ℕ) (name : List ℕ) (next : List ℕ → Outcome)
      → ((bytes : List ℕ) → Is (next bytes)) → Is (opened o most name next)
  opened-of None most name next h = missing name
  opened-of (Some bytes) most name next h =
      if-of (nat_le (length bytes) most) (next bytes) (Long name) (h bytes) (long name)

  named-of : (files : List ℕ → Option (List ℕ)) (o : Option (List ℕ)) (p : FilePlace) (ls : ConfigLines)
      (next : ConfigLines → Outcome) → ((xs : ConfigLines) → Is (next xs)) → Is (named_filled files o p ls next)
  named-of files None p ls next h = h ls
  named-of files (Some name) p ls next h =
      opened-of (files name) most_append name (λ text. next (with_file p text ls))
      (λ text. h (with_file p text ls))

  filled-of : (files : List ℕ → Option (List ℕ)) (ps : List FilePlace) (ls : ConfigLines)
      (next : ConfigLines → Outcome) → ((xs : ConfigLines) → Is (next xs)) → Is (lines_filled files ps ls next)
  filled-of files [] ls next h = h ls
  filled-of files (p ∷ ps) ls next h =
      named-of files (file_at ls p) p ls (λ filled. lines_filled files ps filled next)
      (λ filled. filled-of files ps filled next h)

  understood-of : (files : List ℕ → Option (List ℕ)) (r : Reading) (next : ConfigLines → Outcome)
      → ((xs : ConfigLines) → Is (next xs)) → Is (understood r (λ ls ps. lines_filled files ps ls next))
  understood-of files (Good lines places) next h = filled-of files places lines next h
  understood-of files (Bad n kind) next h = bad n kind

  set-up-of : (sessions : Bool) (files : List ℕ → Option (List ℕ)) (config : List ℕ)
      (next : ConfigLines → Outcome) → ((xs : ConfigLines) → Is (next xs))
      → Is (set_up sessions files config next)
  set-up-of sessions files config next h =
      let acting : ConfigLines → Outcome = λ filled. next (in_order sessions filled) in
      opened-of (files config) most_config config (λ bytes. understood (config_of bytes)
      (λ ls ps. lines_filled files ps ls acting))
      (λ bytes. understood-of files (config_of bytes) acting (λ xs. h (in_order sessions xs)))

  performed-by : (command : Command) → ((lines : ConfigLines) (bytes : List ℕ)
      → Is (worked command lines bytes))
      → (files : List ℕ → Option (List ℕ)) (config input : List ℕ) → Is (performed command files config input)
  performed-by command h files config input =
      set-up-of false files config (λ lines. opened (files input) most_input input (worked command lines))
      (λ lines. opened-of (files input) most_input input (worked command lines) (h lines))

-- an outcome of a command over files, which writes a text
abbrev IsOfFiles : Outcome → Type 0
IsOfFiles Usage = ⊥
IsOfFiles (Summary numbers) = ⊥
IsOfFiles (Serving lines) = ⊥
IsOfFiles _ = ⊤

-- an outcome of `serve`
abbrev IsOfServe : Outcome → Type 0
IsOfServe Usage = ⊥
IsOfServe (Text text) = ⊥
IsOfServe (Report lines bytes) = ⊥
IsOfServe (Summary numbers) = ⊥
IsOfServe _ = ⊤

worked-of : (command : Command) (lines : ConfigLines) (bytes : List ℕ)
    → IsOfFiles (worked command lines bytes)
worked-of Transform lines bytes = tt
worked-of Replay lines bytes = tt

performed-of : (command : Command) (files : List ℕ → Option (List ℕ)) (config input : List ℕ)
    → IsOfFiles (performed command files config input)
performed-of command files config input =
    performed-by IsOfFiles (λ name. tt) (λ name. tt) (λ n k. tt) command
    (worked-of command) files config input

served-of : (sessions : Bool) (files : List ℕ → Option (List ℕ)) (config : List ℕ)
    → IsOfServe (set_up sessions files config (λ lines. Serving lines))
served-of sessions files config =
    set-up-of IsOfServe (λ name. tt) (λ name. tt) (λ n k. tt) sessions files config (λ lines. Serving lines)
    (λ lines. tt)

not-usage-of : (o : Outcome) → IsOfFiles o → o ≢ Usage
not-usage-of o of is = subst IsOfFiles is of

not-usage-served : (o : Outcome) → IsOfServe o → o ≢ Usage
not-usage-served o of is = subst IsOfServe is of

task-command : (shelf : ShelfSeen) (task : Task) → outcome_of shelf (Some task) ≢ Usage
task-command shelf (Over command config input) =
    not-usage-of (performed command shelf.file config input) (performed-of command shelf.file config input)
task-command shelf (Make numbers) = λ is. cc
task-command shelf (Serve words) =
    not-usage-served (set_up words.sessions shelf.file words.config (λ lines. Serving lines))
    (served-of words.sessions shelf.file words.config)

-- words that ask for a task are of a command
pub asked_command : (shelf : ShelfSeen) (asked : Option Task)
    → (asked ≡ None) ⊎ (outcome_of shelf asked ≢ Usage)
asked_command shelf None = inl refl
asked_command shelf (Some task) = inr (task-command shelf task)

-- the whole of a text is a front of it
some-whole : (IsIt : List ℕ → Type 0) (old new : SinkSeen) → TookWhole IsIt old new → TookSome IsIt old new
some-whole IsIt old new h = inr (
  h.0,
  h.1,
  record {
    took = h.0;
    left = [];
    grew = h.2;
    front = append-nil h.0;
  },
)

-- all that was taken of the text of an outcome is a front of it
text-some : (o : Outcome) (old new : SinkSeen) → TookText o old new → TookSome (IsTextOf o) old new
text-some (Serving lines) old new h = inl h
text-some Usage old new h = some-whole (IsTextOf Usage) old new h
text-some (BadLine n k) old new h = some-whole (IsTextOf (BadLine n k)) old new h
text-some (Missing name) old new h = some-whole (IsTextOf (Missing name)) old new h
text-some (Long name) old new h = some-whole (IsTextOf (Long name)) old new h
text-some (Text text) old new h = some-whole (IsTextOf (Text text)) old new h
text-some (Report lines bytes) old new h = some-whole (IsTextOf (Report lines bytes)) old new h
text-some (Summary numbers) old new h = some-whole (IsTextOf (Summary numbers)) old new h

-- what out took with an answer, it took with the status of it
takes_took : (o : Outcome) (answer : Answer) (old new : SinkSeen) → TookAt answer old new o
    → TakesAt o (status_of answer) old new
takes_took o a.Done old new h = record { some = text-some o old new h; whole = λ is. h }
takes_took o a.CannotWrite old new h = record { some = h; whole = λ is. absurd (omega (arith, is)) }
takes_took o a.OutOfMemory old new h = record { some = h; whole = λ is. absurd (omega (arith, is)) }
takes_took o a.Usage old new h = record { some = inl h; whole = λ is. absurd (omega (arith, is)) }
takes_took o (a.BadLine f) old new h = record { some = inl h; whole = λ is. absurd (omega (arith, is)) }
takes_took o (a.BadRecording offset) old new h = record {
  some = inl h;
  whole = λ is. absurd
      (omega (arith, is));
}
takes_took o (a.CannotRead f) old new h = record { some = inl h; whole = λ is. absurd (omega (arith, is)) }
takes_took o (a.TooLong f) old new h = record { some = inl h; whole = λ is. absurd (omega (arith, is)) }
takes_took o a.Network old new h = record { some = inl h; whole = λ is. absurd (omega (arith, is)) }

-- a status with which something may be written is none of the others
loud : (n : ℕ) → (n ≡ done) ⊎ (n ≡ cannot_write) ⊎ (n ≡ out_of_memory) → IsQuiet n → ⊥
loud n one quiet = grind arith

quiet-of : (answer : Answer) (P : Type 0) → OnQuiet answer P → IsQuiet (status_of answer) → P
quiet-of a.Done P h quiet = absurd (loud done (inl refl) quiet)
quiet-of a.CannotWrite P h quiet = absurd (loud cannot_write (inr (inl refl)) quiet)
quiet-of a.OutOfMemory P h quiet = absurd (loud out_of_memory (inr (inr refl)) quiet)
quiet-of a.Usage P h quiet = h
quiet-of (a.BadLine f) P h quiet = h
quiet-of (a.BadRecording offset) P h quiet = h
quiet-of (a.CannotRead f) P h quiet = h
quiet-of (a.TooLong f) P h quiet = h
quiet-of a.Network P h quiet = h

-- what out took of a task
pub takes_is : (tells out_tells : Bool) (shelf shelf' : ShelfSeen) (out out' : SinkSeen)
    (asked : Option Task) (task : Task) (answer : Answer) (js : List Log) (n : ℕ) → asked ≡ Some task
    → n ≡ status_of answer → IsPerformed task tells out_tells shelf shelf' out out' answer js
    → out_tells ≡ true → Takes (is_told tells asked) (outcome_of shelf asked) n out out'
takes_is tells out_tells shelf shelf' out out' asked task answer js n is same p out_tell =
    subst (λ t. Takes (is_told tells t) (outcome_of shelf t) n out out') (sym is)
    (subst (λ m. Takes (is_told tells (Some task)) (outcome_of shelf (Some task)) m out out') (sym same)
    (record {
      at = λ told. takes_took (outcome_of shelf (Some task)) answer out out' (p.took told out_tell);
      quiet = λ quiet. ap (λ (s : SinkSeen). s.taken) (quiet-of answer (out' ≡ out) p.quiet quiet);
    }))

-- ---- the status

-- the status of an answer at an outcome of a command over files
ends-of-files : (config input : List ℕ) (answer : Answer) (o : Outcome) → IsOfFiles o
    → ComesAt config input answer o → EndsAt o (status_of answer)
ends-of-files config input a.Done Usage of h = absurd of
ends-of-files config input a.Done (BadLine n k) of h = absurd h
ends-of-files config input a.Done (Missing name) of h = absurd h
ends-of-files config input a.Done (Long name) of h = absurd h
ends-of-files config input a.Done (Text text) of h = inl refl
ends-of-files config input a.Done (Report lines bytes) of h = inl (inl refl, h)
ends-of-files config input a.Done (Summary numbers) of h = absurd of
ends-of-files config input a.Done (Serving lines) of h = absurd of
ends-of-files config input a.Usage o of h = absurd (subst IsOfFiles h of)
ends-of-files config input (a.BadLine f) o of h = subst (λ x. EndsAt x bad_line) (sym h) (inl refl)
ends-of-files config input (a.BadRecording offset) Usage of h = absurd of
ends-of-files config input (a.BadRecording offset) (BadLine n k) of h = absurd h
ends-of-files config input (a.BadRecording offset) (Missing name) of h = absurd h
ends-of-files config input (a.BadRecording offset) (Long name) of h = absurd h
ends-of-files config input (a.BadRecording offset) (Text text) of h = absurd h
ends-of-files config input (a.BadRecording offset) (Report lines bytes) of h = inr
    (inl (refl, λ r. h.refused r.0 r.1))
ends-of-files config input (a.BadRecording offset) (Summary numbers) of h = absurd of
ends-of-files config input (a.BadRecording offset) (Serving lines) of h = absurd of
ends-of-files config input (a.CannotRead f) Usage of h = absurd of
ends-of-files config input (a.CannotRead f) (BadLine n k) of h = inr (inl refl)
ends-of-files config input (a.CannotRead f) (Missing name) of h = inl refl
ends-of-files config input (a.CannotRead f) (Long name) of h = inr (inl refl)
ends-of-files config input (a.CannotRead f) (Text text) of h = inr (inl refl)
ends-of-files config input (a.CannotRead f) (Report lines bytes) of h = inr (inr (inl refl))
ends-of-files config input (a.CannotRead f) (Summary numbers) of h = absurd of
ends-of-files config input (a.CannotRead f) (Serving lines) of h = absurd of
ends-of-files config input a.CannotWrite Usage of h = absurd of
ends-of-files config input a.CannotWrite (BadLine n k) of h = absurd h
ends-of-files config input a.CannotWrite (Missing name) of h = absurd h
ends-of-files config input a.CannotWrite (Long name) of h = absurd h
ends-of-files config input a.CannotWrite (Text text) of h = inr (inr (inl refl))
ends-of-files config input a.CannotWrite (Report lines bytes) of h = inl (inr refl, h)
ends-of-files config input a.CannotWrite (Summary numbers) of h = absurd of
ends-of-files config input a.CannotWrite (Serving lines) of h = absurd of
ends-of-files config input a.OutOfMemory Usage of h = absurd of
ends-of-files config input a.OutOfMemory (BadLine n k) of h = inr (inr refl)
ends-of-files config input a.OutOfMemory (Missing name) of h = inr refl
ends-of-files config input a.OutOfMemory (Long name) of h = inr (inr refl)
ends-of-files config input a.OutOfMemory (Text text) of h = inr (inr (inr refl))
ends-of-files config input a.OutOfMemory (Report lines bytes) of h = inr (inr (inr refl))
ends-of-files config input a.OutOfMemory (Summary numbers) of h = absurd of
ends-of-files config input a.OutOfMemory (Serving lines) of h = absurd of
ends-of-files config input (a.TooLong f) o of h = subst (λ x. EndsAt x too_long) (sym h) (inl refl)
ends-of-files config input a.Network (Serving lines) of h = absurd of
ends-of-files config input a.Network o of h = absurd h

-- and at a summary, where no file is named
ends-of-made : (numbers : GenerateTask) (answer : Answer) → ComesAt [] [] answer (Summary numbers)
    → OnCannotRead answer (HasFile (Make numbers)) → EndsAt (Summary numbers) (status_of answer)
ends-of-made numbers a.Done h none = inl refl
ends-of-made numbers a.Usage h none = absurd (let wrong : Summary numbers ≡ Usage = h in cc)
ends-of-made numbers (a.BadLine f) h none = absurd
    (let wrong : Summary numbers ≡ BadLine f.line f.kind = h in cc)
ends-of-made numbers (a.BadRecording offset) h none = absurd h
ends-of-made numbers (a.CannotRead f) h none = absurd none
ends-of-made numbers a.CannotWrite h none = inr (inl refl)
ends-of-made numbers a.OutOfMemory h none = inr (inr refl)
ends-of-made numbers (a.TooLong f) h none = absurd
    (let wrong : Summary numbers ≡ Long (file_name [] [] f) = h in cc)
ends-of-made numbers a.Network h none = absurd h

-- and at an outcome of `serve`
ends-of-served : (config : List ℕ) (answer : Answer) (o : Outcome) → IsOfServe o → ComesAt config [] answer o
    → EndsAt o (status_of answer)
ends-of-served config a.Usage o of h = absurd (subst IsOfServe h of)
ends-of-served config (a.BadLine f) o of h = subst (λ x. EndsAt x bad_line) (sym h) (inl refl)
ends-of-served config (a.TooLong f) o of h = subst (λ x. EndsAt x too_long) (sym h) (inl refl)
ends-of-served config answer Usage of h = absurd of
ends-of-served config answer (Text text) of h = absurd of
ends-of-served config answer (Report lines bytes) of h = absurd of
ends-of-served config answer (Summary numbers) of h = absurd of
ends-of-served config a.Done (Serving lines) of h = inl refl
ends-of-served config a.Done o of h = absurd h
ends-of-served config (a.BadRecording offset) o of h = absurd h
ends-of-served config (a.CannotRead f) (Missing name) of h = inl refl
ends-of-served config (a.CannotRead f) (Serving lines) of h = inr (inr (inl refl))
ends-of-served config (a.CannotRead f) o of h = inr (inl refl)
ends-of-served config a.CannotWrite o of h = absurd h
ends-of-served config a.OutOfMemory (Missing name) of h = inr refl
ends-of-served config a.OutOfMemory (Serving lines) of h = inr (inr (inr refl))
ends-of-served config a.OutOfMemory o of h = inr (inr refl)
ends-of-served config a.Network (Serving lines) of h = inr (inl refl)
ends-of-served config a.Network o of h = absurd h

-- by the task
ends-at : (shelf : ShelfSeen) (task : Task) (answer : Answer)
    → ComesAt (config_in task) (input_in task) answer (outcome_of shelf (Some task))
    → OnCannotRead answer (HasFile task) → EndsAt (outcome_of shelf (Some task)) (status_of answer)
ends-at shelf (Over command config input) answer h named =
    ends-of-files config input answer (performed command shelf.file config input)
    (performed-of command shelf.file config input) h
ends-at shelf (Make numbers) answer h named = ends-of-made numbers answer h named
ends-at shelf (Serve words) answer h named =
    ends-of-served words.config answer
    (set_up words.sessions shelf.file words.config (λ lines. Serving lines))
    (served-of words.sessions shelf.file words.config) h

-- each answer has a status, and that of a task is not that of usage
is-status : (answer : Answer) → IsStatus (status_of answer)
is-status a.Done = inl refl
is-status a.Usage = inr (inr (inr (inl refl)))
is-status (a.BadLine f) = inr (inr (inr (inr (inl refl))))
is-status (a.BadRecording offset) = inr (inr (inr (inr (inr (inl refl)))))
is-status (a.CannotRead f) = inr (inr (inr (inr (inr (inr (inl refl))))))
is-status a.CannotWrite = inr (inl refl)
is-status a.OutOfMemory = inr (inr (inl refl))
is-status a.Network = inr (inr (inr (inr (inr (inr (inr (inl refl)))))))
is-status (a.TooLong f) = inr (inr (inr (inr (inr (inr (inr (inr refl)))))))

not-usage : (answer : Answer) (shelf shelf' : ShelfSeen) (out out' : SinkSeen)
    → IsCausedBy answer shelf shelf' out out' → status_of answer ≢ usage
not-usage a.Done shelf shelf' out out' h = λ is. absurd (omega (arith, is))
not-usage a.Usage shelf shelf' out out' h = absurd h
not-usage (a.BadLine f) shelf shelf' out out' h = λ is. absurd (omega (arith, is))
not-usage (a.BadRecording offset) shelf shelf' out out' h = λ is. absurd (omega (arith, is))
not-usage (a.CannotRead f) shelf shelf' out out' h = λ is. absurd (omega (arith, is))
not-usage a.CannotWrite shelf shelf' out out' h = λ is. absurd (omega (arith, is))
not-usage a.OutOfMemory shelf shelf' out out' h = λ is. absurd (omega (arith, is))
not-usage (a.TooLong f) shelf shelf' out out' h = λ is. absurd (omega (arith, is))
not-usage a.Network shelf shelf' out out' h = λ is. absurd (omega (arith, is))

-- the status of what a task came to
pub status_is : (take_memory tells out_tells : Bool) (shelf shelf' : ShelfSeen) (out out' : SinkSeen)
    (asked : Option Task) (task : Task) (answer : Answer) (js : List Log) (n : ℕ) → asked ≡ Some task
    → n ≡ status_of answer → IsPerformed task tells out_tells shelf shelf' out out' answer js
    → IsStatusOf take_memory tells shelf asked n
status_is take_memory tells out_tells shelf shelf' out out' asked task answer js n is same p =
    subst (λ t. IsStatusOf take_memory tells shelf t n) (sym is)
    (subst (IsStatusOf take_memory tells shelf (Some task)) (sym same) (record {
      known = is-status answer;
      usage_of = λ u. absurd (not-usage answer shelf shelf' out out' p.cause u);
      of_none = λ none. absurd (let wrong : Some task ≡ None = none in cc);
      at = λ told. ends-at shelf task answer (p.comes told) p.of_files;
    }))

-- a count that rose exactly with an answer rose exactly with its status
rose-read : (answer : Answer) (old new : ℕ) → Counted (is_unread answer) old new
    → RoseAt cannot_read (status_of answer) old new
rose-read (a.CannotRead f) old new h = record { rose = λ is. h; stayed = λ no. absurd (no refl) }
rose-read a.Done old new h = record { rose = λ is. absurd (omega (arith, is)); stayed = λ no. h }
rose-read a.Usage old new h = record { rose = λ is. absurd (omega (arith, is)); stayed = λ no. h }
rose-read (a.BadLine f) old new h = record { rose = λ is. absurd (omega (arith, is)); stayed = λ no. h }
rose-read (a.BadRecording offset) old new h =
    record { rose = λ is. absurd (omega (arith, is)); stayed = λ no. h }
rose-read a.CannotWrite old new h = record { rose = λ is. absurd (omega (arith, is)); stayed = λ no. h }
rose-read a.OutOfMemory old new h = record { rose = λ is. absurd (omega (arith, is)); stayed = λ no. h }
rose-read (a.TooLong f) old new h = record { rose = λ is. absurd (omega (arith, is)); stayed = λ no. h }
rose-read a.Network old new h = record { rose = λ is. absurd (omega (arith, is)); stayed = λ no. h }

rose-long : (answer : Answer) (old new : ℕ) → Counted (is_long answer) old new
    → RoseAt too_long (status_of answer) old new
rose-long (a.TooLong f) old new h = record { rose = λ is. h; stayed = λ no. absurd (no refl) }
rose-long a.Done old new h = record { rose = λ is. absurd (omega (arith, is)); stayed = λ no. h }
rose-long a.Usage old new h = record { rose = λ is. absurd (omega (arith, is)); stayed = λ no. h }
rose-long (a.BadLine f) old new h = record { rose = λ is. absurd (omega (arith, is)); stayed = λ no. h }
rose-long (a.BadRecording offset) old new h =
    record { rose = λ is. absurd (omega (arith, is)); stayed = λ no. h }
rose-long (a.CannotRead f) old new h = record { rose = λ is. absurd (omega (arith, is)); stayed = λ no. h }
rose-long a.CannotWrite old new h = record { rose = λ is. absurd (omega (arith, is)); stayed = λ no. h }
rose-long a.OutOfMemory old new h = record { rose = λ is. absurd (omega (arith, is)); stayed = λ no. h }
rose-long a.Network old new h = record { rose = λ is. absurd (omega (arith, is)); stayed = λ no. h }

rose-written : (answer : Answer) (old new : ℕ) → Counted (is_unwritten answer) old new
    → RoseAt cannot_write (status_of answer) old new
rose-written a.CannotWrite old new h = record { rose = λ is. h; stayed = λ no. absurd (no refl) }
rose-written a.Done old new h = record { rose = λ is. absurd (omega (arith, is)); stayed = λ no. h }
rose-written a.Usage old new h = record { rose = λ is. absurd (omega (arith, is)); stayed = λ no. h }
rose-written (a.BadLine f) old new h = record { rose = λ is. absurd (omega (arith, is)); stayed = λ no. h }
rose-written (a.BadRecording offset) old new h =
    record { rose = λ is. absurd (omega (arith, is)); stayed = λ no. h }
rose-written (a.CannotRead f) old new h = record { rose = λ is. absurd (omega (arith, is)); stayed = λ no. h }
rose-written a.OutOfMemory old new h = record { rose = λ is. absurd (omega (arith, is)); stayed = λ no. h }
rose-written (a.TooLong f) old new h = record { rose = λ is. absurd (omega (arith, is)); stayed = λ no. h }
rose-written a.Network old new h = record { rose = λ is. absurd (omega (arith, is)); stayed = λ no. h }

-- an answer that tells of a cause is one to a task
counts-cause : (answer : Answer) (shelf shelf' : ShelfSeen) (out out' : SinkSeen)
    → IsCausedBy answer shelf shelf' out out' → CountsCause answer shelf shelf' out out'
counts-cause a.Done shelf shelf' out out' h = h
counts-cause a.Usage shelf shelf' out out' h = absurd h
counts-cause (a.BadLine f) shelf shelf' out out' h = h
counts-cause (a.BadRecording offset) shelf shelf' out out' h = h
counts-cause (a.CannotRead f) shelf shelf' out out' h = h
counts-cause a.CannotWrite shelf shelf' out out' h = h
counts-cause a.OutOfMemory shelf shelf' out out' h = h
counts-cause (a.TooLong f) shelf shelf' out out' h = h
counts-cause a.Network shelf shelf' out out' h = h

-- only with the status of a net's fault an answer tells of one
net-of : (answer : Answer) (P : Type 0) → OnNetwork answer P → status_of answer ≡ network → P
net-of a.Network P h is = h
net-of a.Done P h is = absurd (omega (arith, is))
net-of a.Usage P h is = absurd (omega (arith, is))
net-of (a.BadLine f) P h is = absurd (omega (arith, is))
net-of (a.BadRecording offset) P h is = absurd (omega (arith, is))
net-of (a.CannotRead f) P h is = absurd (omega (arith, is))
net-of a.CannotWrite P h is = absurd (omega (arith, is))
net-of a.OutOfMemory P h is = absurd (omega (arith, is))
net-of (a.TooLong f) P h is = absurd (omega (arith, is))

-- the cause of the status of what a task came to
pub cause_is : (tells out_tells : Bool) (shelf shelf' : ShelfSeen) (out out' : SinkSeen)
    (asked : Option Task) (task : Task) (answer : Answer) (js : List Log) (n : ℕ) → asked ≡ Some task
    → n ≡ status_of answer → IsPerformed task tells out_tells shelf shelf' out out' answer js
    → HasCause asked n shelf shelf' out out'
cause_is tells out_tells shelf shelf' out out' asked task answer js n is same p =
    let counts = counts-cause answer shelf shelf' out out' p.cause in
    subst (λ t. HasCause t n shelf shelf' out out') (sym is)
    (subst (λ m. HasCause (Some task) m shelf shelf' out out') (sym same) (record {
      read = rose-read answer shelf.faults shelf'.faults counts.reads.faults;
      long = rose-long answer shelf.longs shelf'.longs counts.reads.longs;
      write = rose-written answer out.faults out'.faults counts.writes;
      net = net-of answer (Serves (Some task)) p.of_net;
      unread = p.unread;
      unwritten = p.unwritten;
      quiet = quiet-of answer (out' ≡ out) p.quiet;
    }))
