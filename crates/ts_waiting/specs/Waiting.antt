-- A client that waits for its next request, as a world: what holds of it between calls, which tags it fits,
-- and what each of its calls does (RFC 9112, section 9.3).
use Rattle.std.specs.Prelude.{◌≡◌, ◌⊎◌, ℕ, ◌+◌, ◌<◌, ◌≤◌, List, [], ◌∷◌, length, Bool, true, false, Ok, Result, ⊤}
use Rattle.std.proofs.Common.{subst, sym, ◌∙◌}
use Rattle.ts_group.specs.Answers.{KeepsPromises}
use Rattle.ts_group.specs.Context.{Context}
use Rattle.ts_group.specs.Late.{Hastens}
use Rattle.ts_group.specs.declared.action.SetFault.{SetFault}
use Rattle.ts_hooks.specs.declared.hook.HookAnswer.TheVariants.{Continue}
use Rattle.ts_journal.specs.State.{IsLive, State}
use Rattle.ts_journal.specs.declared.entry.ContKey.{ContKey}
use Rattle.ts_journal.specs.declared.entry.Pending.{Pending}
use Rattle.ts_journal.specs.declared.entry.TheConstants.{GREATEST}
use Rattle.ts_link.specs.Counts.{Counted, Rose}
use Rattle.ts_link.specs.Link.{Look}
use Rattle.ts_link.specs.Moments.{moment_after}
use Rattle.ts_link.specs.declared.link.Link as link
use Rattle.ts_plugin.specs.declared.question.HookQuestion.{HookQuestion}
use Rattle.ts_plugin.specs.declared.question.HookReply.{HookReply}
use Rattle.ts_session.specs.Course.{SpanGoes, span_look}
use Rattle.ts_session.specs.Reading.{IsUnread}
use Rattle.ts_session.specs.declared.course.Course.{Course}
use Rattle.ts_waiting.specs.declared.polling.WaitState.{WaitState}
use Rattle.ts_waiting.specs.declared.polling.WaitState.TheVariants as W
use Rattle.ts_waiting.specs.declared.waiting.WaitTag.{WaitTag}
use Rattle.ts_waiting.specs.declared.waiting.Waiting.{Waiting}

-- ---- how far a client is

-- the poll has answered
abbrev pub has_answered : WaitState → Bool
has_answered W.Ready = true
has_answered W.Ended = true
has_answered W.Failed = true
has_answered _ = false

-- it answered that some of the request is there
abbrev pub is_ready : WaitState → Bool
is_ready W.Ready = true
is_ready _ = false

-- it answered that the client failed
abbrev pub has_failed : WaitState → Bool
has_failed W.Failed = true
has_failed _ = false

-- it answered that the client has to be waited for: it is polled again, or memory lacked for that
abbrev pub has_waited : WaitState → Bool
has_waited (W.Polling key) = true
has_waited W.Lacks = true
has_waited _ = false

-- memory lacked for polling it
abbrev pub is_lacking : WaitState → Bool
is_lacking W.Lacks = true
is_lacking _ = false

-- ---- between calls

-- the one event that is pending is a plain one of this continuation
pub record IsOnly (key : ContKey) (pending : List Pending) : Type 0 where
  pub event : Pending
  pub pending_is : pending ≡ event ∷ []
  pub of_key : event.key ≡ key
  pub plain : event.period ≡ 0

-- A continuation that is live polls the client: its event is pending, or the numbers of events are used up.
pub record IsPolling (key : ContKey) (s : State) : Type 0 where
  pub live : IsLive s.live key
  pub event : IsOnly key s.pending ⊎ ((s.pending ≡ []) × (GREATEST ≤ s.next))

-- what holds of the group's state: while the client is polled that is so, and else nothing is pending
abbrev pub WaitsIn : WaitState → State → Type 0
WaitsIn (W.Polling key) s = IsPolling key s
WaitsIn _ s = s.pending ≡ []

-- it holds in each state in which the same is pending and live
pub waits_on : (x : WaitState) (s t : State) → t.pending ≡ s.pending → t.next ≡ s.next → t.live ≡ s.live
    → WaitsIn x s → WaitsIn x t
waits_on W.Unstarted s t pending next live h = pending ∙ h
waits_on (W.Polling key) s t pending next live h = record {
  live = subst (λ keys. IsLive keys key) (sym live) h.live;
  event = subst (λ n. IsOnly key t.pending ⊎ ((t.pending ≡ []) × (GREATEST ≤ n))) (sym next)
      (subst (λ ps. IsOnly key ps ⊎ ((ps ≡ []) × (GREATEST ≤ s.next))) (sym pending) h.event);
}
waits_on W.Ready s t pending next live h = pending ∙ h
waits_on W.Ended s t pending next live h = pending ∙ h
waits_on W.Failed s t pending next live h = pending ∙ h
waits_on W.Lacks s t pending next live h = pending ∙ h

module _ {C : Type 0} (client : link.Ghosts C) where
  -- what is seen of the span
  abbrev pub seen : Course C → Look
  seen s = span_look client.look client.tells s

  -- nothing is held, and neither the client nor its span has anything left
  pub record HasEnded (s : Course C) : Type 0 where
    pub none_held : s.request.held ≡ []
    pub no_more : client.tells ≡ true → (client.look s.client).left ≡ []
    pub none_left : (seen s).left ≡ []

  -- what holds of the span: some of its request is held where it is ready, and nothing is left of it where its
  -- client has ended; else nothing of it was given, so that it may be polled
  abbrev pub HoldsAnswer : WaitState → Course C → Type 0
  HoldsAnswer W.Ready s = 0 < length s.request.held
  HoldsAnswer W.Ended s = HasEnded s
  HoldsAnswer _ s = IsUnread s.request

  -- It is the same span, of which nothing was given and to which nothing was written since.
  pub record IsSameSpan (old new : Course C) : Type 0 where
    pub still : SpanGoes client.still old new
    pub source : (seen new).source ≡ (seen old).source
    pub name : (seen new).name ≡ (seen old).name
    pub before : (seen new).before ≡ (seen old).before
    pub faults : (seen old).faults ≤ (seen new).faults
    pub given : client.tells ≡ true → (seen new).given ≡ (seen old).given
    pub taken : client.tells ≡ true → (seen new).taken ≡ (seen old).taken

  -- where the client failed, its count says so
  abbrev pub CountsFault : WaitState → Course C → Course C → Type 0
  CountsFault W.Failed old new = Rose (seen old).faults (seen new).faults
  CountsFault _ old new = ⊤

  -- one poll: what it answered is counted, and holds
  pub record PollsOnce (answer : WaitState) (old new : Course C) : Type 0 where
    pub faults : Counted (has_failed answer) (seen old).faults (seen new).faults
    pub waits : Counted (has_waited answer) (seen old).waits (seen new).waits
    pub holds : HoldsAnswer answer new

module _ {C L : Type 0} (client : link.Ghosts C) where
  -- WHAT HOLDS of a client that waits, where the journal of its group is in this state
  pub record IsSoundWait (w : Waiting C L) (s : State) : Type 0 where
    pub waits : WaitsIn w.state s
    pub holds : HoldsAnswer client w.state w.span

  -- IT IS THE WORLD that the tag names, however far it is
  pub record IsWaitOf (tag : WaitTag C L) (w : Waiting C L) : Type 0 where
    pub left : w.left ≡ tag.left.value
    pub span : IsSameSpan client tag.span.value w.span
    pub faults : CountsFault client w.state tag.span.value w.span

  -- each tag that it fitted, it fits; it is asked as before, and may ask nobody
  abbrev pub KeepsWait : Waiting C L → Waiting C L → Type 0
  KeepsWait old new = KeepsPromises {Q = HookQuestion} {R = HookReply} IsWaitOf (λ w group question reply. ⊤)
      (λ w group. ⊥) old new

  -- ---- its calls

  -- the client was polled once, and all else is kept
  pub record HasPolled (old new : Waiting C L) : Type 0 where
    pub left : new.left ≡ old.left
    pub span : IsSameSpan client old.span new.span
    pub polls : PollsOnce client new.state old.span new.span

  -- an event polls the client while it is to be polled, and does nothing else
  abbrev pub TakesPoll : WaitState → Waiting C L → Waiting C L → Type 0
  TakesPoll (W.Polling key) old new = HasPolled old new
  TakesPoll _ old new = new ≡ old

-- the world of this client and of what is left, which was not started
pub record IsNewWait {C L : Type 0} (span : Course C) (left : L) (w : Waiting C L) : Type 0 where
  pub span_is : w.span ≡ span
  pub left_is : w.left ≡ left
  pub state_is : w.state ≡ W.Unstarted

-- what a start makes of a world: one that was not started polls its client, or memory lacks for that
abbrev pub BeginsWait : {C L : Type 0} → WaitState → Waiting C L → Waiting C L → Type 0
BeginsWait W.Unstarted old new = (new ≡ record old { state = new.state }) × (has_waited new.state ≡ true)
BeginsWait _ old new = new ≡ old

-- in a turn nothing is pending
pub record CanBegin (now : Context) : Type 0 where
  pub turn : now.log.state.held ≡ true
  pub rests : now.log.state.pending ≡ []

-- nor is it, and the continuation is live
pub record CanPoll (key : ContKey) (now : Context) : Type 0 where
  pub turn : now.log.state.held ≡ true
  pub rests : now.log.state.pending ≡ []
  pub live : IsLive now.log.state.live key

-- at most one event was set
abbrev pub SetsOne : Context → Context → Type 0
SetsOne old new = new.log.state.next ≤ old.log.state.next + 1

-- where the client is polled again, that is so many milliseconds later
abbrev pub PollsAfter : ℕ → WaitState → Context → Context → Type 0
PollsAfter pause (W.Polling key) old new =
    (p : Pending) → new.log.state.pending ≡ p ∷ [] → p.due ≡ moment_after old.moment pause
PollsAfter pause _ old new = ⊤

-- so it is polled where it was not started; a start at any other time changes nothing
abbrev pub BeginsAfter : ℕ → WaitState → WaitState → Context → Context → Type 0
BeginsAfter pause W.Unstarted new before after = PollsAfter pause new before after
BeginsAfter pause _ new before after = after ≡ before

-- so it is polled again where an event polled it; one that comes at any other time changes nothing
abbrev pub RetriesAfter : ℕ → WaitState → WaitState → Context → Context → Type 0
RetriesAfter pause (W.Polling key) new before after = PollsAfter pause new before after
RetriesAfter pause _ new before after = after ≡ before

-- the next poll is brought forward, or could not be; where none is to come, nothing is done
abbrev pub HastensPoll : WaitState → Context → Context → Type 0
HastensPoll (W.Polling key) old new =
    (result : Result Bool SetFault) × Hastens old.log new.log key old.moment result
HastensPoll _ old new = new ≡ old

-- whoever asks may continue, with the fields as they are
pub record LetsContinue (question : HookQuestion) (reply : HookReply) : Type 0 where
  pub answer : reply.answer ≡ Ok Continue
  pub fields : reply.fields ≡ question.fields
