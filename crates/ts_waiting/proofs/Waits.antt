-- A client that was polled stays the client of its tag.
use Rattle.std.proofs.Common.{◌∙◌, ℕ, ◌≤◌, arith}
use Rattle.ts_link.specs.Counts.{Counted, Rose}
use Rattle.ts_link.specs.declared.link.Link as link
use Rattle.ts_session.specs.Course.{span_on}
use Rattle.ts_session.specs.declared.course.Course.{Course}
use Rattle.ts_waiting.specs.Waiting.{CountsFault, HasPolled, IsSameSpan}
use Rattle.ts_waiting.specs.Waiting.{KeepsWait, has_failed, seen}
use Rattle.ts_waiting.specs.declared.polling.WaitState.{WaitState}
use Rattle.ts_waiting.specs.declared.polling.WaitState.TheVariants as W
use Rattle.ts_waiting.specs.declared.waiting.Waiting.{Waiting}

rose_on : (a b c : ℕ) → a ≤ b → Rose b c → Rose a c
rose_on a b c low rose = omega (arith, low, rose)

module _ {C : Type 0} (client : link.Ghosts C) where
  -- what is counted since one span is counted since those before it
  counts_on : (x : WaitState) (first old new : Course C) → (seen client first).faults ≤ (seen client old).faults
      → Counted (has_failed x) (seen client old).faults (seen client new).faults
      → CountsFault client x first new
  counts_on W.Unstarted first old new low counted = tt
  counts_on (W.Polling key) first old new low counted = tt
  counts_on W.Ready first old new low counted = tt
  counts_on W.Ended first old new low counted = tt
  counts_on W.Failed first old new low counted =
      rose_on (seen client first).faults (seen client old).faults (seen client new).faults low counted
  counts_on W.Lacks first old new low counted = tt

  module _ (still_on : (a b c : C) → client.still a b → client.still b c → client.still a c) where
    same_on : (first old new : Course C) → IsSameSpan client first old → IsSameSpan client old new
        → IsSameSpan client first new
    same_on first old new one two = record {
      still = span_on client.still still_on first old new one.still two.still;
      source = two.source ∙ one.source;
      name = two.name ∙ one.name;
      before = two.before ∙ one.before;
      faults = let low = one.faults in let high = two.faults in omega arith;
      given = λ told. two.given told ∙ one.given told;
      taken = λ told. two.taken told ∙ one.taken told;
    }

    -- a client that was polled is that of each tag of which it was
    pub polled_of : {L : Type 0} (old new : Waiting C L) → HasPolled client old new → KeepsWait client old new
    polled_of {L} old new polled = record {
      tags = λ tag is. record {
        left = polled.left ∙ is.left;
        span = same_on tag.span.value old.span new.span is.span polled.span;
        faults = counts_on new.state tag.span.value old.span new.span is.span.faults polled.polls.faults;
      };
      replies = λ group question reply. (λ right. right, λ right. right);
      groups = λ group. (λ may. may, λ may. may);
    }
