-- What writes to a span do to its response and to its client.
use Rattle.std.specs.Prelude.{◌≡◌, ◌⊎◌, ℕ, ◌+◌, ◌-◌, ◌<◌, ◌≤◌, Bool, true, false, ◌||◌, List, ◌++◌, length}
use Rattle.std.specs.Prelude.{take, drop, min}
use Rattle.std.specs.Prelude.{slice_range, ⊤}
use Rattle.ts_link.specs.Counts.{Counted}
use Rattle.ts_link.specs.Link.{Look, MayReplace}
use Rattle.ts_link.specs.LinkAnswers.{PutsSome, count_put, put_again, put_failed}
use Rattle.ts_link.specs.declared.link.Put.{Put}
use Rattle.ts_link.specs.declared.link.Put.TheVariants as P
use Rattle.ts_session.specs.Course.{HoldsResponse, has_found, line_at, written_by}
use Rattle.ts_session.specs.Kept.{close_line}
use Rattle.ts_session.specs.Lines.{BeginsLine, agrees}
use Rattle.ts_session.specs.declared.response.Response.{Response}
use Rattle.ts_session.specs.declared.response.Sending.{Sending}
use Rattle.ts_session.specs.declared.response.Sending.TheVariants as S
use Rattle.ts_session.specs.declared.writing.Paid.{Paid}
use Rattle.ts_session.specs.declared.writing.Paid.TheVariants as Q

-- what some writes leave of a client, the last of which failed or waited or did neither
pub record LeavesBy (tells : Bool) (l l' : Look) (failed waited : Bool) : Type 0 where
  pub source : l'.source ≡ l.source
  pub name : l'.name ≡ l.name
  pub carried : l'.carried ≡ l.carried
  pub uploaded : l'.uploaded ≡ l.uploaded
  pub before : l'.before ≡ l.before
  pub faults : Counted failed l.faults l'.faults
  pub waits : Counted waited l.waits l'.waits
  pub given : tells ≡ true → l'.given ≡ l.given
  pub left : tells ≡ true → MayReplace l.given l.left l'.left

-- what a write of the span leaves of its client
abbrev pub LeavesClient : Bool → Look → Look → Put → Type 0
LeavesClient tells l l' answer = LeavesBy tells l l' (put_failed answer) (put_again answer)

-- Want of memory leaves all as it was, unless a line was found that may be dropped: some of what was owed may
-- be out then.
abbrev pub LeavesAll : Put → Response → Response → Look → Look → Look → Look → Type 0
LeavesAll P.NoMemory p p' cut cut' l l' =
    ((p' ≡ p) × (cut' ≡ cut) × (l' ≡ l)) ⊎ (has_found p.sending ≡ true)
LeavesAll _ p p' cut cut' l l' = ⊤

-- what was taken of the piece was written behind what was written before, and the response holds
pub record TakesOn (asks tells : Bool) (start : List ℕ) (p p' : Response) (cut cut' l l' : Look)
    (answer : Put)
    (piece : List ℕ) : Type 0 where
  pub written : tells ≡ true → written_by p'.sending start cut'.taken l'.taken
      ≡ written_by p.sending start cut.taken l.taken ++ take (count_put answer) piece
  pub holds : HoldsResponse tells asks start cut'.taken p' l'

-- One write of the response, to a client that is seen so, and as it was when the line was dropped. A line is
-- found only where it may be.
pub record WritesOn (tells may asks : Bool) (p p' : Response) (cut cut' l l' : Look) (answer : Put)
    (piece : List ℕ) : Type 0 where
  pub takes : PutsSome answer (length piece)
  pub leaves : LeavesClient tells l l' answer
  pub lacks : LeavesAll answer p p' cut cut' l l'
  pub found : has_found p'.sending ≡ true → has_found p.sending || may ≡ true
  pub on : (start : List ℕ) → HoldsResponse tells asks start cut.taken p l
      → TakesOn asks tells start p p' cut cut' l l' answer piece

-- ---- where the line is dropped

-- behind so much of the line that is held the piece has more of it: that is held too, or dropped with the
-- rest
pub record HoldsMore (count : ℕ) (new : Sending) (answer : Put) (piece : List ℕ) : Type 0 where
  pub answer_is : answer ≡ P.Took (min (length piece) (length close_line - count))
  pub held : new ≡ line_at (count + min (length piece) (length close_line - count))

-- Where the connection may go on: a piece that has the line, or a front of it, where a line begins, is not
-- passed on; and no write takes more than what stands before it in its piece.
pub record FindsLine (asks : Bool) (written : List ℕ) (new : Sending) (answer : Put) (piece : List ℕ)
    : Type 0 where
  pub begins : BeginsLine asks written → agrees close_line piece ≡ true → HoldsMore 0 new answer piece
  pub stops : (front rest : List ℕ) → piece ≡ front ++ rest → 0 < length front
      → BeginsLine asks (written ++ front) → agrees close_line rest ≡ true → count_put answer ≤ length front

-- WHERE THE LINE IS DROPPED: where the connection may go on as its first byte is written, and all of it is
-- written
pub record DropsOn (tells may asks : Bool) (p p' : Response) (cut l : Look) (answer : Put) (piece : List ℕ)
    : Type 0 where
  pub goes_on : (count : ℕ) → p.sending ≡ S.Line count → agrees (drop count close_line) piece ≡ true
      → HoldsMore count p'.sending answer piece
  pub finds : tells ≡ true → may ≡ true → (start : List ℕ) → HoldsResponse tells asks start cut.taken p l
      → FindsLine asks (written_by p.sending start cut.taken l.taken) p'.sending answer piece

-- ---- what is owed

-- the place in the line that was come to
abbrev pub paid_to : ℕ → Paid → ℕ
paid_to end Q.All = end
paid_to end (Q.Again at) = at
paid_to end (Q.Failed at) = at
paid_to end (Q.NoMemory at) = at

abbrev pub paid_failed : Paid → Bool
paid_failed (Q.Failed at) = true
paid_failed _ = false

abbrev pub paid_again : Paid → Bool
paid_again (Q.Again at) = true
paid_again _ = false

-- what is owed is out, or some of it is still owed
abbrev pub PaysTo : ℕ → Paid → Type 0
PaysTo end Q.All = ⊤
PaysTo end (Q.Again at) = at < end
PaysTo end (Q.Failed at) = at < end
PaysTo end (Q.NoMemory at) = at < end

-- the client took the bytes of the line from one place up to another
pub record PaysLine (tells : Bool) (from to : ℕ) (l l' : Look) (failed waited : Bool) : Type 0 where
  pub ordered : from ≤ to
  pub leaves : LeavesBy tells l l' failed waited
  pub took : tells ≡ true → l'.taken ≡ l.taken ++ slice_range close_line from to
