-- What the spans of one client come to, one after the other (RFC 9112, section 9.3).
use Rattle.std.specs.Prelude.{◌≡◌, ℕ, ◌<◌, ◌||◌, Bool, true, false, List, [], ◌++◌, drop, slice_range, ⊤}
use Rattle.httparse.specs.Grammar as grammar
use Rattle.ts_link.specs.Link.{Calls, GivesMore, Look, all_of}
use Rattle.ts_session.specs.Course.{before_client, fresh_request, fresh_response, span_look}
use Rattle.ts_session.specs.declared.course.Course.{Course}
use Rattle.ts_session.specs.declared.course.Polled.{Polled}
use Rattle.ts_session.specs.declared.course.Polled.TheVariants as P
use Rattle.ts_session.specs.Kept.{AreLines, IsKept, close_line}
use Rattle.ts_session.specs.Limits.{most_places}
use Rattle.ts_session.specs.Lines.{HasEnded, agrees}
use Rattle.ts_session.specs.FirstRequest.{first_request}
use Rattle.ts_session.specs.Requests.{IsRequest, IsRequestWith, asks_head, persists}
use Rattle.ts_session.specs.Writing.{FindsLine, HoldsMore}
use Rattle.ts_session.specs.declared.response.Sending.{Sending}
use Rattle.ts_session.specs.declared.response.Sending.TheVariants as S
use Rattle.ts_link.specs.declared.link.Put.{Put}

-- what a connection took of a response: what is kept of it where the connection goes on, or else all of it
-- but for what waits
abbrev pub IsSent : Bool → List ℕ → List ℕ → List ℕ → Type 0
IsSent true waits response sent = IsKept response sent
IsSent false waits response sent = response ≡ sent ++ waits

-- THE CONNECTION OF A SPAN: behind what it gave before stands the request of the span, the first of the bytes
-- there, and then whatever follows; and behind what it took before, it took the response of the span, without
-- its line `connection: close` where it goes on. Only a front of such a line may wait, within a head that has
-- not ended.
pub record IsSession (span : Look) (goes_on : Bool) (waits : List ℕ) (client : Look) : Type 0 where
  pub bytes : List ℕ
  pub gave : client.before.0 ++ all_of client ≡ span.before.0 ++ bytes
  pub request : all_of span ≡ first_request bytes
  pub sent : List ℕ
  pub is_sent : IsSent goes_on waits span.taken sent
  pub took : client.before.1 ++ client.taken ≡ span.before.1 ++ sent
  pub of_line : (from : ℕ) × (to : ℕ) × (waits ≡ slice_range close_line from to)
  pub within_head : HasEnded span.taken → waits ≡ []

-- WHERE A CONNECTION GOES ON behind a response: the request was given whole and its client lets it go on, the
-- session may carry more requests, and the lines before the one that was dropped tell where the response
-- ends, unless it has only a head.
pub record MayContinue (span : Look) (place : ℕ) : Type 0 where
  pub head : grammar.RequestHead
  pub request : IsRequestWith head span.given
  pub no_left : span.left ≡ []
  pub persists_is : persists head ≡ true
  pub within : place < most_places
  pub told : Bool
  pub lines : List ℕ
  pub are : AreLines told lines
  pub ends : told || asks_head head ≡ true
  pub behind : List ℕ
  pub response_is : span.taken ≡ lines ++ (close_line ++ behind)

-- WHERE THE LINE IS DROPPED, in one write of the response: where the request was given whole and its client
-- lets the connection go on, and the session may carry more requests, as the first byte of the line is
-- written.
pub record DropsLine (span : Look) (place : ℕ) (old new : Sending) (answer : Put) (piece : List ℕ) : Type 0
  where
    pub goes_on : (count : ℕ) → old ≡ S.Line count → agrees (drop count close_line) piece ≡ true
        → HoldsMore count new answer piece
    pub finds : (head : grammar.RequestHead) → IsRequestWith head span.given → persists head ≡ true
        → place < most_places → FindsLine (asks_head head) span.taken new answer piece

-- THE NEXT SPAN of a connection: it begins where this one ended, behind a whole request and behind what is
-- kept of its response, and shows none of either
pub record GoesBehind (span next : Look) : Type 0 where
  pub request : IsRequest span.given
  pub no_left : span.left ≡ []
  pub gave : next.before.0 ≡ span.before.0 ++ span.given
  pub sent : List ℕ
  pub is_sent : IsKept span.taken sent
  pub took : next.before.1 ≡ span.before.1 ++ sent
  pub no_given : next.given ≡ []
  pub no_taken : next.taken ≡ []
  pub name : next.name ≡ span.name

-- THE FIRST SPAN of a connection, made of this client
pub record IsNew {C : Type 0} (look : C → Look) (tells : Bool) (client : C) (s : Course C) : Type 0 where
  pub client_is : s.client ≡ client
  pub request_is : s.request ≡ fresh_request s.request.chunks []
  pub response_is : s.response ≡ fresh_response
  pub place_is : s.place ≡ 1
  pub no_reads : s.reads ≡ 0
  pub no_writes : s.writes ≡ 0
  pub since : before_client look s ≡ (look client).before
  pub gave : (span_look look tells s).before.0 ≡ (look client).before.0 ++ (look client).given
  pub took : (span_look look tells s).before.1 ≡ (look client).before.1 ++ (look client).taken
  pub no_given : (span_look look tells s).given ≡ []
  pub no_taken : (span_look look tells s).taken ≡ []

-- a poll of a span, which gives nothing and is no read of it
pub record PollsSpan (tells : Bool) (old new : Look) (failed waited : Bool) : Type 0 where
  pub calls : Calls old new failed waited
  pub reads : new.reads ≡ old.reads
  pub writes : new.writes ≡ old.writes
  pub told : tells ≡ true → GivesMore old new []

-- where the client has ended, nothing is left of the span
abbrev pub EndsSpan : Polled → Look → Type 0
EndsSpan P.End span = span.left ≡ []
EndsSpan _ span = ⊤

-- what is seen of an origin whose client is shown by a span: it has no upload of its own to move
abbrev pub spanned_look : Look → Look
spanned_look l = record l { uploaded = true }
