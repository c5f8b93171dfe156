-- What stands at the origin once a transaction has ended, by all bytes of its client: the head of the
-- request, and of an upload the line in it that says how its body is framed, and the body, as the request
-- lines make it (RFC 9112, sections 6 and 7.1; Developer's Guide, "Transformations"); and what answers it
-- there (Developer's Guide, "Intercepting HTTP Transactions").
use Rattle.std.specs.Prelude.{◌≡◌, ◌≢◌, ◌++◌, List, [], ℕ, None, Option, Some, true}
use Rattle.httparse.specs.Grammar as grammar
use Rattle.ts_config.specs.Bodies.{compose_lines, is_early}
use Rattle.ts_config.specs.declared.setup.InterceptLine.{InterceptLine}
use Rattle.ts_config.specs.declared.setup.TransformLine.{TransformLine}
use Rattle.ts_intercept.specs.Served.{line_for, served}
use Rattle.ts_replay.specs.declared.at_origin.AtOrigin.{AtOrigin}
use Rattle.ts_request.specs.Sent.{RefusesUpload, sent_head}
use Rattle.ts_request.specs.Upload.{HasUpload, LacksUpload}
use Rattle.ts_wire.specs.Body.{BodyOf}
use Rattle.ts_wire.specs.declared.body.BodyState.{BodyState}
use Rattle.ts_wire.specs.declared.body.BodyState.TheVariants as B
use Rattle.ts_wire.specs.declared.framing.Framing.{Framing}

-- no head, and so nothing behind it
abbrev pub none_there : AtOrigin
none_there = record { request = []; upload = None }

module _ (lines : List TransformLine) where
  -- The lines' work on a body of which these bytes stand behind its head: on all of it, once it has ended; or
  -- on that of a front of the bytes, where one of the lines finishes early on it, whatever follows.
  pub data IsWorkOn (framing : Framing) (bytes work : List ℕ) : Type 0 where
    ended : (body : List ℕ) → BodyOf framing bytes body B.Ended → work ≡ compose_lines lines body
        → IsWorkOn framing bytes work
    early : (front more read : List ℕ) (state : BodyState) → bytes ≡ front ++ more
        → BodyOf framing front read state → is_early lines read ≡ true → work ≡ compose_lines lines read
        → IsWorkOn framing bytes work

  -- WHAT STANDS AT THE ORIGIN of a client with these bytes, under these request lines, where this is the head
  -- that the transaction sends. Where it sends none, nothing. Where the client has no upload, that head.
  -- Where it has one, the head with the line that says how the body is framed, and behind it the lines'
  -- work on the body; of an upload that is refused no body is shown.
  pub data StandsAt (client head : List ℕ) (at : AtOrigin) : Type 0 where
    nothing : head ≡ [] → at ≡ none_there → StandsAt client head at
    plain : LacksUpload client → at ≡ record { request = head; upload = None } → StandsAt client head at
    carried : (h : grammar.RequestHead) (framing : Framing) (rest work : List ℕ) → head ≢ []
        → HasUpload client h framing rest → (RefusesUpload lines client → ⊥) → IsWorkOn framing rest work
        → at ≡ record { request = sent_head framing lines head; upload = Some work } → StandsAt client head at
    refused : (h : grammar.RequestHead) (framing : Framing) (rest : List ℕ) → head ≢ []
        → HasUpload client h framing rest → RefusesUpload lines client
        → at ≡ record { request = sent_head framing lines head; upload = None } → StandsAt client head at

-- at most one thing stands there
abbrev pub HasOneAtOrigin : Type 0
HasOneAtOrigin =
    (lines : List TransformLine) (client head : List ℕ) (a b : AtOrigin) → StandsAt lines client head a
    → StandsAt lines client head b → a ≡ b

-- ---- what answers it

-- what a line serves to a head, or where there is none all that the origin gives
abbrev pub answer_by : Option InterceptLine → List ℕ → List ℕ → List ℕ
answer_by None head origin = origin
answer_by (Some line) head origin = served line.kind head

-- THE ANSWER to the head that stands at the origin: what the first of these lines for its host serves, and
-- for every other host all that the origin gives. Where no head stands there, it is asked for nothing.
abbrev pub answer_to : List InterceptLine → List ℕ → List ℕ → List ℕ
answer_to lines head origin = answer_by (line_for lines head) head origin
