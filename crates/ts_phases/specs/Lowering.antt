-- What a transaction has left to do, as a number that each of its events lowers: what is left to read, to
-- pass each boundary and to write, and the Again answers that are left, each weighted above what it makes;
-- and the pending events.
use Rattle.std.specs.Prelude.{◌≡◌, ℕ, ◌+◌, ◌*◌, List, [], ◌∷◌, length, Option, Some, None}
use Rattle.std.specs.Arc.{arc_value}
use Rattle.ts_config.specs.declared.setup.Setup.{Setup}
use Rattle.ts_config.specs.declared.fields.Rule.{Rule}
use Rattle.ts_config.specs.declared.fields.Rule.TheVariants.{Set, Add, Remove}
use Rattle.ts_config.specs.declared.fields.PluginLine.{PluginLine}
use Rattle.ts_config.specs.declared.fields.PluginLine.TheVariants.{Deny, Header, SessionHeader}
use Rattle.ts_group.specs.declared.world.Asked.{Asked}
use Rattle.ts_group.specs.declared.world.Asked.TheVariants as A
use Rattle.ts_hooks.specs.declared.hook.Hook.{Hook}
use Rattle.ts_hooks.specs.declared.hook.Hook.TheVariants as hook
use Rattle.ts_journal.specs.declared.entry.Pending.{Pending}
use Rattle.ts_link.specs.Link.{Fewer, NoMore}
use Rattle.ts_link.specs.declared.link.Link as link
use Rattle.ts_upstream.specs.declared.upstream.Upstream as upstream
use Rattle.ts_upstream.specs.Uploads.{Rose8, both, taken_since}
use Rattle.ts_passing.specs.Lines.{lines_length, passes}
use Rattle.ts_wire.specs.Limits.{field_limit, head_limit}
use Rattle.ts_block.specs.Block.{own_text, request_text}
use Rattle.ts_block.specs.Own.{own_body}
use Rattle.ts_plugin.specs.Lines.{lines_at, lines_left}
use Rattle.ts_plugin.specs.declared.question.HookQuestion.{HookQuestion}
use Rattle.ts_plugin.specs.declared.question.HookReply.{HookReply}
use Rattle.ts_phases.specs.Holding.{IfTold}
use Rattle.ts_phases.specs.View.{LinkSide, View, side_if, upload_of, view_of}
use Rattle.ts_block.specs.declared.own_answer.OwnStatus.{OwnStatus}
use Rattle.ts_block.specs.declared.own_answer.OwnStatus.TheVariants as O
use Rattle.ts_phases.specs.declared.parts.Core.{Core}
use Rattle.ts_phases.specs.declared.phase.Next.{Next}
use Rattle.ts_phases.specs.declared.phase.Next.TheVariants as N
use Rattle.ts_phases.specs.declared.phase.OwnAnswer.{OwnAnswer}
use Rattle.ts_phases.specs.declared.phase.Phase.{Phase}
use Rattle.ts_phases.specs.declared.phase.Phase.TheVariants as P
use Rattle.ts_phases.specs.declared.phase.Request.{Request}
use Rattle.ts_phases.specs.declared.phase.Step.{Step}

-- a step sets no more events
abbrev pub events_paid : ℕ
events_paid = 5

-- what a chain has left to do weighs a hundred events: so many steps
abbrev pub pump_weight : ℕ
pump_weight = 20

-- a byte that is written to the origin lets the upload rise by 8
abbrev pub written_weight : ℕ
written_weight = 9

-- WHAT THE CONFIGURATION ADDS

-- the line of a field that a header rule adds
abbrev pub rule_length : Rule → ℕ
rule_length (Set name value) = length name + length value.bytes + 4
rule_length (Add name value) = length name + length value.bytes + 4
rule_length (Remove name) = 0

abbrev pub plugin_length : PluginLine → ℕ
plugin_length (Deny sites) = 0
plugin_length (Header side rule) = rule_length rule
plugin_length (SessionHeader side rule) = rule_length rule

abbrev pub plugins_length : List PluginLine → ℕ
plugins_length [] = 0
plugins_length (l ∷ ls) = plugin_length l + plugins_length ls

-- A HEAD IS NO LONGER THAN THIS

-- a line of a field, or a Host line in its place
abbrev pub line_room : ℕ
line_room = head_limit + 8

-- the lines of the fields that were read are at most twice as long as the head; beside them stand the first
-- line, Via, how the body is framed, and Connection
abbrev pub frame_room : ℕ
frame_room = 4 * head_limit + 256

-- THE END OF A BODY

-- the end of a body as it is framed, and the steps behind it
abbrev pub end_room : ℕ
end_room = 16

-- what the client gave and may still give, until its request was read
abbrev pub to_ask : LinkSide → ℕ
to_ask client = 2 * length client.look.left + length client.inbox

module _ (setup : Setup) where
  -- each field of a head within the limits, each rule's, and a Host field
  abbrev pub head_room : ℕ
  head_room = frame_room + (field_limit + length setup.plugins.items + 1) * line_room
      + plugins_length setup.plugins.items

  -- an own answer with its body
  abbrev pub own_length : OwnStatus → ℕ
  own_length status = length (own_text setup status) + length (own_body status)

  -- no own answer is longer
  abbrev pub own_room : ℕ
  own_room = own_length O.BadRequest + own_length O.Forbidden + own_length O.NotImplemented
      + own_length O.BadGateway

  -- a chain that has not begun: each line's text passes each boundary, and each stage ends, and may make two
  -- calls upstream
  abbrev pub chain_room : ℕ
  chain_room = passes setup.transforms.items (lines_length setup.transforms.items + 3)

  -- what an answer makes, whichever it is
  abbrev pub answer_room : ℕ
  answer_room = own_room + (head_room + end_room) + pump_weight * chain_room

  -- what the origin gave and may still give is read, and passes a chain
  abbrev pub to_hear : LinkSide → ℕ
  to_hear origin = pump_weight * passes setup.transforms.items (length origin.look.left + length origin.inbox)
      + 2 * length origin.look.left + length origin.inbox

  -- how many plugins are asked at a hook, and how many are still to be asked at a place of it
  abbrev pub asks_at : Hook → ℕ
  asks_at hook = length (lines_at hook setup.plugins.items)

  abbrev pub asks_left : Hook → ℕ → ℕ
  asks_left hook place = length (lines_left hook place setup.plugins.items)

  -- before the request is sent, at its hook and the one behind that; and before its lookup, at all three
  abbrev pub sending_asks : ℕ
  sending_asks = asks_at hook.SendRequestHdr + asks_at hook.SendResponseHdr

  abbrev pub all_asks : ℕ
  all_asks = asks_at hook.OsDns + sending_asks

  -- THE PHASES, of which each pays for those behind it. `again` is how many Again answers are left, and
  -- `upload` how much upload.
  module _ (again upload : ℕ) (v : View) where
    -- what was queued is written
    abbrev pub writes_work : ℕ
    writes_work = again + length v.client.outbox

    -- what is left once the origin's answer is waited for
    abbrev pub answer_work : ℕ
    answer_work = writes_work + answer_room + to_hear v.origin

    -- what is left while a request that is so long is written to the origin
    abbrev pub request_work : ℕ → ℕ
    request_work long = answer_work + upload + written_weight * (length v.origin.outbox + long)

    abbrev pub text_work : Request → ℕ
    text_work q = request_work (length (request_text setup q.head q.target q.host))

    abbrev pub ask_work : ℕ
    ask_work = request_work head_room + to_ask v.client

    -- what is left where the client's head is queued and its body begins
    abbrev pub enter_work : ℕ
    enter_work = 6 + answer_work

    -- what is left with an answer of the proxy's own
    abbrev pub own_work : OwnAnswer → ℕ
    own_work a = writes_work + own_length a.status

    abbrev pub phase_work : Phase → ℕ
    phase_work P.Fresh = 18 + all_asks + ask_work
    phase_work P.TxnStart = 17 + all_asks + ask_work
    phase_work P.ReadRequest = 16 + all_asks + ask_work
    phase_work (P.ReadRequestHdr q) = 15 + all_asks + text_work q
    phase_work (P.OsDns q place) = 14 + (asks_left hook.OsDns place + sending_asks) + text_work q
    phase_work (P.SendRequestHdr q) = 13 + sending_asks + text_work q
    phase_work (P.RuleRequest q place fields) =
        12 + (asks_left hook.SendRequestHdr place + asks_at hook.SendResponseHdr) + text_work q
    phase_work (P.SendRequest q) = 11 + asks_at hook.SendResponseHdr + request_work 0
    phase_work (P.Upload q) = 10 + asks_at hook.SendResponseHdr + answer_work + upload
    phase_work (P.ReadResponse q) = 9 + asks_at hook.SendResponseHdr + answer_work
    phase_work (P.ReadResponseHdr q h) = 8 + asks_at hook.SendResponseHdr + answer_work
    phase_work (P.ResponseTransform q h) = 7 + asks_at hook.SendResponseHdr + answer_work
    phase_work (P.RuleResponse q h place fields) = asks_left hook.SendResponseHdr place + enter_work
    phase_work (P.SendResponseHdr a) = 4 + asks_at hook.SendResponseHdr + own_work a
    phase_work (P.RuleAnswer a place fields) = 3 + asks_left hook.SendResponseHdr place + own_work a
    phase_work (P.Sending a) = 2 + writes_work
    phase_work (P.TxnClose end) = 1
    phase_work (P.Ended end) = 0

-- a number of two that are told
abbrev pub if_told : Option ℕ → Option ℕ → (ℕ → ℕ → ℕ) → Option ℕ
if_told (Some m) (Some n) f = Some (f m n)
if_told (Some m) None f = None
if_told None n f = None

-- how many Again answers both links have left
abbrev pub agains_left : View → Option ℕ
agains_left v = both v.client.look.agains v.origin.look.agains

-- how much upload is left in a phase: none, once the answer is waited for
abbrev pub upload_in : Option ℕ → Phase → Option ℕ
upload_in upload (P.ReadResponse q) = Some 0
upload_in upload (P.ReadResponseHdr q h) = Some 0
upload_in upload (P.ResponseTransform q h) = Some 0
upload_in upload (P.RuleResponse q h place fields) = Some 0
upload_in upload (P.SendResponseHdr a) = Some 0
upload_in upload (P.RuleAnswer a place fields) = Some 0
upload_in upload (P.Sending a) = Some 0
upload_in upload (P.TxnClose end) = Some 0
upload_in upload (P.Ended end) = Some 0
upload_in upload _ = upload

-- what a transaction has left to do in a phase, if its links tell how many Again answers and how much upload
-- is left
abbrev pub work_left : Setup → Option ℕ → View → Phase → Option ℕ
work_left setup upload v p = if_told (agains_left v) (upload_in upload p)
    (λ again more. phase_work setup again more v p)

-- and where the body of a response begins
abbrev pub enter_left : Setup → View → Option ℕ
enter_left setup v = if_told (agains_left v) (Some 0) (λ again upload. enter_work setup again upload v)

-- A step lowers what is left, and the last one doesn't raise it.
abbrev pub StepFalls : Next → Option ℕ → Option ℕ → Type 0
StepFalls N.Go old new = Fewer old new
StepFalls N.Wait old new = Fewer old new
StepFalls N.Done old new = NoMore old new

-- with the pending events
abbrev pub number_left : List Pending → Option ℕ → Option ℕ
number_left pending None = None
number_left pending (Some work) = Some (events_paid * work + length pending)

-- What the step of a phase leads to lowers what is left.
abbrev pub StepLowers : Setup → Phase → Option ℕ → Option ℕ → View → View → Step → Type 0
StepLowers setup p upload upload_then v w s =
    StepFalls s.next (work_left setup upload v p) (work_left setup upload_then w s.phase)

-- What comes of a question lowers what is left, as a step does; a miss leaves it as it was.
abbrev pub ToldLowers : Asked HookQuestion HookReply → Next → Option ℕ → Option ℕ → Type 0
ToldLowers (A.Missed seen question) next old new = new ≡ old
ToldLowers asked next old new = StepFalls next old new

module _ {C O : Type 0} (client : link.Ghosts C) (origin : link.Ghosts O) (pair : upstream.Ghosts O C) where
  -- the step of a phase lowers what is left, where both links tell
  abbrev pub StepFallsFrom : Core C O → Core C O → Phase → Step → Type 0
  StepFallsFrom t u p s = IfTold client.tells origin.tells (StepLowers (arc_value t.setup) p
      (upload_of pair t) (upload_of pair u)
      (view_of client origin t) (view_of client origin u) s)

-- calls that upload nothing raise what the upload has left by at most 8 for each byte that the origin took
abbrev pub RaisesUpload : {C O : Type 0} → link.Ghosts O → upstream.Ghosts O C → Core C O → Core C O → Type 0
RaisesUpload origin pair t u = Rose8 (upload_of pair t) (upload_of pair u)
    (taken_since (side_if origin.look t.origin).look (side_if origin.look u.origin).look)
