-- What an event of a body owes to the two links: a fault of one of them decides where it leads, and it
-- leads there for nothing else; nothing is written to the origin and nothing is read of the client; the
-- origin is read on only while more may be given to the chain and there is room; and an end of the body
-- waits only for its link (RFC 9112, sections 6.3 and 8; Developer's Guide, "Transformations").
use Rattle.std.specs.Prelude.{◌≡◌, ℕ, ◌+◌, ◌<◌, ◌≤◌, ◌⊎◌, ◌++◌, List, [], length, Bool, true, false, Option}
use Rattle.std.specs.Prelude.{Some, ◌==◌, if◌then◌else◌}
use Rattle.ts_hooks.specs.declared.txn_end.TxnEnd.{TxnEnd}
use Rattle.ts_hooks.specs.declared.txn_end.TxnEnd.TheVariants as E
use Rattle.ts_journal.specs.declared.entry.Pending.{Pending}
use Rattle.ts_group.specs.declared.action.Named.{Named}
use Rattle.ts_group.specs.Context.{Context}
use Rattle.ts_link.specs.Link.{Calls}
use Rattle.ts_transform.specs.Driving.{AreNamed, IsNamedIf, IsRousingOf, SetsOnly}
use Rattle.ts_transform.specs.Flow.{ChainState}
use Rattle.ts_transform.specs.Stage.{MOST_WAITING}
use Rattle.ts_transform.specs.declared.continuation.StageContinuation.{StageContinuation}
use Rattle.ts_vconn.specs.declared.moves.TheConstants.{MOST_PULLED}
use Rattle.ts_relay.specs.Duties.{MustReadOn, UnlessLacking}
use Rattle.ts_phases.specs.Ends.{IsFrontOf}
use Rattle.ts_relay.specs.Relaying.{IsOfRoleFrom}
use Rattle.ts_phases.specs.View.{LinkSide, View}
use Rattle.ts_link.specs.declared.clock.TheConstants.{RETRY_AFTER}
use Rattle.ts_wire.specs.Limits.{piece_limit}
use Rattle.ts_relay.specs.declared.client_end.TheConstants.{MOST_FRAME, MOST_FRAMED, MOST_TOGETHER}
use Rattle.ts_relay.specs.declared.relay.TheConstants.{MAIN, FIRST, READER}
use Rattle.ts_relay.specs.declared.last_writes.BodyStep.{BodyStep}
use Rattle.ts_relay.specs.declared.last_writes.BodyStep.TheVariants as S
use Rattle.ts_relay.specs.declared.relay.Relay.{Relay}
use Rattle.ts_relay.specs.declared.relay.Short.{Short}

-- the transaction closes for a fault of the client's link, or what waits is still written behind one
abbrev pub is_client_fault : BodyStep → Bool
is_client_fault (S.Closes E.ClientFault) = true
is_client_fault (S.Finishes E.ClientFault) = true
is_client_fault _ = false

-- the same for a fault of the origin's link
abbrev pub is_origin_fault : BodyStep → Bool
is_origin_fault (S.Finishes E.OriginFault) = true
is_origin_fault (S.Closes E.OriginFault) = true
is_origin_fault _ = false

-- the link was not ready
abbrev pub is_late : BodyStep → Bool
is_late S.Waits = true
is_late _ = false

-- nothing is read of a side, and what it gave is kept
pub record IsUnread (tells : Bool) (old new : LinkSide) : Type 0 where
  pub reads : new.look.reads ≡ old.look.reads
  pub held : new.inbox ≡ old.inbox
  pub given : tells ≡ true → new.look.given ≡ old.look.given

-- nothing is written to a side
pub record IsUnwritten (tells : Bool) (old new : LinkSide) : Type 0 where
  pub writes : new.look.writes ≡ old.look.writes
  pub waits : new.outbox ≡ old.outbox
  pub taken : tells ≡ true → new.look.taken ≡ old.look.taken

-- What a transaction holds of a body before it comes to the first stage: no more than one read of the
-- origin brings, and at the front of the chain less than one more above what stops the reader.
pub record HoldsLittle {P : Type 0} (v : View) (c : ChainState P) : Type 0 where
  pub held : length v.origin.inbox ≤ MOST_PULLED
  pub front : length c.first < MOST_WAITING + MOST_PULLED

-- What was queued for the client stays queued, or was written: its pieces are never taken back.
pub record KeepsQueued (tells : Bool) (v w : View) : Type 0 where
  pub head : w.sent.head ≡ v.sent.head
  pub mode : w.sent.mode ≡ v.sent.mode
  pub cuts : IsFrontOf v.sent.cuts.items w.sent.cuts.items
  pub text : tells ≡ true → IsFrontOf (v.client.look.taken ++ v.client.outbox)
      (w.client.look.taken ++ w.client.outbox)

-- how many bytes wait for the client at most once more was queued for it, where so many waited: one piece
-- with its frame and the end of its body where none did, and else one block
abbrev pub most_queued : ℕ → ℕ
most_queued waits = if waits == 0 then MOST_FRAMED else MOST_TOGETHER

-- a piece of so many bytes may be framed behind so many that wait, and then the end of its body
pub record HasRoomFor (waits most : ℕ) : Type 0 where
  pub piece : most ≤ piece_limit
  pub fits : waits + most + MOST_FRAME ≤ most_queued waits

-- the end of a body may be framed behind so many that wait
abbrev pub MayEnd : ℕ → Type 0
MayEnd waits = waits + MOST_FRAME ≤ most_queued waits

-- no more waits for the client than did, or no more than may be queued for it
abbrev pub QueuesFew : View → View → Type 0
QueuesFew v w = (length w.client.outbox ≤ length v.client.outbox)
    ⊎ (length w.client.outbox ≤ most_queued (length v.client.outbox))

-- What a step of a body does with the links, each of which may have made it wait: a link's count of faults
-- rises exactly where the step leads to the end for that; the origin is read on only where more of the body
-- may come and be given to the chain, and no more is queued for the client than one piece, or than one block
-- where something waits for it; so little is held.
pub record MindsBody {P : Type 0} (ctells otells : Bool) (v w : View) (r s : Relay P) (step : BodyStep)
    (client_late origin_late : Bool) : Type 0 where
  pub client : Calls v.client.look w.client.look (is_client_fault step) client_late
  pub origin : Calls v.origin.look w.origin.look (is_origin_fault step) origin_late
  pub reads : (w.origin ≡ v.origin) ⊎ MustReadOn r
  pub unread : IsUnread ctells v.client w.client
  pub unwritten : IsUnwritten otells v.origin w.origin
  pub queued : KeepsQueued ctells v w
  pub queues : QueuesFew v w
  pub holds : UnlessLacking step (HoldsLittle v r.driven.chain → HoldsLittle w s.driven.chain)

-- What a step of the writer does with the links: nothing with the origin's.
pub record WritesLinks {P : Type 0} (ctells otells : Bool) (v w : View) (r s : Relay P)
    (step : BodyStep) : Type 0 where
  pub minds : MindsBody ctells otells v w r s step (is_late step) false
  pub origin : w.origin ≡ v.origin

-- And one of the reader: nothing with the client's.
pub record ReadsLinks {P : Type 0} (ctells otells : Bool) (v w : View) (r s : Relay P)
    (step : BodyStep) : Type 0 where
  pub minds : MindsBody ctells otells v w r s step false (is_late step)
  pub client : w.client ≡ v.client
  pub sent : w.sent ≡ v.sent

-- an event that lets an end of a body work: the first continuation, or the reader, each after its pause
abbrev pub IsOfEnd : ℕ → ℕ → ℕ → List Named → Pending → Type 0
IsOfEnd writes reads moment roles p =
    IsRousingOf MAIN writes moment roles p ⊎ IsRousingOf READER reads moment roles p

-- only such events were set, where both ends have their roles
abbrev pub OnlyOfEnds : ℕ → ℕ → Option StageContinuation → Option StageContinuation → Context → Context
    → Type 0
OnlyOfEnds writes reads main reader a b = IsNamedIf a.roles MAIN main → IsNamedIf a.roles READER reader
    → SetsOnly (IsOfEnd writes reads a.moment a.roles) a b

-- the continuations of a body have their roles
pub record AreBodyNamed {P : Type 0} (roles : List Named) (main : Option StageContinuation)
    (r : Relay P) : Type 0 where
  pub of_main : IsNamedIf roles MAIN main
  pub of_reader : IsNamedIf roles READER r.reader
  pub stages : AreNamed roles FIRST r.driven.table.items

-- how many milliseconds later an end works again: at once, but where its link was not ready
abbrev pub pause_if : Bool → ℕ → ℕ
pause_if true pause = pause
pause_if false pause = 0

-- only events of stages were set, and such as let an end of the body work, each end after its pause
abbrev pub OnlyOfBody : ℕ → ℕ → Context → Context → Type 0
OnlyOfBody writes reads a b =
    SetsOnly (λ p. IsOfRoleFrom FIRST a.roles p ⊎ IsOfEnd writes reads a.moment b.roles p) a b

-- once no more of a body comes, it stays known why
abbrev pub KeepsShort : {P : Type 0} → Relay P → Relay P → Type 0
KeepsShort r s = (why : Short) → r.short ≡ Some why → s.short ≡ Some why

-- What an event of a body does with the links; and what it sets is of a stage, or lets an end of the body
-- work: at once, or 10 milliseconds later where its link was not ready. Once no more of the body comes, none
-- does.
pub record HandlesLinks {P : Type 0} (ctells otells : Bool) (v w : View) (main : Option StageContinuation)
    (r s : Relay P) (step : BodyStep) (a b : Context) : Type 0 where
  pub client_late : Bool
  pub origin_late : Bool
  pub minds : MindsBody ctells otells v w r s step client_late origin_late
  pub stays : KeepsShort r s
  pub due : AreBodyNamed a.roles main r
      → OnlyOfBody (pause_if client_late RETRY_AFTER) (pause_if origin_late RETRY_AFTER) a b

-- While the stages of a body run that begins, what it sets is of one of them, or lets an end of the body
-- work at once.
abbrev pub BeginsInTime : {P : Type 0} → Option StageContinuation → Relay P → Context → Context → Type 0
BeginsInTime main s a b = s.driven.running ≡ true → IsNamedIf a.roles MAIN main
    → SetsOnly (λ p. IsOfRoleFrom FIRST b.roles p ⊎ IsOfEnd 0 0 a.moment b.roles p) a b

-- Where one of the last writes leads: to the end that was found, once nothing waits, and to that for the
-- client's fault where its link failed.
abbrev pub RestLeads : TxnEnd → LinkSide → LinkSide → BodyStep → Type 0
RestLeads end old new S.Goes = Calls old.look new.look false false
RestLeads end old new S.Waits = Calls old.look new.look false true
RestLeads end old new (S.Finishes other) = ⊥
RestLeads end old new (S.Closes other) =
    ((other ≡ end) × (new.outbox ≡ []) × Calls old.look new.look false false)
    ⊎ ((other ≡ E.ClientFault) × Calls old.look new.look true false)
RestLeads end old new S.Lacks = Calls old.look new.look false false

-- One of the last writes: nothing is read of the client, and the origin is let be.
pub record SendsRest (tells : Bool) (end : TxnEnd) (v w : View) (step : BodyStep) : Type 0 where
  pub leads : RestLeads end v.client w.client step
  pub unread : IsUnread tells v.client w.client
  pub others : w ≡ record v { client = w.client }
