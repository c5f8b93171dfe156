-- A transaction whose client's text was queued whole, and where the steps of a body lead (RFC 9112, section
-- 8).
use Rattle.std.specs.Prelude.{◌≡◌, ◌≢◌, List, ℕ, [], Bool, true, false}
use Rattle.std.specs.Arc.{arc_value}
use Rattle.ts_config.specs.declared.setup.Setup.{Setup}
use Rattle.ts_hooks.specs.declared.txn_end.TxnEnd.{TxnEnd}
use Rattle.ts_hooks.specs.declared.txn_end.TxnEnd.TheVariants as E
use Rattle.ts_link.specs.Link.{all_of}
use Rattle.ts_link.specs.declared.link.Link as link
use Rattle.ts_upstream.specs.declared.upstream.Upstream as upstream
use Rattle.ts_block.specs.Block.{IsBlock}
use Rattle.ts_phases.specs.View.{HasCount, HasFailed, OriginRefuses, View, view_of}
use Rattle.ts_phases.specs.Facts.{HasTook, TookExactly}
use Rattle.ts_phases.specs.Ends.{EndFact, HasText, Relayed, SendsSoon}
use Rattle.ts_phases.specs.Holding.{IfTold}
use Rattle.ts_block.specs.declared.block.Block.{Block}
use Rattle.ts_phases.specs.declared.parts.Core.{Core}
use Rattle.ts_relay.specs.declared.last_writes.BodyStep.{BodyStep}
use Rattle.ts_relay.specs.declared.last_writes.BodyStep.TheVariants as S

module _ (setup : Setup) (refuses : Type 0) where
  -- The client's text is the block's head, and a body with its end, or without one.
  pub record QueuesBlock (v : View) (end : TxnEnd) (fin : Bool) : Type 0 where
    pub block : Block
    pub is_block : IsBlock setup v.dialed refuses (all_of v.origin.look) (all_of v.client.look) block
    pub ends : block.end ≡ end
    pub took : TookExactly refuses block.request v.origin
    pub mode : v.sent.mode ≡ block.mode
    pub sent : List ℕ
    pub text : HasText v.client v.sent block.head sent fin

  -- It is the block's body, with its end.
  pub record QueuesWhole (v : View) : Type 0 where
    pub queues : QueuesBlock v E.Whole true
    pub whole : queues.sent ≡ queues.block.body
    pub done : Bool
    pub relayed : Relayed setup refuses v done true queues.sent

  -- It is what the lines had written of a body that is cut or bad, and no end.
  pub record QueuesShort (v : View) (end : TxnEnd) : Type 0 where
    pub queues : QueuesBlock v end false
    pub relayed : Relayed setup refuses v false false queues.sent
    pub soon : SendsSoon setup v end relayed.q relayed.h queues.sent

  -- The origin's link failed behind the head that was passed on, and nothing is framed any more.
  pub record FailsLate (v : View) : Type 0 where
    pub failed : HasFailed v.origin
    pub done : Bool
    pub sent : List ℕ
    pub relayed : Relayed setup refuses v done false sent

  -- why the text is queued whole, by the end that comes once it is written
  abbrev pub QueuesFor : View → TxnEnd → Type 0
  QueuesFor v E.Whole = QueuesWhole v
  QueuesFor v E.OriginCut = QueuesShort v E.OriginCut
  QueuesFor v E.OriginBad = QueuesShort v E.OriginBad
  QueuesFor v E.OriginFault = FailsLate v
  QueuesFor v E.ClientFault = ⊥
  QueuesFor v E.NoMemory = ⊥

  pub record IsFinishing (v : View) (end : TxnEnd) : Type 0 where
    pub count : HasCount v.client
    pub some : v.client.look.given ≢ []
    pub took : HasTook setup v
    pub queues : QueuesFor v end

  -- Where a step of a body leads: it goes on; all that the client gets was queued; or the transaction closes.
  abbrev pub LeadsBody : Type 0 → View → BodyStep → Type 0
  LeadsBody goes v S.Goes = goes
  LeadsBody goes v S.Waits = goes
  LeadsBody goes v (S.Finishes end) = IsFinishing v end
  LeadsBody goes v (S.Closes end) = EndFact setup refuses v end
  LeadsBody goes v S.Lacks = EndFact setup refuses v E.NoMemory

module _ {C O : Type 0} (client : link.Ghosts C) (origin : link.Ghosts O) (both : upstream.Ghosts O C) where
  -- the same of a transaction whose links tell
  abbrev pub FinishHolds : Core C O → TxnEnd → Type 0
  FinishHolds t end = IfTold client.tells origin.tells
      (IsFinishing (arc_value t.setup) (OriginRefuses client both t) (view_of client origin t) end)

  -- What the origin refuses is what it refused before.
  abbrev pub FinishLeads : Core C O → Core C O → TxnEnd → BodyStep → Type 0
  FinishLeads old new end step = IfTold client.tells origin.tells
      (LeadsBody (arc_value old.setup) (OriginRefuses client both old)
      (IsFinishing (arc_value old.setup) (OriginRefuses client both old) (view_of client origin new) end)
      (view_of client origin new) step)
