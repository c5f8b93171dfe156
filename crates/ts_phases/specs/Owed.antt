-- What the step of each phase owes beside the fact of the phase that it leads to, and which phase may follow
-- which (Developer's Guide, "HTTP Hooks and Transactions").
use Rattle.std.specs.Prelude.{◌≡◌, ◌⊎◌, ⊤, ℕ, List, []}
use Rattle.std.specs.Arc.{arc_value}
use Rattle.ts_config.specs.declared.fields.PluginLine.{PluginLine}
use Rattle.ts_block.specs.declared.own_answer.OwnStatus.TheVariants as O
use Rattle.ts_hooks.specs.declared.hook.Hook.{Hook}
use Rattle.ts_hooks.specs.declared.hook.Hook.TheVariants as hook
use Rattle.ts_hooks.specs.declared.txn_end.TxnEnd.TheVariants as E
use Rattle.ts_link.specs.declared.link.Link as link
use Rattle.ts_upstream.specs.declared.upstream.Upstream as upstream
use Rattle.ts_wire.specs.declared.heads.ResponseHead.{ResponseHead}
use Rattle.ts_plugin.specs.Lines.{lines_left}
use Rattle.ts_phases.specs.Causes.{StandsForCause}
use Rattle.ts_phases.specs.Holding.{IfTold, StepKeeps}
use Rattle.ts_phases.specs.Steps.{LeavesSides, MindsLinksIn, WaitsRightly}
use Rattle.ts_phases.specs.View.{view_of}
use Rattle.ts_phases.specs.declared.parts.Core.{Core}
use Rattle.ts_phases.specs.declared.phase.OwnAnswer.{OwnAnswer}
use Rattle.ts_phases.specs.declared.phase.Phase.{Phase}
use Rattle.ts_phases.specs.declared.phase.Phase.TheVariants as P
use Rattle.ts_phases.specs.declared.phase.Request.{Request}
use Rattle.ts_phases.specs.declared.phase.Step.{Step}

-- the 502 answer, and then the whole end or that for the origin's fault
abbrev pub IsBadGateway : OwnAnswer → Type 0
IsBadGateway a = (a.status ≡ O.BadGateway) × ((a.end ≡ E.Whole) ⊎ (a.end ≡ E.OriginFault))

module _ (lines : List PluginLine) where
  -- behind so many of a hook's plugins none is left to ask
  abbrev pub NoneLeft : Hook → ℕ → Type 0
  NoneLeft hook place = lines_left hook place lines ≡ []

  -- A step leads to the phase behind its own, or stays; or to an answer of the proxy's own, or to the close,
  -- where those may come, and each with the ends that may come there (after an upload its answer says which);
  -- or, from each before the close, to the end for want of memory. A hook is left only where none of its
  -- plugins is left to ask. The request, the head and the answer go with it.
  abbrev pub MayFollow : Phase → Phase → Type 0
  MayFollow P.Fresh P.TxnStart = ⊤
  MayFollow P.TxnStart P.ReadRequest = ⊤
  MayFollow P.ReadRequest P.ReadRequest = ⊤
  MayFollow P.ReadRequest (P.ReadRequestHdr q) = ⊤
  MayFollow P.ReadRequest (P.SendResponseHdr a) = a.end ≡ E.Whole
  MayFollow P.ReadRequest (P.TxnClose end) = (end ≡ E.Whole) ⊎ (end ≡ E.ClientFault)
  MayFollow (P.ReadRequestHdr q) (P.OsDns r place) = (r ≡ q) × (place ≡ 0)
  MayFollow (P.OsDns q place) (P.SendRequestHdr r) = (r ≡ q) × NoneLeft hook.OsDns place
  MayFollow (P.OsDns q place) (P.SendResponseHdr a) =
      (a.status ≡ O.BadGateway) × (a.end ≡ E.Whole) × NoneLeft hook.OsDns place
  MayFollow (P.SendRequestHdr q) (P.SendRequest r) = (r ≡ q) × NoneLeft hook.SendRequestHdr 0
  MayFollow (P.RuleRequest q place fields) (P.SendRequest r) =
      (r ≡ q) × NoneLeft hook.SendRequestHdr place
  MayFollow (P.SendRequest q) (P.SendRequest r) = r ≡ q
  MayFollow (P.SendRequest q) (P.Upload r) = r ≡ q
  MayFollow (P.SendRequest q) (P.SendResponseHdr a) = (a.status ≡ O.BadGateway) × (a.end ≡ E.OriginFault)
  MayFollow (P.Upload q) (P.Upload r) = r ≡ q
  MayFollow (P.Upload q) (P.ReadResponse r) = r ≡ q
  MayFollow (P.Upload q) (P.SendResponseHdr a) = ⊤
  MayFollow (P.Upload q) (P.TxnClose end) = end ≡ E.ClientFault
  MayFollow (P.ReadResponse q) (P.ReadResponse r) = r ≡ q
  MayFollow (P.ReadResponse q) (P.ReadResponseHdr r h) = r ≡ q
  MayFollow (P.ReadResponse q) (P.SendResponseHdr a) = IsBadGateway a
  MayFollow (P.ReadResponseHdr q h) (P.ResponseTransform r k) = (r ≡ q) × (k ≡ h)
  MayFollow (P.SendResponseHdr a) (P.Sending b) = (b ≡ a) × NoneLeft hook.SendResponseHdr 0
  MayFollow (P.RuleAnswer a place fields) (P.Sending b) = (b ≡ a) × NoneLeft hook.SendResponseHdr place
  MayFollow (P.Sending a) (P.Sending b) = b ≡ a
  MayFollow (P.Sending a) (P.TxnClose end) = (end ≡ a.end) ⊎ (end ≡ E.ClientFault)
  MayFollow (P.TxnClose end) (P.Ended last) = last ≡ end
  MayFollow (P.Ended end) (P.Ended last) = last ≡ end
  MayFollow _ (P.Ended last) = last ≡ E.NoMemory
  MayFollow _ _ = ⊥

  -- the body of this response begins at the end of the hook of its head
  abbrev pub MayEnter : Phase → Request → ResponseHead → Type 0
  MayEnter (P.ResponseTransform q h) r k = (r ≡ q) × (k ≡ h) × NoneLeft hook.SendResponseHdr 0
  MayEnter (P.RuleResponse q h place fields) r k =
      (r ≡ q) × (k ≡ h) × NoneLeft hook.SendResponseHdr place
  MayEnter _ r k = ⊥

-- An event asks the first plugin where a hook begins, and else the one behind those that have answered, which
-- is asked once more where its group was missed.
abbrev pub MayAsk : Phase → Phase → Type 0
MayAsk (P.OsDns q place) (P.OsDns r same) = (r ≡ q) × (same ≡ place)
MayAsk (P.SendRequestHdr q) (P.RuleRequest r place fields) = (r ≡ q) × (place ≡ 0)
MayAsk (P.RuleRequest q place fields) (P.RuleRequest r same still) = (r ≡ q) × (same ≡ place)
MayAsk (P.ResponseTransform q h) (P.RuleResponse r k place fields) = (r ≡ q) × (k ≡ h) × (place ≡ 0)
MayAsk (P.RuleResponse q h place fields) (P.RuleResponse r k same still) =
    (r ≡ q) × (k ≡ h) × (same ≡ place)
MayAsk (P.SendResponseHdr a) (P.RuleAnswer b place fields) = (b ≡ a) × (place ≡ 0)
MayAsk (P.RuleAnswer a place fields) (P.RuleAnswer b same still) = (b ≡ a) × (same ≡ place)
MayAsk _ _ = ⊥

-- what a step of this phase owes, which made `new` of `old` and answers `step`
pub record StepOwes {C O : Type 0} (client : link.Ghosts C) (origin : link.Ghosts O)
    (both : upstream.Ghosts O C) (old new : Core C O) (phase : Phase) (step : Step) : Type 0 where
  -- it leads to a phase that may follow
  pub follows : MayFollow (arc_value old.setup).plugins.items phase step.phase
  -- the fault of a link decides where it leads, and one that was not ready lets it wait
  pub minds : MindsLinksIn client origin both old new phase step
  -- it waits for a link alone
  pub waits : WaitsRightly step.next (view_of client origin old) (view_of client origin new)
  -- what it neither sends to the origin nor reads of the client
  pub leaves : IfTold client.tells origin.tells
      (LeavesSides phase (view_of client origin old) (view_of client origin new))
  -- an end for the fault of a link comes only where that one failed, and no link forgets a fault
  pub causes : StandsForCause (view_of client origin old) phase
      → StandsForCause (view_of client origin new) step.phase
  -- the links, what they may do to each other, and all that no step changes
  pub keeps : StepKeeps client origin both old new
