-- An end for the fault of a link comes only where that link failed while the transaction held it, whether the
-- links tell their bytes or not (RFC 9110, section 15.6.3; RFC 9112, section 8).
use Rattle.std.specs.Prelude.{⊤}
use Rattle.ts_hooks.specs.declared.txn_end.TxnEnd.{TxnEnd}
use Rattle.ts_hooks.specs.declared.txn_end.TxnEnd.TheVariants as E
use Rattle.ts_phases.specs.View.{HasCount, HasFailed, View}
use Rattle.ts_phases.specs.declared.phase.Phase.{Phase}
use Rattle.ts_phases.specs.declared.phase.Phase.TheVariants as P

-- an end for the fault of a link has that cause
abbrev pub HasCause : View → TxnEnd → Type 0
HasCause v E.OriginFault = HasFailed v.origin
HasCause v E.ClientFault = HasFailed v.client
HasCause v _ = ⊤

-- so has the end of a phase in which it is known
abbrev pub EndsForCause : View → Phase → Type 0
EndsForCause v (P.SendResponseHdr a) = HasCause v a.end
EndsForCause v (P.RuleAnswer a place fields) = HasCause v a.end
EndsForCause v (P.Sending a) = HasCause v a.end
EndsForCause v (P.TxnClose end) = HasCause v end
EndsForCause v (P.Ended end) = HasCause v end
EndsForCause v _ = ⊤

-- neither link has forgotten a fault
pub record HasCounts (v : View) : Type 0 where
  pub client : HasCount v.client
  pub origin : HasCount v.origin

-- so a transaction stands in each phase
pub record StandsForCause (v : View) (p : Phase) : Type 0 where
  pub counts : HasCounts v
  pub ends : EndsForCause v p
