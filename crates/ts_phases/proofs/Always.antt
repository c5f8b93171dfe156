-- What holds in every phase: so a transaction may end for want of memory, or for its client's fault, at any
-- time.
use Rattle.ts_config.specs.declared.setup.Setup.{Setup}
use Rattle.ts_phases.specs.View.{View}
use Rattle.ts_phases.specs.Ends.{AnyEnd}
use Rattle.ts_phases.specs.Holding.{PhaseFact}
use Rattle.ts_phases.specs.declared.phase.Phase.{Phase}
use Rattle.ts_phases.specs.declared.phase.Phase.TheVariants as P
use Rattle.ts_phases.proofs.Asks.{asking_any}
use Rattle.ts_phases.proofs.Going.{allowed_any, checked_any, sends_any, unanswered_any}
use Rattle.ts_phases.proofs.Responding.{awaits_any, relays_any}
use Rattle.ts_phases.proofs.Owns.{own_any, ready_any}

module _ (setup : Setup) (refuses : Type 0) (v : View) where
  pub always : (p : Phase) → PhaseFact setup refuses v p → AnyEnd setup refuses v
  always P.Fresh h = asking_any setup refuses v h
  always P.TxnStart h = asking_any setup refuses v h
  always P.ReadRequest h = asking_any setup refuses v h
  always (P.ReadRequestHdr q) h = checked_any setup refuses v q h
  always (P.OsDns q place) h = checked_any setup refuses v q h.checked
  always (P.SendRequestHdr q) h = allowed_any setup refuses v q h
  always (P.RuleRequest q place fields) h = allowed_any setup refuses v q h.0
  always (P.SendRequest q) h = sends_any setup refuses v q h
  always (P.Upload q) h = unanswered_any setup refuses v q h.unanswered h.carries
  always (P.ReadResponse q) h = awaits_any setup refuses v q h
  always (P.ReadResponseHdr q r) h = relays_any setup refuses v q r h
  always (P.ResponseTransform q r) h = relays_any setup refuses v q r h
  always (P.RuleResponse q r place fields) h = relays_any setup refuses v q r h.0
  always (P.SendResponseHdr a) h = ready_any setup refuses v a h
  always (P.RuleAnswer a place fields) h = ready_any setup refuses v a h.0
  always (P.Sending a) h = own_any setup refuses v a h
  always (P.TxnClose end) h = h.any
  always (P.Ended end) h = h.any
