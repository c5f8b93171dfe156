-- What holds of a transaction by how far it is, where its links tell: in a phase up to the client's head or
-- at its close, while a body is passed on, and while the last of it is written.
use Rattle.std.specs.Arc.{arc_value}
use Rattle.ts_config.specs.declared.setup.Setup.{Setup}
use Rattle.ts_hooks.specs.declared.txn_end.TxnEnd.{TxnEnd}
use Rattle.ts_hooks.specs.declared.txn_end.TxnEnd.TheVariants as E
use Rattle.ts_config.specs.declared.setup.TransformLine.{TransformLine}
use Rattle.ts_link.specs.declared.link.Link as link
use Rattle.ts_upstream.specs.declared.upstream.Upstream as upstream
use Rattle.ts_transform.specs.declared.transform.Transform as transform
use Rattle.ts_phases.specs.View.{OriginRefuses, View, view_of}
use Rattle.ts_relay.specs.Finishing.{IsFinishing}
use Rattle.ts_relay.specs.Relaying.{RelaysBody}
use Rattle.ts_phases.specs.Causes.{HasCause, HasCounts, StandsForCause}
use Rattle.ts_phases.specs.Holding.{IfTold, PhaseFact}
use Rattle.ts_relay.specs.declared.last_writes.BodyStep.{BodyStep}
use Rattle.ts_relay.specs.declared.last_writes.BodyStep.TheVariants as S
use Rattle.ts_txn.specs.declared.course.Course.{Course}
use Rattle.ts_txn.specs.declared.course.Course.TheVariants as K
use Rattle.ts_txn.specs.declared.course_leads.Lead.{Lead}
use Rattle.ts_txn.specs.declared.course_leads.Lead.TheVariants as L
use Rattle.ts_phases.specs.declared.parts.Core.{Core}
use Rattle.ts_phases.specs.declared.phase.Phase.TheVariants as P
use Rattle.ts_relay.specs.declared.relay.Relay.{Relay}

-- how far a transaction is that was led so
abbrev pub course_led : {Q : Type 0} → Lead → Course Q
course_led L.TxnStart = K.Phased P.TxnStart
course_led (L.Finishing end) = K.Finishing end
course_led (L.TxnClose end) = K.Phased (P.TxnClose end)

-- where a transaction is after a step of a body
abbrev pub course_after : {Q : Type 0} → Relay Q → BodyStep → Course Q
course_after r S.Goes = K.Relaying r
course_after r S.Waits = K.Relaying r
course_after r (S.Finishes end) = K.Finishing end
course_after r (S.Closes end) = K.Phased (P.TxnClose end)
course_after r S.Lacks = K.Phased (P.Ended E.NoMemory)

-- and after a step of its last writes
abbrev pub finish_after : {Q : Type 0} → TxnEnd → BodyStep → Course Q
finish_after end S.Goes = K.Finishing end
finish_after end S.Waits = K.Finishing end
finish_after end (S.Finishes other) = K.Finishing other
finish_after end (S.Closes other) = K.Phased (P.TxnClose other)
finish_after end S.Lacks = K.Phased (P.Ended E.NoMemory)

module _ (setup : Setup) (refuses : Type 0) {Q L : Type 0} (stage : transform.Ghosts Q L) where
  abbrev pub CourseFact : View → Course Q → Type 0
  CourseFact v (K.Phased p) = PhaseFact setup refuses v p
  CourseFact v (K.Relaying r) = RelaysBody setup refuses stage v r.driven.chain r.body r.short
  CourseFact v (K.Finishing end) = IsFinishing setup refuses v end

-- Whether its links tell or not, neither has forgotten a fault, and an end for the fault of one comes only
-- where that one failed.
abbrev pub StandsForCauseOn : {Q : Type 0} → View → Course Q → Type 0
StandsForCauseOn v (K.Phased p) = StandsForCause v p
StandsForCauseOn v (K.Relaying r) = HasCounts v
StandsForCauseOn v (K.Finishing end) = HasCounts v × HasCause v end

module _ {C O Q : Type 0} (client : link.Ghosts C) (origin : link.Ghosts O) (both : upstream.Ghosts O C)
    (stage : transform.Ghosts Q TransformLine) where
  -- what holds of a transaction on its course
  abbrev pub CourseHolds : Core C O → Course Q → Type 0
  CourseHolds t course = IfTold client.tells origin.tells (CourseFact (arc_value t.setup)
      (OriginRefuses client both t) stage (view_of client origin t) course)
