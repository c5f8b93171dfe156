-- Where an event leads a transaction while a body is passed on, said of what its origin's link refuses then.
use Rattle.std.proofs.Common.{ℕ, List, inl, inr, sym, subst}
use Rattle.std.specs.Arc.{arc_value}
use Rattle.ts_config.specs.declared.setup.Setup.{Setup}
use Rattle.ts_hooks.specs.declared.txn_end.TxnEnd.{TxnEnd}
use Rattle.ts_hooks.specs.declared.txn_end.TxnEnd.TheVariants as E
use Rattle.ts_link.specs.declared.link.Link as link
use Rattle.ts_upstream.specs.declared.upstream.Upstream as upstream
use Rattle.ts_transform.specs.Flow.{ChainState}
use Rattle.ts_transform.specs.declared.transform.Transform as transform
use Rattle.ts_wire.specs.Place.{Place}
use Rattle.ts_relay.specs.Entering.{EntersBody}
use Rattle.ts_phases.specs.View.{OriginRefuses, View, refuses_if, view_of}
use Rattle.ts_txn.specs.Course.{CourseFact, course_after, finish_after}
use Rattle.ts_txn.specs.CourseCover.{LedAfter, LedBehind, StaysOnOrLacks}
use Rattle.ts_phases.specs.Ends.{AnyEnd, EndFact}
use Rattle.ts_relay.specs.Finishing.{IsFinishing, LeadsBody}
use Rattle.ts_phases.specs.Holding.{StepKeeps}
use Rattle.ts_relay.specs.Relaying.{RelaysBody}
use Rattle.ts_txn.specs.declared.course.Course.{Course}
use Rattle.ts_txn.specs.declared.course.Course.TheVariants as K
use Rattle.ts_relay.specs.declared.last_writes.BodyStep.{BodyStep}
use Rattle.ts_relay.specs.declared.last_writes.BodyStep.TheVariants as S
use Rattle.ts_phases.specs.declared.parts.Core.{Core}
use Rattle.ts_phases.specs.declared.phase.Next.{Next}
use Rattle.ts_phases.specs.declared.phase.Next.TheVariants as N
use Rattle.ts_relay.specs.declared.relay.Relay.{Relay}
use Rattle.ts_phases.proofs.Always.{always}
use Rattle.ts_phases.proofs.Asks.{lacks_memory}
use Rattle.ts_relay.proofs.Finished.{finishing_any}
use Rattle.ts_relay.proofs.Relaying.{relays_lacks}
use Rattle.ts_relay.proofs.Settled.{entering, finishing, phase_fact, relaying}

module _ (setup : Setup) (refuses : Type 0) {Q L : Type 0} (stage : transform.Ghosts Q L) (v : View) where
  -- a step of a body
  pub led_on : (r : Relay Q) (step : BodyStep)
      → LeadsBody setup refuses (RelaysBody setup refuses stage v r.driven.chain r.body r.short) v step
      → CourseFact setup refuses stage v (course_after r step)
  led_on r S.Goes h = h
  led_on r _ h = h

  -- and of its last writes
  pub led_last : (end : TxnEnd) (step : BodyStep)
      → LeadsBody setup refuses (IsFinishing setup refuses v end) v step
      → CourseFact setup refuses stage v (finish_after end step)
  led_last end S.Goes h = h
  led_last end _ h = h

-- wherever it is, it may end for want of memory
course_lacks : (setup : Setup) (refuses : Type 0) {Q L : Type 0} (stage : transform.Ghosts Q L) (v : View)
    (course : Course Q) → CourseFact setup refuses stage v course → EndFact setup refuses v E.NoMemory
course_lacks setup refuses stage v (K.Phased p) h = lacks_memory setup refuses v (always setup refuses v p h)
course_lacks setup refuses stage v (K.Relaying r) h = relays_lacks setup refuses stage r.short v
    r.driven.chain r.body h
course_lacks setup refuses stage v (K.Finishing end) h = lacks_memory setup refuses v
    (finishing_any setup refuses v end h)

-- what holds whatever the end, wherever it is
pub course_any : (setup : Setup) (refuses : Type 0) {Q L : Type 0} (stage : transform.Ghosts Q L) (v : View)
    (course : Course Q) → CourseFact setup refuses stage v course → AnyEnd setup refuses v
course_any setup refuses stage v course h = (course_lacks setup refuses stage v course h).any

-- and so it may where its next event is set
pub stays_on : (setup : Setup) (refuses : Type 0) {Q L : Type 0} (stage : transform.Ghosts Q L) (v : View)
    (old new : Course Q) → CourseFact setup refuses stage v old → StaysOnOrLacks old new
    → CourseFact setup refuses stage v new
stays_on setup refuses stage v old new h (inl same) = subst (λ x. CourseFact setup refuses stage v x)
    (sym same) h
stays_on setup refuses stage v old new h (inr lacks) = subst (λ x. CourseFact setup refuses stage v x)
    (sym lacks) (course_lacks setup refuses stage v old h)

-- so it may where an event may have been set
pub behind_led : {Q : Type 0} (next : Next) (led new : Course Q) → LedBehind next led new
    → StaysOnOrLacks led new
behind_led N.Done led new h = inl h
behind_led _ led new h = h

pub after_led : {Q : Type 0} (step : BodyStep) (led new : Course Q) → LedAfter step led new
    → StaysOnOrLacks led new
after_led S.Goes led new h = inl h
after_led S.Waits led new h = inl h
after_led _ led new h = h

course_moved : (setup : Setup) (R T : Type 0) → (R → T) → (T → R)
    → {Q L : Type 0} (stage : transform.Ghosts Q L) (v : View) (course : Course Q)
    → CourseFact setup R stage v course → CourseFact setup T stage v course
course_moved setup R T to from stage v (K.Phased p) h = phase_fact setup R T to from v p h
course_moved setup R T to from stage v (K.Relaying r) h = relaying setup R T from stage v r.driven.chain
    r.body r.short h
course_moved setup R T to from stage v (K.Finishing end) h = finishing setup R T to from v end h

pub course_settled : {C O Q L : Type 0} (client : link.Ghosts C) (origin : link.Ghosts O)
    (both : upstream.Ghosts O C) (stage : transform.Ghosts Q L) (old new : Core C O)
    (course : Course Q) → StepKeeps client origin both old new
    → CourseFact (arc_value old.setup) (OriginRefuses client both old) stage (view_of client origin new)
    course
    → CourseFact (arc_value new.setup) (OriginRefuses client both new) stage (view_of client origin new)
    course
course_settled client origin both stage old new course keeps h =
    let v = view_of client origin new in
    let to : OriginRefuses client both old → OriginRefuses client both new = λ r.
    subst (λ (c : List ℕ). refuses_if both.refuses new.origin c) (sym keeps.client.source)
    (keeps.refusal.still _ r) in
    let from : OriginRefuses client both new → OriginRefuses client both old = λ r.
    keeps.refusal.before _ (subst (λ (c : List ℕ). refuses_if both.refuses new.origin c) keeps.client.source
    r) in
    subst (λ s. CourseFact (arc_value s) (OriginRefuses client both new) stage v course) (sym keeps.setup)
    (course_moved (arc_value old.setup) (OriginRefuses client both old) (OriginRefuses client both new)
    to from stage v course h)

-- a body whose head is queued
pub enters_settled : {C O Q L : Type 0} (client : link.Ghosts C) (origin : link.Ghosts O)
    (both : upstream.Ghosts O C) (stage : transform.Ghosts Q L) (old new : Core C O)
    (c : ChainState Q) (place : Place) → StepKeeps client origin both old new
    → EntersBody (arc_value old.setup) (OriginRefuses client both old) stage (view_of client origin new) c
    place
    → EntersBody (arc_value new.setup) (OriginRefuses client both new) stage (view_of client origin new) c
    place
enters_settled client origin both stage old new c place keeps h =
    let v = view_of client origin new in
    let from : OriginRefuses client both new → OriginRefuses client both old = λ r.
    keeps.refusal.before _ (subst (λ (c : List ℕ). refuses_if both.refuses new.origin c) keeps.client.source
    r) in
    subst (λ s. EntersBody (arc_value s) (OriginRefuses client both new) stage v c place) (sym keeps.setup)
    (entering (arc_value old.setup) (OriginRefuses client both old) (OriginRefuses client both new) from
    stage v c place h)
