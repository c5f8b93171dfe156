-- A transaction that has ended stands as its end says; and one whose group has nothing pending has ended.
use Rattle.std.proofs.Common.{◌≡◌, ◌≢◌, ◌≤◌, ℕ, List, [], Option, Some, None, arith, refl, ap, subst, ◌∙◌}
use Rattle.std.specs.Arc.{arc_value}
use Rattle.ts_config.specs.declared.setup.Setup.{Setup}
use Rattle.ts_config.specs.declared.setup.TransformLine.{TransformLine}
use Rattle.ts_hooks.specs.declared.txn_end.TxnEnd.{TxnEnd}
use Rattle.ts_hooks.specs.declared.txn_end.TxnEnd.TheVariants as E
use Rattle.ts_journal.specs.declared.entry.Pending.{Pending}
use Rattle.ts_journal.specs.declared.entry.TheConstants.{GREATEST}
use Rattle.ts_group.specs.declared.action.Named.{Named}
use Rattle.ts_link.specs.declared.link.Link as link
use Rattle.ts_upstream.specs.declared.upstream.Upstream as upstream
use Rattle.ts_transform.specs.declared.transform.Transform as transform
use Rattle.ts_txn.specs.Course.{CourseHolds, StandsForCauseOn}
use Rattle.ts_phases.specs.Causes.{HasCause, StandsForCause}
use Rattle.ts_phases.specs.Ends.{EndFact}
use Rattle.ts_txn.specs.Making.{end_of_course, end_of_phase}
use Rattle.ts_txn.specs.Resting.{HasEndedSo, NeverFailed, RestsWithBlock, SendsBlock}
use Rattle.ts_txn.specs.Resting as rest
use Rattle.ts_phases.specs.View.{OriginRefuses, View, view_of}
use Rattle.ts_txn.specs.World.{IsSoundTxn}
use Rattle.ts_txn.specs.declared.course.Course.{Course}
use Rattle.ts_txn.specs.declared.course.Course.TheVariants as K
use Rattle.ts_phases.specs.declared.phase.Phase.{Phase}
use Rattle.ts_phases.specs.declared.phase.Phase.TheVariants as P
use Rattle.ts_txn.specs.declared.txn.Txn.{Txn}
use Rattle.ts_txn.proofs.Handling.{at_rest}

-- one that has ended is in its last phase
ended_phase : (p : Phase) (end : TxnEnd) → end_of_phase p ≡ Some end → p ≡ P.Ended end
ended_phase (P.Ended last) end is = let both : Some last ≡ Some end = is in let one : last ≡ end = cc in ap
    P.Ended one
ended_phase _ end is = absurd (cc)

ended_course : {Q : Type 0} (course : Course Q) (end : TxnEnd) → end_of_course course ≡ Some end
    → course ≡ K.Phased (P.Ended end)
ended_course {Q} (K.Phased p) end is = ap {B = Course Q} (λ x. K.Phased x) (ended_phase p end is)
ended_course (K.Relaying r) end is = absurd (cc)
ended_course (K.Finishing last) end is = absurd (cc)

-- where no link failed and memory did not lack, the client took what the block says
sends_block : (setup : Setup) (refuses : Type 0) (v : View) (end : TxnEnd) → NeverFailed v → end ≢ E.NoMemory
    → EndFact setup refuses v end → SendsBlock setup refuses v end
sends_block setup refuses v E.Whole never has fact = rest.SendsBlock.whole fact.by
sends_block setup refuses v E.OriginCut never has fact = rest.SendsBlock.cut fact.by
sends_block setup refuses v E.OriginBad never has fact = rest.SendsBlock.bad fact.by
sends_block setup refuses v E.OriginFault never has fact = absurd (never.origin fact.by.failed)
sends_block setup refuses v E.ClientFault never has fact = absurd (never.client fact.by)
sends_block setup refuses v E.NoMemory never has fact = absurd (has refl)

module _ {C O Q : Type 0} (client : link.Ghosts C) (origin : link.Ghosts O) (both : upstream.Ghosts O C)
    (stage : transform.Ghosts Q TransformLine) (t : Txn C O Q) where
  pub ended_so : (pending : List Pending) (next : ℕ) (roles : List Named) (end : TxnEnd)
      → end_of_course t.course ≡ Some end → IsSoundTxn client origin both stage t pending next
      roles
      → HasEndedSo client origin both t end
  ended_so pending next roles end is sound = subst (CourseHolds client origin both stage t.core)
      (ended_course t.course end is) sound.stands.holds

  -- whether its links tell or not, an end for the fault of one has that cause
  pub ended_for_cause : (pending : List Pending) (next : ℕ) (roles : List Named) (end : TxnEnd)
      → end_of_course t.course ≡ Some end → IsSoundTxn client origin both stage t pending next
      roles
      → HasCause (view_of client origin t.core) end
  ended_for_cause pending next roles end is sound =
      let stood : StandsForCause (view_of client origin t.core) (P.Ended end) =
      subst (λ x. StandsForCauseOn (view_of client origin t.core) x) (ended_course t.course end is)
      sound.stands.causes in
      stood.ends

  pub rests_with_block : (next : ℕ) (roles : List Named)
      → IsSoundTxn client origin both stage t [] next roles
      → RestsWithBlock client origin both t next
  rests_with_block next roles sound started few never memory told also = by_end (end_of_course t.course) refl
    where
      v : View
      v = view_of client origin t.core

      by_end : (o : Option TxnEnd) → end_of_course t.course ≡ o
          → (end : TxnEnd) × (end_of_course t.course ≡ Some end)
          × SendsBlock (arc_value t.core.setup) (OriginRefuses client both t.core) v end
      by_end None none = absurd (let spent : GREATEST ≤ next = at_rest client origin both stage t next roles
          started none sound in omega (arith, spent, few))
      by_end (Some end) is = (
        end,
        is,
        sends_block (arc_value t.core.setup)
            (OriginRefuses client both t.core) v end never
            (λ (lacks : end ≡ E.NoMemory). memory (is ∙ ap Some lacks))
            (ended_so [] next roles end is sound told also),
      )
