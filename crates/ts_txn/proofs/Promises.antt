-- What a transaction goes on to promise, since each call leaves its setup and the group of its first plugin
-- line: the tags that it fits, the replies that are right, and the groups that it may ask.
use Rattle.std.proofs.Common.{◌≡◌, false, sym, ap, subst}
use Rattle.std.specs.Arc.{arc_value}
use Rattle.ts_group.specs.Answers.{KeepsPromises}
use Rattle.ts_group.specs.declared.world.Asked.{Asked}
use Rattle.ts_link.specs.declared.link.Link as link
use Rattle.ts_upstream.specs.declared.upstream.Upstream as upstream
use Rattle.ts_plugin.specs.declared.question.HookQuestion.{HookQuestion}
use Rattle.ts_plugin.specs.declared.question.HookReply.{HookReply}
use Rattle.ts_phases.specs.Asking.{IsPluginGroup, IsRightReply}
use Rattle.ts_phases.specs.Holding.{StepKeeps}
use Rattle.ts_txn.specs.Asking.{HearsTxn, IsRightFor, MayAskGroup}
use Rattle.ts_txn.specs.CourseCover.{is_fresh_on}
use Rattle.ts_txn.specs.Driven.{TakesEvent}
use Rattle.ts_txn.specs.World.{HasTxnBegun, IsTxnOf}
use Rattle.ts_phases.specs.declared.parts.Core.{Core}
use Rattle.ts_txn.specs.declared.txn.Txn.{Txn}
use Rattle.ts_phases.proofs.Owed.{all_kept}
use Rattle.ts_txn.proofs.Events.{event_started}
use Rattle.ts_txn.proofs.Fitting.{fits_on}
use Rattle.ts_txn.proofs.Handling.{setup_stays}

module _ {C O Q : Type 0} (client : link.Ghosts C) (origin : link.Ghosts O) (both : upstream.Ghosts O C)
    (t u : Txn C O Q) where
  promises_on : StepKeeps client origin both t.core u.core
      → (is_fresh_on t.course ≡ false → is_fresh_on u.course ≡ false)
      → KeepsPromises (IsTxnOf client origin) IsRightFor MayAskGroup t u
  promises_on keeps started =
      let same : arc_value u.core.setup ≡ arc_value t.core.setup = ap (λ s. arc_value s) keeps.setup in
      record {
        tags = λ tag fits. fits_on client origin both tag t u keeps started fits;
        replies = λ group question reply. (
          setup_stays (λ s n. IsRightReply s n group question reply) (arc_value t.core.setup)
              (arc_value u.core.setup) t.core.plugins_at u.core.plugins_at same keeps.plugins_at,
          setup_stays (λ s n. IsRightReply s n group question reply) (arc_value u.core.setup)
              (arc_value t.core.setup) u.core.plugins_at t.core.plugins_at (sym same) (sym keeps.plugins_at),
        );
        groups = λ group. (
          setup_stays (λ s n. IsPluginGroup s n group) (arc_value t.core.setup) (arc_value u.core.setup)
              t.core.plugins_at u.core.plugins_at same keeps.plugins_at,
          setup_stays (λ s n. IsPluginGroup s n group) (arc_value u.core.setup) (arc_value t.core.setup)
              u.core.plugins_at t.core.plugins_at (sym same) (sym keeps.plugins_at),
        );
      }

  -- the core stays the same
  pub promises_core : u.core ≡ t.core → (is_fresh_on t.course ≡ false → is_fresh_on u.course ≡ false)
      → KeepsPromises (IsTxnOf client origin) IsRightFor MayAskGroup t u
  promises_core same started =
      promises_on (subst (λ (k : Core C O). StepKeeps client origin both t.core k) (sym same)
      (all_kept client origin both t.core)) started

  pub promises_start : HasTxnBegun t u
      → KeepsPromises (IsTxnOf client origin) IsRightFor MayAskGroup t u
  promises_start begun = promises_core begun.core (λ was. begun.started)

  pub promises_event : TakesEvent client origin both t.core u.core t.course u.course
      → KeepsPromises (IsTxnOf client origin) IsRightFor MayAskGroup t u
  promises_event takes =
      promises_on takes.keeps (event_started client origin both t.core u.core t.course u.course takes)

  pub promises_told : (asked : Asked HookQuestion HookReply) → HearsTxn t u asked
      → KeepsPromises (IsTxnOf client origin) IsRightFor MayAskGroup t u
  promises_told asked hears = promises_core hears.core (λ was. hears.started)
