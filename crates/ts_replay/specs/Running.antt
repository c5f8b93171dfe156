-- What it takes to run a row of transactions and hook plugins by event threads, and what they come to,
-- whatever the links are between which the transactions run.
use Rattle.std.specs.Prelude.{◌≡◌, ℕ, List, Option, Some, length, ⊤}
use Rattle.ts_config.specs.declared.setup.TransformLine.{TransformLine}
use Rattle.ts_exchange.specs.Rows.{FitsRow, IsSoundRow, RowGroup, RowTag, RowWorld, is_asked_only, is_first}
use Rattle.ts_group.specs.Either.{EitherAnswers, EitherMayAsk, EitherRight, OfBoth, either_left}
use Rattle.ts_journal.specs.State.{State}
use Rattle.ts_link.specs.declared.link.Link as link
use Rattle.ts_plugin.specs.Replies.{IsReplyOf}
use Rattle.ts_plugin.specs.declared.plugin.Plugin.{Plugin}
use Rattle.ts_plugin.specs.declared.question.HookQuestion.{HookQuestion}
use Rattle.ts_plugin.specs.declared.question.HookReply.{HookReply}
use Rattle.ts_thread.specs.Whole.{CanBeRun, EachTells, HaveEnded}
use Rattle.ts_thread.specs.declared.run.Plan.{Plan}
use Rattle.ts_transform.specs.declared.transform.Transform as transform
use Rattle.ts_txn.specs.Asking.{IsRightFor, MayAskGroup}
use Rattle.ts_txn.specs.LoweringCourse.{transaction_left}
use Rattle.ts_txn.specs.World.{HasTxnBegun, LetsContinue}
use Rattle.ts_txn.specs.declared.txn.Txn.{Txn}
use Rattle.ts_upstream.specs.declared.upstream.Upstream as upstream

module _ {C O Q : Type 0} where
  -- whom a world of the row may ask, which replies are right for it, and which it gives
  abbrev pub MayAsk : RowWorld C O Q → ℕ → Type 0
  MayAsk = EitherMayAsk (λ (t : Txn C O Q) (k : ℕ). MayAskGroup t k) (λ (p : Plugin) (k : ℕ). ⊥)

  abbrev pub IsRight : RowWorld C O Q → ℕ → HookQuestion → HookReply → Type 0
  IsRight = EitherRight (λ (t : Txn C O Q) (k : ℕ) (q : HookQuestion) (r : HookReply). IsRightFor t k q r)
      (λ (p : Plugin) (k : ℕ) (q : HookQuestion) (r : HookReply). ⊤)

  abbrev pub IsAnswer : RowWorld C O Q → HookQuestion → HookReply → Type 0
  IsAnswer = EitherAnswers (λ (t : Txn C O Q) (q : HookQuestion) (r : HookReply). LetsContinue q r)
      (λ (p : Plugin) (q : HookQuestion) (r : HookReply). IsReplyOf p.line q r)

  -- a transaction was started, and a plugin stays as it is
  abbrev pub HasBegun : RowWorld C O Q → RowWorld C O Q → Type 0
  HasBegun = OfBoth (λ (t u : Txn C O Q). HasTxnBegun t u) (λ (old new : Plugin). new ≡ old)

module _ {C O Q : Type 0} (client : link.Ghosts C) (origin : link.Ghosts O) (both : upstream.Ghosts O C)
    (stage : transform.Ghosts Q TransformLine) where
  -- what a world of the row has left to do
  abbrev pub row_left : RowWorld C O Q → State → Option ℕ
  row_left = either_left (λ (t : Txn C O Q) (s : State).
      transaction_left client origin both stage t.core t.course s.pending)
      (λ (p : Plugin) (s : State). Some (length s.pending))

  -- groups with these tags can be run by this plan
  abbrev pub CanRun : List (RowTag C O) → List (RowGroup C O Q) → Plan → Type 0
  CanRun tags groups plan =
      CanBeRun (FitsRow client origin both stage) (IsSoundRow client origin both stage) is_asked_only is_first
      MayAsk IsRight IsAnswer tags groups plan.starts plan.threads plan.budget

  -- each group that fits one of these tags tells what is left to do
  abbrev pub RowTells : List (RowTag C O) → Type 0
  RowTells tags =
      EachTells HookQuestion HookReply (Unit {0}) (FitsRow client origin both stage)
      (IsSoundRow client origin both stage) is_asked_only is_first row_left tags

  -- groups with these tags were run by this plan, from these on, and then driven to their end
  abbrev pub HasEnded : List (RowTag C O) → List (RowGroup C O Q) → Plan → List (RowGroup C O Q) → Type 0
  HasEnded tags given plan groups =
      HaveEnded (FitsRow client origin both stage) (IsSoundRow client origin both stage) is_asked_only is_first
      HasBegun tags given plan.starts plan.threads plan.budget groups
