-- What holds of the one of the two kinds that lives in a place of sessions holds of what is seen of it.
use Rattle.std.proofs.Common.{◌≡◌, ◌++◌, ℕ, List, subst, sym}
use Rattle.std.specs.Prelude.{⊤}
use Rattle.ts_config.specs.declared.setup.TransformLine.{TransformLine}
use Rattle.ts_group.specs.Answers.{IsAnswered, KeepsPromises, SetsAtMost, SetsNone}
use Rattle.ts_group.specs.Context.{Context}
use Rattle.ts_group.specs.Either.{EitherAsking, EitherCalled, EitherFits, EitherMayAsk, EitherRight}
use Rattle.ts_group.specs.declared.world.Asked.{Asked}
use Rattle.ts_link.specs.declared.link.Link as link
use Rattle.ts_plugin.specs.declared.question.HookQuestion.{HookQuestion}
use Rattle.ts_plugin.specs.declared.question.HookReply.{HookReply}
use Rattle.ts_transform.specs.declared.transform.Transform as transform
use Rattle.ts_txn.specs.Asking.{IsRightFor, MayAskGroup}
use Rattle.ts_waiting.specs.Waiting.{IsSoundWait, IsWaitOf, TakesPoll}
use Rattle.ts_serve.specs.InSession.{AwaitsExchange, ExchangeTakes}
use Rattle.ts_serve.specs.SessionTerms.{ExchangeFits, InSession}

module _ {C O P : Type 0} (client : link.Ghosts C) (origin : link.Ghosts O) (inside seen : InSession C O P)
    (same : inside ≡ seen) where
  pub promises_in : (new : InSession C O P)
      → KeepsPromises {Q = HookQuestion} {R = HookReply} (EitherFits (ExchangeFits client origin) (IsWaitOf client))
      (EitherRight (λ t. IsRightFor t.value) (λ w group question reply. ⊤))
      (EitherMayAsk (λ t. MayAskGroup t.value) (λ w group. ⊥)) inside new
      → KeepsPromises {Q = HookQuestion} {R = HookReply} (EitherFits (ExchangeFits client origin) (IsWaitOf client))
      (EitherRight (λ t. IsRightFor t.value) (λ w group question reply. ⊤))
      (EitherMayAsk (λ t. MayAskGroup t.value) (λ w group. ⊥)) seen new
  promises_in new keeps =
      subst (λ h. KeepsPromises {Q = HookQuestion} {R = HookReply}
      (EitherFits (ExchangeFits client origin) (IsWaitOf client))
      (EitherRight (λ t. IsRightFor t.value) (λ w group question reply. ⊤))
      (EitherMayAsk (λ t. MayAskGroup t.value) (λ w group. ⊥)) h new) same keeps

  pub few_in : (most : ℕ) (old new : Context)
      → SetsAtMost (EitherFits (ExchangeFits client origin) (IsWaitOf client)) inside most old new
      → SetsAtMost (EitherFits (ExchangeFits client origin) (IsWaitOf client)) seen most old new
  few_in most old new few =
      subst (λ h. SetsAtMost (EitherFits (ExchangeFits client origin) (IsWaitOf client)) h most old new) same few

  pub none_in : (old new : Context)
      → SetsNone (EitherFits (ExchangeFits client origin) (IsWaitOf client)) inside old new
      → SetsNone (EitherFits (ExchangeFits client origin) (IsWaitOf client)) seen old new
  none_in old new none =
      subst (λ h. SetsNone (EitherFits (ExchangeFits client origin) (IsWaitOf client)) h old new) same none

  module _ (stage : transform.Ghosts P TransformLine) where
    pub called_in : (before calls : List ℕ) (new : InSession C O P)
        → ((asked : List ℕ) → calls ≡ before ++ asked
        → EitherCalled (λ old new asked. ExchangeTakes client origin stage old new)
        (λ old new asked. TakesPoll client old.state old new) inside new asked)
        → (asked : List ℕ) → calls ≡ before ++ asked
        → EitherCalled (λ old new asked. ExchangeTakes client origin stage old new)
        (λ old new asked. TakesPoll client old.state old new) seen new asked
    called_in before calls new called =
        subst (λ h. (asked : List ℕ) → calls ≡ before ++ asked
        → EitherCalled (λ old new asked. ExchangeTakes client origin stage old new)
        (λ old new asked. TakesPoll client old.state old new) h new asked) same called

    pub asking_in : (now : Context) (role : ℕ) (asked : Asked HookQuestion HookReply)
        → IsAnswered (EitherAsking (AwaitsExchange client origin stage)
        (λ w s roles role group question. IsSoundWait client w s) seen now.log.state now.roles role)
        (EitherRight (λ t. IsRightFor t.value) (λ w group question reply. ⊤) seen) asked
        → IsAnswered (EitherAsking (AwaitsExchange client origin stage)
        (λ w s roles role group question. IsSoundWait client w s) inside now.log.state now.roles role)
        (EitherRight (λ t. IsRightFor t.value) (λ w group question reply. ⊤) inside) asked
    asking_in now role asked answered =
        subst (λ h. IsAnswered (EitherAsking (AwaitsExchange client origin stage)
        (λ w s roles role group question. IsSoundWait client w s) h now.log.state now.roles role)
        (EitherRight (λ t. IsRightFor t.value) (λ w group question reply. ⊤) h) asked) (sym same) answered
