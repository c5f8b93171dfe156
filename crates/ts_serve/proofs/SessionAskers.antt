-- The groups of a server of sessions can ask each other: a transaction asks the plugins beside the places,
-- and a client that waits asks nobody.
use Rattle.std.proofs.Common.{◌≡◌, ◌∙◌, ℕ, List, true}
use Rattle.std.specs.Prelude.{⊤}
use Rattle.ts_config.specs.declared.setup.Setup.{Setup}
use Rattle.ts_config.specs.declared.setup.TransformLine.{TransformLine}
use Rattle.ts_exchange.specs.Plugins.{ArePluginsOf}
use Rattle.ts_exchange.specs.declared.plugins.Tagged.{Tagged}
use Rattle.ts_group.specs.Either.{EitherAnswers, EitherFits, EitherMayAsk, EitherRight}
use Rattle.ts_group.specs.declared.either.Either.TheVariants.{One, Other}
use Rattle.ts_group.specs.declared.either.EitherTag.TheVariants as kind
use Rattle.ts_layers.specs.Sessions.{span_link, spanned_link}
use Rattle.ts_link.specs.declared.link.Link as link
use Rattle.ts_phases.specs.Asking.{IsPluginGroup, IsRightReply}
use Rattle.ts_plugin.specs.Replies.{IsReplyOf}
use Rattle.ts_plugin.specs.World.{IsPluginOf}
use Rattle.ts_plugin.specs.declared.plugin.Plugin.{Plugin}
use Rattle.ts_plugin.specs.declared.plugin.PluginTag.{PluginTag}
use Rattle.ts_plugin.specs.declared.question.HookQuestion.{HookQuestion}
use Rattle.ts_plugin.specs.declared.question.HookReply.{HookReply}
use Rattle.ts_transform.specs.declared.transform.Transform as transform
use Rattle.ts_txn.specs.Asking.{IsRightFor, MayAskGroup}
use Rattle.ts_txn.specs.World.{LetsContinue}
use Rattle.ts_waiting.specs.Waiting as waits
use Rattle.ts_waiting.specs.Waiting.{IsWaitOf}
use Rattle.ts_serve.proofs.Askers.{handlers_ask, layered_asks, layered_hears}
use Rattle.ts_serve.specs.Servers.{CanAskInServer, server_tags}
use Rattle.ts_serve.specs.SessionTerms.{ExchangeFits, InSession, InSessionTag, KeepsSession}
use Rattle.ts_serve.specs.declared.acceptor.TheConstants.{PLACES}
use Rattle.ts_serve.specs.declared.sessions.SessionTerms.{SessionTerms}

module _ (C O P : Type 0) (client : link.Ghosts C) (origin : link.Ghosts O)
    (stage : transform.Ghosts P TransformLine) (setup : Setup) (terms : SessionTerms O)
    (others : List (Tagged Plugin PluginTag)) (setup_is : terms.setup.value ≡ setup)
    (at_places : terms.plugins_at ≡ PLACES) (are : ArePluginsOf setup.plugins.items others) where
  -- what who lives in a place of sessions fits
  abbrev FitsSession : InSessionTag C O P → InSession C O P → Type 0
  FitsSession = EitherFits (ExchangeFits client origin) (IsWaitOf client)

  -- whom it may ask, which replies are right for it, and which it gives
  abbrev SessionAsks : InSession C O P → ℕ → Type 0
  SessionAsks = EitherMayAsk (λ t. MayAskGroup t.value) (λ w group. ⊥)

  abbrev IsRightInSession : InSession C O P → ℕ → HookQuestion → HookReply → Type 0
  IsRightInSession = EitherRight (λ t. IsRightFor t.value) (λ w group question reply. ⊤)

  abbrev SessionReplies : InSession C O P → HookQuestion → HookReply → Type 0
  SessionReplies = EitherAnswers (λ t question reply. LetsContinue question reply)
      (λ w question reply. waits.LetsContinue question reply)

  session_asks_by : (h : InSession C O P) (tag : InSessionTag C O P)
      → KeepsSession client origin stage terms tag
      → FitsSession tag h → (k : ℕ) → SessionAsks h k → IsPluginGroup setup PLACES k
  session_asks_by (One t) (kind.One tag) keeps fits = layered_asks (span_link client) (spanned_link origin)
      setup keeps.ends keeps.promise tag.value t.value keeps.tag_is fits.value
      (keeps.ends_are.setup_is ∙ setup_is) (keeps.ends_are.plugins_are ∙ at_places)
  session_asks_by (One t) (kind.Other tag) keeps fits = absurd fits
  session_asks_by (Other w) tag keeps fits = λ k may. absurd may

  session_hears_by : (h : InSession C O P) (tag : InSessionTag C O P)
      → KeepsSession client origin stage terms tag
      → FitsSession tag h → (k : ℕ) (q : HookQuestion) (r : HookReply) → IsRightReply setup PLACES k q r
      → IsRightInSession h k q r
  session_hears_by (One t) (kind.One tag) keeps fits = layered_hears (span_link client) (spanned_link origin)
      setup keeps.ends keeps.promise tag.value t.value keeps.tag_is fits.value
      (keeps.ends_are.setup_is ∙ setup_is) (keeps.ends_are.plugins_are ∙ at_places)
  session_hears_by (One t) (kind.Other tag) keeps fits = absurd fits
  session_hears_by (Other w) tag keeps fits = λ k q r right. tt

  -- the groups of a server of sessions can ask each other
  pub sessions_ask : CanAskInServer FitsSession (KeepsSession client origin stage) SessionAsks
      IsRightInSession SessionReplies IsPluginOf (λ tag. true) (λ p group. ⊥) (λ p group question reply. ⊤)
      (λ p question reply. IsReplyOf p.line question reply) (server_tags terms others)
  sessions_ask = handlers_ask FitsSession (KeepsSession client origin stage) SessionAsks IsRightInSession
      SessionReplies setup terms others are (λ h fits. session_asks_by h fits.0 fits.1 fits.2)
      (λ h fits. session_hears_by h fits.0 fits.1 fits.2)
