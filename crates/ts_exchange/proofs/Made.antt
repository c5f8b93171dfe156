-- A transaction that was just made between two ends fits the tag that says so, alone and in a group of its own;
-- and so does the plugin of a line.
use Rattle.std.proofs.Common.{◌≡◌, ◌∙◌, ℕ, List, [], Bool, true, false, arith, refl, sym, ap, subst}
use Rattle.std.specs.Arc.{arc_value}
use Rattle.std.specs.Bool.{OnTrue}
use Rattle.ts_config.specs.declared.setup.TransformLine.{TransformLine}
use Rattle.ts_group.specs.Answers.{Holds}
use Rattle.ts_group.specs.Context.{IsFresh}
use Rattle.ts_group.specs.declared.action.Named.{Named}
use Rattle.ts_group.specs.declared.either.Either.TheVariants.{One, Other}
use Rattle.ts_group.specs.declared.either.EitherTag.TheVariants as kind
use Rattle.ts_journal.specs.State.{State}
use Rattle.ts_link.specs.Link.{IsSure}
use Rattle.ts_link.specs.declared.link.Link as link
use Rattle.ts_plugin.specs.World.{OnlyAnswers}
use Rattle.ts_plugin.specs.declared.plugin.Plugin.{Plugin}
use Rattle.ts_plugin.specs.declared.plugin.PluginTag.{PluginTag}
use Rattle.ts_upstream.specs.declared.upstream.Upstream as upstream
use Rattle.ts_transform.specs.declared.transform.Transform as transform
use Rattle.ts_txn.specs.Making.{IsMadeOf, IsMadeOfIf}
use Rattle.ts_txn.specs.World.{IsSoundTxn, IsTxnOf}
use Rattle.ts_txn.specs.declared.txn.Txn.{Txn}
use Rattle.ts_txn.specs.declared.txn.TxnTag.{TxnTag}
use Rattle.ts_txn.proofs.Fitting.{fits_made}
use Rattle.ts_exchange.specs.Ends.{AreSureEnds, Ends, IsTagBetween}
use Rattle.ts_exchange.specs.Rows.{FitsIn, FitsRow, IsSoundRow, RowGroup}
use Rattle.ts_exchange.specs.declared.exchange.Promise.{Promise}

-- one that was just made between these ends fits their tag
pub fits_between : {C O Q : Type 0} (client : link.Ghosts C) (origin : link.Ghosts O) (ends : Ends C O)
    (promise : Promise) (tag : TxnTag C O) (t : Txn C O Q) → IsTagBetween ends promise false tag
    → t.core.number ≡ ends.number → arc_value t.core.setup ≡ ends.setup
    → t.core.plugins_at ≡ ends.plugins_at → IsMadeOf client.look ends.client t.core.client
    → IsMadeOfIf origin.look ends.origin t.core.origin
    → ((l : C) → client.still l l) → ((l : O) → origin.still l l)
    → (promise.is_sure ≡ true → AreSureEnds client.look origin.look ends.client ends.origin)
    → IsTxnOf client origin tag t
fits_between client origin ends promise tag t is number setup plugins of_client of_origin same same_origin
    sure =
    fits_made client origin tag t (number ∙ sym is.number_is) (setup ∙ sym is.setup_is)
    (plugins ∙ sym is.plugins_are)
    (subst (λ l. IsMadeOf client.look l t.core.client) (sym is.client_is) of_client)
    (subst (λ l. IsMadeOfIf origin.look l t.core.origin) (sym is.origin_is) of_origin) same same_origin
    (λ told. let both = sure (sym is.sure_is ∙ told) in (
      subst (λ l. IsSure (client.look l)) (sym is.client_is) both.sure,
      λ l there. both.sure_origin l (sym is.origin_is ∙ there),
    ))
    is.started_is

on_true : (b : Bool) (P : Type 0) → P → OnTrue b P
on_true true P holds = holds
on_true false P holds = tt

module _ {C O Q : Type 0} (client : link.Ghosts C) (origin : link.Ghosts O) (both : upstream.Ghosts O C)
    (stage : transform.Ghosts Q TransformLine) where
  -- it is sound in a group that was made of it
  sound_made : (t : Txn C O Q) (g : RowGroup C O Q)
      → ((next : ℕ) (roles : List Named) → IsSoundTxn client origin both stage t [] next roles)
      → g.world ≡ One t → IsFresh 0 g.cx → Holds (IsSoundRow client origin both stage) g
  sound_made t g sound world fresh =
      subst (λ w. IsSoundRow client origin both stage w g.cx.log.state g.cx.roles) (sym world)
      (subst (λ (s : State). IsSoundTxn client origin both stage t s.pending s.next g.cx.roles)
      (sym fresh.state) (sound _ g.cx.roles))

  -- and its group fits the tag that it fits
  pub fits_group : (tag : TxnTag C O) (t : Txn C O Q) (g : RowGroup C O Q)
      → IsTxnOf client origin tag t
      → ((next : ℕ) (roles : List Named) → IsSoundTxn client origin both stage t [] next roles)
      → g.world ≡ One t → IsFresh 0 g.cx → FitsIn client origin both stage (kind.One tag) g
  fits_group tag t g fits sound world fresh = (
    subst (FitsRow client origin both stage (kind.One tag)) (sym world) fits,
    sound_made t g sound world fresh,
    (
      ap (λ (s : State). s.held) fresh.state,
      (let one : g.cx.log.state.next ≡ 1 = ap (λ (s : State). s.next) fresh.state in omega (arith, one)),
      tt,
    ),
    on_true tag.first (g.cx.log.base.made ≡ 0) (ap (λ b. b.made) fresh.base),
  )

  -- the group of a plugin that was just made of a line fits the tag of that line
  pub fits_plugin : (tag : PluginTag) (p : Plugin) (g : RowGroup C O Q) → p.line ≡ tag.line.value
      → g.world ≡ Other p → IsFresh 0 g.cx → FitsIn client origin both stage (kind.Other tag) g
  fits_plugin tag p g line world fresh = (
    subst (FitsRow client origin both stage (kind.Other tag)) (sym world) line,
    subst (λ w. IsSoundRow client origin both stage w g.cx.log.state g.cx.roles) (sym world)
        (subst OnlyAnswers (sym fresh.state) (record { only = refl; plain = tt })),
    (
      ap (λ (s : State). s.held) fresh.state,
      (let one : g.cx.log.state.next ≡ 1 = ap (λ (s : State). s.next) fresh.state in omega (arith, one)),
      ap (λ (s : State). s.pending) fresh.state,
    ),
    ap (λ b. b.made) fresh.base,
  )
