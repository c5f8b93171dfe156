-- A transaction that was started in the first turn of a fresh group fits the tag that says so.
use Rattle.std.proofs.Common.{◌≡◌, ◌∙◌, ℕ, ◌+◌, ◌*◌, ◌≤◌, Bool, true, false, arith, sym, ap, subst}
use Rattle.std.specs.Bool.{OnTrue}
use Rattle.ts_config.specs.declared.setup.TransformLine.{TransformLine}
use Rattle.ts_group.specs.Either.{OfBoth}
use Rattle.ts_group.specs.declared.either.Either.TheVariants.{One, Other}
use Rattle.ts_group.specs.declared.either.EitherTag.TheVariants as kind
use Rattle.ts_group.specs.declared.group.Group.{Group}
use Rattle.ts_group.specs.declared.world.TheConstants.{MOST_SET}
use Rattle.ts_group.specs.Acts.{BeginsTurn, GivesTurn}
use Rattle.ts_group.specs.Answers.{SetsAtMost}
use Rattle.ts_group.specs.Changes.{StaysInTurn}
use Rattle.ts_group.specs.Context.{IsFresh}
use Rattle.ts_group.specs.Entries.{Grows}
use Rattle.ts_group.specs.Slot.{IsAtRest}
use Rattle.ts_journal.specs.State.{State}
use Rattle.ts_link.specs.declared.link.Link as link
use Rattle.ts_plugin.specs.declared.plugin.Plugin.{Plugin}
use Rattle.ts_upstream.specs.declared.upstream.Upstream as upstream
use Rattle.ts_transform.specs.declared.transform.Transform as transform
use Rattle.ts_group.specs.declared.alone.TheConstants.{ONLY_SEAT}
use Rattle.ts_txn.specs.World.{HasTxnBegun}
use Rattle.ts_txn.specs.declared.txn.TxnTag.{TxnTag}
use Rattle.ts_txn.proofs.Fitting.{fits_begun}
use Rattle.ts_exchange.specs.Rows.{FitsIn, FitsRow, IsSoundRow, RowGroup, RowWorld}
use Rattle.ts_mishap_tests.specs.Begun.{HasStarted, first_turn}

on_true : (b : Bool) (P : Type 0) → P → OnTrue b P
on_true true P holds = holds
on_true false P holds = tt

few_set : (first begun started given turns : ℕ) → first ≡ 1 → begun ≡ first → started ≤ begun + MOST_SET
    → given ≡ started → turns ≡ first_turn → given ≤ 8192 * turns + 1
few_set first begun started given turns a b c d e = omega (arith, a, b, c, d, e)

module _ {W Q R T U : Type 0} (Fits : T → W → Type 0) (fresh begun started given : Group W Q R T U)
    (new : IsFresh 0 fresh.cx) (begins : BeginsTurn fresh.cx begun.cx first_turn ONLY_SEAT 0)
    (grows : Grows begun.cx started.cx) (turn : StaysInTurn begun.cx.log.state started.cx.log.state)
    (gives : GivesTurn started.cx given.cx) where
  -- it has had one turn
  one_turn : given.cx.log.state.turns ≡ first_turn
  one_turn = ap (λ (s : State). s.turns) gives.state ∙ turn.turns ∙ ap (λ (s : State). s.turns) begins.state

  no_turns_before : given.cx.log.base.made ≡ 0
  no_turns_before = gives.by.made ∙ ap (λ b. b.made) (grows.log.by.base ∙ begins.by.base ∙ new.base)

  -- no turn is held, and few events were set
  at_rest : (t : T) → Fits t begun.world → SetsAtMost Fits begun.world MOST_SET begun.cx started.cx
      → IsAtRest false given.cx.log.state
  at_rest t fits few = (
    ap (λ (s : State). s.held) gives.state,
    few_set fresh.cx.log.state.next begun.cx.log.state.next started.cx.log.state.next given.cx.log.state.next
        given.cx.log.state.turns
        (ap (λ (s : State). s.next) new.state) (ap (λ (s : State). s.next) begins.state) (few t fits)
        (ap (λ (s : State). s.next) gives.state) one_turn,
    tt,
  )

module _ {C O Q : Type 0} (client : link.Ghosts C) (origin : link.Ghosts O) (both : upstream.Ghosts O C)
    (stage : transform.Ghosts Q TransformLine) where
  -- what starting a world of the row makes of it
  abbrev RowBegun : RowWorld C O Q → RowWorld C O Q → Type 0
  RowBegun = OfBoth HasTxnBegun (λ (old new : Plugin). new ≡ old)

  -- a world that was started fits the tag that says so
  of_begun : (tag : TxnTag C O) (old new : RowWorld C O Q) → RowBegun old new
      → FitsRow client origin both stage (kind.One tag) old
      → FitsRow client origin both stage (kind.One (record tag { started = true })) new
  of_begun tag (One t) (One u) begins fits = fits_begun client origin tag t u begins fits
  of_begun tag (One t) (Other p) begins fits = absurd begins
  of_begun tag (Other p) new begins fits = absurd fits

  -- its group fits it too
  pub fits_started : (tag : TxnTag C O) (fresh given : RowGroup C O Q)
      → FitsIn client origin both stage (kind.One tag) fresh → IsFresh 0 fresh.cx
      → HasStarted (FitsRow client origin both stage) (IsSoundRow client origin both stage) RowBegun fresh given
      → FitsIn client origin both stage (kind.One (record tag { started = true })) given
  fits_started tag fresh given made new is =
      let Fits = FitsRow client origin both stage in
      let fits : Fits (kind.One tag) is.begun.world = subst (Fits (kind.One tag)) (sym is.same) made.0 in (
        subst (Fits (kind.One (record tag { started = true }))) (sym is.left)
            (of_begun tag is.begun.world is.started.world is.first fits),
        is.sound,
        at_rest Fits fresh is.begun is.started given new is.begins is.grows is.turn is.gives (kind.One tag) fits
            is.few,
        on_true tag.first (given.cx.log.base.made ≡ 0)
            (no_turns_before Fits fresh is.begun is.started given new is.begins is.grows is.turn is.gives),
      )
