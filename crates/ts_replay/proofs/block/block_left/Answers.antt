-- What is told of a transaction that left this is the block that its two sides came to, or, where its client
-- leaves, the heads; and what stands at its origin.
use Rattle.std.proofs.Common.{◌∙◌, ◌≡◌, ℕ, Global, None, Some, Vec, ap, false, subst, sym, true}
use Rattle.std.specs.Option.{option_map}
use Rattle.std.specs.Prelude.{is_some}
use Rattle.ts_config.specs.declared.setup.Setup.{Setup}
use Rattle.ts_replay.specs.Exchanged.{IsLeftBetween, MayEnd}
use Rattle.ts_replay.specs.Reports.{BothSides, in_report, left_report}
use Rattle.ts_replay.proofs.Leaving.{HasLeft, left_at, shows_left, shows_left_end, stays_none}
use Rattle.ts_replay.proofs.Standing.{StandsEnded, has_ended, has_kept, has_origin, stands_ended}
use Rattle.ts_replay.proofs.Telling.{HasBlockAt, block_at, ends_if, if_any, may_report, shows_end, shows_if}
use Rattle.ts_replay.proofs.block.block_left.Goals as goal
use Rattle.ts_replay.proofs.block.block_left.Goals.{In_default-end-2}

module _ (c : In_default-end-2) (setup : Setup) (sides : BothSides)
    (left : IsLeftBetween setup sides c.args.left.now) where
  -- what was kept
  keeps : option_map (λ (v : Vec ℕ Global). v.items) c.args.left.now.taken ≡ Some c.as_slice-kept.result.now
  keeps =
      ap (option_map (λ (v : Vec ℕ Global). v.items)) c.in-Some-taken.is
      ∙ ap Some (sym c.as_slice-kept.ensures.value)

  -- it stands as it ended
  stands : StandsEnded setup sides c.args.left.now c.as_slice-kept.result.now
  stands = stands_ended setup sides c.args.left.now c.in-Some.origin c.as_slice-kept.result.now left
      c.in-Some.is keeps c.known.ensures.whole c.known-2.ensures.goes c.known-2.ensures.whole
      (left.exchanges.settled.0 c.if-not-left.false)

  -- the block of whatever two sides it is left between
  block_between : is_some c.args.left.now.parts.client.may_take ≡ false
      → HasBlockAt setup sides c.args.left.now c.as_slice-kept.result.now c.in-Some-end.end
  block_between told =
      block_at setup sides c.args.left.now c.as_slice-kept.result.now stands c.known.ensures.goes
      (stays_none setup sides c.args.left.now c.as_slice-kept.result.now stands told) c.in-Some-end.end
      c.in-Some-end.is c.in_default-end-2.not-NoMemory

  -- and the heads
  left_before : is_some c.args.left.now.parts.client.may_take ≡ true
      → HasLeft setup sides c.args.left.now c.as_slice-kept.result.now
  left_before told =
      left_at setup sides c.args.left.now c.as_slice-kept.result.now stands c.known.ensures.goes told
      left.ends_are.takes_some c.in-Some-end.end c.in-Some-end.is c.in_default-end-2.not-NoMemory

pub unreachable-requires : goal.unreachable-requires
unreachable-requires c =
    let left = c.requires.left in has_origin left.0 left.1 c.args.left.now left.2 c.in_default.is

pub unreachable-requires-in_default-taken : goal.unreachable-requires-in_default-taken
unreachable-requires-in_default-taken c =
    let left = c.requires.left in has_kept left.0 left.1 c.args.left.now left.2 c.in_default-taken.is

pub unreachable-requires-in_default-end : goal.unreachable-requires-in_default-end
unreachable-requires-in_default-end c =
    let left = c.requires.left in has_ended left.0 left.1 c.args.left.now left.2 c.in_default-end.is

pub block_before-requires : goal.block_before-requires
block_before-requires c =
    let at = (goal.at.block_before-requires c).In_default-end-2 in
    let left = c.requires.left in
    let found = left_before at left.0 left.1 left.2 (sym c.leaves.ensures ∙ c.if-leaves.true) in
    record { heads = (found.most, found.heads.at, found.heads.head, found.heads.leaves) }

pub block_of-requires : goal.block_of-requires
block_of-requires c =
    let at = (goal.at.block_of-requires c).In_default-end-2 in
    let left = c.requires.left in
    let found = block_between at left.0 left.1 left.2 (sym c.leaves.ensures ∙ c.if-leaves.false) in
    record { block = (left.0.tap, found.at, found.block, found.leaves) }

pub returns-then-leaves : goal.returns-then-leaves
returns-then-leaves c =
    let at = (goal.at.returns-then-leaves c).In_default-end-2 in
    let left = c.requires.left in
    let kept = c.as_slice-kept.result.now in
    let told = sym c.leaves.ensures ∙ c.if-leaves.true in
    let found = left_before at left.0 left.1 left.2 told in
    record {
      shown = λ setup sides between.
          let other = left_before at setup sides between told in
          shows_left setup sides c.args.left.now kept other c.block_before.result
          (c.block_before.ensures other.most other.heads.at other.heads.head other.heads.leaves);
      ended = λ setup sides between.
          let other = left_before at setup sides between told in
          shows_left_end setup sides c.args.left.now kept other c.block_before.result
          (c.block_before.ensures other.most other.heads.at other.heads.head other.heads.leaves);
      reported = ends_if (left_report found.most found.heads.at found.heads.head) c.block_before.result tt
          (c.block_before.ensures found.most found.heads.at found.heads.head found.heads.leaves);
      settled = if_any c.block_before.result at.if-not-left.false;
    }

pub returns-else-leaves : goal.returns-else-leaves
returns-else-leaves c =
    let at = (goal.at.returns-else-leaves c).In_default-end-2 in
    let left = c.requires.left in
    let kept = c.as_slice-kept.result.now in
    let told = sym c.leaves.ensures ∙ c.if-leaves.false in
    let found = block_between at left.0 left.1 left.2 told in
    record {
      shown = λ setup sides between.
          let other = block_between at setup sides between told in
          shows_if setup sides c.args.left.now kept c.in-Some-end.end
          (stays_none setup sides c.args.left.now kept (stands at setup sides between) told) other
          c.block_of.result (c.block_of.ensures setup.tap other.at other.block other.leaves);
      ended = λ setup sides between.
          let other = block_between at setup sides between told in
          shows_end setup sides c.args.left.now kept c.in-Some-end.end
          (stays_none setup sides c.args.left.now kept (stands at setup sides between) told) other
          c.block_of.result c.in-Some-end.is
          (c.block_of.ensures setup.tap other.at other.block other.leaves);
      reported = ends_if (in_report left.0.tap found.at found.block) c.block_of.result
          (may_report found.block.end (subst (MayEnd None) (sym found.leaves.end_is) found.may))
          (c.block_of.ensures left.0.tap found.at found.block found.leaves);
      settled = if_any c.block_of.result at.if-not-left.false;
    }
