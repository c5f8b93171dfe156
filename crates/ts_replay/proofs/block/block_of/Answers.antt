-- The block that is cut out of what is left is the one that is shown, what is read at the origin is there, and
-- what is shown of a tap is of its body.
use Rattle.std.proofs.Common.{◌≡◌, sym, ap, subst, ◌∙◌, drop, take}
use Rattle.ts_replay.specs.Exchanged.{LeavesBlock}
use Rattle.ts_replay.proofs.Telling.{block_same, content_is, framed_behind, head_front, tap_is}
use Rattle.ts_replay.proofs.block.block_of.Goals as goal

pub at_origin-requires : goal.at_origin-requires
at_origin-requires c = (c.requires.block.1, c.requires.block.3.taken)

pub content_of-requires : goal.content_of-requires
content_of-requires c = record {
  framed = λ whole.
      let left = c.args.left.now in
      let most = c.requires.block.0 in
      let at = c.requires.block.1 in
      let b = c.requires.block.2 in
      let h = subst (λ e. LeavesBlock left c.args.kept.now e most at b) whole c.requires.block.3 in (
        h.got.pieces,
        framed_behind left c.args.kept.now most at b c.split_at.result.1.now
            (c.split_at.ensures.back ∙ ap (drop left.parts.head) c.written.ensures) h,
      );
}

pub returns : goal.returns
returns c = λ most at b h.
    let left = c.args.left.now in
    let kept = c.args.kept.now in
    let content = c.in_ok-content.content in
    let told = c.in_ok-content.ensures in
    let behind = c.split_at.ensures.back ∙ ap (drop left.parts.head) c.written.ensures in
    let same : content ≡ b.body =
    content_is left kept c.args.end most at b c.split_at.result.1.now content behind h told.whole told.short in
    block_same c.in_ok-request.field-0 c.args.end c.in_ok-head.head content c.tap_shown-tap.result most at b
    (c.in_ok-request.ensures at h.taken)
    (sym h.end_is)
    (c.in_ok-head.ensures ∙ c.split_at.ensures.front ∙ ap (take left.parts.head) c.written.ensures
    ∙ head_front left kept c.args.end most at b h)
    same
    (tap_is left kept c.args.end most at b content c.tap_shown-tap.result h same told.few
    (c.tap_shown-tap.ensures most b.body))
