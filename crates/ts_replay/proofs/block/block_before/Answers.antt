-- The front of what the client took, up to the end of the head, is what is shown of the head.
use Rattle.std.proofs.Common.{◌∙◌}
use Rattle.ts_replay.proofs.Leaving.{front_within, left_same}
use Rattle.ts_replay.proofs.block.block_before.Goals as goal

pub at_origin-requires : goal.at_origin-requires
at_origin-requires c = (c.requires.heads.1, c.requires.heads.3.taken)

pub returns : goal.returns
returns c = λ most at head h.
    let left = c.args.left.now in
    left_same c.in_ok-request.field-0 at c.in_ok-head.head c.of_vec.result most head
    (c.in_ok-request.ensures at h.taken)
    (c.in_ok-head.ensures ∙ c.split_at.ensures.front
    ∙ front_within left.parts.client.taken c.written-written.result.now left.parts.head c.min-shown.result
    c.written-written.ensures c.min-shown.ensures ∙ h.got)
    (c.of_vec.ensures ∙ c.new.ensures.items)
