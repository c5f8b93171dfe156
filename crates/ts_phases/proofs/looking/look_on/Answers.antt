-- Block by block, what was looked at is passed over, and the place goes on behind the rest.
use Rattle.std.proofs.Common.{◌∙◌, ◌+◌, ◌-◌, ap, arith, drop, fold, length, sym}
use Rattle.std.specs.Option.{option_copied}
use Rattle.ts_iobuf.specs.Buffer.{blocks_of, readable}
use Rattle.ts_phases.specs.Place.{place_next}
use Rattle.ts_phases.proofs.Looked.{all_passed, behind_blocks, block_passed, looked_first, past_blocks}
use Rattle.ts_phases.proofs.looking.look_on.Goals as goal

pub loop-k-init : goal.loop-k-init
loop-k-init g c =
    looked_first c.args.looked (blocks_of c.args.buffer.now c.args.reader)
    (readable c.args.buffer.now c.args.reader) c.args.place c.requires.place

pub returns-in_default : goal.returns-in_default
returns-in_default g c =
    let blocks = blocks_of c.args.buffer.now c.args.reader in
    all_passed blocks (readable c.args.buffer.now c.args.reader) c.block.ensures.joined c.loop-k.k
    c.loop-k.left c.loop-k.ahead.place
    (past_blocks blocks c.loop-k.k (sym c.block.ensures.block ∙ ap option_copied c.in_default.is))
    c.loop-k.invariant

pub loop-k-preserved : goal.loop-k-preserved
loop-k-preserved g c =
    let blocks = blocks_of c.args.buffer.now c.args.reader in
    let bytes = readable c.args.buffer.now c.args.reader in
    let left = c.loop-k.left - length c.split_at.result.0.now in
    ap (λ place. fold place_next place (drop left (behind_blocks (c.loop-k.k + 1) blocks bytes)))
    c.pass-ahead.ensures
    ∙ block_passed blocks bytes c.block.ensures.joined c.loop-k.k c.loop-k.left c.min.result
    c.in-Some.block.now c.split_at.result.0.now c.split_at.result.1.now c.loop-k.ahead.place
    (sym c.block.ensures.block ∙ ap option_copied c.in-Some.is) c.min.ensures c.split_at.ensures.back
    c.split_at.ensures.front_len c.loop-k.invariant

pub returns : goal.returns
returns g c =
    all_passed (blocks_of c.args.buffer.now c.args.reader) (readable c.args.buffer.now c.args.reader)
    c.most_blocks-k-end.ensures.joined c.loop-k.k c.loop-k.left c.loop-k.ahead.place
    (omega (arith, c.most_blocks-k-end.ensures.most, c.loop-k-test.false)) c.loop-k.invariant
