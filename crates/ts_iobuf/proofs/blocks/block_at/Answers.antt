-- The blocks after the one in which the first bytes end stand at their places in the whole list.
use Rattle.std.proofs.Common.{◌+◌, ◌<◌, ◌≤◌, ◌++◌, length, refl, sym, ap, ◌∙◌, arith, slice_get, length-append}
use Rattle.std.specs.VecDeque.{deque_len}
use Rattle.std.proofs.lemmas.Option.{slice_get_past}
use Rattle.ts_iobuf.specs.Buffer.{one_block}
use Rattle.ts_iobuf.proofs.Cutting.{found-next, length-one}
use Rattle.ts_iobuf.proofs.blocks.block_at.Goals as goal

pub returns-in-Some-checked_add : goal.returns-in-Some-checked_add
returns-in-Some-checked_add c =
    let items = c.args.blocks.now.items in
    let spot = c.find-spot.result in
    let more = one_block c.args.front.now in
    let within : spot.index < deque_len c.args.blocks.now = c.in-Some.ensures.variant.0 refl in
    c.nth.ensures
    ∙ ap (slice_get (items ++ more)) c.in-Some-checked_add.ensures.1
    ∙ sym (found-next items more spot.index spot.offset c.args.k (omega (arith, c.args.blocks.now.ok.0))
    (c.find-spot.ensures.ahead within) (omega arith))
    ∙ ap (λ l. slice_get l c.args.k) (sym (c.find-spot.ensures.rest more))

pub returns-in-None : goal.returns-in-None
returns-in-None c =
    let items = c.args.blocks.now.items in
    let spot = c.find-spot.result in
    let more = one_block c.args.front.now in
    let within : spot.index < deque_len c.args.blocks.now = c.in-Some.ensures.variant.0 refl in
    let past : length (items ++ more) ≤ spot.index + c.args.k =
    omega (
      arith,
      length-append items more,
      length-one c.args.front.now,
      c.args.blocks.now.ok.0,
      c.args.blocks.now.small,
      c.in-None.ensures,
    ) in
    sym (slice_get_past (items ++ more) (spot.index + c.args.k) past)
    ∙ sym (found-next items more spot.index spot.offset c.args.k (omega (arith, c.args.blocks.now.ok.0))
    (c.find-spot.ensures.ahead within) (omega arith))
    ∙ ap (λ l. slice_get l c.args.k) (sym (c.find-spot.ensures.rest more))
