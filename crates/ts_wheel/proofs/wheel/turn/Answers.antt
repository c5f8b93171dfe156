use Rattle.std.proofs.Common.{sym, arith}
use Rattle.ts_wheel.proofs.Parted.{move_begins, move_goes_on, row_within, row_last, none_moved}
use Rattle.ts_wheel.proofs.wheel.turn.Goals as goal

pub rows-init : goal.rows-init
rows-init g c =
    let start = c.min-start.ensures in
    move_begins c.min-start.result c.restart.new.self c.args.later.now c.restart.ensures.start
    c.restart.ensures.empty (λ k d lt. let least = c.in-Some.ensures.least k d lt in omega arith)

pub put_row-requires-clause-due : goal.put_row-requires-clause-due
put_row-requires-clause-due g c =
    let took = c.in-Some-take_row.ensures in
    row_within c.min-start.result c.in-Some-take_row.due c.in-Some-take_row.row.items c.rows.lap c.rows.later
    c.take_row.new.self c.args.later.now c.rows.invariant took.rest took.full took.due

pub put_row-requires-clause-last : goal.put_row-requires-clause-last
put_row-requires-clause-last g c =
    let took = c.in-Some-take_row.ensures in
    row_last c.min-start.result c.in-Some-take_row.due c.in-Some-take_row.row.items c.rows.lap c.rows.later
    c.take_row.new.self c.args.later.now c.rows.invariant took.rest took.full

pub rows-preserved : goal.rows-preserved
rows-preserved g c =
    let took = c.in-Some-take_row.ensures in
    move_goes_on c.min-start.result c.in-Some-take_row.due c.in-Some-take_row.row.items c.rows.lap
    c.put_row.new.self c.rows.later c.take_row.new.self c.args.later.now c.rows.invariant took.rest
    took.full took.due took.later
    c.put_row.ensures.start
    c.put_row.ensures.put

pub returns-clause-due : goal.returns-clause-due
returns-clause-due g c =
    let start = c.min-start.ensures in
    let fits = c.ranges.now.fits in
    λ none. absurd
    (none_moved c.min-start.result c.in-Some.due c.rows.lap c.rows.later c.args.later.now c.rows.invariant
    (sym c.in-Some.ensures.first) (omega arith) c.in_default-take_row.ensures.none.1 none)
