use Rattle.std.proofs.Common.{◌≡◌, length, sym, ap, ◌∙◌, arith, rules, length-append}
use Rattle.ts_wheel.specs.Rows.{row_tokens}
use Rattle.ts_wheel.proofs.Joined.{joined-insert, joined-push, joined-same, AllFull-insert, AllFull-set_value, lookup-full}
use Rattle.ts_wheel.proofs.rows.add_row.Goals as goal

pub returns-in_err-push_back-in-Some-clause-full : goal.returns-in_err-push_back-in-Some-clause-full
returns-in_err-push_back-in-Some-clause-full g c =
    let rows = c.args.rows.now.entries in
    let row = c.push_back.new.self in
    let full = lookup-full rows c.args.due c.in-Some.row.now c.requires (sym c.in-Some.ensures.value) in
    let same = ap length c.in_err-push_back-in-Some.ensures.items in
    rw (c.get_mut.follows.holds row).0 (AllFull-set_value rows c.args.due row c.requires (omega arith))

pub returns-in_err-push_back-in-Some-clause-err : goal.returns-in_err-push_back-in-Some-clause-err
returns-in_err-push_back-in-Some-clause-err g c =
    let rows = c.args.rows.now.entries in
    let row = c.push_back.new.self in
    let same : row_tokens (c.get_mut.follows.lender row).entries ≡ row_tokens rows =
    ap row_tokens (c.get_mut.follows.holds row).0 ∙ joined-same rows c.args.due c.in-Some.row.now row
    (sym c.in-Some.ensures.value) c.in_err-push_back-in-Some.ensures.items in
    search rules

pub returns-in_ok-push_back-in-Some-clause-full : goal.returns-in_ok-push_back-in-Some-clause-full
returns-in_ok-push_back-in-Some-clause-full g c =
    let rows = c.args.rows.now.entries in
    let row = c.push_back.new.self in
    let longer = ap length c.in_ok-push_back-in-Some.ensures.items in
    rw (c.get_mut.follows.holds row).0 (AllFull-set_value rows c.args.due row c.requires
    (omega (arith, longer, length-append c.in-Some.row.now.items)))

pub returns-in_ok-push_back-in-Some-clause-ok : goal.returns-in_ok-push_back-in-Some-clause-ok
returns-in_ok-push_back-in-Some-clause-ok g c =
    let rows = c.args.rows.now.entries in
    let row = c.push_back.new.self in
    rw (c.get_mut.follows.holds row).0
    (joined-push rows c.args.due c.in-Some.row.now row c.args.token c.get_mut.ensures.ordered
    (sym c.in-Some.ensures.value) c.in_ok-push_back-in-Some.ensures.items)

pub returns-in_ok-insert-in-None-clause-full : goal.returns-in_ok-insert-in-None-clause-full
returns-in_ok-insert-in-None-clause-full g c =
    let row = c.in_ok-row-in-None.row in
    rw (c.in_ok-insert-in-None.ensures.entries, c.get_mut.follows.holds-at-none)
    (AllFull-insert c.args.rows.now.entries c.args.due row c.requires
    (let one = ap length c.in_ok-row-in-None.ensures in omega arith))

pub returns-in_ok-insert-in-None-clause-ok : goal.returns-in_ok-insert-in-None-clause-ok
returns-in_ok-insert-in-None-clause-ok g c =
    rw (c.in_ok-insert-in-None.ensures.entries, c.get_mut.follows.holds-at-none)
    (joined-insert c.args.rows.now.entries c.args.due c.in_ok-row-in-None.row c.args.token c.requires
    (sym c.in-None.ensures.value) c.in_ok-row-in-None.ensures)
