use Rattle.std.proofs.Common.{◌∷◌, ◌++◌, sym, ap, ◌∙◌, arith}
use Rattle.std.specs.Option.{option_copied_mut, option_to_list}
use Rattle.ts_wheel.proofs.Joined.{joined-pop, joined-remove, AllFull-set_value, AllFull-removed, lookup-first, lookup-full, some_found, some_left, none_left}
use Rattle.ts_wheel.proofs.rows.pop_token.Goals as goal

pub unwrap-row-requires : goal.unwrap-row-requires
unwrap-row-requires g c =
    let first = lookup-first c.args.rows.now.entries c.args.due c.requires.full c.requires.first in
    some_found c.get_mut.result first.0 (c.get_mut.ensures.value ∙ first.1)

pub unwrap-token-requires : goal.unwrap-token-requires
unwrap-token-requires g c =
    let row = c.unwrap-row.result.now in
    let found = sym c.get_mut.ensures.value ∙ ap option_copied_mut c.unwrap-row.ensures in
    let full = lookup-full c.args.rows.now.entries c.args.due row c.requires.full found in
    c.pop_front.ensures.variant.1 (omega (arith, row.ok.0))

pub returns-then-is_empty-clause-full : goal.returns-then-is_empty-clause-full
returns-then-is_empty-clause-full g c =
    rw (c.remove-emptied.ensures.entries, (c.get_mut.follows.holds c.pop_front.new.self).0)
    (AllFull-removed c.args.rows.now.entries c.args.due c.pop_front.new.self c.requires.full)

pub returns-then-is_empty-clause-token : goal.returns-then-is_empty-clause-token
returns-then-is_empty-clause-token g c =
    let rows = c.args.rows.now.entries in
    let row = c.pop_front.new.self in
    let found = sym c.get_mut.ensures.value ∙ ap option_copied_mut c.unwrap-row.ensures in
    let items = c.pop_front.ensures.items ∙ ap (λ o. option_to_list o ++ row.items) c.unwrap-token.ensures in
    let none = none_left row.len row.items row.ok.0 (sym c.is_empty.ensures ∙ c.if-is_empty.true) in
    rw (c.remove-emptied.ensures.entries, (c.get_mut.follows.holds row).0)
    (joined-pop rows c.args.due c.unwrap-row.result.now row c.unwrap-token.result c.requires.full
    c.requires.first found items
    ∙ ap (λ es. (c.args.due, c.unwrap-token.result) ∷ es) (sym (joined-remove rows c.args.due row none)))

pub returns-else-is_empty-clause-full : goal.returns-else-is_empty-clause-full
returns-else-is_empty-clause-full g c =
    let row = c.pop_front.new.self in
    rw (c.get_mut.follows.holds c.pop_front.new.self).0
    (AllFull-set_value c.args.rows.now.entries c.args.due row c.requires.full
    (some_left row.len row.items row.ok.0 (sym c.is_empty.ensures ∙ c.if-is_empty.false)))

pub returns-else-is_empty-clause-token : goal.returns-else-is_empty-clause-token
returns-else-is_empty-clause-token g c =
    let row = c.unwrap-row.result.now in
    let found = sym c.get_mut.ensures.value ∙ ap option_copied_mut c.unwrap-row.ensures in
    let items = c.pop_front.ensures.items ∙ ap (λ o. option_to_list o ++ c.pop_front.new.self.items)
    c.unwrap-token.ensures in
    rw (c.get_mut.follows.holds c.pop_front.new.self).0
    (joined-pop c.args.rows.now.entries c.args.due row c.pop_front.new.self c.unwrap-token.result
    c.requires.full c.requires.first found items)
