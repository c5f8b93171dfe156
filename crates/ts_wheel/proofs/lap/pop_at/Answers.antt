use Rattle.std.proofs.Common.{◌++◌, ap, ◌∙◌}
use Rattle.std.specs.Option.{option_to_list}
use Rattle.ts_wheel.proofs.Spread.{spread-pop}
use Rattle.ts_wheel.proofs.lap.pop_at.Goals as goal

pub returns-clause-token : goal.returns-clause-token
returns-clause-token g c =
    let row = c.pop_front.new.self in
    let items = c.pop_front.ensures.items ∙ ap (λ o. option_to_list o ++ row.items) c.unwrap.ensures in
    λ start. spread-pop start c.args.rows.now.items c.args.place c.index_mut.result.now row c.unwrap.result
    c.requires.place.0 c.requires.place.1 c.index_mut.ensures.value items
