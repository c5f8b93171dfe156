use Rattle.std.proofs.Common.{rules, refl, ◌-◌}
use Rattle.ts_record.specs.Refusing.{IsItemOf}
use Rattle.ts_record.proofs.Growing.{more_read}
use Rattle.ts_record.proofs.items.read_items.Goals as goal

pub items-preserved : goal.items-preserved
items-preserved c =
    let item : IsItemOf c.args.side c.items.room c.items.rest.now c.in-Some.item c.in-Some.behind.now =
    search rules in
    more_read c.args.side c.args.room c.items.room c.reads_at-room.result
    (c.items.room - c.reads_at-room.result) c.args.bytes.now c.items.rest.now c.in-Some.behind.now
    c.in-Some.item c.items.items.items c.push.new.self.items c.items.invariant item
    c.reads_at-room.ensures refl
    (search rules)
