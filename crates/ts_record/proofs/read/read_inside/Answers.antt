use Rattle.std.proofs.Common.{rules, ◌≡◌, sym, subst}
use Rattle.ts_record.specs.Keywords.{LacksAll, keywords_inside}
use Rattle.ts_record.specs.Refusing.{AreSides}
use Rattle.ts_record.proofs.Inside.{both_read, lacks_inside, stops_close}
use Rattle.ts_record.proofs.read.read_inside.Goals as goal
use Rattle.ts_record.proofs.read.read_inside.Goals.{After-drop-client-2}

pub left_by-requires-clause-lacks : goal.left_by-requires-clause-lacks
left_by-requires-clause-lacks c =
    let are : c.keywords_inside-keywords.result.now
    ≡ keywords_inside c.args.version c.in_ok-origin.room c.in_ok-origin.origin.items c.in-Ok.cut.0 =
    search rules in
    subst (LacksAll c.in-Ok.cut.1.now) (sym are)
    (lacks_inside c.args.version c.in_ok-client.room c.in_ok-origin.room c.in_ok-client.rest.now
    c.in_ok-origin.rest.now c.in-Ok.cut.1.now c.in_ok-origin.origin.items c.in-Ok.cut.0 c.requires.version
    c.in_ok-client.ensures.lacks
    (record {
      each = c.in_ok-origin.ensures.each;
      stalls = c.in_ok-origin.ensures.stalls;
      text = c.in_ok-origin.ensures.text;
    }) c.in_ok-origin.ensures.lacks c.in-Ok.ensures.text c.in-Ok.ensures.lacks c.in-None.ensures.none)

-- the pieces and stalls of both sides were read
sides_read : (c : After-drop-client-2)
    → AreSides c.args.room c.in_ok-client.client.items c.in_ok-origin.origin.items c.in_ok-origin.room
    c.args.bytes.now c.in_ok-origin.rest.now
sides_read c =
    both_read c.args.room c.in_ok-client.room c.in_ok-origin.room c.args.bytes.now c.in_ok-client.rest.now
    c.in_ok-origin.rest.now c.in_ok-client.client.items c.in_ok-origin.origin.items
    (record {
      each = c.in_ok-client.ensures.each;
      stalls = c.in_ok-client.ensures.stalls;
      text = c.in_ok-client.ensures.text;
    })
    (record {
      each = c.in_ok-origin.ensures.each;
      stalls = c.in_ok-origin.ensures.stalls;
      text = c.in_ok-origin.ensures.text;
    })

pub returns-clause-refused : goal.returns-clause-refused
returns-clause-refused c =
    let are : c.keywords_inside-keywords.result.now
    ≡ keywords_inside c.args.version c.in_ok-origin.room c.in_ok-origin.origin.items c.in-Ok.cut.0 =
    search rules in
    stops_close c.args.version c.args.room c.in_ok-origin.room c.left_by.result c.args.bytes.now
    c.in_ok-origin.rest.now c.in-Ok.cut.1.now c.in_ok-client.client.items c.in_ok-origin.origin.items
    c.in-Ok.cut.0 c.keywords_inside-keywords.result.now (sides_read c) c.in-Ok.ensures.may
    c.in-Ok.ensures.text are c.left_by.ensures
