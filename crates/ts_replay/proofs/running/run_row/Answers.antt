-- A row of groups can be run by threads, and each of its members is done then.
use Rattle.std.proofs.Common.{◌≤◌, length, arith}
use Rattle.std.proofs.lemmas.List.{nil_from_length}
use Rattle.ts_record.specs.declared.recording.TheConstants.{MOST_TXNS}
use Rattle.ts_replay.specs.declared.running.TheConstants.{BUDGET}
use Rattle.ts_replay.specs.Members.{members}
use Rattle.ts_replay.proofs.Askers.{members_few, row_asks, row_starts, row_tells}
use Rattle.ts_replay.proofs.Ended.{none_done, row_done}
use Rattle.ts_replay.proofs.Plans.{none_of, numbers_left, some_of, turns_few}
use Rattle.ts_replay.proofs.running.run_row.Goals as goal

pub returns-then-is_empty : goal.returns-then-is_empty
returns-then-is_empty g c = λ setup txns all row.
    none_done setup (length txns) (members setup.plugins.items txns) c.args.row.tags.items
    c.args.row.groups.items row.groups_are
    (nil_from_length c.args.row.groups.items
    (none_of c.is_empty.result _ (length c.args.row.groups.items) c.is_empty.ensures c.if-is_empty.true
    c.args.row.groups.ok.0))

pub run_links-requires-clause-run : goal.run_links-requires-clause-run
run_links-requires-clause-run g c κs within =
    let row = c.requires.row.4 in
    let txns = c.requires.row.1 in
    let few : c.args.starts ≤ MOST_TXNS = (let all = c.requires.row.3 in let most = c.requires.row.2
    in omega (arith, all, most)) in
    let turns = turns_few c.args.starts c.args.threads few c.requires.threads.1 in record {
      some = some_of c.is_empty.result _ (length c.args.row.groups.items) c.is_empty.ensures
          c.if-is_empty.false c.args.row.groups.ok.0;
      few = members_few c.requires.row.0 txns c.args.row.tags.items c.args.row.groups.items row.lines
          row.groups_are c.requires.row.2;
      fits = row.groups_are.fit;
      new = row.groups_are.new;
      plan = record {
        tagged = row_starts c.requires.row.0 txns c.args.row.tags.items c.args.starts row.groups_are.tags_are
            c.requires.row.3;
        some = c.requires.threads.0;
        most = c.requires.threads.1;
        turns = omega (arith, turns);
      };
      asks = row_asks c.requires.row.0 txns c.args.row.tags.items row.groups_are.tags_are;
    }

pub run_links-requires-clause-tells : goal.run_links-requires-clause-tells
run_links-requires-clause-tells g c κs within = row_tells c.args.row.tags.items

pub returns : goal.returns
returns g c = λ setup txns all row.
    let few : c.args.starts ≤ MOST_TXNS = (let of_row = c.requires.row.3 in
    let most = c.requires.row.2 in omega (arith, of_row, most)) in
    row_done setup txns c.args.row.tags.items c.args.row.groups.items c.in_ok-groups.groups.items c.args.starts
    c.args.threads BUDGET row.lines row.groups_are all
    (numbers_left _ (turns_few c.args.starts c.args.threads few c.requires.threads.1))
    c.in_ok-groups.ensures
