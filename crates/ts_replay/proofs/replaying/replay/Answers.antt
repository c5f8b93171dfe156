-- The replay of recorded transactions is what their groups come to.
use Rattle.std.proofs.Common.{ap, ◌∙◌}
use Rattle.std.specs.Arc.{arc_value}
use Rattle.ts_config.specs.Setup.{lines_of}
use Rattle.ts_replay.proofs.replaying.replay.Goals as goal

pub run_row-requires-clause-row : goal.run_row-requires-clause-row
run_row-requires-clause-row g c κs within = (
  arc_value c.in_ok-setup.setup,
  c.args.txns.items,
  c.requires.txns,
  c.len-starts.ensures ∙ c.args.txns.ok.0,
  c.in_ok-row.ensures,
)

pub outcomes_of-requires : goal.outcomes_of-requires
outcomes_of-requires g c = record {
  ran = (
    arc_value c.in_ok-setup.setup,
    c.args.txns.items,
    c.in_ok-groups.ensures
        (arc_value c.in_ok-setup.setup) c.args.txns.items (c.len-starts.ensures ∙ c.args.txns.ok.0) c.in_ok-row.ensures,
  );
}

pub returns : goal.returns
returns g c = record {
  setup = arc_value c.in_ok-setup.setup;
  lines_are = ap lines_of c.in_ok-setup.ensures.ok;
  groups = c.in_ok-groups.groups.items;
  comes = c.in_ok-replayed.ensures (arc_value c.in_ok-setup.setup) c.args.txns.items
      (c.in_ok-groups.ensures (arc_value c.in_ok-setup.setup) c.args.txns.items
      (c.len-starts.ensures ∙ c.args.txns.ok.0) c.in_ok-row.ensures);
}
