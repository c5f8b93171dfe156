-- The tag of a transaction that was made is one under its setup, which has its first plugin where the row has it.
use Rattle.std.proofs.Common.{◌∙◌}
use Rattle.ts_mishap_tests.proofs.exchange.make_txn.Goals as goal

pub returns-clause-tag : goal.returns-clause-tag
returns-clause-tag g c = record {
  setup_is = c.in_ok-group.ensures.tag.setup_is;
  plugins_at = c.in_ok-group.ensures.tag.plugins_are ∙ c.requires.setting.plugins_at;
  started = c.in_ok-group.ensures.tag.started_is;
}
