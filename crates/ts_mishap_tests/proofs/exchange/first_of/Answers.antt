-- The first of the groups is taken from the front.
use Rattle.std.proofs.Common.{◌∙◌, sym}
use Rattle.ts_mishap_tests.proofs.exchange.first_of.Goals as goal

pub returns : goal.returns
returns g c = record {
  group = c.in-Some.group;
  behind = c.pop_front.new.self.items;
  are = sym c.from_vec-left.ensures.items ∙ c.in-Some.ensures.items;
  world_is = c.into_parts.ensures.0;
  journal_is = c.into_parts.ensures.1;
}
