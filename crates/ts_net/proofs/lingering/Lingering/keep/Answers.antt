use Rattle.std.proofs.Common.{rules}
use Rattle.ts_net.proofs.lingering.Lingering.keep.Goals as goal

-- the last of those who linger is the client that was shut
pub returns : goal.returns
returns g c = record {
  last = c.of.result;
  waiting = search rules;
  shut = search rules;
  until = search rules;
  turn = search rules;
}
