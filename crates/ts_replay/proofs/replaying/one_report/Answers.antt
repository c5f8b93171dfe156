-- Two lists of blocks of the same transactions are the same, and so are two reports on one recording, and
-- what stands at an origin.
use Rattle.ts_replay.proofs.Heads.{heads_of_block}
use Rattle.ts_replay.proofs.OneAtOrigin.{one_at_origin}
use Rattle.ts_replay.proofs.OneReport.{one_list, one_report}
use Rattle.ts_replay.proofs.replaying.one_report.Goals as goal

pub returns : goal.returns
returns c = record {
  blocks = one_list;
  report = one_report;
  heads = heads_of_block;
  origin = one_at_origin;
}
