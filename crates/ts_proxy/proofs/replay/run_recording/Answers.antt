-- The recording that was read is the one whose transactions were run.
use Rattle.std.proofs.Common.{sym, ap, subst}
use Rattle.ts_config.specs.Setup.{lines_of}
use Rattle.ts_record.specs.Grammar.{Contents}
use Rattle.ts_replay.specs.Replayed.{IsReplayed}
use Rattle.ts_proxy.proofs.replay.run_recording.Goals as goal

pub returns-in-Ok-run_txns-clause-replayed : goal.returns-in-Ok-run_txns-clause-replayed
returns-in-Ok-run_txns-clause-replayed g c = record {
  on = record {
    contents = c.in-Ok.recording;
    recording = c.in-Ok.ensures.recording;
    replayed = subst (λ (k : Contents). IsReplayed (lines_of c.args.setup) k.txns c.in-Ok-run_txns.replayed)
        c.version.view_is c.in-Ok-run_txns.ensures;
  };
  version_is = ap (λ (k : Contents). k.version) (sym c.version.view_is);
}
