-- The law is proved as lemmas.
use Rattle.ts_intercept.proofs.HostLines.{heads_name_host}
use Rattle.ts_intercept.proofs.laws.named_hosts.Goals as goal

pub returns : goal.returns
returns c = heads_name_host
