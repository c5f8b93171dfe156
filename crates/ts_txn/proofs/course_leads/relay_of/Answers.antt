-- What passes a body on is one.
use Rattle.ts_txn.proofs.Leading.{never_other}
use Rattle.ts_txn.proofs.course_leads.relay_of.Goals as goal

pub unreachable-requires : goal.unreachable-requires
unreachable-requires g c = never_other c.args.course c.requires c.in_default.not-Relaying
