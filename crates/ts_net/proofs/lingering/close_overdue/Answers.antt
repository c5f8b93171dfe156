use Rattle.std.proofs.Common.{rules}
use Rattle.std.proofs.lemmas.Fn.{filter_same}
use Rattle.ts_net.proofs.lingering.close_overdue.Goals as goal

pub returns-clause-in_time : goal.returns-clause-in_time
returns-clause-in_time g c = filter_same _ _ _ (λ x b f' k. search rules) _ _ c.retain.ensures.filtered
