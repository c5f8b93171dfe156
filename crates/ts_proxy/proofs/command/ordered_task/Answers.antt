-- Words of no other number are of no command.
use Rattle.std.proofs.Common.{rules}
use Rattle.ts_proxy.proofs.Words.{none_other}
use Rattle.ts_proxy.proofs.command.ordered_task.Goals as goal
use Rattle.ts_proxy.proofs.command.ordered_task.Goals.{in_default-via-then-words-lt3}
use Rattle.ts_proxy.proofs.command.ordered_task.Goals.{in_default-via-else-words-lt3+else-words-lt4+else-words-lt5+else-words-lt6}

pub returns-in_default-clause-task : goal.returns-in_default-clause-task
returns-in_default-clause-task c = elim c.in_default.branch [
  | in_default-via-then-words-lt3 w ↦ search (rules, none_other)
  | in_default-via-else-words-lt3+else-words-lt4+else-words-lt5+else-words-lt6 w ↦ search (rules, none_other)
]
