-- A phase that asks nothing has no reply.
use Rattle.ts_phases.proofs.Hearing.{asks_nothing}
use Rattle.ts_phases.proofs.replies.continued_step.Goals as goal

pub unreachable-requires : goal.unreachable-requires
unreachable-requires c = asks_nothing c.args.phase c.args.fields c.in_default.not-OsDns
    c.in_default.not-RuleRequest c.in_default.not-RuleResponse c.in_default.not-RuleAnswer c.requires.asks
