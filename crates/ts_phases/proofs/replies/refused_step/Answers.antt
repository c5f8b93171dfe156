-- Where a response is about to be sent, an error is taken as if the plugin let it go on.
use Rattle.std.proofs.Common.{◌∙◌}
use Rattle.ts_phases.proofs.Hearing.{error_ignored}
use Rattle.ts_phases.proofs.replies.refused_step.Goals as goal

pub returns-in_default : goal.returns-in_default
returns-in_default c = c.continued_step.ensures ∙ error_ignored c.args.phase c.args.fields
    c.in_default.not-OsDns c.in_default.not-RuleRequest
