-- So many members of the row have come to their blocks and journals as groups are gone.
use Rattle.std.specs.Prelude.{List, length}
use Rattle.ts_config.specs.declared.setup.Setup.{Setup}
use Rattle.ts_record.specs.Grammar.{TxnPieces}
use Rattle.ts_replay.specs.Members.{members}
use Rattle.ts_replay.specs.Replayed.{AreDone}
use Rattle.ts_replay.proofs.Coming.{ComeBut}
use Rattle.ts_replay.proofs.outcomes.outcomes_of.Given as goal

-- the members of the groups that are gone have their blocks and journals
abbrev pub invariant-groups : goal.invariant-groups
invariant-groups l =
    (setup : Setup) (txns : List TxnPieces) → AreDone setup txns l.fn.groups.items
    → ComeBut setup (length txns) (members setup.plugins.items txns) l.fn.groups.items l.rest.items
    l.blocks.items l.journals.items

abbrev pub decreases-groups : goal.decreases-groups
decreases-groups l = length l.rest.items
