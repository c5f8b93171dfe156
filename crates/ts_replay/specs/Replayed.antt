-- What the replay of transactions comes to: the groups in which they and the hook plugins ran, their journals
-- and the blocks of the transactions.
use Rattle.std.specs.Prelude.{◌≡◌, ℕ, ◌+◌, ◌<◌, ◌≤◌, List, [], All, true, false, length, map, IsSomeAnd}
use Rattle.std.specs.List.{AllZip}
use Rattle.ts_config.specs.Setup.{ConfigLines, lines_of}
use Rattle.ts_config.specs.declared.fields.PluginLine.{PluginLine}
use Rattle.ts_config.specs.declared.setup.Setup.{Setup}
use Rattle.ts_group.specs.declared.either.Either.TheVariants.{One, Other}
use Rattle.ts_journal.specs.Final.{IsFinal}
use Rattle.ts_journal.specs.Log.{Log}
use Rattle.ts_journal.specs.declared.entry.TheConstants.{GREATEST}
use Rattle.ts_plugin.specs.World.{OnlyAnswers}
use Rattle.ts_plugin.specs.declared.plugin.Plugin.{Plugin}
use Rattle.ts_record.specs.Grammar.{TxnPieces}
use Rattle.ts_record.specs.Report.{AreReported}
use Rattle.ts_replay.specs.Exchanged.{ChoseWell, MayEnd}
use Rattle.ts_replay.specs.Members.{HookPlugin, Member, Transaction, members}
use Rattle.ts_replay.specs.Recorded.{HasPlainLines, IsOfTag, IsSoundRecorded, IsTagOf, Recorded, RecordedTag}
use Rattle.ts_replay.specs.Recorded.{RowGroup, recorded_ends}
use Rattle.ts_replay.specs.Reports.{AreShown}
use Rattle.ts_replay.specs.declared.outcomes.Replayed.{Replayed}
use Rattle.ts_txn.specs.Making.{end_of_course}

-- The transaction of this number has run in its group, until nothing of it was pending: it is the one that
-- its tag names, which was started and asks plugins in the groups from `at` on, and event numbers are left.
-- The group began with no turn, and has had one.
pub record HasRunAs (setup : Setup) (at number : ℕ) (pieces : TxnPieces) (group : RowGroup) : Type 0 where
  pub lines : HasPlainLines setup
  pub txn : Recorded
  pub is_txn : group.world ≡ One txn
  pub tag : RecordedTag
  pub tag_is : IsTagOf setup at number pieces true tag
  pub fits : IsOfTag tag txn
  pub sound : IsSoundRecorded txn group.cx.log.state group.cx.roles
  pub began : group.cx.log.base.made ≡ 0
  pub turned : 0 < group.cx.log.state.turns
  pub idle : group.cx.log.state.pending ≡ []
  pub given : group.cx.log.state.held ≡ false
  pub numbers : group.cx.log.state.next < GREATEST

-- The plugin of this line stands in its group, of which nothing is pending, and what is to hold of it holds.
-- The group began with no turn, and each event that was set in it had a turn of its own.
pub record HasRestedAs (line : PluginLine) (group : RowGroup) : Type 0 where
  pub plugin : Plugin
  pub is_plugin : group.world ≡ Other plugin
  pub line_is : plugin.line ≡ line
  pub sound : OnlyAnswers group.cx.log.state
  pub began : group.cx.log.base.made ≡ 0
  pub idle : group.cx.log.state.pending ≡ []
  pub given : group.cx.log.state.held ≡ false
  pub numbers : group.cx.log.state.next ≤ group.cx.log.state.turns + 1

-- a member of the row is done in its group
abbrev pub IsDoneAs : Setup → ℕ → Member → RowGroup → Type 0
IsDoneAs setup at (Transaction number pieces) group = HasRunAs setup at number pieces group
IsDoneAs setup at (HookPlugin line) group = HasRestedAs line group

-- each member of the row is, of the transactions under a setup and its plugins, in their order
abbrev pub AreDone : Setup → List TxnPieces → List RowGroup → Type 0
AreDone setup txns groups =
    AllZip (IsDoneAs setup (length txns)) (members setup.plugins.items txns) groups

-- and a transaction has ended, so that its block tells how, or that its client left; and where a line served
-- its request, the recorded origin was not used
pub record HasEndedAs (setup : Setup) (at number : ℕ) (pieces : TxnPieces) (group : RowGroup) : Type 0 where
  pub ran : HasRunAs setup at number pieces group
  pub ended : IsSomeAnd (end_of_course ran.txn.course) (MayEnd pieces.leave)
  pub chose : ChoseWell setup (recorded_ends setup at number pieces).origin ran.txn

abbrev pub IsReplayOf : Setup → ℕ → Member → RowGroup → Type 0
IsReplayOf setup at (Transaction number pieces) group = HasEndedAs setup at number pieces group
IsReplayOf setup at (HookPlugin line) group = HasRestedAs line group

-- what happened in a group
abbrev pub journal_of : RowGroup → Log
journal_of g = g.cx.log

-- What transactions under a setup came to in these groups: each ran to its end in the group at its place,
-- numbered from 1, and behind them the plugin of each line of the setup stands in a group of its own. The
-- journals are those of all groups, and final; the blocks are what is shown of the transactions alone, each
-- with an end that a report names; both in their order.
pub record ComesTo (setup : Setup) (txns : List TxnPieces) (groups : List RowGroup) (r : Replayed)
    : Type 0 where
  pub each : AllZip (IsReplayOf setup (length txns)) (members setup.plugins.items txns) groups
  pub journals : r.journals.items ≡ map journal_of groups
  pub final : All IsFinal r.journals.items
  pub blocks : AreShown setup txns r.blocks.items
  pub reported : AreReported r.blocks.items

-- THE REPLAY of transactions under these lines, each in a group of its own
pub record IsReplayed (lines : ConfigLines) (txns : List TxnPieces) (r : Replayed) : Type 0 where
  pub setup : Setup
  pub lines_are : lines_of setup ≡ lines
  pub groups : List RowGroup
  pub comes : ComesTo setup txns groups r
