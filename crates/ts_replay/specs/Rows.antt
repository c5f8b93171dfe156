-- The row of groups in which recorded transactions and hook plugins run, before the first turn.
use Rattle.std.specs.Prelude.{ℕ, List, All, length}
use Rattle.std.specs.List.{AllZip}
use Rattle.ts_config.specs.declared.setup.Setup.{Setup}
use Rattle.ts_record.specs.Grammar.{TxnPieces}
use Rattle.ts_replay.specs.Members.{Member, members, numbered}
use Rattle.ts_replay.specs.Recorded.{FitInRow, HasPlainLines, IsNewTagOf, RowGroup, RowTag}
use Rattle.ts_thread.specs.Threads.{HasHadTurns}

-- Groups with their tags, one for each of these members under a setup, whose first plugin has the group `at`:
-- each fits its tag and has had no turn.
pub record AreGroupsOf (setup : Setup) (at : ℕ) (ms : List Member) (tags : List RowTag)
    (groups : List RowGroup) : Type 0 where
  pub tags_are : AllZip (IsNewTagOf setup at) ms tags
  pub fit : FitInRow tags groups
  pub new : All (HasHadTurns 0) groups

-- such groups, under a setup that can be replayed: the plugins stand behind these transactions
pub record IsRowFor (setup : Setup) (txns : List TxnPieces) (ms : List Member) (tags : List RowTag)
    (groups : List RowGroup) : Type 0 where
  pub lines : HasPlainLines setup
  pub groups_are : AreGroupsOf setup (length txns) ms tags groups

-- a group for each transaction under this setup, numbered from 1
abbrev pub IsTxnRowOf : Setup → List TxnPieces → List RowTag → List RowGroup → Type 0
IsTxnRowOf setup txns tags groups = IsRowFor setup txns (numbered 1 txns) tags groups

-- and behind them one for the plugin of each of its lines
abbrev pub IsRowOf : Setup → List TxnPieces → List RowTag → List RowGroup → Type 0
IsRowOf setup txns tags groups = IsRowFor setup txns (members setup.plugins.items txns) tags groups
