-- What stands in the row of a replay, group by group: the transactions of a recording, and behind them the
-- hook plugins of the setup (Developer's Guide, "Hooks and Transactions"; their order is this project's own).
use Rattle.std.specs.Prelude.{ℕ, ◌+◌, List, [], ◌∷◌, ◌++◌, map}
use Rattle.ts_config.specs.declared.fields.PluginLine.{PluginLine}
use Rattle.ts_record.specs.Grammar.{TxnPieces}

-- the transaction of this number, or the plugin of this line
pub data Member : Type 0 where
  Transaction : ℕ → TxnPieces → Member
  HookPlugin : PluginLine → Member

-- transactions in their order, of which the first has this number
abbrev pub numbered : ℕ → List TxnPieces → List Member
numbered number [] = []
numbered number (txn ∷ txns) = Transaction number txn ∷ numbered (number + 1) txns

-- the transactions of a recording, numbered from 1, and behind them a plugin for each of these lines
abbrev pub members : List PluginLine → List TxnPieces → List Member
members lines txns = numbered 1 txns ++ map HookPlugin lines
