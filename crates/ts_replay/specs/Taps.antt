-- What a tap counts of a body that a client took.
use Rattle.std.specs.Prelude.{ℕ, List, Option, Some, None, length, take}
use Rattle.ts_hooks.specs.declared.txn_end.TxnEnd.{TxnEnd}
use Rattle.ts_hooks.specs.declared.txn_end.TxnEnd.TheVariants as E
use Rattle.ts_record.specs.Sum.{sum_of}
use Rattle.ts_record.specs.declared.report.TapLine.{TapLine}

-- THE TAP LINE of a body, where the configuration asks for a tap: how many of its first so many bytes there
-- are, and the sum of these
abbrev pub tap_of : Option ℕ → List ℕ → Option TapLine
tap_of None body = None
tap_of (Some most) body = Some (record { count = length (take most body); sum = sum_of 0 (take most body) })

-- that of a block: only one that has lines for its body has it
abbrev pub tap_by : TxnEnd → Option ℕ → List ℕ → Option TapLine
tap_by E.Whole most body = tap_of most body
tap_by other most body = None
