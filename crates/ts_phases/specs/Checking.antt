-- What the check makes of a head that was read: a request, or the answer that refuses it.
use Rattle.std.specs.Prelude.{◌≡◌, ℕ, Ok, Err}
use Rattle.ts_hooks.specs.declared.txn_end.TxnEnd.TheVariants as E
use Rattle.ts_wire.specs.declared.heads.RequestHead.{RequestHead}
use Rattle.ts_wire.specs.Check.{check}
use Rattle.ts_block.specs.Own.{own_refusal}
use Rattle.ts_block.specs.Relayed.{asks_head}
use Rattle.ts_phases.specs.declared.client_request.Checked.{Checked}
use Rattle.ts_phases.specs.declared.client_request.Checked.TheVariants as C

abbrev pub IsCheckedAs : RequestHead → Checked → Type 0
IsCheckedAs head (C.Pass q) = (q.head ≡ head) × (check head ≡ Ok (q.target, q.host))
IsCheckedAs head (C.Refused a) =
    (status : ℕ) × (check head ≡ Err status)
    × (a ≡ record { status = own_refusal status; to_head = asks_head head; end = E.Whole })
