-- What a pass with the whole share knows of the queue.
use Rattle.std.proofs.Common.{◌≡◌, ℕ, zero, suc, ◌<◌, List, [], ◌∷◌, length, get_or, ap, arith}
use Rattle.std.specs.List.{count_by}
use mathlib.Core.Option.{some}
use lib.ListN.{get_elem?}
use Rattle.ts_queue.specs.declared.TheConstants.{WHOLE_SHARE}
use Rattle.ts_queue.specs.declared.ticket.Ticket.{Ticket}
use Rattle.ts_queue.specs.declared.view.PassView.{PassView}
use Rattle.ts_queue.specs.Tickets.{is_same_ticket}
use Rattle.ts_queue.specs.Passes.{HoldsAllPut}
use Rattle.ts_queue.proofs.Steps.{whole_balance}

-- an element of a list is found at its place
found_at : {A : Type 0} (xs : List A) (k : ℕ) (x : A) → k < length xs → get_or xs k x ≡ x
    → get_elem? xs k ≡ some x
found_at [] k x below is = absurd (omega arith)
found_at (y ∷ ys) zero x below is = ap some is
found_at (y ∷ ys) (suc k) x below is = found_at ys k x (omega arith) is

-- what a pass with the whole share put stands in the queue, where it took nothing
pub whole_holds : (v : PassView) → v.share ≡ WHOLE_SHARE → v.taken ≡ [] → HoldsAllPut v
whole_holds v whole none items moment t =
    let there = moment.there in
    let even = whole_balance items moment.views there.0 v moment.lawful
    (found_at moment.views there.0 v there.1 there.2) whole t in
    let nothing : count_by (is_same_ticket t) v.taken ≡ 0 =
    ap (λ (ts : List Ticket). count_by (is_same_ticket t) ts) none in
    (omega arith, even.1)
