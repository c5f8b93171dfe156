-- What becomes of a client whose handler has ended.
use Rattle.std.specs.Prelude.{◌≡◌, ◌<◌, is_some}
use Rattle.ts_txn.specs.declared.retired.Noted.{Noted}
use Rattle.ts_txn.specs.declared.retired.Retired.{Retired}
use Rattle.ts_serve.specs.Whose.{noted_of}
use Rattle.ts_serve.specs.declared.leaving.Leaving.{Leaving}
use Rattle.ts_serve.specs.declared.leaving.Leaving.TheVariants.{Retires, Stays, GoesOn}
use Rattle.ts_serve.specs.declared.whose.TheConstants.{LAST_PLACE}
use Rattle.ts_serve.specs.declared.whose.Whose.{Whose}

-- What is left has the number of the client and an origin, if one was reached for it; whoever stays is the
-- same one; and what is noted is of the same place in the session, which is not the last one.
abbrev pub LeavesWhose : {C O W X : Type 0} → (W → Whose) → Whose → Leaving C O W X → Type 0
LeavesWhose whose_of whose (Retires r) =
    (r.parts.number ≡ whose.number) × (is_some r.parts.origin ≡ whose.has_origin)
LeavesWhose whose_of whose (Stays next) = whose_of next ≡ whose
LeavesWhose whose_of whose (GoesOn noted next) = (noted_of noted ≡ whose) × (noted.place < LAST_PLACE)

-- What becomes of a client: it is done, and nothing is left over of it; another handler may live in its
-- place; or its transaction is noted, and it goes on.
abbrev pub BecomesOf : {C O W X : Type 0} → (Retired C O → Type 0) → (Retired C O → Type 0)
    → (Noted O → Type 0) → (Noted O → X → Type 0) → (W → Type 0) → Leaving C O W X → Type 0
BecomesOf Done Spent Note Next Lives (Retires r) = Done r × Spent r
BecomesOf Done Spent Note Next Lives (Stays next) = Lives next
BecomesOf Done Spent Note Next Lives (GoesOn noted next) = Note noted × Next noted next
