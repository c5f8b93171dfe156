-- What a search for a head at the front of some bytes answers: a head and where it ends, or none.
use Rattle.std.specs.Prelude.{◌≡◌, ◌≢◌, ◌⊎◌, ℕ, ◌<◌, ◌≤◌, List, length, drop, Option, Some, None}
use Rattle.ts_wire.specs.declared.heads.RequestHead.{RequestHead}
use Rattle.ts_wire.specs.declared.heads.ResponseHead.{ResponseHead}
use Rattle.ts_wire.specs.declared.framing.Framing.{Framing}
use Rattle.ts_wire.specs.declared.framing.Framing.TheVariants as F
use Rattle.ts_wire.specs.declared.body.BodyState.{BodyState}
use Rattle.ts_wire.specs.declared.body.BodyState.TheVariants as B
use Rattle.ts_wire.specs.Heads.{LacksRequest, LacksResponse}
use Rattle.ts_block.specs.Heads.{HasRequest, HasResponse, FinalHead, LacksFinal}

abbrev pub FindsRequest : List ℕ → Option RequestHead → Type 0
FindsRequest bytes (Some head) = (rest : List ℕ) × HasRequest bytes head rest
FindsRequest bytes None = LacksRequest bytes

abbrev pub FindsResponse : List ℕ → Option (ResponseHead × ℕ) → Type 0
FindsResponse bytes (Some (head, used)) =
    HasResponse bytes head (drop used bytes) × (0 < used) × (used ≤ length bytes)
FindsResponse bytes None = LacksResponse bytes

abbrev pub FindsFinal : List ℕ → Option (ResponseHead × ℕ) → Type 0
FindsFinal bytes (Some (head, used)) = FinalHead bytes head (drop used bytes) × (used ≤ length bytes)
FindsFinal bytes None = LacksFinal bytes

-- a body that is this far ends with its bytes
abbrev pub IsOver : Framing → BodyState → Type 0
IsOver framing state = (state ≡ B.Ended) ⊎ ((framing ≡ F.UntilClose) × (state ≡ B.Unfinished))

-- or does not
abbrev pub IsCut : Framing → BodyState → Type 0
IsCut framing state = (framing ≢ F.UntilClose) × (state ≡ B.Unfinished)
