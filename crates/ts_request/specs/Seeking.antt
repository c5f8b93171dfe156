-- What comes of reading a client for the head of its request.
use Rattle.std.specs.Prelude.{◌≢◌, ◌<◌, ◌⊎◌, Bool, true, false, length, ⊤}
use Rattle.ts_request.specs.Text.{Text}
use Rattle.ts_request.specs.declared.reading.Sought.{Sought}
use Rattle.ts_request.specs.declared.reading.Sought.TheVariants as K
use Rattle.ts_request.specs.declared.stage.Stage.{Stage}
use Rattle.ts_request.specs.declared.stage.Stage.TheVariants as S

abbrev pub sought_failed : Sought → Bool
sought_failed K.Failed = true
sought_failed _ = false

abbrev pub sought_again : Sought → Bool
sought_again K.Again = true
sought_again _ = false

-- it is known what is shown, unless the client failed or waits
abbrev pub IsSought : Stage → Sought → Type 0
IsSought stage K.On = stage ≢ S.Heading
IsSought stage _ = ⊤

-- it is known, or more is held
abbrev pub SeeksOn : Text → Text → Sought → Type 0
SeeksOn old new K.On = (new.stage ≢ S.Heading) ⊎ (length old.front < length new.front)
SeeksOn old new _ = ⊤
