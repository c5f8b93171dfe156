-- What a dial answers (POSIX, `connect` of a socket that does not block).
use Rattle.std.specs.Prelude.{◌≡◌, Result, Ok, Err}
use Rattle.std.specs.declared.io.Error.{Error}
use Rattle.ts_net.specs.Links.{fresh_link}
use Rattle.ts_net.specs.declared.dialer.Dialing.{Dialing}
use Rattle.ts_net.specs.declared.dialer.Dialing.TheVariants as D
use Rattle.ts_net.specs.declared.dialer.TheConstants.{ORIGIN_NAME}

-- what the system's answer to a connect is
abbrev pub dialing_of : {S : Type 0} → Result S Error → Dialing S
dialing_of (Ok stream) = D.Origin (fresh_link stream ORIGIN_NAME)
dialing_of (Err e) = D.Failed

-- the system was asked once, and the answer is what its own says
abbrev pub HearsDial : {K S : Type 0} → (K → K → Result S Error → Type 0) → K → K → Dialing S → Type 0
HearsDial {S = S} connects old new answer =
    (heard : Result S Error) × connects old new heard × (answer ≡ dialing_of heard)
