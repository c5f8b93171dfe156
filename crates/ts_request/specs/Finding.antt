-- What the first bytes of a client say of an upload.
use Rattle.std.specs.Prelude.{◌≡◌, ℕ, ◌<◌, List, length, drop}
use Rattle.httparse.specs.Grammar as grammar
use Rattle.httparse.specs.Grammar.{HasNoRequest, print_request}
use Rattle.ts_wire.specs.Limits.{head_limit}
use Rattle.ts_request.specs.Upload.{HasUpload, NeverHasUpload}
use Rattle.ts_request.specs.declared.finding.Found.{Found}
use Rattle.ts_request.specs.declared.finding.Found.TheVariants as F

-- what was found is so: no whole head is there, and with more bytes one may be; there is no upload, whatever
-- follows; or there is one, whose head has so many bytes
abbrev pub IsFound : List ℕ → Found → Type 0
IsFound bytes F.More = HasNoRequest bytes × (length bytes < head_limit)
IsFound bytes F.Never = NeverHasUpload bytes
IsFound bytes (F.Upload framing used) =
    (h : grammar.RequestHead) × HasUpload bytes h framing (drop used bytes)
    × (used ≡ length (print_request h))
