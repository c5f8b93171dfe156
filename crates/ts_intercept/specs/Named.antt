-- Whose host an intercept reads off a head that is sent: the request's (RFC 9110, section 7.2).
use Rattle.std.specs.Prelude.{◌≡◌, ℕ, List}
use Rattle.ts_wire.specs.OneHead.{SendsRequest, SendsUpload}
use Rattle.ts_wire.specs.declared.printed.ClientFraming.{ClientFraming}
use Rattle.ts_intercept.specs.Served.{host_in}

-- the host that is read off a head is the one that the request is for, without a body and with one
pub record HeadsNameHost : Type 0 where
  pub request : (method target host text : List ℕ) → SendsRequest method target host text
      → host_in text ≡ host
  pub upload : (method target host text : List ℕ) (sent : ClientFraming)
      → SendsUpload method target host sent text → host_in text ≡ host
