-- The heads that a transaction finds at the front of its links' bytes, each within the limits of a head.
use Rattle.std.specs.Prelude.{◌≡◌, ℕ, ◌==◌, Bool, true, false, not, ◌&&◌, ◌||◌, List, [], ◌∷◌, nat_lt, nat_le}
use Rattle.httparse.specs.Grammar as grammar
use Rattle.ts_wire.specs.declared.heads.RequestHead.{RequestHead}
use Rattle.ts_wire.specs.declared.heads.ResponseHead.{ResponseHead}
use Rattle.ts_wire.specs.Heads.{BeginsWithRequest, BeginsWithResponse, KeepsRequest, KeepsResponse}

-- the bytes begin with a head that is kept as this one, and go on with the rest
pub record HasRequest (bytes : List ℕ) (head : RequestHead) (rest : List ℕ) : Type 0 where
  pub parsed : grammar.RequestHead
  pub begins : BeginsWithRequest bytes parsed rest
  pub keeps : KeepsRequest parsed head

pub record HasResponse (bytes : List ℕ) (head : ResponseHead) (rest : List ℕ) : Type 0 where
  pub parsed : grammar.ResponseHead
  pub begins : BeginsWithResponse bytes parsed rest
  pub keeps : KeepsResponse parsed head

-- the first interim status, and the first final one (RFC 9110, section 15)
abbrev pub first_interim : ℕ
first_interim = 100

abbrev pub first_final : ℕ
first_final = 200

-- the status that would end HTTP on the connection (RFC 9110, section 15.2.2)
abbrev pub switching : ℕ
switching = 101

-- an interim response is dropped. (RFC 9110, section 15.2, has a proxy forward it: this is the project's own
-- choice.)
abbrev pub is_interim : ℕ → Bool
is_interim status = nat_le first_interim status && nat_lt status first_final && not (status == switching)

-- no answer can be made of such a status
abbrev pub is_refused_status : ℕ → Bool
is_refused_status status = (status == switching) || nat_lt status first_interim

-- these interim heads, and then the rest
abbrev pub AfterInterims : List ResponseHead → List ℕ → List ℕ → Type 0
AfterInterims [] bytes rest = bytes ≡ rest
AfterInterims (h ∷ hs) bytes rest =
    (mid : List ℕ) × HasResponse bytes h mid × (is_interim h.status ≡ true) × AfterInterims hs mid rest

-- some interim heads, and then the rest
pub record PassesInterims (bytes rest : List ℕ) : Type 0 where
  pub interims : List ResponseHead
  pub after : AfterInterims interims bytes rest

-- the first head that is not interim, and the rest
pub record FinalHead (bytes : List ℕ) (h : ResponseHead) (rest : List ℕ) : Type 0 where
  pub from : List ℕ
  pub passed : PassesInterims bytes from
  pub reads : HasResponse from h rest
  pub final : is_interim h.status ≡ false

abbrev pub LacksFinal : List ℕ → Type 0
LacksFinal bytes = (h : ResponseHead) (rest : List ℕ) → FinalHead bytes h rest → ⊥
