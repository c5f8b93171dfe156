-- The history of a connection: what its client gave and took in the transactions that it has behind it (RFC
-- 9112, sections 9.3 and 9.6).
use Rattle.std.specs.Prelude.{◌≡◌, ◌⊎◌, ℕ, ◌+◌, List, [], ◌∷◌, ◌++◌, All, length}
use Rattle.std.specs.List.{concat}
use Rattle.ts_link.specs.Link.{Look}
use Rattle.ts_session.specs.FirstRequest.{first_request}
use Rattle.ts_session.specs.Kept.{IsKept}
use Rattle.ts_session.specs.Requests.{AreRequests, IsRequest}

module _ {N : Type 0} (IsNoteOf : List ℕ → List ℕ → N → Type 0) (place_of : N → ℕ) where
  -- THE HISTORY of a connection, by the notes of its transactions in the order of their places, which are
  -- counted from 1: the client bytes of each, which are one whole request, and what the client took of its
  -- response, which is what is kept of it without the line `connection: close`
  pub data IsHistory : List N → List (List ℕ) → List (List ℕ) → Type 0 where
    begins : IsHistory [] [] []
    goes_on : (notes : List N) (note : N) (requests responses : List (List ℕ))
        (request response sent : List ℕ) → IsHistory notes requests responses
        → IsNoteOf request response note → place_of note ≡ length notes + 1 → IsRequest request
        → IsKept response sent
        → IsHistory (notes ++ note ∷ []) (requests ++ request ∷ []) (responses ++ sent ∷ [])

  -- The span of a request that is seen so, at this place of its connection, stands behind these notes: what
  -- the connection gave and took before it are the requests of their history and the responses, behind what
  -- it had given and taken before its client came.
  pub record StandsBehind (came : List ℕ × List ℕ) (notes : List N) (place : ℕ) (span : Look) : Type 0 where
    pub requests : List (List ℕ)
    pub responses : List (List ℕ)
    pub history : IsHistory notes requests responses
    pub place_is : place ≡ length notes + 1
    pub gave : span.before.0 ≡ came.0 ++ concat requests
    pub took : span.before.1 ≡ came.1 ++ concat responses

-- ---- what the requests of a history are among all that a client gives

-- These requests and then this one are the first members, in their order, none skipped and none twice; the
-- last one may be what is left behind all members.
abbrev pub AreFirst : List (List ℕ) → List ℕ → List (List ℕ) → List ℕ → Type 0
AreFirst requests last members left =
    ((more : List (List ℕ)) × (members ≡ requests ++ (last ∷ more)))
    ⊎ ((members ≡ requests) × (last ≡ left))

-- THE LAW that whole requests, and then the first request of whatever follows them, are the first members of
-- all requests of these bytes, or the last is what is left
abbrev pub TakeFirst : Type 0
TakeFirst =
    (requests : List (List ℕ)) (rest : List ℕ) → All IsRequest requests
    → (members : List (List ℕ)) (left : List ℕ) → AreRequests (concat requests ++ rest) members left
    → AreFirst requests (first_request rest) members left

-- THE LAW that all bytes of a client can be cut into requests
abbrev pub HaveRequests : Type 0
HaveRequests = (bytes : List ℕ) → (members : List (List ℕ)) × (left : List ℕ) × AreRequests bytes members left
