-- The words that begin the lines of a recording, and how much of one stands at the front of some bytes.
use Rattle.std.specs.Prelude.{◌≡◌, ℕ, zero, suc, ◌==◌, ◌+◌, List, [], ◌∷◌, ◌++◌, codes, max, nat_lt}
use Rattle.std.specs.Prelude.{if◌then◌else◌, Option, None, Some, ⊤}
use Rattle.ts_link.specs.declared.piece.Piece.{Piece}
use Rattle.ts_record.specs.declared.recording.TheConstants.{FIRST_VERSION, MOST_TXNS}
use Rattle.ts_record.specs.declared.keyword.Keyword.{Keyword}
use Rattle.ts_record.specs.declared.keyword.Keyword.TheVariants as k
use Rattle.ts_record.specs.declared.keyword.Side.{Side}
use Rattle.ts_record.specs.declared.keyword.Side.TheVariants as side

-- as bytes, with the space or the line feed behind them
abbrev pub keyword_text : Keyword → List ℕ
keyword_text k.HeaderOne = codes "tsx-recording 1\n"
keyword_text k.HeaderTwo = codes "tsx-recording 2\n"
keyword_text k.Txn = codes "txn\n"
keyword_text k.Client = codes "client "
keyword_text k.ClientStall = codes "client-stall "
keyword_text k.Origin = codes "origin "
keyword_text k.OriginStall = codes "origin-stall "
keyword_text k.Leave = codes "leave "
keyword_text k.Close = codes "close\n"
keyword_text k.End = codes "end\n"

-- the first line of a recording of this version
abbrev pub header_of : ℕ → Keyword
header_of version = if version == FIRST_VERSION then k.HeaderOne else k.HeaderTwo

-- the first lines of both versions
abbrev pub headers : List Keyword
headers = k.HeaderOne ∷ k.HeaderTwo ∷ []

-- before a piece that a side sends
abbrev pub piece_keyword : Side → Keyword
piece_keyword side.Client = k.Client
piece_keyword side.Origin = k.Origin

-- before a stall of it
abbrev pub stall_keyword : Side → Keyword
stall_keyword side.Client = k.ClientStall
stall_keyword side.Origin = k.OriginStall

-- ---- how much of one stands there

-- how many bytes two texts have in common at their fronts
abbrev pub common : List ℕ → List ℕ → ℕ
common [] ys = 0
common (x ∷ xs) [] = 0
common (x ∷ xs) (y ∷ ys) = if x == y then 1 + common xs ys else 0

-- the most bytes that the front has in common with one of these keywords
abbrev pub most_common : List ℕ → List Keyword → ℕ
most_common bytes [] = 0
most_common bytes (k ∷ ks) = max (common bytes (keyword_text k)) (most_common bytes ks)

-- the keyword does not stand at the front
abbrev pub LacksKeyword : List ℕ → Keyword → Type 0
LacksKeyword bytes keyword = (behind : List ℕ) → bytes ≡ keyword_text keyword ++ behind → ⊥

-- none of them does
abbrev pub LacksAll : List ℕ → List Keyword → Type 0
LacksAll bytes [] = ⊤
LacksAll bytes (k ∷ ks) = LacksKeyword bytes k × LacksAll bytes ks

-- ---- which can come where

-- those of a side, where so many reads may still stall
abbrev pub side_keywords : Side → ℕ → List Keyword
side_keywords from zero = piece_keyword from ∷ []
side_keywords from (suc room) = piece_keyword from ∷ stall_keyword from ∷ []

-- those behind the pieces of both sides: in version 2 the client may leave
abbrev pub last_keywords : ℕ → List Keyword
last_keywords version = if version == FIRST_VERSION then k.Close ∷ [] else k.Leave ∷ k.Close ∷ []

-- those behind a piece or a stall of an origin, where so many reads may still stall
abbrev pub keywords_behind_origin : ℕ → ℕ → List Keyword
keywords_behind_origin version room = side_keywords side.Origin room ++ last_keywords version

-- those behind the first line of a transaction, and behind a piece or a stall of a client
abbrev pub keywords_behind_client : ℕ → ℕ → List Keyword
keywords_behind_client version room = side_keywords side.Client room ++ keywords_behind_origin version room

-- those behind what a client does and these pieces and stalls of an origin
abbrev pub keywords_behind_sides : ℕ → ℕ → List Piece → List Keyword
keywords_behind_sides version room [] = keywords_behind_client version room
keywords_behind_sides version room (p ∷ ps) = keywords_behind_origin version room

-- the same, and behind the line on a client that leaves, where it stands there
abbrev pub keywords_inside : ℕ → ℕ → List Piece → Option ℕ → List Keyword
keywords_inside version room origin None = keywords_behind_sides version room origin
keywords_inside version room origin (Some most) = k.Close ∷ []

-- those behind so many transactions
abbrev pub keywords_behind : ℕ → List Keyword
keywords_behind count = if nat_lt count MOST_TXNS then k.Txn ∷ k.End ∷ [] else k.End ∷ []
