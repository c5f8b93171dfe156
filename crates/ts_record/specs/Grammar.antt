-- The grammar of a recording, of either version, as the one text of each recording.
use Rattle.std.specs.Prelude.{◌≡◌, ℕ, ◌+◌, ◌≤◌, ◌==◌, ◌⊎◌, List, [], ◌∷◌, ◌++◌, length, Option, None, Some, ⊤}
use Rattle.std.specs.Prelude.{if◌then◌else◌}
use Rattle.std.specs.List.{AllByRecursion}
use Rattle.std.specs.Fmt.{decimal}
use Rattle.ts_link.specs.Inputs.{stalled_reads}
use Rattle.ts_link.specs.Texts.{line_feed}
use Rattle.ts_link.specs.declared.piece.Piece.{Piece}
use Rattle.ts_link.specs.declared.piece.Piece.TheVariants.{Bytes, Stall}
use Rattle.ts_record.specs.Keywords.{header_of, keyword_text, piece_keyword, stall_keyword}
use Rattle.ts_record.specs.declared.recording.TheConstants.{FIRST_VERSION, SECOND_VERSION, MOST_PIECE}
use Rattle.ts_record.specs.declared.recording.TheConstants.{MOST_STALL}
use Rattle.ts_record.specs.declared.recording.TheConstants.{MOST_STALLED, MOST_TAKEN, MOST_TXNS}
use Rattle.ts_record.specs.declared.keyword.Keyword.TheVariants as k
use Rattle.ts_record.specs.declared.keyword.Side.{Side}
use Rattle.ts_record.specs.declared.keyword.Side.TheVariants as side

-- a transaction: what the client and the origin send, with the stalls between, and how many bytes the client
-- takes, where it leaves
pub record TxnPieces : Type 0 where
  pub client : List Piece
  pub origin : List Piece
  pub leave : Option ℕ

-- a recording: the version of its text, and its transactions
pub record Contents : Type 0 where
  pub version : ℕ
  pub txns : List TxnPieces

abbrev pub contents : ℕ → List TxnPieces → Contents
contents version txns = record { version = version; txns = txns }

-- ---- its text

-- the length of a piece and its bytes, with a line feed behind each, and what follows
abbrev pub piece_before : List ℕ → List ℕ → List ℕ
piece_before behind piece = decimal (length piece) ++ line_feed ∷ (piece ++ line_feed ∷ behind)

-- a number, a line feed, and what follows
abbrev pub number_before : List ℕ → ℕ → List ℕ
number_before behind number = decimal number ++ line_feed ∷ behind

-- a piece of a side or a stall, behind its keyword, and what follows
abbrev pub item_before : Side → List ℕ → Piece → List ℕ
item_before from behind (Bytes piece) = keyword_text (piece_keyword from) ++ piece_before behind piece
item_before from behind (Stall reads) = keyword_text (stall_keyword from) ++ number_before behind reads

-- the pieces and stalls of one side, and what follows
abbrev pub items_before : Side → List ℕ → List Piece → List ℕ
items_before from behind [] = behind
items_before from behind (item ∷ items) = item_before from (items_before from behind items) item

-- how many bytes a client takes that leaves, behind the keyword, and what follows
abbrev pub leave_before : List ℕ → Option ℕ → List ℕ
leave_before behind None = behind
leave_before behind (Some most) = keyword_text k.Leave ++ number_before behind most

-- a transaction behind its first line, and what follows
abbrev pub inside_before : List ℕ → TxnPieces → List ℕ
inside_before behind txn =
    items_before side.Client
    (items_before side.Origin (leave_before (keyword_text k.Close ++ behind) txn.leave) txn.origin) txn.client

-- transactions, and the last line of all
abbrev pub txns_text : List TxnPieces → List ℕ
txns_text [] = keyword_text k.End
txns_text (t ∷ ts) = keyword_text k.Txn ++ inside_before (txns_text ts) t

-- the text of a recording
abbrev pub text_of : Contents → List ℕ
text_of r = keyword_text (header_of r.version) ++ txns_text r.txns

-- ---- its limits

abbrev pub IsRecordedPiece : List ℕ → Type 0
IsRecordedPiece piece = (1 ≤ length piece) × (length piece ≤ MOST_PIECE)

-- a piece has at least one byte, and at a stall at least one read waits
abbrev pub IsItem : Piece → Type 0
IsItem (Bytes piece) = IsRecordedPiece piece
IsItem (Stall reads) = (1 ≤ reads) × (reads ≤ MOST_STALL)

-- a client may leave only in version 2, and takes at least one byte before
abbrev pub MayLeave : ℕ → Option ℕ → Type 0
MayLeave version None = ⊤
MayLeave version (Some most) = (version ≡ SECOND_VERSION) × (1 ≤ most) × (most ≤ MOST_TAKEN)

-- a transaction in a recording of this version
pub record IsTxn (version : ℕ) (txn : TxnPieces) : Type 0 where
  pub client : AllByRecursion IsItem txn.client
  pub origin : AllByRecursion IsItem txn.origin
  pub leave : MayLeave version txn.leave

-- how many reads wait at all stalls of some transactions
abbrev pub stalls_in : List TxnPieces → ℕ
stalls_in [] = 0
stalls_in (t ∷ ts) = stalled_reads t.client + stalled_reads t.origin + stalls_in ts

-- how many reads may wait at all stalls of a recording of this version: none in version 1
abbrev pub stall_room : ℕ → ℕ
stall_room version = if version == FIRST_VERSION then 0 else MOST_STALLED

-- the limits of a recording
pub record KeepsLimits (r : Contents) : Type 0 where
  pub version : (r.version ≡ FIRST_VERSION) ⊎ (r.version ≡ SECOND_VERSION)
  pub few : length r.txns ≤ MOST_TXNS
  pub each : AllByRecursion (IsTxn r.version) r.txns
  pub stalls : stalls_in r.txns ≤ stall_room r.version

-- the bytes are the text of this recording
pub record IsRecording (bytes : List ℕ) (r : Contents) : Type 0 where
  pub limits : KeepsLimits r
  pub text : bytes ≡ text_of r
