-- What the parts of the reader say of bytes that they refuse: what was read before, and what can follow that.
use Rattle.std.specs.Prelude.{◌≡◌, ℕ, ◌+◌, ◌*◌, ◌-◌, ◌<◌, ◌≤◌, ◌⊎◌, List, [], ◌∷◌, ◌++◌, length, min}
use Rattle.std.specs.Prelude.{Option, ⊤}
use Rattle.std.specs.List.{AllByRecursion}
use Rattle.std.specs.Char.{digit_value}
use Rattle.std.specs.Fmt.{decimal}
use Rattle.ts_link.specs.Inputs.{stalled_reads}
use Rattle.ts_link.specs.Texts.{line_feed}
use Rattle.ts_link.specs.declared.piece.Piece.{Piece}
use Rattle.ts_record.specs.Grammar.{TxnPieces, piece_before, number_before, item_before, items_before}
use Rattle.ts_record.specs.Grammar.{leave_before, inside_before, IsRecordedPiece, IsItem, IsTxn, MayLeave}
use Rattle.ts_record.specs.Grammar.{stalls_in, stall_room}
use Rattle.ts_record.specs.Keywords.{keyword_text, piece_keyword, stall_keyword, keywords_inside}
use Rattle.ts_record.specs.Keywords.{keywords_behind}
use Rattle.ts_record.specs.Keywords.{LacksKeyword}
use Rattle.ts_record.specs.declared.recording.TheConstants.{BASE, MOST_STALL, MOST_TAKEN}
use Rattle.ts_record.specs.declared.recording.TheConstants.{MOST_TXNS}
use Rattle.ts_record.specs.declared.recording.TheConstants.{SECOND_VERSION}
use Rattle.ts_record.specs.declared.recording.RecordingRefusal.{RecordingRefusal}
use Rattle.ts_record.specs.declared.recording.RecordingRefusal.TheVariants as r
use Rattle.ts_record.specs.declared.keyword.Keyword.{Keyword}
use Rattle.ts_record.specs.declared.keyword.Keyword.TheVariants as k
use Rattle.ts_record.specs.declared.keyword.Side.{Side}
use Rattle.ts_record.specs.declared.keyword.Side.TheVariants as side
use Rattle.ts_record.specs.declared.items.PartRefusal.{PartRefusal}
use Rattle.ts_record.specs.declared.items.PartRefusal.TheVariants as p

-- the bytes begin with one of these tokens
abbrev pub Opens : (List ℕ → Type 0) → List ℕ → Type 0
Opens Token bytes = (token : List ℕ) × (behind : List ℕ) × Token token × (bytes ≡ token ++ behind)

-- nothing that goes on from this front as these bytes do is of this kind
abbrev pub Stuck : (List ℕ → Type 0) → List ℕ → List ℕ → Type 0
Stuck Kind front [] = Kind front → ⊥
Stuck Kind front (b ∷ bs) = (more : List ℕ) → Kind (front ++ b ∷ more) → ⊥

-- the bytes do not begin with one of these tokens; so many of them stand behind the longest front that one
-- begins with
pub record BreaksOff (Token : List ℕ → Type 0) (bytes : List ℕ) (left : ℕ) : Type 0 where
  pub front : List ℕ
  pub rest : List ℕ
  pub bytes_are : bytes ≡ front ++ rest
  pub left_is : left ≡ length rest
  pub begun : (more : List ℕ) × Token (front ++ more)
  pub stuck : Stuck (Opens Token) front rest

-- one of these keywords
abbrev pub OneOf : List Keyword → List ℕ → Type 0
OneOf [] token = ⊥
OneOf (k ∷ ks) token = (token ≡ keyword_text k) ⊎ OneOf ks token

-- a piece behind its keyword
abbrev pub IsPieceText : List ℕ → Type 0
IsPieceText token = (piece : List ℕ) × IsRecordedPiece piece × (token ≡ piece_before [] piece)

-- a number from 1 to this limit behind its keyword
abbrev pub IsNumberText : ℕ → List ℕ → Type 0
IsNumberText limit token = (n : ℕ) × (1 ≤ n) × (n ≤ limit) × (token ≡ number_before [] n)

-- ---- numbers

abbrev pub LacksFeed : List ℕ → Type 0
LacksFeed bytes = (behind : List ℕ) → bytes ≡ line_feed ∷ behind → ⊥

-- a number with one more digit
abbrev pub with_digit : ℕ → ℕ → ℕ
with_digit value digit = BASE * value + digit_value digit

-- no digit follows that keeps the number above 0 and within this limit
abbrev pub DigitsStop : ℕ → ℕ → List ℕ → Type 0
DigitsStop limit value [] = ⊤
DigitsStop limit value (b ∷ bs) =
    digit_value b < BASE → (with_digit value b ≡ 0) ⊎ (limit < with_digit value b)

-- the digits at the front that a number up to this limit can begin with, and the number that they stand for
pub record DigitsEnd (limit : ℕ) (bytes : List ℕ) (value : ℕ) (rest : List ℕ) : Type 0 where
  pub digits : List ℕ
  pub bytes_are : bytes ≡ digits ++ rest
  pub none : value ≡ 0 → digits ≡ []
  pub number : 0 < value → digits ≡ decimal value
  pub most : value ≤ limit
  pub ends : DigitsStop limit value rest

-- ---- the pieces and stalls of a side

-- how many reads may wait at one stall, where so many may at all that are still to come
abbrev pub stall_limit : ℕ → ℕ
stall_limit room = min room MOST_STALL

-- no piece or stall of this side stands at the front, where so many reads may still wait
pub record LacksItem (from : Side) (room : ℕ) (bytes : List ℕ) : Type 0 where
  pub piece : LacksKeyword bytes (piece_keyword from)
  pub stall : 0 < room → LacksKeyword bytes (stall_keyword from)

-- a piece or a stall of this side stands at the front, at which no more than so many reads wait
pub record IsItemOf (from : Side) (room : ℕ) (bytes : List ℕ) (item : Piece) (behind : List ℕ) : Type 0 where
  pub is : IsItem item
  pub fits : stalled_reads (item ∷ []) ≤ room
  pub text : bytes ≡ item_before from behind item

-- behind the keyword of a piece none follows
pub record PieceRefused (from : Side) (bytes : List ℕ) (left : ℕ) : Type 0 where
  pub inside : List ℕ
  pub bytes_are : bytes ≡ keyword_text (piece_keyword from) ++ inside
  pub refused : BreaksOff IsPieceText inside left

-- behind the keyword of a stall no number follows
pub record StallRefused (from : Side) (room : ℕ) (bytes : List ℕ) (left : ℕ) : Type 0 where
  pub inside : List ℕ
  pub some : 0 < room
  pub bytes_are : bytes ≡ keyword_text (stall_keyword from) ++ inside
  pub refused : BreaksOff (IsNumberText (stall_limit room)) inside left

abbrev pub ItemRefused : Side → ℕ → List ℕ → ℕ → Type 0
ItemRefused from room bytes left = PieceRefused from bytes left ⊎ StallRefused from room bytes left

abbrev pub StopsItem : Side → ℕ → List ℕ → PartRefusal → Type 0
StopsItem from room bytes (p.Left left) = ItemRefused from room bytes left
StopsItem from room bytes p.NoMemory = ⊤

-- behind these pieces and stalls one more is refused
pub record ItemsRefused (from : Side) (room : ℕ) (bytes : List ℕ) (left : ℕ) : Type 0 where
  pub items : List Piece
  pub room_left : ℕ
  pub rest : List ℕ
  pub each : AllByRecursion IsItem items
  pub stalls : room_left + stalled_reads items ≡ room
  pub bytes_are : bytes ≡ items_before from rest items
  pub refused : ItemRefused from room_left rest left

abbrev pub StopsItems : Side → ℕ → List ℕ → PartRefusal → Type 0
StopsItems from room bytes (p.Left left) = ItemsRefused from room bytes left
StopsItems from room bytes p.NoMemory = ⊤

-- ---- a transaction

-- behind the pieces and stalls of a client those of its origin are refused
pub record OriginRefused (room : ℕ) (bytes : List ℕ) (left : ℕ) : Type 0 where
  pub client : List Piece
  pub room_left : ℕ
  pub rest : List ℕ
  pub each : AllByRecursion IsItem client
  pub stalls : room_left + stalled_reads client ≡ room
  pub bytes_are : bytes ≡ items_before side.Client rest client
  pub refused : ItemsRefused side.Origin room_left rest left

-- these are the pieces and stalls of both sides, behind which so many reads may still wait
pub record AreSides (room : ℕ) (client origin : List Piece) (room_left : ℕ) (bytes rest : List ℕ)
    : Type 0 where
  pub client_each : AllByRecursion IsItem client
  pub origin_each : AllByRecursion IsItem origin
  pub stalls : room_left + stalled_reads origin + stalled_reads client ≡ room
  pub bytes_are : bytes ≡ items_before side.Client (items_before side.Origin rest origin) client

-- behind the keyword of a client that leaves no number follows
pub record LeaveRefused (version : ℕ) (bytes : List ℕ) (left : ℕ) : Type 0 where
  pub inside : List ℕ
  pub version_is : version ≡ SECOND_VERSION
  pub bytes_are : bytes ≡ keyword_text k.Leave ++ inside
  pub refused : BreaksOff (IsNumberText MOST_TAKEN) inside left

-- behind the line on a client that leaves, where it stands there, no keyword follows
pub record CloseRefused (version room : ℕ) (origin : List Piece) (bytes : List ℕ) (left : ℕ) : Type 0 where
  pub leave : Option ℕ
  pub rest : List ℕ
  pub may : MayLeave version leave
  pub bytes_are : bytes ≡ leave_before rest leave
  pub refused : BreaksOff (OneOf (keywords_inside version room origin leave)) rest left

-- behind the pieces and stalls of both sides a transaction is refused
pub record LastRefused (version room : ℕ) (bytes : List ℕ) (left : ℕ) : Type 0 where
  pub client : List Piece
  pub origin : List Piece
  pub room_left : ℕ
  pub rest : List ℕ
  pub sides : AreSides room client origin room_left bytes rest
  pub refused : LeaveRefused version rest left ⊎ CloseRefused version room_left origin rest left

-- a transaction is refused behind its first line
abbrev pub InsideRefused : ℕ → ℕ → List ℕ → ℕ → Type 0
InsideRefused version room bytes left =
    ItemsRefused side.Client room bytes left ⊎ OriginRefused room bytes left
    ⊎ LastRefused version room bytes left

abbrev pub StopsInside : ℕ → ℕ → List ℕ → PartRefusal → Type 0
StopsInside version room bytes (p.Left left) = InsideRefused version room bytes left
StopsInside version room bytes p.NoMemory = ⊤

-- ---- the recording

-- behind so many transactions no keyword follows, or bytes stand behind the last line
abbrev pub EndRefused : ℕ → List ℕ → ℕ → Type 0
EndRefused count bytes left =
    BreaksOff (OneOf (keywords_behind count)) bytes left
    ⊎ ((behind : List ℕ) × (bytes ≡ keyword_text k.End ++ behind) × (0 < length behind)
    × (left ≡ length behind))

abbrev pub StopsEnd : ℕ → List ℕ → PartRefusal → Type 0
StopsEnd count bytes (p.Left left) = EndRefused count bytes left
StopsEnd count bytes p.NoMemory = ⊤

-- transactions, and what follows
abbrev pub txns_before : List ℕ → List TxnPieces → List ℕ
txns_before behind [] = behind
txns_before behind (t ∷ ts) = keyword_text k.Txn ++ inside_before (txns_before behind ts) t

-- these are the first transactions of a recording of this version, behind which so many reads may still wait
pub record AreDone (version : ℕ) (done : List TxnPieces) (room_left : ℕ) (bytes rest : List ℕ) : Type 0 where
  pub few : length done ≤ MOST_TXNS
  pub each : AllByRecursion (IsTxn version) done
  pub stalls : room_left + stalls_in done ≡ stall_room version
  pub bytes_are : bytes ≡ txns_before rest done

-- behind so many transactions one more is refused behind its first line
pub record TxnRefused (version room count : ℕ) (bytes : List ℕ) (left : ℕ) : Type 0 where
  pub inside : List ℕ
  pub room_is : count < MOST_TXNS
  pub bytes_are : bytes ≡ keyword_text k.Txn ++ inside
  pub refused : InsideRefused version room inside left

-- behind these transactions one more is refused, or the end is
pub record TxnsRefused (version : ℕ) (bytes : List ℕ) (left : ℕ) : Type 0 where
  pub done : List TxnPieces
  pub room_left : ℕ
  pub rest : List ℕ
  pub are : AreDone version done room_left bytes rest
  pub refused : TxnRefused version room_left (length done) rest left ⊎ EndRefused (length done) rest left

abbrev pub StopsTxns : ℕ → List ℕ → PartRefusal → Type 0
StopsTxns version bytes (p.Left left) = TxnsRefused version bytes left
StopsTxns version bytes p.NoMemory = ⊤

-- so many bytes that are left, as the offset of a refusal
abbrev pub refusal_of : List ℕ → PartRefusal → RecordingRefusal
refusal_of bytes (p.Left left) = r.Fault (length bytes - left)
refusal_of bytes p.NoMemory = r.NoMemory
