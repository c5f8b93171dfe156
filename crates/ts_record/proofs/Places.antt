-- The texts that can stand at each place of a recording.
use Rattle.std.proofs.Common.{◌≡◌, ℕ, ◌+◌, ◌<◌, ◌≤◌, suc, List, [], ◌∷◌, ◌++◌, length, None, Some}
use Rattle.std.proofs.Common.{sym, ◌∙◌}
use Rattle.std.proofs.Common.{refl, arith, lit≤, Option}
use Rattle.std.specs.List.{AllByRecursion}
use Rattle.ts_link.specs.Inputs.{stalled_reads}
use Rattle.ts_link.specs.declared.piece.Piece.{Piece}
use Rattle.ts_link.specs.declared.piece.Piece.TheVariants.{Bytes, Stall}
use Rattle.ts_record.specs.Grammar.{Contents, TxnPieces, piece_before, number_before, items_before}
use Rattle.ts_record.specs.Grammar.{leave_before}
use Rattle.ts_record.specs.Grammar.{txns_text, IsRecordedPiece, IsItem, IsTxn, MayLeave, IsRecording}
use Rattle.ts_record.specs.Grammar.{stalls_in}
use Rattle.ts_record.specs.Keywords.{keyword_text, LacksKeyword, piece_keyword, stall_keyword}
use Rattle.ts_record.specs.declared.recording.TheConstants.{MOST_TXNS}
use Rattle.ts_record.specs.declared.keyword.Keyword.{Keyword}
use Rattle.ts_record.specs.declared.keyword.Keyword.TheVariants as k
use Rattle.ts_record.specs.declared.keyword.Side.{Side}
use Rattle.ts_record.specs.declared.keyword.Side.TheVariants as side
use Rattle.ts_record.proofs.Apart.{Differ, origin_not_client, origin_stall_not_client, leave_not_client}
use Rattle.ts_record.proofs.Apart.{close_not_client, leave_not_origin, close_not_origin}

-- ---- the places, from the outer to the inner ones

-- whole recordings
abbrev pub Recordings : List ℕ → Type 0
Recordings z = (r : Contents) × IsRecording z r

-- behind so many transactions of a version, where so many reads may still wait
abbrev pub Txns : ℕ → ℕ → ℕ → List ℕ → Type 0
Txns version count room z = (ts : List TxnPieces) × (count + length ts ≤ MOST_TXNS)
    × AllByRecursion (IsTxn version) ts × (stalls_in ts ≤ room) × (z ≡ txns_text ts)

-- behind the line on a client that leaves, in the transaction behind so many
abbrev pub Closes : ℕ → ℕ → ℕ → List ℕ → Type 0
Closes version count room z =
    (y : List ℕ) × Txns version (suc count) room y × (z ≡ keyword_text k.Close ++ y)

-- behind the pieces and stalls of both sides
abbrev pub Lasts : ℕ → ℕ → ℕ → List ℕ → Type 0
Lasts version count room z = (leave : Option ℕ) × (y : List ℕ) × MayLeave version leave
    × Closes version count room y × (z ≡ leave_before y leave)

-- behind pieces and stalls of a side, behind all of which such texts stand
abbrev pub Items : Side → (ℕ → List ℕ → Type 0) → ℕ → List ℕ → Type 0
Items from Next room z = (items : List Piece) × (left : ℕ) × (y : List ℕ) × AllByRecursion IsItem items
    × (left + stalled_reads items ≡ room) × Next left y × (z ≡ items_before from y items)

-- of an origin
abbrev pub Origins : ℕ → ℕ → ℕ → List ℕ → Type 0
Origins version count = Items side.Origin (Lasts version count)

-- of a client
abbrev pub Clients : ℕ → ℕ → ℕ → List ℕ → Type 0
Clients version count = Items side.Client (Origins version count)

-- behind the keyword of a piece, behind which texts of this kind stand
abbrev pub PieceTexts : (List ℕ → Type 0) → List ℕ → Type 0
PieceTexts Next z = (piece : List ℕ) × (y : List ℕ) × IsRecordedPiece piece × Next y
    × (z ≡ piece_before y piece)

-- behind the keyword of a number up to a limit, behind which texts of its own kind stand
abbrev pub NumberTexts : ℕ → (ℕ → List ℕ → Type 0) → List ℕ → Type 0
NumberTexts limit Next z = (n : ℕ) × (y : List ℕ) × (1 ≤ n) × (n ≤ limit) × Next n y
    × (z ≡ number_before y n)

-- behind the last line
abbrev pub Nothing : List ℕ → Type 0
Nothing z = z ≡ []

-- ---- at each place some text can stand

pub some_txns : (version count room : ℕ) → count ≤ MOST_TXNS → Txns version count room (keyword_text k.End)
some_txns version count room within = ([], omega arith, tt, omega arith, refl)

-- the last lines of a transaction and of a recording
abbrev pub last_lines : List ℕ
last_lines = keyword_text k.Close ++ keyword_text k.End

pub some_closes : (version count room : ℕ) → count < MOST_TXNS → Closes version count room last_lines
some_closes version count room within =
    (keyword_text k.End, some_txns version (suc count) room (omega arith), refl)

pub some_lasts : (version count room : ℕ) → count < MOST_TXNS → Lasts version count room last_lines
some_lasts version count room within = (None, last_lines, tt, some_closes version count room within, refl)

-- what stands behind a side stands there too where the side does nothing
pub no_items : (from : Side) (Next : ℕ → List ℕ → Type 0) (room : ℕ) (z : List ℕ) → Next room z
    → Items from Next room z
no_items from Next room z next = ([], room, z, tt, omega arith, next, refl)

pub some_origins : (version count room : ℕ) → count < MOST_TXNS → Origins version count room last_lines
some_origins version count room within =
    no_items side.Origin (Lasts version count) room last_lines (some_lasts version count room within)

pub some_clients : (version count room : ℕ) → count < MOST_TXNS → Clients version count room last_lines
some_clients version count room within =
    no_items side.Client (Origins version count) room last_lines (some_origins version count room within)

-- a piece of one byte
abbrev pub some_piece : List ℕ
some_piece = 97 ∷ []

pub some_piece_text : (Next : List ℕ → Type 0) (z : List ℕ) → Next z
    → PieceTexts Next (piece_before z some_piece)
some_piece_text Next z next = (some_piece, z, (lit≤ tt, lit≤ tt), next, refl)

-- ---- what stands behind a side begins with none of its keywords

pub record AreApart (from : Side) (Next : ℕ → List ℕ → Type 0) : Type 0 where
  pub piece : (room : ℕ) (z : List ℕ) → Next room z → LacksKeyword z (piece_keyword from)
  pub stall : (room : ℕ) (z : List ℕ) → Next room z → LacksKeyword z (stall_keyword from)

last_lacks : (keyword : Keyword) (version count room : ℕ) (z : List ℕ) → Differ k.Close keyword
    → Differ k.Leave keyword → Lasts version count room z → LacksKeyword z keyword
last_lacks keyword version count room z close leave (None, y, may, (x, txns, ends), text) =
    λ behind same. close x behind (sym (text ∙ ends) ∙ same)
last_lacks keyword version count room z close leave (Some m, y, may, closes, text) =
    λ behind same. leave (number_before y m) behind (sym text ∙ same)

origin_lacks : (keyword : Keyword) (version count room : ℕ) (z : List ℕ) → Differ k.Close keyword
    → Differ k.Leave keyword → Differ k.Origin keyword → Differ k.OriginStall keyword
    → Origins version count room z → LacksKeyword z keyword
origin_lacks keyword version count room z close leave piece stall ([], left, y, each, stalls, last, text) =
    λ behind same. last_lacks keyword version count left y close leave last behind (sym text ∙ same)
origin_lacks keyword version count room z close leave piece stall
    (Bytes p ∷ ps, left, y, each, stalls, last, text) =
    λ behind same. piece (piece_before (items_before side.Origin y ps) p) behind (sym text ∙ same)
origin_lacks keyword version count room z close leave piece stall
    (Stall n ∷ ps, left, y, each, stalls, last, text) =
    λ behind same. stall (number_before (items_before side.Origin y ps) n) behind (sym text ∙ same)

pub lasts_apart : (version count : ℕ) → AreApart side.Origin (Lasts version count)
lasts_apart version count = record {
  piece = λ room z. last_lacks k.Origin version count room z close_not_origin.piece leave_not_origin.piece;
  stall = λ room z. last_lacks k.OriginStall version count room z close_not_origin.stall
      leave_not_origin.stall;
}

pub origins_apart : (version count : ℕ) → AreApart side.Client (Origins version count)
origins_apart version count = record {
  piece = λ room z. origin_lacks k.Client version count room z close_not_client.piece leave_not_client.piece
      origin_not_client.piece origin_stall_not_client.piece;
  stall = λ room z. origin_lacks k.ClientStall version count room z close_not_client.stall
      leave_not_client.stall origin_not_client.stall origin_stall_not_client.stall;
}
