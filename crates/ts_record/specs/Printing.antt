-- How the text of a recording grows while it is printed.
use Rattle.std.specs.Prelude.{◌≡◌, ℕ, List, ◌++◌, Option}
use Rattle.ts_link.specs.declared.piece.Piece.{Piece}
use Rattle.ts_record.specs.Grammar.{TxnPieces, piece_before, number_before, item_before, items_before}
use Rattle.ts_record.specs.Grammar.{leave_before, inside_before}
use Rattle.ts_record.specs.Keywords.{keyword_text}
use Rattle.ts_record.specs.declared.keyword.Keyword.{Keyword}
use Rattle.ts_record.specs.declared.keyword.Keyword.TheVariants as k
use Rattle.ts_record.specs.declared.keyword.Side.{Side}

-- what stood there still does, in front of what was printed: all of it, or a part where memory lacked
abbrev pub KeepsFront : List ℕ → List ℕ → Type 0
KeepsFront old new = (printed : List ℕ) × (new ≡ old ++ printed)

-- an output went from old to new by a text that stands before whatever is printed next
abbrev pub Prints : (List ℕ → List ℕ) → List ℕ → List ℕ → Type 0
Prints text_before old new = (behind : List ℕ) → new ++ behind ≡ old ++ text_before behind

-- by a piece behind its keyword
abbrev pub PrintsPiece : Keyword → List ℕ → List ℕ → List ℕ → Type 0
PrintsPiece keyword piece = Prints (λ behind. keyword_text keyword ++ piece_before behind piece)

-- by a number behind its keyword
abbrev pub PrintsNumber : Keyword → ℕ → List ℕ → List ℕ → Type 0
PrintsNumber keyword number = Prints (λ behind. keyword_text keyword ++ number_before behind number)

-- by a piece or a stall of a side
abbrev pub PrintsItem : Side → Piece → List ℕ → List ℕ → Type 0
PrintsItem from item = Prints (λ behind. item_before from behind item)

-- by the pieces and stalls of a side
abbrev pub PrintsItems : Side → List Piece → List ℕ → List ℕ → Type 0
PrintsItems from items = Prints (λ behind. items_before from behind items)

-- by how many bytes a client takes, where it leaves
abbrev pub PrintsLeave : Option ℕ → List ℕ → List ℕ → Type 0
PrintsLeave leave = Prints (λ behind. leave_before behind leave)

-- by a transaction
abbrev pub PrintsTxn : TxnPieces → List ℕ → List ℕ → Type 0
PrintsTxn txn = Prints (λ behind. keyword_text k.Txn ++ inside_before behind txn)
