-- What was read so far, with one more.
use Rattle.std.proofs.Common.{◌≡◌, ℕ, ◌+◌, ◌-◌, ◌<◌, ◌≤◌, List, [], ◌∷◌, ◌++◌, length, None, Some, Option, ap}
use Rattle.std.proofs.Common.{sym}
use Rattle.std.proofs.Common.{◌∙◌, subst, refl, arith, length-append}
use Rattle.std.specs.List.{AllByRecursion}
use Rattle.std.specs.Fmt.{decimal}
use Rattle.ts_link.specs.Inputs.{stalled_reads}
use Rattle.ts_link.specs.declared.piece.Piece.{Piece}
use Rattle.ts_link.specs.declared.piece.Piece.TheVariants.{Bytes, Stall}
use Rattle.ts_lists.proofs.Elements.{each_push}
use Rattle.ts_record.specs.Grammar.{TxnPieces, piece_before, number_before, item_before}
use Rattle.ts_record.specs.Grammar.{items_before}
use Rattle.ts_record.specs.Grammar.{leave_before, inside_before, IsItem, IsTxn}
use Rattle.ts_record.specs.Grammar.{stalls_in}
use Rattle.ts_record.specs.Keywords.{keyword_text, piece_keyword, stall_keyword}
use Rattle.ts_record.specs.Refusing.{IsItemOf, txns_before, AreDone}
use Rattle.ts_record.specs.declared.recording.TheConstants.{MOST_TXNS}
use Rattle.ts_record.specs.declared.keyword.Keyword.TheVariants as k
use Rattle.ts_record.specs.declared.keyword.Side.{Side}
use Rattle.ts_record.specs.declared.keyword.Side.TheVariants as side

-- ---- the pieces and stalls of a side

items_more : (from : Side) (behind : List ℕ) (i : Piece) (is : List Piece)
    → items_before from behind (is ++ i ∷ []) ≡ items_before from (item_before from behind i) is
items_more from behind i [] = refl
items_more from behind i (j ∷ js) = ap (λ t. item_before from t j) (items_more from behind i js)

stalls_more : (i : Piece) (is : List Piece)
    → stalled_reads (is ++ i ∷ []) ≡ stalled_reads is + stalled_reads (i ∷ [])
stalls_more i [] = omega arith
stalls_more i (Bytes p ∷ js) = stalls_more i js
stalls_more i (Stall n ∷ js) = omega (arith, stalls_more i js)

-- these were read of a side, behind which the rest stands, and so many reads may still wait
pub record AreRead (from : Side) (room : ℕ) (bytes : List ℕ) (items : List Piece) (left : ℕ) (rest : List ℕ)
    : Type 0 where
  pub each : AllByRecursion IsItem items
  pub stalls : left + stalled_reads items ≡ room
  pub text : bytes ≡ items_before from rest items

-- one more
pub more_read : (from : Side) (room left reads left' : ℕ) (bytes rest behind : List ℕ) (i : Piece)
    (is new : List Piece) → AreRead from room bytes is left rest → IsItemOf from left rest i behind
    → reads ≡ stalled_reads (i ∷ []) → left' ≡ left - reads → new ≡ is ++ i ∷ []
    → AreRead from room bytes new left' behind
more_read from room left reads left' bytes rest behind i is new r item counted less push = record {
  each = subst (AllByRecursion IsItem) (sym push) (each_push IsItem is i r.each item.is);
  stalls = omega (arith, r.stalls, item.fits, counted, less, ap stalled_reads push, stalls_more i is);
  text = r.text ∙ ap (λ t. items_before from t is) item.text ∙ sym (items_more from behind i is)
      ∙ ap (items_before from behind) (sym push);
}

-- what stands behind a piece or a stall is shorter than it and that
keyword_some : (from : Side) → (0 < length (keyword_text (piece_keyword from)))
    × (0 < length (keyword_text (stall_keyword from)))
keyword_some side.Client = (omega arith, omega arith)
keyword_some side.Origin = (omega arith, omega arith)

item_longer : (from : Side) (behind : List ℕ) (i : Piece) → length behind < length (item_before from behind i)
item_longer from behind (Bytes p) =
    omega (
      arith,
      (keyword_some from).0,
      length-append (keyword_text (piece_keyword from)) (piece_before behind p),
      length-append (decimal (length p)) (10 ∷ (p ++ 10 ∷ behind)),
      length-append p (10 ∷ behind),
    )
item_longer from behind (Stall n) =
    omega (
      arith,
      (keyword_some from).1,
      length-append (keyword_text (stall_keyword from)) (number_before behind n),
      length-append (decimal n) (10 ∷ behind),
    )

items_longer : (from : Side) (behind : List ℕ) (is : List Piece)
    → length behind ≤ length (items_before from behind is)
items_longer from behind [] = omega arith
items_longer from behind (i ∷ is) =
    omega (arith, items_longer from behind is, item_longer from (items_before from behind is) i)

-- ---- transactions

txns_more : (behind : List ℕ) (t : TxnPieces) (ts : List TxnPieces)
    → txns_before behind (ts ++ t ∷ []) ≡ txns_before (keyword_text k.Txn ++ inside_before behind t) ts
txns_more behind t [] = refl
txns_more behind t (u ∷ us) = ap (λ x. keyword_text k.Txn ++ inside_before x u) (txns_more behind t us)

all_stalls_more : (t : TxnPieces) (ts : List TxnPieces)
    → stalls_in (ts ++ t ∷ []) ≡ stalls_in ts + stalls_in (t ∷ [])
all_stalls_more t [] = omega arith
all_stalls_more t (u ∷ us) = omega (arith, all_stalls_more t us)

-- one more
pub more_done : (version room left : ℕ) (bytes rest inside behind : List ℕ) (t : TxnPieces)
    (ts new : List TxnPieces) → AreDone version ts room bytes rest → length ts < MOST_TXNS
    → rest ≡ keyword_text k.Txn ++ inside → inside ≡ inside_before behind t → IsTxn version t
    → left + stalls_in (t ∷ []) ≡ room → new ≡ ts ++ t ∷ [] → AreDone version new left bytes behind
more_done version room left bytes rest inside behind t ts new d few opens text is stalls push = record {
  few = omega (arith, few, ap length push, length-append ts (t ∷ []));
  each = subst (AllByRecursion (IsTxn version)) (sym push) (each_push (IsTxn version) ts t d.each is);
  stalls = omega (arith, stalls, d.stalls, ap stalls_in push, all_stalls_more t ts);
  bytes_are = d.bytes_are ∙ ap (λ x. txns_before x ts) (opens ∙ ap (λ x. keyword_text k.Txn ++ x) text)
      ∙ sym (txns_more behind t ts) ∙ ap (txns_before behind) (sym push);
}

leave_longer : (behind : List ℕ) (leave : Option ℕ) → length behind ≤ length (leave_before behind leave)
leave_longer behind None = omega arith
leave_longer behind (Some m) =
    omega (
      arith,
      length-append (keyword_text k.Leave) (number_before behind m),
      length-append (decimal m) (10 ∷ behind),
    )

-- what stands behind a transaction is shorter than it and that
pub shorter_behind : (rest inside behind : List ℕ) (t : TxnPieces) → rest ≡ keyword_text k.Txn ++ inside
    → inside ≡ inside_before behind t → length behind < length rest
shorter_behind rest inside behind t opens text =
    let last : List ℕ = keyword_text k.Close ++ behind in
    let ends : List ℕ = leave_before last t.leave in
    omega (
      arith,
      ap length opens,
      ap length text,
      length-append (keyword_text k.Txn) inside,
      length-append (keyword_text k.Close) behind,
      leave_longer last t.leave,
      items_longer side.Origin ends t.origin,
      items_longer side.Client (items_before side.Origin ends t.origin) t.client,
    )
