-- A text is that of one recording.
use Rattle.std.proofs.Common.{◌≡◌, ℕ, ◌^◌, ◌<◌, List, [], ◌∷◌, ◌++◌, length, None, Some, Option, ap, sym, ◌∙◌}
use Rattle.std.proofs.Common.{subst}
use Rattle.std.proofs.Common.{refl, arith}
use Rattle.std.specs.List.{AllByRecursion}
use Rattle.std.proofs.lemmas.List.{append_cancel_left}
use Rattle.ts_link.specs.declared.piece.Piece.{Piece}
use Rattle.ts_link.specs.declared.piece.Piece.TheVariants.{Bytes, Stall}
use Rattle.ts_lists.proofs.Fronts.{same_fronts}
use Rattle.ts_record.specs.Grammar.{Contents, TxnPieces, contents, piece_before, number_before, items_before}
use Rattle.ts_record.specs.Grammar.{leave_before, inside_before, txns_text}
use Rattle.ts_record.specs.Grammar.{IsRecordedPiece, IsItem, IsTxn, MayLeave, IsRecording}
use Rattle.ts_record.specs.Keywords.{keyword_text, header_of, piece_keyword, stall_keyword, LacksKeyword}
use Rattle.ts_record.specs.declared.keyword.Keyword.TheVariants as k
use Rattle.ts_record.specs.declared.keyword.Side.{Side}
use Rattle.ts_record.specs.declared.keyword.Side.TheVariants as side
use Rattle.ts_record.proofs.Apart.{same_version, stall_not_piece, piece_not_stall, origin_not_client}
use Rattle.ts_record.proofs.Apart.{origin_stall_not_client, leave_not_client, close_not_client}
use Rattle.ts_record.proofs.Apart.{leave_not_origin, close_not_origin, close_not_leave, end_not_txn}
use Rattle.ts_record.proofs.Numbers.{same_number}

pub same_piece : (p q x y : List ℕ) → IsRecordedPiece p → IsRecordedPiece q
    → piece_before x p ≡ piece_before y q → (p ≡ q) × (x ≡ y)
same_piece p q x y is also same =
    let number = same_number (length p) (length q) (p ++ 10 ∷ x) (q ++ 10 ∷ y) (omega arith)
    (omega arith) same in
    let rest = same_fronts p q (10 ∷ x) (10 ∷ y) number.0 number.1 in
    let fed : (10 ∷ x) ≡ (10 ∷ y) = rest.1 in (rest.0, cc)

pub same_count : (m n : ℕ) (x y : List ℕ) → m < 2 ^ 64 → n < 2 ^ 64 → number_before x m ≡ number_before y n
    → (m ≡ n) × (x ≡ y)
same_count m n x y small also same = same_number m n x y small also same

-- no keyword of a side stands at the front
record LacksSide (from : Side) (bytes : List ℕ) : Type 0 where
  piece : LacksKeyword bytes (piece_keyword from)
  stall : LacksKeyword bytes (stall_keyword from)

-- pieces and stalls before texts that do not go on with their keywords
same_items : (from : Side) (x y : List ℕ) (ps qs : List Piece) → AllByRecursion IsItem ps
    → AllByRecursion IsItem qs → LacksSide from x → LacksSide from y
    → items_before from x ps ≡ items_before from y qs → (ps ≡ qs) × (x ≡ y)
same_items from x y [] [] each also left right same = (refl, same)
same_items from x y [] (Bytes q ∷ qs) each also left right same =
    absurd (left.piece (piece_before (items_before from y qs) q) same)
same_items from x y [] (Stall n ∷ qs) each also left right same =
    absurd (left.stall (number_before (items_before from y qs) n) same)
same_items from x y (Bytes p ∷ ps) [] each also left right same =
    absurd (right.piece (piece_before (items_before from x ps) p) (sym same))
same_items from x y (Stall m ∷ ps) [] each also left right same =
    absurd (right.stall (number_before (items_before from x ps) m) (sym same))
same_items from x y (Bytes p ∷ ps) (Stall n ∷ qs) each also left right same =
    absurd (piece_not_stall from (piece_before (items_before from x ps) p)
    (number_before (items_before from y qs) n) same)
same_items from x y (Stall m ∷ ps) (Bytes q ∷ qs) each also left right same =
    absurd (stall_not_piece from (number_before (items_before from x ps) m)
    (piece_before (items_before from y qs) q) same)
same_items from x y (Bytes p ∷ ps) (Bytes q ∷ qs) each also left right same =
    let inside = append_cancel_left (keyword_text (piece_keyword from))
    (piece_before (items_before from x ps) p) (piece_before (items_before from y qs) q) same in
    let first = same_piece p q (items_before from x ps) (items_before from y qs) each.0 also.0 inside in
    let rest = same_items from x y ps qs each.1 also.1 left right first.1 in
    (ap (λ b. Bytes b ∷ ps) first.0 ∙ ap (λ is. Bytes q ∷ is) rest.0, rest.1)
same_items from x y (Stall m ∷ ps) (Stall n ∷ qs) each also left right same =
    let inside = append_cancel_left (keyword_text (stall_keyword from))
    (number_before (items_before from x ps) m) (number_before (items_before from y qs) n) same in
    let small : m < 2 ^ 64 = let most = each.0.1 in omega (arith, most) in
    let little : n < 2 ^ 64 = let most = also.0.1 in omega (arith, most) in
    let first = same_count m n (items_before from x ps) (items_before from y qs) small little inside in
    let rest = same_items from x y ps qs each.1 also.1 left right first.1 in
    (ap (λ i. Stall i ∷ ps) first.0 ∙ ap (λ is. Stall n ∷ is) rest.0, rest.1)

-- the last lines of a transaction
abbrev ends : List ℕ → Option ℕ → List ℕ
ends x leave = leave_before (keyword_text k.Close ++ x) leave

ends_lack_client : (x : List ℕ) (leave : Option ℕ) → LacksSide side.Client (ends x leave)
ends_lack_client x None = record { piece = close_not_client.piece x; stall = close_not_client.stall x }
ends_lack_client x (Some m) =
    let behind : List ℕ = number_before (keyword_text k.Close ++ x) m in
    record { piece = leave_not_client.piece behind; stall = leave_not_client.stall behind }

ends_lack_origin : (x : List ℕ) (leave : Option ℕ) → LacksSide side.Origin (ends x leave)
ends_lack_origin x None = record { piece = close_not_origin.piece x; stall = close_not_origin.stall x }
ends_lack_origin x (Some m) =
    let behind : List ℕ = number_before (keyword_text k.Close ++ x) m in
    record { piece = leave_not_origin.piece behind; stall = leave_not_origin.stall behind }

-- an origin's pieces and stalls, and the last lines
origin_lacks_client : (x : List ℕ) (leave : Option ℕ) (origin : List Piece)
    → LacksSide side.Client (items_before side.Origin (ends x leave) origin)
origin_lacks_client x leave [] = ends_lack_client x leave
origin_lacks_client x leave (Bytes p ∷ ps) =
    let behind : List ℕ = piece_before (items_before side.Origin (ends x leave) ps) p in
    record { piece = origin_not_client.piece behind; stall = origin_not_client.stall behind }
origin_lacks_client x leave (Stall n ∷ ps) =
    let behind : List ℕ = number_before (items_before side.Origin (ends x leave) ps) n in
    record { piece = origin_stall_not_client.piece behind; stall = origin_stall_not_client.stall behind }

same_ends : (version : ℕ) (x y : List ℕ) (a b : Option ℕ) → MayLeave version a → MayLeave version b
    → ends x a ≡ ends y b → (a ≡ b) × (x ≡ y)
same_ends version x y None None may also same = (refl, append_cancel_left (keyword_text k.Close) x y same)
same_ends version x y None (Some n) may also same =
    absurd (close_not_leave x (number_before (keyword_text k.Close ++ y) n) same)
same_ends version x y (Some m) None may also same =
    absurd (close_not_leave y (number_before (keyword_text k.Close ++ x) m) (sym same))
same_ends version x y (Some m) (Some n) may also same =
    let left : List ℕ = keyword_text k.Close ++ x in let right : List ℕ = keyword_text k.Close ++ y in
    let small : m < 2 ^ 64 = let most = may.2 in omega (arith, most) in
    let little : n < 2 ^ 64 = let most = also.2 in omega (arith, most) in
    let inside = append_cancel_left (keyword_text k.Leave) (number_before left m) (number_before right n)
    same in
    let first = same_count m n left right small little inside in
    (ap (λ i. Some i) first.0, append_cancel_left (keyword_text k.Close) x y first.1)

-- a transaction of its parts
abbrev made : List Piece → List Piece → Option ℕ → TxnPieces
made client origin leave = record { client = client; origin = origin; leave = leave }

same_inside : (version : ℕ) (t u : TxnPieces) (x y : List ℕ) → IsTxn version t → IsTxn version u
    → inside_before x t ≡ inside_before y u → (t ≡ u) × (x ≡ y)
same_inside version t u x y is also same =
    let client = same_items side.Client (items_before side.Origin (ends x t.leave) t.origin)
    (items_before side.Origin (ends y u.leave) u.origin) t.client u.client is.client also.client
    (origin_lacks_client x t.leave t.origin) (origin_lacks_client y u.leave u.origin) same in
    let origin = same_items side.Origin (ends x t.leave) (ends y u.leave) t.origin u.origin is.origin
    also.origin (ends_lack_origin x t.leave) (ends_lack_origin y u.leave) client.1 in
    let last = same_ends version x y t.leave u.leave is.leave also.leave origin.1 in
    (whole client.0 origin.0 last.0, last.1)
  where
    whole : t.client ≡ u.client → t.origin ≡ u.origin → t.leave ≡ u.leave → t ≡ u
    whole c o l =
        ap (λ z. made z t.origin t.leave) c ∙ ap (λ z. made u.client z t.leave) o
        ∙ ap (λ z. made u.client u.origin z) l

same_txns : (version : ℕ) (ts us : List TxnPieces) → AllByRecursion (IsTxn version) ts
    → AllByRecursion (IsTxn version) us → txns_text ts ≡ txns_text us → ts ≡ us
same_txns version [] [] each also same = refl
same_txns version [] (u ∷ us) each also same =
    absurd (end_not_txn [] (inside_before (txns_text us) u) same)
same_txns version (t ∷ ts) [] each also same =
    absurd (end_not_txn [] (inside_before (txns_text ts) t) (sym same))
same_txns version (t ∷ ts) (u ∷ us) each also same =
    let inside = same_inside version t u (txns_text ts) (txns_text us) each.0 also.0
    (append_cancel_left (keyword_text k.Txn) (inside_before (txns_text ts) t)
    (inside_before (txns_text us) u) same) in
    let rest : ts ≡ us = same_txns version ts us each.1 also.1 inside.1 in
    ap (λ x. x ∷ ts) inside.0 ∙ ap (λ xs. u ∷ xs) rest

pub one_recording : (bytes : List ℕ) (r other : Contents) → IsRecording bytes r → IsRecording bytes other
    → other ≡ r
one_recording bytes r other is also =
    ap (λ v. contents v other.txns) version ∙ ap (λ ts. contents r.version ts) txns
  where
    version : other.version ≡ r.version
    version = same_version other.version r.version (txns_text other.txns) (txns_text r.txns)
        also.limits.version is.limits.version (sym also.text ∙ is.text)

    texts : txns_text other.txns ≡ txns_text r.txns
    texts = append_cancel_left (keyword_text (header_of r.version)) (txns_text other.txns) (txns_text r.txns)
        (ap (λ v. keyword_text (header_of v) ++ txns_text other.txns) (sym version) ∙ sym also.text ∙ is.text)

    txns : other.txns ≡ r.txns
    txns = same_txns r.version other.txns r.txns
        (subst (λ v. AllByRecursion (IsTxn v) other.txns) version also.limits.each) is.limits.each texts
