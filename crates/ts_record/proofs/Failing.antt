-- A refusal of a part of a recording, behind all that was read before it.
use Rattle.std.proofs.Common.{◌≡◌, ℕ, ◌+◌, ◌-◌, ◌^◌, ◌<◌, ◌≤◌, ◌⊎◌, suc, inl, inr, List, [], ◌∷◌, ◌++◌}
use Rattle.std.proofs.Common.{length, None}
use Rattle.std.proofs.Common.{Some, Option, ap, sym, ◌∙◌, subst, refl, arith}
use Rattle.std.specs.List.{AllByRecursion}
use Rattle.std.proofs.Math.Nat.{le-min}
use Rattle.ts_link.specs.Inputs.{stalled_reads}
use Rattle.ts_link.specs.declared.piece.Piece.{Piece}
use Rattle.ts_link.specs.declared.piece.Piece.TheVariants.{Bytes, Stall}
use Rattle.ts_record.specs.Grammar.{TxnPieces, piece_before, number_before, items_before, leave_before}
use Rattle.ts_record.specs.Grammar.{inside_before, IsRecordedPiece, IsItem, IsTxn, MayLeave, stalls_in}
use Rattle.ts_record.specs.Grammar.{stall_room}
use Rattle.ts_record.specs.Keywords.{keyword_text, piece_keyword, stall_keyword, keywords_inside}
use Rattle.ts_record.specs.Keywords.{keywords_behind}
use Rattle.ts_record.specs.Refusing.{Stuck, BreaksOff, OneOf, IsPieceText, IsNumberText, stall_limit}
use Rattle.ts_record.specs.Refusing.{ItemRefused}
use Rattle.ts_record.specs.Refusing.{ItemsRefused, LeaveRefused, CloseRefused, InsideRefused}
use Rattle.ts_record.specs.Refusing.{EndRefused, txns_before, TxnRefused, TxnsRefused}
use Rattle.ts_record.specs.declared.recording.TheConstants.{MOST_TAKEN, MOST_TXNS}
use Rattle.ts_record.specs.declared.keyword.Keyword.{Keyword}
use Rattle.ts_record.specs.declared.keyword.Keyword.TheVariants as k
use Rattle.ts_record.specs.declared.keyword.Side.{Side}
use Rattle.ts_record.specs.declared.keyword.Side.TheVariants as side
use Rattle.ts_record.proofs.Apart.{DifferFrom, IsVersion, origin_not_client, origin_stall_not_client}
use Rattle.ts_record.proofs.Apart.{leave_not_client, close_not_client, leave_not_origin, close_not_origin}
use Rattle.ts_record.proofs.Fails.{Fails, fails_at_token, fails_behind}
use Rattle.ts_record.proofs.Offered.{at_keyword, txns_offered, closes_offered, origins_offered}
use Rattle.ts_record.proofs.Offered.{clients_offered}
use Rattle.ts_record.proofs.Places.{Txns, Closes, Lasts, Items, Origins, Clients, PieceTexts, NumberTexts}
use Rattle.ts_record.proofs.Places.{Nothing}
use Rattle.ts_record.proofs.Places.{AreApart, lasts_apart, origins_apart, no_items, last_lines, some_closes}
use Rattle.ts_record.proofs.Places.{some_lasts, some_origins}
use Rattle.ts_record.proofs.Steps.{Step, at_txn, at_end, at_piece_keyword, at_stall_keyword, past_side}
use Rattle.ts_record.proofs.Steps.{at_leave}
use Rattle.ts_record.proofs.Steps.{at_close, at_plain_close, behind_piece_text, behind_number_text}
use Rattle.ts_record.proofs.Steps.{stall_within}
use Rattle.ts_record.proofs.Texts.{piece_behind, number_behind}

-- behind a token
behind : (Kind Next : List ℕ → Type 0) (token bytes : List ℕ) (n : ℕ) → Step Kind Next token
    → Fails Next bytes n → Fails Kind (token ++ bytes) n
behind Kind Next token bytes n step = fails_behind Kind Next token bytes n step.to step.from

-- behind a piece
behind_piece : (Next : List ℕ → Type 0) (piece bytes : List ℕ) (n : ℕ) → IsRecordedPiece piece
    → Fails Next bytes n → Fails (PieceTexts Next) (piece_before bytes piece) n
behind_piece Next piece bytes n is f =
    subst (λ t. Fails (PieceTexts Next) t n) (piece_behind piece bytes)
    (behind (PieceTexts Next) Next (piece_before [] piece) bytes n (behind_piece_text Next piece is) f)

-- behind a number
behind_number : (limit : ℕ) (Next : ℕ → List ℕ → Type 0) (m : ℕ) (bytes : List ℕ) (n : ℕ) → limit < 2 ^ 64
    → 1 ≤ m → m ≤ limit → Fails (Next m) bytes n → Fails (NumberTexts limit Next) (number_before bytes m) n
behind_number limit Next m bytes n below some most f =
    subst (λ t. Fails (NumberTexts limit Next) t n) (number_behind m bytes)
    (behind (NumberTexts limit Next) (Next m) (number_before [] m) bytes n
    (behind_number_text limit Next m below some most) f)

-- at a piece
at_piece : (Next : List ℕ → Type 0) (bytes y : List ℕ) (n : ℕ) → Next y → BreaksOff IsPieceText bytes n
    → Fails (PieceTexts Next) bytes n
at_piece Next bytes y n next r = fails_at_token IsPieceText (PieceTexts Next) bytes n goes opens r
  where
    goes : (t : List ℕ) → IsPieceText t → (z : List ℕ) × PieceTexts Next (t ++ z)
    goes t (piece, is, same) = (y, (piece, y, is, next, ap (λ u. u ++ y) same ∙ piece_behind piece y))

    opens : (z : List ℕ) → PieceTexts Next z
        → (token : List ℕ) × (rest : List ℕ) × IsPieceText token × (z ≡ token ++ rest)
    opens z (piece, x, is, also, same) =
        (piece_before [] piece, x, (piece, is, refl), same ∙ sym (piece_behind piece x))

-- at a number
at_number : (limit : ℕ) (Next : ℕ → List ℕ → Type 0) (bytes y : List ℕ) (n : ℕ)
    → ((m : ℕ) → Next m y) → BreaksOff (IsNumberText limit) bytes n → Fails (NumberTexts limit Next) bytes n
at_number limit Next bytes y n next r =
    fails_at_token (IsNumberText limit) (NumberTexts limit Next) bytes n goes opens r
  where
    goes : (t : List ℕ) → IsNumberText limit t → (z : List ℕ) × NumberTexts limit Next (t ++ z)
    goes t (m, some, most, same) =
        (y, (m, y, some, most, next m, ap (λ u. u ++ y) same ∙ number_behind m y))

    opens : (z : List ℕ) → NumberTexts limit Next z
        → (token : List ℕ) × (rest : List ℕ) × IsNumberText limit token × (z ≡ token ++ rest)
    opens z (m, x, some, most, also, same) =
        (number_before [] m, x, (m, some, most, refl), same ∙ sym (number_behind m x))

-- ---- the pieces and stalls of a side

-- how many reads may wait at a stall is a small number
small_limit : (room : ℕ) → stall_limit room < 2 ^ 64
small_limit room = let within = stall_within (stall_limit room) room (omega arith) in omega (arith, within.1)

module _ (from : Side) (Next : ℕ → List ℕ → Type 0) (apart : AreApart from Next) where
  -- behind a piece and its keyword, and behind a stall and its keyword, in front of whatever such texts stand
  piece_fails : (Kind : List ℕ → Type 0) (room : ℕ) (p bytes : List ℕ) (n : ℕ)
      → Step Kind (PieceTexts (Items from Next room)) (keyword_text (piece_keyword from)) → IsRecordedPiece p
      → Fails (Items from Next room) bytes n
      → Fails Kind (keyword_text (piece_keyword from) ++ piece_before bytes p) n
  piece_fails Kind room p bytes n step is f =
      behind Kind (PieceTexts (Items from Next room)) (keyword_text (piece_keyword from))
      (piece_before bytes p) n step (behind_piece (Items from Next room) p bytes n is f)

  stall_fails : (Kind : List ℕ → Type 0) (room m : ℕ) (bytes : List ℕ) (n : ℕ)
      → Step Kind (NumberTexts (stall_limit room) (λ i. Items from Next (room - i)))
      (keyword_text (stall_keyword from)) → 1 ≤ m → m ≤ stall_limit room
      → Fails (Items from Next (room - m)) bytes n
      → Fails Kind (keyword_text (stall_keyword from) ++ number_before bytes m) n
  stall_fails Kind room m bytes n step some most f =
      behind Kind (NumberTexts (stall_limit room) (λ i. Items from Next (room - i)))
      (keyword_text (stall_keyword from)) (number_before bytes m) n step
      (behind_number (stall_limit room) (λ i. Items from Next (room - i)) m bytes n (small_limit room) some
      most f)

  -- behind all of them
  pub items_fail : (items : List Piece) (left room : ℕ) (bytes : List ℕ) (n : ℕ)
      → AllByRecursion IsItem items → left + stalled_reads items ≡ room
      → Fails (Items from Next left) bytes n
      → Fails (Items from Next room) (items_before from bytes items) n
  items_fail [] left room bytes n each stalls f =
      let all : left ≡ room = omega (arith, stalls) in subst (λ r. Fails (Items from Next r) bytes n) all f
  items_fail (Bytes p ∷ items) left room bytes n each stalls f =
      piece_fails (Items from Next room) room p (items_before from bytes items) n
      (at_piece_keyword from Next room apart) each.0 (items_fail items left room bytes n each.1 stalls f)
  items_fail (Stall m ∷ items) left room bytes n each stalls f =
      stall_fails (Items from Next room) room m (items_before from bytes items) n
      (at_stall_keyword from Next room apart) each.0.0 (le-min (omega (arith, stalls)) each.0.1)
      (items_fail items left (room - m) bytes n each.1 (omega (arith, stalls)) f)

  -- behind one and more of them, where something else may stand in their place
  pub first_items_fail : (Kind : List ℕ → Type 0) (item : Piece) (items : List Piece) (left room : ℕ)
      (bytes : List ℕ) (n : ℕ)
      → Step Kind (PieceTexts (Items from Next room)) (keyword_text (piece_keyword from))
      → Step Kind (NumberTexts (stall_limit room) (λ i. Items from Next (room - i)))
      (keyword_text (stall_keyword from))
      → AllByRecursion IsItem (item ∷ items) → left + stalled_reads (item ∷ items) ≡ room
      → Fails (Items from Next left) bytes n → Fails Kind (items_before from bytes (item ∷ items)) n
  first_items_fail Kind (Bytes p) items left room bytes n piece stall each stalls f =
      piece_fails Kind room p (items_before from bytes items) n piece each.0
      (items_fail items left room bytes n each.1 stalls f)
  first_items_fail Kind (Stall m) items left room bytes n piece stall each stalls f =
      stall_fails Kind room m (items_before from bytes items) n stall each.0.0
      (le-min (omega (arith, stalls)) each.0.1)
      (items_fail items left (room - m) bytes n each.1 (omega (arith, stalls)) f)

  -- at one more of them
  pub item_fails : (Kind : List ℕ → Type 0) (room : ℕ) (bytes : List ℕ) (n : ℕ)
      → ((m : ℕ) → Next m last_lines)
      → Step Kind (PieceTexts (Items from Next room)) (keyword_text (piece_keyword from))
      → Step Kind (NumberTexts (stall_limit room) (λ i. Items from Next (room - i)))
      (keyword_text (stall_keyword from))
      → ItemRefused from room bytes n → Fails Kind bytes n
  item_fails Kind room bytes n some piece stall (inl r) =
      subst (λ t. Fails Kind t n) (sym r.bytes_are)
      (behind Kind (PieceTexts (Items from Next room)) (keyword_text (piece_keyword from)) r.inside n piece
      (at_piece (Items from Next room) r.inside last_lines n
      (no_items from Next room last_lines (some room)) r.refused))
  item_fails Kind room bytes n some piece stall (inr r) =
      subst (λ t. Fails Kind t n) (sym r.bytes_are)
      (behind Kind (NumberTexts (stall_limit room) (λ i. Items from Next (room - i)))
      (keyword_text (stall_keyword from)) r.inside n stall
      (at_number (stall_limit room) (λ i. Items from Next (room - i)) r.inside last_lines n
      (λ m. no_items from Next (room - m) last_lines (some (room - m))) r.refused))

-- ---- a transaction, behind so many and its first line

module _ (version count : ℕ) (is_version : IsVersion version) (below : count < MOST_TXNS) where
  -- where an origin's keyword stands behind what a client does
  origin_piece : (room : ℕ)
      → Step (Clients version count room) (PieceTexts (Origins version count room)) (keyword_text k.Origin)
  origin_piece room = past_side side.Client (Origins version count) room k.Origin
      (PieceTexts (Origins version count room)) origin_not_client
      (at_piece_keyword side.Origin (Lasts version count) room (lasts_apart version count))

  origin_stall : (room : ℕ)
      → Step (Clients version count room)
      (NumberTexts (stall_limit room) (λ i. Origins version count (room - i)))
      (keyword_text k.OriginStall)
  origin_stall room = past_side side.Client (Origins version count) room k.OriginStall
      (NumberTexts (stall_limit room) (λ i. Origins version count (room - i))) origin_stall_not_client
      (at_stall_keyword side.Origin (Lasts version count) room (lasts_apart version count))

  -- behind what a client does
  behind_client : (client : List Piece) (left room : ℕ) (bytes : List ℕ) (n : ℕ)
      → AllByRecursion IsItem client → left + stalled_reads client ≡ room
      → Fails (Clients version count left) bytes n
      → Fails (Clients version count room) (items_before side.Client bytes client) n
  behind_client = items_fail side.Client (Origins version count) (origins_apart version count)

  -- what an origin does is refused
  origin_fails : (left : ℕ) (bytes : List ℕ) (n : ℕ) → ItemsRefused side.Origin left bytes n
      → Fails (Clients version count left) bytes n
  origin_fails left bytes n r =
      subst (λ t. Fails (Clients version count left) t n) (sym r.bytes_are) (at r.items r.each r.stalls)
    where
      some : (m : ℕ) → Lasts version count m last_lines
      some m = some_lasts version count m below

      apart : AreApart side.Origin (Lasts version count)
      apart = lasts_apart version count

      at : (items : List Piece) → AllByRecursion IsItem items → r.room_left + stalled_reads items ≡ left
          → Fails (Clients version count left) (items_before side.Origin r.rest items) n
      at [] each stalls =
          let all : r.room_left ≡ left = omega (arith, stalls) in
          subst (λ m. Fails (Clients version count m) r.rest n) all
          (item_fails side.Origin (Lasts version count) apart (Clients version count r.room_left) r.room_left
          r.rest n some (origin_piece r.room_left) (origin_stall r.room_left) r.refused)
      at (item ∷ items) each stalls =
          first_items_fail side.Origin (Lasts version count) apart (Clients version count left) item items
          r.room_left left r.rest n (origin_piece left) (origin_stall left) each stalls
          (item_fails side.Origin (Lasts version count) apart (Origins version count r.room_left)
          r.room_left r.rest n some
          (at_piece_keyword side.Origin (Lasts version count) r.room_left apart)
          (at_stall_keyword side.Origin (Lasts version count) r.room_left apart) r.refused)

  -- behind what both sides do a keyword stands that is neither's
  behind_sides : (origin : List Piece) (left room : ℕ) (keyword : Keyword) (Kind : List ℕ → Type 0)
      (bytes : List ℕ) (n : ℕ) → DifferFrom side.Client keyword → DifferFrom side.Origin keyword
      → Step (Lasts version count left) Kind (keyword_text keyword) → AllByRecursion IsItem origin
      → left + stalled_reads origin ≡ room → Fails Kind bytes n
      → Fails (Clients version count room) (items_before side.Origin (keyword_text keyword ++ bytes) origin) n
  behind_sides [] left room keyword Kind bytes n client origin step each stalls f =
      let all : left ≡ room = omega (arith, stalls) in
      subst (λ m. Fails (Clients version count m) (keyword_text keyword ++ bytes) n) all
      (behind (Clients version count left) Kind (keyword_text keyword) bytes n
      (past_side side.Client (Origins version count) left keyword Kind client
      (past_side side.Origin (Lasts version count) left keyword Kind origin step)) f)
  behind_sides (item ∷ items) left room keyword Kind bytes n client origin step each stalls f =
      first_items_fail side.Origin (Lasts version count) (lasts_apart version count)
      (Clients version count room) item items
      left room (keyword_text keyword ++ bytes) n (origin_piece room) (origin_stall room) each stalls
      (behind (Origins version count left) Kind (keyword_text keyword) bytes n
      (past_side side.Origin (Lasts version count) left keyword Kind origin step) f)

  -- the line on a client that leaves is refused
  leave_fails : (origin : List Piece) (left room : ℕ) (bytes : List ℕ) (n : ℕ) → AllByRecursion IsItem origin
      → left + stalled_reads origin ≡ room → LeaveRefused version bytes n
      → Fails (Clients version count room) (items_before side.Origin bytes origin) n
  leave_fails origin left room bytes n each stalls r =
      subst (λ t. Fails (Clients version count room) (items_before side.Origin t origin) n) (sym r.bytes_are)
      (behind_sides origin left room k.Leave (NumberTexts MOST_TAKEN (λ m. Closes version count left))
      r.inside n leave_not_client leave_not_origin (at_leave version count left r.version_is) each stalls
      (at_number MOST_TAKEN (λ m. Closes version count left) r.inside last_lines n
      (λ m. some_closes version count left below) r.refused))

  -- the last keyword of a transaction is
  close_fails : (origin : List Piece) (left room : ℕ) (bytes : List ℕ) (n : ℕ) (leave : Option ℕ)
      (rest : List ℕ) → AllByRecursion IsItem origin → left + stalled_reads origin ≡ room
      → MayLeave version leave → bytes ≡ leave_before rest leave
      → BreaksOff (OneOf (keywords_inside version left origin leave)) rest n
      → Fails (Clients version count room) (items_before side.Origin bytes origin) n
  close_fails origin left room bytes n (Some m) rest each stalls may are r =
      subst (λ t. Fails (Clients version count room) (items_before side.Origin t origin) n) (sym are)
      (behind_sides origin left room k.Leave (NumberTexts MOST_TAKEN (λ i. Closes version count left))
      (number_before rest m) n leave_not_client leave_not_origin (at_leave version count left may.0) each
      stalls (behind_number MOST_TAKEN (λ i. Closes version count left) m rest n (omega arith) may.1 may.2
      (at_keyword (Closes version count left) (k.Close ∷ []) rest n (closes_offered version count left below)
      r)))
  close_fails [] left room bytes n None rest each stalls may are r =
      let all : left ≡ room = omega (arith, stalls) in
      subst (λ t. Fails (Clients version count room) t n) (sym are)
      (subst (λ m. Fails (Clients version count m) rest n) all
      (at_keyword (Clients version count left) (keywords_inside version left [] None) rest n
      (clients_offered version count left is_version below) r))
  close_fails (item ∷ items) left room bytes n None rest each stalls may are r =
      subst (λ t. Fails (Clients version count room) (items_before side.Origin t (item ∷ items)) n) (sym are)
      (first_items_fail side.Origin (Lasts version count) (lasts_apart version count)
      (Clients version count room) item items
      left room rest n (origin_piece room) (origin_stall room) each stalls
      (at_keyword (Origins version count left) (keywords_inside version left (item ∷ items) None) rest n
      (origins_offered version count left is_version below) r))

  -- a transaction is
  pub inside_fails : (room : ℕ) (bytes : List ℕ) (n : ℕ) → InsideRefused version room bytes n
      → Fails (Clients version count room) bytes n
  inside_fails room bytes n (inl r) =
      subst (λ t. Fails (Clients version count room) t n) (sym r.bytes_are)
      (behind_client r.items r.room_left room r.rest n r.each r.stalls
      (item_fails side.Client (Origins version count) (origins_apart version count)
      (Clients version count r.room_left) r.room_left r.rest n
      (λ m. some_origins version count m below)
      (at_piece_keyword side.Client (Origins version count) r.room_left (origins_apart version count))
      (at_stall_keyword side.Client (Origins version count) r.room_left (origins_apart version count))
      r.refused))
  inside_fails room bytes n (inr (inl r)) =
      subst (λ t. Fails (Clients version count room) t n) (sym r.bytes_are)
      (behind_client r.client r.room_left room r.rest n r.each r.stalls
      (origin_fails r.room_left r.rest n r.refused))
  inside_fails room bytes n (inr (inr r)) =
      let s = r.sides in
      let middle : ℕ = r.room_left + stalled_reads r.origin in
      subst (λ t. Fails (Clients version count room) t n) (sym s.bytes_are)
      (behind_client r.client middle room (items_before side.Origin r.rest r.origin) n s.client_each s.stalls
      (last middle s.origin_each refl r.refused))
    where
      last : (middle : ℕ) → AllByRecursion IsItem r.origin → r.room_left + stalled_reads r.origin ≡ middle
          → LeaveRefused version r.rest n ⊎ CloseRefused version r.room_left r.origin r.rest n
          → Fails (Clients version count middle) (items_before side.Origin r.rest r.origin) n
      last middle each stalls (inl l) = leave_fails r.origin r.room_left middle r.rest n each stalls l
      last middle each stalls (inr c) =
          close_fails r.origin r.room_left middle r.rest n c.leave c.rest each stalls c.may c.bytes_are
          c.refused

  -- behind a whole transaction
  pub behind_txn : (t : TxnPieces) (left room : ℕ) (bytes : List ℕ) (n : ℕ) → IsTxn version t
      → left + stalls_in (t ∷ []) ≡ room → Fails (Txns version (suc count) left) bytes n
      → Fails (Txns version count room) (keyword_text k.Txn ++ inside_before bytes t) n
  behind_txn t left room bytes n is stalls f =
      behind (Txns version count room) (Clients version count room) (keyword_text k.Txn)
      (inside_before bytes t) n
      (at_txn version count room)
      (behind_client t.client (left + stalled_reads t.origin) room
      (items_before side.Origin (leave_before (keyword_text k.Close ++ bytes) t.leave) t.origin) n is.client
      (omega (arith, stalls)) (ends t.leave is.leave))
    where
      middle : ℕ
      middle = left + stalled_reads t.origin

      ends : (leave : Option ℕ) → MayLeave version leave
          → Fails (Clients version count middle)
          (items_before side.Origin (leave_before (keyword_text k.Close ++ bytes) leave) t.origin) n
      ends None may =
          behind_sides t.origin left middle k.Close (Txns version (suc count) left) bytes n close_not_client
          close_not_origin (at_plain_close version count left) is.origin refl f
      ends (Some m) may =
          behind_sides t.origin left middle k.Leave (NumberTexts MOST_TAKEN (λ i. Closes version count left))
          (number_before (keyword_text k.Close ++ bytes) m) n leave_not_client leave_not_origin
          (at_leave version count left may.0) is.origin refl
          (behind_number MOST_TAKEN (λ i. Closes version count left) m (keyword_text k.Close ++ bytes) n
          (omega arith) may.1 may.2
          (behind (Closes version count left) (Txns version (suc count) left) (keyword_text k.Close) bytes n
          (at_close version count left) f))

-- ---- behind transactions

nothing_fails : (bytes : List ℕ) (left : ℕ) → 0 < length bytes → left ≡ length bytes
    → Fails Nothing bytes left
nothing_fails bytes left some is = record {
  front = [];
  rest = bytes;
  bytes_are = refl;
  left_is = is;
  begun = ([], refl);
  stuck = stuck bytes some;
}
  where
    stuck : (bs : List ℕ) → 0 < length bs → Stuck Nothing [] bs
    stuck [] none = absurd (omega arith)
    stuck (b ∷ bs) one = λ more same. omega (arith, ap length same)

end_fails : (version count room : ℕ) (bytes : List ℕ) (n : ℕ) → count ≤ MOST_TXNS
    → EndRefused count bytes n → Fails (Txns version count room) bytes n
end_fails version count room bytes n within (inl r) =
    at_keyword (Txns version count room) (keywords_behind count) bytes n
    (txns_offered version count room within) r
end_fails version count room bytes n within (inr (rest, text, some, is)) =
    subst (λ t. Fails (Txns version count room) t n) (sym text)
    (behind (Txns version count room) Nothing (keyword_text k.End) rest n (at_end version count room within)
    (nothing_fails rest n some is))

module _ (version : ℕ) (is_version : IsVersion version) where
  behind_txns : (ts : List TxnPieces) (count left room : ℕ) (bytes : List ℕ) (n : ℕ)
      → count + length ts ≤ MOST_TXNS → AllByRecursion (IsTxn version) ts → left + stalls_in ts ≡ room
      → Fails (Txns version (count + length ts) left) bytes n
      → Fails (Txns version count room) (txns_before bytes ts) n
  behind_txns [] count left room bytes n few each stalls f =
      let none : count + 0 ≡ count = omega arith in let all : left ≡ room = omega (arith, stalls) in
      subst (λ r. Fails (Txns version count r) bytes n) all
      (subst (λ c. Fails (Txns version c left) bytes n) none f)
  behind_txns (t ∷ ts) count left room bytes n few each stalls f =
      let same : count + length (t ∷ ts) ≡ suc count + length ts = omega arith in
      let middle : ℕ = left + stalls_in ts in
      behind_txn version count is_version (omega (arith, few)) t middle room (txns_before bytes ts) n each.0
      (omega (arith, stalls))
      (behind_txns ts (suc count) left middle bytes n (omega (arith, few)) each.1 refl
      (subst (λ c. Fails (Txns version c left) bytes n) same f))

  pub txns_fail : (bytes : List ℕ) (n : ℕ) → TxnsRefused version bytes n
      → Fails (Txns version 0 (stall_room version)) bytes n
  txns_fail bytes n r =
      subst (λ t. Fails (Txns version 0 (stall_room version)) t n) (sym r.are.bytes_are)
      (behind_txns r.done 0 r.room_left (stall_room version) r.rest n (omega (arith, few)) r.are.each
      r.are.stalls (subst (λ c. Fails (Txns version c r.room_left) r.rest n) same (at r.refused)))
    where
      few : length r.done ≤ MOST_TXNS
      few = r.are.few

      same : length r.done ≡ 0 + length r.done
      same = omega arith

      at : TxnRefused version r.room_left (length r.done) r.rest n ⊎ EndRefused (length r.done) r.rest n
          → Fails (Txns version (length r.done) r.room_left) r.rest n
      at (inl t) =
          subst (λ bs. Fails (Txns version (length r.done) r.room_left) bs n) (sym t.bytes_are)
          (behind (Txns version (length r.done) r.room_left) (Clients version (length r.done) r.room_left)
          (keyword_text k.Txn) t.inside n (at_txn version (length r.done) r.room_left)
          (inside_fails version (length r.done) is_version t.room_is r.room_left t.inside n t.refused))
      at (inr refused) = end_fails version (length r.done) r.room_left r.rest n few refused
