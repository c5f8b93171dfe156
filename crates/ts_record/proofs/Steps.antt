-- What can stand behind a keyword, a piece or a number, where it was read at each place of a recording.
use Rattle.std.proofs.Common.{◌≡◌, ℕ, ◌-◌, ◌<◌, ◌≤◌, ◌^◌, suc, List, [], ◌∷◌, ◌++◌, None, Some}
use Rattle.std.proofs.Common.{ap, sym}
use Rattle.std.proofs.Common.{◌∙◌, subst, refl, arith}
use Rattle.std.specs.List.{AllByRecursion}
use Rattle.std.proofs.Math.Nat.{min-le_left, min-le_right, le-min}
use Rattle.std.proofs.lemmas.List.{append_cancel_left}
use Rattle.ts_link.specs.Inputs.{stalled_reads}
use Rattle.ts_link.specs.declared.piece.Piece.TheVariants.{Bytes, Stall}
use Rattle.ts_record.specs.Grammar.{piece_before, number_before, items_before, leave_before, inside_before}
use Rattle.ts_record.specs.Grammar.{txns_text, stall_room, IsRecordedPiece, IsTxn}
use Rattle.ts_record.specs.Keywords.{keyword_text, header_of, piece_keyword, stall_keyword}
use Rattle.ts_record.specs.Refusing.{stall_limit}
use Rattle.ts_record.specs.declared.recording.TheConstants.{MOST_STALL, MOST_TAKEN, MOST_TXNS, SECOND_VERSION}
use Rattle.ts_record.specs.declared.keyword.Keyword.{Keyword}
use Rattle.ts_record.specs.declared.keyword.Keyword.TheVariants as k
use Rattle.ts_record.specs.declared.keyword.Side.{Side}
use Rattle.ts_record.specs.declared.keyword.Side.TheVariants as side
use Rattle.ts_record.proofs.Apart.{DifferFrom, IsVersion, same_version, stall_not_piece}
use Rattle.ts_record.proofs.Apart.{piece_not_stall}
use Rattle.ts_record.proofs.Apart.{close_not_leave, end_not_txn}
use Rattle.ts_record.proofs.Places.{Recordings, Txns, Closes, Lasts, Items, Clients, PieceTexts}
use Rattle.ts_record.proofs.Places.{NumberTexts, Nothing, AreApart, no_items}
use Rattle.ts_record.proofs.Same.{same_piece, same_count}
use Rattle.ts_record.proofs.Texts.{piece_behind, number_behind}

-- texts of a kind that begin with a token are those of the next kind behind it
pub record Step (Kind Next : List ℕ → Type 0) (token : List ℕ) : Type 0 where
  pub to : (z : List ℕ) → Next z → Kind (token ++ z)
  pub from : (z : List ℕ) → Kind (token ++ z) → Next z

-- how many reads may wait at a stall
pub stall_within : (n room : ℕ) → n ≤ stall_limit room → (n ≤ room) × (n ≤ MOST_STALL)
stall_within n room most = (
  omega (arith, most, min-le_left room MOST_STALL),
  omega (arith, most, min-le_right room MOST_STALL),
)

-- ---- the first line

pub at_header : (version : ℕ) → IsVersion version
    → Step Recordings (Txns version 0 (stall_room version)) (keyword_text (header_of version))
at_header version is_version = record { to = to; from = from }
  where
    to : (z : List ℕ) → Txns version 0 (stall_room version) z
        → Recordings (keyword_text (header_of version) ++ z)
    to z (ts, few, each, stalls, is) = (
      record { version = version; txns = ts },
      record {
        limits = record { version = is_version; few = omega arith; each = each; stalls = stalls };
        text = ap (λ t. keyword_text (header_of version) ++ t) is;
      },
    )

    from : (z : List ℕ) → Recordings (keyword_text (header_of version) ++ z)
        → Txns version 0 (stall_room version) z
    from z (r, is) =
        let same : version ≡ r.version =
        same_version version r.version z (txns_text r.txns) is_version is.limits.version is.text in (
          r.txns,
          omega (arith, is.limits.few),
          subst (λ v. AllByRecursion (IsTxn v) r.txns) (sym same) is.limits.each,
          omega (arith, is.limits.stalls, ap stall_room same),
          append_cancel_left (keyword_text (header_of version)) z (txns_text r.txns)
              (is.text ∙ ap (λ v. keyword_text (header_of v) ++ txns_text r.txns) (sym same)),
        )

-- ---- the first line of a transaction, and the last line of all

pub at_txn : (version count room : ℕ)
    → Step (Txns version count room) (Clients version count room) (keyword_text k.Txn)
at_txn version count room = record { to = to; from = from }
  where
    to : (z : List ℕ) → Clients version count room z → Txns version count room (keyword_text k.Txn ++ z)
    to z (
      client,
      middle,
      y,
      each,
      before,
      (
        origin,
        left,
        x,
        also,
        behind,
        (leave, w, may, (u, (ts, few, all, stalls, end), close), last),
        inside,
      ),
      is,
    ) = (
      record { client = client; origin = origin; leave = leave } ∷ ts,
      omega (arith, few),
      (record { client = each; origin = also; leave = may }, all),
      omega (arith, before, behind, stalls),
      ap (λ t. keyword_text k.Txn ++ t) (is
          ∙ ap (λ t. items_before side.Client t client) (inside
          ∙ ap (λ t. items_before side.Origin t origin) (last
          ∙ ap (λ t. leave_before t leave) (close ∙ ap (λ t. keyword_text k.Close ++ t) end)))),
    )

    from : (z : List ℕ) → Txns version count room (keyword_text k.Txn ++ z) → Clients version count room z
    from z ([], few, each, stalls, is) = absurd (end_not_txn [] z (sym is))
    from z (t ∷ ts, few, each, stalls, is) =
        let c : ℕ = stalled_reads t.client in let o : ℕ = stalled_reads t.origin in (
          t.client,
          room - c,
          items_before side.Origin (leave_before (keyword_text k.Close ++ txns_text ts) t.leave) t.origin,
          each.0.client,
          omega (arith, stalls),
          (
            t.origin,
            room - c - o,
            leave_before (keyword_text k.Close ++ txns_text ts) t.leave,
            each.0.origin,
            omega (arith, stalls),
            (
              t.leave,
              keyword_text k.Close ++ txns_text ts,
              each.0.leave,
              (txns_text ts, (ts, omega (arith, few), each.1, omega (arith, stalls), refl), refl),
              refl,
            ),
            refl,
          ),
          append_cancel_left (keyword_text k.Txn) z (inside_before (txns_text ts) t) is,
        )

pub at_end : (version count room : ℕ) → count ≤ MOST_TXNS
    → Step (Txns version count room) Nothing (keyword_text k.End)
at_end version count room within = record { to = to; from = from }
  where
    to : (z : List ℕ) → Nothing z → Txns version count room (keyword_text k.End ++ z)
    to z nothing = ([], omega arith, tt, omega arith, ap (λ t. keyword_text k.End ++ t) nothing)

    from : (z : List ℕ) → Txns version count room (keyword_text k.End ++ z) → Nothing z
    from z ([], few, each, stalls, text) = append_cancel_left (keyword_text k.End) z [] text
    from z (t ∷ ts, few, each, stalls, text) = absurd (end_not_txn z (inside_before (txns_text ts) t) text)

-- ---- the keywords of a side

pub at_piece_keyword : (from : Side) (Next : ℕ → List ℕ → Type 0) (room : ℕ) → AreApart from Next
    → Step (Items from Next room) (PieceTexts (Items from Next room)) (keyword_text (piece_keyword from))
at_piece_keyword from Next room apart = record { to = to; from = back }
  where
    word : List ℕ
    word = keyword_text (piece_keyword from)

    to : (z : List ℕ) → PieceTexts (Items from Next room) z → Items from Next room (word ++ z)
    to z (piece, y, is, (items, left, x, each, stalls, next, more), text) = (
      Bytes piece ∷ items,
      left,
      x,
      (is, each),
      stalls,
      next,
      ap (λ t. word ++ t) (text ∙ ap (λ t. piece_before t piece) more),
    )

    back : (z : List ℕ) → Items from Next room (word ++ z) → PieceTexts (Items from Next room) z
    back z ([], left, y, each, stalls, next, text) = absurd (apart.piece left y next z (sym text))
    back z (Bytes p ∷ items, left, y, each, stalls, next, text) = (
      p,
      items_before from y items,
      each.0,
      (items, left, y, each.1, stalls, next, refl),
      append_cancel_left word z (piece_before (items_before from y items) p) text,
    )
    back z (Stall n ∷ items, left, y, each, stalls, next, text) =
        absurd (stall_not_piece from (number_before (items_before from y items) n) z (sym text))

pub at_stall_keyword : (from : Side) (Next : ℕ → List ℕ → Type 0) (room : ℕ) → AreApart from Next
    → Step (Items from Next room) (NumberTexts (stall_limit room) (λ n. Items from Next (room - n)))
    (keyword_text (stall_keyword from))
at_stall_keyword from Next room apart = record { to = to; from = back }
  where
    word : List ℕ
    word = keyword_text (stall_keyword from)

    Behind : ℕ → List ℕ → Type 0
    Behind n = Items from Next (room - n)

    to : (z : List ℕ) → NumberTexts (stall_limit room) Behind z → Items from Next room (word ++ z)
    to z (n, y, some, most, (items, left, x, each, stalls, next, more), text) =
        let within = stall_within n room most in (
          Stall n ∷ items,
          left,
          x,
          ((some, within.1), each),
          omega (arith, stalls, within.0),
          next,
          ap (λ t. word ++ t) (text ∙ ap (λ t. number_before t n) more),
        )

    back : (z : List ℕ) → Items from Next room (word ++ z) → NumberTexts (stall_limit room) Behind z
    back z ([], left, y, each, stalls, next, text) = absurd (apart.stall left y next z (sym text))
    back z (Bytes p ∷ items, left, y, each, stalls, next, text) =
        absurd (piece_not_stall from (piece_before (items_before from y items) p) z (sym text))
    back z (Stall n ∷ items, left, y, each, stalls, next, text) =
        let most : n ≤ MOST_STALL = each.0.1 in let within : n ≤ room = omega (arith, stalls) in (
          n,
          items_before from y items,
          each.0.0,
          le-min within most,
          (items, left, y, each.1, omega (arith, stalls), next, refl),
          append_cancel_left word z (number_before (items_before from y items) n) text,
        )

-- a keyword that is none of a side's, where the side does nothing more
pub past_side : (from : Side) (Next : ℕ → List ℕ → Type 0) (room : ℕ) (keyword : Keyword)
    (Kind : List ℕ → Type 0) → DifferFrom from keyword
    → Step (Next room) Kind (keyword_text keyword)
    → Step (Items from Next room) Kind (keyword_text keyword)
past_side from Next room keyword Kind differ step = record { to = to; from = back }
  where
    word : List ℕ
    word = keyword_text keyword

    to : (z : List ℕ) → Kind z → Items from Next room (word ++ z)
    to z is = no_items from Next room (word ++ z) (step.to z is)

    back : (z : List ℕ) → Items from Next room (word ++ z) → Kind z
    back z ([], left, y, each, stalls, next, text) =
        let all : left ≡ room = omega (arith, stalls) in
        step.from z (subst (λ n. Next n (word ++ z)) all (subst (Next left) (sym text) next))
    back z (Bytes p ∷ items, left, y, each, stalls, next, text) =
        absurd (differ.piece z (piece_before (items_before from y items) p) text)
    back z (Stall n ∷ items, left, y, each, stalls, next, text) =
        absurd (differ.stall z (number_before (items_before from y items) n) text)

-- ---- the last lines of a transaction

pub at_leave : (version count room : ℕ) → version ≡ SECOND_VERSION
    → Step (Lasts version count room) (NumberTexts MOST_TAKEN (λ n. Closes version count room))
    (keyword_text k.Leave)
at_leave version count room second = record { to = to; from = from }
  where
    Behind : List ℕ → Type 0
    Behind = NumberTexts MOST_TAKEN (λ n. Closes version count room)

    to : (z : List ℕ) → Behind z → Lasts version count room (keyword_text k.Leave ++ z)
    to z (n, y, some, most, closes, text) =
        (Some n, y, (second, some, most), closes, ap (λ t. keyword_text k.Leave ++ t) text)

    from : (z : List ℕ) → Lasts version count room (keyword_text k.Leave ++ z) → Behind z
    from z (None, y, may, (x, txns, close), text) = absurd (close_not_leave x z (sym (text ∙ close)))
    from z (Some n, y, may, closes, text) =
        (n, y, may.1, may.2, closes, append_cancel_left (keyword_text k.Leave) z (number_before y n) text)

pub at_close : (version count room : ℕ)
    → Step (Closes version count room) (Txns version (suc count) room) (keyword_text k.Close)
at_close version count room = record { to = λ z txns. (z, txns, refl); from = from }
  where
    from : (z : List ℕ) → Closes version count room (keyword_text k.Close ++ z)
        → Txns version (suc count) room z
    from z (y, txns, text) =
        subst (Txns version (suc count) room) (sym (append_cancel_left (keyword_text k.Close) z y text)) txns

-- where the client does not leave
pub at_plain_close : (version count room : ℕ)
    → Step (Lasts version count room) (Txns version (suc count) room) (keyword_text k.Close)
at_plain_close version count room = record { to = to; from = from }
  where
    to : (z : List ℕ) → Txns version (suc count) room z
        → Lasts version count room (keyword_text k.Close ++ z)
    to z txns = (None, keyword_text k.Close ++ z, tt, (at_close version count room).to z txns, refl)

    from : (z : List ℕ) → Lasts version count room (keyword_text k.Close ++ z)
        → Txns version (suc count) room z
    from z (None, y, may, closes, text) =
        (at_close version count room).from z (subst (Closes version count room) (sym text) closes)
    from z (Some n, y, may, closes, text) = absurd (close_not_leave z (number_before y n) text)

-- ---- pieces and numbers

pub behind_piece_text : (Next : List ℕ → Type 0) (piece : List ℕ) → IsRecordedPiece piece
    → Step (PieceTexts Next) Next (piece_before [] piece)
behind_piece_text Next piece is = record {
  to = λ z next. (piece, z, is, next, piece_behind piece z);
  from = from;
}
  where
    from : (z : List ℕ) → PieceTexts Next (piece_before [] piece ++ z) → Next z
    from z (other, y, also, next, text) =
        subst Next (sym (same_piece piece other z y is also (sym (piece_behind piece z) ∙ text)).1) next

pub behind_number_text : (limit : ℕ) (Next : ℕ → List ℕ → Type 0) (n : ℕ) → limit < 2 ^ 64 → 1 ≤ n
    → n ≤ limit → Step (NumberTexts limit Next) (Next n) (number_before [] n)
behind_number_text limit Next n below some most = record {
  to = λ z next. (n, z, some, most, next, number_behind n z);
  from = from;
}
  where
    from : (z : List ℕ) → NumberTexts limit Next (number_before [] n ++ z) → Next n z
    from z (m, y, one, within, next, text) =
        let same = same_count n m z y (omega (arith, most, below)) (omega (arith, within, below))
        (sym (number_behind n z) ∙ text) in
        subst (λ i. Next i z) (sym same.0) (subst (Next m) (sym same.1) next)
