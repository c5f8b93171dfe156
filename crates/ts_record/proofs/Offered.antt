-- Which keywords can stand at each place of a recording, and that each of them can.
use Rattle.std.specs.Prelude.{⊤, nat_lt}
use Rattle.std.proofs.Common.{◌≡◌, ℕ, ◌-◌, ◌<◌, ◌≤◌, zero, suc, inl, inr, List, [], ◌∷◌, ◌++◌}
use Rattle.std.proofs.Common.{None, Some}
use Rattle.std.proofs.Common.{Bool, true, false, cond, ap, sym, ◌∙◌, subst, refl, arith}
use Rattle.std.proofs.Math.Nat.{le-min}
use Rattle.ts_link.specs.declared.piece.Piece.TheVariants.{Bytes, Stall}
use Rattle.ts_record.specs.Grammar.{piece_before, number_before, items_before, inside_before, txns_text}
use Rattle.ts_record.specs.Keywords.{keyword_text, headers, header_of, piece_keyword, stall_keyword}
use Rattle.ts_record.specs.Keywords.{side_keywords, last_keywords, keywords_behind}
use Rattle.ts_record.specs.Keywords.{keywords_behind_origin, keywords_behind_client}
use Rattle.ts_record.specs.Refusing.{Opens, BreaksOff, OneOf}
use Rattle.ts_record.specs.declared.recording.TheConstants.{MOST_TXNS, FIRST_VERSION, SECOND_VERSION}
use Rattle.ts_record.specs.declared.keyword.Keyword.{Keyword}
use Rattle.ts_record.specs.declared.keyword.Keyword.TheVariants as k
use Rattle.ts_record.specs.declared.keyword.Side.{Side}
use Rattle.ts_record.specs.declared.keyword.Side.TheVariants as side
use Rattle.ts_record.proofs.Apart.{IsVersion}
use Rattle.ts_record.proofs.Fails.{Fails, fails_at_token}
use Rattle.ts_record.proofs.Keywords.{is_below, is_not_below}
use Rattle.ts_record.proofs.Places.{Recordings, Txns, Closes, Lasts, Items, Origins, Clients, AreApart}
use Rattle.ts_record.proofs.Places.{lasts_apart, origins_apart, no_items, last_lines, some_piece}
use Rattle.ts_record.proofs.Places.{some_piece_text}
use Rattle.ts_record.proofs.Places.{some_txns, some_closes, some_lasts, some_origins, some_clients}
use Rattle.ts_record.proofs.Steps.{at_header, at_txn, at_piece_keyword, at_stall_keyword, at_leave}

-- each of these keywords begins a text of the kind
abbrev pub Begin : (List ℕ → Type 0) → List Keyword → Type 0
Begin Kind [] = ⊤
Begin Kind (k ∷ ks) = ((y : List ℕ) × Kind (keyword_text k ++ y)) × Begin Kind ks

-- and each text of the kind begins with one of them
pub record Offers (Kind : List ℕ → Type 0) (ks : List Keyword) : Type 0 where
  pub each : Begin Kind ks
  pub first : (z : List ℕ) → Kind z → Opens (OneOf ks) z

-- so bytes that break off at one of them fail
pub at_keyword : (Kind : List ℕ → Type 0) (ks : List Keyword) (bytes : List ℕ) (left : ℕ) → Offers Kind ks
    → BreaksOff (OneOf ks) bytes left → Fails Kind bytes left
at_keyword Kind ks bytes left offers r =
    fails_at_token (OneOf ks) Kind bytes left (goes ks offers.each) offers.first r
  where
    goes : (js : List Keyword) → Begin Kind js → (t : List ℕ) → OneOf js t → (y : List ℕ) × Kind (t ++ y)
    goes [] each t none = absurd none
    goes (j ∷ js) each t (inl is) = (each.0.0, subst (λ u. Kind (u ++ each.0.0)) (sym is) each.0.1)
    goes (j ∷ js) each t (inr is) = goes js each.1 t is

-- a wider kind
wider : (Kind Other : List ℕ → Type 0) (ks : List Keyword) → ((z : List ℕ) → Kind z → Other z)
    → Begin Kind ks → Begin Other ks
wider Kind Other [] into each = tt
wider Kind Other (k ∷ ks) into each =
    ((each.0.0, into (keyword_text k ++ each.0.0) each.0.1), wider Kind Other ks into each.1)

-- ---- the first lines

pub headers_offered : Offers Recordings headers
headers_offered = record {
  each = (
    (
      keyword_text k.End,
      (at_header FIRST_VERSION (inl refl)).to (keyword_text k.End)
          (some_txns FIRST_VERSION 0 0 (omega arith)),
    ),
    (
      (
        keyword_text k.End,
        (at_header SECOND_VERSION (inr refl)).to (keyword_text k.End)
            (some_txns SECOND_VERSION 0 100000 (omega arith)),
      ),
      tt,
    ),
  );
  first = λ z (r, is). first z r.version (txns_text r.txns) is.limits.version is.text;
}
  where
    first : (z : List ℕ) (version : ℕ) (y : List ℕ) → IsVersion version
        → z ≡ keyword_text (header_of version) ++ y → Opens (OneOf headers) z
    first z version y (inl one) text =
        (keyword_text k.HeaderOne, y, inl refl, text ∙ ap (λ v. keyword_text (header_of v) ++ y) one)
    first z version y (inr two) text =
        (keyword_text k.HeaderTwo, y, inr (inl refl), text ∙ ap (λ v. keyword_text (header_of v) ++ y) two)

-- ---- behind transactions

pub txns_offered : (version count room : ℕ) → count ≤ MOST_TXNS
    → Offers (Txns version count room) (keywords_behind count)
txns_offered version count room within = either (nat_lt count MOST_TXNS) refl
  where
    Kind : List ℕ → Type 0
    Kind = Txns version count room

    last : (y : List ℕ) × Kind (keyword_text k.End ++ y)
    last = ([], some_txns version count room within)

    more : nat_lt count MOST_TXNS ≡ true → Offers Kind (k.Txn ∷ k.End ∷ [])
    more is =
        let below : count < MOST_TXNS = is_below count MOST_TXNS is in record {
          each = (
            (last_lines, (at_txn version count room).to last_lines (some_clients version count room below)),
            (last, tt),
          );
          first = first;
        }
      where
        first : (z : List ℕ) → Kind z → Opens (OneOf (k.Txn ∷ k.End ∷ [])) z
        first z ([], few, all, stalls, text) = (keyword_text k.End, [], inr (inl refl), text)
        first z (t ∷ ts, few, all, stalls, text) =
            (keyword_text k.Txn, inside_before (txns_text ts) t, inl refl, text)

    none : nat_lt count MOST_TXNS ≡ false → Offers Kind (k.End ∷ [])
    none is = record { each = (last, tt); first = first }
      where
        full : MOST_TXNS ≤ count
        full = is_not_below count MOST_TXNS is

        first : (z : List ℕ) → Kind z → Opens (OneOf (k.End ∷ [])) z
        first z ([], few, all, stalls, text) = (keyword_text k.End, [], inl refl, text)
        first z (t ∷ ts, few, all, stalls, text) = absurd (omega (arith, few, full))

    either : (b : Bool) → nat_lt count MOST_TXNS ≡ b
        → Offers Kind (cond b (k.Txn ∷ k.End ∷ []) (k.End ∷ []))
    either true is = more is
    either false is = none is

-- ---- within a transaction

pub closes_offered : (version count room : ℕ) → count < MOST_TXNS
    → Offers (Closes version count room) (k.Close ∷ [])
closes_offered version count room below = record {
  each = ((keyword_text k.End, some_closes version count room below), tt);
  first = λ z (y, txns, text). (keyword_text k.Close, y, inl refl, text);
}

pub lasts_offered : (version count room : ℕ) → IsVersion version → count < MOST_TXNS
    → Offers (Lasts version count room) (last_keywords version)
lasts_offered version count room is_version below = either is_version
  where
    Kind : List ℕ → Type 0
    Kind = Lasts version count room

    close : (y : List ℕ) × Kind (keyword_text k.Close ++ y)
    close = (keyword_text k.End, some_lasts version count room below)

    one : version ≡ FIRST_VERSION → Offers Kind (k.Close ∷ [])
    one is = record { each = (close, tt); first = first }
      where
        first : (z : List ℕ) → Kind z → Opens (OneOf (k.Close ∷ [])) z
        first z (None, y, may, (x, txns, ends), text) = (keyword_text k.Close, x, inl refl, text ∙ ends)
        first z (Some n, y, may, closes, text) =
            let second : version ≡ SECOND_VERSION = may.0 in absurd (omega (arith, is, second))

    two : version ≡ SECOND_VERSION → Offers Kind (k.Leave ∷ k.Close ∷ [])
    two is = record {
      each = (
        (
          number_before last_lines 1,
          (at_leave version count room is).to (number_before last_lines 1)
              (1, last_lines, omega arith, omega arith, some_closes version count room below, refl),
        ),
        (close, tt),
      );
      first = first;
    }
      where
        first : (z : List ℕ) → Kind z → Opens (OneOf (k.Leave ∷ k.Close ∷ [])) z
        first z (None, y, may, (x, txns, ends), text) =
            (keyword_text k.Close, x, inr (inl refl), text ∙ ends)
        first z (Some n, y, may, closes, text) = (keyword_text k.Leave, number_before y n, inl refl, text)

    either : IsVersion version → Offers Kind (last_keywords version)
    either (inl is) = subst (λ v. Offers Kind (last_keywords v)) (sym is) (one is)
    either (inr is) = subst (λ v. Offers Kind (last_keywords v)) (sym is) (two is)

-- a side's own keywords, and those that can stand behind what it does
one_piece : (from : Side) (room : ℕ) (ks : List Keyword)
    → OneOf (side_keywords from room ++ ks) (keyword_text (piece_keyword from))
one_piece from zero ks = inl refl
one_piece from (suc room) ks = inl refl

one_stall : (from : Side) (room : ℕ) (ks : List Keyword) → 0 < room
    → OneOf (side_keywords from room ++ ks) (keyword_text (stall_keyword from))
one_stall from zero ks some = absurd (omega arith)
one_stall from (suc room) ks some = inr (inl refl)

one_behind : (from : Side) (room : ℕ) (ks : List Keyword) (token : List ℕ) → OneOf ks token
    → OneOf (side_keywords from room ++ ks) token
one_behind from zero ks token is = inr is
one_behind from (suc room) ks token is = inr (inr is)

items_offered : (from : Side) (Next : ℕ → List ℕ → Type 0) (room : ℕ) (ks : List Keyword)
    → AreApart from Next → ((n : ℕ) → Next n last_lines) → Offers (Next room) ks
    → Offers (Items from Next room) (side_keywords from room ++ ks)
items_offered from Next room ks apart some offers = record { each = each room offers.each; first = first }
  where
    goes_on : (n : ℕ) → Items from Next n last_lines
    goes_on n = no_items from Next n last_lines (some n)

    a_piece : (n : ℕ) → (y : List ℕ) × Items from Next n (keyword_text (piece_keyword from) ++ y)
    a_piece n =
        let text : List ℕ = piece_before last_lines some_piece in (
          text,
          (at_piece_keyword from Next n apart).to text
              (some_piece_text (Items from Next n) last_lines (goes_on n)),
        )

    a_stall : (n : ℕ) → (y : List ℕ) × Items from Next (suc n) (keyword_text (stall_keyword from) ++ y)
    a_stall n =
        let text : List ℕ = number_before last_lines 1 in (
          text,
          (at_stall_keyword from Next (suc n) apart).to text
              (1, last_lines, omega arith, le-min (omega arith) (omega arith), goes_on (suc n - 1), refl),
        )

    each : (n : ℕ) → Begin (Next n) ks → Begin (Items from Next n) (side_keywords from n ++ ks)
    each zero begin = (a_piece 0, wider (Next 0) (Items from Next 0) ks (no_items from Next 0) begin)
    each (suc n) begin = (
      a_piece (suc n),
      (a_stall n, wider (Next (suc n)) (Items from Next (suc n)) ks (no_items from Next (suc n)) begin),
    )

    first : (z : List ℕ) → Items from Next room z → Opens (OneOf (side_keywords from room ++ ks)) z
    first z ([], left, y, all, stalls, next, text) =
        let same : left ≡ room = omega (arith, stalls) in
        let (token, behind, is, begins) = offers.first y (subst (λ n. Next n y) same next) in
        (token, behind, one_behind from room ks token is, text ∙ begins)
    first z (Bytes p ∷ items, left, y, all, stalls, next, text) = (
      keyword_text (piece_keyword from),
      piece_before (items_before from y items) p,
      one_piece from room ks,
      text,
    )
    first z (Stall n ∷ items, left, y, all, stalls, next, text) =
        let one : 1 ≤ n = all.0.0 in (
          keyword_text (stall_keyword from),
          number_before (items_before from y items) n,
          one_stall from room ks (omega (arith, one, stalls)),
          text,
        )

pub origins_offered : (version count room : ℕ) → IsVersion version → count < MOST_TXNS
    → Offers (Origins version count room) (keywords_behind_origin version room)
origins_offered version count room is_version below =
    items_offered side.Origin (Lasts version count) room (last_keywords version) (lasts_apart version count)
    (λ n. some_lasts version count n below) (lasts_offered version count room is_version below)

pub clients_offered : (version count room : ℕ) → IsVersion version → count < MOST_TXNS
    → Offers (Clients version count room) (keywords_behind_client version room)
clients_offered version count room is_version below =
    items_offered side.Client (Origins version count) room (keywords_behind_origin version room)
    (origins_apart version count) (λ n. some_origins version count n below)
    (origins_offered version count room is_version below)
