-- What was read of a transaction, and where no keyword of one follows.
use Rattle.std.proofs.Common.{◌≡◌, ℕ, zero, suc, inl, inr, List, [], ◌∷◌, ◌++◌, None, Some}
use Rattle.std.proofs.Common.{Option}
use Rattle.std.proofs.Common.{ap, sym, ◌∙◌, subst, arith}
use Rattle.std.specs.Option.{IfNone}
use Rattle.ts_link.specs.declared.piece.Piece.{Piece}
use Rattle.ts_record.specs.Grammar.{items_before, leave_before, MayLeave}
use Rattle.ts_record.specs.Keywords.{LacksKeyword, LacksAll, side_keywords, last_keywords}
use Rattle.ts_record.specs.Keywords.{keywords_behind_origin, keywords_inside}
use Rattle.ts_record.specs.Refusing.{BreaksOff, OneOf, LacksItem, AreSides}
use Rattle.ts_record.specs.Refusing.{InsideRefused}
use Rattle.ts_record.specs.declared.recording.TheConstants.{SECOND_VERSION}
use Rattle.ts_record.specs.declared.keyword.Keyword.{Keyword}
use Rattle.ts_record.specs.declared.keyword.Keyword.TheVariants as k
use Rattle.ts_record.specs.declared.keyword.Side.{Side}
use Rattle.ts_record.specs.declared.keyword.Side.TheVariants as side
use Rattle.ts_record.proofs.Apart.{IsVersion}
use Rattle.ts_record.proofs.Growing.{AreRead}

-- both sides are read
pub both_read : (room middle left : ℕ) (bytes rest behind : List ℕ) (client origin : List Piece)
    → AreRead side.Client room bytes client middle rest → AreRead side.Origin middle rest origin left behind
    → AreSides room client origin left bytes behind
both_read room middle left bytes rest behind client origin c o = record {
  client_each = c.each;
  origin_each = o.each;
  stalls = omega (arith, c.stalls, o.stalls);
  bytes_are = c.text ∙ ap (λ t. items_before side.Client t client) o.text;
}

-- behind both of them a keyword is refused
pub stops_close : (version room left n : ℕ) (bytes rest behind : List ℕ) (client origin : List Piece)
    (leave : Option ℕ) (keywords : List Keyword) → AreSides room client origin left bytes rest
    → MayLeave version leave → rest ≡ leave_before behind leave
    → keywords ≡ keywords_inside version left origin leave → BreaksOff (OneOf keywords) behind n
    → InsideRefused version room bytes n
stops_close version room left n bytes rest behind client origin leave keywords s may text are r =
    inr (inr (record {
      client = client;
      origin = origin;
      room_left = left;
      rest = rest;
      sides = s;
      refused = inr (record {
        leave = leave;
        rest = behind;
        may = may;
        bytes_are = text;
        refused = subst (λ ks. BreaksOff (OneOf ks) behind n) are r;
      });
    }))

-- ---- the keywords that were looked for

lacks_side : (from : Side) (room : ℕ) (bytes : List ℕ) (ks : List Keyword) → LacksItem from room bytes
    → LacksAll bytes ks → LacksAll bytes (side_keywords from room ++ ks)
lacks_side from zero bytes ks item lacks = (item.piece, lacks)
lacks_side from (suc room) bytes ks item lacks = (item.piece, (item.stall (omega arith), lacks))

lacks_last : (version : ℕ) (bytes : List ℕ) → IsVersion version
    → (version ≡ SECOND_VERSION → LacksKeyword bytes k.Leave) → LacksKeyword bytes k.Close
    → LacksAll bytes (last_keywords version)
lacks_last version bytes (inl is) leave close =
    subst (λ v. LacksAll bytes (last_keywords v)) (sym is) (close, tt)
lacks_last version bytes (inr is) leave close =
    subst (λ v. LacksAll bytes (last_keywords v)) (sym is) (leave is, (close, tt))

pub lacks_inside : (version middle left : ℕ) (rest ends behind : List ℕ) (origin : List Piece)
    (leave : Option ℕ) → IsVersion version → LacksItem side.Client middle rest
    → AreRead side.Origin middle rest origin left ends → LacksItem side.Origin left ends
    → ends ≡ leave_before behind leave
    → IfNone leave (version ≡ SECOND_VERSION → LacksKeyword ends k.Leave) → LacksKeyword behind k.Close
    → LacksAll behind (keywords_inside version left origin leave)
lacks_inside version middle left rest ends behind origin (Some m) is_version client o own text lacks close =
    (close, tt)
lacks_inside version middle left rest ends behind [] None is_version client o own text lacks close =
    let all : middle ≡ left = omega (arith, o.stalls) in
    subst (λ t. LacksAll t (keywords_inside version left [] None)) text
    (lacks_side side.Client left ends (keywords_behind_origin version left)
    (subst (λ m. LacksItem side.Client m ends) all (subst (LacksItem side.Client middle) o.text client))
    (lacks_side side.Origin left ends (last_keywords version) own
    (lacks_last version ends is_version lacks (subst (λ t. LacksKeyword t k.Close) (sym text) close))))
lacks_inside version middle left rest ends behind (i ∷ is) None is_version client o own text lacks close =
    subst (λ t. LacksAll t (keywords_behind_origin version left)) text
    (lacks_side side.Origin left ends (last_keywords version) own
    (lacks_last version ends is_version lacks (subst (λ t. LacksKeyword t k.Close) (sym text) close)))
