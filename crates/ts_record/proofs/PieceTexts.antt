-- Where a text stops being the front of a piece behind its keyword.
use Rattle.std.proofs.Common.{◌≡◌, ℕ, ◌-◌, ◌^◌, ◌<◌, ◌≤◌, List, [], ◌∷◌, ◌++◌, length, ap, sym, ◌∙◌, refl}
use Rattle.std.proofs.Common.{arith}
use Rattle.std.proofs.Common.{length-append, append_assoc}
use Rattle.std.specs.Fmt.{decimal}
use Rattle.std.proofs.Math.ListN.{replicate}
use Rattle.std.proofs.lemmas.List.{length-replicate, append-nil}
use Rattle.ts_lists.proofs.Fronts.{same_fronts}
use Rattle.ts_record.specs.Grammar.{IsRecordedPiece}
use Rattle.ts_record.specs.Refusing.{Opens, Stuck, BreaksOff, IsPieceText, LacksFeed, DigitsEnd}
use Rattle.ts_record.specs.declared.recording.TheConstants.{MOST_PIECE}
use Rattle.ts_record.proofs.NumberTexts.{BeginWithNumber}
use Rattle.ts_record.proofs.Numbers.{same_number}
use Rattle.ts_record.proofs.Texts.{piece_behind}

-- a text that begins with a piece behind its keyword
record Begins (bytes : List ℕ) : Type 0 where
  piece : List ℕ
  behind : List ℕ
  is : IsRecordedPiece piece
  small : length piece < 2 ^ 64
  text : bytes ≡ decimal (length piece) ++ 10 ∷ (piece ++ 10 ∷ behind)

begins : (bytes : List ℕ) → Opens IsPieceText bytes → Begins bytes
begins bytes (token, behind, (piece, is, same), text) = record {
  piece = piece;
  behind = behind;
  is = is;
  small = omega arith;
  text = text ∙ ap (λ t. t ++ behind) same ∙ piece_behind piece behind;
}

-- so many bytes
abbrev filled : ℕ → List ℕ
filled n = replicate n 97

-- the text of a piece begins with its length
pub pieces_begin : BeginWithNumber MOST_PIECE IsPieceText
pieces_begin = record {
  some = some;
  opens = λ z o. let b = begins z o in (length b.piece, b.piece ++ 10 ∷ b.behind, b.is.0, b.is.1, b.text);
}
  where
    some : (n : ℕ) → 1 ≤ n → n ≤ MOST_PIECE → (tail : List ℕ) × IsPieceText (decimal n ++ 10 ∷ tail)
    some n one most =
        let long : length (filled n) ≡ n = length-replicate {A = ℕ} n 97 in (
          filled n ++ 10 ∷ [],
          (
            filled n,
            (omega (arith, long, one), omega (arith, long, most)),
            ap (λ m. decimal m ++ 10 ∷ (filled n ++ 10 ∷ [])) (sym long),
          ),
        )

-- the number of a piece, and a line feed
pub record Numbered (bytes : List ℕ) (value : ℕ) (inside : List ℕ) : Type 0 where
  pub some : 0 < value
  pub most : value ≤ MOST_PIECE
  pub text : bytes ≡ decimal value ++ 10 ∷ inside

pub numbered : (bytes rest inside : List ℕ) (value : ℕ) → DigitsEnd MOST_PIECE bytes value rest → 0 < value
    → rest ≡ 10 ∷ inside → Numbered bytes value inside
numbered bytes rest inside value d some feed = record {
  some = some;
  most = d.most;
  text = d.bytes_are ∙ ap (λ t. d.digits ++ t) feed ∙ ap (λ t. t ++ 10 ∷ inside) (d.number some);
}

same_begin : (value : ℕ) (inside bytes : List ℕ) → value ≤ MOST_PIECE → bytes ≡ decimal value ++ 10 ∷ inside
    → (b : Begins bytes)
    → (value ≡ length b.piece) × (inside ≡ b.piece ++ 10 ∷ b.behind)
same_begin value inside bytes most text b =
    same_number value (length b.piece) inside (b.piece ++ 10 ∷ b.behind) (omega arith) b.small (sym text
    ∙ b.text)

-- the bytes end within the piece
pub short_refused : (bytes inside : List ℕ) (value : ℕ) → Numbered bytes value inside → length inside < value
    → BreaksOff IsPieceText bytes 0
short_refused bytes inside value n short = record {
  front = bytes;
  rest = [];
  bytes_are = sym (append-nil bytes);
  left_is = refl;
  begun = (
    filled (value - length inside) ++ 10 ∷ [],
    (whole, (omega (arith, long), omega (arith, long)), same),
  );
  stuck = λ opens. let b = begins bytes opens in let is = same_begin value inside bytes n.most n.text b in
      omega (arith, is.0, ap length is.1, length-append b.piece (10 ∷ b.behind));
}
  where
    whole : List ℕ
    whole = inside ++ filled (value - length inside)

    long : length whole ≡ value
    long = omega (
      arith,
      length-append inside (filled (value - length inside)),
      length-replicate {A = ℕ} (value - length inside) 97,
    )

    same : bytes ++ (filled (value - length inside) ++ 10 ∷ []) ≡ decimal (length whole)
        ++ 10 ∷ (whole ++ 10 ∷ [])
    same =
        ap (λ t. t ++ (filled (value - length inside) ++ 10 ∷ [])) n.text
        ∙ append_assoc (decimal value) (10 ∷ inside) (filled (value - length inside) ++ 10 ∷ [])
        ∙ ap (λ t. decimal value ++ 10 ∷ t) (sym (append_assoc inside (filled (value - length inside))
        (10 ∷ [])))
        ∙ ap (λ l. decimal l ++ 10 ∷ (whole ++ 10 ∷ [])) (sym long)

-- no line feed stands behind the piece
pub feed_refused : (bytes inside piece rest : List ℕ) (value : ℕ) → Numbered bytes value inside
    → inside ≡ piece ++ rest → length piece ≡ value → LacksFeed rest
    → BreaksOff IsPieceText bytes (length rest)
feed_refused bytes inside piece rest value n split long lacks = record {
  front = front;
  rest = rest;
  bytes_are = n.text ∙ ap (λ t. decimal value ++ 10 ∷ t) split
      ∙ sym (append_assoc (decimal value) (10 ∷ piece) rest);
  left_is = refl;
  begun = (
    10 ∷ [],
    (
      piece,
      (omega arith, omega arith),
      append_assoc (decimal value) (10 ∷ piece) (10 ∷ [])
          ∙ ap (λ l. decimal l ++ 10 ∷ (piece ++ 10 ∷ [])) (sym long),
    ),
  );
  stuck = stuck rest lacks;
}
  where
    front : List ℕ
    front = decimal value ++ 10 ∷ piece

    stuck : (xs : List ℕ) → LacksFeed xs → Stuck (Opens IsPieceText) front xs
    stuck [] lack = λ opens. let b = begins front opens in
        let is = same_begin value piece front n.most refl b in
        omega (arith, is.0, ap length is.1, length-append b.piece (10 ∷ b.behind))
    stuck (x ∷ xs) lack = λ more opens.
        let b = begins (front ++ x ∷ more) opens in
        let is = same_begin value (piece ++ x ∷ more) (front ++ x ∷ more) n.most
        (append_assoc (decimal value) (10 ∷ piece) (x ∷ more)) b in
        let rest = same_fronts piece b.piece (x ∷ more) (10 ∷ b.behind) (long ∙ is.0) is.1 in
        let fed : (x ∷ more) ≡ (10 ∷ b.behind) = rest.1 in let feed : x ≡ 10 = cc in
        lack xs (ap (λ y. y ∷ xs) feed)
