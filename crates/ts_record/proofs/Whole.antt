-- A refusal of a part is one of the whole recording.
use Rattle.std.proofs.Common.{◌≡◌, ℕ, ◌+◌, ◌-◌, ◌<◌, ◌≤◌, suc, List, [], ◌∷◌, ◌++◌, length, take, ap, sym}
use Rattle.std.proofs.Common.{◌∙◌, subst}
use Rattle.std.proofs.Common.{arith, length-append, append_assoc}
use Rattle.std.proofs.Math.Seq.{take-append_seam, take-append-add}
use Rattle.std.proofs.lemmas.List.{append-nil}
use Rattle.ts_record.specs.Grammar.{Contents, IsRecording, stall_room}
use Rattle.ts_record.specs.Keywords.{keyword_text, header_of, headers}
use Rattle.ts_record.specs.Offsets.{BeginsSome, IsRefusedAt, RefusesAt}
use Rattle.ts_record.specs.Refusing.{Stuck, BreaksOff, OneOf, StopsTxns, refusal_of}
use Rattle.ts_record.specs.declared.items.PartRefusal.{PartRefusal}
use Rattle.ts_record.specs.declared.items.PartRefusal.TheVariants as p
use Rattle.ts_record.proofs.Apart.{IsVersion}
use Rattle.ts_record.proofs.Failing.{txns_fail}
use Rattle.ts_record.proofs.Fails.{Fails, fails_behind}
use Rattle.ts_record.proofs.Offered.{at_keyword, headers_offered}
use Rattle.ts_record.proofs.Places.{Recordings, Txns}
use Rattle.ts_record.proofs.Steps.{at_header}

-- the offset of a refusal
refused_at : (bytes : List ℕ) (left : ℕ) → Fails Recordings bytes left
    → IsRefusedAt bytes (length bytes - left)
refused_at bytes left f = record {
  within = omega arith;
  begun = (
    f.begun.1.0,
    f.begun.0,
    let P : List ℕ → Type 0 = λ t. IsRecording (t ++ f.begun.0) f.begun.1.0 in
        subst P (sym front) f.begun.1.1,
  );
  longest = λ n more within some. longest f.rest f.bytes_are f.stuck n (omega (arith, offset)) within some;
  refused = λ r is. refused f.rest f.bytes_are f.stuck r is;
}
  where
    offset : length bytes - left ≡ length f.front
    offset = omega (arith, ap length f.bytes_are, length-append f.front f.rest, f.left_is)

    front : take (length bytes - left) bytes ≡ f.front
    front = ap (λ n. take n bytes) offset ∙ ap (take (length f.front)) f.bytes_are
        ∙ take-append_seam f.front f.rest

    longest : (rest : List ℕ) → bytes ≡ f.front ++ rest → Stuck Recordings f.front rest → (n : ℕ)
        → length f.front < n → n ≤ length bytes → BeginsSome (take n bytes) → ⊥
    longest [] are stuck n more within some = omega (arith, ap length are, length-append f.front [])
    longest (b ∷ bs) are stuck n more within (r, behind, is) =
        let m : ℕ = n - length f.front - 1 in
        let count : n ≡ length f.front + suc m = omega arith in
        let taken : take n bytes ≡ f.front ++ b ∷ take m bs =
        ap (λ i. take i bytes) count ∙ ap (take (length f.front + suc m)) are
        ∙ take-append-add f.front (b ∷ bs) (suc m) in
        let P : List ℕ → Type 0 = λ t. IsRecording t r in
        stuck (take m bs ++ behind) (
          r,
          subst P (ap (λ t. t ++ behind) taken
              ∙ append_assoc f.front (b ∷ take m bs) behind) is,
        )

    refused : (rest : List ℕ) → bytes ≡ f.front ++ rest → Stuck Recordings f.front rest
        → (r : Contents) → IsRecording bytes r → ⊥
    refused [] are stuck r is = let P : List ℕ → Type 0 = λ t. IsRecording t r in
        stuck (r, subst P (are ∙ append-nil f.front) is)
    refused (b ∷ bs) are stuck r is = let P : List ℕ → Type 0 = λ t. IsRecording t r in
        stuck bs (r, subst P are is)

-- no first line
pub no_header : (bytes : List ℕ) (left : ℕ) → BreaksOff (OneOf headers) bytes left
    → IsRefusedAt bytes (length bytes - left)
no_header bytes left r = refused_at bytes left (at_keyword Recordings headers bytes left headers_offered r)

-- behind the first line
pub header_behind : (version : ℕ) (bytes rest : List ℕ) (refusal : PartRefusal) → IsVersion version
    → bytes ≡ keyword_text (header_of version) ++ rest → StopsTxns version rest refusal
    → RefusesAt bytes (refusal_of bytes refusal)
header_behind version bytes rest (p.Left left) is_version text r =
    let step = at_header version is_version in
    subst (λ t. IsRefusedAt t (length t - left)) (sym text)
    (refused_at (keyword_text (header_of version) ++ rest) left
    (fails_behind Recordings (Txns version 0 (stall_room version)) (keyword_text (header_of version)) rest
    left step.to step.from (txns_fail version is_version rest left r)))
header_behind version bytes rest p.NoMemory is_version text r = tt
