-- Lengths and codings, one member and one field at a time.
use Rattle.std.proofs.Common.{◌≡◌, ℕ, Bool, true, false, cond, ◌&&◌, List, [], ◌∷◌, fold, refl, sym}
use Rattle.std.specs.List.{list_all}
use Rattle.std.specs.Str.Parse.{digits_value}
use Rattle.std.proofs.lemmas.List.Folds.{fold_stays}
use Rattle.ts_wire.specs.declared.framing.ContentLength.TheVariants as L
use Rattle.ts_wire.specs.declared.framing.TransferCoding.TheVariants as C
use Rattle.ts_wire.specs.Framing.{is_length, is_length_of, is_chunked, content_length, transfer_coding, add_length, add_coding}

-- after a first length, each member is held against it
fold-add_length : (n : ℕ) (ms : List (List ℕ)) → fold add_length (L.Valid n) ms
    ≡ cond (list_all (is_length_of n) ms) (L.Valid n) L.Faulty
fold-add_length n [] = refl
fold-add_length n (m ∷ ms) = by_test (is_length_of n m) (fold-add_length n ms)
  where
    by_test : (t : Bool) → fold add_length (L.Valid n) ms
        ≡ cond (list_all (is_length_of n) ms) (L.Valid n) L.Faulty
        → fold add_length (cond t (L.Valid n) L.Faulty) ms
        ≡ cond (t && list_all (is_length_of n) ms) (L.Valid n) L.Faulty
    by_test true later = later
    by_test false later = fold_stays add_length L.Faulty (λ _. refl) ms

pub content_length_is_fold : (ms : List (List ℕ)) → content_length ms ≡ fold add_length L.Absent ms
content_length_is_fold [] = refl
content_length_is_fold (m ∷ ms) = by_test (is_length m)
  where
    by_test : (t : Bool) → cond (t && list_all (is_length_of (digits_value 10 m)) ms)
        (L.Valid (digits_value 10 m)) L.Faulty ≡ fold add_length
        (cond t (L.Valid (digits_value 10 m)) L.Faulty) ms
    by_test true = sym (fold-add_length _ ms)
    by_test false = sym (fold_stays add_length L.Faulty (λ _. refl) ms)

fold-other : (vs : List (List ℕ)) → fold add_coding C.Other vs ≡ C.Other
fold-other vs = fold_stays add_coding C.Other (λ _. refl) vs

pub transfer_coding_is_fold : (vs : List (List ℕ)) → transfer_coding vs ≡ fold add_coding C.Absent vs
transfer_coding_is_fold [] = refl
transfer_coding_is_fold (v ∷ []) = refl
transfer_coding_is_fold (v ∷ w ∷ vs) = by_test (is_chunked v)
  where
    by_test : (t : Bool) → C.Other ≡ fold add_coding (add_coding (cond t C.Chunked C.Other) w) vs
    by_test true = sym (fold-other vs)
    by_test false = sym (fold-other vs)
