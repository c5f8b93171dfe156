-- A request's body is no longer than a body may be.
use Rattle.std.proofs.Common.{◌≡◌, ℕ, ◌≤◌, ◌&&◌, Bool, true, false, cond, List, [], ◌∷◌, refl, arith}
use Rattle.std.specs.List.{list_all}
use Rattle.std.specs.Prelude.{nat_lt, nat_le, length, map, codes, ◌==◌, ◌||◌}
use Rattle.std.specs.Char.{is_ascii_digit}
use Rattle.std.specs.Str.Parse.{digits_value}
use Rattle.std.proofs.lemmas.Bool.{and_parts, leb-true}
use Rattle.httparse.specs.Grammar as grammar
use Rattle.ts_wire.specs.FieldList.{members_named}
use Rattle.ts_wire.specs.Framing.{coding_named, content_length, is_length, is_length_of, length_named}
use Rattle.ts_wire.specs.Heads.{kept_field}
use Rattle.ts_wire.specs.Limits.{body_limit}
use Rattle.ts_wire.specs.RequestEnds.{end_by, end_of_request, is_addressed}
use Rattle.ts_wire.specs.declared.framing.ContentLength.{ContentLength}
use Rattle.ts_wire.specs.declared.framing.ContentLength.TheVariants as L
use Rattle.ts_wire.specs.declared.framing.TransferCoding.{TransferCoding}
use Rattle.ts_wire.specs.declared.framing.TransferCoding.TheVariants as C
use Rattle.ts_wire.specs.declared.ends.RequestEnd.TheVariants as E

-- a length that a field says
length_small : (ms : List (List ℕ)) (n : ℕ) → content_length ms ≡ L.Valid n → n ≤ body_limit
length_small [] n is = absurd (cc)
length_small (m ∷ ms) n is = by_test (is_length m && list_all (is_length_of (digits_value 10 m)) ms) said is
  where
    said : is_length m && list_all (is_length_of (digits_value 10 m)) ms ≡ true → digits_value 10 m ≤ body_limit
    said so =
        let one = (and_parts (is_length m) (list_all (is_length_of (digits_value 10 m)) ms) so).0 in
        let more = (and_parts (nat_lt 0 (length m))
        (list_all is_ascii_digit m && nat_le (digits_value 10 m) body_limit) one).1 in
        leb-true (digits_value 10 m) body_limit
        (and_parts (list_all is_ascii_digit m) (nat_le (digits_value 10 m) body_limit) more).1

    by_test : (t : Bool) → (t ≡ true → digits_value 10 m ≤ body_limit)
        → cond t (L.Valid (digits_value 10 m)) L.Faulty ≡ L.Valid n → n ≤ body_limit
    by_test true small same =
        let value : digits_value 10 m ≡ n = cc in omega (arith, small refl, value)
    by_test false small same = absurd (cc)

-- where a request ends, by its parts
end_small : (addressed : Bool) (minor : ℕ) (c : TransferCoding) (l : ContentLength) (n : ℕ)
    → ((k : ℕ) → l ≡ L.Valid k → k ≤ body_limit) → end_by addressed minor c l ≡ E.Sized n → n ≤ body_limit
end_small addressed minor C.Absent L.Absent n small is = let none : 0 ≡ n = cc in omega (arith, none)
end_small addressed minor C.Absent (L.Valid k) n small is = by_test ((k == 0) || addressed) is
  where
    by_test : (t : Bool) → cond t (E.Sized k) E.Unknown ≡ E.Sized n → n ≤ body_limit
    by_test true same = let value : k ≡ n = cc in omega (arith, small k refl, value)
    by_test false same = absurd (cc)
end_small addressed minor C.Absent L.Faulty n small is = absurd (cc)
end_small addressed minor C.Chunked L.Absent n small is = by_test (addressed && (minor == 1)) is
  where
    by_test : (t : Bool) → cond t E.Chunked E.Unknown ≡ E.Sized n → n ≤ body_limit
    by_test true same = absurd (cc)
    by_test false same = absurd (cc)
end_small addressed minor C.Chunked (L.Valid k) n small is = absurd (cc)
end_small addressed minor C.Chunked L.Faulty n small is = absurd (cc)
end_small addressed minor C.Other l n small is = absurd (cc)

pub sized_small : (h : grammar.RequestHead) (n : ℕ) → end_of_request h ≡ E.Sized n → n ≤ body_limit
sized_small h n is =
    let fields = map kept_field h.fields in
    end_small (is_addressed h.method h.target h.minor fields) h.minor (coding_named fields)
    (length_named fields) n (λ k valid. length_small (members_named (codes "content-length") fields) k valid) is
