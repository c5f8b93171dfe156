-- How long what is sent can be, from what was read: numbers that fall as a head or a body goes on.
use Rattle.std.proofs.Common.{◌≡◌, ℕ, ◌*◌, ◌≤◌, Bool, true, false, cond, List, [], ◌∷◌, ◌++◌, map, filter, length, reverse, ap, arith, length-append}
use Rattle.std.specs.Prelude.{codes, flat_map}
use Rattle.std.specs.Char.{to_ascii_lowercase}
use Rattle.std.proofs.lemmas.List.{length-map, length-reverse}
use Rattle.httparse.specs.Ascii.{crlf_bytes}
use Rattle.httparse.specs.Grammar as grammar
use Rattle.httparse.specs.Grammar.{is_ows, skip_ows, trim_ows, LineEnd, crlf, lf, print_end, print_field, print_section, print_request, print_response, field_value}
use Rattle.http_header.specs.Token.{lowercase}
use Rattle.ts_wire.specs.declared.fields.Field.{Field}
use Rattle.ts_wire.specs.declared.heads.RequestHead as request
use Rattle.ts_wire.specs.declared.heads.ResponseHead as response
use Rattle.ts_wire.specs.Heads.{kept_field, KeepsRequest, KeepsResponse}
use Rattle.ts_wire.specs.Forward.{is_forwarded, forwarded}
use Rattle.ts_wire.proofs.HeadLemmas.{end_some}
use Rattle.ts_wire.specs.Printed.{field_text, fields_text}

-- white space that is skipped or trimmed makes nothing longer
pub skip_shorter : (xs : List ℕ) → length (skip_ows xs) ≤ length xs
skip_shorter [] = omega arith
skip_shorter (b ∷ bs) = by_test (is_ows b) (skip_shorter bs)
  where
    by_test : (t : Bool) → length (skip_ows bs) ≤ length bs
        → length (cond t (skip_ows bs) (b ∷ bs)) ≤ length (b ∷ bs)
    by_test true later = omega arith
    by_test false later = omega arith

pub trim_shorter : (xs : List ℕ) → length (trim_ows xs) ≤ length xs
unfolding trim_ows
trim_shorter xs =
    omega (
      arith,
      skip_shorter xs,
      skip_shorter (reverse (skip_ows xs)),
      length-reverse (skip_ows xs),
      length-reverse (skip_ows (reverse (skip_ows xs))),
    )

-- a field line that is sent is at most twice as long as it was
field_short : (f : grammar.Field) → length (field_text (kept_field f)) ≤ 2 * length (print_field f)
field_short f =
    let name = lowercase f.name in
    let value = field_value f in
    omega (
      arith,
      length-append (name ++ codes ": " ++ value) crlf_bytes,
      length-append (name ++ codes ": ") value,
      length-append name (codes ": "),
      length-map f.name to_ascii_lowercase,
      trim_shorter f.raw,
      length-append (f.name ++ 58 ∷ f.raw) (print_end f.end),
      length-append f.name (58 ∷ f.raw),
      end_some f.end,
    )

fields_short : (fs : List grammar.Field) → length (fields_text (map kept_field fs))
    ≤ 2 * length (flat_map print_field fs)
fields_short [] = omega arith
fields_short (f ∷ fs) =
    omega (
      arith,
      field_short f,
      fields_short fs,
      length-append (field_text (kept_field f)) (fields_text (map kept_field fs)),
      length-append (print_field f) (flat_map print_field fs),
    )

-- fewer fields are no longer
fewer_shorter : (p : Field → Bool) (fs : List Field)
    → length (fields_text (filter p fs)) ≤ length (fields_text fs)
fewer_shorter p [] = omega arith
fewer_shorter p (f ∷ fs) = by_test (p f) (fewer_shorter p fs)
  where
    by_test : (t : Bool) → length (fields_text (filter p fs)) ≤ length (fields_text fs)
        → length (fields_text (cond t (f ∷ filter p fs) (filter p fs))) ≤ length (fields_text (f ∷ fs))
    by_test true later =
        omega (
          arith,
          later,
          length-append (field_text f) (fields_text (filter p fs)),
          length-append (field_text f) (fields_text fs),
        )
    by_test false later = omega (arith, later, length-append (field_text f) (fields_text fs))

-- the field lines of a head are no longer than the head
section_in : (start : List ℕ) (fields : List grammar.Field) (last : LineEnd)
    → length (flat_map print_field fields) ≤ length (start ++ print_section fields last)
section_in start fields last =
    omega (
      arith,
      length-append start (print_section fields last),
      length-append (flat_map print_field fields) (print_end last),
    )

forwarded_short : (fs : List grammar.Field) (fields : List Field) → fields ≡ map kept_field fs
    → length (fields_text (forwarded fields)) ≤ 2 * length (flat_map print_field fs)
forwarded_short fs fields is =
    omega (
      arith,
      fewer_shorter (is_forwarded fields) fields,
      ap (λ l. length (fields_text l)) is,
      fields_short fs,
    )

-- the fields of a head that are sent on are at most twice as long as the head was
pub length-forwarded_request : (h : grammar.RequestHead) (head : request.RequestHead) → KeepsRequest h head
    → length (fields_text (forwarded head.fields)) ≤ 2 * length (print_request h)
unfolding print_request
length-forwarded_request h head keeps =
    let inside : length (flat_map print_field h.fields) ≤ length (print_request h) =
    section_in _ h.fields h.last in
    omega (arith, forwarded_short h.fields head.fields keeps.fields, inside)

pub length-forwarded_response : (h : grammar.ResponseHead) (head : response.ResponseHead)
    → KeepsResponse h head
    → length (fields_text (forwarded head.fields)) ≤ 2 * length (print_response h)
unfolding print_response
length-forwarded_response h head keeps =
    let inside : length (flat_map print_field h.fields) ≤ length (print_response h) =
    section_in _ h.fields h.last in
    omega (arith, forwarded_short h.fields head.fields keeps.fields, inside)
