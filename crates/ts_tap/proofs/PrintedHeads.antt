-- What the heads that are printed say of the way in which their body is sent.
use Rattle.std.proofs.Common.{◌≡◌, ℕ, ◌-◌, ◌<◌, Bool, true, false, List, [], ◌∷◌, ◌++◌, Option, Some, None}
use Rattle.std.proofs.Common.{length, get_or, zero, suc, refl, sym, ap, subst, ◌∙◌, arith, append_assoc}
use Rattle.std.proofs.Common.{length-append, codes, decimal}
use Rattle.std.specs.Prelude.{◌==◌, if◌then◌else◌}
use Rattle.std.specs.Char.{digit_value}
use Rattle.std.specs.Str.Parse.{AllDigits}
use Rattle.std.proofs.lemmas.Fmt.{decimal_is_IsNumeral, decimal_nonempty}
use Rattle.std.proofs.lemmas.List.{append-nil, append_cancel_right, get_or-append_right}
use Rattle.httparse.specs.Ascii.{crlf_bytes}
use Rattle.ts_wire.specs.declared.fields.Field.{Field}
use Rattle.ts_wire.specs.declared.printed.ClientFraming.{ClientFraming}
use Rattle.ts_wire.specs.declared.printed.ClientFraming.TheVariants as C
use Rattle.ts_wire.specs.Limits.{word_limit}
use Rattle.ts_wire.specs.Printed.{client_text, field_text, fields_text, framing_line, reason_text}
use Rattle.ts_wire.specs.Printed.{status_text, via_line}
use Rattle.ts_tap.specs.SentBody.{EndsWith, PrintedHeadsSay, SaysChunked, chunked_end}

-- ---- the lines before the framing line

abbrev status_line : ℕ → List ℕ → List ℕ
status_line status reason =
    codes "HTTP/1.1 " ++ status_text status ++ codes " " ++ reason_text reason ++ crlf_bytes

abbrev lines_before : ℕ → List ℕ → List Field → Option ℕ → List ℕ
lines_before status reason fields via = status_line status reason ++ fields_text fields ++ via_line via

-- fields behind the end of a line end a line
fields_end : (before : List ℕ) (fields : List Field) → EndsWith before crlf_bytes
    → EndsWith (before ++ fields_text fields) crlf_bytes
fields_end before [] (front, is) = (front, append-nil before ∙ is)
fields_end before (f ∷ fs) ends =
    let line = f.name ++ codes ": " ++ f.value.bytes in
    let later = fields_end (before ++ field_text f) fs
    (before ++ line, sym (append_assoc before line crlf_bytes)) in (
      later.0,
      sym (append_assoc before (field_text f) (fields_text fs)) ∙ later.1,
    )

via_end : (before : List ℕ) (via : Option ℕ) → EndsWith before crlf_bytes
    → EndsWith (before ++ via_line via) crlf_bytes
via_end before None (front, is) = (front, append-nil before ∙ is)
via_end before (Some minor) ends = by_test (minor == 0)
  where
    by_test : (b : Bool)
        → EndsWith (before ++ (if b then codes "via: 1.0 tsx\r\n" else codes "via: 1.1 tsx\r\n")) crlf_bytes
    by_test true = (
      before ++ codes "via: 1.0 tsx",
      sym (append_assoc before (codes "via: 1.0 tsx") crlf_bytes),
    )
    by_test false = (
      before ++ codes "via: 1.1 tsx",
      sym (append_assoc before (codes "via: 1.1 tsx") crlf_bytes),
    )

lines_end : (status : ℕ) (reason : List ℕ) (fields : List Field) (via : Option ℕ)
    → EndsWith (lines_before status reason fields via) crlf_bytes
lines_end status reason fields via =
    via_end (status_line status reason ++ fields_text fields) via
    (fields_end (status_line status reason) fields
    (codes "HTTP/1.1 " ++ status_text status ++ codes " " ++ reason_text reason, refl))

-- ---- a body in chunks

says_chunked : (status : ℕ) (reason : List ℕ) (fields : List Field) (via : Option ℕ)
    → SaysChunked (client_text status reason fields via C.Chunked)
says_chunked status reason fields via =
    let ends = lines_end status reason fields via in
    let line = codes "transfer-encoding: chunked\r\n" in
    let last = codes "connection: close\r\n\r\n" in (
      ends.0,
      ap (λ l. (l ++ line) ++ last) ends.1
          ∙ append_assoc (ends.0 ++ crlf_bytes) line last
          ∙ append_assoc ends.0 crlf_bytes (line ++ last),
    )

-- ---- other bodies

-- the last byte of a text
last_byte : (front end : List ℕ) → 0 < length end
    → get_or (front ++ end) (length (front ++ end) - 1) 0 ≡ get_or end (length end - 1) 0
last_byte front end some =
    let sums = length-append front end in
    let place : length (front ++ end) - 1 - length front ≡ length end - 1 = omega (arith, sums, some) in
    get_or-append_right front end (length front) (length (front ++ end) - 1) 0 refl
    (omega (arith, sums, some))
    ∙ ap (λ k. get_or end k 0) place

-- a line with another last byte than that of `transfer-encoding: chunked` stands before the last one
other_line : (front line : List ℕ) → 0 < length line → (get_or line (length line - 1) 0 ≡ 100 → ⊥)
    → SaysChunked ((front ++ line) ++ codes "\r\nconnection: close\r\n\r\n") → ⊥
other_line front line some other (before, is) =
    let chunked = codes "\r\ntransfer-encoding: chunked" in
    let last = codes "\r\nconnection: close\r\n\r\n" in
    let same : front ++ line ≡ before ++ chunked =
    append_cancel_right (front ++ line) (before ++ chunked) last
    (is ∙ sym (append_assoc before chunked last)) in
    other (sym (last_byte front line some) ∙ ap (λ l. get_or l (length l - 1) 0) same
    ∙ last_byte before chunked (omega arith))

-- a digit is no `d`
no_letter : (ds : List ℕ) → AllDigits 10 ds → (k : ℕ) → k < length ds → get_or ds k 0 ≡ 100 → ⊥
no_letter [] all k low is = absurd (omega (arith, low))
no_letter (d ∷ ds) all zero low is =
    let wrong : digit_value 100 < 10 = subst (λ b. digit_value b < 10) is all.0 in
    absurd (omega (arith, wrong))
no_letter (d ∷ ds) all (suc k) low is = no_letter ds all.1 k (omega (arith, low)) is

says_sized : (status n : ℕ) (reason : List ℕ) (fields : List Field) (via : Option ℕ) → n < word_limit
    → SaysChunked (client_text status reason fields via (C.Sized n)) → ⊥
says_sized status n reason fields via fits (before, is) =
    let front = lines_before status reason fields via in
    let name = codes "content-length: " in
    let last = codes "connection: close\r\n\r\n" in
    let some = decimal_nonempty n fits in
    let text : ((front ++ name) ++ decimal n) ++ codes "\r\nconnection: close\r\n\r\n"
    ≡ (front ++ ((name ++ decimal n) ++ crlf_bytes)) ++ last =
    sym (append_assoc ((front ++ name) ++ decimal n) crlf_bytes last)
    ∙ ap (λ l. (l ++ crlf_bytes) ++ last) (append_assoc front name (decimal n))
    ∙ ap (λ l. l ++ last) (append_assoc front (name ++ decimal n) crlf_bytes) in
    other_line (front ++ name) (decimal n) some
    (no_letter (decimal n) (decimal_is_IsNumeral n fits).0.1 (length (decimal n) - 1) (omega (arith, some)))
    (before, text ∙ is)

says_relayed : (status minor : ℕ) (reason : List ℕ) (fields : List Field) (framing : ClientFraming)
    → length (framing_line framing) ≡ 0 → SaysChunked (client_text status reason fields (Some minor) framing)
    → ⊥
says_relayed status minor reason fields framing none (before, is) =
    let front = status_line status reason ++ fields_text fields in
    by_test front (framing_line framing) none (minor == 0) before is
  where
    by_test : (front line : List ℕ) → length line ≡ 0 → (b : Bool) → (before : List ℕ)
        → ((front ++ (if b then codes "via: 1.0 tsx\r\n" else codes "via: 1.1 tsx\r\n")) ++ line)
        ++ codes "connection: close\r\n\r\n" ≡ before ++ chunked_end → ⊥
    by_test front (x ∷ line) none b before is = absurd (omega (arith, none))
    by_test front [] none true before is =
        let line = codes "via: 1.0 tsx" in
        let last = codes "connection: close\r\n\r\n" in
        other_line front line (omega arith) (λ wrong. absurd (omega (arith, wrong))) (
          before,
          sym (append_assoc (front ++ line) crlf_bytes last)
              ∙ ap (λ l. l ++ last) (append_assoc front line crlf_bytes)
              ∙ ap (λ l. l ++ last) (sym (append-nil (front ++ codes "via: 1.0 tsx\r\n"))) ∙ is,
        )
    by_test front [] none false before is =
        let line = codes "via: 1.1 tsx" in
        let last = codes "connection: close\r\n\r\n" in
        other_line front line (omega arith) (λ wrong. absurd (omega (arith, wrong))) (
          before,
          sym (append_assoc (front ++ line) crlf_bytes last)
              ∙ ap (λ l. l ++ last) (append_assoc front line crlf_bytes)
              ∙ ap (λ l. l ++ last) (sym (append-nil (front ++ codes "via: 1.1 tsx\r\n"))) ∙ is,
        )

pub printed_heads : PrintedHeadsSay
printed_heads = record { in_chunks = says_chunked; sized = says_sized; relayed = says_relayed }
