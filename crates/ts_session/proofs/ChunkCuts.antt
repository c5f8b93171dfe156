-- What the tests of `ChunksEnd` say of the lines of a body in chunks, both ways.
use Rattle.std.proofs.Common.{◌≡◌, ℕ, ◌≤◌, Bool, true, List, [], ◌∷◌, ◌++◌, length, ⊎_elim}
use Rattle.std.proofs.Common.{refl, sym, ap, subst, ◌∙◌, append_assoc, Option, Some, None}
use Rattle.std.specs.Prelude.{◌&&◌, ◌==◌, bytes_eq, nat_le, nat_lt}
use Rattle.std.specs.Char.{is_ascii_hexdigit}
use Rattle.std.specs.List.{list_all}
use Rattle.std.specs.Str.Parse.{digits_value}
use Rattle.std.proofs.lemmas.Bool.{and_from, and_parts, eqb-true, le-leb, leb-true, lt-ltb, ltb-true}
use Rattle.std.proofs.lemmas.Bool.{or_cases, or_right}
use Rattle.std.proofs.lemmas.List.Sums.{AllPass-from_list_all, list_all-from_AllPass}
use Rattle.httparse.specs.Ascii.{crlf_bytes, semicolon}
use Rattle.httparse.specs.Grammar.{AllPass, ChunkLine, IsChunkLine, IsExtension, chunk_size}
use Rattle.httparse.specs.Grammar.{is_extension_byte}
use Rattle.httparse.specs.Grammar.{is_ows, print_chunk_line, print_extension}
use Rattle.ts_wire.specs.Body.{IsShortLine}
use Rattle.ts_wire.specs.Limits.{line_limit}
use Rattle.ts_session.specs.ChunksEnd.{begins_with_line, is_extension_end, is_line_with, is_size, is_size_end}
use Rattle.ts_session.specs.Cuts.{cuts}
use Rattle.ts_session.proofs.Cuts.{cut_found, cut_there, same_bytes}

-- ---- a chunk line

record HasExtension (bytes : List ℕ) : Type 0 where
  extension : Option (List ℕ)
  good : IsExtension extension
  is : bytes ≡ print_extension extension ++ crlf_bytes

abbrev texts : List ℕ → List ℕ → Bool
texts text end = list_all is_extension_byte text && bytes_eq end crlf_bytes

extension_found : (bytes : List ℕ) → is_extension_end bytes ≡ true → HasExtension bytes
unfolding is_extension_end
extension_found [] found = absurd (cc)
extension_found (b ∷ bytes) found =
    ⊎_elim
    (λ (plain : bytes_eq (b ∷ bytes) crlf_bytes ≡ true).
    let none : HasExtension (b ∷ bytes) =
    record { extension = None; good = tt; is = same_bytes (b ∷ bytes) crlf_bytes plain } in
    none)
    (λ (more : ((b == semicolon) && cuts texts bytes) ≡ true).
    let parts = and_parts (b == semicolon) (cuts texts bytes) more in
    let cut = cut_found texts bytes parts.1 in
    let passes = and_parts (list_all is_extension_byte cut.first) (bytes_eq cut.rest crlf_bytes) cut.passes in
    let first = eqb-true b semicolon parts.0 in
    let behind : bytes ≡ cut.first ++ crlf_bytes =
    cut.is ∙ ap (λ t. cut.first ++ t) (same_bytes cut.rest crlf_bytes passes.1) in
    let some : HasExtension (b ∷ bytes) = record {
      extension = Some cut.first;
      good = AllPass-from_list_all is_extension_byte cut.first passes.0;
      is = λ i. first i ∷ behind i;
    } in
    some)
    (or_cases (bytes_eq (b ∷ bytes) crlf_bytes) ((b == semicolon) && cuts texts bytes) found)

extension_there : (extension : Option (List ℕ)) → IsExtension extension
    → is_extension_end (print_extension extension ++ crlf_bytes) ≡ true
unfolding is_extension_end
extension_there None good = refl
extension_there (Some text) good =
    or_right (bytes_eq (semicolon ∷ (text ++ crlf_bytes)) crlf_bytes)
    ((semicolon == semicolon) && cuts texts (text ++ crlf_bytes))
    (and_from (semicolon == semicolon) (cuts texts (text ++ crlf_bytes)) refl
    (cut_there texts text crlf_bytes
    (and_from (list_all is_extension_byte text) (bytes_eq crlf_bytes crlf_bytes)
    (list_all-from_AllPass is_extension_byte text good) refl)))

record HasSizeEnd (bytes : List ℕ) : Type 0 where
  pad : List ℕ
  blank : AllPass is_ows pad
  extension : Option (List ℕ)
  good : IsExtension extension
  is : bytes ≡ pad ++ (print_extension extension ++ crlf_bytes)

abbrev pads : List ℕ → List ℕ → Bool
pads pad end = list_all is_ows pad && is_extension_end end

size_end_found : (bytes : List ℕ) → is_size_end bytes ≡ true → HasSizeEnd bytes
unfolding is_size_end
size_end_found bytes found =
    let cut = cut_found pads bytes found in
    let passes = and_parts (list_all is_ows cut.first) (is_extension_end cut.rest) cut.passes in
    let e = extension_found cut.rest passes.1 in
    record {
      pad = cut.first;
      blank = AllPass-from_list_all is_ows cut.first passes.0;
      extension = e.extension;
      good = e.good;
      is = cut.is ∙ ap (λ t. cut.first ++ t) e.is;
    }

size_end_there : (pad : List ℕ) (extension : Option (List ℕ)) → AllPass is_ows pad → IsExtension extension
    → is_size_end (pad ++ (print_extension extension ++ crlf_bytes)) ≡ true
unfolding is_size_end
size_end_there pad extension blank good =
    cut_there pads pad (print_extension extension ++ crlf_bytes)
    (and_from (list_all is_ows pad) (is_extension_end (print_extension extension ++ crlf_bytes))
    (list_all-from_AllPass is_ows pad blank) (extension_there extension good))

-- the line is a chunk line, and the test is true of its size
pub record IsLineWith (test : ℕ → Bool) (line : List ℕ) : Type 0 where
  pub parsed : ChunkLine
  pub good : IsChunkLine parsed
  pub is : line ≡ print_chunk_line parsed
  pub passes : test (chunk_size parsed) ≡ true

abbrev sizes : (ℕ → Bool) → List ℕ → List ℕ → Bool
sizes test digits end = is_size digits && (is_size_end end && test (digits_value 16 digits))

line_found : (test : ℕ → Bool) (line : List ℕ) → is_line_with test line ≡ true → IsLineWith test line
unfolding is_line_with print_chunk_line
line_found test line found =
    let cut = cut_found (sizes test) line found in
    let a = and_parts (is_size cut.first) (is_size_end cut.rest && test (digits_value 16 cut.first)) cut.passes in
    let b = and_parts (is_size_end cut.rest) (test (digits_value 16 cut.first)) a.1 in
    let some = and_parts (nat_lt 0 (length cut.first))
    (nat_le (length cut.first) 16 && list_all is_ascii_hexdigit cut.first) a.0 in
    let few = and_parts (nat_le (length cut.first) 16) (list_all is_ascii_hexdigit cut.first) some.1 in
    let e = size_end_found cut.rest b.0 in
    let text : List ℕ = print_extension e.extension in
    record {
      parsed = record { digits = cut.first; pad = e.pad; extension = e.extension };
      good = record {
        digits = (
          ltb-true 0 (length cut.first) some.0,
          leb-true (length cut.first) 16 few.0,
          AllPass-from_list_all is_ascii_hexdigit cut.first few.1,
        );
        pad = e.blank;
        extension = e.good;
      };
      is = cut.is ∙ ap (λ t. cut.first ++ t) e.is ∙ sym (append_assoc cut.first e.pad (text ++ crlf_bytes))
          ∙ sym (append_assoc (cut.first ++ e.pad) text crlf_bytes);
      passes = b.1;
    }

line_there : (test : ℕ → Bool) (l : ChunkLine) → IsChunkLine l → test (chunk_size l) ≡ true
    → is_line_with test (print_chunk_line l) ≡ true
unfolding is_line_with print_chunk_line
line_there test l good passes =
    let text : List ℕ = print_extension l.extension in
    let end : List ℕ = l.pad ++ (text ++ crlf_bytes) in
    let is : l.digits ++ end ≡ ((l.digits ++ l.pad) ++ text) ++ crlf_bytes =
    sym (append_assoc l.digits l.pad (text ++ crlf_bytes)) ∙ sym (append_assoc (l.digits ++ l.pad) text crlf_bytes) in
    subst (λ t. cuts (sizes test) t ≡ true) is
    (cut_there (sizes test) l.digits end
    (and_from (is_size l.digits) (is_size_end end && test (digits_value 16 l.digits))
    (and_from (nat_lt 0 (length l.digits)) (nat_le (length l.digits) 16 && list_all is_ascii_hexdigit l.digits)
    (lt-ltb 0 (length l.digits) good.digits.0)
    (and_from (nat_le (length l.digits) 16) (list_all is_ascii_hexdigit l.digits)
    (le-leb (length l.digits) 16 good.digits.1)
    (list_all-from_AllPass is_ascii_hexdigit l.digits good.digits.2)))
    (and_from (is_size_end end) (test (digits_value 16 l.digits))
    (size_end_there l.pad l.extension good.pad good.extension) passes)))

-- the bytes begin with a chunk line, and the test is true of its size and of what follows it
pub record BeginsWithLine (test : ℕ → List ℕ → Bool) (bytes : List ℕ) : Type 0 where
  pub line : ChunkLine
  pub good : IsShortLine line
  pub rest : List ℕ
  pub is : bytes ≡ print_chunk_line line ++ rest
  pub passes : test (chunk_size line) rest ≡ true

abbrev lines : (ℕ → List ℕ → Bool) → List ℕ → List ℕ → Bool
lines test line rest = nat_le (length line) line_limit && is_line_with (λ size. test size rest) line

pub begun_found : (test : ℕ → List ℕ → Bool) (bytes : List ℕ) → begins_with_line test bytes ≡ true
    → BeginsWithLine test bytes
unfolding begins_with_line
begun_found test bytes found =
    let cut = cut_found (lines test) bytes found in
    let parts = and_parts (nat_le (length cut.first) line_limit)
    (is_line_with (λ size. test size cut.rest) cut.first) cut.passes in
    let l = line_found (λ size. test size cut.rest) cut.first parts.1 in
    record {
      line = l.parsed;
      good = record {
        line = l.good;
        short = subst (λ t. length t ≤ line_limit) l.is (leb-true (length cut.first) line_limit parts.0);
      };
      rest = cut.rest;
      is = cut.is ∙ ap (λ t. t ++ cut.rest) l.is;
      passes = l.passes;
    }

pub begun_there : (test : ℕ → List ℕ → Bool) (l : ChunkLine) (rest : List ℕ) → IsShortLine l
    → test (chunk_size l) rest ≡ true → begins_with_line test (print_chunk_line l ++ rest) ≡ true
unfolding begins_with_line
begun_there test l rest good passes =
    cut_there (lines test) (print_chunk_line l) rest
    (and_from (nat_le (length (print_chunk_line l)) line_limit)
    (is_line_with (λ size. test size rest) (print_chunk_line l))
    (le-leb (length (print_chunk_line l)) line_limit good.short)
    (line_there (λ size. test size rest) l good.line passes))
