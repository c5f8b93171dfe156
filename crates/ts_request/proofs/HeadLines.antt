-- The lines of a request's head that stay are the head without the fields that speak of its body.
use Rattle.std.proofs.Common.{◌≡◌, ◌≢◌, ℕ, suc, ◌+◌, ◌≤◌, Bool, true, false, cond, List, [], ◌∷◌, ◌++◌}
use Rattle.std.proofs.Common.{length, take, refl, sym, ap, subst, ◌∙◌, arith, append_assoc, length-append}
use Rattle.std.specs.Prelude.{All, IsTrue, codes, bytes_eq, not, ◌||◌, ◌==◌, filter, flat_map}
use Rattle.std.specs.Char.{to_ascii_lowercase}
use Rattle.std.specs.List.{before_first, list_any, prefix_len}
use Rattle.std.proofs.lemmas.Bool.{ne_eqb}
use Rattle.std.proofs.lemmas.List.{append-nil}
use Rattle.std.proofs.lemmas.List.Elements.{All-append, All-cons, All-head, All-nil, All-tail, All-weaker}
use Rattle.std.proofs.lemmas.List.Sums.{AllPass-from_list_all}
use Rattle.std.proofs.lemmas.Slice.Eq.{bytes_eq-Decides}
use Rattle.http_header.specs.Token.{lowercase}
use Rattle.httparse.specs.Ascii.{colon, line_feed, space}
use Rattle.httparse.specs.Grammar as grammar
use Rattle.httparse.specs.Grammar.{IsField, IsRequestHead, LineEnd, crlf, is_token_byte, is_uri_byte}
use Rattle.httparse.specs.Grammar.{is_value_byte, lf, print_blank, print_end, print_field, print_request}
use Rattle.httparse.specs.Grammar.{print_section, print_version}
use Rattle.httparse.proofs.GrammarLemmas.{cons-append, print_request-append}
use Rattle.httparse.proofs.PieceLemmas.{colon_ends_token}
use Rattle.ts_request.specs.Lines.{is_colon, is_line_feed, kept_from, kept_line, kept_lines}
use Rattle.ts_request.specs.Upload.{speaks_of_body, stays, without_body}

-- ---- bytes among which one is not

-- the byte is not among these
abbrev Lacks : ℕ → List ℕ → Type 0
Lacks b = All (λ c. c ≢ b)

-- bytes that pass a test which the byte fails
lacks_failing : (test : ℕ → Bool) (b : ℕ) (bytes : List ℕ) → test b ≡ false → All (λ c. IsTrue (test c)) bytes
    → Lacks b bytes
lacks_failing test b bytes fails pass = All-weaker (λ c. IsTrue (test c)) (λ c. c ≢ b) other bytes pass
  where
    other : (c : ℕ) → IsTrue (test c) → c ≢ b
    other c passes is = let wrong : IsTrue (test b) = subst (λ x. IsTrue (test x)) is passes in absurd (cc)

token_lacks_line_feed : (bytes : List ℕ) → All (λ c. IsTrue (is_token_byte c)) bytes → Lacks line_feed bytes
unfolding is_token_byte
token_lacks_line_feed bytes pass = lacks_failing is_token_byte line_feed bytes refl pass

token_lacks_colon : (bytes : List ℕ) → All (λ c. IsTrue (is_token_byte c)) bytes → Lacks colon bytes
token_lacks_colon bytes pass = lacks_failing is_token_byte colon bytes colon_ends_token pass

-- ---- the lines that stay, line by line

-- bytes without a line feed are part of one line
kept_run : (line xs rest : List ℕ) → Lacks line_feed xs
    → kept_from line (xs ++ rest) ≡ kept_from (line ++ xs) rest
kept_run line [] rest none = ap (λ l. kept_from l rest) (sym (append-nil line))
kept_run line (x ∷ xs) rest none =
    let other : is_line_feed x ≡ false = ne_eqb x line_feed (All-head (λ c. c ≢ line_feed) x xs none) in
    let one = line ++ x ∷ [] in
    ap (λ b. cond b (kept_line one ++ kept_from [] (xs ++ rest)) (kept_from one (xs ++ rest))) other
    ∙ kept_run one xs rest (All-tail (λ c. c ≢ line_feed) x xs none)
    ∙ ap (λ l. kept_from l rest) (append_assoc line (x ∷ []) xs)

-- a line with its end stands before the others
kept_first : (xs : List ℕ) (e : LineEnd) (rest : List ℕ) → Lacks line_feed xs
    → kept_lines (xs ++ (print_end e ++ rest)) ≡ kept_line (xs ++ print_end e) ++ kept_lines rest
kept_first xs lf rest none = kept_run [] xs (line_feed ∷ rest) none
kept_first xs crlf rest none =
    let returned : List ℕ = 13 ∷ [] in
    ap kept_lines (sym (append_assoc xs returned (line_feed ∷ rest)))
    ∙ kept_run [] (xs ++ returned) (line_feed ∷ rest) (All-append (λ c. c ≢ line_feed) xs returned none
    (All-cons (λ c. c ≢ line_feed) 13 [] (λ wrong. absurd (omega (arith, wrong))) (All-nil
    (λ c. c ≢ line_feed))))
    ∙ ap (λ l. kept_line l ++ kept_lines rest) (append_assoc xs returned (line_feed ∷ []))

-- an empty line stays
empty_stays : (e : LineEnd) → kept_line (print_end e) ≡ print_end e
empty_stays crlf = refl
empty_stays lf = refl

kept_blank : (ends : List LineEnd) (rest : List ℕ)
    → kept_lines (print_blank ends ++ rest) ≡ print_blank ends ++ kept_lines rest
kept_blank [] rest = refl
kept_blank (e ∷ ends) rest =
    ap kept_lines (append_assoc (print_end e) (print_blank ends) rest)
    ∙ kept_first [] e (print_blank ends ++ rest) (All-nil (λ c. c ≢ line_feed))
    ∙ ap (λ l. l ++ kept_lines (print_blank ends ++ rest)) (empty_stays e)
    ∙ ap (λ l. print_end e ++ l) (kept_blank ends rest)
    ∙ sym (append_assoc (print_end e) (print_blank ends) (kept_lines rest))

-- ---- what stands before the first colon

before_run : (xs rest : List ℕ) → Lacks colon xs
    → before_first is_colon (xs ++ rest) ≡ xs ++ before_first is_colon rest
before_run [] rest none = refl
before_run (x ∷ xs) rest none =
    let other : is_colon x ≡ false = ne_eqb x colon (All-head (λ c. c ≢ colon) x xs none) in
    let n = prefix_len (λ c. not (is_colon c)) (xs ++ rest) in
    let one : (1 + n ≡ suc n) = omega arith in
    ap (λ b. take (cond (not b) (1 + n) 0) (x ∷ (xs ++ rest))) other
    ∙ ap (λ k. take k (x ∷ (xs ++ rest))) one
    ∙ ap (λ l. x ∷ l) (before_run xs rest (All-tail (λ c. c ≢ colon) x xs none))

-- ---- field lines

-- a field line without its end
abbrev field_line : grammar.Field → List ℕ
field_line f = f.name ++ (colon ∷ f.raw)

field_lacks : (f : grammar.Field) → IsField f → Lacks line_feed (field_line f)
field_lacks f good =
    All-append (λ c. c ≢ line_feed) f.name (colon ∷ f.raw) (token_lacks_line_feed f.name good.name.1)
    (All-cons (λ c. c ≢ line_feed) colon f.raw (λ wrong. absurd (omega (arith, wrong)))
    (lacks_failing is_value_byte line_feed f.raw refl good.raw))

-- the name of a field stands before its colon
name_is : (f : grammar.Field) → IsField f → before_first is_colon (print_field f) ≡ f.name
name_is f good =
    ap (before_first is_colon) (append_assoc f.name (colon ∷ f.raw) (print_end f.end))
    ∙ before_run f.name (colon ∷ (f.raw ++ print_end f.end)) (token_lacks_colon f.name good.name.1)
    ∙ append-nil f.name

field_kept : (f : grammar.Field) → IsField f → kept_line (print_field f) ≡ cond (stays f) (print_field f) []
field_kept f good =
    ap (λ name. cond (not (speaks_of_body (lowercase name))) (print_field f) []) (name_is f good)

fields_kept : (fs : List grammar.Field) (tail : List ℕ) → All IsField fs
    → kept_lines (flat_map print_field fs ++ tail) ≡ flat_map print_field (filter stays fs) ++ kept_lines tail
fields_kept [] tail good = refl
fields_kept (f ∷ fs) tail good =
    let here = All-head IsField f fs good in
    let others = flat_map print_field fs in
    ap kept_lines (append_assoc (print_field f) others tail
    ∙ append_assoc (field_line f) (print_end f.end) (others ++ tail))
    ∙ kept_first (field_line f) f.end (others ++ tail) (field_lacks f here)
    ∙ ap (λ l. l ++ kept_lines (others ++ tail)) (field_kept f here)
    ∙ ap (λ l. cond (stays f) (print_field f) [] ++ l) (fields_kept fs tail (All-tail IsField f fs good))
    ∙ join (stays f)
  where
    join : (b : Bool) → cond b (print_field f) [] ++ (flat_map print_field
        (filter stays fs) ++ kept_lines tail)
        ≡ flat_map print_field (cond b (f ∷ filter stays fs) (filter stays fs)) ++ kept_lines tail
    join true = sym (append_assoc (print_field f) (flat_map print_field (filter stays fs)) (kept_lines tail))
    join false = refl

-- ---- the start line

abbrev is_space : ℕ → Bool
is_space b = b == space

or_true : (b : Bool) → (b || true) ≡ true
or_true true = refl
or_true false = refl

spaced : (a b : List ℕ) → list_any is_space (lowercase (a ++ space ∷ b)) ≡ true
spaced [] b = refl
spaced (x ∷ a) b =
    ap (λ t. is_space (to_ascii_lowercase x) || t) (spaced a b) ∙ or_true (is_space (to_ascii_lowercase x))

other_text : (a c : List ℕ) → list_any is_space a ≡ true → list_any is_space c ≡ false → bytes_eq a c ≡ false
other_text a c has none = decide (bytes_eq a c) (bytes_eq-Decides a c).0
  where
    decide : (b : Bool) → (b ≡ true → a ≡ c) → b ≡ false
    decide true same = let e = ap (list_any is_space) (same refl) in absurd (cc)
    decide false same = refl

-- a text with a space in it is no name
spaced_speaks_not : (a b : List ℕ) → speaks_of_body (lowercase (a ++ space ∷ b)) ≡ false
spaced_speaks_not a b =
    let text = lowercase (a ++ space ∷ b) in
    let length_not = other_text text (codes "content-length") (spaced a b) refl in
    let coding_not = other_text text (codes "transfer-encoding") (spaced a b) refl in
    let expect_not = other_text text (codes "expect") (spaced a b) refl in
    ap (λ t. t || (bytes_eq text (codes "transfer-encoding") || bytes_eq text (codes "expect"))) length_not
    ∙ ap (λ t. t || bytes_eq text (codes "expect")) coding_not ∙ expect_not

-- the start line without its end
abbrev start_line : grammar.RequestHead → List ℕ
start_line h = h.method ++ (space ∷ (h.target ++ (space ∷ print_version h.minor)))

version_lacks : (minor : ℕ) → Lacks line_feed (print_version minor)
version_lacks minor =
    All-append (λ c. c ≢ line_feed) (codes "HTTP/1.") ((48 + minor) ∷ [])
    (lacks_failing (λ c. not (c == line_feed)) line_feed (codes "HTTP/1.") refl
    (AllPass-from_list_all (λ c. not (c == line_feed)) (codes "HTTP/1.") refl))
    (All-cons (λ c. c ≢ line_feed) (48 + minor) [] (λ wrong. absurd (omega (arith, wrong)))
    (All-nil (λ c. c ≢ line_feed)))

start_lacks : (h : grammar.RequestHead) → IsRequestHead h → Lacks line_feed (start_line h)
start_lacks h good =
    All-append (λ c. c ≢ line_feed) h.method (space ∷ (h.target ++ (space ∷ print_version h.minor)))
    (token_lacks_line_feed h.method good.method.1)
    (All-cons (λ c. c ≢ line_feed) space (h.target ++ (space ∷ print_version h.minor))
    (λ wrong. absurd (omega (arith, wrong)))
    (All-append (λ c. c ≢ line_feed) h.target (space ∷ print_version h.minor)
    (lacks_failing is_uri_byte line_feed h.target refl good.target.1)
    (All-cons (λ c. c ≢ line_feed) space (print_version h.minor) (λ wrong. absurd (omega (arith, wrong)))
    (version_lacks h.minor))))

-- it stays, since a space stands before its first colon
start_stays : (h : grammar.RequestHead) → IsRequestHead h
    → kept_line (start_line h ++ print_end h.line_end) ≡ start_line h ++ print_end h.line_end
start_stays h good =
    let line = start_line h ++ print_end h.line_end in
    let after = (h.target ++ (space ∷ print_version h.minor)) ++ print_end h.line_end in
    let none = All-append (λ c. c ≢ colon) h.method (space ∷ []) (token_lacks_colon h.method good.method.1)
    (All-cons (λ c. c ≢ colon) space [] (λ wrong. absurd (omega (arith, wrong))) (All-nil
    (λ c. c ≢ colon))) in
    let parts : line ≡ (h.method ++ space ∷ []) ++ after = simp (append_assoc, cons-append) in
    let name : before_first is_colon line ≡ h.method ++ space ∷ before_first is_colon after =
    ap (before_first is_colon) parts ∙ before_run (h.method ++ space ∷ []) after none
    ∙ append_assoc h.method (space ∷ []) (before_first is_colon after) in
    ap (λ n. cond (not (speaks_of_body (lowercase n))) line []) name
    ∙ ap (λ b. cond (not b) line []) (spaced_speaks_not h.method (before_first is_colon after))

-- ---- the head

-- a printed head, line by line
head_parts : (h : grammar.RequestHead)
    → print_request h ≡ print_blank h.blank ++ (start_line h
    ++ (print_end h.line_end ++ (flat_map print_field h.fields ++ print_end h.last)))
head_parts h =
    sym (append-nil (print_request h)) ∙ print_request-append h []
    ∙ regroup (print_blank h.blank) h.method h.target (print_version h.minor) (print_end h.line_end)
    (flat_map print_field h.fields) (print_end h.last)
  where
    regroup : (a b c d e f g : List ℕ)
        → a ++ (b ++ 32 ∷ (c ++ 32 ∷ (d ++ (e ++ ((f ++ g) ++ [])))))
        ≡ a ++ ((b ++ (32 ∷ (c ++ (32 ∷ d)))) ++ (e ++ (f ++ g)))
    regroup a b c d e f g = simp (append_assoc, cons-append, append-nil)

-- the lines that stay of a head are the head without those that speak of its body
pub strips_head : (h : grammar.RequestHead) → IsRequestHead h
    → kept_lines (print_request h) ≡ print_request (without_body h)
strips_head h good =
    let fields = flat_map print_field h.fields in
    let last = print_end h.last in
    ap kept_lines (head_parts h)
    ∙ kept_blank h.blank (start_line h ++ (print_end h.line_end ++ (fields ++ last)))
    ∙ ap (λ l. print_blank h.blank ++ l)
    (kept_first (start_line h) h.line_end (fields ++ last) (start_lacks h good)
    ∙ ap (λ l. l ++ kept_lines (fields ++ last)) (start_stays h good)
    ∙ append_assoc (start_line h) (print_end h.line_end) (kept_lines (fields ++ last))
    ∙ ap (λ l. start_line h ++ (print_end h.line_end ++ l)) (fields_kept h.fields last good.fields
    ∙ ap (λ l. flat_map print_field (filter stays h.fields) ++ l) (last_kept h.last)))
    ∙ sym (head_parts (without_body h))
  where
    last_kept : (e : LineEnd) → kept_lines (print_end e) ≡ print_end e
    last_kept crlf = refl
    last_kept lf = refl

-- ---- and no longer than it

fields_short : (fs : List grammar.Field)
    → length (flat_map print_field (filter stays fs)) ≤ length (flat_map print_field fs)
fields_short [] = omega arith
fields_short (f ∷ fs) = by_line (fields_short fs) (stays f)
  where
    by_line : length (flat_map print_field (filter stays fs)) ≤ length (flat_map print_field fs) → (b : Bool)
        → length (flat_map print_field (cond b (f ∷ filter stays fs) (filter stays fs)))
        ≤ length (print_field f ++ flat_map print_field fs)
    by_line short true = omega (
      arith,
      short,
      length-append (print_field f) (flat_map print_field (filter stays fs)),
      length-append (print_field f) (flat_map print_field fs),
    )
    by_line short false = omega (arith, short, length-append (print_field f) (flat_map print_field fs))

longer : (x y z f g l : List ℕ) → length f ≤ length g
    → length (x ++ (y ++ (z ++ (f ++ l)))) ≤ length (x ++ (y ++ (z ++ (g ++ l))))
longer x y z f g l short = simp length-append (omega arith)

pub stripped_short : (h : grammar.RequestHead)
    → length (print_request (without_body h)) ≤ length (print_request h)
stripped_short h =
    subst (λ w. length w ≤ length (print_request h)) (sym (head_parts (without_body h)))
    (subst (λ w. length (print_blank h.blank ++ (start_line h
    ++ (print_end h.line_end ++ (flat_map print_field
    (filter stays h.fields) ++ print_end h.last)))) ≤ length w)
    (sym (head_parts h))
    (longer (print_blank h.blank) (start_line h) (print_end h.line_end)
    (flat_map print_field (filter stays h.fields)) (flat_map print_field h.fields) (print_end h.last)
    (fields_short h.fields)))
