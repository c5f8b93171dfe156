-- A head ends with the first empty line behind its first line, so until that none is there.
use Rattle.std.proofs.Common.{◌≡◌, ◌∙◌, ◌+◌, ◌++◌, ℕ, List, [], ◌∷◌, Bool, true, false, ap, refl, sym, cond, arith, append_assoc}
use Rattle.std.specs.Prelude.{◌==◌, IsTrue, codes, fold, flat_map}
use Rattle.std.proofs.lemmas.Bool.Decides.{Decides-eqb}
use Rattle.std.proofs.lemmas.List.Elements.{All-head}
use Rattle.std.proofs.lemmas.List.Sums.{fold-append}
use Rattle.httparse.specs.Ascii.{carriage_return, colon, digit_zero, line_feed, space}
use Rattle.httparse.specs.Grammar.{is_token_byte, crlf, lf, Field, IsToken, LineEnd, print_blank, print_end, print_field, print_reason, print_request, print_response, print_section, print_version, RequestHead, ResponseHead}
use Rattle.ts_phases.specs.declared.place.Place.{Place}
use Rattle.ts_phases.specs.declared.place.Place.TheVariants as p
use Rattle.ts_phases.specs.Place.{has_ended, place_next, place_of}
use Rattle.ts_wire.specs.Heads.{LacksRequest, LacksResponse}

-- ---- one byte more

-- the first line has begun
abbrev has_begun : Place → Bool
has_begun p.Before = false
has_begun p.BeforeReturn = false
has_begun place = true

-- a line has just ended, or the head
abbrev is_behind : Place → Bool
is_behind p.Behind = true
is_behind p.Ended = true
is_behind place = false

-- in a line and at its beginning the first line stays begun
by_tests : (feed stop : Bool) (a b c : Place) → has_begun a ≡ true → has_begun b ≡ true → has_begun c ≡ true
    → has_begun (cond feed a (cond stop b c)) ≡ true
by_tests true stop a b c first second third = first
by_tests false true a b c first second third = second
by_tests false false a b c first second third = third

begun_next : (place : Place) (b : ℕ) → has_begun place ≡ true → has_begun (place_next place b) ≡ true
begun_next p.Before b begun = absurd (cc)
begun_next p.BeforeReturn b begun = absurd (cc)
begun_next p.First b begun = by_tests (b == line_feed) (b == space) p.Behind p.Second p.First refl refl refl
begun_next p.Second b begun = by_tests (b == line_feed) (b == space) p.Behind p.Third p.Second refl refl refl
begun_next p.Third b begun = by_tests (b == line_feed) (b == space) p.Behind p.Third p.Third refl refl refl
begun_next p.Name b begun = by_tests (b == line_feed) (b == colon) p.Behind p.Value p.Name refl refl refl
begun_next p.Value b begun = by_tests (b == line_feed) (b == colon) p.Behind p.Value p.Value refl refl refl
begun_next p.Behind b begun =
    by_tests (b == line_feed) (b == carriage_return) p.Ended p.BehindReturn p.Name refl refl refl
begun_next p.BehindReturn b begun =
    by_tests (b == line_feed) (b == carriage_return) p.Ended p.Name p.Name refl refl refl
begun_next p.Ended b begun = refl

-- a line feed ends a line
feeds : (place : Place) → has_begun place ≡ true → is_behind (place_next place line_feed) ≡ true
feeds p.Before begun = absurd (cc)
feeds p.BeforeReturn begun = absurd (cc)
feeds p.First begun = refl
feeds p.Second begun = refl
feeds p.Third begun = refl
feeds p.Name begun = refl
feeds p.Value begun = refl
feeds p.Behind begun = refl
feeds p.BehindReturn begun = refl
feeds p.Ended begun = refl

behind_begun : (place : Place) → is_behind place ≡ true → has_begun place ≡ true
behind_begun p.Behind behind = refl
behind_begun p.Ended behind = refl
behind_begun p.Before behind = absurd (cc)
behind_begun p.BeforeReturn behind = absurd (cc)
behind_begun p.First behind = refl
behind_begun p.Second behind = refl
behind_begun p.Third behind = refl
behind_begun p.Name behind = refl
behind_begun p.Value behind = refl
behind_begun p.BehindReturn behind = refl

-- ---- whole parts

-- the place behind bytes more
abbrev behind_all : Place → List ℕ → Place
behind_all place bytes = fold place_next place bytes

begun_all : (place : Place) (bytes : List ℕ) → has_begun place ≡ true
    → has_begun (behind_all place bytes) ≡ true
begun_all place [] begun = begun
begun_all place (b ∷ bytes) begun = begun_all (place_next place b) bytes (begun_next place b begun)

ended_all : (bytes : List ℕ) → behind_all p.Ended bytes ≡ p.Ended
ended_all [] = refl
ended_all (b ∷ bytes) = ended_all bytes

line_ends : (place : Place) (end : LineEnd) → has_begun place ≡ true
    → is_behind (behind_all place (print_end end)) ≡ true
line_ends place lf begun = feeds place begun
line_ends place crlf begun =
    feeds (place_next place carriage_return) (begun_next place carriage_return begun)

-- an empty line behind a line ends the head
last_ends : (place : Place) (end : LineEnd) → is_behind place ≡ true
    → behind_all place (print_end end) ≡ p.Ended
last_ends p.Behind lf behind = refl
last_ends p.Behind crlf behind = refl
last_ends p.Ended lf behind = refl
last_ends p.Ended crlf behind = refl
last_ends p.Before end behind = absurd (cc)
last_ends p.BeforeReturn end behind = absurd (cc)
last_ends p.First end behind = absurd (cc)
last_ends p.Second end behind = absurd (cc)
last_ends p.Third end behind = absurd (cc)
last_ends p.Name end behind = absurd (cc)
last_ends p.Value end behind = absurd (cc)
last_ends p.BehindReturn end behind = absurd (cc)

-- a line of a field leaves the place behind a line
field_ends : (place : Place) (f : Field) → is_behind place ≡ true
    → is_behind (behind_all place (print_field f)) ≡ true
field_ends place f behind =
    let line : List ℕ = f.name ++ colon ∷ f.raw in
    ap is_behind (fold-append place_next place line (print_end f.end))
    ∙ line_ends (behind_all place line) f.end (begun_all place line (behind_begun place behind))

section_ends : (place : Place) (fields : List Field) (last : LineEnd) → is_behind place ≡ true
    → behind_all place (print_section fields last) ≡ p.Ended
section_ends place [] last behind = last_ends place last behind
section_ends place (f ∷ fields) last behind =
    ap (behind_all place) (append_assoc (print_field f) (flat_map print_field fields) (print_end last))
    ∙ fold-append place_next place (print_field f) (print_section fields last)
    ∙ section_ends (behind_all place (print_field f)) fields last (field_ends place f behind)

-- ---- a head, part by part

-- the empty lines before it leave the place before it
blank_stays : (ends : List LineEnd) → place_of (print_blank ends) ≡ p.Before
blank_stays [] = refl
blank_stays (lf ∷ ends) = blank_stays ends
blank_stays (crlf ∷ ends) = blank_stays ends

-- a first line that has begun stays so
begun_then : (line more : List ℕ) → has_begun (place_of line) ≡ true
    → has_begun (place_of (line ++ more)) ≡ true
begun_then line more begun =
    ap has_begun (fold-append place_next p.Before line more) ∙ begun_all (place_of line) more begun

-- behind a line that has begun, its end and the fields a head has ended, whatever follows
head_ends : (line : List ℕ) (end last : LineEnd) (fields : List Field) (rest : List ℕ)
    → has_begun (place_of line) ≡ true
    → place_of (line ++ print_end end ++ print_section fields last ++ rest) ≡ p.Ended
head_ends line end last fields rest begun =
    let first : List ℕ = line ++ print_end end in
    let behind : is_behind (place_of first) ≡ true =
    ap is_behind (fold-append place_next p.Before line (print_end end)) ∙ line_ends (place_of line) end begun in
    fold-append place_next p.Before (first ++ print_section fields last) rest
    ∙ ap (λ place. behind_all place rest)
    (fold-append place_next p.Before first (print_section fields last)
    ∙ section_ends (place_of first) fields last behind)
    ∙ ended_all rest

-- where a head is, it has ended, so none is where none has
none_there : (bytes all : List ℕ) → has_ended (place_of bytes) ≡ false → bytes ≡ all
    → place_of all ≡ p.Ended → ⊥
none_there bytes all none is ended =
    let wrong : false ≡ true = sym none ∙ ap (λ l. has_ended (place_of l)) is ∙ ap has_ended ended in
    absurd (cc)

-- ---- requests

-- a byte of a token is not one that is none
no_token : (t b : ℕ) → is_token_byte t ≡ false → is_token_byte b ≡ true → (b == t) ≡ false
no_token t b other is = by_test (b == t) refl
  where
    by_test : (same : Bool) → (b == t) ≡ same → same ≡ false
    by_test false test = refl
    by_test true test =
        let wrong : true ≡ false = sym is ∙ ap is_token_byte ((Decides-eqb b t).0 test) ∙ other in
        absurd (cc)

feed_no_token : is_token_byte line_feed ≡ false
unfolding is_token_byte
feed_no_token = refl

return_no_token : is_token_byte carriage_return ≡ false
unfolding is_token_byte
return_no_token = refl

-- such a byte begins the first line
token_begins : (b : ℕ) → is_token_byte b ≡ true → place_next p.Before b ≡ p.First
token_begins b token =
    ap (λ t. cond t p.Before (cond (b == carriage_return) p.BeforeReturn p.First))
    (no_token line_feed b feed_no_token token)
    ∙ ap (λ t. cond t p.BeforeReturn p.First) (no_token carriage_return b return_no_token token)

method_begins : (blank : List LineEnd) (method : List ℕ) → IsToken method
    → has_begun (place_of (print_blank blank ++ method)) ≡ true
method_begins blank [] (some, pass) = absurd (omega (arith, some))
method_begins blank (b ∷ method) (some, pass) =
    ap has_begun
    (fold-append place_next p.Before (print_blank blank) (b ∷ method)
    ∙ ap (λ place. behind_all place (b ∷ method)) (blank_stays blank)
    ∙ ap (λ place. behind_all place method) (token_begins b (All-head (λ x. IsTrue (is_token_byte x)) b method pass)))
    ∙ begun_all p.First method refl

request_ends : (h : RequestHead) (rest : List ℕ) → IsToken h.method
    → place_of (print_request h ++ rest) ≡ p.Ended
unfolding print_request
request_ends h rest method =
    let named : List ℕ = print_blank h.blank ++ h.method in
    let targeted : List ℕ = named ++ space ∷ h.target in
    head_ends (targeted ++ space ∷ print_version h.minor) h.line_end h.last h.fields rest
    (begun_then targeted (space ∷ print_version h.minor)
    (begun_then named (space ∷ h.target) (method_begins h.blank h.method method)))

pub request_waits : (bytes : List ℕ) → has_ended (place_of bytes) ≡ false → LacksRequest bytes
request_waits bytes none h rest begins =
    none_there bytes (print_request h ++ rest) none begins.reads.1
    (request_ends h rest begins.reads.0.method)

-- ---- responses

version_begins : (blank : List LineEnd) (minor : ℕ)
    → has_begun (place_of (print_blank blank ++ print_version minor)) ≡ true
version_begins blank minor =
    ap has_begun
    (fold-append place_next p.Before (print_blank blank) (print_version minor)
    ∙ ap (λ place. behind_all place (print_version minor)) (blank_stays blank)
    ∙ fold-append place_next p.Before (codes "HTTP/1.") ((digit_zero + minor) ∷ []))
    ∙ begun_next p.First (digit_zero + minor) refl

response_ends : (h : ResponseHead) (rest : List ℕ) → place_of (print_response h ++ rest) ≡ p.Ended
unfolding print_response
response_ends h rest =
    let versioned : List ℕ = print_blank h.blank ++ print_version h.minor in
    let coded : List ℕ = versioned ++ space ∷ h.digits in
    head_ends (coded ++ print_reason h.reason) h.line_end h.last h.fields rest
    (begun_then coded (print_reason h.reason)
    (begun_then versioned (space ∷ h.digits) (version_begins h.blank h.minor)))

pub response_waits : (bytes : List ℕ) → has_ended (place_of bytes) ≡ false → LacksResponse bytes
response_waits bytes none h rest begins =
    none_there bytes (print_response h ++ rest) none begins.reads.1 (response_ends h rest)
