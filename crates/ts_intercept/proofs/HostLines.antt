-- The first line of a head that is sent which begins with `host:` is its Host field (RFC 9112, section 5).
use Rattle.std.proofs.Common.{◌≡◌, ◌≢◌, ℕ, zero, suc, ◌+◌, ◌<◌, ◌≤◌, List, [], ◌∷◌, ◌++◌, All, Bool}
use Rattle.std.proofs.Common.{true, false, take, drop, get_or, length, Some, refl, sym, ap, subst, ◌∙◌}
use Rattle.std.proofs.Common.{arith, append_assoc}
use Rattle.std.specs.Prelude.{IsTrue, codes, if◌then◌else◌, map}
use Rattle.std.specs.Char.{to_ascii_lowercase}
use Rattle.std.specs.List.{flat_map}
use Rattle.std.proofs.lemmas.List.{append-nil, length-drop, length-take}
use Rattle.std.proofs.lemmas.Bool.{true≢false}
use Rattle.std.proofs.lemmas.Bool.Decides.{nat_tests}
use Rattle.std.proofs.lemmas.List.Elements.{All-append, All-cons, All-head, All-nil, All-tail, All-weaker}
use Rattle.std.proofs.lemmas.Slice.Eq.{bytes_eq-Decides}
use Rattle.http_header.specs.FieldValue.{plain_value}
use Rattle.http_header.specs.Token.{lowercase}
use Rattle.http_header.proofs.TokenLemmas.{AllPass-from_test}
use Rattle.httparse.specs.Ascii.{colon, crlf_bytes, space}
use Rattle.httparse.specs.Grammar as grammar
use Rattle.httparse.specs.Grammar.{IsField, IsRequestHead, crlf, is_token_byte, is_uri_byte, is_value_byte}
use Rattle.httparse.specs.Grammar.{print_end, print_field, print_request, print_section, print_version}
use Rattle.httparse.specs.Grammar.{trim_ows}
use Rattle.memchr.specs.Find.{IsFirst, OccursAt}
use Rattle.memchr.proofs.lemmas.MatchLemmas.{OccursAt-from_part, OccursAt-part}
use Rattle.memchr.proofs.lemmas.ValueLemmas.{FindsNeedle-value}
use Rattle.ts_wire.specs.FieldList.{is_named, value_of, values_named}
use Rattle.ts_wire.specs.Heads.{kept_field}
use Rattle.ts_wire.specs.OneHead.{HasCrlfLines, IsPlainField, values_read}
use Rattle.ts_wire.specs.declared.fields.Field.{Field}
use Rattle.ts_wire.proofs.SentBlank.{request_is, request_line}
use Rattle.ts_wire.proofs.PlainFields.{values_kept}
use Rattle.ts_intercept.specs.Named.{HeadsNameHost}
use Rattle.ts_intercept.specs.Served.{first_match, front_line, front_to, host_at, host_in, host_start}
use Rattle.ts_intercept.specs.Served.{line_end}

-- ---- bytes of a line

-- the byte is no carriage return
abbrev IsOtherByte : ℕ → Type 0
IsOtherByte b = b ≢ 13

-- none of these is one
abbrev NoReturn : List ℕ → Type 0
NoReturn = All IsOtherByte

-- bytes that pass a test which a byte fails are other bytes
passes_other : (test : ℕ → Bool) (c : ℕ) (bytes : List ℕ) → test c ≡ false
    → All (λ b. IsTrue (test b)) bytes → All (λ b. b ≢ c) bytes
passes_other test c bytes fails pass = All-weaker (λ b. IsTrue (test b)) (λ b. b ≢ c) other bytes pass
  where
    other : (b : ℕ) → IsTrue (test b) → b ≢ c
    other b passes is = let wrong : IsTrue (test c) = subst (λ x. IsTrue (test x)) is passes in absurd (cc)

-- in a name stands no carriage return, and no colon
token_other : (bytes : List ℕ) → All (λ b. IsTrue (is_token_byte b)) bytes → NoReturn bytes
unfolding is_token_byte
token_other bytes pass = passes_other is_token_byte 13 bytes refl pass

token_lacks : (bytes : List ℕ) → All (λ b. IsTrue (is_token_byte b)) bytes → All (λ b. b ≢ 58) bytes
unfolding is_token_byte
token_lacks bytes pass = passes_other is_token_byte 58 bytes refl pass

-- ---- bytes in lower case

-- a byte below the small letters is in lower case only where it was that byte before
lower_low : (b c : ℕ) → c < 97 → to_ascii_lowercase b ≡ c → b ≡ c
lower_low b c low is = grind (arith, nat_tests, low, is)

other_lower : (b : ℕ) → IsOtherByte b → to_ascii_lowercase b ≡ 13 → ⊥
other_lower b other is = other (lower_low b 13 (omega arith) is)

-- what stands before the first colon of a line that begins with `host:`, in lower case, is `host`
before_colon : (name rest : List ℕ) → All (λ b. b ≢ 58) name
    → take 5 (lowercase (name ++ (58 ∷ rest))) ≡ codes "host:" → lowercase name ≡ codes "host"
before_colon [] rest none is = absurd (let wrong = ap (λ l. get_or l 0 0) is in omega (arith, wrong))
before_colon (a ∷ []) rest none is = absurd (let wrong = ap (λ l. get_or l 1 0) is in omega (arith, wrong))
before_colon (a ∷ b ∷ []) rest none is =
    absurd (let wrong = ap (λ l. get_or l 2 0) is in omega (arith, wrong))
before_colon (a ∷ b ∷ c ∷ []) rest none is =
    absurd (let wrong = ap (λ l. get_or l 3 0) is in omega (arith, wrong))
before_colon (a ∷ b ∷ c ∷ d ∷ []) rest none is = ap (take 4) is
before_colon (a ∷ b ∷ c ∷ d ∷ e ∷ more) rest none is =
    let No = λ (x : ℕ). x ≢ 58 in
    let fifth = All-tail No d (e ∷ more) (All-tail No c (d ∷ e ∷ more)
    (All-tail No b (c ∷ d ∷ e ∷ more) (All-tail No a (b ∷ c ∷ d ∷ e ∷ more) none))) in
    absurd (All-head No e more fifth (lower_low e 58 (omega arith) (ap (λ l. get_or l 4 0) is)))

-- ---- the place of the line

-- in the text the first line that begins with `host:` stands behind the line end at this place, and its value
-- without the blanks around it is the host
record NamesAt (host text : List ℕ) : Type 0 where
  pub place : ℕ
  pub before : (k : ℕ) → k < place → take 7 (drop k (lowercase text)) ≡ host_start → ⊥
  pub here : take 7 (drop place (lowercase text)) ≡ host_start
  pub raw : List ℕ
  pub more : List ℕ
  pub behind : drop (place + 7) text ≡ raw ++ (crlf_bytes ++ more)
  pub none : NoReturn raw
  pub value : trim_ows raw ≡ host

-- a byte before it that is no carriage return
behind_byte : (host : List ℕ) (b : ℕ) (text : List ℕ) → IsOtherByte b → NamesAt host text
    → NamesAt host (b ∷ text)
behind_byte host b text other names = record {
  place = suc names.place;
  before = before;
  here = names.here;
  raw = names.raw;
  more = names.more;
  behind = let next : suc names.place + 7 ≡ suc (names.place + 7) = omega arith in
      ap (λ n. drop n (b ∷ text)) next ∙ names.behind;
  none = names.none;
  value = names.value;
}
  where
    before : (k : ℕ) → k < suc names.place → take 7 (drop k (lowercase (b ∷ text))) ≡ host_start → ⊥
    before zero less is = other_lower b other (ap (λ l. get_or l 0 0) is)
    before (suc k) less is = names.before k (omega (arith, less)) is

behind_bytes : (host bytes text : List ℕ) → NoReturn bytes → NamesAt host text → NamesAt host (bytes ++ text)
behind_bytes host [] text none names = names
behind_bytes host (b ∷ bytes) text none names =
    behind_byte host b (bytes ++ text) (All-head IsOtherByte b bytes none)
    (behind_bytes host bytes text (All-tail IsOtherByte b bytes none) names)

-- a line end before it behind which no line begins so
behind_end : (host text : List ℕ) → (take 5 (lowercase text) ≡ codes "host:" → ⊥) → NamesAt host text
    → NamesAt host (crlf_bytes ++ text)
behind_end host text other names =
    let next = behind_byte host 10 text (λ wrong. absurd (omega (arith, wrong))) names in record {
      place = suc next.place;
      before = before next;
      here = next.here;
      raw = next.raw;
      more = next.more;
      behind = let on : suc next.place + 7 ≡ suc (next.place + 7) = omega arith in
          ap (λ n. drop n (crlf_bytes ++ text)) on ∙ next.behind;
      none = next.none;
      value = next.value;
    }
  where
    before : (next : NamesAt host (10 ∷ text)) → (k : ℕ) → k < suc next.place
        → take 7 (drop k (lowercase (crlf_bytes ++ text))) ≡ host_start → ⊥
    before next zero less is = other (ap (drop 2) is)
    before next (suc k) less is = next.before k (omega (arith, less)) is

-- the line itself
host_here : (host name raw more : List ℕ) → lowercase name ≡ codes "host" → NoReturn raw
    → trim_ows raw ≡ host → NamesAt host (crlf_bytes ++ (name ++ (58 ∷ (raw ++ (crlf_bytes ++ more)))))
host_here host [] raw more is none value = absurd (let wrong = ap length is in omega (arith, wrong))
host_here host (a ∷ []) raw more is none value = absurd (let wrong = ap length is in omega (arith, wrong))
host_here host (a ∷ b ∷ []) raw more is none value =
    absurd (let wrong = ap length is in omega (arith, wrong))
host_here host (a ∷ b ∷ c ∷ []) raw more is none value =
    absurd (let wrong = ap length is in omega (arith, wrong))
host_here host (a ∷ b ∷ c ∷ d ∷ []) raw more is none value = record {
  place = 0;
  before = λ k less same. absurd (omega (arith, less));
  here = ap (λ l. 13 ∷ 10 ∷ (l ++ (58 ∷ []))) is;
  raw = raw;
  more = more;
  behind = refl;
  none = none;
  value = value;
}
host_here host (a ∷ b ∷ c ∷ d ∷ e ∷ others) raw more is none value =
    absurd (let wrong = ap length is in omega (arith, wrong))

-- ---- the value of a field

host_token : grammar.IsToken (codes "host")
unfolding is_token_byte
host_token = (omega arith, AllPass-from_test is_token_byte (codes "host") refl)

trim_space : (raw : List ℕ) → trim_ows (32 ∷ raw) ≡ trim_ows raw
unfolding trim_ows
trim_space raw = refl

-- a value without the blanks around it has none around it
trim_again : (raw : List ℕ) → All (λ b. IsTrue (is_value_byte b)) raw → trim_ows (trim_ows raw) ≡ trim_ows raw
trim_again raw pass =
    let f : Field = record { name = codes "host"; value = plain_value raw } in
    let plain : IsPlainField f = (host_token, refl, pass) in
    ap trim_ows (sym (trim_space raw))
    ∙ ap (λ l. get_or l 0 []) (values_kept (codes "host") (f ∷ [])
    (All-cons IsPlainField f [] plain (All-nil IsPlainField)))

-- ---- the lines of a head

-- a field line, without its end
abbrev field_line : grammar.Field → List ℕ
field_line f = f.name ++ (colon ∷ f.raw)

-- fields are printed as the line of the first, its end and the others
section_is : (f : grammar.Field) (fs : List grammar.Field) → f.end ≡ crlf
    → print_section (f ∷ fs) crlf ≡ field_line f ++ (crlf_bytes ++ print_section fs crlf)
section_is f fs ends =
    let others = flat_map print_field fs in
    ap (λ e. ((field_line f ++ print_end e) ++ others) ++ crlf_bytes) ends
    ∙ append_assoc (field_line f ++ crlf_bytes) others crlf_bytes
    ∙ append_assoc (field_line f) crlf_bytes (others ++ crlf_bytes)

-- in the value of a field, and in its line, stands no carriage return
raw_other : (f : grammar.Field) → IsField f → NoReturn f.raw
raw_other f good = passes_other is_value_byte 13 f.raw refl good.raw

line_other : (f : grammar.Field) → IsField f → NoReturn (field_line f)
line_other f good =
    All-append IsOtherByte f.name (colon ∷ f.raw) (token_other f.name good.name.1)
    (All-cons IsOtherByte colon f.raw (λ wrong. absurd (omega (arith, wrong))) (raw_other f good))

-- nor in the line that a request begins with
version_other : (minor : ℕ) → NoReturn (print_version minor)
version_other minor =
    All-append IsOtherByte (codes "HTTP/1.") ((48 + minor) ∷ [])
    (passes_other is_value_byte 13 (codes "HTTP/1.") refl
    (AllPass-from_test is_value_byte (codes "HTTP/1.") refl))
    (All-cons IsOtherByte (48 + minor) [] (λ wrong. absurd (omega (arith, wrong))) (All-nil IsOtherByte))

behind_space : (bytes : List ℕ) → NoReturn bytes → NoReturn (space ∷ bytes)
behind_space bytes none = All-cons IsOtherByte space bytes (λ wrong. absurd (omega (arith, wrong))) none

start_other : (h : grammar.RequestHead) → IsRequestHead h → NoReturn (request_line h)
start_other h good =
    All-append IsOtherByte (h.method ++ (space ∷ h.target)) (space ∷ print_version h.minor)
    (All-append IsOtherByte h.method (space ∷ h.target) (token_other h.method good.method.1)
    (behind_space h.target (passes_other is_uri_byte 13 h.target refl good.target.1)))
    (behind_space (print_version h.minor) (version_other h.minor))

-- the field is named so
abbrev host_named : grammar.Field → Bool
host_named f = is_named (codes "host") (kept_field f)

-- the lines of fields, of which one is named so, behind the end of the line before them
section_names : (host : List ℕ) (rest : List (List ℕ)) (fs : List grammar.Field) → All IsField fs
    → All (λ f. f.end ≡ crlf) fs → values_read (codes "host") fs ≡ host ∷ rest
    → NamesAt host (crlf_bytes ++ print_section fs crlf)
section_names host rest [] good ends is = absurd (let wrong = ap length is in omega (arith, wrong))
section_names host rest (f ∷ fs) good ends is =
    subst (λ (text : List ℕ). NamesAt host (crlf_bytes ++ text))
    (sym (section_is f fs (All-head (λ g. g.end ≡ crlf) f fs ends)))
    (by (host_named f) refl (section_names host rest fs (All-tail IsField f fs good)
    (All-tail (λ g. g.end ≡ crlf) f fs ends)))
  where
    here : IsField f
    here = All-head IsField f fs good

    others : List (List ℕ)
    others = values_named (codes "host") (map kept_field fs)

    name_is : (b : Bool) → host_named f ≡ b → (if b then value_of (kept_field f) ∷ [] else []) ++ others
        ≡ host ∷ rest
    name_is b named = ap (λ x. (if x then value_of (kept_field f) ∷ [] else []) ++ others) (sym named) ∙ is

    by : (b : Bool) → host_named f ≡ b
        → (others ≡ host ∷ rest → NamesAt host (crlf_bytes ++ print_section fs crlf))
        → NamesAt host (crlf_bytes ++ (field_line f ++ (crlf_bytes ++ print_section fs crlf)))
    by true named later =
        subst (λ (line : List ℕ). NamesAt host (crlf_bytes ++ line))
        (sym (append_assoc f.name (colon ∷ f.raw) (crlf_bytes ++ print_section fs crlf)))
        (host_here host f.name f.raw (print_section fs crlf)
        ((bytes_eq-Decides (lowercase f.name) (codes "host")).0 named) (raw_other f here)
        (sym (trim_again f.raw here.raw) ∙ ap (λ l. get_or l 0 []) (name_is true named)))
    by false named later =
        let behind = crlf_bytes ++ print_section fs crlf in
        let parts = sym (append_assoc f.name (colon ∷ f.raw) behind) in
        behind_end host (field_line f ++ behind)
        (λ begins. absurd (true≢false (sym ((bytes_eq-Decides (lowercase f.name) (codes "host")).1
        (before_colon f.name (f.raw ++ behind) (token_lacks f.name here.name.1)
        (ap (λ l. take 5 (lowercase l)) parts ∙ begins))) ∙ named)))
        (behind_bytes host (field_line f) behind (line_other f here) (later (name_is false named)))

-- ---- the host that is read

-- a line ends with the first end of a line
line_before : (raw more : List ℕ) → NoReturn raw → (k : ℕ) → k < length raw
    → take 2 (drop k (raw ++ (crlf_bytes ++ more))) ≡ line_end → ⊥
line_before [] more none k less is = absurd (omega (arith, less))
line_before (b ∷ raw) more none zero less is = All-head IsOtherByte b raw none (ap (λ l. get_or l 0 0) is)
line_before (b ∷ raw) more none (suc k) less is =
    line_before raw more (All-tail IsOtherByte b raw none) k (omega (arith, less)) is

line_there : (raw more : List ℕ) → take 2 (drop (length raw) (raw ++ (crlf_bytes ++ more))) ≡ line_end
line_there [] more = refl
line_there (b ∷ raw) more = line_there raw more

take_front : (raw rest : List ℕ) → take (length raw) (raw ++ rest) ≡ raw
take_front [] rest = refl
take_front (b ∷ raw) rest = ap (λ l. b ∷ l) (take_front raw rest)

-- a place at which a part stands, and before which it stands nowhere, is the first match
first_at : (text part : List ℕ) (place : ℕ)
    → ((k : ℕ) → k < place → take (length part) (drop k text) ≡ part → ⊥)
    → take (length part) (drop place text) ≡ part → place + length part ≤ length text
    → first_match text part ≡ Some place
first_at text part place before here fits =
    let first : IsFirst (OccursAt text part) 0 (length text + 1) (Some place) = (
      record {
        low = omega arith;
        high = omega (arith, fits);
        before = λ k low less occurs. before k less (OccursAt-part text part k occurs);
      },
      OccursAt-from_part text part place fits here,
    ) in
    sym (FindsNeedle-value text part (Some place) first)

fits_at : (text part : List ℕ) (place n : ℕ) → length part ≡ suc n → take (suc n) (drop place text) ≡ part
    → place + suc n ≤ length text
fits_at text part place n long here =
    let same = ap length here in
    let most = length-take (suc n) (drop place text) in
    let left = length-drop place text in
    omega (arith, long, same, most, left)

front_is : (raw more : List ℕ) → NoReturn raw → front_line (raw ++ (crlf_bytes ++ more)) ≡ raw
front_is raw more none =
    let text = raw ++ (crlf_bytes ++ more) in
    ap (λ place. front_to place text)
    (first_at text line_end (length raw) (line_before raw more none) (line_there raw more)
    (fits_at text line_end (length raw) 1 refl (line_there raw more)))
    ∙ take_front raw (crlf_bytes ++ more)

host_read : (host text : List ℕ) → NamesAt host text → host_in text ≡ host
host_read host text names =
    let lower = lowercase text in
    ap (λ place. host_at place text)
    (first_at lower host_start names.place names.before names.here
    (fits_at lower host_start names.place 6 refl names.here))
    ∙ ap (λ l. trim_ows (front_line l)) names.behind
    ∙ ap trim_ows (front_is names.raw names.more names.none) ∙ names.value

-- ---- a head that is sent

one_request_names : (text host : List ℕ) (h : grammar.RequestHead) → grammar.ReadsRequest text h []
    → HasCrlfLines h.blank h.line_end h.fields h.last → values_read (codes "host") h.fields ≡ host ∷ []
    → host_in text ≡ host
one_request_names text host h reads lines hosts =
    let good = reads.0 in
    host_read host text
    (subst (NamesAt host) (sym (reads.1 ∙ append-nil (print_request h) ∙ request_is h lines))
    (behind_bytes host (request_line h) (crlf_bytes ++ print_section h.fields crlf) (start_other h good)
    (section_names host [] h.fields good.fields lines.field_lines hosts)))

pub heads_name_host : HeadsNameHost
heads_name_host = record {
  request = λ method target host text sends.
      one_request_names text host sends.head sends.one.whole sends.lines sends.hosts;
  upload = λ method target host text sent sends.
      one_request_names text host sends.head sends.one.whole sends.lines sends.hosts;
}
