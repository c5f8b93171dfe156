-- What a line can say.
use Rattle.std.proofs.Common.{◌≡◌, ℕ, zero, suc, ◌+◌, ◌*◌, ◌<◌, ◌≤◌, List, [], ◌∷◌, length, map, Bool, true, false, cond, ◌&&◌, Option, Some, None, ◌⊎◌, inl, inr, ap, sym, subst, arith, length-append}
use Rattle.std.specs.Prelude.{◌==◌, nat_le, slice_get, IfSome, ⊤}
use Rattle.std.specs.Option.{option_map, option_and_then}
use Rattle.std.proofs.lemmas.List.Elements.{All-from_recursion}
use Rattle.std.specs.List.{All, AllByRecursion}
use Rattle.std.specs.Str.{IsUtf8, encode_utf8_all, all_ascii_digits}
use Rattle.std.specs.Str.Parse.{digits_value}
use Rattle.std.specs.Char.{encode_utf8, len_utf8}
use Rattle.std.proofs.lemmas.Str.{length-encode, byte_from_char}
use Rattle.std.proofs.lemmas.Bool.{cases_lt}
use Rattle.std.proofs.lemmas.Bool.Decides.{nat_tests}
use Rattle.ts_lists.proofs.Elements.{each_weaker}
use Rattle.ts_config.specs.declared.fields.PluginLine.{PluginLine}
use Rattle.ts_config.specs.declared.setup.FilePlace.{FilePlace}
use Rattle.ts_config.specs.declared.setup.FilePlace.TheVariants as p
use Rattle.ts_config.specs.declared.setup.InterceptKind.{InterceptKind}
use Rattle.ts_config.specs.declared.setup.InterceptKind.TheVariants as i
use Rattle.ts_config.specs.declared.setup.InterceptLine.{InterceptLine}
use Rattle.ts_config.specs.declared.setup.TransformLine.{TransformLine}
use Rattle.ts_config.specs.declared.setup.TransformLine.TheVariants as t
use Rattle.ts_config.specs.declared.setup.LineMeaning.{LineMeaning}
use Rattle.ts_config.specs.declared.setup.LineMeaning.TheVariants.{Empty, Transform, Request, Intercept, Plugin, Tap}
use Rattle.ts_config.specs.declared.table.PluginName.{PluginName}
use Rattle.ts_config.specs.Bytes.{most_fill, most_limit, most_tap}
use Rattle.ts_config.specs.Numerals.{hex_value, byte_of, number_of, has_no_leading_zero}
use Rattle.ts_config.specs.Setup.{ConfigLines, file_at, file_of, file_served, kind_with_text, untexted, untexted_intercept, untexted_lines}
use Rattle.ts_config.specs.Rules.{HasPlainRule, is_site}
use Rattle.ts_config.proofs.Again.{hex_small}
use Rattle.ts_config.proofs.Asked.{Asks, is_delay, mapped, chained, chosen}
use Rattle.ts_config.proofs.FineWords.{IsFine}
use Rattle.ts_config.proofs.Hooked.{IsPrintablePlugin, hooked_plain}
use Rattle.ts_config.proofs.TextParts.{both}

abbrev pub IsPrintable : TransformLine → Type 0
IsPrintable t.Null = ⊤
IsPrintable (t.Append file text) = (0 < length file) × IsFine file
IsPrintable t.Bnull = ⊤
IsPrintable (t.Prepend text) = (length text ≤ 16384) × IsFine text
IsPrintable (t.Map a b) = (a < 256) × (b < 256)
IsPrintable (t.Drop b) = b < 256
IsPrintable (t.Delay m) = m ≤ 60000
IsPrintable (t.Limit m) = m ≤ most_limit

-- a text of one byte is ASCII
one_byte : (b : ℕ) → IsUtf8 (b ∷ []) → b < 256
one_byte b ([], (scalar, is)) = absurd (let wrong : ◌≡◌ {A = List ℕ} [] (b ∷ []) = is in cc)
one_byte b (c ∷ cs, (scalar, is)) = by_size (cases_lt c 128)
  where
    by_size : (c < 128) ⊎ (128 ≤ c) → b < 256
    by_size (inl small) = omega (arith, byte_from_char (b ∷ []) (encode_utf8_all cs) c (sym is) small)
    by_size (inr large) =
        let two : 2 ≤ len_utf8 c = grind (arith, nat_tests) in
        omega (arith, two, ap length is, length-append (encode_utf8 c) (encode_utf8_all cs), length-encode c)

byte_small : (word : List ℕ) (b : ℕ) → IsUtf8 word → byte_of word ≡ Some b → b < 256
byte_small [] b utf8 is = absurd (let wrong : None ≡ Some b = is in cc)
byte_small (x ∷ []) b utf8 is = let same : x ≡ b = cc in subst (λ n. n < 256) same (one_byte x utf8)
byte_small (x ∷ y ∷ []) b utf8 is = absurd (let wrong : None ≡ Some b = is in cc)
byte_small (x ∷ y ∷ z ∷ []) b utf8 is = absurd (let wrong : None ≡ Some b = is in cc)
byte_small (z ∷ x ∷ high ∷ low ∷ []) b utf8 is = by_prefix (z == 48 && x == 120) is
  where
    number : option_and_then (λ h. option_map (λ l. 16 * h + l) (hex_value low)) (hex_value high) ≡ Some b
        → b < 256
    number given =
        let (h, first, inner) =
        chained (λ h. option_map (λ l. 16 * h + l) (hex_value low)) (hex_value high) b given in
        let (l, second, whole) = mapped (λ l. 16 * h + l) (hex_value low) b inner in
        omega (arith, hex_small high h first, hex_small low l second, whole)

    by_prefix : (p : Bool) → cond p (option_and_then (λ h. option_map (λ l. 16 * h + l) (hex_value low))
        (hex_value high)) None ≡ Some b → b < 256
    by_prefix true given = number given
    by_prefix false given = absurd (let wrong : None ≡ Some b = given in cc)
byte_small (a ∷ c ∷ d ∷ e ∷ f ∷ more) b utf8 is = absurd (let wrong : None ≡ Some b = is in cc)

pub number_small : (most : ℕ) (word : List ℕ) (n : ℕ) → number_of most word ≡ Some n → n ≤ most
number_small most word n is =
    let parts = chosen ((has_no_leading_zero word && all_ascii_digits word) && nat_le
    (digits_value 10 word) most) (digits_value 10 word) n is in
    let fits = both (has_no_leading_zero word && all_ascii_digits word)
    (nat_le (digits_value 10 word) most) parts.0 in
    let within : digits_value 10 word ≤ most = grind (arith, nat_tests, fits.1) in
    omega (arith, within, parts.1)

pub asked_printable : (line : TransformLine) (name : PluginName) (words : List (List ℕ)) → Asks line name words
    → AllByRecursion IsFine words → IsPrintable line
asked_printable t.Null name words asks fine = tt
asked_printable (t.Append file text) name words asks fine =
    (asks.2, (subst (AllByRecursion IsFine) asks.1 fine).0)
asked_printable t.Bnull name words asks fine = tt
asked_printable (t.Prepend text) name words asks fine =
    (asks.2, (subst (AllByRecursion IsFine) asks.1 fine).0)
asked_printable (t.Map a b) name words (named, (from, to, are, first, second)) fine =
    let each = subst (AllByRecursion IsFine) are fine in
    let one : IsFine from = each.0 in
    let two : IsFine to = each.1.0 in
    (byte_small from a one.text.utf8 first, byte_small to b two.text.utf8 second)
asked_printable (t.Drop b) name words (named, (byte, are, first)) fine =
    let each = subst (AllByRecursion IsFine) are fine in
    let one : IsFine byte = each.0 in
    byte_small byte b one.text.utf8 first
asked_printable (t.Delay m) name words (named, (ms, are, first)) fine = number_small 60000 ms m first
asked_printable (t.Limit m) name words (named, (most, are, first)) fine =
    number_small most_limit most m first

-- and a transform line of request bodies
abbrev pub IsPrintableRequest : TransformLine → Type 0
IsPrintableRequest line = IsPrintable line × (is_delay line ≡ false)

-- what an intercept can serve
abbrev pub IsPrintableKind : InterceptKind → Type 0
IsPrintableKind i.Echo = ⊤
IsPrintableKind (i.Fill n) = n ≤ most_fill
IsPrintableKind (i.File file text) = (is_site file ≡ true) × IsFine file

-- and for which host
abbrev pub IsPrintableIntercept : InterceptLine → Type 0
IsPrintableIntercept line = (is_site line.site ≡ true) × IsFine line.site × IsPrintableKind line.kind

-- the number of a tap line
abbrev pub IsPrintableTap : ℕ → Type 0
IsPrintableTap most = (0 < most) × (most ≤ most_tap)

-- any line
abbrev pub IsPrintableEntry : LineMeaning → Type 0
IsPrintableEntry Empty = ⊤
IsPrintableEntry (Transform line) = IsPrintable line
IsPrintableEntry (Request line) = IsPrintableRequest line
IsPrintableEntry (Intercept line) = IsPrintableIntercept line
IsPrintableEntry (Plugin line) = IsPrintablePlugin line
IsPrintableEntry (Tap most) = IsPrintableTap most

-- and all lines
pub record ArePrintable (ls : ConfigLines) : Type 0 where
  pub transforms : AllByRecursion IsPrintable ls.transforms
  pub requests : AllByRecursion IsPrintableRequest ls.requests
  pub intercepts : AllByRecursion IsPrintableIntercept ls.intercepts
  pub plugins : AllByRecursion IsPrintablePlugin ls.plugins
  pub taps : AllByRecursion IsPrintableTap ls.taps

-- the text of a file is of no matter
unmapped : {A : Type 0} (P : A → Type 0) (g : A → A) → ((x : A) → P (g x) → P x) → (xs : List A)
    → AllByRecursion P (map g xs) → AllByRecursion P xs
unmapped P g one [] are = tt
unmapped P g one (x ∷ xs) are = (one x are.0, unmapped P g one xs are.1)

untexted_printable : (line : TransformLine) → IsPrintable (untexted line) → IsPrintable line
untexted_printable (t.Append file text) is = is
untexted_printable line is = is

untexted_request : (line : TransformLine) → IsPrintableRequest (untexted line) → IsPrintableRequest line
untexted_request (t.Append file text) is = is
untexted_request line is = is

untexted_kind : (kind : InterceptKind) → IsPrintableKind (kind_with_text [] kind) → IsPrintableKind kind
untexted_kind (i.File file text) is = is
untexted_kind kind is = is

untexted_served : (line : InterceptLine) → IsPrintableIntercept (untexted_intercept line)
    → IsPrintableIntercept line
untexted_served line is = (is.0, is.1, untexted_kind line.kind is.2)

pub untexted_all : (ls : ConfigLines) → ArePrintable (untexted_lines ls) → ArePrintable ls
untexted_all ls are = record {
  transforms = unmapped IsPrintable untexted untexted_printable ls.transforms are.transforms;
  requests = unmapped IsPrintableRequest untexted untexted_request ls.requests are.requests;
  intercepts = unmapped IsPrintableIntercept untexted_intercept untexted_served ls.intercepts are.intercepts;
  plugins = are.plugins;
  taps = are.taps;
}

-- the names of the files are text
line_named : (line : TransformLine) → IsPrintable line → IfSome (file_of line) IsUtf8
line_named (t.Append file text) is = let one : IsFine file = is.1 in one.text.utf8
line_named line is = tt

kind_named : (kind : InterceptKind) → IsPrintableKind kind → IfSome (file_served kind) IsUtf8
kind_named (i.File file text) is = let one : IsFine file = is.1 in one.text.utf8
kind_named kind is = tt

named_at : {A : Type 0} (P : A → Type 0) (f : A → Option (List ℕ)) → ((x : A) → P x → IfSome (f x) IsUtf8)
    → (xs : List A) (k : ℕ) → AllByRecursion P xs → IfSome (option_and_then f (slice_get xs k)) IsUtf8
named_at P f one [] k are = tt
named_at P f one (x ∷ xs) zero are = one x are.0
named_at P f one (x ∷ xs) (suc k) are = named_at P f one xs k are.1

pub files_named : (ls : ConfigLines) → ArePrintable ls → (place : FilePlace)
    → IfSome (file_at ls place) IsUtf8
files_named ls are (p.Transform k) = named_at IsPrintable file_of line_named ls.transforms k are.transforms
files_named ls are (p.Request k) =
    named_at IsPrintableRequest file_of (λ line is. line_named line is.0) ls.requests k are.requests
files_named ls are (p.Intercept k) =
    named_at IsPrintableIntercept (λ (line : InterceptLine). file_served line.kind)
    (λ line is. kind_named line.kind is.2) ls.intercepts k are.intercepts

-- and the rules are plain
pub rules_plain : (ps : List PluginLine) → AllByRecursion IsPrintablePlugin ps → All HasPlainRule ps
rules_plain ps are =
    All-from_recursion HasPlainRule ps (each_weaker IsPrintablePlugin HasPlainRule ps hooked_plain are)
