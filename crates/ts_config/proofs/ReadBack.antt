-- What is printed is read back.
use Rattle.std.proofs.Common.{◌≡◌, ℕ, ◌/◌, ◌%◌, ◌^◌, ◌<◌, ◌≤◌, List, [], ◌∷◌, ◌++◌, length, map, Bool, true, false, cond, Some, None, Ok, Err, inl, refl, ap, sym, ◌∙◌, subst, arith, append_assoc, append-nil}
use Rattle.std.specs.Prelude.{◌==◌, codes, flat_map, nat_le, nat_lt, MatchBool}
use Rattle.std.specs.Option.{option_map, option_and_then}
use Rattle.std.specs.List.{AllByRecursion, AllZip}
use Rattle.std.specs.Fmt.{decimal}
use Rattle.std.specs.Char.{is_ascii_alphanumeric}
use Rattle.std.specs.Int.{IsInRange}
use Rattle.std.specs.Str.Parse.{AllDigits}
use Rattle.std.proofs.lemmas.Fmt.{decimal_is_IsNumeral}
use Rattle.std.proofs.lemmas.Str.Parse.{digit_from_value}
use Rattle.std.proofs.lemmas.Bool.Decides.{nat_tests}
use Rattle.std.proofs.lemmas.Grind.{flat_map-append}
use Rattle.std.proofs.lemmas.List.Folds.{flat_map-map}
use Rattle.ts_lists.proofs.Elements.{each_weaker}
use Rattle.ts_config.specs.declared.fields.PluginLine.{PluginLine}
use Rattle.ts_config.specs.declared.setup.InterceptKind.{InterceptKind}
use Rattle.ts_config.specs.declared.setup.InterceptKind.TheVariants as i
use Rattle.ts_config.specs.declared.setup.InterceptLine.{InterceptLine}
use Rattle.ts_config.specs.declared.setup.TransformLine.{TransformLine}
use Rattle.ts_config.specs.declared.setup.TransformLine.TheVariants as t
use Rattle.ts_config.specs.declared.setup.ConfigKind.TheVariants as k
use Rattle.ts_config.specs.declared.setup.LineMeaning.{LineMeaning}
use Rattle.ts_config.specs.declared.setup.LineMeaning.TheVariants.{Empty, Transform, Request, Intercept, Plugin, Tap}
use Rattle.ts_config.specs.declared.table.PluginName.{PluginName}
use Rattle.ts_config.specs.declared.table.PluginName.TheVariants as n
use Rattle.ts_config.specs.Bytes.{most_fill, most_limit, most_tap}
use Rattle.ts_config.specs.Numerals.{byte_of, byte_word, hex_digit}
use Rattle.ts_config.specs.Lines.{config_lines}
use Rattle.ts_config.specs.Printing.{spelled_words, line_name, line_arguments, plugin_name, printed_line, request_words, printed_request, kind_words, printed_intercept, printed_plugin, printed_tap, printed}
use Rattle.ts_config.specs.Reading.{is_text_byte, Means, MeansByWords, lines_in, AreFew, AreRead, IsConfiguration, ComeFromText}
use Rattle.ts_config.specs.Rules.{plugin_words}
use Rattle.ts_config.specs.Setup.{ConfigLines, kind_with_text, no_lines, untexted, untexted_intercept, untexted_lines}
use Rattle.ts_config.specs.Table.{spelling, name_of, transform_of, unhurried_of, kind_of, asked_of, fitting, named_entry, line_entry}
use Rattle.ts_config.specs.Words.{is_end, IsPlain, IsWords}
use Rattle.ts_config.proofs.Again.{byte_again, number_again}
use Rattle.ts_config.proofs.Asked.{is_delay}
use Rattle.ts_config.proofs.FineWords.{IsFine}
use Rattle.ts_config.proofs.Fresh.{come_printable, each_append, untexted_entry}
use Rattle.ts_config.proofs.Hooked.{hooked_again, hooked_fine}
use Rattle.ts_config.proofs.Meanings.{same_lines}
use Rattle.ts_config.proofs.Printable.{IsPrintable, IsPrintableRequest, IsPrintableKind, IsPrintableIntercept, IsPrintableTap, IsPrintableEntry, ArePrintable}
use Rattle.ts_config.proofs.Spelled.{line_words_again, words_text, none_ends}
use Rattle.ts_config.proofs.TextLines.{lines_again}
use Rattle.ts_config.proofs.TextParts.{IsText, plain_text, text-is, text-append, text-cons, text-nil}

-- a byte that may stand anywhere in a plain word
record IsWordByte (b : ℕ) : Type 0 where
  small : b < 128
  quote : (b == 34) ≡ false
  end : is_end b ≡ false
  text : is_text_byte b ≡ true

word_text : (w : List ℕ) → AllByRecursion IsWordByte w → IsText w
word_text [] are = text-nil
word_text (b ∷ bs) are = let one : IsWordByte b = are.0 in
    text-cons b bs one.small one.text (word_text bs are.1)

word_ends : (w : List ℕ) → AllByRecursion IsWordByte w → AllByRecursion (λ b. is_end b ≡ false) w
word_ends [] are = tt
word_ends (b ∷ bs) are = let one : IsWordByte b = are.0 in (one.end, word_ends bs are.1)

fine_word : (w : List ℕ) → 0 < length w → AllByRecursion IsWordByte w → IsFine w
fine_word [] some are = absurd (omega arith)
fine_word (b ∷ bs) some are =
    let one : IsWordByte b = are.0 in
    record { writable = inl (one.quote, word_ends (b ∷ bs) are); text = word_text (b ∷ bs) are }

alphanumeric_byte : (b : ℕ) → is_ascii_alphanumeric b ≡ true → IsWordByte b
alphanumeric_byte b is = record {
  small = grind (arith, nat_tests);
  quote = grind (arith, nat_tests);
  end = grind (arith, nat_tests);
  text = grind (arith, nat_tests);
}

hex_byte : (d : ℕ) → d < 16 → IsWordByte (hex_digit d)
hex_byte d small = record {
  small = grind (arith, nat_tests);
  quote = grind (arith, nat_tests);
  end = grind (arith, nat_tests);
  text = grind (arith, nat_tests);
}

digit_byte : (d : ℕ) → IsInRange 48 57 d → IsWordByte d
digit_byte d range = record {
  small = omega (arith, range.1);
  quote = grind (arith, nat_tests);
  end = grind (arith, nat_tests);
  text = grind (arith, nat_tests);
}

fine_byte : (b : ℕ) → b < 256 → IsFine (byte_word b)
fine_byte b small = by_kind (is_ascii_alphanumeric b) refl
  where
    by_kind : (t : Bool) → is_ascii_alphanumeric b ≡ t
        → IsFine (cond t (b ∷ []) (48 ∷ 120 ∷ hex_digit (b / 16) ∷ hex_digit (b % 16) ∷ []))
    by_kind true is = fine_word (b ∷ []) (omega arith) (alphanumeric_byte b is, tt)
    by_kind false is =
        fine_word (48 ∷ 120 ∷ hex_digit (b / 16) ∷ hex_digit (b % 16) ∷ []) (omega arith) (
          alphanumeric_byte 48 refl,
          (
            alphanumeric_byte 120 refl,
            (hex_byte (b / 16) (omega arith), (hex_byte (b % 16) (omega arith), tt)),
          ),
        )

digits_bytes : (ds : List ℕ) → AllDigits 10 ds → AllByRecursion IsWordByte ds
digits_bytes [] are = tt
digits_bytes (d ∷ ds) are = (digit_byte d (digit_from_value d are.0), digits_bytes ds are.1)

fine_number : (m : ℕ) → m < 2 ^ 64 → IsFine (decimal m)
fine_number m small = let numeral = (decimal_is_IsNumeral m small).0 in
    fine_word (decimal m) numeral.0 (digits_bytes (decimal m) numeral.1)

-- names
name_plain : (name : PluginName) → IsPlain (spelling name)
name_plain n.Null = (refl, none_ends (spelling n.Null) refl)
name_plain n.Append = (refl, none_ends (spelling n.Append) refl)
name_plain n.Bnull = (refl, none_ends (spelling n.Bnull) refl)
name_plain n.Prepend = (refl, none_ends (spelling n.Prepend) refl)
name_plain n.Map = (refl, none_ends (spelling n.Map) refl)
name_plain n.Drop = (refl, none_ends (spelling n.Drop) refl)
name_plain n.Delay = (refl, none_ends (spelling n.Delay) refl)
name_plain n.Limit = (refl, none_ends (spelling n.Limit) refl)
name_plain n.Request = (refl, none_ends (spelling n.Request) refl)
name_plain n.Intercept = (refl, none_ends (spelling n.Intercept) refl)
name_plain n.Tap = (refl, none_ends (spelling n.Tap) refl)
name_plain n.Deny = (refl, none_ends (spelling n.Deny) refl)
name_plain n.Header = (refl, none_ends (spelling n.Header) refl)
name_plain n.SessionHeader = (refl, none_ends (spelling n.SessionHeader) refl)

name_text : (name : PluginName) → IsText (spelling name)
name_text n.Null = plain_text (spelling n.Null) refl
name_text n.Append = plain_text (spelling n.Append) refl
name_text n.Bnull = plain_text (spelling n.Bnull) refl
name_text n.Prepend = plain_text (spelling n.Prepend) refl
name_text n.Map = plain_text (spelling n.Map) refl
name_text n.Drop = plain_text (spelling n.Drop) refl
name_text n.Delay = plain_text (spelling n.Delay) refl
name_text n.Limit = plain_text (spelling n.Limit) refl
name_text n.Request = plain_text (spelling n.Request) refl
name_text n.Intercept = plain_text (spelling n.Intercept) refl
name_text n.Tap = plain_text (spelling n.Tap) refl
name_text n.Deny = plain_text (spelling n.Deny) refl
name_text n.Header = plain_text (spelling n.Header) refl
name_text n.SessionHeader = plain_text (spelling n.SessionHeader) refl

name_again : (name : PluginName) → name_of (spelling name) ≡ Some name
name_again n.Null = refl
name_again n.Append = refl
name_again n.Bnull = refl
name_again n.Prepend = refl
name_again n.Map = refl
name_again n.Drop = refl
name_again n.Delay = refl
name_again n.Limit = refl
name_again n.Request = refl
name_again n.Intercept = refl
name_again n.Tap = refl
name_again n.Deny = refl
name_again n.Header = refl
name_again n.SessionHeader = refl

-- a line
arguments_fine : (l : TransformLine) → IsPrintable l → AllByRecursion IsFine (line_arguments l)
arguments_fine t.Null is = tt
arguments_fine (t.Append file text) is = (is.1, tt)
arguments_fine t.Bnull is = tt
arguments_fine (t.Prepend text) is = (is.1, tt)
arguments_fine (t.Map a b) is = (fine_byte a is.0, (fine_byte b is.1, tt))
arguments_fine (t.Drop b) is = (fine_byte b is, tt)
arguments_fine (t.Delay m) is = (fine_number m (omega (arith, is)), tt)
arguments_fine (t.Limit m) is = (fine_number m (omega (arith, is)), tt)

file_again : (file : List ℕ) → 0 < length file → transform_of n.Append (file ∷ []) ≡ Some (t.Append file [])
file_again [] some = absurd (omega arith)
file_again (b ∷ bs) some = refl

text_again : (text : List ℕ) → length text ≤ 16384
    → transform_of n.Prepend (text ∷ []) ≡ Some (t.Prepend text)
text_again text fits =
    let small : nat_le (length text) 16384 ≡ true = grind (arith, nat_tests) in
    ap (λ b. cond b (Some (t.Prepend text)) None) small

transform_again : (l : TransformLine) → IsPrintable l
    → transform_of (line_name l) (line_arguments l) ≡ Some (untexted l)
transform_again t.Null is = refl
transform_again (t.Append file text) is = file_again file is.0
transform_again t.Bnull is = refl
transform_again (t.Prepend text) is = text_again text is.0
transform_again (t.Map a b) is =
    ap (λ o. option_and_then (λ x. option_map (λ y. t.Map x y) (byte_of (byte_word b))) o) (byte_again a is.0)
    ∙ ap (option_map (λ y. t.Map a y)) (byte_again b is.1)
transform_again (t.Drop b) is = ap (option_map (λ y. t.Drop y)) (byte_again b is)
transform_again (t.Delay m) is = ap (option_map (λ y. t.Delay y)) (number_again 60000 m is (omega arith))
transform_again (t.Limit m) is =
    ap (option_map (λ y. t.Limit y)) (number_again most_limit m is (omega arith))

-- a name and words as they are printed, but for the line feed
abbrev words_line : PluginName → List (List ℕ) → List ℕ
words_line name words = spelling name ++ spelled_words words

line_is_text : (name : PluginName) (words : List (List ℕ)) → AllByRecursion IsFine words
    → IsText (words_line name words)
line_is_text name words fine =
    text-append (spelling name) (spelled_words words) (name_text name) (words_text words fine)

-- a line means what its name and words mean
line_means : (name : PluginName) (words : List (List ℕ)) (e : LineMeaning) → AllByRecursion IsFine words
    → asked_of name words ≡ Some e → Means (words_line name words) (Ok e)
line_means name words e fine is =
    let line : List ℕ = words_line name words in
    let are : IsWords line (spelling name ∷ words) =
    line_words_again (spelling name) words (name_plain name) fine in
    let entry : line_entry (spelling name ∷ words) ≡ Ok e =
    ap (λ o. named_entry o words) (name_again name) ∙ ap fitting is in
    subst (λ b. MatchBool b (MeansByWords line (Ok e)) (Ok e ≡ Err k.Text))
    (sym (text-is line (line_is_text name words fine)))
    (inl (spelling name ∷ words, are, sym entry))

-- ---- the words of each kind of line

transform_asked : (l : TransformLine) → IsPrintable l
    → asked_of (line_name l) (line_arguments l) ≡ Some (Transform (untexted l))
transform_asked l is = by_line l (transform_again l is)
  where
    by_line : (l : TransformLine) → transform_of (line_name l) (line_arguments l) ≡ Some (untexted l)
        → asked_of (line_name l) (line_arguments l) ≡ Some (Transform (untexted l))
    by_line t.Null again = ap (option_map Transform) again
    by_line (t.Append file text) again = ap (option_map Transform) again
    by_line t.Bnull again = ap (option_map Transform) again
    by_line (t.Prepend text) again = ap (option_map Transform) again
    by_line (t.Map a b) again = ap (option_map Transform) again
    by_line (t.Drop b) again = ap (option_map Transform) again
    by_line (t.Delay m) again = ap (option_map Transform) again
    by_line (t.Limit m) again = ap (option_map Transform) again

name_fine : (name : PluginName) → IsFine (spelling name)
name_fine name = record { writable = inl (name_plain name); text = name_text name }

request_fine : (l : TransformLine) → IsPrintableRequest l → AllByRecursion IsFine (request_words l)
request_fine l is = (name_fine (line_name l), arguments_fine l is.0)

unhurried_again : (l : TransformLine) (words : List (List ℕ)) → is_delay l ≡ false
    → unhurried_of (line_name l) words ≡ transform_of (line_name l) words
unhurried_again (t.Delay m) words quick = absurd (let wrong : true ≡ false = quick in cc)
unhurried_again l words quick = refl

request_asked : (l : TransformLine) → IsPrintableRequest l
    → asked_of n.Request (request_words l) ≡ Some (Request (untexted l))
request_asked l is =
    let words : List (List ℕ) = line_arguments l in
    ap (λ o. option_map Request (option_and_then (λ name. unhurried_of name words) o)) (name_again (line_name l))
    ∙ ap (option_map Request) (unhurried_again l words is.1 ∙ transform_again l is.0)

echo_fine : IsFine (codes "echo")
echo_fine = record { writable = inl (refl, none_ends (codes "echo") refl); text = plain_text (codes "echo") refl }

fill_fine : IsFine (codes "fill")
fill_fine = record { writable = inl (refl, none_ends (codes "fill") refl); text = plain_text (codes "fill") refl }

file_fine : IsFine (codes "file")
file_fine = record { writable = inl (refl, none_ends (codes "file") refl); text = plain_text (codes "file") refl }

kind_fine : (kind : InterceptKind) → IsPrintableKind kind → AllByRecursion IsFine (kind_words kind)
kind_fine i.Echo is = (echo_fine, tt)
kind_fine (i.Fill n) is = (fill_fine, (fine_number n (omega (arith, is)), tt))
kind_fine (i.File file text) is = (file_fine, (is.1, tt))

kind_again : (kind : InterceptKind) → IsPrintableKind kind
    → kind_of (kind_words kind) ≡ Some (kind_with_text [] kind)
kind_again i.Echo is = refl
kind_again (i.Fill n) is = ap (option_map i.Fill) (number_again most_fill n is (omega arith))
kind_again (i.File file text) is = ap (λ b. cond b (Some (i.File file [])) None) is.0

intercept_asked : (l : InterceptLine) → IsPrintableIntercept l
    → asked_of n.Intercept (l.site ∷ kind_words l.kind) ≡ Some (Intercept (untexted_intercept l))
intercept_asked l is =
    let put : InterceptKind → InterceptLine = λ kind. record { site = l.site; kind = kind } in
    ap (λ b. option_map Intercept (cond b (option_map put (kind_of (kind_words l.kind))) None)) is.0
    ∙ ap (λ o. option_map Intercept (option_map put o)) (kind_again l.kind is.2)

tap_asked : (most : ℕ) → IsPrintableTap most → asked_of n.Tap (decimal most ∷ []) ≡ Some (Tap most)
tap_asked most is =
    let above : nat_lt 0 most ≡ true = grind (arith, nat_tests, is.0) in
    ap (λ o. option_map Tap (option_and_then (λ m. cond (nat_lt 0 m) (Some m) None) o))
    (number_again most_tap most is.1 (omega arith))
    ∙ ap (λ b. option_map Tap (cond b (Some most) None)) above

-- ---- all lines

-- the words of a line as they are printed, without its line feed
abbrev entry_text : LineMeaning → List ℕ
entry_text Empty = []
entry_text (Transform l) = words_line (line_name l) (line_arguments l)
entry_text (Request l) = words_line n.Request (request_words l)
entry_text (Intercept l) = words_line n.Intercept (l.site ∷ kind_words l.kind)
entry_text (Plugin l) = words_line (plugin_name l) (plugin_words l)
entry_text (Tap most) = words_line n.Tap (decimal most ∷ [])

-- kind by kind
abbrev entries : ConfigLines → List LineMeaning
entries ls =
    map Transform ls.transforms ++ (map Request ls.requests ++ (map Intercept ls.intercepts
    ++ (map Plugin ls.plugins ++ map Tap ls.taps)))

each_map : {A B : Type 0} (P : B → Type 0) (f : A → B) (xs : List A) → AllByRecursion (λ x. P (f x)) xs
    → AllByRecursion P (map f xs)
each_map P f [] are = tt
each_map P f (x ∷ xs) are = (are.0, each_map P f xs are.1)

entries_printable : (ls : ConfigLines) → ArePrintable ls → AllByRecursion IsPrintableEntry (entries ls)
entries_printable ls are =
    each_append IsPrintableEntry (map Transform ls.transforms) _
    (each_map IsPrintableEntry Transform ls.transforms are.transforms)
    (each_append IsPrintableEntry (map Request ls.requests) _
    (each_map IsPrintableEntry Request ls.requests are.requests)
    (each_append IsPrintableEntry (map Intercept ls.intercepts) _
    (each_map IsPrintableEntry Intercept ls.intercepts are.intercepts)
    (each_append IsPrintableEntry (map Plugin ls.plugins) _
    (each_map IsPrintableEntry Plugin ls.plugins are.plugins)
    (each_map IsPrintableEntry Tap ls.taps are.taps))))

tap_small : (most : ℕ) → IsPrintableTap most → most < 2 ^ 64
tap_small most is = omega (arith, is.1)

entry_is_text : (e : LineMeaning) → IsPrintableEntry e → IsText (entry_text e)
entry_is_text Empty is = text-nil
entry_is_text (Transform l) is = line_is_text (line_name l) (line_arguments l) (arguments_fine l is)
entry_is_text (Request l) is = line_is_text n.Request (request_words l) (request_fine l is)
entry_is_text (Intercept l) is =
    line_is_text n.Intercept (l.site ∷ kind_words l.kind) (is.1, kind_fine l.kind is.2)
entry_is_text (Plugin l) is = line_is_text (plugin_name l) (plugin_words l) (hooked_fine l is)
entry_is_text (Tap most) is =
    line_is_text n.Tap (decimal most ∷ []) (fine_number most (tap_small most is), tt)

entry_means : (e : LineMeaning) → IsPrintableEntry e → Means (entry_text e) (Ok (untexted_entry e))
entry_means Empty is =
    subst (λ b. MatchBool b (MeansByWords [] (Ok Empty)) (Ok Empty ≡ Err k.Text)) (sym (text-is [] text-nil))
    (inl ([], ([], [], tt, tt, refl), refl))
entry_means (Transform l) is =
    line_means (line_name l) (line_arguments l) (Transform (untexted l)) (arguments_fine l is)
    (transform_asked l is)
entry_means (Request l) is =
    line_means n.Request (request_words l) (Request (untexted l)) (request_fine l is) (request_asked l is)
entry_means (Intercept l) is =
    line_means n.Intercept (l.site ∷ kind_words l.kind) (Intercept (untexted_intercept l))
    (is.1, kind_fine l.kind is.2) (intercept_asked l is)
entry_means (Plugin l) is =
    line_means (plugin_name l) (plugin_words l) (Plugin l) (hooked_fine l is) (hooked_again l is)
entry_means (Tap most) is =
    line_means n.Tap (decimal most ∷ []) (Tap most) (fine_number most (tap_small most is), tt)
    (tap_asked most is)

all_mean : (es : List LineMeaning) → AllByRecursion IsPrintableEntry es
    → AllZip (λ l m. Means l (Ok m)) (map entry_text es) (map untexted_entry es)
all_mean [] are = tt
all_mean (e ∷ es) are = (entry_means e are.0, all_mean es are.1)

-- the lines are printed one by one
abbrev entry_line : LineMeaning → List ℕ
entry_line e = entry_text e ++ 10 ∷ []

nested : (a b c d e : List ℕ) → (((a ++ b) ++ c) ++ d) ++ e ≡ a ++ (b ++ (c ++ (d ++ e)))
nested a b c d e =
    append_assoc ((a ++ b) ++ c) d e ∙ append_assoc (a ++ b) c (d ++ e) ∙ append_assoc a b (c ++ (d ++ e))

kind_printed : {A : Type 0} (put : A → LineMeaning) (xs : List A) (es : List LineMeaning) (rest : List ℕ)
    → flat_map entry_line es ≡ rest
    → flat_map entry_line (map put xs ++ es) ≡ flat_map (λ x. entry_line (put x)) xs ++ rest
kind_printed put xs es rest is =
    flat_map-append entry_line (map put xs) es
    ∙ ap (λ front. front ++ flat_map entry_line es) (flat_map-map entry_line put xs)
    ∙ ap (λ back. flat_map (λ x. entry_line (put x)) xs ++ back) is

entries_printed : (ls : ConfigLines) → printed ls ≡ flat_map entry_line (entries ls)
entries_printed ls =
    let taps : List ℕ = flat_map printed_tap ls.taps in
    let plugins : List ℕ = flat_map printed_plugin ls.plugins ++ taps in
    let intercepts : List ℕ = flat_map printed_intercept ls.intercepts ++ plugins in
    let requests : List ℕ = flat_map printed_request ls.requests ++ intercepts in
    nested (flat_map printed_line ls.transforms) (flat_map printed_request ls.requests)
    (flat_map printed_intercept ls.intercepts) (flat_map printed_plugin ls.plugins) taps
    ∙ sym (kind_printed Transform ls.transforms _ requests (kind_printed Request ls.requests _ intercepts
    (kind_printed Intercept ls.intercepts _ plugins (kind_printed Plugin ls.plugins _ taps
    (flat_map-map entry_line Tap ls.taps)))))

-- and mean the lines
abbrev put_transforms : List TransformLine → ConfigLines → ConfigLines
put_transforms xs ls = record ls { transforms = xs ++ ls.transforms }

abbrev put_requests : List TransformLine → ConfigLines → ConfigLines
put_requests xs ls = record ls { requests = xs ++ ls.requests }

abbrev put_intercepts : List InterceptLine → ConfigLines → ConfigLines
put_intercepts xs ls = record ls { intercepts = xs ++ ls.intercepts }

abbrev put_plugins : List PluginLine → ConfigLines → ConfigLines
put_plugins xs ls = record ls { plugins = xs ++ ls.plugins }

abbrev put_taps : List ℕ → ConfigLines → ConfigLines
put_taps xs ls = record ls { taps = xs ++ ls.taps }

-- the lines that these entries mean, without texts of files
abbrev meant : List LineMeaning → ConfigLines
meant es = lines_in (map untexted_entry es)

transforms_meant : (xs : List TransformLine) (es : List LineMeaning)
    → meant (map Transform xs ++ es) ≡ put_transforms (map untexted xs) (meant es)
transforms_meant [] es = refl
transforms_meant (x ∷ xs) es = ap (put_transforms (untexted x ∷ [])) (transforms_meant xs es)

requests_meant : (xs : List TransformLine) (es : List LineMeaning)
    → meant (map Request xs ++ es) ≡ put_requests (map untexted xs) (meant es)
requests_meant [] es = refl
requests_meant (x ∷ xs) es = ap (put_requests (untexted x ∷ [])) (requests_meant xs es)

intercepts_meant : (xs : List InterceptLine) (es : List LineMeaning)
    → meant (map Intercept xs ++ es) ≡ put_intercepts (map untexted_intercept xs) (meant es)
intercepts_meant [] es = refl
intercepts_meant (x ∷ xs) es = ap (put_intercepts (untexted_intercept x ∷ [])) (intercepts_meant xs es)

plugins_meant : (xs : List PluginLine) (es : List LineMeaning)
    → meant (map Plugin xs ++ es) ≡ put_plugins xs (meant es)
plugins_meant [] es = refl
plugins_meant (x ∷ xs) es = ap (put_plugins (x ∷ [])) (plugins_meant xs es)

taps_meant : (xs : List ℕ) → meant (map Tap xs) ≡ put_taps xs no_lines
taps_meant [] = refl
taps_meant (x ∷ xs) = ap (put_taps (x ∷ [])) (taps_meant xs)

entries_meant : (ls : ConfigLines) → meant (entries ls) ≡ untexted_lines ls
entries_meant ls =
    let taps = taps_meant ls.taps in
    let plugins = plugins_meant ls.plugins (map Tap ls.taps) ∙ ap (put_plugins ls.plugins) taps in
    let intercepts = intercepts_meant ls.intercepts (map Plugin ls.plugins ++ map Tap ls.taps)
    ∙ ap (put_intercepts (map untexted_intercept ls.intercepts)) plugins in
    let requests = requests_meant ls.requests
    (map Intercept ls.intercepts ++ (map Plugin ls.plugins ++ map Tap ls.taps))
    ∙ ap (put_requests (map untexted ls.requests)) intercepts in
    transforms_meant ls.transforms
    (map Request ls.requests ++ (map Intercept ls.intercepts ++ (map Plugin ls.plugins ++ map Tap ls.taps)))
    ∙ ap (put_transforms (map untexted ls.transforms)) requests
    ∙ same_lines (append-nil (map untexted ls.transforms)) (append-nil (map untexted ls.requests))
    (append-nil (map untexted_intercept ls.intercepts)) (append-nil ls.plugins) (append-nil ls.taps)

printed_again : (ls : ConfigLines) → ArePrintable ls → AreFew (untexted_lines ls)
    → IsConfiguration (printed ls) (untexted_lines ls)
printed_again ls are few =
    let es : List LineMeaning = entries ls in
    let fine : AllByRecursion IsPrintableEntry es = entries_printable ls are in
    let meant_are : lines_in (map untexted_entry es) ≡ untexted_lines ls = entries_meant ls in
    let cut : config_lines (printed ls) ≡ map entry_text es =
    ap config_lines (entries_printed ls)
    ∙ lines_again entry_text es
    (each_weaker IsPrintableEntry (λ e. IsText (entry_text e)) es entry_is_text fine) in
    record {
      es = map untexted_entry es;
      read = subst (λ lines. AreRead lines (map untexted_entry es)) (sym cut)
          (record { each = all_mean es fine; few = subst AreFew (sym meant_are) few });
      lines_are = sym meant_are;
    }

-- lines that come from text are read back
pub come_again : (ls : ConfigLines) → ComeFromText ls
    → IsConfiguration (printed ls) (untexted_lines ls)
come_again ls from =
    printed_again ls (come_printable ls from) (subst AreFew (sym from.read.lines_are) from.read.read.few)
