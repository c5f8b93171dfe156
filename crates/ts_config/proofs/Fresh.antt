-- A line that was read can be printed, and has no text of a file.
use Rattle.std.proofs.Common.{◌≡◌, ℕ, ◌<◌, ◌≤◌, List, [], ◌∷◌, ◌++◌, map, Bool, true, false, cond, Option, Some, None, Ok, ◌⊎◌, inl, inr, refl, ap, sym, ◌∙◌, subst, arith}
use Rattle.std.specs.Prelude.{flat_map, nat_lt, codes, bytes_eq}
use Rattle.std.specs.List.{All, AllByRecursion, AllZip}
use Rattle.std.specs.Option.{option_map, option_and_then}
use Rattle.std.proofs.lemmas.Bool.Decides.{nat_tests}
use Rattle.std.proofs.lemmas.List.{map-append}
use Rattle.ts_config.specs.declared.setup.InterceptKind.{InterceptKind}
use Rattle.ts_config.specs.declared.setup.InterceptKind.TheVariants as i
use Rattle.ts_config.specs.declared.setup.InterceptLine.{InterceptLine}
use Rattle.ts_config.specs.declared.setup.TransformLine.{TransformLine}
use Rattle.ts_config.specs.declared.setup.LineMeaning.{LineMeaning}
use Rattle.ts_config.specs.declared.setup.LineMeaning.TheVariants.{Empty, Transform, Request, Intercept, Plugin, Tap}
use Rattle.ts_config.specs.declared.table.PluginName.{PluginName}
use Rattle.ts_config.specs.declared.table.PluginName.TheVariants as n
use Rattle.ts_config.specs.Bytes.{most_fill, most_tap}
use Rattle.ts_config.specs.Lines.{config_lines}
use Rattle.ts_config.specs.Numerals.{number_of}
use Rattle.ts_config.specs.Setup.{ConfigLines, kind_with_text, untexted, untexted_intercept, untexted_lines}
use Rattle.ts_config.specs.Reading.{Means, transform_in, request_in, intercept_in, plugin_in, tap_in, lines_in, IsConfiguration, ComeFromText}
use Rattle.ts_config.specs.Rules.{is_site}
use Rattle.ts_config.specs.Table.{name_of, transform_of, unhurried_of, plugin_of, request_of, fill_of, served_of, intercept_of, kind_of, tap_of, asked_of}
use Rattle.ts_config.proofs.Asked.{asked, entry_asked, mapped, chained, chosen, unhurried, untexted-asked}
use Rattle.ts_config.proofs.FineWords.{IsFine, words_fine}
use Rattle.ts_config.proofs.Hooked.{IsPrintablePlugin, hooked_printable}
use Rattle.ts_config.proofs.Meanings.{in_words, same_lines}
use Rattle.ts_config.proofs.Printable.{IsPrintable, IsPrintableRequest, IsPrintableKind, IsPrintableIntercept, IsPrintableTap, IsPrintableEntry, ArePrintable, asked_printable, number_small, untexted_all}
use Rattle.ts_config.proofs.TextParts.{text-from}

-- the line without the text of its file
abbrev pub untexted_entry : LineMeaning → LineMeaning
untexted_entry (Transform line) = Transform (untexted line)
untexted_entry (Request line) = Request (untexted line)
untexted_entry (Intercept line) = Intercept (untexted_intercept line)
untexted_entry other = other

pub record IsFresh (e : LineMeaning) : Type 0 where
  pub printable : IsPrintableEntry e
  pub untexted : untexted_entry e ≡ e

-- ---- what the words behind a name ask for

transform_fresh : (name : PluginName) (words : List (List ℕ)) (e : LineMeaning) → AllByRecursion IsFine words
    → option_map Transform (transform_of name words) ≡ Some e → IsFresh e
transform_fresh name words e fine is =
    let (line, found, same) = mapped Transform (transform_of name words) e is in
    let asks = asked name words line found in
    subst IsFresh same (record {
      printable = asked_printable line name words asks fine;
      untexted = ap Transform (untexted-asked line name words asks);
    })

hooked_fresh : (name : PluginName) (words : List (List ℕ)) (e : LineMeaning) → AllByRecursion IsFine words
    → option_map Plugin (plugin_of name words) ≡ Some e → IsFresh e
hooked_fresh name words e fine is =
    let (line, found, same) = mapped Plugin (plugin_of name words) e is in
    subst IsFresh same (record { printable = hooked_printable name words line fine found; untexted = refl })

request_fresh : (words : List (List ℕ)) (line : TransformLine) → AllByRecursion IsFine words
    → request_of words ≡ Some line → IsFresh (Request line)
request_fresh [] line fine is = absurd (let wrong : None ≡ Some line = is in cc)
request_fresh (word ∷ words) line fine is =
    let (name, named, given) = chained (λ n. unhurried_of n words) (name_of word) line is in
    let found = unhurried name words line given in
    let asks = asked name words line found.0 in
    record {
      printable = (asked_printable line name words asks fine.1, found.1);
      untexted = ap Request (untexted-asked line name words asks);
    }

abbrev IsFreshKind : InterceptKind → Type 0
IsFreshKind kind = IsPrintableKind kind × (kind_with_text [] kind ≡ kind)

kind_fresh : (words : List (List ℕ)) (kind : InterceptKind) → AllByRecursion IsFine words
    → kind_of words ≡ Some kind → IsFreshKind kind
kind_fresh [] kind fine is = absurd (let wrong : None ≡ Some kind = is in cc)
kind_fresh (word ∷ []) kind fine is =
    subst IsFreshKind (chosen (bytes_eq word (codes "echo")) i.Echo kind is).1 (tt, refl)
kind_fresh (word ∷ last ∷ []) kind fine is =
    by_word (bytes_eq word (codes "fill")) (bytes_eq word (codes "file")) is
  where
    by_word : (fill file : Bool) → cond fill (fill_of last) (cond file (served_of last) None) ≡ Some kind
        → IsFreshKind kind
    by_word true file given =
        let (n, found, same) = mapped i.Fill (number_of most_fill last) kind given in
        subst IsFreshKind same (number_small most_fill last n found, refl)
    by_word false true given =
        let (some, same) = chosen (is_site last) (i.File last []) kind given in
        subst IsFreshKind same ((some, fine.1.0), refl)
    by_word false false given = absurd (let wrong : None ≡ Some kind = given in cc)
kind_fresh (a ∷ b ∷ c ∷ more) kind fine is = absurd (let wrong : None ≡ Some kind = is in cc)

intercept_fresh : (words : List (List ℕ)) (line : InterceptLine) → AllByRecursion IsFine words
    → intercept_of words ≡ Some line → IsFresh (Intercept line)
intercept_fresh [] line fine is = absurd (let wrong : None ≡ Some line = is in cc)
intercept_fresh (site ∷ words) line fine is = by_site (is_site site) refl is
  where
    put : InterceptKind → InterceptLine
    put kind = record { site = site; kind = kind }

    by_site : (t : Bool) → is_site site ≡ t → cond t (option_map put (kind_of words)) None ≡ Some line
        → IsFresh (Intercept line)
    by_site true some given =
        let (kind, found, same) = mapped put (kind_of words) line given in
        let fresh = kind_fresh words kind fine.1 found in
        subst (λ l. IsFresh (Intercept l)) same (record {
          printable = (some, fine.0, fresh.0);
          untexted = ap (λ k. Intercept (put k)) fresh.1;
        })
    by_site false none given = absurd (let wrong : None ≡ Some line = given in cc)

tap_fresh : (words : List (List ℕ)) (most : ℕ) → tap_of words ≡ Some most → IsFresh (Tap most)
tap_fresh [] most is = absurd (let wrong : None ≡ Some most = is in cc)
tap_fresh (word ∷ []) most is =
    let (n, found, inner) =
    chained (λ n. cond (nat_lt 0 n) (Some n) None) (number_of most_tap word) most is in
    let (some, same) = chosen (nat_lt 0 n) n most inner in
    let above : 0 < n = grind (arith, nat_tests, some) in
    subst (λ m. IsFresh (Tap m)) same
    (record { printable = (above, number_small most_tap word n found); untexted = refl })
tap_fresh (a ∷ b ∷ more) most is = absurd (let wrong : None ≡ Some most = is in cc)

asked_fresh : (name : PluginName) (words : List (List ℕ)) (e : LineMeaning) → AllByRecursion IsFine words
    → asked_of name words ≡ Some e → IsFresh e
asked_fresh n.Request words e fine is =
    let (line, found, same) = mapped Request (request_of words) e is in
    subst IsFresh same (request_fresh words line fine found)
asked_fresh n.Intercept words e fine is =
    let (line, found, same) = mapped Intercept (intercept_of words) e is in
    subst IsFresh same (intercept_fresh words line fine found)
asked_fresh n.Tap words e fine is =
    let (most, found, same) = mapped Tap (tap_of words) e is in
    subst IsFresh same (tap_fresh words most found)
asked_fresh n.Deny words e fine is = hooked_fresh n.Deny words e fine is
asked_fresh n.Header words e fine is = hooked_fresh n.Header words e fine is
asked_fresh n.SessionHeader words e fine is = hooked_fresh n.SessionHeader words e fine is
asked_fresh name words e fine is = transform_fresh name words e fine is

-- ---- a line, and all lines

line_fresh : (line : List ℕ) (e : LineMeaning) → Means line (Ok e) → IsFresh e
line_fresh line e means =
    let (text, found) = in_words line e means in
    let (words, are, meant) = found in
    by_entry words (words_fine words line (text-from line text) are) (entry_asked words e meant)
  where
    by_entry : (words : List (List ℕ)) → AllByRecursion IsFine words
        → (e ≡ Empty) ⊎ ((name : PluginName) × (first : List ℕ) × (others : List (List ℕ))
        × (words ≡ first ∷ others) × (asked_of name others ≡ Some e)) → IsFresh e
    by_entry words fine (inl empty) = subst IsFresh (sym empty) (record { printable = tt; untexted = refl })
    by_entry words fine (inr (name, first, others, cut, some)) =
        let each : AllByRecursion IsFine (first ∷ others) = subst (AllByRecursion IsFine) cut fine in
        asked_fresh name others e each.1 some

pub lines_fresh : (lines : List (List ℕ)) (es : List LineMeaning)
    → AllZip (λ l m. Means l (Ok m)) lines es → AllByRecursion IsFresh es
lines_fresh [] [] each = tt
lines_fresh [] (e ∷ es) each = absurd each
lines_fresh (l ∷ ls) [] each = absurd each
lines_fresh (l ∷ ls) (e ∷ es) each = (line_fresh l e each.0, lines_fresh ls es each.1)

-- ---- the lines of one kind

pub each_append : {A : Type 0} (P : A → Type 0) (xs ys : List A) → AllByRecursion P xs → AllByRecursion P ys
    → AllByRecursion P (xs ++ ys)
each_append P [] ys first second = second
each_append P (x ∷ xs) ys first second = (first.0, each_append P xs ys first.1 second)

picked : {A : Type 0} (P : A → Type 0) (f : LineMeaning → List A)
    → ((e : LineMeaning) → IsFresh e → AllByRecursion P (f e)) → (es : List LineMeaning)
    → AllByRecursion IsFresh es → AllByRecursion P (flat_map f es)
picked P f one [] are = tt
picked P f one (e ∷ es) are =
    each_append P (f e) (flat_map f es) (one e are.0) (picked P f one es are.1)

transform_picked : (e : LineMeaning) → IsFresh e → AllByRecursion IsPrintable (transform_in e)
transform_picked (Transform line) is = (is.printable, tt)
transform_picked other is = tt

request_picked : (e : LineMeaning) → IsFresh e → AllByRecursion IsPrintableRequest (request_in e)
request_picked (Request line) is = (is.printable, tt)
request_picked other is = tt

intercept_picked : (e : LineMeaning) → IsFresh e → AllByRecursion IsPrintableIntercept (intercept_in e)
intercept_picked (Intercept line) is = (is.printable, tt)
intercept_picked other is = tt

plugin_picked : (e : LineMeaning) → IsFresh e → AllByRecursion IsPrintablePlugin (plugin_in e)
plugin_picked (Plugin line) is = (is.printable, tt)
plugin_picked other is = tt

tap_picked : (e : LineMeaning) → IsFresh e → AllByRecursion IsPrintableTap (tap_in e)
tap_picked (Tap most) is = (is.printable, tt)
tap_picked other is = tt

fresh_printable : (es : List LineMeaning) → AllByRecursion IsFresh es → ArePrintable (lines_in es)
fresh_printable es are = record {
  transforms = picked IsPrintable transform_in transform_picked es are;
  requests = picked IsPrintableRequest request_in request_picked es are;
  intercepts = picked IsPrintableIntercept intercept_in intercept_picked es are;
  plugins = picked IsPrintablePlugin plugin_in plugin_picked es are;
  taps = picked IsPrintableTap tap_in tap_picked es are;
}

kept : {A : Type 0} (g : A → A) (f : LineMeaning → List A) → ((e : LineMeaning) → IsFresh e → map g (f e) ≡ f e)
    → (es : List LineMeaning) → AllByRecursion IsFresh es → map g (flat_map f es) ≡ flat_map f es
kept g f one [] are = refl
kept g f one (e ∷ es) are =
    map-append g (f e) (flat_map f es) ∙ ap (λ xs. xs ++ map g (flat_map f es)) (one e are.0)
    ∙ ap (λ xs. f e ++ xs) (kept g f one es are.1)

transform_kept : (e : LineMeaning) → IsFresh e → map untexted (transform_in e) ≡ transform_in e
transform_kept (Transform line) is = ap transform_in is.untexted
transform_kept other is = refl

request_kept : (e : LineMeaning) → IsFresh e → map untexted (request_in e) ≡ request_in e
request_kept (Request line) is = ap request_in is.untexted
request_kept other is = refl

intercept_kept : (e : LineMeaning) → IsFresh e → map untexted_intercept (intercept_in e) ≡ intercept_in e
intercept_kept (Intercept line) is = ap intercept_in is.untexted
intercept_kept other is = refl

-- what was read has no texts of files
pub read-untexted : (bytes : List ℕ) (lines : ConfigLines) → IsConfiguration bytes lines
    → untexted_lines lines ≡ lines
read-untexted bytes lines read =
    let are = lines_fresh (config_lines bytes) read.es read.read.each in
    ap untexted_lines read.lines_are
    ∙ same_lines (kept untexted transform_in transform_kept read.es are)
    (kept untexted request_in request_kept read.es are)
    (kept untexted_intercept intercept_in intercept_kept read.es are) refl refl
    ∙ sym read.lines_are

-- and comes from text
pub read-come : (bytes : List ℕ) (lines : ConfigLines) → IsConfiguration bytes lines
    → ComeFromText lines
read-come bytes lines read = record {
  bytes = bytes;
  read = subst (IsConfiguration bytes) (sym (read-untexted bytes lines read)) read;
}

-- lines that come from text can be printed
pub come_printable : (ls : ConfigLines) → ComeFromText ls → ArePrintable ls
come_printable ls from =
    untexted_all ls (subst ArePrintable (sym from.read.lines_are)
    (fresh_printable from.read.es (lines_fresh (config_lines from.bytes) from.read.es from.read.read.each)))
