-- A configuration whose first lines were read.
use Rattle.std.proofs.Common.{◌≡◌, ℕ, ◌+◌, ◌<◌, ◌≤◌, List, [], ◌∷◌, ◌++◌, length, true, Option, Ok, refl, ap, sym, ◌∙◌, subst, arith, append_assoc, append-nil, length-append}
use Rattle.std.specs.Prelude.{flat_map, nat_lt, slice_get, IsSome}
use Rattle.std.specs.Option.{option_and_then}
use Rattle.std.specs.List.{AllByRecursion, AllZip}
use Rattle.std.proofs.lemmas.Bool.Decides.{nat_tests}
use Rattle.std.proofs.lemmas.Grind.{flat_map-append}
use Rattle.ts_config.specs.declared.setup.FilePlace.{FilePlace}
use Rattle.ts_config.specs.declared.setup.InterceptKind.{InterceptKind}
use Rattle.ts_config.specs.declared.setup.InterceptKind.TheVariants as i
use Rattle.ts_config.specs.declared.setup.InterceptLine.{InterceptLine}
use Rattle.ts_config.specs.declared.setup.TransformLine.TheVariants as t
use Rattle.ts_config.specs.declared.setup.LineMeaning.{LineMeaning}
use Rattle.ts_config.specs.declared.setup.LineMeaning.TheVariants.{Empty, Transform, Request, Intercept, Plugin, Tap}
use Rattle.ts_config.specs.declared.setup.ConfigKind.{ConfigKind}
use Rattle.ts_config.specs.Bytes.{most_intercepts, most_plugins, most_requests, most_taps, most_transforms}
use Rattle.ts_config.specs.Lines.{config_lines}
use Rattle.ts_config.specs.Setup.{ConfigLines, file_at, file_of, file_served, no_lines}
use Rattle.ts_config.specs.Reading.{Means, transform_in, request_in, intercept_in, plugin_in, tap_in, lines_in, with_line, has_room, place_served, file_in, files_behind, AreFew, AreFiles, AreRead, Breaks, IsFault, RefusesRightly, IsConfiguration}
use Rattle.ts_config.specs.Scanning.{BreaksUnlessMemory, refusal_at}
use Rattle.ts_config.specs.declared.read.LineRefusal.{LineRefusal}
use Rattle.ts_config.specs.declared.read.LineRefusal.TheVariants as r
use Rattle.ts_config.proofs.Fresh.{each_append}
use Rattle.ts_config.proofs.Meanings.{same_lines}

-- one line more
pub lines_in-more : (es : List LineMeaning) (e : LineMeaning) → lines_in (es ++ e ∷ [])
    ≡ with_line (lines_in es) e
lines_in-more es e =
    same_lines (more transform_in) (more request_in) (more intercept_in) (more plugin_in) (more tap_in)
  where
    more : {A : Type 0} (f : LineMeaning → List A) → flat_map f (es ++ e ∷ []) ≡ flat_map f es ++ f e
    more f = flat_map-append f es (e ∷ []) ∙ ap (λ xs. flat_map f es ++ xs) (append-nil (f e))

-- and its file behind the others
pub files_more : (before es : List LineMeaning) (e : LineMeaning) → files_behind before (es ++ e ∷ [])
    ≡ files_behind before es ++ file_in (lines_in (before ++ es)) e
files_more before [] e =
    append-nil (file_in (lines_in before) e) ∙ ap (λ es. file_in (lines_in es) e) (sym (append-nil before))
files_more before (f ∷ fs) e =
    let first : List FilePlace = file_in (lines_in before) f in
    ap (λ ps. first ++ ps) (files_more (before ++ f ∷ []) fs e
    ∙ ap (λ es. files_behind (before ++ f ∷ []) fs ++ file_in (lines_in es) e)
    (append_assoc before (f ∷ []) fs))
    ∙ sym (append_assoc first (files_behind (before ++ f ∷ []) fs)
    (file_in (lines_in (before ++ f ∷ fs)) e))

-- what stands behind other elements stands at their number
got_behind : {A B : Type 0} (f : A → Option B) (xs : List A) (y : A) (ys : List A) → IsSome (f y)
    → IsSome (option_and_then f (slice_get (xs ++ y ∷ ys) (length xs)))
got_behind f [] y ys some = some
got_behind f (x ∷ xs) y ys some = got_behind f xs y ys some

found : {A : Type 0} (f : LineMeaning → List A) (file : A → Option (List ℕ)) (before : List LineMeaning)
    (e : LineMeaning) (es : List LineMeaning) (x : A) → f e ≡ x ∷ [] → IsSome (file x)
    → IsSome (option_and_then file (slice_get (flat_map f (before ++ e ∷ es)) (length (flat_map f before))))
found f file before e es x one some =
    let parts : flat_map f (before ++ e ∷ es) ≡ flat_map f before ++ (x ∷ flat_map f es) =
    flat_map-append f before (e ∷ es) ∙ ap (λ xs. flat_map f before ++ (xs ++ flat_map f es)) one in
    subst (λ xs. IsSome (option_and_then file (slice_get xs (length (flat_map f before))))) (sym parts)
    (got_behind file (flat_map f before) x (flat_map f es) some)

-- each of the places is that of a line with a file
placed : (before : List LineMeaning) (e : LineMeaning) (es : List LineMeaning)
    → AllByRecursion (λ place. IsSome (file_at (lines_in (before ++ e ∷ es)) place))
    (file_in (lines_in before) e)
placed before (Transform (t.Append file text)) es =
    (found transform_in file_of before (Transform (t.Append file text)) es (t.Append file text) refl refl, tt)
placed before (Request (t.Append file text)) es =
    (found request_in file_of before (Request (t.Append file text)) es (t.Append file text) refl refl, tt)
placed before (Intercept line) es = by_kind line.kind refl
  where
    by_kind : (kind : InterceptKind) → line.kind ≡ kind
        → AllByRecursion (λ place. IsSome (file_at (lines_in (before ++ Intercept line ∷ es)) place))
        (place_served (length (flat_map intercept_in before)) kind)
    by_kind (i.File file text) is =
        let some : IsSome (file_served line.kind) = subst (λ k. IsSome (file_served k)) (sym is) refl in (
          found intercept_in (λ (l : InterceptLine). file_served l.kind) before (Intercept line) es line refl
              some,
          tt,
        )
    by_kind other is = tt
placed before other es = tt

pub places_right : (before es : List LineMeaning)
    → AllByRecursion (λ place. IsSome (file_at (lines_in (before ++ es)) place)) (files_behind before es)
places_right before [] = tt
places_right before (e ∷ es) =
    each_append P (file_in (lines_in before) e) (files_behind (before ++ e ∷ []) es) (placed before e es)
    (subst (λ fs. AllByRecursion (λ place. IsSome (file_at (lines_in fs) place))
    (files_behind (before ++ e ∷ []) es)) (append_assoc before (e ∷ []) es) (places_right (before ++ e ∷ []) es))
  where
    P : FilePlace → Type 0
    P place = IsSome (file_at (lines_in (before ++ e ∷ es)) place)

-- where there is room, they are still not too many
kept_few : {A : Type 0} (xs : List A) (most : ℕ) → length xs ≤ most → length (xs ++ []) ≤ most
kept_few xs most few = omega (arith, few, length-append xs [])

more_few : {A : Type 0} (xs : List A) (x : A) (most : ℕ) → nat_lt (length xs) most ≡ true
    → length (xs ++ x ∷ []) ≤ most
more_few xs x most room =
    let below : length xs < most = grind (arith, nat_tests, room) in
    omega (arith, below, length-append xs (x ∷ []))

pub few_more : (ls : ConfigLines) (e : LineMeaning) → AreFew ls → has_room ls e ≡ true
    → AreFew (with_line ls e)
few_more ls e few room = record {
  transforms = transforms e room;
  requests = requests e room;
  intercepts = intercepts e room;
  plugins = plugins e room;
  taps = taps e room;
}
  where
    transforms : (e : LineMeaning) → has_room ls e ≡ true
        → length (ls.transforms ++ transform_in e) ≤ most_transforms
    transforms (Transform line) room = more_few ls.transforms line most_transforms room
    transforms other room = kept_few ls.transforms most_transforms few.transforms

    requests : (e : LineMeaning) → has_room ls e ≡ true → length (ls.requests ++ request_in e) ≤ most_requests
    requests (Request line) room = more_few ls.requests line most_requests room
    requests other room = kept_few ls.requests most_requests few.requests

    intercepts : (e : LineMeaning) → has_room ls e ≡ true
        → length (ls.intercepts ++ intercept_in e) ≤ most_intercepts
    intercepts (Intercept line) room = more_few ls.intercepts line most_intercepts room
    intercepts other room = kept_few ls.intercepts most_intercepts few.intercepts

    plugins : (e : LineMeaning) → has_room ls e ≡ true → length (ls.plugins ++ plugin_in e) ≤ most_plugins
    plugins (Plugin line) room = more_few ls.plugins line most_plugins room
    plugins other room = kept_few ls.plugins most_plugins few.plugins

    taps : (e : LineMeaning) → has_room ls e ≡ true → length (ls.taps ++ tap_in e) ≤ most_taps
    taps (Tap most) room = more_few ls.taps most most_taps room
    taps other room = kept_few ls.taps most_taps few.taps

-- and before a line of such there was room for it
room_within : {A : Type 0} (f : LineMeaning → List A) (es : List LineMeaning) (e : LineMeaning)
    (fs : List LineMeaning) (x : A) (most : ℕ) → f e ≡ x ∷ [] → length (flat_map f (es ++ e ∷ fs)) ≤ most
    → nat_lt (length (flat_map f es)) most ≡ true
room_within f es e fs x most one few =
    let parts : flat_map f (es ++ e ∷ fs) ≡ flat_map f es ++ (x ∷ flat_map f fs) =
    flat_map-append f es (e ∷ fs) ∙ ap (λ xs. flat_map f es ++ (xs ++ flat_map f fs)) one in
    let below : length (flat_map f es) < most =
    omega (arith, few, ap length parts, length-append (flat_map f es) (x ∷ flat_map f fs)) in
    grind (arith, nat_tests, below)

pub room_before : (es : List LineMeaning) (e : LineMeaning) (fs : List LineMeaning)
    → AreFew (lines_in (es ++ e ∷ fs)) → has_room (lines_in es) e ≡ true
room_before es Empty fs few = refl
room_before es (Transform line) fs few =
    room_within transform_in es (Transform line) fs line most_transforms refl few.transforms
room_before es (Request line) fs few =
    room_within request_in es (Request line) fs line most_requests refl few.requests
room_before es (Intercept line) fs few =
    room_within intercept_in es (Intercept line) fs line most_intercepts refl few.intercepts
room_before es (Plugin line) fs few =
    room_within plugin_in es (Plugin line) fs line most_plugins refl few.plugins
room_before es (Tap most) fs few = room_within tap_in es (Tap most) fs most most_taps refl few.taps

pub no_lines_few : AreFew no_lines
no_lines_few = record {
  transforms = omega arith;
  requests = omega arith;
  intercepts = omega arith;
  plugins = omega arith;
  taps = omega arith;
}

-- the lines before the rest are so many, and were read as these
pub record LinesRead (bytes rest : List ℕ) (number : ℕ) (lines : ConfigLines) (places : List FilePlace)
    : Type 0 where
  pub before : List (List ℕ)
  pub es : List LineMeaning
  pub text_is : config_lines bytes ≡ before ++ config_lines rest
  pub number_is : number ≡ length before
  pub fine : AreRead before es
  pub lines_are : lines ≡ lines_in es
  pub places_are : places ≡ files_behind [] es

pub each_more : (lines : List (List ℕ)) (es : List LineMeaning) (line : List ℕ) (e : LineMeaning)
    → AllZip (λ l m. Means l (Ok m)) lines es → Means line (Ok e)
    → AllZip (λ l m. Means l (Ok m)) (lines ++ line ∷ []) (es ++ e ∷ [])
each_more [] [] line e each means = (means, tt)
each_more [] (f ∷ fs) line e each means = absurd each
each_more (l ∷ ls) [] line e each means = absurd each
each_more (l ∷ ls) (f ∷ fs) line e each means = (each.0, each_more ls fs line e each.1 means)

pub none_read : (bytes : List ℕ) → LinesRead bytes bytes 0 no_lines []
none_read bytes = record {
  before = [];
  es = [];
  text_is = refl;
  number_is = refl;
  fine = record { each = tt; few = no_lines_few };
  lines_are = refl;
  places_are = refl;
}

module _ (bytes rest : List ℕ) (number : ℕ) (lines : ConfigLines) (places : List FilePlace)
    (read : LinesRead bytes rest number lines places) (line behind : List ℕ)
    (cut : config_lines rest ≡ line ∷ config_lines behind) where
  text_with : config_lines bytes ≡ read.before ++ line ∷ config_lines behind
  text_with = read.text_is ∙ ap (λ ls. read.before ++ ls) cut

  pub line_more : (e : LineMeaning) (now : ConfigLines) (places' : List FilePlace) → Means line (Ok e)
      → now ≡ with_line lines e → places' ≡ places ++ file_in lines e → AreFew now
      → LinesRead bytes behind (number + 1) now places'
  line_more e now places' means adds files few =
      let all : now ≡ lines_in (read.es ++ e ∷ []) =
      adds ∙ ap (λ (ls : ConfigLines). with_line ls e) read.lines_are
      ∙ sym (lines_in-more read.es e) in
      let all_places : places' ≡ files_behind [] (read.es ++ e ∷ []) =
      files ∙ ap (λ ls. places ++ file_in ls e) read.lines_are
      ∙ ap (λ ps. ps ++ file_in (lines_in read.es) e) read.places_are
      ∙ sym (files_more [] read.es e) in
      record {
        before = read.before ++ line ∷ [];
        es = read.es ++ e ∷ [];
        text_is = text_with ∙ sym (append_assoc read.before (line ∷ []) (config_lines behind));
        number_is = omega (arith, read.number_is, length-append read.before (line ∷ []));
        fine = record {
          each = each_more read.before read.es line e read.fine.each means;
          few = subst AreFew all few;
        };
        lines_are = all;
        places_are = all_places;
      }

  line_at_fault : (kind : ConfigKind) → Breaks lines line kind
      → IsFault (config_lines bytes) (number + 1) kind
  line_at_fault kind breaks = record {
    before = read.before;
    line = line;
    after = config_lines behind;
    es = read.es;
    lines_are = text_with;
    number = ap (λ n. n + 1) read.number_is;
    fine = read.fine;
    breaks = subst (λ ls. Breaks ls line kind) read.lines_are breaks;
  }

  pub refused_line : (refusal : LineRefusal) → BreaksUnlessMemory lines line refusal
      → RefusesRightly (config_lines bytes) (refusal_at (number + 1) refusal)
  refused_line r.NoMemory breaks = tt
  refused_line (r.Kind kind) breaks = line_at_fault kind breaks

pub all_lines : (bytes rest : List ℕ) (number : ℕ) (lines : ConfigLines) (places : List FilePlace)
    → LinesRead bytes rest number lines places → length rest ≡ 0
    → IsConfiguration bytes lines × AreFiles bytes places
all_lines bytes [] number lines places read empty =
    let fine = subst (λ ls. AreRead ls read.es) (sym (read.text_is ∙ append-nil read.before)) read.fine in (
      record { es = read.es; read = fine; lines_are = read.lines_are },
      record { es = read.es; read = fine; places_are = read.places_are },
    )
all_lines bytes (b ∷ bs) number lines places read empty = absurd (omega (arith, empty))
