-- The lines of a configuration, filled one by one.
use Rattle.std.proofs.Common.{◌≡◌, ◌+◌, ◌≤◌, drop, get_or, ℕ, List, [], ◌∷◌, Option, Some, None, Result, Ok, Err, true, false}
use Rattle.std.proofs.Common.{sym, ap, ◌∙◌, length, subst, arith}
use Rattle.std.proofs.lemmas.List.{drop_more, length-map}
use Rattle.std.specs.Prelude.{IfErr, IfSome, IsSome, IsSomeAnd}
use Rattle.std.specs.Str.{IsUtf8}
use Rattle.ts_config.specs.Reading.{AreFew}
use Rattle.ts_config.specs.Setup.{ConfigLines, HasSameFiles, untexted, untexted_intercept, untexted_lines}
use Rattle.ts_config.specs.Value.{Good, config_of}
use Rattle.ts_config.specs.declared.setup.FilePlace.{FilePlace}
use Rattle.ts_link.specs.Seen.{ShelfSeen}
use Rattle.ts_proxy.specs.declared.answer.Answer.{Answer}
use Rattle.ts_proxy.specs.declared.answer.Answer.TheVariants as a
use Rattle.ts_proxy.specs.declared.answer.NamedFile.{NamedFile}
use Rattle.ts_proxy.specs.declared.answer.NamedFile.TheVariants as file
use Rattle.ts_proxy.specs.Outcome.{Outcome, Text, place_filled, lines_filled, most_config}
use Rattle.ts_proxy.specs.Answers.{HasOutput, IsNamedAt, IsOfConfig, IsReadBy, OnCannotRead}
use Rattle.ts_proxy.specs.Answers.{ReachesFile, ReachesIn}

-- the lines at all places but those that are left were filled, so the work comes to what it comes to on these
pub record FillsBut (files : List ℕ → Option (List ℕ)) (all : List FilePlace) (lines : ConfigLines)
    (left : List FilePlace) (now : ConfigLines) : Type 0 where
  pub goes : (next : ConfigLines → Outcome)
      → lines_filled files all lines next ≡ lines_filled files left now next
  pub comes : (f : NamedFile) → ReachesFile files left now f → ReachesFile files all lines f

-- the work comes to the file of the first line
comes-first : (files : List ℕ → Option (List ℕ)) (left left' : List FilePlace) (place : FilePlace)
    (now : ConfigLines) (f : NamedFile) → left ≡ place ∷ left' → IsNamedAt now place f
    → ReachesFile files left now f
comes-first files left left' place now f is names = record {
  before = [];
  place = place;
  after = left';
  stands = is;
  names = names;
  read = tt;
}

named-before : (now now' : ConfigLines) (place : FilePlace) (f : NamedFile) → HasSameFiles now now'
    → IsNamedAt now' place f → IsNamedAt now place f
named-before now now' place file.Config same names = names
named-before now now' place file.Input same names = names
named-before now now' place (file.Appended name) same names = sym (same place) ∙ names

-- if the first line was filled, the work comes to what it comes to on the others
comes-behind : (files : List ℕ → Option (List ℕ)) (left left' : List FilePlace) (place : FilePlace)
    (now now' : ConfigLines) (f : NamedFile) → left ≡ place ∷ left'
    → ((next : ConfigLines → Outcome) → place_filled files place now next ≡ next now') → HasSameFiles now now'
    → ReachesFile files left' now' f → ReachesFile files left now f
comes-behind files left left' place now now' f is fills same comes = record {
  before = place ∷ comes.before;
  place = comes.place;
  after = comes.after;
  stands = is ∙ ap (λ ps. place ∷ ps) comes.stands;
  names = named-before now now' comes.place f same comes.names;
  read = subst HasOutput (sym (fills (λ ls. lines_filled files comes.before ls (λ xs. Text [])))) comes.read;
}

-- one line more was filled
pub fills-more : (files : List ℕ → Option (List ℕ)) (all : List FilePlace) (lines : ConfigLines)
    (left left' : List FilePlace) (place : FilePlace) (now now' : ConfigLines)
    → FillsBut files all lines left now → left ≡ place ∷ left'
    → ((next : ConfigLines → Outcome) → place_filled files place now next ≡ next now') → HasSameFiles now now'
    → FillsBut files all lines left' now'
fills-more files all lines left left' place now now' before is fills same = record {
  goes = λ next.
      before.goes next ∙ ap (λ ps. lines_filled files ps now next) is
      ∙ fills (λ ls. lines_filled files left' ls next);
  comes = λ f come. before.comes f (comes-behind files left left' place now now' f is fills same come);
}

-- the work comes to the file of the line that could not be filled
pub stopped-comes : (files : List ℕ → Option (List ℕ)) (all : List FilePlace) (lines : ConfigLines)
    (left left' : List FilePlace) (place : FilePlace) (now : ConfigLines) (answer : Answer)
    → FillsBut files all lines left now → left ≡ place ∷ left' → OnCannotRead answer (IsNamedAt now place)
    → OnCannotRead answer (ReachesFile files all lines)
stopped-comes files all lines left left' place now a.Done before is names = tt
stopped-comes files all lines left left' place now a.Usage before is names = tt
stopped-comes files all lines left left' place now (a.BadLine b) before is names = tt
stopped-comes files all lines left left' place now (a.BadRecording offset) before is names = tt
stopped-comes files all lines left left' place now (a.CannotRead f) before is names =
    before.comes f (comes-first files left left' place now f is names)
stopped-comes files all lines left left' place now a.CannotWrite before is names = tt
stopped-comes files all lines left left' place now a.OutOfMemory before is names = tt
stopped-comes files all lines left left' place now (a.TooLong f) before is names = tt
stopped-comes files all lines left left' place now a.Network before is names = tt

-- it is a file of the configuration
names-config : (lines : ConfigLines) (place : FilePlace) (f : NamedFile) → IsNamedAt lines place f
    → IsOfConfig f
names-config lines place file.Config names = absurd names
names-config lines place file.Input names = absurd names
names-config lines place (file.Appended name) names = tt

pub named-in-config : (lines : ConfigLines) (place : FilePlace) (answer : Answer)
    → OnCannotRead answer (IsNamedAt lines place) → OnCannotRead answer IsOfConfig
named-in-config lines place a.Done names = tt
named-in-config lines place a.Usage names = tt
named-in-config lines place (a.BadLine b) names = tt
named-in-config lines place (a.BadRecording offset) names = tt
named-in-config lines place (a.CannotRead f) names = names-config lines place f names
named-in-config lines place a.CannotWrite names = tt
named-in-config lines place a.OutOfMemory names = tt
named-in-config lines place (a.TooLong f) names = tt
named-in-config lines place a.Network names = tt

-- the places from the k-th on begin with it
pub cut-at : (all held : List FilePlace) (k : ℕ) (place : FilePlace) → held ≡ all → k + 1 ≤ length all
    → place ≡ get_or held k place → drop k all ≡ place ∷ drop (k + 1) all
cut-at all held k place kept below read =
    drop_more all k place (omega (arith, below))
    ∙ ap (λ p. p ∷ drop (k + 1) all) (ap (λ ps. get_or ps k place) (sym kept) ∙ sym read)

-- the configuration was read, and the work on its lines comes to a file
reaches-read : (shelf : ShelfSeen) (files : List ℕ → Option (List ℕ)) (config bytes : List ℕ)
    (lines : ConfigLines) (places : List FilePlace) (f : NamedFile) → shelf.file config ≡ Some bytes
    → length bytes ≤ most_config → config_of bytes ≡ Good lines places → files ≡ shelf.file
    → ReachesFile files places lines f → IsReadBy shelf config f
reaches-read shelf files config bytes lines places file.Config there within reads same comes = tt
reaches-read shelf files config bytes lines places file.Input there within reads same comes =
    absurd comes.names
reaches-read shelf files config bytes lines places (file.Appended name) there within reads same comes =
    let f : NamedFile = file.Appended name in
    let reached : ReachesIn shelf.file bytes f = record {
      lines = lines;
      places = places;
      reading = reads;
      reaches = subst (λ fs. ReachesFile fs places lines f) same comes;
    } in
    subst (λ o. IsSomeAnd o (λ bs. (length bs ≤ most_config) × ReachesIn shelf.file bs f)) (sym there)
    (within, reached)

-- so the file of a failed read is one that is read
pub comes-read : {X : Type 0} (shelf : ShelfSeen) (files : List ℕ → Option (List ℕ)) (config bytes : List ℕ)
    (lines : ConfigLines) (places : List FilePlace) (result : Result X Answer)
    → shelf.file config ≡ Some bytes → length bytes ≤ most_config → config_of bytes ≡ Good lines places
    → files ≡ shelf.file
    → IfErr result (λ answer. OnCannotRead answer (ReachesFile files places lines))
    → IfErr result (λ answer. OnCannotRead answer (IsReadBy shelf config))
comes-read shelf files config bytes lines places (Ok x) there within reads same named = tt
comes-read shelf files config bytes lines places (Err (a.CannotRead f)) there within reads same named =
    reaches-read shelf files config bytes lines places f there within reads same named
comes-read shelf files config bytes lines places (Err a.Done) there within reads same named = tt
comes-read shelf files config bytes lines places (Err a.Usage) there within reads same named = tt
comes-read shelf files config bytes lines places (Err (a.BadLine b)) there within reads same named = tt
comes-read shelf files config bytes lines places (Err (a.BadRecording o)) there within reads same named =
    tt
comes-read shelf files config bytes lines places (Err a.CannotWrite) there within reads same named = tt
comes-read shelf files config bytes lines places (Err a.OutOfMemory) there within reads same named = tt
comes-read shelf files config bytes lines places (Err (a.TooLong f)) there within reads same named = tt
comes-read shelf files config bytes lines places (Err a.Network) there within reads same named = tt

-- a line with a file has one whose name is text
pub named-file : (o : Option (List ℕ)) → IsSome o → IfSome o IsUtf8 → IsSomeAnd o IsUtf8
named-file None some named = absurd (let wrong : false ≡ true = some in cc)
named-file (Some name) some named = named

-- lines that are the same but for the texts of their files are as few
pub few-same : (old new : ConfigLines) → untexted_lines new ≡ untexted_lines old → AreFew old → AreFew new
few-same old new same few = counted new (subst AreFew (sym same) (uncounted old few))
  where
    uncounted : (ls : ConfigLines) → AreFew ls → AreFew (untexted_lines ls)
    uncounted ls few = record {
      transforms = omega (arith, few.transforms, length-map ls.transforms untexted);
      requests = omega (arith, few.requests, length-map ls.requests untexted);
      intercepts = omega (arith, few.intercepts, length-map ls.intercepts untexted_intercept);
      plugins = few.plugins;
      taps = few.taps;
    }

    counted : (ls : ConfigLines) → AreFew (untexted_lines ls) → AreFew ls
    counted ls few = record {
      transforms = omega (arith, few.transforms, length-map ls.transforms untexted);
      requests = omega (arith, few.requests, length-map ls.requests untexted);
      intercepts = omega (arith, few.intercepts, length-map ls.intercepts untexted_intercept);
      plugins = few.plugins;
      taps = few.taps;
    }
