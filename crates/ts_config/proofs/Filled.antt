-- A line that got the text of its file is the same but for that text.
use Rattle.std.proofs.Common.{◌≡◌, ℕ, zero, suc, List, [], ◌∷◌, map, get_or, Option, refl, ap, sym, ◌∙◌, subst}
use Rattle.std.specs.Prelude.{slice_get, slice_set}
use Rattle.std.specs.Option.{option_and_then}
use Rattle.ts_config.specs.declared.setup.FilePlace.TheVariants as p
use Rattle.ts_config.specs.declared.setup.InterceptKind.{InterceptKind}
use Rattle.ts_config.specs.declared.setup.InterceptKind.TheVariants as i
use Rattle.ts_config.specs.declared.setup.InterceptLine.{InterceptLine}
use Rattle.ts_config.specs.declared.setup.TransformLine.{TransformLine}
use Rattle.ts_config.specs.declared.setup.TransformLine.TheVariants as t
use Rattle.ts_config.specs.Reading.{IsConfiguration, ComeFromText}
use Rattle.ts_config.specs.Setup.{ConfigLines, HasSameFiles, changed_at, file_at, file_of, file_served, kind_with_text, intercept_with_text, untexted, untexted_intercept, untexted_lines, with_file, with_text}
use Rattle.ts_config.proofs.Meanings.{same_lines}

-- an element that was set is changed
pub set_changed : {A : Type 0} (f : A → A) (xs : List A) (k : ℕ) (d new : A) → new ≡ f (get_or xs k d)
    → slice_set xs k new ≡ changed_at k f xs
set_changed f [] k d new is = refl
set_changed f (x ∷ xs) zero d new is = ap (λ y. y ∷ xs) is
set_changed f (x ∷ xs) (suc k) d new is = ap (λ ys. x ∷ ys) (set_changed f xs k d new is)

-- a change that is not seen
map_changed : {A B : Type 0} (g : A → B) (f : A → A) → ((x : A) → g (f x) ≡ g x) → (k : ℕ) (xs : List A)
    → map g (changed_at k f xs) ≡ map g xs
map_changed g f same k [] = refl
map_changed g f same zero (x ∷ xs) = ap (λ y. y ∷ map g xs) (same x)
map_changed g f same (suc k) (x ∷ xs) = ap (λ ys. g x ∷ ys) (map_changed g f same k xs)

untexted_with : (text : List ℕ) (line : TransformLine) → untexted (with_text text line) ≡ untexted line
untexted_with text (t.Append file old) = refl
untexted_with text line = refl

kind_untexted_with : (text : List ℕ) (kind : InterceptKind)
    → kind_with_text [] (kind_with_text text kind) ≡ kind_with_text [] kind
kind_untexted_with text (i.File file old) = refl
kind_untexted_with text kind = refl

intercept_untexted_with : (text : List ℕ) (line : InterceptLine)
    → untexted_intercept (intercept_with_text text line) ≡ untexted_intercept line
intercept_untexted_with text line =
    let put : InterceptKind → InterceptLine = λ kind. record { site = line.site; kind = kind } in
    ap put (kind_untexted_with text line.kind)

-- but for the texts of files the lines are the same
pub filled_same : (place : p.the_data) (text : List ℕ) (ls : ConfigLines)
    → untexted_lines (with_file place text ls) ≡ untexted_lines ls
filled_same (p.Transform k) text ls =
    same_lines (map_changed untexted (with_text text) (untexted_with text) k ls.transforms) refl refl refl refl
filled_same (p.Request k) text ls =
    same_lines refl (map_changed untexted (with_text text) (untexted_with text) k ls.requests) refl refl refl
filled_same (p.Intercept k) text ls =
    same_lines refl refl (map_changed untexted_intercept (intercept_with_text text)
    (intercept_untexted_with text) k ls.intercepts) refl refl

-- lines that are the same but for the texts of files come from the same text
pub same_come : (old new : ConfigLines) → untexted_lines new ≡ untexted_lines old → ComeFromText old
    → ComeFromText new
same_come old new same from =
    record { bytes = from.bytes; read = subst (IsConfiguration from.bytes) (sym same) from.read }

-- and each has the file that it had
file_untexted : (line : TransformLine) → file_of (untexted line) ≡ file_of line
file_untexted (t.Append file text) = refl
file_untexted line = refl

served_untexted : (kind : InterceptKind) → file_served (kind_with_text [] kind) ≡ file_served kind
served_untexted (i.File file text) = refl
served_untexted kind = refl

got_mapped : {A B : Type 0} (g : A → A) (f : A → Option B) → ((x : A) → f (g x) ≡ f x) → (xs : List A) (k : ℕ)
    → option_and_then f (slice_get (map g xs) k) ≡ option_and_then f (slice_get xs k)
got_mapped g f same [] k = refl
got_mapped g f same (x ∷ xs) zero = same x
got_mapped g f same (x ∷ xs) (suc k) = got_mapped g f same xs k

place_untexted : (ls : ConfigLines) (place : p.the_data) → file_at (untexted_lines ls) place ≡ file_at ls place
place_untexted ls (p.Transform k) = got_mapped untexted file_of file_untexted ls.transforms k
place_untexted ls (p.Request k) = got_mapped untexted file_of file_untexted ls.requests k
place_untexted ls (p.Intercept k) =
    got_mapped untexted_intercept (λ (line : InterceptLine). file_served line.kind)
    (λ line. served_untexted line.kind) ls.intercepts k

pub same_files : (old new : ConfigLines) → untexted_lines new ≡ untexted_lines old → HasSameFiles old new
same_files old new same place =
    sym (place_untexted new place) ∙ ap (λ ls. file_at ls place) same ∙ place_untexted old place
