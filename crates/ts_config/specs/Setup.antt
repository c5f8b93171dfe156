-- The lines of a configuration as values.
use Rattle.std.specs.Prelude.{◌≡◌, ℕ, zero, suc, Bool, true, false, not, List, [], ◌∷◌, ◌++◌, map, filter, Option, Some, None, slice_get, All, IfSome, IsSome, option_to_list, if◌then◌else◌, ⊤}
use Rattle.std.specs.Option.{option_and_then}
use Rattle.std.specs.Str.{IsUtf8}
use Rattle.ts_config.specs.declared.fields.PluginLine.{PluginLine}
use Rattle.ts_config.specs.declared.fields.PluginLine.TheVariants.{SessionHeader}
use Rattle.ts_config.specs.declared.setup.FilePlace.{FilePlace}
use Rattle.ts_config.specs.declared.setup.FilePlace.TheVariants as p
use Rattle.ts_config.specs.declared.setup.InterceptKind.{InterceptKind}
use Rattle.ts_config.specs.declared.setup.InterceptKind.TheVariants as i
use Rattle.ts_config.specs.declared.setup.InterceptLine.{InterceptLine}
use Rattle.ts_config.specs.declared.setup.Setup.{Setup}
use Rattle.ts_config.specs.declared.setup.TransformLine.{TransformLine}
use Rattle.ts_config.specs.declared.setup.TransformLine.TheVariants as t

-- the lines of a configuration, each kind in the order of the text: those of transforms of the response and
-- of the request's body, those of intercepts, those of hook plugins, and the numbers of its tap lines
pub record ConfigLines : Type 0 where
  pub transforms : List TransformLine
  pub requests : List TransformLine
  pub intercepts : List InterceptLine
  pub plugins : List PluginLine
  pub taps : List ℕ

-- no lines
abbrev pub no_lines : ConfigLines
no_lines = record { transforms = []; requests = []; intercepts = []; plugins = []; taps = [] }

-- transform lines alone
abbrev pub transforms_alone : List TransformLine → ConfigLines
transforms_alone ts = record no_lines { transforms = ts }

-- the lines of a setup
abbrev pub lines_of : Setup → ConfigLines
lines_of s = record {
  transforms = s.transforms.items;
  requests = s.requests.items;
  intercepts = s.intercepts.items;
  plugins = s.plugins.items;
  taps = option_to_list s.tap;
}

-- ---- the texts of files

-- the line, and if it is an append, with this text of its file
abbrev pub with_text : List ℕ → TransformLine → TransformLine
with_text new (t.Append file text) = t.Append file new
with_text new line = line

-- what an intercept serves, and if it is a file, with this text
abbrev pub kind_with_text : List ℕ → InterceptKind → InterceptKind
kind_with_text new (i.File file text) = i.File file new
kind_with_text new kind = kind

abbrev pub intercept_with_text : List ℕ → InterceptLine → InterceptLine
intercept_with_text new line = record { site = line.site; kind = kind_with_text new line.kind }

-- the line with the text of its file left aside
abbrev pub untexted : TransformLine → TransformLine
untexted line = with_text [] line

abbrev pub untexted_intercept : InterceptLine → InterceptLine
untexted_intercept line = intercept_with_text [] line

-- the lines with the texts of files left aside
abbrev pub untexted_lines : ConfigLines → ConfigLines
untexted_lines ls = record {
  transforms = map untexted ls.transforms;
  requests = map untexted ls.requests;
  intercepts = map untexted_intercept ls.intercepts;
  plugins = ls.plugins;
  taps = ls.taps;
}

-- the name of the file of a line that has one
abbrev pub file_of : TransformLine → Option (List ℕ)
file_of (t.Append file text) = Some file
file_of line = None

abbrev pub file_served : InterceptKind → Option (List ℕ)
file_served (i.File file text) = Some file
file_served kind = None

-- the line is an append
abbrev pub IsAppend : TransformLine → Type 0
IsAppend (t.Append file text) = ⊤
IsAppend _ = ⊥

-- the intercept serves a file
abbrev pub ServesFile : InterceptLine → Type 0
ServesFile line = IsSome (file_served line.kind)

-- the name of the file of the line at this place, if it has one
abbrev pub file_at : ConfigLines → FilePlace → Option (List ℕ)
file_at ls (p.Transform k) = option_and_then file_of (slice_get ls.transforms k)
file_at ls (p.Request k) = option_and_then file_of (slice_get ls.requests k)
file_at ls (p.Intercept k) = option_and_then (λ line. file_served line.kind) (slice_get ls.intercepts k)

-- the name of each file is text, and each place in the list of files is that of a line with a file
pub record HasNamedFiles (s : Setup) : Type 0 where
  pub names : (place : FilePlace) → IfSome (file_at (lines_of s) place) IsUtf8
  pub places : All (λ place. IsSome (file_at (lines_of s) place)) s.files.items

-- the list with this change to the element at place k, counted from 0
abbrev pub changed_at : {A : Type 0} → ℕ → (A → A) → List A → List A
changed_at k f [] = []
changed_at zero f (x ∷ xs) = f x ∷ xs
changed_at (suc k) f (x ∷ xs) = x ∷ changed_at k f xs

-- the lines, in which the one at this place has this text of its file
abbrev pub with_file : FilePlace → List ℕ → ConfigLines → ConfigLines
with_file (p.Transform k) text ls = record ls { transforms = changed_at k (with_text text) ls.transforms }
with_file (p.Request k) text ls = record ls { requests = changed_at k (with_text text) ls.requests }
with_file (p.Intercept k) text ls =
    record ls { intercepts = changed_at k (intercept_with_text text) ls.intercepts }

-- each line has the file that it had
abbrev pub HasSameFiles : ConfigLines → ConfigLines → Type 0
HasSameFiles old new = (place : FilePlace) → file_at new place ≡ file_at old place

-- ---- the order in which hook plugins act

-- the line stands in the hook lists of a session
abbrev pub is_session : PluginLine → Bool
is_session (SessionHeader side rule) = true
is_session line = false

-- THE LINES THAT ACT, in the order in which they act: the global ones in their order, and then those of the
-- session in theirs, if there are sessions (the Developer's Guide, "Hooks": global, session, transaction)
abbrev pub acting_plugins : Bool → List PluginLine → List PluginLine
acting_plugins sessions lines =
    filter (λ l. not (is_session l)) lines ++ (if sessions then filter is_session lines else [])

-- the lines, with those of hook plugins in the order in which they act
abbrev pub in_order : Bool → ConfigLines → ConfigLines
in_order sessions ls = record ls { plugins = acting_plugins sessions ls.plugins }
