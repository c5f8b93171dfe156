-- The grammar of a configuration: what each line means by itself, and what they mean together. (plugin.config
-- and its lines are the Developer's Guide's; the names, words and limits are this project's own.)
use Rattle.std.specs.Prelude.{◌≡◌, ℕ, ◌==◌, ◌+◌, ◌≤◌, ◌⊎◌, ◌&&◌, ◌||◌, not, Bool, true, false, nat_le, nat_lt, List, [], ◌∷◌, ◌++◌, length, flat_map, Result, Ok, Err, MatchBool, ⊤}
use Rattle.std.specs.List.{list_all, AllZip}
use Rattle.std.specs.Str.{is_utf8}
use Rattle.ts_config.specs.declared.fields.PluginLine.{PluginLine}
use Rattle.ts_config.specs.declared.setup.FilePlace.{FilePlace}
use Rattle.ts_config.specs.declared.setup.FilePlace.TheVariants as p
use Rattle.ts_config.specs.declared.setup.InterceptKind.{InterceptKind}
use Rattle.ts_config.specs.declared.setup.InterceptKind.TheVariants as i
use Rattle.ts_config.specs.declared.setup.InterceptLine.{InterceptLine}
use Rattle.ts_config.specs.declared.setup.TransformLine.{TransformLine}
use Rattle.ts_config.specs.declared.setup.TransformLine.TheVariants as t
use Rattle.ts_config.specs.declared.setup.ConfigKind.{ConfigKind}
use Rattle.ts_config.specs.declared.setup.ConfigKind.TheVariants as k
use Rattle.ts_config.specs.declared.setup.LineMeaning.{LineMeaning}
use Rattle.ts_config.specs.declared.setup.LineMeaning.TheVariants.{Empty, Transform, Request, Intercept, Plugin, Tap}
use Rattle.ts_config.specs.declared.setup.ConfigRefusal.{ConfigRefusal}
use Rattle.ts_config.specs.declared.setup.ConfigRefusal.TheVariants as c
use Rattle.ts_config.specs.Bytes.{delete, most_intercepts, most_plugins, most_requests, most_taps, most_transforms, space, tab}
use Rattle.ts_config.specs.Lines.{config_lines}
use Rattle.ts_config.specs.Setup.{ConfigLines, untexted_lines}
use Rattle.ts_config.specs.Words.{IsWords}
use Rattle.ts_config.specs.Table.{line_entry}

-- a tab, or neither below a space nor the byte 127
abbrev pub is_text_byte : ℕ → Bool
is_text_byte b = b == tab || (nat_le space b && not (b == delete))

-- a line is UTF-8, of such bytes
abbrev pub is_text : List ℕ → Bool
is_text line = is_utf8 line && list_all is_text_byte line

-- what a line of text means by its words; where it has none because a quote does not fit, it breaks that rule
abbrev pub MeansByWords : List ℕ → Result LineMeaning ConfigKind → Type 0
MeansByWords line meaning =
    ((words : List (List ℕ)) × IsWords line words × (meaning ≡ line_entry words))
    ⊎ (((words : List (List ℕ)) → ¬ IsWords line words) × (meaning ≡ Err k.Quote))

-- what a line means by itself, or the first rule that it breaks
abbrev pub Means : List ℕ → Result LineMeaning ConfigKind → Type 0
Means line meaning = MatchBool (is_text line) (MeansByWords line meaning) (meaning ≡ Err k.Text)

-- the transform that a line asks for, if it does
abbrev pub transform_in : LineMeaning → List TransformLine
transform_in (Transform line) = line ∷ []
transform_in other = []

-- the transform of request bodies
abbrev pub request_in : LineMeaning → List TransformLine
request_in (Request line) = line ∷ []
request_in other = []

-- the intercept
abbrev pub intercept_in : LineMeaning → List InterceptLine
intercept_in (Intercept line) = line ∷ []
intercept_in other = []

-- the hook plugin
abbrev pub plugin_in : LineMeaning → List PluginLine
plugin_in (Plugin line) = line ∷ []
plugin_in other = []

-- the number of a tap
abbrev pub tap_in : LineMeaning → List ℕ
tap_in (Tap most) = most ∷ []
tap_in other = []

-- those of all lines, in their order
abbrev pub lines_in : List LineMeaning → ConfigLines
lines_in es = record {
  transforms = flat_map transform_in es;
  requests = flat_map request_in es;
  intercepts = flat_map intercept_in es;
  plugins = flat_map plugin_in es;
  taps = flat_map tap_in es;
}

-- the lines, and behind them one of this meaning
abbrev pub with_line : ConfigLines → LineMeaning → ConfigLines
with_line ls e = record {
  transforms = ls.transforms ++ transform_in e;
  requests = ls.requests ++ request_in e;
  intercepts = ls.intercepts ++ intercept_in e;
  plugins = ls.plugins ++ plugin_in e;
  taps = ls.taps ++ tap_in e;
}

-- there are not too many of any kind
pub record AreFew (ls : ConfigLines) : Type 0 where
  pub transforms : length ls.transforms ≤ most_transforms
  pub requests : length ls.requests ≤ most_requests
  pub intercepts : length ls.intercepts ≤ most_intercepts
  pub plugins : length ls.plugins ≤ most_plugins
  pub taps : length ls.taps ≤ most_taps

-- there may be one more line of this meaning
abbrev pub has_room : ConfigLines → LineMeaning → Bool
has_room ls (Transform line) = nat_lt (length ls.transforms) most_transforms
has_room ls (Request line) = nat_lt (length ls.requests) most_requests
has_room ls (Intercept line) = nat_lt (length ls.intercepts) most_intercepts
has_room ls (Plugin line) = nat_lt (length ls.plugins) most_plugins
has_room ls (Tap most) = nat_lt (length ls.taps) most_taps
has_room ls Empty = true

-- the place k, where an intercept serves a file
abbrev pub place_served : ℕ → InterceptKind → List FilePlace
place_served k (i.File file text) = p.Intercept k ∷ []
place_served k other = []

-- the place that a line with a file has behind these lines
abbrev pub file_in : ConfigLines → LineMeaning → List FilePlace
file_in ls (Transform (t.Append file text)) = p.Transform (length ls.transforms) ∷ []
file_in ls (Request (t.Append file text)) = p.Request (length ls.requests) ∷ []
file_in ls (Intercept line) = place_served (length ls.intercepts) line.kind
file_in ls other = []

-- the places of the lines with a file, in the order of the text: those of `es`, behind the lines `before`
abbrev pub files_behind : List LineMeaning → List LineMeaning → List FilePlace
files_behind before [] = []
files_behind before (e ∷ es) = file_in (lines_in before) e ++ files_behind (before ++ e ∷ []) es

-- each line is in the grammar, the lines mean these, and there are not too many
pub record AreRead (lines : List (List ℕ)) (es : List LineMeaning) : Type 0 where
  pub each : AllZip (λ line e. Means line (Ok e)) lines es
  pub few : AreFew (lines_in es)

-- behind these lines the line breaks a rule of its own, or is one too many
abbrev pub Breaks : ConfigLines → List ℕ → ConfigKind → Type 0
Breaks so_far line kind =
    Means line (Err kind)
    ⊎ ((e : LineMeaning) × Means line (Ok e) × (has_room so_far e ≡ false) × (kind ≡ k.TooMany))

-- the n-th line, counted from 1, is the first that is not in the grammar, and this is the rule that it breaks
pub record IsFault (lines : List (List ℕ)) (n : ℕ) (kind : ConfigKind) : Type 0 where
  pub before : List (List ℕ)
  pub line : List ℕ
  pub after : List (List ℕ)
  pub es : List LineMeaning
  pub lines_are : lines ≡ before ++ line ∷ after
  pub number : n ≡ length before + 1
  pub fine : AreRead before es
  pub breaks : Breaks (lines_in es) line kind

-- want of memory says nothing of the lines
abbrev pub RefusesRightly : List (List ℕ) → ConfigRefusal → Type 0
RefusesRightly lines c.NoMemory = ⊤
RefusesRightly lines (c.Fault f) = IsFault lines f.line f.kind

-- the bytes are a configuration, and these are its lines
pub record IsConfiguration (bytes : List ℕ) (lines : ConfigLines) : Type 0 where
  pub es : List LineMeaning
  pub read : AreRead (config_lines bytes) es
  pub lines_are : lines ≡ lines_in es

-- these are the places of the lines with a file, in the order of the text
pub record AreFiles (bytes : List ℕ) (places : List FilePlace) : Type 0 where
  pub es : List LineMeaning
  pub read : AreRead (config_lines bytes) es
  pub places_are : places ≡ files_behind [] es

-- the lines are those of some configuration, but for the texts of files
pub record ComeFromText (lines : ConfigLines) : Type 0 where
  pub bytes : List ℕ
  pub read : IsConfiguration bytes (untexted_lines lines)
