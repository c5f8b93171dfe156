-- How a configuration is printed.
use Rattle.std.specs.Prelude.{ℕ, Bool, true, List, [], ◌∷◌, ◌++◌, flat_map, codes, if◌then◌else◌}
use Rattle.std.specs.Fmt.{decimal}
use Rattle.std.specs.List.{list_any}
use Rattle.ts_config.specs.declared.fields.PluginLine.{PluginLine}
use Rattle.ts_config.specs.declared.fields.PluginLine.TheVariants.{Deny, Header, SessionHeader}
use Rattle.ts_config.specs.declared.setup.InterceptKind.{InterceptKind}
use Rattle.ts_config.specs.declared.setup.InterceptKind.TheVariants as i
use Rattle.ts_config.specs.declared.setup.InterceptLine.{InterceptLine}
use Rattle.ts_config.specs.declared.setup.TransformLine.{TransformLine}
use Rattle.ts_config.specs.declared.setup.TransformLine.TheVariants as t
use Rattle.ts_config.specs.declared.table.PluginName.{PluginName}
use Rattle.ts_config.specs.declared.table.PluginName.TheVariants as n
use Rattle.ts_link.specs.Texts.{line_feed}
use Rattle.ts_config.specs.Bytes.{quote_mark, space}
use Rattle.ts_config.specs.Words.{is_end}
use Rattle.ts_config.specs.Numerals.{byte_word}
use Rattle.ts_config.specs.Rules.{plugin_words}
use Rattle.ts_config.specs.Setup.{ConfigLines}
use Rattle.ts_config.specs.Table.{spelling}

-- a word that stands between quotes: an empty one, and one with a blank or a `#`
abbrev pub needs_quotes : List ℕ → Bool
needs_quotes [] = true
needs_quotes (b ∷ bs) = list_any is_end (b ∷ bs)

-- a word as it is printed
abbrev pub spelled : List ℕ → List ℕ
spelled w = if needs_quotes w then quote_mark ∷ w ++ quote_mark ∷ [] else w

-- the name that a line begins with
abbrev pub line_name : TransformLine → PluginName
line_name t.Null = n.Null
line_name (t.Append file text) = n.Append
line_name t.Bnull = n.Bnull
line_name (t.Prepend text) = n.Prepend
line_name (t.Map from to) = n.Map
line_name (t.Drop byte) = n.Drop
line_name (t.Delay ms) = n.Delay
line_name (t.Limit most) = n.Limit

-- and that of a hook plugin
abbrev pub plugin_name : PluginLine → PluginName
plugin_name (Deny sites) = n.Deny
plugin_name (Header side rule) = n.Header
plugin_name (SessionHeader side rule) = n.SessionHeader

-- the words behind the name
abbrev pub line_arguments : TransformLine → List (List ℕ)
line_arguments t.Null = []
line_arguments (t.Append file text) = file ∷ []
line_arguments t.Bnull = []
line_arguments (t.Prepend text) = text ∷ []
line_arguments (t.Map from to) = byte_word from ∷ byte_word to ∷ []
line_arguments (t.Drop byte) = byte_word byte ∷ []
line_arguments (t.Delay ms) = decimal ms ∷ []
line_arguments (t.Limit most) = decimal most ∷ []

-- the words, each behind one space
abbrev pub spelled_words : List (List ℕ) → List ℕ
spelled_words words = flat_map (λ w. space ∷ spelled w) words

-- a name and the words behind it, as a line with its line feed
abbrev pub named_line : PluginName → List (List ℕ) → List ℕ
named_line name words = spelling name ++ spelled_words words ++ line_feed ∷ []

-- a transform line
abbrev pub printed_line : TransformLine → List ℕ
printed_line line = named_line (line_name line) (line_arguments line)

-- and the line of a hook plugin
abbrev pub printed_plugin : PluginLine → List ℕ
printed_plugin line = named_line (plugin_name line) (plugin_words line)

-- the words behind the name of a request line: those of its transform line
abbrev pub request_words : TransformLine → List (List ℕ)
request_words line = spelling (line_name line) ∷ line_arguments line

-- a request line
abbrev pub printed_request : TransformLine → List ℕ
printed_request line = named_line n.Request (request_words line)

-- the words for what an intercept serves
abbrev pub kind_words : InterceptKind → List (List ℕ)
kind_words i.Echo = codes "echo" ∷ []
kind_words (i.Fill n) = codes "fill" ∷ decimal n ∷ []
kind_words (i.File file text) = codes "file" ∷ file ∷ []

-- an intercept line
abbrev pub printed_intercept : InterceptLine → List ℕ
printed_intercept line = named_line n.Intercept (line.site ∷ kind_words line.kind)

-- a tap line
abbrev pub printed_tap : ℕ → List ℕ
printed_tap most = named_line n.Tap (decimal most ∷ [])

-- the lines, kind by kind: transforms, requests, intercepts, hook plugins, and the tap last
abbrev pub printed : ConfigLines → List ℕ
printed lines =
    (((flat_map printed_line lines.transforms ++ flat_map printed_request lines.requests)
    ++ flat_map printed_intercept lines.intercepts) ++ flat_map printed_plugin lines.plugins)
    ++ flat_map printed_tap lines.taps
