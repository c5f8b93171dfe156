-- The table of plugins: the name that a line begins with, and the words that follow it.
use Rattle.std.specs.Prelude.{ℕ, nat_le, nat_lt, List, [], ◌∷◌, length, codes, find, Option, Some, None, Result, Ok, Err, if◌then◌else◌}
use Rattle.std.specs.Option.{option_map, option_and_then}
use Rattle.std.specs.Str.{bytes_eq}
use Rattle.ts_config.specs.declared.fields.PluginLine.{PluginLine}
use Rattle.ts_config.specs.declared.setup.InterceptKind.{InterceptKind}
use Rattle.ts_config.specs.declared.setup.InterceptKind.TheVariants as i
use Rattle.ts_config.specs.declared.setup.InterceptLine.{InterceptLine}
use Rattle.ts_config.specs.declared.setup.TransformLine.{TransformLine}
use Rattle.ts_config.specs.declared.setup.TransformLine.TheVariants as t
use Rattle.ts_config.specs.declared.setup.ConfigKind.{ConfigKind}
use Rattle.ts_config.specs.declared.setup.ConfigKind.TheVariants as k
use Rattle.ts_config.specs.declared.setup.LineMeaning.{LineMeaning}
use Rattle.ts_config.specs.declared.setup.LineMeaning.TheVariants.{Empty, Transform, Request, Intercept, Plugin, Tap}
use Rattle.ts_config.specs.declared.table.PluginName.{PluginName}
use Rattle.ts_config.specs.declared.table.PluginName.TheVariants as n
use Rattle.ts_config.specs.Bytes.{most_delay, most_fill, most_limit, most_tap, most_text}
use Rattle.ts_config.specs.Numerals.{byte_of, number_of}
use Rattle.ts_config.specs.Rules.{deny_of, header_of, is_site, session_of}

-- the word that a line of a plugin begins with
abbrev pub spelling : PluginName → List ℕ
spelling n.Null = codes "null_transform.so"
spelling n.Append = codes "append_transform.so"
spelling n.Bnull = codes "bnull_transform.so"
spelling n.Prepend = codes "prepend.so"
spelling n.Map = codes "map.so"
spelling n.Drop = codes "drop.so"
spelling n.Delay = codes "delay.so"
spelling n.Limit = codes "limit.so"
spelling n.Request = codes "request.so"
spelling n.Intercept = codes "intercept.so"
spelling n.Tap = codes "tap.so"
spelling n.Deny = codes "denylist.so"
spelling n.Header = codes "header.so"
spelling n.SessionHeader = codes "session.so"

-- all plugins: those of transform lines, those of other lines that are no hook plugin's, and those that are
-- called at hooks
abbrev pub all_names : List PluginName
all_names =
    n.Null ∷ n.Append ∷ n.Bnull ∷ n.Prepend ∷ n.Map ∷ n.Drop ∷ n.Delay ∷ n.Limit ∷ n.Request ∷ n.Intercept
    ∷ n.Tap ∷ n.Deny ∷ n.Header ∷ n.SessionHeader ∷ []

-- the plugin that a word names
abbrev pub name_of : List ℕ → Option PluginName
name_of word = find (λ n. bytes_eq (spelling n) word) all_names

-- the transform that a name and the words after it ask for, if they fit
abbrev pub transform_of : PluginName → List (List ℕ) → Option TransformLine
transform_of n.Null [] = Some t.Null
transform_of n.Append ((b ∷ bs) ∷ []) = Some (t.Append (b ∷ bs) [])
transform_of n.Bnull [] = Some t.Bnull
transform_of n.Prepend (text ∷ []) = if nat_le (length text) most_text then Some (t.Prepend text) else None
transform_of n.Map (from ∷ to ∷ []) =
    option_and_then (λ a. option_map (λ b. t.Map a b) (byte_of to)) (byte_of from)
transform_of n.Drop (byte ∷ []) = option_map (λ b. t.Drop b) (byte_of byte)
transform_of n.Delay (ms ∷ []) = option_map (λ m. t.Delay m) (number_of most_delay ms)
transform_of n.Limit (most ∷ []) = option_map (λ m. t.Limit m) (number_of most_limit most)
transform_of name others = None

-- the hook plugin that a name and the words after it ask for, if they fit
abbrev pub plugin_of : PluginName → List (List ℕ) → Option PluginLine
plugin_of n.Deny words = deny_of words
plugin_of n.Header words = header_of words
plugin_of n.SessionHeader words = session_of words
plugin_of name words = None

-- the transform that a name and the words after it ask for, if a request's body may have it: any but a delay
abbrev pub unhurried_of : PluginName → List (List ℕ) → Option TransformLine
unhurried_of n.Delay words = None
unhurried_of name words = transform_of name words

-- the transform of request bodies that the words of a transform line ask for
abbrev pub request_of : List (List ℕ) → Option TransformLine
request_of [] = None
request_of (word ∷ words) = option_and_then (λ name. unhurried_of name words) (name_of word)

-- so many bytes that an intercept serves
abbrev pub fill_of : List ℕ → Option InterceptKind
fill_of word = option_map (λ n. i.Fill n) (number_of most_fill word)

-- a file that it serves, whose name is not empty
abbrev pub served_of : List ℕ → Option InterceptKind
served_of word = if is_site word then Some (i.File word []) else None

-- what an intercept serves, by the words behind its site
abbrev pub kind_of : List (List ℕ) → Option InterceptKind
kind_of (word ∷ []) = if bytes_eq word (codes "echo") then Some i.Echo else None
kind_of (word ∷ last ∷ []) =
    if bytes_eq word (codes "fill") then fill_of last
    else if bytes_eq word (codes "file") then served_of last else None
kind_of other = None

-- the intercept that these words ask for: its site, which is not empty, and what it serves
abbrev pub intercept_of : List (List ℕ) → Option InterceptLine
intercept_of [] = None
intercept_of (site ∷ words) =
    if is_site site then option_map (λ kind. record { site = site; kind = kind }) (kind_of words) else None

-- the number of a tap line, at least 1
abbrev pub tap_of : List (List ℕ) → Option ℕ
tap_of (word ∷ []) = option_and_then (λ n. if nat_lt 0 n then Some n else None) (number_of most_tap word)
tap_of other = None

-- the line that a name and the words after it ask for, if they fit
abbrev pub asked_of : PluginName → List (List ℕ) → Option LineMeaning
asked_of n.Request words = option_map Request (request_of words)
asked_of n.Intercept words = option_map Intercept (intercept_of words)
asked_of n.Tap words = option_map Tap (tap_of words)
asked_of n.Deny words = option_map Plugin (plugin_of n.Deny words)
asked_of n.Header words = option_map Plugin (plugin_of n.Header words)
asked_of n.SessionHeader words = option_map Plugin (plugin_of n.SessionHeader words)
asked_of name words = option_map Transform (transform_of name words)

-- the line that was asked for, or that the words do not fit
abbrev pub fitting : Option LineMeaning → Result LineMeaning ConfigKind
fitting (Some line) = Ok line
fitting None = Err k.Arguments

-- what a line with this name and these words behind it means
abbrev pub named_entry : Option PluginName → List (List ℕ) → Result LineMeaning ConfigKind
named_entry (Some name) words = fitting (asked_of name words)
named_entry None words = Err k.Plugin

-- what the words of a line mean, or the first rule that they break; a line without a word means nothing
abbrev pub line_entry : List (List ℕ) → Result LineMeaning ConfigKind
line_entry [] = Ok Empty
line_entry (word ∷ words) = named_entry (name_of word) words
