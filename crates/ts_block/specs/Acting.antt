-- Which transform lines act on a response: those of the chain that its body goes through (Developer's Guide,
-- "Transformations"; which responses they act on is this project's own choice).
use Rattle.std.specs.Prelude.{ℕ, Bool, true, false, not, ◌&&◌, ◌==◌, List, filter, codes, bytes_eq}
use Rattle.std.specs.Prelude.{if◌then◌else◌}
use Rattle.std.specs.List.{list_any, before_first}
use Rattle.std.specs.Str.{str_eq_ignore_ascii_case}
use Rattle.httparse.specs.Grammar.{trim_ows}
use Rattle.ts_wire.specs.declared.fields.Field.{Field}
use Rattle.ts_wire.specs.FieldList.{is_named, value_of, first_value}
use Rattle.ts_config.specs.declared.setup.TransformLine.{TransformLine}
use Rattle.ts_config.specs.declared.setup.TransformLine.TheVariants as t

-- the status of the responses that are transformed
abbrev pub ok : ℕ
ok = 200

-- the byte `;`
abbrev pub semicolon : ℕ
semicolon = 59

abbrev pub is_semicolon : ℕ → Bool
is_semicolon b = b == semicolon

-- the value of Content-Type up to the first `;`, without the spaces and tabs around it (RFC 9110,
-- section 8.3)
abbrev pub media_type : List Field → List ℕ
media_type fields = trim_ows (before_first is_semicolon (first_value (codes "content-type") fields))

abbrev pub is_html : List Field → Bool
is_html fields = str_eq_ignore_ascii_case (media_type fields) (codes "text/html")

-- a Content-Encoding field with a value other than `identity` (RFC 9110, section 8.4)
abbrev pub is_coded : Field → Bool
is_coded f = is_named (codes "content-encoding") f && not (bytes_eq (value_of f) (codes "identity"))

-- no transform reads a coded body, and none acts on another status
abbrev pub is_open : ℕ → List Field → Bool
is_open status fields = (status == ok) && not (list_any is_coded fields)

-- the text of a file is appended to HTML alone
abbrev pub wants_html : TransformLine → Bool
wants_html (t.Append file text) = true
wants_html _ = false

abbrev pub acts_on : ℕ → List Field → TransformLine → Bool
acts_on status fields line = is_open status fields && (if wants_html line then is_html fields else true)

-- the lines that act on a response, in order
abbrev pub acting : List TransformLine → ℕ → List Field → List TransformLine
acting lines status fields = filter (acts_on status fields) lines
