-- What a line of the configuration serves, and which line does (the Developer's Guide, "Intercepting HTTP
-- Transactions": a plugin answers a request in place of the origin server).
use Rattle.std.specs.Prelude.{ℕ, ◌+◌, Bool, List, [], ◌∷◌, ◌++◌, length, take, drop, replicate, max, Option}
use Rattle.std.specs.Prelude.{Some, None, codes}
use Rattle.std.specs.List.{find}
use Rattle.std.specs.Str.{str_eq_ignore_ascii_case}
use Rattle.http_header.specs.Token.{lowercase}
use Rattle.httparse.specs.Grammar.{trim_ows}
use Rattle.memchr.specs.Find.{first_of, matches}
use Rattle.ts_config.specs.Bytes.{letter_x}
use Rattle.ts_config.specs.declared.setup.InterceptKind.{InterceptKind}
use Rattle.ts_config.specs.declared.setup.InterceptKind.TheVariants.{Echo, Fill, File}
use Rattle.ts_config.specs.declared.setup.InterceptLine.{InterceptLine}
use Rattle.ts_wire.specs.Check.{plugin_host}
use Rattle.ts_wire.specs.Limits.{framing_limit}
use Rattle.ts_wire.specs.Printed.{framing_line}
use Rattle.ts_wire.specs.declared.printed.ClientFraming.TheVariants.{Sized}
use Rattle.ts_intercept.specs.Limits.{most_held}

-- the end of a line
abbrev pub line_end : List ℕ
line_end = codes "\r\n"

-- ---- what is served

-- how the head of an answer begins
abbrev pub ok_start : List ℕ
ok_start = codes "HTTP/1.1 200 OK\r\ncontent-type: text/plain\r\n"

-- the head of an answer with a body of so many bytes
abbrev pub ok_head : ℕ → List ℕ
ok_head n = ok_start ++ framing_line (Sized n) ++ line_end

-- WHAT IS SERVED to a request with this head, as the origin would get it: the head itself as a body, so many
-- bytes `x`, or the text of a file as it is
abbrev pub served : InterceptKind → List ℕ → List ℕ
served Echo head = ok_head (length head) ++ head
served (Fill n) head = ok_head n ++ replicate n letter_x
served (File file text) head = text

-- how many bytes such a head has at most
abbrev pub head_room : ℕ
head_room = length ok_start + framing_limit + length line_end

-- how many bytes are served at most, to whichever head that can be held
abbrev pub room_of : InterceptKind → ℕ
room_of Echo = head_room + most_held
room_of (Fill n) = head_room + n
room_of (File file text) = length text

-- and by whichever of the lines
abbrev pub longest : List InterceptLine → ℕ
longest [] = 0
longest (line ∷ lines) = max (room_of line.kind) (longest lines)

-- ---- which line serves

-- how the line of a head begins that names the host (RFC 9110, section 7.2), in lower case and behind the
-- end of the line before it
abbrev pub host_start : List ℕ
host_start = codes "\r\nhost:"

-- where the part stands in the text first, if it does
abbrev pub first_match : List ℕ → List ℕ → Option ℕ
first_match text part = first_of (matches text part 0)

-- what stands before this place, or all
abbrev pub front_to : Option ℕ → List ℕ → List ℕ
front_to None text = text
front_to (Some place) text = take place text

-- a line, up to its end
abbrev pub front_line : List ℕ → List ℕ
front_line text = front_to (first_match text line_end) text

-- the value of the line that begins at this place, without the blanks around it, or nothing
abbrev pub host_at : Option ℕ → List ℕ → List ℕ
host_at None head = []
host_at (Some place) head = trim_ows (front_line (drop (place + length host_start) head))

-- the host that a head names, in whatever letter case, or nothing
abbrev pub host_in : List ℕ → List ℕ
host_in head = host_at (first_match (lowercase head) host_start) head

-- the line is for this host, whatever the letter case
abbrev pub is_for : List ℕ → InterceptLine → Bool
is_for host line = str_eq_ignore_ascii_case line.site host

-- THE LINE that serves a request with this head, if one does: the first whose site is its host, without a
-- port
abbrev pub line_for : List InterceptLine → List ℕ → Option InterceptLine
line_for lines head = find (is_for (plugin_host (host_in head))) lines
