-- How the body of a response that is passed on is framed for the client (RFC 9112, section 6).
use Rattle.std.specs.Prelude.{ℕ, ◌==◌, Bool, true, false, ◌||◌, List, [], Option, Some, None, if◌then◌else◌}
use Rattle.std.specs.Prelude.{bytes_eq, codes}
use Rattle.ts_config.specs.declared.setup.TransformLine.{TransformLine}
use Rattle.ts_wire.specs.Limits.{no_content}
use Rattle.ts_wire.specs.declared.heads.RequestHead.{RequestHead}
use Rattle.ts_wire.specs.declared.heads.ResponseHead.{ResponseHead}
use Rattle.ts_wire.specs.declared.fields.Field.{Field}
use Rattle.ts_wire.specs.declared.framing.Framing.{Framing}
use Rattle.ts_wire.specs.declared.framing.Framing.TheVariants as F
use Rattle.ts_wire.specs.declared.framing.ContentLength.{ContentLength}
use Rattle.ts_wire.specs.declared.framing.ContentLength.TheVariants as L
use Rattle.ts_wire.specs.declared.framing.TransferCoding.{TransferCoding}
use Rattle.ts_wire.specs.declared.framing.TransferCoding.TheVariants as T
use Rattle.ts_wire.specs.declared.printed.ClientFraming.{ClientFraming}
use Rattle.ts_wire.specs.declared.printed.ClientFraming.TheVariants as C
use Rattle.ts_wire.specs.declared.frames.Mode.{Mode}
use Rattle.ts_wire.specs.declared.frames.Mode.TheVariants as M
use Rattle.ts_wire.specs.Framing.{framing, coding_named, length_named}

abbrev pub asks_head : RequestHead → Bool
asks_head q = bytes_eq q.method (codes "HEAD")

-- a client of HTTP/1.1 reads chunks
abbrev pub reads_chunks : RequestHead → Bool
reads_chunks q = q.minor == 1

-- where the body of the response ends that answers this request
abbrev pub framing_of : RequestHead → ResponseHead → Framing
framing_of q h = framing h.status h.minor h.fields (asks_head q)

-- the valid length of a head without a transfer coding
abbrev pub length_by : TransferCoding → ContentLength → Option ℕ
length_by T.Absent (L.Valid n) = Some n
length_by _ _ = None

abbrev pub length_told : List Field → Option ℕ
length_told fields = length_by (coding_named fields) (length_named fields)

-- a response with no body keeps the length that it tells of another one, unless a line would change that body
abbrev pub kept_length : Bool → ℕ → Option ℕ → ClientFraming
kept_length acts status (Some n) = if (status == no_content) || acts then C.Nothing else C.Sized n
kept_length acts status None = C.Nothing

-- a body whose length is not known before its end goes in chunks, or up to the close
abbrev pub open_framing : Bool → ClientFraming
open_framing true = C.Chunked
open_framing false = C.Close

-- `acts`: some line acts on the body; `chunks`: the client reads chunks
abbrev pub client_framing : Framing → ℕ → Option ℕ → Bool → Bool → ClientFraming
client_framing F.Nothing status told acts chunks = kept_length acts status told
client_framing (F.Sized n) status told false chunks = C.Sized n
client_framing F.Faulty status told acts chunks = C.Nothing
client_framing _ status told acts chunks = open_framing chunks

abbrev pub mode_of : ClientFraming → Mode
mode_of C.Chunked = M.Chunked
mode_of _ = M.Plain

-- the lines that act on a body: none where there is no body
abbrev pub if_body : Framing → List TransformLine → List TransformLine
if_body F.Nothing lines = []
if_body _ lines = lines
