-- The answers that the proxy makes itself (RFC 9110, sections 15.5 and 15.6).
use Rattle.std.specs.Prelude.{ℕ, ◌==◌, Bool, true, false, List, [], ◌++◌, None, length, codes, if◌then◌else◌}
use Rattle.http_header.specs.FieldValue.{plain_value}
use Rattle.ts_wire.specs.Limits.{not_implemented}
use Rattle.ts_wire.specs.declared.fields.Field.{Field}
use Rattle.ts_wire.specs.declared.printed.ClientFraming.TheVariants as C
use Rattle.ts_wire.specs.Printed.{client_text, status_text}
use Rattle.ts_block.specs.declared.own_answer.OwnStatus.{OwnStatus}
use Rattle.ts_block.specs.declared.own_answer.OwnStatus.TheVariants as O

abbrev pub code_of : OwnStatus → ℕ
code_of O.BadRequest = 400
code_of O.Forbidden = 403
code_of O.NotImplemented = 501
code_of O.BadGateway = 502

-- the request check refuses with 400 or 501
abbrev pub own_refusal : ℕ → OwnStatus
own_refusal status = if status == not_implemented then O.NotImplemented else O.BadRequest

abbrev pub own_reason : OwnStatus → List ℕ
own_reason O.BadRequest = codes "Bad Request"
own_reason O.Forbidden = codes "Forbidden"
own_reason O.NotImplemented = codes "Not Implemented"
own_reason O.BadGateway = codes "Bad Gateway"

-- the one field of such an answer, before the header rules
abbrev pub own_field : Field
own_field = record { name = codes "content-type"; value = plain_value (codes "text/plain") }

-- the status, a space, the reason, LF
abbrev pub own_body : OwnStatus → List ℕ
own_body status = status_text (code_of status) ++ codes " " ++ own_reason status ++ codes "\n"

-- the head, with the fields as the header rules made them
abbrev pub own_head : OwnStatus → List Field → List ℕ
own_head status fields =
    client_text (code_of status) (own_reason status) fields None (C.Sized (length (own_body status)))

-- a HEAD request gets the same head without the body (RFC 9110, section 9.3.2)
abbrev pub own_sent : Bool → OwnStatus → List ℕ
own_sent true status = []
own_sent false status = own_body status
