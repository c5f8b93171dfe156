-- No head of a request that is sent is longer than its room.
use Rattle.std.proofs.Common.{◌≡◌, ℕ, ◌+◌, ◌*◌, ◌≤◌, Bool, true, false, cond, List, [], ◌∷◌, ◌++◌, map}
use Rattle.std.proofs.Common.{filter, length, take, drop, Ok, refl, sym, ap, subst}
use Rattle.std.proofs.Common.{arith, length-append}
use Rattle.std.specs.Prelude.{Option, Some, None, ◌==◌, ◌&&◌, ◌||◌, not, codes, find, flat_map, bytes_eq}
use Rattle.std.specs.List.{list_any, position_or_len}
use Rattle.std.proofs.lemmas.List.{length-drop, length-map, length-take}
use Rattle.httparse.specs.Ascii.{crlf_bytes}
use Rattle.httparse.specs.Grammar as grammar
use Rattle.httparse.specs.Grammar.{is_ows, print_blank, print_end, print_field, print_request, print_section}
use Rattle.httparse.specs.Grammar.{print_version, skip_ows, trim_ows}
use Rattle.ts_config.specs.declared.setup.Setup.{Setup}
use Rattle.ts_config.specs.declared.fields.Side.{Side}
use Rattle.ts_config.specs.declared.fields.Side.TheVariants as S
use Rattle.ts_config.specs.declared.fields.Rule.{Rule}
use Rattle.ts_config.specs.declared.fields.Rule.TheVariants.{Set, Add, Remove}
use Rattle.ts_config.specs.declared.fields.PluginLine.{PluginLine}
use Rattle.ts_config.specs.declared.fields.PluginLine.TheVariants.{Deny, Header, SessionHeader}
use Rattle.ts_wire.specs.declared.fields.Field.{Field}
use Rattle.ts_wire.specs.declared.heads.RequestHead.{RequestHead}
use Rattle.ts_wire.specs.Check.{absolute_parts, after_authority, authority, begins_with_slash, check}
use Rattle.ts_wire.specs.Check.{ends_authority, host_named, is_absolute, is_at_sign}
use Rattle.ts_wire.specs.Check.{question_mark, sent_after, slash}
use Rattle.ts_wire.specs.FieldList.{is_named, value_or_empty}
use Rattle.ts_wire.specs.Forward.{forwarded, is_forwarded}
use Rattle.ts_wire.specs.Heads.{kept_field}
use Rattle.ts_wire.specs.Limits.{field_limit, head_limit, scheme_len}
use Rattle.ts_wire.specs.Printed.{field_text, fields_text, host_text, missing_host_text, request_field_text}
use Rattle.ts_wire.specs.Printed.{via_text}
use Rattle.ts_wire.proofs.CheckedRequest.{Parts, passed, some_parts}
use Rattle.ts_wire.proofs.Sizes.{length-forwarded_request, trim_shorter}
use Rattle.ts_block.specs.Block.{request_text}
use Rattle.ts_block.specs.Heads.{HasRequest}
use Rattle.ts_block.specs.Rules.{after_line, apply_rule, is_side, ruled, without_name}
use Rattle.ts_phases.specs.Lowering.{frame_room, head_room, line_room, plugin_length, plugins_length}
use Rattle.ts_phases.specs.Lowering.{rule_length}

-- ---- lists

-- a front is no longer
front_within : (n : ℕ) (xs : List ℕ) → length (take n xs) ≤ length xs
front_within n xs = omega (arith, length-take n xs)

-- ---- lines of fields

fields_joined : (xs ys : List Field) → length (fields_text (xs ++ ys)) ≡ length (fields_text xs) + length
    (fields_text ys)
fields_joined [] ys = omega arith
fields_joined (x ∷ xs) ys =
    let rest : length (fields_text (xs ++ ys)) ≡ length (fields_text xs) + length (fields_text ys) =
    fields_joined xs ys in
    omega (
      arith,
      rest,
      length-append (field_text x) (fields_text (xs ++ ys)),
      length-append (field_text x)
          (fields_text xs),
    )

-- what is left of some fields is no longer, and they are no more
pub record IsLess (fs gs : List Field) : Type 0 where
  pub text : length (fields_text gs) ≤ length (fields_text fs)
  pub count : length gs ≤ length fs

kept_less : (b : Bool) (f : Field) (fs gs : List Field) → IsLess fs gs → IsLess (f ∷ fs) (cond b (f ∷ gs) gs)
kept_less true f fs gs less = record {
  text = omega (
    arith,
    less.text,
    length-append (field_text f) (fields_text gs),
    length-append (field_text f)
        (fields_text fs),
  );
  count = omega (arith, less.count);
}
kept_less false f fs gs less = record {
  text = omega (arith, less.text, length-append (field_text f) (fields_text fs));
  count = omega (arith, less.count);
}

pub filter_less : (p : Field → Bool) (fs : List Field) → IsLess fs (filter p fs)
filter_less p [] = record { text = omega arith; count = omega arith }
filter_less p (f ∷ fs) = kept_less (p f) f fs (filter p fs) (filter_less p fs)

-- the fields with one more: so much longer, and one more
record AddsLine (more : ℕ) (fs gs : List Field) : Type 0 where
  text : length (fields_text gs) ≤ length (fields_text fs) + more
  count : length gs ≤ length fs + 1

-- a line is as long as its name and its value, and four bytes more
one_line : (name : List ℕ) (f : Field) → f.name ≡ name → length (fields_text (f ∷ [])) ≡ length name + length
    f.value.bytes + 4
one_line name f is =
    omega (
      arith,
      ap length is,
      length-append (field_text f) [],
      length-append
          (f.name ++ codes ": " ++ f.value.bytes) crlf_bytes,
      length-append (f.name ++ codes ": ")
          f.value.bytes,
      length-append f.name (codes ": "),
    )

-- a rule adds no more than it says, and a line of the other side adds nothing
rule_adds : (rule : Rule) (fs : List Field) → AddsLine (rule_length rule) fs (apply_rule rule fs)
rule_adds (Set name value) fs =
    let f : Field = record { name = name; value = value } in
    let kept = filter_less (λ (g : Field). not (is_named name g)) fs in
    record {
      text = omega (arith, kept.text, fields_joined (without_name name fs) (f ∷ []), one_line name f refl);
      count = omega (arith, kept.count, length-append (without_name name fs) (f ∷ []));
    }
rule_adds (Add name value) fs =
    let f : Field = record { name = name; value = value } in
    record {
      text = omega (arith, fields_joined fs (f ∷ []), one_line name f refl);
      count =
          omega (arith, length-append fs (f ∷ []));
    }
rule_adds (Remove name) fs =
    let kept = filter_less (λ (g : Field). not (is_named name g)) fs in
    record { text = omega (arith, kept.text); count = omega (arith, kept.count) }

side_adds : (b : Bool) (rule : Rule) (fs : List Field) → AddsLine (rule_length rule) fs
    (cond b (apply_rule rule fs) fs)
side_adds true rule fs = rule_adds rule fs
side_adds false rule fs = record { text = omega arith; count = omega arith }

line_adds : (side : Side) (l : PluginLine) (fs : List Field)
    → AddsLine (plugin_length l) fs (after_line side fs l)
line_adds side (Deny sites) fs = record { text = omega arith; count = omega arith }
line_adds side (Header of rule) fs = side_adds (is_side side of) rule fs
line_adds side (SessionHeader of rule) fs = side_adds (is_side side of) rule fs

-- the fields after all lines: longer by what the lines say, and no more than one a line more
pub record AddsLines (more lines : ℕ) (fs gs : List Field) : Type 0 where
  pub text : length (fields_text gs) ≤ length (fields_text fs) + more
  pub count : length gs ≤ length fs + lines

pub ruled_adds : (side : Side) (ls : List PluginLine) (fs : List Field)
    → AddsLines (plugins_length ls) (length ls) fs (ruled side ls fs)
ruled_adds side [] fs = record { text = omega arith; count = omega arith }
ruled_adds side (l ∷ ls) fs =
    let one = line_adds side l fs in
    let all = ruled_adds side ls (after_line side fs l) in
    record { text = omega (arith, one.text, all.text); count = omega (arith, one.count, all.count) }

-- ---- a Host line in place of one of the fields

host_line : (host : List ℕ) → length (host_text host) ≡ length host + 8
host_line host = omega (
  arith,
  length-append (codes "host: " ++ host) crlf_bytes,
  length-append
      (codes "host: ") host,
)

-- a line of Host takes no more room than one of its own
field_or_host : (b : Bool) (host : List ℕ) (f : Field) → length host ≤ head_limit
    → length (cond b (host_text host) (field_text f)) ≤ length (field_text f) + line_room
field_or_host true host f fits = omega (arith, fits, host_line host)
field_or_host false host f fits = omega arith

request_fields : (absolute : Bool) (host : List ℕ) (fs : List Field) → length host ≤ head_limit
    → length (flat_map (request_field_text absolute host) fs) ≤ length (fields_text fs) + length fs *
    line_room
request_fields absolute host [] fits = omega arith
request_fields absolute host (f ∷ fs) fits =
    let rest : length (flat_map (request_field_text absolute host) fs) ≤ length (fields_text fs) + length fs *
    line_room = request_fields absolute host fs fits in
    omega (
      arith,
      rest,
      field_or_host (absolute && is_named (codes "host") f) host f fits,
      length-append (request_field_text absolute host f) (flat_map (request_field_text absolute host) fs),
      length-append (field_text f) (fields_text fs),
    )

-- a Host line that was missing has one line's room
missing_within : (b : Bool) (host : List ℕ) → length host ≤ head_limit
    → length (cond b [] (host_text host)) ≤ line_room
missing_within true host fits = omega arith
missing_within false host fits = omega (arith, fits, host_line host)

pub via_within : (b : Bool) → length (cond b (codes "via: 1.0 tsx\r\n") (codes "via: 1.1 tsx\r\n")) ≤ 16
via_within true = omega arith
via_within false = omega arith

-- ---- the head that was read

-- the value of a field as it is kept is no longer than its line
value_short : (f : grammar.Field) → length (trim_ows (trim_ows f.raw)) ≤ length (print_field f)
value_short f = omega (
  arith,
  trim_shorter (trim_ows f.raw),
  trim_shorter f.raw,
  length-append
      (f.name ++ 58 ∷ f.raw) (print_end f.end),
  length-append f.name (58 ∷ f.raw),
)

-- nor is the first value that is found, or none, longer than all the lines
first_short : (p : Field → Bool) (fs : List grammar.Field) → length
    (value_or_empty (find p (map kept_field fs))) ≤ length (flat_map print_field fs)
first_short p [] = omega arith
first_short p (f ∷ fs) = by_test (p (kept_field f)) (first_short p fs)
  where
    by_test : (t : Bool) → length (value_or_empty (find p (map kept_field fs))) ≤ length
        (flat_map print_field fs)
        → length (value_or_empty (cond t (Some (kept_field f)) (find p (map kept_field fs)))) ≤ length
        (flat_map print_field (f ∷ fs))
    by_test true later = omega (arith, value_short f, length-append (print_field f) (flat_map print_field fs))
    by_test false later = omega (arith, later, length-append (print_field f) (flat_map print_field fs))

-- the parts of a head are no longer than it
record IsIn (m t s : List ℕ) (all : ℕ) : Type 0 where
  method : length m ≤ all
  target : length t ≤ all
  section : length s ≤ all

parts_in : (a m t v e s : List ℕ) → IsIn m t s (length (a ++ m ++ 32 ∷ t ++ 32 ∷ v ++ e ++ s))
parts_in a m t v e s =
    let last : length (a ++ m ++ 32 ∷ t ++ 32 ∷ v ++ e ++ s) ≡ length
    (a ++ m ++ 32 ∷ t ++ 32 ∷ v ++ e) + length s = length-append (a ++ m ++ 32 ∷ t ++ 32 ∷ v ++ e) s in
    let line : length (a ++ m ++ 32 ∷ t ++ 32 ∷ v ++ e) ≡ length (a ++ m ++ 32 ∷ t ++ 32 ∷ v) + length e =
    length-append (a ++ m ++ 32 ∷ t ++ 32 ∷ v) e in
    let version : length (a ++ m ++ 32 ∷ t ++ 32 ∷ v) ≡ length (a ++ m ++ 32 ∷ t) + length (32 ∷ v) =
    length-append (a ++ m ++ 32 ∷ t) (32 ∷ v) in
    let aim : length (a ++ m ++ 32 ∷ t) ≡ length (a ++ m) + length (32 ∷ t) =
    length-append (a ++ m) (32 ∷ t) in
    let first : length (a ++ m) ≡ length a + length m = length-append a m in
    record {
      method = omega (arith, last, line, version, aim, first);
      target = omega (arith, last, line, version, aim, first);
      section = omega (arith, last, line, version, aim, first);
    }

-- those of a request
request_in : (h : grammar.RequestHead) → IsIn h.method h.target (print_section h.fields h.last)
    (length (print_request h))
unfolding print_request
request_in h = parts_in (print_blank h.blank) h.method h.target (print_version h.minor) (print_end h.line_end)
    (print_section h.fields h.last)

-- ---- what the check gives of it

-- none is none with parts
none_some : (p : Parts) → ◌≡◌ {A = Option Parts} None (Some p) → ⊥
none_some p same = cc

-- the target is at most one byte longer than that of the head, and the host no longer than its target or its
-- first Host field
record AreShort (limit : ℕ) (target host : List ℕ) : Type 0 where
  target_short : length target ≤ limit + 1
  host_short : length host ≤ limit

short_as : (limit : ℕ) (p q : Parts) → p ≡ q → AreShort limit p.0 p.1 → AreShort limit q.0 q.1
short_as limit p q same short = subst (λ (x : Parts). AreShort limit x.0 x.1) same short

-- an empty path is sent as one byte
star_or_slash : (b : Bool) → length (cond b (codes "*") (codes "/")) ≤ 1
star_or_slash true = omega arith
star_or_slash false = omega arith

with_slash : (c : Bool) (b : ℕ) (bs : List ℕ) → length (cond c (slash ∷ b ∷ bs) (b ∷ bs)) ≤ length
    (b ∷ bs) + 1
with_slash true b bs = omega arith
with_slash false b bs = omega arith

sent_short : (method xs : List ℕ) → length (sent_after method xs) ≤ length xs + 1
sent_short method [] = omega (arith, star_or_slash (bytes_eq method (codes "OPTIONS")))
sent_short method (b ∷ bs) = with_slash (b == question_mark) b bs

-- by the form of the target: an absolute one, a path, a star, or none of them
by_absolute : (c : Bool) (limit : ℕ) (method xs : List ℕ) (p : Parts) → length xs ≤ limit
    → cond c None (Some (sent_after method (after_authority xs), authority xs)) ≡ Some p
    → AreShort limit p.0 p.1
by_absolute true limit method xs p fits same = absurd (none_some p same)
by_absolute false limit method xs p fits same =
    short_as limit (sent_after method (after_authority xs), authority xs) p
    (some_parts (sent_after method (after_authority xs), authority xs) p same) (record {
      target_short = omega (
        arith,
        fits,
        sent_short method (after_authority xs),
        length-drop
            (position_or_len ends_authority xs) xs,
      );
      host_short = omega (arith, fits, front_within (position_or_len ends_authority xs) xs);
    })

by_form : (slashed star absolute : Bool) (limit : ℕ) (method target first : List ℕ) (p : Parts)
    → length target ≤ limit → length first ≤ limit
    → cond slashed (Some (target, first)) (cond star (Some (codes "*", first))
    (cond absolute (absolute_parts method (drop scheme_len target)) None)) ≡ Some p
    → AreShort limit p.0 p.1
by_form true star absolute limit method target first p fits also same =
    short_as limit (target, first) p (some_parts (target, first) p same)
    (record { target_short = omega (arith, fits); host_short = also })
by_form false true absolute limit method target first p fits also same =
    short_as limit (codes "*", first) p (some_parts (codes "*", first) p same)
    (record { target_short = omega arith; host_short = also })
by_form false false true limit method target first p fits also same =
    let xs = drop scheme_len target in
    by_absolute ((length (authority xs) == 0) || list_any is_at_sign (authority xs)) limit method xs p
    (omega (arith, fits, length-drop scheme_len target)) same
by_form false false false limit method target first p fits also same = absurd (none_some p same)

-- so the target and the host of a head that passes the check are short
checked_short : (limit : ℕ) (head : RequestHead) (target host : List ℕ) → length head.target ≤ limit
    → length (host_named head.fields) ≤ limit → check head ≡ Ok (target, host)
    → AreShort limit target host
checked_short limit head target host fits also passes =
    by_form (begins_with_slash head.target) (bytes_eq head.target (codes "*") && bytes_eq head.method
    (codes "OPTIONS")) (is_absolute head.target) limit head.method head.target
    (host_named head.fields) (target, host) fits also
    (passed head target host passes).parts

-- ---- the head that the origin gets

text_sum : (m t x f v : List ℕ) → length (m ++ codes " " ++ t ++ codes " HTTP/1.1\r\n" ++ x ++ f ++ v
    ++ codes "connection: close\r\n\r\n")
    ≡ length m + length t + length x + length f + length v + 33
text_sum m t x f v =
    omega (
      arith,
      length-append (m ++ codes " " ++ t ++ codes " HTTP/1.1\r\n" ++ x ++ f ++ v)
          (codes "connection: close\r\n\r\n"),
      length-append (m ++ codes " " ++ t ++ codes " HTTP/1.1\r\n" ++ x ++ f) v,
      length-append (m ++ codes " " ++ t ++ codes " HTTP/1.1\r\n" ++ x) f,
      length-append (m ++ codes " " ++ t ++ codes " HTTP/1.1\r\n") x,
      length-append (m ++ codes " " ++ t) (codes " HTTP/1.1\r\n"),
      length-append (m ++ codes " ") t,
      length-append m (codes " "),
    )

room_sum : (m t x f v sent fields lines more : ℕ) → m ≤ head_limit → t ≤ head_limit + 1 → x ≤ line_room
    → v ≤ 16 → sent ≤ 2 * head_limit
    → f ≤ sent + more + (fields + lines) * line_room → fields ≤ field_limit
    → m + t + x + f + v + 33 ≤ frame_room + (field_limit + lines + 1) * line_room + more
room_sum m t x f v sent fields lines more a b c d e g h = omega (arith, a, b, c, d, e, g, h)

-- fewer lines ask for no more room
times_less : (n m : ℕ) → n ≤ m → n * line_room ≤ m * line_room
times_less n m less = omega (arith, less)

ruled_room : (f text sent more count fields lines : ℕ) → f ≤ text + count * line_room → text ≤ sent + more
    → count ≤ fields + lines → f ≤ sent + more + (fields + lines) * line_room
ruled_room f text sent more count fields lines a b c = omega
    (arith, a, b, times_less count (fields + lines) c)

-- What the origin gets of a request that passed the check has room.
pub request_fits : (setup : Setup) (bytes rest : List ℕ) (head : RequestHead) (target host : List ℕ)
    → HasRequest bytes head rest → check head ≡ Ok (target, host)
    → length (request_text setup head target host) ≤ head_room setup
request_fits setup bytes rest head target host reads passes =
    let h = reads.parsed in
    let limit : length (print_request h) ≤ head_limit = reads.begins.short in
    let inside = request_in h in
    let lines : length (flat_map print_field h.fields) ≤ length (print_section h.fields h.last) =
    omega (arith, length-append (flat_map print_field h.fields) (print_end h.last)) in
    let first : length (host_named head.fields) ≤ length (flat_map print_field h.fields) =
    subst (λ (fs : List Field). length (host_named fs) ≤ length (flat_map print_field h.fields))
    (sym reads.keeps.fields) (first_short (is_named (codes "host")) h.fields) in
    let aim : length head.target ≤ head_limit = subst (λ (xs : List ℕ). length xs ≤ head_limit)
    (sym reads.keeps.target) (omega (arith, limit, inside.target)) in
    let method : length head.method ≤ head_limit = subst (λ (xs : List ℕ). length xs ≤ head_limit)
    (sym reads.keeps.method) (omega (arith, limit, inside.method)) in
    let short = checked_short head_limit head target host aim
    (omega (arith, first, lines, inside.section, limit)) passes in
    let kept = filter_less (is_forwarded head.fields) head.fields in
    let few : length (forwarded head.fields) ≤ field_limit =
    omega (
      arith,
      kept.count,
      ap length reads.keeps.fields,
      length-map h.fields kept_field,
      reads.begins.few,
    ) in
    let fields = ruled S.Request setup.plugins.items (forwarded head.fields) in
    let all = ruled_adds S.Request setup.plugins.items (forwarded head.fields) in
    let sent : length (fields_text (forwarded head.fields)) ≤ 2 * head_limit =
    omega (arith, length-forwarded_request h head reads.keeps, limit) in
    let lined = request_fields (is_absolute head.target) host fields short.host_short in
    subst (λ (n : ℕ). n ≤ head_room setup)
    (sym (text_sum head.method target (missing_host_text host fields)
    (flat_map (request_field_text (is_absolute head.target) host) fields) (via_text head.minor)))
    (room_sum (length head.method) (length target) (length (missing_host_text host fields))
    (length (flat_map (request_field_text (is_absolute head.target) host) fields))
    (length (via_text head.minor)) (length (fields_text (forwarded head.fields)))
    (length (forwarded head.fields)) (length setup.plugins.items) (plugins_length setup.plugins.items)
    method short.target_short (missing_within (list_any (is_named (codes "host")) fields) host
    short.host_short) (via_within (head.minor == 0)) sent
    (ruled_room (length (flat_map (request_field_text (is_absolute head.target) host) fields))
    (length (fields_text fields)) (length (fields_text (forwarded head.fields)))
    (plugins_length setup.plugins.items) (length fields) (length (forwarded head.fields))
    (length setup.plugins.items) lined all.text all.count)
    few)
