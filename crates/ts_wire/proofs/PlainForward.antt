-- The fields that are sent on leave it to the proxy to say that the connection closes, and where the body
-- ends.
use Rattle.std.proofs.Common.{◌≡◌, ℕ, Bool, true, false, ◌||◌, List, [], refl, sym, ap, subst, ◌∙◌}
use Rattle.std.specs.Prelude.{All, codes, not}
use Rattle.std.proofs.lemmas.Slice.Eq.{bytes_eq-Decides}
use Rattle.std.proofs.lemmas.List.Elements.{All-filter, All-weaker, filter_passes}
use Rattle.httparse.specs.Grammar.{AllPass, is_value_byte}
use Rattle.ts_wire.specs.declared.fields.Field.{Field}
use Rattle.ts_wire.specs.declared.heads.RequestHead.{RequestHead}
use Rattle.ts_wire.specs.FieldList.{is_named, values_named}
use Rattle.ts_wire.specs.Forward.{is_hop, is_option, is_forwarded, forwarded}
use Rattle.ts_wire.specs.OneHead.{IsPlainField, LeavesFraming, ForwardsUnchanged, ForwardsPlainly}
use Rattle.ts_wire.proofs.PlainFields.{IsOther, values_from_others, all_kept_plain}

-- a field that is sent on does not have the name of one that ends at this hop
passed_other : (name : List ℕ) → is_hop name ≡ true → (all : List Field) (f : Field)
    → is_forwarded all f ≡ true → IsOther name f
passed_other name hop all f passes = by_test (is_named name f) refl
  where
    by_test : (t : Bool) → is_named name f ≡ t → IsOther name f
    by_test false other = other
    by_test true named =
        let same : f.name ≡ name = (bytes_eq-Decides f.name name).0 named in
        let is : is_hop f.name ≡ true = ap is_hop same ∙ hop in
        absurd (let e : false ≡ true = sym (ap (λ t. not (t || is_option all f.name)) is) ∙ passes in cc)

none_forwarded : (name : List ℕ) (fs : List Field) → is_hop name ≡ true
    → values_named name (forwarded fs) ≡ []
none_forwarded name fs hop =
    values_from_others name (forwarded fs)
    (All-weaker (λ f. is_forwarded fs f ≡ true) (IsOther name) (passed_other name hop fs) (forwarded fs)
    (filter_passes (is_forwarded fs) fs))

leaves_framing : (fs : List Field) → All IsPlainField fs → LeavesFraming (forwarded fs)
leaves_framing fs plain = record {
  plain = All-filter (is_forwarded fs) IsPlainField fs plain;
  connections = none_forwarded (codes "connection") fs refl;
  lengths = none_forwarded (codes "content-length") fs refl;
  codings = none_forwarded (codes "transfer-encoding") fs refl;
}

pub forwards_plainly : ForwardsPlainly
forwards_plainly head read =
    let plain = subst (All IsPlainField) (sym read.keeps.fields)
    (all_kept_plain read.parsed.fields read.good.fields) in
    (subst (AllPass is_value_byte) (sym read.keeps.reason) read.good.reason, leaves_framing head.fields plain)

pub forwards_unchanged : (head : RequestHead) → ForwardsUnchanged head
forwards_unchanged head read =
    let plain = subst (All IsPlainField) (sym read.keeps.fields)
    (all_kept_plain read.parsed.fields read.good.fields) in
    record { leaves = leaves_framing head.fields plain; hosts = refl }
