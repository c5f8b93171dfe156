-- A refusal of the request check has one of two statuses.
use Rattle.std.proofs.Common.{◌≡◌, ℕ, Bool, true, false, cond, eqb, List, Option, Some, None, inl, inr}
use Rattle.std.specs.Prelude.{codes, bytes_eq, Result, Ok, Err}
use Rattle.ts_wire.specs.declared.fields.Field.{Field}
use Rattle.ts_wire.specs.declared.framing.ContentLength.{ContentLength}
use Rattle.ts_wire.specs.declared.framing.ContentLength.TheVariants as L
use Rattle.ts_wire.specs.declared.framing.TransferCoding.{TransferCoding}
use Rattle.ts_wire.specs.declared.framing.TransferCoding.TheVariants as C
use Rattle.ts_wire.specs.Limits.{bad_request, not_implemented}
use Rattle.ts_wire.specs.FieldList.{count_named}
use Rattle.ts_wire.specs.Framing.{length_named, coding_named}
use Rattle.ts_wire.specs.Check.{has_wrong_hosts, host_named, target_parts, refusal_by, unless_refused, with_parts, IsRefusal, RefusesSo}

abbrev Parts : Type 0
Parts = List ℕ × List ℕ

abbrev Answer : Type 0
Answer = Result Parts ℕ

same_status : (s t : ℕ) → ◌≡◌ {A = Answer} (Err s) (Err t) → t ≡ s
same_status s t same = cc

not_passed : (p : Parts) (t : ℕ) → ◌≡◌ {A = Answer} (Ok p) (Err t) → ⊥
not_passed p t same = cc

by_body : (coding : TransferCoding) (length : ContentLength) (p : Parts) (t : ℕ)
    → unless_refused (refusal_by coding length) p ≡ Err t → IsRefusal t
by_body C.Chunked length p t e = inr (same_status not_implemented t e)
by_body C.Other length p t e = inr (same_status not_implemented t e)
by_body C.Absent L.Absent p t e = absurd (not_passed p t e)
by_body C.Absent L.Faulty p t e = inl (same_status bad_request t e)
by_body C.Absent (L.Valid n) p t e = by_test (eqb n 0) e
  where
    by_test : (b : Bool) → unless_refused (cond b None (Some not_implemented)) p ≡ Err t → IsRefusal t
    by_test true f = absurd (not_passed p t f)
    by_test false f = inr (same_status not_implemented t f)

by_rows : (connect wrong : Bool) (parts : Option Parts) (fields : List Field) (t : ℕ)
    → cond connect (Err not_implemented) (cond wrong (Err bad_request) (with_parts parts fields)) ≡ Err t
    → IsRefusal t
by_rows true wrong parts fields t e = inr (same_status not_implemented t e)
by_rows false true parts fields t e = inl (same_status bad_request t e)
by_rows false false None fields t e = inl (same_status bad_request t e)
by_rows false false (Some p) fields t e = by_body (coding_named fields) (length_named fields) p t e

pub refuses_so : RefusesSo
refuses_so head status e =
    by_rows (bytes_eq head.method (codes "CONNECT"))
    (has_wrong_hosts head.minor (count_named (codes "host") head.fields))
    (target_parts head.method head.target (host_named head.fields)) head.fields status e
