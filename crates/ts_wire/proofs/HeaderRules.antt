-- A header rule that removes the fields of a name leaves a change of the fields that are sent on.
use Rattle.std.proofs.Common.{◌≡◌, ℕ, Bool, true, false, List, [], ◌∷◌, refl, sym, ap, ◌∙◌}
use Rattle.std.specs.Prelude.{codes, filter, not, bytes_eq}
use Rattle.std.proofs.lemmas.Slice.Eq.{bytes_eq-Decides}
use Rattle.std.proofs.lemmas.List.Elements.{All-filter}
use Rattle.ts_wire.specs.declared.fields.Field.{Field}
use Rattle.ts_wire.specs.FieldList.{is_named, values_named}
use Rattle.ts_wire.specs.OneHead.{IsPlainField, IsChangeOf, IsFree}
use Rattle.ts_wire.proofs.PlainFields.{IsOther, others_from_values, values_from_others}

-- the fields of other names than this
abbrev others_than : List ℕ → List Field → List Field
others_than name fs = filter (λ f. not (is_named name f)) fs

others_kept : (name hop : List ℕ) (fs : List Field) → values_named hop fs ≡ []
    → values_named hop (others_than name fs) ≡ []
others_kept name hop fs lacks =
    values_from_others hop (others_than name fs) (All-filter (λ f. not (is_named name f)) (IsOther hop) fs
    (others_from_values hop fs lacks))

-- a field of the name Host is not one of another name
host_other : (name : List ℕ) (f : Field) → bytes_eq name (codes "host") ≡ false
    → is_named (codes "host") f ≡ true → is_named name f ≡ false
host_other name f other named = by_test (is_named name f) refl
  where
    by_test : (t : Bool) → is_named name f ≡ t → is_named name f ≡ false
    by_test false is = is
    by_test true is =
        let same : name ≡ codes "host" =
        sym ((bytes_eq-Decides f.name name).0 is) ∙ (bytes_eq-Decides f.name (codes "host")).0 named in
        absurd (let e : false ≡ true = sym other ∙ (bytes_eq-Decides name (codes "host")).1 same in cc)

hosts_kept : (name : List ℕ) (fs : List Field) → bytes_eq name (codes "host") ≡ false
    → filter (is_named (codes "host")) (others_than name fs) ≡ filter (is_named (codes "host")) fs
hosts_kept name [] other = refl
hosts_kept name (f ∷ fs) other =
    by_tests (is_named (codes "host") f) (is_named name f) refl refl (hosts_kept name fs other)
  where
    by_tests : (h n : Bool) → is_named (codes "host") f ≡ h → is_named name f ≡ n
        → filter (is_named (codes "host")) (others_than name fs) ≡ filter (is_named (codes "host")) fs
        → filter (is_named (codes "host")) (others_than name (f ∷ fs))
        ≡ filter (is_named (codes "host")) (f ∷ fs)
    by_tests true true hosted named later =
        absurd (let e : true ≡ false = sym named ∙ host_other name f other hosted in cc)
    by_tests true false hosted named later = rw (named, hosted) (ap (λ l. f ∷ l) later)
    by_tests false true hosted named later = rw (named, hosted) later
    by_tests false false hosted named later = rw (named, hosted) later

-- all fields of the name are removed
pub removed : (sent fs : List Field) (name : List ℕ) → IsChangeOf sent fs → IsFree name
    → IsChangeOf sent (filter (λ f. not (is_named name f)) fs)
removed sent fs name change free = record {
  leaves = record {
    plain = All-filter (λ f. not (is_named name f)) IsPlainField fs change.leaves.plain;
    connections = others_kept name (codes "connection") fs change.leaves.connections;
    lengths = others_kept name (codes "content-length") fs change.leaves.lengths;
    codings = others_kept name (codes "transfer-encoding") fs change.leaves.codings;
  };
  hosts = hosts_kept name fs free.host ∙ change.hosts;
}
