-- The target and the host of a request that passed the check: both can stand in a head, and the host is the
-- one that was named.
use Rattle.std.proofs.Common.{◌≡◌, ℕ, suc, ◌+◌, ◌<◌, ◌≤◌, ◌⊎◌, Bool, true, false, cond, ◌&&◌, ◌||◌, eqb, List, [], ◌∷◌, ◌++◌, length, take, drop, Option, Some, None, refl, sym, ap, subst, ◌∙◌, inl, inr, arith, append_assoc}
use Rattle.std.specs.Prelude.{All, IsTrue, codes, IsUtf8, Result, Ok, Err, unwrap_or, filter, find, bytes_eq, not}
use Rattle.std.specs.List.{list_any, position_or_len, prefix_len}
use Rattle.std.proofs.Math.Seq.{get_or-append_seam}
use Rattle.std.proofs.lemmas.Bool.Decides.{nat_tests}
use Rattle.std.proofs.lemmas.List.{take-append-drop, drop_at, length-append}
use Rattle.std.proofs.lemmas.List.Elements.{All-nil, All-cons, All-head, All-tail, All-take, All-drop, All-weaker}
use Rattle.std.proofs.lemmas.List.Sums.{length-filter}
use Rattle.std.proofs.lemmas.Str.Ascii.{IsAscii-from_all}
use Rattle.std.proofs.lemmas.Str.{IsUtf8-append, IsUtf8-drop, IsUtf8-nil, IsUtf8-from_ascii, IsCharBoundary-before_ascii}
use Rattle.http_header.specs.FieldValue.{IsFieldValue}
use Rattle.httparse.specs.Grammar.{AllPass, is_uri_byte, is_value_byte, trim_ows}
use Rattle.httparse.proofs.TrimLemmas.{AllPass-trim_ows}
use Rattle.ts_wire.specs.declared.fields.Field.{Field}
use Rattle.ts_wire.specs.declared.heads.RequestHead.{RequestHead}
use Rattle.ts_wire.specs.FieldList.{is_named, value_of, value_or_empty, count_named, first_value}
use Rattle.ts_wire.specs.Framing.{length_named, coding_named}
use Rattle.ts_wire.specs.Check.{has_wrong_hosts, is_absolute, ends_authority, sent_after, is_at_sign, absolute_parts, begins_with_slash, target_parts, refusal_by, unless_refused, with_parts, check}
use Rattle.ts_wire.specs.OneHead.{IsPlainField, IsSentTarget}
use Rattle.ts_wire.proofs.TrimTwice.{trim_twice}
use Rattle.ts_wire.proofs.PlainFields.{is_solid, trim_solid}

-- a target that a head may have
pub record IsGoodTarget (target : List ℕ) : Type 0 where
  pub some : 0 < length target
  pub bytes : AllPass is_uri_byte target
  pub text : IsUtf8 target

-- what the check makes of a target and of the value of the first Host field
pub record AreGoodParts (target host : List ℕ) (absolute : Bool) (first : List ℕ) : Type 0 where
  pub good : IsGoodTarget target
  pub place : IsSentTarget target
  pub value : IsFieldValue host
  pub trimmed : trim_ows host ≡ host
  pub own : absolute ≡ false → host ≡ first

-- ---- the value of the first Host field

first_trimmed : (o : Option Field) → trim_ows (value_or_empty o) ≡ value_or_empty o
unfolding trim_ows
first_trimmed None = refl
first_trimmed (Some f) = trim_twice f.value.bytes

first_valued : (name : List ℕ) (fs : List Field) → All IsPlainField fs → IsFieldValue (first_value name fs)
first_valued name [] plain = All-nil (λ b. IsTrue (is_value_byte b))
first_valued name (f ∷ fs) plain =
    by_test (is_named name f) (first_valued name fs (All-tail IsPlainField f fs plain))
  where
    by_test : (t : Bool) → IsFieldValue (first_value name fs)
        → IsFieldValue (value_or_empty (cond t (Some f) (find (is_named name) fs)))
    by_test true later = AllPass-trim_ows is_value_byte f.value.bytes (All-head IsPlainField f fs plain).2
    by_test false later = later

-- ---- an absolute target

ascii_text : (b : ℕ) → b < 128 → IsUtf8 (b ∷ [])
ascii_text b small = IsUtf8-from_ascii (b ∷ []) (IsAscii-from_all (b ∷ [])
    (All-cons (λ x. x < 128) b [] small (All-nil _)))

star_good : IsGoodTarget (codes "*")
star_good = record {
  some = omega arith;
  bytes = All-cons (λ b. IsTrue (is_uri_byte b)) 42 [] refl (All-nil _);
  text = ascii_text 42 (omega arith);
}

-- what follows the authority is nothing, or begins with the byte that ends it
abbrev BeginsAfter : List ℕ → Type 0
BeginsAfter after = (after ≡ []) ⊎ ((b : ℕ) × (bs : List ℕ) × (after ≡ b ∷ bs) × (ends_authority b ≡ true))

add-one-left : (n : ℕ) → 1 + n ≡ suc n
add-one-left n = omega arith

begins_after : (xs : List ℕ) → BeginsAfter (drop (position_or_len ends_authority xs) xs)
begins_after [] = inl refl
begins_after (b ∷ bs) = by_test (ends_authority b) refl (begins_after bs)
  where
    by_test : (t : Bool) → ends_authority b ≡ t → BeginsAfter (drop (position_or_len ends_authority bs) bs)
        → BeginsAfter (drop (position_or_len ends_authority (b ∷ bs)) (b ∷ bs))
    by_test true ends later =
        inr (
          b,
          bs,
          ap (λ t. drop (cond (not t) (1 + prefix_len (λ x. not (ends_authority x)) bs) 0) (b ∷ bs))
              ends,
          ends,
        )
    by_test false other later =
        let n = prefix_len (λ x. not (ends_authority x)) bs in
        let one : drop (1 + n) (b ∷ bs) ≡ drop n bs = ap (λ k. drop k (b ∷ bs)) (add-one-left n) in
        subst BeginsAfter (sym (ap (λ t. drop (cond (not t) (1 + n) 0) (b ∷ bs)) other ∙ one)) later

-- the bytes after an ASCII byte's place are text where all are
text_after : (front after : List ℕ) → IsUtf8 (front ++ after) → BeginsAfter after → IsUtf8 after
text_after front after text begins = elim begins as (λ _. IsUtf8 after) [
  | inl none ↦ subst IsUtf8 (sym none) IsUtf8-nil
  | inr some ↦ at_byte some.0 some.1 some.2 some.3
]
  where
    ends_small : (b : ℕ) → ends_authority b ≡ true → b < 128
    ends_small b ends = grind (arith, nat_tests)

    at_byte : (b : ℕ) (bs : List ℕ) → after ≡ b ∷ bs → ends_authority b ≡ true → IsUtf8 after
    at_byte b bs is ends =
        let whole : front ++ after ≡ front ++ b ∷ bs = ap (λ l. front ++ l) is in
        let inside : length front < length (front ++ b ∷ bs) = omega (arith, length-append front (b ∷ bs)) in
        let small : b < 128 = ends_small b ends in
        let byte = get_or-append_seam front b bs 0 in
        let here = IsUtf8-drop (front ++ b ∷ bs) (length front) (subst IsUtf8 whole text)
        (IsCharBoundary-before_ascii (front ++ b ∷ bs) (length front) inside
        (subst (λ k. k < 128) (sym byte) small)) in
        subst IsUtf8 (drop_at front (b ∷ bs) (length front) refl ∙ sym is) here

-- what is sent of an absolute target
abbrev IsGoodSent : List ℕ → Type 0
IsGoodSent target = IsGoodTarget target × IsSentTarget target

slash_good : IsGoodTarget (codes "/")
slash_good = record {
  some = omega arith;
  bytes = All-cons (λ b. IsTrue (is_uri_byte b)) 47 [] refl (All-nil _);
  text = ascii_text 47 (omega arith);
}

sent_good : (method after : List ℕ) → AllPass is_uri_byte after → IsUtf8 after → BeginsAfter after
    → IsGoodSent (sent_after method after)
sent_good method [] bytes text begins = by_method (bytes_eq method (codes "OPTIONS"))
  where
    by_method : (t : Bool) → IsGoodSent (cond t (codes "*") (codes "/"))
    by_method true = (star_good, inr refl)
    by_method false = (slash_good, inl refl)
sent_good method (b ∷ bs) bytes text begins = by_test (eqb b 63) refl
  where
    ends : ends_authority b ≡ true
    ends = elim begins as (λ _. ends_authority b ≡ true) [
      | inl none ↦ absurd (let e : b ∷ bs ≡ [] = none in cc)
      | inr some ↦ let e : b ∷ bs ≡ some.0 ∷ some.1 = some.2 in let same : b ≡ some.0 = cc in
          ap ends_authority same ∙ some.3
    ]

    slash : eqb b 63 ≡ false → ends_authority b ≡ true → eqb b 47 ≡ true
    slash other is = grind (arith, nat_tests)

    by_test : (t : Bool) → eqb b 63 ≡ t → IsGoodSent (cond t (47 ∷ b ∷ bs) (b ∷ bs))
    by_test true query = (
      record {
        some = omega arith;
        bytes = All-cons (λ x. IsTrue (is_uri_byte x)) 47 (b ∷ bs) refl bytes;
        text = IsUtf8-append (47 ∷ []) (b ∷ bs) slash_good.text text;
      },
      inl refl,
    )
    by_test false other = (record { some = omega arith; bytes = bytes; text = text }, inl (slash other ends))

uri_byte_valued : (b : ℕ) → IsTrue (is_uri_byte b) → IsTrue (is_value_byte b)
uri_byte_valued b uri = grind (arith, nat_tests)

uri_byte_solid : (b : ℕ) → IsTrue (is_uri_byte b) → IsTrue (is_solid b)
uri_byte_solid b uri = grind (arith, nat_tests)

-- ---- the parts of a target

-- a target and a host
abbrev pub Parts : Type 0
Parts = List ℕ × List ℕ

pub some_parts : (p q : Parts) → Some p ≡ Some q → p ≡ q
some_parts p q same = ap (λ o. unwrap_or o p) same

absolute_good : (method t first target host : List ℕ) → IsGoodTarget t
    → absolute_parts method (drop 7 t) ≡ Some (target, host)
    → is_absolute t ≡ true → AreGoodParts target host (is_absolute t) first
absolute_good method t first target host good parts absolute =
    by_test (eqb (length own) 0 || list_any is_at_sign own) parts
  where
    rest : List ℕ
    rest = drop 7 t

    n : ℕ
    n = position_or_len ends_authority rest

    own : List ℕ
    own = take n rest

    after : List ℕ
    after = drop n rest

    begins : BeginsAfter after
    begins = begins_after rest

    uri_rest : AllPass is_uri_byte rest
    uri_rest = All-drop (λ b. IsTrue (is_uri_byte b)) 7 t good.bytes

    uri_own : AllPass is_uri_byte own
    uri_own = All-take (λ b. IsTrue (is_uri_byte b)) n rest uri_rest

    whole : t ≡ (take 7 t ++ own) ++ after
    whole = sym (append_assoc (take 7 t) own after ∙ ap (λ l. take 7 t ++ l) (take-append-drop n rest)
        ∙ take-append-drop 7 t)

    sent : IsGoodSent (sent_after method after)
    sent = sent_good method after (All-drop (λ b. IsTrue (is_uri_byte b)) n rest uri_rest)
        (text_after (take 7 t ++ own) after (subst IsUtf8 whole good.text) begins) begins

    made : Parts
    made = (sent_after method after, own)

    wanted : Parts
    wanted = (target, host)

    by_test : (b : Bool) → cond b None (Some made) ≡ Some wanted
        → AreGoodParts target host (is_absolute t) first
    by_test true e = absurd (let f : None ≡ Some wanted = e in cc)
    by_test false e =
        let same = some_parts made wanted e in
        subst (λ (p : Parts). AreGoodParts p.0 p.1 (is_absolute t) first) same (record {
          good = sent.0;
          place = sent.1;
          value = All-weaker (λ b. IsTrue (is_uri_byte b))
              (λ b. IsTrue (is_value_byte b)) uri_byte_valued own uri_own;
          trimmed = trim_solid own (All-weaker (λ b. IsTrue (is_uri_byte b))
              (λ b. IsTrue (is_solid b)) uri_byte_solid own uri_own);
          own = λ relative. absurd (let f : true ≡ false = sym absolute ∙ relative in cc);
        })

parts_good : (method t first target host : List ℕ) → IsGoodTarget t → IsFieldValue first
    → trim_ows first ≡ first
    → target_parts method t first ≡ Some (target, host) → AreGoodParts target host (is_absolute t) first
parts_good method t first target host good valued trimmed parts = by_slash (begins_with_slash t) refl parts
  where
    wanted : Parts
    wanted = (target, host)

    named : List ℕ → Parts
    named sent = (sent, first)

    as_named : (sent : List ℕ) → IsGoodTarget sent → IsSentTarget sent → Some (named sent) ≡ Some wanted
        → AreGoodParts target host (is_absolute t) first
    as_named sent fine place e =
        subst (λ (p : Parts). AreGoodParts p.0 p.1 (is_absolute t) first) (some_parts (named sent) wanted e)
        (record { good = fine; place = place; value = valued; trimmed = trimmed; own = λ relative. refl })

    by_absolute : (b : Bool) → is_absolute t ≡ b → cond b (absolute_parts method (drop 7 t)) None
        ≡ Some wanted
        → AreGoodParts target host (is_absolute t) first
    by_absolute true absolute e = absolute_good method t first target host good e absolute
    by_absolute false other e = absurd (let f : None ≡ Some wanted = e in cc)

    by_star : (b : Bool) → cond b (Some (named (codes "*")))
        (cond (is_absolute t) (absolute_parts method (drop 7 t)) None) ≡ Some wanted
        → AreGoodParts target host (is_absolute t) first
    by_star true e = as_named (codes "*") star_good (inr refl) e
    by_star false e = by_absolute (is_absolute t) refl e

    by_slash : (b : Bool) → begins_with_slash t ≡ b
        → cond b (Some (named t)) (cond (bytes_eq t (codes "*") && bytes_eq method (codes "OPTIONS"))
        (Some (named (codes "*"))) (cond (is_absolute t) (absolute_parts method (drop 7 t)) None))
        ≡ Some wanted
        → AreGoodParts target host (is_absolute t) first
    by_slash true slash e = as_named t good (inl slash) e
    by_slash false other e = by_star (bytes_eq t (codes "*") && bytes_eq method (codes "OPTIONS")) e

-- ---- what the check saw

-- a request that passed named at most one host, and its target is one of those that are taken
pub record HasPassed (head : RequestHead) (target host : List ℕ) : Type 0 where
  pub hosts : has_wrong_hosts head.minor (count_named (codes "host") head.fields) ≡ false
  pub parts : target_parts head.method head.target (first_value (codes "host") head.fields)
      ≡ Some (target, host)

err_ok : (status : ℕ) (p : Parts) → ◌≡◌ {A = Result Parts ℕ} (Err status) (Ok p) → ⊥
err_ok status p same = cc

ok_parts : (p q : Parts) → ◌≡◌ {A = Result Parts ℕ} (Ok p) (Ok q) → p ≡ q
ok_parts p q same = cc

unrefused : (r : Option ℕ) (p q : Parts) → unless_refused r q ≡ Ok p → q ≡ p
unrefused None p q e = ok_parts q p e
unrefused (Some status) p q e = absurd (err_ok status p e)

opened : (c w : Bool) (o : Option Parts) (fields : List Field) (p : Parts)
    → cond c (Err 501) (cond w (Err 400) (with_parts o fields)) ≡ Ok p
    → (w ≡ false) × (o ≡ Some p)
opened true w o fields p e = absurd (err_ok 501 p e)
opened false true o fields p e = absurd (err_ok 400 p e)
opened false false None fields p e = absurd (err_ok 400 p e)
opened false false (Some q) fields p e =
    (refl, ap Some (unrefused (refusal_by (coding_named fields) (length_named fields)) p q e))

pub passed : (head : RequestHead) (target host : List ℕ) → check head ≡ Ok (target, host)
    → HasPassed head target host
passed head target host e =
    let open_ = opened (bytes_eq head.method (codes "CONNECT"))
    (has_wrong_hosts head.minor (count_named (codes "host") head.fields))
    (target_parts head.method head.target (first_value (codes "host") head.fields)) head.fields (
      target,
      host,
    ) e in
    record { hosts = open_.0; parts = open_.1 }

-- so both can stand in a head
pub passed_good : (head : RequestHead) (target host : List ℕ) → IsGoodTarget head.target
    → All IsPlainField head.fields → check head ≡ Ok (target, host)
    → AreGoodParts target host (is_absolute head.target) (first_value (codes "host") head.fields)
passed_good head target host good plain e =
    parts_good head.method head.target (first_value (codes "host") head.fields) target host good
    (first_valued (codes "host") head.fields plain)
    (first_trimmed (find (is_named (codes "host")) head.fields)) (passed head target host e).parts

-- ---- the Host fields that are sent on

few_hosts : (minor hosts : ℕ) → has_wrong_hosts minor hosts ≡ false → hosts ≤ 1
few_hosts minor hosts right = grind (arith, nat_tests)

filter_swap : (p q : Field → Bool) (fs : List Field) → filter p (filter q fs) ≡ filter q (filter p fs)
filter_swap p q [] = refl
filter_swap p q (f ∷ fs) = by_tests (p f) (q f) refl refl (filter_swap p q fs)
  where
    by_tests : (a b : Bool) → p f ≡ a → q f ≡ b → filter p (filter q fs) ≡ filter q (filter p fs)
        → filter p (filter q (f ∷ fs)) ≡ filter q (filter p (f ∷ fs))
    by_tests true true pa qb later = rw (qb, pa, qb) (ap (λ l. f ∷ l) later)
    by_tests true false pa qb later = rw (qb, pa, qb) later
    by_tests false true pa qb later = rw (qb, pa) later
    by_tests false false pa qb later = rw (qb, pa) later

found_first : (p : Field → Bool) (fs : List Field) (g : Field) → filter p fs ≡ g ∷ [] → find p fs ≡ Some g
found_first p [] g is = absurd (let e : [] ≡ g ∷ [] = is in cc)
found_first p (f ∷ fs) g is = by_test (p f) refl (found_first p fs g)
  where
    by_test : (t : Bool) → p f ≡ t → (filter p fs ≡ g ∷ [] → find p fs ≡ Some g) → find p (f ∷ fs) ≡ Some g
    by_test true passes later =
        let e : f ∷ filter p fs ≡ g ∷ [] =
        ap (λ t. cond t (f ∷ filter p fs) (filter p fs)) (sym passes) ∙ is in
        let same : f ≡ g = cc in
        ap (λ t. cond t (Some f) (find p fs)) passes ∙ ap Some same
    by_test false misses later =
        let e : filter p fs ≡ g ∷ [] = ap (λ t. cond t (f ∷ filter p fs) (filter p fs)) (sym misses) ∙ is in
        ap (λ t. cond t (Some f) (find p fs)) misses ∙ later e

-- at most one field, which has this value
pub data HasOneAtMost (fields : List Field) (value : List ℕ) : Type 0 where
  none : fields ≡ [] → HasOneAtMost fields value
  one : (g : Field) → fields ≡ g ∷ [] → value_of g ≡ value → HasOneAtMost fields value

-- of one Host field at most, one at most is sent on, with its value
pub sent_hosts : (head : RequestHead) (kept : Field → Bool) (fields : List Field)
    → has_wrong_hosts head.minor (count_named (codes "host") head.fields) ≡ false
    → filter (is_named (codes "host")) fields ≡ filter (is_named (codes "host")) (filter kept head.fields)
    → HasOneAtMost (filter (is_named (codes "host")) fields) (first_value (codes "host") head.fields)
sent_hosts head kept fields right same =
    by_list (filter (is_named (codes "host")) head.fields) refl
    (omega (
      arith,
      length-filter (is_named (codes "host")) head.fields,
      few_hosts head.minor (count_named (codes "host") head.fields) right,
    ))
    (same ∙ filter_swap (is_named (codes "host")) kept head.fields)
  where
    first : List ℕ
    first = first_value (codes "host") head.fields

    sent : List Field
    sent = filter (is_named (codes "host")) fields

    by_test : (g : Field) (t : Bool) → filter (is_named (codes "host")) head.fields ≡ g ∷ []
        → sent ≡ cond t (g ∷ []) [] → HasOneAtMost sent first
    by_test g true here e =
        one g e (sym (ap value_or_empty (found_first (is_named (codes "host")) head.fields g here)))
    by_test g false here e = none e

    by_list : (gs : List Field) → filter (is_named (codes "host")) head.fields ≡ gs → length gs ≤ 1
        → sent ≡ filter kept (filter (is_named (codes "host")) head.fields) → HasOneAtMost sent first
    by_list [] here few e = none (e ∙ ap (filter kept) here)
    by_list (g ∷ []) here few e = by_test g (kept g) here (e ∙ ap (filter kept) here)
    by_list (g ∷ h ∷ gs) here few e = absurd (omega arith)
