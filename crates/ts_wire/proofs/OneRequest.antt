-- The bytes begin with at most one head, and what follows does not change it: requests.
use Rattle.std.proofs.Common.{◌≡◌, ℕ, ◌<◌, ◌≤◌, List, [], ◌∷◌, ◌++◌, length, drop, refl, sym, ap, subst, ◌∙◌, arith}
use Rattle.std.proofs.Math.Bridge.{le_prop}
use Rattle.std.specs.Prelude.{codes}
use Rattle.std.proofs.lemmas.Str.{IsUtf8-from_ascii}
use Rattle.std.proofs.lemmas.Str.Ascii.{IsAscii-from_all}
use Rattle.std.proofs.lemmas.List.Elements.{All-nil, All-cons}
use Rattle.http_header.proofs.TokenLemmas.{AllPass-from_test}
use Rattle.httparse.specs.Grammar.{is_token_byte, is_uri_byte, lf, IsField, RequestHead, print_request}
use Rattle.httparse.proofs.GrammarLemmas.{request_unique}
use Rattle.ts_wire.specs.declared.fields.Field.{Field}
use Rattle.ts_wire.specs.declared.heads.RequestHead as kept
use Rattle.ts_wire.specs.Heads.{BeginsWithRequest, KeepsRequest, IsRequestOf, IsOneRequest, LacksRequest}
use Rattle.ts_wire.specs.OneHead.{IsReadRequest}

pub one_request : (bytes : List ℕ) (h k : RequestHead) (r q : List ℕ) → BeginsWithRequest bytes h r
    → BeginsWithRequest bytes k q → (h ≡ k) × (r ≡ q)
one_request bytes h k r q a b = request_unique bytes h k r q a.reads b.reads

pub is_one_request : (bytes : List ℕ) (head : kept.RequestHead) (used : ℕ) → IsRequestOf bytes head used
    → IsOneRequest bytes head used
is_one_request bytes head used is h rest begins =
    let same = one_request bytes is.parsed h (drop used bytes) rest is.begins begins in
    (subst (λ p. KeepsRequest p head) same.0 is.keeps, sym same.1)

-- every head that is read is kept of a head of the grammar
pub was_read : (bytes : List ℕ) (head : kept.RequestHead) (used : ℕ) → IsRequestOf bytes head used
    → IsReadRequest head
was_read bytes head used is = record { parsed = is.parsed; good = is.begins.reads.0; keeps = is.keeps }

-- the parts of a head, without the fact on its version
abbrev Parts : Type 0
Parts = List ℕ × List ℕ × ℕ × List Field

abbrev made : (p : Parts) → p.2 ≤ 1 → kept.RequestHead
made p version = record { method = p.0; target = p.1; minor = p.2; fields = p.3; version = version }

-- two heads that are kept of one are the same
pub one_kept : (h : RequestHead) (a b : kept.RequestHead) → KeepsRequest h a → KeepsRequest h b → a ≡ b
one_kept h a b x y = subst (λ (p : Parts). (version : p.2 ≤ 1)
    → a ≡ made p version) same (λ version. ap (made parts) (one_version a.version version)) b.version
  where
    parts : Parts
    parts = (a.method, a.target, a.minor, a.fields)

    others : Parts
    others = (b.method, b.target, b.minor, b.fields)

    same : parts ≡ others
    same = λ i. (
      (x.method ∙ sym y.method) i,
      (x.target ∙ sym y.target) i,
      (x.minor ∙ sym y.minor) i,
      (x.fields ∙ sym y.fields) i,
    )

    one_version : IsProp (a.minor ≤ 1)
    one_version = le_prop

-- a head that may come where nothing is there yet
abbrev short_head : RequestHead
short_head = record {
  blank = [];
  method = codes "A";
  target = codes "/";
  minor = 1;
  line_end = lf;
  fields = [];
  last = lf;
}

short_begins : BeginsWithRequest (print_request short_head) short_head []
unfolding print_request is_token_byte
short_begins = record {
  reads = (
    record {
      method = (omega arith, AllPass-from_test is_token_byte (codes "A") refl);
      target = (omega arith, AllPass-from_test is_uri_byte (codes "/") refl);
      target_text = IsUtf8-from_ascii (codes "/")
          (IsAscii-from_all (codes "/") (All-cons (λ b. b < 128) 47 [] (omega arith) (All-nil _)));
      minor = omega arith;
      fields = All-nil IsField;
    },
    refl,
  );
  short = omega arith;
  few = omega arith;
}

-- so where no head can come, there are bytes
pub some_bytes : (bytes : List ℕ) → ((more : List ℕ) → LacksRequest (bytes ++ more)) → 0 < length bytes
some_bytes [] lacks = absurd (lacks (print_request short_head) short_head [] short_begins)
some_bytes (b ∷ bytes) lacks = omega arith
