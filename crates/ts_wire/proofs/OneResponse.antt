-- The bytes begin with at most one head, and what follows does not change it: responses.
use Rattle.std.proofs.Common.{◌≡◌, ℕ, ◌<◌, ◌≤◌, List, [], ◌∷◌, ◌++◌, length, None, drop, refl, sym, ap, subst, ◌∙◌, arith, length-append}
use Rattle.std.proofs.Math.Bridge.{le_prop}
use Rattle.std.specs.Prelude.{codes, IsTrue}
use Rattle.std.specs.Char.{is_ascii_digit}
use Rattle.std.proofs.lemmas.List.Elements.{All-nil}
use Rattle.http_header.proofs.TokenLemmas.{AllPass-from_test}
use Rattle.httparse.specs.Grammar.{is_value_byte, lf, IsField, ResponseHead, print_response}
use Rattle.httparse.proofs.GrammarLemmas.{response_unique}
use Rattle.ts_wire.specs.declared.fields.Field.{Field}
use Rattle.ts_wire.specs.declared.heads.ResponseHead as kept
use Rattle.ts_wire.specs.Limits.{status_limit}
use Rattle.ts_wire.specs.Heads.{BeginsWithResponse, KeepsResponse, IsResponseOf, IsOneResponse, LacksResponse}
use Rattle.ts_wire.specs.OneHead.{IsReadResponse}
use Rattle.ts_wire.proofs.ResponseLemmas.{response_some}

pub one_response : (bytes : List ℕ) (h k : ResponseHead) (r q : List ℕ) → BeginsWithResponse bytes h r
    → BeginsWithResponse bytes k q → (h ≡ k) × (r ≡ q)
one_response bytes h k r q a b = response_unique bytes h k r q a.reads b.reads

pub is_one_response : (bytes : List ℕ) (head : kept.ResponseHead) (used : ℕ) → IsResponseOf bytes head used
    → IsOneResponse bytes head used
is_one_response bytes head used is h rest begins =
    let same = one_response bytes is.parsed h (drop used bytes) rest is.begins begins in
    (subst (λ p. KeepsResponse p head) same.0 is.keeps, sym same.1)

-- every head that is read is kept of a head of the grammar
pub was_read : (bytes : List ℕ) (head : kept.ResponseHead) (used : ℕ) → IsResponseOf bytes head used
    → IsReadResponse head
was_read bytes head used is = record { parsed = is.parsed; good = is.begins.reads.0; keeps = is.keeps }

-- the parts of a head, without the facts on its status and its version
abbrev Parts : Type 0
Parts = ℕ × List ℕ × ℕ × List Field

abbrev made : (p : Parts) → p.0 ≤ status_limit → p.2 ≤ 1 → kept.ResponseHead
made p digits version =
    record { status = p.0; reason = p.1; minor = p.2; fields = p.3; digits = digits; version = version }

-- two heads that are kept of one are the same
pub one_kept : (h : ResponseHead) (a b : kept.ResponseHead) → KeepsResponse h a → KeepsResponse h b → a ≡ b
one_kept h a b x y =
    subst (λ (p : Parts). (digits : p.0 ≤ status_limit) (version : p.2 ≤ 1) → a ≡ made p digits version) same
    (λ digits version i. made parts (one_status a.digits digits i) (one_version a.version version i)) b.digits
    b.version
  where
    parts : Parts
    parts = (a.status, a.reason, a.minor, a.fields)

    others : Parts
    others = (b.status, b.reason, b.minor, b.fields)

    same : parts ≡ others
    same = λ i. (
      (x.status ∙ sym y.status) i,
      (x.reason ∙ sym y.reason) i,
      (x.minor ∙ sym y.minor) i,
      (x.fields ∙ sym y.fields) i,
    )

    one_status : IsProp (a.status ≤ status_limit)
    one_status = le_prop

    one_version : IsProp (a.minor ≤ 1)
    one_version = le_prop

-- a head that may come where nothing is there yet
abbrev short_head : ResponseHead
short_head =
    record {
      blank = [];
      minor = 1;
      digits = codes "200";
      reason = None;
      line_end = lf;
      fields = [];
      last = lf;
    }

short_begins : BeginsWithResponse (print_response short_head) short_head []
unfolding print_response
short_begins = record {
  reads = (
    record {
      minor = omega arith;
      digits = (refl, AllPass-from_test is_ascii_digit (codes "200") refl);
      reason = All-nil (λ b. IsTrue (is_value_byte b));
      fields = All-nil IsField;
    },
    refl,
  );
  short = omega arith;
  few = omega arith;
}

-- no bytes begin with no head
pub lacks_nil : LacksResponse []
lacks_nil h rest begins =
    omega (arith, ap length begins.reads.1, length-append (print_response h) rest, response_some h)

-- so where no head can come, there are bytes
pub some_bytes : (bytes : List ℕ) → ((more : List ℕ) → LacksResponse (bytes ++ more)) → 0 < length bytes
some_bytes [] lacks = absurd (lacks (print_response short_head) short_head [] short_begins)
some_bytes (b ∷ bytes) lacks = omega arith
