-- The first request of a client's bytes is a function of them.
use Rattle.std.proofs.Common.{◌≡◌, ℕ, ◌+◌, ◌<◌, ◌≤◌, Bool, true, List, [], ◌++◌, length, take, drop}
use Rattle.std.proofs.Common.{inl, inr, ⊎_elim, refl, sym, ap, subst, ◌∙◌, arith, length-append}
use Rattle.std.proofs.Common.{take-append-drop}
use Rattle.std.proofs.Common.{Option, Some, None}
use Rattle.std.specs.Prelude.{◌&&◌, map, nat_le}
use Rattle.std.proofs.lemmas.Bool.{and_from, and_parts, eq-eqb, eqb-true, le-leb, leb-true}
use Rattle.std.proofs.lemmas.List.{append-nil, length-drop, take-append-le, take_at}
use Rattle.httparse.specs.Grammar.{Field, print_request}
use Rattle.ts_wire.specs.Heads.{kept_field}
use Rattle.ts_wire.specs.Limits.{head_limit}
use Rattle.ts_wire.specs.RequestEnds.{end_of_parts, end_of_request}
use Rattle.ts_wire.specs.declared.ends.RequestEnd.{RequestEnd}
use Rattle.ts_wire.specs.declared.ends.RequestEnd.TheVariants as E
use Rattle.ts_session.specs.Cuts.{cuts}
use Rattle.ts_session.specs.FirstRequest.{FindsFirst, begins_with_head, first_request, is_body_by}
use Rattle.ts_session.specs.FirstRequest.{is_head_with}
use Rattle.ts_session.specs.FirstRequest.{is_whole_request, request_end, take_to}
use Rattle.ts_session.specs.Requests.{IsBodyBy, IsNext, IsRequest, LacksWhole}
use Rattle.ts_session.proofs.ChunksEnd.{least_found, least_none, least_there, not_true}
use Rattle.ts_session.proofs.ChunksEnd as chunks
use Rattle.ts_session.proofs.Cuts.{cut_found, cut_there}
use Rattle.ts_session.proofs.HeadTests.{head_found, head_there}
use Rattle.ts_session.proofs.OneList.{one_whole}

-- ---- a whole request

body_found : (end : RequestEnd) (bytes : List ℕ) → is_body_by end bytes ≡ true → IsBodyBy end bytes
unfolding is_body_by
body_found (E.Sized n) bytes found = eqb-true (length bytes) n found
body_found E.Chunked bytes found =
    let whole = chunks.whole_found bytes found in (whole.body, whole.ended, whole.over)
body_found E.Unknown bytes found = absurd (cc)

body_there : (end : RequestEnd) (bytes : List ℕ) → IsBodyBy end bytes → is_body_by end bytes ≡ true
unfolding is_body_by
body_there (E.Sized n) bytes long = eq-eqb (length bytes) n long
body_there E.Chunked bytes (body, ended, over) = chunks.whole_there bytes body ended over
body_there E.Unknown bytes never = absurd never

abbrev ends_in : List ℕ → List ℕ → List ℕ → ℕ → List Field → Bool
ends_in rest method target minor fields =
    is_body_by (end_of_parts method target minor (map kept_field fields)) rest

abbrev heads : List ℕ → List ℕ → Bool
heads head rest = nat_le (length head) head_limit && is_head_with (ends_in rest) head

pub whole_found : (bytes : List ℕ) → is_whole_request bytes ≡ true → IsRequest bytes
unfolding begins_with_head
whole_found bytes found =
    let cut = cut_found heads bytes found in
    let parts = and_parts (nat_le (length cut.first) head_limit) (is_head_with (ends_in cut.rest) cut.first) cut.passes in
    let h = head_found (ends_in cut.rest) cut.first parts.1 in
    record {
      head = h.head;
      whole = record {
        body = cut.rest;
        begins = record {
          reads = (h.good, cut.is ∙ ap (λ t. t ++ cut.rest) h.is);
          short = subst (λ t. length t ≤ head_limit) h.is (leb-true (length cut.first) head_limit parts.0);
          few = h.few;
        };
        ends = body_found (end_of_request h.head) cut.rest h.passes;
      };
    }

pub whole_there : (bytes : List ℕ) → IsRequest bytes → is_whole_request bytes ≡ true
unfolding begins_with_head
whole_there bytes r =
    let w = r.whole in
    let head : List ℕ = print_request r.head in
    subst (λ t. cuts heads t ≡ true) (sym w.begins.reads.1)
    (cut_there heads head w.body
    (and_from (nat_le (length head) head_limit) (is_head_with (ends_in w.body) head)
    (le-leb (length head) head_limit w.begins.short)
    (head_there (ends_in w.body) r.head w.begins.reads.0 w.begins.few
    (body_there (end_of_request r.head) w.body w.ends))))

-- ---- the first one

abbrev whole_front : List ℕ → ℕ → Bool
whole_front bytes n = is_whole_request (take n bytes)

end_whole : (first more : List ℕ) → IsRequest first → request_end (first ++ more) ≡ Some (length first)
end_whole first more r =
    least_there (whole_front (first ++ more)) 0 (length (first ++ more) + 1) (length first) (omega arith)
    (omega (arith, length-append first more))
    (ap is_whole_request (take_at first more (length first) refl) ∙ whole_there first r)
    (λ m below. not_true (whole_front (first ++ more) m) (λ so. early m below
    (whole_found (take m first)
    (sym (ap is_whole_request (take-append-le m first more (omega (arith, below)))) ∙ so))))
  where
    early : (m : ℕ) → m < length first → IsRequest (take m first) → ⊥
    early m below shorter =
        let none : drop m first ≡ [] =
        (one_whole (take m first) first (drop m first) [] shorter r
        (take-append-drop m first ∙ sym (append-nil first))).1 in
        omega (arith, below, ap length none, length-drop m first)

pub first_whole : (first more : List ℕ) → IsRequest first → first_request (first ++ more) ≡ first
first_whole first more r =
    ap (λ e. take_to e (first ++ more)) (end_whole first more r) ∙ take_at first more (length first) refl

pub first_lacks : (bytes : List ℕ) → LacksWhole bytes → first_request bytes ≡ bytes
first_lacks bytes lacks =
    let none : request_end bytes ≡ None =
    least_none (whole_front bytes) 0 (length bytes + 1)
    (λ m. not_true (whole_front bytes m)
    (λ so. lacks (take m bytes) (drop m bytes) (sym (take-append-drop m bytes)) (whole_found (take m bytes) so))) in
    ap (λ e. take_to e bytes) none

pub first_next : (bytes : List ℕ) → IsNext bytes (first_request bytes)
first_next bytes = by_end (request_end bytes) refl
  where
    by_end : (e : Option ℕ) → request_end bytes ≡ e → IsNext bytes (take_to e bytes)
    by_end None is = inl refl
    by_end (Some n) is = inr (
      drop n bytes,
      sym (take-append-drop n bytes),
      whole_found (take n bytes) (least_found (whole_front bytes) 0 (length bytes + 1) n is).1,
    )

-- it is no longer than they are
pub first_within : (bytes : List ℕ) → length (first_request bytes) ≤ length bytes
first_within bytes =
    ⊎_elim
    (λ (all : first_request bytes ≡ bytes). omega (arith, ap length all))
    (λ (n : (more : List ℕ) × (bytes ≡ first_request bytes ++ more) × IsRequest (first_request bytes)).
    omega (arith, ap length n.1, length-append (first_request bytes) n.0))
    (first_next bytes)

pub finds_first : FindsFirst
finds_first = record { whole = first_whole; lacks = first_lacks; next = first_next }
