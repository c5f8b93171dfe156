-- A head ends with a line feed, so none ends within bytes that have none.
use Rattle.std.proofs.Common.{◌≡◌, ◌∙◌, ◌-◌, ◌++◌, ◌||◌, ℕ, Bool, true, false, List, [], ◌∷◌}
use Rattle.std.proofs.Common.{ap, append_assoc, drop, length, refl, sym, take}
use Rattle.std.specs.Prelude.{◌==◌, flat_map}
use Rattle.std.specs.List.{list_any}
use Rattle.std.proofs.lemmas.List.{take-append-drop}
use Rattle.httparse.specs.Ascii.{carriage_return, line_feed, space}
use Rattle.httparse.specs.Grammar.{Field, LineEnd, RequestHead, crlf, lf, print_blank, print_end, print_field}
use Rattle.httparse.specs.Grammar.{print_request, print_section, print_version}
use Rattle.ts_wire.specs.Heads.{LacksRequest}
use Rattle.ts_session.specs.Held.{before_last}

-- a text that ends with a line feed
abbrev fed : List ℕ → List ℕ
fed front = front ++ line_feed ∷ []

-- the fields of a head with its empty line are one
section_fed : (fields : List Field) (last : LineEnd)
    → (front : List ℕ) × (print_section fields last ≡ fed front)
section_fed fields lf = (flat_map print_field fields, refl)
section_fed fields crlf = (
  flat_map print_field fields ++ carriage_return ∷ [],
  sym (append_assoc (flat_map print_field fields) (carriage_return ∷ []) (line_feed ∷ [])),
)

-- and so is a request's head
request_fed : (h : RequestHead) → (front : List ℕ) × (print_request h ≡ fed front)
unfolding print_request
request_fed h =
    let line : List ℕ = print_blank h.blank
    ++ h.method ++ space ∷ h.target ++ space ∷ print_version h.minor ++ print_end h.line_end in
    let section = section_fed h.fields h.last in (
      line ++ section.0,
      ap (λ s. line ++ s) section.1 ∙ sym (append_assoc line section.0 (line_feed ∷ [])),
    )

second_or : (a b : Bool) → b ≡ true → (a || b) ≡ true
second_or true b is = refl
second_or false b is = is

-- the line feed is in it
feed_in : (front rest : List ℕ) → list_any (λ b. b == line_feed) (fed front ++ rest) ≡ true
feed_in [] rest = refl
feed_in (f ∷ front) rest =
    second_or (f == line_feed) (list_any (λ b. b == line_feed) (fed front ++ rest)) (feed_in front rest)

-- Bytes without a line feed stand behind others: a text that ends with one and stands at the front of both
-- stands at the front of the others.
feed_before : (before more front rest : List ℕ) → before ++ more ≡ fed front ++ rest
    → list_any (λ b. b == line_feed) more ≡ false → (left : List ℕ) × (before ≡ fed front ++ left)
feed_before [] more front rest is none =
    let wrong : true ≡ false =
    sym (feed_in front rest) ∙ ap (list_any (λ b. b == line_feed)) (sym is) ∙ none in
    absurd (cc)
feed_before (b ∷ before) more [] rest is none =
    let first : b ≡ line_feed = cc in (before, ap (λ x. x ∷ before) first)
feed_before (b ∷ before) more (f ∷ front) rest is none =
    let first : b ≡ f = cc in
    let behind : before ++ more ≡ fed front ++ rest = cc in
    let left = feed_before before more front rest behind none in
    (left.0, λ i. first i ∷ left.1 i)

-- no head comes with bytes that have none
pub still_lacks : (bytes : List ℕ) (fresh : ℕ)
    → list_any (λ b. b == line_feed) (drop (length bytes - fresh) bytes) ≡ false
    → LacksRequest (before_last fresh bytes) → LacksRequest bytes
still_lacks bytes fresh none lacks h rest begins =
    let at = length bytes - fresh in
    let head = request_fed h in
    let left = feed_before (take at bytes) (drop at bytes) head.0 rest
    (take-append-drop at bytes ∙ begins.reads.1 ∙ ap (λ t. t ++ rest) head.1) none in
    lacks h left.0 (record {
      reads = (begins.reads.0, left.1 ∙ ap (λ t. t ++ left.0) (sym head.1));
      short = begins.short;
      few = begins.few;
    })
