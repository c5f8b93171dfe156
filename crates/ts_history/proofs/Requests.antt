-- The requests of a connection, one behind the other, among all that its client gives.
use Rattle.std.proofs.Common.{◌≡◌, ℕ, zero, suc, ◌<◌, ◌≤◌, List, [], ◌∷◌, ◌++◌, length, Bool, true, false}
use Rattle.std.proofs.Common.{refl, sym, ap, subst}
use Rattle.std.proofs.Common.{inl, inr, ⊎_elim, ◌∙◌, append_assoc, arith, length-append}
use Rattle.std.proofs.lemmas.List.{append-nil}
use Rattle.std.proofs.lemmas.List.Elements.{All-head, All-tail}
use Rattle.std.specs.List.{concat}
use Rattle.std.specs.Prelude.{All}
use Rattle.ts_history.specs.History.{AreFirst, HaveRequests, TakeFirst}
use Rattle.ts_session.proofs.FirstRequest.{finds_first, whole_found, whole_there}
use Rattle.ts_session.proofs.FoundHeads.{begins_some}
use Rattle.ts_session.proofs.OneList.{one_whole}
use Rattle.ts_session.specs.FirstRequest.{first_request, is_whole_request}
use Rattle.ts_session.specs.Requests.{AreRequests, IsRequest, LacksWhole, next, none}

-- a request is not empty
pub some_request : (bytes : List ℕ) → IsRequest bytes → 0 < length bytes
some_request bytes r = begins_some bytes r.head r.whole.body r.whole.begins

-- ---- the first members

take_from : (bytes : List ℕ) (requests : List (List ℕ)) (rest : List ℕ) (members : List (List ℕ))
    (left : List ℕ) → bytes ≡ concat requests ++ rest → All IsRequest requests → AreRequests bytes members left
    → AreFirst requests (first_request rest) members left
take_from bytes [] rest members left same whole (none all lacks) =
    inr (refl, ap first_request (sym same) ∙ finds_first.lacks bytes lacks)
take_from bytes [] rest members left same whole (next first more last others one later) =
    inl (
      others,
      ap (λ (r : List ℕ). r ∷ others) (sym (finds_first.whole first more one)
          ∙ ap first_request same),
    )
take_from bytes (r ∷ rs) rest members left same whole (none all lacks) =
    absurd (lacks r (concat rs ++ rest) (same ∙ append_assoc r (concat rs) rest)
    (All-head IsRequest r rs whole))
take_from bytes (r ∷ rs) rest members left same whole (next first more last others one later) =
    let cut = one_whole first r more (concat rs ++ rest) one (All-head IsRequest r rs whole)
    (same ∙ append_assoc r (concat rs) rest) in
    ⊎_elim
    (λ (n : (behind : List (List ℕ)) × (others ≡ rs ++ (first_request rest ∷ behind))).
    inl (n.0, λ i. cut.0 i ∷ n.1 i))
    (λ (n : (others ≡ rs) × (first_request rest ≡ last)). inr ((λ i. cut.0 i ∷ n.0 i), n.1))
    (take_from more rs rest others last cut.1 (All-tail IsRequest r rs whole) later)

pub take_first : TakeFirst
take_first requests rest whole members left are =
    take_from (concat requests ++ rest) requests rest members left refl whole are

-- ---- all bytes have requests

abbrev Cut : List ℕ → Type 0
Cut bytes = (members : List (List ℕ)) × (left : List ℕ) × AreRequests bytes members left

none_whole : LacksWhole []
none_whole first more same one =
    absurd (omega (arith, some_request first one, ap length same, length-append first more))

-- a request in front of bytes that are cut
cut_next : (bytes first more : List ℕ) → bytes ≡ first ++ more → IsRequest first → Cut more → Cut bytes
cut_next bytes first more same one (members, left, are) = (
  first ∷ members,
  left,
  subst (λ b. AreRequests b (first ∷ members) left) (sym same)
      (next first more left members one are),
)

-- where the first request is all of the bytes, that is the only one, or there is none
cut_all : (bytes : List ℕ) → first_request bytes ≡ bytes → (whole : Bool) → is_whole_request bytes ≡ whole
    → Cut bytes
cut_all bytes all true whole =
    cut_next bytes bytes [] (sym (append-nil bytes)) (whole_found bytes whole) ([], [], none [] none_whole)
cut_all bytes all false whole = (
  [],
  bytes,
  none bytes (λ first more same one.
      let first_is : first ≡ bytes =
      sym (finds_first.whole first more one) ∙ ap first_request (sym same) ∙ all in
      let wrong : true ≡ false = sym (whole_there bytes (subst IsRequest first_is one)) ∙ whole in
      absurd (cc)),
)

cut_from : (most : ℕ) (bytes : List ℕ) → length bytes ≤ most → Cut bytes
cut_from zero [] short = ([], [], none [] none_whole)
cut_from zero (b ∷ bytes) short = absurd (omega (arith, short))
cut_from (suc most) bytes short =
    ⊎_elim
    (λ (all : first_request bytes ≡ bytes). cut_all bytes all (is_whole_request bytes) refl)
    (λ (n : (more : List ℕ) × (bytes ≡ first_request bytes ++ more) × IsRequest (first_request bytes)).
    cut_next bytes (first_request bytes) n.0 n.1 n.2 (cut_from most n.0 (omega (
      arith,
      short,
      ap length n.1,
      length-append (first_request bytes) n.0,
      some_request (first_request bytes) n.2,
    ))))
    (finds_first.next bytes)

pub have_requests : HaveRequests
have_requests bytes = cut_from (length bytes) bytes (omega arith)
