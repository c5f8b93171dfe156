-- Tokens in a wheel and among tickets.
use Rattle.std.proofs.Common.{◌≡◌, ℕ, ◌+◌, ◌<◌, ◌≤◌, inl, inr, Bool, true, false, cond, ltb, leb, List, [], ◌∷◌, Some, None, refl, ap, ◌∙◌, subst, All, arith}
use Rattle.std.proofs.lemmas.List.Elements.{All-nil, All-cons, All-head, All-tail}
use Rattle.std.proofs.lemmas.List.Sums.{sum_by-cons}
use Rattle.ts_queue.specs.declared.ticket.Token.{Token}
use Rattle.ts_queue.specs.declared.ticket.Ticket.{Ticket}
use Rattle.ts_queue.specs.declared.view.PassView.{PassView}
use Rattle.ts_queue.specs.Tickets.{is_same_token}
use Rattle.ts_queue.specs.Passes.{TakesTicket}
use Rattle.ts_slot.specs.Lists.{IsIn}
use Rattle.ts_wheel.specs.Due.{added, first_due, after_due}
use Rattle.ts_thread.specs.News.{in_wheel, in_tickets}
use Rattle.ts_thread.specs.Tokens.{AllName, LetsGo}

pub same_some : {X : Type 0} (x y : X) → Some x ≡ Some y → x ≡ y
same_some x y e = cc

-- the first token that is due is one of the wheel
pub first_named : (groups now : ℕ) (wheel : List (ℕ × Token)) (t : Token) → AllName groups wheel
    → first_due now wheel ≡ Some t → t.group < groups
first_named groups now [] t all h = absurd (cc)
first_named groups now (e ∷ es) t all h = by_test (leb e.0 now) h
  where
    by_test : (b : Bool) → cond b (Some e.1) None ≡ Some t → t.group < groups
    by_test true same = subst (λ (u : Token). u.group < groups) (same_some e.1 t same)
        (All-head (λ (x : ℕ × Token). x.1.group < groups) e es all)
    by_test false same = absurd (cc)

pub lets_go_none : (groups : ℕ) (v : PassView) → LetsGo groups v v
lets_go_none groups v = record {
  gone = [];
  foreign = All-nil (λ (t : Ticket). groups ≤ t.token.group);
  is =
      refl;
}

pub lets_go_one : (groups : ℕ) (u v w : PassView) (t : Ticket) → LetsGo groups u v → TakesTicket v t w
    → groups ≤ t.token.group → LetsGo groups u w
lets_go_one groups u v w t was takes foreign = record {
  gone = t ∷ was.gone;
  foreign = All-cons (λ (x : Ticket). groups ≤ x.token.group) t was.gone foreign was.foreign;
  is = takes.adds ∙ ap (λ (x : PassView). record x { taken = t ∷ x.taken }) was.is;
}

-- 1 where the test holds, and else 0
abbrev pub one_if : Bool → ℕ
one_if b = cond b 1 0

module _ {T : Type 0} where
  pub in_added : (due : ℕ) (t : T) (es : List (ℕ × T)) (e : ℕ × T) → IsIn e es → IsIn e (added due t es)
  in_added due t [] e h = absurd h
  in_added due t (x ∷ xs) e h =
      elim (ltb due x.0) as (λ b. IsIn e (cond b ((due, t) ∷ x ∷ xs) (x ∷ added due t xs))) [
        | true ↦ inr h
        | false ↦ elim h [ inl here ↦ inl here | inr more ↦ inr (in_added due t xs e more) ]
      ]

  pub All-added : (P : ℕ × T → Type 0) (due : ℕ) (t : T) (xs : List (ℕ × T)) → P (due, t) → All P xs
      → All P (added due t xs)
  All-added P due t [] p all = All-cons P (due, t) [] p all
  All-added P due t (x ∷ xs) p all =
      elim (ltb due x.0) as (λ b. All P (cond b ((due, t) ∷ x ∷ xs) (x ∷ added due t xs))) [
        | true ↦ All-cons P (due, t) (x ∷ xs) p all
        | false ↦ All-cons P x (added due t xs) (All-head P x xs all)
            (All-added P due t xs p (All-tail P x xs all))
      ]

  pub All-after : (P : ℕ × T → Type 0) (now : ℕ) (xs : List (ℕ × T)) → All P xs → All P (after_due now xs)
  All-after P now [] all = all
  All-after P now (x ∷ xs) all =
      elim (leb x.0 now) as (λ b. All P (cond b xs (x ∷ xs))) [ true ↦ All-tail P x xs all | false ↦ all ]

  pub is_added : (due : ℕ) (t : T) (es : List (ℕ × T)) → IsIn (due, t) (added due t es)
  is_added due t [] = inl refl
  is_added due t (x ∷ xs) =
      elim (ltb due x.0) as (λ b. IsIn (due, t) (cond b ((due, t) ∷ x ∷ xs) (x ∷ added due t xs))) [
        | true ↦ inl refl
        | false ↦ inr (is_added due t xs)
      ]

pub wheel-cons : (t : Token) (e : ℕ × Token) (es : List (ℕ × Token))
    → in_wheel t (e ∷ es) ≡ one_if (is_same_token t e.1) + in_wheel t es
wheel-cons t e es = sum_by-cons (λ (x : ℕ × Token). one_if (is_same_token t x.1)) e es

pub tickets-cons : (t : Token) (u : Ticket) (us : List Ticket)
    → in_tickets t (u ∷ us) ≡ one_if (is_same_token t u.token) + in_tickets t us
tickets-cons t u us = sum_by-cons (λ (x : Ticket). one_if (is_same_token t x.token)) u us

pub wheel-added : (t : Token) (due : ℕ) (u : Token) (es : List (ℕ × Token))
    → in_wheel t (added due u es) ≡ in_wheel t es + one_if (is_same_token t u)
wheel-added t due u [] = let a = wheel-cons t (due, u) [] in omega arith
wheel-added t due u (x ∷ xs) =
    elim (ltb due x.0) as (λ b. in_wheel t (cond b ((due, u) ∷ x ∷ xs) (x ∷ added due u xs)) ≡ in_wheel t
    (x ∷ xs) + one_if (is_same_token t u)) [
      | true ↦ let a = wheel-cons t (due, u) (x ∷ xs) in omega arith
      | false ↦ let a = wheel-cons t x (added due u xs) in let b = wheel-cons t x xs in let c = wheel-added t
          due u xs in omega arith
    ]
