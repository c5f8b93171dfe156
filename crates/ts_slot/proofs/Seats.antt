-- Seats are split and joined, and the rule holds again.
use Rattle.std.proofs.Common.{◌≡◌, ◌≢◌, ℕ, ◌+◌, ◌<◌, ◌≤◌, List, [], ◌∷◌, ◌++◌, set, refl, sym, ap, ◌∙◌, subst, ⊎_elim, arith}
use Rattle.std.specs.Prelude.{Option}
use Rattle.std.proofs.lemmas.Bool.Decides.{nat_tests}
use mathlib.Core.Option.{some}
use lib.ListN.{get_elem?}
use Rattle.atomic_table.specs.Table.{State, Splits, Joins}
use Rattle.atomic_table.proofs.Lists.{at_set, at_snoc, set_else}
use Rattle.ts_slot.specs.declared.view.SeatView.{SeatView}
use Rattle.ts_slot.specs.Lists.{same, traced, entries}
use Rattle.ts_slot.specs.Views.{within, owns, nobody, left_half, right_half, joined}
use Rattle.ts_slot.specs.Rule.{ViewOk}
use Rattle.ts_slot.proofs.Lists.{total_set, total_append, each_append}
use Rattle.ts_slot.proofs.Kept.{Rule, kept_views}

-- the least free number is one of them, and the others are free still
within_split : (a b x : ℕ) → a < b → same a x + within (a + 1) b x ≡ within a b x
within_split a b x less = grind (arith, nat_tests)

within_empty : (x : ℕ) → within 0 0 x ≡ 0
within_empty x = grind (arith, nat_tests)

module _ {X G T : Type 0} (fits : G → X → Type 0) (stamp : X → ℕ) (trace : X → T) (follows : T → T → Type 0)
    (tags : List G) where
  abbrev R : State (Option X) (SeatView G T) → Type 0
  R = Rule fits stamp trace follows tags

  pub splits : (id : ℕ) (v : SeatView G T) → 2 ≤ v.share → v.free_from < v.free_to
      → Splits R id v (left_half v) (right_half v)
  splits id v share less s K at =
      let views : List (SeatView G T) = set s.views id (left_half v) in
      let ok : ViewOk tags s.words K.history v = K.each_view id v at in
      let left_ok : ViewOk tags s.words K.history (left_half v) = record {
        about = λ _. ok.about (omega arith);
        held = ok.held;
        missed = ok.missed;
        known = ok.known;
        blank =
            λ z. absurd (omega arith);
      } in
      let right_ok : ViewOk tags s.words K.history (right_half v) = record {
        about = λ _. ok.about (omega arith);
        held = tt;
        missed = tt;
        known = ok.known;
        blank = λ z. absurd
            (omega arith);
      } in
      kept_views fits stamp trace follows tags s K s.homes (views ++ right_half v ∷ []) refl (λ j _. refl)
      (λ j. let a = total_set (λ (u : SeatView G T). traced j u.held) s.views id v (left_half v) at in let b =
      total_append (λ (u : SeatView G T). traced j u.held) views (right_half v ∷ []) in omega arith)
      (λ j. let a = total_set (λ (u : SeatView G T). entries j u.turns) s.views id v (left_half v) at in let b
      =
      total_append (λ (u : SeatView G T). entries j u.turns) views (right_half v ∷ []) in omega arith)
      (let a = total_set (λ (u : SeatView G T). u.share) s.views id v (left_half v) at in let b = total_append
      (λ (u : SeatView G T). u.share) views (right_half v ∷ []) in omega arith)
      (λ x.
      let a = total_set (owns x) s.views id v (left_half v) at in let b = total_append (owns x) views
      (right_half v ∷ []) in let c = K.apart x in
      let d = within_split v.free_from v.free_to x less in let e = within_empty x in omega arith)
      (λ j u e. ⊎_elim
      (λ (old : get_elem? views j ≡ some u). ⊎_elim
      (λ (y : (j ≡ id) × (left_half v ≡ u)). subst (ViewOk tags s.words K.history) y.1 left_ok)
      (λ (y : (j ≢ id) × (get_elem? s.views j ≡ some u)). K.each_view j u y.1)
      (at_set s.views id j (left_half v) u old))
      (λ (new : right_half v ≡ u). subst (ViewOk tags s.words K.history) new right_ok)
      (at_snoc views (right_half v) u j e))

  pub joins : (id : ℕ) (v : SeatView G T) (other : ℕ) (w : SeatView G T) → 0 < v.share → w.held ≡ []
      → Joins R id v other w (joined v w) nobody
  joins id v other w alive idle s K at apart there =
      let both : SeatView G T = joined v w in
      let views : List (SeatView G T) = set s.views id both in
      let ok : ViewOk tags s.words K.history v = K.each_view id v at in
      let there' : get_elem? s.views other ≡ some w = sym (set_else s.views id other both apart) ∙ there in
      let ok' : ViewOk tags s.words K.history w = K.each_view other w there' in
      let both_ok : ViewOk tags s.words K.history both = record {
        about = λ _. ok.about alive;
        held = ok.held;
        missed = ok.missed;
        known = each_append _ w.known
            v.known ok'.known ok.known;
        blank = λ z. absurd (omega arith);
      } in
      let spent_ok : ViewOk tags s.words K.history nobody = record
      { about = λ z. absurd (omega arith); held = tt; missed = tt; known = tt; blank = λ _. refl } in
      kept_views fits stamp trace follows tags s K s.homes (set views other nobody) refl (λ j _. refl)
      (λ j.
      let a = total_set (λ (u : SeatView G T). traced j u.held) s.views id v both at in let b = total_set
      (λ (u : SeatView G T). traced j u.held) views other w nobody there in
      let c : traced j w.held ≡ 0 = ap (λ (l : List (ℕ × ℕ × T)). traced j l) idle in omega arith)
      (λ j.
      let a = total_set (λ (u : SeatView G T). entries j u.turns) s.views id v both at in let b = total_set
      (λ (u : SeatView G T). entries j u.turns) views other w nobody there in
      let c = total_append (λ (e : ℕ × ℕ). same e.0 j) w.turns v.turns in omega arith)
      (let a = total_set (λ (u : SeatView G T). u.share) s.views id v both at in let b = total_set
      (λ (u : SeatView G T). u.share) views other w nobody there in omega arith)
      (λ x.
      let a = total_set (owns x) s.views id v both at in let b = total_set (owns x) views other w nobody there
      in let c = K.apart x in let e = within_empty x in omega arith)
      (λ j u e. ⊎_elim
      (λ (y : (j ≡ other) × (nobody ≡ u)). subst (ViewOk tags s.words K.history) y.1 spent_ok)
      (λ (z : (j ≢ other) × (get_elem? views j ≡ some u)). ⊎_elim
      (λ (y : (j ≡ id) × (both ≡ u)). subst (ViewOk tags s.words K.history) y.1 both_ok)
      (λ (y : (j ≢ id) × (get_elem? s.views j ≡ some u)). K.each_view j u y.1)
      (at_set s.views id j both u z.1))
      (at_set views other j nobody u e))
