-- What holds of a result either way.
use Rattle.std.proofs.Common.{◌≡◌, ◌⊎◌, inl, inr, Ok, Err, Result, sym, subst}
use Rattle.std.specs.Result.{OnOk, OnErr, IsErrAnd}

module _ {A E : Type 0} where
  -- one of the two facts holds
  pub either_way : (r : Result A E) (P Q : Type 0) → OnOk r P → OnErr r Q → P ⊎ Q
  either_way (Ok a) P Q ok err = inl ok
  either_way (Err e) P Q ok err = inr err

  -- what follows from either fact
  pub on_either : (r : Result A E) (P Q C : Type 0) → OnOk r P → OnErr r Q → (P → C) → (Q → C) → C
  on_either (Ok a) P Q C ok err from_ok from_err = from_ok ok
  on_either (Err e) P Q C ok err from_ok from_err = from_err err

  -- a fact that holds whatever the result is
  pub on_ok_any : {P : Type 0} (r : Result A E) → P → OnOk r P
  on_ok_any (Ok a) p = p
  on_ok_any (Err e) p = tt

  pub on_err_any : {P : Type 0} (r : Result A E) → P → OnErr r P
  on_err_any (Ok a) p = tt
  on_err_any (Err e) p = p

  -- a result that is this error
  pub by_error : (P : Result A E → Type 0) (r : Result A E) (e : E) → IsErrAnd r (λ x. x ≡ e) → P (Err e)
      → P r
  by_error P (Ok a) e is p = absurd is
  by_error P (Err x) e is p = subst (λ y. P (Err y)) (sym is) p
