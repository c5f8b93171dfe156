-- The stage before one that worked is called, unless it was roused.
use Rattle.std.proofs.Common.{◌≡◌, ◌≢◌, ℕ, zero, suc, ◌+◌, inl, inr, List, [], ◌∷◌, Bool, true, false, Option, Some, None, slice_get, arith, refl, sym, ap, subst, ◌∙◌}
use Rattle.ts_journal.specs.declared.entry.Event.{Event}
use Rattle.ts_journal.specs.declared.entry.Event.TheVariants.{WriteReady}
use Rattle.ts_journal.specs.declared.entry.Pending.{Pending}
use Rattle.ts_group.specs.Context.{Context}
use Rattle.ts_transform.specs.declared.continuation.StageContinuation.{StageContinuation}
use Rattle.ts_transform.specs.Driving.{HasKind, IsRousedIf, IsRoused, IsTold, IsCalledUnless, Keeps, unroused, unroused_for, changed}

-- whether a stage is roused its place in the table tells
roused_same : (ts us : List (Option StageContinuation)) (j : ℕ) → slice_get us j ≡ slice_get ts j
    → IsRoused us j → IsRoused ts j
roused_same ts [] j same roused = absurd roused
roused_same [] (u ∷ us) zero same roused = absurd
    (let wrong : ◌≡◌ {A = Option (Option StageContinuation)} (Some u) None = same in cc)
roused_same [] (u ∷ us) (suc j) same roused = roused_same [] us j same roused
roused_same (t ∷ ts) (u ∷ us) zero same roused = subst IsRousedIf (let both : Some u ≡ Some t = same in cc)
    roused
roused_same (t ∷ ts) (u ∷ us) (suc j) same roused = roused_same ts us j same roused

pub slot_changed : (f : Option StageContinuation → Option StageContinuation)
    (ts : List (Option StageContinuation)) (at j : ℕ) → j ≢ at
    → slice_get (changed f ts at) j ≡ slice_get ts j
slot_changed f [] at j other = refl
slot_changed f (t ∷ ts) zero zero other = absurd (other refl)
slot_changed f (t ∷ ts) zero (suc j) other = refl
slot_changed f (t ∷ ts) (suc at) zero other = refl
slot_changed f (t ∷ ts) (suc at) (suc j) other = slot_changed f ts at j (λ e. other (ap suc e))

slot_unroused : (b : Bool) (ts : List (Option StageContinuation)) (at j : ℕ) → j ≢ at
    → slice_get (unroused_for b ts at) j ≡ slice_get ts j
slot_unroused false ts at j other = refl
slot_unroused true ts at j other = slot_changed unroused ts at j other

-- what is pending of a kind stays so
pub told_kept : (a b : Context) (event : Event) (ts us : List (Option StageContinuation)) (j : ℕ) → Keeps a b
    → slice_get us j ≡ slice_get ts j
    → IsTold a.log.state.pending event ts j → IsTold b.log.state.pending event us j
told_kept a b event ts us j keeps same told = λ t is. kept t (told t (sym same ∙ is))
  where
    kept : (t : StageContinuation) → HasKind a.log.state.pending t.key event
        → HasKind b.log.state.pending t.key event
    kept t h = record {
      event = h.event;
      there = keeps.pending h.event.number h.event h.there;
      of_key =
          h.of_key;
      is = h.is;
    }

-- between calls that leave its place in the table alone
pub called_kept : (a b : Context) (before ts us vs : List (Option StageContinuation)) (j : ℕ)
    → slice_get ts j ≡ slice_get before j → slice_get vs j ≡ slice_get us j → Keeps a b
    → IsCalledUnless ts a.log.state.pending us j → IsCalledUnless before b.log.state.pending vs j
called_kept a b before ts us vs j first last keeps (inl roused) = inl (roused_same before ts j first roused)
called_kept a b before ts us vs j first last keeps (inr told) = inr
    (told_kept a b WriteReady us vs j keeps last told)

-- when the event of another stage was handled
pub called_unroused : (b : Bool) (before ts : List (Option StageContinuation)) (at : ℕ)
    (pending : List Pending) (us : List (Option StageContinuation)) (j : ℕ) → ts ≡ unroused_for b before at
    → j + 1 ≡ at
    → IsCalledUnless ts pending us j → IsCalledUnless before pending us j
called_unroused b before ts at pending us j is above (inl roused) =
    inl (roused_same before ts j (ap (λ vs. slice_get vs j) is ∙ slot_unroused b before at j
    (λ e. omega (arith, e, above))) roused)
called_unroused b before ts at pending us j is above (inr told) = inr told
