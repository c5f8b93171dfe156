-- A client in the row whose place was looked at.
use Rattle.std.proofs.Common.{◌≡◌, ◌∙◌, ℕ, List, Bool, true, get_or, inl, inr, subst, sym}
use Rattle.ts_journal.specs.State.{State}
use Rattle.ts_group.specs.declared.action.Named.{Named}
use Rattle.ts_group.specs.declared.either.Either.{Either}
use Rattle.ts_group.specs.declared.group.Group.{Group}
use Rattle.ts_slot.specs.declared.view.SeatView.{SeatView}
use Rattle.ts_serve.specs.declared.connection.Connection.{Connection}
use Rattle.ts_serve.specs.declared.connection.Connection.TheVariants.{Accepted, Free}
use Rattle.ts_serve.specs.declared.place.Place.{Place}
use Rattle.ts_serve.specs.declared.whose.Whose.{Whose}
use Rattle.ts_serve.specs.Stepping.{ComesTo}
use Rattle.ts_serve.specs.TakingOut.{IsLeftThere, IsLookedAt}

-- a connection is of one client, in a group that was made once
pub one_whose : (v w : Whose) (s t : Bool) (m n : ℕ) → Accepted v s m ≡ Accepted w t n → v ≡ w
one_whose v w s t m n is = cc

pub one_made : (v w : Whose) (s t : Bool) (m n : ℕ) → Accepted v s m ≡ Accepted w t n → m ≡ n
one_made v w s t m n is = cc

module _ {W P Q R T U G : Type 0} (Sound : W → State → List Named → Type 0) (whose_of : W → Whose)
    (is_ended is_lacking : W → Bool) (k made : ℕ) (whose : Whose) (s : Bool) (row row' : List Connection)
    (old new : SeatView G (Group (Either (Place W) P) Q R T U)) (found : get_or row k Free ≡ Accepted whose s made)
  where
    -- whoever is in the row for the place is the one that was looked for there
    pub looked_in_vain : IsLeftThere Sound whose_of is_ended is_lacking whose made k old new
        → IsLookedAt Sound whose_of is_ended is_lacking k row row' old new
    looked_in_vain left other anew was =
        let same : Accepted whose s made ≡ Accepted other true anew = sym found ∙ was in
        inr
        (subst (λ (v : Whose). IsLeftThere Sound whose_of is_ended is_lacking v anew k old new)
        (one_whose whose other s true made anew same)
        (subst (λ (n : ℕ). IsLeftThere Sound whose_of is_ended is_lacking whose n k old new)
        (one_made whose other s true made anew same) left))

    -- and so is the one that comes out of there
    pub looked_at : ComesTo whose_of k whose row row' new.known → IsLookedAt Sound whose_of is_ended is_lacking k row row' old new
    looked_at comes other anew was =
        let same : Accepted whose s made ≡ Accepted other true anew = sym found ∙ was in
        inl (subst (λ (v : Whose). ComesTo whose_of k v row row' new.known)
        (one_whose whose other s true made anew same) comes)
