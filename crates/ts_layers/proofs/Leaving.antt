-- What is left of the two ends of a transaction: they are those that were made, belong together still, and
-- each layer left what holds of it.
use Rattle.std.proofs.Common.{◌≡◌, ◌∙◌, ℕ, Vec, Global, Bool, Option, Some, None, Result, Ok, Err, IfOk, false}
use Rattle.std.proofs.Common.{true, refl, sym, ap, subst}
use Rattle.std.specs.Prelude.{IfSome, is_some}
use Rattle.std.specs.Arc.{arc_value}
use Rattle.ts_config.specs.declared.setup.Setup.{Setup}
use Rattle.ts_exchange.specs.Ends.{Ends, IsTagBetween}
use Rattle.ts_exchange.specs.Left.{IsStillOrigin}
use Rattle.ts_exchange.specs.declared.exchange.Promise.{Promise}
use Rattle.ts_intercept.specs.Answered.{Answered}
use Rattle.ts_intercept.specs.Seen.{inside}
use Rattle.ts_intercept.specs.Standing.{IsUnused, KeepsOrigin}
use Rattle.ts_intercept.specs.declared.choice.Choice.{Choice}
use Rattle.ts_link.specs.declared.link.Link as link
use Rattle.ts_phases.specs.View.{PairIf, StillIf}
use Rattle.ts_phases.specs.declared.parts.Peer.{Peer}
use Rattle.ts_tap.specs.declared.lifted.Lifted.{Lifted}
use Rattle.ts_txn.specs.Making.{ArePaired, link_if}
use Rattle.ts_txn.specs.World.{IsTxnOf}
use Rattle.ts_txn.specs.declared.txn.Txn.{Txn}
use Rattle.ts_txn.specs.declared.txn.TxnTag.{TxnTag}
use Rattle.ts_layers.specs.Kept.{IsKept, KeepsNone}
use Rattle.ts_layers.specs.Layers.{AreLayersOver, HasChosen, HasKept, IsLayerOver, StaysOver, holds_origin}
use Rattle.ts_layers.specs.Layers.{is_handed, origin_inside}
use Rattle.ts_layers.specs.Links.{Carried, ClientEnd, OriginEnd, carried_link, client_link, lifted_if}
use Rattle.ts_layers.specs.Links.{lifted_look, origin_link, unlifted_if}

-- what holds of what may be there holds where it is
pub at_some : {A : Type 0} (P : A → Type 0) (o : Option A) (a : A) → o ≡ Some a → IfSome o P → P a
at_some P o a is holds = subst (λ x. IfSome x P) is holds

-- ---- the origin's end is the one that was made

-- the origin's end is there, and stays over its origin
pub record IsLast {O P : Type 0} (setup : Setup) (keeps : Bool) (o : Option O) (now : Option (OriginEnd O P))
    : Type 0 where
  pub last : OriginEnd O P
  pub there : now ≡ Some last
  pub stays : StaysOver setup keeps o last

pub stays_over : {O P : Type 0} (origin : link.Ghosts O) (setup : Setup) (keeps : Bool) (o : Option O)
    (made now : Option (OriginEnd O P)) → IsLayerOver setup keeps o made
    → IsStillOrigin (origin_link origin).still made now → IsLast setup keeps o now
stays_over origin setup keeps o None now over still = absurd over
stays_over origin setup keeps o (Some e) None over still = absurd still
stays_over {O} origin setup keeps o (Some e) (Some d) over still = record {
  last = d;
  there = refl;
  stays = record {
    carries = ap arc_value still.setup ∙ over.carries.setup_is;
    keeping = still.inside.1 ∙ ap (λ (k : Carried O). k.keeps) over.keeping;
    chooses = still.inside.0.setup ∙ over.chooses.setup_is;
    handed = still.inside.0.handed ∙ over.chooses.handed_is;
  };
}

-- so it is of the link that a transaction holds
still_there : {L : Type 0} (still : L → L → Type 0) (o : Option L) (x : Option (Peer L)) → StillIf still o x
    → IsStillOrigin still o (link_if x)
still_there still None None same = tt
still_there still None (Some p) same = same
still_there still (Some l) None same = same
still_there still (Some l) (Some p) same = same

lifts_some : {O : Type 0} (o : Option O) → is_some (lifted_if o) ≡ is_some o
lifts_some None = refl
lifts_some (Some o) = refl

-- a transaction holds an origin where one was handed in as it was made
pub holds_made : {O P : Type 0} (origin : link.Ghosts O) (setup : Setup) (keeps : Bool) (o : Option O)
    (shown made : Option (OriginEnd O P)) (x : Option (Peer (OriginEnd O P))) → shown ≡ made
    → IsLayerOver setup keeps o made → StillIf (origin_link origin).still shown x
    → is_handed (link_if x) ≡ is_some o
holds_made {O} {P} origin setup keeps o shown made x is over still =
    let last = stays_over origin setup keeps o made (link_if x) over
    (subst (λ (y : Option (OriginEnd O P)). IsStillOrigin (origin_link origin).still y (link_if x)) is
    (still_there (origin_link origin).still shown x still)) in
    ap is_handed last.there ∙ ap is_some last.stays.handed ∙ lifts_some o

pub made_holds : {C O P E : Type 0} (client : link.Ghosts C) (origin : link.Ghosts O) (ends : Ends C O)
    (keeps : Bool) (layered : Ends (ClientEnd C) (OriginEnd O P)) (promise : Promise)
    (r : Result (Txn (ClientEnd C) (OriginEnd O P) P × TxnTag (ClientEnd C) (OriginEnd O P)) E)
    → AreLayersOver ends keeps layered → IfOk r (λ x. IsTagBetween layered promise false x.1)
    → IfOk r (λ x. IsTxnOf (client_link client) (origin_link origin) x.1 x.0)
    → IfOk r (λ x. holds_origin x.0 ≡ is_some ends.origin)
made_holds client origin ends keeps layered promise (Err e) over tag fits = tt
made_holds client origin ends keeps layered promise (Ok x) over tag fits =
    holds_made origin ends.setup keeps ends.origin x.1.origin.value layered.origin x.0.core.origin
    tag.origin_is over.origin fits.origin_still

-- ---- what the layers left

unlifts_some : {O : Type 0} (o : Option (Lifted O)) → is_some (unlifted_if o) ≡ is_some o
unlifts_some None = refl
unlifts_some (Some o) = refl

-- there is an origin inside where one was handed in
pub inside_handed : {O P : Type 0} (origin : link.Ghosts O) (e : Option (OriginEnd O P))
    → IfSome e (HasChosen origin) → is_some (origin_inside e) ≡ is_handed e
inside_handed origin None chosen = refl
inside_handed origin (Some e) chosen = unlifts_some e.origin.inner.origin ∙ chosen.there

-- what is known of the link that chooses is known of the end
pub has_chosen : {O P : Type 0} (origin : link.Ghosts O) (c : Choice (Lifted O)) (e : OriginEnd O P)
    → c ≡ e.origin.inner → is_some c.origin ≡ is_some c.handed.value
    → (origin.tells ≡ true → Answered (lifted_look origin.look) c)
    → (origin.tells ≡ true → IsUnused (inside (lifted_look origin.look) c.handed.value)) → KeepsOrigin c
    → HasChosen origin e
has_chosen {O} origin c e is there answered unused same = record {
  there = subst (λ (x : Choice (Lifted O)). is_some x.origin ≡ is_some x.handed.value) is there;
  answered = λ told.
      subst (λ (x : Choice (Lifted O)). Answered (lifted_look origin.look) x) is (answered told);
  unused = λ told.
      subst (λ (x : Choice (Lifted O)). IsUnused (inside (lifted_look origin.look) x.handed.value)) is
      (unused told);
  same = subst (λ (x : Choice (Lifted O)). KeepsOrigin x) is same;
}

-- and so is what was kept
pub has_kept : {O P : Type 0} (origin : link.Ghosts O) (taken : Vec ℕ Global) (k : Carried O)
    (e : OriginEnd O P) → k ≡ e.origin → taken.items ≡ k.kept
    → IsKept origin.tells k.keeps ((carried_link origin).look k) k.kept → KeepsNone k.keeps k.kept
    → HasKept origin (Some taken) e
has_kept {O} origin taken k e is bytes all none = record {
  bytes = ap Some (bytes ∙ ap (λ (x : Carried O). x.kept) is);
  all = subst (λ (x : Carried O). IsKept origin.tells x.keeps ((carried_link origin).look x) x.kept) is all;
  none = subst (λ (x : Carried O). KeepsNone x.keeps x.kept) is none;
}

-- ---- they belong together at the end

-- what held of the two sides of a transaction holds of the links that are left
pub left_paired : {C O : Type 0} (paired : C → O → Type 0) (c d : C) (x : Option (Peer O)) (o : Option O)
    → d ≡ c → o ≡ link_if x → PairIf paired c x → ArePaired paired d o
left_paired {O = O} paired c d x o same there pair =
    subst (ArePaired paired d) (sym there)
    (subst (λ l. ArePaired paired l (link_if x)) (sym same) (of_link x pair))
  where
    of_link : (x : Option (Peer O)) → PairIf paired c x → ArePaired paired c (link_if x)
    of_link None pair = tt
    of_link (Some p) pair = pair
