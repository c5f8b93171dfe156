-- A transaction keeps the tags that it fits, since each step leaves it and its links what they are, and one
-- that was started
-- stays so.
use Rattle.std.proofs.Common.{◌≡◌, true, false, Option, Some, None, refl, sym, ap, subst, ◌∙◌}
use Rattle.std.specs.Arc.{arc_value}
use Rattle.std.specs.Prelude.{IsSomeAnd}
use Rattle.ts_link.specs.Link.{IsSure, IsSurePlan, Look}
use Rattle.ts_link.specs.declared.link.Link as link
use Rattle.ts_upstream.specs.declared.upstream.Upstream as upstream
use Rattle.ts_txn.specs.CourseCover.{is_fresh_on}
use Rattle.ts_phases.specs.Holding.{IsSameLink, StepKeeps}
use Rattle.ts_txn.specs.Making.{IsMadeOf, IsMadeOfIf}
use Rattle.ts_phases.specs.View.{StillIf, is_dialed, side_if}
use Rattle.ts_txn.specs.World.{HasTxnBegun, IsSameLinkIf, IsSureIf, IsTxnOf, faults_if}
use Rattle.ts_phases.specs.declared.parts.Core.{Core}
use Rattle.ts_phases.specs.declared.parts.Peer.{Peer}
use Rattle.ts_txn.specs.declared.txn.Txn.{Txn}
use Rattle.ts_txn.specs.declared.txn.TxnTag.{TxnTag}

-- ---- the links

still_sure : (l m : Look) → IsSameLink l m → IsSure l → IsSure m
still_sure l m same sure = subst (λ p. IsSomeAnd p IsSurePlan) (sym same.plan) sure

same_then : (l m n : Look) → IsSameLink l m → IsSameLink m n → IsSameLink l n
same_then l m n h k = record {
  source = k.source ∙ h.source;
  name = k.name ∙ h.name;
  plan = k.plan ∙ h.plan;
  before = k.before ∙ h.before;
}

module _ {L : Type 0} (look : L → Look) where
  same_on : (o : Option L) (x y : Option (Peer L)) → is_dialed y ≡ is_dialed x
      → IsSameLink (side_if look x).look (side_if look y).look → IsSameLinkIf look o x → IsSameLinkIf look o y
  same_on None None None dialed same h = h
  same_on None None (Some q) dialed same h = cc
  same_on None (Some p) y dialed same h = absurd h
  same_on (Some l) None y dialed same h = absurd h
  same_on (Some l) (Some p) None dialed same h = cc
  same_on (Some l) (Some p) (Some q) dialed same h = same_then (look l) (look p.link) (look q.link) h same

  sure_on : (x y : Option (Peer L)) → is_dialed y ≡ is_dialed x
      → IsSameLink (side_if look x).look (side_if look y).look → IsSureIf look x → IsSureIf look y
  sure_on None None dialed same sure = sure
  sure_on None (Some q) dialed same sure = cc
  sure_on (Some p) None dialed same sure = tt
  sure_on (Some p) (Some q) dialed same sure = still_sure (look p.link) (look q.link) same sure

  -- what a link was made of is the same link
  same_made : (l : L) (p : Peer L) → IsMadeOf look l p → IsSameLink (look l) (look p.link)
  same_made l p made = record {
    source = ap (λ (k : L). (look k).source) made.link_is;
    name = ap (λ (k : L). (look k).name) made.link_is;
    plan = ap (λ (k : L). (look k).plan) made.link_is;
    before = ap (λ (k : L). (look k).before) made.link_is;
  }

  same_made_if : (o : Option L) (x : Option (Peer L)) → IsMadeOfIf look o x → IsSameLinkIf look o x
  same_made_if None None made = tt
  same_made_if None (Some p) made = absurd made
  same_made_if (Some l) None made = absurd made
  same_made_if (Some l) (Some p) made = same_made l p made

  base_made : (o : Option L) (x : Option (Peer L)) → IsMadeOfIf look o x
      → (side_if look x).base ≡ faults_if look o
  base_made None None made = refl
  base_made None (Some p) made = absurd made
  base_made (Some l) None made = absurd made
  base_made (Some l) (Some p) made = made.base

  sure_made : (o : Option L) (x : Option (Peer L)) → IsMadeOfIf look o x
      → ((l : L) → o ≡ Some l → IsSure (look l)) → IsSureIf look x
  sure_made None None made sure = tt
  sure_made None (Some p) made sure = absurd made
  sure_made (Some l) None made sure = absurd made
  sure_made (Some l) (Some p) made sure = still_sure (look l) (look p.link) (same_made l p made) (sure l refl)

-- what a link was made of is still that link
still_made : {L : Type 0} (look : L → Look) (still : L → L → Type 0) (l : L) (p : Peer L) → ((k : L) → still k k)
    → IsMadeOf look l p → still l p.link
still_made look still l p same made = subst (λ k. still l k) (sym made.link_is) (same l)

still_made_if : {L : Type 0} (look : L → Look) (still : L → L → Type 0) (o : Option L) (x : Option (Peer L))
    → ((k : L) → still k k) → IsMadeOfIf look o x → StillIf still o x
still_made_if look still None None same made = tt
still_made_if look still None (Some p) same made = absurd made
still_made_if look still (Some l) None same made = absurd made
still_made_if look still (Some l) (Some p) same made = still_made look still l p same made

-- ---- the tags

module _ {C O : Type 0} (client : link.Ghosts C) (origin : link.Ghosts O) where
  -- one that was just made of the links of a tag fits it
  pub fits_made : {Q : Type 0} (tag : TxnTag C O) (t : Txn C O Q) → t.core.number ≡ tag.number
      → arc_value t.core.setup ≡ tag.setup.value → t.core.plugins_at ≡ tag.plugins_at
      → IsMadeOf client.look tag.client.value t.core.client
      → IsMadeOfIf origin.look tag.origin.value t.core.origin
      → ((l : C) → client.still l l) → ((l : O) → origin.still l l)
      → (tag.sure ≡ true → IsSure (client.look tag.client.value) ×
      ((l : O) → tag.origin.value ≡ Some l → IsSure (origin.look l))) → tag.started ≡ false → IsTxnOf client
      origin tag t
  fits_made tag t number setup plugins of_client of_origin client_same origin_same sure started = record {
    number = number;
    setup = setup;
    plugins_at = plugins;
    client = same_made client.look tag.client.value t.core.client of_client;
    origin = same_made_if origin.look tag.origin.value t.core.origin of_origin;
    client_still = still_made client.look client.still tag.client.value t.core.client client_same of_client;
    origin_still = still_made_if origin.look origin.still tag.origin.value t.core.origin origin_same of_origin;
    client_base = of_client.base;
    origin_base = base_made origin.look tag.origin.value t.core.origin of_origin;
    sure = λ is. (
      still_sure _ _ (same_made client.look tag.client.value t.core.client of_client) (sure is).0,
      sure_made origin.look tag.origin.value t.core.origin of_origin (sure is).1,
    );
    started = λ is. cc;
  }

  -- one whose core is the same fits the same tags, where it stays started
  fits_core : {Q : Type 0} (tag : TxnTag C O) (t u : Txn C O Q) → u.core ≡ t.core
      → (is_fresh_on t.course ≡ false → is_fresh_on u.course ≡ false) → IsTxnOf client origin tag t
      → IsTxnOf client origin tag u
  fits_core tag t u same started h = record {
    number = subst (λ (k : Core C O). k.number ≡ tag.number) (sym same) h.number;
    setup = subst (λ (k : Core C O). arc_value k.setup ≡ tag.setup.value) (sym same) h.setup;
    plugins_at = subst (λ (k : Core C O). k.plugins_at ≡ tag.plugins_at) (sym same) h.plugins_at;
    client = subst (λ (k : Core C O). IsSameLink (client.look tag.client.value) (client.look k.client.link))
        (sym same) h.client;
    origin = subst (λ (k : Core C O). IsSameLinkIf origin.look tag.origin.value k.origin) (sym same) h.origin;
    client_still = subst (λ (k : Core C O). client.still tag.client.value k.client.link) (sym same)
        h.client_still;
    origin_still = subst (λ (k : Core C O). StillIf origin.still tag.origin.value k.origin) (sym same)
        h.origin_still;
    client_base = ap (λ (k : Core C O). k.client.base) same ∙ h.client_base;
    origin_base = ap (λ (k : Core C O). (side_if origin.look k.origin).base) same ∙ h.origin_base;
    sure = λ is. subst (λ (k : Core C O). IsSure (client.look k.client.link) × IsSureIf origin.look k.origin)
        (sym same) (h.sure is);
    started = λ is. started (h.started is);
  }

  -- the start leaves the tags
  pub fits_start : {Q : Type 0} (tag : TxnTag C O) (t u : Txn C O Q) → HasTxnBegun t u
      → IsTxnOf client origin tag t → IsTxnOf client origin tag u
  fits_start tag t u begun h = fits_core tag t u begun.core (λ was. begun.started) h

  -- and it fits the tag that says that it was started, too
  pub fits_begun : {Q : Type 0} (tag : TxnTag C O) (t u : Txn C O Q) → HasTxnBegun t u
      → IsTxnOf client origin tag t → IsTxnOf client origin (record tag { started = true }) u
  fits_begun tag t u begun h =
      let k : IsTxnOf client origin tag u = fits_start tag t u begun h in
      record {
        number = k.number;
        setup = k.setup;
        plugins_at = k.plugins_at;
        client = k.client;
        origin = k.origin;
        client_still = k.client_still;
        origin_still = k.origin_still;
        client_base = k.client_base;
        origin_base = k.origin_base;
        sure = k.sure;
        started = λ is. begun.started;
      }

module _ {C O : Type 0} (client : link.Ghosts C) (origin : link.Ghosts O) (both : upstream.Ghosts O C) where
  -- where a step keeps what it must, the tags stay
  pub fits_on : {Q : Type 0} (tag : TxnTag C O) (t u : Txn C O Q) → StepKeeps client origin both t.core u.core
      → (is_fresh_on t.course ≡ false → is_fresh_on u.course ≡ false)
      → IsTxnOf client origin tag t → IsTxnOf client origin tag u
  fits_on tag t u keeps started h = record {
    number = keeps.number ∙ h.number;
    setup = ap (λ s. arc_value s) keeps.setup ∙ h.setup;
    plugins_at = keeps.plugins_at ∙ h.plugins_at;
    client = same_then _ _ _ h.client keeps.client;
    origin = same_on origin.look tag.origin.value t.core.origin u.core.origin keeps.dialed keeps.origin
        h.origin;
    client_still = keeps.client_still tag.client.value h.client_still;
    origin_still = keeps.origin_still tag.origin.value h.origin_still;
    client_base = keeps.client_base ∙ h.client_base;
    origin_base = keeps.origin_base ∙ h.origin_base;
    sure = λ is. (
      still_sure _ _ keeps.client (h.sure is).0,
      sure_on origin.look t.core.origin u.core.origin keeps.dialed keeps.origin (h.sure is).1,
    );
    started = λ is. started (h.started is);
  }
