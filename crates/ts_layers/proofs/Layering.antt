-- The layers over two links that were not used: they were not used either, belong together as the links do,
-- and no call of them fails or waits by its number where none of the links does.
use Rattle.std.proofs.Common.{◌≡◌, ◌∙◌, ℕ, [], ◌++◌, drop, Bool, Option, Some, None, true, refl, sym, ap}
use Rattle.std.proofs.Common.{subst}
use Rattle.std.specs.Prelude.{IsSomeAnd, if◌then◌else◌}
use Rattle.std.specs.Arc.{arc_value}
use Rattle.std.proofs.lemmas.Option.{same_Some}
use Rattle.ts_config.specs.declared.setup.Setup.{Setup}
use Rattle.ts_config.specs.declared.setup.TransformLine.{TransformLine}
use Rattle.ts_intercept.specs.Seen.{given_by, inside, kept, plan_told, seen, unless_leaves}
use Rattle.ts_intercept.specs.Standing.{IsMadeOf, IsUnused}
use Rattle.ts_intercept.specs.Uploading.{PairIf}
use Rattle.ts_intercept.specs.declared.choice.Choice.{Choice}
use Rattle.ts_link.specs.Link.{IsSure, IsSurePlan, Look, NeverLeaves, Plan}
use Rattle.ts_link.specs.declared.link.Link as link
use Rattle.ts_passing.specs.Lines.{ActsAsLines}
use Rattle.ts_request.specs.Carrying.{IsFreshCarrier, behind_head, carrier_look, plan_if, stays_plan}
use Rattle.ts_request.specs.Carrying.{without_line}
use Rattle.ts_request.specs.Delivered.{PairsIfFresh}
use Rattle.ts_request.specs.Front.{front_look, fresh_front}
use Rattle.ts_request.specs.declared.carrier.Carrier.{Carrier}
use Rattle.ts_tap.specs.Optional.{client_of, most_of}
use Rattle.ts_tap.specs.declared.lifted.Lifted.{Lifted}
use Rattle.ts_tap.specs.declared.watched.Watched.{Watched}
use Rattle.ts_transform.specs.declared.transform.Transform as transform
use Rattle.ts_txn.specs.Making.{ArePaired, IsNewLink, IsNewLinkIf}
use Rattle.ts_upstream.specs.declared.upstream.Upstream as upstream
use Rattle.ts_exchange.specs.Ends.{AreNewEnds, AreSureEnds, ends_of}
use Rattle.ts_exchange.specs.declared.exchange.ExchangeSetting.{ExchangeSetting}
use Rattle.ts_layers.specs.Kept.{fresh_kept}
use Rattle.ts_layers.specs.Layers.{AreLayersOver, AreSureLayers, IsClientOver, IsOriginOver, MayBeLayered}
use Rattle.ts_layers.specs.Layers.{TakesUploads}
use Rattle.ts_layers.specs.Links.{Carried, ClientEnd, OriginEnd, carried_link, carried_origin, client_link}
use Rattle.ts_layers.specs.Links.{lifted, lifted_if, lifted_look, lifted_origin, origin_link, origin_uploads}
use Rattle.ts_layers.specs.Links.{watched_link, watched_look}

-- ---- they are made

-- a front over a client with this tap is the client's end
pub client_made : {C : Type 0} (setup : Setup) (client : C) (w : Watched C) (f : ClientEnd C)
    → client_of w ≡ client → most_of w ≡ setup.tap → f ≡ fresh_front w → IsClientOver setup client f
client_made {C} setup client w f inner most is =
    let same : f.client ≡ w = ap (λ (x : ClientEnd C). x.client) is in
    record {
      fresh = is ∙ ap fresh_front (sym same);
      inside = ap client_of same ∙ inner;
      most = ap most_of same ∙ most;
    }

-- an origin is lifted as it is
pub lifted_there : {O : Type 0} (o : O) (l : Lifted O) → l.origin ≡ o → l ≡ lifted o
lifted_there o l is = ap lifted is

-- a carrier over what keeps what it takes, over what chooses, is the origin's end
pub origin_made : {O P : Type 0} (setup : Setup) (keeps : Bool) (o : Option O) (l : Option (Lifted O))
    (lines more : Setup) (c : Choice (Lifted O)) (k : Carried O) (e : OriginEnd O P) → l ≡ lifted_if o
    → lines ≡ setup → more ≡ setup → IsMadeOf l lines c → k ≡ fresh_kept keeps c → IsFreshCarrier k more e
    → IsOriginOver setup keeps o e
origin_made {O} {P} setup keeps o l lines more c k e lift first second made kept_is fresh =
    let same : e.origin ≡ fresh_kept keeps c = fresh.origin_is ∙ kept_is in
    let inner : e.origin.inner ≡ c = ap (λ (x : Carried O). x.inner) same in
    record {
      carries = record {
        origin_is = refl;
        setup_is = fresh.setup_is ∙ second;
        out = fresh.out;
        inbox = fresh.inbox;
        head = fresh.head;
        asked = fresh.asked;
        over = fresh.over;
        passage = fresh.passage;
        writes = fresh.writes;
      };
      keeping = same ∙ ap (fresh_kept keeps) (sym inner);
      chooses = subst (λ (x : Choice (Lifted O)). IsMadeOf (lifted_if o) setup x) (sym inner)
          (subst (λ s. IsMadeOf (lifted_if o) s c) first (subst (λ x. IsMadeOf x lines c) lift made));
    }

-- the ends of a transaction that is made between these are those with their layers
pub over_ends : {C O P : Type 0} (setting : ExchangeSetting) (number : ℕ) (keeps : Bool) (c : C)
    (o : Option O) (f : ClientEnd C) (e : OriginEnd O P) → IsClientOver (arc_value setting.setup) c f
    → IsOriginOver (arc_value setting.setup) keeps o e
    → AreLayersOver (ends_of setting number c o) keeps (ends_of setting number f (Some e))
over_ends setting number keeps c o f e over_client over_origin = record {
  number = refl;
  setup = refl;
  plugins_at = refl;
  client = over_client;
  origin = over_origin;
}

-- ---- they are new

-- a front of a link that was not used was not used
new_front : {C : Type 0} (look : C → Look) (c : C) → IsNewLink (look c)
    → IsNewLink (front_look look (fresh_front c))
new_front look c new = record {
  no_given = refl;
  no_taken = new.no_taken;
  no_carried = new.no_carried;
}

pub new_client : {C : Type 0} (look : C → Look) (setup : Setup) (c : C) (f : ClientEnd C)
    → IsClientOver setup c f → IsNewLink (look c) → IsNewLink (front_look (watched_look look) f)
new_client {C} look setup c f over new =
    subst (λ (x : ClientEnd C). IsNewLink (front_look (watched_look look) x)) (sym over.fresh)
    (new_front (watched_look look) f.client (subst (λ l. IsNewLink (look l)) (sym over.inside) new))

-- nor was an origin that was lifted, or none
new_lifted : {O : Type 0} (look : O → Look) (o : Option O) → IsNewLinkIf look o
    → IsNewLink (inside (lifted_look look) (lifted_if o))
new_lifted look None new = record { no_given = refl; no_taken = refl; no_carried = refl }
new_lifted look (Some o) new = new

pub unused_lifted : {O : Type 0} (look : O → Look) (o : Option O) (l : Option (Lifted O)) → l ≡ lifted_if o
    → IsNewLinkIf look o → IsUnused (inside (lifted_look look) l)
unused_lifted look o l is new =
    let fresh = new_lifted look o new in
    subst (λ x. IsUnused (inside (lifted_look look) x)) (sym is)
    (record { no_given = fresh.no_given; no_taken = fresh.no_taken })

-- a link that chooses holds nothing at first, and took what its origin took
none_kept : {L : Type 0} (o : Option L) (setup : Setup) (c : Choice L) → IsMadeOf o setup c → kept c ≡ []
none_kept o setup c made =
    ap (λ n. drop n c.held.items ++ c.gone) made.not_sent ∙ ap (λ h. h ++ c.gone) made.no_held ∙ made.no_gone

made_taken : {L : Type 0} (look : L → Look) (o : Option L) (setup : Setup) (c : Choice L)
    → IsMadeOf o setup c → (inside look o).taken ≡ [] → (seen look c).taken ≡ []
made_taken look o setup c made none =
    ap (λ x. (inside look x).taken ++ kept c) made.origin_is ∙ ap (λ t. t ++ kept c) none
    ∙ none_kept o setup c made

pub chosen_takes : {O : Type 0} (look : O → Look) (o : Option O) (l : Option (Lifted O)) (setup : Setup)
    (c : Choice (Lifted O)) → l ≡ lifted_if o → IsMadeOf l setup c → IsNewLinkIf look o
    → (seen (lifted_look look) c).taken ≡ []
chosen_takes look o l setup c is made new =
    made_taken (lifted_look look) l setup c made (unused_lifted look o l is new).no_taken

-- it was not used where its origin was not
new_chosen : {L : Type 0} (look : L → Look) (o : Option L) (setup : Setup) (c : Choice L) → IsMadeOf o setup c
    → IsNewLink (inside look o) → IsNewLink (seen look c)
new_chosen look o setup c made new = record {
  no_given = ap (λ s. given_by s (inside look c.origin).given) made.undecided
      ∙ ap (λ x. (inside look x).given) made.origin_is ∙ new.no_given;
  no_taken = made_taken look o setup c made new.no_taken;
  no_carried = ap (λ x. (inside look x).carried) made.origin_is ∙ new.no_carried;
}

-- and so is a carrier
new_carrier : {O P : Type 0} (tells : Bool) (look : O → Look) (o : O) (setup : Setup) (c : Carrier O P)
    → IsFreshCarrier o setup c → tells ≡ true → IsNewLink (look o) → IsNewLink (carrier_look tells look c)
new_carrier tells look o setup c fresh told new =
    let same : look c.origin ≡ look o = ap look fresh.origin_is in
    let all : (look c.origin).taken ++ c.out ≡ [] =
    ap (λ out. (look c.origin).taken ++ out) fresh.out
    ∙ ap (λ t. t ++ []) (ap (λ (l : Look). l.taken) same ∙ new.no_taken) in
    record {
      no_given = ap (λ (l : Look). l.given) same ∙ new.no_given;
      no_taken =
          subst (λ t. (if t then without_line c.head ((look c.origin).taken ++ c.out) else [])
          ≡ []) (sym told)
          (subst (λ h. without_line h ((look c.origin).taken ++ c.out) ≡ []) (sym fresh.head) all);
      no_carried =
          subst (λ t. (if t then behind_head c.head (look c.origin).carried ((look c.origin).taken ++ c.out)
          else []) ≡ []) (sym told)
          (subst (λ h. behind_head h (look c.origin).carried ((look c.origin).taken ++ c.out) ≡ [])
          (sym fresh.head) (ap (λ (l : Look). l.carried) same ∙ new.no_carried));
    }

new_origin : {O P : Type 0} (origin : link.Ghosts O) (setup : Setup) (keeps : Bool) (o : Option O)
    (e : OriginEnd O P) → IsOriginOver setup keeps o e → origin.tells ≡ true → IsNewLinkIf origin.look o
    → IsNewLink ((origin_link {P = P} origin).look e)
new_origin origin setup keeps o e over told new =
    new_carrier origin.tells (carried_link origin).look e.origin setup e over.carries told
    (new_chosen (lifted_look origin.look) (lifted_if o) setup e.origin.inner over.chooses
    (new_lifted origin.look o new))

-- ---- they belong together

module _ {C O P : Type 0} (client : link.Ghosts C) (origin : link.Ghosts O) (inner : upstream.Ghosts O C)
    (stage : transform.Ghosts P TransformLine) where
  -- a client with a tap or with none belongs to an origin that was lifted, as the client does to the origin
  pair_lifted : (c : C) (w : Watched C) (o : Option O) → client_of w ≡ c → ArePaired inner.paired c o
      → TakesUploads inner.refuses o
      → PairIf (lifted_origin inner).paired (lifted_origin inner).refuses w (lifted_if o)
  pair_lifted c w None is pair takes = tt
  pair_lifted c w (Some o) is pair takes = record {
    pair = subst (λ x. inner.paired x o) (sym is) pair;
    takes = takes;
  }

  -- the two ends are new ones that belong together
  pub new_layers : (setup : Setup) (keeps : Bool) (c : C) (o : Option O) (f : ClientEnd C) (e : OriginEnd O P)
      → IsClientOver setup c f → IsOriginOver setup keeps o e → MayBeLayered client origin inner c o
      → ActsAsLines stage
      → PairsIfFresh (watched_link client) (carried_link origin) (carried_origin origin inner) stage f e
      → AreNewEnds (client_link client) (origin_link origin) (origin_uploads client origin inner stage) f
      (Some e)
  new_layers setup keeps c o f e over_client over_origin may acts pairs = record {
    unused = λ told. new_client client.look setup c f over_client (may.new.unused told);
    unused_origin = λ told.
        new_origin origin setup keeps o e over_origin told (may.new.unused_origin told);
    paired = pairs f.client e.origin setup over_client.fresh over_origin.carries
        (subst (λ x. PairIf (lifted_origin inner).paired (lifted_origin inner).refuses f.client x)
        (sym over_origin.chooses.origin_is)
        (pair_lifted c f.client o over_client.inside may.new.paired may.takes))
        acts
        (λ told. let new = new_chosen (lifted_look origin.look) (lifted_if o) setup e.origin.inner
        over_origin.chooses (new_lifted origin.look o (may.new.unused_origin told)) in
        (new.no_taken, new.no_carried));
  }

-- ---- they are sure

-- a plan that never leaves, and by which no call fails or waits
abbrev IsStaying : Option Plan → Type 0
IsStaying plan = IsSomeAnd plan IsSurePlan × IsSomeAnd plan (λ p. p.leave ≡ None)

-- a link that chooses tells the plan of an origin that never leaves
told_if : (leave : Option ℕ) (p : Plan) → leave ≡ None → unless_leaves leave p ≡ Some p
told_if None p is = refl
told_if (Some n) p is = absurd (cc)

told_plan : (plan : Option Plan) → IsStaying plan → IsStaying (plan_told plan)
told_plan None stays = stays
told_plan (Some p) stays = subst IsStaying (sym (told_if p.leave p stays.1)) stays

-- and one that never fails by its number, where there is none
inside_plan : {O : Type 0} (look : O → Look) (o : Option O)
    → ((l : O) → o ≡ Some l → IsSure (look l) × NeverLeaves (look l))
    → IsStaying (inside (lifted_look look) (lifted_if o)).plan
inside_plan look None sure =
    (record { fail_reads = refl; fail_writes = refl; again_reads = refl; again_writes = refl }, refl)
inside_plan look (Some o) sure = sure o refl

-- so does a carrier
sure_plan : (plan : Option Plan) → IsStaying plan → IsSomeAnd (stays_plan plan) IsSurePlan
sure_plan None stays = stays.0
sure_plan (Some p) stays = subst (λ m. IsSomeAnd (plan_if m p) IsSurePlan) (sym stays.1) stays.0

sure_origin : {O P : Type 0} (origin : link.Ghosts O) (setup : Setup) (keeps : Bool) (o : Option O)
    (e : OriginEnd O P) → IsOriginOver setup keeps o e
    → ((l : O) → o ≡ Some l → IsSure (origin.look l) × NeverLeaves (origin.look l))
    → IsSure ((origin_link {P = P} origin).look e)
sure_origin origin setup keeps o e over sure =
    sure_plan (seen (lifted_look origin.look) e.origin.inner).plan
    (told_plan (inside (lifted_look origin.look) e.origin.inner.origin).plan
    (subst (λ x. IsStaying (inside (lifted_look origin.look) x).plan) (sym over.chooses.origin_is)
    (inside_plan origin.look o sure)))

pub sure_layers : {C O P : Type 0} (client : link.Ghosts C) (origin : link.Ghosts O) (setup : Setup)
    (keeps : Bool) (c : C) (o : Option O) (f : ClientEnd C) (e : OriginEnd O P)
    → AreSureLayers client.look origin.look c o → IsClientOver setup c f → IsOriginOver setup keeps o e
    → AreSureEnds (client_link client).look (origin_link origin).look f (Some e)
sure_layers {P = P} client origin setup keeps c o f e sure over_client over_origin = record {
  sure = subst (λ l. IsSure (client.look l)) (sym over_client.inside) sure.sure;
  sure_origin = λ l is. subst (λ x. IsSure ((origin_link {P = P} origin).look x)) (same_Some e l is)
      (sure_origin origin setup keeps o e over_origin sure.sure_origin);
}
