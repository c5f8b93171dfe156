-- The groups of a server whose handlers are transactions can be asked: those that a transaction asks are the
-- plugins beside the places.
use Rattle.std.proofs.Common.{◌≡◌, ◌≢◌, ℕ, zero, suc, ◌+◌, ◌<◌, ◌≤◌, List, [], ◌∷◌, ◌++◌, All, length, map}
use Rattle.std.proofs.Common.{replicate, Bool, true, false, refl, sym, ap, subst, ◌∙◌, arith}
use Rattle.std.specs.Prelude.{Some, slice_get, ⊤}
use Rattle.std.specs.Arc.{arc_value}
use Rattle.std.proofs.lemmas.List.Elements.{All-cons, All-nil}
use Rattle.std.proofs.lemmas.Option.{same_Some}
use Rattle.std.proofs.lemmas.Slice.Zip.{AllZip-long}
use Rattle.ts_config.specs.declared.fields.PluginLine.{PluginLine}
use Rattle.ts_config.specs.declared.setup.Setup.{Setup}
use Rattle.ts_group.specs.Either.{EitherFits, EitherMayAsk, EitherRight, EitherAnswers, tag_of}
use Rattle.ts_group.specs.declared.either.Either.{Either}
use Rattle.ts_group.specs.declared.either.Either.TheVariants.{One, Other}
use Rattle.ts_group.specs.declared.either.EitherTag.{EitherTag}
use Rattle.ts_group.specs.declared.either.EitherTag.TheVariants as kind
use Rattle.ts_exchange.specs.Ends.{Ends}
use Rattle.ts_exchange.specs.declared.exchange.Promise.{Promise}
use Rattle.ts_layers.specs.Layers.{IsLayeredTag}
use Rattle.ts_layers.specs.Links.{ClientEnd, OriginEnd, client_link, origin_link}
use Rattle.ts_link.specs.declared.link.Link as link
use Rattle.ts_phases.specs.Asking.{IsPluginGroup, IsRightReply}
use Rattle.ts_plugin.specs.Replies.{IsReplyOf}
use Rattle.ts_plugin.specs.World.{IsPluginOf, OnlyAnswers}
use Rattle.ts_plugin.specs.declared.plugin.Plugin.{Plugin}
use Rattle.ts_plugin.specs.declared.plugin.PluginTag.{PluginTag}
use Rattle.ts_plugin.specs.declared.question.HookQuestion.{HookQuestion}
use Rattle.ts_plugin.specs.declared.question.HookReply.{HookReply}
use Rattle.ts_slot.specs.Limits.{most_groups}
use Rattle.ts_txn.specs.Asking.{IsRightFor, MayAskGroup}
use Rattle.ts_txn.specs.Making.{IsTxnSetup}
use Rattle.ts_txn.specs.World.{IsTxnOf, LetsContinue}
use Rattle.ts_txn.specs.declared.txn.Txn.{Txn}
use Rattle.ts_txn.specs.declared.txn.TxnTag.{TxnTag}
use Rattle.ts_serve.specs.Places.{FitsAtPlace, PlaceFits, PlaceMayAsk, PlaceRight, PlaceAnswers}
use Rattle.ts_serve.specs.Servers.{CanAskInServer, StandsBeside, server_tags}
use Rattle.ts_exchange.specs.Plugins.{ArePluginsOf, IsPluginOfLine}
use Rattle.ts_serve.specs.Exchanges.{KeepsTerms}
use Rattle.ts_serve.specs.declared.acceptor.TheConstants.{PLACES}
use Rattle.ts_exchange.specs.declared.plugins.Tagged.{Tagged}
use Rattle.ts_serve.specs.declared.place.Place.{Place}
use Rattle.ts_serve.specs.declared.placed.AtPlace.{AtPlace}
use Rattle.ts_serve.specs.declared.place.Place.TheVariants.{Empty, Tenant}
use Rattle.ts_serve.specs.declared.exchanges.TxnTerms.{TxnTerms}

-- ---- where places and plugins stand

-- the tag of a world beside the places
abbrev other_tag : {A : Type 0} → Tagged Plugin PluginTag → EitherTag A PluginTag
other_tag b = kind.Other b.tag

-- beside the places no tag is one of a place
not_beside : {A : Type 0} (others : List (Tagged Plugin PluginTag)) (k : ℕ) (terms : A)
    → slice_get (map other_tag others) k ≡ Some (kind.One terms) → ⊥
not_beside [] k terms at = absurd (cc)
not_beside (b ∷ bs) zero terms at = absurd (cc)
not_beside (b ∷ bs) (suc k) terms at = not_beside bs k terms at

-- what has the tag of a place stands among the places, and has their terms
place_tag : {A : Type 0} (n k : ℕ) (terms own : A) (others : List (Tagged Plugin PluginTag))
    → slice_get (replicate n (kind.One terms) ++ map other_tag others) k ≡ Some (kind.One own)
    → (k < n) × (own ≡ terms)
place_tag zero k terms own others at = absurd (not_beside others k own at)
place_tag (suc n) zero terms own others at = (omega arith, cc)
place_tag (suc n) (suc k) terms own others at =
    let on = place_tag n k terms own others at in
    let below = on.0 in (omega (arith, below), on.1)

-- the tag of a plugin of this line stands at the place
record HasPluginAt {A : Type 0} (tags : List (EitherTag A PluginTag)) (k : ℕ) (line : PluginLine)
    : Type 0 where
  pub tag : PluginTag
  pub there : slice_get tags k ≡ Some (kind.Other tag)
  pub line_is : tag.line.value ≡ line

-- that of the line at each place stands at this place among those of the plugins
plugin_at : {A : Type 0} (lines : List PluginLine) (others : List (Tagged Plugin PluginTag))
    → ArePluginsOf lines others → (place : ℕ) (line : PluginLine) → slice_get lines place ≡ Some line
    → HasPluginAt {A = A} (map other_tag others) place line
plugin_at [] others are place line there = absurd (cc)
plugin_at (l ∷ ls) [] are place line there = absurd are
plugin_at (l ∷ ls) (b ∷ bs) are zero line there =
    let same : l ≡ line = cc in record { tag = b.tag; there = refl; line_is = are.0.tag_is ∙ same }
plugin_at {A} (l ∷ ls) (b ∷ bs) are (suc place) line there =
    let on = plugin_at {A = A} ls bs are.1 place line there in
    record { tag = on.tag; there = on.there; line_is = on.line_is }

-- behind so many places
behind : {X : Type 0} (n k : ℕ) (x : X) (xs : List X)
    → slice_get (replicate n x ++ xs) (n + k) ≡ slice_get xs k
behind zero k x xs = let same : 0 + k ≡ k = omega arith in ap (slice_get xs) same
behind (suc n) k x xs =
    let same : suc n + k ≡ suc (n + k) = omega arith in
    ap (slice_get (replicate (suc n) x ++ xs)) same ∙ behind n k x xs

-- a place below the length has a line
line_at : (lines : List PluginLine) (place : ℕ) → place < length lines
    → (line : PluginLine) × (slice_get lines place ≡ Some line)
line_at [] place below = absurd (omega arith)
line_at (l ∷ ls) zero below = (l, refl)
line_at (l ∷ ls) (suc place) below = line_at ls place (omega arith)

-- ---- who asks whom

-- Of handlers of which each asks the plugins of one setup alone, and for which what their lines say is right.
module _ {W T A : Type 0} (Fits : T → W → Type 0) (Keeps : A → T → Type 0) (Asks : W → ℕ → Type 0)
    (Right : W → ℕ → HookQuestion → HookReply → Type 0) (Replies : W → HookQuestion → HookReply → Type 0)
    (setup : Setup) (terms : A) (others : List (Tagged Plugin PluginTag))
    (are : ArePluginsOf setup.plugins.items others)
    (asks : (w : W) → PlaceFits Fits Keeps terms (Tenant w) → (k : ℕ) → Asks w k → IsPluginGroup setup PLACES k)
    (hears : (w : W) → PlaceFits Fits Keeps terms (Tenant w) → (k : ℕ) (q : HookQuestion) (r : HookReply)
    → IsRightReply setup PLACES k q r → Right w k q r) where
  -- whom a world of the server may ask, which replies are right for it, and which it gives
  abbrev FitsPlace : A → Place W → Type 0
  FitsPlace = PlaceFits Fits Keeps

  abbrev ServerWorld : Type 0
  ServerWorld = Either (Place W) Plugin

  abbrev FitsTag : EitherTag A PluginTag → ServerWorld → Type 0
  FitsTag = EitherFits FitsPlace IsPluginOf

  abbrev MayAsk : ServerWorld → ℕ → Type 0
  MayAsk = EitherMayAsk (PlaceMayAsk Asks) (λ p group. ⊥)

  abbrev IsRight : ServerWorld → ℕ → HookQuestion → HookReply → Type 0
  IsRight = EitherRight (PlaceRight Right) (λ p group question reply. ⊤)

  abbrev Answers : ServerWorld → HookQuestion → HookReply → Type 0
  Answers = EitherAnswers (PlaceAnswers Replies) (λ p question reply. IsReplyOf p.line question reply)

  abbrev asked_only : EitherTag A PluginTag → Bool
  asked_only = tag_of (λ terms. false) (λ tag. true)

  abbrev tags : List (EitherTag A PluginTag)
  tags = server_tags terms others

  plugin_of : (place : ℕ) (line : PluginLine) → slice_get setup.plugins.items place ≡ Some line
      → HasPluginAt tags (PLACES + place) line
  plugin_of place line there =
      let on = plugin_at setup.plugins.items others are place line there in record {
        tag = on.tag;
        there = behind PLACES place (kind.One terms) (map other_tag others) ∙ on.there;
        line_is = on.line_is;
      }

  -- whoever lives in a place fits the terms of all places
  own_terms : (j : ℕ) (own : A) (w : W) → slice_get tags j ≡ Some (kind.One own) → FitsPlace own (Tenant w)
      → FitsPlace terms (Tenant w)
  own_terms j own w there fits =
      subst (λ a. FitsPlace a (Tenant w)) (place_tag PLACES j terms own others there).1 fits

  -- whom it may ask stands behind the places, and is only asked
  asks_behind : (j k : ℕ) (own : A) (w : W) → slice_get tags j ≡ Some (kind.One own)
      → FitsPlace own (Tenant w) → Asks w k
      → (j ≢ k) × (u : EitherTag A PluginTag) × (slice_get tags k ≡ Some u) × (asked_only u ≡ true)
  asks_behind j k own w there fits may =
      let below = (place_tag PLACES j terms own others there).0 in
      let group = asks w (own_terms j own w there fits) k may in
      let at = group.group_is in
      let (line, is) = line_at setup.plugins.items group.place group.there in
      let p = plugin_of group.place line is in (
        λ same. absurd (omega (arith, same, below, at)),
        kind.Other p.tag,
        ap (slice_get tags) at ∙ p.there,
        refl,
      )

  -- what a world replies that fits the tag of a plugin is what the line says
  reply_of_tag : (tag : PluginTag) (line : PluginLine) (v : ServerWorld) (q : HookQuestion) (r : HookReply)
      → tag.line.value ≡ line → FitsTag (kind.Other tag) v → Answers v q r → IsReplyOf line q r
  reply_of_tag tag line (One x) q r is fits answers = absurd fits
  reply_of_tag tag line (Other p) q r is fits answers = subst (λ l. IsReplyOf l q r) (fits ∙ is) answers

  -- and what a plugin replies is right for a handler that may ask it
  right_of : (j k : ℕ) (own : A) (u : EitherTag A PluginTag) (w : W) (v : ServerWorld)
      (q : HookQuestion) (r : HookReply) → slice_get tags j ≡ Some (kind.One own) → FitsPlace own (Tenant w)
      → slice_get tags k ≡ Some u → FitsTag u v → Answers v q r → Right w k q r
  right_of j k own u w v q r there fits at fit answers = hears w (own_terms j own w there fits) k q r
      (λ place line is group.
      let p = plugin_of place line is in
      let same : u ≡ kind.Other p.tag =
      same_Some u (kind.Other p.tag) (sym at ∙ ap (slice_get tags) group ∙ p.there) in
      reply_of_tag p.tag line v q r p.line_is (subst (λ x. FitsTag x v) same fit) answers)

  asks_others : (j k : ℕ) (s : EitherTag A PluginTag) (w : ServerWorld) → slice_get tags j ≡ Some s
      → FitsTag s w → MayAsk w k
      → (j ≢ k) × (u : EitherTag A PluginTag) × (slice_get tags k ≡ Some u) × (asked_only u ≡ true)
  asks_others j k (kind.One own) (One Empty) there fits may = absurd may
  asks_others j k (kind.One own) (One (Tenant w)) there fits may = asks_behind j k own w there fits may
  asks_others j k (kind.One own) (Other p) there fits may = absurd fits
  asks_others j k (kind.Other s) (One x) there fits may = absurd fits
  asks_others j k (kind.Other s) (Other p) there fits may = absurd may

  replies : (j k : ℕ) (s u : EitherTag A PluginTag) (w v : ServerWorld) (q : HookQuestion) (r : HookReply)
      → slice_get tags j ≡ Some s → FitsTag s w → slice_get tags k ≡ Some u → FitsTag u v → Answers v q r
      → IsRight w k q r
  replies j k (kind.One own) u (One Empty) v q r there fits at fit answers = tt
  replies j k (kind.One own) u (One (Tenant w)) v q r there fits at fit answers =
      right_of j k own u w v q r there fits at fit answers
  replies j k (kind.One own) u (Other p) v q r there fits at fit answers = tt
  replies j k (kind.Other s) u (One x) v q r there fits at fit answers = absurd fits
  replies j k (kind.Other s) u (Other p) v q r there fits at fit answers = tt

  -- the groups of the server can ask each other
  pub handlers_ask : CanAskInServer Fits Keeps Asks Right Replies IsPluginOf (λ tag. true) (λ p group. ⊥)
      (λ p group question reply. ⊤) (λ p question reply. IsReplyOf p.line question reply) tags
  handlers_ask = record { others = asks_others; replies = replies }

-- A transaction with layers in a place has the setup, and the groups behind the places for its plugins.
module _ {C O Q : Type 0} (clients : link.Ghosts C) (origins : link.Ghosts O) (setup : Setup) (ends : Ends C O)
    (promise : Promise) (tag : TxnTag (ClientEnd C) (OriginEnd O Q)) (t : Txn (ClientEnd C) (OriginEnd O Q) Q)
    (layered : IsLayeredTag ends false promise false tag)
    (fits : IsTxnOf (client_link clients) (origin_link origins) tag t) (setup_is : ends.setup ≡ setup)
    (at_places : ends.plugins_at ≡ PLACES) where
  own_setup : (arc_value t.core.setup ≡ setup) × (t.core.plugins_at ≡ PLACES)
  own_setup = (
    fits.setup ∙ layered.tag_is.setup_is ∙ layered.over.setup ∙ setup_is,
    fits.plugins_at ∙ layered.tag_is.plugins_are ∙ layered.over.plugins_at ∙ at_places,
  )

  -- so it asks these alone
  pub layered_asks : (k : ℕ) → MayAskGroup t k → IsPluginGroup setup PLACES k
  layered_asks k may = subst (λ n. IsPluginGroup setup n k) own_setup.1
      (subst (λ s. IsPluginGroup s t.core.plugins_at k) own_setup.0 may)

  -- and what their lines say is right for it
  pub layered_hears : (k : ℕ) (q : HookQuestion) (r : HookReply) → IsRightReply setup PLACES k q r
      → IsRightFor t k q r
  layered_hears k q r right = subst (λ s. IsRightReply s t.core.plugins_at k q r) (sym own_setup.0)
      (subst (λ n. IsRightReply setup n k q r) (sym own_setup.1) right)

-- the groups of a server of transactions can ask each other
pub server_asks : (C O Q : Type 0) (clients : link.Ghosts C) (origins : link.Ghosts O) (setup : Setup)
    (terms : TxnTerms) (others : List (Tagged Plugin PluginTag)) → terms.setup.value ≡ setup
    → terms.plugins_at ≡ PLACES → ArePluginsOf setup.plugins.items others
    → CanAskInServer (FitsAtPlace (IsTxnOf (client_link clients) (origin_link origins)))
    (λ terms tag. KeepsTerms clients.look terms tag.value)
    (λ (t : AtPlace (Txn (ClientEnd C) (OriginEnd O Q) Q)). MayAskGroup t.value) (λ t. IsRightFor t.value)
    (λ t question reply. LetsContinue question reply) IsPluginOf
    (λ tag. true) (λ p group. ⊥) (λ p group question reply. ⊤)
    (λ p question reply. IsReplyOf p.line question reply) (server_tags terms others)
server_asks C O Q clients origins setup terms others setup_is at_places are = handlers_ask
    (FitsAtPlace (IsTxnOf (client_link clients) (origin_link origins)))
    (λ terms tag. KeepsTerms clients.look terms tag.value)
    (λ (t : AtPlace (Txn (ClientEnd C) (OriginEnd O Q) Q)). MayAskGroup t.value) (λ t. IsRightFor t.value)
    (λ t question reply. LetsContinue question reply) setup terms others are
    (λ t fits. layered_asks clients origins setup fits.1.ends fits.1.promise fits.0.value t.value fits.1.tag_is
    fits.2.value (fits.1.ends_are.setup_is ∙ setup_is) (fits.1.ends_are.plugins_are ∙ at_places))
    (λ t fits. layered_hears clients origins setup fits.1.ends fits.1.promise fits.0.value t.value fits.1.tag_is
    fits.2.value (fits.1.ends_are.setup_is ∙ setup_is) (fits.1.ends_are.plugins_are ∙ at_places))

-- ---- how plugins stand beside the places

-- the plugins of lines fit their tags, are only asked, and are sound before anything was done in their groups
pub plugins_stand : (lines : List PluginLine) (others : List (Tagged Plugin PluginTag))
    → ArePluginsOf lines others
    → All (StandsBeside IsPluginOf (λ p s roles. OnlyAnswers s) (λ tag. true)) others
plugins_stand [] [] are = All-nil (StandsBeside IsPluginOf (λ p s roles. OnlyAnswers s) (λ tag. true))
plugins_stand [] (b ∷ bs) are = absurd are
plugins_stand (l ∷ ls) [] are = absurd are
plugins_stand (l ∷ ls) (b ∷ bs) are =
    All-cons (StandsBeside IsPluginOf (λ p s roles. OnlyAnswers s) (λ tag. true)) b bs
    (record {
      fits = are.0.world ∙ sym are.0.tag_is;
      asked = refl;
      sound = λ now fresh. subst OnlyAnswers (sym fresh.state) (record { only = refl; plain = tt });
    })
    (plugins_stand ls bs are.1)

-- there are slots for them
pub plugins_few : (setup : Setup) (others : List (Tagged Plugin PluginTag))
    → ArePluginsOf setup.plugins.items others → IsTxnSetup setup PLACES
    → PLACES + length others ≤ most_groups
plugins_few setup others are is =
    let few = is.few.groups in
    let long = AllZip-long IsPluginOfLine setup.plugins.items others are in
    omega (arith, few, long)
