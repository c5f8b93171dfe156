-- The groups of a row can be run: the transactions are started, each world tells what it has left to do, and
-- those that a transaction asks are plugins behind it.
use Rattle.std.proofs.Common.{◌≡◌, ◌≢◌, ℕ, zero, suc, ◌+◌, ◌<◌, ◌≤◌, List, [], ◌∷◌, ◌++◌, length}
use Rattle.std.proofs.Common.{length-append, map, true, false, refl, sym, ap, subst, ◌∙◌, arith}
use mathlib.Core.Option.{some}
use lib.ListN.{get_elem?}
use Rattle.std.specs.Prelude.{IsSome, Option, Some, slice_get}
use Rattle.std.specs.List.{AllZip}
use Rattle.std.proofs.lemmas.List.{length-map}
use Rattle.std.proofs.lemmas.Option.{same_Some}
use Rattle.std.proofs.lemmas.Slice.Zip.{AllZip-long}
use Rattle.ts_config.specs.declared.fields.PluginLine.{PluginLine}
use Rattle.ts_config.specs.declared.setup.Setup.{Setup}
use Rattle.ts_group.specs.Either.{either_left}
use Rattle.ts_group.specs.declared.either.Either.TheVariants.{One, Other}
use Rattle.ts_group.specs.declared.either.EitherTag.TheVariants as kind
use Rattle.ts_journal.specs.State.{State}
use Rattle.ts_plugin.specs.Replies.{IsReplyOf}
use Rattle.ts_plugin.specs.declared.plugin.Plugin.{Plugin}
use Rattle.ts_plugin.specs.declared.plugin.PluginTag.{PluginTag}
use Rattle.ts_plugin.specs.declared.question.HookQuestion.{HookQuestion}
use Rattle.ts_plugin.specs.declared.question.HookReply.{HookReply}
use Rattle.ts_record.specs.Grammar.{TxnPieces}
use Rattle.ts_record.specs.declared.recording.TheConstants.{MOST_TXNS}
use Rattle.ts_replay.specs.Members.{HookPlugin, members, numbered}
use Rattle.ts_replay.specs.Recorded.{FitsIn, HasPlainLines, IsNewTagOf, IsOfRowTag, IsOfTag, Recorded}
use Rattle.ts_replay.specs.Recorded.{RecordedCarrier, RecordedFront, RecordedTag, RowGroup, RowTag, RowWorld}
use Rattle.ts_replay.specs.Recorded.{layered_client, layered_link, layered_origin, recorded_origin}
use Rattle.ts_replay.specs.Running.{IsAnswer, IsRight, MayAsk, RowTells}
use Rattle.ts_stock.specs.StockTransform.{stock_transform}
use Rattle.ts_stock.specs.declared.stock.State.{State as StockState}
use Rattle.ts_phases.specs.declared.parts.Core.{Core}
use Rattle.ts_journal.specs.declared.entry.Pending.{Pending}
use Rattle.ts_txn.specs.LoweringCourse.{transaction_left}
use Rattle.ts_txn.specs.declared.course.Course.{Course}
use Rattle.ts_txn.specs.declared.txn.Txn.{Txn}
use Rattle.ts_upstream.specs.InMemory.{memory_link}
use Rattle.ts_exchange.specs.Rows.{is_asked_only}
use Rattle.ts_exchange.specs.Rows as rows
use Rattle.ts_layers.proofs.Telling.{layers_tell}
use Rattle.ts_replay.specs.Rows.{AreGroupsOf}
use Rattle.ts_txn.specs.declared.making.TheConstants.{MOST_GROUPS}
use Rattle.ts_thread.specs.Started.{CanStart}
use Rattle.ts_thread.specs.Tags.{CanAsk}
use Rattle.ts_txn.specs.Asking.{IsRightFor, MayAskGroup}

-- ---- how many there are

length-numbered : (from : ℕ) (txns : List TxnPieces) → length (numbered from txns) ≡ length txns
length-numbered from [] = refl
length-numbered from (txn ∷ txns) = let more = length-numbered (from + 1) txns in omega (arith, more)

-- there are slots for all groups of a row
pub members_few : (setup : Setup) (txns : List TxnPieces) (tags : List RowTag) (groups : List RowGroup)
    → HasPlainLines setup → AreGroupsOf setup (length txns) (members setup.plugins.items txns) tags groups
    → length txns ≤ MOST_TXNS → length groups ≤ MOST_GROUPS
members_few setup txns tags groups lines row low =
    let ms = members setup.plugins.items txns in
    let few = lines.few.plugins in
    let of_tags = AllZip-long (IsNewTagOf setup (length txns)) ms tags row.tags_are in
    let of_groups = AllZip-long FitsIn tags groups row.fit in
    let all = length-append (numbered 1 txns) (map HookPlugin setup.plugins.items) in
    let first = length-numbered 1 txns in
    let behind = length-map setup.plugins.items HookPlugin in
    omega (arith, few, low, of_tags, of_groups, all, first, behind)

-- ---- who is started

-- the first so many are transactions, which are not only asked
starts_at : (setup : Setup) (at from : ℕ) (lines : List PluginLine) (txns : List TxnPieces)
    (tags : List RowTag) → AllZip (IsNewTagOf setup at) (numbered from txns ++ map HookPlugin lines) tags
    → (k : ℕ) → k < length txns
    → (t : RowTag) × (get_elem? tags k ≡ some t) × (is_asked_only t ≡ false)
starts_at setup at from lines [] tags are k low = absurd (omega arith)
starts_at setup at from lines (txn ∷ txns) [] are k low = absurd are
starts_at setup at from lines (txn ∷ txns) (kind.Other p ∷ tags) are k low = absurd are.0
starts_at setup at from lines (txn ∷ txns) (kind.One t ∷ tags) are zero low = (kind.One t, refl, refl)
starts_at setup at from lines (txn ∷ txns) (kind.One t ∷ tags) are (suc k) low =
    starts_at setup at (from + 1) lines txns tags are.1 k (omega arith)

pub row_starts : (setup : Setup) (txns : List TxnPieces) (tags : List RowTag) (starts : ℕ)
    → AllZip (IsNewTagOf setup (length txns)) (members setup.plugins.items txns) tags → starts ≡ length txns
    → CanStart is_asked_only tags starts
row_starts setup txns tags starts are all k low =
    starts_at setup (length txns) 1 setup.plugins.items txns tags are k (omega (arith, all, low))

-- ---- what is left to do

-- a transaction between two recorded sides with their layers tells it
sides_tell : (core : Core RecordedFront RecordedCarrier) (course : Course StockState) (pending : List Pending)
    → IsSome (transaction_left layered_client layered_link layered_origin stock_transform core course pending)
sides_tell core course pending =
    layers_tell memory_link memory_link recorded_origin stock_transform refl refl (λ c. refl) (λ o. refl)
    (λ c o. refl) core course pending

-- where a transaction does, each world of a row does
world_tells : {C O Q : Type 0} (left : Txn C O Q → State → Option ℕ) (s : State)
    → ((t : Txn C O Q) → IsSome (left t s)) → (w : rows.RowWorld C O Q)
    → IsSome (either_left left (λ (p : Plugin) (s : State). Some (length s.pending)) w s)
world_tells left s tells (One t) = tells t
world_tells left s tells (Other p) = refl

-- and so each group of the row
pub row_tells : (tags : List RowTag)
    → RowTells layered_client layered_link layered_origin stock_transform tags
row_tells tags k d low h fits =
    world_tells (λ (t : Recorded) (s : State).
    transaction_left layered_client layered_link layered_origin stock_transform t.core t.course s.pending)
    h.cx.log.state (λ t. sides_tell t.core t.course h.cx.log.state.pending) h.world

-- ---- where a plugin stands

-- the tag of a plugin of this line stands at the place
pub record HasPluginAt (tags : List RowTag) (k : ℕ) (line : PluginLine) : Type 0 where
  pub tag : PluginTag
  pub there : slice_get tags k ≡ Some (kind.Other tag)
  pub line_is : tag.line.value ≡ line

-- the same behind one tag more
plugin_behind : (tags : List RowTag) (t : RowTag) (k n : ℕ) (line : PluginLine) → n ≡ suc k
    → HasPluginAt tags k line → HasPluginAt (t ∷ tags) n line
plugin_behind tags t k n line is at = record {
  tag = at.tag;
  there = ap (slice_get (t ∷ tags)) is ∙ at.there;
  line_is = at.line_is;
}

module _ (setup : Setup) (at : ℕ) where
  -- that of the line at each place stands at this place among those of the plugins
  plugin_at : (lines : List PluginLine) (tags : List RowTag)
      → AllZip (IsNewTagOf setup at) (map HookPlugin lines) tags → (place : ℕ) (line : PluginLine)
      → slice_get lines place ≡ Some line → HasPluginAt tags place line
  plugin_at [] tags are place line there = absurd (cc)
  plugin_at (l ∷ ls) [] are place line there = absurd are
  plugin_at (l ∷ ls) (kind.One t ∷ tags) are place line there = absurd are.0
  plugin_at (l ∷ ls) (kind.Other p ∷ tags) are zero line there =
      let same : l ≡ line = cc in record { tag = p; there = refl; line_is = are.0 ∙ same }
  plugin_at (l ∷ ls) (kind.Other p ∷ tags) are (suc place) line there =
      plugin_behind tags (kind.Other p) place (suc place) line refl (plugin_at ls tags are.1 place line there)

  -- behind those of the transactions
  plugin_there : (from : ℕ) (lines : List PluginLine) (txns : List TxnPieces) (tags : List RowTag)
      → AllZip (IsNewTagOf setup at) (numbered from txns ++ map HookPlugin lines) tags
      → (place : ℕ) (line : PluginLine) → slice_get lines place ≡ Some line
      → HasPluginAt tags (length txns + place) line
  plugin_there from lines [] tags are place line there =
      subst (λ k. HasPluginAt tags k line) (let same : place ≡ 0 + place = omega arith in same)
      (plugin_at lines tags are place line there)
  plugin_there from lines (txn ∷ txns) [] are place line there = absurd are
  plugin_there from lines (txn ∷ txns) (t ∷ tags) are place line there =
      plugin_behind tags t (length txns + place) (length (txn ∷ txns) + place) line (omega arith)
      (plugin_there (from + 1) lines txns tags are.1 place line there)

  -- ---- what a transaction's tag says

  -- a transaction's tag stands before the plugins, and says the setup and the first plugin's group
  record HasTxnTag (most k : ℕ) (t : RecordedTag) : Type 0 where
    below : k < most
    setup_is : t.setup.value ≡ setup
    plugins_at : t.plugins_at ≡ at

  no_txn : (lines : List PluginLine) (tags : List RowTag)
      → AllZip (IsNewTagOf setup at) (map HookPlugin lines) tags → (k : ℕ) (t : RecordedTag)
      → slice_get tags k ≡ Some (kind.One t) → ⊥
  no_txn [] [] are k t there = cc
  no_txn [] (u ∷ tags) are k t there = are
  no_txn (l ∷ ls) [] are k t there = are
  no_txn (l ∷ ls) (kind.One u ∷ tags) are k t there = are.0
  no_txn (l ∷ ls) (kind.Other p ∷ tags) are zero t there = cc
  no_txn (l ∷ ls) (kind.Other p ∷ tags) are (suc k) t there = no_txn ls tags are.1 k t there

  txn_tag : (from : ℕ) (lines : List PluginLine) (txns : List TxnPieces) (tags : List RowTag)
      → AllZip (IsNewTagOf setup at) (numbered from txns ++ map HookPlugin lines) tags
      → (k : ℕ) (t : RecordedTag) → slice_get tags k ≡ Some (kind.One t) → HasTxnTag (length txns) k t
  txn_tag from lines [] tags are k t there = absurd (no_txn lines tags are k t there)
  txn_tag from lines (txn ∷ txns) [] are k t there = absurd are
  txn_tag from lines (txn ∷ txns) (kind.Other p ∷ tags) are k t there = absurd are.0
  txn_tag from lines (txn ∷ txns) (kind.One u ∷ tags) are zero t there =
      let same : u ≡ t = cc in
      record {
        below = omega arith;
        setup_is = ap (λ (v : RecordedTag). v.setup.value) (sym same) ∙ are.0.between.tag_is.setup_is
            ∙ are.0.between.over.setup;
        plugins_at = ap (λ (v : RecordedTag). v.plugins_at) (sym same) ∙ are.0.between.tag_is.plugins_are
            ∙ are.0.between.over.plugins_at;
      }
  txn_tag from lines (txn ∷ txns) (kind.One u ∷ tags) are (suc k) t there =
      let on = txn_tag (from + 1) lines txns tags are.1 k t there in
      let below = on.below in
      record { below = omega (arith, below); setup_is = on.setup_is; plugins_at = on.plugins_at }

-- ---- who asks whom

-- a place below the length has a line
line_at : (lines : List PluginLine) (place : ℕ) → place < length lines
    → (line : PluginLine) × (slice_get lines place ≡ Some line)
line_at [] place below = absurd (omega arith)
line_at (l ∷ ls) zero below = (l, refl)
line_at (l ∷ ls) (suc place) below = line_at ls place (omega arith)

-- what a world replies that fits the tag of a plugin is what the line says
reply_of_tag : (tag : PluginTag) (line : PluginLine) (v : RowWorld) (q : HookQuestion) (r : HookReply)
    → tag.line.value ≡ line → IsOfRowTag (kind.Other tag) v → IsAnswer v q r → IsReplyOf line q r
reply_of_tag tag line (One x) q r is fits answers = absurd fits
reply_of_tag tag line (Other p) q r is fits answers = subst (λ l. IsReplyOf l q r) (fits ∙ is) answers

module _ (setup : Setup) (txns : List TxnPieces) (tags : List RowTag)
    (are : AllZip (IsNewTagOf setup (length txns)) (members setup.plugins.items txns) tags) where
  -- a transaction that fits a tag of the row stands before the plugins, and knows the setup and their groups
  own_tag : (j : ℕ) (t : RecordedTag) → slice_get tags j ≡ Some (kind.One t)
      → HasTxnTag setup (length txns) (length txns) j t
  own_tag j t there = txn_tag setup (length txns) 1 setup.plugins.items txns tags are j t there

  plugin_of : (place : ℕ) (line : PluginLine) → slice_get setup.plugins.items place ≡ Some line
      → HasPluginAt tags (length txns + place) line
  plugin_of = plugin_there setup (length txns) 1 setup.plugins.items txns tags are

  -- whom it may ask stands behind the transactions, and is only asked
  asks_behind : (j k : ℕ) (t : RecordedTag) (x : Recorded) → slice_get tags j ≡ Some (kind.One t)
      → IsOfTag t x → MayAskGroup x k
      → (j ≢ k) × (u : RowTag) × (slice_get tags k ≡ Some u) × (is_asked_only u ≡ true)
  asks_behind j k t x there fits may =
      let own = own_tag j t there in
      let below = own.below in
      let group : k ≡ length txns + may.place = may.group_is ∙ ap (λ n. n + may.place)
      (fits.plugins_at ∙ own.plugins_at) in
      let few = subst (λ (s : Setup). may.place < length s.plugins.items) (fits.setup ∙ own.setup_is)
      may.there in
      let (line, is) = line_at setup.plugins.items may.place few in
      let p = plugin_of may.place line is in (
        λ same. absurd (omega (arith, same, below, group)),
        kind.Other p.tag,
        ap (slice_get tags) group ∙ p.there,
        refl,
      )

  -- and what that replies is right
  right_of : (j k : ℕ) (t : RecordedTag) (u : RowTag) (x : Recorded) (v : RowWorld) (q : HookQuestion)
      (r : HookReply) → slice_get tags j ≡ Some (kind.One t) → IsOfTag t x → slice_get tags k ≡ Some u
      → IsOfRowTag u v → IsAnswer v q r → IsRightFor x k q r
  right_of j k t u x v q r there fits at fit answers place line is group =
      let own = own_tag j t there in
      let stands = ap (λ (s : Setup). slice_get s.plugins.items place) (sym (fits.setup ∙ own.setup_is))
      ∙ is in
      let behind = group ∙ ap (λ n. n + place) (fits.plugins_at ∙ own.plugins_at) in
      let p = plugin_of place line stands in
      let same : u ≡ kind.Other p.tag =
      same_Some u (kind.Other p.tag) (sym at ∙ ap (slice_get tags) behind ∙ p.there) in
      reply_of_tag p.tag line v q r p.line_is (subst (λ w. IsOfRowTag w v) same fit) answers

  others : (j k : ℕ) (t : RowTag) (w : RowWorld) → slice_get tags j ≡ Some t → IsOfRowTag t w
      → MayAsk w k
      → (j ≢ k) × (u : RowTag) × (slice_get tags k ≡ Some u) × (is_asked_only u ≡ true)
  others j k (kind.One t) (One x) there fits may = asks_behind j k t x there fits may
  others j k (kind.One t) (Other p) there fits may = absurd fits
  others j k (kind.Other t) (One x) there fits may = absurd fits
  others j k (kind.Other t) (Other p) there fits may = absurd may

  replies : (j k : ℕ) (t u : RowTag) (w v : RowWorld) (q : HookQuestion) (r : HookReply)
      → slice_get tags j ≡ Some t → IsOfRowTag t w → slice_get tags k ≡ Some u → IsOfRowTag u v
      → IsAnswer v q r → IsRight w k q r
  replies j k (kind.One t) u (One x) v q r there fits at fit answers =
      right_of j k t u x v q r there fits at fit answers
  replies j k (kind.One t) u (Other p) v q r there fits at fit answers = tt
  replies j k (kind.Other t) u (One x) v q r there fits at fit answers = absurd fits
  replies j k (kind.Other t) u (Other p) v q r there fits at fit answers = tt

  -- the groups of a row can ask each other
  pub row_asks : CanAsk IsOfRowTag is_asked_only MayAsk IsRight IsAnswer tags
  row_asks = record { others = others; replies = replies }
