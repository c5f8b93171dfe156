-- A row of a transaction and the plugins of its lines grows line by line, and its transaction asks those
-- plugins alone.
use Rattle.std.proofs.Common.{◌≡◌, ◌≢◌, ◌∙◌, ℕ, zero, suc, ◌+◌, ◌<◌, List, [], ◌∷◌, ◌++◌, Some, true, refl}
use Rattle.std.proofs.Common.{sym, ap, subst, arith, length}
use lib.ListN.{get_elem?}
use Rattle.std.specs.Prelude.{⊤, slice_get}
use Rattle.std.specs.Arc.{arc_value}
use Rattle.std.specs.List.{AllZip}
use Rattle.std.proofs.lemmas.List.Elements.{All-cons}
use Rattle.ts_config.specs.declared.fields.PluginLine.{PluginLine}
use Rattle.ts_config.specs.declared.setup.Setup.{Setup}
use Rattle.ts_config.specs.declared.setup.TransformLine.{TransformLine}
use Rattle.ts_group.specs.Either.{EitherAnswers, EitherMayAsk, EitherRight}
use Rattle.ts_group.specs.declared.either.Either.TheVariants.{One, Other}
use Rattle.ts_group.specs.declared.either.EitherTag.TheVariants as kind
use Rattle.ts_group.specs.Context.{IsFresh}
use Rattle.ts_link.specs.declared.link.Link as link
use Rattle.ts_upstream.specs.declared.upstream.Upstream as upstream
use Rattle.ts_transform.specs.declared.transform.Transform as transform
use Rattle.ts_plugin.specs.Replies.{IsReplyOf}
use Rattle.ts_plugin.specs.declared.plugin.Plugin.{Plugin}
use Rattle.ts_plugin.specs.declared.plugin.PluginTag.{PluginTag}
use Rattle.ts_plugin.specs.declared.question.HookQuestion.{HookQuestion}
use Rattle.ts_plugin.specs.declared.question.HookReply.{HookReply}
use Rattle.ts_thread.specs.Started.{CanStart}
use Rattle.ts_thread.specs.Tags.{CanAsk}
use Rattle.ts_thread.specs.Threads.{HasHadTurns}
use Rattle.ts_txn.specs.Asking.{IsRightFor, MayAskGroup}
use Rattle.ts_txn.specs.World.{IsTxnOf, LetsContinue}
use Rattle.ts_txn.specs.declared.txn.Txn.{Txn}
use Rattle.ts_txn.specs.declared.txn.TxnTag.{TxnTag}
use Rattle.ts_exchange.specs.Rows.{FitsIn, FitsRow, IsTagOfLine, RowGroup, RowTag, RowWorld, StandBehind}
use Rattle.ts_exchange.specs.Rows.{is_asked_only}
use Rattle.ts_exchange.proofs.Rows.{no_turns}
use Rattle.ts_mishap_tests.specs.Begun.{AreRowTags, HasBegun, HasRowTags, IsNewRow, IsTagFor, first_plugin}

-- ---- a row grows

module _ {C O Q : Type 0} (client : link.Ghosts C) (origin : link.Ghosts O) (both : upstream.Ghosts O C)
    (stage : transform.Ghosts Q TransformLine) where
  -- what stands behind a transaction makes its row whole
  row_tags : (setup : Setup) (tags ts : List (RowTag C O)) (groups gs : List (RowGroup C O Q))
      (stand : StandBehind client origin both stage setup.plugins.items tags ts groups gs) (own : TxnTag C O)
      → own.setup.value ≡ setup → own.plugins_at ≡ first_plugin
      → AreRowTags own (kind.One own ∷ stand.added_tags)
  row_tags setup tags ts groups gs stand own is at = record {
    behind = stand.added_tags;
    tags_are = refl;
    lines = subst (λ (s : Setup). AllZip IsTagOfLine s.plugins.items stand.added_tags) (sym is)
        stand.lines_are;
    plugins_at = at;
  }

  -- of one that was not started
  pub is_new : (setup : Setup) (tag : TxnTag C O) (group : RowGroup C O Q) (tags ts : List (RowTag C O))
      (groups gs : List (RowGroup C O Q)) → StandBehind client origin both stage setup.plugins.items tags ts
      groups gs
      → tags ≡ kind.One tag ∷ [] → groups ≡ group ∷ [] → IsTagFor setup tag
      → FitsIn client origin both stage (kind.One tag) group → IsFresh 0 group.cx
      → IsNewRow client origin both stage ts gs
  is_new setup tag group tags ts groups gs stand one first of_setup fits fresh =
      let tags_are : ts ≡ kind.One tag ∷ stand.added_tags =
      stand.tags_are ∙ ap (λ l. l ++ stand.added_tags) one in
      let groups_are : gs ≡ group ∷ stand.added = stand.groups_are ∙ ap (λ l. l ++ stand.added) first in
      subst (λ xs. IsNewRow client origin both stage xs gs) (sym tags_are)
      (subst (IsNewRow client origin both stage (kind.One tag ∷ stand.added_tags)) (sym groups_are) (record {
        tag = tag;
        tags_are = row_tags setup tags ts groups gs stand tag of_setup.setup_is of_setup.plugins_at;
        fit = (fits, stand.fit);
        new = All-cons (HasHadTurns 0) group stand.added (no_turns group fresh) stand.new;
      }))

  -- and of one that was
  pub has_begun : (setup : Setup) (tag : TxnTag C O) (group : RowGroup C O Q) (tags ts : List (RowTag C O))
      (groups gs : List (RowGroup C O Q)) → StandBehind client origin both stage setup.plugins.items tags ts
      groups gs
      → groups ≡ group ∷ [] → IsTagFor setup tag
      → FitsIn client origin both stage (kind.One (record tag { started = true })) group
      → HasBegun client origin both stage gs
  has_begun setup tag group tags ts groups gs stand first of_setup fits =
      let groups_are : gs ≡ group ∷ stand.added = stand.groups_are ∙ ap (λ l. l ++ stand.added) first in
      let own : TxnTag C O = record tag { started = true } in
      subst (HasBegun client origin both stage) (sym groups_are) (record {
        tag = own;
        tags = kind.One own ∷ stand.added_tags;
        tags_are = row_tags setup tags ts groups gs stand own of_setup.setup_is of_setup.plugins_at;
        fit = (fits, stand.fit);
        started = refl;
      })

-- ---- where a plugin stands

-- the tag of the plugin of this line stands at the place
record HasPluginAt {C O : Type 0} (tags : List (RowTag C O)) (k : ℕ) (line : PluginLine) : Type 0 where
  pub tag : PluginTag
  pub there : slice_get tags k ≡ Some (kind.Other tag)
  pub line_is : tag.line.value ≡ line

plugin_at : {C O : Type 0} (lines : List PluginLine) (tags : List (RowTag C O))
    → AllZip IsTagOfLine lines tags → (place : ℕ) (line : PluginLine) → slice_get lines place ≡ Some line
    → HasPluginAt tags place line
plugin_at [] tags are place line there = absurd (cc)
plugin_at (l ∷ ls) [] are place line there = absurd are
plugin_at (l ∷ ls) (kind.One t ∷ tags) are place line there = absurd are.0
plugin_at (l ∷ ls) (kind.Other p ∷ tags) are zero line there =
    let same : l ≡ line = cc in record { tag = p; there = refl; line_is = are.0 ∙ same }
plugin_at (l ∷ ls) (kind.Other p ∷ tags) are (suc place) line there =
    let at = plugin_at ls tags are.1 place line there in
    record { tag = at.tag; there = at.there; line_is = at.line_is }

-- none of them is a transaction's
no_txn : {C O : Type 0} (lines : List PluginLine) (tags : List (RowTag C O)) → AllZip IsTagOfLine lines tags
    → (k : ℕ) (t : TxnTag C O) → slice_get tags k ≡ Some (kind.One t) → ⊥
no_txn [] [] are k t there = cc
no_txn [] (u ∷ tags) are k t there = are
no_txn (l ∷ ls) [] are k t there = are
no_txn (l ∷ ls) (kind.One u ∷ tags) are k t there = are.0
no_txn (l ∷ ls) (kind.Other p ∷ tags) are zero t there = cc
no_txn (l ∷ ls) (kind.Other p ∷ tags) are (suc k) t there = no_txn ls tags are.1 k t there

-- a place below the length has a line
line_at : (lines : List PluginLine) (place : ℕ) → place < length lines
    → (line : PluginLine) × (slice_get lines place ≡ Some line)
line_at [] place below = absurd (omega arith)
line_at (l ∷ ls) zero below = (l, refl)
line_at (l ∷ ls) (suc place) below = line_at ls place (omega arith)

-- ---- who asks whom

-- whom a world of the row may ask, which replies are right for it, and which it gives
abbrev RowMayAsk : {C O Q : Type 0} → RowWorld C O Q → ℕ → Type 0
RowMayAsk w k = EitherMayAsk (λ t n. MayAskGroup t n) (λ (p : Plugin) (n : ℕ). ⊥) w k

abbrev RowRight : {C O Q : Type 0} → RowWorld C O Q → ℕ → HookQuestion → HookReply → Type 0
RowRight w k q r = EitherRight (λ t n a b. IsRightFor t n a b)
    (λ (p : Plugin) (n : ℕ) (a : HookQuestion) (b : HookReply). ⊤) w k q r

abbrev RowAnswers : {C O Q : Type 0} → RowWorld C O Q → HookQuestion → HookReply → Type 0
RowAnswers w q r = EitherAnswers (λ t a b. LetsContinue a b)
    (λ (p : Plugin) (a : HookQuestion) (b : HookReply). IsReplyOf p.line a b) w q r

module _ {C O Q : Type 0} (client : link.Ghosts C) (origin : link.Ghosts O) (both : upstream.Ghosts O C)
    (stage : transform.Ghosts Q TransformLine) (tag : TxnTag C O) (behind : List (RowTag C O))
    (lines : AllZip IsTagOfLine tag.setup.value.plugins.items behind) (at : tag.plugins_at ≡ first_plugin)
  where
    abbrev Fits : RowTag C O → RowWorld C O Q → Type 0
    Fits = FitsRow client origin both stage

    -- a transaction's tag is the first of the row
    own_tag : (j : ℕ) (t : TxnTag C O) → slice_get (kind.One tag ∷ behind) j ≡ Some (kind.One t)
        → (j ≡ 0) × (tag ≡ t)
    own_tag zero t there = (refl, cc)
    own_tag (suc j) t there = absurd (no_txn tag.setup.value.plugins.items behind lines j t there)

    -- the plugin of a line stands behind it
    plugin_of : (j k : ℕ) (t : TxnTag C O) (w : Txn C O Q) (place : ℕ) (line : PluginLine)
        → slice_get (kind.One tag ∷ behind) j ≡ Some (kind.One t) → IsTxnOf client origin t w
        → slice_get (arc_value w.core.setup).plugins.items place ≡ Some line → k ≡ w.core.plugins_at + place
        → (j ≢ k) × HasPluginAt (kind.One tag ∷ behind) k line
    plugin_of j k t w place line there fits of_line is =
        let own = own_tag j t there in
        let setup : arc_value w.core.setup ≡ tag.setup.value =
        fits.setup ∙ ap (λ (s : TxnTag C O). s.setup.value) (sym own.1) in
        let first : w.core.plugins_at ≡ first_plugin =
        fits.plugins_at ∙ ap (λ (s : TxnTag C O). s.plugins_at) (sym own.1) ∙ at in
        let next : suc place ≡ k = omega (arith, is, first) in
        let stands = plugin_at tag.setup.value.plugins.items behind lines place line
        (ap (λ (s : Setup). slice_get s.plugins.items place) (sym setup) ∙ of_line) in (
          λ same. let wrong : 0 ≡ suc place = sym own.0 ∙ same ∙ sym next in cc,
          record {
            tag = stands.tag;
            there = ap (slice_get (kind.One tag ∷ behind)) (sym next) ∙ stands.there;
            line_is = stands.line_is;
          },
        )

    -- whom a world of the row asks is only asked
    others : (j k : ℕ) (t : RowTag C O) (w : RowWorld C O Q)
        → slice_get (kind.One tag ∷ behind) j ≡ Some t → Fits t w → RowMayAsk w k
        → (j ≢ k) × (u : RowTag C O) × (slice_get (kind.One tag ∷ behind) k ≡ Some u)
        × (is_asked_only u ≡ true)
    others j k (kind.One t) (One w) there fits may =
        let of_line = line_at (arc_value w.core.setup).plugins.items may.place may.there in
        let stands = plugin_of j k t w may.place of_line.0 there fits of_line.1 may.group_is in
        (stands.0, kind.Other stands.1.tag, stands.1.there, refl)
    others j k (kind.One t) (Other p) there fits may = absurd fits
    others j k (kind.Other u) (One w) there fits may = absurd fits
    others j k (kind.Other u) (Other p) there fits may = absurd may

    -- what a world replies that fits the tag of a plugin is what the line says
    reply_of : (u : PluginTag) (line : PluginLine) (v : RowWorld C O Q) (q : HookQuestion) (r : HookReply)
        → u.line.value ≡ line → Fits (kind.Other u) v → RowAnswers v q r → IsReplyOf line q r
    reply_of u line (One t) q r is fits answers = absurd fits
    reply_of u line (Other p) q r is fits answers = subst (λ l. IsReplyOf l q r) (fits ∙ is) answers

    replies : (j k : ℕ) (t u : RowTag C O) (w v : RowWorld C O Q) (q : HookQuestion) (r : HookReply)
        → slice_get (kind.One tag ∷ behind) j ≡ Some t → Fits t w
        → slice_get (kind.One tag ∷ behind) k ≡ Some u → Fits u v → RowAnswers v q r → RowRight w k q r
    replies j k (kind.One t) u (One w) v q r there fits at_k fits_v answers = λ place line of_line is.
        let stands = (plugin_of j k t w place line there fits of_line is).1 in
        let same : kind.Other stands.tag ≡ u =
        (let both_ : Some (kind.Other stands.tag) ≡ Some u = sym stands.there ∙ at_k in cc) in
        reply_of stands.tag line v q r stands.line_is (subst (λ x. Fits x v) (sym same) fits_v) answers
    replies j k (kind.One t) u (Other p) v q r there fits at_k fits_v answers = tt
    replies j k (kind.Other t) u (One w) v q r there fits at_k fits_v answers = absurd fits
    replies j k (kind.Other t) u (Other p) v q r there fits at_k fits_v answers = tt

-- the groups of a row can ask each other
pub can_ask : {C O Q : Type 0} (client : link.Ghosts C) (origin : link.Ghosts O) (both : upstream.Ghosts O C)
    (stage : transform.Ghosts Q TransformLine) (tag : TxnTag C O) (tags : List (RowTag C O))
    → AreRowTags tag tags
    → CanAsk (FitsRow client origin both stage) is_asked_only RowMayAsk RowRight RowAnswers tags
can_ask client origin both stage tag tags are =
    subst (λ ts. CanAsk (FitsRow client origin both stage) is_asked_only RowMayAsk RowRight RowAnswers ts)
    (sym are.tags_are)
    (record {
      others = others client origin both stage tag are.behind are.lines are.plugins_at;
      replies = replies client origin both stage tag are.behind are.lines are.plugins_at;
    })

-- the same for groups in slots, whose tags are those of a row
pub row_can_ask : {C O Q : Type 0} (client : link.Ghosts C) (origin : link.Ghosts O)
    (both : upstream.Ghosts O C) (stage : transform.Ghosts Q TransformLine) (tags : List (RowTag C O))
    → HasRowTags tags
    → CanAsk (FitsRow client origin both stage) is_asked_only RowMayAsk RowRight RowAnswers tags
row_can_ask client origin both stage tags row = can_ask client origin both stage row.tag tags row.are

-- the first of them is started
pub row_starts : {C O : Type 0} (tags : List (RowTag C O)) → HasRowTags tags → CanStart is_asked_only tags 1
row_starts tags row zero low = (kind.One row.tag, ap (λ ts. get_elem? ts 0) row.are.tags_are, refl)
row_starts tags row (suc k) low = absurd (omega arith)

-- the same tags are those of a row
pub same_tags : {C O : Type 0} (tags us : List (RowTag C O)) → HasRowTags tags → us ≡ tags → HasRowTags us
same_tags tags us row same = subst HasRowTags (sym same) row
