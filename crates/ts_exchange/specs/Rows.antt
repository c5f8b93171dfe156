-- The row of groups in which transactions and the plugins of their lines run: the world of each, its tag, and
-- what is to hold of it.
use Rattle.std.specs.Prelude.{◌≡◌, List, ◌++◌, Bool, false, true, All}
use Rattle.std.specs.List.{AllZip}
use Rattle.ts_config.specs.declared.fields.PluginLine.{PluginLine}
use Rattle.ts_config.specs.declared.setup.TransformLine.{TransformLine}
use Rattle.ts_group.specs.Either.{EitherFits, EitherSound, tag_of}
use Rattle.ts_group.specs.declared.action.Named.{Named}
use Rattle.ts_group.specs.declared.either.Either.{Either}
use Rattle.ts_group.specs.declared.either.EitherTag.{EitherTag}
use Rattle.ts_group.specs.declared.either.EitherTag.TheVariants as kind
use Rattle.ts_group.specs.declared.group.Group.{Group}
use Rattle.ts_journal.specs.State.{State}
use Rattle.ts_link.specs.declared.link.Link as link
use Rattle.ts_plugin.specs.World.{IsPluginOf, OnlyAnswers}
use Rattle.ts_plugin.specs.declared.plugin.Plugin.{Plugin}
use Rattle.ts_plugin.specs.declared.plugin.PluginTag.{PluginTag}
use Rattle.ts_plugin.specs.declared.question.HookQuestion.{HookQuestion}
use Rattle.ts_plugin.specs.declared.question.HookReply.{HookReply}
use Rattle.ts_upstream.specs.declared.upstream.Upstream as upstream
use Rattle.ts_transform.specs.declared.transform.Transform as transform
use Rattle.ts_thread.specs.Tags.{GroupFits, GroupsFit}
use Rattle.ts_thread.specs.Threads.{HasHadTurns}
use Rattle.ts_txn.specs.World.{IsSoundTxn, IsTxnOf}
use Rattle.ts_txn.specs.declared.txn.Txn.{Txn}
use Rattle.ts_txn.specs.declared.txn.TxnTag.{TxnTag}

-- the world of a group in the row, a transaction or a plugin, and its tag
abbrev pub RowWorld : Type 0 → Type 0 → Type 0 → Type 0
RowWorld C O Q = Either (Txn C O Q) Plugin

abbrev pub RowTag : Type 0 → Type 0 → Type 0
RowTag C O = EitherTag (TxnTag C O) PluginTag

abbrev pub RowGroup : Type 0 → Type 0 → Type 0 → Type 0
RowGroup C O Q = Group (RowWorld C O Q) HookQuestion HookReply (RowTag C O) (Unit {0})

-- only plugins are only asked
abbrev pub is_asked_only : {C O : Type 0} → RowTag C O → Bool
is_asked_only tag = tag_of (λ t. false) (λ p. true) tag

abbrev pub is_first : {C O : Type 0} → RowTag C O → Bool
is_first tag = tag_of (λ t. t.first) (λ p. true) tag

-- the tag is that of the plugin of this line
abbrev pub IsTagOfLine : {C O : Type 0} → PluginLine → RowTag C O → Type 0
IsTagOfLine line (kind.One t) = ⊥
IsTagOfLine line (kind.Other p) = p.line.value ≡ line

module _ {C O Q : Type 0} (client : link.Ghosts C) (origin : link.Ghosts O) (both : upstream.Ghosts O C)
    (stage : transform.Ghosts Q TransformLine) where
  -- what is to hold of a transaction in its group holds
  abbrev pub IsSoundIn : Txn C O Q → State → List Named → Type 0
  IsSoundIn t s roles = IsSoundTxn client origin both stage t s.pending s.next roles

  -- what is to hold of the world of a group in the row
  abbrev pub IsSoundRow : RowWorld C O Q → State → List Named → Type 0
  IsSoundRow = EitherSound IsSoundIn (λ p s roles. OnlyAnswers s)

  -- the world is the one that the tag names
  abbrev pub FitsRow : RowTag C O → RowWorld C O Q → Type 0
  FitsRow = EitherFits (IsTxnOf client origin) IsPluginOf

  -- a group fits a tag, as it must in a slot
  abbrev pub FitsIn : RowTag C O → RowGroup C O Q → Type 0
  FitsIn = GroupFits FitsRow IsSoundRow is_asked_only is_first

  abbrev pub FitInRow : List (RowTag C O) → List (RowGroup C O Q) → Type 0
  FitInRow = GroupsFit FitsRow IsSoundRow is_asked_only is_first

  -- The plugins of these lines have their groups and tags behind those that were there, and had no turn.
  pub record StandBehind (lines : List PluginLine) (tags more_tags : List (RowTag C O))
      (groups more : List (RowGroup C O Q)) : Type 0 where
    pub added_tags : List (RowTag C O)
    pub added : List (RowGroup C O Q)
    pub tags_are : more_tags ≡ tags ++ added_tags
    pub groups_are : more ≡ groups ++ added
    pub lines_are : AllZip IsTagOfLine lines added_tags
    pub fit : FitInRow added_tags added
    pub new : All (HasHadTurns 0) added
