-- A row of groups: a transaction that was started, and behind it the plugins of the lines of its setup.
use Rattle.std.specs.Prelude.{◌≡◌, ◌⊎◌, ℕ, ◌≤◌, List, ◌∷◌, false, true, All, IsSome}
use Rattle.std.specs.Arc.{arc_value}
use Rattle.std.specs.List.{AllZip}
use Rattle.ts_config.specs.declared.setup.Setup.{Setup}
use Rattle.ts_config.specs.declared.setup.TransformLine.{TransformLine}
use Rattle.ts_exchange.specs.declared.exchange.ExchangeSetting.{ExchangeSetting}
use Rattle.ts_exchange.specs.Rows.{FitInRow, IsTagOfLine, RowGroup, RowTag}
use Rattle.ts_group.specs.declared.action.Named.{Named}
use Rattle.ts_group.specs.declared.alone.TheConstants.{ONLY_SEAT}
use Rattle.ts_group.specs.declared.either.EitherTag.TheVariants as kind
use Rattle.ts_group.specs.declared.group.Group.{Group}
use Rattle.ts_group.specs.declared.world.TheConstants.{MOST_SET}
use Rattle.ts_group.specs.Acts.{BeginsTurn, GivesTurn}
use Rattle.ts_group.specs.Answers.{Holds, SetsAtMost}
use Rattle.ts_group.specs.Changes.{StaysInTurn}
use Rattle.ts_group.specs.Entries.{Grows}
use Rattle.ts_journal.specs.declared.entry.TheConstants.{GREATEST}
use Rattle.ts_journal.specs.declared.entry.Pending.{Pending}
use Rattle.ts_journal.specs.Log.{Log}
use Rattle.ts_journal.specs.State.{State}
use Rattle.ts_link.specs.declared.link.Link as link
use Rattle.ts_upstream.specs.declared.upstream.Upstream as upstream
use Rattle.ts_transform.specs.declared.transform.Transform as transform
use Rattle.ts_thread.specs.Threads.{HasHadTurns}
use Rattle.ts_txn.specs.Making.{IsTxnSetup, end_of_course}
use Rattle.ts_txn.specs.LoweringCourse.{transaction_left}
use Rattle.ts_phases.specs.declared.parts.Core.{Core}
use Rattle.ts_txn.specs.declared.course.Course.{Course}
use Rattle.ts_txn.specs.declared.txn.Txn.{Txn}
use Rattle.ts_txn.specs.declared.txn.TxnTag.{TxnTag}

-- the group of the plugin of the first line, behind that of the transaction
abbrev pub first_plugin : ℕ
first_plugin = 1

-- the turn in which a transaction is started
abbrev pub first_turn : ℕ
first_turn = 1

-- the transaction has ended, or the event numbers of its group, which is in this state, are used up
abbrev pub HasEndedOr : {C O Q : Type 0} → Txn C O Q → State → Type 0
HasEndedOr t s = IsSome (end_of_course t.course) ⊎ (GREATEST ≤ s.next)

-- transactions are made under it, whose first plugin stands where a row has it
pub record IsSetting (setting : ExchangeSetting) : Type 0 where
  pub lines : IsTxnSetup (arc_value setting.setup) setting.plugins_at
  pub plugins_at : setting.plugins_at ≡ first_plugin

module _ {W Q R T U : Type 0} where
  -- A group was started in the turn that follows, and gave it back: what it was once the turn had begun, and
  -- once its world was started.
  pub record HasStarted (Fits : T → W → Type 0) (Sound : W → State → List Named → Type 0)
      (Begun : W → W → Type 0) (fresh given : Group W Q R T U) : Type 0 where
    pub begun : Group W Q R T U
    pub started : Group W Q R T U
    pub begins : BeginsTurn fresh.cx begun.cx first_turn ONLY_SEAT 0
    pub same : begun.world ≡ fresh.world
    pub grows : Grows begun.cx started.cx
    pub turn : StaysInTurn begun.cx.log.state started.cx.log.state
    pub first : Begun begun.world started.world
    pub few : SetsAtMost Fits begun.world MOST_SET begun.cx started.cx
    pub gives : GivesTurn started.cx given.cx
    pub left : given.world ≡ started.world
    pub sound : Holds Sound given

  -- the world and the journal are those of the first of these groups
  pub record IsFirstOf (groups : List (Group W Q R T U)) (world : W) (journal : Log) : Type 0 where
    pub group : Group W Q R T U
    pub behind : List (Group W Q R T U)
    pub are : groups ≡ group ∷ behind
    pub world_is : world ≡ group.world
    pub journal_is : journal ≡ group.cx.log

-- The tags of a row: that of the transaction, which asks the groups behind its own, and those of the plugins
-- of its lines, in their order.
pub record AreRowTags {C O : Type 0} (tag : TxnTag C O) (tags : List (RowTag C O)) : Type 0 where
  pub behind : List (RowTag C O)
  pub tags_are : tags ≡ kind.One tag ∷ behind
  pub lines : AllZip IsTagOfLine tag.setup.value.plugins.items behind
  pub plugins_at : tag.plugins_at ≡ first_plugin

-- they are the tags of a row
pub record HasRowTags {C O : Type 0} (tags : List (RowTag C O)) : Type 0 where
  pub tag : TxnTag C O
  pub are : AreRowTags tag tags

-- the tag is that of a transaction under this setup, which was not started
pub record IsTagFor {C O : Type 0} (setup : Setup) (tag : TxnTag C O) : Type 0 where
  pub setup_is : tag.setup.value ≡ setup
  pub plugins_at : tag.plugins_at ≡ first_plugin
  pub started : tag.started ≡ false

module _ {C O Q : Type 0} (client : link.Ghosts C) (origin : link.Ghosts O) (both : upstream.Ghosts O C)
    (stage : transform.Ghosts Q TransformLine) where
  -- The groups fit the tags of a row, and have had no turn.
  pub record IsNewRow (tags : List (RowTag C O)) (groups : List (RowGroup C O Q)) : Type 0 where
    pub tag : TxnTag C O
    pub tags_are : AreRowTags tag tags
    pub fit : FitInRow client origin both stage tags groups
    pub new : All (HasHadTurns 0) groups

  -- The groups fit the tags of a row whose transaction was started.
  pub record HasBegun (groups : List (RowGroup C O Q)) : Type 0 where
    pub tag : TxnTag C O
    pub tags : List (RowTag C O)
    pub tags_are : AreRowTags tag tags
    pub fit : FitInRow client origin both stage tags groups
    pub started : tag.started ≡ true

  -- its number in its group is told, however far it is
  abbrev pub AlwaysTells : Type 0
  AlwaysTells = (core : Core C O) (course : Course Q) (pending : List Pending)
      → IsSome (transaction_left client origin both stage core course pending)
