-- What is known of each member of a row once the threads and the last turns are done.
use Rattle.std.proofs.Common.{◌≡◌, ℕ, suc, ◌+◌, ◌*◌, ◌<◌, ◌≤◌, List, [], ◌∷◌, ◌++◌, length, true, false, map}
use Rattle.std.proofs.Common.{Option, Some, None, All, refl, sym, ap, subst, ◌∙◌, inl, inr, arith}
use mathlib.Core.Option.{some}
use lib.ListN.{get_elem?}
use Rattle.std.specs.Prelude.{max}
use Rattle.std.specs.List.{AllZip}
use Rattle.std.specs.Option.{option_map}
use Rattle.std.proofs.lemmas.Bool.{OnTrue_at}
use Rattle.std.proofs.lemmas.List.Elements.{All-head, All-tail}
use Rattle.ts_config.specs.declared.fields.PluginLine.{PluginLine}
use Rattle.ts_config.specs.declared.setup.Setup.{Setup}
use Rattle.ts_group.specs.declared.either.Either.TheVariants.{One, Other}
use Rattle.ts_group.specs.declared.either.EitherTag.TheVariants as kind
use Rattle.ts_group.specs.declared.slot.TheConstants.{MOST_IN_TURN}
use Rattle.ts_journal.specs.declared.entry.TheConstants.{GREATEST}
use Rattle.ts_journal.specs.Later.{Follows}
use Rattle.ts_journal.specs.State.{State}
use Rattle.ts_lists.proofs.Pairs.{zip_at_place}
use Rattle.ts_plugin.specs.declared.plugin.PluginTag.{PluginTag}
use Rattle.ts_record.specs.Grammar.{TxnPieces}
use Rattle.ts_record.specs.Links.{recorded_side}
use Rattle.ts_replay.specs.Exchanged.{IsRunBetween}
use Rattle.ts_replay.specs.Members.{HookPlugin, Member, members, numbered}
use Rattle.ts_replay.specs.Recorded.{FitInRow, FitsIn, HasPlainLines, HasRowBegun, IsNewTagOf, IsOfRowTag}
use Rattle.ts_replay.specs.Recorded.{IsOfTag, IsSoundRow, IsTagOf, Recorded, RecordedTag, RowGroup, RowTag}
use Rattle.ts_replay.specs.Recorded.{RowWorld, layered_client, layered_link, recorded_ends, recorded_promise}
use Rattle.ts_exchange.specs.Rows.{is_asked_only, is_first}
use Rattle.ts_replay.specs.Replayed.{AreDone, HasRestedAs, HasRunAs, IsDoneAs}
use Rattle.ts_replay.specs.Reports.{sides_of}
use Rattle.ts_replay.specs.Rows.{AreGroupsOf}
use Rattle.ts_thread.specs.declared.TheConstants.{MOST_ALONE}
use Rattle.ts_thread.specs.Goings.{IsIdle}
use Rattle.ts_thread.specs.Started.{IsFirst, WasStarted}
use Rattle.ts_thread.specs.Threads.{HasHadTurns, turns_of}
use Rattle.ts_thread.specs.Whole.{HaveEnded}
use Rattle.ts_thread.proofs.Known.{end_fits, found_fits}
use Rattle.ts_txn.proofs.Fitting.{fits_begun}

-- ---- it was started

-- of a group that began with no turn, a state that follows another has had no fewer turns
later_turns : (a b : ℕ) (s t : State) → a ≡ 0 → Follows (a, t) (b, s) → s.turns ≤ t.turns
later_turns a b s t none (inl low) = absurd (omega (arith, none, low))
later_turns a b s t none (inr (same, later)) = later.turns

-- a transaction that began fits the tag that says that it was started
begun_fits : (tag : RecordedTag) (old new : RowWorld) → IsOfRowTag (kind.One tag) old → HasRowBegun old new
    → IsOfRowTag (kind.One (record tag { started = true })) new
begun_fits tag (One t) (One u) fits begun = fits_begun layered_client layered_link tag t u begun fits
begun_fits tag (One t) (Other p) fits begun = absurd begun
begun_fits tag (Other p) new fits begun = absurd fits

-- once it was started it fits its tag, which says so, and it has had a turn
pub record Goes (tag : RecordedTag) (g : RowGroup) : Type 0 where
  pub fits : IsOfRowTag (kind.One (record tag { started = true })) g.world
  pub turned : 0 < g.cx.log.state.turns

-- so does what follows a group that was started
goes_on : (tags : List RowTag) (k : ℕ) (tag : RecordedTag) (given now : RowGroup)
    → get_elem? tags k ≡ some (kind.One tag) → tag.first ≡ true → IsOfRowTag (kind.One tag) given.world
    → now.cx.log.base.made ≡ 0
    → WasStarted IsOfRowTag (IsFirst is_first tags) HasRowBegun IsSoundRow k given now → Goes tag now
goes_on tags k tag given now there first fits none was =
    let begun = was.started in
    let found : IsOfRowTag (kind.One tag) was.found.world = found_fits IsOfRowTag is_first HasRowBegun
    IsSoundRow tags k given now (kind.One tag) there first was (kind.One tag) fits in
    let more = later_turns now.cx.log.base.made begun.cx.log.base.made begun.cx.log.state now.cx.log.state
    none was.follows.journal in
    let own = was.turned in
    record {
      fits = end_fits IsOfRowTag is_first HasRowBegun IsSoundRow tags k given now (kind.One tag) there first
          was none
          (kind.One (record tag { started = true }))
          (begun_fits tag was.found.world begun.world found was.begun);
      turned = omega (arith, more, own);
    }

-- each transaction of the first so many that fits the tag at its place goes, where its slot had no other
-- tenant
abbrev pub AllGo : ℕ → List RowTag → List RowGroup → Type 0
AllGo starts tags groups =
    (k : ℕ) (tag : RecordedTag) (g : RowGroup) → k < starts → get_elem? tags k ≡ some (kind.One tag)
    → get_elem? groups k ≡ some g → tag.first ≡ true → FitsIn (kind.One tag) g → Goes tag g

-- ---- member by member

-- a world that fits the tag of a transaction is one
record IsTxnWorld (tag : RecordedTag) (w : RowWorld) : Type 0 where
  txn : Recorded
  is_txn : w ≡ One txn
  fits : IsOfTag tag txn

txn_world : (tag : RecordedTag) (w : RowWorld) → IsOfRowTag (kind.One tag) w → IsTxnWorld tag w
txn_world tag (One t) fits = record { txn = t; is_txn = refl; fits = fits }
txn_world tag (Other p) fits = absurd fits

-- the plugin of a line has rested in its group
rested : (line : PluginLine) (tag : PluginTag) (g : RowGroup) → tag.line.value ≡ line
    → FitsIn (kind.Other tag) g → IsIdle g → HasRestedAs line g
rested line tag g is fits idle = of_world g.world refl
  where
    of_world : (w : RowWorld) → g.world ≡ w → HasRestedAs line g
    of_world (One t) same = absurd (subst (IsOfRowTag (kind.Other tag)) same fits.0)
    of_world (Other p) same = record {
      plugin = p;
      is_plugin = same;
      line_is = subst (IsOfRowTag (kind.Other tag)) same fits.0 ∙ is;
      sound = subst (λ v. IsSoundRow v g.cx.log.state g.cx.roles) same fits.1;
      began = fits.3;
      idle = idle;
      given = fits.2.0;
      numbers = fits.2.1;
    }

module _ (setup : Setup) (at most : ℕ) (lines : HasPlainLines setup)
    (low : MOST_IN_TURN * most + 1 < GREATEST) where
  -- a transaction has run
  has_run : (number : ℕ) (txn : TxnPieces) (tag : RecordedTag) (g : RowGroup)
      → IsTagOf setup at number txn false tag → FitsIn (kind.One tag) g → IsIdle g → HasHadTurns most g
      → Goes tag g → HasRunAs setup at number txn g
  has_run number txn tag g is fits idle few goes =
      let w = txn_world (record tag { started = true }) g.world goes.fits in
      record {
        lines = lines;
        txn = w.txn;
        is_txn = w.is_txn;
        tag = record tag { started = true };
        tag_is = record {
          between = record {
            layered = is.between.layered;
            over = is.between.over;
            tag_is = record {
              number_is = is.between.tag_is.number_is;
              setup_is = is.between.tag_is.setup_is;
              plugins_are = is.between.tag_is.plugins_are;
              client_is = is.between.tag_is.client_is;
              origin_is = is.between.tag_is.origin_is;
              sure_is = is.between.tag_is.sure_is;
              first_is = is.between.tag_is.first_is;
              started_is = refl;
            };
          };
          takes_some = is.takes_some;
        };
        fits = w.fits;
        sound = subst (λ v. IsSoundRow v g.cx.log.state g.cx.roles) w.is_txn fits.1;
        began = OnTrue_at is.between.tag_is.first_is fits.3;
        turned = goes.turned;
        idle = idle;
        given = fits.2.0;
        numbers = let next = fits.2.1 in omega (arith, next, few, low);
      }

  -- the plugins have rested
  each_rested : (ls : List PluginLine) (tags : List RowTag) (groups : List RowGroup)
      → AllZip (IsNewTagOf setup at) (map HookPlugin ls) tags → FitInRow tags groups → All IsIdle groups
      → AllZip (IsDoneAs setup at) (map HookPlugin ls) groups
  each_rested [] [] [] are fit idle = tt
  each_rested [] [] (g ∷ gs) are fit idle = absurd fit
  each_rested [] (tag ∷ tags) gs are fit idle = absurd are
  each_rested (l ∷ ls) [] gs are fit idle = absurd are
  each_rested (l ∷ ls) (kind.One t ∷ tags) gs are fit idle = absurd are.0
  each_rested (l ∷ ls) (kind.Other p ∷ tags) [] are fit idle = absurd fit
  each_rested (l ∷ ls) (kind.Other p ∷ tags) (g ∷ gs) are fit idle = (
    rested l p g are.0 fit.0 (All-head IsIdle g gs idle),
    each_rested ls tags gs are.1 fit.1 (All-tail IsIdle g gs idle),
  )

  -- and the transactions before them have run
  each_done : (from starts : ℕ) (ls : List PluginLine) (txns : List TxnPieces) (tags : List RowTag)
      (groups : List RowGroup) → starts ≡ length txns
      → AllZip (IsNewTagOf setup at) (numbered from txns ++ map HookPlugin ls) tags → FitInRow tags groups
      → All IsIdle groups → All (HasHadTurns most) groups → AllGo starts tags groups
      → AllZip (IsDoneAs setup at) (numbered from txns ++ map HookPlugin ls) groups
  each_done from starts ls [] tags gs all are fit idle few goes = each_rested ls tags gs are fit idle
  each_done from starts ls (txn ∷ txns) [] gs all are fit idle few goes = absurd are
  each_done from starts ls (txn ∷ txns) (kind.Other p ∷ tags) gs all are fit idle few goes = absurd are.0
  each_done from starts ls (txn ∷ txns) (kind.One tag ∷ tags) [] all are fit idle few goes = absurd fit
  each_done from starts ls (txn ∷ txns) (kind.One tag ∷ tags) (g ∷ gs) all are fit idle few goes = (
    has_run from txn tag g are.0 fit.0 (All-head IsIdle g gs idle) (All-head (HasHadTurns most) g gs few)
        (goes 0 tag g (omega (arith, all)) refl refl are.0.between.tag_is.first_is fit.0),
    each_done (from + 1) (length txns) ls txns tags gs refl are.1 fit.1 (All-tail IsIdle g gs idle)
        (All-tail (HasHadTurns most) g gs few)
        (λ k t h below. goes (suc k) t h (omega (arith, all, below))),
  )

-- groups of a row that were run by threads and driven to their end
pub row_done : (setup : Setup) (txns : List TxnPieces) (tags : List RowTag) (given groups : List RowGroup)
    (starts threads budget : ℕ) → HasPlainLines setup
    → AreGroupsOf setup (length txns) (members setup.plugins.items txns) tags given → starts ≡ length txns
    → MOST_IN_TURN * max (turns_of starts threads budget) MOST_ALONE + 1 < GREATEST
    → HaveEnded IsOfRowTag IsSoundRow is_asked_only is_first HasRowBegun tags given starts threads budget
    groups → AreDone setup txns groups
row_done setup txns tags given groups starts threads budget lines row all low ended =
    each_done setup (length txns) (max (turns_of starts threads budget) MOST_ALONE) lines low 1 starts
    setup.plugins.items txns tags groups all row.tags_are ended.fits ended.idle ended.turns goes
  where
    goes : AllGo starts tags groups
    goes k tag g below there at first fits =
        let (h, before, fitted) = zip_at_place FitsIn tags given k (kind.One tag) row.fit there in
        goes_on tags k tag h g there first fitted.0 (OnTrue_at first fits.3)
        (ended.started k h g below before at)

-- a row without a group has no member
pub none_done : (setup : Setup) (at : ℕ) (ms : List Member) (tags : List RowTag) (groups : List RowGroup)
    → AreGroupsOf setup at ms tags groups → groups ≡ [] → AllZip (IsDoneAs setup at) ms groups
none_done setup at [] tags groups row none = subst (AllZip (IsDoneAs setup at) []) (sym none) tt
none_done setup at (m ∷ ms) [] groups row none = absurd row.tags_are
none_done setup at (m ∷ ms) (tag ∷ tags) groups row none =
    absurd (subst (FitInRow (tag ∷ tags)) none row.fit)

-- ---- what a transaction's block is made of

-- a recorded side that took nothing yet leaves after as many bytes as the recording says
pub side_leaves : (leave : Option ℕ) → option_map (λ m. 0 + m) leave ≡ leave
side_leaves None = refl
side_leaves (Some most) = let all : 0 + most ≡ most = omega arith in ap Some all

-- a transaction that has run did so between its two sides
unfoldable pub run_between : (setup : Setup) (at number : ℕ) (txn : TxnPieces) (g : RowGroup)
    → (ran : HasRunAs setup at number txn g) → IsRunBetween setup (sides_of txn) ran.txn
run_between setup at number txn g ran = record {
  ends = recorded_ends setup at number txn;
  ends_are = record {
    setup_is = refl;
    plain = ran.lines.plain;
    gives = refl;
    leaves = side_leaves txn.leave;
    takes_some = ran.tag_is.takes_some;
    origin = recorded_side txn.origin None;
    dialed = refl;
    answers = refl;
    stays = refl;
  };
  state = g.cx.log.state;
  idle = ran.idle;
  numbers = ran.numbers;
  between = record {
    layered = ran.tag_is.between.layered;
    over = ran.tag_is.between.over;
    between = record {
      promise = recorded_promise;
      tag = ran.tag;
      tag_is = ran.tag_is.between.tag_is;
      fits = ran.fits;
      roles = g.cx.roles;
      sound = ran.sound;
    };
  };
}
