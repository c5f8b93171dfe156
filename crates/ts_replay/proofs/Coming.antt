-- What a row came to grows by the block and the journal of one more member.
use Rattle.std.proofs.Common.{◌≡◌, ℕ, ◌+◌, List, [], ◌∷◌, ◌++◌, length, append_assoc, map, All, refl, sym, ap}
use Rattle.std.proofs.Common.{subst, ◌∙◌}
use Rattle.std.specs.Prelude.{IsSomeAnd, None, Option, Some}
use Rattle.std.specs.List.{AllZip}
use Rattle.std.proofs.lemmas.List.{append-nil, map-append}
use Rattle.std.proofs.lemmas.List.Elements.{All-nil, All-push}
use Rattle.std.proofs.lemmas.Slice.Zip.{all_zipped_more}
use Rattle.ts_config.specs.declared.fields.PluginLine.{PluginLine}
use Rattle.ts_config.specs.declared.setup.Setup.{Setup}
use Rattle.ts_group.specs.declared.either.Either.TheVariants.{One}
use Rattle.ts_hooks.specs.declared.txn_end.TxnEnd.{TxnEnd}
use Rattle.ts_journal.specs.Final.{IsFinal}
use Rattle.ts_journal.specs.Log.{Log}
use Rattle.ts_journal.proofs.Final.{IsKept, is_final}
use Rattle.ts_lists.proofs.Elements.{each_push}
use Rattle.ts_record.specs.Grammar.{TxnPieces}
use Rattle.ts_record.specs.Report.{AreReported, IsReported}
use Rattle.ts_record.specs.declared.report.ReportBlock.{ReportBlock}
use Rattle.ts_replay.specs.Exchanged.{AddsBlock, HasRun, MayEnd, ShowsEnd}
use Rattle.ts_replay.specs.Members.{HookPlugin, Member, Transaction, members, numbered}
use Rattle.ts_replay.specs.Recorded.{RowGroup}
use Rattle.ts_replay.specs.Replayed.{ComesTo, HasRestedAs, HasRunAs, IsDoneAs, IsReplayOf}
use Rattle.ts_replay.specs.Replayed.{journal_of}
use Rattle.ts_replay.specs.Reports.{AreShown, IsTxnShown, sides_of}
use Rattle.ts_replay.specs.declared.outcomes.Replayed.{Replayed}
use Rattle.ts_replay.proofs.Ended.{run_between}
use Rattle.ts_txn.specs.Making.{end_of_course}

-- ---- the transactions among the members

abbrev pub txns_among : List Member → List TxnPieces
txns_among [] = []
txns_among (Transaction number txn ∷ ms) = txn ∷ txns_among ms
txns_among (HookPlugin line ∷ ms) = txns_among ms

-- of members with one more
among_more : (ms : List Member) (number : ℕ) (txn : TxnPieces)
    → txns_among (ms ++ Transaction number txn ∷ []) ≡ txns_among ms ++ txn ∷ []
among_more [] number txn = refl
among_more (Transaction n t ∷ ms) number txn = ap (λ ts. t ∷ ts) (among_more ms number txn)
among_more (HookPlugin line ∷ ms) number txn = among_more ms number txn

among_same : (ms : List Member) (line : PluginLine) → txns_among (ms ++ HookPlugin line ∷ []) ≡ txns_among ms
among_same [] line = refl
among_same (Transaction n t ∷ ms) line = ap (λ ts. t ∷ ts) (among_same ms line)
among_same (HookPlugin l ∷ ms) line = among_same ms line

-- of a whole row they are the transactions
among_plugins : (lines : List PluginLine) → txns_among (map HookPlugin lines) ≡ []
among_plugins [] = refl
among_plugins (line ∷ lines) = among_plugins lines

among_all : (number : ℕ) (txns : List TxnPieces) (lines : List PluginLine)
    → txns_among (numbered number txns ++ map HookPlugin lines) ≡ txns
among_all number [] lines = among_plugins lines
among_all number (txn ∷ txns) lines = ap (λ ts. txn ∷ ts) (among_all (number + 1) txns lines)

-- ---- the members of a row

-- The members of the groups that are gone have their blocks and journals there, and the others are done.
pub record ComeBut (setup : Setup) (at : ℕ) (ms : List Member) (groups rest : List RowGroup)
    (blocks : List ReportBlock) (journals : List Log) : Type 0 where
  pub done : List Member
  pub left : List Member
  pub gone : List RowGroup
  pub members_are : ms ≡ done ++ left
  pub groups_are : groups ≡ gone ++ rest
  pub each : AllZip (IsReplayOf setup at) done gone
  pub to_come : AllZip (IsDoneAs setup at) left rest
  pub shown : AreShown setup (txns_among done) blocks
  pub reported : AreReported blocks
  pub journals_are : journals ≡ map journal_of gone
  pub final : All IsFinal journals

-- before the first
pub none_come : (setup : Setup) (at : ℕ) (ms : List Member) (groups rest : List RowGroup)
    (blocks : List ReportBlock) (journals : List Log) → rest ≡ groups → blocks ≡ [] → journals ≡ []
    → AllZip (IsDoneAs setup at) ms groups → ComeBut setup at ms groups rest blocks journals
none_come setup at ms groups rest blocks journals all no_blocks no_journals each = record {
  done = [];
  left = ms;
  gone = [];
  members_are = refl;
  groups_are = sym all;
  each = tt;
  to_come = subst (AllZip (IsDoneAs setup at) ms) (sym all) each;
  shown = subst (AreShown setup []) (sym no_blocks) tt;
  reported = subst AreReported (sym no_blocks) tt;
  journals_are = no_journals;
  final = subst (All IsFinal) (sym no_journals) (All-nil IsFinal);
}

-- the member of the next group, which is done
pub record NextOf (setup : Setup) (at : ℕ) (left : List Member) (g : RowGroup) (rest : List RowGroup)
    : Type 0 where
  pub member : Member
  pub others : List Member
  pub are : left ≡ member ∷ others
  pub first : IsDoneAs setup at member g
  pub each : AllZip (IsDoneAs setup at) others rest

next_among : (setup : Setup) (at : ℕ) (left : List Member) (g : RowGroup) (rest : List RowGroup)
    → AllZip (IsDoneAs setup at) left (g ∷ rest) → NextOf setup at left g rest
next_among setup at [] g rest each = absurd each
next_among setup at (m ∷ ms) g rest each =
    record { member = m; others = ms; are = refl; first = each.0; each = each.1 }

-- the world of a group whose member is done has run
pub has_run : (setup : Setup) (at : ℕ) (m : Member) (g : RowGroup) → IsDoneAs setup at m g → HasRun g.world
has_run setup at (Transaction number txn) g ran = subst HasRun (sym ran.is_txn)
    (setup, sides_of txn, run_between setup at number txn g ran)
has_run setup at (HookPlugin line) g rested = subst HasRun (sym rested.is_plugin) tt

-- ---- one member more

-- What a member comes to: its replay, the blocks that it adds to those that are shown, and a final journal.
record ComesOn (setup : Setup) (at : ℕ) (done : List Member) (m : Member) (g : RowGroup)
    (blocks : List ReportBlock) : Type 0 where
  replay : IsReplayOf setup at m g
  shown : AreShown setup (txns_among (done ++ m ∷ [])) blocks
  reported : AreReported blocks
  final : IsFinal g.cx.log

-- whatever a block shows of an end, the transaction may end so
ended_as : (leave : Option ℕ) (end : Option TxnEnd) (shown : TxnEnd) → ShowsEnd leave end shown
    → IsSomeAnd end (MayEnd leave)
ended_as None end shown is = subst (λ e. IsSomeAnd e (MayEnd None)) (sym is.0) is.1
ended_as (Some most) end shown is = is.0

-- a transaction comes to its block
txn_comes : (setup : Setup) (at number : ℕ) (txn : TxnPieces) (g : RowGroup) (done : List Member)
    (old new : List ReportBlock) → (ran : HasRunAs setup at number txn g) → AddsBlock (One ran.txn) old new
    → IsKept g.cx.log → AreShown setup (txns_among done) old → AreReported old
    → ComesOn setup at done (Transaction number txn) g new
unfolding run_between
txn_comes setup at number txn g done old new ran (b, longer, tells) kept shown reported =
    let between = run_between setup at number txn g ran in
    let here : IsTxnShown setup txn b = tells.shown setup (sides_of txn) between in
    record {
      replay = record {
        ran = ran;
        ended = ended_as txn.leave (end_of_course ran.txn.course) b.end
            (tells.ended setup (sides_of txn) between);
        chose = tells.chose setup (sides_of txn) between;
      };
      shown = subst (λ ts. AreShown setup ts new) (sym (among_more done number txn))
          (subst (AreShown setup (txns_among done ++ txn ∷ [])) (sym longer)
          (all_zipped_more (IsTxnShown setup) (txns_among done) old txn b shown here));
      reported = subst AreReported (sym longer)
          (each_push (λ (x : ReportBlock). IsReported x.end) old b reported tells.reported);
      final = is_final g.cx.log kept ran.given ran.idle;
    }

-- a plugin has none
plugin_comes : (setup : Setup) (at : ℕ) (line : PluginLine) (g : RowGroup) (done : List Member)
    (old new : List ReportBlock) → HasRestedAs line g → new ≡ old → IsKept g.cx.log
    → AreShown setup (txns_among done) old → AreReported old → ComesOn setup at done (HookPlugin line) g new
plugin_comes setup at line g done old new rested same kept shown reported = record {
  replay = rested;
  shown = subst (λ ts. AreShown setup ts new) (sym (among_same done line))
      (subst (AreShown setup (txns_among done)) (sym same) shown);
  reported = subst AreReported (sym same) reported;
  final = is_final g.cx.log kept rested.given rested.idle;
}

-- whichever it is
comes_on : (setup : Setup) (at : ℕ) (m : Member) (g : RowGroup) (done : List Member)
    (old new : List ReportBlock) → IsDoneAs setup at m g → AddsBlock g.world old new → IsKept g.cx.log
    → AreShown setup (txns_among done) old → AreReported old → ComesOn setup at done m g new
comes_on setup at (Transaction number txn) g done old new ran adds =
    txn_comes setup at number txn g done old new ran
    (subst (λ w. AddsBlock w old new) ran.is_txn adds)
comes_on setup at (HookPlugin line) g done old new rested adds =
    plugin_comes setup at line g done old new rested
    (subst (λ w. AddsBlock w old new) rested.is_plugin adds)

module _ (setup : Setup) (at : ℕ) (ms : List Member) (groups left rest : List RowGroup)
    (blocks : List ReportBlock) (journals : List Log) (g : RowGroup)
    (before : ComeBut setup at ms groups left blocks journals) (is : left ≡ g ∷ rest) where
  -- the next one is done
  pub next_of : NextOf setup at before.left g rest
  next_of = next_among setup at before.left g rest
      (subst (AllZip (IsDoneAs setup at) before.left) is before.to_come)

  -- so it comes to its block and its journal
  pub come_more : (blocks' : List ReportBlock) (journals' : List Log) → AddsBlock g.world blocks blocks'
      → IsKept g.cx.log → journals' ≡ journals ++ g.cx.log ∷ []
      → ComeBut setup at ms groups rest blocks' journals'
  come_more blocks' journals' adds kept added =
      let next = next_of in
      let on = comes_on setup at next.member g before.done blocks blocks' next.first adds kept before.shown
      before.reported in
      record {
        done = before.done ++ next.member ∷ [];
        left = next.others;
        gone = before.gone ++ g ∷ [];
        members_are = before.members_are ∙ ap (λ l. before.done ++ l) next.are ∙ sym
            (append_assoc before.done (next.member ∷ []) next.others);
        groups_are = before.groups_are ∙ ap (λ l. before.gone ++ l) is ∙ sym
            (append_assoc before.gone (g ∷ []) rest);
        each = all_zipped_more (IsReplayOf setup at) before.done before.gone next.member g before.each
            on.replay;
        to_come = next.each;
        shown = on.shown;
        reported = on.reported;
        journals_are = added ∙ ap (λ l. l ++ g.cx.log ∷ []) before.journals_are ∙ sym
            (map-append journal_of before.gone (g ∷ []));
        final = subst (All IsFinal) (sym added) (All-push IsFinal journals g.cx.log before.final on.final);
      }

-- ---- all of them

-- where no group is left, no member is
none_left : (setup : Setup) (at : ℕ) (left : List Member) → AllZip (IsDoneAs setup at) left [] → left ≡ []
none_left setup at [] each = refl
none_left setup at (m ∷ ms) each = absurd each

-- each has come to its block and its journal
pub all_come : (setup : Setup) (txns : List TxnPieces) (groups : List RowGroup) (blocks : List ReportBlock)
    (journals : List Log) (r : Replayed)
    → ComeBut setup (length txns) (members setup.plugins.items txns) groups [] blocks journals
    → r.blocks.items ≡ blocks → r.journals.items ≡ journals → ComesTo setup txns groups r
all_come setup txns groups blocks journals r all blocks_are journals_are =
    let at = length txns in
    let ms = members setup.plugins.items txns in
    let none = none_left setup at all.left all.to_come in
    let done_all : all.done ≡ ms = sym (append-nil all.done) ∙ ap (λ l. all.done ++ l) (sym none) ∙ sym
    all.members_are in
    let gone_all : all.gone ≡ groups = sym (append-nil all.gone) ∙ sym all.groups_are in
    record {
      each = subst (λ l. AllZip (IsReplayOf setup at) l groups) done_all
          (subst (AllZip (IsReplayOf setup at) all.done) gone_all all.each);
      journals = journals_are ∙ all.journals_are ∙ ap (map journal_of) gone_all;
      final = subst (All IsFinal) (sym journals_are) all.final;
      blocks = subst (AreShown setup txns) (sym blocks_are)
          (subst (λ ts. AreShown setup ts blocks)
          (ap txns_among done_all ∙ among_all 1 txns setup.plugins.items) all.shown);
      reported = subst AreReported (sym blocks_are) all.reported;
    }
