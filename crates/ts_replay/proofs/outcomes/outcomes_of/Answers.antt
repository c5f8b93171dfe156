-- The blocks grow by that of one group, if its world is a transaction, and the journals by that group's.
use Rattle.std.proofs.Common.{◌≡◌, [], ◌∷◌, ◌++◌, length, refl, sym, ap, subst, ◌∙◌}
use Rattle.std.proofs.lemmas.List.{nil_from_length}
use Rattle.ts_journal.proofs.Final.{is_kept}
use Rattle.ts_replay.specs.Exchanged.{AddsBlock, HasRun}
use Rattle.ts_replay.specs.Members.{members}
use Rattle.ts_replay.proofs.Coming.{ComeBut, all_come, come_more, has_run, next_of, none_come}
use Rattle.ts_replay.proofs.outcomes.outcomes_of.Goals as goal

pub groups-init : goal.groups-init
groups-init c = λ setup txns each.
    none_come setup (length txns) (members setup.plugins.items txns) c.args.groups.items
    c.from_vec-rest.result.items c.in_ok-blocks.blocks.items c.in_ok-journals.journals.items
    c.from_vec-rest.ensures.items c.in_ok-blocks.ensures.items c.in_ok-journals.ensures.items each

pub add_block-requires : goal.add_block-requires
add_block-requires c =
    let ran = c.requires.ran in
    let before = c.groups.invariant ran.0 ran.1 ran.2 in
    let next = next_of ran.0 (length ran.1) (members ran.0.plugins.items ran.1) c.args.groups.items
    c.groups.rest.items c.pop_front.new.self.items c.groups.blocks.items c.groups.journals.items
    c.in-Some.group before c.in-Some.ensures.items in
    subst HasRun (sym c.into_parts-world.ensures.0)
    (has_run ran.0 (length ran.1) next.member c.in-Some.group next.first)

pub groups-preserved : goal.groups-preserved
groups-preserved c = λ setup txns each.
    let world = c.into_parts-world.ensures.0 in
    let log = c.into_parts-world.ensures.1 in
    come_more setup (length txns) (members setup.plugins.items txns) c.args.groups.items c.groups.rest.items
    c.pop_front.new.self.items c.groups.blocks.items c.groups.journals.items c.in-Some.group
    (c.groups.invariant setup txns each) c.in-Some.ensures.items
    c.add_block.new.blocks.items c.push.new.self.items
    (subst (λ w. AddsBlock w c.groups.blocks.items c.add_block.new.blocks.items) world
    c.in_ok-add_block.ensures)
    (is_kept c.in-Some.group.cx.log c.into_parts-world.result.1 c.entries.result.now log
    c.entries.ensures.entries c.entries.ensures.lawful c.entries.ensures.state
    c.known.ensures.lived_base c.known.ensures.lived c.known.ensures.valid.counts)
    (c.in_ok-push.ensures.items ∙ ap (λ j. c.groups.journals.items ++ j ∷ []) log)

pub returns : goal.returns
returns c = λ setup txns each.
    let none : c.groups.rest.items ≡ [] = nil_from_length c.groups.rest.items
    (sym c.groups.rest.ok.0 ∙ c.in_default.ensures.cases.0) in
    all_come setup txns c.args.groups.items c.groups.blocks.items c.groups.journals.items _
    (subst (λ gs. ComeBut setup (length txns) (members setup.plugins.items txns) c.args.groups.items gs
    c.groups.blocks.items c.groups.journals.items) none (c.groups.invariant setup txns each))
    refl refl
