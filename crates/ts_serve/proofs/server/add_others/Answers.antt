-- World after world has a group behind those that are there.
use Rattle.std.proofs.Common.{◌≡◌, ◌++◌, [], All, map, sym, ap, subst, ◌∙◌}
use Rattle.std.proofs.lemmas.List.{append-nil, nil_from_length}
use Rattle.std.proofs.lemmas.List.Elements.{All-head, All-tail}
use Rattle.ts_group.specs.declared.either.EitherTag.TheVariants.{Other}
use Rattle.ts_serve.specs.Servers.{StandsBeside}
use Rattle.ts_serve.proofs.Servers.{new_more, new_turns, other_fits, others_on}
use Rattle.ts_serve.proofs.server.add_others.Goals as goal

pub others-init : goal.others-init
others-init g c = (
  ap (λ bs. c.args.tags.items ++ map (λ b. Other b.tag) bs) c.from_vec-rest.ensures.items,
  subst (All (StandsBeside g.P.Slotted.fits g.P.World.sound g.P.World.only_asked))
      (sym c.from_vec-rest.ensures.items) c.requires.others,
  c.requires.groups,
)

pub others-preserved : goal.others-preserved
others-preserved g c =
    let before = c.others.invariant in
    let b = c.in-Some.beside in
    let left = c.pop_front.new.self.items in
    let each = subst (All (StandsBeside g.P.Slotted.fits g.P.World.sound g.P.World.only_asked))
    c.in-Some.ensures.items before.1 in
    let stands = All-head (StandsBeside g.P.Slotted.fits g.P.World.sound g.P.World.only_asked) b left each in
    let made = c.in_ok-group.ensures in (
      others_on c.others.tags.items c.push-in-Some.new.self.items _ c.others.rest.items left b
          c.in_ok-push-2.ensures.items c.in-Some.ensures.items before.0,
      All-tail (StandsBeside g.P.Slotted.fits g.P.World.sound g.P.World.only_asked) b left each,
      new_more g.W.Slotted.fits g.W.Tenant.keeps g.W.World.sound g.P.Slotted.fits g.P.World.sound
          g.P.World.only_asked g.P.World.is_first c.others.tags.items c.push-in-Some.new.self.items
          c.others.groups.items c.push.new.self.items (Other b.tag) c.in_ok-group.group before.2
          c.in_ok-push-2.ensures.items c.in_ok-push.ensures.items
          (other_fits g.W.Slotted.fits g.W.Tenant.keeps g.W.World.sound g.P.Slotted.fits g.P.World.sound
          g.P.World.only_asked g.P.World.is_first b c.in_ok-group.group stands made.world made.fresh)
          (new_turns g.W.Slotted.fits g.W.Tenant.keeps g.W.World.sound g.P.Slotted.fits g.P.World.sound
          g.P.World.only_asked g.P.World.is_first c.in_ok-group.group made.fresh),
    )

pub returns-clause-tags : goal.returns-clause-tags
returns-clause-tags g c =
    let none : c.others.rest.items ≡ [] = nil_from_length c.others.rest.items
    (sym c.others.rest.ok.0 ∙ c.in_default.ensures.cases.0) in
    sym (ap (λ bs. c.others.tags.items ++ map (λ b. Other b.tag) bs) none ∙ append-nil c.others.tags.items)
    ∙ c.others.invariant.0
