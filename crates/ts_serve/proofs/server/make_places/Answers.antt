-- Place after place is made, of the same terms.
use Rattle.std.proofs.Common.{◌≡◌, ◌++◌, ◌∷◌, [], replicate, sym, ap, ◌∙◌, arith}
use Rattle.std.proofs.lemmas.List.{replicate_more}
use Rattle.ts_group.specs.declared.either.EitherTag.TheVariants.{One}
use Rattle.ts_serve.specs.declared.acceptor.TheConstants.{PLACES}
use Rattle.ts_serve.proofs.Servers.{empty_fits, new_more, new_turns}
use Rattle.ts_serve.proofs.server.make_places.Goals as goal

pub places-preserved : goal.places-preserved
places-preserved g c =
    let before = c.places.invariant in
    let empty = c.in_ok-group.ensures in (
      λ terms are. c.in_ok-push-2.ensures.items
          ∙ ap (λ t. c.places.tags.items ++ One t ∷ []) (sym (c.terms.ensures.only terms are))
          ∙ ap (λ ts. ts ++ One terms ∷ []) (before.0 terms are) ∙ replicate_more c.places._place (One terms),
      new_more g.W.Slotted.fits g.W.Tenant.keeps g.W.World.sound g.P.Slotted.fits g.P.World.sound
          g.P.World.only_asked g.P.World.is_first c.places.tags.items c.push-in-places.new.self.items
          c.places.groups.items c.push.new.self.items (One c.terms.result) c.in_ok-group.group before.1
          c.in_ok-push-2.ensures.items c.in_ok-push.ensures.items
          (empty_fits g.W.Slotted.fits g.W.Tenant.keeps g.W.World.sound g.P.Slotted.fits g.P.World.sound
          g.P.World.only_asked g.P.World.is_first c.terms.result c.in_ok-group.group empty)
          (new_turns g.W.Slotted.fits g.W.Tenant.keeps g.W.World.sound g.P.Slotted.fits g.P.World.sound
          g.P.World.only_asked g.P.World.is_first c.in_ok-group.group empty.fresh),
    )

pub returns-clause-tags : goal.returns-clause-tags
returns-clause-tags g c = λ terms are.
    let ends = c.places-test.false in
    let below = c.places.auto._place-end in
    let is : c.places._place ≡ PLACES = omega arith in
    c.places.invariant.0 terms are ∙ ap (λ n. replicate n (One terms)) is
