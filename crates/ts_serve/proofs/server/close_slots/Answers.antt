-- The groups of slots that are closed fit their tags.
use Rattle.ts_lists.proofs.Pairs.{zip_from_found}
use Rattle.ts_slot.specs.Words.{tags_of}
use Rattle.ts_serve.proofs.Servers.{FitsTag}
use Rattle.ts_serve.proofs.server.close_slots.Goals as goal

pub returns-clause-can : goal.returns-clause-can
returns-clause-can g c = record {
  tags = tags_of c.args.slots;
  asks = c.requires.asks;
  fit = zip_from_found (FitsTag g.W.Slotted.fits g.W.Tenant.keeps g.W.World.sound g.P.Slotted.fits
      g.P.World.sound g.P.World.only_asked g.P.World.is_first) (tags_of c.args.slots) c.in-Ok.groups.items
      c.in-Ok.ensures.count (λ k x at. (c.in-Ok.ensures.values k x at).fit);
}
