-- A transaction with its layers may go to another thread where its links and its transforms may. A link that
-- chooses holds a snapshot, which owns nothing; so the crossing is told here layer by layer.
use denote.RattleType.{RattleType}
use denote.Struct.Declared.{shape}
use denote.Param.Send.{IsSend, sendable, view_send, recorded_send, struct_send}
use Rattle.std.proofs.Crossing.{crosses}
use Rattle.ts_config.proofs.setup.Setup.TheSendSync as setup
use Rattle.ts_link.specs.declared.link.Link as link
use Rattle.ts_intercept.specs.contracts.chosen.Chosen as chosen
use Rattle.ts_layers.proofs.kept.Kept.TheSendSync as kept
use Rattle.ts_layers.specs.Links.{chosen_link, lifted_link, watched_link}
use Rattle.ts_request.proofs.carrier.Carrier.TheSendSync as carrier
use Rattle.ts_request.proofs.front.Front.TheSendSync as front
use Rattle.ts_tap.proofs.lifted.Lifted.TheSendSync as lifted
use Rattle.ts_tap.proofs.watched.Watched.TheSendSync as watched
use Rattle.ts_txn.proofs.txn.Txn.TheSendSync as txn
use Rattle.ts_serve.specs.contracts.placed.PlacedExchange as placed
use Rattle.ts_serve.specs.contracts.placed.PlacedExchange.TheInside as inside

-- an origin that a line may answer in the place of
chosen_send : (O : RattleType) (h : link.Ghosts O.Denot) → IsSend O → IsSend (chosen.the_row O h)
chosen_send O h o = search (crosses, sendable, setup.the_send, setup.the_sync) depth 60 fits 20000

-- a transaction with the layers over its two ends
module _ (C O P : RattleType) (g : link.Ghosts C.Denot) (h : link.Ghosts O.Denot) where
  pub placed_send : IsSend C → IsSend O → IsSend P → IsSend (placed.the_row C O P g h)
  placed_send c o p =
      let client = front.the_send _ (watched_link g) (watched.the_send C g c) in
      let choosing = chosen_send _ (lifted_link h) (lifted.the_send O o) in
      let origin = carrier.the_send _ P (kept.the_send _ (chosen_link (lifted_link h)) choosing) p in
      let row = inside.the_type C O P g h in
      view_send (inside.the_row C O P g h) _ _ _ _
      (recorded_send (inside.the_field C O P g h).row _ _ row.to_one
      (struct_send (shape row) (txn.the_field_send _ _ P client origin p, (search (crosses, sendable), tt))))
