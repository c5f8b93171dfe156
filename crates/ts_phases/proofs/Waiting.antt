-- A step that waits met a link that was not ready.
use Rattle.std.proofs.Common.{List, ℕ, Bool, inl, inr}
use Rattle.ts_upstream.specs.declared.upstream.Uploaded.TheVariants as U
use Rattle.ts_vconn.specs.declared.moves.Pulled.TheVariants as L
use Rattle.ts_vconn.specs.declared.moves.Pushed.TheVariants as V
use Rattle.ts_phases.specs.View.{View}
use Rattle.ts_phases.specs.Moving.{SeeksRequest, SeeksResponse, MovesUpload, WritesClient, WritesOrigin}
use Rattle.ts_phases.specs.Steps.{WaitsRightly}
use Rattle.ts_phases.specs.declared.phase.Next.TheVariants as N
use Rattle.ts_phases.specs.declared.head_reader.Found.TheVariants as F

module _ (t : Bool) (v w : View) where
  pub asked_waits : SeeksRequest t v w (F.Read L.Again) → WaitsRightly N.Wait v w
  asked_waits hears = inl hears.finds.1.pulls.pulls.calls.waits

  pub heard_waits : SeeksResponse t v w (F.Read L.Again) → WaitsRightly N.Wait v w
  heard_waits hears = inr hears.finds.1.pulls.pulls.calls.waits

  pub client_waits : WritesClient t v w V.Again → WaitsRightly N.Wait v w
  client_waits writes = inl writes.client.pushes.calls.waits

  pub origin_waits : WritesOrigin t v w V.Again → WaitsRightly N.Wait v w
  origin_waits writes = inr writes.origin.pushes.calls.waits

-- an upload says it as it stands
pub upload_waits : (ct ot : Bool) (refuses : List ℕ → Type 0) (v w : View)
    → MovesUpload ct ot refuses U.Again v w → WaitsRightly N.Wait v w
upload_waits ct ot refuses v w moved = moved.moves.causes.counts
