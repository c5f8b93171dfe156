-- The calls of a step that read nothing of the client, and those that read its request.
use Rattle.std.proofs.Common.{◌≡◌, ◌++◌, ◌∙◌, List, [], ℕ, Bool, true, ap, sym}
use Rattle.std.proofs.lemmas.List.{append-nil}
use Rattle.ts_upstream.specs.declared.upstream.Uploaded.{Uploaded}
use Rattle.ts_vconn.specs.declared.moves.Pushed.{Pushed}
use Rattle.ts_wire.specs.declared.heads.RequestHead.{RequestHead}
use Rattle.ts_wire.specs.declared.heads.ResponseHead.{ResponseHead}
use Rattle.ts_wire.specs.Heads.{LacksRequest}
use Rattle.ts_block.specs.Heads.{HasRequest}
use Rattle.ts_phases.specs.View.{LinkSide, View}
use Rattle.ts_phases.specs.Moving.{MovesUpload, QueuesOwn, QueuesRequest, Seeks, SeeksRequest, SeeksResponse}
use Rattle.ts_phases.specs.Moving.{WritesClient, WritesOrigin}
use Rattle.ts_phases.specs.Steps.{GivesOn, LeavesClient, LeavesClientIn}
use Rattle.ts_phases.specs.declared.head_reader.Found.{Found}
use Rattle.ts_phases.specs.declared.head_reader.Found.TheVariants as F
use Rattle.ts_phases.specs.declared.phase.Phase.{Phase}
use Rattle.ts_phases.specs.declared.phase.Phase.TheVariants as P

module _ (v w : View) where
  same_client : w.client ≡ v.client → LeavesClient v w
  same_client same = record {
    reads = ap (λ (x : LinkSide). x.look.reads) same;
    given = ap (λ (x : LinkSide). x.look.given) same;
    held = ap (λ (x : LinkSide). x.inbox) same;
  }

  pub still_spares : w ≡ v → LeavesClient v w
  still_spares same = same_client (ap (λ (x : View). x.client) same)

  pub held_spares : (t : Bool) (found : Found ResponseHead) → SeeksResponse t v w found → LeavesClient v w
  held_spares t found hears = same_client (ap (λ (x : View). x.client) hears.others)

  pub asked_spares : (text : List ℕ) → QueuesRequest text v w → LeavesClient v w
  asked_spares text queues = same_client (ap (λ (x : View). x.client) queues)

  pub sent_spares : (t : Bool) (p : Pushed) → WritesOrigin t v w p → LeavesClient v w
  sent_spares t p writes = same_client (ap (λ (x : View). x.client) writes.others)

  pub queued_spares : (head body : List ℕ) → QueuesOwn head body v w → LeavesClient v w
  queued_spares head body queues = record {
    reads = ap (λ (x : LinkSide). x.look.reads) queues.client;
    given = ap (λ (x : LinkSide). x.look.given) queues.client;
    held = ap (λ (x : LinkSide). x.inbox) queues.client;
  }

  pub wrote_spares : (t : Bool) (p : Pushed) → t ≡ true → WritesClient t v w p → LeavesClient v w
  wrote_spares t p told writes = record {
    reads = writes.client.pushes.once.reads;
    given = (writes.client.pushes.told told).given;
    held = writes.client.inbox;
  }

  -- ---- what is read

  -- nothing is
  pub spares_gives : LeavesClient v w → GivesOn v w
  spares_gives spares = ([], spares.given ∙ sym (append-nil v.client.look.given))

  -- in any phase
  pub spares_in : (p : Phase) → LeavesClient v w → LeavesClientIn p v w
  spares_in P.ReadRequest spares = spares_gives spares
  spares_in _ spares = spares

  -- a head was looked for
  sought_gives : (t : Bool) (found : Found RequestHead) → t ≡ true
      → Seeks HasRequest LacksRequest t v.client w.client found → GivesOn v w
  sought_gives t (F.Head head) told seeks =
      ([], ap (λ (x : LinkSide). x.look.given) seeks.2 ∙ sym (append-nil v.client.look.given))
  sought_gives t F.Never told seeks =
      ([], ap (λ (x : LinkSide). x.look.given) seeks.1 ∙ sym (append-nil v.client.look.given))
  sought_gives t (F.Read answer) told seeks =
      (seeks.1.pulls.more, (seeks.1.pulls.pulls.told told).given)
  sought_gives t F.NoMemory told seeks =
      ([], ap (λ (x : LinkSide). x.look.given) seeks ∙ sym (append-nil v.client.look.given))

  pub asked_gives : (t : Bool) (found : Found RequestHead) → t ≡ true → SeeksRequest t v w found
      → GivesOn v w
  asked_gives t found told hears = sought_gives t found told hears.finds

  -- an upload was moved, which the client's link shows as no read
  pub upload_spares : (ct ot : Bool) (refuses : List ℕ → Type 0) (answer : Uploaded) → ct ≡ true
      → MovesUpload ct ot refuses answer v w → LeavesClient v w
  upload_spares ct ot refuses answer told moves = record {
    reads = moves.moves.keeps.reads;
    given = (moves.moves.bytes.client told).given;
    held = ap (λ (x : View). x.client.inbox) moves.others;
  }
