-- The calls of a step that send nothing to the origin, and those that send the request and its upload.
use Rattle.std.proofs.Common.{◌≡◌, ◌++◌, ◌∙◌, List, [], ℕ, Bool, true, ap, sym}
use Rattle.std.specs.Prelude.{take}
use Rattle.std.proofs.lemmas.List.{append-nil, take-append-drop}
use Rattle.ts_upstream.specs.declared.upstream.Uploaded.{Uploaded}
use Rattle.ts_vconn.specs.MoveAnswers.{Went, count_pushed}
use Rattle.ts_vconn.specs.declared.moves.Pushed.{Pushed}
use Rattle.ts_vconn.specs.declared.moves.Pushed.TheVariants as V
use Rattle.ts_wire.specs.declared.heads.RequestHead.{RequestHead}
use Rattle.ts_wire.specs.declared.heads.ResponseHead.{ResponseHead}
use Rattle.ts_wire.specs.Heads.{LacksResponse}
use Rattle.ts_block.specs.Heads.{HasResponse}
use Rattle.ts_phases.specs.View.{LinkSide, View}
use Rattle.ts_phases.specs.Moving.{MovesUpload, QueuesOwn, QueuesRequest, Seeks, SeeksRequest, SeeksResponse}
use Rattle.ts_phases.specs.Moving.{WritesClient, WritesOrigin}
use Rattle.ts_phases.specs.Steps.{LeavesOrigin, LeavesOriginIn, MovesOutbox, QueuesBehind, TakesUpload}
use Rattle.ts_phases.specs.declared.phase.Phase.{Phase}
use Rattle.ts_phases.specs.declared.phase.Phase.TheVariants as P
use Rattle.ts_phases.specs.declared.head_reader.Found.{Found}
use Rattle.ts_phases.specs.declared.head_reader.Found.TheVariants as F

-- what went is a front of what waited
went_front : (p : Pushed) (before after : List ℕ) → Went p before after
    → before ≡ take (count_pushed p) before ++ after
went_front (V.Some n) before after went =
    sym (take-append-drop n before) ∙ ap (λ (x : List ℕ). take n before ++ x) (sym went.2)
went_front V.Nothing before after went = sym went.1
went_front V.Again before after went = sym went.1
went_front V.Failed before after went = sym went.1
went_front V.NoMemory before after went = sym went.1

module _ (v w : View) where
  same_origin : w.origin ≡ v.origin → LeavesOrigin v w
  same_origin same = record {
    taken = ap (λ (x : LinkSide). x.look.taken) same;
    carried = ap (λ (x : LinkSide). x.look.carried) same;
    waits = ap (λ (x : LinkSide). x.outbox) same;
  }

  pub still_leaves : w ≡ v → LeavesOrigin v w
  still_leaves same = same_origin (ap (λ (x : View). x.origin) same)

  pub queued_leaves : (head body : List ℕ) → QueuesOwn head body v w → LeavesOrigin v w
  queued_leaves head body queues = same_origin queues.origin

  pub asked_leaves : (t : Bool) (found : Found RequestHead) → SeeksRequest t v w found → LeavesOrigin v w
  asked_leaves t found hears = same_origin (ap (λ (x : View). x.origin) hears.others)

  pub wrote_leaves : (t : Bool) (p : Pushed) → WritesClient t v w p → LeavesOrigin v w
  wrote_leaves t p writes = same_origin (ap (λ (x : View). x.origin) writes.others)

  -- a read takes nothing, and leaves what waits
  sought_leaves : (t : Bool) (found : Found ResponseHead) → t ≡ true
      → Seeks HasResponse LacksResponse t v.origin w.origin found → LeavesOrigin v w
  sought_leaves t (F.Head head) told seeks = record {
    taken = ap (λ (x : LinkSide). x.look.taken) seeks.2;
    carried = ap (λ (x : LinkSide). x.look.carried) seeks.2;
    waits = ap (λ (x : LinkSide). x.outbox) seeks.2;
  }
  sought_leaves t F.Never told seeks = same_origin seeks.1
  sought_leaves t (F.Read answer) told seeks = record {
    taken = (seeks.1.pulls.pulls.told told).taken;
    carried = seeks.1.pulls.pulls.calls.carried;
    waits = seeks.1.outbox;
  }
  sought_leaves t F.NoMemory told seeks = same_origin seeks

  -- ---- what is sent

  -- nothing is
  pub leaves_queues : LeavesOrigin v w → QueuesBehind v w
  leaves_queues leaves = record {
    text = [];
    taken = leaves.taken;
    waits = leaves.waits ∙ sym (append-nil v.origin.outbox);
  }

  pub leaves_moves : LeavesOrigin v w → MovesOutbox v w
  leaves_moves leaves = record {
    front = [];
    taken = leaves.taken ∙ sym (append-nil v.origin.look.taken);
    waits = sym leaves.waits;
  }

  pub leaves_uploads : LeavesOrigin v w → TakesUpload v w
  leaves_uploads leaves = record {
    upload = [];
    taken = leaves.taken ∙ sym (append-nil v.origin.look.taken);
    carried = leaves.carried ∙ sym (append-nil v.origin.look.carried);
    waits = leaves.waits;
  }

  -- in any phase
  pub leaves_in : (p : Phase) → LeavesOrigin v w → LeavesOriginIn p v w
  leaves_in (P.SendRequestHdr q) leaves = leaves_queues leaves
  leaves_in (P.RuleRequest q place fields) leaves = leaves_queues leaves
  leaves_in (P.SendRequest q) leaves = leaves_moves leaves
  leaves_in (P.Upload q) leaves = leaves_uploads leaves
  leaves_in _ leaves = leaves

  -- a text was queued
  pub queues_behind : (text : List ℕ) → QueuesRequest text v w → QueuesBehind v w
  queues_behind text queues = record {
    text = text;
    taken = ap (λ (x : View). x.origin.look.taken) queues;
    waits = ap (λ (x : View). x.origin.outbox) queues;
  }

  -- one write was made
  pub moves_outbox : (t : Bool) (p : Pushed) → t ≡ true → WritesOrigin t v w p → MovesOutbox v w
  moves_outbox t p told writes = record {
    front = take (count_pushed p) v.origin.outbox;
    taken = (writes.origin.pushes.told told).taken;
    waits = went_front p v.origin.outbox w.origin.outbox writes.origin.pushes.went;
  }

  -- an upload was moved
  pub takes_upload : (ct ot : Bool) (refuses : List ℕ → Type 0) (answer : Uploaded) → ot ≡ true
      → MovesUpload ct ot refuses answer v w → TakesUpload v w
  takes_upload ct ot refuses answer told moves = record {
    upload = (moves.moves.bytes.origin told).more;
    taken = (moves.moves.bytes.origin told).taken;
    carried = (moves.moves.bytes.origin told).carried;
    waits = ap (λ (x : LinkSide). x.outbox) moves.moves.others;
  }

  pub heard_leaves : (t : Bool) (found : Found ResponseHead) → t ≡ true → SeeksResponse t v w found
      → LeavesOrigin v w
  heard_leaves t found told hears = sought_leaves t found told hears.finds
