-- Each answer of a link's call but a fault and Again leaves its counts, and these two are minded.
use Rattle.std.proofs.Common.{◌≡◌, ℕ, ◌<◌, List, Bool, false, arith, ap, subst}
use Rattle.ts_link.specs.Counts.{Counted}
use Rattle.ts_link.specs.Link.{Look}
use Rattle.ts_vconn.specs.declared.moves.Pulled.{Pulled}
use Rattle.ts_vconn.specs.declared.moves.Pulled.TheVariants as L
use Rattle.ts_vconn.specs.declared.moves.Pushed.{Pushed}
use Rattle.ts_vconn.specs.declared.moves.Pushed.TheVariants as V
use Rattle.ts_vconn.specs.MoveAnswers.{pull_again, pull_failed, push_again, push_failed}
use Rattle.ts_wire.specs.declared.heads.RequestHead.{RequestHead}
use Rattle.ts_wire.specs.declared.heads.ResponseHead.{ResponseHead}
use Rattle.ts_wire.specs.Heads.{LacksRequest, LacksResponse}
use Rattle.ts_block.specs.Heads.{HasRequest, HasResponse}
use Rattle.ts_phases.specs.View.{LinkSide, View}
use Rattle.ts_phases.specs.Moving.{QueuesOwn, QueuesRequest, Seeks, SeeksRequest, SeeksResponse, SideReads}
use Rattle.ts_phases.specs.Moving.{SideWrites, WritesClient, WritesOrigin}
use Rattle.ts_phases.specs.Steps.{AnswersOriginFault, ClosesForClientFault, MindsLinks}
use Rattle.ts_phases.specs.declared.phase.Next.TheVariants as N
use Rattle.ts_phases.specs.declared.phase.Step.{Step}
use Rattle.ts_phases.specs.declared.head_reader.Found.{Found}
use Rattle.ts_phases.specs.declared.head_reader.Found.TheVariants as F

not_less : (old new : ℕ) → new ≡ old → old < new → ⊥
not_less old new same less = omega (arith, same, less)

counted_same : (b : Bool) (old new : ℕ) → b ≡ false → Counted b old new → new ≡ old
counted_same b old new is counted = subst (λ (x : Bool). Counted x old new) is counted

-- neither count rose
record SameCounts (old new : Look) : Type 0 where
  faults : new.faults ≡ old.faults
  waits : new.waits ≡ old.waits

same_look : (old new : Look) → new ≡ old → SameCounts old new
same_look old new same = record {
  faults = ap (λ (l : Look). l.faults) same;
  waits =
      ap (λ (l : Look). l.waits) same;
}

module _ (v w : View) (s : Step) where
  calm : SameCounts v.client.look w.client.look → SameCounts v.origin.look w.origin.look → MindsLinks v w s
  calm client origin = record {
    client_fault = λ less. absurd (not_less v.client.look.faults w.client.look.faults client.faults less);
    origin_fault = λ less. absurd (not_less v.origin.look.faults w.origin.look.faults origin.faults less);
    client_again = λ less. absurd (not_less v.client.look.waits w.client.look.waits client.waits less);
    origin_again = λ less. absurd (not_less v.origin.look.waits w.origin.look.waits origin.waits less);
  }

  -- the origin's link failed
  origin_failed : SameCounts v.client.look w.client.look → w.origin.look.waits ≡ v.origin.look.waits
      → AnswersOriginFault s.phase → MindsLinks v w s
  origin_failed client waits answers = record {
    client_fault = λ less. absurd (not_less v.client.look.faults w.client.look.faults client.faults less);
    origin_fault = λ less. answers;
    client_again = λ less. absurd (not_less v.client.look.waits w.client.look.waits client.waits less);
    origin_again = λ less. absurd (not_less v.origin.look.waits w.origin.look.waits waits less);
  }

  -- or the client's
  client_failed : SameCounts v.origin.look w.origin.look → w.client.look.waits ≡ v.client.look.waits
      → ClosesForClientFault s.phase → MindsLinks v w s
  client_failed origin waits closes = record {
    client_fault = λ less. closes;
    origin_fault = λ less. absurd (not_less v.origin.look.faults w.origin.look.faults origin.faults less);
    client_again = λ less. absurd (not_less v.client.look.waits w.client.look.waits waits less);
    origin_again = λ less. absurd (not_less v.origin.look.waits w.origin.look.waits origin.waits less);
  }

  -- or one of them was not ready
  waited : w.client.look.faults ≡ v.client.look.faults → w.origin.look.faults ≡ v.origin.look.faults
      → s.next ≡ N.Wait → MindsLinks v w s
  waited client origin wait = record {
    client_fault = λ less. absurd (not_less v.client.look.faults w.client.look.faults client less);
    origin_fault = λ less. absurd (not_less v.origin.look.faults w.origin.look.faults origin less);
    client_again = λ less. wait;
    origin_again = λ less. wait;
  }

-- ---- one read, and one write

read_counts : (t : Bool) (c d : LinkSide) (p : Pulled) → pull_failed p ≡ false → pull_again p ≡ false
    → SideReads t c d p → SameCounts c.look d.look
read_counts t c d p fine ready reads = record {
  faults = counted_same (pull_failed p) c.look.faults d.look.faults fine reads.pulls.pulls.calls.faults;
  waits = counted_same (pull_again p) c.look.waits d.look.waits ready reads.pulls.pulls.calls.waits;
}

write_counts : (t : Bool) (c d : LinkSide) (p : Pushed) → push_failed p ≡ false → push_again p ≡ false
    → SideWrites t c d p → SameCounts c.look d.look
write_counts t c d p fine ready writes = record {
  faults = counted_same (push_failed p) c.look.faults d.look.faults fine writes.pushes.calls.faults;
  waits = counted_same (push_again p) c.look.waits d.look.waits ready writes.pushes.calls.waits;
}

-- ---- a search for a head

abbrev pub found_failed : {H : Type 0} → Found H → Bool
found_failed (F.Read p) = pull_failed p
found_failed _ = false

abbrev pub found_again : {H : Type 0} → Found H → Bool
found_again (F.Read p) = pull_again p
found_again _ = false

found_counts : {H : Type 0} (has : List ℕ → H → List ℕ → Type 0) (lacks : List ℕ → Type 0) (t : Bool)
    (c d : LinkSide) (found : Found H) → found_failed found ≡ false → found_again found ≡ false
    → Seeks has lacks t c d found → SameCounts c.look d.look
found_counts has lacks t c d (F.Head head) fine ready seeks =
    same_look c.look d.look (ap (λ (x : LinkSide). x.look) seeks.2)
found_counts has lacks t c d F.Never fine ready seeks =
    same_look c.look d.look (ap (λ (x : LinkSide). x.look) seeks.1)
found_counts has lacks t c d (F.Read p) fine ready seeks = read_counts t c d p fine ready seeks.1
found_counts has lacks t c d F.NoMemory fine ready seeks =
    same_look c.look d.look (ap (λ (x : LinkSide). x.look) seeks)

same_client : (v w : View) (s : LinkSide) → w ≡ record v { origin = s }
    → SameCounts v.client.look w.client.look
same_client v w s same = same_look v.client.look w.client.look (ap (λ (x : View). x.client.look) same)

same_origin : (v w : View) (s : LinkSide) → w ≡ record v { client = s }
    → SameCounts v.origin.look w.origin.look
same_origin v w s same = same_look v.origin.look w.origin.look (ap (λ (x : View). x.origin.look) same)

-- ---- the calls of a step

module _ (t : Bool) (v w : View) (s : Step) where
  pub heard_request : (found : Found RequestHead) → found_failed found ≡ false → found_again found ≡ false
      → SeeksRequest t v w found → MindsLinks v w s
  heard_request found fine ready hears =
      calm v w s (found_counts HasRequest LacksRequest t v.client w.client found fine ready hears.finds)
      (same_origin v w w.client hears.others)

  pub lost_client : SeeksRequest t v w (F.Read L.Failed) → ClosesForClientFault s.phase → MindsLinks v w s
  lost_client hears closes = client_failed v w s (same_origin v w w.client hears.others)
      hears.finds.1.pulls.pulls.calls.waits closes

  pub late_client : SeeksRequest t v w (F.Read L.Again) → s.next ≡ N.Wait → MindsLinks v w s
  late_client hears wait = waited v w s hears.finds.1.pulls.pulls.calls.faults
      (same_origin v w w.client hears.others).faults wait

  pub heard_response : (found : Found ResponseHead) → found_failed found ≡ false → found_again found ≡ false
      → SeeksResponse t v w found → MindsLinks v w s
  heard_response found fine ready hears =
      calm v w s (same_client v w w.origin hears.others) (found_counts HasResponse LacksResponse t v.origin
      w.origin found fine ready hears.finds)

  pub lost_origin : SeeksResponse t v w (F.Read L.Failed) → AnswersOriginFault s.phase → MindsLinks v w s
  lost_origin hears answers = origin_failed v w s (same_client v w w.origin hears.others)
      hears.finds.1.pulls.pulls.calls.waits answers

  pub late_origin : SeeksResponse t v w (F.Read L.Again) → s.next ≡ N.Wait → MindsLinks v w s
  late_origin hears wait = waited v w s (same_client v w w.origin hears.others).faults
      hears.finds.1.pulls.pulls.calls.faults wait

  pub wrote_origin : (p : Pushed) → push_failed p ≡ false → push_again p ≡ false → WritesOrigin t v w p
      → MindsLinks v w s
  wrote_origin p fine ready writes =
      calm v w s (same_client v w w.origin writes.others) (write_counts t v.origin w.origin p fine ready
      writes.origin)

  pub origin_left : WritesOrigin t v w V.Failed → AnswersOriginFault s.phase → MindsLinks v w s
  origin_left writes answers = origin_failed v w s (same_client v w w.origin writes.others)
      writes.origin.pushes.calls.waits answers

  pub full_origin : WritesOrigin t v w V.Again → s.next ≡ N.Wait → MindsLinks v w s
  full_origin writes wait = waited v w s (same_client v w w.origin writes.others).faults
      writes.origin.pushes.calls.faults wait

  pub wrote_client : (p : Pushed) → push_failed p ≡ false → push_again p ≡ false → WritesClient t v w p
      → MindsLinks v w s
  wrote_client p fine ready writes =
      calm v w s (write_counts t v.client w.client p fine ready writes.client)
      (same_origin v w w.client writes.others)

  pub client_left : WritesClient t v w V.Failed → ClosesForClientFault s.phase → MindsLinks v w s
  client_left writes closes = client_failed v w s (same_origin v w w.client writes.others)
      writes.client.pushes.calls.waits closes

  pub full_client : WritesClient t v w V.Again → s.next ≡ N.Wait → MindsLinks v w s
  full_client writes wait = waited v w s writes.client.pushes.calls.faults
      (same_origin v w w.client writes.others).faults wait

-- ---- what is queued calls no link

module _ (v w : View) (s : Step) where
  pub stood : w ≡ v → MindsLinks v w s
  stood same = calm v w s (same_look v.client.look w.client.look (ap (λ (x : View). x.client.look) same))
      (same_look v.origin.look w.origin.look (ap (λ (x : View). x.origin.look) same))

  pub queued_request : (text : List ℕ) → QueuesRequest text v w → MindsLinks v w s
  queued_request text queues = calm v w s (same_look v.client.look w.client.look
      (ap (λ (x : View). x.client.look) queues))
      (same_look v.origin.look w.origin.look (ap (λ (x : View). x.origin.look) queues))

  pub queued_own : (head body : List ℕ) → QueuesOwn head body v w → MindsLinks v w s
  queued_own head body queues = calm v w s (same_look v.client.look w.client.look
      (ap (λ (x : LinkSide). x.look) queues.client))
      (same_look v.origin.look w.origin.look (ap (λ (x : LinkSide). x.look) queues.origin))
