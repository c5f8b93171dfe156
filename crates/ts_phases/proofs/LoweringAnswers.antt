-- Where each answer of a call leads, what is left to do is less, if both links tell.
use Rattle.std.proofs.Common.{◌≡◌, ℕ, ◌-◌, List, length, Bool, true, false, Ok, arith, refl, ap, subst}
use Rattle.std.specs.Prelude.{Option}
use Rattle.ts_config.specs.declared.setup.Setup.{Setup}
use Rattle.ts_hooks.specs.declared.txn_end.TxnEnd.{TxnEnd}
use Rattle.ts_upstream.specs.Uploads.{Rose8, taken_since}
use Rattle.ts_vconn.specs.declared.moves.Pulled.TheVariants as L
use Rattle.ts_vconn.specs.declared.moves.Pushed.{Pushed}
use Rattle.ts_vconn.specs.declared.moves.Pushed.TheVariants as V
use Rattle.ts_vconn.specs.MoveAnswers.{pull_again, push_again}
use Rattle.ts_wire.specs.Check.{check}
use Rattle.ts_wire.specs.declared.fields.Field.{Field}
use Rattle.ts_wire.specs.declared.heads.RequestHead.{RequestHead}
use Rattle.ts_wire.specs.declared.heads.ResponseHead.{ResponseHead}
use Rattle.ts_block.specs.Block.{own_text, request_text}
use Rattle.ts_block.specs.Own.{own_sent}
use Rattle.ts_phases.specs.Holding.{IfTold}
use Rattle.ts_phases.specs.View.{LinkSide, View}
use Rattle.ts_phases.specs.Moving.{SeeksRequest, SeeksResponse, QueuesOwn, QueuesRequest, WritesClient}
use Rattle.ts_phases.specs.Moving.{WritesOrigin}
use Rattle.ts_phases.specs.Lowering.{StepLowers}
use Rattle.ts_phases.specs.declared.phase.Next.TheVariants as N
use Rattle.ts_phases.specs.declared.phase.OwnAnswer.{OwnAnswer}
use Rattle.ts_phases.specs.declared.phase.Phase.{Phase}
use Rattle.ts_phases.specs.declared.phase.Phase.TheVariants as P
use Rattle.ts_phases.specs.declared.phase.Request.{Request}
use Rattle.ts_phases.specs.declared.head_reader.Found.{Found}
use Rattle.ts_phases.specs.declared.head_reader.Found.TheVariants as F
use Rattle.ts_phases.proofs.LoweringHeads.{request_fits}
use Rattle.ts_phases.proofs.LoweringSteps.{Calm, asked, asks_calm, asks_on, client_told, head_calm}
use Rattle.ts_phases.proofs.LoweringSteps.{heard_calm, hears_calm, hears_interim, hears_on, own_text_queued}
use Rattle.ts_phases.proofs.LoweringSteps.{queued, response_heard, sends_calm, sends_on, sent_close}
use Rattle.ts_phases.proofs.LoweringSteps.{stays_calm, to_close, to_end, to_own, write_calm, write_fails}
use Rattle.ts_phases.proofs.LoweringSteps.{writes_on, written}

-- ---- nothing was taken by the origin

none_taken : (k m n : ℕ) → m ≡ n → k ≡ m - n → k ≡ 0
none_taken k m n same is = omega (arith, same, is)

-- so what the upload has left did not rise
rose_none : (v w : View) (u u' : Option ℕ) → w.origin.look.taken ≡ v.origin.look.taken
    → Rose8 u u' (taken_since v.origin.look w.origin.look) → Rose8 u u' 0
rose_none v w u u' same rose = subst (λ (k : ℕ). Rose8 u u' k)
    (none_taken (taken_since v.origin.look w.origin.look) (length w.origin.look.taken)
    (length v.origin.look.taken) (ap length same) refl) rose

-- ---- some count fell, or none did

abbrev SomeCalm : Setup → View → View → Type 0
SomeCalm setup v w = (b : Bool) × Calm setup b v w

same_side : (setup : Setup) (v w : View) → w ≡ v → SomeCalm setup v w
same_side setup v w same = (false, stays_calm setup v w same)

-- a call that left its side left all
same_client : (v w : View) → w ≡ record v { client = w.client } → w.client ≡ v.client → w ≡ v
same_client v w others same = subst (λ (s : LinkSide). w ≡ record v { client = s }) same others

same_origin : (v w : View) → w ≡ record v { origin = w.origin } → w.origin ≡ v.origin → w ≡ v
same_origin v w others same = subst (λ (s : LinkSide). w ≡ record v { origin = s }) same others

-- whatever was found of a head, one count fell or none did
request_calm : (setup : Setup) (v w : View) (found : Found RequestHead) → SeeksRequest true v w found
    → SomeCalm setup v w
request_calm setup v w (F.Head head) hears = (false, head_calm setup v w head hears)
request_calm setup v w F.Never hears = same_side setup v w (same_client v w hears.others hears.finds.1)
request_calm setup v w (F.Read p) hears = (pull_again p, asks_calm setup v w p hears)
request_calm setup v w F.NoMemory hears = same_side setup v w (same_client v w hears.others hears.finds)

response_calm : (setup : Setup) (v w : View) (found : Found ResponseHead) → SeeksResponse true v w found
    → SomeCalm setup v w
response_calm setup v w (F.Head head) hears = (false, heard_calm setup v w head hears)
response_calm setup v w F.Never hears = same_side setup v w (same_origin v w hears.others hears.finds.1)
response_calm setup v w (F.Read p) hears = (pull_again p, hears_calm setup v w p hears)
response_calm setup v w F.NoMemory hears = same_side setup v w (same_origin v w hears.others hears.finds)

-- and the origin took nothing
response_taken : (v w : View) (found : Found ResponseHead) → SeeksResponse true v w found
    → w.origin.look.taken ≡ v.origin.look.taken
response_taken v w (F.Head head) hears = ap (λ (s : LinkSide). s.look.taken) hears.finds.2
response_taken v w F.Never hears = ap (λ (s : LinkSide). s.look.taken) hears.finds.1
response_taken v w (F.Read p) hears = (hears.finds.1.pulls.pulls.told refl).taken
response_taken v w F.NoMemory hears = ap (λ (s : LinkSide). s.look.taken) hears.finds

module _ (ct ot : Bool) (setup : Setup) (v w : View) (u u' : Option ℕ)
    (rose : Rose8 u u' (taken_since v.origin.look w.origin.look)) where
  -- ---- the request's head is looked for

  rose_client : (found : Found RequestHead) → SeeksRequest true v w found → Rose8 u u' 0
  rose_client found hears = rose_none v w u u' (ap (λ (x : View). x.origin.look.taken) hears.others) rose

  -- each answer of the client's link, and what the check says of a head
  pub asks_some : (n : ℕ) → SeeksRequest ct v w (F.Read (L.Some n))
      → IfTold ct ot (StepLowers setup P.ReadRequest u u' v w (record { phase = P.ReadRequest; next = N.Go }))
  asks_some n hears told also =
      let h = subst (λ (b : Bool). SeeksRequest b v w (F.Read (L.Some n))) told hears in
      asks_on setup v w u u' (rose_client (F.Read (L.Some n)) h) (L.Some n) (omega arith) h

  pub asks_wait : SeeksRequest ct v w (F.Read L.Again) → IfTold ct ot
      (StepLowers setup P.ReadRequest u u' v w (record { phase = P.ReadRequest; next = N.Wait }))
  asks_wait hears told also =
      let h = subst (λ (b : Bool). SeeksRequest b v w (F.Read L.Again)) told hears in
      asks_on setup v w u u' (rose_client (F.Read L.Again) h) L.Again (omega arith) h

  pub asks_passes : (q : Request) → check q.head ≡ Ok (q.target, q.host) → SeeksRequest ct v w (F.Head q.head)
      → IfTold ct ot (StepLowers setup P.ReadRequest u u' v w
      (record { phase = P.ReadRequestHdr q; next = N.Go }))
  asks_passes q passes hears told also =
      let h = subst (λ (b : Bool). SeeksRequest b v w (F.Head q.head)) told hears in
      asked setup v w u u' (rose_client (F.Head q.head) h) q.head q
      (request_fits setup v.client.inbox w.client.inbox q.head q.target q.host h.finds.0 passes) h

  pub asks_own : (found : Found RequestHead) (a : OwnAnswer) → SeeksRequest ct v w found
      → IfTold ct ot (StepLowers setup P.ReadRequest u u' v w
      (record { phase = P.SendResponseHdr a; next = N.Go }))
  asks_own found a hears told also =
      let h = subst (λ (b : Bool). SeeksRequest b v w found) told hears in
      let calm = request_calm setup v w found h in
      to_own setup calm.0 0 v w u u' calm.1 (rose_client found h) P.ReadRequest a tt

  pub asks_close : (found : Found RequestHead) (end : TxnEnd) → SeeksRequest ct v w found
      → IfTold ct ot (StepLowers setup P.ReadRequest u u' v w
      (record { phase = P.TxnClose end; next = N.Go }))
  asks_close found end hears told also =
      let h = subst (λ (b : Bool). SeeksRequest b v w found) told hears in
      let calm = request_calm setup v w found h in
      to_close setup calm.0 0 v w u u' calm.1 (rose_client found h) P.ReadRequest end tt

  pub asks_end : (found : Found RequestHead) (end : TxnEnd) → SeeksRequest ct v w found
      → IfTold ct ot (StepLowers setup P.ReadRequest u u' v w (record { phase = P.Ended end; next = N.Done }))
  asks_end found end hears told also =
      let h = subst (λ (b : Bool). SeeksRequest b v w found) told hears in
      let calm = request_calm setup v w found h in
      to_end setup calm.0 0 v w u u' calm.1 (rose_client found h) P.ReadRequest end

  -- ---- the response's head is looked for

  rose_origin : (found : Found ResponseHead) → SeeksResponse true v w found → Rose8 u u' 0
  rose_origin found hears = rose_none v w u u' (response_taken v w found hears) rose

  -- each answer of the origin's link, and what the head is
  pub hears_some : (q : Request) (n : ℕ) → SeeksResponse ot v w (F.Read (L.Some n))
      → IfTold ct ot (StepLowers setup (P.ReadResponse q) u u' v w
      (record { phase = P.ReadResponse q; next = N.Go }))
  hears_some q n hears told also =
      let h = subst (λ (b : Bool). SeeksResponse b v w (F.Read (L.Some n))) also hears in
      hears_on setup v w u u' (rose_origin (F.Read (L.Some n)) h) q (L.Some n) (omega arith) h

  pub hears_wait : (q : Request) → SeeksResponse ot v w (F.Read L.Again)
      → IfTold ct ot (StepLowers setup (P.ReadResponse q) u u' v w
      (record { phase = P.ReadResponse q; next = N.Wait }))
  hears_wait q hears told also =
      let h = subst (λ (b : Bool). SeeksResponse b v w (F.Read L.Again)) also hears in
      hears_on setup v w u u' (rose_origin (F.Read L.Again) h) q L.Again (omega arith) h

  pub hears_dropped : (q : Request) (head : ResponseHead) → SeeksResponse ot v w (F.Head head)
      → IfTold ct ot (StepLowers setup (P.ReadResponse q) u u' v w
      (record { phase = P.ReadResponse q; next = N.Go }))
  hears_dropped q head hears told also =
      let h = subst (λ (b : Bool). SeeksResponse b v w (F.Head head)) also hears in
      hears_interim setup v w u u' (rose_origin (F.Head head) h) q head h

  pub hears_final : (q : Request) (head : ResponseHead) → SeeksResponse ot v w (F.Head head)
      → IfTold ct ot (StepLowers setup (P.ReadResponse q) u u' v w
      (record { phase = P.ReadResponseHdr q head; next = N.Go }))
  hears_final q head hears told also =
      let h = subst (λ (b : Bool). SeeksResponse b v w (F.Head head)) also hears in
      response_heard setup false 0 v w u u' (heard_calm setup v w head h) (rose_origin (F.Head head) h) q head

  pub hears_own : (q : Request) (found : Found ResponseHead) (a : OwnAnswer) → SeeksResponse ot v w found
      → IfTold ct ot (StepLowers setup (P.ReadResponse q) u u' v w
      (record { phase = P.SendResponseHdr a; next = N.Go }))
  hears_own q found a hears told also =
      let h = subst (λ (b : Bool). SeeksResponse b v w found) also hears in
      let calm = response_calm setup v w found h in
      to_own setup calm.0 0 v w u u' calm.1 (rose_origin found h) (P.ReadResponse q) a tt

  pub hears_end : (q : Request) (found : Found ResponseHead) (end : TxnEnd) → SeeksResponse ot v w found
      → IfTold ct ot (StepLowers setup (P.ReadResponse q) u u' v w
      (record { phase = P.Ended end; next = N.Done }))
  hears_end q found end hears told also =
      let h = subst (λ (b : Bool). SeeksResponse b v w found) also hears in
      let calm = response_calm setup v w found h in
      to_end setup calm.0 0 v w u u' calm.1 (rose_origin found h) (P.ReadResponse q) end

  -- ---- the request is written

  -- each answer of the origin's link
  pub writes_some : (q : Request) (n : ℕ) → WritesOrigin ot v w (V.Some n)
      → IfTold ct ot (StepLowers setup (P.SendRequest q) u u' v w
      (record { phase = P.SendRequest q; next = N.Go }))
  writes_some q n writes told also =
      writes_on setup v w u u' rose (V.Some n) (subst (λ (b : Bool). WritesOrigin b v w (V.Some n)) also
      writes) q (omega arith)

  pub writes_wait : (q : Request) → WritesOrigin ot v w V.Again
      → IfTold ct ot (StepLowers setup (P.SendRequest q) u u' v w
      (record { phase = P.SendRequest q; next = N.Wait }))
  writes_wait q writes told also =
      writes_on setup v w u u' rose V.Again (subst (λ (b : Bool). WritesOrigin b v w V.Again) also writes) q
      (omega arith)

  pub writes_all : (q : Request) (p : Pushed) → WritesOrigin ot v w p
      → IfTold ct ot (StepLowers setup (P.SendRequest q) u u' v w
      (record { phase = P.Upload q; next = N.Go }))
  writes_all q p writes told also = written setup v w u u' rose p
      (subst (λ (b : Bool). WritesOrigin b v w p) also writes) q

  pub writes_own : (q : Request) (p : Pushed) (a : OwnAnswer) → WritesOrigin ot v w p
      → IfTold ct ot (StepLowers setup (P.SendRequest q) u u' v w
      (record { phase = P.SendResponseHdr a; next = N.Go }))
  writes_own q p a writes told also = write_fails setup v w u u' rose p
      (subst (λ (b : Bool). WritesOrigin b v w p) also writes) q a

  pub writes_end : (q : Request) (p : Pushed) (end : TxnEnd) → WritesOrigin ot v w p
      → IfTold ct ot (StepLowers setup (P.SendRequest q) u u' v w
      (record { phase = P.Ended end; next = N.Done }))
  writes_end q p end writes told also =
      let h = subst (λ (b : Bool). WritesOrigin b v w p) also writes in
      to_end setup (push_again p) (taken_since v.origin.look w.origin.look) v w u u'
      (write_calm setup v w u u' rose p h) rose (P.SendRequest q) end

  -- ---- an answer of the proxy's own is written

  rose_sent : (p : Pushed) → WritesClient true v w p → Rose8 u u' 0
  rose_sent p writes = rose_none v w u u' (ap (λ (x : View). x.origin.look.taken) writes.others) rose

  -- each answer of the client's link
  pub sends_some : (a : OwnAnswer) (n : ℕ) → WritesClient ct v w (V.Some n)
      → IfTold ct ot (StepLowers setup (P.Sending a) u u' v w (record { phase = P.Sending a; next = N.Go }))
  sends_some a n writes told also =
      let h = client_told ct v w (V.Some n) told writes in
      sends_on setup v w (V.Some n) h u u' (rose_sent (V.Some n) h) a (omega arith)

  pub sends_wait : (a : OwnAnswer) → WritesClient ct v w V.Again
      → IfTold ct ot (StepLowers setup (P.Sending a) u u' v w (record { phase = P.Sending a; next = N.Wait }))
  sends_wait a writes told also =
      let h = client_told ct v w V.Again told writes in
      sends_on setup v w V.Again h u u' (rose_sent V.Again h) a (omega arith)

  pub sends_close : (a : OwnAnswer) (p : Pushed) (end : TxnEnd) → WritesClient ct v w p
      → IfTold ct ot (StepLowers setup (P.Sending a) u u' v w
      (record { phase = P.TxnClose end; next = N.Go }))
  sends_close a p end writes told also =
      let h = client_told ct v w p told writes in
      sent_close setup (push_again p) 0 v w u u' (sends_calm setup v w p h) (rose_sent p h) a end

  pub sends_end : (a : OwnAnswer) (p : Pushed) (end : TxnEnd) → WritesClient ct v w p
      → IfTold ct ot (StepLowers setup (P.Sending a) u u' v w (record { phase = P.Ended end; next = N.Done }))
  sends_end a p end writes told also =
      let h = client_told ct v w p told writes in
      to_end setup (push_again p) 0 v w u u' (sends_calm setup v w p h) (rose_sent p h) (P.Sending a) end

  -- ---- what is queued

  pub queues_request : (q : Request) (place : ℕ) (fields : List Field) (text : List ℕ)
      → QueuesRequest text v w → (ct ≡ true → ot ≡ true → text ≡ request_text setup q.head q.target q.host)
      → IfTold ct ot (StepLowers setup (P.RuleRequest q place fields) u u' v w
      (record { phase = P.SendRequest q; next = N.Go }))
  queues_request q place fields text queues is told also =
      queued setup v w u u' q place fields
      (rose_none v w u u' (ap (λ (x : View). x.origin.look.taken) queues) rose)
      (subst (λ (xs : List ℕ). QueuesRequest xs v w) (is told also) queues)

  pub queues_own : (a : OwnAnswer) (place : ℕ) (fields : List Field) (head body : List ℕ)
      → QueuesOwn head body v w
      → (ct ≡ true → ot ≡ true → head ≡ own_text setup a.status) → body ≡ own_sent a.to_head a.status
      → IfTold ct ot (StepLowers setup (P.RuleAnswer a place fields) u u' v w
      (record { phase = P.Sending a; next = N.Go }))
  queues_own a place fields head body queues head_is body_is told also =
      own_text_queued setup v w u u' a place fields
      (rose_none v w u u' (ap (λ (s : LinkSide). s.look.taken) queues.origin) rose)
      (subst (λ (xs : List ℕ). QueuesOwn xs (own_sent a.to_head a.status) v w) (head_is told also)
      (subst (λ (xs : List ℕ). QueuesOwn head xs v w) body_is queues))

  -- ---- nothing moved

  stood_calm : w ≡ v → Calm setup false v w
  stood_calm same = stays_calm setup v w same

  rose_stood : w ≡ v → Rose8 u u' 0
  rose_stood same = rose_none v w u u' (ap (λ (x : View). x.origin.look.taken) same) rose

  pub stands_end : (p : Phase) (end : TxnEnd) → w ≡ v → IfTold ct ot
      (StepLowers setup p u u' v w (record { phase = P.Ended end; next = N.Done }))
  stands_end p end same told also = to_end setup false 0 v w u u' (stood_calm same) (rose_stood same) p end
