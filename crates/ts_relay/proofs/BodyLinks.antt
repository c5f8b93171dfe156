-- The steps of a body, and what they do with the two links: which of them is called, and which counts rise.
use Rattle.std.proofs.Common.{◌≡◌, ℕ, ◌+◌, ◌≤◌, inl, inr, List, [], ◌++◌, Bool, true, false, Option, Result}
use Rattle.std.proofs.Common.{Some, None, Err, length, length-append, drop, refl, sym, ap, subst, ◌∙◌, arith}
use Rattle.std.proofs.lemmas.List.{append-nil, length-drop}
use Rattle.std.specs.Prelude.{⊤}
use Rattle.ts_hooks.specs.declared.txn_end.TxnEnd.{TxnEnd}
use Rattle.ts_hooks.specs.declared.txn_end.TxnEnd.TheVariants as E
use Rattle.ts_journal.specs.declared.entry.Event.{Event}
use Rattle.ts_group.specs.declared.action.SetFault.{SetFault}
use Rattle.ts_group.specs.declared.action.SetFault.TheVariants as F
use Rattle.ts_group.specs.Context.{Context, IsSame}
use Rattle.ts_link.specs.Link.{Calls, Look}
use Rattle.ts_transform.specs.Acting.{IsStage}
use Rattle.ts_transform.specs.Driven.{Acts, IsOfNoStage}
use Rattle.ts_transform.specs.Driving.{IsNamedIf, KeepsOthers, unroused}
use Rattle.ts_transform.specs.Flow.{ChainState, PumpsOnce, TakesAway, given_if, wants}
use Rattle.ts_transform.specs.declared.continuation.StageContinuation.{StageContinuation}
use Rattle.ts_transform.proofs.Carrying.{pumped_first, takes_first}
use Rattle.ts_transform.proofs.Joined.{named_unroused}
use Rattle.ts_transform.proofs.Setting.{only_none}
use Rattle.ts_vconn.specs.MoveAnswers.{Went, pull_again, pull_failed, push_again, push_failed}
use Rattle.ts_vconn.proofs.Bounds.{came_few}
use Rattle.ts_vconn.specs.declared.moves.Pulled.{Pulled}
use Rattle.ts_vconn.specs.declared.moves.Pulled.TheVariants as L
use Rattle.ts_vconn.specs.declared.moves.Pushed.{Pushed}
use Rattle.ts_vconn.specs.declared.moves.Pushed.TheVariants as V
use Rattle.ts_vconn.specs.declared.moves.TheConstants.{MOST_PULLED}
use Rattle.ts_wire.specs.declared.body.BodyState.{BodyState}
use Rattle.ts_wire.specs.declared.body.BodyState.TheVariants as B
use Rattle.ts_wire.specs.Place.{state_of}
use Rattle.ts_phases.specs.View.{LinkSide, View}
use Rattle.ts_phases.specs.Ends.{IsFrontOf}
use Rattle.ts_phases.specs.Moving.{WritesClient}
use Rattle.ts_phases.specs.RelayMoves.{QueuesText, ReadsOrigin}
use Rattle.ts_relay.specs.Feeding.{DrainsOrigin, FeedsBody, FeedsTo, OnGoes}
use Rattle.ts_passing.specs.Feeding.{GetsPart}
use Rattle.ts_relay.specs.Relaying.{AddsSome, StepsChain, short_end, step_after}
use Rattle.ts_relay.specs.Duties.{MustReadOn, SettledAs, UnlessLacking}
use Rattle.ts_relay.specs.BodyLinks.{HandlesLinks, HoldsLittle, KeepsQueued, KeepsShort, IsUnread}
use Rattle.ts_relay.specs.BodyLinks.{IsUnwritten}
use Rattle.ts_relay.specs.BodyLinks.{MindsBody, QueuesFew}
use Rattle.ts_relay.specs.BodyLinks.{OnlyOfBody, OnlyOfEnds, RestLeads, ReadsLinks, SendsRest, WritesLinks}
use Rattle.ts_relay.specs.BodyLinks.{is_client_fault, is_late, is_origin_fault, pause_if}
use Rattle.ts_link.specs.declared.clock.TheConstants.{RETRY_AFTER}
use Rattle.ts_relay.specs.declared.relay.TheConstants.{MAIN, FIRST, READER}
use Rattle.ts_relay.specs.declared.last_writes.BodyStep.{BodyStep}
use Rattle.ts_relay.specs.declared.last_writes.BodyStep.TheVariants as S
use Rattle.ts_phases.specs.declared.parts.Sent.{Sent}
use Rattle.ts_relay.specs.declared.relay.Relay.{Relay}
use Rattle.ts_relay.specs.declared.relay.Short.{Short}
use Rattle.ts_relay.specs.declared.relay.Short.TheVariants as K
use Rattle.ts_relay.proofs.BodyTimes.{in_time, named_later, named_others, no_pause, stage_only}
use Rattle.ts_phases.proofs.Lowering.{no_more_same, same_length}
use Rattle.ts_relay.proofs.Relaying.{text_behind}
use Rattle.ts_relay.proofs.Settling.{settled_has, unless_lacking}

-- ---- a link that is not called

calls_none : (l m : Look) → m ≡ l → Calls l m false false
calls_none l m same = subst (λ x. Calls l x false false) (sym same) (record {
  source = refl;
  name = refl;
  plan = refl;
  carried = refl;
  uploaded = refl;
  before = refl;
  faults = refl;
  waits = refl;
  agains = no_more_same l.agains;
})

-- the same calls under the names that a step gives them
calls_as : (l m : Look) (failed waited f g : Bool) → f ≡ failed → g ≡ waited → Calls l m failed waited
    → Calls l m f g
calls_as l m failed waited f g failed_is waited_is calls = subst (λ x. Calls l m x g) (sym failed_is)
    (subst (λ x. Calls l m failed x) (sym waited_is) calls)

-- a side that is the same was neither read nor written
unread_same : (t : Bool) (s u : LinkSide) → u ≡ s → IsUnread t s u
unread_same t s u same = record {
  reads = ap (λ x. x.look.reads) same;
  held = ap (λ x. x.inbox) same;
  given = λ told. ap (λ x. x.look.given) same;
}

unwritten_same : (t : Bool) (s u : LinkSide) → u ≡ s → IsUnwritten t s u
unwritten_same t s u same = record {
  writes = ap (λ x. x.look.writes) same;
  waits = ap (λ x. x.outbox) same;
  taken = λ told. ap (λ x. x.look.taken) same;
}

-- ---- answers that name no fault, and no link that was not ready

pub record IsCalm (step : BodyStep) : Type 0 where
  pub client : is_client_fault step ≡ false
  pub origin : is_origin_fault step ≡ false
  pub late : is_late step ≡ false

-- a step that only sets an event is calm, and so is one that closes or feeds the chain
pub calm_after : (f : Result ⊤ SetFault) (step : BodyStep) → step ≡ step_after f → IsCalm step
calm_after (Err F.Spent) step is = subst IsCalm (sym is) (record {
  client = refl;
  origin = refl;
  late = refl;
})
calm_after _ step is = subst IsCalm (sym is) (record { client = refl; origin = refl; late = refl })

calm_goes : (X : Type 0) (step : BodyStep) → OnGoes step X → IsCalm step
calm_goes X S.Goes goes = record { client = refl; origin = refl; late = refl }
calm_goes X S.Lacks goes = record { client = refl; origin = refl; late = refl }
calm_goes X _ goes = absurd goes

calm_feeds : {P : Type 0} (step : BodyStep) (r s : Relay P) (before after : List ℕ)
    → FeedsTo step r s before after → IsCalm step
calm_feeds S.Goes r s before after feeds = record { client = refl; origin = refl; late = refl }
calm_feeds S.Lacks r s before after feeds = record { client = refl; origin = refl; late = refl }
calm_feeds _ r s before after feeds = absurd feeds

-- and one of a body that stops short
pub calm_short : (why : Short) (end : TxnEnd) → end ≡ short_end why → IsCalm (S.Finishes end)
calm_short K.Cut end is = subst (λ (e : TxnEnd). IsCalm (S.Finishes e)) (sym is) (record {
  client = refl;
  origin = refl;
  late = refl;
})
calm_short K.Bad end is = subst (λ (e : TxnEnd). IsCalm (S.Finishes e)) (sym is) (record {
  client = refl;
  origin = refl;
  late = refl;
})

-- ---- what was queued

front_same : (xs ys : List ℕ) → ys ≡ xs → IsFrontOf xs ys
front_same xs ys same = ([], append-nil xs ∙ sym same)

-- it stays in front where nothing moved, where a text was queued, and where some was written
queued_same : (t : Bool) (v w : View) → w.sent ≡ v.sent → w.client ≡ v.client → KeepsQueued t v w
queued_same t v w sent client = record {
  head = ap (λ (x : Sent). x.head) sent;
  mode = ap (λ (x : Sent). x.mode) sent;
  cuts = front_same v.sent.cuts.items w.sent.cuts.items (ap (λ (x : Sent). x.cuts.items) sent);
  text = λ told. front_same (v.client.look.taken ++ v.client.outbox) (w.client.look.taken ++ w.client.outbox)
      (ap (λ (s : LinkSide). s.look.taken ++ s.outbox) client);
}

queued_text : (t : Bool) (text cuts : List ℕ) (v w : View) → QueuesText text cuts v w → KeepsQueued t v w
queued_text t text cuts v w queued = record {
  head = queued.adds.head;
  mode = queued.adds.mode;
  cuts = (cuts, sym queued.adds.cuts_are);
  text = λ told. (text, sym (text_behind text cuts (v.client.look.taken ++ v.client.outbox) v w queued refl));
}

queued_wrote : (t : Bool) (v w : View) (p : Pushed) → WritesClient t v w p → KeepsQueued t v w
queued_wrote t v w p writes =
    let sent : w.sent ≡ v.sent = ap (λ (x : View). x.sent) writes.others in
    record {
      head = ap (λ (x : Sent). x.head) sent;
      mode = ap (λ (x : Sent). x.mode) sent;
      cuts = front_same v.sent.cuts.items w.sent.cuts.items (ap (λ (x : Sent). x.cuts.items) sent);
      text = λ told. front_same (v.client.look.taken ++ v.client.outbox) (w.client.look.taken
          ++ w.client.outbox) (writes.client.pushes.text told);
    }

-- ---- what is held

no_longer_drop : (n : ℕ) (xs ys : List ℕ) → ys ≡ drop n xs → length ys ≤ length xs
no_longer_drop n xs ys same = omega (arith, ap length same, length-drop n xs)

-- no more is held where neither the origin's bytes nor the chain's front grew
holds_kept : {P : Type 0} (v w : View) (c d : ChainState P) → length w.origin.inbox ≤ length v.origin.inbox
    → length d.first ≤ length c.first → HoldsLittle v c → HoldsLittle w d
holds_kept v w c d inbox first h = record {
  held = omega (arith, inbox, h.held);
  front = omega (
    arith,
    first,
    h.front,
  );
}

-- a read brings no more than one piece, where nothing waited
read_few : (t : Bool) (v w : View) (p : Pulled) → v.origin.inbox ≡ [] → ReadsOrigin t v w p
    → length w.origin.inbox ≤ MOST_PULLED
read_few t v w p none reads =
    let came = came_few p reads.origin.most reads.origin.pulls.more reads.origin.pulls.pulls.came in
    omega (
      arith,
      came,
      reads.origin.few,
      ap length (reads.origin.pulls.grows ∙ ap (λ (x : List ℕ). x
          ++ reads.origin.pulls.more) none),
    )

-- what a write leaves is no longer
went_shorter : (p : Pushed) (before after : List ℕ) → Went p before after → length after ≤ length before
went_shorter (V.Some n) before after went = no_longer_drop n before after went.2
went_shorter _ before after went = same_length before after went.1

-- what is fed comes to the front of the chain, which had room
given_few : (more : Bool) (first part : List ℕ) → length (given_if more first part) ≤ length first + length
    part
given_few true first part = omega (arith, length-append first part)
given_few false first part = omega arith

fed_first : {P : Type 0} (state : BodyState) (part : List ℕ) (c d : ChainState P) → GetsPart state part c d
    → length d.first ≤ length c.first + length part
fed_first B.Unfinished part c d gets =
    omega (arith, ap (λ k. length k.first) gets, given_few (wants c) c.first part)
fed_first B.Ended part c d gets = omega (
  arith,
  ap (λ k. length k.first) gets,
  given_few (wants c) c.first
      part,
)
fed_first B.Bad part c d gets = omega (arith, ap (λ k. length k.first) gets, given_few (wants c) c.first part)

-- feeding moves what is held to the chain's front, which had room
fed_holds : {P : Type 0} (v w : View) (r s : Relay P) → MustReadOn r
    → FeedsBody r s v.origin.inbox w.origin.inbox → HoldsLittle v r.driven.chain → HoldsLittle w
    s.driven.chain
fed_holds v w r s must fed h =
    let all : length v.origin.inbox ≡ length fed.feeds.piece + length w.origin.inbox = ap length fed.feeds.taken
    ∙ length-append fed.feeds.piece w.origin.inbox in
    record {
      held = omega (arith, all, h.held);
      front = omega (
        arith,
        all,
        h.held,
        must.1.2,
        fed.feeds.within,
        fed_first (state_of s.body.phase) fed.feeds.part r.driven.chain s.driven.chain fed.feeds.gets,
      );
    }

feeds_holds : {P : Type 0} (step : BodyStep) (v w : View) (r s : Relay P) → MustReadOn r
    → FeedsTo step r s v.origin.inbox w.origin.inbox
    → UnlessLacking step (HoldsLittle v r.driven.chain → HoldsLittle w s.driven.chain)
feeds_holds S.Goes v w r s must feeds = fed_holds v w r s must feeds
feeds_holds S.Lacks v w r s must feeds = tt
feeds_holds _ v w r s must feeds = absurd feeds

-- ---- the calls of a step

module _ {P : Type 0} (ct ot : Bool) (v w : View) (r s : Relay P) (step : BodyStep) (cl ol : Bool) where
  -- nothing was called
  still_minds : IsCalm step → cl ≡ false → ol ≡ false → w ≡ v → length s.driven.chain.first ≤ length
      r.driven.chain.first
      → MindsBody ct ot v w r s step cl ol
  still_minds calm no_client no_origin same shorter = record {
    client = calls_as v.client.look w.client.look false false (is_client_fault step) cl calm.client no_client
        (calls_none v.client.look w.client.look (ap (λ x. x.client.look) same));
    origin = calls_as v.origin.look w.origin.look false false (is_origin_fault step) ol calm.origin no_origin
        (calls_none v.origin.look w.origin.look (ap (λ x. x.origin.look) same));
    reads = inl (ap (λ x. x.origin) same);
    unread = unread_same ct v.client w.client (ap (λ x. x.client) same);
    unwritten = unwritten_same ot v.origin w.origin (ap (λ x. x.origin) same);
    queued = queued_same ct v w (ap (λ x. x.sent) same) (ap (λ x. x.client) same);
    queues = inl (same_length v.client.outbox w.client.outbox (ap (λ x. x.client.outbox) same));
    holds = unless_lacking (HoldsLittle v r.driven.chain → HoldsLittle w s.driven.chain) step (holds_kept v w
        r.driven.chain s.driven.chain
        (same_length v.origin.inbox w.origin.inbox (ap (λ x. x.origin.inbox) same)) shorter);
  }

  minds_none : IsCalm step → cl ≡ false → ol ≡ false → w ≡ v → s.driven.chain ≡ r.driven.chain → MindsBody ct
      ot v w r s step cl ol
  minds_none calm no_client no_origin same chain = still_minds calm no_client no_origin same
      (same_length r.driven.chain.first s.driven.chain.first (ap (λ k. k.first) chain))

  -- a text was queued for the client
  queued_minds : (text cuts : List ℕ) → IsCalm step → cl ≡ false → ol ≡ false → QueuesFew v w
      → QueuesText text cuts v w → length s.driven.chain.first ≤ length r.driven.chain.first → MindsBody ct ot
      v w r s step cl ol
  queued_minds text cuts calm no_client no_origin few queued shorter =
      let look : w.client.look ≡ v.client.look = ap (λ (s : LinkSide). s.look) queued.client in
      record {
        client = calls_as v.client.look w.client.look false false (is_client_fault step) cl calm.client
            no_client (calls_none v.client.look w.client.look look);
        origin = calls_as v.origin.look w.origin.look false false (is_origin_fault step) ol calm.origin
            no_origin (calls_none v.origin.look w.origin.look (ap (λ x. x.look) queued.origin));
        reads = inl queued.origin;
        unread = record {
          reads = ap (λ (l : Look). l.reads) look;
          held = ap (λ (s : LinkSide). s.inbox)
              queued.client;
          given = λ told. ap (λ (l : Look). l.given) look;
        };
        unwritten = unwritten_same ot v.origin w.origin queued.origin;
        queued = queued_text ct text cuts v w queued;
        queues = few;
        holds = unless_lacking (HoldsLittle v r.driven.chain → HoldsLittle w s.driven.chain) step (holds_kept
            v w r.driven.chain s.driven.chain
            (same_length v.origin.inbox w.origin.inbox (ap (λ (s : LinkSide). s.inbox) queued.origin))
            shorter);
      }

  minds_queued : (text cuts : List ℕ) → IsCalm step → cl ≡ false → ol ≡ false → QueuesFew v w
      → s.driven.chain ≡ r.driven.chain
      → QueuesText text cuts v w → MindsBody ct ot v w r s step cl ol
  minds_queued text cuts calm no_client no_origin few chain queued = queued_minds text cuts calm no_client
      no_origin few queued (same_length r.driven.chain.first s.driven.chain.first (ap (λ k. k.first) chain))

  -- that of a piece, which was taken from the chain
  minds_framed : (text cuts : List ℕ) (rest : P → List ℕ → List ℕ) (n : ℕ) → IsCalm step → cl ≡ false
      → ol ≡ false → QueuesFew v w → TakesAway rest n r.driven.chain s.driven.chain → QueuesText text
      cuts v w
      → MindsBody ct ot v w r s step cl ol
  minds_framed text cuts rest n calm no_client no_origin few takes queued =
      queued_minds text cuts calm no_client no_origin few queued (takes_first r.driven.chain.first
      r.driven.chain.stages n s.driven.chain.first
      s.driven.chain.stages takes.takes)

  -- what waits of the origin's bytes was used
  minds_drained : cl ≡ false → ol ≡ is_late step → MustReadOn r
      → FeedsTo step r s v.origin.inbox w.origin.inbox → DrainsOrigin v w → MindsBody ct ot v w r s
      step cl ol
  minds_drained no_client late must feeds drains =
      let look : w.origin.look ≡ v.origin.look = ap (λ (x : View). x.origin.look) drains in
      let calm = calm_feeds step r s v.origin.inbox w.origin.inbox feeds in
      record {
        client = calls_as v.client.look w.client.look false false (is_client_fault step) cl calm.client
            no_client (calls_none v.client.look w.client.look (ap (λ (x : View). x.client.look) drains));
        origin = calls_as v.origin.look w.origin.look false false (is_origin_fault step) ol calm.origin
            (late ∙ calm.late) (calls_none v.origin.look w.origin.look look);
        reads = inr must;
        unread = unread_same ct v.client w.client (ap (λ (x : View). x.client) drains);
        unwritten = record {
          writes = ap (λ (l : Look). l.writes) look;
          waits = ap (λ (x : View).
              x.origin.outbox) drains;
          taken = λ told. ap (λ (l : Look). l.taken) look;
        };
        queued = queued_same ct v w (ap (λ (x : View). x.sent) drains) (ap (λ (x : View). x.client) drains);
        queues = inl (same_length v.client.outbox w.client.outbox (ap (λ (x : View). x.client.outbox)
            drains));
        holds = feeds_holds step v w r s must feeds;
      }

  -- what waits for the client was written
  minds_wrote : (p : Pushed) → is_client_fault step ≡ push_failed p → cl ≡ push_again p
      → is_origin_fault step ≡ false → ol ≡ false → s.driven.chain ≡ r.driven.chain → WritesClient ct v w p
      → MindsBody ct ot v w r s
      step cl ol
  minds_wrote p failed again no_origin ready chain writes =
      let origin : w.origin ≡ v.origin = ap (λ (x : View). x.origin) writes.others in
      record {
        client = calls_as v.client.look w.client.look (push_failed p) (push_again p) (is_client_fault step) cl
            failed again writes.client.pushes.calls;
        origin = calls_as v.origin.look w.origin.look false false (is_origin_fault step) ol no_origin ready
            (calls_none v.origin.look w.origin.look (ap (λ (s : LinkSide). s.look) origin));
        reads = inl origin;
        unread = record {
          reads = writes.client.pushes.once.reads;
          held = writes.client.inbox;
          given = λ told.
              (writes.client.pushes.told told).given;
        };
        unwritten = unwritten_same ot v.origin w.origin origin;
        queued = queued_wrote ct v w p writes;
        queues = inl (went_shorter p v.client.outbox w.client.outbox writes.client.pushes.went);
        holds = unless_lacking (HoldsLittle v r.driven.chain → HoldsLittle w s.driven.chain) step
            (holds_kept v w r.driven.chain s.driven.chain (same_length v.origin.inbox w.origin.inbox (ap (λ (s
            : LinkSide). s.inbox)
            origin)) (same_length r.driven.chain.first s.driven.chain.first (ap (λ k. k.first) chain)));
      }

  -- the origin was read
  read_minds : (p : Pulled) → is_origin_fault step ≡ pull_failed p → ol ≡ pull_again p
      → is_client_fault step ≡ false → cl ≡ false → MustReadOn r → v.origin.inbox ≡ [] → ReadsOrigin ot v w p
      → UnlessLacking step (length s.driven.chain.first ≤ length r.driven.chain.first) → MindsBody ct ot v w r
      s step cl ol
  read_minds p failed again no_client ready must none reads shorter =
      let client : w.client ≡ v.client = ap (λ (x : View). x.client) reads.others in
      record {
        client = calls_as v.client.look w.client.look false false (is_client_fault step) cl no_client ready
            (calls_none v.client.look w.client.look (ap (λ (s : LinkSide). s.look) client));
        origin = calls_as v.origin.look w.origin.look (pull_failed p) (pull_again p) (is_origin_fault step) ol
            failed again reads.origin.pulls.pulls.calls;
        reads = inr must;
        unread = unread_same ct v.client w.client client;
        unwritten = record {
          writes = reads.origin.pulls.pulls.once.writes;
          waits = reads.origin.outbox;
          taken = λ told. (reads.origin.pulls.pulls.told told).taken;
        };
        queued = queued_same ct v w (ap (λ (x : View). x.sent) reads.others) client;
        queues = inl (same_length v.client.outbox w.client.outbox (ap (λ (s : LinkSide). s.outbox) client));
        holds = read_holds step shorter;
      }
    where
      by_first : length s.driven.chain.first ≤ length r.driven.chain.first → HoldsLittle v r.driven.chain
          → HoldsLittle w s.driven.chain
      by_first first h = record { held = read_few ot v w p none reads; front = omega (arith, first, h.front) }

      read_holds : (step : BodyStep) → UnlessLacking step (length s.driven.chain.first ≤ length
          r.driven.chain.first)
          → UnlessLacking step (HoldsLittle v r.driven.chain → HoldsLittle w s.driven.chain)
      read_holds S.Lacks first = tt
      read_holds _ first = by_first first

  minds_read : (p : Pulled) → is_origin_fault step ≡ pull_failed p → ol ≡ pull_again p
      → is_client_fault step ≡ false → cl ≡ false → MustReadOn r → v.origin.inbox ≡ [] → s.driven.chain ≡
      r.driven.chain
      → ReadsOrigin ot v w p
      → MindsBody ct ot v w r s step cl ol
  minds_read p failed again no_client ready must none chain reads =
      read_minds p failed again no_client ready must none reads (unless_lacking (length s.driven.chain.first ≤
      length
      r.driven.chain.first) step (same_length r.driven.chain.first s.driven.chain.first (ap (λ k. k.first)
      chain)))

  -- and its end was met, up to which the body goes
  minds_ended : cl ≡ false → ol ≡ is_late step → MustReadOn r → v.origin.inbox ≡ []
      → OnGoes step (s.driven.chain ≡ record r.driven.chain { given = true }) → ReadsOrigin ot v w L.End
      → MindsBody ct ot v w r s step
      cl ol
  minds_ended ready late must none goes reads =
      let calm = calm_goes (s.driven.chain ≡ record r.driven.chain { given = true }) step goes in
      read_minds L.End calm.origin (late ∙ calm.late) calm.client ready must none reads (by_step step goes)
    where
      by_step : (step : BodyStep) → OnGoes step (s.driven.chain ≡ record r.driven.chain { given = true })
          → UnlessLacking step (length s.driven.chain.first ≤ length r.driven.chain.first)
      by_step S.Goes goes = same_length r.driven.chain.first s.driven.chain.first (ap (λ k. k.first) goes)
      by_step S.Lacks goes = tt
      by_step _ goes = absurd goes

-- ---- the steps of the writer, and of the reader

module _ {P : Type 0} (ct ot : Bool) (v w : View) (r s : Relay P) (step : BodyStep) where
  -- each thing that the writer does
  pub writer_rests : IsCalm step → w ≡ v → s.driven.chain ≡ r.driven.chain → WritesLinks ct ot v w r s step
  writer_rests calm same chain = record {
    minds = minds_none ct ot v w r s step (is_late step) false calm
        calm.late refl same chain;
    origin = ap (λ (x : View). x.origin) same;
  }

  pub writer_queued : (text cuts : List ℕ) → IsCalm step → QueuesFew v w → s.driven.chain ≡ r.driven.chain
      → QueuesText text cuts v w → WritesLinks ct ot v w r s step
  writer_queued text cuts calm few chain queued =
      record {
        minds = minds_queued ct ot v w r s step (is_late step) false text cuts calm calm.late refl few
            chain queued;
        origin = queued.origin;
      }

  pub writer_framed : (text cuts : List ℕ) (rest : P → List ℕ → List ℕ) (n : ℕ) → IsCalm step
      → QueuesFew v w → TakesAway rest n r.driven.chain s.driven.chain → QueuesText text cuts v w
      → WritesLinks ct ot v w r s
      step
  writer_framed text cuts rest n calm few takes queued =
      record {
        minds = minds_framed ct ot v w r s step (is_late step) false text cuts rest n calm calm.late
            refl few takes queued;
        origin = queued.origin;
      }

  pub writer_wrote : (p : Pushed) → is_client_fault step ≡ push_failed p → is_late step ≡ push_again p
      → is_origin_fault step ≡ false → s.driven.chain ≡ r.driven.chain → WritesClient ct v w p → WritesLinks
      ct ot v w r s step
  writer_wrote p failed again no_origin chain writes =
      record {
        minds = minds_wrote ct ot v w r s step (is_late step) false p failed again no_origin refl chain
            writes;
        origin = ap (λ (x : View). x.origin) writes.others;
      }

  -- each thing that the reader does
  pub reader_rests : IsCalm step → w ≡ v → s.driven.chain ≡ r.driven.chain → ReadsLinks ct ot v w r s step
  reader_rests calm same chain = record {
    minds = minds_none ct ot v w r s step false (is_late step) calm refl calm.late same chain;
    client = ap (λ (x : View). x.client) same;
    sent = ap (λ (x : View). x.sent) same;
  }

  pub reader_drained : MustReadOn r → FeedsTo step r s v.origin.inbox w.origin.inbox
      → DrainsOrigin v w → ReadsLinks ct ot v w r s step
  reader_drained must feeds drains = record {
    minds = minds_drained ct ot v w r s step false (is_late step) refl refl must feeds drains;
    client = ap (λ (x : View). x.client) drains;
    sent = ap (λ (x : View). x.sent) drains;
  }

  pub reader_read : (p : Pulled) → is_origin_fault step ≡ pull_failed p → is_late step ≡ pull_again p
      → is_client_fault step ≡ false → MustReadOn r → v.origin.inbox ≡ [] → s.driven.chain ≡ r.driven.chain
      → ReadsOrigin ot v w p
      → ReadsLinks ct ot v w r s step
  reader_read p failed again no_client must none chain reads = record {
    minds = minds_read ct ot v w r s step false (is_late step) p failed again no_client refl must none chain
        reads;
    client = ap (λ (x : View). x.client) reads.others;
    sent = ap (λ (x : View). x.sent) reads.others;
  }

  pub reader_ended : MustReadOn r → v.origin.inbox ≡ [] → OnGoes step (s.driven.chain ≡ record r.driven.chain
      { given = true })
      → ReadsOrigin ot v w L.End → ReadsLinks ct ot v w r s step
  reader_ended must none goes reads = record {
    minds = minds_ended ct ot v w r s step false (is_late step) refl refl must none goes reads;
    client = ap (λ (x : View). x.client) reads.others;
    sent = ap (λ (x : View). x.sent) reads.others;
  }

-- ---- the ends are roused behind a step

-- the same links were called, and the same fault is named
minds_as : {P : Type 0} (ct ot : Bool) (v w : View) (r q s : Relay P) (step result : BodyStep) (cl ol : Bool)
    → is_client_fault result ≡ is_client_fault step → is_origin_fault result ≡ is_origin_fault step
    → UnlessLacking result (HoldsLittle v r.driven.chain → HoldsLittle w s.driven.chain)
    → MindsBody ct ot v w r q step cl ol → MindsBody ct ot v w r s result cl ol
minds_as ct ot v w r q s step result cl ol client origin holds h = record {
  client = subst (λ f. Calls v.client.look w.client.look f cl) (sym client) h.client;
  origin = subst (λ f. Calls v.origin.look w.origin.look f ol) (sym origin) h.origin;
  reads = h.reads;
  unread = h.unread;
  unwritten = h.unwritten;
  queued = h.queued;
  queues = h.queues;
  holds = holds;
}

-- so what a step minds is minded by what it is settled as
minds_settled : {P : Type 0} (ct ot : Bool) (v w : View) (r q s : Relay P) (step result : BodyStep)
    (cl ol : Bool) → SettledAs step result → s.driven ≡ q.driven → MindsBody ct ot v w r q step cl ol
    → MindsBody ct ot v w r s result cl ol
minds_settled {P} ct ot v w r q s step result cl ol settled kept h =
    settled_has (λ x. MindsBody ct ot v w r s x cl ol)
    (λ m. minds_as ct ot v w r s s S.Waits S.Goes cl ol refl refl m.holds m)
    (λ m. minds_as ct ot v w r s s S.Goes S.Lacks cl ol refl refl tt m) step result settled
    (minds_as ct ot v w r q s step step cl ol refl refl
    (subst (λ d. UnlessLacking step (HoldsLittle v r.driven.chain → HoldsLittle w d.chain)) (sym kept)
    h.holds) h)

-- whether the reader is roused is nothing to the links
minds_reader : {P : Type 0} (ct ot : Bool) (v w : View) (r s : Relay P) (x : Option StageContinuation)
    (step : BodyStep) (cl ol : Bool) → MindsBody ct ot v w (record r { reader = x }) s step cl ol
    → MindsBody ct ot v w r s step cl ol
minds_reader ct ot v w r s x step cl ol h = record {
  client = h.client;
  origin = h.origin;
  reads = h.reads;
  unread = h.unread;
  unwritten = h.unwritten;
  queued = h.queued;
  queues = h.queues;
  holds = h.holds;
}

-- what was not known cannot be forgotten
pub short_none : {P : Type 0} (r s : Relay P) → r.short ≡ None → KeepsShort r s
short_none r s none why is = absurd (let wrong : ◌≡◌ {A = Option Short} None (Some why) = sym none ∙ is in cc)

-- ---- the events of a body

pub links_quiet : {P : Type 0} (ct ot : Bool) (v : View) (t : Option StageContinuation) (r : Relay P)
    (a : Context) → HandlesLinks ct ot v v t r r S.Goes a a
links_quiet ct ot v t r a = record {
  client_late = false;
  origin_late = false;
  minds = minds_none ct ot v v r r S.Goes false false
      (record { client = refl; origin = refl; late = refl }) refl refl refl refl;
  stays = λ why is. is;
  due = λ named. only_none _ a;
}

-- one of the writer
pub links_write : {P : Type 0} (ct ot : Bool) (v w : View) (step result : BodyStep)
    (t m : Option StageContinuation) (r q s : Relay P) (a c b : Context)
    → WritesLinks ct ot v w r q step → SettledAs step result → s.driven ≡ q.driven → s.short ≡ q.short
    → StepsChain step 1 r.driven q.driven a c → q ≡ record r { driven = q.driven } → m ≡ unroused t
    → AddsSome 2 c b
    → OnlyOfEnds (pause_if (is_late step) RETRY_AFTER) (pause_if (is_late step) 0) m q.reader c b
    → HandlesLinks ct ot v w t r s result a b
links_write ct ot v w step result t m r q s a c b links settled kept short steps same handled adds ends =
    record {
      client_late = is_late step;
      origin_late = false;
      minds = minds_settled ct ot v w r q s step result (is_late step)
          false settled kept links.minds;
      stays = λ why is. short ∙ ap (λ x. x.short) same ∙ is;
      due = λ named. subst (λ n. OnlyOfBody (pause_if (is_late step) RETRY_AFTER) n a b) (no_pause (is_late step))
          (in_time (pause_if (is_late step) RETRY_AFTER) (pause_if (is_late step) 0) m q.reader a c b
          steps.adds.grows.moment adds.keeps (steps.only FIRST named.stages)
          (named_later a c MAIN (unroused t) m steps.adds.keeps handled (named_unroused a.roles MAIN t
          named.of_main))
          (named_later a c READER r.reader q.reader steps.adds.keeps (ap (λ x. x.reader) same) named.of_reader)
          ends);
    }

-- one of the reader
pub links_read : {P : Type 0} (ct ot : Bool) (v w : View) (step result : BodyStep)
    (t x : Option StageContinuation) (r q s : Relay P) (a c b : Context)
    → ReadsLinks ct ot v w (record r { reader = x }) q step → SettledAs step result → s.driven ≡ q.driven
    → s.short ≡ q.short → KeepsShort r q → StepsChain step 2 r.driven q.driven a c → q.reader ≡ unroused
    r.reader → AddsSome 2 c b
    → OnlyOfEnds (pause_if (is_late step) 0) (pause_if (is_late step) RETRY_AFTER) t q.reader c b
    → HandlesLinks ct ot v w t r s result a b
links_read ct ot v w step result t x r q s a c b links settled kept short stays steps handled adds ends =
    record {
      client_late = false;
      origin_late = is_late step;
      minds = minds_reader ct ot v w r s x result false (is_late step)
          (minds_settled ct ot v w (record r { reader = x }) q s step result false (is_late step) settled kept
          links.minds);
      stays = λ why is. short ∙ stays why is;
      due = λ named. subst (λ n. OnlyOfBody n (pause_if (is_late step) RETRY_AFTER) a b) (no_pause (is_late step))
          (in_time (pause_if (is_late step) 0) (pause_if (is_late step) RETRY_AFTER) t q.reader a c b
          steps.adds.grows.moment adds.keeps (steps.only FIRST named.stages)
          (named_later a c MAIN t t steps.adds.keeps refl named.of_main)
          (named_later a c READER (unroused r.reader) q.reader steps.adds.keeps handled (named_unroused a.roles
          READER r.reader named.of_reader)) ends);
    }

-- one of a stage, or of nobody
pub links_stage : {P : Type 0} (ct ot : Bool) (rest : P → List ℕ → List ℕ) (pause : P → ℕ) (role : ℕ)
    (event : Event) (f : Result ⊤ SetFault) (v : View) (step result : BodyStep) (t : Option StageContinuation)
    (r q s : Relay P) (a c b : Context) → step ≡ step_after f → SettledAs step result → s.driven ≡ q.driven
    → s.short ≡ r.short → PumpsOnce rest r.driven.chain q.driven.chain → c.moment ≡ a.moment
    → ((at : ℕ) → role ≡ FIRST + at → IsStage r.driven.chain r.driven.table.items at → Acts rest pause
    at event r.driven q.driven a c) → (IsOfNoStage FIRST role r.driven → IsSame a c)
    → KeepsOthers FIRST r.driven.table.items a c → q.reader ≡ r.reader → AddsSome 2 c b
    → OnlyOfEnds (pause_if (is_late step) 0) (pause_if (is_late step) 0) t q.reader c b
    → HandlesLinks ct ot v v t r s result a b
links_stage ct ot rest pause role event f v step result t r q s a c b is settled kept short once moment acts
    other others same adds ends =
    let calm = calm_after f step is in
    record {
      client_late = false;
      origin_late = false;
      minds = minds_settled ct ot v v r q s step result false false
          settled kept
          (still_minds ct ot v v r q step false false calm
          refl refl refl (pumped_first rest r.driven.chain q.driven.chain once));
      stays = λ why is. short ∙ is;
      due = λ named. subst (λ n. OnlyOfBody n n a b) (no_pause (is_late step))
          (in_time (pause_if (is_late step) 0) (pause_if (is_late step) 0) t q.reader a c b moment adds.keeps
          (stage_only rest pause role event r q a c acts other named.stages)
          (named_others r.driven.table.items MAIN t a c others named.stages (omega arith) named.of_main)
          (named_others r.driven.table.items READER q.reader a c others named.stages (omega arith)
          (subst (IsNamedIf a.roles READER) (sym same) named.of_reader)) ends);
    }

-- ---- the last writes

sends_by : (ct : Bool) (end : TxnEnd) (v w : View) (p : Pushed) (step : BodyStep) → WritesClient ct v w p
    → RestLeads end v.client w.client step → SendsRest ct end v w step
sends_by ct end v w p step writes leads = record {
  leads = leads;
  unread = record {
    reads = writes.client.pushes.once.reads;
    held = writes.client.inbox;
    given = λ told.
        (writes.client.pushes.told told).given;
  };
  others = writes.others;
}

-- each answer of the write
pub sends_some : (ct : Bool) (end : TxnEnd) (v w : View) (n : ℕ) → WritesClient ct v w (V.Some n)
    → SendsRest ct end v w S.Goes
sends_some ct end v w n writes = sends_by ct end v w (V.Some n) S.Goes writes writes.client.pushes.calls

pub sends_all : (ct : Bool) (end : TxnEnd) (v w : View) → WritesClient ct v w V.Nothing
    → SendsRest ct end v w (S.Closes end)
sends_all ct end v w writes =
    sends_by ct end v w V.Nothing (S.Closes end) writes (inl (
      refl,
      writes.client.pushes.went.1
          ∙ writes.client.pushes.went.0,
      writes.client.pushes.calls,
    ))

pub sends_late : (ct : Bool) (end : TxnEnd) (v w : View) → WritesClient ct v w V.Again
    → SendsRest ct end v w S.Waits
sends_late ct end v w writes = sends_by ct end v w V.Again S.Waits writes writes.client.pushes.calls

pub sends_left : (ct : Bool) (end : TxnEnd) (v w : View) → WritesClient ct v w V.Failed
    → SendsRest ct end v w (S.Closes E.ClientFault)
sends_left ct end v w writes = sends_by ct end v w V.Failed (S.Closes E.ClientFault) writes
    (inr (refl, writes.client.pushes.calls))

pub sends_lacks : (ct : Bool) (end : TxnEnd) (v w : View) → WritesClient ct v w V.NoMemory
    → SendsRest ct end v w S.Lacks
sends_lacks ct end v w writes = sends_by ct end v w V.NoMemory S.Lacks writes writes.client.pushes.calls
