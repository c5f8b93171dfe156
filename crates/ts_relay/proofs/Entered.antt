-- How a body begins to be passed on: what was made of it, and where its first steps lead.
use Rattle.std.proofs.Common.{◌≡◌, ℕ, ◌+◌, ◌≤◌, inl, inr, List, [], ◌∷◌, ◌++◌, map, length, Bool, true, false}
use Rattle.std.proofs.Common.{Option, Some, None, refl, sym, ap, subst, ◌∙◌, arith}
use Rattle.std.specs.Prelude.{⊤}
use Rattle.std.proofs.lemmas.Bool.{false≢true, true≢false}
use Rattle.std.proofs.lemmas.List.{append-nil}
use Rattle.std.proofs.lemmas.List.Elements.{All-nil}
use Rattle.ts_config.specs.declared.setup.Setup.{Setup}
use Rattle.ts_config.specs.Bodies.{compose_lines, so_far}
use Rattle.ts_hooks.specs.declared.txn_end.TxnEnd.TheVariants as E
use Rattle.ts_journal.specs.declared.entry.TheConstants.{GREATEST}
use Rattle.ts_group.specs.Changes.{KeepsKeys, SameEvents}
use Rattle.ts_group.specs.Context.{Context, IsOrderly, role_at}
use Rattle.ts_group.specs.Entries.{Grows}
use Rattle.ts_link.specs.Link.{Look, all_of}
use Rattle.ts_transform.specs.Driving.{ActsWithin, BeginsBeside, IsOfStageIf}
use Rattle.ts_transform.specs.declared.continuation.StageContinuation.{StageContinuation}
use Rattle.ts_transform.proofs.Carrying.{made_fresh}
use Rattle.ts_transform.proofs.Kept.{acts_none, acts_then, kept_if}
use Rattle.ts_transform.proofs.Seating.{seated_as, seated_behind, seated_then}
use Rattle.ts_transform.specs.Seats.{KeepsSeated}
use Rattle.ts_transform.specs.Driven.{HasBegun, IsDrivenWhile}
use Rattle.ts_transform.specs.Loss.{IsCauseOf}
use Rattle.ts_transform.specs.declared.loss.Loss.{Loss}
use Rattle.ts_transform.specs.declared.loss.Loss.TheVariants as L
use Rattle.ts_transform.specs.Flow.{ChainState, Composes, EndsInOrder, compose, flow, fresh_stage}
use Rattle.ts_transform.specs.Flow.{soon_compose, soon_flow}
use Rattle.ts_transform.specs.declared.transform.Transform as transform
use Rattle.ts_transform.specs.declared.driven.DrivenChain.{DrivenChain}
use Rattle.ts_transform.proofs.Starting.{made_if}
use Rattle.ts_wire.specs.declared.framing.Framing.{Framing}
use Rattle.ts_wire.specs.declared.heads.RequestHead.{RequestHead}
use Rattle.ts_wire.specs.declared.heads.ResponseHead.{ResponseHead}
use Rattle.ts_wire.specs.declared.body.BodyState.{BodyState}
use Rattle.ts_wire.specs.declared.body.BodyState.TheVariants as B
use Rattle.ts_wire.specs.declared.frames.Mode.{Mode}
use Rattle.ts_wire.specs.Frames.{IsPiece}
use Rattle.ts_wire.specs.Place.{IsFed, Place, state_of}
use Rattle.ts_block.specs.Relayed.{framing_of, if_body, mode_of}
use Rattle.ts_block.specs.Block.{body_lines, framing_for, lines_for, relayed_head}
use Rattle.ts_phases.specs.View.{LinkSide, View}
use Rattle.ts_phases.specs.Facts.{Relays}
use Rattle.ts_phases.specs.Facts as facts
use Rattle.ts_phases.specs.Ends.{EndFact, IsFrontThrough}
use Rattle.ts_phases.specs.Ends as ends
use Rattle.ts_relay.specs.Feeding.{OnGoes}
use Rattle.ts_relay.specs.Finishing.{LeadsBody}
use Rattle.ts_phases.specs.RelayMoves.{QueuesHead}
use Rattle.ts_relay.specs.Relaying.{DrivesOn, IsShort, ReadsBody, RelaysBody, StepsChain, set_by_stage}
use Rattle.ts_passing.specs.Sends.{Sends}
use Rattle.ts_relay.specs.Duties.{relay_seats}
use Rattle.ts_relay.specs.Entering.{BeginsChain, BeginsRelay, BeginsRunning, EntersBody, GetsStart}
use Rattle.ts_relay.specs.Entering.{IsFreshRelay, IsUnbegun, CallsNeither}
use Rattle.ts_relay.specs.declared.last_writes.BodyStep.{BodyStep}
use Rattle.ts_relay.specs.declared.last_writes.BodyStep.TheVariants as S
use Rattle.ts_phases.specs.declared.phase.Request.{Request}
use Rattle.ts_relay.specs.declared.relay.Relay.{Relay}
use Rattle.ts_relay.specs.declared.relay.Short.{Short}
use Rattle.ts_relay.specs.declared.relay.TheConstants.{FIRST, READER}
use Rattle.ts_relay.proofs.Chaining.{grows_next}
use Rattle.ts_passing.proofs.Early.{behind_none, sends_closed}
use Rattle.ts_relay.proofs.Relaying.{front_by}
use Rattle.ts_phases.proofs.Responding.{relays_any}
use Rattle.ts_relay.proofs.BodyTimes.{made_acts}

-- what passes a body on is fresh where its chain was just made
pub fresh_relay : {P L : Type 0} (stage : transform.Ghosts P L) (setup : Setup) (q : RequestHead)
    (h : ResponseHead) (d : DrivenChain P) (place : Place) (pauses : Bool) (ps : List P) (framing : Framing)
    → (d.table.items ≡ []) × (d.running ≡ false)
    → d.chain ≡ record { first = []; stages = map (fresh_stage stage.soon stage.pause) ps; given = false }
    → Composes stage.rest stage.soon ps d.chain
    → ((z : List ℕ) → compose stage.rest ps z ≡ compose_lines (if_body framing (lines_for setup h)) z)
    → ((z : List ℕ) → soon_compose stage.soon ps z ≡ so_far (if_body framing (lines_for setup h)) z)
    → framing ≡ framing_of q h → IsFed framing [] [] place
    → IsFreshRelay stage setup q h (record {
      driven = d;
      body = place;
      reader = None;
      short = None;
      pauses = pauses;
      fed = 0;
    })
fresh_relay stage setup q h d place pauses ps framing none made flows composes soon is fed = record {
  sends = subst (λ (f : Framing). Sends stage.rest stage.soon (if_body f (lines_for setup h)) [] [] d.chain)
      is
      (record {
        flows = λ z last. flows.flow z ∙ composes z;
        so = λ going z. sym (soon z) ∙ sym (flows.soon_too z) ∙ sym (behind_none (soon_flow stage.soon d.chain
            z));
        settled = flows.settled;
      });
  fed = subst (λ (f : Framing). IsFed f [] [] place) is fed;
  unbegun = record {
    no_stage = none.0;
    stopped = none.1;
    no_reader = refl;
    going = ap (λ (k : ChainState _). k.given) made;
    goes_on = refl;
    in_order = (made_fresh stage.soon stage.pause ps d.chain made).1;
  };
}

-- ---- the chain is started

-- a chain that was started runs, or tells why it does not
begun_none : {P : Type 0} (d : DrivenChain P) (now : Context) → HasBegun d now → d.lost ≡ None
    → d.running ≡ true
begun_none d now (inl (runs, none, live)) lost = runs
begun_none d now (inr (loss, stopped, is, cause)) lost = absurd (let wrong : ◌≡◌ {A = Option Loss} (Some loss)
    None = sym is ∙ lost in cc)

begun_spent : {P : Type 0} (d : DrivenChain P) (now : Context) → HasBegun d now → d.lost ≡ Some L.Spent
    → GREATEST ≤ now.log.state.next
begun_spent d now (inl (runs, none, live)) lost = absurd (let wrong : ◌≡◌ {A = Option Loss} None
    (Some L.Spent) = sym none ∙ lost in cc)
begun_spent d now (inr (loss, stopped, is, cause)) lost =
    let both : ◌≡◌ {A = Option Loss} (Some loss) (Some L.Spent) = sym is ∙ lost in
    let same : loss ≡ L.Spent = cc in
    subst (λ (l : Loss). IsCauseOf ⊤ l now) same cause

module _ {P : Type 0} (most : ℕ) (e : DrivenChain P) (a b : Context) (within : ActsWithin most a b)
    (rest : BeginsBeside e.table.items a b) (driven : IsDrivenWhile FIRST e b.log.state.pending b.roles)
    (begun : HasBegun e b) where
  -- nothing was lost, or the event numbers were used up, or memory lacked
  pub starts_running : e.lost ≡ None → BeginsChain S.Goes most e a b
  starts_running none = record {
    within = within;
    made = rest.made.of_stage;
    driven = driven;
    runs = inl
        (begun_none e b begun none);
    seated = rest.seated;
  }

  pub starts_spent : e.lost ≡ Some L.Spent → BeginsChain S.Goes most e a b
  starts_spent spent = record {
    within = within;
    made = rest.made.of_stage;
    driven = driven;
    runs = inr
        (begun_spent e b begun spent);
    seated = rest.seated;
  }

  pub starts_lacks : BeginsChain S.Lacks most e a b
  starts_lacks = record {
    within = within;
    made = rest.made.of_stage;
    driven = driven;
    runs = tt;
    seated = rest.seated;
  }

-- ---- and the reader

-- a new continuation has its role, and no event
new_reader : (b : Context) (role : ℕ) (t : StageContinuation) → role_at t.key.index b.roles ≡ Some role
    → t.roused ≡ false → IsOfStageIf b.log.state.pending b.roles role (Some t)
new_reader b role t named still = record {
  named = named;
  event = λ roused. absurd (true≢false (sym roused ∙ still));
}

module _ {P : Type 0} (a b c : Context) (t : StageContinuation) (grows : Grows a b) (turn : b.log.state.held
    ≡ true) (events : SameEvents a.log.state b.log.state)
    (keys : KeepsKeys a.log.state b.log.state a.roles b.roles) (named : role_at t.key.index b.roles ≡ Some
    READER) (still : t.roused ≡ false) where
  reader_kept : (step : BodyStep) (most : ℕ) (d : DrivenChain P) → BeginsChain step most d b c
      → IsOfStageIf c.log.state.pending c.roles READER (Some t)
  reader_kept step most d chain = chain.made READER (Some t) (new_reader b READER t named still)

  -- whatever was set then is of a stage
  reader_seated : (step : BodyStep) (most : ℕ) (d : DrivenChain P) → BeginsChain step most d b c
      → KeepsSeated [] (Some t ∷ d.table.items) a c
  reader_seated step most d chain =
      seated_then [] (Some t ∷ []) (Some t ∷ d.table.items) a b c (seated_as [] (Some t ∷ []) a b
      events.pending (λ key none. absurd none)) (seated_behind (Some t) [] d.table.items b c chain.seated)

  -- where the chain could not be started
  pub begins_unstarted : (step : BodyStep) (stages : ℕ) (r : Relay P) → r.reader ≡ Some t
      → EndsInOrder true r.driven.chain.stages → r.short ≡ None
      → BeginsChain step stages r.driven b c → BeginsRelay S.Lacks stages r a c
  begins_unstarted step stages r is ordered comes chain = record {
    chain = record {
      within = acts_then 0 stages (stages + set_by_stage) (omega arith)
          (made_acts a b 0 grows turn events) chain.within;
      made = λ role s h. chain.made role s (made_if a b events keys role s h);
      driven = chain.driven;
      runs = tt;
      seated = seated_then [] [] r.driven.table.items a b c (seated_as [] [] a b events.pending
          (λ key none. none)) chain.seated;
    };
    of_reader = subst (IsOfStageIf c.log.state.pending c.roles READER) (sym is)
        (reader_kept step stages r.driven chain);
    seated = subst (λ x. KeepsSeated [] (x ∷ r.driven.table.items) a c) (sym is)
        (reader_seated step stages r.driven chain);
    ordered = ordered;
    goes_on = comes;
  }

  -- the stages run on behind the first step
  runs_on : (step : BodyStep) (d e : DrivenChain P) (f : Context) → c.log.state.next ≤ f.log.state.next
      → BeginsRunning S.Goes d c → DrivesOn step d e f → (X : Type 0) → OnGoes step X
      → BeginsRunning step e f
  runs_on S.Goes d e f later (inl runs) (inl same) X gets = inl (same ∙ runs)
  runs_on S.Goes d e f later (inl runs) (inr spent) X gets = inr spent
  runs_on S.Goes d e f later (inr spent) on X gets = inr (omega (arith, spent, later))
  runs_on S.Lacks d e f later runs on X gets = tt
  runs_on _ d e f later runs on X gets = absurd gets

  -- and then its first step was made
  pub begins_all : (step : BodyStep) (stages : ℕ) (d : DrivenChain P) (r : Relay P) (f : Context) → IsOrderly
      c
      → r.reader ≡ Some t → EndsInOrder true d.chain.stages → r.short ≡ None
      → BeginsChain S.Goes stages d b c
      → StepsChain step 1 d r.driven c f → (X : Type 0) → OnGoes step X → BeginsRelay step stages r a f
  begins_all step stages d r f orderly is ordered comes chain steps X gets = record {
    chain = record {
      within = acts_then stages 1 (stages + set_by_stage) (omega arith) (acts_then 0 stages stages (omega
          arith)
          (made_acts a b 0 grows turn events) chain.within)
          (record {
            grows = steps.adds.grows;
            turn = steps.adds.keeps.turn;
            plain = steps.adds.keeps.plain;
            few = steps.adds.few;
          });
      made = λ role s h. kept_if c f steps.adds.keeps role s (chain.made role s (made_if a b events keys role
          s h));
      driven = steps.driven FIRST chain.driven;
      runs = runs_on step d r.driven f (grows_next c f orderly steps.adds.grows) chain.runs steps.on X gets;
      seated = seated_then [] d.table.items r.driven.table.items a c f
          (seated_then [] [] d.table.items a b c (seated_as [] [] a b events.pending (λ key none. none))
          chain.seated) steps.seats.seated;
    };
    of_reader = subst (IsOfStageIf f.log.state.pending f.roles READER) (sym is) (kept_if c f steps.adds.keeps
        READER (Some t) (reader_kept S.Goes stages d chain));
    seated = subst (λ x. KeepsSeated [] (x ∷ r.driven.table.items) a f) (sym is)
        (seated_then [] (Some t ∷ d.table.items) (Some t ∷ r.driven.table.items) a c f (reader_seated S.Goes
        stages d chain) (seated_behind (Some t) d.table.items r.driven.table.items c f steps.seats.seated));
    ordered = steps.ordered ordered;
    goes_on = comes;
  }

-- where no continuation could be made for the reader
pub begins_none : {P : Type 0} (stages : ℕ) (r : Relay P) (a b : Context) → Grows a b → b.log.state.held ≡
    true
    → SameEvents a.log.state b.log.state → KeepsKeys a.log.state b.log.state a.roles b.roles → IsUnbegun r
    → BeginsRelay S.Lacks stages r a b
begins_none stages r a b grows turn events keys fresh = record {
  chain = record {
    within = acts_then 0 (stages + set_by_stage) (stages + set_by_stage) (omega arith)
        (made_acts a b 0 grows turn events) (acts_none (stages + set_by_stage) b turn);
    made = λ role s h. made_if a b events keys role s h;
    driven = λ runs. absurd (false≢true (sym fresh.stopped ∙ runs));
    runs = tt;
    seated = seated_as [] r.driven.table.items a b events.pending (λ key none. absurd none);
  };
  of_reader = subst (IsOfStageIf b.log.state.pending b.roles READER) (sym fresh.no_reader) tt;
  seated = seated_as [] (relay_seats r) a b events.pending (λ key none. absurd none);
  ordered = fresh.in_order;
  goes_on = fresh.goes_on;
}

-- ---- the facts

module _ (setup : Setup) (refuses : Type 0) where
  -- the client's head is queued
  pub queues_head : {P L : Type 0} (stage : transform.Ghosts P L) (v w : View) (q : Request) (h :
      ResponseHead)
      (r : Relay P) (text : List ℕ) (mode : Mode) → Relays setup refuses v q h
      → IsFreshRelay stage setup q.head h r → text ≡ relayed_head setup q.head h
      → mode ≡ mode_of (framing_for setup q.head h) → QueuesHead text mode v w
      → EntersBody setup refuses stage w r.driven.chain r.body
  queues_head stage v w q h r text mode f fresh text_is mode_is queued =
      let look : w.client.look ≡ v.client.look = ap (λ (s : LinkSide). s.look) queued.client in
      record {
        q = q;
        h = h;
        read = [];
        reads = subst (λ (c : List ℕ). ReadsBody setup refuses q h c w.dialed w.origin r.body [])
            (sym (ap all_of look))
            (subst (λ (d : Bool). ReadsBody setup refuses q h (all_of v.client.look) d w.origin r.body [])
            (sym queued.dialed)
            (subst (λ (o : LinkSide). ReadsBody setup refuses q h (all_of v.client.look) v.dialed o r.body [])
            (sym queued.origin)
            (record { served = f.served; good = f.good; fed = []; reads = f.reads; is_fed = fresh.fed })));
        going = fresh.unbegun.going;
        sends = record {
          count = subst (λ (s : LinkSide). s.base ≤ s.look.faults) (sym queued.client) f.waits.count;
          some = λ e. f.waits.some (sym (ap (λ (l : Look). l.given) look) ∙ e);
          mode = queued.mode_is ∙ mode_is;
          body = [];
          text = record {
            pieces = [];
            each = All-nil IsPiece;
            text = ap (λ (s : LinkSide). s.look.taken ++ s.outbox) queued.client
                ∙ (λ i. f.waits.quiet.no_taken i ++ (f.waits.quiet.no_waits i ++ text_is i))
                ∙ sym (append-nil (relayed_head setup q.head h));
            head_is = queued.head_is ∙ ap length text_is;
            cuts = queued.no_cuts;
            body_is = refl;
          };
          sends = fresh.sends;
        };
      }

  -- it may be dropped from then on
  module _ {P L : Type 0} (stage : transform.Ghosts P L) where
    enters_any : (v : View) (c : ChainState P) (place : Place) → EntersBody setup refuses stage v c place
        → EndFact setup refuses v E.NoMemory
    enters_any v c place e = record {
      any = record {
        took = facts.request e.q e.reads.served.goes e.reads.served.carries;
        text = ends.relayed false false e.sends.body (record {
          q = e.q;
          h = e.h;
          served = e.reads.served;
          good = e.reads.good;
          fed = e.reads.fed;
          read = e.read;
          place = place;
          reads = e.reads.reads;
          is_fed = e.reads.is_fed;
          over = λ done. absurd (false≢true done);
          mode = e.sends.mode;
          text = e.sends.text;
          front = subst (λ (b : Bool). IsFrontThrough (body_lines setup e.q.head e.h) b e.read e.sends.body)
              e.going
              (front_by c.given (body_lines setup e.q.head e.h) e.read e.sends.body (flow stage.rest c)
              e.sends.sends.flows);
          whole = λ fin. absurd (false≢true fin);
        });
      };
      by = tt;
    }

    -- the chain got nothing, or its end
    enters_all : (v : View) (c d : ChainState P) (place : Place) (short : Option Short) (state : BodyState)
        → state_of place.phase ≡ state → short ≡ None → GetsStart state c d
        → EntersBody setup refuses stage v c place → RelaysBody setup refuses stage v d place short
    enters_all v c d place short B.Unfinished is comes gets e =
        subst (λ (k : ChainState _). RelaysBody setup refuses stage v k place short) (sym gets) (record {
          q = e.q;
          h = e.h;
          read = e.read;
          reads = e.reads;
          gives_end = record {
            ended = λ given. absurd (true≢false (sym given ∙ e.going));
            goes_on = λ going. subst (IsShort (framing_of e.q.head e.h) v.origin place) (sym comes) is;
          };
          sends = e.sends;
        })
    enters_all v c d place short B.Ended is comes gets e =
        subst (λ (k : ChainState _). RelaysBody setup refuses stage v k place short) (sym gets) (record {
          q = e.q;
          h = e.h;
          read = e.read;
          reads = e.reads;
          gives_end = record {
            ended = λ given. (comes, ends.told is);
            goes_on = λ going. absurd (true≢false going);
          };
          sends = record {
            count = e.sends.count;
            some = e.sends.some;
            mode = e.sends.mode;
            body = e.sends.body;
            text = e.sends.text;
            sends = sends_closed stage.rest stage.soon (body_lines setup e.q.head e.h) e.read e.sends.body c
                e.going
                e.sends.sends;
          };
        })
    enters_all v c d place short B.Bad is comes gets e = absurd gets

    leads_in : (v : View) (c d : ChainState P) (place : Place) (short : Option Short) (step : BodyStep)
        → short ≡ None → OnGoes step (GetsStart (state_of place.phase) c d)
        → EntersBody setup refuses stage v c place
        → LeadsBody setup refuses (RelaysBody setup refuses stage v d place short) v step
    leads_in v c d place short S.Goes comes gets e =
        enters_all v c d place short (state_of place.phase) refl comes gets e
    leads_in v c d place short S.Lacks comes gets e = enters_any v c place e
    leads_in v c d place short _ comes gets e = absurd gets

    -- where the first steps lead
    pub enters_lead : (v : View) (c d : ChainState P) (place next : Place) (short : Option Short)
        (step : BodyStep) → next ≡ place → short ≡ None → OnGoes step (GetsStart (state_of place.phase) c d)
        → EntersBody setup refuses stage v c place
        → LeadsBody setup refuses (RelaysBody setup refuses stage v d next short) v step
    enters_lead v c d place next short step same comes gets e =
        subst (λ (p : Place). LeadsBody setup refuses (RelaysBody setup refuses stage v d p short) v step)
        (sym same)
        (leads_in v c d place short step comes gets e)

  -- nothing was queued
  pub unqueued : (v w : View) (q : Request) (h : ResponseHead) → w ≡ v → Relays setup refuses v q h
      → EndFact setup refuses w E.NoMemory
  unqueued v w q h same f = subst (λ (x : View). EndFact setup refuses x E.NoMemory) (sym same)
      (record { any = relays_any setup refuses v q h f; by = tt })

-- no call was made
pub quiet_none : (v w : View) → w ≡ v → CallsNeither v w
quiet_none v w same = record {
  client = ap (λ (x : View). x.client.look) same;
  held = ap (λ (x : View).
      x.client.inbox) same;
  origin = ap (λ (x : View). x.origin) same;
}

pub quiet_head : (text : List ℕ) (mode : Mode) (v w : View) → QueuesHead text mode v w → CallsNeither v w
quiet_head text mode v w queued = record {
  client = ap (λ (s : LinkSide). s.look) queued.client;
  held = ap (λ (s : LinkSide). s.inbox) queued.client;
  origin = queued.origin;
}
