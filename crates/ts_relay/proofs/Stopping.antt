-- A body that is read on: it goes on, or stops short of its end, or the origin's link fails.
use Rattle.std.proofs.Common.{◌≡◌, ℕ, List, [], ◌++◌, Bool, true, false, refl, sym, ap, subst, ◌∙◌, Option}
use Rattle.std.proofs.Common.{Some, None, append_assoc}
use Rattle.std.proofs.lemmas.Bool.{true≢false}
use Rattle.std.proofs.lemmas.List.{append-nil}
use Rattle.ts_config.specs.declared.setup.Setup.{Setup}
use Rattle.ts_config.specs.declared.setup.TransformLine.{TransformLine}
use Rattle.ts_hooks.specs.declared.txn_end.TxnEnd.TheVariants as E
use Rattle.ts_link.specs.Link.{all_of}
use Rattle.ts_transform.specs.Flow.{ChainState}
use Rattle.ts_transform.specs.declared.transform.Transform as transform
use Rattle.ts_vconn.specs.declared.moves.Pulled.TheVariants as U
use Rattle.ts_wire.specs.declared.heads.ResponseHead.{ResponseHead}
use Rattle.ts_wire.specs.declared.body.BodyState.{BodyState}
use Rattle.ts_wire.specs.declared.body.BodyState.TheVariants as B
use Rattle.ts_wire.specs.Place.{GoesOn, Place, state_of}
use Rattle.ts_block.specs.Relayed.{framing_of}
use Rattle.ts_block.specs.Heads.{FinalHead}
use Rattle.ts_block.specs.Block.{body_lines}
use Rattle.ts_phases.specs.View.{LinkSide, View}
use Rattle.ts_phases.specs.RelayMoves.{ReadsOrigin}
use Rattle.ts_phases.specs.Facts as facts
use Rattle.ts_phases.specs.Ends.{EndFact}
use Rattle.ts_phases.specs.Ends as ends
use Rattle.ts_relay.specs.Feeding.{DrainsOrigin, FeedsBody, FeedsTo, OnGoes, short_if}
use Rattle.ts_passing.specs.Feeding.{EndsHere, GetsPart}
use Rattle.ts_relay.specs.Finishing.{IsFinishing, LeadsBody}
use Rattle.ts_relay.specs.Relaying.{GivesEnd, IsShort, ReadsBody, RelaysBody}
use Rattle.ts_passing.specs.Sends.{Sends}
use Rattle.ts_relay.specs.declared.last_writes.BodyStep.{BodyStep}
use Rattle.ts_relay.specs.declared.last_writes.BodyStep.TheVariants as S
use Rattle.ts_relay.specs.declared.relay.Relay.{Relay}
use Rattle.ts_relay.specs.declared.relay.Short.{Short}
use Rattle.ts_relay.specs.declared.relay.Short.TheVariants as K
use Rattle.ts_phases.specs.declared.phase.Request.{Request}
use Rattle.ts_phases.proofs.OneSide.{read_failed}
use Rattle.ts_phases.proofs.Responding.{served_as, used_takes_nothing}
use Rattle.ts_passing.proofs.Early.{sends_closed, sends_given}
use Rattle.ts_relay.proofs.Relaying.{reads_on, relays_lacks, relays_relayed}

-- what was sent, once the chain got a part of the body
gets_sends : {P L : Type 0} (stage : transform.Ghosts P L) (lines : List TransformLine) (read body part : List
    ℕ)
    (state : BodyState) (c d : ChainState P) → c.given ≡ false → GetsPart state part c d
    → Sends stage.rest stage.soon lines read body c → Sends stage.rest stage.soon lines (read ++ part) body d
gets_sends stage lines read body part B.Unfinished c d going gets s =
    subst (Sends stage.rest stage.soon lines (read ++ part) body) (sym gets)
    (sends_given stage.rest stage.soon lines read body part c c.given going s)
gets_sends stage lines read body part B.Ended c d going gets s =
    subst (Sends stage.rest stage.soon lines (read ++ part) body) (sym gets)
    (sends_given stage.rest stage.soon lines read body part c true going s)
gets_sends stage lines read body part B.Bad c d going gets s =
    subst (Sends stage.rest stage.soon lines (read ++ part) body) (sym gets)
    (sends_given stage.rest stage.soon lines read body part c c.given going s)

module _ (setup : Setup) (refuses : Type 0) where
  -- ---- the reader is fed

  -- of the origin's bytes a front was used
  drained : (q : Request) (h : ResponseHead) (c : List ℕ) (dialed : Bool) (o : LinkSide) (i piece part : List
      ℕ) (place next : Place) (read : List ℕ)
      → o.inbox ≡ piece ++ i → GoesOn place next piece part → ReadsBody setup refuses q h c dialed o place
      read
      → ReadsBody setup refuses q h c dialed (record o { inbox = i }) next (read ++ part)
  drained q h c dialed o i piece part place next read taken goes r = record {
    served = served_as setup refuses c q dialed o (record o { inbox = i }) r.served.count
        (used_takes_nothing o i) r.served;
    good = r.good;
    fed = r.fed ++ piece;
    reads = subst (λ (x : List ℕ). FinalHead o.look.given h x) (ap (λ (x : List ℕ). r.fed ++ x) taken
        ∙ sym (append_assoc r.fed piece i)) r.reads;
    is_fed = goes (framing_of q.head h) r.fed read r.is_fed;
  }

  -- the chain's input ends where the body does, and a bad body stops short
  gets_end : {P : Type 0} (q : Request) (h : ResponseHead) (o : LinkSide) (place : Place) (state : BodyState)
      (part : List ℕ) (c d : ChainState P) (short : Option Short) → state_of place.phase ≡ state
      → c.given ≡ false → short ≡ None → GetsPart state part c d
      → GivesEnd setup refuses q h o place d.given (short_if state short)
  gets_end q h o place B.Unfinished part c d short is going comes gets = record {
    ended = λ given. absurd (true≢false (sym given ∙ ap (λ k. k.given) gets ∙ going));
    goes_on = λ still. subst (IsShort (framing_of q.head h) o place) (sym comes) is;
  }
  gets_end q h o place B.Ended part c d short is going comes gets = record {
    ended = λ given. (comes, ends.told is);
    goes_on = λ still. absurd (true≢false (sym (ap (λ k. k.given) gets) ∙ still));
  }
  gets_end q h o place B.Bad part c d short is going comes gets = record {
    ended = λ given. absurd (true≢false (sym given ∙ ap (λ k. k.given) gets ∙ going));
    goes_on = λ still. is;
  }

  module _ {P L : Type 0} (stage : transform.Ghosts P L) where
    feeds_on : (v w : View) (r s : Relay P) → r.driven.chain.given ≡ false → r.short ≡ None → DrainsOrigin v w
        → FeedsBody r s v.origin.inbox w.origin.inbox
        → RelaysBody setup refuses stage v r.driven.chain r.body r.short
        → RelaysBody setup refuses stage w s.driven.chain s.body s.short
    feeds_on v w r s going comes drains fed h =
        subst (λ (x : View). RelaysBody setup refuses stage x s.driven.chain s.body s.short) (sym drains)
        (subst (RelaysBody setup refuses stage (record v {
          origin = record v.origin { inbox = w.origin.inbox };
        })
        s.driven.chain s.body) (sym fed.short)
        (record {
          q = h.q;
          h = h.h;
          read = h.read ++ fed.feeds.part;
          reads = drained h.q h.h (all_of v.client.look) v.dialed v.origin w.origin.inbox fed.feeds.piece fed.feeds.part
              r.body s.body h.read fed.feeds.taken fed.feeds.goes h.reads;
          gives_end = gets_end h.q h.h (record v.origin { inbox = w.origin.inbox }) s.body
              (state_of s.body.phase) fed.feeds.part r.driven.chain s.driven.chain r.short refl going comes
              fed.feeds.gets;
          sends = record {
            count = h.sends.count;
            some = h.sends.some;
            mode = h.sends.mode;
            body = h.sends.body;
            text = h.sends.text;
            sends = gets_sends stage (body_lines setup h.q.head h.h) h.read h.sends.body fed.feeds.part
                (state_of s.body.phase) r.driven.chain s.driven.chain going fed.feeds.gets h.sends.sends;
          };
        }))

    -- memory lacked for it
    feeds_lacks : (v w : View) (r : Relay P) → DrainsOrigin v w → w.origin.inbox ≡ v.origin.inbox
        → RelaysBody setup refuses stage v r.driven.chain r.body r.short → EndFact setup refuses w E.NoMemory
    feeds_lacks v w r drains same h =
        subst (λ (x : View). EndFact setup refuses x E.NoMemory)
        (sym (drains ∙ ap (λ (i : List ℕ). record v { origin = record v.origin { inbox = i } }) same))
        (relays_lacks setup refuses stage r.short v r.driven.chain r.body h)

    -- where feeding leads
    pub feeds_lead : (v w : View) (r s : Relay P) (step : BodyStep) → r.driven.chain.given ≡ false
        → r.short ≡ None → DrainsOrigin v w → FeedsTo step r s v.origin.inbox w.origin.inbox
        → RelaysBody setup refuses stage v r.driven.chain r.body r.short
        → LeadsBody setup refuses (RelaysBody setup refuses stage w s.driven.chain s.body s.short) w step
    feeds_lead v w r s S.Goes going comes drains fed h = feeds_on v w r s going comes drains fed h
    feeds_lead v w r s S.Lacks going comes drains same h = feeds_lacks v w r drains same.0 h
    feeds_lead v w r s _ going comes drains feeds h = absurd feeds

    -- ---- the origin is read

    module _ (t : Bool) (v w : View) (c : ChainState P) (place : Place) (short : Option Short)
        (told : t ≡ true) (going : c.given ≡ false) (comes : short ≡ None)
        (r : RelaysBody setup refuses stage v c place short) where
      -- its link failed
      pub reads_failed : ReadsOrigin t v w U.Failed → IsFinishing setup refuses w E.OriginFault
      reads_failed reads =
          let on = reads_on setup refuses stage short t v w U.Failed c place told going comes reads r in
          record {
            count = on.sends.count;
            some = on.sends.some;
            took = facts.request on.q on.reads.served.goes on.reads.served.carries;
            queues = record {
              failed = read_failed t v.origin w.origin U.Failed refl reads.origin r.reads.served.count;
              done = c.given;
              sent = on.sends.body;
              relayed = relays_relayed setup refuses stage short w c place on;
            };
          }

      none_held : (reads : ReadsOrigin t v w U.End) → v.origin.inbox ≡ [] → w.origin.inbox ≡ []
      none_held reads none = reads.origin.pulls.grows ∙ ap (λ (m : List ℕ). v.origin.inbox ++ m)
          reads.origin.pulls.pulls.came ∙ append-nil v.origin.inbox ∙ none

      unfinished : (on : RelaysBody setup refuses stage w c place short) → state_of place.phase ≡ B.Unfinished
      unfinished on = subst (IsShort (framing_of on.q.head on.h) w.origin place) comes (on.gives_end.goes_on
          going)

      -- it ended before the body
      pub reads_cut : ReadsOrigin t v w U.End → v.origin.inbox ≡ [] → (over : Bool) → EndsHere over place
          → over ≡ false → RelaysBody setup refuses stage w c place (Some K.Cut)
      reads_cut reads none over here short_of =
          let on = reads_on setup refuses stage short t v w U.End c place told going comes reads r in
          let cut_off = here.cuts short_of (framing_of on.q.head on.h) on.reads.fed on.read (unfinished on)
          on.reads.is_fed in
          record {
            q = on.q;
            h = on.h;
            read = on.read;
            reads = on.reads;
            gives_end = record {
              ended = λ given. absurd (true≢false (sym given ∙ going));
              goes_on = λ still. (
                unfinished on,
                cut_off.1,
                reads.origin.pulls.pulls.ends told,
                none_held reads none,
              );
            };
            sends = on.sends;
          }

      -- the body goes up to its end
      reads_closed : (d : ChainState P) → ReadsOrigin t v w U.End → v.origin.inbox ≡ [] → (over : Bool)
          → EndsHere over place → over ≡ true → d ≡ record c { given = true }
          → RelaysBody setup refuses stage w d place short
      reads_closed d reads none over here so same =
          let on = reads_on setup refuses stage short t v w U.End c place told going comes reads r in
          let closes = here.closes so (framing_of on.q.head on.h) on.reads.fed on.read (unfinished on)
          on.reads.is_fed in
          subst (λ (k : ChainState P). RelaysBody setup refuses stage w k place short) (sym same)
          (record {
            q = on.q;
            h = on.h;
            read = on.read;
            reads = on.reads;
            gives_end = record {
              ended = λ given. (
                comes,
                ends.closed closes (unfinished on) (reads.origin.pulls.pulls.ends told)
                    (none_held reads none),
              );
              goes_on = λ still. absurd (true≢false still);
            };
            sends = record {
              count = on.sends.count;
              some = on.sends.some;
              mode = on.sends.mode;
              body = on.sends.body;
              text = on.sends.text;
              sends = sends_closed stage.rest stage.soon (body_lines setup on.q.head on.h) on.read
                  on.sends.body c
                  going on.sends.sends;
            };
          })

      pub closes_lead : (d : ChainState P) (step : BodyStep) → ReadsOrigin t v w U.End → v.origin.inbox ≡ []
          → (over : Bool) → EndsHere over place → over ≡ true
          → OnGoes step (d ≡ record c { given = true })
          → LeadsBody setup refuses (RelaysBody setup refuses stage w d place short) w step
      closes_lead d S.Goes reads none over here so gets = reads_closed d reads none over here so gets
      closes_lead d S.Lacks reads none over here so gets =
          relays_lacks setup refuses stage short w c place (reads_on setup refuses stage short t v w U.End c
          place
          told going comes reads r)
      closes_lead d _ reads none over here so gets = absurd gets

    -- memory lacked for a read
    pub unread_lacks : (v w : View) (c : ChainState P) (place : Place) (short : Option Short) → w ≡ v
        → RelaysBody setup refuses stage v c place short → EndFact setup refuses w E.NoMemory
    unread_lacks v w c place short same r = subst (λ (x : View). EndFact setup refuses x E.NoMemory) (sym
        same)
        (relays_lacks setup refuses stage short v c place r)
