-- A body that is passed on: what a write to the client, a read of the origin and a piece that is framed leave
-- of it.
use Rattle.std.proofs.Common.{◌≡◌, ℕ, ◌≤◌, List, [], ◌∷◌, ◌++◌, length, take, Bool, true, false, Result}
use Rattle.std.proofs.Common.{Option, None, Some, Err, refl, sym, ap, subst, ◌∙◌, append_assoc, inl, inr}
use Rattle.std.specs.Prelude.{◌⊎◌, flat_map, ⊤}
use Rattle.std.specs.Bool.{OnTrue}
use Rattle.std.proofs.lemmas.Bool.{OnTrue_from, false≢true, true≢false}
use Rattle.std.proofs.lemmas.List.{append-nil, map-append}
use Rattle.std.proofs.lemmas.List.Elements.{All-append, All-cons, All-nil}
use Rattle.std.proofs.lemmas.Grind.{flat_map-append}
use Rattle.ts_config.specs.declared.setup.Setup.{Setup}
use Rattle.ts_config.specs.declared.setup.TransformLine.{TransformLine}
use Rattle.ts_config.specs.Bodies.{compose_lines, is_early, soon_lines}
use Rattle.ts_group.specs.declared.action.SetFault.{SetFault}
use Rattle.ts_group.specs.declared.action.SetFault.TheVariants as F
use Rattle.ts_hooks.specs.declared.txn_end.TxnEnd.{TxnEnd}
use Rattle.ts_hooks.specs.declared.txn_end.TxnEnd.TheVariants as E
use Rattle.ts_link.specs.Link.{all_of}
use Rattle.ts_transform.specs.Flow.{ChainState, IsFinished, TakesAway, client_wait, flow, soon_flow}
use Rattle.ts_transform.specs.declared.transform.Transform as transform
use Rattle.ts_transform.proofs.Flowing.{flow-finished}
use Rattle.ts_vconn.specs.declared.moves.Pulled.{Pulled}
use Rattle.ts_vconn.specs.declared.moves.Pushed.{Pushed}
use Rattle.ts_vconn.specs.declared.moves.Pushed.TheVariants as V
use Rattle.ts_wire.specs.declared.frames.Mode.{Mode}
use Rattle.ts_wire.specs.declared.heads.ResponseHead.{ResponseHead}
use Rattle.ts_wire.specs.Frames.{IsPiece, cut_body, end_of, frame_of, frames}
use Rattle.ts_wire.specs.declared.body.BodyState.{BodyState}
use Rattle.ts_wire.specs.declared.body.BodyState.TheVariants as B
use Rattle.ts_wire.specs.Body.{BodyOf, IsCutShort}
use Rattle.ts_wire.specs.Place.{Place, state_of}
use Rattle.ts_wire.proofs.PlaceBody.{place_body}
use Rattle.ts_block.specs.Relayed.{framing_of}
use Rattle.ts_block.specs.Block.{BodySays, EndsWith, IsBlock, bad, body_lines, cut, early, ended, passed_on}
use Rattle.ts_block.specs.Block.{relayed_block, relayed_head, request_text}
use Rattle.ts_block.specs.Heads.{FinalHead}
use Rattle.ts_phases.specs.View.{LinkSide, View}
use Rattle.ts_phases.specs.Moving.{SideReads, SideWrites, WritesClient}
use Rattle.ts_phases.specs.RelayMoves.{QueuesText, FramesEnd, FramesPiece, QueuesNothing, ReadsOrigin}
use Rattle.ts_phases.specs.Facts as facts
use Rattle.ts_phases.specs.Ends.{AnyEnd, EndFact, HasText, IsBodyOver, IsFrontThrough, Relayed, StopsShort}
use Rattle.ts_phases.specs.Ends as ends
use Rattle.ts_relay.specs.Relaying.{GivesEnd, IsShort, ReadsBody, RelaysBody, short_end, step_after}
use Rattle.ts_relay.specs.Finishing.{IsFinishing, LeadsBody, QueuesFor, QueuesShort}
use Rattle.ts_block.specs.declared.block.Block.{Block}
use Rattle.ts_relay.specs.declared.last_writes.BodyStep.{BodyStep}
use Rattle.ts_relay.specs.declared.relay.Short.{Short}
use Rattle.ts_relay.specs.declared.relay.Short.TheVariants as K
use Rattle.ts_phases.specs.declared.parts.Sent.{Sent}
use Rattle.ts_phases.specs.declared.phase.Request.{Request}
use Rattle.ts_phases.proofs.OneSide.{read_count, write_count, write_failed}
use Rattle.ts_phases.proofs.Going.{gone_block}
use Rattle.ts_phases.proofs.Owns.{all_took}
use Rattle.ts_phases.proofs.Responding.{final_more, read_takes_nothing, served_as}
use Rattle.ts_phases.proofs.Uploading.{took_request}
use Rattle.ts_passing.proofs.Early.{finished_early, sends_taken, stays_short}
use Rattle.ts_passing.specs.Sends.{FinishesEarly, StaysShort}

-- ---- the client's text

-- a write takes a front of it
pub text_written : (t : Bool) (c s : LinkSide) (p : Pushed) (sent : Sent) (head body : List ℕ) (fin : Bool)
    → t ≡ true → SideWrites t c s p
    → HasText c sent head body fin → HasText s sent head body fin
text_written t c s p sent head body fin told writes h = record {
  pieces = h.pieces;
  each = h.each;
  text = writes.pushes.text told ∙ h.text;
  head_is = h.head_is;
  cuts = h.cuts;
  body_is = h.body_is;
}

-- nothing but the two sides of a text speaks of it
text_as : (c s : LinkSide) (a b : Sent) (head body : List ℕ) (fin : Bool) → s.look.taken ≡ c.look.taken
    → s.outbox ≡ c.outbox → b.head ≡ a.head → b.mode ≡ a.mode
    → b.cuts.items ≡ a.cuts.items → HasText c a head body fin → HasText s b head body fin
text_as c s a b head body fin taken waits head_is mode cuts h = record {
  pieces = h.pieces;
  each = h.each;
  text = ap (λ (x : List ℕ). x ++ s.outbox) taken ∙ ap (λ (x : List ℕ). c.look.taken ++ x) waits ∙ h.text
      ∙ ap (λ (m : Mode). head ++ frames m h.pieces fin) (sym mode);
  head_is = head_is ∙ h.head_is;
  cuts = cuts ∙ h.cuts;
  body_is = h.body_is;
}

-- one piece more is framed
framed_more : (mode : Mode) (pieces : List (List ℕ)) (piece : List ℕ) → frames mode pieces false ++ frame_of
    mode piece ≡ frames mode (pieces ++ piece ∷ []) false
framed_more mode pieces piece =
    ap (λ (x : List ℕ). x ++ frame_of mode piece) (append-nil (flat_map (frame_of mode) pieces))
    ∙ ap (λ (x : List ℕ). flat_map (frame_of mode) pieces ++ x) (sym (append-nil (frame_of mode piece)))
    ∙ sym (flat_map-append (frame_of mode) pieces (piece ∷ []))
    ∙ sym (append-nil (flat_map (frame_of mode) (pieces ++ piece ∷ [])))

cut_more : (pieces : List (List ℕ)) (piece : List ℕ) → cut_body (pieces ++ piece ∷ []) ≡ cut_body pieces
    ++ piece
cut_more pieces piece = flat_map-append (λ (p : List ℕ). p) pieces (piece ∷ []) ∙ ap (λ (x : List ℕ). cut_body
    pieces ++ x) (append-nil piece)

-- what is queued for the client comes behind its text
pub text_behind : (text cuts all : List ℕ) (v w : View) → QueuesText text cuts v w
    → v.client.look.taken ++ v.client.outbox ≡ all → w.client.look.taken ++ w.client.outbox ≡ all ++ text
text_behind text cuts all v w queues is =
    ap (λ (s : LinkSide). s.look.taken ++ w.client.outbox) queues.client
    ∙ ap (λ (x : List ℕ). v.client.look.taken ++ x) queues.adds.outbox
    ∙ sym (append_assoc v.client.look.taken v.client.outbox text)
    ∙ ap (λ (x : List ℕ). x ++ text) is

text_framed : (v w : View) (head body piece : List ℕ) → FramesPiece piece v w → IsPiece piece
    → HasText v.client v.sent head body false
    → HasText w.client w.sent head (body ++ piece) false
text_framed v w head body piece f is h = record {
  pieces = h.pieces ++ piece ∷ [];
  each = All-append IsPiece h.pieces (piece ∷ []) h.each (All-cons IsPiece piece [] is (All-nil IsPiece));
  text = text_behind (frame_of v.sent.mode piece) (length piece ∷ []) (head ++ frames v.sent.mode h.pieces
      false) v w f h.text
      ∙ append_assoc head (frames v.sent.mode h.pieces false) (frame_of v.sent.mode piece)
      ∙ ap (λ (x : List ℕ). head ++ x) (framed_more v.sent.mode h.pieces piece)
      ∙ ap (λ (m : Mode). head ++ frames m (h.pieces ++ piece ∷ []) false) (sym f.adds.mode);
  head_is = f.adds.head ∙ h.head_is;
  cuts = f.adds.cuts_are ∙ ap (λ (x : List ℕ). x ++ length piece ∷ []) h.cuts ∙ sym (map-append length
      h.pieces (piece ∷ []));
  body_is = cut_more h.pieces piece ∙ ap (λ (x : List ℕ). x ++ piece) h.body_is;
}

-- its end is framed
ended_more : (mode : Mode) (pieces : List (List ℕ)) → frames mode pieces false ++ end_of mode ≡ frames mode
    pieces true
ended_more mode pieces = ap (λ (x : List ℕ). x ++ end_of mode) (append-nil (flat_map (frame_of mode) pieces))

text_ended : (v w : View) (head body : List ℕ) → FramesEnd v w → HasText v.client v.sent head body false
    → HasText w.client w.sent head body true
text_ended v w head body f h = record {
  pieces = h.pieces;
  each = h.each;
  text = text_behind (end_of v.sent.mode) [] (head ++ frames v.sent.mode h.pieces false) v w f h.text
      ∙ append_assoc head (frames v.sent.mode h.pieces false) (end_of v.sent.mode)
      ∙ ap (λ (x : List ℕ). head ++ x) (ended_more v.sent.mode h.pieces)
      ∙ ap (λ (m : Mode). head ++ frames m h.pieces true) (sym f.adds.mode);
  head_is = f.adds.head ∙ h.head_is;
  cuts = f.adds.cuts_are ∙ append-nil v.sent.cuts.items ∙ h.cuts;
  body_is = h.body_is;
}

-- ---- what the chain still gives

-- what was sent is a front of the lines' work
pub front_by : (b : Bool) (lines : List TransformLine) (read body : List ℕ) (next : List ℕ → List ℕ)
    → ((z : List ℕ) → OnTrue b (z ≡ []) → body ++ next z ≡ compose_lines lines (read ++ z))
    → IsFrontThrough lines b read body
front_by true lines read body next flows = (
  next [],
  flows [] refl ∙ ap (compose_lines lines)
      (append-nil read),
)
front_by false lines read body next flows = λ more. (next more, flows more tt)

module _ (setup : Setup) (refuses : Type 0) where
  -- whatever is queued, of the rest nothing changed
  queued_reads : (text cuts : List ℕ) (v w : View) (q : Request) (h : ResponseHead) (place : Place)
      (read : List ℕ) → QueuesText text cuts v w
      → ReadsBody setup refuses q h (all_of v.client.look) v.dialed v.origin place read
      → ReadsBody setup refuses q h (all_of w.client.look) w.dialed w.origin place read
  queued_reads text cuts v w q h place read f r =
      subst (λ (c : List ℕ). ReadsBody setup refuses q h c w.dialed w.origin place read)
      (sym (ap (λ (s : LinkSide). all_of s.look) f.client))
      (subst (λ (d : Bool). ReadsBody setup refuses q h (all_of v.client.look) d w.origin place read)
      (sym f.dialed)
      (subst (λ (o : LinkSide). ReadsBody setup refuses q h (all_of v.client.look) v.dialed o place read)
      (sym f.origin) r))

  -- a read of the origin
  reads_side : (t : Bool) (c : List ℕ) (q : Request) (h : ResponseHead) (dialed : Bool) (o s : LinkSide)
      (p : Pulled) (place : Place) (read : List ℕ) → t ≡ true
      → SideReads t o s p → ReadsBody setup refuses q h c dialed o place read → ReadsBody setup refuses q h c
      dialed s place read
  reads_side t c q h dialed o s p place read told reads r =
      let gives = reads.pulls.pulls.told told in
      record {
        served = served_as setup refuses c q dialed o s (read_count t o s p reads r.served.count)
            (read_takes_nothing t o s p told reads) r.served;
        good = r.good;
        fed = r.fed;
        reads = subst (λ (g : List ℕ). FinalHead g h (r.fed ++ s.inbox)) (sym gives.given)
            (subst (λ (i : List ℕ). FinalHead (o.look.given ++ reads.pulls.more) h i)
            (append_assoc r.fed o.inbox reads.pulls.more ∙ ap (λ (x : List ℕ). r.fed ++ x)
            (sym reads.pulls.grows))
            (final_more o.look.given h (r.fed ++ o.inbox) reads.pulls.more r.reads));
        is_fed = r.is_fed;
      }

  -- where a step leads at which a stage was roused, or could not be
  pub leads_after : (goes : Type 0) (v : View) (r : Result ⊤ SetFault) → goes → EndFact setup refuses v
      E.NoMemory → LeadsBody setup refuses goes v (step_after r)
  leads_after goes v (Err F.NoMemory) on lacks = lacks
  leads_after goes v (Err F.Dead) on lacks = lacks
  leads_after goes v _ on lacks = on

  -- ---- the block of what came

  -- all bytes of the origin are a body in this state, where no more comes of one that is unfinished
  pub body_of : (q : Request) (h : ResponseHead) (c : List ℕ) (dialed : Bool) (o : LinkSide) (place : Place)
      (read : List ℕ)
      (r : ReadsBody setup refuses q h c dialed o place read) (state : BodyState)
      → state_of place.phase ≡ state → (state ≡ B.Unfinished → o.inbox ++ o.look.left ≡ [])
      → BodyOf (framing_of q.head h) ((r.fed ++ o.inbox) ++ o.look.left) read state
  body_of q h c dialed o place read r state is none =
      subst (λ (x : List ℕ). BodyOf (framing_of q.head h) x read state) (sym (append_assoc r.fed o.inbox
      o.look.left))
      (subst (BodyOf (framing_of q.head h) (r.fed ++ (o.inbox ++ o.look.left)) read) is
      (place_body (framing_of q.head h) r.fed read place.held place.phase place.total r.is_fed.stands
      r.is_fed.counted r.is_fed.sound (o.inbox ++ o.look.left)
      (λ goes. none (sym is ∙ goes))))

  -- those that were fed have the body that was read
  fed_body : (q : Request) (h : ResponseHead) (c : List ℕ) (dialed : Bool) (o : LinkSide) (place : Place)
      (read : List ℕ) (r : ReadsBody setup refuses q h c dialed o place read)
      → BodyOf (framing_of q.head h) r.fed read (state_of place.phase)
  fed_body q h c dialed o place read r =
      subst (λ (f : List ℕ). BodyOf (framing_of q.head h) f read (state_of place.phase)) (append-nil r.fed)
      (place_body (framing_of q.head h) r.fed read place.held place.phase place.total r.is_fed.stands
      r.is_fed.counted r.is_fed.sound [] (λ goes. refl))

  -- where the body is over, they end with it
  over_ends : (q : Request) (h : ResponseHead) (c : List ℕ) (dialed : Bool) (o : LinkSide) (place : Place)
      (read : List ℕ)
      (r : ReadsBody setup refuses q h c dialed o place read) → IsBodyOver (framing_of q.head h) o place
      → EndsWith (framing_of q.head h) ((r.fed ++ o.inbox) ++ o.look.left) read
  over_ends q h c dialed o place read r (ends.told state) =
      inl (body_of q h c dialed o place read r B.Ended state (λ goes. absurd (let wrong : B.Ended
      ≡ B.Unfinished = goes in cc)))
  over_ends q h c dialed o place read r (ends.closed close state no_left no_held) =
      inr (
        close,
        body_of q h c dialed o place read r B.Unfinished state (λ goes. ap (λ (x : List ℕ). x
            ++ o.look.left) no_held ∙ no_left),
      )

  -- the head is the final one in all that the origin gives
  all_final : (q : Request) (h : ResponseHead) (c : List ℕ) (dialed : Bool) (o : LinkSide) (place : Place)
      (read : List ℕ)
      (r : ReadsBody setup refuses q h c dialed o place read) → FinalHead (all_of o.look) h
      ((r.fed ++ o.inbox) ++ o.look.left)
  all_final q h c dialed o place read r = final_more o.look.given h (r.fed ++ o.inbox) o.look.left r.reads

  -- a block of the response that is passed on
  pub relayed_is : (q : Request) (h : ResponseHead) (c : List ℕ) (dialed : Bool) (o : LinkSide)
      (place : Place) (read : List ℕ) (b : Block)
      (r : ReadsBody setup refuses q h c dialed o place read)
      → BodySays setup (request_text setup q.head q.target q.host) q.head h ((r.fed ++ o.inbox)
      ++ o.look.left) b → IsBlock setup dialed refuses (all_of o.look) c b
  relayed_is q h c dialed o place read b r says =
      gone_block setup dialed refuses (all_of o.look) c q b r.served.goes
      (inr (
        r.served.accepts,
        passed_on h ((r.fed ++ o.inbox) ++ o.look.left) (all_final q h c dialed o place
            read r) r.good says,
      ))

  module _ {P L : Type 0} (stage : transform.Ghosts P L) (short : Option Short) where
    abbrev Holds : View → ChainState P → Place → Type 0
    Holds v c place = RelaysBody setup refuses stage v c place short

    -- the chain may be dropped at any time
    pub relays_relayed : (v : View) (c : ChainState P) (place : Place) (r : Holds v c place)
        → Relayed setup refuses v c.given false r.sends.body
    relays_relayed v c place r = record {
      q = r.q;
      h = r.h;
      served = r.reads.served;
      good = r.reads.good;
      fed = r.reads.fed;
      read = r.read;
      place = place;
      reads = r.reads.reads;
      is_fed = r.reads.is_fed;
      over = λ given. (r.gives_end.ended given).1;
      mode = r.sends.mode;
      text = r.sends.text;
      front = front_by c.given (body_lines setup r.q.head r.h) r.read r.sends.body (flow stage.rest c)
          r.sends.sends.flows;
      whole = λ fin. absurd (false≢true fin);
    }

    pub relays_any : (v : View) (c : ChainState P) (place : Place) → Holds v c place → AnyEnd setup refuses v
    relays_any v c place r = record {
      took = facts.request r.q r.reads.served.goes r.reads.served.carries;
      text = ends.relayed c.given false r.sends.body (relays_relayed v c place r);
    }

    pub relays_lacks : (v : View) (c : ChainState P) (place : Place) → Holds v c place
        → EndFact setup refuses v E.NoMemory
    relays_lacks v c place r = record { any = relays_any v c place r; by = tt }

    -- ---- a write of what waits for the client

    writes_side : (t : Bool) (v : View) (s : LinkSide) (p : Pushed) (c : ChainState P) (place : Place) → t ≡
        true
        → SideWrites t v.client s p → Holds v c place → Holds (record v { client = s }) c place
    writes_side t v s p c place told writes r =
        let takes = writes.pushes.told told in
        record {
          q = r.q;
          h = r.h;
          read = r.read;
          reads = subst (λ (b : List ℕ). ReadsBody setup refuses r.q r.h b v.dialed v.origin place r.read)
              (sym (all_took v.client.look s.look _ r.sends.some takes)) r.reads;
          gives_end = r.gives_end;
          sends = record {
            count = write_count t v.client s p writes r.sends.count;
            some = λ e. r.sends.some (sym takes.given ∙ e);
            mode = r.sends.mode;
            body = r.sends.body;
            text = text_written t v.client s p v.sent (relayed_head setup r.q.head r.h) r.sends.body false
                told
                writes r.sends.text;
            sends = r.sends.sends;
          };
        }

    pub writes_on : (t : Bool) (v w : View) (p : Pushed) (c : ChainState P) (place : Place) → t ≡ true
        → WritesClient t v w p → Holds v c place → Holds w c place
    writes_on t v w p c place told writes r =
        subst (λ (x : View). Holds x c place) (sym writes.others)
        (writes_side t v w.client p c place told writes.client r)

    pub writes_lacks : (t : Bool) (v w : View) (p : Pushed) (c : ChainState P) (place : Place) → t ≡ true
        → WritesClient t v w p → Holds v c place → EndFact setup refuses w E.NoMemory
    writes_lacks t v w p c place told writes r =
        relays_lacks w c place (writes_on t v w p c place told writes r)

    -- the client's link failed
    pub writes_left : (t : Bool) (v w : View) (c : ChainState P) (place : Place) → t ≡ true
        → WritesClient t v w V.Failed → Holds v c place → EndFact setup refuses w E.ClientFault
    writes_left t v w c place told writes r = record {
      any = relays_any w c place (writes_on t v w V.Failed c place told writes r);
      by = write_failed t v.client w.client V.Failed refl writes.client r.sends.count;
    }

    -- ---- a text that is queued for the client

    -- a piece of what the chain gave
    frames_on : (v w : View) (c d : ChainState P) (place : Place) (piece : List ℕ) (n : ℕ) → FramesPiece piece
        v w
        → IsPiece piece → TakesAway stage.rest n c d → piece ≡ take n (client_wait c) → Holds v c place
        → Holds w d place
    frames_on v w c d place piece n f is takes same r = record {
      q = r.q;
      h = r.h;
      read = r.read;
      reads = queued_reads (frame_of v.sent.mode piece) (length piece ∷ []) v w r.q r.h place r.read f
          r.reads;
      gives_end = subst (λ (o : LinkSide). GivesEnd setup refuses r.q r.h o place d.given short) (sym
          f.origin)
          (subst (λ (b : Bool). GivesEnd setup refuses r.q r.h v.origin place b short) (sym takes.given)
          r.gives_end);
      sends = record {
        count = subst (λ (s : LinkSide). s.base ≤ s.look.faults) (sym f.client) r.sends.count;
        some = λ e. r.sends.some (sym (ap (λ (s : LinkSide). s.look.given) f.client) ∙ e);
        mode = f.adds.mode ∙ r.sends.mode;
        body = r.sends.body ++ piece;
        text = text_framed v w (relayed_head setup r.q.head r.h) r.sends.body piece f is r.sends.text;
        sends = sends_taken stage.rest stage.soon (body_lines setup r.q.head r.h) r.read r.sends.body piece n
            c d
            takes same r.sends.sends;
      };
    }

    -- memory lacked for it
    pub frames_lacks : (v w : View) (c : ChainState P) (place : Place) → QueuesNothing v w → Holds v c place
        → EndFact setup refuses w E.NoMemory
    frames_lacks v w c place f r = relays_lacks w c place (record {
      q = r.q;
      h = r.h;
      read = r.read;
      reads = queued_reads [] [] v w r.q r.h place r.read f r.reads;
      gives_end = subst (λ (o : LinkSide). GivesEnd setup refuses r.q r.h o place c.given short) (sym
          f.origin)
          r.gives_end;
      sends = record {
        count = subst (λ (s : LinkSide). s.base ≤ s.look.faults) (sym f.client) r.sends.count;
        some = λ e. r.sends.some (sym (ap (λ (s : LinkSide). s.look.given) f.client) ∙ e);
        mode = f.adds.mode ∙ r.sends.mode;
        body = r.sends.body;
        text = text_as v.client w.client v.sent w.sent (relayed_head setup r.q.head r.h) r.sends.body false
            (ap (λ (s : LinkSide). s.look.taken) f.client)
            (f.adds.outbox ∙ append-nil v.client.outbox) f.adds.head f.adds.mode (f.adds.cuts_are ∙ append-nil
            v.sent.cuts.items) r.sends.text;
        sends = r.sends.sends;
      };
    })

    pub frames_step : (v w : View) (c d : ChainState P) (place : Place) (piece : List ℕ) (n : ℕ)
        (r : Result ⊤ SetFault) (step : BodyStep) → step ≡ step_after r → FramesPiece piece v w → IsPiece
        piece
        → TakesAway stage.rest n c d → piece ≡ take n (client_wait c) → Holds v c place
        → LeadsBody setup refuses (Holds w d place) w step
    frames_step v w c d place piece n r step is f small takes same h =
        let on = frames_on v w c d place piece n f small takes same h in
        subst (LeadsBody setup refuses (Holds w d place) w) (sym is)
        (leads_after (Holds w d place) w r on (relays_lacks w d place on))

    -- ---- a read of the origin

    -- it is made before the chain's end was given
    pub reads_on : (t : Bool) (v w : View) (p : Pulled) (c : ChainState P) (place : Place) → t ≡ true
        → c.given ≡ false → short ≡ None → ReadsOrigin t v w p → Holds v c place → Holds w c place
    reads_on t v w p c place told going comes reads r =
        subst (λ (x : View). Holds x c place) (sym reads.others)
        (record {
          q = r.q;
          h = r.h;
          read = r.read;
          reads = reads_side t (all_of v.client.look) r.q r.h v.dialed v.origin w.origin p place r.read told
              reads.origin r.reads;
          gives_end = record {
            ended = λ given. absurd (true≢false (sym given ∙ going));
            goes_on = λ still. subst (IsShort (framing_of r.q.head r.h) w.origin place) (sym comes)
                (subst (IsShort (framing_of r.q.head r.h) v.origin place) comes (r.gives_end.goes_on still));
          };
          sends = r.sends;
        })

    -- ---- the end is framed

    -- What stands once the end is framed: the block, whose body was sent whole.
    ends_block : (v w : View) (c : ChainState P) (place : Place) (f : FramesEnd v w) (r : Holds v c place)
        (reads : ReadsBody setup refuses r.q r.h (all_of w.client.look) w.dialed w.origin place r.read)
        (done : Bool) → (done ≡ true → IsBodyOver (framing_of r.q.head r.h) v.origin place)
        → IsFrontThrough (body_lines setup r.q.head r.h) done r.read r.sends.body
        → r.sends.body ≡ compose_lines (body_lines setup r.q.head r.h) r.read
        → (done ≡ true) ⊎ (is_early (body_lines setup r.q.head r.h) r.read ≡ true)
        → BodySays setup (request_text setup r.q.head r.q.target r.q.host) r.q.head r.h
        ((reads.fed ++ w.origin.inbox) ++ w.origin.look.left)
        (relayed_block setup (request_text setup r.q.head r.q.target r.q.host) r.q.head r.h E.Whole
        (compose_lines (body_lines setup r.q.head r.h) r.read))
        → IsFinishing setup refuses w E.Whole
    ends_block v w c place f r reads done over front whole why says =
        let text = text_ended v w (relayed_head setup r.q.head r.h) r.sends.body f r.sends.text in
        let request = request_text setup r.q.head r.q.target r.q.host in
        let block = relayed_block setup request r.q.head r.h E.Whole (compose_lines (body_lines setup r.q.head
        r.h) r.read) in
        record {
          count = subst (λ (s : LinkSide). s.base ≤ s.look.faults) (sym f.client) r.sends.count;
          some = λ e. r.sends.some (sym (ap (λ (s : LinkSide). s.look.given) f.client) ∙ e);
          took = facts.request r.q reads.served.goes reads.served.carries;
          queues = record {
            queues = record {
              block = block;
              is_block = relayed_is r.q r.h (all_of w.client.look) w.dialed w.origin place r.read block reads
                  says;
              ends = refl;
              took = took_request setup refuses r.q w.origin reads.served.carries reads.served.no_waits
                  (inl reads.served.uploaded);
              mode = f.adds.mode ∙ r.sends.mode;
              sent = r.sends.body;
              text = text;
            };
            whole = whole;
            done = done;
            relayed = record {
              q = r.q;
              h = r.h;
              served = reads.served;
              good = reads.good;
              fed = reads.fed;
              read = r.read;
              place = place;
              reads = reads.reads;
              is_fed = reads.is_fed;
              over = λ so. subst (λ (o : LinkSide). IsBodyOver (framing_of r.q.head r.h) o place) (sym
                  f.origin)
                  (over so);
              mode = f.adds.mode ∙ r.sends.mode;
              text = text;
              front = front;
              whole = λ fin. (whole, why);
            };
          };
        }

    -- the body has ended
    ends_over : (v w : View) (c : ChainState P) (place : Place) → FramesEnd v w → c.given ≡ true → IsFinished
        c
        → Holds v c place → IsFinishing setup refuses w E.Whole
    ends_over v w c place f given ends r =
        let over : IsBodyOver (framing_of r.q.head r.h) v.origin place = (r.gives_end.ended given).1 in
        let none : flow stage.rest c [] ≡ [] =
        flow-finished stage.rest c ends.0 ends.1 [] (OnTrue_from c.given ([] ≡ []) (λ so. refl)) in
        let reads = queued_reads (end_of v.sent.mode) [] v w r.q r.h place r.read f r.reads in
        let whole : r.sends.body ≡ compose_lines (body_lines setup r.q.head r.h) r.read =
        sym (append-nil r.sends.body) ∙ ap (λ (x : List ℕ). r.sends.body ++ x) (sym none)
        ∙ r.sends.sends.flows [] (OnTrue_from c.given ([] ≡ []) (λ so. refl))
        ∙ ap (compose_lines (body_lines setup r.q.head r.h)) (append-nil r.read) in
        ends_block v w c place f r reads true (λ so. over) ([], append-nil r.sends.body ∙ whole) whole (inl
        refl)
        (ended r.read (over_ends r.q r.h (all_of w.client.look) w.dialed w.origin place r.read reads
        (subst (λ (o : LinkSide). IsBodyOver (framing_of r.q.head r.h) o place) (sym f.origin) over)) refl)

    -- a line finished early
    ends_early : (v w : View) (c : ChainState P) (place : Place) → FramesEnd v w → c.given ≡ false
        → IsFinished c
        → Holds v c place → IsFinishing setup refuses w E.Whole
    ends_early v w c place f going ends r =
        let lines = body_lines setup r.q.head r.h in
        let done : FinishesEarly lines r.read r.sends.body =
        finished_early stage.rest stage.soon lines r.read r.sends.body c going ends r.sends.sends in
        let is : is_early lines r.read ≡ true =
        ap (is_early lines) (sym (append-nil r.read)) ∙ done.early [] in
        let whole : r.sends.body ≡ compose_lines lines r.read =
        done.whole [] ∙ ap (compose_lines lines) (append-nil r.read) in
        let reads = queued_reads (end_of v.sent.mode) [] v w r.q r.h place r.read f r.reads in
        ends_block v w c place f r reads false (λ no. absurd (false≢true no))
        (λ more. ([], append-nil r.sends.body ∙ done.whole more)) whole (inr is)
        (early reads.fed (w.origin.inbox ++ w.origin.look.left) r.read (state_of place.phase)
        (append_assoc reads.fed w.origin.inbox w.origin.look.left)
        (fed_body r.q r.h (all_of w.client.look) w.dialed w.origin place r.read reads) is refl)

    ends_by : (v w : View) (c : ChainState P) (place : Place) (given : Bool) → c.given ≡ given → FramesEnd v w
        → IsFinished c → Holds v c place → IsFinishing setup refuses w E.Whole
    ends_by v w c place true given f ends r = ends_over v w c place f given ends r
    ends_by v w c place false going f ends r = ends_early v w c place f going ends r

    -- the chain has given all, and its end is framed
    pub ends_whole : (v w : View) (c : ChainState P) (place : Place) → FramesEnd v w → IsFinished c → Holds v
        c place
        → IsFinishing setup refuses w E.Whole
    ends_whole v w c place f ends r = ends_by v w c place c.given refl f ends r

    -- ---- no end is framed

    abbrev short_relayed : (v : View) (c : ChainState P) (place : Place) (r : Holds v c place) → c.given ≡
        false
        → Relayed setup refuses v false false r.sends.body
    short_relayed v c place r going = record {
      q = r.q;
      h = r.h;
      served = r.reads.served;
      good = r.reads.good;
      fed = r.reads.fed;
      read = r.read;
      place = place;
      reads = r.reads.reads;
      is_fed = r.reads.is_fed;
      over = λ done. absurd (false≢true done);
      mode = r.sends.mode;
      text = r.sends.text;
      front = subst (λ (b : Bool). IsFrontThrough (body_lines setup r.q.head r.h) b r.read r.sends.body) going
          (front_by c.given (body_lines setup r.q.head r.h) r.read r.sends.body (flow stage.rest c)
          r.sends.sends.flows);
      whole = λ fin. absurd (false≢true fin);
    }

    -- What was sent is what the lines had written so far of a body that stops short.
    short_block : (v : View) (c : ChainState P) (place : Place) (end : TxnEnd) (r : Holds v c place)
        → c.given ≡ false → r.sends.body ≡ soon_lines (body_lines setup r.q.head r.h) r.read
        → StopsShort end (framing_of r.q.head r.h) ((r.reads.fed ++ v.origin.inbox) ++ v.origin.look.left)
        r.read
        → BodySays setup (request_text setup r.q.head r.q.target r.q.host) r.q.head r.h
        ((r.reads.fed ++ v.origin.inbox) ++ v.origin.look.left)
        (relayed_block setup (request_text setup r.q.head r.q.target r.q.host) r.q.head r.h end [])
        → QueuesShort setup refuses v end
    short_block v c place end r going so stops says =
        let block = relayed_block setup (request_text setup r.q.head r.q.target r.q.host) r.q.head r.h end []
        in
        record {
          queues = record {
            block = block;
            is_block = relayed_is r.q r.h (all_of v.client.look) v.dialed v.origin place r.read block r.reads
                says;
            ends = refl;
            took = took_request setup refuses r.q v.origin r.reads.served.carries r.reads.served.no_waits
                (inl r.reads.served.uploaded);
            mode = r.sends.mode;
            sent = r.sends.body;
            text = r.sends.text;
          };
          relayed = short_relayed v c place r going;
          soon = record {
            rest = (r.reads.fed ++ v.origin.inbox) ++ v.origin.look.left;
            reads = all_final r.q r.h (all_of v.client.look) v.dialed v.origin place r.read r.reads;
            body = r.read;
            stops = stops;
            so = so;
          };
        }

    -- why it does: it is cut, or it is bad
    short_queues : (v : View) (c : ChainState P) (place : Place) (why : Short) (r : Holds v c place)
        → c.given ≡ false → StaysShort (body_lines setup r.q.head r.h) r.read r.sends.body
        → IsShort (framing_of r.q.head r.h) v.origin place (Some why) → QueuesFor setup refuses v (short_end
        why)
    short_queues v c place K.Cut r going stays is =
        let cut_off : IsCutShort (framing_of r.q.head r.h) ((r.reads.fed ++ v.origin.inbox) ++
        v.origin.look.left)
        r.read = (
          body_of r.q r.h (all_of v.client.look) v.dialed v.origin place r.read r.reads B.Unfinished is.0
              (λ goes. ap (λ (x : List ℕ). x ++ v.origin.look.left) is.3 ∙ is.2),
          is.1,
        ) in
        short_block v c place E.OriginCut r going stays.sent cut_off (cut r.read cut_off stays.goes refl)
    short_queues v c place K.Bad r going stays is =
        let broken = body_of r.q r.h (all_of v.client.look) v.dialed v.origin place r.read r.reads B.Bad is
        (λ goes. absurd (let wrong : B.Bad ≡ B.Unfinished = goes in cc)) in
        short_block v c place E.OriginBad r going stays.sent broken (bad r.read broken stays.goes refl)

    short_going : (v : View) (c : ChainState P) (place : Place) (why : Short) (given : Bool) → c.given ≡ given
        → short ≡ Some why → Holds v c place → c.given ≡ false
    short_going v c place why false is stops r = is
    short_going v c place why true is stops r = absurd (let wrong : ◌≡◌ {A = Option Short} (Some why) None =
        sym stops ∙ (r.gives_end.ended is).0 in cc)

    -- the chain rests, and nothing is framed any more
    pub ends_short : (v : View) (c : ChainState P) (place : Place) (why : Short) → short ≡ Some why
        → (c.given ≡ false → soon_flow stage.soon c [] ≡ Some []) → Holds v c place
        → IsFinishing setup refuses v (short_end why)
    ends_short v c place why stops rests r =
        let going : c.given ≡ false = short_going v c place why c.given refl stops r in
        record {
          count = r.sends.count;
          some = r.sends.some;
          took = facts.request r.q r.reads.served.goes r.reads.served.carries;
          queues = short_queues v c place why r going
              (stays_short stage.rest stage.soon (body_lines setup r.q.head r.h) r.read r.sends.body c going
              (rests going) r.sends.sends)
              (subst (IsShort (framing_of r.q.head r.h) v.origin place) stops (r.gives_end.goes_on going));
        }
