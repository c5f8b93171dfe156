-- Where each step of an end of a body leads, what a transaction has left to do is less; or the end had
-- nothing to do.
use Rattle.std.proofs.Common.{◌≡◌, ◌≢◌, ◌⊎◌, inl, inr, ℕ, ◌+◌, ◌*◌, ◌<◌, ◌≤◌, List, [], ◌∷◌, ◌++◌, length}
use Rattle.std.proofs.Common.{Bool, true, false, ◌||◌, Result, Ok, Err, arith, refl, sym, ap, subst, ◌∙◌}
use Rattle.std.proofs.Common.{length-append}
use Rattle.std.proofs.Math.Nat.{le_of_eq, le_trans}
use Rattle.std.proofs.lemmas.List.{append-nil}
use Rattle.std.specs.Prelude.{Option, Some, None, is_some, ⊤, if◌then◌else◌}
use Rattle.std.proofs.lemmas.Bool.{false≢true}
use Rattle.ts_config.specs.declared.setup.Setup.{Setup}
use Rattle.ts_group.specs.declared.action.SetFault.{SetFault}
use Rattle.ts_group.specs.declared.action.SetFault.TheVariants as F
use Rattle.ts_group.specs.Context.{Context}
use Rattle.ts_hooks.specs.declared.txn_end.TxnEnd.{TxnEnd}
use Rattle.ts_link.specs.Link.{AgainsFall, Fewer}
use Rattle.ts_transform.specs.Driven.{Loses}
use Rattle.ts_transform.specs.Driving.{all_unroused, upstream_calls}
use Rattle.ts_transform.specs.declared.driven.DrivenChain.{DrivenChain}
use Rattle.ts_transform.specs.Flow.{ChainState, Takes, TakesAway, client_wait, given_if, left_to_do, wants}
use Rattle.ts_transform.specs.Stage.{rest_of, to_end}
use Rattle.ts_transform.specs.declared.pump.Part.{Part}
use Rattle.ts_transform.specs.declared.pump.Stage.{Stage}
use Rattle.ts_transform.proofs.PassedErrors.{calls_same}
use Rattle.ts_vconn.specs.declared.moves.Pulled.{Pulled}
use Rattle.ts_vconn.specs.declared.moves.Pulled.TheVariants as L
use Rattle.ts_vconn.specs.declared.moves.Pushed.{Pushed}
use Rattle.ts_vconn.specs.declared.moves.Pushed.TheVariants as V
use Rattle.ts_vconn.specs.MoveAnswers.{pull_again, push_again}
use Rattle.ts_wire.specs.Frames.{IsPiece}
use Rattle.ts_wire.specs.Place.{state_of}
use Rattle.ts_wire.specs.declared.body.BodyState.{BodyState}
use Rattle.ts_wire.specs.declared.body.BodyState.TheVariants as B
use Rattle.ts_phases.specs.View.{LinkSide, View}
use Rattle.ts_phases.specs.Moving.{WritesClient}
use Rattle.ts_phases.specs.RelayMoves.{FramesEnd, FramesPiece, QueuesNothing, ReadsOrigin}
use Rattle.ts_relay.specs.Relaying.{step_after}
use Rattle.ts_relay.specs.Duties.{MustEnd, MustReadOn, MustSend, WhileGoes}
use Rattle.ts_relay.specs.Feeding.{DrainsOrigin, FeedsBody, FeedsTo, OnGoes, short_if}
use Rattle.ts_passing.specs.Feeding.{GetsPart}
use Rattle.ts_passing.specs.Inserted.{AllChangeNoMore, ChangesNoMore}
use Rattle.ts_phases.specs.Lowering.{agains_left, end_room, if_told, pump_weight, to_hear}
use Rattle.ts_relay.specs.LoweringBody.{HasNothingDue, IsOfLines, LowersBody, StaysOfLines, body_left}
use Rattle.ts_relay.specs.LoweringBody.{body_work, calls_left, ended_left, has_come, left_after, relay_left}
use Rattle.ts_relay.specs.declared.last_writes.BodyStep.{BodyStep}
use Rattle.ts_relay.specs.declared.last_writes.BodyStep.TheVariants as S
use Rattle.ts_relay.specs.declared.relay.Relay.{Relay}
use Rattle.ts_relay.specs.declared.relay.Short.{Short}
use Rattle.ts_phases.proofs.Lowering.{none_fall, same_length, still_hear}
use Rattle.ts_relay.proofs.LoweringBody.{closes, feeds_on, frames_end, frames_piece, queues_same, reads_on}
use Rattle.ts_relay.proofs.LoweringBody.{to_close, to_ended, to_finish, writes_on}
use Rattle.ts_phases.proofs.LoweringSteps.{Calm, client_told, reads_calm, sends_calm, stays_calm}

-- ---- what is left does not depend on who is roused

-- a chain that runs only if it ran may make no more calls upstream
pub calls_fewer : (b' b : Bool) (e' e : ℕ) → e' ≤ e → (b' ≡ true → b ≡ true)
    → (if b' then e' else 0) ≤ (if b then e else 0)
calls_fewer true true e' e fewer runs = omega (arith, fewer)
calls_fewer true false e' e fewer runs = absurd (false≢true (runs refl))
calls_fewer false true e' e fewer runs = omega arith
calls_fewer false false e' e fewer runs = omega arith

-- fewer calls are less to do
fewer_calls : {P : Type 0} (setup : Setup) (rest : P → List ℕ → List ℕ) (n n' : ℕ) (m : Option ℕ) (w : View)
    (d : ChainState P) (come : Bool) → n ≤ n' → Fewer m (body_left setup rest n' w d come)
    → Fewer m (body_left setup rest n w d come)
fewer_calls setup rest n n' None w d come less fell = tt
fewer_calls setup rest n n' (Some x) w d come less fell = by_told (agains_left w) fell
  where
    by_told : (t : Option ℕ) → Fewer (Some x) (if_told t (Some 0) (λ again upload. body_work setup rest n'
        again w d come)) → Fewer (Some x) (if_told t (Some 0) (λ again upload. body_work setup rest n again w
        d come))
    by_told None fell = absurd fell
    by_told (Some y) fell = work_less x (end_room + (y + length w.client.outbox) + to_hear setup w.origin)
        (left_to_do rest d []) (to_end come) less fell
      where
        work_less : (x a b c : ℕ) → n ≤ n' → a + pump_weight * (b + n') + c < x → a + pump_weight * (b + n)
            + c < x
        work_less x a b c less fell = omega (arith, less, fell)

-- a chain that runs behind a call ran before it
pub loses_runs : {P : Type 0} (answer : Result ⊤ SetFault) (d e : DrivenChain P) (a b : Context)
    → Loses answer d e a b → e.running ≡ true → d.running ≡ true
loses_runs (Ok x) d e a b loses runs = sym loses.0 ∙ runs
loses_runs (Err fault) d e a b loses runs = absurd (false≢true (sym loses.0 ∙ runs))

-- what goes on can end at once
pub ended_if : (m m' upload : Option ℕ) (f : ℕ → ℕ → ℕ) → Fewer m (if_told m' upload f)
    → Fewer m (if_told m' (Some 0) (λ x y. 0))
ended_if None m' upload f fell = tt
ended_if (Some x) None upload f fell = absurd fell
ended_if (Some x) (Some x') None f fell = absurd fell
ended_if (Some x) (Some x') (Some y) f fell = omega (arith, fell)

-- ---- bytes were taken from a chain, or came to it

taken_changes : {P : Type 0} (rest : P → List ℕ → List ℕ) (from : List ℕ) (ss : List (Stage P)) (n : ℕ)
    (from' : List ℕ) (ss' : List (Stage P)) → Takes from ss n from' ss' → AllChangeNoMore rest ss
    → AllChangeNoMore rest ss'
taken_changes {P} rest from [] n from' ss' takes all = subst (λ (xs : List (Stage P)). AllChangeNoMore rest
    xs)
    (sym takes.1) tt
taken_changes rest from (s ∷ ss) n from' [] takes all = tt
taken_changes {P} rest from (s ∷ ss) n from' (s' ∷ ss') takes all = (
  subst (λ (p : Option (Part P)). ChangesNoMore (rest_of rest p)) (sym takes.1) all.0,
  taken_changes rest s.after ss n
      s'.after ss' takes.2 all.1,
)

taken_lines : {P : Type 0} (setup : Setup) (rest : P → List ℕ → List ℕ) (n : ℕ) (c d : ChainState P)
    → TakesAway rest n c d → IsOfLines setup rest c → IsOfLines setup rest d
taken_lines setup rest n c d takes lines = record {
  few = omega (arith, takes.len, lines.few);
  changes = taken_changes rest c.first c.stages n d.first d.stages takes.takes lines.changes;
}

pub same_lines : {P : Type 0} (setup : Setup) (rest : P → List ℕ → List ℕ) (c d : ChainState P)
    → d.stages ≡ c.stages → IsOfLines setup rest c → IsOfLines setup rest d
same_lines {P} setup rest c d same lines = record {
  few = omega (arith, ap length same, lines.few);
  changes = subst (λ (ss : List (Stage P)). AllChangeNoMore rest ss) (sym same) lines.changes;
}

-- ---- nothing rose

queues_calm : (setup : Setup) (v w : View) → QueuesNothing v w → Calm setup false v w
queues_calm setup v w queues = record {
  again = queues_same v w [] [] queues;
  out = same_length v.client.outbox w.client.outbox (queues.adds.outbox ∙ append-nil v.client.outbox);
  hear = still_hear setup v.origin w.origin (same_length v.origin.inbox w.origin.inbox
      (ap (λ (s : LinkSide). s.inbox) queues.origin))
      (same_length v.origin.look.left w.origin.look.left (ap (λ (s : LinkSide). s.look.left) queues.origin));
}

drains_again : (v w : View) → DrainsOrigin v w → AgainsFall false (agains_left v) (agains_left w)
drains_again v w drains = subst (λ (x : View). AgainsFall false (agains_left v) (agains_left x)) (sym drains)
    (none_fall (agains_left v))

module _ {P : Type 0} (ct ot : Bool) (must : Type 0) (setup : Setup) (rest : P → List ℕ → List ℕ) where
  -- a step that leaves less lowers what is left
  lowers_by : (step : BodyStep) (v w : View) (r s : Relay P) (a b : Context) → s.reader ≡ r.reader
      → WhileGoes step (StaysOfLines setup rest r s)
      → (ct ≡ true → ot ≡ true → IsOfLines setup rest r.driven.chain → Fewer (relay_left setup rest v r)
      (left_after setup rest step w s)) → LowersBody ct ot must setup rest step v w r s a b
  lowers_by step v w r s a b reader lines fell = record {
    reader = reader;
    lines = lines;
    falls = λ told also of. inl (fell told also of);
  }

  -- nothing was to be done
  pub idles : (v : View) (r : Relay P) (a : Context) → (must → ⊥) → LowersBody ct ot must setup rest S.Goes v
      v r r a a
  idles v r a free = record {
    reader = refl;
    lines = λ of. of;
    falls = λ told also of. inr
        (record { free = free; goes = refl; view = refl; relay = refl; quiet = refl });
  }

  module _ (v w : View) (r : Relay P) (a : Context) where
    -- ---- one write to the client

    same_relay : StaysOfLines setup rest r r
    same_relay of = of

    pub writes_goes : (n : ℕ) → WritesClient ct v w (V.Some n) → LowersBody ct ot must setup rest S.Goes v w r
        r a a
    writes_goes n writes = lowers_by S.Goes v w r r a a refl same_relay (λ told also of.
        writes_on setup rest (calls_left r.driven) v w r.driven.chain (has_come r) (V.Some n) (client_told ct
        v w
        (V.Some n) told writes) (omega arith))

    -- something waits, so that one write was made
    pub writes_nothing : WritesClient ct v w V.Nothing → (v.client.outbox ≡ [] → ⊥)
        → LowersBody ct ot must setup rest S.Goes v w r r a a
    writes_nothing writes some = absurd (some writes.client.pushes.went.0)

    pub writes_waits : WritesClient ct v w V.Again → LowersBody ct ot must setup rest S.Waits v w r r a a
    writes_waits writes = lowers_by S.Waits v w r r a a refl same_relay (λ told also of.
        writes_on setup rest (calls_left r.driven) v w r.driven.chain (has_come r) V.Again (client_told ct v w
        V.Again
        told writes) (omega arith))

    pub writes_closes : (p : Pushed) (end : TxnEnd) → WritesClient ct v w p → LowersBody ct ot must setup rest
        (S.Closes end) v w r r a a
    writes_closes p end writes = lowers_by (S.Closes end) v w r r a a refl tt (λ told also of.
        to_close setup rest (calls_left r.driven) (push_again p) v w r.driven.chain (has_come r) (sends_calm
        setup v w p
        (client_told ct v w p told writes)))

    pub writes_lacks : (p : Pushed) → WritesClient ct v w p → LowersBody ct ot must setup rest S.Lacks v w r r
        a a
    writes_lacks p writes = lowers_by S.Lacks v w r r a a refl tt (λ told also of.
        to_ended setup rest (calls_left r.driven) (push_again p) v w r.driven.chain (has_come r) (sends_calm
        setup v w p
        (client_told ct v w p told writes)))

    -- ---- the end of the body is framed

    pub lowers_whole : (end : TxnEnd) → FramesEnd v w → LowersBody ct ot must setup rest (S.Finishes end) v w
        r r a a
    lowers_whole end frames = lowers_by (S.Finishes end) v w r r a a refl tt (λ told also of. frames_end setup
        rest (calls_left r.driven) v w r.driven.chain (has_come r) frames)

    -- nothing is framed any more
    pub lowers_short : (end : TxnEnd) → w ≡ v → LowersBody ct ot must setup rest (S.Finishes end) v w r r a a
    lowers_short end same = lowers_by (S.Finishes end) v w r r a a refl tt (λ told also of.
        to_finish setup rest (calls_left r.driven) false v w r.driven.chain (has_come r)
        (stays_calm setup v w same))

    pub queues_lacks : QueuesNothing v w → LowersBody ct ot must setup rest S.Lacks v w r r a a
    queues_lacks queues = lowers_by S.Lacks v w r r a a refl tt (λ told also of.
        to_ended setup rest (calls_left r.driven) false v w r.driven.chain (has_come r) (queues_calm setup v w
        queues))

    -- ---- one read of the origin

    read_calm : (p : Pulled) → ReadsOrigin true v w p → Calm setup (pull_again p) v w
    read_calm p reads = reads_calm setup v w p reads.others reads.origin

    also_told : (p : Pulled) → ot ≡ true → ReadsOrigin ot v w p → ReadsOrigin true v w p
    also_told p also reads = subst (λ (b : Bool). ReadsOrigin b v w p) also reads

    pub reads_goes : (n : ℕ) → ReadsOrigin ot v w (L.Some n) → LowersBody ct ot must setup rest S.Goes v w r r
        a a
    reads_goes n reads = lowers_by S.Goes v w r r a a refl same_relay (λ told also of.
        reads_on setup rest (calls_left r.driven) v w r.driven.chain (has_come r) (L.Some n) (also_told
        (L.Some n) also
        reads) (omega arith))

    pub reads_waits : ReadsOrigin ot v w L.Again → LowersBody ct ot must setup rest S.Waits v w r r a a
    reads_waits reads = lowers_by S.Waits v w r r a a refl same_relay (λ told also of.
        reads_on setup rest (calls_left r.driven) v w r.driven.chain (has_come r) L.Again (also_told L.Again
        also reads)
        (omega arith))

    pub reads_finishes : (p : Pulled) (end : TxnEnd) → ReadsOrigin ot v w p → LowersBody ct ot must setup rest
        (S.Finishes end) v w r r a a
    reads_finishes p end reads = lowers_by (S.Finishes end) v w r r a a refl tt (λ told also of.
        to_finish setup rest (calls_left r.driven) (pull_again p) v w r.driven.chain (has_come r)
        (read_calm p (also_told p also reads)))

    pub stands_lacks : w ≡ v → LowersBody ct ot must setup rest S.Lacks v w r r a a
    stands_lacks same = lowers_by S.Lacks v w r r a a refl tt (λ told also of.
        to_ended setup rest (calls_left r.driven) false v w r.driven.chain (has_come r) (stays_calm setup v w
        same))

  -- ---- a piece is framed, and taken from the chain

  module _ (v w : View) (r s : Relay P) (a b : Context) where
    -- the continuations are the same, but for who is roused, and the chain runs only if it ran
    abbrev pub SameTable : Type 0
    SameTable = (all_unroused s.driven.table.items ≡ all_unroused r.driven.table.items) × (s.driven.running
        ≡ true → r.driven.running ≡ true)

    -- the chain is of the lines wherever a call leads
    lines_after : (answer : Result ⊤ SetFault) → StaysOfLines setup rest r s → WhileGoes (step_after answer)
        (StaysOfLines setup rest r s)
    lines_after (Err F.NoMemory) lines = tt
    lines_after (Err F.Dead) lines = tt
    lines_after _ lines = lines

    -- no more calls count than did
    with_table : SameTable → (m : Option ℕ) → Fewer m (body_left setup rest (calls_left r.driven) w
        s.driven.chain (has_come s)) → Fewer m (relay_left setup rest w s)
    with_table same m fell = fewer_calls setup rest (calls_left s.driven) (calls_left r.driven) m w
        s.driven.chain (has_come s)
        (calls_fewer s.driven.running r.driven.running (upstream_calls s.driven.table.items) (upstream_calls
        r.driven.table.items)
        (le_of_eq (calls_same r.driven.table.items s.driven.table.items same.0)) same.1) fell

    pub frames_after : (answer : Result ⊤ SetFault) (piece : List ℕ) → IsPiece piece → FramesPiece piece v w
        → TakesAway rest (length piece) r.driven.chain s.driven.chain → SameTable
        → s ≡ record r { driven = s.driven }
        → LowersBody ct ot must setup rest (step_after answer) v w r s a b
    frames_after answer piece is frames takes same still =
        lowers_by (step_after answer) v w r s a b (ap (λ (x : Relay P). x.reader) still)
        (lines_after answer (taken_lines setup rest
        (length piece) r.driven.chain s.driven.chain takes)) (λ told also of. by_answer answer)
      where
        come_still : has_come s ≡ has_come r
        come_still = ap (λ (x : Relay P). s.driven.chain.given || is_some x.short) still
            ∙ ap (λ g. g || is_some r.short) takes.given

        fell : Fewer (relay_left setup rest v r) (body_left setup rest (calls_left r.driven) w s.driven.chain
            (has_come s))
        fell = frames_piece setup rest (calls_left r.driven) v w r.driven.chain s.driven.chain (has_come r)
            (has_come s) piece is frames takes come_still

        lacks : Fewer (relay_left setup rest v r) (ended_left w)
        lacks = ended_if (relay_left setup rest v r) (agains_left w) (Some 0)
            (λ x y. body_work setup rest (calls_left r.driven) x w s.driven.chain (has_come s)) fell

        by_answer : (answer : Result ⊤ SetFault) → Fewer (relay_left setup rest v r) (left_after setup rest
            (step_after answer) w s)
        by_answer (Err F.NoMemory) = lacks
        by_answer (Err F.Dead) = lacks
        by_answer _ = with_table same (relay_left setup rest v r) fell

    -- ---- the body is fed

    -- what the chain gets of it, all of it or nothing
    given_front : (wanted : Bool) (first part : List ℕ)
        → (some : List ℕ) × (given_if wanted first part ≡ first ++ some) × (length some ≤ length part)
    given_front true first part = (part, refl, omega arith)
    given_front false first part = ([], sym (append-nil first), omega arith)

    abbrev GetsSome : List ℕ → Type 0
    GetsSome part = (some : List ℕ) × (s.driven.chain.first ≡ r.driven.chain.first ++ some)
        × (length some ≤ length part) × (s.driven.chain.stages ≡ r.driven.chain.stages)

    gets_some : (state : BodyState) (part : List ℕ) → GetsPart state part r.driven.chain s.driven.chain
        → GetsSome part
    gets_some B.Ended part gets =
        let front = given_front (wants r.driven.chain) r.driven.chain.first part in (
          front.0,
          ap (λ (c : ChainState P). c.first) gets ∙ front.1,
          front.2,
          ap (λ (c : ChainState P). c.stages)
              gets,
        )
    gets_some _ part gets =
        let front = given_front (wants r.driven.chain) r.driven.chain.first part in (
          front.0,
          ap (λ (c : ChainState P). c.first) gets ∙ front.1,
          front.2,
          ap (λ (c : ChainState P). c.stages)
              gets,
        )

    -- the moment from which no more comes is there now, or is still to come
    come_less : (piece : ℕ) (come now : Bool) → come ≡ false → now ≡ come → 0 < piece
        → to_end now + 1 ≤ to_end come + piece
    come_less piece come now goes same some = omega (arith, ap to_end same, some)

    come_now : (piece : ℕ) (come now : Bool) → come ≡ false → now ≡ true
        → to_end now + 1 ≤ to_end come + piece
    come_now piece come now goes is = omega (arith, ap to_end goes, ap to_end is)

    is_short : (g : Bool) → g || true ≡ true
    is_short true = refl
    is_short false = refl

    feeds_come : (state : BodyState) (piece : ℕ) (part : List ℕ)
        → GetsPart state part r.driven.chain s.driven.chain → s.short ≡ short_if state r.short
        → has_come r ≡ false → (0 < piece) ⊎ (state ≢ B.Unfinished)
        → to_end (has_come s) + 1 ≤ to_end (has_come r) + piece
    feeds_come B.Unfinished piece part gets short goes (inl some) =
        come_less piece (has_come r) (has_come s) goes
        (ap (λ (c : ChainState P). c.given || is_some s.short) gets
        ∙ ap (λ (x : Option Short). r.driven.chain.given || is_some x) short) some
    feeds_come B.Unfinished piece part gets short goes (inr finished) = absurd (finished refl)
    feeds_come B.Ended piece part gets short goes progress =
        come_now piece (has_come r) (has_come s) goes
        (ap (λ (c : ChainState P). c.given || is_some s.short) gets)
    feeds_come B.Bad piece part gets short goes progress =
        come_now piece (has_come r) (has_come s) goes
        (ap (λ (x : Option Short). s.driven.chain.given || is_some x) short ∙ is_short s.driven.chain.given)

    -- where the reader must read on, more may come
    reads_on_goes : MustReadOn r → has_come r ≡ false
    reads_on_goes must = ap (λ g. g || is_some r.short) must.1.0
        ∙ ap (λ (x : Option Short). false || is_some x) must.0

    feeds_goes : FeedsBody r s v.origin.inbox w.origin.inbox → DrainsOrigin v w → MustReadOn r
        → (ct ≡ true → ot ≡ true → state_of r.body.phase ≡ B.Unfinished) → SameTable
        → s.reader ≡ r.reader → LowersBody ct ot must setup rest S.Goes v w r s a b
    feeds_goes fed drains goes unfinished same reader =
        let got = gets_some (state_of s.body.phase) fed.feeds.part fed.feeds.gets in
        lowers_by S.Goes v w r s a b reader (same_lines setup rest r.driven.chain s.driven.chain got.3)
        (λ told also of.
        with_table same (relay_left setup rest v r) (feeds_on setup rest (calls_left r.driven) v w
        r.driven.chain s.driven.chain (has_come r) (has_come s) fed.feeds.piece got.0 drains fed.feeds.taken of got.3
        got.1
        (le_trans got.2 fed.feeds.within)
        (feeds_come (state_of s.body.phase) (length fed.feeds.piece) fed.feeds.part fed.feeds.gets fed.short (reads_on_goes
        goes)
        (fed.feeds.progress (unfinished told also)))))

    drains_calm : (piece : List ℕ) → DrainsOrigin v w → v.origin.inbox ≡ piece ++ w.origin.inbox
        → Calm setup false v w
    drains_calm piece drains taken = record {
      again = drains_again v w drains;
      out = same_length v.client.outbox w.client.outbox (ap (λ (x : View). x.client.outbox) drains);
      hear = still_hear setup v.origin w.origin (behind_less (length v.origin.inbox) (length piece)
          (length w.origin.inbox) (ap length taken ∙ length-append piece w.origin.inbox))
          (same_length v.origin.look.left w.origin.look.left (ap (λ (x : View). x.origin.look.left) drains));
    }
      where
        behind_less : (all piece behind : ℕ) → all ≡ piece + behind → behind ≤ all
        behind_less all piece behind sum = omega (arith, sum)

    -- memory lacked
    pub feeds_lacks : DrainsOrigin v w → w.origin.inbox ≡ v.origin.inbox → s.reader ≡ r.reader
        → LowersBody ct ot must setup rest S.Lacks v w r s a b
    feeds_lacks drains same reader = lowers_by S.Lacks v w r s a b reader tt (λ told also of.
        to_ended setup rest (calls_left r.driven) false v w r.driven.chain (has_come r) (drains_calm [] drains
        (sym same)))

    -- ---- no more of the body comes: the chain's input ends, or the body stops short

    end_calm : ot ≡ true → ReadsOrigin ot v w L.End → Calm setup false v w
    end_calm also reads = read_calm v w r a L.End (also_told v w r a L.End also reads)

    pub closes_input : (step : BodyStep) → OnGoes step (s.driven.chain ≡ record r.driven.chain {
      given = true;
    }) → MustReadOn r → ReadsOrigin ot v w L.End → SameTable → s.reader ≡ r.reader
        → LowersBody ct ot must setup rest step v w r s a b
    closes_input S.Goes ends goes reads same reader = lowers_by S.Goes v w r s a b reader (same_lines setup
        rest r.driven.chain s.driven.chain (ap (λ (c : ChainState P). c.stages) ends)) (λ told also of.
        with_table same (relay_left setup rest v r) (closes setup rest (calls_left r.driven) false v w
        r.driven.chain s.driven.chain (has_come r) (has_come s) (end_calm also reads)
        (ap (λ (x : View). length x.client.outbox) reads.others)
        (ap (λ (c : ChainState P). left_to_do rest c []) ends) (reads_on_goes goes)
        (ap (λ (c : ChainState P). c.given || is_some s.short) ends)))
    closes_input S.Lacks ends goes reads same reader = lowers_by S.Lacks v w r s a b reader tt
        (λ told also of.
        to_ended setup rest (calls_left r.driven) false v w r.driven.chain (has_come r) (end_calm also reads))
    closes_input _ ends goes reads same reader = absurd ends

    pub stops_short : (why : Short) → s ≡ record r { short = Some why } → MustReadOn r
        → ReadsOrigin ot v w L.End → LowersBody ct ot must setup rest S.Goes v w r s a b
    stops_short why stops goes reads =
        let driven : s.driven ≡ r.driven = ap (λ (x : Relay P). x.driven) stops in
        let chain : s.driven.chain ≡ r.driven.chain = ap (λ (d : DrivenChain P). d.chain) driven in
        lowers_by S.Goes v w r s a b (ap (λ (x : Relay P). x.reader) stops)
        (same_lines setup rest r.driven.chain s.driven.chain (ap (λ (c : ChainState P). c.stages) chain))
        (λ told also of.
        with_table (
          ap (λ (d : DrivenChain P). all_unroused d.table.items) driven,
          λ runs.
              sym (ap (λ (d : DrivenChain P). d.running) driven) ∙ runs,
        ) (relay_left setup rest v r)
        (closes setup rest (calls_left r.driven) false v w
        r.driven.chain s.driven.chain (has_come r) (has_come s) (end_calm also reads)
        (ap (λ (x : View). length x.client.outbox) reads.others)
        (ap (λ (c : ChainState P). left_to_do rest c []) chain) (reads_on_goes goes)
        (ap (λ (x : Relay P). x.driven.chain.given || is_some x.short) stops ∙ is_short
        r.driven.chain.given)))

    -- what waits of the body was fed
    pub feeds_lower : (step : BodyStep) → FeedsTo step r s v.origin.inbox w.origin.inbox → DrainsOrigin v w
        → MustReadOn r → (ct ≡ true → ot ≡ true → state_of r.body.phase ≡ B.Unfinished) → SameTable
        → s.reader ≡ r.reader → LowersBody ct ot must setup rest step v w r s a b
    feeds_lower S.Goes feeds drains goes unfinished same reader =
        feeds_goes feeds drains goes unfinished same reader
    feeds_lower S.Lacks feeds drains goes unfinished same reader = feeds_lacks drains feeds.0 reader
    feeds_lower _ feeds drains goes unfinished same reader = absurd feeds

-- ---- what an end must do

-- an end that has nothing to do need not do less
pub must_weaker : {P : Type 0} (ct ot : Bool) (must also : Type 0) (setup : Setup) (rest : P → List ℕ
    → List ℕ) (step : BodyStep) (v w : View) (r s : Relay P) (a b : Context) → (must → also)
    → LowersBody ct ot also setup rest step v w r s a b → LowersBody ct ot must setup rest step v w r s a b
must_weaker ct ot must also setup rest step v w r s a b leads lowers = record {
  reader = lowers.reader;
  lines = lowers.lines;
  falls = λ told other of. by_idle (lowers.falls told other of);
}
  where
    by_idle : Fewer (relay_left setup rest v r) (left_after setup rest step w s)
        ⊎ HasNothingDue also step v w r s a b
        → Fewer (relay_left setup rest v r) (left_after setup rest step w s)
        ⊎ HasNothingDue must step v w r s a b
    by_idle (inl fell) = inl fell
    by_idle (inr idle) = inr (record {
      free = λ m. idle.free (leads m);
      goes = idle.goes;
      view = idle.view;
      relay = idle.relay;
      quiet = idle.quiet;
    })

-- where the chain gave nothing, the first continuation must write only where something waits, or where what
-- the client gets ends
pub rest_to_send : {P : Type 0} (v : View) (r : Relay P) → client_wait r.driven.chain ≡ [] → MustSend v r
    → (v.client.outbox ≢ []) ⊎ MustEnd r
rest_to_send v r none (inl some) = inl some.0
rest_to_send v r none (inr (inl some)) = absurd (some none)
rest_to_send v r none (inr (inr all)) = inr all
