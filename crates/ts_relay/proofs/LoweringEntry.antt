-- The step with which a body begins to be passed on lowers what a transaction has left to do.
use Rattle.std.proofs.Common.{◌≡◌, ℕ, ◌+◌, ◌*◌, ◌≤◌, List, [], ◌∷◌, length, map, filter, Bool, true, false}
use Rattle.std.proofs.Common.{cond, arith, refl, sym, ap, subst, ◌∙◌, length-append}
use Rattle.std.proofs.Math.Nat.{le_trans}
use Rattle.std.specs.Prelude.{◌||◌, Option, Some, None, is_some, ⊤, if◌then◌else◌}
use Rattle.std.proofs.lemmas.List.{length-map}
use Rattle.ts_config.specs.declared.setup.Setup.{Setup}
use Rattle.ts_config.specs.declared.setup.TransformLine.{TransformLine}
use Rattle.ts_group.specs.Answers.{Falls}
use Rattle.ts_group.specs.Context.{Context}
use Rattle.ts_link.specs.Link.{AgainsFall, NoMore}
use Rattle.ts_transform.specs.Driving.{calls_of, upstream_calls}
use Rattle.ts_transform.specs.declared.continuation.StageContinuation.{StageContinuation}
use Rattle.ts_transform.specs.Flow.{ChainState, fresh_stage, left_to_do, passing}
use Rattle.ts_transform.specs.Stage.{to_end}
use Rattle.ts_upstream.specs.Uploads.{both}
use Rattle.ts_transform.specs.declared.pump.Stage.{Stage}
use Rattle.ts_wire.specs.declared.body.BodyState.{BodyState}
use Rattle.ts_wire.specs.declared.body.BodyState.TheVariants as state
use Rattle.ts_wire.specs.declared.framing.Framing.{Framing}
use Rattle.ts_wire.specs.declared.framing.Framing.TheVariants as F
use Rattle.ts_wire.specs.declared.frames.Mode.{Mode}
use Rattle.ts_wire.specs.declared.heads.ResponseHead.{ResponseHead}
use Rattle.ts_wire.specs.declared.heads.RequestHead.{RequestHead}
use Rattle.ts_block.specs.Acting.{acts_on}
use Rattle.ts_block.specs.Relayed.{framing_of, if_body}
use Rattle.ts_block.specs.Block.{body_lines, relayed_head}
use Rattle.ts_block.specs.Heads.{HasResponse}
use Rattle.ts_phases.specs.View.{LinkSide, View}
use Rattle.ts_phases.specs.RelayMoves.{QueuesHead}
use Rattle.ts_transform.specs.declared.transform.Transform as transform
use Rattle.ts_passing.specs.Inserted.{AllChangeNoMore, AreOfLines, IsOfParts}
use Rattle.ts_phases.specs.Lowering.{agains_left, chain_room, end_room, enter_left, enter_work, head_room}
use Rattle.ts_phases.specs.Lowering.{if_told, own_room, pump_weight, to_hear}
use Rattle.ts_passing.specs.Lines.{lines_length, passes}
use Rattle.ts_wire.specs.Limits.{head_limit}
use Rattle.ts_relay.specs.BodyLinks.{HoldsLittle}
use Rattle.ts_relay.specs.Duties.{SettledAs}
use Rattle.ts_relay.specs.Entering.{BeginsRelay, GetsStart, IsUnbegun}
use Rattle.ts_phases.specs.Facts.{Relays}
use Rattle.ts_relay.specs.Feeding.{OnGoes}
use Rattle.ts_phases.specs.Holding.{IfTold}
use Rattle.ts_relay.specs.LoweringBody.{BeginsLower, HasChainRoom, LowersEntering, body_left, body_work}
use Rattle.ts_relay.specs.LoweringBody.{begin_room, calls_before, calls_left, has_come, unbegun_left}
use Rattle.ts_relay.specs.declared.last_writes.BodyStep.{BodyStep}
use Rattle.ts_relay.specs.declared.last_writes.BodyStep.TheVariants as S
use Rattle.ts_phases.specs.declared.phase.Request.{Request}
use Rattle.ts_relay.specs.declared.relay.Relay.{Relay}
use Rattle.ts_relay.specs.declared.relay.Short.{Short}
use Rattle.ts_passing.proofs.InsertedStages.{fresh_changes, fresh_work}
use Rattle.ts_phases.proofs.Lowering.{no_more_same, none_fall, passes_less}
use Rattle.ts_relay.proofs.LoweringRelay.{same_lines}
use Rattle.ts_phases.proofs.LoweringResponse.{response_fits}

-- ---- the lines that act are some of the configuration's

-- the lines that are kept add no more, and ask for no more boundaries
record IsLess (ls ms : List TransformLine) : Type 0 where
  text : lines_length ms ≤ lines_length ls
  passed : (n : ℕ) → passes ms n ≤ passes ls n

kept_less : (b : Bool) (l : TransformLine) (ls ms : List TransformLine) → IsLess ls ms
    → IsLess (l ∷ ls) (cond b (l ∷ ms) ms)
kept_less true l ls ms less = record {
  text = omega (arith, less.text);
  passed = λ n. let behind : passes ms n ≤ passes ls n = less.passed n in omega (arith, behind);
}
kept_less false l ls ms less = record {
  text = omega (arith, less.text);
  passed = λ n. let behind : passes ms n ≤ passes ls n = less.passed n in omega (arith, behind);
}

filter_less : (p : TransformLine → Bool) (ls : List TransformLine) → IsLess ls (filter p ls)
filter_less p [] = record { text = omega arith; passed = λ n. omega arith }
filter_less p (l ∷ ls) = kept_less (p l) l ls (filter p ls) (filter_less p ls)

three_more : (a b : ℕ) → a ≤ b → a + 3 ≤ b + 3
three_more a b less = omega (arith, less)

no_bytes : (n : ℕ) → length {A = ℕ} [] + n ≤ n
no_bytes n = omega arith

-- so what their fresh transforms have left to do has room
module _ {P : Type 0} (setup : Setup) (stage : transform.Ghosts P TransformLine) (ms : List TransformLine)
    (ps : List P) (c : ChainState P) where
  less_has_room : IsLess setup.transforms.items ms → length ms ≤ length setup.transforms.items
      → AreOfLines stage ms ps
      → c ≡ record { first = []; stages = map (fresh_stage stage.soon stage.pause) ps; given = false }
      → HasChainRoom setup stage.rest
      c
  less_has_room less few of made =
      let ls = setup.transforms.items in
      let stages : c.stages ≡ map (fresh_stage stage.soon stage.pause) ps = ap (λ (d : ChainState P).
      d.stages) made in
      let len : length c.stages ≡ length ps = ap length stages ∙ length-map ps (fresh_stage stage.soon
      stage.pause) in
      let left : left_to_do stage.rest c [] ≡ passing stage.rest (map (fresh_stage stage.soon stage.pause) ps)
      [] =
      ap (λ (d : ChainState P). left_to_do stage.rest d []) made in
      let room : passing stage.rest (map (fresh_stage stage.soon stage.pause) ps) [] + 2 * length ps ≤ passes
      ls
      (lines_length ls + 3) =
      le_trans (fresh_work stage ms ps of [] (lines_length ms) (no_bytes (lines_length ms)))
      (le_trans (less.passed (lines_length ms + 3))
      (passes_less ls (lines_length ms + 3) (lines_length ls + 3) (three_more (lines_length ms)
      (lines_length ls) less.text))) in
      record {
        lines = record {
          few = few_stages (length c.stages) (length ps) (length ms) (length ls) len (same_count ms ps of)
              few;
          changes = subst (λ (ss : List (Stage P)). AllChangeNoMore stage.rest ss) (sym stages)
              (fresh_changes stage ms ps of);
        };
        room = room_sum (left_to_do stage.rest c []) (passing stage.rest (map (fresh_stage stage.soon
            stage.pause) ps) [])
            (length c.stages) (length ps) (passes ls (lines_length ls + 3)) left len room;
      }
    where
      same_count : (ls : List TransformLine) (ps : List P) → AreOfLines stage ls ps → length ps ≡ length ls
      same_count [] [] of = refl
      same_count [] (p ∷ ps) of = absurd of
      same_count (l ∷ ls) [] of = absurd of
      same_count (l ∷ ls) (p ∷ ps) of = omega (arith, same_count ls ps of.3)

      few_stages : (stages parts less all : ℕ) → stages ≡ parts → parts ≡ less → less ≤ all → stages ≤ all
      few_stages stages parts less all len same few = omega (arith, len, same, few)

      room_sum : (left passed stages parts room : ℕ) → left ≡ passed → stages ≡ parts
          → passed + 2 * parts ≤ room → left + 2 * stages ≤ room
      room_sum left passed stages parts room same len fits = omega (arith, same, len, fits)

-- no lines at all are less than any
none_less : (ls : List TransformLine) → IsLess ls []
none_less [] = record { text = omega arith; passed = λ n. omega arith }
none_less (l ∷ ls) = let less = none_less ls in record {
  text = omega arith;
  passed = λ n. let behind : n ≤ passes ls n = less.passed n in omega (arith, behind);
}

filter_few : (p : TransformLine → Bool) (ls : List TransformLine) → length (filter p ls) ≤ length ls
filter_few p [] = omega arith
filter_few p (l ∷ ls) = kept_few (p l) (filter p ls) (filter_few p ls)
  where
    kept_few : (b : Bool) (ms : List TransformLine) → length ms ≤ length ls → length (cond b (l ∷ ms) ms)
        ≤ length (l ∷ ls)
    kept_few true ms few = omega (arith, few)
    kept_few false ms few = omega (arith, few)

-- the chain of a response's body: of the lines that act, or of none where there is no body
fresh_has_room : {P : Type 0} (setup : Setup) (stage : transform.Ghosts P TransformLine) (framing : Framing)
    (p : TransformLine → Bool) (ps : List P) (c : ChainState P)
    → AreOfLines stage (if_body framing (filter p setup.transforms.items)) ps
    → c ≡ record { first = []; stages = map (fresh_stage stage.soon stage.pause) ps; given = false }
    → HasChainRoom setup stage.rest c
fresh_has_room setup stage F.Nothing p ps c of made = less_has_room setup stage [] ps c
    (none_less setup.transforms.items) (no_lines (length setup.transforms.items)) of made
  where
    no_lines : (n : ℕ) → length {A = TransformLine} [] ≤ n
    no_lines n = omega arith
fresh_has_room setup stage _ p ps c of made =
    less_has_room setup stage (filter p setup.transforms.items) ps c (filter_less p setup.transforms.items)
    (filter_few p setup.transforms.items) of made

-- so it is for the parts that were made for a response
pub parts_have_room : {P : Type 0} (setup : Setup) (stage : transform.Ghosts P TransformLine)
    (q : RequestHead) (h : ResponseHead) (c : ChainState P)
    → IsOfParts stage (body_lines setup q h) c → HasChainRoom setup stage.rest c
parts_have_room setup stage q h c of = fresh_has_room setup stage (framing_of q h) (acts_on h.status h.fields)
    of.parts c of.of_lines of.chain

-- ---- the step

end_within : (b : Bool) → to_end b ≤ 1
end_within true = omega arith
end_within false = omega arith

-- the sum of the step
enter_next : (i x x' out out' text own head chain work calls hear hear' given : ℕ) → x' + i ≤ x
    → out' ≡ out + text → text ≤ head → work + calls ≤ chain → hear' ≡ hear → given ≤ 1
    → end_room + (x' + out') + hear' + pump_weight * (work + calls) + given + begin_room ≤ 6
    + (x + out + (own + (head + end_room) + pump_weight * chain) + hear)
enter_next i x x' out out' text own head chain work calls hear hear' given again len fits room heard few =
    omega (arith, again, len, fits, room, heard, few)

-- numbers that are told fall so, where their sums do
told_falls : (m m' : Option ℕ) (f g : ℕ → ℕ) (by : ℕ) → AgainsFall false m m'
    → ((x x' : ℕ) → x' + 0 ≤ x → g x' + by ≤ f x)
    → Falls (if_told m (Some 0) (λ x y. f x)) by (if_told m' (Some 0) (λ x y. g x))
told_falls None m' f g by again falls = tt
told_falls (Some x) None f g by again falls = absurd again
told_falls (Some x) (Some x') f g by again falls = falls x x' (omega (arith, again))

-- The head of the response is queued, and the chain has no more to do than its room.
pub enters : {B : Type 0} (setup : Setup) (rest : B → List ℕ → List ℕ) (calls : ℕ) (v w : View)
    (q : Request) (h : ResponseHead) (mode : Mode) (c : ChainState B) (come : Bool) (bytes behind : List ℕ)
    → HasResponse bytes h behind
    → QueuesHead (relayed_head setup q.head h) mode v w
    → left_to_do rest c [] + calls ≤ chain_room setup → Falls (enter_left setup v) begin_room
    (body_left setup rest calls w c come)
enters setup rest calls v w q h mode c come bytes behind reads queues room =
    let text = relayed_head setup q.head h in
    let len : length w.client.outbox ≡ length v.client.outbox + length text = ap (λ (s : LinkSide). length
    s.outbox) queues.client ∙ length-append v.client.outbox text in
    let again : AgainsFall false (agains_left v) (agains_left w) =
    subst (λ (s : LinkSide). AgainsFall false (agains_left v) (both w.client.look.agains s.look.agains))
    (sym queues.origin)
    (subst (λ (s : LinkSide). AgainsFall false (agains_left v) (both s.look.agains v.origin.look.agains))
    (sym queues.client) (none_fall (agains_left v))) in
    told_falls (agains_left v) (agains_left w) (λ x. enter_work setup x 0 v)
    (λ x. body_work setup rest calls x w c come) begin_room again
    (λ x x' falls. enter_next 0 x x' (length v.client.outbox)
    (length w.client.outbox) (length text) (own_room setup) (head_room setup) (chain_room setup)
    (left_to_do rest c []) calls (to_hear setup v.origin) (to_hear setup w.origin) (to_end come) falls len
    (response_fits setup bytes behind q.head h reads) room (ap (to_hear setup) queues.origin)
    (end_within come))

-- little is held where a body begins: no more than a head is long, and nothing in the chain
entered_little : {B : Type 0} (v w : View) (c : ChainState B) → w.origin ≡ v.origin → c.first ≡ []
    → length v.origin.inbox ≤ head_limit → HoldsLittle w c
entered_little v w c same none held =
    let kept : length w.origin.inbox ≡ length v.origin.inbox = ap (λ (s : LinkSide). length s.inbox) same in
    let first : length c.first ≡ 0 = ap length none in
    record { held = omega (arith, kept, held); front = omega (arith, first) }

-- the head of the response is queued, and no stage has begun
pub queues_lower : {B : Type 0} (ct ot : Bool) (setup : Setup) (refuses : Type 0) (rest : B → List ℕ → List ℕ)
    (v w : View) (q : Request) (h : ResponseHead) (text : List ℕ) (mode : Mode) (r : Relay B)
    → IfTold ct ot (Relays setup refuses v q h) → r.driven.chain.first ≡ [] → HasChainRoom setup rest
    r.driven.chain → IfTold ct ot (text ≡ relayed_head setup q.head h) → QueuesHead text mode v w
    → LowersEntering ct ot setup rest v w r
queues_lower ct ot setup refuses rest v w q h text mode r relays none room is queues = record {
  lines = room.lines;
  little = λ told also. entered_little v w r.driven.chain queues.origin none (relays told also).held;
  falls = λ told also.
      let reads = (relays told also).reads in
      enters setup rest (calls_before r.driven.chain) v w q h mode r.driven.chain (has_come r) reads.from
      v.origin.inbox reads.reads
      (subst (λ (xs : List ℕ). QueuesHead xs mode v w) (is told also) queues) room.room;
}

-- ---- the stages begin

calls_within : (ts : List (Option StageContinuation)) → upstream_calls ts ≤ 2 * length ts
calls_within [] = omega arith
calls_within (t ∷ ts) = let few : calls_of t ≤ 2 = two_at_most t in omega (arith, few, calls_within ts)
  where
    by_error : (b : Bool) → (if b then 1 else 2) ≤ 2
    by_error true = omega arith
    by_error false = omega arith

    two_at_most : (t : Option StageContinuation) → calls_of t ≤ 2
    two_at_most None = omega arith
    two_at_most (Some t) = by_error t.passed_error

-- calls count while the chain runs
counted_within : (b : Bool) (e n : ℕ) → (b ≡ true → e ≤ n) → (if b then e else 0) ≤ n
counted_within true e n less = less refl
counted_within false e n less = omega arith

no_more_calls : {B : Type 0} (setup : Setup) (rest : B → List ℕ → List ℕ) (n n' : ℕ) (v : View)
    (c d : ChainState B) (come now : Bool) → left_to_do rest d [] ≡ left_to_do rest c [] → n' ≤ n
    → to_end now ≤ to_end come
    → NoMore (body_left setup rest n v c come) (body_left setup rest n' v d now)
no_more_calls setup rest n n' v c d come now same fewer ends = by_told (agains_left v)
  where
    by_told : (t : Option ℕ)
        → NoMore (if_told t (Some 0) (λ again upload. body_work setup rest n again v c come))
        (if_told t (Some 0) (λ again upload. body_work setup rest n' again v d now))
    by_told None = tt
    by_told (Some x) = less (end_room + (x + length v.client.outbox) + to_hear setup v.origin)
        (left_to_do rest c []) (left_to_do rest d []) (to_end come) (to_end now) same fewer ends
      where
        less : (a l l' g g' : ℕ) → l' ≡ l → n' ≤ n → g' ≤ g → a + pump_weight * (l' + n') + g' ≤ a
            + pump_weight * (l + n) + g
        less a l l' g g' same fewer ends = omega (arith, same, fewer, ends)

-- what goes on can end at once, with no more left
pub ended_no_more : (m m' upload : Option ℕ) (f : ℕ → ℕ → ℕ) → NoMore m (if_told m' upload f)
    → NoMore m (if_told m' (Some 0) (λ x y. 0))
ended_no_more None m' upload f kept = tt
ended_no_more (Some x) None upload f kept = absurd kept
ended_no_more (Some x) (Some x') None f kept = absurd kept
ended_no_more (Some x) (Some x') (Some y) f kept = omega arith

module _ {B : Type 0} (setup : Setup) (rest : B → List ℕ → List ℕ) (v : View) where
  -- memory lacked
  lacks_begun : (r s : Relay B) → BeginsLower setup rest S.Lacks v r s
  lacks_begun r s = record {
    lines = tt;
    first = tt;
    falls = ended_no_more (unbegun_left setup rest v r) (agains_left v) (Some 0) (λ x y. body_work setup rest
        (calls_before r.driven.chain) x v r.driven.chain (has_come r)) (no_more_same (unbegun_left setup rest
        v r));
  }

  -- what the chain gets at its start gives it no more to do
  started : (state : BodyState) (c d : ChainState B) → GetsStart state c d
      → (d.stages ≡ c.stages) × (left_to_do rest d [] ≡ left_to_do rest c [])
  started state.Unfinished c d gets = (
    ap (λ (x : ChainState B). x.stages) gets,
    ap (λ (x : ChainState B). left_to_do rest x []) gets,
  )
  started state.Ended c d gets = (
    ap (λ (x : ChainState B). x.stages) gets,
    ap (λ (x : ChainState B). left_to_do rest x []) gets,
  )
  started state.Bad c d gets = absurd gets

  started_first : (state : BodyState) (c d : ChainState B) → GetsStart state c d → d.first ≡ c.first
  started_first state.Bad c d gets = absurd gets
  started_first _ c d gets = ap (λ (x : ChainState B). x.first) gets

  -- nothing had come before it began
  begun_come : (r : Relay B) (now : Bool) → IsUnbegun r → to_end now ≤ to_end (has_come r)
  begun_come r now fresh =
      let none : has_come r ≡ false = ap (λ g. g || is_some r.short) fresh.going
      ∙ ap (λ (x : Option Short). false || is_some x) fresh.goes_on in
      omega (arith, end_within now, ap to_end none)

  pub begins_lower : {stages : ℕ} (step : BodyStep) (state : BodyState) (r s : Relay B) (a b : Context)
      → IsUnbegun r
      → OnGoes step (GetsStart state r.driven.chain s.driven.chain) → BeginsRelay step stages s a b
      → BeginsLower setup rest step v r s
  begins_lower S.Goes state r s a b fresh gets begins =
      let is = started state r.driven.chain s.driven.chain gets in
      record {
        lines = same_lines setup rest r.driven.chain s.driven.chain is.0;
        first = started_first state r.driven.chain s.driven.chain gets;
        falls = no_more_calls setup rest (calls_before r.driven.chain) (calls_left s.driven) v
            r.driven.chain s.driven.chain (has_come r) (has_come s) is.1
            (counted_within s.driven.running (upstream_calls s.driven.table.items)
            (calls_before r.driven.chain) (λ runs.
            few_calls (upstream_calls s.driven.table.items) (length s.driven.table.items)
            (length s.driven.chain.stages) (length r.driven.chain.stages) (calls_within s.driven.table.items)
            (begins.chain.driven runs).len (ap length is.0))) (begun_come r (has_come s) fresh);
      }
    where
      few_calls : (e t d c : ℕ) → e ≤ 2 * t → t ≡ d → d ≡ c → e ≤ 2 * c
      few_calls e t d c within len same = omega (arith, within, len, same)
  begins_lower S.Waits state r s a b fresh gets begins = absurd gets
  begins_lower (S.Finishes end) state r s a b fresh gets begins = absurd gets
  begins_lower (S.Closes end) state r s a b fresh gets begins = absurd gets
  begins_lower S.Lacks state r s a b fresh gets begins = lacks_begun r s

  -- both ends are roused that must work
  pub begins_settled : (step result : BodyStep) (r m s : Relay B) → BeginsLower setup rest step v r m
      → OnGoes step ⊤ → SettledAs step result → s ≡ record m { reader = s.reader }
      → BeginsLower setup rest result v r s
  begins_settled S.Goes S.Goes r m s lower on settled is = subst (λ (x : Relay B). BeginsLower setup rest
      S.Goes v r x) (sym is) (record { lines = lower.lines; first = lower.first; falls = lower.falls })
  begins_settled S.Goes S.Lacks r m s lower on settled is = lacks_begun r s
  begins_settled S.Goes _ r m s lower on settled is = absurd settled
  begins_settled S.Lacks result r m s lower on settled is = subst (λ (x : BodyStep). BeginsLower setup rest x
      v r s) (sym settled) (lacks_begun r s)
  begins_settled _ result r m s lower on settled is = absurd on

  -- a body that began goes on, or memory lacked
  pub begun_goes : {stages : ℕ} (step : BodyStep) (s : Relay B) (a b : Context)
      → BeginsRelay step stages s a b → OnGoes step ⊤
  begun_goes S.Goes s a b begins = tt
  begun_goes S.Lacks s a b begins = tt
  begun_goes _ s a b begins = begins.chain.runs
