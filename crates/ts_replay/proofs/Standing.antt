-- What stands of a transaction between two recorded sides with their layers, of whose group nothing is
-- pending: it has ended, its links did what the recording says, what it sent arrived, and who answered gave
-- what is shown.
use Rattle.std.proofs.Common.{◌≡◌, ◌∙◌, ℕ, zero, suc, ◌+◌, ◌<◌, ◌≤◌, List, [], Vec, Global, Option, Some}
use Rattle.std.proofs.Common.{None, length, inl, inr, refl, sym, ap, subst, arith, true}
use Rattle.std.specs.Prelude.{is_some}
use Rattle.std.specs.Option.{option_map}
use Rattle.std.proofs.lemmas.Option.{same_Some}
use Rattle.ts_block.specs.Sent.{HasPlainRules}
use Rattle.ts_config.specs.declared.setup.Setup.{Setup}
use Rattle.ts_exchange.specs.Left.{IsSameOrigin, RefusesIf, look_if}
use Rattle.ts_hooks.specs.declared.txn_end.TxnEnd.{TxnEnd}
use Rattle.ts_intercept.specs.Seen.{inside, lines_in, plan_told, seen, unless_leaves}
use Rattle.ts_intercept.specs.declared.choice.Choice.{Choice}
use Rattle.ts_journal.specs.declared.entry.TheConstants.{GREATEST}
use Rattle.ts_layers.specs.Layers.{IsLayerOver, IsOriginOver, IsSettled, IsTapped, origin_inside}
use Rattle.ts_layers.specs.Links.{lifted, lifted_if, lifted_look, unlifted_if}
use Rattle.ts_layers.specs.declared.layers.PlainExchange.{PlainExchange}
use Rattle.ts_link.specs.Counts.{Rose}
use Rattle.ts_link.specs.Link.{Look, Plan, all_of}
use Rattle.ts_link.specs.MemLink.{LinkState, look_of, plan_of}
use Rattle.ts_phases.specs.Ends.{EndFact}
use Rattle.ts_phases.specs.Facts.{TookExactly}
use Rattle.ts_phases.specs.Holding.{IsSameLink}
use Rattle.ts_phases.specs.View.{HasFailed, LinkSide, View}
use Rattle.ts_phases.specs.declared.parts.Sent.{Sent}
use Rattle.ts_phases.specs.declared.phase.Phase.TheVariants as P
use Rattle.ts_record.specs.Links.{GoesAsRecorded}
use Rattle.ts_relay.proofs.Settled.{phase_fact}
use Rattle.ts_replay.specs.AtOrigin.{StandsAt}
use Rattle.ts_replay.specs.Exchanged.{HasTaken, IsLeftBetween, leave_of, leave_told}
use Rattle.ts_replay.specs.Recorded.{RecordedCarrier, RecordedFront, layered_client, layered_link}
use Rattle.ts_replay.specs.Recorded.{layered_origin, recorded_client, recorded_link, recorded_uploads}
use Rattle.ts_replay.specs.Recorded.{seen_carried, seen_client}
use Rattle.ts_replay.specs.Reports.{BothSides}
use Rattle.ts_replay.specs.declared.at_origin.AtOrigin.{AtOrigin}
use Rattle.ts_replay.proofs.Answering.{AnswersHead, answer_is}
use Rattle.ts_replay.proofs.Arriving.{arrives, strips_known}
use Rattle.ts_replay.proofs.SentHead.{IsSentIf}
use Rattle.ts_request.specs.Carrying.{plan_if, request_lines, stays_plan}
use Rattle.ts_request.specs.Delivered.{upload_mode_of}
use Rattle.ts_request.specs.Pairing.{CarrierRefuses}
use Rattle.ts_request.specs.Sent.{RefusesUpload}
use Rattle.ts_request.specs.Upload.{Strips}
use Rattle.ts_stock.specs.StockTransform.{stock_transform}
use Rattle.ts_tap.specs.Optional.{client_of}
use Rattle.ts_tap.specs.declared.lifted.Lifted.{Lifted}
use Rattle.ts_upstream.specs.InMemory.{memory_link}
use Rattle.ts_wire.specs.declared.frames.Mode.{Mode}

-- ---- what a recorded side may do

-- one that never leaves has no fault
stays_whole : (may_take : Option ℕ) (taken faults : ℕ) → option_map (λ m. taken + m) may_take ≡ None
    → (0 < faults → may_take ≡ Some 0) → faults ≡ 0
stays_whole None taken zero none failed = refl
stays_whole None taken (suc n) none failed = absurd (let left : None ≡ Some 0 = failed (omega arith) in cc)
stays_whole (Some m) taken faults none failed = absurd (cc)

pub no_fault : (l : LinkState) → GoesAsRecorded l → leave_of (look_of l) ≡ None → l.faults ≡ 0
no_fault l goes stays = stays_whole l.may_take (length l.taken) l.faults stays goes.failed

-- One that leaves took no more than it takes before, and as much once it has a fault.
pub record TakesUpTo (most : ℕ) (l : LinkState) : Type 0 where
  pub few : length l.taken ≤ most
  pub all : 0 < l.faults → length l.taken ≡ most

leaves_full : (may_take : Option ℕ) (taken faults most : ℕ)
    → option_map (λ m. taken + m) may_take ≡ Some most → (0 < faults → may_take ≡ Some 0)
    → (taken ≤ most) × (0 < faults → taken ≡ most)
leaves_full None taken faults most is failed = absurd (cc)
leaves_full (Some m) taken faults most is failed =
    let all : taken + m ≡ most = same_Some (taken + m) most is in (
      omega (arith, all),
      λ some. let none : m ≡ 0 = same_Some m 0 (failed some) in omega (arith, all, none),
    )

pub takes_up_to : (most : ℕ) (l : LinkState) → GoesAsRecorded l → leave_of (look_of l) ≡ Some most
    → TakesUpTo most l
takes_up_to most l goes leaves =
    let full = leaves_full l.may_take (length l.taken) l.faults most leaves goes.failed in
    record { few = full.0; all = full.1 }

-- where a count rose, it is not 0
rose_some : (base faults : ℕ) → Rose base faults → 0 < faults
rose_some base faults rose = omega (arith, rose)

-- ---- the origin's end

-- the origin is still lifted as it was
still_lifted : (o : Option (Lifted LinkState)) (origin : LinkState) → unlifted_if o ≡ Some origin
    → o ≡ Some (lifted origin)
still_lifted None origin is = absurd (let none : None ≡ Some origin = is in cc)
still_lifted (Some l) origin is = ap (λ o. Some (lifted o)) (same_Some l.origin origin is)

-- and where there is none inside, there is none
none_inside : (o : Option (Lifted LinkState)) → unlifted_if o ≡ None → is_some o ≡ true → ⊥
none_inside None none some = cc
none_inside (Some l) none some = let wrong : Some l.origin ≡ None = none in cc

-- an upload of a recorded side's own wrote nothing
none_carried : (o : Option (Lifted LinkState)) → (inside (lifted_look look_of) o).carried ≡ []
none_carried None = refl
none_carried (Some l) = refl

-- it was made over that origin
record WasMade (setup : Setup) (given : Option LinkState) (o : Option RecordedCarrier) : Type 0 where
  carrier : RecordedCarrier
  there : o ≡ Some carrier
  over : IsOriginOver setup true given carrier

was_made : (setup : Setup) (given : Option LinkState) (o : Option RecordedCarrier)
    → IsLayerOver setup true given o → WasMade setup given o
was_made setup given None over = absurd over
was_made setup given (Some k) over = record { carrier = k; there = refl; over = over }

-- one that is the end over an origin that never leaves is over one that never does
abbrev plan_over : Option (Lifted LinkState) → Option Plan
plan_over o = stays_plan (plan_told (inside (lifted_look look_of) o).plan)

stays_by : (m : Option ℕ) (p q : Plan) → stays_plan (unless_leaves m p) ≡ Some q → m ≡ None
stays_by None p q is = refl
stays_by (Some n) p q is = absurd (let none : None ≡ Some q = is in cc)

stays_so : (l m : LinkState) → leave_of (look_of m) ≡ None
    → plan_over (Some (lifted l)) ≡ plan_over (Some (lifted m)) → leave_of (look_of l) ≡ None
stays_so l m stays same =
    stays_by (leave_of (look_of l)) (plan_of l) (plan_of m)
    (same ∙ ap (λ n. stays_plan (unless_leaves n (plan_of m))) stays ∙ ap (λ n. plan_if n (plan_of m)) stays)

-- ---- what stands

-- what a transaction saw that had an origin
abbrev pub viewed : LinkSide → LinkSide → Sent → View
viewed client origin sent = record { client = client; dialed = true; origin = origin; sent = sent }

-- what is refused of the two sides of a transaction
abbrev pub Refused : Setup → BothSides → Type 0
Refused setup sides = RefusesUpload setup.requests.items sides.client

-- What is at the origin of a transaction that sent this head, where these bytes were taken in its place, and
-- what answers it there, of which these are all bytes.
pub record HasArrived (setup : Setup) (sides : BothSides) (mode : Option Mode) (kept all request : List ℕ)
    : Type 0 where
  pub at : AtOrigin
  pub stands : StandsAt setup.requests.items sides.client request at
  pub taken : HasTaken kept mode at
  pub answers : AnswersHead setup.intercepts.items at.request sides.origin all

-- The transaction that left this, and in whose origin's place these bytes were taken: its two sides and what it
-- had queued, what was shown of its client, and how it ended with what holds then; what is at its origin of a
-- head that was sent, and answers it there; and its tap. The link to its origin never failed.
pub record StandsEnded (setup : Setup) (sides : BothSides) (left : PlainExchange LinkState LinkState)
    (kept : List ℕ) : Type 0 where
  pub plain : HasPlainRules setup
  pub client : LinkSide
  pub origin : LinkSide
  pub sent : Sent
  pub shown : List ℕ
  pub strips : Strips sides.client shown
  pub took : client.look.taken ≡ left.parts.client.taken
  pub gives : all_of client.look ≡ shown
  pub leaves : leave_of (look_of left.parts.client) ≡ sides.leave
  pub head : left.parts.head ≡ sent.head
  pub mode : left.parts.mode ≡ sent.mode
  pub failed : HasFailed client → 0 < left.parts.client.faults
  pub never : HasFailed origin → ⊥
  pub end : TxnEnd
  pub end_is : left.parts.end ≡ Some end
  pub fact : EndFact setup (Refused setup sides) (viewed client origin sent) end
  pub arrived : (request : List ℕ) → IsSentIf request → TookExactly (Refused setup sides) request origin
      → HasArrived setup sides left.upload kept (all_of origin.look) request
  pub tapped : IsTapped memory_link setup.tap left.parts.client left.sum

-- of a transaction between two recorded sides: it has ended, and has its origin and what was taken in its place
module _ (setup : Setup) (sides : BothSides) (left : PlainExchange LinkState LinkState)
    (h : IsLeftBetween setup sides left) where
  pub an_end : (end : TxnEnd) × (left.parts.end ≡ Some end)
  an_end = by_end left.parts.end refl
    where
      by_end : (o : Option TxnEnd) → left.parts.end ≡ o → (end : TxnEnd) × (left.parts.end ≡ Some end)
      by_end None none =
          let spent : GREATEST ≤ h.state.next =
          h.exchanges.exchanges.rests refl h.idle (sym h.exchanges.inside.end_is ∙ none) in
          let few = h.numbers in
          absurd (omega (arith, spent, few))
      by_end (Some end) is = (end, is)

  pub has_ended : left.parts.end ≡ None → ⊥
  has_ended none =
      let end = an_end in let both : Some end.0 ≡ None = sym end.1 ∙ none in cc

  -- the origin is the one inside the end that is left
  abbrev choice : Choice (Lifted LinkState)
  choice = h.exchanges.last.origin.inner

  origin_is : left.parts.origin ≡ unlifted_if choice.origin
  origin_is = h.exchanges.inside.origin ∙ ap origin_inside h.exchanges.there

  pub has_origin : left.parts.origin ≡ None → ⊥
  has_origin none =
      none_inside choice.origin (sym origin_is ∙ none)
      (h.exchanges.chosen.there ∙ ap is_some (h.exchanges.stays.handed ∙ ap lifted_if h.ends_are.dialed))

  pub has_kept : left.taken ≡ None → ⊥
  has_kept none =
      let both : None ≡ Some h.exchanges.last.origin.kept =
      sym (ap (option_map (λ (v : Vec ℕ Global). v.items)) none) ∙ h.exchanges.kept.bytes in
      cc

-- and each side gave or may still give all of its bytes, it is known what was shown, nothing waits, and no
-- answer was read before its request stood there
module _ (setup : Setup) (sides : BothSides) (left : PlainExchange LinkState LinkState) (link : LinkState)
    (kept : List ℕ) (h : IsLeftBetween setup sides left) (dialed : left.parts.origin ≡ Some link)
    (keeps : option_map (λ (v : Vec ℕ Global). v.items) left.taken ≡ Some kept)
    (whole : all_of (look_of left.parts.client) ≡ (look_of left.parts.client).source)
    (goes : GoesAsRecorded link) (whole_link : all_of (look_of link) ≡ (look_of link).source)
    (settled : IsSettled h.exchanges.shown.client h.exchanges.last) where
  -- what was left with the layers on
  abbrev front : RecordedFront
  front = h.exchanges.shown.client

  abbrev carrier : RecordedCarrier
  carrier = h.exchanges.last

  abbrev chooses : Choice (Lifted LinkState)
  chooses = carrier.origin.inner

  -- the client inside, and the origin
  client_is : left.parts.client ≡ client_of front.client
  client_is = h.exchanges.inside.client

  link_is : chooses.origin ≡ Some (lifted link)
  link_is = still_lifted chooses.origin link (sym (origin_is setup sides left h) ∙ dialed)

  whole_inside : all_of (seen_client front.client) ≡ (seen_client front.client).source
  whole_inside = subst (λ (l : LinkState). all_of (look_of l) ≡ (look_of l).source) client_is whole

  -- the two links are those between which it was made
  same_client : IsSameLink (look_of h.ends.client) (seen_client front.client)
  same_client =
      let same = h.exchanges.exchanges.keeps.client_is in
      let inner = h.exchanges.over.client.inside in
      record {
        source = same.source ∙ ap (λ (l : LinkState). (look_of l).source) inner;
        name = same.name ∙ ap (λ (l : LinkState). (look_of l).name) inner;
        plan = same.plan ∙ ap (λ (l : LinkState). (look_of l).plan) inner;
        before = same.before;
      }

  made : WasMade h.ends.setup h.ends.origin h.exchanges.layered.origin
  made = was_made h.ends.setup h.ends.origin h.exchanges.layered.origin h.exchanges.over.origin

  same_carrier : IsSameLink (layered_link.look made.carrier) (layered_link.look carrier)
  same_carrier =
      subst (λ o. IsSameOrigin layered_link.look (Some made.carrier) o) h.exchanges.there
      (subst (λ o. IsSameOrigin layered_link.look o h.exchanges.shown.origin) made.there
      h.exchanges.exchanges.keeps.origin_is)

  origin_made : made.carrier.origin.inner.origin ≡ Some (lifted h.ends_are.origin)
  origin_made = made.over.chooses.origin_is ∙ ap lifted_if h.ends_are.dialed

  -- the lines are those of the setup
  lines_are : request_lines carrier ≡ setup.requests.items
  lines_are =
      ap (λ (x : Setup). x.requests.items) (h.exchanges.stays.carries ∙ h.ends_are.setup_is)

  intercepts_are : lines_in chooses ≡ setup.intercepts.items
  intercepts_are =
      ap (λ (x : Setup). x.intercepts.items) (h.exchanges.stays.chooses ∙ h.ends_are.setup_is)

  -- what the client gives, and the origin
  client_gives : (seen_client front.client).source ≡ sides.client
  client_gives = same_client.source ∙ h.ends_are.gives

  origin_gives : all_of (look_of link) ≡ sides.origin
  origin_gives =
      whole_link
      ∙ sym (ap (λ o. (inside (lifted_look look_of) o).source) link_is) ∙ same_carrier.source
      ∙ ap (λ o. (inside (lifted_look look_of) o).source) origin_made ∙ h.ends_are.answers

  -- what the link refuses is what the setup says
  to_refused : RefusesUpload (request_lines carrier) (seen_client front.client).source → Refused setup sides
  to_refused r =
      subst (λ c. RefusesUpload setup.requests.items c) client_gives
      (subst (λ ls. RefusesUpload ls (seen_client front.client).source) lines_are r)

  from_refused : Refused setup sides → RefusesUpload (request_lines carrier) (seen_client front.client).source
  from_refused r =
      subst (λ ls. RefusesUpload ls (seen_client front.client).source) (sym lines_are)
      (subst (λ c. RefusesUpload setup.requests.items c) (sym client_gives) r)

  abbrev CarrierRefused : Type 0
  CarrierRefused = CarrierRefuses recorded_uploads.refuses carrier (seen_client front.client).source

  to : CarrierRefused → Refused setup sides
  to (inl r) = to_refused r
  to (inr wrong) = absurd wrong

  -- the origin never leaves
  stays : leave_of (look_of link) ≡ None
  stays =
      stays_so link h.ends_are.origin h.ends_are.stays
      (sym (ap plan_over link_is) ∙ same_carrier.plan ∙ ap plan_over origin_made)

  -- ---- what it saw

  abbrev saw : View
  saw = h.exchanges.exchanges.view

  client_look : saw.client.look ≡ layered_client.look front
  client_look = h.exchanges.exchanges.seen.client

  origin_look : saw.origin.look ≡ layered_link.look carrier
  origin_look = h.exchanges.exchanges.seen.origin ∙ ap (look_if layered_link.look) h.exchanges.there

  saw_is : saw ≡ viewed saw.client saw.origin saw.sent
  saw_is = ap (λ d. record saw { dialed = d })
      (h.exchanges.exchanges.seen.dialed ∙ ap is_some h.exchanges.there)

  -- what holds of such an end does
  end_fact : EndFact setup (Refused setup sides) (viewed saw.client saw.origin saw.sent)
      (an_end setup sides left h).0
  end_fact =
      let end = an_end setup sides left h in
      let fact = (h.exchanges.exchanges.ended end.0 (sym h.exchanges.inside.end_is ∙ end.1)).fact refl refl in
      let here : EndFact setup CarrierRefused (viewed saw.client saw.origin saw.sent) end.0 =
      subst (λ v. EndFact setup CarrierRefused v end.0) saw_is
      (subst (λ s. EndFact s CarrierRefused saw end.0) (h.exchanges.over.setup ∙ h.ends_are.setup_is)
      (subst (λ o. EndFact h.exchanges.layered.setup
      (RefusesIf layered_origin.refuses o (layered_client.look front).source) saw end.0) h.exchanges.there
      fact)) in
      phase_fact setup CarrierRefused (Refused setup sides) to (λ r. inl (from_refused r))
      (viewed saw.client saw.origin saw.sent) (P.Ended end.0) here

  -- ---- what is at its origin

  -- what was kept is all that was taken there
  took_kept : (seen_carried carrier.origin).taken ≡ kept
  took_kept =
      h.exchanges.kept.all refl h.exchanges.stays.keeping (none_carried chooses.origin)
      ∙ same_Some carrier.origin.kept kept (sym h.exchanges.kept.bytes ∙ keeps)

  -- what answers a head that stands there
  head_answers : (at : AtOrigin) → HasTaken kept left.upload at
      → AnswersHead setup.intercepts.items at.request sides.origin (all_of saw.origin.look)
  head_answers at has =
      subst (λ (l : Look). AnswersHead setup.intercepts.items at.request sides.origin (all_of l))
      (sym origin_look)
      (subst (λ ls. AnswersHead ls at.request sides.origin (all_of (seen (lifted_look look_of) chooses)))
      intercepts_are
      (answer_is (lifted_look look_of) chooses (lifted link) sides.origin kept left.upload at link_is
      origin_gives took_kept has settled.on_time (h.exchanges.chosen.answered refl)))

  at_origin : (request : List ℕ) → IsSentIf request → TookExactly (Refused setup sides) request saw.origin
      → HasArrived setup sides left.upload kept (all_of saw.origin.look) request
  at_origin request is took =
      let here = subst (λ r. TookExactly r request saw.origin)
      (ap (λ ls. RefusesUpload ls sides.client) (sym lines_are)
      ∙ ap (λ c. RefusesUpload (request_lines carrier) c) (sym client_gives)) took in
      let (at, stands, taken) = arrives recorded_client recorded_link recorded_uploads stock_transform front
      carrier refl refl h.exchanges.paired (none_carried chooses.origin) settled.sent whole_inside
      (h.exchanges.shows refl) request is saw.origin origin_look here in
      let has : HasTaken kept left.upload at =
      subst (λ m. HasTaken kept m at) (sym h.exchanges.upload)
      (subst (λ t. HasTaken t (upload_mode_of carrier) at) took_kept taken) in
      record {
        at = at;
        stands = subst (λ c. StandsAt setup.requests.items c request at) client_gives
            (subst (λ ls. StandsAt ls (seen_client front.client).source request at) lines_are stands);
        taken = has;
        answers = head_answers at has;
      }

  -- the link to it never failed
  never_failed : HasFailed saw.origin → ⊥
  never_failed rose =
      let none : link.faults ≡ 0 = no_fault link goes stays in
      let some : 0 < (layered_link.look carrier).faults = subst (λ (l : Look). 0 < l.faults) origin_look
      (rose_some saw.origin.base saw.origin.look.faults rose) in
      let here : 0 < link.faults =
      subst (λ o. 0 < (inside (lifted_look look_of) o).faults) link_is some in
      omega (arith, none, here)

  -- so it stands
  pub stands_ended : StandsEnded setup sides left kept
  stands_ended = record {
    plain = h.ends_are.plain;
    client = saw.client;
    origin = saw.origin;
    sent = saw.sent;
    shown = all_of (layered_client.look front);
    strips = subst (λ c. Strips c (all_of (layered_client.look front))) (whole_inside ∙ client_gives)
        (strips_known seen_client front settled.known (h.exchanges.shows refl));
    took = ap (λ (l : Look). l.taken) client_look ∙ ap (λ (l : LinkState). l.taken) (sym client_is);
    gives = ap (λ (l : Look). all_of l) client_look;
    leaves = ap (λ (l : LinkState). leave_of (look_of l)) client_is ∙ ap leave_told same_client.plan
        ∙ h.ends_are.leaves;
    head = h.exchanges.inside.head ∙ h.exchanges.exchanges.seen.head;
    mode = h.exchanges.inside.mode ∙ h.exchanges.exchanges.seen.mode;
    failed = λ rose. subst (λ (l : LinkState). 0 < l.faults) (sym client_is)
        (subst (λ (l : Look). 0 < l.faults) client_look
        (rose_some saw.client.base saw.client.look.faults rose));
    never = never_failed;
    end = (an_end setup sides left h).0;
    end_is = (an_end setup sides left h).1;
    fact = end_fact;
    arrived = at_origin;
    tapped = subst (λ (x : Setup). IsTapped memory_link x.tap left.parts.client left.sum) h.ends_are.setup_is
        h.exchanges.tapped;
  }
