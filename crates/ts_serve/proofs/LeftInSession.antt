-- What becomes of a client of a session: its transaction was its last one, or it waits behind it, and goes on
-- or not.
use Rattle.std.proofs.Common.{◌≡◌, ◌∙◌, ◌⊎◌, inl, inr, ℕ, ◌<◌, List, length, Option, Some}
use Rattle.std.proofs.Common.{None}
use Rattle.std.proofs.Common.{Bool, true, false, is_some, refl, sym, ap, subst, arith}
use Rattle.std.proofs.lemmas.Bool.{lt-ltb}
use Rattle.std.specs.Prelude.{IfSome, ◌&&◌, nat_lt}
use Rattle.ts_config.specs.declared.setup.TransformLine.{TransformLine}
use Rattle.ts_exchange.specs.Ends.{Ends}
use Rattle.ts_exchange.specs.Left.{end_of, has_ended}
use Rattle.ts_group.specs.Either.{EitherFits, EitherSound, either_of}
use Rattle.ts_group.specs.declared.either.Either.TheVariants.{One, Other}
use Rattle.ts_group.specs.declared.either.EitherTag.TheVariants as tag
use Rattle.ts_history.proofs.Done.{left_number, txn_done}
use Rattle.ts_history.proofs.Last.{last_session, last_spent, last_waiting}
use Rattle.ts_history.proofs.Left.{left_stands, place_left}
use Rattle.ts_history.specs.Sessions.{HasSession, IsDoneInSession, IsLastOf, IsNote, IsNoteOf, StandsAt}
use Rattle.ts_history.specs.Sessions.{request_of, response_of}
use Rattle.ts_journal.specs.Log.{Log}
use Rattle.ts_journal.specs.State.{State}
use Rattle.ts_layers.specs.Layers.{IsLayeredBetween, LeavesExchange}
use Rattle.ts_layers.specs.Links.{ClientEnd, OriginEnd}
use Rattle.ts_layers.specs.Sessions.{IsLastClient, IsNextSpan, MayGoOn, shown, span_link, spanned_link}
use Rattle.ts_layers.specs.Sessions.{spanned_origin, unspanned_if, with_client, without_client}
use Rattle.ts_layers.specs.declared.layers.PlainExchange.{PlainExchange}
use Rattle.ts_layers.specs.declared.session.EndedParts.{EndedParts}
use Rattle.ts_link.specs.Counts.{Rose}
use Rattle.ts_link.specs.declared.link.Link as link
use Rattle.ts_session.specs.Course.{span_same}
use Rattle.ts_session.specs.declared.course.Course.{Course}
use Rattle.ts_session.specs.declared.spanned.Spanned.{Spanned}
use Rattle.ts_transform.specs.declared.transform.Transform as transform
use Rattle.ts_txn.specs.declared.making.TxnParts.{TxnParts}
use Rattle.ts_txn.specs.declared.retired.Noted.{Noted}
use Rattle.ts_txn.specs.declared.retired.Retired.{Retired}
use Rattle.ts_txn.specs.declared.txn.Txn.{Txn}
use Rattle.ts_waiting.specs.Waiting.{CountsFault, HasEnded, HoldsAnswer, IsNewWait, IsSoundWait, IsWaitOf}
use Rattle.ts_waiting.specs.Waiting.{has_answered, is_ready}
use Rattle.ts_waiting.specs.declared.polling.WaitState.{WaitState}
use Rattle.ts_waiting.specs.declared.polling.WaitState.TheVariants as W
use Rattle.ts_waiting.specs.declared.waiting.WaitTag.{WaitTag}
use Rattle.ts_waiting.specs.declared.waiting.Waiting.{Waiting}
use Rattle.ts_serve.proofs.Ending.{stood_ended}
use Rattle.ts_serve.proofs.InSession.{same_at}
use Rattle.ts_serve.specs.SessionTerms.{EndsExchange, ExchangeAt, ExchangeFits, ExchangeTag, InSession}
use Rattle.ts_serve.specs.SessionTerms.{InSessionTag, ExchangeSound, GoesOnBehind, IsDoneBy}
use Rattle.ts_serve.specs.SessionTerms.{IsLeftWith, IsSpentBy, KeepsSession, KeepsWaiting, LivesInSession}
use Rattle.ts_serve.specs.SessionTerms.{StandsBehindIf, StandsWaiting, noted_of_ended, whose_at, whose_waits}
use Rattle.ts_serve.specs.Tenants.{HasEndedIn, HasStoodIn}
use Rattle.ts_serve.specs.declared.sessions.Ended.{Ended}
use Rattle.ts_serve.specs.declared.sessions.SessionTerms.{SessionTerms}
use Rattle.ts_serve.specs.declared.whose.TheConstants.{LAST_PLACE}

-- an origin is there where its link to a session's client was
pub unspanned_some : {O : Type 0} (o : Option (Spanned O)) → is_some (unspanned_if o) ≡ is_some o
unspanned_some None = refl
unspanned_some (Some o) = refl

-- what is so of what was inside is so of what is seen of it
pub of_inside : {T A : Type 0} (f : T → A) (x t : T) (a : A) → x ≡ t → a ≡ f x → a ≡ f t
of_inside f x t a same is = is ∙ ap f same

-- what is left of a transaction has its number, and an origin where it held one
pub left_whose : {C O : Type 0} (parts : TxnParts (Course C) (Spanned O)) (rest : EndedParts O) (number : ℕ)
    (has : Bool) → rest ≡ without_client parts → parts.number ≡ number → is_some parts.origin ≡ has
    → (rest.number ≡ number) × (is_some rest.origin ≡ has)
left_whose {O = O} parts rest number has is number_is origin_is = (
  ap (λ (p : EndedParts O). p.number) is ∙ number_is,
  ap (λ (p : EndedParts O). is_some p.origin) is ∙ unspanned_some parts.origin ∙ origin_is,
)

-- and so has it with the client
pub last_whose : {C O : Type 0} (parts : TxnParts (Course C) (Spanned O)) (last : TxnParts C O) (number : ℕ)
    (has : Bool) → last ≡ with_client (without_client parts) last.client → parts.number ≡ number
    → is_some parts.origin ≡ has → (last.number ≡ number) × (is_some last.origin ≡ has)
last_whose {C = C} {O = O} parts last number has is number_is origin_is = (
  ap (λ (p : TxnParts C O). p.number) is ∙ number_is,
  ap (λ (p : TxnParts C O). is_some p.origin) is ∙ unspanned_some parts.origin ∙ origin_is,
)

-- a client that waits behind a transaction is the client of that one
pub waits_whose : {C O : Type 0} (w : Waiting C (Ended O)) (left : Ended O) (number place : ℕ) (has : Bool)
    → w.left ≡ left → left.parts.number ≡ number → left.place ≡ place → is_some left.parts.origin ≡ has
    → whose_waits w ≡ whose_at number place has
waits_whose {O = O} w left number place has is number_is place_is origin_is = same_at
    (ap (λ (l : Ended O). l.parts.number) is ∙ number_is) (ap (λ (l : Ended O). l.place) is ∙ place_is)
    (ap (λ (l : Ended O). is_some l.parts.origin) is ∙ origin_is)

-- a world that is made new is one of these parts
new_is : {C L : Type 0} (next : Course C) (left : L) (w : Waiting C L) → IsNewWait next left w
    → w ≡ record { span = next; left = left; state = W.Unstarted }
new_is {C = C} {L = L} next left w new =
    let of : Course C → L → WaitState → Waiting C L = λ s l x. record { span = s; left = l; state = x } in
    ap (λ s. of s w.left w.state) new.span_is ∙ ap (λ l. of next l w.state) new.left_is
    ∙ ap (λ x. of next left x) new.state_is

module _ {C O P : Type 0} (client : link.Ghosts C) (origin : link.Ghosts O)
    (stage : transform.Ghosts P TransformLine) where
  -- what is taken apart is what stood in the place
  pub takes_inside : (ends : Ends (Course C) (Spanned O)) (s : State)
      (x t : Txn (ClientEnd (Course C)) (OriginEnd (Spanned O) P) P)
      (left : PlainExchange (Course C) (Spanned O))
      → x ≡ t
      → (IsLayeredBetween (span_link client) (spanned_link origin) spanned_origin stage ends false false x s
      → LeavesExchange (span_link client) (spanned_link origin) spanned_origin stage ends false false s x
      left)
      → IsLayeredBetween (span_link client) (spanned_link origin) spanned_origin stage ends false false t s
      → LeavesExchange (span_link client) (spanned_link origin) spanned_origin stage ends false false s t left
  takes_inside ends s x t left same takes =
      subst (λ u. IsLayeredBetween (span_link client) (spanned_link origin) spanned_origin stage ends false
      false u s
      → LeavesExchange (span_link client) (spanned_link origin) spanned_origin stage ends false false s u
      left) same takes

  -- ---- a last transaction

  -- what holds of it, where it stands behind what the terms name
  done_by : (terms : SessionTerms O) (r : Retired C O)
      → (last : IsLastOf client origin stage terms.setup.value terms.plugins_at r)
      → IsLastClient client last.parts.client r.parts.client
      → StandsBehindIf client origin stage terms last.parts.number last.parts.client
      → (b : Option (List (Noted O))) → terms.behind.value ≡ b → IsDoneBy client origin stage terms b r
  done_by terms r last is behind None named = last
  done_by terms r last is behind (Some notes) named = record {
    last = last;
    told = λ tells. last_session client origin stage terms.setup.value terms.plugins_at notes last.parts
        r.parts.client is tells
        (subst (λ b. IfSome b (λ notes. StandsAt client origin stage terms.setup.value terms.plugins_at
        last.parts.number notes last.parts.client)) named (behind tells));
  }

  -- nothing is left over of one behind which its connection does not go on
  spent_by : (terms : SessionTerms O) (r : Retired C O)
      → (last : IsLastOf client origin stage terms.setup.value terms.plugins_at r)
      → IsLastClient client last.parts.client r.parts.client
      → StandsBehindIf client origin stage terms last.parts.number last.parts.client
      → (MayGoOn last.parts → ⊥)
      → (b : Option (List (Noted O))) → terms.behind.value ≡ b → IsSpentBy client origin stage terms b r
  spent_by terms r last is behind not None named = tt
  spent_by terms r last is behind not (Some notes) named = record {
    session = record {
      last = last;
      told = λ tells. last_session client origin stage terms.setup.value terms.plugins_at notes last.parts
          r.parts.client is tells
          (subst (λ b. IfSome b (λ notes. StandsAt client origin stage terms.setup.value terms.plugins_at
          last.parts.number notes last.parts.client)) named (behind tells));
    };
    spent = λ tells went. absurd (not went);
  }

  -- ---- a transaction is left

  module _ (terms : SessionTerms O) (t : ExchangeAt C O P)
      (journal : Log) (e : EndsExchange client origin stage terms t journal)
      (left : PlainExchange (Course C) (Spanned O))
      (take : IsLayeredBetween (span_link client) (spanned_link origin) spanned_origin stage e.keeps.ends
      false false t.value journal.state → LeavesExchange (span_link client) (spanned_link origin)
      spanned_origin stage e.keeps.ends false false journal.state t.value left)
      (ended : left.parts.end ≡ end_of t.value) where
    -- it is done, as if it were alone
    exchange_done : (done : IsDoneInSession client origin stage terms.setup.value terms.plugins_at left.parts
        journal) × (done.ends ≡ e.keeps.ends)
    exchange_done =
        txn_done (span_link client) (spanned_link origin) spanned_origin stage e.keeps.ends terms.setup.value
        terms.plugins_at e.keeps.promise e.tag.value t.value journal e.roles left e.keeps.ends_are
        e.keeps.tag_is e.fits.value e.sound take ended e.ended e.final

    exchange_number : left.parts.number ≡ e.keeps.ends.number
    exchange_number =
        let done = exchange_done.0 in
        ap (λ (p : TxnParts (Course C) (Spanned O)). p.number) (sym done.parts_are)
        ∙ left_number (span_link client) (spanned_link origin) spanned_origin stage done.ends false false
        journal.state done.left done.leaves.exchanges
        ∙ ap (λ (ends : Ends (Course C) (Spanned O)). ends.number) exchange_done.1

    -- it is at its place
    exchange_place : left.parts.client.place ≡ t.place
    exchange_place =
        place_left client origin stage terms.setup.value terms.plugins_at left.parts journal exchange_done.0
        ∙ ap (λ (ends : Ends (Course C) (Spanned O)). ends.client.place) exchange_done.1
        ∙ sym e.keeps.place_is ∙ sym e.fits.place

    -- it stands behind what the terms name
    exchange_behind : StandsBehindIf client origin stage terms left.parts.number left.parts.client
    exchange_behind tells = by_behind terms.behind.value (e.keeps.behind tells)
      where
        by_behind : (b : Option (List (Noted O)))
            → IfSome b (λ notes. StandsAt client origin stage terms.setup.value terms.plugins_at
            e.keeps.ends.number notes e.keeps.ends.client)
            → IfSome b (λ notes. StandsAt client origin stage terms.setup.value terms.plugins_at
            left.parts.number notes left.parts.client)
        by_behind None stands = tt
        by_behind (Some notes) stands =
            left_stands client origin stage terms.setup.value terms.plugins_at left.parts journal
            exchange_done.0 left.parts.number notes
            (subst (λ (ends : Ends (Course C) (Spanned O)). StandsAt client origin stage terms.setup.value
            terms.plugins_at left.parts.number notes ends.client) (sym exchange_done.1)
            (subst (λ n. StandsAt client origin stage terms.setup.value terms.plugins_at n notes
            e.keeps.ends.client) (sym exchange_number) stands))

    -- its client waits behind it
    pub exchange_waits : (next : Course C) (rest : EndedParts O) (place : ℕ) (w : Waiting C (Ended O))
        → MayGoOn left.parts → rest ≡ without_client left.parts → IsNextSpan client left.parts.client next
        → place ≡ t.place → IsNewWait next (record { parts = rest; place = place; journal = journal }) w
        → ((c : C) → client.still c c) → LivesInSession client origin stage terms (Other w)
    exchange_waits next rest place w goes_on rest_is next_is at new same =
        let made : Waiting C (Ended O) = record {
          span = next;
          left = record { parts = rest; place = place; journal = journal };
          state = W.Unstarted;
        } in
        let named : WaitTag C (Ended O) = record {
          span = record { marker = record {}; value = next };
          left = record {
            marker = record {};
            value = record { parts = rest; place = place; journal = journal };
          };
        } in
        let keeps : KeepsWaiting client origin stage terms named = record {
          parts = left.parts;
          done = exchange_done.0;
          goes_on = goes_on;
          parts_are = rest_is;
          place_is = at ∙ sym exchange_place;
          next = next_is;
          named = ap (λ (c : C). (client.look c).name) next_is.client_is ∙ exchange_done.0.named;
          behind = exchange_behind;
        } in
        let fits : IsWaitOf client named made = record {
          left = refl;
          span = record {
            still = span_same client.still same next;
            source = refl;
            name = refl;
            before = refl;
            faults = omega arith;
            given = λ tells. refl;
            taken = λ tells. refl;
          };
          faults = tt;
        } in
        subst (λ v. LivesInSession client origin stage terms (Other v)) (sym (new_is next made.left w new))
        (record {
          fits = (tag.Other named, keeps, fits);
          sound = λ s roles none. record { waits = none; holds = next_is.unread };
        })

    -- it was its last one
    exchange_last : (parts : TxnParts C O) → parts ≡ with_client (without_client left.parts) parts.client
        → IsLastClient client left.parts.client parts.client
        → (last : IsLastOf client origin stage terms.setup.value terms.plugins_at
        (record { parts = parts; journal = journal })) × (last.parts ≡ left.parts)
    exchange_last parts are is = (
      record {
        named = ap (λ (c : C). (client.look c).name) is.client_is ∙ exchange_done.0.named
            ∙ sym (ap (λ (p : TxnParts C O). p.number) are);
        parts = left.parts;
        done = exchange_done.0;
        parts_are = are;
      },
      refl,
    )

    pub exchange_retires : (parts : TxnParts C O)
        → parts ≡ with_client (without_client left.parts) parts.client
        → IsLastClient client left.parts.client parts.client
        → IsDoneBy client origin stage terms terms.behind.value (record { parts = parts; journal = journal })
    exchange_retires parts are is =
        let last = exchange_last parts are is in
        done_by terms (record { parts = parts; journal = journal }) last.0
        (subst (λ (p : TxnParts (Course C) (Spanned O)). IsLastClient client p.client parts.client)
        (sym last.1) is) (subst (λ (p : TxnParts (Course C) (Spanned O)). StandsBehindIf client origin stage
        terms p.number p.client) (sym last.1) exchange_behind)
        terms.behind.value refl

    -- and nothing is left over of it, where its connection does not go on
    pub exchange_spent : (parts : TxnParts C O) → parts ≡ with_client (without_client left.parts) parts.client
        → IsLastClient client left.parts.client parts.client → (MayGoOn left.parts → ⊥)
        → IsSpentBy client origin stage terms terms.behind.value (record { parts = parts; journal = journal })
    exchange_spent parts are is not =
        let last = exchange_last parts are is in
        spent_by terms (record { parts = parts; journal = journal }) last.0
        (subst (λ (p : TxnParts (Course C) (Spanned O)). IsLastClient client p.client parts.client)
        (sym last.1) is) (subst (λ (p : TxnParts (Course C) (Spanned O)). StandsBehindIf client origin stage
        terms p.number p.client) (sym last.1) exchange_behind)
        (λ (went : MayGoOn last.0.parts). not (subst MayGoOn last.1 went))
        terms.behind.value refl

-- ---- a client that waited

-- where the poll has answered and the client is not ready, it has ended, or failed
answered_wait : {C : Type 0} (client : link.Ghosts C) (x : WaitState) (old new : Course C)
    → has_answered x ≡ true
    → (is_ready x ≡ true → ⊥) → HoldsAnswer client x new → CountsFault client x old new
    → HasEnded client new ⊎ Rose (shown client old).faults (shown client new).faults
answered_wait client W.Unstarted old new has not holds faults = absurd (cc)
answered_wait client (W.Polling key) old new has not holds faults = absurd (cc)
answered_wait client W.Ready old new has not holds faults = absurd (not refl)
answered_wait client W.Ended old new has not holds faults = inl holds
answered_wait client W.Failed old new has not holds faults = inr faults
answered_wait client W.Lacks old new has not holds faults = absurd (cc)

-- some of the request of one that is ready is held
ready_holds : {C : Type 0} (client : link.Ghosts C) (x : WaitState) (s : Course C) → is_ready x ≡ true
    → HoldsAnswer client x s → 0 < length s.request.held
ready_holds client W.Unstarted s ready holds = absurd (cc)
ready_holds client (W.Polling key) s ready holds = absurd (cc)
ready_holds client W.Ready s ready holds = holds
ready_holds client W.Ended s ready holds = absurd (cc)
ready_holds client W.Failed s ready holds = absurd (cc)
ready_holds client W.Lacks s ready holds = absurd (cc)

-- one that goes on is ready
goes_ready : (ready below goes : Bool) → goes ≡ ready && below → goes ≡ true → ready ≡ true
goes_ready true below goes is now = refl
goes_ready false below goes is now = sym is ∙ now

-- one that does not go on is not ready, where its place is not the last one
not_ready : (ready below goes : Bool) → goes ≡ ready && below → below ≡ true → goes ≡ false → ready ≡ true → ⊥
not_ready true true goes is under not now = let wrong : true ≡ false = sym is ∙ not in cc
not_ready true false goes is under not now = absurd (cc)
not_ready false below goes is under not now = cc

module _ {C O P : Type 0} (client : link.Ghosts C) (origin : link.Ghosts O)
    (stage : transform.Ghosts P TransformLine) (terms : SessionTerms O) (w : Waiting C (Ended O))
    (stands : StandsWaiting client origin stage terms w) where
  -- what is left of the transaction before
  parts_before : w.left.parts ≡ without_client stands.keeps.parts
  parts_before = ap (λ (l : Ended O). l.parts) stands.fits.left ∙ stands.keeps.parts_are

  -- what is noted of it
  waiting_note : IsNoteOf client origin stage terms.setup.value terms.plugins_at w.left.parts.number
      (request_of client stands.keeps.parts) (response_of client stands.keeps.parts) (noted_of_ended w.left)
  waiting_note = record {
    parts = stands.keeps.parts;
    done = subst (λ (l : Ended O). IsDoneInSession client origin stage terms.setup.value terms.plugins_at
        stands.keeps.parts l.journal) (sym stands.fits.left) stands.keeps.done;
    went_on = stands.keeps.goes_on;
    rule = stands.keeps.next.rule;
    request_is = refl;
    response_is = refl;
    of_client = refl;
    number_is = ap (λ (p : EndedParts O). p.number) parts_before;
    place_is = ap (λ (l : Ended O). l.place) stands.fits.left ∙ stands.keeps.place_is;
    origin_is = ap (λ (p : EndedParts O). p.origin) parts_before;
    cuts_are = ap (λ (p : EndedParts O). p.cuts) parts_before;
    end_is = ap (λ (p : EndedParts O). p.end) parts_before;
  }

  -- its client goes on, where some of the next request is there
  waiting_goes : 0 < length w.span.request.held
      → IsNote client origin stage terms.setup.value terms.plugins_at (noted_of_ended w.left)
      × GoesOnBehind client origin stage terms (noted_of_ended w.left)
      (record { number = w.left.parts.number; span = w.span })
  unfolding waiting_note
  waiting_goes there = (
    record {
      request = request_of client stands.keeps.parts;
      response = response_of client stands.keeps.parts;
      is_note = waiting_note;
    },
    record {
      request = request_of client stands.keeps.parts;
      response = response_of client stands.keeps.parts;
      is_note = waiting_note;
      was = stands.tag.span.value;
      goes = stands.keeps.next;
      same = stands.fits.span;
      there = there;
      number_is = refl;
      named = stands.fits.span.name ∙ stands.keeps.named
          ∙ sym (ap (λ (p : EndedParts O). p.number) parts_before);
      behind = subst (λ n. StandsBehindIf client origin stage terms n stands.keeps.parts.client)
          (sym (ap (λ (p : EndedParts O). p.number) parts_before)) stands.keeps.behind;
    },
  )

  pub waiting_goes_on : (left : Ended O) (span : Course C) (noted : Noted O) → left ≡ w.left → span ≡ w.span
      → noted ≡ noted_of_ended left → 0 < length w.span.request.held
      → IsNote client origin stage terms.setup.value terms.plugins_at noted
      × GoesOnBehind client origin stage terms noted (record { number = left.parts.number; span = span })
  waiting_goes_on left span noted left_is span_is noted_is there =
      subst (λ (n : Noted O). IsNote client origin stage terms.setup.value terms.plugins_at n
      × GoesOnBehind client origin stage terms n (record { number = left.parts.number; span = span }))
      (sym noted_is)
      (subst (λ (l : Ended O). IsNote client origin stage terms.setup.value terms.plugins_at
      (noted_of_ended l)
      × GoesOnBehind client origin stage terms (noted_of_ended l)
      (record { number = l.parts.number; span = span })) (sym left_is)
      (subst (λ (s : Course C). IsNote client origin stage terms.setup.value terms.plugins_at
      (noted_of_ended w.left)
      × GoesOnBehind client origin stage terms (noted_of_ended w.left)
      (record { number = w.left.parts.number; span = s })) (sym span_is) (waiting_goes there)))

  -- and some of it is there where it goes on
  pub waiting_there : (goes : Bool) → goes ≡ is_ready w.state && nat_lt w.left.place LAST_PLACE → goes ≡ true
      → 0 < length w.span.request.held
  waiting_there goes is now =
      ready_holds client w.state w.span (goes_ready (is_ready w.state) (nat_lt w.left.place LAST_PLACE) goes
      is now) stands.sound.holds

  -- its place is not the last one
  below_last : w.left.place < LAST_PLACE
  below_last =
      let within = stands.keeps.next.within in
      let next = stands.keeps.next.place_is in
      let at = ap (λ (l : Ended O). l.place) stands.fits.left ∙ stands.keeps.place_is in
      omega (arith, within, next, at)

  -- one that does not go on has ended, or failed
  pub waiting_answered : (goes : Bool) → goes ≡ is_ready w.state && nat_lt w.left.place LAST_PLACE
      → goes ≡ false → has_answered w.state ≡ true
      → HasEnded client w.span ⊎ Rose (shown client stands.tag.span.value).faults (shown client w.span).faults
  waiting_answered goes is not has =
      answered_wait client w.state stands.tag.span.value w.span has
      (not_ready (is_ready w.state) (nat_lt w.left.place LAST_PLACE) goes is
      (lt-ltb w.left.place LAST_PLACE below_last) not) stands.sound.holds stands.fits.faults

  -- the transaction before was its last one
  module _ (r : Retired C O) (is : IsLastClient client w.span r.parts.client) (left : IsLeftWith w.left r)
    where
      waiting_last : (last : IsLastOf client origin stage terms.setup.value terms.plugins_at r)
          × (last.parts ≡ stands.keeps.parts)
      waiting_last =
          let number : r.parts.number ≡ stands.keeps.parts.number =
          ap (λ (p : TxnParts C O). p.number) left.0 ∙ ap (λ (p : EndedParts O). p.number) parts_before in
          let journal : r.journal ≡ stands.tag.left.value.journal =
          left.1 ∙ ap (λ (l : Ended O). l.journal) stands.fits.left in (
            record {
              named = ap (λ (c : C). (client.look c).name) is.client_is ∙ stands.fits.span.name
                  ∙ stands.keeps.named ∙ sym number;
              parts = stands.keeps.parts;
              done = subst (λ (j : Log). IsDoneInSession client origin stage terms.setup.value terms.plugins_at
                  stands.keeps.parts j) (sym journal) stands.keeps.done;
              parts_are = left.0 ∙ ap (λ (p : EndedParts O). with_client p r.parts.client) parts_before;
            },
            refl,
          )

      pub waiting_done : (b : Option (List (Noted O))) → terms.behind.value ≡ b
          → IsDoneBy client origin stage terms b r
      waiting_done None named = waiting_last.0
      waiting_done (Some notes) named = record {
        last = waiting_last.0;
        told = λ tells. subst (λ (p : TxnParts (Course C) (Spanned O)). HasSession client origin stage
            terms.setup.value terms.plugins_at notes p r.parts.client) (sym waiting_last.1)
            (last_waiting client origin stage terms.setup.value terms.plugins_at notes stands.keeps.parts
            stands.tag.span.value w.span r.parts.client stands.keeps.goes_on stands.keeps.next stands.fits.span
            is tells (subst (λ b. IfSome b (λ notes. StandsAt client origin stage terms.setup.value
            terms.plugins_at stands.keeps.parts.number notes stands.keeps.parts.client)) named
            (stands.keeps.behind tells)));
      }

      -- and nothing is left over of it, where it has ended, or failed
      pub waiting_spent : HasEnded client w.span
          ⊎ Rose (shown client stands.tag.span.value).faults (shown client w.span).faults
          → (b : Option (List (Noted O))) → terms.behind.value ≡ b → IsSpentBy client origin stage terms b r
      waiting_spent answered None named = tt
      waiting_spent answered (Some notes) named =
          let last = waiting_last in
          last_spent client origin stage terms.setup.value terms.plugins_at notes r last.0 stands.tag.span.value
          w.span (subst MayGoOn (sym last.1) stands.keeps.goes_on)
          (subst (λ (p : TxnParts (Course C) (Spanned O)). IsNextSpan client p.client stands.tag.span.value)
          (sym last.1) stands.keeps.next) stands.fits.span is
          (λ tells. subst (λ (p : TxnParts (Course C) (Spanned O)). StandsAt client origin stage
          terms.setup.value terms.plugins_at p.number notes p.client) (sym last.1)
          (subst (λ b. IfSome b (λ notes. StandsAt client origin stage terms.setup.value terms.plugins_at
          stands.keeps.parts.number notes stands.keeps.parts.client)) named (stands.keeps.behind tells)))
          answered

-- ---- one of the two that live in a place

module _ {C O P : Type 0} (client : link.Ghosts C) (origin : link.Ghosts O)
    (stage : transform.Ghosts P TransformLine) (terms : SessionTerms O) where
  -- who fits a tag of these terms, of one of the two kinds, is of this kind
  one_fits : (u : InSessionTag C O P)
      (t : ExchangeAt C O P)
      → KeepsSession client origin stage terms u
      → EitherFits (ExchangeFits client origin) (IsWaitOf client) u (One t)
      → (v : ExchangeTag C O P)
      × KeepsSession client origin stage terms (tag.One v) × ExchangeFits client origin v t
  one_fits (tag.One v) t keeps fits = (v, keeps, fits)
  one_fits (tag.Other v) t keeps fits = absurd fits

  other_fits : (u : InSessionTag C O P)
      (w : Waiting C (Ended O)) → KeepsSession client origin stage terms u
      → EitherFits (ExchangeFits {P = P} client origin) (IsWaitOf client) u (Other w)
      → (v : WaitTag C (Ended O)) × KeepsWaiting client origin stage terms v × IsWaitOf client v w
  other_fits (tag.One v) w keeps fits = absurd fits
  other_fits (tag.Other v) w keeps fits = (v, keeps, fits)

  -- a transaction that has ended there
  pub ends_exchange : (h : InSession C O P) (t : ExchangeAt C O P) (journal : Log)
      → h ≡ One t
      → HasEndedIn (EitherFits (ExchangeFits client origin) (IsWaitOf client))
      (KeepsSession client origin stage) (EitherSound (ExchangeSound client origin stage)
      (λ w s roles. IsSoundWait client w s)) (either_of (λ t. has_ended t.value) (λ w. has_answered w.state))
      terms h journal
      → EndsExchange client origin stage terms t journal
  ends_exchange (One u) t journal is here =
      let same : u ≡ t = cc in
      let own = one_fits here.fits.0 u here.fits.1 here.fits.2 in
      subst (λ v. EndsExchange client origin stage terms v journal) same (record {
        tag = own.0;
        keeps = own.1;
        fits = own.2;
        roles = here.roles;
        sound = here.sound;
        ended = here.ended;
        final = here.final;
      })
  ends_exchange (Other w) t journal is here = absurd (cc)

  -- a client that waited, and was answered
  pub ends_waiting : (h : InSession C O P) (w : Waiting C (Ended O)) (journal : Log) → h ≡ Other w
      → HasEndedIn (EitherFits (ExchangeFits client origin) (IsWaitOf client))
      (KeepsSession client origin stage) (EitherSound (ExchangeSound client origin stage)
      (λ w s roles. IsSoundWait client w s)) (either_of (λ t. has_ended t.value) (λ w. has_answered w.state))
      terms h journal
      → StandsWaiting client origin stage terms w × (has_answered w.state ≡ true)
  ends_waiting (One u) w journal is here = absurd (cc)
  ends_waiting (Other v) w journal is here =
      let same : v ≡ w = cc in
      let own = other_fits here.fits.0 v here.fits.1 here.fits.2 in
      subst (λ x. StandsWaiting client origin stage terms x × (has_answered x.state ≡ true)) same (
        record {
          tag = own.0;
          keeps = own.1;
          fits = own.2;
          state = journal.state;
          sound = here.sound;
        },
        here.ended,
      )

  -- a transaction stands there only once it has ended
  pub stood_exchange : (h : InSession C O P) (t : ExchangeAt C O P) (journal : Log)
      → h ≡ One t
      → HasStoodIn (EitherFits (ExchangeFits client origin) (IsWaitOf client))
      (KeepsSession client origin stage) (EitherSound (ExchangeSound client origin stage)
      (λ w s roles. IsSoundWait client w s)) (either_of (λ t. has_ended t.value) (λ w. has_answered w.state))
      (either_of (λ t. false) (λ w. true)) terms h journal → EndsExchange client origin stage terms t journal
  stood_exchange (One u) t journal is here =
      let same : u ≡ t = cc in
      let own = one_fits here.fits.0 u here.fits.1 here.fits.2 in
      let ended = stood_ended here.stood in
      subst (λ v. EndsExchange client origin stage terms v journal) same (record {
        tag = own.0;
        keeps = own.1;
        fits = own.2;
        roles = here.roles;
        sound = here.sound;
        ended = ended.0;
        final = ended.1;
      })
  stood_exchange (Other w) t journal is here = absurd (cc)

  -- a client that waits
  pub stood_waiting : (h : InSession C O P) (w : Waiting C (Ended O)) (journal : Log) → h ≡ Other w
      → HasStoodIn (EitherFits (ExchangeFits client origin) (IsWaitOf client))
      (KeepsSession client origin stage) (EitherSound (ExchangeSound client origin stage)
      (λ w s roles. IsSoundWait client w s)) (either_of (λ t. has_ended t.value) (λ w. has_answered w.state))
      (either_of (λ t. false) (λ w. true)) terms h journal → StandsWaiting client origin stage terms w
  stood_waiting (One u) w journal is here = absurd (cc)
  stood_waiting (Other v) w journal is here =
      let same : v ≡ w = cc in
      let own = other_fits here.fits.0 v here.fits.1 here.fits.2 in
      subst (λ x. StandsWaiting client origin stage terms x) same (record {
        tag = own.0;
        keeps = own.1;
        fits = own.2;
        state = journal.state;
        sound = here.sound;
      })
