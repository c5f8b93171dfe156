-- News that is told piece by piece.
use Rattle.std.proofs.Common.{◌≡◌, ℕ, ◌+◌, ◌<◌, ◌≤◌, ◌⊎◌, inl, inr, Bool, true, false, List, ◌∷◌, Option, Some, None, refl, sym, ap, ◌∙◌, subst, ⊎_elim, arith}
use Rattle.std.specs.Prelude.{◌==◌, ◌&&◌, nat_le, nat_lt, is_some, length}
use Rattle.std.proofs.lemmas.Bool.{cases_lt, cases_eq}
use Rattle.std.proofs.lemmas.Bool.Decides.{nat_tests}
use Rattle.ts_journal.specs.declared.slotted.Slotted.{Ghosts}
use Rattle.ts_journal.specs.declared.entry.Pending.{Pending}
use Rattle.ts_journal.specs.State.{State, pending_at}
use Rattle.ts_journal.specs.Machine.{IsValid}
use Rattle.ts_journal.proofs.Events.{is_known}
use Rattle.ts_group.specs.declared.group.Group.{Group}
use Rattle.ts_group.specs.Context.{Context, IsSame}
use Rattle.ts_group.specs.Due.{IsNews, IsFirstNews}
use Rattle.ts_queue.specs.declared.queue.EventQueue.{EventQueue}
use Rattle.ts_queue.specs.declared.queue.QueuePass.{QueuePass}
use Rattle.ts_queue.specs.declared.ticket.Token.{Token}
use Rattle.ts_queue.specs.declared.ticket.Ticket.{Ticket}
use Rattle.ts_queue.specs.declared.view.PassView.{PassView}
use Rattle.ts_queue.specs.Tickets.{is_same_token}
use Rattle.ts_queue.specs.Views.{next_ticket}
use Rattle.ts_queue.specs.Passes.{IsPassOf, pass_view, empties_of}
use Rattle.ts_slot.specs.declared.slots.Slots.{Slots}
use Rattle.ts_slot.specs.Lists.{IsIn}
use Rattle.ts_slot.specs.Words.{tags_of, IsSeatOf}
use Rattle.ts_wheel.specs.Due.{added}
use Rattle.ts_thread.specs.declared.desk.Desk.{Desk}
use Rattle.ts_thread.specs.Desks.{IsDeskOf, SharesSame}
use Rattle.ts_thread.specs.News.{in_wheel, in_tickets, HasTicket, is_between, places_of, HasPlace, KeepsPlaces}
use Rattle.ts_thread.specs.Tokens.{AllName, Places, SamePlaces, Stays}
use Rattle.ts_thread.proofs.Tokens.{one_if, same_some, All-added, in_added, is_added, wheel-added, tickets-cons}

some_is : {X : Type 0} (o : Option X) (x : X) → o ≡ Some x → is_some o ≡ true
some_is o x e = ap is_some e

-- a number is not pending, or has an event
pending_or : (n : ℕ) (ps : List Pending)
    → (is_some (pending_at n ps) ≡ false) ⊎ ((p : Pending) × (pending_at n ps ≡ Some p))
pending_or n ps = either (pending_at n ps) refl
  where
    either : (o : Option Pending) → pending_at n ps ≡ o
        → (is_some (pending_at n ps) ≡ false) ⊎ ((p : Pending) × (pending_at n ps ≡ Some p))
    either None e = inl (ap is_some e)
    either (Some p) e = inr (p, e)

-- of the tests whether a number stands between two, the one with the greater bound says more by that bound
-- alone
between_at : (k from to n g m : ℕ) (b : Bool) → from ≤ to → to ≤ n → m ≡ n → b ≡ true
    → one_if ((g == k) && (nat_le from m && (nat_lt m (n + 1) && b))) ≡ one_if
    ((g == k) && (nat_le from m && (nat_lt m to && b))) + one_if ((k == g) && (n == m))
between_at k from to n g m b low high e is = grind (arith, nat_tests)

between_other : (k from to n g m : ℕ) (b : Bool) → from ≤ to → to ≤ n → (m ≡ n → ⊥)
    → (m < to) ⊎ (n < m) ⊎ (b ≡ false)
    → one_if ((g == k) && (nat_le from m && (nat_lt m (n + 1) && b))) ≡ one_if
    ((g == k) && (nat_le from m && (nat_lt m to && b))) + one_if ((k == g) && (n == m))
between_other k from to n g m b low high e (inl below) = grind (arith, nat_tests)
between_other k from to n g m b low high e (inr (inl above)) = grind (arith, nat_tests)
between_other k from to n g m b low high e (inr (inr none)) = grind (arith, nat_tests)

between_next : (k from to : ℕ) (s : State) (p : Pending) (t : Token) → from ≤ to → IsNews to s p
    → one_if (is_between k from (p.number + 1) s.pending t) ≡ one_if (is_between k from to s.pending t) +
    one_if (is_same_token t (record { group = k; number = p.number }))
between_next k from to s p t low (there, high, least) =
    ⊎_elim
    (λ (e : t.number ≡ p.number). between_at k from to p.number t.group t.number
    (is_some (pending_at t.number s.pending)) low high e
    (some_is (pending_at t.number s.pending) p (ap (λ n. pending_at n s.pending) e ∙ there)))
    (λ (n : t.number ≡ p.number → ⊥). between_other k from to p.number t.group t.number
    (is_some (pending_at t.number s.pending)) low high n
    (⊎_elim (λ (below : t.number < to). inl below) (λ (above : to ≤ t.number). inr (⊎_elim (λ none. inr none)
    (λ (there' : (q : Pending) × (pending_at t.number s.pending ≡ Some q)). let le = least t.number there'.0
    there'.1 above in inl (omega arith))
    (pending_or t.number s.pending))) (cases_lt t.number to)))
    (cases_eq t.number p.number)

ticket_stays : (t : Token) (u : Ticket) (us : List Ticket) → HasTicket t us → HasTicket t (u ∷ us)
ticket_stays t u us (v, there, is) = (v, inr there, is)

same_next : (a b c : Context) → IsSame (record a { news_from = b.news_from }) b
    → IsSame (record b { news_from = c.news_from }) c → IsSame (record a { news_from = c.news_from }) c
same_next a b c p q = record {
  log = record {
    base = q.log.base ∙ p.log.base;
    entries = q.log.entries ∙ p.log.entries;
    state = q.log.state
        ∙ p.log.state;
  };
  roles = q.roles ∙ p.roles;
  moment = q.moment ∙ p.moment;
  running = q.running ∙ p.running;
  role = q.role ∙ p.role;
  news_from = refl;
  calls = q.calls ∙ p.calls;
}

module _ {X G T : Type 0} {d : Ghosts X G T} where
  keeps_place : {shared : Bool} (a b : Desk X G T d) (token : Token) (due moment : ℕ)
      → Places shared token due moment a b → KeepsPlaces a b
  keeps_place a b token due moment (inl puts) = record {
    wheel = λ e h. subst (IsIn e) (sym puts.wheel) h;
    put = λ t h. subst (λ (v : PassView). HasTicket t v.put) (sym puts.pass)
        (ticket_stays t (next_ticket (pass_view a.pass) token) (pass_view a.pass).put h);
    taken = ap (λ (v : PassView). v.taken) puts.pass;
    spent = λ none. let left = puts.left in absurd (omega arith);
  }
  keeps_place a b token due moment (inr adds) = record {
    wheel = λ e h. subst (IsIn e) (sym adds.wheel) (in_added due token a.wheel e h);
    put = λ t h. subst (λ (v : PassView). HasTicket t v.put) (sym adds.pass) h;
    taken = ap (λ (v : PassView). v.taken) adds.pass;
    spent = λ none. ap (λ (v : PassView). v.serial) adds.pass ∙ none;
  }

  pub keeps_trans : (a b c : Desk X G T d) → KeepsPlaces a b → KeepsPlaces b c → KeepsPlaces a c
  keeps_trans a b c h k = record {
    wheel = λ e x. k.wheel e (h.wheel e x);
    put = λ t x. k.put t (h.put t x);
    taken = k.taken ∙ h.taken;
    spent = λ none. k.spent (h.spent none);
  }

  -- a token was added to the wheel
  pub keeps_added : (a b : Desk X G T d) (token : Token) (due : ℕ) → b.wheel ≡ added due token a.wheel
      → b.pass ≡ a.pass → KeepsPlaces a b
  keeps_added a b token due wheel pass = record {
    wheel = λ e h. subst (IsIn e) (sym wheel) (in_added due token a.wheel e h);
    put = λ t h. subst (λ (p : QueuePass). HasTicket t (pass_view p).put) (sym pass) h;
    taken = ap (λ (p : QueuePass). (pass_view p).taken) pass;
    spent = λ none. ap (λ (p : QueuePass). (pass_view p).serial) pass ∙ none;
  }

  -- nothing got a place, and none was lost
  pub keeps_same : (a b c : Desk X G T d) → KeepsPlaces a b → SamePlaces b c → KeepsPlaces a c
  keeps_same a b c keeps same = record {
    wheel = λ e h. subst (IsIn e) (sym same.wheel) (keeps.wheel e h);
    put = λ t h. subst (λ (v : PassView). HasTicket t v.put) (sym same.pass) (keeps.put t h);
    taken = ap (λ (v : PassView). v.taken) same.pass ∙ keeps.taken;
    spent = λ none. ap (λ (v : PassView). v.serial) same.pass ∙ keeps.spent none;
  }

  -- what stays with its thread does so as long as no place is lost
  stays_on : (shared : Bool) (a b : Desk X G T d) (due moment : ℕ) → KeepsPlaces a b
      → Stays shared due moment a → Stays shared due moment b
  stays_on shared a b due moment keeps (inl late) = inl late
  stays_on shared a b due moment keeps (inr (inl own)) = inr (inl own)
  stays_on shared a b due moment keeps (inr (inr none)) = inr (inr (keeps.spent none))

  has_place : {shared : Bool} (a b : Desk X G T d) (moment k : ℕ) (p : Pending)
      → Places shared (record { group = k; number = p.number }) p.due moment a b
      → HasPlace shared moment k p b
  has_place {shared = shared} a b moment k p (inl puts) =
      inr (
        puts.is_due,
        puts.by_shared,
        subst (λ (v : PassView). HasTicket (record { group = k; number = p.number }) v.put)
            (sym puts.pass) (
              next_ticket (pass_view a.pass) (record { group = k; number = p.number }),
              inl refl,
              refl,
            ),
      )
  has_place {shared = shared} a b moment k p (inr adds) =
      inl (
        stays_on shared a b p.due moment
            (keeps_place a b (record { group = k; number = p.number }) p.due moment (inr adds)) adds.stays,
        subst (IsIn (p.due, record { group = k; number = p.number }))
            (sym adds.wheel) (is_added p.due (record { group = k; number = p.number }) a.wheel),
      )

  -- a place stays one as long as none is lost
  pub place_stays : (shared : Bool) (a b : Desk X G T d) (moment k : ℕ) (p : Pending) → KeepsPlaces a b
      → HasPlace shared moment k p a → HasPlace shared moment k p b
  place_stays shared a b moment k p keeps (inl waits) = inl (
    stays_on shared a b p.due moment keeps waits.0,
    keeps.wheel (p.due, record { group = k; number = p.number }) waits.1,
  )
  place_stays shared a b moment k p keeps (inr put) = inr (
    put.0,
    put.1,
    keeps.put (record { group = k; number = p.number }) put.2,
  )

  count_place : {shared : Bool} (a b : Desk X G T d) (token : Token) (due moment : ℕ) (t : Token)
      → Places shared token due moment a b → places_of t b ≡ places_of t a + one_if (is_same_token t token)
  count_place a b token due moment t (inl puts) =
      let w : in_wheel t b.wheel ≡ in_wheel t a.wheel = ap (in_wheel t) puts.wheel in
      let p : in_tickets t (pass_view b.pass).put ≡ in_tickets t
      (next_ticket (pass_view a.pass) token ∷ (pass_view a.pass).put) = ap
      (λ (v : PassView). in_tickets t v.put) puts.pass in
      let c = tickets-cons t (next_ticket (pass_view a.pass) token) (pass_view a.pass).put in omega arith
  count_place a b token due moment t (inr adds) =
      let w : in_wheel t b.wheel ≡ in_wheel t (added due token a.wheel) = ap (in_wheel t) adds.wheel in
      let p : in_tickets t (pass_view b.pass).put ≡ in_tickets t (pass_view a.pass).put = ap
      (λ (v : PassView). in_tickets t v.put) adds.pass in
      let c = wheel-added t due token a.wheel in omega arith

  share_place : {shared : Bool} (a b : Desk X G T d) (token : Token) (due moment : ℕ)
      → Places shared token due moment a b → SharesSame a b
  share_place a b token due moment (inl puts) = ap (λ (v : PassView). v.share) puts.pass
  share_place a b token due moment (inr adds) = ap (λ (v : PassView). v.share) adds.pass

  -- a desk stays one of its tables when a token of one of the groups gets a place
  pub desk_place : {shared : Bool} (slots : Slots X G T) (queue : EventQueue) (a b : Desk X G T d)
      (token : Token) (due moment : ℕ) → IsDeskOf slots queue a → token.group < length (tags_of slots)
      → IsPassOf queue b.pass → b.seat ≡ a.seat → Places shared token due moment a b → IsDeskOf slots queue b
  desk_place slots queue a b token due moment was names pass seat (inl puts) = record {
    seat = subst (IsSeatOf slots) (sym seat) was.seat;
    pass = pass;
    wheel = subst (AllName (length (tags_of slots))) (sym puts.wheel) was.wheel;
  }
  desk_place slots queue a b token due moment was names pass seat (inr adds) = record {
    seat = subst (IsSeatOf slots) (sym seat) was.seat;
    pass = pass;
    wheel = subst (AllName (length (tags_of slots))) (sym adds.wheel)
        (All-added (λ (e : ℕ × Token). e.1.group < length (tags_of slots)) due token a.wheel names was.wheel);
  }

  -- So much of the news was told: that with numbers up to the one from which on the group has news.
  pub record IsTelling {W Q R T' U : Type 0} (shared : Bool) (k moment : ℕ) (first now : Group W Q R T' U)
      (old new : Desk X G T d) : Type 0 where
    pub same : IsSame (record first.cx { news_from = now.cx.news_from }) now.cx
    pub world : now.world ≡ first.world
    pub valid : IsValid now.cx.log.state
    pub from : first.cx.news_from ≤ now.cx.news_from
    pub each : (n : ℕ) (p : Pending) → pending_at n now.cx.log.state.pending ≡ Some p → first.cx.news_from ≤ n
        → n < now.cx.news_from → HasPlace shared moment k p new
    pub once : (t : Token) → places_of t new ≡ places_of t old + one_if
        (is_between k first.cx.news_from now.cx.news_from now.cx.log.state.pending t)
    pub keeps : KeepsPlaces old new
    pub seat : new.seat ≡ old.seat
    pub share : SharesSame old new
    pub empties : empties_of new.pass ≡ empties_of old.pass

  module _ {W Q R T' U : Type 0} (shared : Bool) (k moment : ℕ) where
    pub telling_goes_on : (first a b : Group W Q R T' U) (old desk next : Desk X G T d)
        (number due : ℕ)
        → IsTelling shared k moment first a old desk → IsFirstNews a.cx number due
        → b.cx.news_from ≡ number + 1 → IsSame (record a.cx { news_from = b.cx.news_from }) b.cx
        → b.world ≡ a.world → next.seat ≡ desk.seat → empties_of next.pass ≡ empties_of desk.pass
        → Places shared (record { group = k; number = number }) due moment desk next
        → IsTelling shared k moment first b old next
    telling_goes_on first a b old desk next number due was (p, news, number_is, due_is)
        from same world seat empties places =
        let state : b.cx.log.state ≡ a.cx.log.state = same.log.state in
        let places' : Places shared (record { group = k; number = p.number }) p.due moment desk next =
        subst (λ (x : ℕ × ℕ). Places shared (record { group = k; number = x.0 }) x.1 moment desk next)
        (λ i. (sym number_is i, sym due_is i)) places in
        let keeps = keeps_place desk next (record { group = k; number = p.number }) p.due moment places' in
        let up = was.from in
        let high = news.1 in
        let from' : b.cx.news_from ≡ p.number + 1 = from ∙ ap (λ n. n + 1) (sym number_is) in
        record {
          same = same_next first.cx a.cx b.cx was.same same;
          world = world ∙ was.world;
          valid = subst IsValid (sym state) was.valid;
          from = omega arith;
          each = λ n q there low below.
              let there' : pending_at n a.cx.log.state.pending ≡ Some q = ap
              (λ (s : State). pending_at n s.pending) (sym state) ∙ there in
              ⊎_elim
              (λ (old' : n < a.cx.news_from). place_stays shared desk next moment k q keeps
              (was.each n q there' low old'))
              (λ (new' : a.cx.news_from ≤ n).
              let le = news.2 n q there' new' in
              let is : n ≡ p.number = omega arith in
              let same' : p ≡ q = same_some p q
              (sym news.0 ∙ ap (λ m. pending_at m a.cx.log.state.pending) (sym is) ∙ there') in
              subst (λ (x : Pending). HasPlace shared moment k x next) same'
              (has_place desk next moment k p places'))
              (cases_lt n a.cx.news_from);
          once = λ t.
              let one = was.once t in
              let more = count_place desk next (record { group = k; number = p.number }) p.due moment t
              places' in
              let next' = between_next k first.cx.news_from a.cx.news_from a.cx.log.state p t up news in
              let is : one_if (is_between k first.cx.news_from b.cx.news_from b.cx.log.state.pending t) ≡
              one_if (is_between k first.cx.news_from (p.number + 1) a.cx.log.state.pending t) =
              (λ i. one_if (is_between k first.cx.news_from (from' i) (state i).pending t)) in omega arith;
          keeps = keeps_trans old desk next was.keeps keeps;
          seat = seat ∙ was.seat;
          empties = empties ∙ was.empties;
          share = share_place desk next (record { group = k; number = p.number }) p.due moment places' ∙
              was.share;
        }

    -- there is less to tell after each piece
    pub telling_less : (first a : Group W Q R T' U) (old desk : Desk X G T d) (number due : ℕ)
        → IsTelling shared k moment first a old desk → IsFirstNews a.cx number due
        → (a.cx.news_from ≤ number) × (number < a.cx.log.state.next)
    telling_less first a old desk number due was (p, news, number_is, due_is) =
        let known = is_known a.cx.log.state p.number p was.valid news.0 in let below = known.below in let high
        = news.1 in (omega arith, omega arith)
