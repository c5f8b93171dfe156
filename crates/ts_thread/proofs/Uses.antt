-- What was done with a token, and what a run of turns comes to.
use Rattle.std.proofs.Common.{◌≡◌, ℕ, suc, ◌+◌, ◌<◌, ◌≤◌, ◌⊎◌, inl, inr, ⊎_elim, Bool, true, false, cond, leb, List, [], ◌∷◌, Option, Some, None, length, refl, sym, ap, ◌∙◌, subst, arith}
use Rattle.std.specs.Prelude.{Result, Ok, Err, IfOk}
use Rattle.std.proofs.lemmas.Bool.{cases_lt}
use Rattle.ts_link.specs.Counts.{Rose}
use Rattle.ts_journal.specs.declared.entry.TheConstants.{GREATEST}
use Rattle.ts_journal.specs.declared.slotted.Slotted.{Ghosts}
use Rattle.ts_journal.specs.State.{State, pending_at}
use Rattle.ts_group.specs.declared.group.Group.{Group}
use Rattle.ts_group.specs.declared.action.Named.{Named}
use Rattle.ts_group.specs.declared.world.Asked.{Asked}
use Rattle.ts_group.specs.Standing.{StandsAfter}
use Rattle.ts_queue.specs.declared.queue.EventQueue.{EventQueue}
use Rattle.ts_queue.specs.declared.ticket.Token.{Token}
use Rattle.ts_queue.specs.declared.view.PassView.{PassView as Known}
use Rattle.ts_queue.specs.Passes.{IsPassOf, pass_view, empties_of}
use Rattle.ts_slot.specs.declared.slots.Slots.{Slots}
use Rattle.ts_slot.specs.declared.seat.Seat.{Seat}
use Rattle.ts_slot.specs.declared.view.SeatView.{SeatView}
use Rattle.ts_slot.specs.Views.{won, missed, IsAfter}
use Rattle.ts_slot.specs.Words.{tags_of, view, IsSeatOf}
use Rattle.ts_wheel.specs.Due.{first_due, after_due, next_moment}
use Rattle.ts_thread.specs.declared.desk.Desk.{Desk}
use Rattle.ts_thread.specs.declared.did.Did.{Did}
use Rattle.ts_thread.specs.declared.did.Did.TheVariants as did
use Rattle.ts_thread.specs.Desks.{IsDeskOf, CountsMore, KeepsDesk, KeepsTokens, ClosesDesk, LeavesDesk}
use Rattle.ts_thread.specs.Heard.{RunsHandlers}
use Rattle.ts_thread.specs.Held.{HasTurn, BeginsSame}
use Rattle.ts_thread.specs.News.{HasTold, is_between, places_of}
use Rattle.ts_thread.specs.Runs.{IsNextMoment, Turns}
use Rattle.ts_thread.specs.Seats.{KnowsTurn}
use Rattle.ts_thread.specs.Shown.{IsShown}
use Rattle.ts_thread.specs.Tokens.{AllName, Gets, FindsNothing, is_shared}
use Rattle.ts_thread.specs.Turning.{Works, EndsTurn, Serves, Enters, Uses, IsDid}
use Rattle.ts_thread.proofs.Seats.{closes, keeps_trans, keeps_refl}
use Rattle.ts_thread.proofs.Telling.{keeps_trans as places_trans}
use Rattle.ts_thread.proofs.Tokens.{one_if, All-after}

pub ok_all : {A E : Type 0} (r : Result A E) (P Q : A → Type 0) → ((a : A) → P a → Q a) → IfOk r P → IfOk r Q
ok_all (Ok a) P Q f h = f a h
ok_all (Err e) P Q f h = tt

-- what is shown of two states is shown of others with the same events
pub shown_over : (a a' b b' : State) (number moment : ℕ) (answer : Did) → a'.pending ≡ a.pending
    → a'.handled_count ≡ a.handled_count → b'.pending ≡ b.pending → b'.handled_count ≡ b.handled_count
    → IsShown a b number moment answer → IsShown a' b' number moment answer
shown_over a a' b b' number moment (did.Ran events) p h q k s =
    record {
      was_due = record {
        event = s.was_due.event;
        there = ap (pending_at number) p ∙ s.was_due.there;
        due =
            s.was_due.due;
        gone = ap (pending_at number) q ∙ s.was_due.gone;
      };
      some = s.some;
      most = s.most;
      rise = k ∙ s.rise ∙ ap (λ n. n + events) (sym h);
    }
shown_over a a' b b' number moment (did.PutBack group seen) p h q k s = absurd s
shown_over a a' b b' number moment (did.AskMissed group seen) p h q k s =
    record {
      event = s.event;
      there = ap (pending_at number) p ∙ s.there;
      due = s.due;
      gone = ap
          (pending_at number) q ∙ s.gone;
    }
shown_over a a' b b' number moment did.Stale p h q k s = record
    { was_gone = ap (pending_at number) p ∙ s.was_gone; gone = ap (pending_at number) q ∙ s.gone }
shown_over a a' b b' number moment (did.NotDue due) p h q k s =
    record {
      event = s.event;
      there = ap (pending_at number) p ∙ s.there;
      stays = ap (pending_at number) q ∙
          s.stays;
      is_due = s.is_due;
      late = s.late;
    }
shown_over a a' b b' number moment did.Idle p h q k s = absurd s

-- an empty answer of the queue is counted, or the count is at its end
idle_counts : (a b x y : ℕ) → b ≡ a → Rose x y → (x ≤ y) × ((a + x + 1 ≤ b + y) ⊎ (GREATEST ≤ y))
idle_counts a b x y same rose = ⊎_elim (λ (low : x < GREATEST). (omega arith, inl (omega arith)))
    (λ (high : GREATEST ≤ x). (omega arith, inr (omega arith))) (cases_lt x GREATEST)

-- a wheel of which no token is due stays as it is
pub none_due : {T : Type 0} (now : ℕ) (xs : List (ℕ × T)) → first_due now xs ≡ None → after_due now xs ≡ xs
none_due now [] e = refl
none_due {T} now (x ∷ xs) e = by_test (leb x.0 now) e
  where
    by_test : (b : Bool) → cond b (Some x.1) None ≡ None → cond b xs (x ∷ xs) ≡ x ∷ xs
    by_test true f = absurd (cc)
    by_test false f = refl

-- a wheel without a first token is empty
pub first_none : {T : Type 0} (xs : List (ℕ × T)) → next_moment xs ≡ None → xs ≡ []
first_none [] e = refl
first_none (x ∷ xs) e = absurd (cc)

pub not_idle : (answer : Did) (wheel : List (ℕ × Token)) (now next : ℕ) → (answer ≡ did.Idle → ⊥) → next ≡ now
    → IsNextMoment answer wheel now next
not_idle (did.Ran events) wheel now next other e = e
not_idle (did.PutBack group seen) wheel now next other e = e
not_idle (did.AskMissed group seen) wheel now next other e = e
not_idle did.Stale wheel now next other e = e
not_idle (did.NotDue due) wheel now next other e = e
not_idle did.Idle wheel now next other e = absurd (other refl)

module _ {X G T : Type 0} {d : Ghosts X G T} where
  pub closes_desk : (a b c : Desk X G T d) → KeepsTokens a b 1 → LeavesDesk b c → ClosesDesk a c 1
  closes_desk a b c keeps leaves = record {
    seat = closes (view a.seat) (view b.seat) (view c.seat) 1 keeps.desk.seat leaves.seat;
    share = leaves.share ∙ keeps.desk.share;
    places = places_trans a b c keeps.places leaves.places;
  }

  pub keeps_desk : (a b c : Desk X G T d) (m n k : ℕ) → m + n ≤ k → KeepsDesk a b m → KeepsDesk b c n
      → KeepsDesk a c k
  keeps_desk a b c m n k le p q = record {
    seat = keeps_trans (view a.seat) (view b.seat) (view c.seat) m n k
        le p.seat q.seat;
    share = q.share ∙ p.share;
  }

  pub keeps_tokens : (a b c : Desk X G T d) (m n k : ℕ) → m + n ≤ k → KeepsTokens a b m → KeepsTokens b c n
      → KeepsTokens a c k
  keeps_tokens a b c m n k le p q = record {
    desk = keeps_desk a b c m n k le p.desk q.desk;
    places = places_trans a b c p.places q.places;
  }

  pub same_desk : (a b : Desk X G T d) (m : ℕ) → b.seat ≡ a.seat
      → (pass_view b.pass).share ≡ (pass_view a.pass).share → KeepsDesk a b m
  same_desk a b m seat share = record {
    seat = keeps_refl (view a.seat) (view b.seat) m
        (ap (λ s. view s) seat);
    share = share;
  }

  -- a desk from whose wheel a token was taken, or from whose queue
  pub desk_taken : (slots : Slots X G T) (queue : EventQueue) (a b : Desk X G T d) (moment : ℕ)
      → IsDeskOf slots queue a → IsPassOf queue b.pass → b.seat ≡ a.seat → b.wheel ≡ after_due moment a.wheel
      → IsDeskOf slots queue b
  desk_taken slots queue a b moment was pass seat wheel = record {
    seat = subst (IsSeatOf slots) (sym seat) was.seat;
    pass = pass;
    wheel = subst (AllName (length (tags_of slots))) (sym wheel)
        (All-after (λ (e : ℕ × Token). e.1.group < length (tags_of slots)) moment a.wheel was.wheel);
  }

  pub gets_share : (groups moment : ℕ) (a b : Desk X G T d) (token : Token) → Gets groups moment a b token
      → (pass_view b.pass).share ≡ (pass_view a.pass).share
  gets_share groups moment a b token gets = elim gets.first [
    | inl wheel ↦ ap (λ (x : Known). x.share) wheel.1
    | inr queue ↦ let next = queue.1 in ap (λ (x : Known). x.share) next.takes.adds ∙ ap
        (λ (x : Known). x.share) next.lets_go.is
  ]

  pub finds_share : (groups moment : ℕ) (a b : Desk X G T d) → FindsNothing groups moment a b
      → (pass_view b.pass).share ≡ (pass_view a.pass).share
  finds_share groups moment a b finds = ap (λ (x : Known). x.share) finds.none.lets_go.is

module _ {W Q R T U : Type 0} {d : Ghosts (Group W Q R T U) T (Group W Q R T U)} (Fits : T → W → Type 0)
    (Asking : W → State → List Named → ℕ → ℕ → Q → Type 0) (Answers : W → Q → R → Type 0)
    (Called : W → W → List ℕ → Type 0) (Heard : W → W → Asked Q R → Type 0) (Left : W → State → Option ℕ)
    (tags : List T) where
  pub serve_ends : (token : Token) (shared : Bool) (k turn moment : ℕ)
      (found v1 begun v2 now : Group W Q R T U)
      (old worked new : Desk (Group W Q R T U) T (Group W Q R T U) d) (answer : Did)
      → shared ≡ is_shared turn → k ≡ token.group
      → v1 ≡ found → BeginsSame v1 begun
      → HasTurn Fits v1 begun turn old.seat.number → v2 ≡ begun → now.cx.news_from ≡ v2.cx.news_from
      → Works token old worked answer
      → RunsHandlers Fits Asking Answers Called Heard Left tags token.number moment v2 now (view old.seat)
      (view worked.seat) (Ok answer) → IsShown v2.cx.log.state now.cx.log.state token.number moment answer
      → LeavesDesk worked new → EndsTurn shared k turn moment now worked new
      → Serves Fits Asking Answers Called Heard Left tags token moment turn found old new answer
  serve_ends token shared k turn moment found v1 begun v2 now old worked new answer share group is same has
      is2 now_from works ran shown leaves ends =
      let s1 : found.cx.log.state ≡ v1.cx.log.state = ap (λ (x : Group W Q R T U). x.cx.log.state) (sym is) in
      let s2 : begun.cx.log.state ≡ v2.cx.log.state = ap (λ (x : Group W Q R T U). x.cx.log.state) (sym is2)
      in
      let pending : found.cx.log.state.pending ≡ v2.cx.log.state.pending = ap (λ (s : State). s.pending) s1 ∙
      sym same.pending ∙ ap (λ (s : State). s.pending) s2 in
      let handled : found.cx.log.state.handled_count ≡ v2.cx.log.state.handled_count = ap
      (λ (s : State). s.handled_count) s1 ∙ sym same.handled ∙ ap (λ (s : State). s.handled_count) s2 in
      let from : now.cx.news_from ≡ found.cx.news_from = now_from ∙ ap
      (λ (x : Group W Q R T U). x.cx.news_from) is2 ∙ has.news_from ∙ ap
      (λ (x : Group W Q R T U). x.cx.news_from) is in
      let told = ends.told in
      let told' : HasTold shared k moment found ends.left worked new = record {
        none = told.none;
        each = λ n p there low. told.each n p there (omega arith);
        once = λ t. told.once t ∙ ap (λ f. places_of t worked + one_if
            (is_between k f ends.left.cx.news_from ends.left.cx.log.state.pending t)) from;
        keeps = told.keeps;
        empties = told.empties;
      } in
      record {
        begun = v2;
        has = subst (λ (x : Group W Q R T U). HasTurn Fits x v2 turn old.seat.number) is
            (subst (λ (x : Group W Q R T U). HasTurn Fits v1 x turn old.seat.number) (sym is2) has);
        begins = subst (λ (x : Group W Q R T U). BeginsSame x v2) is (subst (BeginsSame v1) (sym is2) same);
        now = now;
        worked = worked;
        works = works;
        ran = ran;
        left = ends.left;
        as_now = ends.as_now;
        shows = shown_over v2.cx.log.state found.cx.log.state now.cx.log.state ends.left.cx.log.state
            token.number moment answer pending handled ends.as_now.pending ends.as_now.handled shown;
        told = subst (λ (x : Bool × ℕ). HasTold x.0 x.1 moment found ends.left worked new)
            (λ i. (share i, group i)) told';
        knows = subst (λ x. KnowsTurn x turn ends.left (view new.seat).known) group ends.knows;
        leaves = leaves.seat;
      }

  pub uses_of : (token : Token) (moment turn : ℕ) (found value : Group W Q R T U)
      (old entered new : Desk (Group W Q R T U) T (Group W Q R T U) d) → found ≡ value
      → IsAfter (StandsAfter Fits) token.group turn value (view old.seat).known
      → view entered.seat ≡ won token.group turn value (view old.seat) → entered.wheel ≡ old.wheel
      → entered.pass ≡ old.pass
      → (answer : Did) → Serves Fits Asking Answers Called Heard Left tags token moment turn found entered new
      answer → Uses Fits Asking Answers Called Heard Left tags token moment old new answer
  uses_of token moment turn found value old entered new is after wins wheel pass answer serves = by_answer
      answer (record {
        turn = turn;
        found = found;
        after = subst (λ (x : Group W Q R T U). IsAfter (StandsAfter Fits) token.group turn x
            (view old.seat).known) (sym is) after;
        entered = entered;
        wins = subst (λ (x : Group W Q R T U). view entered.seat ≡ won token.group turn x (view old.seat))
            (sym is) wins;
        wheel = wheel;
        pass = pass;
        serves = serves;
      })
    where
      by_answer : (a : Did) → Enters Fits Asking Answers Called Heard Left tags token moment old new a
          → Uses Fits Asking Answers Called Heard Left tags token moment old new a
      by_answer (did.Ran events) h = h
      by_answer (did.PutBack group seen) h = absurd h.serves.shows
      by_answer (did.AskMissed group seen) h = h
      by_answer did.Stale h = h
      by_answer (did.NotDue due) h = h
      by_answer did.Idle h = absurd h.serves.shows

  pub takes_one : (moment : ℕ) (token : Token) (old taken new : Desk (Group W Q R T U) T (Group W Q R T U) d)
      → Gets (length tags) moment old taken token → (answer : Did)
      → Uses Fits Asking Answers Called Heard Left tags token moment taken new answer
      → IsDid Fits Asking Answers Called Heard Left tags moment old new answer
  takes_one moment token old taken new gets (did.Ran events) uses = record
      { token = token; taken = taken; gets = gets; uses = uses }
  takes_one moment token old taken new gets (did.PutBack group seen) uses = record
      { token = token; taken = taken; gets = gets; uses = uses }
  takes_one moment token old taken new gets (did.AskMissed group seen) uses = record
      { token = token; taken = taken; gets = gets; uses = uses }
  takes_one moment token old taken new gets did.Stale uses = record
      { token = token; taken = taken; gets = gets; uses = uses }
  takes_one moment token old taken new gets (did.NotDue due) uses = record
      { token = token; taken = taken; gets = gets; uses = uses }
  takes_one moment token old taken new gets did.Idle uses = absurd uses

  -- what a seat counts beside the turn of a group
  works_counts : (token : Token) (old new : Desk (Group W Q R T U) T (Group W Q R T U) d) (answer : Did)
      → Works token old new answer
      → length (view old.seat).turns + length (view old.seat).misses ≤ length (view new.seat).turns + length
      (view new.seat).misses
  works_counts token old new (did.Ran events) w = elim w.counted [
    | inl same ↦ let t = ap (λ es. length es) same.turns in let m = ap (λ es. length es) same.misses in omega
        arith
    | inr asked ↦ let t = ap (λ es. length es) asked.2.turns in let m = ap (λ es. length es) asked.2.misses in
        omega arith
  ]
  works_counts token old new (did.PutBack group seen) w = absurd w.counted
  works_counts token old new (did.AskMissed group seen) w = let t = ap (λ es. length es) w.counted.1.turns in
      let m = ap (λ es. length es) w.counted.1.misses in omega arith
  works_counts token old new did.Stale w = let t = ap (λ es. length es) w.counted.turns in let m = ap
      (λ es. length es) w.counted.misses in omega arith
  works_counts token old new (did.NotDue due) w = let t = ap (λ es. length es) w.counted.turns in let m = ap
      (λ es. length es) w.counted.misses in omega arith
  works_counts token old new did.Idle w = absurd w.counted

  -- a turn of a group is counted
  one_counts : (moment : ℕ) (old new taken : Desk (Group W Q R T U) T (Group W Q R T U) d) (token : Token)
      (answer : Did) → Gets (length tags) moment old taken token
      → Enters Fits Asking Answers Called Heard Left tags token moment taken new answer
      → (empties_of old.pass ≤ empties_of new.pass) × CountsMore 1 old new
  one_counts moment old new taken token answer gets enters =
      let serves = enters.serves in
      let seat : view taken.seat ≡ view old.seat = ap
      (λ (s : Seat (Group W Q R T U) T (Group W Q R T U) d). view s) gets.seat in
      let entered : view enters.entered.seat ≡ won token.group enters.turn enters.found (view old.seat) =
      enters.wins ∙ ap (won token.group enters.turn enters.found) seat in
      let turns : length (view enters.entered.seat).turns ≡ suc (length (view old.seat).turns) = ap
      (λ (v : SeatView T (Group W Q R T U)). length v.turns) entered in
      let misses : length (view enters.entered.seat).misses ≡ length (view old.seat).misses = ap
      (λ (v : SeatView T (Group W Q R T U)). length v.misses) entered in
      let works = works_counts token enters.entered serves.worked answer serves.works in
      let turns' : length (view new.seat).turns ≡ length (view serves.worked.seat).turns = ap
      (λ es. length es) serves.leaves.turns in
      let misses' : length (view new.seat).misses ≡ length (view serves.worked.seat).misses = ap
      (λ es. length es) serves.leaves.misses in
      let same : empties_of new.pass ≡ empties_of old.pass = serves.told.empties ∙ ap (λ p. empties_of p)
      serves.works.pass ∙ ap (λ p. empties_of p) enters.pass ∙ gets.empties in
      (omega arith, inl (omega arith))

  -- a turn is counted
  pub did_counts : (moment : ℕ) (old new : Desk (Group W Q R T U) T (Group W Q R T U) d) (answer : Did)
      → IsDid Fits Asking Answers Called Heard Left tags moment old new answer
      → (empties_of old.pass ≤ empties_of new.pass) × CountsMore 1 old new
  did_counts moment old new did.Idle h =
      let rose = h.finds.none.rose in
      let seat : length (view new.seat).turns + length (view new.seat).misses ≡ length (view old.seat).turns +
      length (view old.seat).misses = ap (λ (s : Seat (Group W Q R T U) T (Group W Q R T U) d). length
      (view s).turns + length (view s).misses) h.seat in
      idle_counts (length (view old.seat).turns + length (view old.seat).misses)
      (length (view new.seat).turns + length (view new.seat).misses) (empties_of old.pass)
      (empties_of new.pass) seat rose
  did_counts moment old new (did.Ran events) h = one_counts moment old new h.taken h.token (did.Ran events)
      h.gets h.uses
  did_counts moment old new (did.PutBack group seen) h =
      let put = h.uses in
      let seat : view h.taken.seat ≡ view old.seat = ap
      (λ (s : Seat (Group W Q R T U) T (Group W Q R T U) d). view s) h.gets.seat in
      let same : empties_of new.pass ≡ empties_of old.pass = ap (λ p. empties_of p) put.pass ∙ h.gets.empties
      in
      let turns : length (view new.seat).turns ≡ length (view old.seat).turns = ap
      (λ (v : SeatView T (Group W Q R T U)). length v.turns) (put.misses.is ∙ ap (missed group seen) seat)
      in
      let misses : length (view new.seat).misses ≡ suc (length (view old.seat).misses) = ap
      (λ (v : SeatView T (Group W Q R T U)). length v.misses)
      (put.misses.is ∙ ap (missed group seen) seat) in
      (omega arith, inl (omega arith))
  did_counts moment old new (did.AskMissed group seen) h = one_counts moment old new h.taken h.token
      (did.AskMissed group seen) h.gets h.uses
  did_counts moment old new did.Stale h = one_counts moment old new h.taken h.token did.Stale h.gets h.uses
  did_counts moment old new (did.NotDue due) h = one_counts moment old new h.taken h.token (did.NotDue due)
      h.gets h.uses

  -- turns are counted
  pub counts_on : (m : ℕ) (a b c : Desk (Group W Q R T U) T (Group W Q R T U) d) → CountsMore m a b
      → (empties_of b.pass ≤ empties_of c.pass) × CountsMore 1 b c → CountsMore (m + 1) a c
  counts_on m a b c (inl x) (up, inl y) = inl (omega arith)
  counts_on m a b c (inl x) (up, inr y) = inr y
  counts_on m a b c (inr x) (up, y) = inr (omega arith)

  -- one turn more
  pub turns_more : (made : ℕ) (old mid new : Desk (Group W Q R T U) T (Group W Q R T U) d) (at moment : ℕ)
      (answer : Did) → Turns Fits Asking Answers Called Heard Left tags made old mid at
      → IsDid Fits Asking Answers Called Heard Left tags at mid new answer
      → IsNextMoment answer new.wheel at moment
      → Turns Fits Asking Answers Called Heard Left tags (made + 1) old new moment
  turns_more made old mid new at moment answer turns is next =
      let e : suc made ≡ made + 1 = omega arith in subst
      (λ n. Turns Fits Asking Answers Called Heard Left tags n old new moment) e
      (mid, at, turns, answer, is, next)
