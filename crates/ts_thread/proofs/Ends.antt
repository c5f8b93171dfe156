-- What a turn leaves of a desk.
use Rattle.std.proofs.Common.{◌≡◌, ℕ, ◌+◌, ◌<◌, ◌≤◌, inl, inr, Bool, true, [], ◌∷◌, ◌++◌, length, sym, ap, ◌∙◌, subst, arith}
use Rattle.ts_journal.specs.declared.slotted.Slotted.{Ghosts}
use Rattle.ts_journal.specs.declared.entry.Pending.{Pending}
use Rattle.ts_journal.specs.State.{State, pending_at}
use Rattle.ts_journal.specs.Later.{IsLater}
use Rattle.ts_journal.proofs.Later.{later_trans}
use Rattle.ts_group.specs.declared.group.Group.{Group}
use Rattle.ts_group.specs.Context.{IsSame}
use Rattle.ts_group.specs.Answers.{KeepsTags}
use Rattle.ts_group.specs.Slot.{marks_in}
use Rattle.ts_group.proofs.Slots.{marks_same}
use Rattle.ts_queue.specs.declared.queue.EventQueue.{EventQueue}
use Rattle.ts_queue.specs.declared.ticket.Token.{Token}
use Rattle.ts_queue.specs.declared.queue.QueuePass.{QueuePass}
use Rattle.ts_queue.specs.Passes.{IsPassOf, pass_view, empties_of}
use Rattle.ts_slot.specs.declared.slots.Slots.{Slots}
use Rattle.ts_slot.specs.Lists.{IsIn}
use Rattle.ts_slot.specs.Words.{tags_of, view, IsSeatOf}
use Rattle.ts_wheel.specs.Due.{added}
use Rattle.ts_thread.specs.declared.desk.Desk.{Desk}
use Rattle.ts_thread.specs.Desks.{IsDeskOf}
use Rattle.ts_thread.specs.Held.{HasTurn, IsGivenBack, GivesBack}
use Rattle.ts_thread.specs.News.{OnlyNews, HasTold, HasPlace, HasTicket, is_between, is_news, in_wheel, in_tickets, places_of}
use Rattle.ts_thread.specs.Seats.{KnowsTurn}
use Rattle.ts_thread.specs.Tokens.{AllName, Stays}
use Rattle.ts_thread.specs.Turning.{EndsTurn}
use Rattle.ts_thread.proofs.Groups.{keeps_same, marks_given}
use Rattle.ts_thread.proofs.Tokens.{one_if, All-added}

-- a desk stays one of its tables when a token of one of the groups is added to its wheel
pub desk_added : {X G T : Type 0} {d : Ghosts X G T} (slots : Slots X G T) (queue : EventQueue)
    (a b : Desk X G T d) (token : Token) (due : ℕ) → token.group < length (tags_of slots)
    → IsSeatOf slots b.seat → b.pass ≡ a.pass → b.wheel ≡ added due token a.wheel → IsDeskOf slots queue a
    → IsDeskOf slots queue b
desk_added slots queue a b token due names seat pass wheel was = record {
  seat = seat;
  pass = subst (λ p. IsPassOf queue p) (sym pass) was.pass;
  wheel = subst (AllName (length (tags_of slots))) (sym wheel)
      (All-added (λ (e : ℕ × Token). e.1.group < length (tags_of slots)) due token a.wheel names was.wheel);
}

-- what a group has to have when its turn is given back
pub record IsGivable {W Q R T U : Type 0} (Fits : T → W → Type 0) (found now : Group W Q R T U)
    (turn seat : ℕ) : Type 0 where
  pub held : now.cx.log.state.held ≡ true
  pub number : now.cx.log.state.turns ≡ turn
  pub marks : marks_in now.cx.log ≡ marks_in found.cx.log ++ (turn, seat) ∷ []
  pub later : IsLater found.cx.log.state now.cx.log.state
  pub made : now.cx.log.base.made ≡ found.cx.log.base.made
  pub rose : found.cx.news_from ≤ now.cx.news_from
  pub tags : KeepsTags Fits found.world now.world

module _ {W Q R T U : Type 0} where
  given_held : (Fits : T → W → Type 0) (found a b : Group W Q R T U) (turn seat : ℕ)
      → IsGivable Fits found a turn seat → GivesBack a b → IsGivenBack Fits found b turn seat
  given_held Fits found a b turn seat has gives = record {
    free = gives.free;
    stamp = inr (gives.number ∙ has.number);
    marks = marks_given found a b turn seat has.marks gives;
    later = later_trans found.cx.log.state a.cx.log.state b.cx.log.state has.later gives.later;
    made = gives.made ∙ has.made;
    rose = let a = has.rose in let b = gives.news_from in omega arith;
    tags = λ tag fit. keeps_same Fits a.world b.world gives.same.world tag (has.tags tag fit);
  }

  -- a turn stays one where nothing changes but the news
  pub told_has : (Fits : T → W → Type 0) (found a b : Group W Q R T U) (turn seat : ℕ)
      → HasTurn Fits found a turn seat → OnlyNews a b → IsGivable Fits found b turn seat
  told_has Fits found a b turn seat has only = let same = only.cx in record {
    held = ap (λ (s : State). s.held) same.log.state ∙ has.held;
    number = ap (λ (s : State). s.turns) same.log.state ∙ has.number;
    marks = marks_same a.cx.log b.cx.log same.log ∙ has.marks;
    later = subst (λ (s : State). IsLater found.cx.log.state s) (sym same.log.state) has.later;
    made = ap (λ b. b.made) same.log.base ∙ has.made;
    rose = let e = has.news_from in let rose = only.rose in omega arith;
    tags = λ tag fit. keeps_same Fits a.world b.world only.world tag (has.tags tag fit);
  }

  -- the news was told, and the turn given back
  pub told_given : (Fits : T → W → Type 0) (found a a' b b' c : Group W Q R T U) (turn seat : ℕ)
      → HasTurn Fits found a turn seat → a' ≡ a → OnlyNews a' b → b' ≡ b → GivesBack b' c
      → IsGivenBack Fits found c turn seat
  told_given Fits found a a' b b' c turn seat has e only f gives = given_held Fits found b c turn seat
      (told_has Fits found a' b turn seat (subst (λ x. HasTurn Fits found x turn seat) (sym e) has) only)
      (subst (λ x. GivesBack x c) f gives)

  module _ {d : Ghosts (Group W Q R T U) T (Group W Q R T U)} where
    pub ends_turn : (shared : Bool) (k k' turn moment : ℕ) (a a' b b' c : Group W Q R T U)
        (old mid new : Desk (Group W Q R T U) T (Group W Q R T U) d) → k' ≡ k → a' ≡ a
        → IsSame (record a'.cx { news_from = b.cx.news_from }) b.cx → b.world ≡ a'.world → b' ≡ b
        → GivesBack b' c
        → new.wheel ≡ mid.wheel → new.pass ≡ mid.pass → KnowsTurn k turn c (view new.seat).known
        → HasTold shared k' moment a' b old mid → EndsTurn shared k turn moment a old new
    ends_turn shared k k' turn moment a a' b b' c old mid new ke e same world f gives' wheel pass knows told =
        let gives : GivesBack b c = subst (λ x. GivesBack x c) f gives' in
        let pending : c.cx.log.state.pending ≡ b.cx.log.state.pending = gives.same.pending in
        let from = gives.news_from in
        let state : b.cx.log.state ≡ a.cx.log.state = same.log.state ∙ ap
        (λ (x : Group W Q R T U). x.cx.log.state) e in
        let told' : HasTold shared k moment a b old mid = subst
        (λ (x : ℕ × Group W Q R T U). HasTold shared x.0 moment x.1 b old mid) (λ i. (ke i, e i)) told in
        record {
          left = c;
          as_now = record {
            world = gives.same.world ∙ world ∙ ap (λ (x : Group W Q R T U). x.world) e;
            pending = pending ∙ ap (λ (s : State). s.pending) state;
            handled = gives.same.handled ∙ ap (λ (s : State). s.handled_count) state;
            later = subst (λ (s : State). IsLater s c.cx.log.state) state gives.later;
            made = gives.made ∙ ap (λ b. b.made) same.log.base
                ∙ ap (λ (x : Group W Q R T U). x.cx.log.base.made) e;
          };
          told = record {
            none = λ n p there. let low = told'.none n p (sym (ap (pending_at n) pending) ∙ there) in omega
                arith;
            each = λ n p there low. placed p (told'.each n p (sym (ap (pending_at n) pending) ∙ there) low);
            once = λ t.
                let news : is_news k a c t ≡ is_news k a b t =
                (λ i. is_between k a.cx.news_from (from i) (pending i) t) in
                let places : places_of t new ≡ places_of t mid =
                (λ i. in_wheel t (wheel i) + in_tickets t (pass_view (pass i)).put) in
                places ∙ told'.once t ∙ ap (λ (b : Bool). places_of t old + one_if b) (sym news);
            keeps = record {
              wheel = λ x there. subst (IsIn x) (sym wheel) (told'.keeps.wheel x there);
              put = λ t there. subst (λ (p : QueuePass). HasTicket t (pass_view p).put) (sym pass)
                  (told'.keeps.put t there);
              taken = ap (λ (p : QueuePass). (pass_view p).taken) pass ∙ told'.keeps.taken;
              spent = λ none. serial ∙ told'.keeps.spent none;
            };
            empties = ap (λ p. empties_of p) pass ∙ told'.empties;
          };
          knows = knows;
        }
      where
        serial : (pass_view new.pass).serial ≡ (pass_view mid.pass).serial
        serial = ap (λ (p : QueuePass). (pass_view p).serial) pass

        stays : (p : Pending) → Stays shared p.due moment mid → Stays shared p.due moment new
        stays p (inl late) = inl late
        stays p (inr (inl own)) = inr (inl own)
        stays p (inr (inr none)) = inr (inr (serial ∙ none))

        placed : (p : Pending) → HasPlace shared moment k p mid → HasPlace shared moment k p new
        placed p (inl waits) = inl (
          stays p waits.0,
          subst (IsIn (p.due, record { group = k; number = p.number })) (sym wheel) waits.1,
        )
        placed p (inr put) = inr (
          put.0,
          put.1,
          subst
              (λ (q : QueuePass). HasTicket (record { group = k; number = p.number }) (pass_view q).put)
              (sym pass) put.2,
        )
