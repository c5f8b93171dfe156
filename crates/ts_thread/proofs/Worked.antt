-- What a handler's work makes of its group, and what comes of it.
use Rattle.std.proofs.Common.{◌≡◌, ℕ, ◌+◌, ◌*◌, ◌<◌, ◌≤◌, ◌⊎◌, inr, Bool, true, cond, List, [], Option, Some, sym, ap, ◌∙◌, subst, arith}
use Rattle.std.specs.Prelude.{Result, Ok, Err, IfOk, IfErr, IsErr}
use Rattle.std.specs.List.{Contains}
use Rattle.std.specs.Bool.{OnTrue}
use Rattle.ts_lists.proofs.Places.{got_place, place_got}
use mathlib.Core.Option.{some}
use lib.ListN.{get_elem?}
use Rattle.ts_link.specs.declared.octets.NoMemory.{NoMemory}
use Rattle.ts_journal.specs.declared.slotted.Slotted.{Ghosts}
use Rattle.ts_journal.specs.declared.entry.Pending.{Pending}
use Rattle.ts_journal.specs.State.{State, pending_at, IsLive}
use Rattle.ts_journal.specs.Machine.{IsValid}
use Rattle.ts_journal.specs.Later.{IsLater}
use Rattle.ts_journal.proofs.Events.{is_known}
use Rattle.ts_journal.proofs.Later.{later_refl, later_trans, extends_later}
use Rattle.ts_group.specs.declared.action.Named.{Named}
use Rattle.ts_group.specs.declared.group.Group.{Group}
use Rattle.ts_group.specs.declared.group.TheConstants.{MOST_EVENTS}
use Rattle.ts_group.specs.declared.slot.TheConstants.{MOST_IN_TURN}
use Rattle.ts_group.specs.declared.world.TheConstants.{MOST_SET}
use Rattle.ts_group.specs.declared.world.Asked.{Asked}
use Rattle.ts_group.specs.declared.world.Asked.TheVariants as asked
use Rattle.ts_group.specs.Context.{own_key}
use Rattle.ts_group.specs.Entries.{Grows, CanBeAsked}
use Rattle.ts_group.specs.Calls.{Handles, TakesQuestion}
use Rattle.ts_group.specs.Changes.{StaysInTurn}
use Rattle.ts_group.specs.Answers.{Holds, KeepsTags, SetsAtMost, IsAnswer, IsSameGroup, HasReplied}
use Rattle.ts_group.specs.Slot.{marks_in}
use Rattle.ts_queue.specs.declared.ticket.Token.{Token}
use Rattle.ts_slot.specs.Limits.{last_turn}
use Rattle.ts_slot.specs.declared.view.SeatView.{SeatView}
use Rattle.ts_slot.specs.Words.{view}
use Rattle.ts_thread.specs.declared.desk.Desk.{Desk}
use Rattle.ts_thread.specs.declared.did.Did.{Did}
use Rattle.ts_thread.specs.declared.did.Did.TheVariants as did
use Rattle.ts_thread.specs.Asks.{AnswersAsked, CameBy, GivesReply}
use Rattle.ts_thread.specs.Heard.{RunsHandlers}
use Rattle.ts_thread.specs.Held.{HasTurn, IsGivenBack, GoesInTurn, BeginsSame, SetsFewInTurn, IsWorked}
use Rattle.ts_thread.specs.Shown.{IsShown, HandledDue, WasDue}
use Rattle.ts_thread.specs.Tags.{GroupFits, CanAsk}
use Rattle.ts_thread.specs.Turning.{Works}
use Rattle.ts_thread.proofs.Entries.{own_marks, own_handles, runs_marks, runs_first, is_handled, marks_stay}
use Rattle.ts_group.proofs.Slots.{marks_same}

pub err_any : {A E : Type 0} (r : Result A E) (P : A → Type 0) → IsErr r → IfOk r P
err_any (Ok a) P e = absurd (cc)
err_any (Err a) P e = tt

-- what was handled stays handled
pub due_later : (a b c : State) (number moment : ℕ) → IsValid a → IsLater a b → IsLater b c
    → WasDue a b number moment → WasDue a c number moment
due_later a b c number moment valid ab bc w =
    let known = is_known a number w.event valid w.there in
    let below = known.below in
    let numbered = known.number in
    let up = ab.next in
    record { event = w.event; there = w.there; due = w.due; gone = bc.closed number (omega arith) w.gone }

pub handled_later : (a b c : State) (number moment events : ℕ) → IsValid a → IsLater a b → IsLater b c
    → c.handled_count ≡ b.handled_count → HandledDue a b number moment events
    → HandledDue a c number moment events
handled_later a b c number moment events valid ab bc same h =
    record {
      was_due = due_later a b c number moment valid ab bc h.was_due;
      some = h.some;
      most = h.most;
      rise
          = same ∙ h.rise;
    }

-- something is pending
not_none : (ps : List Pending) (number : ℕ) (p : Pending) → pending_at number ps ≡ Some p → ps ≡ [] → ⊥
not_none ps number p there none = let h : pending_at number [] ≡ Some p = sym (ap (pending_at number) none) ∙
    there in absurd (cc)

module _ {W Q R T U : Type 0} where
  module _ (Called : W → W → List ℕ → Type 0) (Fits : T → W → Type 0) (old new : Group W Q R T U)
      (number moment events : ℕ) (valid : IsValid old.cx.log.state)
      (h : Handles Called old new number moment events) where
    pub handles_goes : KeepsTags Fits old.world new.world → GoesInTurn Fits old new
    handles_goes tags = record {
      turn = h.turn;
      marks = marks_stay old.cx.log new.cx.log h.es h.by
          (runs_marks Called old.world new.world old.cx.log.state moment number [] events h.es new.cx.calls
          h.runs);
      later = extends_later old.cx.log new.cx.log h.es valid h.by;
      made = ap (λ b. b.made) h.by.base;
      news_from = h.news_from;
      tags = tags;
    }

    pub handles_due : HandledDue old.cx.log.state new.cx.log.state number moment events
    handles_due =
        let x = is_handled old.cx.log.state new.cx.log.state moment number h.es valid h.by.lawful h.by.state
        (runs_first Called old.world new.world old.cx.log.state moment number [] events h.es new.cx.calls
        h.runs) in
        record {
          was_due = record { event = x.event; there = x.there; due = x.due; gone = x.gone };
          some =
              h.some;
          most = h.most;
          rise = h.rise;
        }

    pub handles_few : SetsAtMost Fits old.world (MOST_EVENTS * (MOST_SET + 1)) old.cx new.cx
        → SetsFewInTurn Fits old new
    handles_few few =
        let due = handles_due in
        record {
          few = λ t fit. let f : new.cx.log.state.next ≤ old.cx.log.state.next + 6464 = few t fit in omega
              arith;
          nothing = λ none. absurd (not_none old.cx.log.state.pending number due.was_due.event
              due.was_due.there none);
        }

  pub grows_goes : (Fits : T → W → Type 0) (old new : Group W Q R T U) → IsValid old.cx.log.state
      → Grows old.cx new.cx → StaysInTurn old.cx.log.state new.cx.log.state
      → KeepsTags Fits old.world new.world → GoesInTurn Fits old new
  grows_goes Fits old new valid grows turn tags = record {
    turn = turn;
    marks = marks_stay old.cx.log new.cx.log grows.log.own grows.log.by
        (own_marks grows.log.own grows.log.all_own);
    later = extends_later old.cx.log new.cx.log grows.log.own valid grows.log.by;
    made = ap (λ b. b.made) grows.log.by.base;
    news_from = grows.news_from;
    tags = tags;
  }

  pub question_goes : (Fits : T → W → Type 0) (old new : Group W Q R T U) (moment : ℕ)
      → IsValid old.cx.log.state → TakesQuestion old.cx new.cx moment → KeepsTags Fits old.world new.world
      → GoesInTurn Fits old new
  question_goes Fits old new moment valid q tags = record {
    turn = q.turn;
    marks = marks_stay old.cx.log new.cx.log _ q.by (own_marks q.own q.all_own);
    later = extends_later old.cx.log new.cx.log _ valid q.by;
    made = ap (λ b. b.made) q.by.base;
    news_from = q.news_from;
    tags = tags;
  }

  pub same_goes : (Fits : T → W → Type 0) (old new : Group W Q R T U) → old.cx.log.state.held ≡ true
      → IsSameGroup old new → GoesInTurn Fits old new
  same_goes Fits old new held same = record {
    turn = record {
      held = ap (λ (s : State). s.held) same.cx.log.state ∙ held;
      turns = ap
          (λ (s : State). s.turns) same.cx.log.state;
    };
    marks = marks_same old.cx.log new.cx.log same.cx.log;
    later = subst (IsLater old.cx.log.state) (sym same.cx.log.state) (later_refl old.cx.log.state);
    made = ap (λ b. b.made) same.cx.log.base;
    news_from = same.cx.news_from;
    tags = λ t f. subst (Fits t) (sym same.world) f;
  }

  pub goes_trans : (Fits : T → W → Type 0) (a b c : Group W Q R T U) → GoesInTurn Fits a b
      → GoesInTurn Fits b c → GoesInTurn Fits a c
  goes_trans Fits a b c p q = record {
    turn = record { held = q.turn.held; turns = q.turn.turns ∙ p.turn.turns };
    marks = q.marks ∙ p.marks;
    later = later_trans a.cx.log.state b.cx.log.state c.cx.log.state p.later q.later;
    made = q.made ∙ p.made;
    news_from = q.news_from ∙ p.news_from;
    tags = λ t f. q.tags t (p.tags t f);
  }

  -- events were handled, and then the handler was told what came of its question
  pub told_worked : {G S : Type 0} (Sound : W → State → List Named → Type 0) (Fits : T → W → Type 0)
      (Asking : W → State → List Named → ℕ → ℕ → Q → Type 0) (Answers : W → Q → R → Type 0)
      (Called : W → W → List ℕ → Type 0) (Heard : W → W → Asked Q R → Type 0) (Left : W → State → Option ℕ)
      (tags : List T) (a b c : Group W Q R T U) (number moment events : ℕ) (v u : SeatView G S)
      (r : Result Did NoMemory) → IsValid a.cx.log.state → IsValid b.cx.log.state
      → Handles Called a b number moment events → KeepsTags Fits a.world b.world
      → SetsAtMost Fits a.world (MOST_EVENTS * (MOST_SET + 1)) a.cx b.cx
      → Grows b.cx c.cx → StaysInTurn b.cx.log.state c.cx.log.state → Holds Sound c
      → KeepsTags Fits b.world c.world → SetsAtMost Fits b.world MOST_SET b.cx c.cx
      → RunsHandlers Fits Asking Answers Called Heard Left tags number moment a c v u r
      → IsWorked Sound Fits Asking Answers Called Heard Left tags number moment a c v u r
  told_worked Sound Fits Asking Answers Called Heard Left tags a b c number moment events v u r va vb h keeps
      few grows turn sound tags2 few2 ran =
      let due = handles_due Called Fits a b number moment events va h in
      record {
        goes = goes_trans Fits a b c (handles_goes Called Fits a b number moment events va h keeps)
            (grows_goes Fits b c vb grows turn tags2);
        sound = sound;
        few = record {
          few = λ t fit.
              let f : b.cx.log.state.next ≤ a.cx.log.state.next + 6464 = few t fit in
              let g : c.cx.log.state.next ≤ b.cx.log.state.next + 100 = few2 t (keeps t fit) in omega arith;
          nothing = λ none. absurd (not_none a.cx.log.state.pending number due.was_due.event due.was_due.there
              none);
        };
        ran = ran;
      }

  -- what was handled, after the handler was told
  pub told_due : (Called : W → W → List ℕ → Type 0) (Fits : T → W → Type 0) (a b c : Group W Q R T U)
      (number moment events : ℕ) → IsValid a.cx.log.state → IsValid b.cx.log.state
      → Handles Called a b number moment events → Grows b.cx c.cx
      → HandledDue a.cx.log.state c.cx.log.state number moment events
  told_due Called Fits a b c number moment events va vb h grows =
      handled_later a.cx.log.state b.cx.log.state c.cx.log.state number moment events va
      (extends_later a.cx.log b.cx.log h.es va h.by)
      (extends_later b.cx.log c.cx.log grows.log.own vb grows.log.by)
      (ap (λ (s : State). s.handled_count) grows.log.by.state ∙ own_handles b.cx.log.state grows.log.own
      grows.log.all_own)
      (handles_due Called Fits a b number moment events va h)

pub asked_shown : {Q R : Type 0} (a c : State) (number moment events to : ℕ) (answer : Asked Q R)
    (r : Result Did NoMemory) → AnswersAsked events to answer r → HandledDue a c number moment events
    → IfOk r (IsShown a c number moment)
asked_shown a c number moment events to (asked.Reply x) r is h = subst
    (λ (y : Result Did NoMemory). IfOk y (IsShown a c number moment)) (sym is) h
asked_shown a c number moment events to (asked.Missed seen q) r is h = subst
    (λ (y : Result Did NoMemory). IfOk y (IsShown a c number moment)) (sym is) h.was_due
asked_shown a c number moment events to (asked.NoMemory q) r is h = err_any r (IsShown a c number moment) is

module _ {X G T : Type 0} {d : Ghosts X G T} where
  pub asked_works : {Q R : Type 0} (token : Token) (a b : Desk X G T d) (events to : ℕ) (answer : Asked Q R)
      (r : Result Did NoMemory) → (to ≡ token.group → ⊥) → AnswersAsked events to answer r
      → CameBy to (view a.seat) (view b.seat) answer → b.wheel ≡ a.wheel → b.pass ≡ a.pass
      → IfOk r (Works token a b)
  asked_works token a b events to (asked.Reply x) r other is came wheel pass =
      let w : Works token a b (did.Ran events) = record
      { counted = inr (to, other, came); wheel = wheel; pass = pass } in
      subst (λ (y : Result Did NoMemory). IfOk y (Works token a b)) (sym is) w
  asked_works token a b events to (asked.Missed seen q) r other is came wheel pass =
      let w : Works token a b (did.AskMissed to seen) = record
      { counted = (other, came); wheel = wheel; pass = pass } in
      subst (λ (y : Result Did NoMemory). IfOk y (Works token a b)) (sym is) w
  asked_works token a b events to (asked.NoMemory q) r other is came wheel pass = err_any r (Works token a b)
      is

-- the group that a world wants to ask can be asked, and what it gives is right
pub record MayBeAsked {W Q R T : Type 0} (Fits : T → W → Type 0) (only_asked : T → Bool)
    (Right : W → ℕ → Q → R → Type 0) (Answers : W → Q → R → Type 0) (tags : List T) (own to : ℕ) (world : W) :
    Type 0 where
  pub other : to ≡ own → ⊥
  pub tag : T
  pub there : get_elem? tags to ≡ some tag
  pub asked : only_asked tag ≡ true
  pub right : (q : Q) (r : R) → GivesReply Fits Answers tags to q r → Right world to q r

pub may_be_asked : {W Q R T : Type 0} (Fits : T → W → Type 0) (only_asked : T → Bool)
    (MayAsk : W → ℕ → Type 0) (Right : W → ℕ → Q → R → Type 0) (Answers : W → Q → R → Type 0) (tags : List T)
    (own to : ℕ) (t : T) (world : W)
    → CanAsk Fits only_asked MayAsk Right Answers tags → get_elem? tags own ≡ some t → Fits t world
    → MayAsk world to → MayBeAsked Fits only_asked Right Answers tags own to world
may_be_asked Fits only_asked MayAsk Right Answers tags own to t world can at fit may =
    let other = can.others own to t world (place_got tags own t at) fit may in
    record {
      other = λ e. other.0 (sym e);
      tag = other.1;
      there = got_place tags to other.1 other.2;
      asked = other.3;
      right = λ q r gives. can.replies own to t gives.0 world gives.1 q r (place_got tags own t at) fit
          (place_got tags to gives.0 gives.2) gives.3 gives.4;
    }

pub answer_over : {Q R : Type 0} (A B : ℕ → Q → R → Type 0) (k : ℕ) (q : Q) (answer : Asked Q R)
    → IsAnswer A k q answer → ((r : R) → A k q r → B k q r) → IsAnswer B k q answer
answer_over A B k q (asked.Reply r) h f = f r h
answer_over A B k q (asked.Missed seen x) h f = h
answer_over A B k q (asked.NoMemory x) h f = h

module _ {W Q R T U : Type 0} (Fits : T → W → Type 0) (Sound : W → State → List Named → Type 0)
    (only_asked is_first : T → Bool) where
  -- a group that is only asked can be asked in a turn
  pub can_be_asked : (old new : Group W Q R T U) (turn seat : ℕ) (t : T) → HasTurn Fits old new turn seat
      → BeginsSame old new → GroupFits Fits Sound only_asked is_first t old → only_asked t ≡ true
      → old.cx.log.state.turns < turn → turn ≤ last_turn
      → OnTrue (only_asked t) (IsLive new.cx.log.state.live own_key) → CanBeAsked new.cx.log.state
  can_be_asked old new turn seat t has same fit asked young low rests =
      let next = same.next in
      let was : old.cx.log.state.next ≤ old.cx.log.state.turns + 1 = subst
      (λ (b : Bool). old.cx.log.state.next ≤ cond b (old.cx.log.state.turns + 1)
      (MOST_IN_TURN * old.cx.log.state.turns + 1)) asked fit.2.1 in
      record {
        turn = has.held;
        live = subst (λ (b : Bool). OnTrue b (IsLive new.cx.log.state.live own_key)) asked rests;
        unspent = omega arith;
      }

  -- whatever came of a question, the group goes on in its turn
  pub asked_goes : (Answers : W → Q → R → Type 0) (r : Result R (NoMemory × Q)) (old new : Group W Q R T U)
      (question : Q) (moment : ℕ) → IsValid old.cx.log.state → old.cx.log.state.held ≡ true
      → IfOk r (HasReplied Answers old new question moment)
      → IfErr r (λ e. (e.1 ≡ question) × IsSameGroup old new) → KeepsTags Fits old.world new.world
      → GoesInTurn Fits old new
  asked_goes Answers (Ok reply) old new question moment valid held ok err tags = question_goes Fits old new
      moment valid ok.taken tags
  asked_goes Answers (Err e) old new question moment valid held ok err tags = same_goes Fits old new held
      err.1

-- which turns are recorded in a group that is given back, by what is known of the one that was found
pub given_marks : {W Q R T U : Type 0} (Fits : T → W → Type 0) (found new old : Group W Q R T U)
    (turn turn' seat seat' : ℕ) → IsGivenBack Fits found new turn seat → found ≡ old → turn ≡ turn'
    → seat ≡ seat'
    → (mark : ℕ × ℕ) → Contains (marks_in new.cx.log) mark
    → Contains (marks_in old.cx.log) mark ⊎ (mark ≡ (turn', seat'))
given_marks {W} {Q} {R} {T} {U} Fits found new old turn turn' seat seat' given e f h mark there =
    subst (λ (x : Group W Q R T U × ℕ × ℕ). Contains (marks_in x.0.cx.log) mark ⊎ (mark ≡ (x.1, x.2)))
    (λ i. (e i, f i, h i)) (given.marks mark there)
