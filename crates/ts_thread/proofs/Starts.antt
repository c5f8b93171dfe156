-- Groups that are started, from their first turns to the end.
use Rattle.std.proofs.Common.{◌≡◌, ℕ, zero, suc, ◌+◌, ◌-◌, ◌*◌, ◌<◌, ◌≤◌, inl, inr, Bool, true, false, cond, eqb, List, [], ◌∷◌, Some, None, length, All, refl, sym, ap, ◌∙◌, subst, ⊎_elim, arith}
use Rattle.std.specs.Bool.{OnTrue}
use Rattle.std.proofs.lemmas.Bool.{cases_lt}
use Rattle.std.proofs.lemmas.List.Elements.{All-head, All-tail}
use Rattle.ts_lists.proofs.Places.{place_once}
use mathlib.Core.Option.{some}
use lib.ListN.{get_elem?}
use Rattle.ts_journal.specs.declared.slotted.Slotted.{Ghosts}
use Rattle.ts_journal.specs.declared.entry.Pending.{Pending}
use Rattle.ts_journal.specs.State.{State, pending_at}
use Rattle.ts_journal.specs.Later.{IsLater}
use Rattle.ts_group.specs.declared.action.Named.{Named}
use Rattle.ts_group.specs.declared.group.Group.{Group}
use Rattle.ts_group.specs.declared.slot.TheConstants.{MOST_IN_TURN}
use Rattle.ts_group.specs.Due.{NoNews}
use Rattle.ts_group.specs.Standing.{StandsAfter, follows_on}
use Rattle.ts_queue.specs.declared.ticket.Token.{Token}
use Rattle.ts_slot.specs.declared.seat.Turn.{Turn}
use Rattle.ts_slot.specs.declared.view.SeatView.{SeatView}
use Rattle.ts_slot.specs.Limits.{last_turn}
use Rattle.ts_slot.specs.Lists.{Each, IsIn, same, entries, rest}
use Rattle.ts_slot.specs.Views.{Coherent, firsts, won, IsAfter}
use Rattle.ts_slot.specs.Words.{IsTop}
use Rattle.ts_wheel.specs.Due.{next_moment}
use Rattle.ts_thread.specs.declared.desk.Desk.{Desk}
use Rattle.ts_thread.specs.Entering.{IsEntered, IsWon}
use Rattle.ts_thread.specs.Held.{HasTurn, BeginsSame, StartsInTurn, FitsHere, WillFit}
use Rattle.ts_thread.specs.News.{HasPlaceAt}
use Rattle.ts_thread.specs.Seats.{More, KeepsSeat, Leaves, KnowsTurn}
use Rattle.ts_thread.specs.Started.{HasPut, IsFirst, Starts, WasStarted, Started, AllStarted}
use Rattle.ts_thread.proofs.Groups.{keeps_same, turn_follows, has_gone}
use Rattle.ts_thread.proofs.Seats.{keeps_trans, won_left}

-- what a seat knows of a group that it won
pub won_turn : {X G T : Type 0} {d : Ghosts X G T} (k : ℕ) (old new : SeatView G T) (turn : Turn X G T d)
    → turn.group ≡ k → turn.found.value ≡ turn.boxed.value → d.stamp turn.boxed.value < turn.number
    → new ≡ won k turn.number (d.trace turn.boxed.value) old → IsWon new turn
won_turn {X} {G} {T} {d} k old new turn group found later wins =
    let value : d.trace turn.boxed.value ≡ d.trace turn.found.value = ap d.trace (sym found) in
    let held : new.held ≡ (k, turn.number, d.trace turn.boxed.value) ∷ old.held =
    ap (λ (v : SeatView G T). v.held) wins in
    let known : new.known ≡ (k, turn.number - 1, d.trace turn.boxed.value) ∷ old.known =
    ap (λ (v : SeatView G T). v.known) wins in
    let top : new.held ≡ (k, turn.number, d.trace turn.boxed.value) ∷ rest new.held =
    held ∙ ap (λ es. (k, turn.number, d.trace turn.boxed.value) ∷ rest es) (sym held) in
    record {
      top = subst (λ j. IsTop new j turn.number (d.trace turn.found.value)) (sym group)
          (subst (IsTop new k turn.number) value top);
      found = found;
      later = later;
      knows = subst (λ j. IsIn (j, turn.number - 1, d.trace turn.found.value) new.known) (sym group)
          (subst (λ c. IsIn (k, turn.number - 1, c) new.known) value
          (subst (IsIn (k, turn.number - 1, d.trace turn.boxed.value)) (sym known) (inl refl)));
    }

-- a wheel in which no token waits is empty
pub none_waits : (wheel : List (ℕ × Token)) → next_moment wheel ≡ None → wheel ≡ []
none_waits [] none = refl
none_waits (e ∷ es) none = absurd (cc)

-- where the wheel is empty, what has a place was put
pub place_put : {X G T : Type 0} {d : Ghosts X G T} (moment : ℕ) (desk : Desk X G T d) → desk.wheel ≡ []
    → (k : ℕ) (p : Pending) → HasPlaceAt moment desk k p → HasPut desk.pass k p
place_put moment desk none k p has = elim has [
  | inl waits ↦ absurd (subst (IsIn _) none waits.1)
  | inr put ↦ put.2
]

-- the group that was entered is won, and the seat knows what it found
pub entered_won : {X G T : Type 0} {d : Ghosts X G T} (tags : List G) (k : ℕ) (old new : SeatView G T)
    (turn : Turn X G T d) → IsEntered tags k old new turn → IsWon new turn
entered_won {X} {G} {T} {d} tags k old new turn entered = won_turn k entered.before new turn entered.group
    entered.found entered.later entered.wins

-- a group was entered, and left
pub entered_left : {X G T : Type 0} {d : Ghosts X G T} (tags : List G) (k : ℕ) (old new u : SeatView G T)
    (turn : Turn X G T d) → IsEntered tags k old new turn → Leaves new u → KeepsSeat old u 1
entered_left {d = d} tags k old new u turn entered leaves =
    keeps_trans old entered.before u 0 1 1 (omega arith) entered.misses
    (won_left entered.before new u k turn.number (d.trace turn.boxed.value) entered.wins leaves)

module _ {W Q R T U : Type 0} (Fits : T → W → Type 0) (Sound : W → State → List Named → Type 0)
    (only_asked is_first : T → Bool) (Begun : W → W → Type 0) (tags : List T) where
  -- a group that was started fits its tag once its turn is given back
  pub start_fits : (k k' turn seat : ℕ) (v g0 g1 g1' g2 : Group W Q R T U) (t : T)
      → FitsHere Fits Sound only_asked is_first tags k v → get_elem? tags k ≡ some t → only_asked t ≡ false
      → k' ≡ k → g0 ≡ v
      → HasTurn Fits g0 g1 turn seat → BeginsSame g0 g1 → g1' ≡ g1 → StartsInTurn Fits Sound Begun g1' g2
      → v.cx.log.state.turns < turn → WillFit Fits Sound only_asked is_first tags k' g2
  start_fits k k' turn seat v g0 g1 g1' g2 t fit at not group is has same is1 starts later =
      let own = fit.0 in
      let tag : own ≡ t = place_once tags k own t fit.1 at in
      let free : only_asked own ≡ false = ap only_asked tag ∙ not in
      let world : g1'.world ≡ v.world = ap (λ (x : Group W Q R T U). x.world) is1 ∙ same.world ∙ ap
      (λ (x : Group W Q R T U). x.world) is in
      let fits1 : Fits own g1'.world = subst (λ w. Fits own w) (sym world) fit.2.0 in
      let rest = fit.2.2 in
      let was : v.cx.log.state.next ≤ MOST_IN_TURN * v.cx.log.state.turns + 1 = subst
      (λ (b : Bool). v.cx.log.state.next ≤ cond b (v.cx.log.state.turns + 1)
      (MOST_IN_TURN * v.cx.log.state.turns + 1)) free rest.1 in
      let next : g1'.cx.log.state.next ≡ v.cx.log.state.next = ap
      (λ (x : Group W Q R T U). x.cx.log.state.next) is1 ∙ same.next ∙ ap
      (λ (x : Group W Q R T U). x.cx.log.state.next) is in
      let more : g2.cx.log.state.next ≤ g1'.cx.log.state.next + 100 = starts.few own fits1 in
      let number : g2.cx.log.state.turns ≡ turn = starts.goes.turn.turns ∙ ap
      (λ (x : Group W Q R T U). x.cx.log.state.turns) is1 ∙ has.number in
      let few : g2.cx.log.state.next ≤ MOST_IN_TURN * g2.cx.log.state.turns + 1 = omega arith in
      let made : g2.cx.log.base.made ≡ v.cx.log.base.made = starts.goes.made ∙ ap
      (λ (x : Group W Q R T U). x.cx.log.base.made) is1 ∙ has.made ∙ ap
      (λ (x : Group W Q R T U). x.cx.log.base.made) is in (
        own,
        ap (get_elem? tags) group ∙ fit.1,
        starts.goes.tags own fits1,
        starts.sound,
        (
          subst (λ (b : Bool). g2.cx.log.state.next ≤ cond b (g2.cx.log.state.turns + 1)
              (MOST_IN_TURN * g2.cx.log.state.turns + 1)) (sym free) few,
          subst (λ (b : Bool). OnTrue b (g2.cx.log.state.pending ≡ [])) (sym free) tt,
        ),
        subst (λ (n : ℕ). OnTrue (is_first own) (n ≡ 0)) (sym made) fit.2.3,
      )

  -- a group that was won was started and left
  pub starts_won : (HasToken : ℕ → Pending → Type 0) (k turn seat : ℕ)
      (found v g0 g1 g1' g2 left : Group W Q R T U) (entered new : SeatView T (Group W Q R T U))
      → FitsHere Fits Sound only_asked is_first tags k v → found ≡ v → g0 ≡ v
      → HasTurn Fits g0 g1 turn seat → BeginsSame g0 g1 → g1' ≡ g1 → StartsInTurn Fits Sound Begun g1' g2
      → v.cx.log.state.turns < turn → IsIn (k, turn - 1, found) entered.known → Leaves entered new
      → left.world ≡ g2.world → left.cx.log.base.made ≡ g2.cx.log.base.made
      → IsLater g2.cx.log.state left.cx.log.state
      → NoNews left.cx.news_from left.cx.log.state
      → ((n : ℕ) (p : Pending) → pending_at n left.cx.log.state.pending ≡ Some p → g2.cx.news_from ≤ n →
      HasToken k p)
      → KnowsTurn k turn left new.known
      → Starts Fits (IsFirst is_first tags) Begun Sound HasToken k turn found g2 left new.known
  starts_won HasToken k turn seat found v g0 g1 g1' g2 left entered new fit is_found is has same
      is1 starts young there leaves stays made later told tokens knows =
      let world : g1'.world ≡ found.world = ap (λ (x : Group W Q R T U). x.world) is1 ∙ same.world ∙ ap
      (λ (x : Group W Q R T U). x.world) is ∙ ap (λ (x : Group W Q R T U). x.world) (sym is_found) in
      let made0 : g2.cx.log.base.made ≡ v.cx.log.base.made = starts.goes.made ∙ ap
      (λ (x : Group W Q R T U). x.cx.log.base.made) is1 ∙ has.made ∙ ap
      (λ (x : Group W Q R T U). x.cx.log.base.made) is in
      let taken : HasTurn Fits found g1' turn seat = subst
      (λ (x : Group W Q R T U). HasTurn Fits x g1' turn seat) (is ∙ sym is_found)
      (subst (λ (x : Group W Q R T U). HasTurn Fits g0 x turn seat) (sym is1) has) in
      let gone : HasTurn Fits found g2 turn seat = has_gone Fits found g1' g2 turn seat taken starts.goes in
      record {
        first = (
          fit.0,
          fit.1,
          subst (λ (n : ℕ). OnTrue (is_first fit.0) (n ≡ 0)) (sym made0)
              fit.2.3,
        );
        stood = leaves.known.stays (k, turn - 1, found) there;
        turned = let number = gone.number in let was = ap (λ (x : Group W Q R T U). x.cx.log.state.turns)
            is_found in omega arith;
        goes = turn_follows Fits found g2 turn seat gone;
        begun = subst (λ w. Begun w g2.world) world starts.begun;
        sound = starts.sound;
        world = stays;
        made = made;
        later = later;
        told = told;
        tokens = λ n p there news. tokens n p there (let same = gone.news_from in omega arith);
        knows = knows;
      }

-- what is known of the groups that were started is known still, and their first events have their tokens
-- still
module _ {W T : Type 0} (Q R U : Type 0) (Fits : T → W → Type 0) (First : ℕ → ℕ → Type 0)
    (Begun : W → W → Type 0)
    (Sound : W → State → List Named → Type 0) (Had Has : ℕ → Pending → Type 0) where
  pub started_more : (xs ys : List (ℕ × ℕ × Group W Q R T U)) (k : ℕ) → More xs ys
      → ((p : Pending) → Had k p → Has k p)
      → Started Q R U Fits First Begun Sound Had xs k → Started Q R U Fits First Begun Sound Has ys k
  started_more xs ys k more stays s = record {
    turn = s.turn;
    found = s.found;
    started = s.started;
    left = s.left;
    starts = record {
      first = s.starts.first;
      stood = more.stays (k, s.turn - 1, s.found) s.starts.stood;
      turned = s.starts.turned;
      goes = s.starts.goes;
      begun = s.starts.begun;
      sound = s.starts.sound;
      world = s.starts.world;
      made = s.starts.made;
      later = s.starts.later;
      told = s.starts.told;
      tokens = λ n p there news. stays p (s.starts.tokens n p there news);
      knows = λ low. more.stays (k, s.turn, s.left) (s.starts.knows low);
    };
  }

  pub all_more : (xs ys : List (ℕ × ℕ × Group W Q R T U)) (n : ℕ) → More xs ys
      → ((k : ℕ) (p : Pending) → Had k p → Has k p)
      → AllStarted Q R U Fits First Begun Sound Had xs n → AllStarted Q R U Fits First Begun Sound Has ys n
  all_more xs ys n more stays all k low = started_more xs ys k more (stays k) (all k low)

  pub one_more : (xs ys : List (ℕ × ℕ × Group W Q R T U)) (n : ℕ) → More xs ys
      → ((k : ℕ) (p : Pending) → Had k p → Has k p)
      → AllStarted Q R U Fits First Begun Sound Had xs n → Started Q R U Fits First Begun Sound Has ys n
      → AllStarted Q R U Fits First Begun Sound Has ys (n + 1)
  one_more xs ys n more stays all one k low =
      ⊎_elim
      (λ (less : k < n). started_more xs ys k more (stays k) (all k less))
      (λ (past : n ≤ k).
      let e : k ≡ n = omega arith in
      subst (Started Q R U Fits First Begun Sound Has ys) (sym e) one)
      (cases_lt k n)

-- what holds of each entry of a list holds of one that stands in it
each_in : {A : Type 0} (P : A → Type 0) (xs : List A) (x : A) → Each P xs → IsIn x xs → P x
each_in P [] x all there = absurd there
each_in P (y ∷ ys) x all there = elim there [
  | inl here ↦ subst P here all.0
  | inr more ↦ each_in P ys x all.1
      more
]

pub few_entries : (k : ℕ) (es : List (ℕ × ℕ)) → entries k es ≤ length es
few_entries k [] = omega arith
few_entries k (e ∷ es) = let h = few_entries k es in let one = most_one e.0 k in omega arith
  where
    most_one : (a b : ℕ) → same a b ≤ 1
    most_one a b = elim (eqb a b) as (λ t. cond t 1 0 ≤ 1) [ true ↦ omega arith | false ↦ omega arith ]

-- what a later turn found stands after what is known
pub after_known : {T : Type 0} (follows : T → T → Type 0) (known : List (ℕ × ℕ × T)) (k n b : ℕ) (x now : T)
    → IsAfter follows k n now known → IsIn (k, b, x) known → follows now x
after_known {T} follows known k n b x now after there =
    (each_in (λ (e : ℕ × ℕ × T). e.0 ≡ k → (e.1 < n) × follows now e.2 × (e.1 + 1 ≡ n → now ≡ e.2)) known
    (k, b, x) after there refl).1

-- of what is known of one group, that after the later turn follows the other
coherent_after : {T : Type 0} (follows : T → T → Type 0) (es : List (ℕ × ℕ × T)) (k a b : ℕ) (x y : T)
    → Coherent follows es → IsIn (k, a, x) es → IsIn (k, b, y) es → a ≤ b → follows y x
coherent_after {T} follows es k a b x y all one other le =
    let row = each_in (λ (d : ℕ × ℕ × T). Each
    (λ (e : ℕ × ℕ × T). d.0 ≡ e.0 → d.1 ≤ e.1 → follows e.2 d.2 × (d.1 ≡ e.1 → d.2 ≡ e.2)) es) es
    (k, a, x) all one in
    (each_in (λ (e : ℕ × ℕ × T). k ≡ e.0 → a ≤ e.1 → follows e.2 x × (a ≡ e.1 → x ≡ e.2)) es (k, b, y) row
    other refl le).0

-- before any turn each group is known as it was given
pub given_known : {X : Type 0} (xs : List X) (i k j : ℕ) (x : X) → j ≡ i + k → get_elem? xs k ≡ some x
    → IsIn (j, 0, x) (firsts (λ y. y) i xs)
given_known [] i k j x e at = absurd (cc)
given_known (y ∷ ys) i zero j x e at = let same : y ≡ x = cc in let place : i ≡ j = omega arith in inl
    (λ t. (place t, 0, same t))
given_known (y ∷ ys) i (suc k) j x e at = inr (given_known ys (i + 1) k j x (omega arith) at)

-- At the end, a group that was started follows what stood then, as far as it was known before.
pub was_started : {W Q R T U : Type 0} (Fits : T → W → Type 0) (First : ℕ → ℕ → Type 0)
    (Begun : W → W → Type 0) (Sound : W → State → List Named → Type 0) (Has : ℕ → Pending → Type 0)
    (old known : List (ℕ × ℕ × Group W Q R T U)) (turns : List (ℕ × ℕ)) (k : ℕ) (given now : Group W Q R T U)
    → entries k turns + 1 < last_turn → Started Q R U Fits First Begun Sound Has old k
    → Coherent (StandsAfter Fits) old → IsIn (k, 0, given) old → More old known
    → IsAfter (StandsAfter Fits) k (entries k turns + 1) now known
    → WasStarted Fits First Begun Sound k given now
was_started {W} {Q} {R} {T} {U} Fits First Begun Sound Has old known turns k given now low s coherent first
    more after =
    let found = each_in (λ (e : ℕ × ℕ × Group W Q R T U). e.0 ≡ k → (e.1 < entries k turns + 1) × StandsAfter
    Fits now e.2 × (e.1 + 1 ≡ entries k turns + 1 → now ≡ e.2)) known (k, s.turn - 1, s.found) after
    (more.stays (k, s.turn - 1, s.found) s.starts.stood) refl in
    let below = found.0 in
    let young : s.turn < last_turn = omega arith in
    let left = after_known (StandsAfter Fits) known k (entries k turns + 1) s.turn s.left now after
    (more.stays (k, s.turn, s.left) (s.starts.knows young)) in
    record {
      found = s.found;
      stood = coherent_after (StandsAfter Fits) old k 0 (s.turn - 1) given s.found coherent first
          s.starts.stood (omega arith);
      started = s.started;
      turned = s.starts.turned;
      goes = s.starts.goes;
      first = s.starts.first;
      begun = s.starts.begun;
      sound = s.starts.sound;
      follows = follows_on Fits now s.left s.started left.follows (record {
        journal = inr (s.starts.made, s.starts.later);
        tags = λ same. keeps_same Fits s.started.world s.left.world s.starts.world;
      });
    }

pub each_of : {B : Type 0} (P Q : B → Type 0) (xs : List B) → All P xs → ((x : B) → P x → Q x) → Each Q xs
each_of P Q [] all f = tt
each_of P Q (x ∷ xs) all f = (f x (All-head P x xs all), each_of P Q xs (All-tail P x xs all) f)

-- few turns in all
pub few_all : (stamp counted length old starts more : ℕ) → stamp ≤ counted → counted ≤ length
    → length ≤ old + more → old ≤ starts → stamp ≤ starts + more
few_all stamp counted length old starts more a b c d = omega arith

pub still_young : (counted all : ℕ) → counted ≤ all → all + 1 < last_turn → counted + 1 < last_turn
still_young counted all a b = omega arith
