-- What reads of a client do to the request that is shown of it.
use Rattle.std.proofs.Common.{◌≡◌, ◌⊎◌, inl, inr, cond, ℕ, ◌+◌, ◌-◌, ◌<◌, ◌≤◌, Bool, true, false, List, []}
use Rattle.std.proofs.Common.{◌++◌}
use Rattle.std.proofs.Common.{length, take, drop, refl, sym, ap, subst, ◌∙◌, arith, append_assoc}
use Rattle.std.proofs.Common.{length-append}
use Rattle.std.proofs.lemmas.List.{append-nil, append_cancel_left, length-drop, length-take, nil_from_length}
use Rattle.std.proofs.lemmas.List.{take-append-drop, take_at}
use Rattle.ts_lists.proofs.Fronts.{take_past}
use Rattle.ts_link.specs.Link.{Calls, GivesMore, Look}
use Rattle.ts_link.specs.LinkAnswers.{EndsWell, FillsSome, count_got, got_again, got_failed}
use Rattle.ts_link.specs.declared.link.Got.{Got}
use Rattle.ts_link.specs.declared.link.Got.TheVariants as G
use Rattle.ts_wire.specs.Heads.{BeginsWithRequest, LacksRequest}
use Rattle.ts_wire.specs.Limits.{head_limit}
use Rattle.ts_wire.specs.RequestEnds.{end_of_request}
use Rattle.ts_session.specs.Course.{HoldsHead, HoldsRequest, IsInChunks, IsKnown, IsPlaced, StandsBy}
use Rattle.ts_session.specs.Course.{given_on}
use Rattle.ts_session.specs.Course.{is_head, request_through, since}
use Rattle.ts_session.specs.Finding.{Decides, GoesOnChunked}
use Rattle.ts_session.specs.FirstRequest.{first_request}
use Rattle.ts_session.specs.Held.{FillsFrom, GivesFront, GivesPart, ReadsFront, StaysWhole, before_last}
use Rattle.ts_session.specs.Reading.{IsThere, MovesOn, Rests, Shows}
use Rattle.ts_session.specs.Requests.{GivesAll, IsNext, chunks, no_head}
use Rattle.ts_session.specs.declared.request.Reading.{Reading}
use Rattle.ts_session.specs.declared.request.Reading.TheVariants as R
use Rattle.ts_session.specs.declared.request.Request.{Request}
use Rattle.ts_session.proofs.Bodies.{amid_none, body_more, chunks_first, first_all, known_first}
use Rattle.ts_session.proofs.FirstRequest.{first_next}
use Rattle.ts_session.proofs.FoundHeads.{begins_more}
use Rattle.ts_session.proofs.LinkCalls.{calls_after, calls_none, gives_after, gives_none, replace_none}
use Rattle.ts_session.proofs.Parts.{asked_is, came_behind, given_is, given_more, left_more, since_is}
use Rattle.ts_session.proofs.Parts.{whole_more}

-- ---- none, and one after the other

pub moves_none : (tells : Bool) (r : Request) (l : Look) → MovesOn tells r r l l false false []
moves_none tells r l before holds = record {
  moves = record {
    calls = calls_none l;
    writes = refl;
    told = λ tell. gives_none (request_through before r l);
    rests = λ known. refl;
  };
  holds = holds;
}

rests_on : (r s t : Request) → Rests r s → Rests s t → Rests r t
rests_on r s t p q known =
    q (ap (λ (x : Request). x.reading) (p known) ∙ known) ∙ p known

pub moves_after : (tells : Bool) (r s t : Request) (l m n : Look) (failed waited : Bool) (more : List ℕ)
    → MovesOn tells r s l m false false [] → MovesOn tells s t m n failed waited more
    → MovesOn tells r t l n failed waited more
moves_after tells r s t l m n failed waited more p q before holds =
    let a = p before holds in
    let b = q before a.holds in
    record {
      moves = record {
        calls = calls_after l m n failed waited a.moves.calls b.moves.calls;
        writes = b.moves.writes ∙ a.moves.writes;
        told = λ tell. gives_after (request_through before r l) (request_through before s m)
            (request_through before t n) more (a.moves.told tell) (b.moves.told tell);
        rests = rests_on r s t a.moves.rests b.moves.rests;
      };
      holds = b.holds;
    }

pub shows_after : (tells : Bool) (r s t : Request) (l m n : Look) (answer : Got) (into : List ℕ)
    → MovesOn tells r s l m false false [] → Shows tells s t m n answer into → Shows tells r t l n answer into
shows_after tells r s t l m n answer into p q = record {
  fills = q.fills;
  moves = moves_after tells r s t l m n (got_failed answer) (got_again answer) (take (count_got answer) into)
      p q.moves;
  ends = λ before holds tell. q.ends before (p before holds).holds tell;
}

-- ---- nothing is given

head_is_not_known : (x : Reading) (n : ℕ) → x ≡ R.Head → x ≡ R.Known n → ⊥
head_is_not_known x n head known = let wrong : R.Head ≡ R.Known n = sym head ∙ known in absurd (cc)

chunks_are_not_known : (x : Reading) (n : ℕ) → x ≡ R.Chunks → x ≡ R.Known n → ⊥
chunks_are_not_known x n stage known = let wrong : R.Chunks ≡ R.Known n = sym stage ∙ known in absurd (cc)

-- what came stands behind what was held, and it is known anew what holds
module _ (tells : Bool) (r : Request) (l m : Look) (came : List ℕ) (failed waited : Bool)
    (calls : Calls l m failed waited) (writes : m.writes ≡ l.writes) (whole : StaysWhole tells l m)
    (told : tells ≡ true → GivesMore l m came) where
  pub sought : (s : Request) → s.held ≡ r.held ++ came → HoldsHead s.reading s.held
      → (r.reading ≡ R.Known 0 → ⊥)
      → ((given : List ℕ) → StandsBy r.reading r given l.left → tells ≡ true → StandsBy s.reading s given m.left)
      → MovesOn tells r s l m failed waited []
  sought s held head some stands before holds = record {
    moves = record {
      calls = calls;
      writes = writes;
      told = λ tell.
          let was = given_was tell in
          let now = given_now tell in
          record {
            before = (request_through before r l).left;
            replaced = replace_none (request_through before r l).given (request_through before r l).left;
            moved = λ i. since ((was ∙ sym now) i) (first_request (since before (sym calls.source i)));
            given = now ∙ sym was ∙ sym (append-nil (since before (given_on r.held l.given)));
            taken = (told tell).taken;
          };
      rests = λ known. absurd (some known);
    };
    holds = record {
      head = head;
      link = λ tell.
          let p = holds.link tell in
          record {
            given = p.given;
            placed = placed_now tell;
            whole = whole tell p.whole;
            stands = stands p.given p.stands tell;
          };
    };
  }
    where
      placed_now : (tell : tells ≡ true) → m.given ≡ before ++ ((holds.link tell).given ++ s.held)
      placed_now tell =
          let p = holds.link tell in
          came_behind before p.given r.held came l.given m.given p.placed (told tell).given
          ∙ ap (λ h. before ++ (p.given ++ h)) (sym held)

      given_was : (tell : tells ≡ true) → since before (given_on r.held l.given) ≡ (holds.link tell).given
      given_was tell =
          let p = holds.link tell in given_is before p.given r.held l.given p.placed

      given_now : (tell : tells ≡ true) → since before (given_on s.held m.given) ≡ (holds.link tell).given
      given_now tell = given_is before (holds.link tell).given s.held m.given (placed_now tell)

  -- what came was looked at for a head
  pub decided_sought : r.reading ≡ R.Head → (f s : Request) → f.held ≡ r.held ++ came → Decides f s
      → MovesOn tells r s l m failed waited []
  decided_sought stage f s filled d =
      sought s (d.held_is ∙ filled) d.head (head_is_not_known r.reading 0 stage)
      (λ given stands tell. subst (λ g. StandsBy s.reading s g m.left)
      (sym (subst (λ x. StandsBy x r given l.left) stage stands)) (d.stands m.left))

-- ---- one read of the client for the head

-- there is room for more of a head
pub head_holds : (r : Request) → r.reading ≡ R.Head → HoldsHead r.reading r.held
    → LacksRequest r.held × (length r.held < head_limit)
head_holds r stage holds = subst (λ x. HoldsHead x r.held) stage holds

module _ (tells : Bool) (r : Request) (held' : List ℕ) (l m : Look) (stage : r.reading ≡ R.Head)
    (head : HoldsHead r.reading r.held) where
  -- some came, and it was looked at
  pub filled_known : (n : ℕ) → FillsFrom tells r.held held' l m (G.Bytes n) → (s : Request)
      → Decides (record r { held = held' }) s
      → MovesOn tells r s l m false false [] × HoldsHead s.reading s.held
  filled_known n fills s decides = (
    decided_sought tells r l m (take n fills.into) false false fills.reads.calls fills.reads.once.writes
        fills.whole fills.reads.told stage (record r { held = held' }) s fills.held_is decides,
    decides.head,
  )

  -- the client waits or fails
  module _ (same : held' ≡ r.held ++ []) (failed waited : Bool) (calls : Calls l m failed waited)
      (writes : m.writes ≡ l.writes) (whole : StaysWhole tells l m) (told : tells ≡ true → GivesMore l m []) where
    still_head : HoldsHead R.Head held'
    still_head =
        subst (λ h. HoldsHead R.Head h) (sym (same ∙ append-nil r.held)) (head_holds r stage head)

    pub still_sought : MovesOn tells r (record r { held = held' }) l m failed waited []
        × HoldsHead r.reading held'
    still_sought = (
      sought tells r l m [] failed waited calls writes whole told (record r { held = held' }) same
          (subst (λ x. HoldsHead x held') (sym stage) still_head) (head_is_not_known r.reading 0 stage)
          (λ given stands tell. subst (λ x. StandsBy x (record r { held = held' }) given m.left) (sym stage)
          (subst (λ x. StandsBy x r given l.left) stage stands)),
      subst (λ x. HoldsHead x held') (sym stage) still_head,
    )

  pub filled_waits : FillsFrom tells r.held held' l m G.Again
      → MovesOn tells r (record r { held = held' }) l m false true [] × HoldsHead r.reading held'
  filled_waits fills =
      still_sought fills.held_is false true fills.reads.calls fills.reads.once.writes fills.whole fills.reads.told

  pub filled_fails : FillsFrom tells r.held held' l m G.Failed
      → MovesOn tells r (record r { held = held' }) l m true false [] × HoldsHead r.reading held'
  filled_fails fills =
      still_sought fills.held_is true false fills.reads.calls fills.reads.once.writes fills.whole fills.reads.told

  -- or it has ended, which is not looked at
  pub filled_rests : FillsFrom tells r.held held' l m G.End
      → MovesOn tells r (record r { held = held' }) l m false false [] × HoldsHead r.reading held'
  filled_rests fills =
      still_sought fills.held_is false false fills.reads.calls fills.reads.once.writes fills.whole
      fills.reads.told

  -- or it has ended before a whole head
  pub filled_ended : FillsFrom tells r.held held' l m G.End
      → MovesOn tells r (record r { held = held'; reading = R.Open }) l m false false []
  filled_ended fills =
      let same : held' ≡ r.held = fills.held_is ∙ append-nil r.held in
      sought tells r l m [] false false fills.reads.calls fills.reads.once.writes fills.whole fills.reads.told
      (record r { held = held'; reading = R.Open }) fills.held_is tt (head_is_not_known r.reading 0 stage)
      (λ given stands tell. no_head (subst LacksRequest
      (sym (append-nil r.held)
      ∙ (λ i. sym (subst (λ x. StandsBy x r given l.left) stage stands) i
      ++ (sym same i ++ sym (fills.reads.ends tell) i)))
      (head_holds r stage head).0))

  -- what came is looked at, and before it there was no head
  pub filled_fresh : (n : ℕ) → FillsFrom tells r.held held' l m (G.Bytes n)
      → (n ≤ length held') × LacksRequest (before_last n held')
  filled_fresh n fills =
      let come : length (take n fills.into) ≡ n = omega (
        arith,
        length-take n fills.into,
        fills.reads.fills.1,
      ) in
      let long : length held' ≡ length r.held + n =
      omega (arith, ap length fills.held_is, length-append r.held (take n fills.into), come) in
      let before : length held' - n ≡ length r.held = omega (arith, long) in (
        omega (arith, long),
        subst LacksRequest (sym (ap (λ k. take k held') before
            ∙ ap (take (length r.held)) fills.held_is
            ∙ take_at r.held (take n fills.into) (length r.held) refl)) (head_holds r stage head).0,
      )

  -- more is held then
  pub filled_more : (n : ℕ) → FillsFrom tells r.held held' l m (G.Bytes n) → length r.held < length held'
  filled_more n fills =
      omega (
        arith,
        ap length fills.held_is,
        length-append r.held (take n fills.into),
        length-take n fills.into,
        fills.reads.fills.0,
        fills.reads.fills.1,
      )

-- so many bytes may still come while the head is read
abbrev pub heading_left : Request → ℕ
heading_left r = cond (is_head r.reading) ((head_limit - length r.held) + 1) 0

pub heading_falls : (r s : Request) → r.reading ≡ R.Head → length r.held < head_limit
    → (is_head s.reading ≡ false) ⊎ (length r.held < length s.held) → heading_left s < heading_left r
heading_falls r s stage short on =
    subst (λ x. heading_left s < cond (is_head x) ((head_limit - length r.held) + 1) 0) (sym stage)
    (by_stage s.reading on)
  where
    by_stage : (x : Reading) → (is_head x ≡ false) ⊎ (length r.held < length s.held)
        → cond (is_head x) ((head_limit - length s.held) + 1) 0 < (head_limit - length r.held) + 1
    by_stage R.Head (inl known) = absurd (cc)
    by_stage R.Head (inr longer) = omega arith
    by_stage (R.Known n) on = omega arith
    by_stage R.Chunks on = omega arith
    by_stage R.Open on = omega arith

pub is_head_stage : (x : Reading) → is_head x ≡ true → x ≡ R.Head
is_head_stage R.Head is = refl
is_head_stage (R.Known n) is = absurd (cc)
is_head_stage R.Chunks is = absurd (cc)
is_head_stage R.Open is = absurd (cc)

-- ---- one read of the client for more of a body in chunks

-- some of it is there
pub chunks_there : (x : Reading) (held : List ℕ) → x ≡ R.Chunks → 0 < length held → IsThere x held
chunks_there x held stage some = subst (λ y. IsThere y held) (sym stage) some

-- no more came than is held
pub chunks_fresh : (tells : Bool) (r : Request) (held' : List ℕ) (l m : Look) (n : ℕ)
    → FillsFrom tells r.held held' l m (G.Bytes n) → n ≤ length held'
chunks_fresh tells r held' l m n fills =
    omega (
      arith,
      ap length fills.held_is,
      length-append r.held (take n fills.into),
      length-take n fills.into,
      fills.reads.fills.1,
    )

module _ (tells : Bool) (r : Request) (held' : List ℕ) (l m : Look) (stage : r.reading ≡ R.Chunks) where
  -- some came, and was looked at
  pub chunks_followed : (n : ℕ) → FillsFrom tells r.held held' l m (G.Bytes n) → (s : Request)
      → GoesOnChunked n (record r { held = held' }) s
      → MovesOn tells r s l m false false [] × IsThere s.reading s.held
  chunks_followed n fills s g = (
    sought tells r l m (take n fills.into) false false fills.reads.calls fills.reads.once.writes fills.whole
        fills.reads.told s (g.held_is ∙ fills.held_is) (known_holds s.reading s.held g.known)
        (chunks_are_not_known r.reading 0 stage)
        (λ given stands tell. g.stands given (looked given (subst (λ x. StandsBy x r given l.left) stage stands))
        m.left),
    is_there s.reading g.known (omega (
      arith,
      ap length (g.held_is ∙ fills.held_is),
      length-append r.held (take n fills.into),
      come,
      fills.reads.fills.0,
    )),
  )
    where
      come : length (take n fills.into) ≡ n
      come = omega (arith, length-take n fills.into, fills.reads.fills.1)

      looked : (given : List ℕ) → IsInChunks r (given ++ r.held)
          → IsInChunks (record r { held = held' }) (given ++ before_last n held')
      looked given c =
          let before : length held' - n ≡ length r.held =
          omega (arith, ap length fills.held_is, length-append r.held (take n fills.into), come) in
          let same : before_last n held' ≡ r.held =
          ap (λ k. take k held') before ∙ ap (take (length r.held)) fills.held_is
          ∙ take_at r.held (take n fills.into) (length r.held) refl in
          record {
            head = c.head;
            rest = c.rest;
            begins = subst (λ h. BeginsWithRequest (given ++ h) c.head c.rest) (sym same) c.begins;
            ends = c.ends;
            amid = c.amid;
            persists_is = c.persists_is;
            asks_is = c.asks_is;
          }

      known_holds : (x : Reading) (held : List ℕ) → is_head x ≡ false → HoldsHead x held
      known_holds R.Head held known = absurd (cc)
      known_holds (R.Known k) held known = tt
      known_holds R.Chunks held known = tt
      known_holds R.Open held known = tt

      is_there : (x : Reading) → is_head x ≡ false → 0 < length s.held → IsThere x s.held
      is_there R.Head known some = absurd (cc)
      is_there (R.Known k) known some = tt
      is_there R.Chunks known some = some
      is_there R.Open known some = tt

  -- it has ended: so does the body, which is not whole
  pub chunks_ended : FillsFrom tells r.held held' l m G.End
      → MovesOn tells r (record r { held = held'; reading = R.Open }) l m false false []
  chunks_ended fills =
      sought tells r l m [] false false fills.reads.calls fills.reads.once.writes fills.whole fills.reads.told
      (record r { held = held'; reading = R.Open }) fills.held_is tt (chunks_are_not_known r.reading 0 stage)
      (λ given stands tell.
      let c : IsInChunks r (given ++ r.held) = subst (λ x. StandsBy x r given l.left) stage stands in
      let same : given ++ (held' ++ m.left) ≡ given ++ r.held =
      (λ i. given ++ (fills.held_is i ++ fills.reads.ends tell i))
      ∙ ap (λ h. given ++ h) (append-nil (r.held ++ []) ∙ append-nil r.held) in
      subst GivesAll (sym same) (chunks c.head c.rest c.begins c.ends (amid_none c.rest r.chunks c.amid)))

  -- it waits or fails
  pub chunks_wait : (failed waited : Bool) → held' ≡ r.held ++ [] → Calls l m failed waited → m.writes ≡ l.writes
      → StaysWhole tells l m → (tells ≡ true → GivesMore l m [])
      → MovesOn tells r (record r { held = held' }) l m failed waited []
  chunks_wait failed waited same calls writes whole told =
      let is : held' ≡ r.held = same ∙ append-nil r.held in
      subst (λ h. MovesOn tells r (record r { held = h }) l m failed waited []) (sym is)
      (sought tells r l m [] failed waited calls writes whole told r (sym (append-nil r.held))
      (subst (λ x. HoldsHead x r.held) (sym stage) tt) (chunks_are_not_known r.reading 0 stage)
      (λ given stands tell. subst (λ x. StandsBy x r given m.left) (sym stage)
      (subst (λ x. StandsBy x r given l.left) stage stands)))

-- ---- what is held is given first

-- some of it
pub held_part : (tells : Bool) (held held' : List ℕ) (l : Look) (most : ℕ) (into into' : List ℕ) (count : ℕ)
    → GivesFront held held' most into into' count → 0 < count
    → GivesPart tells held held' l l (G.Bytes count) most into'
held_part tells held held' l most into into' count gives some = record {
  came = [];
  fills = (omega (arith, some), omega (arith, gives.copies.count_is, gives.copies.room));
  few = omega (arith, gives.copies.count_is);
  calls = calls_none l;
  writes = refl;
  whole = λ tell whole. whole;
  told = λ tell. gives_none l;
  moved = append-nil held ∙ sym (take-append-drop count held)
      ∙ (λ i. sym gives.copies.bytes i ++ sym gives.held_is i);
  ends = λ tell. tt;
}

-- where nothing is held, and there is room for some, none was given
none_held : (held held' : List ℕ) (most : ℕ) (into into' : List ℕ) (count : ℕ)
    → GivesFront held held' most into into' count → count ≤ 0 → 0 < length into → 0 < most
    → (held ≡ []) × (held' ≡ [])
none_held held held' most into into' count gives none room some =
    let empty : held ≡ [] = nil_from_length held (omega (arith, gives.copies.count_is, none, room, some)) in (
      empty,
      gives.held_is ∙ ap (λ n. drop n held) (zero_is count none) ∙ empty,
    )
  where
    zero_is : (n : ℕ) → n ≤ 0 → n ≡ 0
    zero_is n small = omega (arith, small)

fills_part : (answer : Got) (part into : List ℕ) → length part ≤ length into → FillsSome answer (length part)
    → FillsSome answer (length into)
fills_part (G.Bytes n) part into fits fills = (fills.0, omega (arith, fills.1, fits))
fills_part G.End part into fits fills = tt
fills_part G.Again part into fits fills = tt
fills_part G.Failed part into fits fills = tt

few_part : (answer : Got) (part : List ℕ) (most : ℕ) → length part ≤ most → FillsSome answer (length part)
    → count_got answer ≤ most
few_part (G.Bytes n) part most few fills = omega (arith, fills.1, few)
few_part G.End part most few fills = omega arith
few_part G.Again part most few fills = omega arith
few_part G.Failed part most few fills = omega arith

-- and then what the client gives
pub client_part : (tells : Bool) (held held' : List ℕ) (l m : Look) (answer : Got) (most : ℕ)
    (into mid into' : List ℕ) (count : ℕ) → GivesFront held held' most into mid count → count ≤ 0
    → 0 < length into → 0 < most → ReadsFront tells most mid into' l m answer
    → GivesPart tells held held' l m answer most into'
client_part tells held held' l m answer most into mid into' count gives none room some reads =
    let empty = none_held held held' most into mid count gives none room some in
    record {
      came = take (count_got answer) reads.part;
      fills = fills_part answer reads.part into' reads.fits reads.reads.fills;
      few = few_part answer reads.part most reads.few reads.reads.fills;
      calls = reads.reads.calls;
      writes = reads.reads.once.writes;
      whole = reads.whole;
      told = reads.reads.told;
      moved = (λ i. empty.0 i ++ sym reads.bytes i)
          ∙ sym (append-nil (take (count_got answer) into'))
          ∙ ap (λ h. take (count_got answer) into' ++ h) (sym empty.1);
      ends = λ tell. subst (λ h. EndsWell answer (h ++ m.left)) (sym empty.1) (reads.reads.ends tell);
    }

-- ---- what is known of the request is given

-- how many bytes were given
piece_long : (answer : Got) (into : List ℕ) → FillsSome answer (length into)
    → length (take (count_got answer) into) ≡ count_got answer
piece_long (G.Bytes n) into fills = omega (arith, length-take n into, fills.1)
piece_long G.End into fills = refl
piece_long G.Again into fills = refl
piece_long G.Failed into fills = refl

-- a request is no longer than what the client gives
first_short : (bytes : List ℕ) → length (first_request bytes) ≤ length bytes
first_short bytes = by_next (first_next bytes)
  where
    by_next : IsNext bytes (first_request bytes) → length (first_request bytes) ≤ length bytes
    by_next (inl all) = omega (arith, ap length all)
    by_next (inr (more, is, whole)) =
        omega (arith, ap length is, length-append (first_request bytes) more)

open_is_not_known : (x : Reading) (n : ℕ) → x ≡ R.Open → x ≡ R.Known n → ⊥
open_is_not_known x n is known = let wrong : R.Known n ≡ R.Open = sym known ∙ is in absurd (cc)

same_known : (x : Reading) (m n : ℕ) → x ≡ R.Known m → x ≡ R.Known n → m ≡ n
same_known x m n a b = let same : R.Known m ≡ R.Known n = sym a ∙ b in cc

module _ (tells : Bool) (r : Request) (held' : List ℕ) (l m : Look) (answer : Got) (most : ℕ)
    (into : List ℕ) (part : GivesPart tells r.held held' l m answer most into) where
  abbrev piece : List ℕ
  piece = take (count_got answer) into

  rest_is : (before : List ℕ) → tells ≡ true → IsPlaced before r l → l.left ≡ part.came ++ m.left
  rest_is before tell p =
      append_cancel_left l.given l.left (part.came ++ m.left)
      (p.whole ∙ sym part.calls.source ∙ sym (part.whole tell p.whole)
      ∙ ap (λ g. g ++ m.left) (part.told tell).given ∙ append_assoc l.given part.came m.left)

  all_is : (before : List ℕ) → tells ≡ true → IsPlaced before r l
      → r.held ++ l.left ≡ piece ++ (held' ++ m.left)
  all_is before tell p =
      left_more r.held part.came piece held' l.left m.left (rest_is before tell p) part.moved

  placed_on : (before : List ℕ) → tells ≡ true → (p : IsPlaced before r l)
      → m.given ≡ before ++ ((p.given ++ piece) ++ held')
  placed_on before tell p =
      given_more before p.given r.held part.came piece held' l.given m.given p.placed (part.told tell).given
      part.moved

  -- it belongs to the request, and more of this may stand behind it
  abbrev IsFrontOf : List ℕ → Type 0
  IsFrontOf given =
      (more : List ℕ) × (first_request (given ++ (r.held ++ l.left)) ≡ (given ++ piece) ++ more)

  gives_front : (before : List ℕ) → tells ≡ true → (p : IsPlaced before r l) → IsFrontOf p.given
      → GivesMore (request_through before r l) (request_through before (record r { held = held' }) m) piece
  gives_front before tell p (more, is) =
      let was : since before (given_on r.held l.given) ≡ p.given =
      given_is before p.given r.held l.given p.placed in
      let now : since before (given_on held' m.given) ≡ p.given ++ piece =
      given_is before (p.given ++ piece) held' m.given (placed_on before tell p) in
      let whole : first_request (since before l.source) ≡ (p.given ++ piece) ++ more =
      ap first_request (asked_is before p.given r.held l p.placed p.whole) ∙ is in
      let later : first_request (since before m.source) ≡ (p.given ++ piece) ++ more =
      ap (λ s. first_request (since before s)) part.calls.source ∙ whole in
      record {
        before = (request_through before r l).left;
        replaced = replace_none (request_through before r l).given (request_through before r l).left;
        moved = (λ i. since (was i) (whole i))
            ∙ since_is p.given (piece ++ more) ((p.given ++ piece) ++ more) (append_assoc p.given piece more)
            ∙ ap (λ t. piece ++ t) (sym (since_is (p.given ++ piece) more ((p.given ++ piece) ++ more) refl))
            ∙ (λ i. piece ++ since (sym now i) (sym later i));
        given = now ∙ ap (λ g. g ++ piece) (sym was);
        taken = (part.told tell).taken;
      }

  -- what was given goes behind what was given before, and the rest stays
  gives_on : (x : Reading) → HoldsHead x held' → (r.reading ≡ R.Known 0 → ⊥)
      → ((given : List ℕ) → StandsBy r.reading r given l.left → tells ≡ true
      → r.held ++ l.left ≡ piece ++ (held' ++ m.left)
      → StandsBy x (record r { held = held'; reading = x }) (given ++ piece) m.left × IsFrontOf given)
      → MovesOn tells r (record r { held = held'; reading = x }) l m (got_failed answer) (got_again answer)
      piece
  gives_on x head some stands before holds = record {
    moves = record {
      calls = part.calls;
      writes = part.writes;
      told = λ tell.
          let p = holds.link tell in
          gives_front before tell p (stands p.given p.stands tell (all_is before tell p)).1;
      rests = λ whole_given. absurd (some whole_given);
    };
    holds = record {
      head = head;
      link = λ tell.
          let p = holds.link tell in
          record {
            given = p.given ++ piece;
            placed = placed_on before tell p;
            whole = part.whole tell p.whole;
            stands = (stands p.given p.stands tell (all_is before tell p)).0;
          };
    };
  }

  -- at its end nothing is left of the request
  ends_on : (s : Request) → s.held ≡ held' → (before : List ℕ) → HoldsRequest tells before r l → tells ≡ true
      → EndsWell answer (request_through before s m).left
  ends_on s held before holds tell = by_answer answer (part.ends tell)
    where
      p : IsPlaced before r l
      p = holds.link tell

      now : since before (given_on s.held m.given) ≡ p.given ++ piece
      now =
          ap (λ h. since before (given_on h m.given)) held
          ∙ given_is before (p.given ++ piece) held' m.given (placed_on before tell p)

      all : since before m.source ≡ (p.given ++ piece) ++ (held' ++ m.left)
      all = asked_is before (p.given ++ piece) held' m (placed_on before tell p) (part.whole tell p.whole)

      by_answer : (a : Got) → EndsWell a (held' ++ m.left) → EndsWell a (request_through before s m).left
      by_answer (G.Bytes n) ends = tt
      by_answer G.Again ends = tt
      by_answer G.Failed ends = tt
      by_answer G.End ends =
          nil_from_length (request_through before s m).left (omega (
            arith,
            length-drop (length (since before (given_on s.held m.given))) (first_request (since before m.source)),
            first_short (since before m.source),
            ap length now,
            ap length all,
            ap length ends,
            length-append (p.given ++ piece) (held' ++ m.left),
          ))

-- a request of which so many bytes are still to be given
module _ (tells : Bool) (r : Request) (n : ℕ) (stage : r.reading ≡ R.Known n) where
  -- none are
  pub known_ended : (l : Look) (into : List ℕ) → n ≡ 0 → Shows tells r r l l G.End into
  known_ended l into none = record {
    fills = tt;
    moves = moves_none tells r l;
    ends = λ before holds tell.
        let p = holds.link tell in
        let k : IsKnown 0 r p.given =
        subst (λ x. StandsBy x r p.given l.left) (stage ∙ ap R.Known none) p.stands in
        (λ i. since (given_is before p.given r.held l.given p.placed i)
        (first_request (asked_is before p.given r.held l p.placed p.whole i)))
        ∙ since_is p.given [] (first_request (p.given ++ (r.held ++ l.left)))
        (known_first 0 r p.given l.left k);
  }

  -- some of them are given
  pub known_given : (held' : List ℕ) (l m : Look) (answer : Got) (into : List ℕ)
      → GivesPart tells r.held held' l m answer n into → 0 < n
      → Shows tells r (record r { held = held'; reading = R.Known (n - count_got answer) }) l m answer into
  known_given held' l m answer into part some = record {
    fills = part.fills;
    moves = gives_on tells r held' l m answer n into part (R.Known (n - count_got answer)) tt
        (λ ended. let none = same_known r.reading n 0 stage ended in absurd (omega (arith, none, some)))
        (λ given stands tell all.
        let k : IsKnown n r given = subst (λ x. StandsBy x r given l.left) stage stands in (
          now given k,
          (
            take (n - count_got answer) (held' ++ m.left),
            known_first n r given l.left k ∙ ap (λ t. given ++ t) (cut all)
                ∙ sym (append_assoc given (take (count_got answer) into)
                (take (n - count_got answer) (held' ++ m.left))),
          ),
        ));
    ends = ends_on tells r held' l m answer n into part
        (record r { held = held'; reading = R.Known (n - count_got answer) }) refl;
  }
    where
      long : length (take (count_got answer) into) ≡ count_got answer
      long = piece_long answer into part.fills

      cut : r.held ++ l.left ≡ take (count_got answer) into ++ (held' ++ m.left)
          → take n (r.held ++ l.left) ≡ take (count_got answer) into
          ++ take (n - count_got answer) (held' ++ m.left)
      cut all =
          take_past n (r.held ++ l.left) (take (count_got answer) into) (held' ++ m.left) all
          (omega (arith, long, part.few))
          ∙ ap (λ k. take (count_got answer) into ++ take (n - k) (held' ++ m.left)) long

      now : (given : List ℕ) → IsKnown n r given
          → IsKnown (n - count_got answer) (record r {
            held = held';
            reading = R.Known
                (n - count_got answer);
          }) (given ++ take (count_got answer) into)
      now given k = record {
        head = k.head;
        rest = k.rest ++ part.came;
        begins = subst (λ b. BeginsWithRequest b k.head (k.rest ++ part.came))
            (append_assoc given r.held part.came ∙ ap (λ b. given ++ b) part.moved
            ∙ sym (append_assoc given (take (count_got answer) into) held'))
            (begins_more (given ++ r.held) part.came k.head k.rest k.begins);
        size = k.size;
        ends = body_more (end_of_request k.head) k.size k.rest part.came k.ends;
        long = omega (
          arith,
          k.long,
          long,
          part.few,
          length-append given (take (count_got answer) into),
        );
        persists_is = k.persists_is;
        asks_is = k.asks_is;
      }

-- what is held is given of a body in chunks
pub chunks_given : (tells : Bool) (r : Request) → r.reading ≡ R.Chunks → (held' : List ℕ) (l : Look) (most : ℕ)
    (into into' : List ℕ) (count : ℕ) → GivesFront r.held held' most into into' count → 0 < count
    → Shows tells r (record r { held = held' }) l l (G.Bytes count) into'
unfolding held_part
chunks_given tells r stage held' l most into into' count gives some = record {
  fills = part.fills;
  moves = subst (λ (s : Request). MovesOn tells r s l l false false (take count into'))
      (λ i. record r { held = held'; reading = sym stage i })
      (gives_on tells r held' l l (G.Bytes count) most into' part R.Chunks tt
      (chunks_are_not_known r.reading 0 stage)
      (λ given stands tell all.
      let c : IsInChunks r (given ++ r.held) = subst (λ x. StandsBy x r given l.left) stage stands in
      let same : given ++ r.held ≡ (given ++ take count into') ++ held' =
      ap (λ h. given ++ h) (sym (append-nil r.held) ∙ part.moved)
      ∙ sym (append_assoc given (take count into') held') in
      let first = chunks_first r (given ++ r.held) l.left c in (
        record {
          head = c.head;
          rest = c.rest;
          begins = subst (λ b. BeginsWithRequest b c.head c.rest) same c.begins;
          ends = c.ends;
          amid = c.amid;
          persists_is = c.persists_is;
          asks_is = c.asks_is;
        },
        (
          held' ++ first.0,
          ap first_request (sym (append_assoc given r.held l.left)) ∙ first.1 ∙ ap (λ b. b ++ first.0) same
              ∙ append_assoc (given ++ take count into') held' first.0,
        ),
      )));
  ends = λ before holds tell. tt;
}
  where
    part : GivesPart tells r.held held' l l (G.Bytes count) most into'
    part = held_part tells r.held held' l most into into' count gives some

-- all that the client gives belongs to the request
pub open_given : (tells : Bool) (r : Request) → r.reading ≡ R.Open → (held' : List ℕ) (l m : Look)
    (answer : Got) (most : ℕ) (into : List ℕ) → GivesPart tells r.held held' l m answer most into
    → Shows tells r (record r { held = held' }) l m answer into
open_given tells r stage held' l m answer most into part = record {
  fills = part.fills;
  moves = subst (λ (s : Request). MovesOn tells r s l m (got_failed answer) (got_again answer)
      (take (count_got answer) into)) (λ i. record r { held = held'; reading = sym stage i })
      (gives_on tells r held' l m answer most into part R.Open tt (open_is_not_known r.reading 0 stage)
      (λ given stands tell all.
      let piece : List ℕ = take (count_got answer) into in
      let is : GivesAll (given ++ (r.held ++ l.left)) = subst (λ x. StandsBy x r given l.left) stage stands in
      let same : given ++ (r.held ++ l.left) ≡ (given ++ piece) ++ (held' ++ m.left) =
      whole_more given r.held l.left piece held' m.left all in (
        subst GivesAll same is,
        (held' ++ m.left, first_all (given ++ (r.held ++ l.left)) is ∙ same),
      )));
  ends = ends_on tells r held' l m answer most into part (record r { held = held' }) refl;
}
