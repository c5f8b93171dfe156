-- What a step of a chain between two links moves.
use Rattle.std.proofs.Common.{◌≡◌, ◌≤◌, ◌<◌, ◌+◌, ◌++◌, ◌⊎◌, inl, inr, ℕ, zero, suc, List, [], ◌∷◌, Bool, true, false, is_none, not, Option, None, Some, length, take, drop, map, arith, refl, sym, ap, subst, ◌∙◌, append_assoc, append-nil, length-append, length-drop}
use Rattle.std.specs.Bool.{OnTrue}
use Rattle.std.proofs.lemmas.List.{take-take}
use Rattle.ts_link.specs.Counts.{Counted, Rose}
use Rattle.ts_link.specs.Link.{Look}
use Rattle.ts_group.specs.Context.{Context}
use Rattle.ts_vconn.specs.declared.moves.TheConstants.{MOST_PULLED}
use Rattle.ts_transform.specs.declared.continuation.StageContinuation.{StageContinuation}
use Rattle.ts_vconn.specs.declared.moves.Pulled.{Pulled}
use Rattle.ts_vconn.specs.declared.moves.Pulled.TheVariants as U
use Rattle.ts_transform.specs.declared.pump.Pumped.{Pumped}
use Rattle.ts_transform.specs.declared.pump.Pumped.TheVariants.{Moved, Ended, Blocked, Idle}
use Rattle.ts_transform.specs.declared.pump.Stage.{Stage}
use Rattle.ts_transform.specs.declared.pump.Part.{Part}
use Rattle.ts_transform.specs.declared.pump.Part.TheVariants.{Works, Done}
use Rattle.ts_transform.specs.Stage.{MOST_WAITING, Answers, AnswersIf, AnswersWork, Steps, cuts, has_ended, has_work, is_done, needs_no_more}
use Rattle.ts_transform.specs.Flow.{AnswersAt, ChainState, EndsInOrder, IsBefore, IsFinished, MustRead, PumpsOnce, StepsAt, Takes, TakesAway, aborted, client_wait, closed, done_at, first_wants, flow, fresh_stage, flow_from, wants}
use Rattle.ts_transform.specs.Acting.{StillGives}
use Rattle.ts_vconn.specs.MoveAnswers.{Came}
use Rattle.ts_vconn.specs.Moves.{PullsOn}
use Rattle.ts_vconn.proofs.Bounds.{came_few}
use Rattle.ts_transform.specs.Carrying.{Carries, CarriesOn, GetsNoMore, HasWritten, MovesOn, TookEarly}
use Rattle.ts_transform.proofs.Acting.{nothing_more}
use Rattle.ts_transform.proofs.Flowing.{flow-finished}

-- nothing is carried
carries_none : {P : Type 0} (rest : P → List ℕ → List ℕ) (it ot : Bool) (i o p : Look) (c : ChainState P)
    → (ot ≡ true → p.taken ≡ o.taken ++ []) → Carries rest it ot i i o p c c
carries_none rest it ot i o p c waits = record {
  gave = [];
  took = [];
  given = λ tells. sym (append-nil i.given);
  taken = waits;
  flow = λ z none. refl;
  closed = λ given. (refl, given);
  early = λ none. (refl, none);
}

-- a chain that is made is in order
pub order_fresh : {P : Type 0} (soon : P → List ℕ → Option (List ℕ)) (pause : P → ℕ) (up : Bool)
    (ps : List P) → EndsInOrder up (map (fresh_stage soon pause) ps)
order_fresh soon pause up [] = tt
order_fresh soon pause up (p ∷ ps) =
    (λ ended. absurd (let wrong : false ≡ true = ended in cc), order_fresh soon pause false ps)

pub made_fresh : {P : Type 0} (soon : P → List ℕ → Option (List ℕ)) (pause : P → ℕ) (ps : List P)
    (c : ChainState P)
    → c ≡ record { first = []; stages = map (fresh_stage soon pause) ps; given = false }
    → (length c.first < MOST_WAITING + MOST_PULLED) × EndsInOrder true c.stages
made_fresh {P} soon pause ps c is = subst (λ x. (length x.first < MOST_WAITING + MOST_PULLED)
    × EndsInOrder {P = P} true x.stages) (sym is) (omega arith, order_fresh soon pause true ps)

-- nothing is moved, though the output may have made its caller wait
pub moves_wait : {P : Type 0} (rest : P → List ℕ → List ℕ) (it ot : Bool) (i o p : Look) (c : ChainState P)
    (was : Bool) (lacks : Type 0) → (ot ≡ true → p.taken ≡ o.taken ++ []) → o.faults ≤ p.faults
    → MovesOn rest it ot i i o p c c was was lacks
moves_wait rest it ot i o p c was lacks waits count = record {
  counts = (omega arith, count);
  carries = λ goes. carries_none rest it ot i o p c waits;
  aborts = λ goes stops. absurd (let wrong : false ≡ true = sym goes ∙ stops in cc);
  stays = λ stopped. stopped;
  ends = λ goes opened given. absurd (let wrong : false ≡ true = sym opened ∙ given in cc);
  still = λ goes given. refl;
  bounded = λ few. few;
  ordered = λ ordered. ordered;
}

pub moves_none : {P : Type 0} (rest : P → List ℕ → List ℕ) (it ot : Bool) (i o : Look) (c : ChainState P)
    (was : Bool) (lacks : Type 0) → MovesOn rest it ot i i o o c c was was lacks
moves_none rest it ot i o c was lacks = moves_wait rest it ot i o o c was lacks
    (λ tells. sym (append-nil o.taken)) (omega arith)

-- no byte came
pub pulled_none : (it : Bool) (i j : Look) (before after : List ℕ) (answer : Pulled) (most : ℕ)
    → answer ≡ U.Again → PullsOn it i j before after answer most → after ≡ before
pulled_none it i j before after answer most is h =
    let none : h.more ≡ [] = subst (λ a. Came a most h.more) is h.pulls.came in
    h.grows ∙ ap (λ l. before ++ l) none ∙ append-nil before

-- a chain must be read on that is as it was
pub must_still : {P : Type 0} (c d : ChainState P) → d.given ≡ c.given → d.stages ≡ c.stages
    → d.first ≡ c.first → MustRead c → MustRead d
must_still c d given stages first (opened, more, short) = (
  given ∙ opened,
  ap (λ b. first_wants b d.stages) given ∙ ap (first_wants c.given) stages ∙ more,
  subst (λ l. length l < MOST_WAITING) (sym first) short,
)

-- a count of faults never falls
pub counted_grows : (b : Bool) (m n : ℕ) → Counted b m n → m ≤ n
counted_grows true m n h = omega (arith, h)
counted_grows false m n h = omega (arith, h)

-- one read brought some bytes, or the end
pub moves_pull : {P : Type 0} (rest : P → List ℕ → List ℕ) (it ot : Bool) (i j o : Look) (c d : ChainState P)
    (answer : Pulled) (was : Bool) → PullsOn it i j c.first d.first answer MOST_PULLED → d.stages ≡ c.stages
    → MustRead c → (d.given ≡ true → it ≡ true → j.left ≡ []) → MovesOn rest it ot i j o o c d was was ⊥
moves_pull {P} rest it ot i j o c d answer was h stages must ends = record {
  counts = (counted_grows _ i.faults j.faults h.pulls.calls.faults, omega arith);
  carries = λ goes. record {
    gave = h.more;
    took = [];
    given = λ tells. (h.pulls.told tells).given;
    taken = λ tells. sym (append-nil o.taken);
    flow = λ z none. flows z;
    closed = λ given. absurd (no_more (inl given));
    early = λ none. absurd (no_more (inr none));
  };
  aborts = λ goes stops. absurd (let wrong : false ≡ true = sym goes ∙ stops in cc);
  stays = λ stopped. stopped;
  ends = λ goes opened given. ends given;
  still = λ goes none. absurd (no_more none);
  bounded = λ few. let l : length d.first ≡ length c.first + length h.more = ap length h.grows ∙ length-append
      c.first h.more in omega (arith, l, must.2, came_few answer MOST_PULLED h.more h.pulls.came);
  ordered = subst (EndsInOrder true) (sym stages);
}
  where
    no_more : GetsNoMore c → ⊥
    no_more (inl given) = let wrong : false ≡ true = sym must.0 ∙ given in cc
    no_more (inr none) = let wrong : true ≡ false = sym must.1 ∙ none in cc

    flows : (z : List ℕ) → flow rest c (h.more ++ z) ≡ flow rest d z
    flows z =
        ap (flow_from rest c.stages) (sym (append_assoc c.first h.more z)) ∙ ap
        (λ l. flow_from rest c.stages (l ++ z)) (sym h.grows)
        ∙ ap (λ ss. flow_from rest ss (d.first ++ z)) (sym stages)

-- the stages of a chain that was aborted have ended, and nothing comes to them
order_closed : {P : Type 0} (ss : List (Stage P)) → EndsInOrder true (map closed ss)
order_closed [] = tt
order_closed (s ∷ ss) = (λ ended. refl, order_closed ss)

-- what is the same moves the same
pub moves_as : {P : Type 0} (rest : P → List ℕ → List ℕ) (it ot : Bool) (i j k o p q : Look)
    (c d e : ChainState P) (was now then : Bool) (lacks : Type 0) → k ≡ j → q ≡ p → e ≡ d → then ≡ now
    → MovesOn rest it ot i j o p c d was now lacks → MovesOn rest it ot i k o q c e was then lacks
moves_as rest it ot i j k o p q c d e was now then lacks input output chain stopped h =
    subst (λ x. MovesOn rest it ot i x o q c e was then lacks) (sym input)
    (subst (λ x. MovesOn rest it ot i j o x c e was then lacks) (sym output)
    (subst (λ x. MovesOn rest it ot i j o p c x was then lacks) (sym chain)
    (subst (λ x. MovesOn rest it ot i j o p c d was x lacks) (sym stopped) h)))

-- a link failed, or memory lacked, and the chain was aborted
pub moves_aborted : {P : Type 0} (rest : P → List ℕ → List ℕ) (it ot : Bool) (i j o p : Look)
    (c d e : ChainState P) (was : Bool) (lacks : Type 0)
    → lacks ⊎ Rose i.faults j.faults ⊎ Rose o.faults p.faults → e ≡ aborted d
    → (i.faults ≤ j.faults) × (o.faults ≤ p.faults) → MovesOn rest it ot i j o p c e was true lacks
moves_aborted rest it ot i j o p c d e was lacks why is counts = record {
  counts = counts;
  carries = λ goes. absurd (let wrong : true ≡ false = goes in cc);
  aborts = λ goes stops. why;
  stays = λ stopped. refl;
  ends = λ goes. absurd (let wrong : true ≡ false = goes in cc);
  still = λ goes. absurd (let wrong : true ≡ false = goes in cc);
  bounded = λ few. let l : length e.first ≡ 0 = ap (λ x. length x.first) is in omega (arith, l);
  ordered = λ ordered. subst (λ x. EndsInOrder true x.stages) (sym is) (order_closed d.stages);
}

-- what is taken from the client's boundary is not before the first stage, but for a chain with no stages
pub takes_first : {P : Type 0} (from : List ℕ) (ss : List (Stage P)) (n : ℕ) (from' : List ℕ)
    (ss' : List (Stage P)) → Takes from ss n from' ss' → length from' ≤ length from
takes_first from [] n from' ss' takes = let l : length from' ≡ length (drop n from) = ap length takes.0 in
    omega (arith, l, length-drop n from)
takes_first from (s ∷ ss) n from' [] takes = absurd takes
takes_first from (s ∷ ss) n from' (s' ∷ ss') (same, part, takes) = let l : length from' ≡ length from = ap
    length same in omega (arith, l)

pub takes_order : {P : Type 0} (up : Bool) (from : List ℕ) (ss : List (Stage P)) (n : ℕ) (from' : List ℕ)
    (ss' : List (Stage P)) → Takes from ss n from' ss' → EndsInOrder up ss → EndsInOrder up ss'
takes_order up from [] n from' ss' takes h = subst (EndsInOrder up) (sym takes.1) tt
takes_order up from (s ∷ ss) n from' [] takes h = absurd takes
takes_order up from (s ∷ ss) n from' (s' ∷ ss') (same, part, takes) (here, others) = (
  λ ended. here (ap (λ p. is_none p) (sym part) ∙ ended),
  subst (λ b. EndsInOrder b ss') (ap (λ p. is_none p) (sym part))
      (takes_order (has_ended s) s.after ss n s'.after ss' takes others),
)

-- and whether more may come stays as it is
takes_wants : {P : Type 0} (up : Bool) (from : List ℕ) (ss : List (Stage P)) (n : ℕ) (from' : List ℕ)
    (ss' : List (Stage P)) → Takes from ss n from' ss' → first_wants up ss' ≡ first_wants up ss
takes_wants up from [] n from' ss' takes = ap (first_wants up) takes.1
takes_wants up from (s ∷ ss) n from' [] takes = absurd takes
takes_wants up from (s ∷ ss) n from' (s' ∷ ss') (same, part, takes) = ap (λ p. not (is_none p)) part

-- the output took some bytes
pub moves_taken : {P : Type 0} (rest : P → List ℕ → List ℕ) (it ot : Bool) (i o p : Look) (c d : ChainState P)
    (piece : List ℕ) (n : ℕ) (was : Bool) → TakesAway rest n c d → n ≤ length piece
    → piece ≡ take (length piece) (client_wait c) → (ot ≡ true → p.taken ≡ o.taken ++ take n piece)
    → o.faults ≤ p.faults → MovesOn rest it ot i i o p c d was was ⊥
moves_taken rest it ot i o p c d piece n was takes within front taken count = record {
  counts = (omega arith, count);
  carries = λ goes. record {
    gave = [];
    took = take n (client_wait c);
    given = λ tells. sym (append-nil i.given);
    taken = λ tells. taken tells ∙ ap (λ l. o.taken ++ l) same;
    flow = λ z none. takes.flow z;
    closed = λ given. (refl, takes.given ∙ given);
    early = λ none. (
      refl,
      ap (λ b. first_wants b d.stages) takes.given
          ∙ takes_wants c.given c.first c.stages n d.first d.stages takes.takes ∙ none,
    );
  };
  aborts = λ goes stops. absurd (let wrong : false ≡ true = sym goes ∙ stops in cc);
  stays = λ stopped. stopped;
  ends = λ goes opened given. absurd (let wrong : false ≡ true = sym opened ∙ sym takes.given ∙ given in cc);
  still = λ goes given. refl;
  bounded = λ few. omega (arith, few, takes_first c.first c.stages n d.first d.stages takes.takes);
  ordered = takes_order true c.first c.stages n d.first d.stages takes.takes;
}
  where
    same : take n piece ≡ take n (client_wait c)
    same = ap (take n) front ∙ take-take n (length piece) (client_wait c) within

-- a pump takes what waits before the first stage away, or leaves it
pub steps_first : {P : Type 0} (rest : P → List ℕ → List ℕ) (from : List ℕ) (ss : List (Stage P)) (at : ℕ)
    (r : Pumped) (from' : List ℕ) (ss' : List (Stage P)) → StepsAt rest from ss at r from' ss'
    → length from' ≤ length from
steps_first rest from [] at r from' ss' h = absurd (none at h)
  where
    none : (at : ℕ) → StepsAt rest from [] at r from' ss' → ⊥
    none at h = h
steps_first rest from (s ∷ ss) at r from' [] h = absurd (none at h)
  where
    none : (at : ℕ) → StepsAt rest from (s ∷ ss) at r from' [] → ⊥
    none zero h = h
    none (suc at) h = h
steps_first rest from (s ∷ ss) zero (Moved n) from' (s' ∷ ss') h = let l : length from' ≡ length (drop n from)
    = ap length h.0.0 in omega (arith, l, length-drop n from)
steps_first rest from (s ∷ ss) zero Ended from' (s' ∷ ss') h = let l : length from' ≡ 0 = ap length h.0.0 in
    omega (arith, l)
steps_first rest from (s ∷ ss) zero (Blocked w) from' (s' ∷ ss') h = let l : length from' ≡ length from = ap
    length h.0.0 in omega (arith, l)
steps_first rest from (s ∷ ss) zero Idle from' (s' ∷ ss') h = let l : length from' ≡ length from = ap length
    h.0.0 in omega (arith, l)
steps_first {P} rest from (s ∷ ss) (suc at) r from' (s' ∷ ss') h = by_cut (cuts r (done_at ss at)) h.0
  where
    by_cut : (b : Bool) → IsBefore b from s from' s' → length from' ≤ length from
    by_cut true cut = let l : length from' ≡ 0 = ap length cut.0 in omega (arith, l)
    by_cut false kept = let l : length from' ≡ length from = ap length kept.0 in omega (arith, l)

-- a stage that ends in its order had all that comes
had_all : (up e : Bool) (from after : List ℕ) → AnswersIf (has_work e up from) false from after Ended
    → up ≡ true
had_all true e from after h = refl
had_all false true from after h = absurd (let wrong : Ended ≡ Idle = h in cc)
had_all false false [] after h = absurd (let wrong : Ended ≡ Idle = h in cc)
had_all false false (b ∷ bs) after h = absurd (by_room _ h)
  where
    by_room : (full : Bool) → AnswersWork full false (b ∷ bs) after Ended → ⊥
    by_room true h = let wrong : Ended ≡ Blocked (length after) = h in cc
    by_room false h = h

ended_last : {P : Type 0} (up e : Bool) (part : Option (Part P)) (from after : List ℕ) → is_done part ≡ false
    → AnswersIf (has_work e (needs_no_more up part) from) (is_done part) from after Ended → up ≡ true
ended_last up e (Some (Done pause)) from after goes h = absurd (let wrong : true ≡ false = goes in cc)
ended_last up e (Some (Works p)) from after goes h = had_all up e from after h
ended_last up e None from after goes h = had_all up e from after h

-- stages that are in order are so where nothing more comes
order_raised : {P : Type 0} (b : Bool) (ss : List (Stage P)) → EndsInOrder b ss → EndsInOrder true ss
order_raised b [] h = tt
order_raised b (s ∷ ss) (here, others) = (λ ended. refl, others)

-- so stages end in their order, but where those before one that is done are closed
steps_order : {P : Type 0} (rest : P → List ℕ → List ℕ) (told up : Bool) (from : List ℕ) (ss : List (Stage P))
    (at : ℕ) (r : Pumped) (from' : List ℕ) (ss' : List (Stage P)) → (told ≡ true → up ≡ true)
    → (up ≡ true) ⊎ (cuts r (done_at ss at) ≡ false) → AnswersAt told from ss at r
    → StepsAt rest from ss at r from' ss' → EndsInOrder up ss → EndsInOrder up ss'
steps_order rest told up from [] at r from' ss' above may answers h ordered = absurd answers
steps_order {P} rest told up from (s ∷ ss) at r from' [] above may answers h ordered = tt
steps_order {P} rest told up from (s ∷ ss) zero r from' (s' ∷ ss') above may answers (step, same)
    (here, others) = by_answer r may answers step
  where
    kept : has_ended s' ≡ has_ended s → EndsInOrder up (s' ∷ ss')
    kept goes = (
      λ ended. here (sym goes ∙ ended),
      subst (EndsInOrder (has_ended s')) (sym same) (subst (λ b. EndsInOrder b ss) (sym goes) others),
    )

    in_order : (up ≡ true) ⊎ (is_done s.part ≡ false) → Answers told from s Ended → up ≡ true
    in_order (inl goes) answers = goes
    in_order (inr goes) answers = above (ended_last told (has_ended s) s.part from s.after goes answers)

    by_answer : (r : Pumped) → (up ≡ true) ⊎ (cuts r (is_done s.part) ≡ false) → Answers told from s r
        → Steps rest from s r from' s' → EndsInOrder up (s' ∷ ss')
    by_answer (Moved n) may answers step = kept step.1
    by_answer Ended may answers step = (
      λ ended. in_order may answers,
      subst (EndsInOrder (has_ended s')) (sym same)
          (subst (λ p. EndsInOrder (is_none p) ss) (sym step.1) (order_raised (has_ended s) ss others)),
    )
    by_answer (Blocked w) may answers step = kept (ap (λ x. has_ended x) step.1)
    by_answer Idle may answers step = kept (ap (λ x. has_ended x) step.1)
steps_order {P} rest told up from (s ∷ ss) (suc at) r from' (s' ∷ ss') above may answers (before, steps)
    (here, others) = by_cut (cuts r (done_at ss at)) refl before may
    (steps_order rest (has_ended s) true s.after ss at r s'.after ss' (λ ended. refl) (inl refl) answers steps
    (order_raised (has_ended s) ss others))
    (λ is. steps_order rest (has_ended s) (has_ended s) s.after ss at r s'.after ss' (λ ended. ended) (inr is)
    answers steps others)
  where
    by_cut : (b : Bool) → cuts r (done_at ss at) ≡ b → IsBefore b from s from' s'
        → (up ≡ true) ⊎ (b ≡ false) → EndsInOrder true ss'
        → (cuts r (done_at ss at) ≡ false → EndsInOrder (has_ended s) ss') → EndsInOrder up (s' ∷ ss')
    by_cut true is (none, closes) (inr goes) cut kept = absurd (let wrong : true ≡ false = goes in cc)
    by_cut true is (none, closes) (inl up_ends) cut kept = (
      λ ended. up_ends,
      subst (λ p. EndsInOrder (is_none p) ss') (sym closes) cut,
    )
    by_cut false is (same, part) may cut kept = (
      λ ended. here (ap (λ p. is_none p) (sym part) ∙ ended),
      subst (λ p. EndsInOrder (is_none p) ss') (sym part) (kept is),
    )

-- a chain that wants no more wants none after a pump
steps_wants : {P : Type 0} (rest : P → List ℕ → List ℕ) (up : Bool) (from : List ℕ) (ss : List (Stage P))
    (at : ℕ) (r : Pumped) (from' : List ℕ) (ss' : List (Stage P)) → StepsAt rest from ss at r from' ss'
    → first_wants up ss ≡ false → first_wants up ss' ≡ false
steps_wants rest up from [] at r from' ss' h none = absurd (never at h)
  where
    never : (at : ℕ) → StepsAt rest from [] at r from' ss' → ⊥
    never at h = h
steps_wants rest up from (s ∷ ss) at r from' [] h none = absurd (never at h)
  where
    never : (at : ℕ) → StepsAt rest from (s ∷ ss) at r from' [] → ⊥
    never zero h = h
    never (suc at) h = h
steps_wants rest up from (s ∷ ss) zero (Moved n) from' (s' ∷ ss') h none = ap not h.0.1 ∙ none
steps_wants rest up from (s ∷ ss) zero Ended from' (s' ∷ ss') h none = ap (λ p. not (is_none p)) h.0.1
steps_wants rest up from (s ∷ ss) zero (Blocked w) from' (s' ∷ ss') h none = ap (λ x. not (has_ended x)) h.0.1
    ∙ none
steps_wants rest up from (s ∷ ss) zero Idle from' (s' ∷ ss') h none = ap (λ x. not (has_ended x)) h.0.1 ∙ none
steps_wants {P} rest up from (s ∷ ss) (suc at) r from' (s' ∷ ss') h none = by_cut (cuts r (done_at ss at)) h.0
  where
    by_cut : (b : Bool) → IsBefore b from s from' s' → not (has_ended s') ≡ false
    by_cut true (empty, closes) = ap (λ p. not (is_none p)) closes
    by_cut false (same, part) = ap (λ p. not (is_none p)) part ∙ none

-- and the stages stay as many
steps_len : {P : Type 0} (rest : P → List ℕ → List ℕ) (from : List ℕ) (ss : List (Stage P)) (at : ℕ)
    (r : Pumped) (from' : List ℕ) (ss' : List (Stage P)) → StepsAt rest from ss at r from' ss'
    → length ss' ≡ length ss
steps_len rest from [] at r from' ss' h = absurd (never at h)
  where
    never : (at : ℕ) → StepsAt rest from [] at r from' ss' → ⊥
    never at h = h
steps_len rest from (s ∷ ss) at r from' [] h = absurd (never at h)
  where
    never : (at : ℕ) → StepsAt rest from (s ∷ ss) at r from' [] → ⊥
    never zero h = h
    never (suc at) h = h
steps_len rest from (s ∷ ss) zero r from' (s' ∷ ss') h = ap (λ us. suc (length us)) h.1
steps_len rest from (s ∷ ss) (suc at) r from' (s' ∷ ss') h = ap suc
    (steps_len rest s.after ss at r s'.after ss' h.1)

pub pumped_len : {P : Type 0} (rest : P → List ℕ → List ℕ) (c d : ChainState P) → PumpsOnce rest c d
    → length d.stages ≡ length c.stages
pumped_len rest c d (inl same) = ap (λ x. length x.stages) same
pumped_len rest c d (inr (at, h)) = steps_len rest c.first c.stages at h.pumped d.first d.stages h.steps

pub pumped_first : {P : Type 0} (rest : P → List ℕ → List ℕ) (c d : ChainState P) → PumpsOnce rest c d
    → length d.first ≤ length c.first
pumped_first rest c d (inl same) = let l : length d.first ≡ length c.first = ap (λ x. length x.first) same in
    omega (arith, l)
pumped_first rest c d (inr (at, h)) = steps_first rest c.first c.stages at h.pumped d.first d.stages h.steps

pub pumped_order : {P : Type 0} (rest : P → List ℕ → List ℕ) (c d : ChainState P) → PumpsOnce rest c d
    → EndsInOrder true c.stages → EndsInOrder true d.stages
pumped_order rest c d (inl same) ordered = subst (λ x. EndsInOrder true x.stages) (sym same) ordered
pumped_order rest c d (inr (at, h)) ordered =
    steps_order rest c.given true c.first c.stages at h.pumped d.first d.stages (λ given. refl) (inl refl)
    h.answers h.steps ordered

pumped_wants : {P : Type 0} (rest : P → List ℕ → List ℕ) (c d : ChainState P) → PumpsOnce rest c d
    → wants c ≡ false → wants d ≡ false
pumped_wants rest c d (inl same) none = ap (λ x. wants x) same ∙ none
pumped_wants rest c d (inr (at, h)) none = ap (λ b. first_wants b d.stages) h.given
    ∙ steps_wants rest c.given c.first c.stages at h.pumped d.first d.stages h.steps none

-- a stage acted
pub moves_stage : {P : Type 0} (rest : P → List ℕ → List ℕ) (soon : P → List ℕ → Option (List ℕ))
    (it ot : Bool) (i o : Look) (c d : ChainState P) (ts us : List (Option StageContinuation)) (a b : Context)
    (was : Bool) → StillGives rest soon c d ts us a b → MovesOn rest it ot i i o o c d was was ⊥
moves_stage rest soon it ot i o c d ts us a b was h = record {
  counts = (omega arith, omega arith);
  carries = λ goes. record {
    gave = [];
    took = [];
    given = λ tells. sym (append-nil i.given);
    taken = λ tells. sym (append-nil o.taken);
    flow = λ z none. sym (h.flows.flow z (subst (λ b. OnTrue b (z ≡ [])) h.given none));
    closed = λ given. (refl, h.given ∙ given);
    early = λ none. (refl, pumped_wants rest c d h.once none);
  };
  aborts = λ goes stops. absurd (let wrong : false ≡ true = sym goes ∙ stops in cc);
  stays = λ stopped. stopped;
  ends = λ goes opened given. absurd (let wrong : false ≡ true = sym opened ∙ sym h.given ∙ given in cc);
  still = λ goes given. refl;
  bounded = λ few. omega (arith, few, pumped_first rest c d h.once);
  ordered = pumped_order rest c d h.once;
}

-- what a link's fault aborts counts for want of memory too
pub moves_lacks : {P : Type 0} (rest : P → List ℕ → List ℕ) (it ot : Bool) (i j o p : Look)
    (c d : ChainState P) (was now : Bool) (lacks : Type 0) → MovesOn rest it ot i j o p c d was now ⊥
    → MovesOn rest it ot i j o p c d was now lacks
moves_lacks rest it ot i j o p c d was now lacks h = record {
  carries = h.carries;
  aborts = λ goes stops. by_cause (h.aborts goes stops);
  stays = h.stays;
  ends = h.ends;
  still = h.still;
  counts = h.counts;
  bounded = h.bounded;
  ordered = h.ordered;
}
  where
    by_cause : ⊥ ⊎ Rose i.faults j.faults ⊎ Rose o.faults p.faults
        → lacks ⊎ Rose i.faults j.faults ⊎ Rose o.faults p.faults
    by_cause (inl never) = absurd never
    by_cause (inr rose) = inr rose

-- one step carries on from where the one before stopped
carries_then : {P : Type 0} (rest : P → List ℕ → List ℕ) (it ot : Bool) (i j k o p q : Look)
    (c d e : ChainState P) → Carries rest it ot i j o p c d → Carries rest it ot j k p q d e
    → Carries rest it ot i k o q c e
carries_then {P} rest it ot i j k o p q c d e h l = record {
  gave = h.gave ++ l.gave;
  took = h.took ++ l.took;
  given = λ tells. l.given tells ∙ ap (λ x. x ++ l.gave) (h.given tells) ∙ append_assoc i.given h.gave l.gave;
  taken = λ tells. l.taken tells ∙ ap (λ x. x ++ l.took) (h.taken tells) ∙ append_assoc o.taken h.took l.took;
  flow = λ z none. ap (flow rest c) (append_assoc h.gave l.gave z) ∙ h.flow (l.gave ++ z)
      (none_left d.given z none refl) ∙ ap (λ x. h.took ++ x) (l.flow z none)
      ∙ sym (append_assoc h.took l.took (flow rest e z));
  closed = λ given.
      let first = h.closed given in
      let second = l.closed first.1 in (ap (λ x. x ++ l.gave) first.0 ∙ second.0, second.1);
  early = λ none.
      let first = h.early none in
      let second = l.early first.1 in (ap (λ x. x ++ l.gave) first.0 ∙ second.0, second.1);
}
  where
    none_left : (b : Bool) (z : List ℕ) → OnTrue e.given (z ≡ []) → d.given ≡ b → OnTrue b (l.gave ++ z ≡ [])
    none_left true z none given = let second = l.closed given in ap (λ x. x ++ z) second.0 ∙ subst
        (λ b. OnTrue b (z ≡ [])) second.1 none
    none_left false z none given = tt

-- the same of several steps
pub carries_one : {P : Type 0} (rest : P → List ℕ → List ℕ) (it ot : Bool) (i j o p : Look)
    (c d : ChainState P) (was now : Bool) (lacks : Type 0) → MovesOn rest it ot i j o p c d was now lacks
    → CarriesOn rest it ot i j o p c d was now
carries_one rest it ot i j o p c d was now lacks h = record
    { carries = h.carries; stays = h.stays; ends = h.ends; still = h.still; counts = h.counts }

pub carries_refl : {P : Type 0} (rest : P → List ℕ → List ℕ) (it ot : Bool) (i o : Look) (c : ChainState P)
    (was : Bool) → CarriesOn rest it ot i i o o c c was was
carries_refl rest it ot i o c was = carries_one rest it ot i i o o c c was was ⊥
    (moves_none rest it ot i o c was ⊥)

pub carries_trans : {P : Type 0} (rest : P → List ℕ → List ℕ) (it ot : Bool) (i j k o p q : Look)
    (c d e : ChainState P) (was mid now : Bool) → CarriesOn rest it ot i j o p c d was mid
    → CarriesOn rest it ot j k p q d e mid now
    → CarriesOn rest it ot i k o q c e was now
carries_trans {P} rest it ot i j k o p q c d e was mid now h l = record {
  carries = λ goes. carries_then rest it ot i j k o p q c d e (h.carries (before mid refl goes))
      (l.carries goes);
  stays = λ stopped. l.stays (h.stays stopped);
  ends = λ goes opened given tells. by_end d.given refl goes opened given tells;
  counts = (omega (arith, h.counts.0, l.counts.0), omega (arith, h.counts.1, l.counts.1));
  still = λ goes none. l.still goes (later (h.carries (before mid refl goes)) none) ∙ h.still
      (before mid refl goes) none;
}
  where
    later : Carries rest it ot i j o p c d → GetsNoMore c → GetsNoMore d
    later moved (inl given) = inl (moved.closed given).1
    later moved (inr none) = inr (moved.early none).1

    before : (b : Bool) → mid ≡ b → now ≡ false → mid ≡ false
    before false is goes = is
    before true is goes = absurd (let wrong : true ≡ false = sym (l.stays is) ∙ goes in cc)

    by_end : (b : Bool) → d.given ≡ b → now ≡ false → c.given ≡ false → e.given ≡ true → it ≡ true
        → k.left ≡ []
    by_end false is goes opened given tells = l.ends goes is given tells
    by_end true is goes opened given tells = ap (λ x. x.left) (l.still goes (inl is)) ∙ h.ends
        (before mid refl goes) opened is tells

-- all that the input gave was written, once nothing is left to do
pub has_written : {P : Type 0} (rest : P → List ℕ → List ℕ) (it ot : Bool) (i j o p : Look)
    (c d : ChainState P) (was now : Bool) → CarriesOn rest it ot i j o p c d was now → IsFinished d
    → GetsNoMore d → now ≡ false → c.given ≡ false → it ≡ true → ot ≡ true → HasWritten rest i j o p c d
has_written {P} rest it ot i j o p c d was now h finished none goes opened in_tells out_tells = record {
  gave = moved.gave;
  given = moved.given in_tells;
  taken = moved.taken out_tells ∙ ap (λ l. o.taken ++ l)
      (sym (ap (flow rest c) (sym (append-nil moved.gave)) ∙ took [] (nothing_more d.given)));
  whole = by_given d.given refl none;
}
  where
    moved : Carries rest it ot i j o p c d
    moved = h.carries goes

    took : (z : List ℕ) → OnTrue d.given (z ≡ []) → flow rest c (moved.gave ++ z) ≡ moved.took
    took z more = moved.flow z more ∙ ap (λ l. moved.took ++ l)
        (flow-finished rest d finished.0 finished.1 z more) ∙ append-nil moved.took

    early : d.given ≡ false → TookEarly rest o p c moved.gave
    early is z = moved.taken out_tells ∙ ap (λ l. o.taken ++ l)
        (sym (took z (subst (λ b. OnTrue b (z ≡ [])) (sym is) tt)))

    by_given : (b : Bool) → d.given ≡ b → GetsNoMore d
        → (j.left ≡ []) ⊎ ((wants d ≡ false) × TookEarly rest o p c moved.gave)
    by_given true is none = inl (h.ends goes opened is in_tells)
    by_given false is (inl given) = absurd (let wrong : false ≡ true = sym is ∙ given in cc)
    by_given false is (inr none) = inr (none, early is)
