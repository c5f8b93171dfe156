-- A carrier as a link: a read of its origin, and a write that is held.
use Rattle.std.proofs.Common.{◌≡◌, ◌≢◌, ℕ, ◌≤◌, ◌<◌, List, [], ◌++◌, length, take, Bool, true, false, refl}
use Rattle.std.proofs.Common.{sym, ap, subst, ◌∙◌, arith, append_assoc}
use Rattle.std.specs.Prelude.{IfSome, IsSomeAnd, Option, Some, None, if◌then◌else◌}
use Rattle.std.proofs.lemmas.List.{append-nil, take_all}
use Rattle.ts_link.specs.Counts.{one_more}
use Rattle.ts_link.specs.Link.{IsSurePlan, Look, Plan, Reads, Writes}
use Rattle.ts_link.specs.declared.link.Got.{Got}
use Rattle.ts_link.specs.declared.link.Link as link
use Rattle.ts_link.specs.declared.link.Put.{Put}
use Rattle.ts_link.specs.declared.link.Put.TheVariants as put
use Rattle.ts_request.specs.Carrying.{CarrierGoes, GoesOut, HoldsPiece, behind_head, look_over, plan_if}
use Rattle.ts_request.specs.Carrying.{stays_plan, without_line}
use Rattle.ts_request.specs.CarrierLaws.{out_stays}
use Rattle.ts_request.specs.declared.carrier.Carrier.{Carrier}
use Rattle.ts_request.specs.declared.carrier.HeadState.{HeadState}
use Rattle.ts_request.specs.declared.carrier.HeadState.TheVariants as H
use Rattle.ts_request.specs.declared.carrier.TheConstants.{MOST_HELD}
use Rattle.ts_request.proofs.Steps.{may_same, no_more_self, plan_inside}

-- what holds of the origin's plan holds of the carrier's, where it tells one
plan_back : (plan : Option Plan) (P Q : Plan → Type 0) → IsSomeAnd (stays_plan plan) P → IsSomeAnd plan Q
    → IsSomeAnd (stays_plan plan) Q
plan_back None P Q sure holds = holds
plan_back (Some plan) P Q sure holds = by_leave plan.leave sure
  where
    by_leave : (leave : Option ℕ) → IsSomeAnd (plan_if leave plan) P → IsSomeAnd (plan_if leave plan) Q
    by_leave None sure = holds
    by_leave (Some m) sure = absurd sure

-- a plan that never leaves is kept however much is taken
within_if : (leave : Option ℕ) (p : Plan) (n : ℕ) → leave ≡ p.leave
    → IfSome (plan_if leave p) (λ q. IfSome q.leave (λ m. n ≤ m))
within_if None p n same = subst (λ (x : Option ℕ). IfSome x (λ m. n ≤ m)) same tt
within_if (Some m) p n same = tt

within_any : (plan : Option Plan) (n : ℕ) → IfSome (stays_plan plan) (λ q. IfSome q.leave (λ m. n ≤ m))
within_any None n = tt
within_any (Some p) n = within_if p.leave p n refl

-- ---- a read

module _ {O P : Type 0} (t : Bool) (l m : Look) (c : Carrier O P) (answer : Got) (into : List ℕ)
    (r : Reads t l m answer into) where
  carried_by : (b : Bool) → (b ≡ true → m.taken ≡ l.taken)
      → (if b then behind_head c.head m.carried (m.taken ++ c.out) else [])
      ≡ (if b then behind_head c.head l.carried (l.taken ++ c.out) else [])
  carried_by true same = λ i. behind_head c.head (r.calls.carried i) (same refl i ++ c.out)
  carried_by false same = refl

  pub reads_over : Reads t (look_over t l c) (look_over t m c) answer into
  reads_over = record {
    fills = r.fills;
    once = record { reads = r.once.reads; writes = refl };
    calls = record {
      source = r.calls.source;
      name = r.calls.name;
      plan = ap stays_plan r.calls.plan;
      carried = carried_by t (λ told. (r.told told).taken);
      uploaded = refl;
      before = r.calls.before;
      faults = r.calls.faults;
      waits = r.calls.waits;
      agains = r.calls.agains;
    };
    sure = λ sure.
        let went = r.sure (plan_inside l.plan IsSurePlan sure) in
        (went.0, λ waits. plan_back l.plan IsSurePlan (λ p. p.stalls ≢ []) sure (went.1 waits));
    told = λ told.
        let more = r.told told in
        record {
          before = more.before;
          replaced = more.replaced;
          moved = more.moved;
          given = more.given;
          taken = ap (λ xs. if t then without_line c.head (xs ++ c.out) else []) more.taken;
        };
    ends = r.ends;
  }

pub reads_goes : {O P : Type 0} (origin : link.Ghosts O) (c : Carrier O P) (o : O) (answer : Got)
    (into : List ℕ)
    → Reads origin.tells (origin.look c.origin) (origin.look o) answer into → origin.goes c.origin o
    → CarrierGoes origin c (record c { origin = o })
reads_goes origin c o answer into r goes = record {
  inside = goes;
  taken = λ told. (r.told told).taken;
  carried = r.calls.carried;
  out = out_stays c.head c.out;
  others = refl;
}

-- ---- a write

-- that lacked memory
pub lacks_memory : (t : Bool) (l : Look) (piece : List ℕ) → Writes t l l put.NoMemory piece
lacks_memory t l piece = record {
  takes = tt;
  once = record { reads = refl; writes = refl };
  calls = record {
    source = refl;
    name = refl;
    plan = refl;
    carried = refl;
    uploaded = refl;
    before = refl;
    faults = refl;
    waits = refl;
    agains = no_more_self l.agains;
  };
  sure = λ sure. (refl, λ failed. absurd (let wrong : false ≡ true = failed in cc));
  lacks = refl;
  told = λ told. record {
    taken = sym (append-nil l.taken);
    within = λ within. within;
    given = refl;
    left = may_same l.given l.left;
  };
}

-- that is held
module _ {O P : Type 0} (t : Bool) (l : Look) (c : Carrier O P) (piece out : List ℕ) (writes n : ℕ)
    (held : c.head ≡ H.Held) (some : 0 < length piece) (count : n ≡ length piece)
    (grows : out ≡ c.out ++ piece)
    (counted : writes ≡ one_more c.writes) where
  abbrev pub held_on : Carrier O P
  held_on = record c { out = out; writes = writes }

  held_text : without_line c.head (l.taken ++ out) ≡ without_line c.head (l.taken ++ c.out) ++ take n piece
  held_text =
      subst (λ (h : HeadState). without_line h (l.taken ++ out)
      ≡ without_line h (l.taken ++ c.out) ++ take n piece)
      (sym held)
      (ap (λ xs. l.taken ++ xs) grows ∙ sym (append_assoc l.taken c.out piece)
      ∙ ap (λ xs. (l.taken ++ c.out) ++ xs) (sym (take_all n piece (omega (arith, count)))))

  held_behind : behind_head c.head l.carried (l.taken ++ out)
      ≡ behind_head c.head l.carried (l.taken ++ c.out)
  held_behind =
      subst (λ (h : HeadState). behind_head h l.carried (l.taken ++ out) ≡ behind_head h l.carried (l.taken
      ++ c.out))
      (sym held) refl

  text_by : (b : Bool) → b ≡ true
      → (if b then without_line c.head (l.taken ++ out) else [])
      ≡ (if b then without_line c.head (l.taken ++ c.out) else []) ++ take n piece
  text_by true told = held_text
  text_by false told = absurd (let wrong : false ≡ true = told in cc)

  pub writes_held : Writes t (look_over t l c) (look_over t l held_on) (put.Took n) piece
  writes_held = record {
    takes = (omega (arith, some, count), omega (arith, count));
    once = record { reads = refl; writes = counted };
    calls = record {
      source = refl;
      name = refl;
      plan = refl;
      carried = ap (λ xs. if t then xs else []) held_behind;
      uploaded = refl;
      before = refl;
      faults = refl;
      waits = refl;
      agains = no_more_self l.agains;
    };
    sure = λ sure. (refl, λ failed. absurd (let wrong : false ≡ true = failed in cc));
    lacks = tt;
    told = λ told. record {
      taken = text_by t told;
      within = λ within. within_any l.plan (length (look_over t l held_on).taken);
      given = refl;
      left = may_same l.given l.left;
    };
  }

-- by the answer
pub writes_by : {O P : Type 0} (t : Bool) (l : Look) (c : Carrier O P) (piece out : List ℕ) (writes : ℕ)
    (answer : Put)
    → c.head ≡ H.Held → 0 < length piece → HoldsPiece c.out out c.writes writes answer piece
    → Writes t (look_over t l c) (look_over t l (record c { out = out; writes = writes })) answer piece
writes_by t l c piece out writes (put.Took n) held some holds =
    writes_held t l c piece out writes n held some holds.0 holds.1 holds.3
writes_by {O} {P} t l c piece out writes put.NoMemory held some holds =
    subst (λ (x : Carrier O P). Writes t (look_over t l c) (look_over t l x) put.NoMemory piece)
    (λ i. record c { out = sym holds.0 i; writes = sym holds.1 i }) (lacks_memory t (look_over t l c) piece)
writes_by t l c piece out writes put.Again held some holds = absurd holds
writes_by t l c piece out writes put.Failed held some holds = absurd holds

fits_by : (before after : List ℕ) (writes writes' : ℕ) (answer : Put) (piece : List ℕ)
    → HoldsPiece before after writes writes' answer piece → length before ≤ MOST_HELD
    → length after ≤ MOST_HELD
fits_by before after writes writes' (put.Took n) piece holds few = holds.2
fits_by before after writes writes' put.NoMemory piece holds few = subst (λ xs. length xs ≤ MOST_HELD)
    (sym holds.0) few
fits_by before after writes writes' put.Again piece holds few = absurd holds
fits_by before after writes writes' put.Failed piece holds few = absurd holds

pub writes_goes : {O P : Type 0} (origin : link.Ghosts O) (c : Carrier O P) (piece out : List ℕ) (writes : ℕ)
    (answer : Put) → origin.goes c.origin c.origin → c.head ≡ H.Held
    → HoldsPiece c.out out c.writes writes answer piece
    → CarrierGoes origin c (record c { out = out; writes = writes })
writes_goes origin c piece out writes answer stays held holds = record {
  inside = stays;
  taken = λ told. refl;
  carried = refl;
  out = subst (λ (h : HeadState). GoesOut h c.out out) (sym held)
      (λ few. fits_by c.out out c.writes writes answer piece holds few);
  others = refl;
}
