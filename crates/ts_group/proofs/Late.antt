-- A loop that looks for a late event, and what bringing it forward leaves.
use Rattle.std.proofs.Common.{◌≡◌, ℕ, ◌+◌, ◌<◌, ◌==◌, ◌&&◌, nat_lt, true, false, cond, eqb, List, [], ◌∷◌, Some, None, Ok, Err, length, get_or, drop, refl, sym, ap, subst, ◌∙◌, arith}
use Rattle.std.proofs.lemmas.List.{drop_more}
use Rattle.std.proofs.lemmas.Bool.{and_parts, cond-true, cond-false, eq-eqb, ne_eqb}
use Rattle.ts_journal.specs.declared.entry.ContKey.{ContKey}
use Rattle.ts_journal.specs.declared.entry.Entry.TheVariants.{Set, Cancelled}
use Rattle.ts_journal.specs.declared.entry.Event.{Event}
use Rattle.ts_journal.specs.declared.entry.Event.TheVariants.{Immediate}
use Rattle.ts_journal.specs.declared.entry.Pending.{Pending}
use Rattle.ts_journal.specs.Log.{Log, Extends}
use Rattle.ts_journal.specs.Machine.{IsValid, Rises}
use Rattle.ts_journal.specs.State.{IsLive, State, pending_at, same_key}
use Rattle.ts_journal.proofs.Events.{is_known}
use Rattle.ts_journal.proofs.Extends.{extends_trans}
use Rattle.ts_journal.proofs.Lookups.{pending_below, same_from}
use Rattle.ts_journal.proofs.Cases.{split}
use Rattle.ts_group.specs.declared.action.Action.{Action}
use Rattle.ts_group.specs.declared.action.SetFault.{SetFault}
use Rattle.ts_group.specs.declared.action.SetFault.TheVariants.{Dead, Spent}
use Rattle.ts_group.specs.Acts.{Sets}
use Rattle.ts_group.specs.Late.{is_late, is_timeout, late_in, HasHastened, Hastens}
use Rattle.ts_group.specs.Changes.{HasSet, HasClosed, first_event}
use Rattle.ts_group.proofs.Facts.{less_closed}

pub late_past : (key : ContKey) (moment : ℕ) (ps : List Pending) (i : ℕ) (d : Pending) → i < length ps
    → is_late key moment (get_or ps i d) ≡ false
    → late_in key moment (drop (i + 1) ps) ≡ late_in key moment (drop i ps)
late_past key moment ps i d h ne =
    let p = get_or ps i d in
    sym (ap (late_in key moment) (drop_more ps i d h) ∙ cond-false (is_late key moment p) (Some p)
    (late_in key moment (drop (i + 1) ps)) ne)

pub late_here : (key : ContKey) (moment : ℕ) (ps : List Pending) (i : ℕ) (d : Pending) → i < length ps
    → is_late key moment (get_or ps i d) ≡ true
    → late_in key moment (drop i ps) ≡ Some (get_or ps i d)
late_here key moment ps i d h e =
    let p = get_or ps i d in
    ap (late_in key moment) (drop_more ps i d h) ∙ cond-true (is_late key moment p) (Some p)
    (late_in key moment (drop (i + 1) ps)) e

-- the first late event of a key is pending, and late
pub late_there : (key : ContKey) (moment : ℕ) (ps : List Pending) (low high : ℕ) (p : Pending)
    → Rises low ps high → late_in key moment ps ≡ Some p
    → (pending_at p.number ps ≡ Some p) × (is_late key moment p ≡ true)
late_there key moment [] low high p r h = absurd (cc)
late_there key moment (q ∷ ps) low high p (a, b) h =
    split (is_late key moment q) (λ t. cond t (Some q) (late_in key moment ps) ≡ Some p
    → (cond (eqb q.number p.number) (Some q) (pending_at p.number ps) ≡ Some p)
    × (is_late key moment p ≡ true))
    (λ e x. let same : q ≡ p = cc in (
      cond-true (eqb q.number p.number) (Some q) (pending_at p.number ps)
          (eq-eqb q.number p.number (ap (λ v. v.number) same)) ∙ x,
      subst (λ v. is_late key moment v ≡ true) same e,
    ))
    (λ e x.
    let r = late_there key moment ps (q.number + 1) high p b x in
    let ne : q.number ≡ p.number → ⊥ = λ w. let z : pending_at p.number ps ≡ None = pending_below p.number
    (q.number + 1) ps high b (omega arith) in let u = r.0 in cc in (
      cond-false (eqb q.number p.number) (Some q) (pending_at p.number ps) (ne_eqb q.number p.number ne)
          ∙ r.0,
      r.1,
    )) h

-- a late event is of the key
pub late_key : (key : ContKey) (moment : ℕ) (p : Pending) → is_late key moment p ≡ true → p.key ≡ key
late_key key moment p late =
    let timed = and_parts (same_key p.key key && is_timeout p.event && (p.period == 0)) (nat_lt moment p.due)
    late in
    let plain = and_parts (same_key p.key key && is_timeout p.event) (p.period == 0) timed.0 in
    let kind = and_parts (same_key p.key key) (is_timeout p.event) plain.0 in
    same_from p.key key kind.0

-- an event was set at the moment, and then the late one cancelled
pub has_hastened : (a m b : State) (key : ContKey) (late : Pending) (moment : ℕ)
    → pending_at late.number a.pending ≡ Some late → late.number < a.next → late.key ≡ key
    → HasSet a m (first_event a.next key Immediate moment 0) → HasClosed m b late.number
    → HasHastened a b late moment
has_hastened a m b key late moment there below is set closed =
    let other : a.next ≡ late.number → ⊥ = λ same. omega arith in
    record {
      was = there;
      gone = closed.gone;
      there = closed.others a.next other ∙ set.there
          ∙ ap (λ k. Some (first_event a.next k Immediate moment 0)) (sym is);
      others = λ n not_late not_new. closed.others n not_late ∙ set.others n not_new;
      next = closed.next ∙ set.next;
      count = let less = closed.count in let more = set.count in omega arith;
      plain = λ all. (less_closed m b late.number closed).plain (set.plain refl all);
    }

-- what is known of an event that was set
set_of : (a m : Log) (action : Action) (key : ContKey) (event : Event) (due period : ℕ)
    → Sets a m (Ok action) key event due period
    → HasSet a.state m.state (first_event a.state.next key event due period)
set_of a m action key event due period sets =
    let number = sets.ok.0 in
    record {
      number = refl;
      there = subst (λ n. pending_at n m.state.pending ≡ Some (first_event n key event due period)) number
          sets.there;
      others = λ n ne. sets.others n (λ same. ne (same ∙ number));
      next = sets.count.0;
      count = sets.count.1;
      more = sets.more;
      plain = sets.plain;
      live = sets.keys;
    }

-- a late event was found, and was brought forward
pub hastens_one : (a m b : Log) (action : Action) (key : ContKey) (late : Pending) (moment : ℕ)
    → IsValid a.state → late_in key moment a.state.pending ≡ Some late
    → Sets a m (Ok action) key Immediate moment 0 → Extends m b (Cancelled late.number ∷ [])
    → HasClosed m.state b.state late.number → b.state.held ≡ true → Hastens a b key moment (Ok true)
hastens_one a m b action key late moment v found sets by closed held =
    let there = late_there key moment a.state.pending 0 a.state.next late v.rises found in
    let set = set_of a m action key Immediate moment 0 sets in
    let below = (is_known a.state late.number late v there.0).below in
    let is = late_key key moment late there.1 in
    let entered : Extends a m (Set a.state.next key Immediate moment a.state.next 0 ∷ []) = sets.ok.1 in
    record {
      hastened = λ e. (
        late,
        found,
        extends_trans entered by,
        has_hastened a.state m.state b.state key late moment there.0 below is set closed,
      );
      none = λ e. absurd (cc);
      live = λ e. absurd (cc);
      spent = λ e. absurd (cc);
      err = tt;
      turn = held;
      keys = closed.live ∙ sets.keys;
    }

-- a late event was found, and none could be set in its place
pub hastens_err : (a m : Log) (fault : SetFault) (key : ContKey) (late : Pending) (moment : ℕ)
    → IsValid a.state → late_in key moment a.state.pending ≡ Some late
    → Sets a m (Err fault) key Immediate moment 0 → Hastens a m key moment (Err fault)
hastens_err a m fault key late moment v found sets =
    let there = late_there key moment a.state.pending 0 a.state.next late v.rises found in
    let known = is_known a.state late.number late v there.0 in
    record {
      hastened = λ e. absurd (cc);
      none = λ e. absurd (cc);
      live = λ e.
          let dead : fault ≡ Dead = cc in
          sets.dead (ap Err dead) (subst (IsLive a.state.live) (late_key key moment late there.1) known.live);
      spent = λ e. let spent : fault ≡ Spent = cc in sets.spent (ap Err spent);
      err = sets.err;
      turn = sets.turn;
      keys = sets.keys;
    }
