-- Which entries a handler's turn adds: none records a turn, and the first says what was handled.
use Rattle.std.proofs.Common.{◌≡◌, ℕ, zero, suc, ◌≤◌, cond, List, [], ◌∷◌, ◌++◌, Some, None, refl, sym, ap, subst, ◌∙◌, append_assoc, arith}
use Rattle.std.specs.Prelude.{nat_lt, ◌&&◌}
use Rattle.ts_journal.specs.declared.entry.TheConstants.{GREATEST}
use Rattle.ts_journal.specs.declared.entry.Pending.{Pending}
use Rattle.ts_journal.specs.declared.entry.Event.TheVariants.{Timeout}
use Rattle.ts_journal.specs.declared.entry.Entry.{Entry}
use Rattle.ts_journal.specs.declared.entry.Entry.TheVariants.{Took, Gave, Made, Set, Handled, Cancelled, Dropped, Destroyed}
use Rattle.ts_journal.specs.State.{State, pending_at, without}
use Rattle.ts_journal.specs.Machine.{after, replay, IsValid, IsLawful}
use Rattle.ts_journal.specs.Log.{Log, Extends}
use Rattle.ts_journal.specs.Later.{IsLater}
use Rattle.ts_journal.proofs.Cases.{split}
use Rattle.ts_journal.proofs.Events.{is_known}
use Rattle.ts_journal.proofs.Later.{never_back_lem}
use Rattle.ts_journal.proofs.Lookups.{pending_gone}
use Rattle.ts_journal.proofs.Validity.{valid_after}
use Rattle.ts_link.specs.Moments.{moment_after}
use Rattle.ts_group.specs.Entries.{AllOwn, renewal}
use Rattle.ts_group.specs.Calls.{IsRun, RunsFrom}
use Rattle.ts_group.specs.Slot.{marks_of, mark_of, marks_in}
use Rattle.ts_group.proofs.Slots.{marks_append}

pub own_marks : (es : List Entry) → AllOwn es → marks_of es ≡ []
own_marks [] own = refl
own_marks (Took turn seat ∷ es) own = absurd own.0
own_marks (Gave turn ∷ es) own = absurd own.0
own_marks (Handled number moment ∷ es) own = absurd own.0
own_marks (Made key ∷ es) own = own_marks es own.1
own_marks (Set number key event due series period ∷ es) own = own_marks es own.1
own_marks (Cancelled number ∷ es) own = own_marks es own.1
own_marks (Dropped number ∷ es) own = own_marks es own.1
own_marks (Destroyed key ∷ es) own = own_marks es own.1

-- a handler's own calls handle nothing
pub own_handles : (s : State) (es : List Entry) → AllOwn es → (replay s es).handled_count ≡ s.handled_count
own_handles s [] own = refl
own_handles s (Took turn seat ∷ es) own = absurd own.0
own_handles s (Gave turn ∷ es) own = absurd own.0
own_handles s (Handled number moment ∷ es) own = absurd own.0
own_handles s (Made key ∷ es) own = own_handles (after s (Made key)) es own.1
own_handles s (Set number key event due series period ∷ es) own = own_handles
    (after s (Set number key event due series period)) es own.1
own_handles s (Cancelled number ∷ es) own = own_handles (after s (Cancelled number)) es own.1
own_handles s (Dropped number ∷ es) own = own_handles (after s (Dropped number)) es own.1
own_handles s (Destroyed key ∷ es) own = own_handles (after s (Destroyed key)) es own.1

renewal_marks : (p : Pending) (next moment : ℕ) → marks_of (renewal p next moment) ≡ []
renewal_marks p next moment =
    split (nat_lt 0 p.period && nat_lt next GREATEST)
    (λ t. marks_of (cond t (Set next p.key Timeout (moment_after moment p.period) p.series p.period ∷ [])
    []) ≡ [])
    (λ e. refl) (λ e. refl)

-- no mark is added by entries that have none
pub no_marks : (es fs : List Entry) → marks_of fs ≡ [] → marks_of (es ++ fs) ≡ marks_of es
no_marks es fs none = marks_append es fs ∙ ap (λ ms. marks_of es ++ ms) none ∙ nil (marks_of es)
  where
    nil : (ms : List (ℕ × ℕ)) → ms ++ [] ≡ ms
    nil [] = refl
    nil (m ∷ ms) = ap (λ ns. m ∷ ns) (nil ms)

-- a journal that goes on by such entries records the same turns
pub marks_stay : (a b : Log) (es : List Entry) → Extends a b es → marks_of es ≡ []
    → marks_in b ≡ marks_in a
marks_stay a b es by none =
    ap (λ m. mark_of m ++ marks_of b.entries) (ap (λ x. x.mark) by.base)
    ∙ ap (λ ms. mark_of a.base.mark ++ ms) (ap marks_of by.entries ∙ no_marks a.entries es none)

-- and by a turn that is taken, one more
pub marks_took : (a b : Log) (turn seat : ℕ) → Extends a b (Took turn seat ∷ [])
    → marks_in b ≡ marks_in a ++ (turn, seat) ∷ []
marks_took a b turn seat by =
    ap (λ m. mark_of m ++ marks_of b.entries) (ap (λ x. x.mark) by.base)
    ∙ ap (λ ms. mark_of a.base.mark ++ ms)
    (ap marks_of by.entries ∙ marks_append a.entries (Took turn seat ∷ []))
    ∙ sym (append_assoc (mark_of a.base.mark) (marks_of a.entries) ((turn, seat) ∷ []))

run_marks : (s : State) (moment number : ℕ) (asked : List ℕ) (run : List Entry)
    → IsRun s moment number asked run → marks_of run ≡ []
run_marks s moment number asked run r =
    let ren = renewal r.event s.next moment in
    ap marks_of r.entries_are ∙ no_marks ren r.own (own_marks r.own r.all_own) ∙ renewal_marks r.event s.next
    moment

pub runs_marks : {W : Type 0} (Called : W → W → List ℕ → Type 0) (u v : W) (s : State) (moment number : ℕ)
    (queue : List ℕ) (k : ℕ) (es : List Entry) (left : List ℕ)
    → RunsFrom Called u v s moment number queue k es left → marks_of es ≡ []
runs_marks Called u v s moment number queue zero es left h = absurd h
runs_marks Called u v s moment number queue (suc zero) es left (asked, r, called, e) = run_marks s moment
    number asked es r
runs_marks Called u v s moment number queue (suc (suc k)) es left
    (asked, run, rest, r, e, mid, called, next, behind, n, more) =
    ap marks_of e ∙ no_marks run rest (runs_marks Called mid v (replay s run) moment next behind (suc k) rest
    left more) ∙ run_marks s moment number asked run r

-- the first entry says that the event of the number was handled
pub record HandlesFirst (s : State) (moment number : ℕ) (es : List Entry) : Type 0 where
  pub rest : List Entry
  pub is : es ≡ Handled number moment ∷ rest
  pub event : Pending
  pub there : pending_at number s.pending ≡ Some event

run_first : (s : State) (moment number : ℕ) (asked : List ℕ) (run : List Entry)
    → IsRun s moment number asked run → HandlesFirst s moment number run
run_first s moment number asked run r = record
    { rest = renewal r.event s.next moment ++ r.own; is = r.entries_are; event = r.event; there = r.there }

pub runs_first : {W : Type 0} (Called : W → W → List ℕ → Type 0) (u v : W) (s : State) (moment number : ℕ)
    (queue : List ℕ) (k : ℕ) (es : List Entry) (left : List ℕ)
    → RunsFrom Called u v s moment number queue k es left → HandlesFirst s moment number es
runs_first Called u v s moment number queue zero es left h = absurd h
runs_first Called u v s moment number queue (suc zero) es left (asked, r, called, e) = run_first s moment
    number asked es r
runs_first Called u v s moment number queue (suc (suc k)) es left
    (asked, run, rest, r, e, mid, called, next, behind, n, more) =
    let first = run_first s moment number asked run r in
    record {
      rest = first.rest ++ rest;
      is = e ∙ ap (λ fs. fs ++ rest) first.is;
      event = first.event;
      there =
          first.there;
    }

-- after a first entry that handles an event, the event is not pending any more; it was due at the moment
pub record IsHandled (s t : State) (moment number : ℕ) : Type 0 where
  pub event : Pending
  pub there : pending_at number s.pending ≡ Some event
  pub due : event.due ≤ moment
  pub gone : pending_at number t.pending ≡ None

pub is_handled : (s t : State) (moment number : ℕ) (es : List Entry) → IsValid s → IsLawful s es
    → t ≡ replay s es → HandlesFirst s moment number es → IsHandled s t moment number
is_handled s t moment number es valid lawful is first =
    let lawful' : IsLawful s (Handled number moment ∷ first.rest) = subst (IsLawful s) first.is lawful in
    let may = lawful'.0 in
    let mid = after s (Handled number moment) in
    let later : IsLater mid (replay mid first.rest) = never_back_lem mid first.rest
    (valid_after s (Handled number moment) valid may) lawful'.1 in
    let known = is_known s number first.event valid first.there in
    let below = known.below in
    let numbered = known.number in
    let gone : pending_at number (without number s.pending) ≡ None = pending_gone number 0 s.pending s.next
    valid.rises in
    let end : replay mid first.rest ≡ t = ap (replay s) (sym first.is) ∙ sym is in
    record {
      event = may.1;
      there = may.2;
      due = may.3;
      gone = ap (λ (x : State). pending_at number x.pending) (sym end) ∙ later.closed number (omega arith)
          gone;
    }
