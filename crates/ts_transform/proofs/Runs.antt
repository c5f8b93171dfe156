-- What the handlers of one turn carry between two links.
use Rattle.std.proofs.Common.{◌+◌, append_assoc, Result, Ok, Err, IfErr, IsErrAnd, ◌≡◌, ◌≤◌, ◌<◌, ◌⊎◌, Some, None, inl, inr, ℕ, zero, suc, List, [], ◌∷◌, ◌++◌, Bool, true, false, arith, refl, sym, ap, subst, ◌∙◌}
use Rattle.ts_link.specs.Counts.{Rose}
use Rattle.ts_journal.specs.declared.entry.Entry.{Entry}
use Rattle.ts_journal.specs.declared.entry.Entry.TheVariants.{Gave, Took}
use Rattle.ts_journal.specs.declared.entry.Pending.{Pending}
use Rattle.ts_journal.specs.State.{State, pending_at}
use Rattle.ts_group.specs.Due.{IsDueFirst}
use Rattle.ts_group.specs.declared.group.Group.{Group}
use Rattle.ts_group.specs.declared.action.SetFault.{SetFault}
use Rattle.ts_group.specs.Acts.{BeginsTurn, GivesTurn}
use Rattle.ts_group.specs.Context.{Context, IsSame}
use Rattle.ts_journal.specs.Log.{Extends, GoesOn, Log}
use Rattle.ts_journal.proofs.Extends.{extends_none, extends_trans, same_refl}
use Rattle.ts_journal.proofs.Folding.{goes_on_extends, goes_on_same, goes_on_trans}
use Rattle.ts_group.specs.declared.world.Handling.{Handling}
use Rattle.ts_group.specs.declared.world.Handling.TheVariants as H
use Rattle.ts_group.specs.Answers.{HandleGives, MatchHandling}
use Rattle.ts_group.specs.Calls.{Handles, RunsFrom}
use Rattle.ts_link.specs.Link.{Look}
use Rattle.ts_transform.specs.declared.link_world.LinkWorld.{LinkWorld}
use Rattle.ts_transform.specs.Carrying.{CarriesTo, GoesOnBySome, HandledNothing, HasStepped, IsDriveCause, LacksMemory, TakesTurn}
use Rattle.ts_transform.specs.Loss.{loss_of}
use Rattle.ts_transform.specs.declared.link_drive.DriveFault.{DriveFault}
use Rattle.ts_transform.specs.declared.link_drive.DriveFault.TheVariants as D
use Rattle.ts_transform.proofs.Carrying.{carries_one, carries_refl, carries_trans}

pub to_refl : {I K P : Type 0} (rest : P → List ℕ → List ℕ) (it ot : Bool) (input : I → Look)
    (output : K → Look) (v w : LinkWorld I K P) → w ≡ v → CarriesTo rest it ot input output v w
to_refl rest it ot input output v w same =
    subst (λ x. CarriesTo rest it ot input output v x) (sym same) (record {
      on = carries_refl rest it ot (input v.input) (output v.output) v.driven.chain v.aborted;
      aborts = λ goes stops. absurd (let wrong : false ≡ true = sym goes ∙ stops in cc);
      rests = λ stopped. refl;
      falls = λ runs down. absurd (let wrong : true ≡ false = sym runs ∙ down in cc);
    })

-- a fault that was counted stays so, and one that is counted later
rose_then : (a b c : ℕ) → Rose a b → b ≤ c → Rose a c
rose_then a b c rose more = omega (arith, rose, more)

then_rose : (a b c : ℕ) → a ≤ b → Rose b c → Rose a c
then_rose a b c more rose = omega (arith, rose, more)

pub to_trans : {I K P : Type 0} (rest : P → List ℕ → List ℕ) (it ot : Bool) (input : I → Look)
    (output : K → Look) (u v w : LinkWorld I K P) → CarriesTo rest it ot input output u v
    → CarriesTo rest it ot input output v w
    → CarriesTo rest it ot input output u w
to_trans rest it ot input output u v w h k = record {
  on = carries_trans rest it ot (input u.input) (input v.input) (input w.input) (output u.output)
      (output v.output) (output w.output) u.driven.chain v.driven.chain w.driven.chain u.aborted v.aborted
      w.aborted h.on k.on;
  aborts = λ goes stops. by_middle v.aborted refl goes stops;
  rests = λ stopped. k.rests (ap (λ x. x.driven.running) (h.rests stopped) ∙ stopped) ∙ h.rests stopped;
  falls = λ runs down. by_run v.driven.running refl runs down;
}
  where
    by_run : (b : Bool) → v.driven.running ≡ b → u.driven.running ≡ true → w.driven.running ≡ false
        → (fault : SetFault) × (w.driven.lost ≡ Some (loss_of fault))
    by_run true is runs down = k.falls is down
    by_run false is runs down = let told = h.falls runs is in
        (told.0, ap (λ x. x.driven.lost) (k.rests is) ∙ told.1)

    Why : Type 0
    Why = LacksMemory w ⊎ Rose (input u.input).faults (input w.input).faults ⊎ Rose (output u.output).faults
        (output w.output).faults

    first : LacksMemory v ⊎ Rose (input u.input).faults (input v.input).faults ⊎ Rose (output u.output).faults
        (output v.output).faults → Why
    first (inl lacks) = inl (subst LacksMemory (sym (k.rests lacks.0)) lacks)
    first (inr (inl rose)) = inr (inl (rose_then (input u.input).faults (input v.input).faults
        (input w.input).faults rose k.on.counts.0))
    first (inr (inr rose)) = inr (inr (rose_then (output u.output).faults (output v.output).faults
        (output w.output).faults rose k.on.counts.1))

    second : LacksMemory w ⊎ Rose (input v.input).faults (input w.input).faults ⊎ Rose
        (output v.output).faults (output w.output).faults → Why
    second (inl lacks) = inl lacks
    second (inr (inl rose)) = inr (inl (then_rose (input u.input).faults (input v.input).faults
        (input w.input).faults h.on.counts.0 rose))
    second (inr (inr rose)) = inr (inr (then_rose (output u.output).faults (output v.output).faults
        (output w.output).faults h.on.counts.1 rose))

    by_middle : (b : Bool) → v.aborted ≡ b → u.aborted ≡ false → w.aborted ≡ true → Why
    by_middle true is goes stops = first (h.aborts goes is)
    by_middle false is goes stops = second (k.aborts is stops)

to_one : {I K P : Type 0} (rest : P → List ℕ → List ℕ) (it ot : Bool) (input : I → Look) (output : K → Look)
    (v w : LinkWorld I K P) → HasStepped rest it ot input output v w → CarriesTo rest it ot input output v w
to_one rest it ot input output v w h = record {
  on = carries_one rest it ot (input v.input) (input w.input) (output v.output) (output w.output)
      v.driven.chain w.driven.chain v.aborted w.aborted (LacksMemory w) h.steps;
  aborts = h.steps.aborts;
  rests = h.rests;
  falls = h.falls;
}

-- the handlers that ran one after the other
runs_carry : {I K P : Type 0} (rest : P → List ℕ → List ℕ) (it ot : Bool) (input : I → Look)
    (output : K → Look) (v w : LinkWorld I K P) (s : State) (moment number : ℕ) (queue : List ℕ) (k : ℕ)
    (es : List Entry) (left : List ℕ)
    → RunsFrom (λ x y asked. HasStepped rest it ot input output x y) v w s moment number queue k es left
    → CarriesTo rest it ot input output v w
runs_carry rest it ot input output v w s moment number queue zero es left h = absurd h
runs_carry rest it ot input output v w s moment number queue (suc zero) es left (asked, run, step, is) =
    to_one rest it ot input output v w step
runs_carry rest it ot input output v w s moment number queue (suc (suc k)) es left
    (asked, run, others, is_run, is, mid, step, next, behind, found, runs) =
    to_trans rest it ot input output v mid w (to_one rest it ot input output v mid step)
    (runs_carry rest it ot input output mid w _ moment next behind (suc k) others left runs)

-- so do those of a call of the group
pub handle_carries : {I K P Q R T U : Type 0} (rest : P → List ℕ → List ℕ) (it ot : Bool) (input : I → Look)
    (output : K → Look) (old new : Group (LinkWorld I K P) Q R T U) (number moment : ℕ)
    (handling : Handling Q)
    → HandleGives (λ x y asked. HasStepped rest it ot input output x y) old new number moment handling
    → CarriesTo rest it ot input output old.world new.world
handle_carries rest it ot input output old new number moment (H.Handled events) gives = runs_carry rest it ot
    input output old.world new.world _ moment number [] events gives.0.es _ gives.0.runs
handle_carries rest it ot input output old new number moment (H.Asks events group question) gives = runs_carry
    rest it ot input output old.world new.world _ moment number [] events gives.es _ gives.runs
handle_carries rest it ot input output old new number moment H.NotPending gives = to_refl rest it ot input
    output old.world new.world gives.1.world
handle_carries rest it ot input output old new number moment (H.NotDue due) gives = to_refl rest it ot input
    output old.world new.world gives.4.world

-- a world that asks nobody is sound after each call of the group
pub sound_then : {Q : Type 0} {A : Type 0} (handling : Handling Q) (Asking : ℕ → Q → Type 0)
    → ((group : ℕ) (question : Q) → Asking group question → ⊥) → MatchHandling handling A Asking → A
sound_then (H.Handled events) Asking never h = h
sound_then (H.Asks events group question) Asking never h = absurd (never group question h)
sound_then H.NotPending Asking never h = h
sound_then (H.NotDue due) Asking never h = h

-- So several steps that nothing ended have aborted the chain only where a link failed.
pub not_aborted : {I K P : Type 0} (rest : P → List ℕ → List ℕ) (it ot : Bool) (input : I → Look)
    (output : K → Look) (v w : LinkWorld I K P) → CarriesTo rest it ot input output v w
    → w.driven.running ≡ true → v.aborted ≡ false
    → (Rose (input v.input).faults (input w.input).faults → ⊥)
    → (Rose (output v.output).faults (output w.output).faults → ⊥) → w.aborted ≡ false
not_aborted rest it ot input output v w h runs goes reads writes = by_now w.aborted refl
  where
    never : LacksMemory w ⊎ Rose (input v.input).faults (input w.input).faults ⊎ Rose (output v.output).faults
        (output w.output).faults → ⊥
    never (inl lacks) = let wrong : true ≡ false = sym runs ∙ lacks.0 in cc
    never (inr (inl rose)) = reads rose
    never (inr (inr rose)) = writes rose

    by_now : (b : Bool) → w.aborted ≡ b → w.aborted ≡ false
    by_now false is = is
    by_now true is = absurd (never (h.aborts goes is))

-- the event that is due first is pending, and due where its moment has come
pub due_there : (s t : State) (due number : ℕ) → IsDueFirst s due number → t.pending ≡ s.pending
    → pending_at number t.pending ≡ None → ⊥
due_there s t due number (p, first, is_due, is_number) same none =
    let wrong : None ≡ Some p = sym none ∙ ap (pending_at number) same ∙ ap (λ n. pending_at n s.pending)
    (sym is_number) ∙ first.0 in cc

pub due_now : (s t : State) (due number moment later : ℕ) (q : Pending) → IsDueFirst s due number
    → t.pending ≡ s.pending → due ≤ moment → moment < later → pending_at number t.pending ≡ Some q
    → q.due ≡ later → ⊥
due_now s t due number moment later q (p, first, is_due, is_number) same now after there is_later =
    let both : Some q ≡ Some p = sym there ∙ ap (pending_at number) same ∙ ap (λ n. pending_at n s.pending)
    (sym is_number) ∙ first.0 in
    let one : q ≡ p = cc in
    let at : q.due ≡ due = ap (λ x. x.due) one ∙ is_due in
    omega (arith, now, after, at, is_later)

-- a turn was begun, these were entered in it, and it was given back
turn_goes_on : (a m h b : Context) (turn seat moment : ℕ) (es : List Entry) → BeginsTurn a m turn seat moment
    → Extends m.log h.log es → GivesTurn h b
    → GoesOn a.log b.log ((Took turn seat ∷ es) ++ Gave h.log.state.turns ∷ [])
turn_goes_on a m h b turn seat moment es begins by gives =
    goes_on_trans (goes_on_extends a.log h.log (Took turn seat ∷ es) (extends_trans begins.by by)) gives.by

-- a turn was begun and given back, and nothing was entered between
pub handled_nothing : (a m h b : Context) (turn seat moment : ℕ) → BeginsTurn a m turn seat moment
    → IsSame m h → GivesTurn h b → a.log.state.turns < turn → HandledNothing a b
handled_nothing a m h b turn seat moment begins same gives later =
    let kept : h.log.state.turns ≡ turn = ap (λ s. s.turns) same.log.state ∙ ap (λ s. s.turns) begins.state in
    let given : b.log.state.turns ≡ turn = ap (λ s. s.turns) gives.state ∙ kept in
    record {
      earlier = [];
      seat = seat;
      by = subst (λ n. GoesOn a.log b.log (Took n seat ∷ Gave b.log.state.turns ∷ [])) (sym given)
          (subst (λ n. GoesOn a.log b.log (Took turn seat ∷ Gave n ∷ [])) (kept ∙ sym given)
          (turn_goes_on a m h b turn seat moment [] begins (extends_none m.log h.log same.log) gives));
      made = omega (arith, later, given);
    }

-- a turn was made in which events were handled
turn_of : {W Q R T U : Type 0} (Called : W → W → List ℕ → Type 0) (a : Context) (m h : Group W Q R T U)
    (b : Context) (seat number moment events : ℕ) → BeginsTurn a m.cx (a.log.state.turns + 1) seat moment
    → Handles Called m h number moment events → GivesTurn h.cx b → TakesTurn a b
turn_of Called a m h b seat number moment events begins handles gives =
    let turns : m.cx.log.state.turns ≡ a.log.state.turns + 1 = ap (λ s. s.turns) begins.state in
    let before : m.cx.log.state.handled_count ≡ a.log.state.handled_count = ap (λ s. s.handled_count)
    begins.state in
    let kept : b.log.state.handled_count ≡ h.cx.log.state.handled_count = ap (λ s. s.handled_count)
    gives.state in
    record {
      made = ap (λ s. s.turns) gives.state ∙ handles.turn.turns ∙ turns;
      handled = omega (arith, before, kept, handles.rise, handles.some);
      goes_on = record {
        added = (Took (a.log.state.turns + 1) seat ∷ handles.es) ++ Gave h.cx.log.state.turns ∷ [];
        by = turn_goes_on a m.cx h.cx b (a.log.state.turns + 1) seat moment handles.es begins handles.by
            gives;
      };
    }

-- the event that is due first is handled, whatever is answered
pub takes_turn : {W Q R T U : Type 0} (Called : W → W → List ℕ → Type 0) (a : Context)
    (m h : Group W Q R T U) (b : Context) (seat due number moment : ℕ) (handling : Handling Q)
    → IsDueFirst a.log.state due number × (due ≤ moment)
    → BeginsTurn a m.cx (a.log.state.turns + 1) seat moment
    → HandleGives Called m h number moment handling → GivesTurn h.cx b → TakesTurn a b
takes_turn Called a m h b seat due number moment (H.Handled events) is begins handles gives =
    turn_of Called a m h b seat number moment events begins handles.0 gives
takes_turn Called a m h b seat due number moment (H.Asks events group question) is begins handles gives =
    turn_of Called a m h b seat number moment events begins handles gives
takes_turn Called a m h b seat due number moment H.NotPending is begins handles gives =
    absurd (due_there a.log.state m.cx.log.state due number is.0 (ap (λ s. s.pending) begins.state) handles.0)
takes_turn Called a m h b seat due number moment (H.NotDue later) is begins handles gives =
    absurd (due_now a.log.state m.cx.log.state due number moment later handles.1 is.0
    (ap (λ s. s.pending) begins.state) is.1 handles.0 handles.2 handles.3)

-- a journal goes on by none, and by what it went on before and goes on now
pub stays_on : (a : Log) → GoesOnBySome a a
stays_on a = record { added = []; by = goes_on_same a a (same_refl a) }

pub goes_on_later : (a m b : Log) → GoesOnBySome a m → GoesOnBySome m b → GoesOnBySome a b
goes_on_later a m b p q = record { added = p.added ++ q.added; by = goes_on_trans p.by q.by }

-- a later turn could not be made
drive_cause_later : (fault : DriveFault) (a m b : Context) → a.log.state.turns ≤ m.log.state.turns
    → GoesOnBySome a.log m.log → IsDriveCause fault m b → IsDriveCause fault a b
drive_cause_later D.Spent a m b later goes cause = cause
drive_cause_later D.NoMemory a m b later goes cause = cause
drive_cause_later D.NoMemoryInTurn a m b later goes cause =
    let last : List Entry = Took b.log.state.turns cause.seat ∷ Gave b.log.state.turns ∷ [] in
    record {
      earlier = goes.added ++ cause.earlier;
      seat = cause.seat;
      by = subst (GoesOn a.log b.log) (sym (append_assoc goes.added cause.earlier last))
          (goes_on_trans goes.by cause.by);
      made = omega (arith, later, cause.made);
    }

pub drive_cause_then : {T : Type 0} (r : Result T DriveFault) (fault : DriveFault) (a m b : Context)
    → IsErrAnd r (λ e. e ≡ fault) → a.log.state.turns ≤ m.log.state.turns → GoesOnBySome a.log m.log
    → IsDriveCause fault m b → IfErr r (λ f. IsDriveCause f a b)
drive_cause_then (Ok x) fault a m b is later goes cause = tt
drive_cause_then (Err e) fault a m b is later goes cause = subst (λ f. IsDriveCause f a b) (sym is)
    (drive_cause_later fault a m b later goes cause)
