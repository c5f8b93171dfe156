-- A journal that goes on, and may be folded then.
use Rattle.std.proofs.Common.{◌≡◌, ℕ, ◌+◌, ◌≤◌, cond, eqb, List, [], ◌∷◌, ◌++◌, Option, length, refl, sym, ap, subst, ◌∙◌, append_assoc, arith}
use Rattle.std.proofs.lemmas.List.{length_push}
use Rattle.ts_journal.specs.declared.entry.Entry.{Entry}
use Rattle.ts_journal.specs.declared.entry.Entry.TheVariants.{Took, Gave, Made, Set, Handled, Cancelled, Dropped, Destroyed}
use Rattle.ts_journal.specs.declared.entry.ContKey.{ContKey}
use Rattle.ts_journal.specs.declared.entry.Pending.{Pending}
use Rattle.ts_journal.specs.declared.entry.Mark.{Mark}
use Rattle.ts_journal.specs.State.{State, without, without_index, with_key}
use Rattle.ts_journal.specs.Machine.{after, IsLawful, replay}
use Rattle.ts_journal.specs.declared.tables.Tables.{Tables}
use Rattle.ts_journal.specs.Tables.{CanHold, HasPlaces, state_in, set_room_of, key_room_of, set_room_over, key_room_over}
use Rattle.ts_journal.specs.Log.{Log, Extends, IsSameLog, Folds, GoesOn, mark_after, set_places, key_places}
use Rattle.ts_journal.proofs.Cases.{split}
use Rattle.ts_journal.proofs.Lawful.{replay-append, lawful_append}
use Rattle.ts_journal.proofs.Extends.{extends_none}

pub mark_append : (last : Option Mark) (es fs : List Entry)
    → mark_after last (es ++ fs) ≡ mark_after (mark_after last es) fs
mark_append last [] fs = refl
mark_append last (Took turn seat ∷ es) fs = mark_append _ es fs
mark_append last (Gave turn ∷ es) fs = mark_append last es fs
mark_append last (Made key ∷ es) fs = mark_append last es fs
mark_append last (Set number key event due series period ∷ es) fs = mark_append last es fs
mark_append last (Handled number moment ∷ es) fs = mark_append last es fs
mark_append last (Cancelled number ∷ es) fs = mark_append last es fs
mark_append last (Dropped number ∷ es) fs = mark_append last es fs
mark_append last (Destroyed key ∷ es) fs = mark_append last es fs

-- a journal of which nothing is folded goes on
pub goes_on_extends : (a b : Log) (es : List Entry) → Extends a b es → GoesOn a b es
goes_on_extends a b es h = record {
  folded = [];
  entries = sym h.entries;
  base_state = ap (λ x. x.state) h.base;
  made = ap (λ x. x.made) h.base;
  mark = ap (λ x. x.mark) h.base;
  lawful = h.lawful;
  state = h.state;
}

pub goes_on_same : (a b : Log) → IsSameLog a b → GoesOn a b []
goes_on_same a b h = goes_on_extends a b [] (extends_none a b h)

-- a journal that is folded goes on by no entry
pub goes_on_folds : (a b : Log) → a.state ≡ replay a.base.state a.entries → Folds a b → GoesOn a b []
goes_on_folds a b reached h = record {
  folded = a.entries;
  entries = ap (λ es. a.entries ++ es) (sym h.entries);
  base_state = h.base_state ∙ reached;
  made = h.made;
  mark = h.mark;
  lawful = tt;
  state = h.state;
}

pub goes_on_trans : {a b c : Log} {es fs : List Entry} → GoesOn a b es → GoesOn b c fs → GoesOn a c (es ++ fs)
goes_on_trans {a} {b} {c} {es} {fs} p q = record {
  folded = p.folded ++ q.folded;
  entries = sym (append_assoc a.entries es fs) ∙ ap (λ xs. xs ++ fs) p.entries
      ∙ append_assoc p.folded b.entries fs ∙ ap (λ xs. p.folded ++ xs) q.entries
      ∙ sym (append_assoc p.folded q.folded c.entries);
  base_state = q.base_state ∙ ap (λ s. replay s q.folded) p.base_state
      ∙ sym (replay-append a.base.state p.folded q.folded);
  made = q.made ∙ p.made;
  mark = q.mark ∙ ap (λ m. mark_after m q.folded) p.mark ∙ sym (mark_append a.base.mark p.folded q.folded);
  lawful = lawful_append a.state es fs p.lawful (subst (λ s. IsLawful s fs) p.state q.lawful);
  state = q.state ∙ ap (λ s. replay s fs) p.state ∙ sym (replay-append a.state es fs);
}

-- How much longer an entry makes the lists of a state.
without_short : (n : ℕ) (ps : List Pending) → length (without n ps) ≤ length ps
without_short n [] = omega arith
without_short n (p ∷ ps) = let r = without_short n ps in split (eqb p.number n)
    (λ t. length (cond t ps (p ∷ without n ps)) ≤ length (p ∷ ps)) (λ _. omega arith) (λ _. omega arith)

without_index_short : (i : ℕ) (ks : List ContKey) → length (without_index i ks) ≤ length ks
without_index_short i [] = omega arith
without_index_short i (k ∷ ks) = let r = without_index_short i ks in split (eqb k.index i)
    (λ t. length (cond t ks (k ∷ without_index i ks)) ≤ length (k ∷ ks)) (λ _. omega arith) (λ _. omega arith)

with_key_short : (key : ContKey) (ks : List ContKey) → length (with_key key ks) ≤ length ks + 1
with_key_short key [] = omega arith
with_key_short key (k ∷ ks) = let r = with_key_short key ks in split (eqb k.index key.index)
    (λ t. length (cond t (key ∷ ks) (k ∷ with_key key ks)) ≤ length (k ∷ ks) + 1) (λ _. omega arith)
    (λ _. omega arith)

-- an entry makes the lists of a state longer by no more than its places
record GrowsLittle (s t : State) (e : Entry) : Type 0 where
  pub pending : length t.pending ≤ length s.pending + set_places e
  pub live : length t.live ≤ length s.live + key_places e
  pub newest : length t.newest ≤ length s.newest + key_places e

grows_little : (s : State) (e : Entry) → GrowsLittle s (after s e) e
grows_little s (Took turn seat) = record { pending = omega arith; live = omega arith; newest = omega arith }
grows_little s (Gave turn) = record { pending = omega arith; live = omega arith; newest = omega arith }
grows_little s (Made key) =
    let live : length (s.live ++ key ∷ []) ≡ length s.live + 1 = length_push s.live key in
    let newest : length (with_key key s.newest) ≤ length s.newest + 1 = with_key_short key s.newest in
    record { pending = omega arith; live = omega arith; newest = newest }
grows_little s (Set number key event due series period) =
    let p : Pending =
    record { number = number; key = key; event = event; due = due; series = series; period = period } in
    let longer : length (s.pending ++ p ∷ []) ≡ length s.pending + 1 = length_push s.pending p in
    record { pending = omega arith; live = omega arith; newest = omega arith }
grows_little s (Handled number moment) = let r = without_short number s.pending in record
    { pending = omega arith; live = omega arith; newest = omega arith }
grows_little s (Cancelled number) = let r = without_short number s.pending in record
    { pending = omega arith; live = omega arith; newest = omega arith }
grows_little s (Dropped number) = let r = without_short number s.pending in record
    { pending = omega arith; live = omega arith; newest = omega arith }
grows_little s (Destroyed key) = let r = without_index_short key.index s.live in record
    { pending = omega arith; live = omega arith; newest = omega arith }

-- Tables after an entry, over a base that could hold them before it.
little_more : (old new : Tables) (e : Entry) → state_in new ≡ after (state_in old) e
    → GrowsLittle (state_in old) (state_in new) e
little_more old new e is = subst (λ s. GrowsLittle (state_in old) s e) (sym is)
    (grows_little (state_in old) e)

pub hold_more : (base old new : Tables) (e : Entry) → state_in new ≡ after (state_in old) e
    → HasPlaces base old e → CanHold base old → CanHold base new
hold_more base old new e is has h =
    let sets = has.sets in
    let keys = has.keys in
    let g = little_more old new e is in
    record {
      pending = let a = g.pending in let b = h.pending in omega arith;
      live = let a = g.live in let b = h.live in omega arith;
      newest = let a = g.newest in let b = h.newest in omega arith;
    }

pub set_room_more : (base old new : Tables) (e : Entry) → state_in new ≡ after (state_in old) e
    → set_room_of old ≤ set_room_of new + set_places e
    → set_room_over base old ≤ set_room_over base new + set_places e
set_room_more base old new e is room = let a = (little_more old new e is).pending in omega arith

pub key_room_more : (base old new : Tables) (e : Entry) → state_in new ≡ after (state_in old) e
    → key_room_of old ≤ key_room_of new + key_places e
    → key_room_over base old ≤ key_room_over base new + key_places e
key_room_more base old new e is room =
    let g = little_more old new e is in
    let a = g.live in
    let b = g.newest in
    omega arith

-- tables that follow an entry, and their room
pub ruleset apply_steps = (hold_more, set_room_more, key_room_more)
