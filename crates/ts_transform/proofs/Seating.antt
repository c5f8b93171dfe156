-- Whose events are pending, where continuations are roused or told.
use Rattle.std.proofs.Common.{◌≡◌, ◌++◌, ◌⊎◌, inl, inr, ℕ, zero, suc, List, [], ◌∷◌, false, Option, Some, None, slice_get, append_assoc, refl, sym, ap, subst, ◌∙◌}
use Rattle.ts_journal.specs.declared.entry.ContKey.{ContKey}
use Rattle.ts_journal.specs.declared.entry.Pending.{Pending}
use Rattle.ts_journal.specs.State.{pending_at}
use Rattle.ts_group.specs.Context.{Context}
use Rattle.ts_transform.specs.declared.continuation.StageContinuation.{StageContinuation}
use Rattle.ts_transform.specs.Driving.{IsWorkOf, Keeps, SetsOnly, all_unroused, changed, error_passed, gone, unroused}
use Rattle.ts_transform.specs.Seats.{AllSeated, HasKey, KeepsSeated}

-- a key is of one of these, or of one of those
pub seat_of : (ts us : List (Option StageContinuation)) (key : ContKey) → HasKey (ts ++ us) key
    → HasKey ts key ⊎ HasKey us key
seat_of [] us key has = inr has
seat_of (None ∷ ts) us key has = seat_of ts us key has
seat_of (Some t ∷ ts) us key (inl same) = inl (inl same)
seat_of (Some t ∷ ts) us key (inr has) = by_seat (seat_of ts us key has)
  where
    by_seat : HasKey ts key ⊎ HasKey us key → HasKey (Some t ∷ ts) key ⊎ HasKey us key
    by_seat (inl own) = inl (inr own)
    by_seat (inr other) = inr other

seat_before : (ts us : List (Option StageContinuation)) (key : ContKey) → HasKey ts key
    → HasKey (ts ++ us) key
seat_before [] us key has = absurd has
seat_before (None ∷ ts) us key has = seat_before ts us key has
seat_before (Some t ∷ ts) us key (inl own) = inl own
seat_before (Some t ∷ ts) us key (inr has) = inr (seat_before ts us key has)

-- The same continuations have the same keys, whether they are roused or have passed an error on.
pub key_same : (ts us : List (Option StageContinuation)) (key : ContKey) → all_unroused us ≡ all_unroused ts
    → HasKey ts key → HasKey us key
key_same [] us key same has = absurd has
key_same (t ∷ ts) [] key same has = absurd (let wrong : ◌≡◌ {A = List (Option StageContinuation)} []
    (unroused t ∷ all_unroused ts) = same in cc)
key_same (None ∷ ts) (None ∷ us) key same has = let behind : all_unroused us ≡ all_unroused ts = cc in
    key_same ts us key behind has
key_same (None ∷ ts) (Some u ∷ us) key same has = absurd
    (let wrong : Some (record u { roused = false }) ≡ None = cc in cc)
key_same (Some t ∷ ts) (None ∷ us) key same has = absurd
    (let wrong : None ≡ Some (record t { roused = false }) = cc in cc)
key_same (Some t ∷ ts) (Some u ∷ us) key same (inl own) = let as_one : record u { roused = false } ≡ record t
    { roused = false } = cc in inl (ap (λ x. x.key) as_one ∙ own)
key_same (Some t ∷ ts) (Some u ∷ us) key same (inr has) = let behind : all_unroused us ≡ all_unroused ts = cc
    in inr (key_same ts us key behind has)

pub key_passed : (ts : List (Option StageContinuation)) (at : ℕ) (key : ContKey) → HasKey ts key
    → HasKey (changed error_passed ts at) key
key_passed [] at key has = has
key_passed (None ∷ ts) zero key has = has
key_passed (None ∷ ts) (suc at) key has = key_passed ts at key has
key_passed (Some t ∷ ts) zero key (inl own) = inl own
key_passed (Some t ∷ ts) zero key (inr has) = inr has
key_passed (Some t ∷ ts) (suc at) key (inl own) = inl own
key_passed (Some t ∷ ts) (suc at) key (inr has) = inr (key_passed ts at key has)

-- one that was destroyed has its key no more
pub key_gone : (ts : List (Option StageContinuation)) (at : ℕ) (key : ContKey)
    → ((t : StageContinuation) → slice_get ts at ≡ Some (Some t) → t.key ≡ key → ⊥) → HasKey ts key
    → HasKey (changed gone ts at) key
key_gone [] at key other has = has
key_gone (None ∷ ts) zero key other has = has
key_gone (None ∷ ts) (suc at) key other has = key_gone ts at key other has
key_gone (Some t ∷ ts) zero key other (inl own) = absurd (other t refl own)
key_gone (Some t ∷ ts) zero key other (inr has) = has
key_gone (Some t ∷ ts) (suc at) key other (inl own) = inl own
key_gone (Some t ∷ ts) (suc at) key other (inr has) = inr (key_gone ts at key other has)

-- with others beside them
pub key_beside : (others ts us : List (Option StageContinuation)) (key : ContKey)
    → (HasKey ts key → HasKey us key) → HasKey (others ++ ts) key → HasKey (others ++ us) key
key_beside [] ts us key move has = move has
key_beside (None ∷ others) ts us key move has = key_beside others ts us key move has
key_beside (Some t ∷ others) ts us key move (inl own) = inl own
key_beside (Some t ∷ others) ts us key move (inr has) = inr (key_beside others ts us key move has)

key_behind : (others ts : List (Option StageContinuation)) (key : ContKey) → HasKey ts key
    → HasKey (others ++ ts) key
key_behind [] ts key has = has
key_behind (None ∷ others) ts key has = key_behind others ts key has
key_behind (Some t ∷ others) ts key has = inr (key_behind others ts key has)

-- nothing was set, and the same continuations are there
pub seated_as : (ts us : List (Option StageContinuation)) (a b : Context)
    → b.log.state.pending ≡ a.log.state.pending → ((key : ContKey) → HasKey ts key → HasKey us key)
    → KeepsSeated ts us a b
seated_as ts us a b same move others seated n p there = key_beside others ts us p.key (move p.key)
    (seated n p (ap (pending_at n) (sym same) ∙ there))

pub seated_same : (ts : List (Option StageContinuation)) (a : Context) → KeepsSeated ts ts a a
seated_same ts a others seated = seated

-- one event was set, of one of these
pub seated_set : (ts us : List (Option StageContinuation)) (key : ContKey) (a b : Context) → Keeps a b
    → SetsOnly (λ p. p.key ≡ key) a b → HasKey us key → ((k : ContKey) → HasKey ts k → HasKey us k)
    → KeepsSeated ts us a b
seated_set ts us key a b keeps only has move others seated n p there = by_old
    (pending_at n a.log.state.pending) refl
  where
    by_old : (o : Option Pending) → pending_at n a.log.state.pending ≡ o → HasKey (others ++ us) p.key
    by_old None none = subst (λ k. HasKey (others ++ us) k) (sym (only n p none there))
        (key_behind others us key has)
    by_old (Some q) was = let one : Some q ≡ Some p = sym (keeps.pending n q was) ∙ there in subst
        (λ r. HasKey (others ++ us) r.key) (let same : q ≡ p = cc in same)
        (key_beside others ts us q.key (move q.key) (seated n q was))

pub seated_then : (ts us vs : List (Option StageContinuation)) (a m b : Context) → KeepsSeated ts us a m
    → KeepsSeated us vs m b → KeepsSeated ts vs a b
seated_then ts us vs a m b h k others seated = k others (h others seated)

-- of the first of several, and of those behind it
seat_moved : (others ts : List (Option StageContinuation)) (t : Option StageContinuation) (key : ContKey)
    → HasKey (others ++ (t ∷ ts)) key → HasKey ((others ++ ts) ++ (t ∷ [])) key
seat_moved others ts t key has = by_place (seat_of others (t ∷ ts) key has)
  where
    by_slot : (t : Option StageContinuation) → HasKey (t ∷ ts) key → HasKey ((others ++ ts) ++ (t ∷ [])) key
    by_slot None has = seat_before (others ++ ts) (None ∷ []) key (key_behind others ts key has)
    by_slot (Some s) (inl own) = key_behind (others ++ ts) (Some s ∷ []) key (inl own)
    by_slot (Some s) (inr has) = seat_before (others ++ ts) (Some s ∷ []) key (key_behind others ts key has)

    by_place : HasKey others key ⊎ HasKey (t ∷ ts) key → HasKey ((others ++ ts) ++ (t ∷ [])) key
    by_place (inl own) = seat_before (others ++ ts) (t ∷ []) key (seat_before others ts key own)
    by_place (inr has) = by_slot t has

seat_back : (others ts : List (Option StageContinuation)) (t : Option StageContinuation) (key : ContKey)
    → HasKey ((others ++ ts) ++ (t ∷ [])) key → HasKey (others ++ (t ∷ ts)) key
seat_back others ts t key has = by_place (seat_of (others ++ ts) (t ∷ []) key has)
  where
    by_slot : (t : Option StageContinuation) → HasKey (t ∷ []) key → HasKey (t ∷ ts) key
    by_slot None has = absurd has
    by_slot (Some s) (inl own) = inl own
    by_slot (Some s) (inr never) = absurd never

    back : (t : Option StageContinuation) → HasKey ts key → HasKey (t ∷ ts) key
    back None has = has
    back (Some s) has = inr has

    by_own : HasKey others key ⊎ HasKey ts key → HasKey (others ++ (t ∷ ts)) key
    by_own (inl own) = seat_before others (t ∷ ts) key own
    by_own (inr has) = key_behind others (t ∷ ts) key (back t has)

    by_place : HasKey (others ++ ts) key ⊎ HasKey (t ∷ []) key → HasKey (others ++ (t ∷ ts)) key
    by_place (inl has) = by_own (seat_of others ts key has)
    by_place (inr own) = key_behind others (t ∷ ts) key (by_slot t own)

pub seated_front : (t u : Option StageContinuation) (ts : List (Option StageContinuation)) (a b : Context)
    → KeepsSeated (t ∷ []) (u ∷ []) a b → KeepsSeated (t ∷ ts) (u ∷ ts) a b
seated_front t u ts a b h others seated n p there = seat_back others ts u p.key
    (h (others ++ ts) (λ m q was. seat_moved others ts t q.key (seated m q was)) n p there)

pub seated_behind : (t : Option StageContinuation) (ts us : List (Option StageContinuation)) (a b : Context)
    → KeepsSeated ts us a b → KeepsSeated (t ∷ ts) (t ∷ us) a b
seated_behind t ts us a b h others seated =
    subst (AllSeated b.log.state.pending) (append_assoc others (t ∷ []) us)
    (h (others ++ (t ∷ [])) (subst (AllSeated a.log.state.pending) (sym (append_assoc others (t ∷ []) ts))
    seated))

-- the continuation of a slot, or of a place, was roused or told
pub seated_slot : (slot : Option StageContinuation) (t u : StageContinuation) (pause moment : ℕ)
    (a b : Context) → slot ≡ Some t → u.key ≡ t.key → Keeps a b → SetsOnly (IsWorkOf t.key pause moment) a b
    → KeepsSeated (slot ∷ []) (Some u ∷ []) a b
seated_slot slot t u pause moment a b is same keeps only =
    subst (λ s. KeepsSeated (s ∷ []) (Some u ∷ []) a b) (sym is)
    (seated_set (Some t ∷ []) (Some u ∷ []) t.key a b keeps
    (λ n p none there. (only n p none there).of_key) (inl same) move)
  where
    move : (k : ContKey) → HasKey (Some t ∷ []) k → HasKey (Some u ∷ []) k
    move k (inl own) = inl (same ∙ own)
    move k (inr never) = absurd never

pub key_there : (ts : List (Option StageContinuation)) (at : ℕ) (t : StageContinuation)
    → slice_get ts at ≡ Some (Some t) → HasKey ts t.key
key_there [] at t is = absurd (let wrong : ◌≡◌ {A = Option (Option StageContinuation)} None (Some (Some t)) =
    is in cc)
key_there (u ∷ ts) zero t is = let here : u ≡ Some t = cc in subst (λ x. HasKey (x ∷ ts) t.key) (sym here)
    (inl refl)
key_there (None ∷ ts) (suc at) t is = key_there ts at t is
key_there (Some u ∷ ts) (suc at) t is = inr (key_there ts at t is)
