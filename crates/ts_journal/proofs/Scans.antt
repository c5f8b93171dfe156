-- A loop that looks for an event or a key: what it passed is none of the front.
use Rattle.std.proofs.Common.{◌≡◌, ℕ, ◌+◌, ◌<◌, suc, List, ◌∷◌, ◌++◌, Option, Some, length, get_or, take, drop, eqb, refl, sym, ap, ◌∙◌, arith}
use Rattle.std.proofs.lemmas.List.{drop_more}
use Rattle.std.proofs.lemmas.Bool.{cond-true, cond-false, eq-eqb, ne_eqb}
use Rattle.std.specs.List.{remove, slice_get}
use Rattle.std.proofs.lemmas.Option.{slice_get-get_or}
use Rattle.std.specs.Prelude.{slice_set}
use Rattle.std.proofs.lemmas.List.{set_split}
use Rattle.ts_lists.proofs.Places.{take_more_before}
use Rattle.ts_journal.specs.declared.entry.ContKey.{ContKey}
use Rattle.ts_journal.specs.declared.entry.Pending.{Pending}
use Rattle.ts_journal.specs.declared.entry.Mark.{Mark}
use Rattle.ts_journal.specs.declared.entry.Entry.{Entry}
use Rattle.ts_journal.specs.declared.entry.Entry.TheVariants.{Took, Gave, Made, Set, Handled, Cancelled, Dropped, Destroyed}
use Rattle.ts_journal.specs.Log.{mark_after}
use Rattle.ts_journal.specs.State.{pending_at, without, generation_at, without_index, with_key}

pub pending_past : (n : ℕ) (ps : List Pending) (i : ℕ) (d : Pending) → i < length ps
    → ((get_or ps i d).number ≡ n → ⊥) → pending_at n (drop (i + 1) ps) ≡ pending_at n (drop i ps)
pending_past n ps i d h ne =
    sym (ap (pending_at n) (drop_more ps i d h) ∙ cond-false (eqb (get_or ps i d).number n)
    (Some (get_or ps i d)) (pending_at n (drop (i + 1) ps)) (ne_eqb _ _ ne))

pub pending_here : (n : ℕ) (ps : List Pending) (i : ℕ) (d : Pending) → i < length ps
    → (get_or ps i d).number ≡ n → pending_at n (drop i ps) ≡ Some (get_or ps i d)
pending_here n ps i d h e =
    ap (pending_at n) (drop_more ps i d h) ∙ cond-true (eqb (get_or ps i d).number n) (Some (get_or ps i d))
    (pending_at n (drop (i + 1) ps)) (eq-eqb _ _ e)

pub item_here : (n : ℕ) (ps : List Pending) (i : ℕ) (d : Pending) → i < length ps → (get_or ps i d).number ≡ n
    → slice_get ps i ≡ pending_at n (drop i ps)
item_here n ps i d h e = slice_get-get_or ps i d h ∙ sym (pending_here n ps i d h e)

-- one element more of the front
pub without_past : (n : ℕ) (ps : List Pending) (i : ℕ) (d : Pending) → i < length ps
    → ((get_or ps i d).number ≡ n → ⊥) → take (i + 1) ps ++ without n (drop (i + 1) ps) ≡ take i ps ++ without
    n (drop i ps)
without_past n ps i d h ne =
    let rest = without n (drop (i + 1) ps) in
    let p = get_or ps i d in
    let here : without n (drop i ps) ≡ p ∷ rest = ap (without n) (drop_more ps i d h) ∙ cond-false
    (eqb p.number n) (drop (i + 1) ps) (p ∷ rest) (ne_eqb _ _ ne) in
    take_more_before ps i d rest h ∙ sym (ap (λ zs. take i ps ++ zs) here)

pub without_here : (n : ℕ) (ps : List Pending) (i : ℕ) (d : Pending) → i < length ps
    → (get_or ps i d).number ≡ n → remove ps i ≡ take i ps ++ without n (drop i ps)
without_here n ps i d h e =
    let p = get_or ps i d in
    let here : without n (drop i ps) ≡ drop (i + 1) ps = ap (without n) (drop_more ps i d h) ∙ cond-true
    (eqb p.number n) (drop (i + 1) ps) (p ∷ without n (drop (i + 1) ps)) (eq-eqb _ _ e) in
    let j : suc i ≡ i + 1 = omega arith in
    ap (λ k. take i ps ++ drop k ps) j ∙ sym (ap (λ zs. take i ps ++ zs) here)

pub generation_past : (n : ℕ) (ks : List ContKey) (i : ℕ) (d : ContKey) → i < length ks
    → ((get_or ks i d).index ≡ n → ⊥) → generation_at n (drop (i + 1) ks) ≡ generation_at n (drop i ks)
generation_past n ks i d h ne =
    sym (ap (generation_at n) (drop_more ks i d h) ∙ cond-false (eqb (get_or ks i d).index n)
    (Some (get_or ks i d).generation) (generation_at n (drop (i + 1) ks)) (ne_eqb _ _ ne))

pub generation_here : (n : ℕ) (ks : List ContKey) (i : ℕ) (d : ContKey) → i < length ks
    → (get_or ks i d).index ≡ n → generation_at n (drop i ks) ≡ Some (get_or ks i d).generation
generation_here n ks i d h e =
    ap (generation_at n) (drop_more ks i d h) ∙ cond-true (eqb (get_or ks i d).index n)
    (Some (get_or ks i d).generation) (generation_at n (drop (i + 1) ks)) (eq-eqb _ _ e)

pub index_past : (n : ℕ) (ks : List ContKey) (i : ℕ) (d : ContKey) → i < length ks
    → ((get_or ks i d).index ≡ n → ⊥) → take (i + 1) ks ++ without_index n (drop (i + 1) ks) ≡ take i ks ++
    without_index n (drop i ks)
index_past n ks i d h ne =
    let rest = without_index n (drop (i + 1) ks) in
    let k = get_or ks i d in
    let here : without_index n (drop i ks) ≡ k ∷ rest = ap (without_index n) (drop_more ks i d h) ∙ cond-false
    (eqb k.index n) (drop (i + 1) ks) (k ∷ rest) (ne_eqb _ _ ne) in
    take_more_before ks i d rest h ∙ sym (ap (λ zs. take i ks ++ zs) here)

pub index_here : (n : ℕ) (ks : List ContKey) (i : ℕ) (d : ContKey) → i < length ks → (get_or ks i d).index ≡ n
    → remove ks i ≡ take i ks ++ without_index n (drop i ks)
index_here n ks i d h e =
    let k = get_or ks i d in
    let here : without_index n (drop i ks) ≡ drop (i + 1) ks = ap (without_index n) (drop_more ks i d h) ∙
    cond-true (eqb k.index n) (drop (i + 1) ks) (k ∷ without_index n (drop (i + 1) ks)) (eq-eqb _ _ e) in
    let j : suc i ≡ i + 1 = omega arith in
    ap (λ k. take i ks ++ drop k ks) j ∙ sym (ap (λ zs. take i ks ++ zs) here)

-- the same for a key that is put at its place
pub put_past : (key : ContKey) (ks : List ContKey) (i : ℕ) (d : ContKey) → i < length ks
    → ((get_or ks i d).index ≡ key.index → ⊥)
    → take (i + 1) ks ++ with_key key (drop (i + 1) ks) ≡ take i ks ++ with_key key (drop i ks)
put_past key ks i d h ne =
    let rest = with_key key (drop (i + 1) ks) in
    let k = get_or ks i d in
    let here : with_key key (drop i ks) ≡ k ∷ rest = ap (with_key key) (drop_more ks i d h) ∙ cond-false
    (eqb k.index key.index) (key ∷ drop (i + 1) ks) (k ∷ rest) (ne_eqb _ _ ne) in
    take_more_before ks i d rest h ∙ sym (ap (λ zs. take i ks ++ zs) here)

pub put_here : (key : ContKey) (ks : List ContKey) (i : ℕ) (d : ContKey) → i < length ks
    → (get_or ks i d).index ≡ key.index → slice_set ks i key ≡ take i ks ++ with_key key (drop i ks)
put_here key ks i d h e =
    let k = get_or ks i d in
    let here : with_key key (drop i ks) ≡ key ∷ drop (i + 1) ks = ap (with_key key) (drop_more ks i d h) ∙
    cond-true (eqb k.index key.index) (key ∷ drop (i + 1) ks) (k ∷ with_key key (drop (i + 1) ks))
    (eq-eqb _ _ e) in
    let j : suc i ≡ i + 1 = omega arith in
    set_split ks i key h ∙ ap (λ m. take i ks ++ (key ∷ drop m ks)) j ∙ sym (ap (λ zs. take i ks ++ zs) here)

-- the turn that was taken last, past one entry more
pub mark_took : (last : Option Mark) (es : List Entry) (i : ℕ) (d : Entry) (turn seat : ℕ) → i < length es
    → get_or es i d ≡ Took turn seat
    → mark_after (Some (record { turn = turn; seat = seat })) (drop (i + 1) es) ≡ mark_after last (drop i es)
mark_took last es i d turn seat h e =
    sym (ap (mark_after last) (drop_more es i d h ∙ ap (λ x. x ∷ drop (i + 1) es) e))

pub mark_other : (last : Option Mark) (es : List Entry) (i : ℕ) (d : Entry) → i < length es
    → ((turn seat : ℕ) → get_or es i d ≡ Took turn seat → ⊥)
    → mark_after last (drop (i + 1) es) ≡ mark_after last (drop i es)
mark_other last es i d h ne = sym (ap (mark_after last) (drop_more es i d h) ∙ passes (get_or es i d) ne)
  where
    passes : (e : Entry) → ((turn seat : ℕ) → e ≡ Took turn seat → ⊥)
        → mark_after last (e ∷ drop (i + 1) es) ≡ mark_after last (drop (i + 1) es)
    passes (Took turn seat) none = absurd (none turn seat refl)
    passes (Gave turn) none = refl
    passes (Made key) none = refl
    passes (Set number key event due series period) none = refl
    passes (Handled number moment) none = refl
    passes (Cancelled number) none = refl
    passes (Dropped number) none = refl
    passes (Destroyed key) none = refl

-- the loop that looks for the event of a number, and the one that looks for the key of an index
pub ruleset find_pending_steps = (pending_past, item_here, without_past, without_here)

pub ruleset find_index_steps = (index_past, index_here, put_past, put_here)

pub ruleset event_at_steps = (pending_past, pending_here)

pub ruleset generation_of_steps = (generation_past, generation_here)

pub ruleset last_mark_steps = (mark_took, mark_other)
