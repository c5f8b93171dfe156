-- How the balance are kept: as clients are in the row, while they are served, and as what is left of them is
-- handed over.
use Rattle.std.proofs.Common.{◌≡◌, ℕ, ◌+◌, ◌<◌, ◌≤◌, ◌⊎◌, inl, inr, cond, List, [], ◌∷◌, ◌++◌, All, Bool}
use Rattle.std.proofs.Common.{true, false, not, length, get_or, set, replicate, is_some, refl, sym, ap, ◌∙◌}
use Rattle.std.proofs.Common.{subst, arith}
use Rattle.std.specs.List.{sum_by}
use Rattle.std.proofs.lemmas.Bool.Decides.{eqb_tells, nat_tests}
use Rattle.std.proofs.lemmas.List.{get_or-set_other, get_or-set_same, length-set}
use Rattle.std.proofs.lemmas.List.Elements.{All-nil, All-push}
use Rattle.std.proofs.lemmas.List.Folds.{sum_by-replicate}
use Rattle.std.proofs.lemmas.List.Sums.{sum_by-append, sum_by-cons, sum_by-set}
use Rattle.ts_link.specs.Counts.{Counted, greatest}
use Rattle.ts_slot.specs.Lists.{same}
use Rattle.ts_slot.specs.Views.{within}
use Rattle.ts_txn.specs.Net.{GivesNobody, IsFreshNet, IsHanded, IsHandedNothing, IsNoted, NetSeen}
use Rattle.ts_txn.specs.declared.net.NetCounts.{NetCounts}
use Rattle.ts_txn.specs.declared.retired.Noted.{Noted}
use Rattle.ts_txn.specs.declared.retired.Retired.{Retired}
use Rattle.ts_serve.specs.declared.connection.Connection.{Connection}
use Rattle.ts_serve.specs.declared.connection.Connection.TheVariants.{Free, Accepted}
use Rattle.ts_serve.specs.Stepping.{KeepsGiven}
use Rattle.ts_serve.specs.Whose.{first_of, next_of, noted_of}
use Rattle.ts_serve.specs.declared.whose.Whose.{Whose}
use Rattle.ts_serve.specs.Balance.{IsBalanced, HasAll, HasNoMore, IsSameClient, IsSameRow, had_number}
use Rattle.ts_serve.specs.Balance.{has_number, is_given, is_taken, lacked_origin, lacks_origin}

-- one client more was given, under the next number
given_next : (given x : ℕ) → within 1 (given + 1 + 1) x ≡ within 1 (given + 1) x + same (given + 1) x
given_next given x = grind (arith, nat_tests)

-- a count that rose, or stands at its end, is no less
pub counted_on : (rose : Bool) (old new : ℕ) → Counted rose old new → old ≤ new
counted_on true old new rose = omega arith
counted_on false old new is = omega arith

-- a count rose by one where it was counted, unless it stands at its end
pub counted_one : (has : Bool) (old new : ℕ) → Counted (not has) old new
    → (old + cond has 0 1 ≤ new) ⊎ (greatest ≤ new)
counted_one true old new is = inl (omega arith)
counted_one false old new rose = grind arith

-- a sum over a row of which one place is in the row anew
pub row_set : (f : Connection → ℕ) (row : List Connection) (k : ℕ) (was is : Connection) → k < length row
    → get_or row k Free ≡ was → sum_by f (set row k is) + f was ≡ sum_by f row + f is
row_set f row k was is below found =
    subst (λ b. sum_by f (set row k is) + f b ≡ sum_by f row + f is) found (sum_by-set f row k is Free below)

-- a sum over what was handed over, of which there is one more
pub sum_push : {A : Type 0} (f : A → ℕ) (xs : List A) (x : A) → sum_by f (xs ++ x ∷ []) ≡ sum_by f xs + f x
sum_push f xs x =
    let one : sum_by f (x ∷ []) ≡ f x + sum_by f [] = sum_by-cons f x [] in
    let none : sum_by f [] ≡ 0 = refl in
    omega (arith, sum_by-append f xs (x ∷ []))

-- the row in which nobody is in the row
pub free_sum : (f : Connection → ℕ) → f Free ≡ 0 → (places : ℕ) → sum_by f (replicate places Free) ≡ 0
free_sum f none places = grind (arith, none, sum_by-replicate f places Free)

module _ {C O : Type 0} (Done : Retired C O → Type 0) (misdials : ℕ) where
  -- before anything was given
  pub balance_fresh : (places : ℕ) (net : NetSeen C O) → IsFreshNet net → net.counts.misdials ≡ misdials
      → IsBalanced Done misdials (replicate places Free) net
  balance_fresh places net fresh is = record {
    each = subst (All Done) (sym fresh.retired) (All-nil Done);
    once = λ x.
        let none : sum_by (had_number x) net.retired ≡ 0 = ap (sum_by (had_number x)) fresh.retired in
        let free : sum_by (has_number x) (replicate places Free) ≡ 0 = free_sum (has_number x) refl places in
        omega arith;
    dialed =
        let none : sum_by lacked_origin net.retired ≡ 0 = ap (sum_by lacked_origin) fresh.retired in
        let free : sum_by lacks_origin (replicate places Free) ≡ 0 = free_sum lacks_origin refl places in
        inl (omega arith);
  }

  -- nobody came
  pub balance_same : (row : List Connection) (old new : NetSeen C O) → new.given ≡ old.given
      → IsHandedNothing old new → old.counts.misdials ≤ new.counts.misdials
      → IsBalanced Done misdials row old → IsBalanced Done misdials row new
  balance_same row old new given nothing on balance = record {
    each = subst (All Done) (sym nothing.retired) balance.each;
    once = λ x.
        let was = balance.once x in
        let handed : sum_by (had_number x) new.retired ≡ sum_by (had_number x) old.retired =
        ap (sum_by (had_number x)) nothing.retired in
        let are : is_given new x ≡ is_given old x = ap (λ n. within 1 (n + 1) x) given in omega arith;
    dialed =
        let handed : sum_by lacked_origin new.retired ≡ sum_by lacked_origin old.retired =
        ap (sum_by lacked_origin) nothing.retired in
        elim balance.dialed [ inl few ↦ inl (omega arith) | inr end ↦ inr (omega arith) ];
  }

  -- the row is another one, in which the same is in the row
  pub balance_row : (row again : List Connection) (net : NetSeen C O) → IsSameRow row again
      → IsBalanced Done misdials row net → IsBalanced Done misdials again net
  balance_row row again net alike balance = record {
    each = balance.each;
    once = λ x. let was = balance.once x in let are = alike.numbers x in omega arith;
    dialed = let are = alike.origins in
        elim balance.dialed [ inl few ↦ inl (omega arith) | inr end ↦ inr end ];
  }

  -- a client came, and is in the row for a place that was free
  pub balance_in : (row : List Connection) (k number made : ℕ) (has_origin : Bool) (old new : NetSeen C O)
      → k < length row → get_or row k Free ≡ Free → number ≡ old.given + 1 → new.given ≡ old.given + 1
      → IsHandedNothing old new → Counted (not has_origin) old.counts.misdials new.counts.misdials
      → IsBalanced Done misdials row old
      → IsBalanced Done misdials (set row k (Accepted (first_of number has_origin) false made)) new
  balance_in row k number made has_origin old new below free number_is given nothing counted balance = record {
    each = subst (All Done) (sym nothing.retired) balance.each;
    once = λ x.
        let was = balance.once x in
        let handed : sum_by (had_number x) new.retired ≡ sum_by (had_number x) old.retired =
        ap (sum_by (had_number x)) nothing.retired in
        let connected : sum_by (has_number x) (set row k (Accepted (first_of number has_origin) false made)) + 0
        ≡ sum_by (has_number x) row + same number x =
        row_set (has_number x) row k Free (Accepted (first_of number has_origin) false made) below free in
        let is : same number x ≡ same (old.given + 1) x = ap (λ n. same n x) number_is in
        let are : is_given new x ≡ within 1 (old.given + 1 + 1) x = ap (λ n. within 1 (n + 1) x) given in
        let next = given_next old.given x in omega arith;
    dialed =
        let handed : sum_by lacked_origin new.retired ≡ sum_by lacked_origin old.retired =
        ap (sum_by lacked_origin) nothing.retired in
        let connected : sum_by lacks_origin (set row k (Accepted (first_of number has_origin) false made)) + 0
        ≡ sum_by lacks_origin row + cond has_origin 0 1 =
        row_set lacks_origin row k Free (Accepted (first_of number has_origin) false made) below free in
        let on = counted_on (not has_origin) old.counts.misdials new.counts.misdials counted in
        elim balance.dialed [
          | inl few ↦ elim (counted_one has_origin old.counts.misdials new.counts.misdials counted) [
            | inl one ↦ inl (omega arith)
            | inr end ↦ inr end
          ]
          | inr end ↦ inr (omega arith)
        ];
  }

  -- what is left of the client of a place was handed over, and the place is free
  pub balance_out : (row : List Connection) (k : ℕ) (whose : Whose) (started : Bool) (made : ℕ)
      (retired : Retired C O) (old new : NetSeen C O) → k < length row
      → get_or row k Free ≡ Accepted whose started made → IsHanded true retired old new
      → retired.parts.number ≡ whose.number → is_some retired.parts.origin ≡ whose.has_origin → Done retired
      → IsBalanced Done misdials row old → IsBalanced Done misdials (set row k Free) new
  balance_out row k whose started made retired old new below found handed number_is origin_is done balance =
      let told : new.retired ≡ old.retired ++ retired ∷ [] = handed.told refl in record {
        each = subst (All Done) (sym told) (All-push Done old.retired retired balance.each done);
        once = λ x.
            let was = balance.once x in
            let more : sum_by (had_number x) new.retired
            ≡ sum_by (had_number x) old.retired + same retired.parts.number x =
            ap (sum_by (had_number x)) told ∙ sum_push (had_number x) old.retired retired in
            let is : same retired.parts.number x ≡ same whose.number x = ap (λ n. same n x) number_is in
            let less : sum_by (has_number x) (set row k Free) + same whose.number x
            ≡ sum_by (has_number x) row + 0 =
            row_set (has_number x) row k (Accepted whose started made) Free below found in
            let are : is_given new x ≡ is_given old x = ap (λ n. within 1 (n + 1) x) handed.given in
            omega arith;
        dialed =
            let more : sum_by lacked_origin new.retired
            ≡ sum_by lacked_origin old.retired + cond (is_some retired.parts.origin) 0 1 =
            ap (sum_by lacked_origin) told ∙ sum_push lacked_origin old.retired retired in
            let is : cond {A = ℕ} (is_some retired.parts.origin) 0 1 ≡ cond {A = ℕ} whose.has_origin 0 1 =
            ap {B = ℕ} (λ (b : Bool). cond {A = ℕ} b 0 1) origin_is in
            let less : sum_by lacks_origin (set row k Free) + cond whose.has_origin 0 1
            ≡ sum_by lacks_origin row + 0 =
            row_set lacks_origin row k (Accepted whose started made) Free below found in
            let counts : new.counts.misdials ≡ old.counts.misdials =
            ap (λ (c : NetCounts). c.misdials) handed.counts in
            elim balance.dialed [ inl few ↦ inl (omega arith) | inr end ↦ inr (omega arith) ];
      }

-- a connection stays what it is
pub client_stays : (c : Connection) → IsSameClient c c
client_stays Free = refl
client_stays (Accepted whose started made) = (started, refl)

pub client_on : (a b c : Connection) → IsSameClient a b → IsSameClient b c → IsSameClient a c
client_on Free b c one two = subst (λ (d : Connection). IsSameClient d c) one two
client_on (Accepted whose started made) b c one two = subst (λ (d : Connection). IsSameClient d c) one.1 two

-- another handler of the same client stands in a place, in a group of its own
module _ (row : List Connection) (k : ℕ) (whose : Whose) (started started' : Bool) (made anew : ℕ)
    (below : k < length row) (found : get_or row k Free ≡ Accepted whose started made) where
  pub numbers_anew : (x : ℕ)
      → sum_by (has_number x) (set row k (Accepted whose started' anew)) ≡ sum_by (has_number x) row
  numbers_anew x =
      let more : sum_by (has_number x) (set row k (Accepted whose started' anew)) + same whose.number x
      ≡ sum_by (has_number x) row + same whose.number x =
      row_set (has_number x) row k (Accepted whose started made) (Accepted whose started' anew) below found in
      omega arith

  pub taken_anew : sum_by is_taken (set row k (Accepted whose started' anew)) ≡ sum_by is_taken row
  taken_anew =
      let more : sum_by is_taken (set row k (Accepted whose started' anew)) + 1 ≡ sum_by is_taken row + 1 =
      row_set is_taken row k (Accepted whose started made) (Accepted whose started' anew) below found in
      omega arith

  pub origins_anew : sum_by lacks_origin (set row k (Accepted whose started' anew)) ≡ sum_by lacks_origin row
  origins_anew =
      let more : sum_by lacks_origin (set row k (Accepted whose started' anew)) + cond whose.has_origin 0 1
      ≡ sum_by lacks_origin row + cond whose.has_origin 0 1 =
      row_set lacks_origin row k (Accepted whose started made) (Accepted whose started' anew) below found in
      omega arith

  pub balance_anew : {C O : Type 0} (Done : Retired C O → Type 0) (misdials : ℕ) (net : NetSeen C O)
      → IsBalanced Done misdials row net → IsBalanced Done misdials (set row k (Accepted whose started' anew)) net
  balance_anew Done misdials net balance = record {
    each = balance.each;
    once = λ x. let was = balance.once x in let are = numbers_anew x in omega arith;
    dialed = let are = origins_anew in
        elim balance.dialed [ inl few ↦ inl (omega arith) | inr end ↦ inr end ];
  }

  pub all_anew : {C O : Type 0} (net : NetSeen C O) → HasAll row net
      → HasAll (set row k (Accepted whose started' anew)) net
  all_anew net all = let are = taken_anew in omega arith

  pub no_more_anew : {C O : Type 0} (net : NetSeen C O) → HasNoMore row net
      → HasNoMore (set row k (Accepted whose started' anew)) net
  no_more_anew net few = let are = taken_anew in omega arith

-- where its group is the same one, and was started or was not, the clients in the row are the same
pub row_started : (row : List Connection) (k : ℕ) (whose : Whose) (started started' : Bool) (made : ℕ)
    → k < length row → get_or row k Free ≡ Accepted whose started made
    → IsSameRow row (set row k (Accepted whose started' made))
row_started row k whose started started' made below found = record {
  places = length-set row k (Accepted whose started' made);
  clients = λ j. elim (eqb_tells j k) [
    | inl same ↦
        let here : get_or (set row k (Accepted whose started' made)) j Free ≡ Accepted whose started' made =
        ap (λ i. get_or (set row k (Accepted whose started' made)) i Free) same.1
        ∙ get_or-set_same row k (Accepted whose started' made) Free below in
        let was : get_or row j Free ≡ Accepted whose started made = ap (λ i. get_or row i Free) same.1 ∙ found in
        subst (λ (c : Connection). IsSameClient c (get_or (set row k (Accepted whose started' made)) j Free))
        (sym was) (started', here)
    | inr other ↦
        subst (IsSameClient (get_or row j Free))
        (sym (get_or-set_other row k j (Accepted whose started' made) Free other.1))
        (client_stays (get_or row j Free))
  ];
  numbers = numbers_anew row k whose started started' made made below found;
  taken = taken_anew row k whose started started' made made below found;
  origins = origins_anew row k whose started started' made made below found;
}

-- A transaction was noted and an origin dialed for the next one of its client.
module _ {C O : Type 0} (row : List Connection) (k made anew : ℕ) (note : Noted O) (has : Bool)
    (old mid new : NetSeen C O) (below : k < length row)
    (found : get_or row k Free ≡ Accepted (noted_of note) true made) where
  -- the row with the next transaction of the client
  abbrev pub next_row : List Connection
  next_row = set row k (Accepted (next_of note has) false anew)

  taken_same : sum_by is_taken next_row ≡ sum_by is_taken row
  taken_same =
      let more : sum_by is_taken next_row + 1 ≡ sum_by is_taken row + 1 =
      row_set is_taken row k (Accepted (noted_of note) true made) (Accepted (next_of note has) false anew) below
      found in
      omega arith

  numbers_same : (x : ℕ) → sum_by (has_number x) next_row ≡ sum_by (has_number x) row
  numbers_same x =
      let more : sum_by (has_number x) next_row + same note.number x
      ≡ sum_by (has_number x) row + same note.number x =
      row_set (has_number x) row k (Accepted (noted_of note) true made) (Accepted (next_of note has) false anew)
      below found in
      omega arith

  origins_next : sum_by lacks_origin next_row + cond (is_some note.origin) 0 1
      ≡ sum_by lacks_origin row + cond has 0 1
  origins_next = row_set lacks_origin row k (Accepted (noted_of note) true made)
      (Accepted (next_of note has) false anew) below found

  -- no client is lost, and no more are handed over than were given
  pub all_noted : (tells : Bool) → IsNoted tells note old mid → GivesNobody mid new → HasAll row old
      → HasAll next_row new
  all_noted tells noted nobody all =
      let taken = taken_same in
      let handed = nobody.handed.handed in
      let before = noted.handed in
      let given = nobody.given in
      let was = noted.given in omega arith

  pub given_noted : (tells : Bool) → IsNoted tells note old mid → GivesNobody mid new
      → new.counts.ends ≡ mid.counts.ends → new.counts.faults ≡ mid.counts.faults
      → KeepsGiven row next_row old new
  given_noted tells noted nobody ends faults = record {
    net = record {
      given = nobody.given ∙ noted.given;
      ends = ends ∙ ap (λ (c : NetCounts). c.ends) noted.counts;
      faults = faults ∙ ap (λ (c : NetCounts). c.faults) noted.counts;
    };
    no_more = λ few.
        let taken = taken_same in
        let handed = nobody.handed.handed in
        let before = noted.handed in
        let given = nobody.given in
        let was = noted.given in omega arith;
  }

  -- and the balance stays right
  pub balance_noted : (Done : Retired C O → Type 0) (misdials : ℕ) → IsNoted true note old mid
      → GivesNobody mid new → Counted (not has) mid.counts.misdials new.counts.misdials
      → IsBalanced Done misdials row old → IsBalanced Done misdials next_row new
  balance_noted Done misdials noted nobody counted balance =
      let told : new.retired ≡ old.retired = nobody.handed.retired ∙ noted.retired in
      record {
        each = subst (All Done) (sym told) balance.each;
        once = λ x.
            let was = balance.once x in
            let handed : sum_by (had_number x) new.retired ≡ sum_by (had_number x) old.retired =
            ap (sum_by (had_number x)) told in
            let numbers = numbers_same x in
            let are : is_given new x ≡ is_given old x =
            ap (λ n. within 1 (n + 1) x) (nobody.given ∙ noted.given) in omega arith;
        dialed =
            let handed : sum_by lacked_origin new.retired ≡ sum_by lacked_origin old.retired =
            ap (sum_by lacked_origin) told in
            let next = origins_next in
            let counts : mid.counts.misdials ≡ old.counts.misdials =
            ap (λ (c : NetCounts). c.misdials) noted.counts in
            let on = counted_on (not has) mid.counts.misdials new.counts.misdials counted in
            elim balance.dialed [
              | inl few ↦ elim (counted_one has mid.counts.misdials new.counts.misdials counted) [
                | inl one ↦ inl (omega arith)
                | inr end ↦ inr end
              ]
              | inr end ↦ inr (omega arith)
            ];
      }

module _ {C O : Type 0} where
  -- the same of no client being lost

  pub all_fresh : (places : ℕ) (net : NetSeen C O) → IsFreshNet net → HasAll (replicate places Free) net
  all_fresh places net fresh =
      let free : sum_by is_taken (replicate places Free) ≡ 0 = free_sum is_taken refl places in
      let given = fresh.given in let handed = fresh.handed in omega arith

  pub all_same : (row : List Connection) (old new : NetSeen C O) → new.given ≡ old.given
      → IsHandedNothing old new → HasAll row old → HasAll row new
  all_same row old new given nothing all = let handed = nothing.handed in omega arith

  pub all_row : (row again : List Connection) (net : NetSeen C O) → IsSameRow row again → HasAll row net
      → HasAll again net
  all_row row again net alike all = let are = alike.taken in omega arith

  pub all_in : (row : List Connection) (k number made : ℕ) (has_origin : Bool) (old new : NetSeen C O)
      → k < length row → get_or row k Free ≡ Free → new.given ≡ old.given + 1 → IsHandedNothing old new
      → HasAll row old → HasAll (set row k (Accepted (first_of number has_origin) false made)) new
  all_in row k number made has_origin old new below free given nothing all =
      let handed = nothing.handed in
      let connected : sum_by is_taken (set row k (Accepted (first_of number has_origin) false made)) + 0
      ≡ sum_by is_taken row + 1 =
      row_set is_taken row k Free (Accepted (first_of number has_origin) false made) below free in omega arith

  -- nor are more in the row or handed over than were given

  pub no_more_fresh : (places : ℕ) (net : NetSeen C O) → IsFreshNet net
      → HasNoMore (replicate places Free) net
  no_more_fresh places net fresh =
      let free : sum_by is_taken (replicate places Free) ≡ 0 = free_sum is_taken refl places in
      let given = fresh.given in let handed = fresh.handed in omega arith

  pub no_more_in : (row : List Connection) (k number made : ℕ) (has_origin : Bool) (old new : NetSeen C O)
      → k < length row → get_or row k Free ≡ Free → new.given ≡ old.given + 1 → IsHandedNothing old new
      → HasNoMore row old → HasNoMore (set row k (Accepted (first_of number has_origin) false made)) new
  no_more_in row k number made has_origin old new below free given nothing few =
      let handed = nothing.handed in
      let connected : sum_by is_taken (set row k (Accepted (first_of number has_origin) false made)) + 0
      ≡ sum_by is_taken row + 1 =
      row_set is_taken row k Free (Accepted (first_of number has_origin) false made) below free in omega arith

  pub no_more_out : (row : List Connection) (k : ℕ) (whose : Whose) (started : Bool) (made : ℕ)
      (old new : NetSeen C O) → k < length row → get_or row k Free ≡ Accepted whose started made
      → new.handed ≡ old.handed + 1 → new.given ≡ old.given → HasNoMore row old
      → HasNoMore (set row k Free) new
  no_more_out row k whose started made old new below found handed given few =
      let less : sum_by is_taken (set row k Free) + 1 ≡ sum_by is_taken row + 0 =
      row_set is_taken row k (Accepted whose started made) Free below found in omega arith

  pub all_out : (tells : Bool) (row : List Connection) (k : ℕ) (whose : Whose) (started : Bool) (made : ℕ)
      (retired : Retired C O) (old new : NetSeen C O) → k < length row
      → get_or row k Free ≡ Accepted whose started made → IsHanded tells retired old new → HasAll row old
      → HasAll (set row k Free) new
  all_out tells row k whose started made retired old new below found handed all =
      let more = handed.handed in
      let given = handed.given in
      let less : sum_by is_taken (set row k Free) + 1 ≡ sum_by is_taken row + 0 =
      row_set is_taken row k (Accepted whose started made) Free below found in omega arith
