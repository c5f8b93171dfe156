-- What a write of a link in memory shows of it as a link.
use Rattle.std.proofs.Common.{◌≡◌, ℕ, zero, suc, ◌+◌, ◌<◌, ◌≤◌, ◌++◌, min, List, length, take, true, Option, Some, None, refl, sym, ap, subst, ◌∙◌, arith}
use Rattle.std.specs.Prelude.{IfSome}
use Rattle.std.specs.Option.{option_map}
use Rattle.std.proofs.lemmas.List.{append-nil, length-append, length-take-le}
use Rattle.ts_link.specs.Counts.{greatest}
use Rattle.ts_link.specs.Inputs.{bytes_of, given_of}
use Rattle.ts_link.specs.Link.{IsSure, Writes}
use Rattle.ts_link.specs.MemLink.{LinkState, IsPut, look_of, plan_of, at_most, less, taken_of_piece, write_by, write_answer, after_write}
use Rattle.ts_link.specs.Numbered.{mishap_at, is_listed}
use Rattle.ts_link.specs.declared.link.Put.{Put}
use Rattle.ts_link.specs.declared.link.Put.TheVariants as P
use Rattle.ts_link.specs.declared.numbered.Mishap.{Mishap}
use Rattle.ts_link.specs.declared.numbered.Mishap.TheVariants.{Nothing, Fails, Waits}
use Rattle.ts_link.proofs.CallNumbers.{waits_fall, waits_listed, no_mishap, waits_by}
use Rattle.ts_link.proofs.MemReads.{same_replaces}

-- the place after which it leaves stays, as it takes
leave_stays : (m : Option ℕ) (taken more : List ℕ) (n : ℕ) → length more ≡ n → IfSome m (λ k. n ≤ k)
    → option_map (λ k. length (taken ++ more) + k) (less n m) ≡ option_map (λ k. length taken + k) m
leave_stays None taken more n e h = refl
leave_stays (Some k) taken more n e h = ap Some (omega (arith, length-append taken more))

-- it takes no more than it may
within_most : (m : Option ℕ) (n : ℕ) → IfSome m (λ k. at_most m n ≤ k)
within_most None n = tt
within_most (Some k) n = omega arith

at_most-le : (m : Option ℕ) (n : ℕ) → at_most m n ≤ n
at_most-le None n = omega arith
at_most-le (Some k) n = omega arith

-- it takes none of a piece only where it has left
none_left : (m : Option ℕ) (n taken : ℕ) → 0 < n → at_most m n ≡ 0
    → option_map (λ k. taken + k) m ≡ Some taken
none_left None n taken h e = let no_way : ⊥ = omega arith in absurd no_way
none_left (Some k) n taken h e = ap Some (omega arith)

-- what it may take in all stands above what it took
within_leave : (m : Option ℕ) (taken : ℕ) → IfSome (option_map (λ k. taken + k) m) (λ all. taken ≤ all)
within_leave None taken = tt
within_leave (Some k) taken = omega arith

sure_write : (s : LinkState) → IsSure (look_of s) → mishap_at s.writes ≡ Nothing
sure_write s h = no_mishap s.writes h.fail_writes h.again_writes

-- a write that fails does so by its number, or it has left
failed_by : (m : Mishap) (n : ℕ) → IsPut P.Failed (write_by m n) → m ≡ Nothing → n ≡ 0
failed_by Nothing zero h e = refl
failed_by Nothing (suc n) h e = let none : ⊥ = cc in absurd none
failed_by Fails n h e = let none : ⊥ = cc in absurd none
failed_by Waits n h e = let none : ⊥ = cc in absurd none

again_by : (m : Mishap) (n : ℕ) → IsPut P.Again (write_by m n) → m ≡ Waits
again_by Nothing zero h = let none : ⊥ = cc in absurd none
again_by Nothing (suc n) h = let none : ⊥ = cc in absurd none
again_by Fails n h = let none : ⊥ = cc in absurd none
again_by Waits n h = refl

took_by : (m : Mishap) (n k : ℕ) → IsPut (P.Took k) (write_by m n) → (1 ≤ k) × (k ≡ n)
took_by Nothing zero k h = let none : ⊥ = cc in absurd none
took_by Nothing (suc n) k h = let same : k ≡ suc n = cc in (omega arith, same)
took_by Fails n k h = let none : ⊥ = cc in absurd none
took_by Waits n k h = let none : ⊥ = cc in absurd none

-- what a write of a link in memory shows
pub writes_right : (s : LinkState) (piece : List ℕ) (answer : Put) → 1 ≤ s.most → 0 < length piece
    → IsPut answer (write_answer s (length piece))
    → s.writes.made ≤ greatest → s.faults ≤ greatest → s.waits ≤ greatest
    → Writes true (look_of s) (look_of (after_write s piece answer)) answer piece
writes_right s piece (P.Took n) most some h calls faults waits =
    let known = took_by (mishap_at s.writes) (taken_of_piece s (length piece)) n h in
    let one : 1 ≤ n = known.0 in
    let is : n ≡ taken_of_piece s (length piece) = known.1 in
    let small : n ≤ length piece = omega (arith, at_most-le s.may_take (min s.most (length piece))) in
    let long : length (take n piece) ≡ n = length-take-le n piece small in
    let may : IfSome s.may_take (λ k. n ≤ k) = subst (λ i. IfSome s.may_take (λ k. i ≤ k)) (sym is)
    (within_most s.may_take (min s.most (length piece))) in
    let stays = leave_stays s.may_take s.taken (take n piece) n long may in
    record {
      takes = (one, small);
      once = record { reads = refl; writes = refl };
      calls = record {
        source = refl;
        name = refl;
        plan = ap (λ (leave : Option ℕ). Some (record (plan_of s) { leave = leave })) stays;
        carried = refl;
        uploaded = refl;
        before = refl;
        faults = refl;
        waits = refl;
        agains = omega (arith, waits_fall s.writes calls);
      };
      sure = λ h. (refl, λ e. let none : ⊥ = cc in absurd none);
      lacks = tt;
      told = λ _. record {
        taken = refl;
        within = λ _. within_leave (less n s.may_take) (length (s.taken ++ take n piece));
        given = refl;
        left = same_replaces (given_of s.input) (bytes_of s.input.ahead);
      };
    }
writes_right s piece P.Again most some h calls faults waits =
    let is : mishap_at s.writes ≡ Waits = again_by (mishap_at s.writes) (taken_of_piece s (length piece)) h in
    let listed : is_listed s.writes.made s.writes.again ≡ true = waits_by
    (is_listed s.writes.made s.writes.fail) (is_listed s.writes.made s.writes.again) is in
    record {
      takes = tt;
      once = record { reads = refl; writes = refl };
      calls = record {
        source = refl;
        name = refl;
        plan = refl;
        carried = refl;
        uploaded = refl;
        before = refl;
        faults = refl;
        waits = omega arith;
        agains = omega (arith, waits_listed s.writes calls listed);
      };
      sure = λ h. let known : Waits ≡ Nothing = sym is ∙ sure_write s h in let none : ⊥ = cc in absurd none;
      lacks = tt;
      told = λ _. record {
        taken = sym (append-nil s.taken);
        within = λ w. w;
        given = refl;
        left =
            same_replaces (given_of s.input) (bytes_of s.input.ahead);
      };
    }
writes_right s piece P.Failed most some h calls faults waits = record {
  takes = tt;
  once = record { reads = refl; writes = refl };
  calls = record {
    source = refl;
    name = refl;
    plan = refl;
    carried = refl;
    uploaded = refl;
    before = refl;
    faults = omega arith;
    waits = refl;
    agains = omega (arith, waits_fall s.writes calls);
  };
  sure = λ sure. (
    refl,
    λ e. none_left s.may_take (min s.most (length piece)) (length s.taken) (omega arith)
        (failed_by (mishap_at s.writes) (taken_of_piece s (length piece)) h (sure_write s sure)),
  );
  lacks = tt;
  told = λ _. record {
    taken = sym (append-nil s.taken);
    within = λ w. w;
    given = refl;
    left = same_replaces
        (given_of s.input) (bytes_of s.input.ahead);
  };
}
writes_right s piece P.NoMemory most some h calls faults waits = record {
  takes = tt;
  once = record { reads = refl; writes = refl };
  calls = record {
    source = refl;
    name = refl;
    plan = refl;
    carried = refl;
    uploaded = refl;
    before = refl;
    faults = refl;
    waits = refl;
    agains = omega arith;
  };
  sure = λ h. (refl, λ e. let none : ⊥ = cc in absurd none);
  lacks = refl;
  told = λ _. record {
    taken = sym (append-nil s.taken);
    within = λ w. w;
    given = refl;
    left = same_replaces
        (given_of s.input) (bytes_of s.input.ahead);
  };
}
