-- What is seen of a link that chooses after a call, by what is seen of the origin.
use Rattle.std.proofs.Common.{◌≡◌, ℕ, ◌+◌, ◌<◌, ◌≤◌, ◌++◌, Vec, Global, List, [], length, take, drop}
use Rattle.std.proofs.Common.{replicate, true, Bool, Option, Some, None, refl, sym, ap, subst, ◌∙◌}
use Rattle.std.proofs.Common.{append_assoc, length-append, arith}
use Rattle.std.specs.Prelude.{◌≢◌, IsSomeAnd}
use Rattle.std.proofs.lemmas.List.{append-nil, take_all, take-append-drop, drop-drop}
use Rattle.std.proofs.lemmas.Bool.{false≢true}
use Rattle.std.proofs.Math.Seq.{take-add}
use Rattle.ts_link.specs.Counts.{one_more}
use Rattle.ts_link.specs.Link.{HasLeft, IsSure, IsSurePlan, Lacks, Look, MayReplace, NoMore, Reads}
use Rattle.ts_link.specs.Link.{ReadsSurely, Writes, WritesSurely}
use Rattle.ts_link.specs.LinkAnswers.{count_got, count_put, got_again, got_failed, put_again, put_failed}
use Rattle.ts_link.specs.LinkAnswers.{writes_after}
use Rattle.ts_link.specs.declared.link.Got.{Got}
use Rattle.ts_link.specs.declared.link.Got.TheVariants as G
use Rattle.ts_link.specs.declared.link.Put.{Put}
use Rattle.ts_link.specs.declared.link.Put.TheVariants as P
use Rattle.ts_intercept.specs.Moving.{GivesFront, ReadsInside}
use Rattle.ts_intercept.specs.Seen.{agains_by, given_by, left_by, plan_told, shown}
use Rattle.ts_intercept.specs.declared.choice.Stage.{Stage}
use Rattle.ts_intercept.specs.declared.choice.Stage.TheVariants as S
use Rattle.ts_link.proofs.MemReads.{same_replaces}
use Rattle.ts_intercept.proofs.Plans.{not_left, told_same, told_stays, told_within}

-- where nothing was given, a list that is not longer may take the place of what is left
pub shorter_replaces : (given left after : List ℕ) → given ≡ [] → length after ≤ length left
    → MayReplace given left after
shorter_replaces given left after none h = subst (λ (g : List ℕ). MayReplace g left after) (sym none) h

-- a list that took its place where nothing was given is not longer
pub replaced_shorter : (given left after : List ℕ) → given ≡ [] → MayReplace given left after
    → length after ≤ length left
replaced_shorter given left after none h = subst (λ (g : List ℕ). MayReplace g left after) none h

pub no_more_same : (n : Option ℕ) → NoMore n n
no_more_same None = tt
no_more_same (Some n) = omega arith

-- nothing is not more
pub no_more_none : (n : Option ℕ) → NoMore n (Some 0)
no_more_none None = tt
no_more_none (Some n) = omega arith

module _ (stage : Stage) (most : ℕ) (kept : List ℕ) (reads writes : ℕ) (uploaded : Bool) (l : Look) where
  -- what is seen of it is sure only where the origin is
  pub sure_inside : IsSure (shown stage most kept reads writes uploaded l) → IsSure l
  sure_inside sure = subst (λ p. IsSomeAnd p IsSurePlan) (told_same IsSurePlan l.plan sure) sure

  pub reads_surely : (failed waited : Bool) → ReadsSurely l failed waited
      → ReadsSurely (shown stage most kept reads writes uploaded l) failed waited
  reads_surely failed waited h = λ sure. let inner = h (sure_inside sure) in (
    inner.0,
    λ w. subst (λ p. IsSomeAnd p (λ q. q.stalls ≢ [])) (sym (told_same IsSurePlan l.plan sure)) (inner.1 w),
  )

  pub never_left : IsSure (shown stage most kept reads writes uploaded l) → HasLeft l → ⊥
  never_left sure left = not_left l.plan (length l.taken) (told_stays IsSurePlan l.plan sure) left

  pub writes_surely : (failed waited : Bool) → WritesSurely l failed waited
      → WritesSurely (shown stage most kept reads writes uploaded l) failed waited
  writes_surely failed waited h = λ sure. let inner = h (sure_inside sure) in (
    inner.0,
    λ f. absurd (never_left sure (inner.1 f)),
  )

module _ (tells : Bool) (most : ℕ) (kept : List ℕ) (reads writes : ℕ) (uploaded : Bool) where
  -- a read that is handed on
  pub shown_on : (l l' : Look) (answer : Got) (into : List ℕ) → ReadsInside tells l l' answer into
      → Reads tells (shown S.HandedOn most kept reads writes uploaded l)
      (shown S.HandedOn most kept (one_more reads) writes uploaded l') answer into
  shown_on l l' answer into h = record {
    fills = h.fills;
    once = record { reads = refl; writes = refl };
    calls = record {
      source = h.calls.source;
      name = h.calls.name;
      plan = ap plan_told h.calls.plan;
      carried = h.calls.carried;
      uploaded = refl;
      before = h.calls.before;
      faults = h.calls.faults;
      waits = h.calls.waits;
      agains = h.calls.agains;
    };
    sure = reads_surely S.HandedOn most kept reads writes uploaded l (got_failed answer) (got_again answer)
        h.sure;
    told = λ t. let more = h.told t in record {
      before = more.before;
      replaced = more.replaced;
      moved = more.moved;
      given = more.given;
      taken = ap (λ x. x ++ kept) more.taken;
    };
    ends = h.ends;
  }

  -- the same where it was open who answers
  pub shown_early : (l l' : Look) (answer : Got) (into : List ℕ) → (tells ≡ true → l.given ≡ [])
      → ReadsInside tells l l' answer into
      → Reads tells (shown S.Undecided most kept reads writes uploaded l)
      (shown S.HandedOn most kept (one_more reads) writes uploaded l') answer into
  shown_early l l' answer into none h = record {
    fills = h.fills;
    once = record { reads = refl; writes = refl };
    calls = record {
      source = h.calls.source;
      name = h.calls.name;
      plan = ap plan_told h.calls.plan;
      carried = h.calls.carried;
      uploaded = refl;
      before = h.calls.before;
      faults = h.calls.faults;
      waits = h.calls.waits;
      agains = h.calls.agains;
    };
    sure = reads_surely S.Undecided most kept reads writes uploaded l (got_failed answer) (got_again answer)
        h.sure;
    told = λ t. let more = h.told t in record {
      before = more.before;
      replaced = shorter_replaces l.given (replicate most 0 ++ l.left) more.before (none t)
          (let few = replaced_shorter l.given l.left more.before (none t) more.replaced in
          omega (arith, few, length-append (replicate most 0) l.left));
      moved = more.moved;
      given = more.given;
      taken = ap (λ x. x ++ kept) more.taken;
    };
    ends = h.ends;
  }

  -- a read of an answer
  pub shown_served : (l : Look) (text : Vec ℕ Global) (given given' : ℕ) (answer : Got) (into : List ℕ)
      → GivesFront answer (drop given text.items) into → given' ≡ given + count_got answer
      → Reads tells (shown (S.Served text given) most kept reads writes uploaded l)
      (shown (S.Served text given') most kept (one_more reads) writes uploaded l) answer into
  shown_served l text given given' (G.Bytes n) into (count, some, front) is = record {
    fills = (some, omega (arith, count));
    once = record { reads = refl; writes = refl };
    calls = record {
      source = refl;
      name = refl;
      plan = refl;
      carried = refl;
      uploaded = refl;
      before = refl;
      faults = refl;
      waits = refl;
      agains = omega arith;
    };
    sure = λ sure. (refl, λ failed. absurd (false≢true failed));
    told = λ t. record {
      before = drop given text.items;
      replaced = same_replaces (l.given ++ take given text.items) (drop given text.items);
      moved = sym (take-append-drop n (drop given text.items))
          ∙ ap (λ x. x ++ drop n (drop given text.items)) (sym front)
          ∙ ap (λ x. take n into ++ x) (drop-drop n given text.items ∙ ap (λ k. drop k text.items) (sym is));
      given = ap (λ x. l.given ++ x) (ap (λ k. take k text.items) is ∙ take-add given n text.items
          ∙ ap (λ x. take given text.items ++ x) (sym front))
          ∙ sym (append_assoc l.given (take given text.items) (take n into));
      taken = refl;
    };
    ends = λ t. tt;
  }
  shown_served l text given given' G.End into none is =
      let same : given' ≡ given = omega (arith, is) in
      record {
        fills = tt;
        once = record { reads = refl; writes = refl };
        calls = record {
          source = refl;
          name = refl;
          plan = refl;
          carried = refl;
          uploaded = refl;
          before = refl;
          faults = refl;
          waits = refl;
          agains = omega arith;
        };
        sure = λ sure. (refl, λ failed. absurd (false≢true failed));
        told = λ t. record {
          before = drop given text.items;
          replaced = same_replaces (l.given ++ take given text.items) (drop given text.items);
          moved = ap (λ k. drop k text.items) (sym same);
          given = ap (λ k. l.given ++ take k text.items) same
              ∙ sym (append-nil (l.given ++ take given text.items));
          taken = refl;
        };
        ends = λ t. ap (λ k. drop k text.items) same ∙ none;
      }
  shown_served l text given given' G.Again into none is = absurd none
  shown_served l text given given' G.Failed into none is = absurd none

  -- A write that is taken whole and not handed on. Who answers may be known behind it.
  pub shown_taken : (l : Look) (stage after : Stage) (kept' piece : List ℕ) → 0 < length piece
      → kept' ≡ kept ++ piece
      → (tells ≡ true → given_by after l.given ≡ given_by stage l.given)
      → (tells ≡ true → MayReplace (given_by stage l.given) (left_by stage most l.left)
      (left_by after most l.left))
      → NoMore (agains_by stage l.agains) (agains_by after l.agains)
      → Writes tells (shown stage most kept reads writes uploaded l)
      (shown after most kept' reads (one_more writes) uploaded l) (P.Took (length piece)) piece
  shown_taken l stage after kept' piece some is given left agains = record {
    takes = (some, omega arith);
    once = record { reads = refl; writes = refl };
    calls = record {
      source = refl;
      name = refl;
      plan = refl;
      carried = refl;
      uploaded = refl;
      before = refl;
      faults = refl;
      waits = refl;
      agains = agains;
    };
    sure = λ sure. (refl, λ failed. absurd (false≢true failed));
    lacks = tt;
    told = λ t. record {
      taken = ap (λ x. l.taken ++ x) (is ∙ ap (λ x. kept ++ x)
          (sym (take_all (length piece) piece (omega arith))))
          ∙ sym (append_assoc l.taken kept (take (length piece) piece));
      within = λ w. told_within (l.taken ++ kept') l.plan;
      given = given t;
      left = left t;
    };
  }

  lacks_on : (l l' : Look) (answer : Put) → Lacks answer l l'
      → Lacks answer (shown S.HandedOn most kept reads writes uploaded l)
      (shown S.HandedOn most kept reads (writes_after answer writes) uploaded l')
  lacks_on l l' P.NoMemory h = ap (λ (x : Look). shown S.HandedOn most kept reads writes uploaded x) h
  lacks_on l l' (P.Took n) h = tt
  lacks_on l l' P.Again h = tt
  lacks_on l l' P.Failed h = tt

  -- a write that is handed on, where nothing is held
  pub shown_write : (l l' : Look) (answer : Put) (piece : List ℕ) → kept ≡ [] → Writes tells l l' answer piece
      → Writes tells (shown S.HandedOn most kept reads writes uploaded l)
      (shown S.HandedOn most kept reads (writes_after answer writes) uploaded l') answer piece
  shown_write l l' answer piece none h = record {
    takes = h.takes;
    once = record { reads = refl; writes = refl };
    calls = record {
      source = h.calls.source;
      name = h.calls.name;
      plan = ap plan_told h.calls.plan;
      carried = h.calls.carried;
      uploaded = refl;
      before = h.calls.before;
      faults = h.calls.faults;
      waits = h.calls.waits;
      agains = h.calls.agains;
    };
    sure = writes_surely S.HandedOn most kept reads writes uploaded l (put_failed answer) (put_again answer)
        h.sure;
    lacks = lacks_on l l' answer h.lacks;
    told = λ t. let more = h.told t in record {
      taken = ap (λ x. x ++ kept) more.taken ∙ append_assoc l.taken (take (count_put answer) piece) kept
          ∙ ap (λ x. l.taken ++ (take (count_put answer) piece ++ x)) none
          ∙ ap (λ x. l.taken ++ x) (append-nil (take (count_put answer) piece))
          ∙ ap (λ x. x ++ take (count_put answer) piece)
          (sym (append-nil l.taken) ∙ ap (λ x. l.taken ++ x) (sym none));
      within = λ w. told_within (l'.taken ++ kept) l'.plan;
      given = more.given;
      left = more.left;
    };
  }
