-- What a client took of the bytes of the line that are owed, write by write.
use Rattle.std.proofs.Common.{◌≡◌, ℕ, ◌+◌, ◌-◌, ◌<◌, ◌≤◌, Bool, false, List, [], ◌++◌, length, take, drop}
use Rattle.std.proofs.Common.{refl}
use Rattle.std.proofs.Common.{sym, ap, subst, ◌∙◌, arith, append_assoc}
use Rattle.std.specs.List.{slice_range}
use Rattle.std.proofs.lemmas.List.{append-nil, length-drop, length-take, take-take}
use Rattle.ts_link.specs.Link.{Look, Writes}
use Rattle.ts_link.specs.LinkAnswers.{count_put, put_again, put_failed}
use Rattle.ts_link.specs.declared.link.Put.{Put}
use Rattle.ts_link.specs.declared.link.Put.TheVariants as P
use Rattle.ts_session.specs.Kept.{close_line}
use Rattle.ts_session.specs.Writing.{PaysLine}
use Rattle.ts_session.proofs.HeldLines.{leaves_on, slice_on}
use Rattle.ts_session.proofs.LinkCalls.{replace_none}
use Rattle.ts_session.proofs.Writes.{leaves_client}

no_slice : (at : ℕ) → slice_range close_line at at ≡ []
no_slice at = let none : at - at ≡ 0 = omega arith in ap (λ k. take k (drop at close_line)) none

pub pays_nothing : (tells : Bool) (from : ℕ) (l : Look) → PaysLine tells from from l l false false
pays_nothing tells from l = record {
  ordered = omega arith;
  leaves = record {
    source = refl;
    name = refl;
    carried = refl;
    uploaded = refl;
    before = refl;
    faults = refl;
    waits = refl;
    given = λ tell. refl;
    left = λ tell. replace_none l.given l.left;
  };
  took = λ tell. sym (append-nil l.taken) ∙ ap (λ t. l.taken ++ t) (sym (no_slice from));
}

-- a front of a part of the line is a part of it
front_slice : (at to count : ℕ) → count ≤ to - at
    → take count (slice_range close_line at to) ≡ slice_range close_line at (at + count)
front_slice at to count short =
    let same : count ≡ (at + count) - at = omega arith in
    take-take count (to - at) (drop at close_line) short ∙ ap (λ k. take k (drop at close_line)) same

pub pays_more : (tells : Bool) (from at to : ℕ) (l m n : Look) (count : ℕ) → PaysLine tells from at l m false false
    → Writes tells m n (P.Took count) (slice_range close_line at to) → at < to → to < length close_line
    → PaysLine tells from (at + count) l n false false
pays_more tells from at to l m n count paid w inside within = record {
  ordered = omega (arith, paid.ordered);
  leaves = leaves_on tells l m n false false paid.leaves
      (leaves_client tells m n (P.Took count) (slice_range close_line at to) w);
  took = λ tell. (w.told tell).taken
      ∙ ap (λ t. t ++ take count (slice_range close_line at to)) (paid.took tell)
      ∙ append_assoc l.taken (slice_range close_line from at) (take count (slice_range close_line at to))
      ∙ ap (λ t. l.taken ++ (slice_range close_line from at ++ t)) (front_slice at to count short)
      ∙ ap (λ t. l.taken ++ t) (slice_on from at (at + count) paid.ordered (omega arith));
}
  where
    short : count ≤ to - at
    short = omega (
      arith,
      w.takes.1,
      length-take (to - at) (drop at close_line),
      length-drop at close_line,
    )

pub pays_none : (tells : Bool) (from at : ℕ) (l m n : Look) (answer : Put) (piece : List ℕ)
    → PaysLine tells from at l m false false → Writes tells m n answer piece → count_put answer ≡ 0
    → PaysLine tells from at l n (put_failed answer) (put_again answer)
pays_none tells from at l m n answer piece paid w none = record {
  ordered = paid.ordered;
  leaves = leaves_on tells l m n (put_failed answer) (put_again answer) paid.leaves
      (leaves_client tells m n answer piece w);
  took = λ tell. (w.told tell).taken ∙ ap (λ k. m.taken ++ take k piece) none ∙ append-nil m.taken
      ∙ paid.took tell;
}

pub pays_all : (tells : Bool) (from at to : ℕ) (l m : Look) → at ≤ to → to ≤ at
    → PaysLine tells from at l m false false → PaysLine tells from to l m false false
pays_all tells from at to l m low high paid =
    let same : at ≡ to = omega (arith, low, high) in
    subst (λ k. PaysLine tells from k l m false false) same paid
