-- The room in which a front holds bytes, as its parts change.
use Rattle.std.proofs.Common.{◌≡◌, ℕ, ◌+◌, ◌-◌, ◌≤◌, List, [], ◌++◌, length, take, drop, sym, ap, subst, ◌∙◌}
use Rattle.std.proofs.Common.{arith, length-append}
use Rattle.std.specs.List.{slice_range}
use Rattle.std.proofs.lemmas.List.{drop-drop, drop-take, length-take, take-take, take_at}
use Rattle.std.proofs.Math.Seq.{take-append-add}
use Rattle.httparse.specs.Grammar as grammar
use Rattle.httparse.specs.Grammar.{print_request}
use Rattle.ts_wire.specs.declared.framing.Framing.{Framing}
use Rattle.ts_request.specs.Finding.{IsFound}
use Rattle.ts_request.specs.Lines.{kept_lines}
use Rattle.ts_request.specs.Upload.{HasUpload, without_body}
use Rattle.ts_request.specs.declared.finding.Found.TheVariants as F
use Rattle.ts_request.proofs.HeadLines.{strips_head}

-- a part of a list without its first bytes
pub drop_slice : (xs : List ℕ) (from to n : ℕ) → n ≤ to - from
    → drop n (slice_range xs from to) ≡ slice_range xs (from + n) to
drop_slice xs from to n within =
    let long : to - from ≡ n + (to - (from + n)) = omega arith in
    ap (λ k. drop n (take k (drop from xs))) long ∙ drop-take n (to - (from + n)) (drop from xs)
    ∙ ap (take (to - (from + n))) (drop-drop n from xs)

-- a part that has no length
pub no_slice : (xs : List ℕ) (n : ℕ) → slice_range xs n n ≡ []
no_slice xs n =
    let none : n - n ≡ 0 = omega arith in ap (λ k. take k (drop n xs)) none

-- a front with so many bytes behind it that came
pub front_more : (room into : List ℕ) (kept n : ℕ) → kept ≤ length room
    → take (kept + n) (take kept room ++ into) ≡ take kept room ++ take n into
front_more room into kept n within =
    let long : kept ≡ length (take kept room) = omega (arith, length-take kept room) in
    ap (λ k. take (k + n) (take kept room ++ into)) long ∙ take-append-add (take kept room) into n

-- the head of an upload is stripped in its room, and what came with it stays behind it
pub stripped : (room new : List ℕ) (kept used short : ℕ) (framing : Framing) → kept ≤ length room
    → IsFound (take kept room) (F.Upload framing used) → take short new ≡ kept_lines (take used room)
    → drop used new ≡ drop used room
    → (h : grammar.RequestHead) × HasUpload (take kept room) h framing (slice_range new used kept)
    × (take short new ≡ print_request (without_body h)) × (used ≡ length (print_request h))
stripped room new kept used short framing within (h, has, long) front behind = (
  h,
  subst (HasUpload (take kept room) h framing) (sym rest) has,
  front ∙ ap kept_lines head ∙ strips_head h has.begins.reads.0,
  long,
)
  where
    parts : take kept room ≡ print_request h ++ drop used (take kept room)
    parts = has.begins.reads.1

    fits : used ≤ kept
    fits = omega (
      arith,
      ap length parts,
      length-append (print_request h) (drop used (take kept room)),
      length-take kept room,
      long,
    )

    head : take used room ≡ print_request h
    head =
        sym (take-take used kept room fits) ∙ ap (take used) parts
        ∙ take_at (print_request h) (drop used (take kept room)) used (sym long)

    rest : slice_range new used kept ≡ drop used (take kept room)
    rest =
        let n : kept ≡ used + (kept - used) = omega (arith, fits) in
        ap (take (kept - used)) behind ∙ sym (drop-take used (kept - used) room)
        ∙ ap (λ k. drop used (take k room)) (sym n)

-- its head is no longer than what came
pub found_fits : (bytes : List ℕ) (framing : Framing) (used : ℕ) → IsFound bytes (F.Upload framing used)
    → used ≤ length bytes
found_fits bytes framing used (h, has, long) =
    omega (arith, ap length has.begins.reads.1, length-append (print_request h) (drop used bytes), long)
