-- The line that says where a body ends is short.
use Rattle.std.proofs.Common.{ℕ, zero, suc, ◌+◌, ◌≤◌, ◌/◌, ◌%◌, false, List, [], ◌∷◌, ◌++◌, length, arith, length-append}
use Rattle.std.specs.Prelude.{◌==◌, codes, decimal}
use Rattle.std.specs.Fmt.{digit_glyph, digits, digits_onto}
use Rattle.ts_lists.proofs.Sizes.{chosen_within}
use Rattle.httparse.specs.Ascii.{crlf_bytes}
use Rattle.ts_wire.specs.Limits.{framing_limit}
use Rattle.ts_wire.specs.Printed.{framing_line}
use Rattle.ts_wire.specs.declared.printed.ClientFraming.{ClientFraming}
use Rattle.ts_wire.specs.declared.printed.ClientFraming.TheVariants.{Sized}

onto_short : (k n : ℕ) (acc : List ℕ) → length (digits_onto k 10 false n acc) ≤ k + length acc
onto_short zero n acc = omega arith
onto_short (suc k) n acc =
    let more = digit_glyph false (n % 10) ∷ acc in
    let rest : length (digits_onto k 10 false (n / 10) more) ≤ k + length more = onto_short k (n / 10) more in
    chosen_within (n / 10 == 0) more (digits_onto k 10 false (n / 10) more) (suc k + length acc) (omega arith)
    (omega (arith, rest))

-- a number in decimal has at most 64 digits
decimal_short : (n : ℕ) → length (decimal n) ≤ 64
unfolding digits
decimal_short n = let all : length (digits_onto 64 10 false n []) ≤ 64 + 0 =
    onto_short 64 n [] in omega (arith, all)

pub framing_short : (f : ClientFraming) → length (framing_line f) ≤ framing_limit
framing_short (Sized n) = omega (
  arith,
  decimal_short n,
  length-append
      (codes "content-length: " ++ decimal n) crlf_bytes,
  length-append (codes "content-length: ") (decimal n),
)
framing_short _ = omega arith
