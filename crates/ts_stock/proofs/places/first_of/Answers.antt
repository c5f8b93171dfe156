use Rattle.std.proofs.Common.{arith, w64}
use Rattle.std.proofs.lemmas.Nat.Bits.{bit_at-trailing_zeros}
use Rattle.ts_stock.proofs.places.first_of.Goals as goal

pub returns : goal.returns
returns c =
    let lowest = bit_at-trailing_zeros w64 c.args.places (omega (arith, c.requires)) c.ranges.places.fits in
    record {
      within = lowest.0;
      there = lowest.1;
      first = λ k below set. omega (arith, set, lowest.2 k below);
    }
