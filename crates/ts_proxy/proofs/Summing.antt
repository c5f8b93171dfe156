-- A summary grows by what is said of one transaction more.
use Rattle.std.proofs.Common.{◌≡◌, ℕ, ◌+◌, ◌≤◌, List, [], ◌∷◌, ◌++◌, length, drop, refl, sym, ap, ◌∙◌, arith}
use Rattle.std.proofs.Common.{length-append}
use Rattle.std.proofs.Math.ListN.{drop_of_length-le}
use Rattle.ts_proxy.specs.Summary.{bodies, summary_of, whole_count, whole_once}
use Rattle.ts_proxy.specs.declared.summary.Summary.{Summary}
use Rattle.ts_record.specs.Sum.{sum_of, sum_with}
use Rattle.ts_record.specs.declared.report.ReportBlock.{ReportBlock}

-- the sum with bytes and others behind them
sum_append : (sum : ℕ) (xs ys : List ℕ) → sum_of sum (xs ++ ys) ≡ sum_of (sum_of sum xs) ys
sum_append sum [] ys = refl
sum_append sum (x ∷ xs) ys = sum_append (sum_with sum x) xs ys

-- what was counted of so many of the blocks, and what is to come of the others, are what all come to
pub record SummedBut (blocks : List ReportBlock) (i whole body sum : ℕ) : Type 0 where
  pub whole_is : whole + whole_count (drop i blocks) ≡ whole_count blocks
  pub body_is : body + length (bodies (drop i blocks)) ≡ length (bodies blocks)
  pub sum_is : sum_of sum (bodies (drop i blocks)) ≡ sum_of 0 (bodies blocks)
  pub few : whole ≤ i

-- one block more
pub summed_more : (blocks : List ReportBlock) (i whole body sum whole' body' sum' : ℕ) (b : ReportBlock)
    → drop i blocks ≡ b ∷ drop (i + 1) blocks → SummedBut blocks i whole body sum
    → whole' ≡ whole + whole_once b.end → whole_once b.end ≤ 1 → body' ≡ body + length b.content
    → sum' ≡ sum_of sum b.content → SummedBut blocks (i + 1) whole' body' sum'
summed_more blocks i whole body sum whole' body' sum' b is before counted one longer added =
    let rest = drop (i + 1) blocks in
    let counts : whole_count (drop i blocks) ≡ whole_once b.end + whole_count (drop (i + 1) blocks) =
    ap whole_count is in
    let lengths : length (bodies (drop i blocks)) ≡ length b.content + length (bodies (drop (i + 1) blocks)) =
    ap (λ bs. length (bodies bs)) is ∙ length-append b.content (bodies rest) in
    let sums : sum_of sum (bodies (drop i blocks)) ≡ sum_of (sum_of sum b.content) (bodies (drop (i + 1) blocks))
    = ap (λ bs. sum_of sum (bodies bs)) is ∙ sum_append sum b.content (bodies rest) in
    record {
      whole_is = omega (arith, before.whole_is, counts, counted);
      body_is = omega (arith, before.body_is, lengths, longer);
      sum_is = ap (λ s. sum_of s (bodies rest)) added ∙ sym sums ∙ before.sum_is;
      few = omega (arith, before.few, counted, one);
    }

-- all of them
pub summed_all : (blocks : List ReportBlock) (i whole body sum count : ℕ) → SummedBut blocks i whole body sum
    → length blocks ≤ i → count ≡ length blocks
    → ◌≡◌ {A = Summary} (record { transactions = count; whole = whole; body = body; sum = sum })
    (summary_of blocks)
summed_all blocks i whole body sum count all past is =
    let none : drop i blocks ≡ [] = drop_of_length-le blocks past in
    let counts : whole ≡ whole_count blocks = let left = ap whole_count none in omega (arith, all.whole_is, left)
    in
    let lengths : body ≡ length (bodies blocks) = let left = ap (λ bs. length (bodies bs)) none
    in omega (arith, all.body_is, left) in
    let sums : sum ≡ sum_of 0 (bodies blocks) = sym (ap (λ bs. sum_of sum (bodies bs)) none) ∙ all.sum_is in
    λ j. record { transactions = is j; whole = counts j; body = lengths j; sum = sums j }
