-- What a limit is fed.
use Rattle.std.proofs.Common.{◌≡◌, ℕ, ◌-◌, List, length, take, sym, ◌∙◌, subst}
use Rattle.std.proofs.Math.Seq.{take-length}
use Rattle.ts_transform.specs.Law.{Feeds}
use Rattle.ts_stock.specs.Stock.{still_writes}
use Rattle.ts_stock.specs.declared.stock.State.TheVariants as s
use Rattle.ts_stock.proofs.Limits.{limit_feeds}
use Rattle.ts_stock.proofs.stock.StockTransform.feed.Goals as goal

pub returns-in_ok-pass_on-in-Limiting-clause-law : goal.returns-in_ok-pass_on-in-Limiting-clause-law
returns-in_ok-pass_on-in-Limiting-clause-law c =
    let left : ℕ = c.in-Limiting.left in
    let input : List ℕ = c.args.input.now in
    let given = c.in_ok-pass_on-in-Limiting.ensures in
    let is : c.args.self.now ≡ s.Limiting left = sym c.self.view_is ∙ c.in-Limiting.is in
    let all : take (length input) input ≡ input = take-length input in
    let feeds : Feeds (take left) (take (left - length input)) input c.args.out.now c.pass_on.new.out =
    limit_feeds left input c.args.out.now c.pass_on.new.out given.grows in
    subst (λ state. Feeds (still_writes state) (take c.pass_on.new.left) (take (length input) input)
    c.args.out.now c.pass_on.new.out) (sym is)
    (subst (λ n. Feeds (take left) (take n) (take (length input) input) c.args.out.now c.pass_on.new.out)
    (sym given.left)
    (subst (λ xs. Feeds (take left) (take (left - length input)) xs c.args.out.now c.pass_on.new.out)
    (sym all) feeds))
