-- What a limit is fed from a buffer.
use Rattle.std.proofs.Common.{◌≡◌, List, ℕ, take, sym, ◌∙◌, subst}
use Rattle.std.specs.Prelude.{IfOk}
use Rattle.ts_iobuf.specs.Buffer.{readable}
use Rattle.ts_transform.specs.Law.{Feeds}
use Rattle.ts_stock.specs.Stock.{still_writes}
use Rattle.ts_stock.specs.declared.stock.State.TheVariants as s
use Rattle.ts_stock.proofs.Limits.{limit_feeds_from}
use Rattle.ts_stock.proofs.stock.StockTransform.feed_from.Goals as goal

pub returns-in-Limiting-clause-law : goal.returns-in-Limiting-clause-law
returns-in-Limiting-clause-law c =
    let given = c.pass_on_from.ensures in
    let is : c.args.self.now ≡ s.Limiting c.in-Limiting.left = sym c.self.view_is ∙ c.in-Limiting.is in
    let bytes : List ℕ = readable c.args.input.now c.args.reader in
    subst (λ state. IfOk c.pass_on_from.result (λ n. Feeds (still_writes state) (take c.pass_on_from.new.left)
    (take n bytes) c.args.out.now c.pass_on_from.new.out)) (sym is)
    (limit_feeds_from c.in-Limiting.left c.pass_on_from.new.left c.args.most bytes c.args.out.now
    c.pass_on_from.new.out c.pass_on_from.result given.count given.left given.grows)
