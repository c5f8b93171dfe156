use Rattle.std.proofs.Common.{◌≡◌, ℕ, List, drop}
use Rattle.ts_transform.specs.Flow.{compose}
use Rattle.ts_config.specs.Bodies.{compose_lines}
use Rattle.ts_stock.specs.Stock.{still_writes}
use Rattle.ts_proxy.proofs.transform.fresh_parts.Given as goal

-- the parts that were made, and then the lines that are left, compose as all lines do
abbrev pub invariant-loop-line : goal.invariant-loop-line
invariant-loop-line l =
    (z : List ℕ) → compose_lines (drop l.line-index l.lines) (compose still_writes l.parts.items z) ≡
    compose_lines l.lines z
