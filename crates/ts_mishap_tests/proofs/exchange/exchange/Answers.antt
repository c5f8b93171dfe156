-- New links in memory belong together, and tell what they hold.
use Rattle.std.proofs.Common.{refl}
use Rattle.ts_txn.proofs.Made.{any_paired}
use Rattle.ts_txn.proofs.Telling.{mem_tells}
use Rattle.ts_stock.specs.StockTransform.{stock_transform}
use Rattle.ts_upstream.specs.InMemory.{memory_link, memory_origin}
use Rattle.ts_mishap_tests.proofs.exchange.exchange.Goals as goal

pub begin-requires-clause-ends : goal.begin-requires-clause-ends
begin-requires-clause-ends c = record {
  unused = λ told. c.requires.client;
  unused_origin = λ told. c.requires.origin;
  paired = any_paired c.args.client c.args.origin;
}

pub drive-requires-clause-tells : goal.drive-requires-clause-tells
drive-requires-clause-tells c =
    mem_tells memory_link memory_link memory_origin stock_transform
    (record { told = refl; also = refl; client_look = refl; origin_look = refl; uploads = refl })
