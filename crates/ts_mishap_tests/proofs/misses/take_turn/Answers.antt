-- The groups in the slots can ask each other.
use Rattle.ts_slot.specs.Words.{tags_of}
use Rattle.ts_stock.specs.StockTransform.{stock_transform}
use Rattle.ts_upstream.specs.InMemory.{memory_link, memory_origin}
use Rattle.ts_mishap_tests.proofs.Rows.{row_can_ask}
use Rattle.ts_mishap_tests.proofs.misses.take_turn.Goals as goal

pub turn-requires : goal.turn-requires
turn-requires g c = record {
  asks = row_can_ask memory_link memory_link memory_origin stock_transform
      (tags_of c.args.thread.now.slots.now) c.requires;
}
