-- What a stock transform shows, as one value.
use Rattle.ts_config.specs.Bodies.{so_far_of, whole_of}
use Rattle.ts_config.specs.declared.setup.TransformLine.{TransformLine}
use Rattle.ts_stock.specs.Stock.{pause_of, pause_of_line, soon_writes, still_writes}
use Rattle.ts_stock.specs.declared.stock.State.{State}
use Rattle.ts_transform.specs.declared.transform.Transform as transform

-- what it still writes, what it has written of what came so far, what its line makes of a body, and how long
-- either pauses
abbrev pub stock_transform : transform.Ghosts State TransformLine
stock_transform = record {
  rest = still_writes;
  soon = soon_writes;
  line_soon = so_far_of;
  whole = whole_of;
  pause = pause_of;
  line_pause = pause_of_line;
}
