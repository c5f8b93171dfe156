-- How the fields of a store are seen.
use Rattle.std.specs.Prelude.{◌≡◌, ◌≤◌, length, drop}
use Rattle.ts_iobuf.specs.declared.store.Store.TheInside.{Inside}
use Rattle.ts_iobuf.specs.declared.store.TheConstants.{MOST_FULL}
use Rattle.ts_iobuf.specs.Stored.{Contents, AreFull, held, joined}

abbrev pub contents : Inside → Contents
contents s = record {
  blocks = held s.blocks.items s.start s.filled s.filling.items;
  behind = drop s.filled s.filling.items;
}

pub record StoreFits (s : Inside) : Type 0 where
  pub blocks : AreFull s.blocks.items
  pub count : s.full ≡ length (joined s.blocks.items)
  pub fits : s.full ≤ MOST_FULL
  pub start : s.start ≤ s.filled
  pub filled : s.filled ≤ length s.filling.items
