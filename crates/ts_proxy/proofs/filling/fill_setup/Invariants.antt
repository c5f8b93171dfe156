use Rattle.std.proofs.Common.{◌≡◌, ◌-◌, ◌≤◌, length, drop, true}
use Rattle.ts_config.specs.Setup.{lines_of}
use Rattle.ts_proxy.specs.Answers.{KeepsLines}
use Rattle.ts_proxy.proofs.FilledLines.{FillsBut}
use Rattle.ts_proxy.proofs.filling.fill_setup.Given as goal

-- the lines at all places but those that are left were filled, and no count rose
abbrev pub invariant-loop-k : goal.invariant-loop-k
invariant-loop-k g l = record {
  told : g.S.Shelf.tells ≡ true
      → FillsBut (g.S.Shelf.seen l.initial.shelf).file l.initial.setup.files.items (lines_of l.initial.setup)
      (drop l.k l.initial.setup.files.items) (lines_of l.setup);
  lines : KeepsLines l.initial.setup l.setup;
  within : l.k ≤ length l.initial.setup.files.items;
  files : g.S.Shelf.tells ≡ true → (g.S.Shelf.seen l.shelf).file ≡ (g.S.Shelf.seen l.initial.shelf).file;
  faults : (g.S.Shelf.seen l.shelf).faults ≡ (g.S.Shelf.seen l.initial.shelf).faults;
  longs : (g.S.Shelf.seen l.shelf).longs ≡ (g.S.Shelf.seen l.initial.shelf).longs;
}

abbrev pub decreases-loop-k : goal.decreases-loop-k
decreases-loop-k g l = length l.initial.setup.files.items - l.k
