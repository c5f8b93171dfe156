use Rattle.std.proofs.Common.{◌≡◌, length, true}
use Rattle.ts_group.specs.Entries.{Grows}
use Rattle.ts_group.specs.Changes.{SameEvents, KeepsKeys}
use Rattle.ts_transform.specs.Driving.{AreOfStages, EachIsLive}
use Rattle.ts_transform.proofs.start.make_all.Given as goal

-- a continuation stands for each stage before the place
abbrev pub invariant-loop-at : goal.invariant-loop-at
invariant-loop-at l = record {
  grows : Grows l.initial.cx l.cx;
  turn : l.cx.log.state.held ≡ true;
  events : SameEvents l.initial.cx.log.state l.cx.log.state;
  keys : KeepsKeys l.initial.cx.log.state l.cx.log.state l.initial.cx.roles l.cx.roles;
  len : length l.table.items ≡ l.at;
  of_stages : AreOfStages l.cx.log.state.pending l.cx.roles l.first l.table.items;
  each : EachIsLive l.cx.log.state.live l.table.items;
}
