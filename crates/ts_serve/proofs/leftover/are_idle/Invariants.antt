-- So far no event is pending, but in groups whose handlers may wait.
use Rattle.std.proofs.Common.{All, take}
use Rattle.ts_serve.specs.Leftover.{IsIdleOrWaits}
use Rattle.ts_serve.proofs.leftover.are_idle.Given as goal

abbrev pub invariant-loop-group : goal.invariant-loop-group
invariant-loop-group g l = All (IsIdleOrWaits g.W.Handler.may_wait) (take l.group-index l.groups)
