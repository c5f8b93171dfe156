-- So far no role that was passed is of the index.
use Rattle.std.proofs.Common.{◌≡◌, drop}
use Rattle.ts_group.specs.Context.{role_at}
use Rattle.ts_group.proofs.keys.role_of.Given as goal

abbrev pub invariant-loop-role : goal.invariant-loop-role
invariant-loop-role l = role_at l.index (drop l.role-index l.roles) ≡ role_at l.index l.roles
