-- So far no role is of the index.
use Rattle.std.proofs.Common.{◌≡◌, ◌++◌, take, drop}
use Rattle.ts_group.specs.Context.{without_role}
use Rattle.ts_group.proofs.keys.find_role.Given as goal

abbrev pub invariant-loop-i : goal.invariant-loop-i
invariant-loop-i l = take l.i l.roles ++ without_role l.index (drop l.i l.roles) ≡ without_role l.index
    l.roles
