use Rattle.std.proofs.Common.{◌≡◌, true, false, subst, IsTrue}
use Rattle.ts_transform.proofs.Covering.{driven_kept, awake_unless_full}
use Rattle.ts_transform.proofs.world.ChainWorld.mark.Goals as goal

pub returns-then-not-is_last_full-clause-driven : goal.returns-then-not-is_last_full-clause-driven
returns-then-not-is_last_full-clause-driven g c = λ a b keeps none. driven_kept 1 a b
    c.args.self.now.driven.chain c.args.self.now.driven.table.items keeps

pub returns-then-not-is_last_full-clause-awake : goal.returns-then-not-is_last_full-clause-awake
returns-then-not-is_last_full-clause-awake g c = λ len. awake_unless_full c.args.self.now.driven.chain
    c.args.self.now.driven.table.items (λ full. let wrong : false ≡ true = subst IsTrue
    c.if-not-is_last_full.true (c.is_last_full.ensures.1 full) in cc)
