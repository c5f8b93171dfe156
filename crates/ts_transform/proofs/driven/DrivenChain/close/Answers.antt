-- Whoever is left has the events that are pending.
use Rattle.std.proofs.Common.{subst}
use Rattle.ts_transform.specs.Destroying.{Clears}
use Rattle.ts_transform.proofs.Seats.{seated_cleared}
use Rattle.ts_transform.proofs.driven.DrivenChain.close.Goals as goal

pub returns-clause-seated : goal.returns-clause-seated
returns-clause-seated g c = λ ts seated.
    seated_cleared ts c.args.self.now.table.items c.args.cx.now c.destroy_all.new.cx
    (subst (λ us. Clears us c.args.cx.now c.destroy_all.new.cx) c.as_slice.ensures.value
    c.destroy_all.ensures.clears) seated
