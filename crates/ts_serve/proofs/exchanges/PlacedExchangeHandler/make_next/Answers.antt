-- One that is made for a client that goes on is made as one for a client that came.
use Rattle.std.proofs.Common.{◌∙◌}
use Rattle.std.proofs.lemmas.Result.{IfOk-weaker}
use Rattle.ts_serve.proofs.Ending.{came_with, next_first}
use Rattle.ts_serve.proofs.exchanges.PlacedExchangeHandler.make_next.Goals as goal

pub make-requires-clause-arrival : goal.make-requires-clause-arrival
make-requires-clause-arrival g c = came_with g.C.Link g.O.Link g.O.Upstream c.args.next.number c.args.next.client
    c.args.origin c.requires.next.3.came c.requires.origin

pub returns-clause-whose : goal.returns-clause-whose
returns-clause-whose g c = IfOk-weaker c.make.result _ _
    (λ exchange is terms noted comes. is ∙ next_first noted c.args.next.number _ comes.first comes.number_is)
    c.make.ensures.whose

pub returns-clause-lives : goal.returns-clause-lives
returns-clause-lives g c = IfOk-weaker c.make.result _ _
    (λ exchange lives terms noted are comes. lives terms are) c.make.ensures.lives

pub returns-clause-behind : goal.returns-clause-behind
returns-clause-behind g c = IfOk-weaker c.make.result _ _
    (λ exchange lives terms notes noted are comes. lives terms are) c.make.ensures.first
