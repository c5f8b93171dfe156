use Rattle.ts_slot.specs.Words.{tags_of, view, IsSeatOf}
use Rattle.ts_serve.specs.Acceptor.{HasPlacesOf, IsAcceptorOf, KeepsAcceptor, KeepsSome, LosesNobody}
use Rattle.ts_serve.proofs.steps.step_all.Given as goal

abbrev pub invariant-places : goal.invariant-places
invariant-places g l =
    IsSeatOf l.slots l.seat × KeepsSome (view l.initial.seat) (view l.seat)
    × IsAcceptorOf l.acceptor (g.N.ClientSource.seen l.net)
    × KeepsAcceptor g.W.Slotted.fits g.W.Tenant.keeps g.P.Slotted.fits g.W.Handler.behind g.W.Handler.is_done
    g.W.Handler.is_spent g.W.Handler.is_note g.N.ClientSource.tells (HasPlacesOf (tags_of l.slots))
    (view l.initial.seat).known (view l.seat).known l.initial.acceptor l.acceptor
    (g.N.ClientSource.seen l.initial.net) (g.N.ClientSource.seen l.net)
    × LosesNobody l.initial.acceptor l.acceptor (g.N.ClientSource.seen l.initial.net) (g.N.ClientSource.seen l.net)
