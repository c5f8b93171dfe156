-- Round after round, the desk is one of the slots, the acceptor that of the net, the first thread goes on,
-- and no client is lost.
use Rattle.ts_slot.specs.Words.{tags_of}
use Rattle.ts_thread.specs.Desks.{IsDeskOf}
use Rattle.ts_serve.specs.Acceptor.{GoesOn, HasPlacesOf, IsAcceptorOf, LosesNobody}
use Rattle.ts_serve.proofs.rounds.serve_rounds.Given as goal

abbrev pub invariant-rounds : goal.invariant-rounds
invariant-rounds g l =
    IsDeskOf l.service.shared.slots.now l.service.shared.queue.now l.desk
    × IsAcceptorOf l.acceptor (g.N.ClientSource.seen l.net)
    × GoesOn g.W.Slotted.fits g.W.Tenant.keeps g.P.Slotted.fits g.W.Handler.behind g.W.Handler.is_done
    g.W.Handler.is_spent g.W.Handler.is_note g.N.ClientSource.tells (HasPlacesOf (tags_of l.service.shared.slots.now))
    l.initial.desk l.desk l.initial.acceptor l.acceptor (g.N.ClientSource.seen l.initial.net)
    (g.N.ClientSource.seen l.net)
    × LosesNobody l.initial.acceptor l.acceptor (g.N.ClientSource.seen l.initial.net)
    (g.N.ClientSource.seen l.net)
