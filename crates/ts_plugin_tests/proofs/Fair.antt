-- A reply of a peer is right for a peer, of whichever kind of world each of them is.
use Rattle.std.proofs.Common.{ℕ}
use Rattle.ts_group.specs.declared.either.Either.{Either}
use Rattle.ts_group.specs.declared.either.Either.TheVariants.{One, Other}
use Rattle.ts_group.specs.Either.{EitherAnswers, EitherRight}
use Rattle.ts_toys.specs.declared.peer.Peer.{Peer}
use Rattle.ts_toys.specs.Peers.{PeerAnswers, PeerRight}

pub fair : (asked asker : Either Peer Peer) (group question reply : ℕ)
    → EitherAnswers PeerAnswers PeerAnswers asked question reply
    → EitherRight PeerRight PeerRight asker group question reply
fair (One a) (One b) group question reply is = is
fair (One a) (Other b) group question reply is = is
fair (Other a) (One b) group question reply is = is
fair (Other a) (Other b) group question reply is = is
