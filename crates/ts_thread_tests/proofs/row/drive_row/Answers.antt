use Rattle.std.proofs.Common.{true, arith}
use Rattle.ts_thread.proofs.Ended.{all_tell, turns_enough}
use Rattle.ts_toys.specs.declared.peer.TheConstants.{ASKED}
use Rattle.ts_toys.specs.Peers.{PeerFits, PeerSound, peer_left}
use Rattle.ts_thread_tests.specs.Peers.{row_tags}
use Rattle.ts_thread_tests.proofs.Ends.{peers_can_ask, peers_tell, peers_end, only_memory}
use Rattle.ts_thread_tests.proofs.row.drive_row.Goals as goal

pub finish_within-requires-clause-fits : goal.finish_within-requires-clause-fits
finish_within-requires-clause-fits c = (row_tags ASKED, peers_can_ask, c.requires.row.fits)

pub finish_within-requires-clause-tells : goal.finish_within-requires-clause-tells
finish_within-requires-clause-tells c = all_tell PeerFits PeerSound (λ b. b) (λ b. true) peer_left
    (row_tags ASKED) c.args.groups.now.items (peers_tell (row_tags ASKED)) c.requires.row.fits

pub returns-clause-lacks : goal.returns-clause-lacks
returns-clause-lacks c = λ high.
    only_memory c.finish_within.result (c.finish_within.ensures.spares
    (turns_enough PeerFits PeerSound (λ b. b) (λ b. true) peer_left c.args.limit 1 (row_tags ASKED)
    c.args.groups.now.items (peers_end c.args.limit 1 (omega arith) high) c.requires.row.fits
    c.requires.row.few))
