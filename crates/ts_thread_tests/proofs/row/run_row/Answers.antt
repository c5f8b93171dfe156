use Rattle.std.proofs.Common.{◌≤◌, ◌*◌, ℕ, All, true, refl, sym, subst, arith}
use Rattle.std.proofs.lemmas.Nat.{mul-le}
use Rattle.std.proofs.lemmas.Result.{IfOk-weaker}
use Rattle.ts_toys.specs.declared.peer.TheConstants.{ASKED}
use Rattle.ts_toys.specs.Peers.{PeerFits, PeerSound, PeerMayAsk, PeerRight, PeerAnswers, PeerCounted, peer_left}
use Rattle.ts_thread.specs.declared.TheConstants.{MOST_ALONE, MOST_THREADS}
use Rattle.ts_thread.specs.Threads.{turns_of}
use Rattle.ts_thread.specs.Whole.{CanBeRun, EndSoon}
use Rattle.ts_thread_tests.specs.declared.row.TheConstants.{BUDGET}
use Rattle.ts_thread_tests.specs.ToyRows.{HasEnded}
use Rattle.ts_thread_tests.proofs.ToyRows.{all_any, all_ended}
use Rattle.ts_thread_tests.proofs.Ends.{peers_can_ask, peers_tell, peers_end, only_memory, row_starts}
use Rattle.ts_thread_tests.proofs.row.run_row.Goals as goal

pub run_whole-requires-clause-run : goal.run_whole-requires-clause-run
run_whole-requires-clause-run g c κs within =
    let row = c.make_row-groups.ensures.new refl in
    let n = row.count in
    let times : c.args.threads * (2 * BUDGET) ≤ MOST_THREADS * (2 * BUDGET) = mul-le c.args.threads
    (2 * BUDGET) MOST_THREADS (2 * BUDGET) c.requires.threads.1 (omega arith) in
    subst (λ ts. CanBeRun PeerFits PeerSound (λ b. b) (λ b. true) PeerMayAsk PeerRight PeerAnswers ts
    c.make_row-groups.result.items ASKED c.args.threads BUDGET) (sym c.make_tags-tags.ensures) (record {
      some = omega arith;
      few = omega arith;
      fits = row.fits;
      new = row.few;
      plan = record {
        tagged = row_starts ASKED (omega arith);
        some = c.requires.threads.0;
        most =
            c.requires.threads.1;
        turns = omega arith;
      };
      asks = peers_can_ask;
    })

pub run_whole-requires-clause-tells : goal.run_whole-requires-clause-tells
run_whole-requires-clause-tells g c κs within = peers_tell c.make_tags-tags.result.items

pub returns-clause-ended : goal.returns-clause-ended
returns-clause-ended g c =
    IfOk-weaker c.run_whole.result _ (λ gs. All (HasEnded PeerCounted) gs.items)
    (λ gs ended.
    all_ended PeerFits PeerSound (λ b. b) (λ b. true) (λ b. Unit {0}) PeerCounted _ gs.items
    (λ t w s roles any fits sound none asks whole. sound.ends asks whole none)
    (all_any c.make_tags-tags.result.items) ended.fits ended.idle)
    c.run_whole.ensures.ended

pub returns-clause-lacks : goal.returns-clause-lacks
returns-clause-lacks g c =
    let times : c.args.threads * (2 * BUDGET) ≤ MOST_THREADS * (2 * BUDGET) = mul-le c.args.threads
    (2 * BUDGET) MOST_THREADS (2 * BUDGET) c.requires.threads.1 (omega arith) in
    only_memory c.run_whole.result (c.run_whole.ensures.spares
    (subst (λ ts. EndSoon ℕ ℕ (Unit {0}) PeerFits PeerSound (λ b. b) (λ b. true) peer_left MOST_ALONE
    (turns_of ASKED c.args.threads BUDGET) ts) (sym c.make_tags-tags.ensures)
    (peers_end MOST_ALONE (turns_of ASKED c.args.threads BUDGET) (omega arith) (omega arith))))
