-- What is read of a journal makes it final, once nothing is pending in it and it is not held.
use Rattle.std.proofs.Common.{◌≡◌, List, [], length, false, ap, subst, ◌∙◌, arith}
use Rattle.ts_journal.specs.declared.entry.Entry.{Entry}
use Rattle.ts_journal.specs.Final.{IsFinal}
use Rattle.ts_journal.specs.Log.{Log}
use Rattle.ts_journal.specs.Machine.{Balances, HasLived, IsLawful, replay}

-- the state of a journal is what its entries come to, which are lawful, and its counts add up
pub record IsKept (log : Log) : Type 0 where
  pub lawful : IsLawful log.base.state log.entries
  pub state : log.state ≡ replay log.base.state log.entries
  pub lived_base : HasLived log.base.made log.base.state
  pub lived : HasLived log.base.made log.state
  pub counts : Balances log.state

-- what is read of a journal is known of its group
pub is_kept : (log read : Log) (es : List Entry) → read ≡ log → es ≡ read.entries
    → IsLawful read.base.state es → read.state ≡ replay read.base.state es
    → HasLived read.base.made read.base.state → HasLived read.base.made read.state → Balances read.state
    → IsKept log
is_kept log read es same are lawful state lived_base lived counts = subst IsKept same
    (record {
      lawful = subst (IsLawful read.base.state) are lawful;
      state = state ∙ ap (replay read.base.state) are;
      lived_base = lived_base;
      lived = lived;
      counts = counts;
    })

-- one that is kept, not held and with nothing pending is final
pub is_final : (log : Log) → IsKept log → log.state.held ≡ false → log.state.pending ≡ [] → IsFinal log
is_final log kept given idle = record {
  lawful = kept.lawful;
  state = kept.state;
  lived_base = kept.lived_base;
  lived = kept.lived;
  given = given;
  none = idle;
  closed = let all = kept.counts in let none = ap length idle in omega (arith, all, none);
}
