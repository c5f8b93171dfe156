-- What stands of a transaction that has ended, and of one whose group has nothing pending (Developer's Guide,
-- "HTTP Hooks and Transactions"; RFC 9112, section 8, on incomplete messages).
use Rattle.std.specs.Prelude.{◌≡◌, ℕ, ◌<◌, false, Some}
use Rattle.std.specs.Arc.{arc_value}
use Rattle.ts_config.specs.declared.setup.Setup.{Setup}
use Rattle.ts_hooks.specs.declared.txn_end.TxnEnd.{TxnEnd}
use Rattle.ts_hooks.specs.declared.txn_end.TxnEnd.TheVariants as E
use Rattle.ts_journal.specs.declared.entry.TheConstants.{GREATEST}
use Rattle.ts_link.specs.declared.link.Link as link
use Rattle.ts_upstream.specs.declared.upstream.Upstream as upstream
use Rattle.ts_txn.specs.CourseCover.{is_fresh_on}
use Rattle.ts_phases.specs.Ends.{EndFact, ShortEnd, WholeEnd}
use Rattle.ts_phases.specs.Holding.{IfTold}
use Rattle.ts_txn.specs.Making.{end_of_course}
use Rattle.ts_phases.specs.View.{HasFailed, OriginRefuses, View, view_of}
use Rattle.ts_txn.specs.declared.txn.Txn.{Txn}

-- The client took what the block of all bytes of both links says: the whole answer, or its head and what the
-- lines had written of a body that was cut, or that broke its framing.
pub data SendsBlock (setup : Setup) (refuses : Type 0) (v : View) : TxnEnd → Type 0 where
  whole : WholeEnd setup refuses v → SendsBlock setup refuses v E.Whole
  cut : ShortEnd setup refuses v E.OriginCut → SendsBlock setup refuses v E.OriginCut
  bad : ShortEnd setup refuses v E.OriginBad → SendsBlock setup refuses v E.OriginBad

-- neither link failed
pub record NeverFailed (v : View) : Type 0 where
  pub client : HasFailed v.client → ⊥
  pub origin : HasFailed v.origin → ⊥

module _ {C O Q : Type 0} (client : link.Ghosts C) (origin : link.Ghosts O) (both : upstream.Ghosts O C) where
  -- what holds of one that has ended so, where its links tell
  abbrev pub HasEndedSo : Txn C O Q → TxnEnd → Type 0
  HasEndedSo t end = IfTold client.tells origin.tells
      (EndFact (arc_value t.core.setup) (OriginRefuses client both t.core)
      (view_of client origin t.core) end)

  -- One that was started, whose links tell and have not failed, for which memory did not lack, and whose
  -- group has an event number left: it has ended, and its client took what the block says.
  abbrev pub RestsWithBlock : Txn C O Q → ℕ → Type 0
  RestsWithBlock t next =
      is_fresh_on t.course ≡ false → next < GREATEST → NeverFailed (view_of client origin t.core)
      → (end_of_course t.course ≡ Some E.NoMemory → ⊥)
      → IfTold client.tells origin.tells ((end : TxnEnd) × (end_of_course t.course ≡ Some end)
      × SendsBlock (arc_value t.core.setup) (OriginRefuses client both t.core)
      (view_of client origin t.core) end)
