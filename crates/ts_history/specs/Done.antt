-- What is left of a transaction that has ended, with its layers over the two ends (Developer's Guide, "HTTP
-- Hooks and Transactions" and "Intercepting HTTP Transactions"; RFC 9112, section 6).
use Rattle.std.specs.Prelude.{◌≡◌, ℕ, Some, false}
use Rattle.ts_config.specs.declared.setup.Setup.{Setup}
use Rattle.ts_config.specs.declared.setup.TransformLine.{TransformLine}
use Rattle.ts_exchange.specs.Ends.{Ends}
use Rattle.ts_hooks.specs.declared.txn_end.TxnEnd.{TxnEnd}
use Rattle.ts_journal.specs.Final.{IsFinal}
use Rattle.ts_layers.specs.Layers.{IsLayeredBetween, LeavesExchange}
use Rattle.ts_layers.specs.Links.{ClientEnd, OriginEnd}
use Rattle.ts_layers.specs.declared.layers.PlainExchange.{PlainExchange}
use Rattle.ts_link.specs.Link.{Look}
use Rattle.ts_link.specs.declared.link.Link as link
use Rattle.ts_transform.specs.declared.transform.Transform as transform
use Rattle.ts_txn.specs.declared.retired.Retired.{Retired}
use Rattle.ts_txn.specs.declared.txn.Txn.{Txn}
use Rattle.ts_upstream.specs.declared.upstream.Upstream as upstream

-- These ends have the setup and the plugins of a place, and the number of the transaction between them is the
-- name of its client.
pub record AreEndsAt {C O : Type 0} (look : C → Look) (setup : Setup) (plugins_at : ℕ) (ends : Ends C O) :
    Type 0 where
  pub setup_is : ends.setup ≡ setup
  pub plugins_are : ends.plugins_at ≡ plugins_at
  pub named : (look ends.client).name ≡ ends.number

-- What is left of a transaction that has ended in its place: it had this setup and its plugins from this
-- group on, its number is the name of its client's link, it is sound, it has an end, and the journal of its
-- group is at rest with nothing pending. Of what its layers left once they were taken off holds what holds of
-- it between plain links: what was taken in the origin's place of a request with a body, and who answered
-- there, the origin or a line that serves the host and leaves the origin alone, unless the origin was read
-- before the request stood there.
pub record IsTxnDone {C O P : Type 0} (client : link.Ghosts C) (origin : link.Ghosts O)
    (both : upstream.Ghosts O C) (stage : transform.Ghosts P TransformLine) (setup : Setup) (plugins_at : ℕ)
    (r : Retired C O) : Type 0 where
  pub ends : Ends C O
  pub ends_are : AreEndsAt client.look setup plugins_at ends
  pub named : (client.look r.parts.client).name ≡ r.parts.number
  pub txn : Txn (ClientEnd C) (OriginEnd O P) P
  pub between : IsLayeredBetween client origin both stage ends false false txn r.journal.state
  pub left : PlainExchange C O
  pub parts_are : left.parts ≡ r.parts
  pub leaves : LeavesExchange client origin both stage ends false false r.journal.state txn left
  pub ending : TxnEnd
  pub ended : r.parts.end ≡ Some ending
  pub final : IsFinal r.journal
