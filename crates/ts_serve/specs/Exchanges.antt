-- A transaction in a place, which has its layers over the two ends, and what the place promises of it
-- (Developer's Guide, "HTTP Hooks and Transactions").
use Rattle.std.specs.Prelude.{◌≡◌, None, false}
use Rattle.std.specs.Arc.{arc_value}
use Rattle.ts_exchange.specs.Ends.{Ends}
use Rattle.ts_exchange.specs.Left.{number_of}
use Rattle.ts_exchange.specs.declared.exchange.ExchangeSetting.{ExchangeSetting}
use Rattle.ts_exchange.specs.declared.exchange.Promise.{Promise}
use Rattle.ts_history.specs.Done.{AreEndsAt}
use Rattle.ts_layers.specs.Layers.{IsLayeredTag, holds_origin}
use Rattle.ts_layers.specs.Links.{ClientEnd, OriginEnd}
use Rattle.ts_link.specs.Link.{Look}
use Rattle.ts_link.specs.declared.link.Link as link
use Rattle.ts_upstream.specs.declared.upstream.Upstream as upstream
use Rattle.ts_txn.specs.declared.retired.Noted.{Noted}
use Rattle.ts_txn.specs.declared.txn.Txn.{Txn}
use Rattle.ts_txn.specs.declared.txn.TxnTag.{TxnTag}
use Rattle.ts_serve.specs.Arrivals.{IsArrival}
use Rattle.ts_serve.specs.declared.exchanges.Comer.{Comer}
use Rattle.ts_serve.specs.declared.exchanges.TxnTerms.{TxnTerms}
use Rattle.ts_serve.specs.declared.placed.AtPlace.{AtPlace}
use Rattle.ts_serve.specs.declared.whose.Whose.{Whose}

-- the terms of a place are those of a setting
pub record AreTerms (setting : ExchangeSetting) (terms : TxnTerms) : Type 0 where
  pub setup : terms.setup.value ≡ arc_value setting.setup
  pub plugins_at : terms.plugins_at ≡ setting.plugins_at

-- the tag is that of a transaction between such ends with their layers, which promises nothing of them, and
-- does not keep what is taken in the origin's place
pub record KeepsTerms {C O P : Type 0} (look : C → Look) (terms : TxnTerms)
    (tag : TxnTag (ClientEnd C) (OriginEnd O P)) : Type 0 where
  pub ends : Ends C O
  pub ends_are : AreEndsAt look terms.setup.value terms.plugins_at ends
  pub promise : Promise
  pub tag_is : IsLayeredTag ends false promise false tag

-- whose a transaction in a place is
abbrev pub whose_of : {C O P : Type 0} → AtPlace (Txn (ClientEnd C) (OriginEnd O P) P) → Whose
whose_of t = record { number = number_of t.value; place = t.place; has_origin = holds_origin t.value }

-- a client that came with the number of the transaction that was noted, before any of its own
pub record ComesAfter {C O : Type 0} (client : link.Ghosts C) (origin : link.Ghosts O)
    (both : upstream.Ghosts O C) (noted : Noted O) (next : Comer C) : Type 0 where
  pub first : noted.place ≡ 0
  pub number_is : next.number ≡ noted.number
  pub came : IsArrival client origin both next.number next.client None
