-- What a transaction between plain links is made of, and the tag that names it (Developer's Guide, "HTTP Hooks
-- and Transactions").
use Rattle.std.specs.Prelude.{◌≡◌, ℕ, Bool, true, Option, Some}
use Rattle.std.specs.Arc.{arc_value}
use Rattle.ts_config.specs.declared.setup.Setup.{Setup}
use Rattle.ts_link.specs.Link.{IsSure, Look}
use Rattle.ts_link.specs.declared.link.Link as link
use Rattle.ts_upstream.specs.declared.upstream.Upstream as upstream
use Rattle.ts_txn.specs.Making.{ArePaired, IsNewLink, IsNewLinkIf}
use Rattle.ts_txn.specs.declared.txn.TxnTag.{TxnTag}
use Rattle.ts_exchange.specs.declared.exchange.ExchangeSetting.{ExchangeSetting}
use Rattle.ts_exchange.specs.declared.exchange.Promise.{Promise}

-- what it is made of: its number, its setup with the group of the first plugin line, and its plain links
pub record Ends (C O : Type 0) : Type 0 where
  pub number : ℕ
  pub setup : Setup
  pub plugins_at : ℕ
  pub client : C
  pub origin : Option O

-- under this setting, of this number, between these links
abbrev pub ends_of : {C O : Type 0} → ExchangeSetting → ℕ → C → Option O → Ends C O
ends_of setting number client origin = record {
  number = number;
  setup = arc_value setting.setup;
  plugins_at = setting.plugins_at;
  client = client;
  origin = origin;
}

-- The tag is that of the transaction between these ends, with this promise, which was started or not.
pub record IsTagBetween {C O : Type 0} (ends : Ends C O) (promise : Promise) (started : Bool)
    (tag : TxnTag C O) : Type 0 where
  pub number_is : tag.number ≡ ends.number
  pub setup_is : tag.setup.value ≡ ends.setup
  pub plugins_are : tag.plugins_at ≡ ends.plugins_at
  pub client_is : tag.client.value ≡ ends.client
  pub origin_is : tag.origin.value ≡ ends.origin
  pub sure_is : tag.sure ≡ promise.is_sure
  pub first_is : tag.first ≡ promise.is_first
  pub started_is : tag.started ≡ started

-- The two links gave nothing and took nothing, where they tell, and belong together.
pub record AreNewEnds {C O : Type 0} (clients : link.Ghosts C) (origins : link.Ghosts O)
    (both : upstream.Ghosts O C) (client : C) (origin : Option O) : Type 0 where
  pub unused : clients.tells ≡ true → IsNewLink (clients.look client)
  pub unused_origin : origins.tells ≡ true → IsNewLinkIf origins.look origin
  pub paired : ArePaired both.paired client origin

-- no call of them fails or waits by its number
pub record AreSureEnds {C O : Type 0} (clook : C → Look) (olook : O → Look) (client : C) (origin : Option O)
    : Type 0 where
  pub sure : IsSure (clook client)
  pub sure_origin : (o : O) → origin ≡ Some o → IsSure (olook o)
