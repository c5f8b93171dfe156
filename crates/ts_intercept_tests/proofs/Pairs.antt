-- A link in memory belongs to any client, and refuses none.
use Rattle.std.specs.Prelude.{Option, Some, None, ⊤}
use Rattle.ts_link.specs.MemLink.{LinkState}
use Rattle.ts_intercept.specs.Uploading.{PairIf}

pub pair_any : (client : LinkState) (o : Option LinkState)
    → PairIf {C = LinkState} {O = LinkState} (λ c p. ⊤) (λ p list. ⊥) client o
pair_any client None = tt
pair_any client (Some o) = record { pair = tt; takes = λ list refused. refused }
