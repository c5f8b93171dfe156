-- A client's link with a tap on it, or with none.
use Rattle.std.specs.Prelude.{ℕ, Option, Some, None}
use Rattle.ts_tap.specs.declared.watched.Watched.{Watched}
use Rattle.ts_tap.specs.declared.watched.Watched.TheVariants.{Plain, Tapped}

-- the client inside
abbrev pub client_of : {C : Type 0} → Watched C → C
client_of (Plain client) = client
client_of (Tapped tap) = tap.client

-- how many bytes its tap counts at most, if it has one
abbrev pub most_of : {C : Type 0} → Watched C → Option ℕ
most_of (Plain client) = None
most_of (Tapped tap) = Some tap.watch.watcher.most
