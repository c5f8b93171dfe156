-- So far no place is one for the client.
use Rattle.std.specs.Prelude.{◌≡◌, ℕ, ◌<◌, false, get_or}
use Rattle.ts_serve.specs.declared.connection.Connection.TheVariants.{Free}
use Rattle.ts_serve.specs.Ready.{serves_client}
use Rattle.ts_serve.proofs.ready.place_of.Given as goal

abbrev pub invariant-places : goal.invariant-places
invariant-places l = (j : ℕ) → j < l.k → serves_client l.number (get_or l.row j Free) ≡ false
