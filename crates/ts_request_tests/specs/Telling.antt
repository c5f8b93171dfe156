-- What the number of a transaction rests on: links that tell all that it counts.
use Rattle.std.specs.Prelude.{◌≡◌, true, IsSome}
use Rattle.ts_link.specs.declared.link.Link as link
use Rattle.ts_upstream.specs.declared.upstream.Upstream as upstream

-- Both links tell, and say how many Again answers and how much upload they have left.
pub record LinksTell {C O : Type 0} (client : link.Ghosts C) (origin : link.Ghosts O)
    (both : upstream.Ghosts O C) : Type 0 where
  pub client_tells : client.tells ≡ true
  pub origin_tells : origin.tells ≡ true
  pub client_agains : (c : C) → IsSome (client.look c).agains
  pub origin_agains : (o : O) → IsSome (origin.look o).agains
  pub uploads : (c : C) (o : O) → IsSome (both.upload_left c o)
