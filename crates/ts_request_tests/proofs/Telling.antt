-- A transaction with layers tells its number, alone and in a row, where its links tell theirs; and links in
-- memory do.
use Rattle.std.proofs.Common.{ℕ, Option, Some, length, refl}
use Rattle.std.specs.Prelude.{IsSome}
use Rattle.ts_config.specs.declared.setup.TransformLine.{TransformLine}
use Rattle.ts_group.specs.Either.{either_left}
use Rattle.ts_group.specs.declared.either.Either.{Either}
use Rattle.ts_group.specs.declared.either.Either.TheVariants as world
use Rattle.ts_journal.specs.State.{State}
use Rattle.ts_layers.specs.Links.{ClientEnd, OriginEnd, client_link, origin_link, origin_uploads}
use Rattle.ts_layers.proofs.Telling.{layers_tell}
use Rattle.ts_link.specs.declared.link.Link as link
use Rattle.ts_request_tests.specs.Telling.{LinksTell}
use Rattle.ts_transform.specs.declared.transform.Transform as transform
use Rattle.ts_txn.specs.LoweringCourse.{transaction_left}
use Rattle.ts_txn.specs.declared.txn.Txn.{Txn}
use Rattle.ts_upstream.specs.InMemory.{memory_link, memory_origin}
use Rattle.ts_upstream.specs.declared.upstream.Upstream as upstream

module _ {C O P : Type 0} (client : link.Ghosts C) (origin : link.Ghosts O) (both : upstream.Ghosts O C)
    (stage : transform.Ghosts P TransformLine) (tell : LinksTell client origin both) where
  abbrev pub alone_left : Txn (ClientEnd C) (OriginEnd O P) P → State → Option ℕ
  alone_left t s =
      transaction_left (client_link client) (origin_link origin) (origin_uploads client origin both stage)
      stage t.core t.course s.pending

  pub alone_tells : (t : Txn (ClientEnd C) (OriginEnd O P) P) (s : State) → IsSome (alone_left t s)
  alone_tells t s =
      layers_tell client origin both stage tell.client_tells tell.origin_tells tell.client_agains
      tell.origin_agains tell.uploads t.core t.course s.pending

  -- a world of the other kind tells how many events are pending
  pub row_tells : {B : Type 0} (w : Either (Txn (ClientEnd C) (OriginEnd O P) P) B) (s : State)
      → IsSome (either_left alone_left (λ (b : B) (s : State). Some (length s.pending)) w s)
  row_tells (world.One t) s = alone_tells t s
  row_tells (world.Other b) s = refl

pub memory_tells : LinksTell memory_link memory_link memory_origin
memory_tells = record {
  client_tells = refl;
  origin_tells = refl;
  client_agains = λ c. refl;
  origin_agains = λ o. refl;
  uploads = λ c o. refl;
}
