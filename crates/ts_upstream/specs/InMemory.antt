-- What a link in memory shows, as one value: as a link, and as the link to an origin.
use Rattle.std.specs.Prelude.{true, Some, ⊤}
use Rattle.ts_link.specs.MemLink.{LinkState, look_of}
use Rattle.ts_link.specs.declared.link.Link as link
use Rattle.ts_upstream.specs.Uploads.{MovesNothing}
use Rattle.ts_upstream.specs.declared.upstream.Upstream as upstream

-- it tells, and no call on it changes more than its look says
abbrev pub memory_link : link.Ghosts LinkState
memory_link = record { tells = true; look = look_of; goes = λ a b. ⊤; still = λ a b. ⊤ }

-- it refuses no upload, and has none left
abbrev pub memory_origin : upstream.Ghosts LinkState LinkState
memory_origin = record {
  paired = λ c o. ⊤;
  refuses = λ o list. ⊥;
  upload_left = λ c o. Some 0;
  one_upload = MovesNothing;
}
