-- A transaction tells its number where its links tell theirs, as links in memory do.
use Rattle.std.proofs.Common.{◌≡◌, ◌&&◌, ℕ, List, Bool, true, false, Option, Some, None, refl, sym, subst}
use Rattle.std.specs.Prelude.{IsSome}
use Rattle.ts_config.specs.declared.setup.TransformLine.{TransformLine}
use Rattle.ts_journal.specs.declared.entry.Pending.{Pending}
use Rattle.ts_link.specs.declared.link.Link as link
use Rattle.ts_upstream.specs.declared.upstream.Upstream as upstream
use Rattle.ts_transform.specs.declared.transform.Transform as transform
use Rattle.ts_link.specs.MemLink.{LinkState, look_of}
use Rattle.ts_upstream.specs.Uploads.{both}
use Rattle.ts_phases.specs.Lowering.{agains_left, if_told, number_left, upload_in}
use Rattle.ts_txn.specs.LoweringCourse.{number_if, parts_left, transaction_left}
use Rattle.ts_phases.specs.View.{side_if, upload_of, upload_told, view_of}
use Rattle.ts_txn.specs.declared.course.Course.{Course}
use Rattle.ts_txn.specs.declared.course.Course.TheVariants as K
use Rattle.ts_phases.specs.declared.parts.Core.{Core}
use Rattle.ts_phases.specs.declared.parts.Peer.{Peer}
use Rattle.ts_phases.specs.declared.phase.Phase.{Phase}
use Rattle.ts_phases.specs.declared.phase.Phase.TheVariants as P

some_told : (again upload : Option ℕ) (f : ℕ → ℕ → ℕ) → IsSome again → IsSome upload
    → IsSome (if_told again upload f)
some_told None upload f told also = cc
some_told (Some n) None f told also = cc
some_told (Some n) (Some m) f told also = refl

some_number : (pending : List Pending) (work : Option ℕ) → IsSome work → IsSome (number_left pending work)
some_number pending None told = cc
some_number pending (Some n) told = refl

some_upload : (upload : Option ℕ) (p : Phase) → IsSome upload → IsSome (upload_in upload p)
some_upload upload (P.ReadResponse q) told = refl
some_upload upload (P.ReadResponseHdr q h) told = refl
some_upload upload (P.ResponseTransform q h) told = refl
some_upload upload (P.RuleResponse q h place fields) told = refl
some_upload upload (P.SendResponseHdr a) told = refl
some_upload upload (P.RuleAnswer a place fields) told = refl
some_upload upload (P.Sending a) told = refl
some_upload upload (P.TxnClose end) told = refl
some_upload upload (P.Ended end) told = refl
some_upload upload _ told = told

-- the number of a transaction is told where both links tell
some_if : (a b : Bool) (m : Option ℕ) → a ≡ true → b ≡ true → IsSome m → IsSome (number_if (a && b) m)
some_if true true m told also some = some
some_if true false m told also some = cc
some_if false b m told also some = cc

module _ {C O Q : Type 0} (client : link.Ghosts C) (origin : link.Ghosts O) (pair : upstream.Ghosts O C)
    (stage : transform.Ghosts Q TransformLine) (core : Core C O) where
  some_course : (course : Course Q) → IsSome (agains_left (view_of client origin core))
      → IsSome (upload_of pair core) → IsSome (parts_left client origin pair stage core course)
  some_course (K.Phased p) agains uploads = some_told _ _ _ agains (some_upload _ p uploads)
  some_course _ agains uploads = some_told _ _ _ agains refl

  -- where they tell how many Again answers and how much upload they have left
  pub tells : (course : Course Q) (pending : List Pending) → client.tells ≡ true → origin.tells ≡ true
      → IsSome (agains_left (view_of client origin core)) → IsSome (upload_of pair core)
      → IsSome (transaction_left client origin pair stage core course pending)
  tells course pending told also agains uploads =
      some_if client.tells origin.tells _ told also
      (some_number pending _ (some_course course agains uploads))

-- links in memory do
mem_agains : (c : LinkState) (o : Option (Peer LinkState))
    → IsSome (both (look_of c).agains (side_if look_of o).look.agains)
mem_agains c None = refl
mem_agains c (Some p) = refl

mem_uploads : (c : LinkState) (o : Option (Peer LinkState)) → IsSome (upload_told (λ x y. Some 0) c o)
mem_uploads c None = refl
mem_uploads c (Some p) = refl

-- What a transaction counts on of two links in memory: they tell what they hold, and no upload is left of
-- them.
pub record AreInMemory (client origin : link.Ghosts LinkState) (pair : upstream.Ghosts LinkState LinkState)
    : Type 0 where
  pub told : client.tells ≡ true
  pub also : origin.tells ≡ true
  pub client_look : client.look ≡ look_of
  pub origin_look : origin.look ≡ look_of
  pub uploads : pair.upload_left ≡ (λ x y. Some 0)

module _ {Q : Type 0} (client origin : link.Ghosts LinkState) (pair : upstream.Ghosts LinkState LinkState)
    (stage : transform.Ghosts Q TransformLine) (memory : AreInMemory client origin pair) where
  pub mem_tells : (core : Core LinkState LinkState) (course : Course Q) (pending : List Pending)
      → IsSome (transaction_left client origin pair stage core course pending)
  mem_tells core course pending =
      tells client origin pair stage core course pending memory.told memory.also
      (subst (λ look. IsSome (both (look core.client.link).agains
      (side_if origin.look core.origin).look.agains))
      (sym memory.client_look)
      (subst (λ look. IsSome (both (look_of core.client.link).agains (side_if look core.origin).look.agains))
      (sym memory.origin_look) (mem_agains core.client.link core.origin)))
      (subst (λ left. IsSome (upload_told left core.client.link core.origin)) (sym memory.uploads)
      (mem_uploads core.client.link core.origin))
