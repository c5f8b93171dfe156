-- A transaction with layers tells its number, where its plain links tell theirs: how many Again answers and
-- how much upload they have left.
use Rattle.std.proofs.Common.{◌≡◌, ℕ, List, Bool, true, false, Option, Some, None, refl}
use Rattle.std.specs.Prelude.{IsSome}
use Rattle.ts_config.specs.declared.setup.TransformLine.{TransformLine}
use Rattle.ts_intercept.specs.Seen.{agains_by, inside}
use Rattle.ts_intercept.specs.Uploading as choosing
use Rattle.ts_intercept.specs.declared.choice.Stage.{Stage}
use Rattle.ts_intercept.specs.declared.choice.Stage.TheVariants as S
use Rattle.ts_journal.specs.declared.entry.Pending.{Pending}
use Rattle.ts_link.specs.declared.link.Link as link
use Rattle.ts_phases.specs.View.{side_if, upload_told}
use Rattle.ts_phases.specs.declared.parts.Core.{Core}
use Rattle.ts_phases.specs.declared.parts.Peer.{Peer}
use Rattle.ts_request.specs.Pairing as carrying
use Rattle.ts_tap.specs.Optional.{client_of}
use Rattle.ts_tap.specs.declared.lifted.Lifted.{Lifted}
use Rattle.ts_tap.specs.declared.watched.Watched.{Watched}
use Rattle.ts_transform.specs.declared.transform.Transform as transform
use Rattle.ts_txn.specs.LoweringCourse.{transaction_left}
use Rattle.ts_txn.specs.declared.course.Course.{Course}
use Rattle.ts_txn.proofs.Telling.{tells}
use Rattle.ts_upstream.specs.Uploads.{both}
use Rattle.ts_upstream.specs.declared.upstream.Upstream as upstream
use Rattle.ts_layers.specs.Links.{ClientEnd, OriginEnd, client_link, lifted_look, lifted_origin, origin_link}
use Rattle.ts_layers.specs.Links.{origin_uploads}

-- ---- numbers that are told

both_told : (a b : Option ℕ) → IsSome a → IsSome b → IsSome (both a b)
both_told None b told also = told
both_told (Some m) None told also = also
both_told (Some m) (Some n) told also = refl

-- how many Again answers are left, whoever answers
agains_told : (stage : Stage) (agains : Option ℕ) → IsSome agains → IsSome (agains_by stage agains)
agains_told S.Undecided agains told = told
agains_told S.HandedOn agains told = told
agains_told (S.Served answer given) agains told = refl

-- how much upload, with what is held
with_told : (sent : ℕ) (left : Option ℕ) → IsSome left → IsSome (choosing.with_held sent left)
with_told sent None told = told
with_told sent (Some n) told = refl

held_told : (tells : Bool) (sent : ℕ) (left : Option ℕ) → tells ≡ true → IsSome left
    → IsSome (choosing.told_if tells (choosing.with_held sent left))
held_told true sent left is told = with_told sent left told
held_told false sent left is told = absurd (cc)

-- and with what a carrier has left
carried_told : (client origin : Bool) (left : Option ℕ) (work : ℕ) → client ≡ true → origin ≡ true
    → IsSome left → IsSome (carrying.left_if client origin left work)
carried_told true true (Some n) work is also told = refl
carried_told true true None work is also told = told
carried_told true false left work is also told = absurd (cc)
carried_told false origin left work is also told = absurd (cc)

-- ---- of the two ends

module _ {C O P : Type 0} (client : link.Ghosts C) (origin : link.Ghosts O) (inner : upstream.Ghosts O C)
    (stage : transform.Ghosts P TransformLine) (told : client.tells ≡ true) (also : origin.tells ≡ true)
    (agains : (c : C) → IsSome (client.look c).agains) (over : (o : O) → IsSome (origin.look o).agains)
    (left : (c : C) (o : O) → IsSome (inner.upload_left c o)) where
  inside_told : (o : Option (Lifted O)) → IsSome (inside (lifted_look origin.look) o).agains
  inside_told None = refl
  inside_told (Some l) = over l.origin

  ends_agains : (f : ClientEnd C) (x : Option (Peer (OriginEnd O P)))
      → IsSome (both ((client_link client).look f).agains (side_if (origin_link origin).look x).look.agains)
  ends_agains f None = both_told (client.look (client_of f.client)).agains (Some 0)
      (agains (client_of f.client)) refl
  ends_agains f (Some p) =
      let choice = p.link.origin.inner in
      both_told (client.look (client_of f.client)).agains
      (agains_by choice.stage (inside (lifted_look origin.look) choice.origin).agains)
      (agains (client_of f.client))
      (agains_told choice.stage (inside (lifted_look origin.look) choice.origin).agains
      (inside_told choice.origin))

  inside_left : (sent : ℕ) (w : Watched C) (o : Option (Lifted O))
      → IsSome (choosing.left_if origin.tells (lifted_origin inner).upload_left sent w o)
  inside_left sent w None = refl
  inside_left sent w (Some l) =
      held_told origin.tells sent (inner.upload_left (client_of w) l.origin) also
      (left (client_of w) l.origin)

  ends_left : (f : ClientEnd C) (x : Option (Peer (OriginEnd O P)))
      → IsSome (upload_told (origin_uploads client origin inner stage).upload_left f x)
  ends_left f None = refl
  ends_left f (Some p) =
      let choice = p.link.origin.inner in
      carried_told client.tells origin.tells
      (choosing.left_if origin.tells (lifted_origin inner).upload_left choice.sent f.client choice.origin) _
      told also (inside_left choice.sent f.client choice.origin)

  -- THE NUMBER of a transaction between them is told
  pub layers_tell : (core : Core (ClientEnd C) (OriginEnd O P)) (course : Course P) (pending : List Pending)
      → IsSome (transaction_left (client_link client) (origin_link origin)
      (origin_uploads client origin inner stage) stage core course pending)
  layers_tell core course pending =
      tells (client_link client) (origin_link origin) (origin_uploads client origin inner stage) stage core
      course pending told also (ends_agains core.client.link core.origin)
      (ends_left core.client.link core.origin)
