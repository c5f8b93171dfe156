-- Each step of an upload lowers what a transaction has left to do.
use Rattle.std.proofs.Common.{ℕ, ◌+◌, ◌*◌, ◌<◌, ◌≤◌, List, length, Bool, true, arith, refl, ap}
use Rattle.std.specs.Prelude.{Option, Some, None}
use Rattle.ts_config.specs.declared.setup.Setup.{Setup}
use Rattle.ts_hooks.specs.declared.hook.Hook.TheVariants as hook
use Rattle.ts_link.specs.Link.{AgainsFall, Fewer, NoMore}
use Rattle.ts_upstream.specs.declared.upstream.Uploaded.{Uploaded}
use Rattle.ts_upstream.specs.declared.upstream.Uploaded.TheVariants as U
use Rattle.ts_upstream.specs.Uploads.{Rose8, UploadFalls}
use Rattle.ts_phases.specs.View.{LinkSide, View}
use Rattle.ts_phases.specs.Moving.{LowersUpload, MovesUpload}
use Rattle.ts_phases.specs.Lowering.{agains_left, answer_room, asks_at, if_told, phase_work, to_hear}
use Rattle.ts_phases.specs.Lowering.{work_left}
use Rattle.ts_phases.specs.declared.phase.Phase.TheVariants as P
use Rattle.ts_phases.specs.declared.phase.Request.{Request}
use Rattle.ts_phases.proofs.Lowering.{one_if, replaced_within, same_length, still_hear}
use Rattle.ts_phases.proofs.LoweringSteps.{Calm, work_falls}

-- what the upload has left fell, and no Again answer came
told_lower : (f g : ℕ → ℕ → ℕ) (m m' n n' : Option ℕ) → NoMore m m' → Fewer n n'
    → ((x x' y y' : ℕ) → x' ≤ x → y' < y → g x' y' < f x y) → Fewer (if_told m n f) (if_told m' n' g)
told_lower f g None m' n n' kept fell lower = tt
told_lower f g (Some x) m' None n' kept fell lower = tt
told_lower f g (Some x) None (Some y) n' kept fell lower = absurd kept
told_lower f g (Some x) (Some x') (Some y) None kept fell lower = absurd fell
told_lower f g (Some x) (Some x') (Some y) (Some y') kept fell lower = lower x x' y y' kept fell

pub not_risen : (n n' : Option ℕ) → NoMore n n' → Rose8 n n' 0
not_risen None n' kept = tt
not_risen (Some y) None kept = absurd kept
not_risen (Some y) (Some y') kept = omega (arith, kept)

more_next : (r x x' out out' room hear hear' y y' : ℕ) → x' ≤ x → y' < y → out' ≤ out → hear' ≤ hear
    → r + (x' + out' + room + hear') + y' < r + (x + out + room + hear) + y
more_next r x x' out out' room hear hear' y y' again upload less heard =
    omega (arith, again, upload, less, heard)

again_next : (r x x' out out' room hear hear' y y' : ℕ) → x' + one_if true ≤ x → y' ≤ y + 8 * 0 → out' ≤ out
    → hear' ≤ hear
    → r + (x' + out' + room + hear') + y' < r + (x + out + room + hear) + y
again_next r x x' out out' room hear hear' y y' again upload less heard =
    omega (arith, again, upload, less, heard)

module _ (setup : Setup) (refuses : List ℕ → Type 0) (v w : View) (answer : Uploaded)
    (moves : MovesUpload true true refuses answer v w) where
  upload_out : length w.client.outbox ≤ length v.client.outbox
  upload_out = same_length v.client.outbox w.client.outbox (ap (λ (x : View). x.client.outbox) moves.others)

  upload_hear : to_hear setup w.origin ≤ to_hear setup v.origin
  upload_hear = still_hear setup v.origin w.origin (same_length v.origin.inbox w.origin.inbox
      (ap (λ (s : LinkSide). s.inbox) moves.moves.others))
      (replaced_within v.origin.look.given v.origin.look.left w.origin.look.left
      (moves.moves.bytes.origin refl).left)

  -- an upload raises nothing
  pub upload_calm : (b : Bool) → AgainsFall b (agains_left v) (agains_left w) → Calm setup b v w
  upload_calm b again = record { again = again; out = upload_out; hear = upload_hear }

module _ (setup : Setup) (refuses : List ℕ → Type 0) (v w : View) (u u' : Option ℕ) (q : Request) where
  pub uploads_more : MovesUpload true true refuses U.More v w → LowersUpload U.More u u' v w
      → Fewer (work_left setup u v (P.Upload q)) (work_left setup u' w (P.Upload q))
  uploads_more moves lowers = told_lower (λ x y. phase_work setup x y v (P.Upload q))
      (λ x y. phase_work setup x y w (P.Upload q)) (agains_left v) (agains_left w) u u' lowers.1 lowers.0
      (λ x x' y y' again upload. more_next (10 + asks_at setup hook.SendResponseHdr) x x'
      (length v.client.outbox) (length w.client.outbox)
      (answer_room setup) (to_hear setup v.origin) (to_hear setup w.origin) y y' again upload
      (upload_out setup refuses v w U.More moves) (upload_hear setup refuses v w U.More moves))

  pub uploads_again : MovesUpload true true refuses U.Again v w → LowersUpload U.Again u u' v w
      → Fewer (work_left setup u v (P.Upload q)) (work_left setup u' w (P.Upload q))
  uploads_again moves lowers =
      let calm = upload_calm setup refuses v w U.Again moves true lowers.1 in
      work_falls setup true 0 v w u u' calm (not_risen u u' lowers.0) (P.Upload q) (P.Upload q)
      (not_risen u u' lowers.0) (λ x x' y y' again upload.
      again_next (10 + asks_at setup hook.SendResponseHdr) x x' (length v.client.outbox)
      (length w.client.outbox) (answer_room setup)
      (to_hear setup v.origin) (to_hear setup w.origin) y y' again upload calm.out calm.hear)

-- want of memory without an origin leaves what is left
pub none_stays : (agains : Option ℕ) → UploadFalls U.NoMemory (Some 0) (Some 0) agains agains
none_stays None = (omega arith, tt)
none_stays (Some n) = (omega arith, omega arith)
