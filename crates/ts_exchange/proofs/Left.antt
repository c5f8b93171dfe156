-- What is left of a transaction between plain links, once it is taken apart, and that nothing of one that has
-- ended is pending.
use Rattle.std.proofs.Common.{◌≡◌, ◌∙◌, ℕ, ◌<◌, List, [], ◌∷◌, Bool, Option, Some, None, true, false, refl, arith}
use Rattle.std.proofs.Common.{sym, ap, subst}
use Rattle.std.specs.Prelude.{is_some}
use Rattle.std.specs.Arc.{arc_value}
use Rattle.ts_config.specs.declared.setup.TransformLine.{TransformLine}
use Rattle.ts_hooks.specs.declared.txn_end.TxnEnd.{TxnEnd}
use Rattle.ts_hooks.specs.declared.txn_end.TxnEnd.TheVariants as E
use Rattle.ts_journal.specs.State.{State, pending_at}
use Rattle.ts_journal.specs.declared.entry.TheConstants.{GREATEST}
use Rattle.ts_journal.specs.declared.entry.Pending.{Pending}
use Rattle.ts_link.specs.Link.{Look}
use Rattle.ts_link.specs.declared.link.Link as link
use Rattle.ts_phases.specs.Ends.{EndFact}
use Rattle.ts_phases.specs.Holding.{IsSameLink}
use Rattle.ts_phases.specs.View.{OriginRefuses, StillIf, View, is_dialed, refuses_if, side_if, view_of}
use Rattle.ts_phases.specs.declared.parts.Peer.{Peer}
use Rattle.ts_phases.specs.declared.phase.Phase.{Phase}
use Rattle.ts_phases.specs.declared.phase.Phase.TheVariants as P
use Rattle.ts_transform.specs.Seats.{AllSeated}
use Rattle.ts_transform.specs.declared.transform.Transform as transform
use Rattle.ts_transform.specs.declared.continuation.StageContinuation.{StageContinuation}
use Rattle.ts_upstream.specs.declared.upstream.Upstream as upstream
use Rattle.ts_txn.specs.CourseCover.{Idles, IdlesOn, course_seats, is_fresh_on}
use Rattle.ts_txn.specs.Making.{base_if, end_of_course, end_of_phase, link_if}
use Rattle.ts_txn.specs.Resting.{NeverFailed, SendsBlock}
use Rattle.ts_txn.specs.Sending.{SendsRequestFirst}
use Rattle.ts_txn.specs.World.{IsSameLinkIf, IsSoundTxn, faults_if}
use Rattle.ts_txn.specs.declared.course.Course.{Course}
use Rattle.ts_txn.specs.declared.course.Course.TheVariants as K
use Rattle.ts_txn.specs.declared.making.TxnParts.{TxnParts}
use Rattle.ts_txn.specs.declared.txn.Txn.{Txn}
use Rattle.ts_txn.proofs.Handling.{at_rest}
use Rattle.ts_txn.proofs.Resting.{ended_for_cause, ended_so, rests_with_block}
use Rattle.ts_txn.proofs.Sending.{sends_once, sends_request_first}
use Rattle.ts_exchange.specs.Ends.{Ends}
use Rattle.ts_exchange.specs.Left.{Exchanges, HasEndedAs, IsApart, IsBetween, IsSameOrigin, IsSeenAs, IsStillOrigin}
use Rattle.ts_exchange.specs.Left.{KeepsEnds}
use Rattle.ts_exchange.specs.Left.{LeavesBlock, RefusesIf, RefusesLeft, look_if}

-- ---- nothing of one that has ended is pending

-- an event that is pending has its number
has_event : (p : Pending) (ps : List Pending) → pending_at p.number (p ∷ ps) ≡ Some p
has_event p ps = grind arith

-- where no continuation has an event, none is pending
none_pending : (pending : List Pending) (main : Option StageContinuation) → main ≡ None
    → AllSeated pending (main ∷ []) → pending ≡ []
none_pending [] main idle seated = refl
none_pending (p ∷ ps) main idle seated =
    let alone : AllSeated (p ∷ ps) (None ∷ []) = subst (λ m. AllSeated (p ∷ ps) (m ∷ [])) idle seated in
    absurd (alone p.number p (has_event p ps))

-- one that has ended has no continuation
ended_idles : (p : Phase) (main : Option StageContinuation) → is_some (end_of_phase p) ≡ true → Idles p main
    → main ≡ None
ended_idles (P.Ended end) main ended idle = idle
ended_idles _ main ended idle = absurd (cc)

pub ended_rests : {Q : Type 0} (course : Course Q) (main : Option StageContinuation) (pending : List Pending)
    → is_some (end_of_course course) ≡ true → AllSeated pending (course_seats main course)
    → IdlesOn course main → pending ≡ []
ended_rests (K.Phased p) main pending ended seated idle =
    none_pending pending main (ended_idles p main ended idle) seated
ended_rests (K.Relaying r) main pending ended seated idle = absurd (cc)
ended_rests (K.Finishing end) main pending ended seated idle = absurd (cc)

-- ---- the links that are left

module _ {L : Type 0} (look : L → Look) where
  -- what was seen of a side is seen of the link that is left of it
  look_there : (x : Option (Peer L)) → (side_if look x).look ≡ look_if look (link_if x)
  look_there None = refl
  look_there (Some p) = refl

  base_there : (x : Option (Peer L)) → (side_if look x).base ≡ base_if x
  base_there None = refl
  base_there (Some p) = refl

  -- the same link is left
  same_there : (o : Option L) (x : Option (Peer L)) → IsSameLinkIf look o x → IsSameOrigin look o (link_if x)
  same_there None None same = tt
  same_there None (Some p) same = same
  same_there (Some l) None same = same
  same_there (Some l) (Some p) same = same

still_there : {L : Type 0} (still : L → L → Type 0) (o : Option L) (x : Option (Peer L)) → StillIf still o x
    → IsStillOrigin still o (link_if x)
still_there still None None same = tt
still_there still None (Some p) same = same
still_there still (Some l) None same = same
still_there still (Some l) (Some p) same = same

-- it is there where the link is between which the transaction was made
pub holds_same : {L : Type 0} (look : L → Look) (shown o : Option L) (x : Option (Peer L)) → shown ≡ o
    → IsSameLinkIf look shown x → is_some x ≡ is_some o
holds_same look shown o x is same = of_shown look shown x same ∙ ap is_some is
  where
    of_shown : {L : Type 0} (look : L → Look) (shown : Option L) (x : Option (Peer L))
        → IsSameLinkIf look shown x → is_some x ≡ is_some shown
    of_shown look None None same = refl
    of_shown look None (Some p) same = absurd same
    of_shown look (Some l) None same = absurd same
    of_shown look (Some l) (Some p) same = refl

pub link_there : {L : Type 0} (x : Option (Peer L)) → is_some (link_if x) ≡ is_some x
link_there None = refl
link_there (Some p) = refl

dialed_there : {L : Type 0} (x : Option (Peer L)) → is_dialed x ≡ is_some (link_if x)
dialed_there None = refl
dialed_there (Some p) = refl

-- what holds for whether its link refuses an upload, holds for the link that is left
refuses_there : {L : Type 0} (refuses : L → List ℕ → Type 0) (Holds : Type 0 → Type 0) (x : Option (Peer L))
    (list : List ℕ) → Holds (refuses_if refuses x list) → Holds (RefusesIf refuses (link_if x) list)
refuses_there refuses Holds None list h = h
refuses_there refuses Holds (Some p) list h = h

-- ---- a transaction is taken apart

module _ {C O Q : Type 0} (client : link.Ghosts C) (origin : link.Ghosts O) (both : upstream.Ghosts O C)
    (stage : transform.Ghosts Q TransformLine) (ends : Ends C O) (started : Bool) (s : State) (t : Txn C O Q)
    (parts : TxnParts C O) (between : IsBetween client origin both stage ends started t s)
    (apart : IsApart t parts) where
  abbrev seen : View
  seen = view_of client origin t.core

  setup_is : arc_value t.core.setup ≡ ends.setup
  setup_is = between.fits.setup ∙ between.tag_is.setup_is

  is_seen : IsSeenAs client.look origin.look seen parts
  is_seen = record {
    client = ap client.look (sym apart.client);
    client_base = sym apart.client_faults;
    dialed = dialed_there t.core.origin ∙ ap is_some (sym apart.origin);
    origin = look_there origin.look t.core.origin ∙ ap (look_if origin.look) (sym apart.origin);
    origin_base = base_there origin.look t.core.origin ∙ sym apart.origin_faults;
    head = apart.head;
    mode = apart.mode;
    cuts = apart.cuts;
  }

  keeps : KeepsEnds client origin ends parts
  keeps = record {
    number = apart.number ∙ between.fits.number ∙ between.tag_is.number_is;
    client_is = subst (λ l. IsSameLink (client.look l) (client.look parts.client)) between.tag_is.client_is
        (subst (λ l. IsSameLink (client.look between.tag.client.value) (client.look l)) (sym apart.client)
        between.fits.client);
    origin_is = subst (λ o. IsSameOrigin origin.look o parts.origin) between.tag_is.origin_is
        (subst (λ o. IsSameOrigin origin.look between.tag.origin.value o) (sym apart.origin)
        (same_there origin.look between.tag.origin.value t.core.origin between.fits.origin));
    client_still = subst (λ l. client.still l parts.client) between.tag_is.client_is
        (subst (λ l. client.still between.tag.client.value l) (sym apart.client) between.fits.client_still);
    origin_still = subst (λ o. IsStillOrigin origin.still o parts.origin) between.tag_is.origin_is
        (subst (λ o. IsStillOrigin origin.still between.tag.origin.value o) (sym apart.origin)
        (still_there origin.still between.tag.origin.value t.core.origin between.fits.origin_still));
    client_faults = apart.client_faults ∙ between.fits.client_base
        ∙ ap (λ l. (client.look l).faults) between.tag_is.client_is;
    origin_faults = apart.origin_faults ∙ sym (base_there origin.look t.core.origin)
        ∙ between.fits.origin_base ∙ ap (faults_if origin.look) between.tag_is.origin_is;
  }

  -- its origin refuses the same uploads as the link that is left
  refuses_left : (Holds : Type 0 → Type 0) → Holds (OriginRefuses client both t.core)
      → Holds (RefusesLeft client both parts)
  refuses_left Holds h =
      subst (λ l. Holds (RefusesIf both.refuses parts.origin (client.look l).source)) (sym apart.client)
      (subst (λ o. Holds (RefusesIf both.refuses o (client.look t.core.client.link).source)) (sym apart.origin)
      (refuses_there both.refuses Holds t.core.origin (client.look t.core.client.link).source h))

  -- how it ended, if it has
  has_ended_as : (end : TxnEnd) → parts.end ≡ Some end → HasEndedAs client origin both ends.setup seen parts end
  has_ended_as end is =
      let ended : end_of_course t.course ≡ Some end = sym apart.end_is ∙ is in
      record {
        fact = λ told also.
            subst (λ set. EndFact set (RefusesLeft client both parts) seen end) setup_is
            (refuses_left (λ refuses. EndFact (arc_value t.core.setup) refuses seen end)
            (ended_so client origin both stage t s.pending s.next between.roles end ended between.sound told
            also));
        cause = ended_for_cause client origin both stage t s.pending s.next between.roles end ended
            between.sound;
      }

  -- where nothing is pending it is sound so
  sound_at_rest : s.pending ≡ [] → IsSoundTxn client origin both stage t [] s.next between.roles
  sound_at_rest none =
      subst (λ ps. IsSoundTxn client origin both stage t ps s.next between.roles) none between.sound

  was_started : started ≡ true → is_fresh_on t.course ≡ false
  was_started is = between.fits.started (between.tag_is.started_is ∙ is)

  leaves_block : started ≡ true → s.pending ≡ [] → s.next < GREATEST → NeverFailed seen
      → (parts.end ≡ Some E.NoMemory → ⊥) → LeavesBlock client origin both ends.setup seen parts
  leaves_block is none few never memory told also =
      let rests = rests_with_block client origin both stage t s.next between.roles (sound_at_rest none)
      (was_started is) few never (λ lacks. memory (apart.end_is ∙ lacks)) told also in (
        rests.0,
        apart.end_is ∙ rests.1,
        subst (λ set. SendsBlock set (RefusesLeft client both parts) seen rests.0) setup_is
            (refuses_left (λ refuses. SendsBlock (arc_value t.core.setup) refuses seen rests.0) rests.2),
      )

  pub exchanges : Exchanges client origin both ends started s parts
  exchanges = record {
    keeps = keeps;
    view = seen;
    seen = is_seen;
    ended = has_ended_as;
    rests = λ is none lasts. at_rest client origin both stage t s.next between.roles (was_started is)
        (sym apart.end_is ∙ lasts) (sound_at_rest none);
    block = leaves_block;
    once = sends_once client origin both stage t s.pending s.next between.roles between.sound;
    first = λ told also. subst (λ set. SendsRequestFirst set (RefusesLeft client both parts) seen) setup_is
        (refuses_left (λ refuses. SendsRequestFirst (arc_value t.core.setup) refuses seen)
        (sends_request_first client origin both stage t s.pending s.next between.roles between.sound told
        also));
  }
