-- What a poll leaves of a request, by its answer.
use Rattle.std.proofs.Common.{◌≡◌, ℕ, ◌<◌, Bool, true, List, [], ◌++◌, length, inl, inr, ⊎_elim, ap, ◌∙◌}
use Rattle.std.proofs.Common.{arith}
use Rattle.std.proofs.lemmas.List.{append-nil}
use Rattle.ts_link.specs.Link.{Look}
use Rattle.ts_link.specs.declared.link.Got.TheVariants as G
use Rattle.ts_session.specs.Course.{HoldsHead, is_head}
use Rattle.ts_session.specs.Finding.{Decides}
use Rattle.ts_session.specs.Held.{FillsFrom}
use Rattle.ts_session.specs.Reading.{IsUnread, Polls}
use Rattle.ts_session.specs.declared.course.Polled.TheVariants as P
use Rattle.ts_session.specs.declared.request.Reading.TheVariants as R
use Rattle.ts_session.specs.declared.request.Request.{Request}
use Rattle.ts_session.proofs.Giving.{filled_fails, filled_known, filled_more, filled_rests}
use Rattle.ts_session.proofs.Giving.{filled_waits, is_head_stage, moves_none}

-- something is held
pub held_polls : (tells : Bool) (r : Request) (l : Look) → 0 < length r.held → Polls tells r r l l P.Some
held_polls tells r l some =
    record { holds = some; moves = moves_none tells r l; unread = inr some }

-- nothing is, so the head is still read
pub unread_head : (r : Request) → IsUnread r → r.held ≡ [] → r.reading ≡ R.Head
unread_head r unread none =
    ⊎_elim
    (λ (head : is_head r.reading ≡ true). is_head_stage r.reading head)
    (λ (some : 0 < length r.held). absurd (omega (arith, some, ap length none)))
    unread

module _ (tells : Bool) (r : Request) (held' : List ℕ) (l m : Look) (stage : r.reading ≡ R.Head)
    (head : HoldsHead r.reading r.held) (none : r.held ≡ []) where
  pub bytes_polls : (n : ℕ) → FillsFrom tells r.held held' l m (G.Bytes n) → (s : Request)
      → Decides (record r { held = held' }) s → Polls tells r s l m P.Some
  bytes_polls n fills s decides =
      let more = filled_more tells r held' l m stage head n fills in
      let some : 0 < length s.held = omega (arith, more, ap length decides.held_is) in
      record {
        holds = some;
        moves = (filled_known tells r held' l m stage head n fills s decides).0;
        unread = inr some;
      }

  still_none : held' ≡ r.held ++ [] → held' ≡ []
  still_none is = is ∙ append-nil r.held ∙ none

  pub end_polls : FillsFrom tells r.held held' l m G.End
      → Polls tells r (record r { held = held' }) l m P.End
  end_polls fills = record {
    holds = (still_none fills.held_is, fills.reads.ends);
    moves = (filled_rests tells r held' l m stage head fills).0;
    unread = inl (ap is_head stage);
  }

  pub again_polls : FillsFrom tells r.held held' l m G.Again
      → Polls tells r (record r { held = held' }) l m P.Again
  again_polls fills = record {
    holds = still_none fills.held_is;
    moves = (filled_waits tells r held' l m stage head fills).0;
    unread = inl (ap is_head stage);
  }

  pub failed_polls : FillsFrom tells r.held held' l m G.Failed
      → Polls tells r (record r { held = held' }) l m P.Failed
  failed_polls fills = record {
    holds = still_none fills.held_is;
    moves = (filled_fails tells r held' l m stage head fills).0;
    unread = inl (ap is_head stage);
  }
