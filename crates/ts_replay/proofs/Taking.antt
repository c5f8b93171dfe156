-- What is read out of the bytes that an origin took is what stands there.
use Rattle.std.proofs.Common.{◌≡◌, ◌∙◌, ℕ, ◌+◌, List, [], Option, None, Some, take, drop, length, sym, subst}
use Rattle.memchr.specs.Find.{IsFirst, Nowhere, OccursAt}
use Rattle.ts_replay.specs.Exchanged.{HasTaken, StandsBehind}
use Rattle.ts_replay.specs.Exchanged as exchanged
use Rattle.ts_replay.specs.declared.at_origin.AtOrigin.{AtOrigin}
use Rattle.ts_replay.proofs.Blank.{head_up_to, rest_from, some_blank}
use Rattle.ts_wire.specs.Blank.{blank_end}
use Rattle.ts_wire.specs.declared.frames.Mode.{Mode}

module _ (taken : List ℕ) (mode : Option Mode) (at : AtOrigin) where
  -- behind the first empty line stands the body
  pub found_behind : (place : ℕ) (behind : List ℕ)
      → IsFirst (OccursAt taken blank_end) 0 (length taken + 1) (Some place)
      → behind ≡ drop (place + 4) taken → HasTaken taken mode at → StandsBehind mode at.upload behind
  found_behind place behind first off (exchanged.no_head lacks is) = absurd (lacks place first.1)
  found_behind place behind first off (exchanged.head rest ends text stands) =
      subst (StandsBehind mode at.upload)
      (sym (off ∙ rest_from taken at.request rest text ends place first)) stands

  -- and in front of it the head
  pub found_same : (place : ℕ) (request : List ℕ) (upload : Option (List ℕ))
      → IsFirst (OccursAt taken blank_end) 0 (length taken + 1) (Some place)
      → request ≡ take (place + 4) taken → upload ≡ at.upload → HasTaken taken mode at
      → ◌≡◌ {A = AtOrigin} (record { request = request; upload = upload }) at
  found_same place request upload first up same (exchanged.no_head lacks is) = absurd (lacks place first.1)
  found_same place request upload first up same (exchanged.head rest ends text stands) =
      let head : request ≡ at.request = up ∙ head_up_to taken at.request rest text ends place first in
      λ i. record { request = head i; upload = same i }

  -- where there is none, no head is
  pub none_same : (request : List ℕ) → Nowhere (OccursAt taken blank_end) 0 (length taken + 1) → request ≡ []
      → HasTaken taken mode at → ◌≡◌ {A = AtOrigin} (record { request = request; upload = None }) at
  none_same request none empty (exchanged.no_head lacks is) =
      (λ i. record { request = empty i; upload = None }) ∙ sym is
  none_same request none empty (exchanged.head rest ends text stands) =
      absurd (some_blank taken at.request rest text ends none)
