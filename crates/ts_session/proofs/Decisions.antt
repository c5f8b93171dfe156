-- What was found of a request decides what is known of it.
use Rattle.std.proofs.Common.{◌≡◌, inl, inr, ℕ, ◌+◌, ◌-◌, ◌<◌, ◌≤◌, false, List, [], ◌++◌, length, take, drop}
use Rattle.std.proofs.Common.{refl, sym, ap, subst, ◌∙◌, arith, append_assoc, length-append, take-append-drop}
use Rattle.std.proofs.Math.Seq.{take-append-add}
use Rattle.std.proofs.lemmas.List.{append-nil, length-take-le, take_at}
use Rattle.httparse.specs.Grammar.{print_request}
use Rattle.ts_wire.specs.Heads.{BeginsWithRequest, LacksRequest}
use Rattle.ts_wire.specs.Limits.{head_limit}
use Rattle.ts_wire.specs.Place.{Place}
use Rattle.ts_wire.specs.declared.ends.RequestEnd.TheVariants as E
use Rattle.ts_session.specs.Chunks.{FollowsTo, IsAmid}
use Rattle.ts_session.specs.Course.{HasBodyOf, HoldsHead, IsInChunks, IsKnown, StandsBy, is_head}
use Rattle.ts_session.specs.Finding.{Decides, GoesOnChunked, IsHeadFound, NeverRequest}
use Rattle.ts_session.specs.Held.{before_last}
use Rattle.ts_session.specs.Requests.{GivesAll, IsBodyBy, chunks, no_head, unknown}
use Rattle.ts_session.specs.declared.chunks.Followed.TheVariants as N
use Rattle.ts_session.specs.declared.finding.FoundHead.{FoundHead}
use Rattle.ts_session.specs.declared.request.Reading.{Reading}
use Rattle.ts_session.specs.declared.request.Reading.TheVariants as R
use Rattle.ts_session.specs.declared.request.Request.{Request}
use Rattle.ts_session.proofs.FoundHeads.{begins_more, begins_some}
use Rattle.ts_wire.proofs.OneRequest.{some_bytes}

-- nothing was decided
pub decides_more : (r : Request) → r.reading ≡ R.Head → LacksRequest r.held → length r.held < head_limit
    → Decides r r
decides_more r stage lacks short = record {
  held_is = refl;
  head = subst (λ x. HoldsHead x r.held) (sym stage) (lacks, short);
  stands = λ left. subst (λ x. StandsBy x r [] left) (sym stage) refl;
  unread = inl (ap is_head stage);
}

-- no head comes to be
pub decides_never : (r : Request) → NeverRequest r.held → Decides r (record r { reading = R.Open })
decides_never r never = record {
  held_is = refl;
  head = tt;
  stands = λ left. no_head (never left);
  unread = inr (some_bytes r.held never);
}

-- what was found of a head is kept
abbrev pub with_found : Request → FoundHead → Request
with_found r f = record r { persists = f.persists; asks_head = f.asks_head }

module _ (r : Request) (f : FoundHead) (found : IsHeadFound r.held f) where
  -- one is there, whose request's end is known
  pub decides_known : (size : ℕ) → f.end ≡ E.Sized size
      → Decides r (record (with_found r f) { reading = R.Known (f.used + size) })
  decides_known size ends = record {
    held_is = refl;
    head = tt;
    stands = λ left. record {
      head = found.head;
      rest = drop f.used r.held;
      begins = found.begins;
      size = size;
      ends = subst (λ e. HasBodyOf e size (drop f.used r.held)) (sym (sym found.end_is ∙ ends)) refl;
      long = omega (arith, found.used_is);
      persists_is = found.persists_is;
      asks_is = found.asks_is;
    };
    unread = inr (begins_some r.held found.head (drop f.used r.held) found.begins);
  }

  -- or is not
  pub decides_unknown : f.end ≡ E.Unknown → Decides r (record (with_found r f) { reading = R.Open })
  decides_unknown ends = record {
    held_is = refl;
    head = tt;
    stands = λ left. unknown found.head (drop f.used r.held ++ left)
        (begins_more r.held left found.head (drop f.used r.held) found.begins) (sym found.end_is ∙ ends);
    unread = inr (begins_some r.held found.head (drop f.used r.held) found.begins);
  }

  -- or is where its chunks end
  module _ (reader : Place) (ends : f.end ≡ E.Chunked) (fed : IsAmid [] reader) where
    seen : before_last (length r.held - f.used) r.held ≡ print_request found.head
    seen =
        let kept : length r.held - (length r.held - f.used) ≡ f.used = omega (arith, found.used_fits) in
        ap (λ k. take k r.held) kept ∙ ap (take f.used) found.begins.reads.1
        ∙ take_at (print_request found.head) (drop f.used r.held) f.used (sym found.used_is)

    at_head : IsInChunks (record (with_found r f) { chunks = reader })
        ([] ++ before_last (length r.held - f.used) r.held)
    at_head = record {
      head = found.head;
      rest = [];
      begins = record {
        reads = (found.begins.reads.0, seen ∙ sym (append-nil (print_request found.head)));
        short = found.begins.short;
        few = found.begins.few;
      };
      ends = sym found.end_is ∙ ends;
      amid = fed;
      persists_is = found.persists_is;
      asks_is = found.asks_is;
    }

    pub decides_chunks : (s : Request)
        → GoesOnChunked (length r.held - f.used) (record (with_found r f) { chunks = reader }) s → Decides r s
    decides_chunks s g = record {
      held_is = g.held_is;
      head = known_head s.reading g.known;
      stands = g.stands [] at_head;
      unread = inr (subst (λ (h : List ℕ). 0 < length h) (sym g.held_is)
          (begins_some r.held found.head (drop f.used r.held) found.begins));
    }
      where
        known_head : (x : Reading) → is_head x ≡ false → HoldsHead x s.held
        known_head R.Head known = absurd (cc)
        known_head (R.Known k) known = tt
        known_head R.Chunks known = tt
        known_head R.Open known = tt

-- ---- a body in chunks goes on

module _ (r : Request) (fresh : ℕ) (within : fresh ≤ length r.held) (reader : Place) where
  abbrev last : List ℕ
  last = drop (length r.held - fresh) r.held

  module _ (given : List ℕ) (c : IsInChunks r (given ++ before_last fresh r.held)) where
    -- all that is held, behind what was given
    all_is : (given ++ before_last fresh r.held) ++ last ≡ given ++ r.held
    all_is =
        append_assoc given (before_last fresh r.held) last
        ∙ ap (λ t. given ++ t) (take-append-drop (length r.held - fresh) r.held)

    begins_all : BeginsWithRequest (given ++ r.held) c.head (c.rest ++ last)
    begins_all =
        subst (λ b. BeginsWithRequest b c.head (c.rest ++ last)) all_is
        (begins_more (given ++ before_last fresh r.held) last c.head c.rest c.begins)

    stands_on : FollowsTo c.rest last reader N.On
        → IsInChunks (record r { chunks = reader; reading = R.Chunks }) (given ++ r.held)
    stands_on amid = record {
      head = c.head;
      rest = c.rest ++ last;
      begins = begins_all;
      ends = c.ends;
      amid = amid;
      persists_is = c.persists_is;
      asks_is = c.asks_is;
    }

    stands_known : (count : ℕ) → count ≤ length last → FollowsTo c.rest last reader (N.Ended count)
        → IsKnown ((length r.held - fresh) + count)
        (record r { chunks = reader; reading = R.Known ((length r.held - fresh) + count) }) given
    stands_known count few whole =
        let size : ℕ = length c.rest + count in
        let front : take size (c.rest ++ last) ≡ c.rest ++ take count last = take-append-add c.rest last count in
        record {
          head = c.head;
          rest = c.rest ++ last;
          begins = begins_all;
          size = size;
          ends = subst (λ e. HasBodyOf e size (c.rest ++ last)) (sym c.ends) (
            omega (arith, few, length-append c.rest last),
            subst (IsBodyBy E.Chunked) (sym front) whole,
          );
          long = omega (
            arith,
            ap length c.begins.reads.1,
            length-append (print_request c.head) c.rest,
            length-append given (before_last fresh r.held),
            length-take-le (length r.held - fresh) r.held (omega arith),
          );
          persists_is = c.persists_is;
          asks_is = c.asks_is;
        }

    stands_never : FollowsTo c.rest last reader N.Never → (left : List ℕ) → GivesAll (given ++ (r.held ++ left))
    stands_never never left =
        subst GivesAll (append_assoc given r.held left)
        (chunks c.head ((c.rest ++ last) ++ left)
        (begins_more (given ++ r.held) left c.head (c.rest ++ last) begins_all) c.ends (never left))

  module _ (follows : (front : List ℕ) → IsAmid front r.chunks → FollowsTo front last reader N.On) where
    pub goes_on_chunked : GoesOnChunked fresh r (record r { chunks = reader; reading = R.Chunks })
    goes_on_chunked = record {
      held_is = refl;
      known = refl;
      stands = λ given c left. stands_on given c (follows c.rest c.amid);
    }

  pub goes_to_end : (count : ℕ) → count ≤ length last
      → ((front : List ℕ) → IsAmid front r.chunks → FollowsTo front last reader (N.Ended count))
      → GoesOnChunked fresh r (record r { chunks = reader; reading = R.Known ((length r.held - fresh) + count) })
  goes_to_end count few follows = record {
    held_is = refl;
    known = refl;
    stands = λ given c left. stands_known given c count few (follows c.rest c.amid);
  }

  pub goes_nowhere : ((front : List ℕ) → IsAmid front r.chunks → FollowsTo front last reader N.Never)
      → GoesOnChunked fresh r (record r { chunks = reader; reading = R.Open })
  goes_nowhere follows = record {
    held_is = refl;
    known = refl;
    stands = λ given c left. stands_never given c (follows c.rest c.amid) left;
  }
