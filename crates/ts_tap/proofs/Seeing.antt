-- What a reader of what a client takes says of the bytes that it saw, step by step.
use Rattle.std.proofs.Common.{◌≡◌, ◌≢◌, ℕ, ◌-◌, ◌<◌, ◌≤◌, List, [], ◌++◌, length, take, drop, slice_range}
use Rattle.std.proofs.Common.{⊎_elim, refl, sym, ap, subst, ◌∙◌, arith, append_assoc, take-append-drop}
use Rattle.std.proofs.lemmas.List.{append-nil, drop_all, length-take}
use Rattle.ts_wire.specs.declared.framing.Framing.TheVariants as F
use Rattle.ts_wire.specs.declared.body.BodyState.{BodyState}
use Rattle.ts_wire.specs.declared.body.BodyState.TheVariants as S
use Rattle.ts_wire.specs.declared.body.Fed.{Fed}
use Rattle.ts_wire.specs.Blank.{blank_end}
use Rattle.ts_wire.specs.Place.{Place, GoesOn, IsFed, TakesBytes, state_of}
use Rattle.ts_wire.proofs.PlaceBody.{place_body}
use Rattle.ts_tap.specs.declared.sent_reader.Part.{Part}
use Rattle.ts_tap.specs.declared.sent_reader.Part.TheVariants as P
use Rattle.ts_tap.specs.Sending.{FollowsEnd, HasSeen, InChunks, InHead, IsOneLine, IsTail, SeenIn, SeesFront}
use Rattle.ts_tap.specs.Sending.{SeesOn, Sent, passed_by}
use Rattle.ts_tap.specs.SentBody.{IsSentBody, chunked_end, in_head, plain, chunked}
use Rattle.ts_tap.proofs.HeadEnds.{line_ends, line_lacks}
use Rattle.ts_tap.proofs.Tails.{ends_tail, ends_text}

-- ---- what was found is the body data

seen_in : (part : Part) (s : Sent) (told body : List ℕ) → SeenIn part s told body → IsSentBody told body
seen_in P.Head s told body seen = in_head seen.lacks seen.none
seen_in P.Plain s told body seen = plain seen.head seen.ends seen.says seen.whole
seen_in P.Chunks s told body seen =
    chunked seen.head (seen.fed ++ seen.behind) (state_of s.chunks.phase) seen.ends seen.says seen.whole
    (place_body F.Chunked seen.fed body s.chunks.held s.chunks.phase s.chunks.total seen.reads.stands
    seen.reads.counted seen.reads.sound seen.behind seen.none)

pub seen_body : (s : Sent) (told body : List ℕ) → HasSeen told body s → IsSentBody told body
seen_body s told body seen = seen_in s.part s told body seen

-- ---- in a head

module _ (old : Sent) (line tail : List ℕ) (one : IsOneLine line)
    (keeps : (text : List ℕ) → IsTail text old.tail → IsTail (text ++ line) tail) where
  behind_head : (part : Part) → FollowsEnd tail part → (told body : List ℕ) → InHead old told body
      → SeenIn part (record { part = part; tail = tail; chunks = old.chunks }) (told ++ line) (body ++ [])
  behind_head P.Head follows told body seen = record {
    lacks = line_lacks told line seen.lacks one
        (λ ends. follows (ends_tail (told ++ line) tail blank_end (keeps told seen.tail) (omega arith) ends));
    tail = keeps told seen.tail;
    none = append-nil body ∙ seen.none;
    fresh = seen.fresh;
  }
  behind_head P.Plain follows told body seen = record {
    head = told ++ line;
    ends = line_ends told line seen.lacks one
        (ends_text (told ++ line) tail blank_end (keeps told seen.tail) follows.0);
    says = λ says. follows.1
        (ends_tail (told ++ line) tail chunked_end (keeps told seen.tail) (omega arith) says);
    whole = sym (append-nil (told ++ line))
        ∙ ap (λ l. (told ++ line) ++ l) (sym (append-nil body ∙ seen.none));
  }
  behind_head P.Chunks follows told body seen = record {
    head = told ++ line;
    ends = line_ends told line seen.lacks one
        (ends_text (told ++ line) tail blank_end (keeps told seen.tail) follows.0);
    says = ends_text (told ++ line) tail chunked_end (keeps told seen.tail) follows.1;
    fed = [];
    behind = [];
    whole = sym (append-nil (told ++ line));
    reads = subst (λ (l : List ℕ). IsFed F.Chunked [] l old.chunks) (sym (append-nil body ∙ seen.none))
        seen.fresh;
    none = λ _. refl;
  }

  pub sees_head : (part : Part) → FollowsEnd tail part → old.part ≡ P.Head
      → SeesOn old line [] (record { part = part; tail = tail; chunks = old.chunks })
  sees_head part follows is told body seen =
      behind_head part follows told body (subst (λ p. SeenIn p old told body) is seen)

-- ---- in a body that comes in chunks

-- behind a head: a part that was fed with what is not looked at
fed_on : (head fed behind told bytes piece rest : List ℕ) → told ≡ head ++ (fed ++ behind)
    → (fed ++ behind) ++ bytes ≡ (fed ++ piece) ++ rest → told ++ bytes ≡ head ++ ((fed ++ piece) ++ rest)
fed_on head fed behind told bytes piece rest whole is =
    ap (λ l. l ++ bytes) whole ∙ append_assoc head (fed ++ behind) bytes ∙ ap (λ l. head ++ l) is

ended_not : S.Ended ≡ S.Unfinished → ⊥
ended_not wrong = cc

bad_not : S.Bad ≡ S.Unfinished → ⊥
bad_not wrong = cc

-- a body that rests on this answer goes on
yet_by : (old state : BodyState) → state ≡ S.Unfinished → (old ≢ S.Unfinished → state ≡ old)
    → old ≡ S.Unfinished
yet_by S.Unfinished state yet stays = refl
yet_by S.Ended state yet stays = sym (stays ended_not) ∙ yet
yet_by S.Bad state yet stays = sym (stays bad_not) ∙ yet

module _ (old : Sent) (chunks : Place) (bytes : List ℕ) (fed : Fed)
    (takes : TakesBytes old.chunks chunks bytes fed)
    (goes : GoesOn old.chunks chunks (take fed.taken bytes) (slice_range bytes fed.from fed.to))
    (is : old.part ≡ P.Chunks) where
  abbrev new : Sent
  new = record { part = old.part; tail = old.tail; chunks = chunks }

  abbrev piece : List ℕ
  piece = take fed.taken bytes

  abbrev found : List ℕ
  found = slice_range bytes fed.from fed.to

  -- a body that goes on was fed all that came
  goes_on : (told body : List ℕ) → InChunks old told body → state_of old.chunks.phase ≡ S.Unfinished
      → InChunks new (told ++ piece) (body ++ found)
  goes_on told body seen open_yet = record {
    head = seen.head;
    ends = seen.ends;
    says = seen.says;
    fed = seen.fed ++ piece;
    behind = [];
    whole = fed_on seen.head seen.fed seen.behind told piece piece [] seen.whole
        (ap (λ l. (seen.fed ++ l) ++ piece) (seen.none open_yet) ∙ ap (λ l. l ++ piece) (append-nil seen.fed)
        ∙ sym (append-nil (seen.fed ++ piece)));
    reads = goes F.Chunked seen.fed body seen.reads;
    none = λ _. refl;
  }

  -- behind one that has ended, or ends now, the rest is none of it
  ends_now : (told body behind : List ℕ) (seen : InChunks old told body)
      → (seen.fed ++ seen.behind) ++ bytes ≡ (seen.fed ++ piece) ++ behind
      → state_of chunks.phase ≢ S.Unfinished → InChunks new (told ++ bytes) (body ++ found)
  ends_now told body behind seen rest over = record {
    head = seen.head;
    ends = seen.ends;
    says = seen.says;
    fed = seen.fed ++ piece;
    behind = behind;
    whole = fed_on seen.head seen.fed seen.behind told bytes piece behind seen.whole rest;
    reads = goes F.Chunked seen.fed body seen.reads;
    none = λ open_yet. absurd (over open_yet);
  }

  over_whole : (before behind : List ℕ) → fed.taken ≡ 0
      → (before ++ behind) ++ bytes ≡ (before ++ piece) ++ (behind ++ bytes)
  over_whole before behind none =
      append_assoc before behind bytes ∙ ap (λ l. l ++ (behind ++ bytes)) (sym (append-nil before))
      ∙ ap (λ n. (before ++ take n bytes) ++ (behind ++ bytes)) (sym none)

  over_by : (state : BodyState) → state_of old.chunks.phase ≡ state
      → (state_of old.chunks.phase ≢ S.Unfinished → fed.taken ≡ 0) → state_of chunks.phase ≢ S.Unfinished
      → (told body : List ℕ) → InChunks old told body → InChunks new (told ++ bytes) (body ++ found)
  over_by S.Unfinished was rests over told body seen =
      ends_now told body (drop fed.taken bytes) seen
      (ap (λ l. (seen.fed ++ l) ++ bytes) (seen.none was) ∙ ap (λ l. l ++ bytes) (append-nil seen.fed)
      ∙ ap (λ l. seen.fed ++ l) (sym (take-append-drop fed.taken bytes))
      ∙ sym (append_assoc seen.fed piece (drop fed.taken bytes))) over
  over_by S.Ended was rests over told body seen =
      ends_now told body (seen.behind ++ bytes) seen
      (over_whole seen.fed seen.behind (rests (λ yet. absurd (ended_not (sym was ∙ yet))))) over
  over_by S.Bad was rests over told body seen =
      ends_now told body (seen.behind ++ bytes) seen
      (over_whole seen.fed seen.behind (rests (λ yet. absurd (bad_not (sym was ∙ yet))))) over

  -- the reader stays within its body
  pub sees_chunks : fed.state ≡ S.Unfinished
      → (state_of old.chunks.phase ≢ S.Unfinished → fed.state ≡ state_of old.chunks.phase)
      → SeesOn old piece found new
  sees_chunks yet stays told body seen =
      subst (λ p. SeenIn p new (told ++ piece) (body ++ found)) (sym is)
      (goes_on told body (subst (λ p. SeenIn p old told body) is seen)
      (yet_by (state_of old.chunks.phase) fed.state yet stays))

  -- or is at its end
  pub sees_over : fed.state ≢ S.Unfinished → (state_of old.chunks.phase ≢ S.Unfinished → fed.taken ≡ 0)
      → SeesOn old bytes found new
  sees_over over rests told body seen =
      subst (λ p. SeenIn p new (told ++ bytes) (body ++ found)) (sym is)
      (over_by (state_of old.chunks.phase) refl rests (λ yet. over (takes.state ∙ yet)) told body
      (subst (λ p. SeenIn p old told body) is seen))

  -- what is found is no longer than what was taken
  found_within : length found ≤ fed.taken
  found_within =
      let ordered = takes.ordered in
      let within = takes.within in
      omega (arith, ordered, within, length-take (fed.to - fed.from) (drop fed.from bytes))

  piece_long : length piece ≡ fed.taken
  piece_long = let taken = takes.taken in omega (arith, taken, length-take fed.taken bytes)

  -- so a front was seen, within the body
  pub chunks_front : 0 < length bytes → fed.state ≡ S.Unfinished
      → (state_of old.chunks.phase ≢ S.Unfinished → fed.state ≡ state_of old.chunks.phase)
      → SeesFront old new bytes found (drop fed.taken bytes)
  chunks_front some yet stays = record {
    front = piece;
    whole = sym (take-append-drop fed.taken bytes);
    some = ⊎_elim
        (λ (more : 0 < fed.taken). omega (arith, more, piece_long))
        (λ (over : fed.state ≢ S.Unfinished). absurd (over yet))
        (takes.progress some (yet_by (state_of old.chunks.phase) fed.state yet stays));
    within = omega (arith, found_within, piece_long);
    sees = sees_chunks yet stays;
  }

  -- or all, at its end
  pub chunks_over : 0 < length bytes → fed.state ≢ S.Unfinished
      → (state_of old.chunks.phase ≢ S.Unfinished → fed.taken ≡ 0) → SeesFront old new bytes found []
  chunks_over some over rests = record {
    front = bytes;
    whole = sym (append-nil bytes);
    some = some;
    within = let taken = takes.taken in omega (arith, taken, found_within);
    sees = sees_over over rests;
  }

  -- in any state
  pub chunks_seen : 0 < length bytes
      → (state_of old.chunks.phase ≢ S.Unfinished → fed.state ≡ state_of old.chunks.phase)
      → (state_of old.chunks.phase ≢ S.Unfinished → fed.taken ≡ 0)
      → (state : BodyState) → fed.state ≡ state
      → SeesFront old new bytes found (drop (passed_by state fed.taken (length bytes)) bytes)
  chunks_seen some stays rests S.Unfinished was = chunks_front some was stays
  chunks_seen some stays rests S.Ended was =
      subst (λ (l : List ℕ). SeesFront old new bytes found l)
      (sym (drop_all (length bytes) bytes (omega arith)))
      (chunks_over some (λ yet. ended_not (sym was ∙ yet)) rests)
  chunks_seen some stays rests S.Bad was =
      subst (λ (l : List ℕ). SeesFront old new bytes found l)
      (sym (drop_all (length bytes) bytes (omega arith)))
      (chunks_over some (λ yet. bad_not (sym was ∙ yet)) rests)
