-- What a span comes to: each of its calls is one of a link, and at its end its client is that of the session.
use Rattle.std.proofs.Common.{◌≡◌, inl, inr, ℕ, ◌+◌, ◌-◌, ◌<◌, ◌≤◌, Bool, true, false, ◌||◌, List, [], ◌++◌}
use Rattle.std.proofs.Common.{length, length-append, take, refl, sym, ap, subst, ⊎_elim, ◌∙◌, arith}
use Rattle.std.proofs.Common.{append_assoc}
use Rattle.std.proofs.Common.{None}
use Rattle.std.specs.Prelude.{◌&&◌, nat_lt}
use Rattle.std.specs.List.{slice_range}
use Rattle.std.proofs.lemmas.Bool.{and_parts, eqb-true, ltb-true, or_cases}
use Rattle.std.proofs.lemmas.List.{append-nil, nil_from_length, take_all}
use Rattle.ts_lists.proofs.Fronts.{rest_by_length}
use Rattle.ts_link.specs.Counts.{one_more}
use Rattle.ts_link.specs.Link.{Calls, GivesMore, Lacks, Look, MayReplace, Reads, TakesMore, Writes, all_of}
use Rattle.ts_link.specs.LinkAnswers.{EndsWell, count_got, count_put, got_again, got_failed, put_again}
use Rattle.ts_link.specs.LinkAnswers.{writes_after}
use Rattle.ts_link.specs.declared.link.Got.{Got}
use Rattle.ts_link.specs.declared.link.Put.{Put}
use Rattle.ts_link.specs.declared.link.Put.TheVariants as W
use Rattle.ts_session.specs.Course.{HoldsHead, IsOwing, IsWithin, fresh_request, has_found}
use Rattle.ts_session.specs.Course.{is_whole, may_go_on, request_given, request_rest, response_written, told}
use Rattle.ts_session.specs.Course.{waiting}
use Rattle.ts_session.specs.Course.{IsKnown, IsPlaced, IsSound, MayGoOn, RespondsBy}
use Rattle.ts_session.specs.Course.{StandsBy, fresh_response, given_before, given_on, is_dropped, request_of}
use Rattle.ts_session.specs.Course.{request_through, since, span_look, taken_before, written_by}
use Rattle.ts_session.specs.Kept.{IsKept, close_line}
use Rattle.ts_session.specs.Limits.{most_places}
use Rattle.ts_session.specs.Lines.{HasEnded, IsCut, may_drop_at}
use Rattle.ts_session.specs.Finding.{Decides}
use Rattle.ts_session.specs.FirstRequest.{first_request}
use Rattle.ts_session.specs.Held.{StaysWhole}
use Rattle.ts_session.specs.Reading.{MovesOn, MovesTo, PollsHeld, Rests, Shows}
use Rattle.ts_session.specs.Requests.{IsRequest, IsRequestWith}
use Rattle.ts_session.specs.Session.{GoesBehind, IsNew, IsSent, IsSession, MayContinue}
use Rattle.ts_session.specs.Session.{EndsSpan, PollsSpan}
use Rattle.ts_session.specs.Writing.{LeavesAll, LeavesBy, LeavesClient, WritesOn}
use Rattle.ts_session.specs.declared.course.Course.{Course}
use Rattle.ts_session.specs.declared.course.Polled.{Polled}
use Rattle.ts_session.specs.declared.course.Polled.TheVariants as P
use Rattle.ts_session.specs.declared.lines.Lines.{Lines}
use Rattle.ts_session.specs.declared.request.Reading.{Reading}
use Rattle.ts_session.specs.declared.request.Reading.TheVariants as R
use Rattle.ts_session.specs.declared.request.Request.{Request}
use Rattle.ts_session.specs.declared.response.Response.{Response}
use Rattle.ts_session.specs.declared.response.Sending.{Sending}
use Rattle.ts_session.specs.declared.response.Sending.TheVariants as S
use Rattle.ts_session.proofs.Bodies.{chunks_first, first_all, known_first, request_with}
use Rattle.ts_session.proofs.FirstRequest.{first_within}
use Rattle.ts_session.proofs.FoundHeads.{lacks_none}
use Rattle.ts_session.proofs.HeadWalks.{front_open, inside_going, may_begins}
use Rattle.ts_session.proofs.HeldLines.{slice_front}
use Rattle.ts_session.proofs.LineFronts.{new_shows}
use Rattle.ts_session.proofs.LinkCalls.{agains_none, replace_none}
use Rattle.ts_session.proofs.Parts.{asked_is, given_is, since_is}
use Rattle.ts_session.proofs.Writes.{request_stays}

-- ---- the rule

-- the request was given whole, its client lets the connection go on, and the session may carry more requests
pub record GoesOnBehind (r : Request) (place : ℕ) : Type 0 where
  pub whole : r.reading ≡ R.Known 0
  pub persists_is : r.persists ≡ true
  pub within : place < most_places

whole_is : (x : Reading) → is_whole x ≡ true → x ≡ R.Known 0
whole_is R.Head is = absurd (cc)
whole_is (R.Known n) is = ap R.Known (eqb-true n 0 is)
whole_is R.Chunks is = absurd (cc)
whole_is R.Open is = absurd (cc)

goes_on_behind : (r : Request) (place : ℕ) → may_go_on r place ≡ true → GoesOnBehind r place
goes_on_behind r place may =
    let a = and_parts (is_whole r.reading) (r.persists && nat_lt place most_places) may in
    let b = and_parts r.persists (nat_lt place most_places) a.1 in
    record {
      whole = whole_is r.reading a.0;
      persists_is = b.0;
      within = ltb-true place most_places b.1;
    }

-- where a line was found that may be dropped, the request is left as it is
request_rests : (x : Sending) (r s : Request) (place : ℕ) → MayGoOn x r place → Rests r s → has_found x ≡ true
    → s ≡ r
request_rests x r s place rule rests found = rests (goes_on_behind r place (rule found)).whole

rule_stays : (x : Sending) (r s : Request) (place : ℕ) → MayGoOn x r place → Rests r s → MayGoOn x s place
rule_stays x r s place rule rests found =
    subst (λ (t : Request). may_go_on t place ≡ true) (sym (request_rests x r s place rule rests found))
    (rule found)

-- ---- bytes that are told

told_none : (tells : Bool) (bytes : List ℕ) → bytes ≡ [] → told tells bytes ≡ []
told_none true bytes none = none
told_none false bytes none = refl

told_all : (tells : Bool) (bytes : List ℕ) → (tells ≡ true → bytes ≡ []) → told tells bytes ≡ []
told_all true bytes none = none refl
told_all false bytes none = refl

told_same : (tells : Bool) (a b : List ℕ) → (tells ≡ true → a ≡ b) → told tells a ≡ told tells b
told_same true a b same = same refl
told_same false a b same = refl

-- ---- a read

responds_stay : (x : Sending) (lines : Lines) (a b : Bool) (start cut t u : List ℕ) → u ≡ t
    → (has_found x ≡ true → b ≡ a) → RespondsBy x lines a start cut t → RespondsBy x lines b start cut u
responds_stay S.Head lines a b start cut t u same asks (sent, at, shows) = (sent, same ∙ at, shows)
responds_stay S.Passing lines a b start cut t u same asks (sent, at, ended) = (sent, same ∙ at, ended)
responds_stay (S.Line count) lines a b start cut t u same asks (sent, at, (shows, drops)) =
    (sent, same ∙ at, (shows, subst (λ k. may_drop_at lines k ≡ true) (sym (asks refl)) drops))
responds_stay (S.Owed from to) lines a b start cut t u same asks (sent, at, owing) = (
  sent,
  same ∙ at,
  subst (λ k. IsOwing k lines to (sent ++ slice_range close_line from to)) (sym (asks refl)) owing,
)
responds_stay S.Dropped lines a b start cut t u same asks h =
    subst (λ k. IsCut k start cut u) (sym (asks refl)) (subst (λ k. IsCut a start cut k) (sym same) h)

module _ {C : Type 0} (look : C → Look) (tells : Bool) (s : Course C) (c : C) (r : Request) (reads : ℕ)
    (failed waited : Bool) (more : List ℕ) (sound : IsSound look tells s)
    (moves : MovesOn tells s.request r (look s.client) (look c) failed waited more) where
  moved : MovesTo tells (given_before look s) s.request r (look s.client) (look c) failed waited more
  moved = moves (given_before look s) sound.request

  pub moved_sound : IsSound look tells (record s { client = c; request = r; reads = reads })
  moved_sound = record {
    request = moved.holds;
    response = λ tell. responds_stay s.response.sending s.response.lines s.request.asks_head r.asks_head
        (taken_before look s) (look s.cut.value).taken (look s.client).taken (look c).taken
        (moved.moves.told tell).taken
        (λ found. ap (λ (x : Request). x.asks_head)
        (request_rests s.response.sending s.request r s.place sound.rule moved.moves.rests found))
        (sound.response tell);
    within = sound.within;
    rule = rule_stays s.response.sending s.request r s.place sound.rule moved.moves.rests;
    begun = moved.moves.calls.before ∙ sound.begun;
  }

  pub moved_calls : Calls (span_look look tells s)
      (span_look look tells (record s { client = c; request = r; reads = reads })) failed waited
  moved_calls = record {
    source = ap (λ bytes. first_request (since (given_before look s) bytes)) moved.moves.calls.source;
    name = moved.moves.calls.name;
    plan = refl;
    carried = refl;
    uploaded = moved.moves.calls.uploaded;
    before = refl;
    faults = moved.moves.calls.faults;
    waits = moved.moves.calls.waits;
    agains = agains_none waited;
  }

  pub moved_told : tells ≡ true → GivesMore (span_look look tells s)
      (span_look look tells (record s { client = c; request = r; reads = reads })) more
  moved_told tell =
      let g = moved.moves.told tell in
      subst (λ b. GivesMore (span_look look b s)
      (span_look look b (record s { client = c; request = r; reads = reads })) more) (sym tell)
      (record {
        before = g.before;
        replaced = g.replaced;
        moved = g.moved;
        given = g.given;
        taken = ap (written_by s.response.sending (taken_before look s) (look s.cut.value).taken) g.taken;
      })

pub reads_span : {C : Type 0} (look : C → Look) (tells : Bool) (s : Course C) (c : C) (r : Request) (reads : ℕ)
    (answer : Got) (into : List ℕ) → IsSound look tells s
    → Shows tells s.request r (look s.client) (look c) answer into → reads ≡ one_more s.reads
    → Reads tells (span_look look tells s)
    (span_look look tells (record s { client = c; request = r; reads = reads })) answer into
reads_span look tells s c r reads answer into sound shows counted = record {
  fills = shows.fills;
  once = record { reads = counted; writes = refl };
  calls = moved_calls look tells s c r reads (got_failed answer) (got_again answer)
      (take (count_got answer) into) sound shows.moves;
  sure = λ sure. absurd sure;
  told = moved_told look tells s c r reads (got_failed answer) (got_again answer)
      (take (count_got answer) into) sound shows.moves;
  ends = λ tell. subst (λ b. EndsWell answer (told b
      (request_through (given_before look s) r (look c)).left)) (sym tell)
      (shows.ends (given_before look s) sound.request tell);
}

-- ---- a poll

pub polls_span : {C : Type 0} (look : C → Look) (tells : Bool) (s : Course C) (c : C) (r : Request)
    (failed waited : Bool) → IsSound look tells s
    → MovesOn tells s.request r (look s.client) (look c) failed waited []
    → PollsSpan tells (span_look look tells s) (span_look look tells (record s { client = c; request = r }))
    failed waited
polls_span look tells s c r failed waited sound moves = record {
  calls = moved_calls look tells s c r s.reads failed waited [] sound moves;
  reads = refl;
  writes = refl;
  told = moved_told look tells s c r s.reads failed waited [] sound moves;
}

-- ---- a write

module _ {C : Type 0} (look : C → Look) (tells may : Bool) (s : Course C) (c : C) (p : Response)
    (k : Course C) (writes : ℕ) (answer : Put) (piece : List ℕ) (sound : IsSound look tells s)
    (may_is : may ≡ may_go_on s.request s.place)
    (w : WritesOn tells may s.request.asks_head s.response p (look s.cut.value) (look k.cut.value)
    (look s.client) (look c) answer piece) where
  abbrev written : Course C
  written = record s { client = c; response = p; cut = k.cut; writes = writes }

  rule_on : MayGoOn p.sending s.request s.place
  rule_on found =
      ⊎_elim
      (λ (was : has_found s.response.sending ≡ true). sound.rule was)
      (λ (so : may ≡ true). sym may_is ∙ so)
      (or_cases (has_found s.response.sending) may (w.found found))

  pub written_sound : StaysWhole tells (look s.client) (look c) → IsWithin p.sending → IsSound look tells written
  written_sound whole within = record {
    request = request_stays tells (given_before look s) s.request (look s.client) (look c) w.leaves.given
        w.leaves.source whole sound.request;
    response = (w.on (taken_before look s) sound.response).holds;
    within = within;
    rule = rule_on;
    begun = w.leaves.before ∙ sound.begun;
  }

  given_same : (look c).given ≡ (look s.client).given → request_given look written ≡ request_given look s
  given_same = ap (λ g. since (given_before look s) (given_on s.request.held g))

  request_same : (look c).source ≡ (look s.client).source → request_of look written ≡ request_of look s
  request_same = ap (λ bytes. first_request (since (given_before look s) bytes))

  -- where some of what was owed may be out, what is seen of the client's bytes is as it was
  paid_lacks : has_found s.response.sending ≡ true → LeavesBy tells (look s.client) (look c) false false
      → (tells ≡ true → response_written look written ≡ response_written look s ++ []) → writes ≡ s.writes
      → span_look look tells written ≡ span_look look tells s
  paid_lacks found leaves same counted =
      let given : told tells (request_given look written) ≡ told tells (request_given look s) =
      told_same tells (request_given look written) (request_given look s)
      (λ tell. given_same (leaves.given tell)) in
      let left : told tells (request_rest look written) ≡ told tells (request_rest look s) =
      told_same tells (request_rest look written) (request_rest look s)
      (λ tell i. since (given_same (leaves.given tell) i) (request_same leaves.source i)) in
      let taken : told tells (response_written look written) ≡ told tells (response_written look s) =
      told_same tells (response_written look written) (response_written look s)
      (λ tell. same tell ∙ append-nil (response_written look s)) in
      λ i. record {
        given = given i;
        left = left i;
        taken = taken i;
        source = request_same leaves.source i;
        name = leaves.name i;
        reads = s.reads;
        writes = counted i;
        faults = leaves.faults i;
        waits = leaves.waits i;
        agains = None;
        plan = None;
        carried = [];
        uploaded = leaves.uploaded i;
        before = (
          (look s.begun.value).before.0 ++ given_before look s,
          (look s.begun.value).before.1 ++ taken_before look s,
        );
      }

  all_lacks : p ≡ s.response → look k.cut.value ≡ look s.cut.value → look c ≡ look s.client
      → writes ≡ s.writes → span_look look tells written ≡ span_look look tells s
  all_lacks same_p same_cut same_l counted =
      λ i. record (same_l i) {
        given = told tells (since (given_before look s) (given_on s.request.held (same_l i).given));
        left = told tells (since (since (given_before look s) (given_on s.request.held (same_l i).given))
            (first_request (since (given_before look s) (same_l i).source)));
        taken = told tells (written_by (same_p i).sending (taken_before look s) (same_cut i).taken
            (same_l i).taken);
        source = first_request (since (given_before look s) (same_l i).source);
        reads = s.reads;
        writes = counted i;
        agains = None;
        plan = None;
        carried = [];
        before = (
          (look s.begun.value).before.0 ++ given_before look s,
          (look s.begun.value).before.1 ++ taken_before look s,
        );
      }

  lacks_span : (a : Put) → LeavesAll a s.response p (look s.cut.value) (look k.cut.value) (look s.client) (look c)
      → LeavesClient tells (look s.client) (look c) a
      → (tells ≡ true → response_written look written ≡ response_written look s ++ take (count_put a) piece)
      → writes ≡ writes_after a s.writes → Lacks a (span_look look tells s) (span_look look tells written)
  lacks_span (W.Took n) all leaves same counted = tt
  lacks_span W.Again all leaves same counted = tt
  lacks_span W.Failed all leaves same counted = tt
  lacks_span W.NoMemory (inl (same_p, same_cut, same_l)) leaves same counted =
      all_lacks same_p same_cut same_l counted
  lacks_span W.NoMemory (inr found) leaves same counted = paid_lacks found leaves same counted

  wrote : tells ≡ true
      → response_written look written ≡ response_written look s ++ take (count_put answer) piece
  wrote = (w.on (taken_before look s) sound.response).written

  pub writes_span : writes ≡ writes_after answer s.writes
      → Writes tells (span_look look tells s) (span_look look tells written) answer piece
  writes_span counted = record {
    takes = w.takes;
    once = record { reads = refl; writes = counted };
    calls = record {
      source = request_same w.leaves.source;
      name = w.leaves.name;
      plan = refl;
      carried = refl;
      uploaded = w.leaves.uploaded;
      before = refl;
      faults = w.leaves.faults;
      waits = w.leaves.waits;
      agains = agains_none (put_again answer);
    };
    sure = λ sure. absurd sure;
    lacks = lacks_span answer w.lacks w.leaves wrote counted;
    told = λ tell. subst (λ b. TakesMore (span_look look b s) (span_look look b written)
        (take (count_put answer) piece)) (sym tell) (record {
          taken = wrote tell;
          within = λ within. tt;
          given = given_same (w.leaves.given tell);
          left = subst (MayReplace (request_given look s) (request_rest look s))
              (λ i. since (sym (given_same (w.leaves.given tell)) i) (sym (request_same w.leaves.source) i))
              (replace_none (request_given look s) (request_rest look s));
        });
  }

-- ---- the request at its end

-- its request begins with what was given of it
front_of : (x : Reading) (r : Request) (given left : List ℕ) → StandsBy x r given left
    → (more : List ℕ) × (first_request (given ++ (r.held ++ left)) ≡ given ++ more)
front_of R.Head r given left none =
    let all : List ℕ = first_request (given ++ (r.held ++ left)) in (all, ap (λ g. g ++ all) (sym none))
front_of (R.Known n) r given left k = (take n (r.held ++ left), known_first n r given left k)
front_of R.Chunks r given left c =
    let first = chunks_first r (given ++ r.held) left c in (
      r.held ++ first.0,
      ap first_request (sym (append_assoc given r.held left)) ∙ first.1 ∙ append_assoc given r.held first.0,
    )
front_of R.Open r given left all = (r.held ++ left, first_all (given ++ (r.held ++ left)) all)

-- ---- the response at its end

-- What the client took of it: what is kept of what was written, or all of it but for what waits. Nothing
-- waits where the head has ended.
pub record IsTaken (x : Sending) (start cut taken : List ℕ) : Type 0 where
  pub sent : List ℕ
  pub is_sent : IsSent (is_dropped x) (waiting x) (written_by x start cut taken) sent
  pub took : taken ≡ start ++ sent
  pub of_line : (from : ℕ) × (to : ℕ) × (waiting x ≡ slice_range close_line from to)
  pub within_head : HasEnded (written_by x start cut taken) → waiting x ≡ []

plain_taken : (start taken sent : List ℕ) → taken ≡ start ++ sent → since start taken ≡ sent ++ []
plain_taken start taken sent at = since_is start sent taken at ∙ sym (append-nil sent)

taken_by : (x : Sending) (lines : Lines) (asks : Bool) (start cut taken : List ℕ) → IsWithin x
    → RespondsBy x lines asks start cut taken → IsTaken x start cut taken
taken_by S.Head lines asks start cut taken within (sent, at, shows) = record {
  sent = sent;
  is_sent = plain_taken start taken sent at;
  took = at;
  of_line = (0, 0, refl);
  within_head = λ e. refl;
}
taken_by S.Passing lines asks start cut taken within (sent, at, ended) = record {
  sent = sent;
  is_sent = plain_taken start taken sent at;
  took = at;
  of_line = (0, 0, refl);
  within_head = λ e. refl;
}
taken_by (S.Line count) lines asks start cut taken within (sent, at, (shows, drops)) = record {
  sent = sent;
  is_sent = ap (λ t. t ++ take count close_line) (since_is start sent taken at);
  took = at;
  of_line = (0, count, sym (slice_front count));
  within_head = λ e. absurd (inside_going asks sent (take count close_line) (may_begins asks sent lines shows drops)
      (front_open count within.1)
      (subst (λ t. HasEnded (t ++ take count close_line)) (since_is start sent taken at) e));
}
taken_by (S.Owed from to) lines asks start cut taken within (sent, at, owing) = record {
  sent = sent;
  is_sent = ap (λ t. t ++ slice_range close_line from to) (since_is start sent taken at);
  took = at;
  of_line = (from, to, refl);
  within_head = λ e. absurd (inside_going asks owing.before (take to close_line) owing.begins
      (front_open to within.1)
      (subst HasEnded (ap (λ t. t ++ slice_range close_line from to) (since_is start sent taken at)
      ∙ owing.written_is) e));
}
taken_by S.Dropped lines asks start cut taken within c = record {
  sent = c.lines ++ c.behind;
  is_sent = record {
    told = c.told;
    lines = c.lines;
    are = c.are;
    behind = c.behind;
    response_is = λ i. since_is start c.lines cut c.cut_is i
        ++ (close_line ++ since_is cut c.behind taken c.taken_is i);
    kept_is = refl;
  };
  took = c.taken_is ∙ ap (λ t. t ++ c.behind) c.cut_is ∙ append_assoc start c.lines c.behind;
  of_line = (0, 0, refl);
  within_head = λ e. refl;
}

dropped_is : (x : Sending) → is_dropped x ≡ true → x ≡ S.Dropped
dropped_is S.Head was = absurd (cc)
dropped_is (S.Line count) was = absurd (cc)
dropped_is (S.Owed from to) was = absurd (cc)
dropped_is S.Passing was = absurd (cc)
dropped_is S.Dropped was = refl

-- the rule holds where the line was dropped
rule_dropped : (x : Sending) (r : Request) (place : ℕ) → is_dropped x ≡ true → MayGoOn x r place
    → GoesOnBehind r place
rule_dropped x r place was rule = goes_on_behind r place (rule (ap has_found (dropped_is x was)))

-- ---- the session

module _ {C : Type 0} (look : C → Look) (tells : Bool) (s : Course C) (sound : IsSound look tells s)
    (tell : tells ≡ true) where
  pub placed : IsPlaced (given_before look s) s.request (look s.client)
  placed = sound.request.link tell

  pub given_now : request_given look s ≡ placed.given
  given_now = given_is (given_before look s) placed.given s.request.held (look s.client).given placed.placed

  taken_now : IsTaken s.response.sending (taken_before look s) (look s.cut.value).taken (look s.client).taken
  taken_now = taken_by s.response.sending s.response.lines s.request.asks_head (taken_before look s)
      (look s.cut.value).taken (look s.client).taken sound.within (sound.response tell)

  took_now : (look s.client).before.1 ++ (look s.client).taken
      ≡ (span_look look tells s).before.1 ++ taken_now.sent
  took_now =
      (λ i. (sound.begun i).1 ++ taken_now.took i)
      ∙ sym (append_assoc (look s.begun.value).before.1 (taken_before look s) taken_now.sent)

  -- what the client gives from where the request begins
  abbrev bytes_now : List ℕ
  bytes_now = placed.given ++ (s.request.held ++ (look s.client).left)

  request_is : request_of look s ≡ first_request (placed.given ++ (s.request.held ++ (look s.client).left))
  request_is =
      ap first_request (asked_is (given_before look s) placed.given s.request.held (look s.client) placed.placed
      placed.whole)

  all_now : request_given look s ++ request_rest look s
      ≡ first_request (placed.given ++ (s.request.held ++ (look s.client).left))
  all_now =
      let front = front_of s.request.reading s.request placed.given (look s.client).left placed.stands in
      (λ i. given_now i ++ since (given_now i) (request_is i))
      ∙ ap (λ t. placed.given ++ t) (since_is placed.given front.0 (first_request bytes_now) front.1)
      ∙ sym front.1

  -- what it gave and may still give is the request
  pub gives_request : all_of (span_look look tells s) ≡ (span_look look tells s).source
  gives_request =
      subst (λ b. all_of (span_look look b s) ≡ (span_look look b s).source) (sym tell)
      (all_now ∙ sym request_is)

  pub is_session : IsSession (span_look look tells s) (is_dropped s.response.sending)
      (waiting s.response.sending) (look s.client)
  is_session = subst (λ b. IsSession (span_look look b s) (is_dropped s.response.sending)
      (waiting s.response.sending) (look s.client)) (sym tell) (record {
        bytes = bytes_now;
        gave =
            (λ i. (sound.begun i).0 ++ (placed.placed i ++ (look s.client).left))
            ∙ ap (λ l. (look s.begun.value).before.0 ++ l)
            (append_assoc (given_before look s) (placed.given ++ s.request.held) (look s.client).left
            ∙ ap (λ l. given_before look s ++ l) (append_assoc placed.given s.request.held (look s.client).left))
            ∙ sym (append_assoc (look s.begun.value).before.0 (given_before look s)
            (placed.given ++ (s.request.held ++ (look s.client).left)));
        request = all_now;
        sent = taken_now.sent;
        is_sent = taken_now.is_sent;
        took = took_now;
        of_line = taken_now.of_line;
        within_head = taken_now.within_head;
      })

  -- ---- a client that has ended

  -- where nothing is held and the client has nothing left, nothing is left of the request
  ended_rest : s.request.held ≡ [] → (look s.client).left ≡ [] → request_rest look s ≡ []
  ended_rest none ended =
      let bytes : List ℕ = bytes_now in
      nil_from_length (request_rest look s) (omega (
        arith,
        ap length all_now,
        ap length given_now,
        ap length none,
        ap length ended,
        length-append (request_given look s) (request_rest look s),
        length-append placed.given (s.request.held ++ (look s.client).left),
        length-append s.request.held (look s.client).left,
        first_within bytes,
      ))

  -- ---- the next request

  module _ (dropped : is_dropped s.response.sending ≡ true) where
    known_whole : IsKnown 0 s.request placed.given
    known_whole =
        subst (λ x. StandsBy x s.request placed.given (look s.client).left)
        (rule_dropped s.response.sending s.request s.place dropped sound.rule).whole placed.stands

    no_rest : request_rest look s ≡ []
    no_rest =
        (λ i. since (given_now i) (request_is i))
        ∙ since_is placed.given [] (first_request bytes_now)
        (known_first 0 s.request placed.given (look s.client).left known_whole)

    request_whole : IsRequest placed.given
    request_whole =
        let k = known_whole in
        record {
          head = k.head;
          whole = request_with (placed.given ++ s.request.held) k.rest placed.given s.request.held k.head k.size
              k.begins k.ends refl (omega (arith, k.long));
        }

    cut_now : IsCut s.request.asks_head (taken_before look s) (look s.cut.value).taken (look s.client).taken
    cut_now =
        subst (λ x. RespondsBy x s.response.lines s.request.asks_head (taken_before look s)
        (look s.cut.value).taken (look s.client).taken) (dropped_is s.response.sending dropped)
        (sound.response tell)

    pub may_continue : MayContinue (span_look look tells s) s.place
    may_continue =
        let k = known_whole in
        let c = cut_now in
        let rule = rule_dropped s.response.sending s.request s.place dropped sound.rule in
        subst (λ b. MayContinue (span_look look b s) s.place) (sym tell) (record {
          head = k.head;
          request = subst (IsRequestWith k.head) (sym given_now)
              (request_with (placed.given ++ s.request.held) k.rest placed.given s.request.held k.head k.size
              k.begins k.ends refl (omega (arith, k.long)));
          no_left = no_rest;
          persists_is = sym k.persists_is ∙ rule.persists_is;
          within = rule.within;
          told = c.told;
          lines = c.lines;
          are = c.are;
          ends = ap (λ b. c.told || b) (sym k.asks_is) ∙ c.ends;
          behind = c.behind;
          response_is = ap (λ x. written_by x (taken_before look s) (look s.cut.value).taken
              (look s.client).taken) (dropped_is s.response.sending dropped)
              ∙ (λ i. since_is (taken_before look s) c.lines (look s.cut.value).taken c.cut_is i
              ++ (close_line ++ since_is (look s.cut.value).taken c.behind (look s.client).taken c.taken_is i));
        })

    -- what came before the next request
    pub before_next : take (length (look s.client).given - length s.request.held) (look s.client).given
        ≡ given_before look s ++ placed.given
    before_next =
        rest_by_length (look s.client).given (given_before look s ++ placed.given) s.request.held
        (placed.placed ∙ sym (append_assoc (given_before look s) placed.given s.request.held))

    kept_now : IsKept (response_written look s) taken_now.sent
    kept_now =
        subst (λ b. IsSent b (waiting s.response.sending) (response_written look s) taken_now.sent) dropped
        taken_now.is_sent

    pub goes_behind : (t : Course C) → t.client ≡ s.client → t.begun.value ≡ s.client
        → t.surplus ≡ length s.request.held → t.request.held ≡ s.request.held → t.response ≡ fresh_response
        → GoesBehind (span_look look tells s) (span_look look tells t)
    goes_behind t client begun surplus held response =
        let l : look t.begun.value ≡ look s.client = ap look begun in
        let m : look t.client ≡ look s.client = ap look client in
        let before : given_before look t ≡ given_before look s ++ placed.given =
        (λ i. take (length (l i).given - surplus i) (l i).given) ∙ before_next in
        subst (λ b. GoesBehind (span_look look b s) (span_look look b t)) (sym tell) (record {
          request = subst IsRequest (sym given_now) request_whole;
          no_left = no_rest;
          gave =
              (λ i. (l i).before.0 ++ before i)
              ∙ ap (λ (b : List ℕ × List ℕ). b.0 ++ (given_before look s ++ placed.given)) sound.begun
              ∙ sym (append_assoc (look s.begun.value).before.0 (given_before look s) placed.given)
              ∙ ap (λ g. (span_look look tells s).before.0 ++ g) (sym given_now);
          sent = taken_now.sent;
          is_sent = kept_now;
          took = (λ i. (l i).before.1 ++ (l i).taken) ∙ took_now;
          no_given = given_is (given_before look t) [] t.request.held (look t.client).given
              (ap (λ (k : Look). k.given) m ∙ placed.placed
              ∙ sym (append_assoc (given_before look s) placed.given s.request.held)
              ∙ (λ i. sym before i ++ sym held i));
          no_taken =
              (λ i. written_by (response i).sending (l i).taken (look t.cut.value).taken (m i).taken)
              ∙ since_is (look s.client).taken [] (look s.client).taken (sym (append-nil (look s.client).taken));
          name = ap (λ (k : Look). k.name) m;
        })

-- where the client has ended, nothing is left of its span
pub ends_span : {C : Type 0} (look : C → Look) (tells : Bool) (s : Course C) → IsSound look tells s
    → (answer : Polled) → PollsHeld tells answer s.request (look s.client)
    → EndsSpan answer (span_look look tells s)
ends_span look tells s sound P.Some holds = tt
ends_span look tells s sound P.End (none, ended) =
    told_all tells (request_rest look s) (λ tell. ended_rest look tells s sound tell none (ended tell))
ends_span look tells s sound P.Again holds = tt
ends_span look tells s sound P.Failed holds = tt

-- ---- the spans that begin

module _ {C : Type 0} (look : C → Look) (tells : Bool) (t : Course C) (client : C)
    (client_is : t.client ≡ client) (begun_is : t.begun.value ≡ client)
    (response_is : t.response ≡ fresh_response) where
  fresh_responds : RespondsBy t.response.sending t.response.lines t.request.asks_head (taken_before look t)
      (look t.cut.value).taken (look t.client).taken
  fresh_responds =
      subst (λ (p : Response). RespondsBy p.sending p.lines t.request.asks_head (taken_before look t)
      (look t.cut.value).taken (look t.client).taken) (sym response_is) (
        [],
        ap (λ (k : C). (look k).taken) (client_is ∙ sym begun_is)
            ∙ sym (append-nil (look t.begun.value).taken),
        new_shows,
      )

  -- a span that begins is sound, where what came stands before what is held
  begins_sound : HoldsHead t.request.reading t.request.held
      → (tells ≡ true → (look client).given ≡ given_before look t ++ t.request.held)
      → (tells ≡ true → all_of (look client) ≡ (look client).source)
      → StandsBy t.request.reading t.request [] (look client).left
      → IsSound look tells t
  begins_sound head came whole stands = record {
    request = record {
      head = head;
      link = λ tell. subst (λ (k : C). IsPlaced (given_before look t) t.request (look k)) (sym client_is)
          (record {
            given = [];
            placed = came tell;
            whole = whole tell;
            stands = stands;
          });
    };
    response = λ tell. fresh_responds;
    within = subst (λ (p : Response). IsWithin p.sending) (sym response_is) tt;
    rule = subst (λ (p : Response). MayGoOn p.sending t.request t.place) (sym response_is)
        (λ found. absurd (cc));
    begun = ap (λ (k : C). (look k).before) (client_is ∙ sym begun_is);
  }

-- the first one
module _ {C : Type 0} (look : C → Look) (tells : Bool) (t : Course C) (client : C)
    (client_is : t.client ≡ client) (begun_is : t.begun.value ≡ client) (surplus_is : t.surplus ≡ 0)
    (request_is : t.request ≡ fresh_request t.request.chunks []) (response_is : t.response ≡ fresh_response) where
  given_first : given_before look t ≡ (look client).given
  given_first =
      (λ i. take (length (look (begun_is i)).given - surplus_is i) (look (begun_is i)).given)
      ∙ take_all (length (look client).given - 0) (look client).given (omega arith)

  pub first_sound : (tells ≡ true → all_of (look client) ≡ (look client).source) → IsSound look tells t
  first_sound whole =
      begins_sound look tells t client client_is begun_is response_is
      (subst (λ (r : Request). HoldsHead r.reading r.held) (sym request_is) (lacks_none, omega arith))
      (λ tell. sym (append-nil (look client).given)
      ∙ (λ i. sym given_first i ++ (sym request_is i).held))
      whole (subst (λ (r : Request). StandsBy r.reading r [] (look client).left) (sym request_is) refl)

  pub first_new : t.place ≡ 1 → t.reads ≡ 0 → t.writes ≡ 0 → IsNew look tells client t
  first_new place reads writes = record {
    client_is = client_is;
    request_is = request_is;
    response_is = response_is;
    place_is = place;
    no_reads = reads;
    no_writes = writes;
    since = ap (λ (k : C). (look k).before) begun_is;
    gave = λ i. (look (begun_is i)).before.0 ++ given_first i;
    took = λ i. (look (begun_is i)).before.1 ++ (look (begun_is i)).taken;
    no_given = told_none tells (request_given look t)
        ((λ i. since (given_first i) (given_on (request_is i).held (look (client_is i)).given))
        ∙ given_is (look client).given [] [] (look client).given (sym (append-nil (look client).given)));
    no_taken = told_none tells (response_written look t)
        ((λ i. written_by (response_is i).sending (look (begun_is i)).taken (look t.cut.value).taken
        (look (client_is i)).taken)
        ∙ since_is (look client).taken [] (look client).taken (sym (append-nil (look client).taken)));
  }

-- and one behind another
pub next_sound : {C : Type 0} (look : C → Look) (tells : Bool) (s t : Course C) → IsSound look tells s
    → t.client ≡ s.client → t.begun.value ≡ s.client → t.surplus ≡ length s.request.held
    → Decides (fresh_request s.request.chunks s.request.held) t.request → t.response ≡ fresh_response
    → IsSound look tells t
next_sound look tells s t sound client begun surplus d response =
    begins_sound look tells t s.client client begun response d.head
    (λ tell.
    let p = sound.request.link tell in
    let before : take (length (look s.client).given - length s.request.held) (look s.client).given
    ≡ given_before look s ++ p.given =
    rest_by_length (look s.client).given (given_before look s ++ p.given) s.request.held
    (p.placed ∙ sym (append_assoc (given_before look s) p.given s.request.held)) in
    p.placed ∙ sym (append_assoc (given_before look s) p.given s.request.held)
    ∙ (λ i. sym before i ++ s.request.held)
    ∙ (λ i. take (length (look (sym begun i)).given - sym surplus i) (look (sym begun i)).given
    ++ sym d.held_is i))
    (λ tell. (sound.request.link tell).whole) (d.stands (look s.client).left)

-- the session may carry one more request
pub place_within : {C : Type 0} (look : C → Look) (tells : Bool) (s : Course C) → IsSound look tells s
    → is_dropped s.response.sending ≡ true → s.place + 1 ≤ most_places
place_within look tells s sound dropped =
    let within = (rule_dropped s.response.sending s.request s.place dropped sound.rule).within in
    omega (arith, within)
