-- Where a request ends whose head is known, and its first request of all bytes.
use Rattle.std.proofs.Common.{◌≡◌, ℕ, ◌+◌, ◌-◌, ◌<◌, ◌≤◌, List, [], ◌++◌, length, take, drop, refl, sym, ap}
use Rattle.std.proofs.Common.{subst, ⊎_elim, ◌∙◌, arith, append_assoc, length-append, take-append-drop}
use Rattle.std.proofs.Common.{Option, Some, None}
use Rattle.std.proofs.lemmas.Bool.{cases_lt}
use Rattle.std.proofs.lemmas.List.{append-nil, append_cancel_left, length-drop, length-take-le}
use Rattle.std.proofs.lemmas.List.{take-append-le}
use Rattle.std.proofs.lemmas.List.{take_all, take_at}
use Rattle.ts_lists.proofs.Fronts.{front_was_there}
use Rattle.httparse.specs.Grammar as grammar
use Rattle.httparse.specs.Grammar.{print_request}
use Rattle.ts_wire.specs.Body.{IsEndedChunked}
use Rattle.ts_wire.specs.Heads.{BeginsWithRequest}
use Rattle.ts_wire.specs.Place.{Place}
use Rattle.ts_wire.specs.RequestEnds.{end_of_request}
use Rattle.ts_wire.specs.declared.body.BodyState.TheVariants as B
use Rattle.ts_wire.specs.declared.ends.RequestEnd.{RequestEnd}
use Rattle.ts_wire.specs.declared.ends.RequestEnd.TheVariants as E
use Rattle.ts_wire.specs.declared.framing.Framing.TheVariants as F
use Rattle.ts_wire.proofs.OneBody.{one_body}
use Rattle.ts_wire.proofs.OneRequest.{one_request}
use Rattle.ts_wire.proofs.PlaceBody.{place_body}
use Rattle.ts_session.specs.Chunks.{IsAmid}
use Rattle.ts_session.specs.ChunksEnd.{chunks_end}
use Rattle.ts_session.specs.Course.{HasBodyOf, IsInChunks, IsKnown}
use Rattle.ts_session.specs.FirstRequest.{first_request}
use Rattle.ts_session.specs.Requests.{GivesAll, IsBodyBy, IsRequest, IsRequestWith, LacksWhole, chunks}
use Rattle.ts_session.specs.Requests.{no_head, unknown}
use Rattle.ts_session.specs.declared.request.Request.{Request}
use Rattle.ts_session.proofs.ChunksEnd.{ended_on, finds_chunks_end}
use Rattle.ts_session.proofs.FirstRequest.{first_lacks, first_whole}
use Rattle.ts_session.proofs.FoundHeads.{begins_more}
use Rattle.ts_session.proofs.OneList as lists

-- ---- a body in chunks that goes on

amid_not_ended : (bytes body : List ℕ) (reader : Place) → IsAmid bytes reader → IsEndedChunked bytes body → ⊥
amid_not_ended bytes body reader amid ended =
    let f = amid.fed in
    let so = place_body F.Chunked bytes amid.body reader.held reader.phase reader.total f.stands f.counted f.sound []
    (λ on. refl) in
    let same = (one_body F.Chunked (bytes ++ []) amid.body body _ B.Ended so
    (subst (λ b. IsEndedChunked b body) (sym (append-nil bytes)) ended)).1 in
    let wrong : B.Unfinished ≡ B.Ended = sym amid.unfinished ∙ same in
    absurd (cc)

-- its end is not among the bytes that were looked at
pub amid_beyond : (bytes more : List ℕ) (reader : Place) (n : ℕ) → IsAmid bytes reader
    → chunks_end (bytes ++ more) ≡ Some n → length bytes < n
amid_beyond bytes more reader n amid ends =
    ⊎_elim
    (λ (above : length bytes < n). above)
    (λ (within : n ≤ length bytes).
    let e = finds_chunks_end.ended (bytes ++ more) n ends in
    let ended : IsEndedChunked (take n bytes) e.1 =
    subst (λ b. IsEndedChunked b e.1) (take-append-le n bytes more within) e.2 in
    absurd (amid_not_ended bytes e.1 reader amid
    (subst (λ b. IsEndedChunked b e.1) (take-append-drop n bytes)
    (ended_on (take n bytes) (drop n bytes) e.1 ended))))
    (cases_lt (length bytes) n)

-- and where nothing more comes, there is none
pub amid_none : (bytes : List ℕ) (reader : Place) → IsAmid bytes reader → chunks_end bytes ≡ None
amid_none bytes reader amid = by_end (chunks_end bytes) refl
  where
    by_end : (e : Option ℕ) → chunks_end bytes ≡ e → e ≡ None
    by_end None is = refl
    by_end (Some n) is =
        let above = amid_beyond bytes [] reader n amid (ap chunks_end (append-nil bytes) ∙ is) in
        absurd (omega (arith, above, (finds_chunks_end.ended bytes n is).0))

-- ---- a body of so many bytes

-- what follows does not change it
pub body_more : (end : RequestEnd) (size : ℕ) (bytes more : List ℕ) → HasBodyOf end size bytes
    → HasBodyOf end size (bytes ++ more)
body_more (E.Sized n) size bytes more is = is
body_more E.Chunked size bytes more (within, body) = (
  omega (arith, within, length-append bytes more),
  subst (IsBodyBy E.Chunked) (sym (take-append-le size bytes more within)) body,
)
body_more E.Unknown size bytes more never = absurd never

-- the first so many bytes are it
pub body_front : (end : RequestEnd) (size : ℕ) (body more : List ℕ) → HasBodyOf end size (body ++ more)
    → length body ≡ size → IsBodyBy end body
body_front (E.Sized n) size body more is long = long ∙ is
body_front E.Chunked size body more (within, ended) long =
    subst (IsBodyBy E.Chunked) (take_at body more size long) ended
body_front E.Unknown size body more never long = absurd never

-- and no others are
pub body_long : (end : RequestEnd) (size : ℕ) (body more : List ℕ) → HasBodyOf end size (body ++ more)
    → IsBodyBy end body → length body ≡ size
body_long (E.Sized n) size body more is long = long ∙ sym is
body_long E.Chunked size body more (within, whole) (content, ended, over) =
    let behind : drop size (body ++ more) ≡ more =
    lists.one_chunked (take size (body ++ more)) body whole.0 content (drop size (body ++ more)) more whole.1 ended
    whole.2 over (take-append-drop size (body ++ more)) in
    omega (
      arith,
      ap length behind,
      length-drop size (body ++ more),
      length-append body more,
      within,
    )
body_long E.Unknown size body more never is = absurd never

-- ---- bytes that begin with no whole request

pub all_lacks : (bytes : List ℕ) → GivesAll bytes → LacksWhole bytes
all_lacks bytes (no_head lacks) first more is r =
    subst (λ b. (h : grammar.RequestHead) (rest : List ℕ) → BeginsWithRequest b h rest → ⊥) is lacks r.head
    (r.whole.body ++ more) (begins_more first more r.head r.whole.body r.whole.begins)
all_lacks bytes (unknown h rest begins ends) first more is r =
    let same = one_request (first ++ more) h r.head rest (r.whole.body ++ more)
    (subst (λ b. BeginsWithRequest b h rest) is begins)
    (begins_more first more r.head r.whole.body r.whole.begins) in
    subst (λ e. IsBodyBy e r.whole.body) (ap end_of_request (sym same.0) ∙ ends) r.whole.ends
all_lacks bytes (chunks h rest begins ends none) first more is r =
    let same = one_request (first ++ more) h r.head rest (r.whole.body ++ more)
    (subst (λ b. BeginsWithRequest b h rest) is begins)
    (begins_more first more r.head r.whole.body r.whole.begins) in
    let e = subst (λ e. IsBodyBy e r.whole.body) (ap end_of_request (sym same.0) ∙ ends) r.whole.ends in
    let found : chunks_end rest ≡ Some (length r.whole.body) =
    ap chunks_end same.1 ∙ finds_chunks_end.whole r.whole.body more e.0 e.1 e.2 in
    let wrong : None ≡ Some (length r.whole.body) = sym none ∙ found in
    absurd (cc)

-- all that is left belongs to the request
pub first_all : (bytes : List ℕ) → GivesAll bytes → first_request bytes ≡ bytes
first_all bytes all = first_lacks bytes (all_lacks bytes all)

-- ---- a request whose end is known

-- a front of bytes that begin with a head, as long as its request
pub request_with : (all rest front behind : List ℕ) (h : grammar.RequestHead) (size : ℕ)
    → BeginsWithRequest all h rest → HasBodyOf (end_of_request h) size rest → all ≡ front ++ behind
    → length front ≡ length (print_request h) + size → IsRequestWith h front
request_with all rest front behind h size begins ends is long =
    let head : List ℕ = print_request h in
    let body : List ℕ = drop (length head) front in
    let parts : front ≡ head ++ body =
    front_was_there front behind head rest (sym is ∙ begins.reads.1) (omega (arith, long)) in
    let behind_is : rest ≡ body ++ behind =
    append_cancel_left head rest (body ++ behind)
    (sym begins.reads.1 ∙ is ∙ ap (λ t. t ++ behind) parts ∙ append_assoc head body behind) in
    record {
      body = body;
      begins = record { reads = (begins.reads.0, parts); short = begins.short; few = begins.few };
      ends = body_front (end_of_request h) size body behind
          (subst (HasBodyOf (end_of_request h) size) behind_is ends)
          (omega (arith, long, length-drop (length head) front));
    }

-- what was given of it, and what is still to be given
pub known_first : (n : ℕ) (r : Request) (given left : List ℕ) → IsKnown n r given
    → first_request (given ++ (r.held ++ left)) ≡ given ++ take n (r.held ++ left)
known_first n r given left k =
    ⊎_elim
    (λ (short : length rest < n).
    first_lacks (given ++ rest) (cut short) ∙ ap (λ l. given ++ l) (sym (take_all n rest (omega (arith, short)))))
    (λ (long : n ≤ length rest).
    let all : given ++ rest ≡ (given ++ take n rest) ++ drop n rest =
    ap (λ l. given ++ l) (sym (take-append-drop n rest)) ∙ sym (append_assoc given (take n rest) (drop n rest)) in
    let whole : IsRequest (given ++ take n rest) = record {
      head = k.head;
      whole = request_with (given ++ rest) (k.rest ++ left) (given ++ take n rest) (drop n rest) k.head k.size begins
          ends all (omega (arith, k.long, length-append given (take n rest), length-take-le n rest long));
    } in
    ap first_request all ∙ first_whole (given ++ take n rest) (drop n rest) whole)
    (cases_lt (length rest) n)
  where
    rest : List ℕ
    rest = r.held ++ left

    begins : BeginsWithRequest (given ++ (r.held ++ left)) k.head (k.rest ++ left)
    begins =
        subst (λ b. BeginsWithRequest b k.head (k.rest ++ left)) (append_assoc given r.held left)
        (begins_more (given ++ r.held) left k.head k.rest k.begins)

    ends : HasBodyOf (end_of_request k.head) k.size (k.rest ++ left)
    ends = body_more (end_of_request k.head) k.size k.rest left k.ends

    cut : length (r.held ++ left) < n → LacksWhole (given ++ (r.held ++ left))
    cut short first more is q =
        let same = one_request (first ++ more) k.head q.head (k.rest ++ left) (q.whole.body ++ more)
        (subst (λ b. BeginsWithRequest b k.head (k.rest ++ left)) is begins)
        (begins_more first more q.head q.whole.body q.whole.begins) in
        let long : length q.whole.body ≡ k.size =
        body_long (end_of_request k.head) k.size q.whole.body more
        (subst (HasBodyOf (end_of_request k.head) k.size) same.1 ends)
        (subst (λ h. IsBodyBy (end_of_request h) q.whole.body) (sym same.0) q.whole.ends) in
        omega (
          arith,
          short,
          k.long,
          long,
          ap length is,
          ap length q.whole.begins.reads.1,
          ap (λ (h : grammar.RequestHead). length (print_request h)) same.0,
          length-append given (r.held ++ left),
          length-append first more,
          length-append (print_request q.head) q.whole.body,
        )

-- of one whose body in chunks goes on, all that was looked at belongs to it
pub chunks_first : (r : Request) (bytes left : List ℕ) → IsInChunks r bytes
    → (more : List ℕ) × (first_request (bytes ++ left) ≡ bytes ++ more)
chunks_first r bytes left c = by_end (chunks_end (c.rest ++ left)) refl
  where
    begins : BeginsWithRequest (bytes ++ left) c.head (c.rest ++ left)
    begins = begins_more bytes left c.head c.rest c.begins

    by_end : (e : Option ℕ) → chunks_end (c.rest ++ left) ≡ e
        → (more : List ℕ) × (first_request (bytes ++ left) ≡ bytes ++ more)
    by_end None none =
        (left, first_all (bytes ++ left) (chunks c.head (c.rest ++ left) begins c.ends none))
    by_end (Some n) is =
        let above = amid_beyond c.rest left r.chunks n c.amid is in
        let found = finds_chunks_end.ended (c.rest ++ left) n is in
        let all : List ℕ = c.rest ++ left in
        let size : ℕ = n - length c.rest in
        let front : List ℕ = bytes ++ take size left in
        let long : length c.rest + size ≡ n = omega (arith, above) in
        let fits : size ≤ length left = omega (arith, found.0, long, length-append c.rest left) in
        let cut : bytes ++ left ≡ front ++ drop size left =
        ap (λ l. bytes ++ l) (sym (take-append-drop size left))
        ∙ sym (append_assoc bytes (take size left) (drop size left)) in
        let ends : HasBodyOf (end_of_request c.head) n all =
        subst (λ e. HasBodyOf e n all) (sym c.ends) (found.0, (found.1, found.2, found.3)) in
        let whole : IsRequest front = record {
          head = c.head;
          whole = request_with (bytes ++ left) all front (drop size left) c.head n begins ends cut
              (omega (
                arith,
                ap length c.begins.reads.1,
                length-append (print_request c.head) c.rest,
                length-append bytes (take size left),
                length-take-le size left fits,
                long,
              ));
        } in
        (take size left, ap first_request cut ∙ first_whole front (drop size left) whole)
