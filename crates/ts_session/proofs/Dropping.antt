-- Where a span drops the line, by what is seen of it.
use Rattle.std.proofs.Common.{◌≡◌, ℕ, ◌<◌, Bool, true, List, ◌++◌, length, refl, sym, ap, subst, ◌∙◌, arith}
use Rattle.std.proofs.Common.{length-append}
use Rattle.std.specs.Prelude.{◌&&◌, Some, None, nat_lt}
use Rattle.std.proofs.lemmas.Bool.{and_from, lt-ltb}
use Rattle.httparse.specs.Grammar as grammar
use Rattle.httparse.specs.Grammar.{print_request}
use Rattle.ts_link.specs.Link.{Look}
use Rattle.ts_link.specs.declared.link.Put.{Put}
use Rattle.ts_wire.specs.RequestEnds.{end_of_request}
use Rattle.ts_wire.proofs.OneRequest.{one_request}
use Rattle.ts_session.specs.ChunksEnd.{chunks_end}
use Rattle.ts_session.specs.Course.{HasBodyOf, IsInChunks, IsKnown, IsSound, StandsBy, is_whole, may_go_on}
use Rattle.ts_session.specs.Course.{request_given, response_written}
use Rattle.ts_session.specs.Course.{span_look, taken_before}
use Rattle.ts_session.specs.Limits.{most_places}
use Rattle.ts_session.specs.Requests.{IsBodyBy, IsRequest, IsRequestWith, asks_head, persists}
use Rattle.ts_session.specs.Session.{DropsLine}
use Rattle.ts_session.specs.Writing.{DropsOn, FindsLine}
use Rattle.ts_session.specs.declared.course.Course.{Course}
use Rattle.ts_session.specs.declared.request.Reading.{Reading}
use Rattle.ts_session.specs.declared.request.Reading.TheVariants as R
use Rattle.ts_session.specs.declared.request.Request.{Request}
use Rattle.ts_session.specs.declared.response.Response.{Response}
use Rattle.ts_session.proofs.Bodies.{all_lacks, amid_none, body_long}
use Rattle.ts_session.proofs.ChunksEnd.{finds_chunks_end}
use Rattle.ts_session.proofs.Ends.{given_now, placed}
use Rattle.ts_session.proofs.FoundHeads.{begins_more, begins_some}

-- what is known of a request that was given whole
record IsGivenWhole (head : grammar.RequestHead) (r : Request) : Type 0 where
  whole : r.reading ≡ R.Known 0
  persists_is : r.persists ≡ persists head
  asks_is : r.asks_head ≡ asks_head head

module _ (head : grammar.RequestHead) (given : List ℕ) (request : IsRequestWith head given) where
  whole : IsRequest given
  whole = record { head = head; whole = request }

  -- it is given whole where where it ends is known
  known_whole : (n : ℕ) (r : Request) → r.reading ≡ R.Known n → IsKnown n r given → IsGivenWhole head r
  known_whole n r is k =
      let one = one_request (given ++ r.held) k.head head k.rest (request.body ++ r.held) k.begins
      (begins_more given r.held head request.body request.begins) in
      let same = one.0 in
      let long : length request.body ≡ k.size =
      body_long (end_of_request k.head) k.size request.body r.held
      (subst (HasBodyOf (end_of_request k.head) k.size) one.1 k.ends)
      (subst (λ h. IsBodyBy (end_of_request h) request.body) (sym same) request.ends) in
      let none : n ≡ 0 = omega (
        arith,
        k.long,
        long,
        ap length request.begins.reads.1,
        length-append (print_request head) request.body,
        ap (λ (h : grammar.RequestHead). length (print_request h)) same,
      ) in
      record {
        whole = is ∙ ap R.Known none;
        persists_is = k.persists_is ∙ ap persists same;
        asks_is = k.asks_is ∙ ap asks_head same;
      }

  -- one whose body in chunks goes on is not
  never_amid : (r : Request) → IsInChunks r (given ++ r.held) → ⊥
  never_amid r c =
      let one = one_request (given ++ r.held) c.head head c.rest (request.body ++ r.held) c.begins
      (begins_more given r.held head request.body request.begins) in
      let e = subst (λ e. IsBodyBy e request.body) (ap end_of_request (sym one.0) ∙ c.ends) request.ends in
      let found : chunks_end c.rest ≡ Some (length request.body) =
      ap chunks_end one.1 ∙ finds_chunks_end.whole request.body r.held e.0 e.1 e.2 in
      let wrong : None ≡ Some (length request.body) = sym (amid_none c.rest r.chunks c.amid) ∙ found in
      absurd (cc)

  given_whole : (x : Reading) (r : Request) (left : List ℕ) → r.reading ≡ x → StandsBy x r given left
      → IsGivenWhole head r
  given_whole R.Head r left is none =
      absurd (omega (arith, begins_some given head request.body request.begins, ap length none))
  given_whole (R.Known n) r left is k = known_whole n r is k
  given_whole R.Chunks r left is c = absurd (never_amid r c)
  given_whole R.Open r left is all =
      absurd (all_lacks (given ++ (r.held ++ left)) all given (r.held ++ left) refl whole)

module _ {C : Type 0} (look : C → Look) (tells may : Bool) (s : Course C) (p : Response) (answer : Put)
    (piece : List ℕ) (sound : IsSound look tells s) (may_is : may ≡ may_go_on s.request s.place)
    (d : DropsOn tells may s.request.asks_head s.response p (look s.cut.value) (look s.client) answer piece)
    (tell : tells ≡ true) where
  finds_now : (head : grammar.RequestHead) → IsRequestWith head (request_given look s)
      → persists head ≡ true → s.place < most_places
      → FindsLine (asks_head head) (response_written look s) p.sending answer piece
  finds_now head request goes within =
      let at = placed look tells s sound tell in
      let whole = given_whole head at.given
      (subst (IsRequestWith head) (given_now look tells s sound tell) request) s.request.reading s.request
      (look s.client).left refl at.stands in
      let may_go : may_go_on s.request s.place ≡ true =
      and_from (is_whole s.request.reading) (s.request.persists && nat_lt s.place most_places)
      (ap is_whole whole.whole)
      (and_from s.request.persists (nat_lt s.place most_places) (whole.persists_is ∙ goes)
      (lt-ltb s.place most_places within)) in
      subst (λ a. FindsLine a (response_written look s) p.sending answer piece) whole.asks_is
      (d.finds tell (may_is ∙ may_go) (taken_before look s) sound.response)

  pub drops_line : DropsLine (span_look look tells s) s.place s.response.sending p.sending answer piece
  drops_line =
      subst (λ b. DropsLine (span_look look b s) s.place s.response.sending p.sending answer piece) (sym tell)
      (record { goes_on = d.goes_on; finds = finds_now })
