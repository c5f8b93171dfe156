-- What a write to a client does to the response that is written to a span, and to the request that it shows.
use Rattle.std.proofs.Common.{◌≡◌, ℕ, ◌<◌, ◌≤◌, Bool, true, false, List, [], ◌++◌, length, take, drop, inl}
use Rattle.std.proofs.Common.{refl}
use Rattle.std.proofs.Common.{sym, ap, subst, ⊎_elim, ◌∙◌, arith, append_assoc}
use Rattle.std.specs.Prelude.{◌&&◌}
use Rattle.std.proofs.lemmas.Bool.{and_from, cases_lt, or_left}
use Rattle.std.proofs.lemmas.List.{append-nil, append_cancel_left, drop_at, length-take, take-take, take_at}
use Rattle.ts_link.specs.Link.{Look, Writes}
use Rattle.ts_link.specs.LinkAnswers.{PutsSome, count_put}
use Rattle.ts_link.specs.declared.link.Put.{Put}
use Rattle.ts_link.specs.declared.link.Put.TheVariants as P
use Rattle.ts_session.specs.Course.{HoldsRequest, IsRest, IsWithin, RespondsBy, StandsBy, TookSent, has_found}
use Rattle.ts_session.specs.Course.{since, stage_by, written_by}
use Rattle.ts_session.specs.Held.{StaysWhole}
use Rattle.ts_session.specs.Kept.{close_line}
use Rattle.ts_session.specs.Lines.{BeginsLine, GoesOver, HasEnded, PassesNoLine, ShowsHead, agrees}
use Rattle.ts_session.specs.Lines.{may_drop_at}
use Rattle.ts_session.specs.Writing.{DropsOn, LeavesAll, LeavesClient, WritesOn}
use Rattle.ts_session.specs.declared.lines.Lines.{Lines}
use Rattle.ts_session.specs.declared.request.Request.{Request}
use Rattle.ts_session.specs.declared.response.Response.{Response}
use Rattle.ts_session.specs.declared.response.Sending.{Sending}
use Rattle.ts_session.specs.declared.response.Sending.TheVariants as S
use Rattle.ts_session.proofs.HeadWalks.{begins_may, ended_begins}
use Rattle.ts_session.proofs.LineFronts.{ended_more}
use Rattle.ts_session.proofs.Parts.{since_is}

-- ---- the request

-- a write of the client leaves the request as it is, where all that the client gives is its source
pub request_stays : (tells : Bool) (before : List ℕ) (r : Request) (l m : Look)
    → (tells ≡ true → m.given ≡ l.given) → m.source ≡ l.source → StaysWhole tells l m
    → HoldsRequest tells before r l → HoldsRequest tells before r m
request_stays tells before r l m given source whole holds = record {
  head = holds.head;
  link = λ tell.
      let p = holds.link tell in
      let now = whole tell p.whole in
      let left : l.left ≡ m.left =
      append_cancel_left l.given l.left m.left
      (p.whole ∙ sym source ∙ sym now ∙ ap (λ g. g ++ m.left) (given tell)) in
      record {
        given = p.given;
        placed = given tell ∙ p.placed;
        whole = now;
        stands = subst (λ t. StandsBy r.reading r p.given t) left p.stands;
      };
}

-- ---- the response

-- what a write of the client leaves of it
pub leaves_client : (tells : Bool) (l m : Look) (answer : Put) (piece : List ℕ)
    → Writes tells l m answer piece → LeavesClient tells l m answer
leaves_client tells l m answer piece w = record {
  source = w.calls.source;
  name = w.calls.name;
  carried = w.calls.carried;
  uploaded = w.calls.uploaded;
  before = w.calls.before;
  faults = w.calls.faults;
  waits = w.calls.waits;
  given = λ tell. (w.told tell).given;
  left = λ tell. (w.told tell).left;
}

-- more was written behind it
since_more : (start sent more taken : List ℕ) → taken ≡ start ++ sent
    → since start (taken ++ more) ≡ since start taken ++ more
since_more start sent more taken is =
    since_is start (sent ++ more) (taken ++ more) (ap (λ t. t ++ more) is ∙ append_assoc start sent more)
    ∙ ap (λ t. t ++ more) (sym (since_is start sent taken is))

lacks_all : (answer : Put) (p : Response) (cut l m : Look) (tells : Bool) (piece : List ℕ)
    → Writes tells l m answer piece → LeavesAll answer p p cut cut l m
lacks_all (P.Took n) p cut l m tells piece w = tt
lacks_all P.Again p cut l m tells piece w = tt
lacks_all P.Failed p cut l m tells piece w = tt
lacks_all P.NoMemory p cut l m tells piece w = inl (refl, refl, w.lacks)

-- ---- a response that is passed on as it is

rest_written : (x : Sending) → IsRest x → (lines : Lines) (asks : Bool) (start cut l m more : List ℕ)
    → m ≡ l ++ more → RespondsBy x lines asks start cut l
    → (written_by x start cut m ≡ written_by x start cut l ++ more) × RespondsBy x lines asks start cut m
rest_written S.Head rest lines asks start cut l m more is responds = absurd rest
rest_written (S.Line count) rest lines asks start cut l m more is responds = absurd rest
rest_written (S.Owed from to) rest lines asks start cut l m more is responds = absurd rest
rest_written S.Passing rest lines asks start cut l m more is (sent, at, ended) = (
  ap (since start) is ∙ since_more start sent more l at,
  (
    sent ++ more,
    is ∙ ap (λ t. t ++ more) at ∙ append_assoc start sent more,
    ended_more sent more ended,
  ),
)
rest_written S.Dropped rest lines asks start cut l m more is c = (
  ap (λ t. since start cut ++ (close_line ++ t))
      (ap (since cut) is ∙ since_more cut c.behind more l c.taken_is)
      ∙ ap (λ t. since start cut ++ t) (sym (append_assoc close_line (since cut l) more))
      ∙ sym (append_assoc (since start cut) (close_line ++ since cut l) more),
  record {
    lines = c.lines;
    told = c.told;
    are = c.are;
    ends = c.ends;
    cut_is = c.cut_is;
    behind = c.behind ++ more;
    taken_is = is ∙ ap (λ t. t ++ more) c.taken_is ∙ append_assoc cut c.behind more;
  },
)

-- its head has ended, or had its line
pub rest_ended : (x : Sending) → IsRest x → (lines : Lines) (asks : Bool) (start cut l : List ℕ)
    → RespondsBy x lines asks start cut l → HasEnded (written_by x start cut l)
rest_ended S.Head rest lines asks start cut l responds = absurd rest
rest_ended (S.Line count) rest lines asks start cut l responds = absurd rest
rest_ended (S.Owed from to) rest lines asks start cut l responds = absurd rest
rest_ended S.Passing rest lines asks start cut l (sent, at, ended) =
    subst HasEnded (sym (since_is start sent l at)) ended
rest_ended S.Dropped rest lines asks start cut l c = record {
  told = c.told;
  lines = c.lines;
  are = c.are;
  last = close_line;
  is_last = inl refl;
  behind = c.behind;
  is = λ i. since_is start c.lines cut c.cut_is i ++ (close_line ++ since_is cut c.behind l c.taken_is i);
}

not_line : (x : Sending) (count : ℕ) → IsRest x → x ≡ S.Line count → ⊥
not_line S.Head count rest is = rest
not_line (S.Line n) count rest is = rest
not_line (S.Owed from to) count rest is = rest
not_line S.Passing count rest is = absurd (cc)
not_line S.Dropped count rest is = absurd (cc)

module _ (tells may asks : Bool) (p : Response) (cut l m : Look) (answer : Put) (piece : List ℕ)
    (rest : IsRest p.sending) where
  pub rest_writes : Writes tells l m answer piece → WritesOn tells may asks p p cut cut l m answer piece
  rest_writes w = record {
    takes = w.takes;
    leaves = leaves_client tells l m answer piece w;
    lacks = lacks_all answer p cut l m tells piece w;
    found = λ found. or_left (has_found p.sending) may found;
    on = λ start holds. record {
      written = λ tell. (rest_written p.sending rest p.lines asks start cut.taken l.taken m.taken
          (take (count_put answer) piece) (w.told tell).taken (holds tell)).0;
      holds = λ tell. (rest_written p.sending rest p.lines asks start cut.taken l.taken m.taken
          (take (count_put answer) piece) (w.told tell).taken (holds tell)).1;
    };
  }

  -- no line of it is found
  pub rest_drops : DropsOn tells may asks p p cut l answer piece
  rest_drops = record {
    goes_on = λ count is agreed. absurd (not_line p.sending count rest is);
    finds = λ tell so start holds.
        let ended = rest_ended p.sending rest p.lines asks start cut.taken l.taken (holds tell) in
        let written : List ℕ = written_by p.sending start cut.taken l.taken in
        record {
          begins = λ b agreed. absurd (ended_begins asks written [] ended
              (subst (BeginsLine asks) (sym (append-nil written)) b));
          stops = λ front behind parts some b agreed. absurd (ended_begins asks written front ended b);
        };
  }

-- ---- some of a head was written

stage_written : (ended : Bool) (start cut l : List ℕ) → written_by (stage_by ended) start cut l ≡ since start l
stage_written true start cut l = refl
stage_written false start cut l = refl

stage_response : (ended : Bool) (lines : Lines) → lines.ended ≡ ended → (asks : Bool)
    (start cut l sent : List ℕ) → l ≡ start ++ sent → ShowsHead sent lines
    → RespondsBy (stage_by ended) lines asks start cut l
stage_response true lines is asks start cut l sent at shows = (sent, at, shows.over is)
stage_response false lines is asks start cut l sent at shows = (sent, at, shows)

stage_plain : (ended : Bool) → has_found (stage_by ended) ≡ false
stage_plain true = refl
stage_plain false = refl

pub stage_within : (ended : Bool) → IsWithin (stage_by ended)
stage_within true = tt
stage_within false = tt

lacks_new : (answer : Put) (p q : Response) (cut l m : Look) → (answer ≡ P.NoMemory → ⊥)
    → LeavesAll answer p q cut cut l m
lacks_new (P.Took n) p q cut l m never = tt
lacks_new P.Again p q cut l m never = tt
lacks_new P.Failed p q cut l m never = tt
lacks_new P.NoMemory p q cut l m never = absurd (never refl)

pub head_writes : (tells may asks : Bool) (p q : Response) (cut l m : Look) (answer : Put)
    (piece : List ℕ) → p.sending ≡ S.Head → q.sending ≡ stage_by q.lines.ended → (answer ≡ P.NoMemory → ⊥)
    → Writes tells l m answer piece → GoesOver p.lines (take (count_put answer) piece) q.lines
    → WritesOn tells may asks p q cut cut l m answer piece
head_writes tells may asks p q cut l m answer piece head stage some w over = record {
  takes = w.takes;
  leaves = leaves_client tells l m answer piece w;
  lacks = lacks_new answer p q cut l m some;
  found = λ found.
      let wrong : true ≡ false = sym found ∙ ap has_found stage ∙ stage_plain q.lines.ended in
      absurd (cc);
  on = λ start holds. record {
    written = λ tell.
        let was = responds start (holds tell) in
        ap (λ x. written_by x start cut.taken m.taken) stage ∙ stage_written q.lines.ended start cut.taken m.taken
        ∙ ap (since start) (w.told tell).taken
        ∙ since_more start was.0 (take (count_put answer) piece) l.taken was.1
        ∙ ap (λ x. written_by x start cut.taken l.taken ++ take (count_put answer) piece) (sym head);
    holds = λ tell.
        let was = responds start (holds tell) in
        subst (λ x. RespondsBy x q.lines asks start cut.taken m.taken) (sym stage)
        (stage_response q.lines.ended q.lines refl asks start cut.taken m.taken
        (was.0 ++ take (count_put answer) piece)
        ((w.told tell).taken ∙ ap (λ t. t ++ take (count_put answer) piece) was.1
        ∙ append_assoc start was.0 (take (count_put answer) piece))
        (over was.0 was.2));
  };
}
  where
    responds : (start : List ℕ) → RespondsBy p.sending p.lines asks start cut.taken l.taken
        → TookSent start l.taken (λ sent. ShowsHead sent p.lines)
    responds start h = subst (λ x. RespondsBy x p.lines asks start cut.taken l.taken) head h

-- nothing of the piece was written
pub none_writes : (tells may asks : Bool) (p : Response) (cut l m : Look) (answer : Put) (piece : List ℕ)
    → count_put answer ≡ 0 → p.sending ≡ S.Head → Writes tells l m answer piece
    → WritesOn tells may asks p p cut cut l m answer piece
none_writes tells may asks p cut l m answer piece none head w = record {
  takes = w.takes;
  leaves = leaves_client tells l m answer piece w;
  lacks = lacks_all answer p cut l m tells piece w;
  found = λ found. or_left (has_found p.sending) may found;
  on = λ start holds. record {
    written = λ tell. ap (written_by p.sending start cut.taken) (same tell)
        ∙ sym (append-nil (written_by p.sending start cut.taken l.taken))
        ∙ ap (λ k. written_by p.sending start cut.taken l.taken ++ take k piece) (sym none);
    holds = λ tell. subst (λ t. RespondsBy p.sending p.lines asks start cut.taken t) (sym (same tell))
        (holds tell);
  };
}
  where
    same : tells ≡ true → m.taken ≡ l.taken
    same tell = (w.told tell).taken ∙ ap (λ k. l.taken ++ take k piece) none ∙ append-nil l.taken

-- what was written of a front was written of the piece
front_puts : (answer : Put) (piece front : List ℕ) (n : ℕ) → front ≡ take n piece → PutsSome answer (length front)
    → PutsSome answer (length piece) × (take (count_put answer) front ≡ take (count_put answer) piece)
front_puts (P.Took k) piece front n is puts =
    let long = ap length is in
    let short = length-take n piece in (
      (puts.0, omega (arith, puts.1, long, short)),
      ap (take k) is ∙ take-take k n piece (omega (arith, puts.1, long, short)),
    )
front_puts P.Again piece front n is puts = (tt, refl)
front_puts P.Failed piece front n is puts = (tt, refl)
front_puts P.NoMemory piece front n is puts = (tt, refl)

pub front_writes : (tells may asks : Bool) (p q : Response) (cut l m : Look) (answer : Put)
    (piece front : List ℕ) (n : ℕ) → front ≡ take n piece
    → WritesOn tells may asks p q cut cut l m answer front
    → WritesOn tells may asks p q cut cut l m answer piece
front_writes tells may asks p q cut l m answer piece front n is w =
    let puts = front_puts answer piece front n is w.takes in
    record {
      takes = puts.0;
      leaves = w.leaves;
      lacks = w.lacks;
      found = w.found;
      on = λ start holds.
          let on = w.on start holds in
          record {
            written = λ tell. on.written tell
                ∙ ap (λ t. written_by p.sending start cut.taken l.taken ++ t) puts.1;
            holds = on.holds;
          };
    }

-- no line is found where none may be dropped
pub never_drops : (tells may asks : Bool) (p q : Response) (cut l : Look) (answer : Put) (piece : List ℕ)
    → p.sending ≡ S.Head → may ≡ false → DropsOn tells may asks p q cut l answer piece
never_drops tells may asks p q cut l answer piece head never = record {
  goes_on = λ count is agreed. let wrong : S.Head ≡ S.Line count = sym head ∙ is in absurd (cc);
  finds = λ tell so start holds. let wrong : true ≡ false = sym so ∙ never in absurd (cc);
}

short_put : (answer : Put) (long : ℕ) → PutsSome answer long → count_put answer ≤ long
short_put (P.Took k) long puts = puts.1
short_put P.Again long puts = omega arith
short_put P.Failed long puts = omega arith
short_put P.NoMemory long puts = omega arith

-- where a piece is passed on up to a line, no line stands in what is
pub front_drops : (tells may asks : Bool) (p q : Response) (cut l : Look) (answer : Put)
    (piece front : List ℕ) (n : ℕ) → p.sending ≡ S.Head → front ≡ take n piece
    → PutsSome answer (length front) → (may_drop_at p.lines asks && agrees close_line piece) ≡ false
    → PassesNoLine asks p.lines piece n → DropsOn tells may asks p q cut l answer piece
front_drops tells may asks p q cut l answer piece front n head is puts unfound passes = record {
  goes_on = λ count line agreed. let wrong : S.Head ≡ S.Line count = sym head ∙ line in absurd (cc);
  finds = λ tell so start holds.
      let was = subst (λ x. RespondsBy x p.lines asks start cut.taken l.taken) head (holds tell) in
      let written : written_by p.sending start cut.taken l.taken ≡ was.0 =
      ap (λ x. written_by x start cut.taken l.taken) head ∙ since_is start was.0 l.taken was.1 in
      record {
        begins = λ b agreed.
            let drops = begins_may asks was.0 p.lines was.2 (subst (BeginsLine asks) written b) in
            let wrong : true ≡ false =
            sym (and_from (may_drop_at p.lines asks) (agrees close_line piece) drops agreed) ∙ unfound in
            absurd (cc);
        stops = λ before behind parts some b agreed.
            by_length was.0 was.2 before behind parts some
            (subst (λ w. BeginsLine asks (w ++ before)) written b) agreed;
      };
}
  where
    by_length : (sent : List ℕ) → ShowsHead sent p.lines → (before behind : List ℕ) → piece ≡ before ++ behind
        → 0 < length before → BeginsLine asks (sent ++ before) → agrees close_line behind ≡ true
        → count_put answer ≤ length before
    by_length sent shows before behind parts some b agreed =
        ⊎_elim
        (λ (inside : length before < count_put answer).
        let short = short_put answer (length front) puts in
        let within : length before < n =
        omega (arith, inside, short, ap length is, length-take n piece) in
        let front_is : take (length before) piece ≡ before =
        ap (take (length before)) parts ∙ take_at before behind (length before) refl in
        let rest_is : drop (length before) piece ≡ behind =
        ap (drop (length before)) parts ∙ drop_at before behind (length before) refl in
        let never : agrees close_line (drop (length before) piece) ≡ false =
        passes sent shows (length before) some within
        (subst (λ t. BeginsLine asks (sent ++ t)) (sym front_is) b) in
        let wrong : true ≡ false = sym agreed ∙ ap (agrees close_line) (sym rest_is) ∙ never in
        absurd (cc))
        (λ (long : count_put answer ≤ length before). long)
        (cases_lt (length before) (count_put answer))
