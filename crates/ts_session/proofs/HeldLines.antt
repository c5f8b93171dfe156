-- A line of a head that is held while it may be the one that is dropped, is dropped, or is owed after all.
use Rattle.std.proofs.Common.{◌≡◌, ◌⊎◌, ℕ, zero, suc, ◌+◌, ◌-◌, ◌<◌, ◌≤◌, Bool, true, false, ◌||◌, List, []}
use Rattle.std.proofs.Common.{◌∷◌, ◌++◌}
use Rattle.std.proofs.Common.{length, take, drop, min, inl, inr, refl, sym, ap, subst, ⊎_elim, ◌∙◌, arith}
use Rattle.std.proofs.Common.{append_assoc}
use Rattle.std.specs.Prelude.{◌==◌, nat_lt}
use Rattle.std.specs.List.{slice_range}
use Rattle.std.proofs.lemmas.Bool.{and_parts, cases_lt, cond-false, cond-true, eqb-true, le-ltb, lt-ltb}
use Rattle.std.proofs.lemmas.Bool.{or_left}
use Rattle.std.proofs.lemmas.Bool.{or_right}
use Rattle.std.proofs.lemmas.List.{append-nil, drop-drop, length-drop, length-take}
use Rattle.std.proofs.lemmas.List.{take_at}
use Rattle.ts_link.specs.Counts.{Counted}
use Rattle.ts_link.specs.Link.{Look}
use Rattle.ts_link.specs.LinkAnswers.{PutsSome, count_put, put_again, put_failed}
use Rattle.ts_link.specs.declared.link.Put.{Put}
use Rattle.ts_link.specs.declared.link.Put.TheVariants as P
use Rattle.ts_session.specs.Course.{HoldsResponse, IsOwing, IsWithin, RespondsBy, TookSent, has_found}
use Rattle.ts_session.specs.Course.{line_at}
use Rattle.ts_session.specs.Course.{since, written_by}
use Rattle.ts_session.specs.Kept.{close_line}
use Rattle.ts_session.specs.Lines.{BeginsLine, GoesOver, ShowsHead, agrees, may_drop_at}
use Rattle.ts_session.specs.Writing.{DropsOn, FindsLine, HoldsMore, LeavesAll, LeavesBy, PaysLine, WritesOn}
use Rattle.ts_session.specs.declared.lines.Lines.{Lines}
use Rattle.ts_session.specs.declared.response.Response.{Response}
use Rattle.ts_session.specs.declared.response.Sending.{Sending}
use Rattle.ts_session.specs.declared.response.Sending.TheVariants as S
use Rattle.ts_session.proofs.HeadWalks.{front_open, inside_begins, may_begins}
use Rattle.ts_session.proofs.LinkCalls.{replace_none, replace_on}
use Rattle.ts_session.proofs.Parts.{since_is, take_on}

-- ---- fronts of the line

-- a list that goes with a text has its bytes
agreed_take : (text list : List ℕ) (n : ℕ) → agrees text list ≡ true → n ≤ length text → n ≤ length list
    → take n list ≡ take n text
agreed_take text list zero agreed a b = refl
agreed_take [] list (suc n) agreed a b = absurd (omega (arith, a))
agreed_take (p ∷ ps) [] (suc n) agreed a b = absurd (omega (arith, b))
agreed_take (p ∷ ps) (c ∷ list) (suc n) agreed a b =
    let parts = and_parts (p == c) (agrees ps list) agreed in
    let first = eqb-true p c parts.0 in
    let rest = agreed_take ps list n parts.1 (omega (arith, a)) (omega (arith, b)) in
    λ i. sym first i ∷ rest i

-- so much of the line, and as much more as a piece has of it
more_line : (count more : ℕ) (piece : List ℕ) → agrees (drop count close_line) piece ≡ true
    → more ≤ length piece → count + more ≤ length close_line
    → take count close_line ++ take more piece ≡ take (count + more) close_line
more_line count more piece agreed within fits =
    ap (λ t. take count close_line ++ t)
    (agreed_take (drop count close_line) piece more agreed
    (omega (arith, fits, length-drop count close_line)) within)
    ∙ take_on count more close_line

pub slice_front : (count : ℕ) → slice_range close_line 0 count ≡ take count close_line
slice_front count = let same : count - 0 ≡ count = omega arith in ap (λ k. take k close_line) same

-- parts of the line, one behind the other
pub slice_on : (from at to : ℕ) → from ≤ at → at ≤ to
    → slice_range close_line from at ++ slice_range close_line at to ≡ slice_range close_line from to
slice_on from at to low high =
    let place : from + (at - from) ≡ at = omega (arith, low) in
    let long : (at - from) + (to - at) ≡ to - from = omega (arith, low, high) in
    ap (λ l. take (at - from) (drop from close_line) ++ take (to - at) l)
    (ap (λ k. drop k close_line) (sym place) ∙ sym (drop-drop (at - from) from close_line))
    ∙ take_on (at - from) (to - at) (drop from close_line)
    ∙ ap (λ k. take k (drop from close_line)) long

-- ---- what is held

-- so much of the line is held, where more than none is, behind whole lines
pub record IsHolding (asks : Bool) (p : Response) (count : ℕ) (start cut l : List ℕ) : Type 0 where
  pub took : TookSent start l (λ sent. ShowsHead sent p.lines × (may_drop_at p.lines asks ≡ true))
  pub written_is : written_by p.sending start cut l ≡ since start l ++ take count close_line

pub holding_head : (asks : Bool) (p : Response) (start cut l : List ℕ) → p.sending ≡ S.Head
    → may_drop_at p.lines asks ≡ true → RespondsBy p.sending p.lines asks start cut l
    → IsHolding asks p 0 start cut l
holding_head asks p start cut l head drops responds =
    let was = subst (λ x. RespondsBy x p.lines asks start cut l) head responds in
    record {
      took = (was.0, was.1, (was.2, drops));
      written_is = ap (λ x. written_by x start cut l) head ∙ sym (append-nil (since start l));
    }

pub holding_line : (asks : Bool) (p : Response) (count : ℕ) (start cut l : List ℕ) → p.sending ≡ S.Line count
    → RespondsBy p.sending p.lines asks start cut l → IsHolding asks p count start cut l
holding_line asks p count start cut l line responds =
    let was = subst (λ x. RespondsBy x p.lines asks start cut l) line responds in
    record { took = was; written_is = ap (λ x. written_by x start cut l) line }

-- so much of the line is held, or all of it was dropped
abbrev IsLineAt : Sending → ℕ → Type 0
IsLineAt x count =
    ((x ≡ S.Line count) × (count < length close_line)) ⊎ ((x ≡ S.Dropped) × (count ≡ length close_line))

line_cases : (count : ℕ) → count ≤ length close_line → IsLineAt (line_at count) count
line_cases count fits =
    ⊎_elim
    (λ (short : count < length close_line).
    inl (
      cond-true (nat_lt count (length close_line)) (S.Line count) S.Dropped
          (lt-ltb count (length close_line) short),
      short,
    ))
    (λ (long : length close_line ≤ count).
    inr (
      cond-false (nat_lt count (length close_line)) (S.Line count) S.Dropped
          (le-ltb count (length close_line) long),
      omega (arith, fits, long),
    ))
    (cases_lt count (length close_line))

line_found : (x : Sending) (count : ℕ) → IsLineAt x count → has_found x ≡ true
line_found x count (inl (line, short)) = ap has_found line
line_found x count (inr (dropped, whole)) = ap has_found dropped

line_within : (x : Sending) (count : ℕ) → 0 < count → IsLineAt x count → IsWithin x
line_within x count some (inl (line, short)) = subst IsWithin (sym line) (some, short)
line_within x count some (inr (dropped, whole)) = subst IsWithin (sym dropped) tt

-- more of it is held then, or it is dropped
line_next : (x : Sending) (lines : Lines) (asks : Bool) (count : ℕ) (start cut l : List ℕ) → cut ≡ l
    → IsLineAt x count
    → TookSent start l (λ sent. ShowsHead sent lines × (may_drop_at lines asks ≡ true))
    → (written_by x start cut l ≡ since start l ++ take count close_line) × RespondsBy x lines asks start cut l
line_next x lines asks count start cut l same (inl (line, short)) took = (
  ap (λ y. written_by y start cut l) line,
  subst (λ y. RespondsBy y lines asks start cut l) (sym line) took,
)
line_next x lines asks count start cut l same (inr (dropped, whole)) (sent, at, (shows, drops)) =
    let none : since cut l ≡ [] = since_is cut [] l (sym same ∙ sym (append-nil cut)) in
    let begins = may_begins asks sent lines shows drops in (
      (λ i. written_by (dropped i) start cut l)
          ∙ (λ i. since start (same i) ++ (close_line ++ none i))
          ∙ ap (λ t. since start l ++ t) (append-nil close_line)
          ∙ ap (λ k. since start l ++ take k close_line) (sym whole),
      subst (λ y. RespondsBy y lines asks start cut l) (sym dropped) (record {
        lines = sent;
        told = begins.told;
        are = begins.are;
        ends = begins.ends;
        cut_is = same ∙ at;
        behind = [];
        taken_is = sym same ∙ sym (append-nil cut);
      }),
    )

-- so much more of the line a piece has
abbrev more_of : ℕ → List ℕ → ℕ
more_of count piece = min (length piece) (length close_line - count)

module _ (tells may asks : Bool) (p q : Response) (cut cut' l : Look) (count : ℕ) (piece : List ℕ)
    (fits : count < length close_line) (some : 0 < length piece) (cut_is : cut' ≡ l)
    (lines_is : q.lines ≡ p.lines) (agreed : agrees (drop count close_line) piece ≡ true)
    (sending_is : q.sending ≡ line_at (count + more_of count piece)) where
  at_line : IsLineAt q.sending (count + more_of count piece)
  at_line =
      subst (λ x. IsLineAt x (count + more_of count piece)) (sym sending_is)
      (line_cases (count + more_of count piece) (omega (arith, fits)))

  -- a front of the piece that is held is a front of the line
  held_front : (sent front behind : List ℕ) → piece ≡ front ++ behind → length front < more_of count piece
      → (sent ++ take count close_line) ++ front ≡ sent ++ take (count + length front) close_line
  held_front sent front behind parts inside =
      append_assoc sent (take count close_line) front
      ∙ ap (λ t. sent ++ (take count close_line ++ t))
      (sym (ap (take (length front)) parts ∙ take_at front behind (length front) refl))
      ∙ ap (λ t. sent ++ t) (more_line count (length front) piece agreed (omega (arith, inside))
      (omega (arith, inside, fits)))

  module _ (holding : (start : List ℕ) → RespondsBy p.sending p.lines asks start cut.taken l.taken
      → IsHolding asks p count start cut.taken l.taken) where
    takes_held : (has_found p.sending || may) ≡ true
        → WritesOn tells may asks p q cut cut' l l (P.Took (more_of count piece)) piece
    takes_held so = record {
      takes = (omega (arith, fits, some), omega arith);
      leaves = record {
        source = refl;
        name = refl;
        carried = refl;
        uploaded = refl;
        before = refl;
        faults = refl;
        waits = refl;
        given = λ tell. refl;
        left = λ tell. replace_none l.given l.left;
      };
      lacks = tt;
      found = λ found. so;
      on = λ start holds. record {
        written = λ tell.
            let was = holding start (holds tell) in
            (next start was.took).0
            ∙ ap (λ t. since start l.taken ++ t)
            (sym (more_line count (more_of count piece) piece agreed (omega arith) (omega (arith, fits))))
            ∙ sym (append_assoc (since start l.taken) (take count close_line) (take (more_of count piece) piece))
            ∙ ap (λ t. t ++ take (more_of count piece) piece) (sym was.written_is);
        holds = λ tell. (next start (holding start (holds tell)).took).1;
      };
    }
      where
        next : (start : List ℕ)
            → TookSent start l.taken (λ sent. ShowsHead sent p.lines × (may_drop_at p.lines asks ≡ true))
            → (written_by q.sending start cut'.taken l.taken
            ≡ since start l.taken ++ take (count + more_of count piece) close_line)
            × RespondsBy q.sending q.lines asks start cut'.taken l.taken
        next start took =
            line_next q.sending q.lines asks (count + more_of count piece) start cut'.taken l.taken
            (ap (λ (k : Look). k.taken) cut_is) at_line
            (subst (λ (ls : Lines). TookSent start l.taken
            (λ sent. ShowsHead sent ls × (may_drop_at ls asks ≡ true))) (sym lines_is) took)

    -- no line begins within one that is held
    finds_held : (start : List ℕ) → RespondsBy p.sending p.lines asks start cut.taken l.taken
        → (BeginsLine asks (written_by p.sending start cut.taken l.taken)
        → HoldsMore 0 q.sending (P.Took (more_of count piece)) piece)
        → FindsLine asks (written_by p.sending start cut.taken l.taken) q.sending
        (P.Took (more_of count piece)) piece
    finds_held start responds here = record {
      begins = λ b agrees_all. here b;
      stops = λ front behind parts more_bytes b agrees_all.
          let was = holding start responds in
          let took = was.took in
          let begins = may_begins asks took.0 p.lines took.2.0 took.2.1 in
          let written : written_by p.sending start cut.taken l.taken ≡ took.0 ++ take count close_line =
          was.written_is ∙ ap (λ t. t ++ take count close_line) (since_is start took.0 l.taken took.1) in
          ⊎_elim
          (λ (inside : length front < more_of count piece).
          let short : count + length front < length close_line = omega (arith, inside, fits) in
          let same = held_front took.0 front behind parts inside in
          let long : 0 < length (take (count + length front) close_line) =
          omega (arith, length-take (count + length front) close_line, more_bytes) in
          absurd (inside_begins asks asks took.0 (take (count + length front) close_line) begins
          (front_open (count + length front) short) long
          (subst (BeginsLine asks) (ap (λ w. w ++ front) written ∙ same) b)))
          (λ (long : more_of count piece ≤ length front). long)
          (cases_lt (length front) (more_of count piece));
    }

  pub held_within : IsWithin q.sending
  held_within =
      line_within q.sending (count + more_of count piece) (omega (arith, some, fits)) at_line

-- from a head on
module _ (tells may asks : Bool) (p q : Response) (cut cut' l : Look) (answer : Put) (piece : List ℕ)
    (some : 0 < length piece) (cut_is : cut' ≡ l) (lines_is : q.lines ≡ p.lines) (head : p.sending ≡ S.Head)
    (drops : may_drop_at p.lines asks ≡ true) (agreed : agrees close_line piece ≡ true)
    (holds : HoldsMore 0 q.sending answer piece) where
  pub first_held : may ≡ true → WritesOn tells may asks p q cut cut' l l answer piece
  first_held so =
      subst (λ a. WritesOn tells may asks p q cut cut' l l a piece) (sym holds.answer_is)
      (takes_held tells may asks p q cut cut' l 0 piece (omega arith) some cut_is lines_is agreed holds.held
      (λ start responds. holding_head asks p start cut.taken l.taken head drops responds)
      (or_right (has_found p.sending) may so))

  pub first_held_drops : DropsOn tells may asks p q cut l answer piece
  first_held_drops = record {
    goes_on = λ count is more. let wrong : S.Head ≡ S.Line count = sym head ∙ is in absurd (cc);
    finds = λ tell so start responds.
        subst (λ a. FindsLine asks (written_by p.sending start cut.taken l.taken) q.sending a piece)
        (sym holds.answer_is)
        (finds_held tells may asks p q cut cut' l 0 piece (omega arith) some cut_is lines_is agreed holds.held
        (λ at was. holding_head asks p at cut.taken l.taken head drops was) start (responds tell)
        (λ b. record { answer_is = refl; held = holds.held }));
  }

-- from some of it on
module _ (tells may asks : Bool) (p q : Response) (cut cut' l : Look) (count : ℕ) (answer : Put)
    (piece : List ℕ) (within : IsWithin (S.Line count)) (some : 0 < length piece) (cut_is : cut' ≡ l)
    (lines_is : q.lines ≡ p.lines) (line : p.sending ≡ S.Line count)
    (agreed : agrees (drop count close_line) piece ≡ true) (holds : HoldsMore count q.sending answer piece) where
  pub more_held : WritesOn tells may asks p q cut cut' l l answer piece
  more_held =
      subst (λ a. WritesOn tells may asks p q cut cut' l l a piece) (sym holds.answer_is)
      (takes_held tells may asks p q cut cut' l count piece within.1 some cut_is lines_is agreed holds.held
      (λ start responds. holding_line asks p count start cut.taken l.taken line responds)
      (or_left (has_found p.sending) may (ap has_found line)))

  more_begins : (start : List ℕ) → RespondsBy p.sending p.lines asks start cut.taken l.taken
      → BeginsLine asks (written_by p.sending start cut.taken l.taken) → ⊥
  more_begins start responds b =
      let was = holding_line asks p count start cut.taken l.taken line responds in
      let took = was.took in
      let begins = may_begins asks took.0 p.lines took.2.0 took.2.1 in
      let written : written_by p.sending start cut.taken l.taken ≡ took.0 ++ take count close_line =
      was.written_is ∙ ap (λ t. t ++ take count close_line) (since_is start took.0 l.taken took.1) in
      inside_begins asks asks took.0 (take count close_line) begins (front_open count within.1)
      (omega (arith, length-take count close_line, within.0)) (subst (BeginsLine asks) written b)

  pub more_held_drops : DropsOn tells may asks p q cut l answer piece
  more_held_drops = record {
    goes_on = λ n is agrees_more.
        let same : count ≡ n = line_count count n (sym line ∙ is) in
        subst (λ k. HoldsMore k q.sending answer piece) same holds;
    finds = λ tell so start responds.
        subst (λ a. FindsLine asks (written_by p.sending start cut.taken l.taken) q.sending a piece)
        (sym holds.answer_is)
        (finds_held tells may asks p q cut cut' l count piece within.1 some cut_is lines_is agreed holds.held
        (λ at was. holding_line asks p count at cut.taken l.taken line was) start (responds tell)
        (λ b. absurd (more_begins start (responds tell) b)));
  }
    where
      line_count : (a b : ℕ) → S.Line a ≡ S.Line b → a ≡ b
      line_count a b same = cc

-- ---- what is owed

-- writes one after the other leave what they leave
pub leaves_on : (tells : Bool) (l m n : Look) (failed waited : Bool) → LeavesBy tells l m false false
    → LeavesBy tells m n failed waited → LeavesBy tells l n failed waited
leaves_on tells l m n failed waited a b = record {
  source = b.source ∙ a.source;
  name = b.name ∙ a.name;
  carried = b.carried ∙ a.carried;
  uploaded = b.uploaded ∙ a.uploaded;
  before = b.before ∙ a.before;
  faults = subst (λ k. Counted failed k n.faults) a.faults b.faults;
  waits = subst (λ k. Counted waited k n.waits) a.waits b.waits;
  given = λ tell. b.given tell ∙ a.given tell;
  left = λ tell. replace_on l.given m.given l.left m.left n.left (a.given tell) (a.left tell) (b.left tell);
}

since_paid : (start sent more l m : List ℕ) → l ≡ start ++ sent → m ≡ l ++ more
    → (m ≡ start ++ (sent ++ more)) × (since start m ≡ sent ++ more) × (since start l ≡ sent)
since_paid start sent more l m at paid =
    let now : m ≡ start ++ (sent ++ more) = paid ∙ ap (λ t. t ++ more) at ∙ append_assoc start sent more in
    (now, since_is start (sent ++ more) m now, since_is start sent l at)

module _ (tells may asks : Bool) (p : Response) (cut l m : Look) (from to : ℕ) (piece : List ℕ)
    (owed : p.sending ≡ S.Owed from to) (within : IsWithin (S.Owed from to)) where
  owing : (start : List ℕ) → RespondsBy p.sending p.lines asks start cut.taken l.taken
      → TookSent start l.taken (λ sent. IsOwing asks p.lines to (sent ++ slice_range close_line from to))
  owing start responds = subst (λ x. RespondsBy x p.lines asks start cut.taken l.taken) owed responds

  owed_written : (start : List ℕ) → written_by p.sending start cut.taken l.taken
      ≡ since start l.taken ++ slice_range close_line from to
  owed_written start = ap (λ x. written_by x start cut.taken l.taken) owed

  -- all of it is out: the head goes on
  module _ (paid : PaysLine tells from to l m false false) where
    paid_holds : (start : List ℕ) → HoldsResponse tells asks start cut.taken p l
        → HoldsResponse tells asks start cut.taken (record { sending = S.Head; lines = p.lines }) m
    paid_holds start holds tell =
        let was = owing start (holds tell) in (
          was.0 ++ slice_range close_line from to,
          (since_paid start was.0 (slice_range close_line from to) l.taken m.taken was.1 (paid.took tell)).0,
          was.2.shows,
        )

    paid_written : (start : List ℕ) → HoldsResponse tells asks start cut.taken p l → tells ≡ true
        → since start m.taken ≡ written_by p.sending start cut.taken l.taken
    paid_written start holds tell =
        let was = owing start (holds tell) in
        let part = since_paid start was.0 (slice_range close_line from to) l.taken m.taken was.1 (paid.took tell) in
        part.1 ∙ ap (λ t. t ++ slice_range close_line from to) (sym part.2) ∙ sym (owed_written start)

    paid_lacks : (a : Put) (q : Response) (cut' n : Look) → LeavesAll a p q cut cut' l n
    paid_lacks (P.Took k) q cut' n = tt
    paid_lacks P.Again q cut' n = tt
    paid_lacks P.Failed q cut' n = tt
    paid_lacks P.NoMemory q cut' n = inr (ap has_found owed)

    pub paid_writes : (q : Response) (cut' n : Look) (answer : Put)
        → WritesOn tells may asks (record { sending = S.Head; lines = p.lines }) q cut cut' m n answer piece
        → WritesOn tells may asks p q cut cut' l n answer piece
    paid_writes q cut' n answer w = record {
      takes = w.takes;
      leaves = leaves_on tells l m n (put_failed answer) (put_again answer) paid.leaves w.leaves;
      lacks = paid_lacks answer q cut' n;
      found = λ found. or_right (has_found p.sending) may (w.found found);
      on = λ start holds.
          let on = w.on start (paid_holds start holds) in
          record {
            written = λ tell. on.written tell
                ∙ ap (λ t. t ++ take (count_put answer) piece) (paid_written start holds tell);
            holds = on.holds;
          };
    }

    pub paid_drops : (q : Response) (answer : Put)
        → DropsOn tells may asks (record { sending = S.Head; lines = p.lines }) q cut m answer piece
        → DropsOn tells may asks p q cut l answer piece
    paid_drops q answer d = record {
      goes_on = λ count is agreed.
          let wrong : S.Owed from to ≡ S.Line count = sym owed ∙ is in absurd (cc);
      finds = λ tell so start holds.
          subst (λ w. FindsLine asks w q.sending answer piece) (paid_written start holds tell)
          (d.finds tell so start (paid_holds start holds));
    }

  -- some of it is still owed
  module _ (at : ℕ) (answer : Put) (short : at < to)
      (paid : PaysLine tells from at l m (put_failed answer) (put_again answer)) (none : count_put answer ≡ 0)
      (lacks : (q : Response) → LeavesAll answer p q cut cut l m) where
    rest_owed : (start : List ℕ) → (sent : List ℕ)
        → (sent ++ slice_range close_line from at) ++ slice_range close_line at to
        ≡ sent ++ slice_range close_line from to
    rest_owed start sent =
        append_assoc sent (slice_range close_line from at) (slice_range close_line at to)
        ∙ ap (λ t. sent ++ t) (slice_on from at to paid.ordered (omega (arith, short)))

    pub part_writes : ((long : ℕ) → PutsSome answer long)
        → WritesOn tells may asks p (record { sending = S.Owed at to; lines = p.lines }) cut cut l m answer piece
    part_writes puts = record {
      takes = puts (length piece);
      leaves = paid.leaves;
      lacks = lacks (record { sending = S.Owed at to; lines = p.lines });
      found = λ found. or_left (has_found p.sending) may (ap has_found owed);
      on = λ start holds. record {
        written = λ tell.
            let was = owing start (holds tell) in
            let part = since_paid start was.0 (slice_range close_line from at) l.taken m.taken was.1
            (paid.took tell) in
            ap (λ t. t ++ slice_range close_line at to) part.1 ∙ rest_owed start was.0
            ∙ ap (λ t. t ++ slice_range close_line from to) (sym part.2) ∙ sym (owed_written start)
            ∙ sym (append-nil (written_by p.sending start cut.taken l.taken))
            ∙ ap (λ k. written_by p.sending start cut.taken l.taken ++ take k piece) (sym none);
        holds = λ tell.
            let was = owing start (holds tell) in (
              was.0 ++ slice_range close_line from at,
              (since_paid start was.0 (slice_range close_line from at) l.taken m.taken was.1 (paid.took tell)).0,
              subst (IsOwing asks p.lines to) (sym (rest_owed start was.0)) was.2,
            );
      };
    }

    pub part_drops : (q : Response) → DropsOn tells may asks p q cut l answer piece
    part_drops q = record {
      goes_on = λ count is agreed.
          let wrong : S.Owed from to ≡ S.Line count = sym owed ∙ is in absurd (cc);
      finds = λ tell so start holds. record {
        begins = λ b agreed.
            let was = owing start (holds tell) in
            let written : written_by p.sending start cut.taken l.taken
            ≡ was.2.before ++ take to close_line =
            owed_written start
            ∙ ap (λ t. t ++ slice_range close_line from to) (since_is start was.0 l.taken was.1)
            ∙ was.2.written_is in
            absurd (inside_begins asks asks was.2.before (take to close_line) was.2.begins
            (front_open to within.1) (omega (arith, length-take to close_line, within.0, within.1))
            (subst (BeginsLine asks) written b));
        stops = λ front behind parts some b agreed. omega (arith, none);
      };
    }

-- ---- another line than the one that was held

module _ (tells may asks : Bool) (p q : Response) (cut cut' l n : Look) (count : ℕ) (lines : Lines)
    (answer : Put) (piece : List ℕ) (line : p.sending ≡ S.Line count)
    (over : GoesOver p.lines (take count close_line) lines) where
  owes : (start : List ℕ) → HoldsResponse tells asks start cut.taken p l
      → HoldsResponse tells asks start cut.taken (record { sending = S.Owed 0 count; lines = lines }) l
  owes start holds tell =
      let was = holding_line asks p count start cut.taken l.taken line (holds tell) in
      let took = was.took in
      let same : took.0 ++ take count close_line ≡ took.0 ++ slice_range close_line 0 count =
      ap (λ t. took.0 ++ t) (sym (slice_front count)) in (
        took.0,
        took.1,
        subst (IsOwing asks lines count) same (record {
          shows = over took.0 took.2.0;
          before = took.0;
          begins = may_begins asks took.0 p.lines took.2.0 took.2.1;
          written_is = refl;
        }),
      )

  owes_written : (start : List ℕ) → since start l.taken ++ slice_range close_line 0 count
      ≡ written_by p.sending start cut.taken l.taken
  owes_written start =
      ap (λ t. since start l.taken ++ t) (slice_front count)
      ∙ sym (ap (λ x. written_by x start cut.taken l.taken) line)

  owes_lacks : (a : Put) → LeavesAll a p q cut cut' l n
  owes_lacks (P.Took k) = tt
  owes_lacks P.Again = tt
  owes_lacks P.Failed = tt
  owes_lacks P.NoMemory = inr (ap has_found line)

  pub owes_writes
      : WritesOn tells may asks (record { sending = S.Owed 0 count; lines = lines }) q cut cut' l n answer piece
      → WritesOn tells may asks p q cut cut' l n answer piece
  owes_writes w = record {
    takes = w.takes;
    leaves = w.leaves;
    lacks = owes_lacks answer;
    found = λ found. or_left (has_found p.sending) may (ap has_found line);
    on = λ start holds.
        let on = w.on start (owes start holds) in
        record {
          written = λ tell. on.written tell ∙ ap (λ t. t ++ take (count_put answer) piece) (owes_written start);
          holds = on.holds;
        };
  }

  pub owes_drops : agrees (drop count close_line) piece ≡ false
      → DropsOn tells may asks (record { sending = S.Owed 0 count; lines = lines }) q cut l answer piece
      → DropsOn tells may asks p q cut l answer piece
  owes_drops other d = record {
    goes_on = λ k is agreed.
        let same : count ≡ k = line_count count k (sym line ∙ is) in
        let wrong : true ≡ false =
        sym agreed ∙ ap (λ j. agrees (drop j close_line) piece) (sym same) ∙ other in
        absurd (cc);
    finds = λ tell so start holds.
        subst (λ w. FindsLine asks w q.sending answer piece) (owes_written start)
        (d.finds tell so start (owes start holds));
  }
    where
      line_count : (a b : ℕ) → S.Line a ≡ S.Line b → a ≡ b
      line_count a b same = cc
