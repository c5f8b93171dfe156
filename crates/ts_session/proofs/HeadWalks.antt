-- A walk over the bytes of a head, line by line: what is known of its lines is so of no other ones.
use Rattle.std.proofs.Common.{◌≡◌, ◌⊎◌, ℕ, zero, suc, ◌<◌, cond, Bool, true, false, ◌&&◌, ◌||◌, List, [], ◌∷◌}
use Rattle.std.proofs.Common.{◌++◌}
use Rattle.std.proofs.Common.{length, take, inl, inr, ⊎_elim, refl, sym, ap, subst, ◌∙◌, arith, append_assoc}
use Rattle.std.specs.Prelude.{◌==◌, not, codes}
use Rattle.std.specs.List.{list_any}
use Rattle.std.proofs.lemmas.Bool.{and_from, and_parts, cases_Bool, eq-eqb, eqb-true}
use Rattle.std.proofs.lemmas.Bool.{false_from_ne_true, not-true, not_from_false, or_from, or_left, or_parts}
use Rattle.std.proofs.lemmas.Bool.{or_right}
use Rattle.std.proofs.lemmas.List.{append-nil, nil_from_length, take-take}
use Rattle.ts_link.specs.Texts.{line_feed}
use Rattle.ts_session.specs.Kept.{AreLines, IsLine, IsOtherLine, close_line, empty_line, field, is_bodiless}
use Rattle.ts_session.specs.Kept.{lacks_feed, status, tells_end}
use Rattle.ts_session.specs.Lines.{BeginsLine, HasEnded, IsInHead, LinesBefore, ShowsHead, agrees}
use Rattle.ts_session.specs.Lines.{may_drop_at}
use Rattle.ts_session.specs.declared.lines.Lines.{Lines}
use Rattle.ts_session.proofs.LineFronts.{agreed_front}

-- How far a head is: in its status line, or in a line behind that; whether its lines told where the response
-- ends; and what there is of the line that was begun. Or it has ended, or had its `connection: close`.
data Walk : Type 0 where
  going : Bool → Bool → List ℕ → Walk
  over : Walk

-- the line is that one
is_text : List ℕ → List ℕ → Bool
is_text text line = agrees text line && (length line == length text)

abbrev is_last : List ℕ → Bool
is_last line = is_text close_line line || is_text empty_line line

-- a line has ended
abbrev line_over : Bool → Bool → List ℕ → Walk
line_over true told line = going false (is_bodiless line) []
line_over false told line = cond (is_last line) over (going false (told || tells_end line) [])

-- one byte more
abbrev step : Walk → ℕ → Walk
step over b = over
step (going first told line) b =
    cond (b == line_feed) (line_over first told (line ++ b ∷ [])) (going first told (line ++ b ∷ []))

abbrev walk : Walk → List ℕ → Walk
walk w [] = w
walk w (b ∷ bytes) = walk (step w b) bytes

-- nothing of it was written
abbrev start : Walk
start = going true false []

-- ---- the walk over what is known of a head

text_is : (text line : List ℕ) → is_text text line ≡ true → line ≡ text
unfolding is_text
text_is text line is =
    let parts = and_parts (agrees text line) (length line == length text) is in
    let long = eqb-true (length line) (length text) parts.1 in
    agreed_front text line parts.0 (omega (arith, long)) ∙ ap (λ n. take n text) long
    ∙ take_whole text
  where
    take_whole : (l : List ℕ) → take (length l) l ≡ l
    take_whole [] = refl
    take_whole (b ∷ l) = ap (λ t. b ∷ t) (take_whole l)

agrees_self : (text : List ℕ) → agrees text text ≡ true
agrees_self [] = refl
agrees_self (b ∷ text) = and_from (b == b) (agrees text text) (eq-eqb b b refl) (agrees_self text)

is_text_self : (text : List ℕ) → is_text text text ≡ true
unfolding is_text
is_text_self text =
    and_from (agrees text text) (length text == length text) (agrees_self text)
    (eq-eqb (length text) (length text) refl)

walk_append : (w : Walk) (a b : List ℕ) → walk w (a ++ b) ≡ walk (walk w a) b
walk_append w [] b = refl
walk_append w (x ∷ a) b = walk_append (step w x) a b

walk_over : (bytes : List ℕ) → walk over bytes ≡ over
walk_over [] = refl
walk_over (b ∷ bytes) = walk_over bytes

-- bytes of a line that goes on
walk_open : (first told : Bool) (line bytes : List ℕ) → lacks_feed bytes
    → walk (going first told line) bytes ≡ going first told (line ++ bytes)
walk_open first told line [] one = ap (going first told) (sym (append-nil line))
walk_open first told line (b ∷ bytes) one =
    let parts = or_parts (b == line_feed) (list_any (λ c. c == line_feed) bytes) one in
    ap (λ t. walk (cond t (line_over first told (line ++ b ∷ [])) (going first told (line ++ b ∷ []))) bytes)
    parts.0
    ∙ walk_open first told (line ++ b ∷ []) bytes parts.1
    ∙ ap (going first told) (append_assoc line (b ∷ []) bytes)

-- a whole line
walk_line : (first told : Bool) (line : List ℕ) → IsLine line
    → walk (going first told []) line ≡ line_over first told line
walk_line first told line is =
    ap (walk (going first told [])) is.is
    ∙ walk_append (going first told []) is.front (line_feed ∷ [])
    ∙ ap (λ w. walk w (line_feed ∷ [])) (walk_open first told [] is.front is.one)
    ∙ ap (line_over first told) (sym is.is)

other_goes : (line : List ℕ) → IsOtherLine line → is_last line ≡ false
other_goes line other =
    or_from (is_text close_line line) (is_text empty_line line)
    (false_from_ne_true (is_text close_line line) (λ is. other.not_close (text_is close_line line is)))
    (false_from_ne_true (is_text empty_line line) (λ is. other.not_empty (text_is empty_line line is)))

walk_lines : (told : Bool) (lines : List ℕ) → AreLines told lines → walk start lines ≡ going false told []
walk_lines told lines (status line is) = walk_line true false line is
walk_lines told lines (field before front line are other) =
    walk_append start front line ∙ ap (λ w. walk w line) (walk_lines before front are)
    ∙ walk_line false before line other.line_is
    ∙ ap (λ t. cond t over (going false (before || tells_end line) [])) (other_goes line other)

walk_before : (first told : Bool) (lines line sent : List ℕ) → LinesBefore first told lines
    → sent ≡ lines ++ line → lacks_feed line → walk start sent ≡ going first told line
walk_before true told lines line sent (none, silent) is one =
    ap (walk start) (is ∙ ap (λ l. l ++ line) none) ∙ walk_open true false [] line one
    ∙ ap (λ t. going true t line) (sym silent)
walk_before false told lines line sent are is one =
    ap (walk start) is ∙ walk_append start lines line ∙ ap (λ w. walk w line) (walk_lines told lines are)
    ∙ walk_open false told [] line one

walk_shows : (sent : List ℕ) (s : Lines) (h : IsInHead sent s)
    → walk start sent ≡ going s.first s.told h.line
walk_shows sent s h = walk_before s.first s.told h.lines h.line sent h.before h.whole h.open_line

walk_last : (told : Bool) (last : List ℕ) → is_last last ≡ true → line_over false told last ≡ over
walk_last told last is = ap (λ t. cond t over (going false (told || tells_end last) [])) is

walk_ended : (sent : List ℕ) → HasEnded sent → walk start sent ≡ over
walk_ended sent e =
    ap (walk start) e.is ∙ walk_append start e.lines (e.last ++ e.behind)
    ∙ ap (λ w. walk w (e.last ++ e.behind)) (walk_lines e.told e.lines e.are)
    ∙ walk_append (going false e.told []) e.last e.behind
    ∙ ap (λ w. walk w e.behind) (ends e.last e.is_last)
    ∙ walk_over e.behind
  where
    ends : (last : List ℕ) → (last ≡ close_line) ⊎ (last ≡ empty_line)
        → walk (going false e.told []) last ≡ over
    ends last (inl is) =
        ap (walk (going false e.told [])) is
        ∙ walk_line false e.told close_line (record { front = codes "connection: close\r"; is = refl; one = refl })
        ∙ walk_last e.told close_line
        (or_left (is_text close_line close_line) (is_text empty_line close_line) (is_text_self close_line))
    ends last (inr is) =
        ap (walk (going false e.told [])) is
        ∙ walk_line false e.told empty_line (record { front = codes "\r"; is = refl; one = refl })
        ∙ walk_last e.told empty_line
        (or_right (is_text close_line empty_line) (is_text empty_line empty_line) (is_text_self empty_line))

-- ---- where a line begins

-- where whole lines were written, a line begins
pub begins_may : (asks : Bool) (sent : List ℕ) (s : Lines) → ShowsHead sent s → BeginsLine asks sent
    → may_drop_at s asks ≡ true
begins_may asks sent s shows b =
    ⊎_elim
    (λ (ended : s.ended ≡ true).
    let wrong : over ≡ going false b.told [] = sym (walk_ended sent (shows.over ended)) ∙ walk_lines b.told sent b.are in
    absurd (cc))
    (λ (open_head : s.ended ≡ false).
    let h = shows.going open_head in
    let same : going s.first s.told h.line ≡ going false b.told [] =
    sym (walk_shows sent s h) ∙ walk_lines b.told sent b.are in
    let first : s.first ≡ false = cc in
    let told : s.told ≡ b.told = cc in
    let line : h.line ≡ [] = cc in
    let at : s.front.at ≡ 0 = omega (arith, h.front.at_is, ap length line) in
    and_from (s.front.at == 0) (not s.first && (not s.ended && (s.told || asks))) (eq-eqb s.front.at 0 at)
    (and_from (not s.first) (not s.ended && (s.told || asks)) (not_from_false s.first first)
    (and_from (not s.ended) (s.told || asks) (not_from_false s.ended open_head)
    (ap (λ t. t || asks) told ∙ b.ends))))
    (cases_Bool s.ended)

-- and the other way round
pub may_begins : (asks : Bool) (sent : List ℕ) (s : Lines) → ShowsHead sent s → may_drop_at s asks ≡ true
    → BeginsLine asks sent
may_begins asks sent s shows may =
    let a = and_parts (s.front.at == 0) (not s.first && (not s.ended && (s.told || asks))) may in
    let b = and_parts (not s.first) (not s.ended && (s.told || asks)) a.1 in
    let c = and_parts (not s.ended) (s.told || asks) b.1 in
    let h = shows.going (not-true s.ended c.0) in
    let here : h.line ≡ [] =
    nil_from_length h.line (omega (arith, h.front.at_is, eqb-true s.front.at 0 a.0)) in
    let before : AreLines s.told h.lines =
    subst (λ x. LinesBefore x s.told h.lines) (not-true s.first b.0) h.before in
    record {
      told = s.told;
      are = subst (AreLines s.told) (sym (h.whole ∙ ap (λ t. h.lines ++ t) here ∙ append-nil h.lines)) before;
      ends = c.1;
    }

-- where a head has ended, no line of it begins
pub ended_begins : (asks : Bool) (sent more : List ℕ) → HasEnded sent → BeginsLine asks (sent ++ more) → ⊥
ended_begins asks sent more e b =
    let wrong : over ≡ going false b.told [] =
    sym (walk_append start sent more ∙ ap (λ w. walk w more) (walk_ended sent e) ∙ walk_over more)
    ∙ walk_lines b.told (sent ++ more) b.are in
    absurd (cc)

-- nor within a line that was begun where one begins
pub inside_begins : (asks also : Bool) (sent more : List ℕ) → BeginsLine asks sent → lacks_feed more
    → 0 < length more → BeginsLine also (sent ++ more) → ⊥
inside_begins asks also sent more b one some c =
    let same : going false b.told more ≡ going false c.told [] =
    sym (walk_append start sent more ∙ ap (λ w. walk w more) (walk_lines b.told sent b.are)
    ∙ walk_open false b.told [] more one)
    ∙ walk_lines c.told (sent ++ more) c.are in
    let none : more ≡ [] = cc in
    absurd (omega (arith, some, ap length none))

-- within that line the head has not ended
pub inside_going : (asks : Bool) (sent more : List ℕ) → BeginsLine asks sent → lacks_feed more
    → HasEnded (sent ++ more) → ⊥
inside_going asks sent more b one e =
    let wrong : going false b.told more ≡ over =
    sym (walk_append start sent more ∙ ap (λ w. walk w more) (walk_lines b.told sent b.are)
    ∙ walk_open false b.told [] more one)
    ∙ walk_ended (sent ++ more) e in
    absurd (cc)

-- ---- the line stands at one place

-- a front of the line has no line feed
pub front_open : (count : ℕ) → count < length close_line → lacks_feed (take count close_line)
front_open count short =
    subst lacks_feed (take-take-text count short) (open_take count (codes "connection: close\r") refl)
  where
    open_take : (n : ℕ) (l : List ℕ) → lacks_feed l → lacks_feed (take n l)
    open_take zero l one = refl
    open_take (suc n) [] one = refl
    open_take (suc n) (b ∷ l) one =
        let parts = or_parts (b == line_feed) (list_any (λ c. c == line_feed) l) one in
        or_from (b == line_feed) (list_any (λ c. c == line_feed) (take n l)) parts.0 (open_take n l parts.1)

    take-take-text : (n : ℕ) → n < length close_line → take n (codes "connection: close\r") ≡ take n close_line
    take-take-text n short = take-take n 18 close_line (omega (arith, short))
