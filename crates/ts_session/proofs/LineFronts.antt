-- The line of a head that was begun, byte by byte.
use Rattle.std.proofs.Common.{◌≡◌, ℕ, zero, suc, ◌<◌, ◌≤◌, Bool, true, false, ◌&&◌, ◌||◌, List, []}
use Rattle.std.proofs.Common.{◌∷◌, ◌++◌, length, get_or, min, take, inl, inr, ⊎_elim, refl, sym, ap, subst}
use Rattle.std.proofs.Common.{◌∙◌}
use Rattle.std.proofs.Common.{arith}
use Rattle.std.proofs.Common.{length-append}
use Rattle.std.specs.Prelude.{◌==◌, ◌≢◌, codes, nat_le}
use Rattle.std.specs.List.{list_any}
use Rattle.std.proofs.lemmas.Bool.{and_from, and_parts, cases_lt, eq-eqb, eqb-true, le-leb, leb-true}
use Rattle.std.proofs.lemmas.Bool.{or_cases}
use Rattle.std.proofs.lemmas.Bool.{or_left, or_parts, or_right}
use Rattle.std.proofs.Math.Bool.{and_assoc}
use Rattle.std.proofs.lemmas.List.{append-nil, append_assoc}
use Rattle.ts_lists.proofs.Fronts.{same_fronts}
use Rattle.ts_link.specs.Texts.{line_feed}
use Rattle.ts_session.specs.Kept.{AreLines, IsLine, IsOtherLine, begins, close_line, empty_line, field}
use Rattle.ts_session.specs.Kept.{is_bodiless}
use Rattle.ts_session.specs.Kept.{lacks_feed, status, tells_end}
use Rattle.ts_session.specs.Lines.{GoesOver, HasEnded, IsFront, IsInHead, IsLast, LinesBefore, ShowsHead}
use Rattle.ts_session.specs.Lines.{agrees}
use Rattle.ts_session.specs.Lines.{front_bodiless}
use Rattle.ts_session.specs.Lines.{front_last, front_tells, new_front}
use Rattle.ts_session.specs.declared.lines.LineFront.{LineFront}
use Rattle.ts_session.specs.declared.lines.Lines.{Lines}
use Rattle.ts_session.specs.declared.lines.TheConstants.{LINE_FRONT}

-- ---- one byte more

-- the byte behind so many others goes with the text
abbrev fits : List ℕ → ℕ → ℕ → Bool
fits [] n b = true
fits (p ∷ ps) zero b = p == b
fits (p ∷ ps) (suc n) b = fits ps n b

-- a test of it
fits_test : (text : List ℕ) (n b : ℕ) (test : Bool) → (length text ≤ n → test ≡ true)
    → (n < length text → test ≡ (get_or text n 0 == b)) → test ≡ fits text n b
fits_test [] n b test over at = over (omega arith)
fits_test (p ∷ ps) zero b test over at = at (omega arith)
fits_test (p ∷ ps) (suc n) b test over at =
    fits_test ps n b test (λ le. over (omega (arith, le))) (λ lt. at (omega (arith, lt)))

-- behind the whole text every byte does
fits_over : (text : List ℕ) (n b : ℕ) → length text ≤ n → fits text n b ≡ true
fits_over [] n b le = refl
fits_over (p ∷ ps) zero b le = absurd (omega (arith, le))
fits_over (p ∷ ps) (suc n) b le = fits_over ps n b (omega (arith, le))

-- so only so many bytes need to be counted
fits_counted : (text line : List ℕ) (b : ℕ) → length text ≤ LINE_FRONT
    → fits text (min (length line) LINE_FRONT) b ≡ fits text (length line) b
fits_counted text line b short =
    ⊎_elim
    (λ (low : length line < LINE_FRONT).
    let same : min (length line) LINE_FRONT ≡ length line = omega (arith, low) in
    ap (λ n. fits text n b) same)
    (λ (high : LINE_FRONT ≤ length line).
    fits_over text (min (length line) LINE_FRONT) b (omega (arith, high, short))
    ∙ sym (fits_over text (length line) b (omega (arith, high, short))))
    (cases_lt (length line) LINE_FRONT)

agrees_none : (text : List ℕ) → agrees text [] ≡ true
agrees_none [] = refl
agrees_none (p ∷ ps) = refl

agrees_more : (text line : List ℕ) (b : ℕ) → agrees text (line ++ b ∷ [])
    ≡ (agrees text line && fits text (length line) b)
agrees_more [] line b = refl
agrees_more (p ∷ ps) [] b = last (p == b) (agrees ps []) (agrees_none ps)
  where
    last : (x y : Bool) → y ≡ true → (x && y) ≡ x
    last true y is = is
    last false y is = refl
agrees_more (p ∷ ps) (c ∷ line) b =
    ap (λ t. (p == c) && t) (agrees_more ps line b)
    ∙ sym (and_assoc (p == c) (agrees ps line) (fits ps (length line) b))

-- a line that does not go with a text does not with one byte more
pub agrees_off : (text line : List ℕ) (b : ℕ) → agrees text line ≡ false
    → agrees text (line ++ b ∷ []) ≡ false
agrees_off text line b off =
    agrees_more text line b ∙ ap (λ t. t && fits text (length line) b) off

-- a line that goes with a text so far, and one byte more
pub agrees_on : (text line : List ℕ) (b at : ℕ) (so_far test : Bool) → length text ≤ LINE_FRONT
    → at ≡ min (length line) LINE_FRONT → so_far ≡ agrees text line → (length text ≤ at → test ≡ true)
    → (at < length text → test ≡ (get_or text at 0 == b)) → (so_far && test) ≡ agrees text (line ++ b ∷ [])
agrees_on text line b at so_far test short at_is was over here =
    (λ i. was i && (fits_test text at b test over here
    ∙ ap (λ n. fits text n b) at_is ∙ fits_counted text line b short) i)
    ∙ sym (agrees_more text line b)

-- ---- a whole line

-- a line that goes with a text that is no longer begins with it, whatever follows
agreed_begins : (text line rest : List ℕ) → agrees text line ≡ true → length text ≤ length line
    → begins text (line ++ rest) ≡ true
agreed_begins [] line rest agreed long = refl
agreed_begins (p ∷ ps) [] rest agreed long = absurd (omega (arith, long))
agreed_begins (p ∷ ps) (b ∷ line) rest agreed long =
    let parts = and_parts (p == b) (agrees ps line) agreed in
    and_from (p == b) (begins ps (line ++ rest)) parts.0
    (agreed_begins ps line rest parts.1 (omega (arith, long)))

begins_self : (text : List ℕ) → begins text text ≡ true
begins_self [] = refl
begins_self (b ∷ text) = and_from (b == b) (begins text text) (eq-eqb b b refl) (begins_self text)

-- with as many bytes as the text, it is the text
agreed_whole : (text line rest : List ℕ) → agrees text line ≡ true → length line ≡ length text
    → begins (text ++ rest) (line ++ rest) ≡ true
agreed_whole [] [] rest agreed long = begins_self rest
agreed_whole [] (b ∷ line) rest agreed long = absurd (omega (arith, long))
agreed_whole (p ∷ ps) [] rest agreed long = absurd (omega (arith, long))
agreed_whole (p ∷ ps) (b ∷ line) rest agreed long =
    let parts = and_parts (p == b) (agrees ps line) agreed in
    and_from (p == b) (begins (ps ++ rest) (line ++ rest)) parts.0
    (agreed_whole ps line rest parts.1 (omega (arith, long)))

-- the line with the line feed that ends it
abbrev ended : List ℕ → List ℕ
ended line = line ++ (line_feed ∷ [])

ended_is_line : (line : List ℕ) → lacks_feed line → IsLine (ended line)
ended_is_line line one = record { front = line; is = refl; one = one }

-- two lines that end alike are one
same_line : (line text : List ℕ) → ended line ≡ ended text → line ≡ text
same_line line text same =
    let long : length line ≡ length text =
    omega (arith, ap length same, length-append line (line_feed ∷ []), length-append text (line_feed ∷ [])) in
    (same_fronts line text (line_feed ∷ []) (line_feed ∷ []) long same).0

-- two tests of which each is met where the other is are one
pub same_tests : (a b : Bool) → (a ≡ true → b ≡ true) → (b ≡ true → a ≡ true) → a ≡ b
same_tests true b on back = sym (on refl)
same_tests false true on back = back refl
same_tests false false on back = refl

-- a text with no line feed stands at the front of a line that ends exactly where the line goes with it and is
-- as long
begun_agrees : (text line : List ℕ) → lacks_feed text → begins text (ended line) ≡ true
    → (agrees text line ≡ true) × (length text ≤ length line)
begun_agrees [] line open_text begun = (refl, omega arith)
begun_agrees (p ∷ ps) [] open_text begun =
    let parts = and_parts (p == line_feed) (begins ps []) begun in
    let wrong : true ≡ false =
    sym parts.0 ∙ (or_parts (p == line_feed) (list_any (λ b. b == line_feed) ps) open_text).0 in
    absurd (cc)
begun_agrees (p ∷ ps) (b ∷ line) open_text begun =
    let parts = and_parts (p == b) (begins ps (ended line)) begun in
    let rest = begun_agrees ps line (or_parts (p == line_feed) (list_any (λ b. b == line_feed) ps) open_text).1
    parts.1 in
    (and_from (p == b) (agrees ps line) parts.0 rest.0, omega (arith, rest.1))

-- a line that ends and has another one at its front is that one
begun_whole : (text line : List ℕ) → lacks_feed text → lacks_feed line → begins (ended text) (ended line) ≡ true
    → text ≡ line
begun_whole [] [] open_text open_line begun = refl
begun_whole [] (b ∷ line) open_text open_line begun =
    let first : line_feed ≡ b = eqb-true line_feed b (and_parts (line_feed == b) true begun).0 in
    let wrong : false ≡ true =
    sym (or_parts (b == line_feed) (list_any (λ c. c == line_feed) line) open_line).0
    ∙ eq-eqb b line_feed (sym first) in
    absurd (cc)
begun_whole (p ∷ ps) [] open_text open_line begun =
    let parts = and_parts (p == line_feed) (begins (ended ps) []) begun in
    let wrong : true ≡ false =
    sym parts.0 ∙ (or_parts (p == line_feed) (list_any (λ b. b == line_feed) ps) open_text).0 in
    absurd (cc)
begun_whole (p ∷ ps) (b ∷ line) open_text open_line begun =
    let parts = and_parts (p == b) (begins (ended ps) (ended line)) begun in
    let first = eqb-true p b parts.0 in
    let rest = begun_whole ps line (or_parts (p == line_feed) (list_any (λ c. c == line_feed) ps) open_text).1
    (or_parts (b == line_feed) (list_any (λ c. c == line_feed) line) open_line).1 parts.1 in
    λ i. first i ∷ rest i

-- a line that goes with a text and is no longer is a front of it
pub agreed_front : (text line : List ℕ) → agrees text line ≡ true → length line ≤ length text
    → line ≡ take (length line) text
agreed_front text [] agreed short = refl
agreed_front [] (b ∷ line) agreed short = absurd (omega (arith, short))
agreed_front (p ∷ ps) (b ∷ line) agreed short =
    let parts = and_parts (p == b) (agrees ps line) agreed in
    let first = eqb-true p b parts.0 in
    let rest = agreed_front ps line parts.1 (omega (arith, short)) in
    λ i. sym first i ∷ rest i

module _ (line : List ℕ) (f : LineFront) (is : IsFront line f) where
  bodiless_line : front_bodiless f ≡ true → is_bodiless (ended line) ≡ true
  bodiless_line so =
      let parts = and_parts (nat_le 12 f.at) (f.no_content || f.not_modified) so in
      let long : 12 ≤ length line = omega (arith, leb-true 12 f.at parts.0, is.at_is) in
      ⊎_elim
      (λ (a : f.no_content ≡ true). or_left (begins (codes "HTTP/1.1 204") (ended line))
      (begins (codes "HTTP/1.1 304") (ended line))
      (agreed_begins (codes "HTTP/1.1 204") line (line_feed ∷ []) (sym is.no_content ∙ a) long))
      (λ (a : f.not_modified ≡ true). or_right (begins (codes "HTTP/1.1 204") (ended line))
      (begins (codes "HTTP/1.1 304") (ended line))
      (agreed_begins (codes "HTTP/1.1 304") line (line_feed ∷ []) (sym is.not_modified ∙ a) long))
      (or_cases f.no_content f.not_modified parts.1)

  bodiless_front : is_bodiless (ended line) ≡ true → front_bodiless f ≡ true
  bodiless_front so =
      ⊎_elim
      (λ (a : begins (codes "HTTP/1.1 204") (ended line) ≡ true).
      let b = begun_agrees (codes "HTTP/1.1 204") line refl a in
      let at : 12 ≤ f.at = omega (arith, b.1, is.at_is) in
      and_from (nat_le 12 f.at) (f.no_content || f.not_modified) (le-leb 12 f.at at)
      (or_left f.no_content f.not_modified (is.no_content ∙ b.0)))
      (λ (a : begins (codes "HTTP/1.1 304") (ended line) ≡ true).
      let b = begun_agrees (codes "HTTP/1.1 304") line refl a in
      let at : 12 ≤ f.at = omega (arith, b.1, is.at_is) in
      and_from (nat_le 12 f.at) (f.no_content || f.not_modified) (le-leb 12 f.at at)
      (or_right f.no_content f.not_modified (is.not_modified ∙ b.0)))
      (or_cases (begins (codes "HTTP/1.1 204") (ended line)) (begins (codes "HTTP/1.1 304") (ended line)) so)

  -- what was counted of the status line says whether the response has no body
  pub bodiless_same : is_bodiless (ended line) ≡ front_bodiless f
  bodiless_same = same_tests (is_bodiless (ended line)) (front_bodiless f) bodiless_front bodiless_line

  telling_line : front_tells f ≡ true → tells_end (ended line) ≡ true
  telling_line so =
      ⊎_elim
      (λ (a : (nat_le 15 f.at && f.sized) ≡ true).
      let parts = and_parts (nat_le 15 f.at) f.sized a in
      let long : 15 ≤ length line = omega (arith, leb-true 15 f.at parts.0, is.at_is) in
      or_left (begins (codes "content-length:") (ended line))
      (begins (codes "transfer-encoding: chunked\r\n") (ended line))
      (agreed_begins (codes "content-length:") line (line_feed ∷ []) (sym is.sized ∙ parts.1) long))
      (λ (a : ((f.at == 27) && f.chunked) ≡ true).
      let parts = and_parts (f.at == 27) f.chunked a in
      let long : length line ≡ 27 = omega (arith, eqb-true f.at 27 parts.0, is.at_is) in
      or_right (begins (codes "content-length:") (ended line))
      (begins (codes "transfer-encoding: chunked\r\n") (ended line))
      (agreed_whole (codes "transfer-encoding: chunked\r") line (line_feed ∷ []) (sym is.chunked ∙ parts.1)
      long))
      (or_cases (nat_le 15 f.at && f.sized) ((f.at == 27) && f.chunked) so)

  module _ (one : lacks_feed line) where
    telling_front : tells_end (ended line) ≡ true → front_tells f ≡ true
    telling_front so =
        ⊎_elim
        (λ (a : begins (codes "content-length:") (ended line) ≡ true).
        let b = begun_agrees (codes "content-length:") line refl a in
        let at : 15 ≤ f.at = omega (arith, b.1, is.at_is) in
        or_left (nat_le 15 f.at && f.sized) ((f.at == 27) && f.chunked)
        (and_from (nat_le 15 f.at) f.sized (le-leb 15 f.at at) (is.sized ∙ b.0)))
        (λ (a : begins (codes "transfer-encoding: chunked\r\n") (ended line) ≡ true).
        let same : codes "transfer-encoding: chunked\r" ≡ line =
        begun_whole (codes "transfer-encoding: chunked\r") line refl one a in
        let at : f.at ≡ 27 = is.at_is ∙ ap (λ l. min (length l) LINE_FRONT) (sym same) in
        let goes : f.chunked ≡ true =
        is.chunked ∙ ap (agrees (codes "transfer-encoding: chunked\r")) (sym same) in
        or_right (nat_le 15 f.at && f.sized) ((f.at == 27) && f.chunked)
        (and_from (f.at == 27) f.chunked (eq-eqb f.at 27 at) goes))
        (or_cases (begins (codes "content-length:") (ended line))
        (begins (codes "transfer-encoding: chunked\r\n") (ended line)) so)

    -- and that of a field line, whether it tells where the body ends
    pub telling_same : tells_end (ended line) ≡ front_tells f
    telling_same = same_tests (tells_end (ended line)) (front_tells f) telling_front telling_line

  -- the last line
  pub last_line : front_last f ≡ true → IsLast (ended line)
  last_line so =
      ⊎_elim
      (λ (a : (f.closes && (f.at == 18)) ≡ true).
      let parts = and_parts f.closes (f.at == 18) a in
      let long : length line ≡ 18 = omega (arith, eqb-true f.at 18 parts.1, is.at_is) in
      inl (ap ended (agreed_front close_line line (sym is.closes ∙ parts.0) (omega (arith, long))
      ∙ ap (λ n. take n close_line) long)))
      (λ (a : (f.empty && (f.at == 1)) ≡ true).
      let parts = and_parts f.empty (f.at == 1) a in
      let long : length line ≡ 1 = omega (arith, eqb-true f.at 1 parts.1, is.at_is) in
      inr (ap ended (agreed_front empty_line line (sym is.empty ∙ parts.0) (omega (arith, long))
      ∙ ap (λ n. take n empty_line) long)))
      (or_cases (f.closes && (f.at == 18)) (f.empty && (f.at == 1)) so)

  pub other_line : lacks_feed line → front_last f ≡ false → IsOtherLine (ended line)
  other_line one never = record {
    line_is = ended_is_line line one;
    not_close = λ close.
        let same : line ≡ codes "connection: close\r" =
        same_line line (codes "connection: close\r") close in
        let at : f.at ≡ 18 = is.at_is ∙ ap (λ l. min (length l) LINE_FRONT) same in
        let goes : f.closes ≡ true = is.closes ∙ ap (agrees close_line) same in
        let last : front_last f ≡ true =
        or_left (f.closes && (f.at == 18)) (f.empty && (f.at == 1))
        (and_from f.closes (f.at == 18) goes (eq-eqb f.at 18 at)) in
        let wrong : true ≡ false = sym last ∙ never in absurd (cc);
    not_empty = λ empty.
        let same : line ≡ codes "\r" = same_line line (codes "\r") empty in
        let at : f.at ≡ 1 = is.at_is ∙ ap (λ l. min (length l) LINE_FRONT) same in
        let goes : f.empty ≡ true = is.empty ∙ ap (agrees empty_line) same in
        let last : front_last f ≡ true =
        or_right (f.closes && (f.at == 18)) (f.empty && (f.at == 1))
        (and_from f.empty (f.at == 1) goes (eq-eqb f.at 1 at)) in
        let wrong : true ≡ false = sym last ∙ never in absurd (cc);
  }

-- ---- the lines of a head

pub new_front_is : IsFront [] new_front
new_front_is = record {
  at_is = refl;
  no_content = refl;
  not_modified = refl;
  sized = refl;
  chunked = refl;
  closes = refl;
  empty = refl;
}

-- nothing of a head was written
pub new_shows : ShowsHead [] (record { front = new_front; first = true; told = false; ended = false })
new_shows = record {
  going = λ open_head. record {
    lines = [];
    line = [];
    whole = refl;
    open_line = refl;
    front = new_front_is;
    before = (refl, refl);
  };
  over = λ wrong. absurd (cc);
}

-- a head that has ended has no more lines
pub ended_more : (sent more : List ℕ) → HasEnded sent → HasEnded (sent ++ more)
ended_more sent more e = record {
  told = e.told;
  lines = e.lines;
  are = e.are;
  last = e.last;
  is_last = e.is_last;
  behind = e.behind ++ more;
  is = ap (λ t. t ++ more) e.is ∙ append_assoc e.lines (e.last ++ e.behind) more
      ∙ ap (λ t. e.lines ++ t) (append_assoc e.last e.behind more);
}

pub ended_over : (s : Lines) (bytes : List ℕ) → s.ended ≡ true → GoesOver s bytes s
ended_over s bytes is sent shows = record {
  going = λ open_head. let wrong : true ≡ false = sym is ∙ open_head in absurd (cc);
  over = λ over. ended_more sent bytes (shows.over over);
}

pub over_none : (s : Lines) → GoesOver s [] s
over_none s sent shows = subst (λ l. ShowsHead l s) (sym (append-nil sent)) shows

pub over_on : (s t u : Lines) (a b : List ℕ) → GoesOver s a t → GoesOver t b u → GoesOver s (a ++ b) u
over_on s t u a b p q sent shows =
    subst (λ l. ShowsHead l u) (append_assoc sent a b) (q (sent ++ a) (p sent shows))

-- the status line ends
pub first_over : (s : Lines) → s.ended ≡ false → s.first ≡ true
    → GoesOver s (line_feed ∷ []) (record {
      front = new_front;
      first = false;
      told = front_bodiless s.front;
      ended = false;
    })
first_over s going first sent shows = record {
  going = λ open_head.
      let h = shows.going going in
      let before : LinesBefore true s.told h.lines =
      subst (λ x. LinesBefore x s.told h.lines) first h.before in
      record {
        lines = ended h.line;
        line = [];
        whole = ap (λ l. l ++ (line_feed ∷ [])) (h.whole ∙ ap (λ l. l ++ h.line) before.0)
            ∙ sym (append-nil (ended h.line));
        open_line = refl;
        front = new_front_is;
        before = subst (λ t. AreLines t (ended h.line)) (bodiless_same h.line s.front h.front)
            (status (ended h.line) (ended_is_line h.line h.open_line));
      };
  over = λ wrong. absurd (cc);
}

-- a field line ends
pub field_over : (s : Lines) → s.ended ≡ false → s.first ≡ false
    → GoesOver s (line_feed ∷ []) (record {
      front = new_front;
      first = false;
      told = s.told || front_tells s.front;
      ended = front_last s.front;
    })
field_over s going first sent shows = record {
  going = λ open_head. record {
    lines = h.lines ++ ended h.line;
    line = [];
    whole = whole ∙ sym (append-nil (h.lines ++ ended h.line));
    open_line = refl;
    front = new_front_is;
    before = subst (λ t. AreLines (s.told || t) (h.lines ++ ended h.line))
        (telling_same h.line s.front h.front h.open_line)
        (field s.told h.lines (ended h.line) before (other_line h.line s.front h.front h.open_line open_head));
  };
  over = λ last. record {
    told = s.told;
    lines = h.lines;
    are = before;
    last = ended h.line;
    is_last = last_line h.line s.front h.front last;
    behind = [];
    is = whole ∙ ap (λ l. h.lines ++ l) (sym (append-nil (ended h.line)));
  };
}
  where
    h : IsInHead sent s
    h = shows.going going

    before : AreLines s.told h.lines
    before = subst (λ x. LinesBefore x s.told h.lines) first h.before

    whole : sent ++ (line_feed ∷ []) ≡ h.lines ++ ended h.line
    whole = ap (λ l. l ++ (line_feed ∷ [])) h.whole ∙ append_assoc h.lines h.line (line_feed ∷ [])

still_open : (line : List ℕ) (b : ℕ) → lacks_feed line → b ≢ line_feed → lacks_feed (line ++ b ∷ [])
still_open [] b open_line other = last (b == line_feed) (λ so. other (eqb-true b line_feed so))
  where
    last : (t : Bool) → (t ≡ true → ⊥) → (t || false) ≡ false
    last true never = absurd (never refl)
    last false never = refl
still_open (c ∷ line) b open_line other =
    by_test (c == line_feed) open_line (λ rest. still_open line b rest other)
  where
    by_test : (t : Bool) → (t || list_any (λ d. d == line_feed) line) ≡ false
        → (lacks_feed line → lacks_feed (line ++ b ∷ []))
        → (t || list_any (λ d. d == line_feed) (line ++ b ∷ [])) ≡ false
    by_test true wrong later = absurd (cc)
    by_test false rest later = later rest

-- a byte of a line
pub byte_over : (s : Lines) (b : ℕ) (front : LineFront) → s.ended ≡ false → b ≢ line_feed
    → ((line : List ℕ) → IsFront line s.front → IsFront (line ++ b ∷ []) front)
    → GoesOver s (b ∷ []) (record s { front = front })
byte_over s b front going other goes sent shows = record {
  going = λ open_head.
      let h = shows.going going in
      record {
        lines = h.lines;
        line = h.line ++ b ∷ [];
        whole = ap (λ l. l ++ b ∷ []) h.whole ∙ append_assoc h.lines h.line (b ∷ []);
        open_line = still_open h.line b h.open_line other;
        front = goes h.line h.front;
        before = h.before;
      };
  over = λ over. let wrong : false ≡ true = sym going ∙ over in absurd (cc);
}

-- the same, of what was found of the line
pub first_ended : (s : Lines) (front : LineFront) (told : Bool) → s.ended ≡ false → s.first ≡ true
    → front ≡ new_front → told ≡ front_bodiless s.front
    → GoesOver s (line_feed ∷ []) (record { front = front; first = false; told = told; ended = false })
first_ended s front told going first fresh says =
    subst (λ (t : Lines). GoesOver s (line_feed ∷ []) t)
    (λ i. record { front = sym fresh i; first = false; told = sym says i; ended = false })
    (first_over s going first)

pub field_ended : (s : Lines) (front : LineFront) (told last : Bool) → s.ended ≡ false → s.first ≡ false
    → front ≡ new_front → told ≡ (s.told || front_tells s.front) → last ≡ front_last s.front
    → GoesOver s (line_feed ∷ []) (record { front = front; first = false; told = told; ended = last })
field_ended s front told last going first fresh says ends =
    subst (λ (t : Lines). GoesOver s (line_feed ∷ []) t)
    (λ i. record { front = sym fresh i; first = false; told = sym says i; ended = sym ends i })
    (field_over s going first)
