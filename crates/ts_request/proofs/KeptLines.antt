-- How the lines of a head that stay are put together in their room, line by line.
use Rattle.std.proofs.Common.{◌≡◌, ℕ, suc, ◌+◌, ◌-◌, ◌<◌, ◌≤◌, true, false, cond, List, [], ◌∷◌, ◌++◌, length}
use Rattle.std.proofs.Common.{take, drop, min, refl, sym, ap, subst, ◌∙◌, arith, append_assoc}
use Rattle.std.specs.Prelude.{not}
use Rattle.std.specs.List.{copy_within, position_or_len, slice_range}
use Rattle.std.proofs.lemmas.List.{append-nil, drop-drop, drop_all, drop-take, length-drop, length-take}
use Rattle.std.proofs.lemmas.List.{take-take}
use Rattle.std.proofs.lemmas.List.Edits.{drop-paste, take-paste}
use Rattle.ts_lists.proofs.Cases.{split}
use Rattle.ts_request.specs.Lines.{is_line_feed, kept_from, kept_line, kept_lines, line_stays}

-- how long the first line is, with the line feed that ends it
abbrev pub line_len : List ℕ → ℕ
line_len bytes = min (length bytes) (position_or_len is_line_feed bytes + 1)

-- the first line stands before the others
kept_one : (line bytes : List ℕ) → 0 < length bytes
    → kept_from line bytes
    ≡ kept_line (line ++ take (line_len bytes) bytes) ++ kept_lines (drop (line_len bytes) bytes)
kept_one line [] some = absurd (omega (arith, some))
kept_one line (b ∷ []) some =
    split (is_line_feed b)
    (λ t. cond t (kept_line (line ++ b ∷ []) ++ kept_from [] []) (kept_from (line ++ b ∷ []) [])
    ≡ at (min 1 (cond (not t) (1 + 0) 0 + 1)))
    (λ ends. ap at (first 0)) (λ not_ends. sym (append-nil (kept_line (line ++ b ∷ []))) ∙ ap at (first 1))
  where
    at : ℕ → List ℕ
    at k = kept_line (line ++ take k (b ∷ [])) ++ kept_lines (drop k (b ∷ []))

    first : (n : ℕ) → 1 ≡ min 1 (n + 1)
    first n = omega arith
kept_one line (b ∷ c ∷ bytes) some =
    split (is_line_feed b)
    (λ t. cond t (kept_line (line ++ b ∷ []) ++ kept_from [] (c ∷ bytes))
    (kept_from (line ++ b ∷ []) (c ∷ bytes))
    ≡ at (min (suc (length (c ∷ bytes))) (cond (not t) (1 + position_or_len is_line_feed (c ∷ bytes)) 0 + 1)))
    (λ ends. ap at ends_here)
    (λ not_ends. kept_one (line ++ b ∷ []) (c ∷ bytes) (omega arith)
    ∙ ap (λ l. kept_line l ++ kept_lines (drop n (c ∷ bytes)))
    (append_assoc line (b ∷ []) (take n (c ∷ bytes)))
    ∙ ap at goes_on)
  where
    n : ℕ
    n = line_len (c ∷ bytes)

    at : ℕ → List ℕ
    at k = kept_line (line ++ take k (b ∷ c ∷ bytes)) ++ kept_lines (drop k (b ∷ c ∷ bytes))

    ends_here : 1 ≡ min (suc (length (c ∷ bytes))) (0 + 1)
    ends_here = omega arith

    goes_on : suc n ≡ min (suc (length (c ∷ bytes))) ((1 + position_or_len is_line_feed (c ∷ bytes)) + 1)
    goes_on = omega arith

-- two lists with one rest have one rest further on
rest_on : (xs ys : List ℕ) (m n : ℕ) → m ≤ n → drop m xs ≡ drop m ys → drop n xs ≡ drop n ys
rest_on xs ys m n le same =
    let k : m + (n - m) ≡ n = omega arith in
    ap (λ j. drop j xs) (sym k) ∙ sym (drop-drop (n - m) m xs) ∙ ap (drop (n - m)) same
    ∙ drop-drop (n - m) m ys ∙ ap (λ j. drop j ys) k

-- Of the first `used` bytes of a room that was so at first, the lines before `at` that stay stand at its
-- front; those from there on are as they were.
pub record LinesKept (used : ℕ) (first room : List ℕ) (kept at : ℕ) : Type 0 where
  pub lines : take kept room ++ kept_lines (drop at (take used first)) ≡ kept_lines (take used first)
  pub behind : drop at room ≡ drop at first
  pub kept_within : kept ≤ at
  pub at_within : at ≤ used
  pub len : length room ≡ length first

pub kept_start : (used : ℕ) (first : List ℕ) → LinesKept used first first 0 0
kept_start used first = record {
  lines = refl;
  behind = refl;
  kept_within = omega arith;
  at_within = omega arith;
  len = refl;
}

-- all lines were looked at
pub kept_end : (used : ℕ) (first room : List ℕ) (kept at : ℕ) → used ≤ length first → used ≤ at
    → LinesKept used first room kept at
    → (take kept room ≡ kept_lines (take used first)) × (drop used room ≡ drop used first)
kept_end used first room kept at fits all kept_so =
    let same : at ≡ used = omega (arith, kept_so.at_within) in
    let none : drop at (take used first) ≡ [] =
    drop_all at (take used first) (omega (arith, length-take used first)) in (
      sym (append-nil (take kept room)) ∙ ap (λ l. take kept room ++ kept_lines l) (sym none) ∙ kept_so.lines,
      subst (λ n. drop n room ≡ drop n first) same kept_so.behind,
    )

-- one line more was looked at
module _ (used : ℕ) (first room : List ℕ) (kept at end : ℕ) (fits : used ≤ length first) (more : at < used)
    (so_far : LinesKept used first room kept at) (end_is : end ≡ at + line_len
    (slice_range room at used)) where
  abbrev rest : List ℕ
  rest = drop at (take used first)

  rest_is : slice_range room at used ≡ rest
  rest_is =
      let n : used ≡ at + (used - at) = omega arith in
      ap (take (used - at)) so_far.behind ∙ sym (drop-take at (used - at) first)
      ∙ ap (λ k. drop at (take k first)) (sym n)

  rest_len : length rest ≡ used - at
  rest_len = length-drop at (take used first)
      ∙ (let n = length-take used first in omega arith)

  n_is : end - at ≡ line_len rest
  n_is = let e = ap line_len rest_is in omega arith

  some : 0 < end - at
  some = omega (arith, n_is, rest_len)

  within : end ≤ used
  within = omega (arith, n_is, rest_len, end_is)

  line_is : slice_range room at end ≡ take (line_len rest) rest
  line_is =
      sym (take-take (end - at) (used - at) (drop at room) (omega (arith, within)))
      ∙ ap (take (end - at)) rest_is ∙ ap (λ k. take k rest) n_is

  left_is : drop (line_len rest) rest ≡ drop end (take used first)
  left_is =
      drop-drop (line_len rest) at (take used first)
      ∙ ap (λ k. drop k (take used first)) (let e = n_is in omega (arith, some))

  parts : kept_lines rest ≡ kept_line (slice_range room at end) ++ kept_lines (drop end (take used first))
  parts =
      kept_one [] rest (omega (arith, rest_len))
      ∙ (λ i. kept_line (sym line_is i) ++ kept_lines (left_is i))

  pub line_more : (new : List ℕ) (kept' : ℕ)
      → take kept' new ≡ take kept room ++ kept_line (slice_range room at end) → drop end new ≡ drop end room
      → kept' ≤ kept + (end - at) → length new ≡ length room → LinesKept used first new kept' end
  line_more new kept' front behind short len = record {
    lines = ap (λ l. l ++ kept_lines (drop end (take used first))) front
        ∙ append_assoc (take kept room) (kept_line (slice_range room at end))
        (kept_lines (drop end (take used first)))
        ∙ ap (λ l. take kept room ++ l) (sym parts) ∙ so_far.lines;
    behind = behind ∙ rest_on room first at end (omega (arith, some)) so_far.behind;
    kept_within = omega (arith, so_far.kept_within, some, short);
    at_within = within;
    len = len ∙ so_far.len;
  }

-- ---- one line

-- it goes
pub line_goes : (room : List ℕ) (at end kept : ℕ) → line_stays (slice_range room at end) ≡ false
    → take kept room ≡ take kept room ++ kept_line (slice_range room at end)
line_goes room at end kept goes =
    sym (append-nil (take kept room))
    ∙ ap (λ b. take kept room ++ cond b (slice_range room at end) []) (sym goes)

-- it stays, and is copied
module _ (room new : List ℕ) (at end kept : ℕ) (before : kept ≤ at) (ordered : at ≤ end)
    (fits : end ≤ length room)
    (is : new ≡ copy_within room at end kept) where
  inside : kept ≤ length room
  inside = omega arith

  piece : end - at ≤ length (drop at room)
  piece = let long = length-drop at room in omega arith

  pub line_stays_front : line_stays (slice_range room at end) ≡ true
      → take (kept + (end - at)) new ≡ take kept room ++ kept_line (slice_range room at end)
  line_stays_front stays =
      ap (take (kept + (end - at))) is ∙ take-paste room kept (drop at room) (end - at) inside piece
      ∙ ap (λ b. take kept room ++ cond b (slice_range room at end) []) (sym stays)

  pub line_stays_behind : drop end new ≡ drop end room
  line_stays_behind =
      rest_on new room (kept + (end - at)) end (omega arith)
      (ap (drop (kept + (end - at))) is ∙ drop-paste room kept (drop at room) (end - at) inside piece)
