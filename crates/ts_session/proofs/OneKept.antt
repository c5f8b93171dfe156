-- A response has one line that is dropped, so what is kept of it is one list.
use Rattle.std.proofs.Common.{◌≡◌, ℕ, ◌<◌, ◌≤◌, Bool, true, List, [], ◌++◌, length, take, drop, inl, ⊎_elim}
use Rattle.std.proofs.Common.{refl}
use Rattle.std.proofs.Common.{sym, ap, subst, ◌∙◌, arith, append_assoc, length-append}
use Rattle.std.proofs.lemmas.Bool.{cases_lt, or_right}
use Rattle.std.proofs.lemmas.List.{append-nil, append_cancel_left, take-append-le, take_at}
use Rattle.ts_lists.proofs.Fronts.{front_was_there, same_fronts}
use Rattle.ts_session.specs.Kept.{AreLines, HasOneKept, close_line, lacks_feed}
use Rattle.ts_session.specs.Lines.{BeginsLine, HasEnded}
use Rattle.ts_session.proofs.HeadWalks.{ended_begins, front_open, inside_begins}

-- whole lines, behind which one begins
begins : (told : Bool) (lines : List ℕ) → AreLines told lines → BeginsLine true lines
begins told lines are = record { told = told; are = are; ends = or_right told true refl }

-- no whole lines are longer than those before the line
module _ (told also : Bool) (lines more behind after : List ℕ) (are : AreLines told lines)
    (are_more : AreLines also (lines ++ more)) (is : more ++ after ≡ close_line ++ behind) where
  -- where they end within it
  within_line : 0 < length more → length more < length close_line → ⊥
  within_line some short =
      let front : more ≡ take (length more) close_line =
      sym (take_at more after (length more) refl) ∙ ap (take (length more)) is
      ∙ take-append-le (length more) close_line behind (omega (arith, short)) in
      inside_begins true true lines more (begins told lines are)
      (subst lacks_feed (sym front) (front_open (length more) short)) some (begins also (lines ++ more) are_more)

  -- or behind it
  behind_line : length close_line ≤ length more → ⊥
  behind_line long =
      let rest : List ℕ = drop (length close_line) more in
      let parts : more ≡ close_line ++ rest = front_was_there more after close_line behind is long in
      let ended : HasEnded (lines ++ more) = record {
        told = told;
        lines = lines;
        are = are;
        last = close_line;
        is_last = inl refl;
        behind = rest;
        is = ap (λ t. lines ++ t) parts;
      } in
      ended_begins true (lines ++ more) [] ended
      (subst (BeginsLine true) (sym (append-nil (lines ++ more))) (begins also (lines ++ more) are_more))

  never_longer : 0 < length more → ⊥
  never_longer some =
      ⊎_elim (λ (short : length more < length close_line). within_line some short)
      (λ (long : length close_line ≤ length more). behind_line long)
      (cases_lt (length more) (length close_line))

shorter : (told also : Bool) (lines others behind after : List ℕ) → AreLines told lines → AreLines also others
    → lines ++ (close_line ++ behind) ≡ others ++ (close_line ++ after) → length lines < length others → ⊥
shorter told also lines others behind after are are_others same short =
    let more : List ℕ = drop (length lines) others in
    let parts : others ≡ lines ++ more =
    front_was_there others (close_line ++ after) lines (close_line ++ behind) (sym same) (omega (arith, short)) in
    let rest : more ++ (close_line ++ after) ≡ close_line ++ behind =
    append_cancel_left lines (more ++ (close_line ++ after)) (close_line ++ behind)
    (sym (append_assoc lines more (close_line ++ after)) ∙ ap (λ t. t ++ (close_line ++ after)) (sym parts)
    ∙ sym same) in
    never_longer told also lines more behind (close_line ++ after) are (subst (AreLines also) parts are_others) rest
    (omega (arith, short, ap length parts, length-append lines more))

pub has_one_kept : HasOneKept
has_one_kept response a b k m =
    let same : k.lines ++ (close_line ++ k.behind) ≡ m.lines ++ (close_line ++ m.behind) =
    sym k.response_is ∙ m.response_is in
    let long : length k.lines ≡ length m.lines = by_cases k.lines m.lines
    (shorter k.told m.told k.lines m.lines k.behind m.behind k.are m.are same)
    (shorter m.told k.told m.lines k.lines m.behind k.behind m.are k.are (sym same)) in
    let parts = same_fronts k.lines m.lines (close_line ++ k.behind) (close_line ++ m.behind) long same in
    let rest : k.behind ≡ m.behind = append_cancel_left close_line k.behind m.behind parts.1 in
    k.kept_is ∙ (λ i. parts.0 i ++ rest i) ∙ sym m.kept_is
  where
    by_cases : (x y : List ℕ) → (length x < length y → ⊥) → (length y < length x → ⊥) → length x ≡ length y
    by_cases x y below above =
        ⊎_elim (λ (lt : length x < length y). absurd (below lt))
        (λ (ge : length y ≤ length x).
        ⊎_elim (λ (gt : length y < length x). absurd (above gt))
        (λ (le : length x ≤ length y). let e : length x ≡ length y = omega (arith, ge, le) in e)
        (cases_lt (length y) (length x)))
        (cases_lt (length x) (length y))
