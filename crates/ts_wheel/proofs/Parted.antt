-- A wheel in three parts: what adding and taking make of them.
use Rattle.std.proofs.Common.{◌≡◌, ℕ, ◌+◌, ◌<◌, ◌≤◌, List, [], ◌∷◌, ◌++◌, length, get_or, ap, sym, ◌∙◌, subst, ⊎_elim, ◌⊎◌, All, Some, append_assoc, arith}
use Rattle.std.proofs.lemmas.List.Elements.{All-nil, All-head, All-append, All-weaker}
use Rattle.ts_wheel.specs.declared.TheConstants.{ROWS}
use Rattle.ts_wheel.specs.declared.lap.TheConstants.{LAST_ROW}
use Rattle.ts_wheel.specs.Due.{added, after_due, next_moment}
use Rattle.ts_wheel.specs.Rows.{Lap, all_at}
use Rattle.ts_wheel.specs.Parts.{AreWithin, IsParted, all_tokens}
use Rattle.ts_wheel.proofs.Added.{added-behind, added-before, All-added, All-after_due, All-all_at}
use Rattle.ts_lists.proofs.Elements.{all_rest}

module _ {T : Type 0} where
  -- a list to which a token was added or not
  pub All-either : (P : ℕ × T → Type 0) (due : ℕ) (t : T) (old new : List (ℕ × T)) → P (due, t) → All P old
      → (new ≡ added due t old) ⊎ (new ≡ old) → All P new
  All-either P due t old new p all way = ⊎_elim
      (λ (e : new ≡ added due t old). subst (λ (l : List (ℕ × T)). All P l) (sym e)
      (All-added P due t old p all))
      (λ (e : new ≡ old). subst (λ (l : List (ℕ × T)). All P l) (sym e) all)
      way

  pub added-past : (due : ℕ) (t : T) (past : List (ℕ × T)) (lap : Lap T) (later : List (ℕ × T))
      → IsParted past lap later → due < lap.start
      → added due t past ++ (lap.tokens ++ later) ≡ added due t (all_tokens past lap later)
  added-past due t past lap later h lt =
      sym (added-before due t past (lap.tokens ++ later)
      (All-append (λ (e : ℕ × T). due < e.0) lap.tokens later
      (All-weaker (λ (e : ℕ × T). (lap.start ≤ e.0) × (e.0 < lap.start + ROWS)) (λ (e : ℕ × T). due < e.0)
      (λ e in'. let low = in'.0 in omega arith) lap.tokens h.within)
      (All-weaker (λ (e : ℕ × T). lap.start + ROWS ≤ e.0) (λ (e : ℕ × T). due < e.0) (λ e after. omega arith)
      later h.after)))

  pub added-lap : (due : ℕ) (t : T) (past : List (ℕ × T)) (lap : Lap T) (later : List (ℕ × T))
      → IsParted past lap later → lap.start ≤ due → due < lap.start + ROWS
      → past ++ (added due t lap.tokens ++ later) ≡ added due t (all_tokens past lap later)
  added-lap due t past lap later h low high =
      ap (λ zs. past ++ zs) (sym (added-before due t lap.tokens later
      (All-weaker (λ (e : ℕ × T). lap.start + ROWS ≤ e.0) (λ (e : ℕ × T). due < e.0)
      (λ e after. omega arith) later h.after)))
      ∙ sym (added-behind due t past (lap.tokens ++ later)
      (All-weaker (λ (e : ℕ × T). e.0 < lap.start) (λ (e : ℕ × T). e.0 ≤ due) (λ e before. omega arith)
      past h.before))

  pub added-after : (due : ℕ) (t : T) (past : List (ℕ × T)) (lap : Lap T) (later : List (ℕ × T))
      → IsParted past lap later → lap.start + ROWS ≤ due
      → past ++ (lap.tokens ++ added due t later) ≡ added due t (all_tokens past lap later)
  added-after due t past lap later h high =
      ap (λ zs. past ++ zs) (sym (added-behind due t lap.tokens later
      (All-weaker (λ (e : ℕ × T). (lap.start ≤ e.0) × (e.0 < lap.start + ROWS)) (λ (e : ℕ × T). e.0 ≤ due)
      (λ e in'. let up = in'.1 in omega arith) lap.tokens h.within)))
      ∙ sym (added-behind due t past (lap.tokens ++ later)
      (All-weaker (λ (e : ℕ × T). e.0 < lap.start) (λ (e : ℕ × T). e.0 ≤ due) (λ e before. omega arith)
      past h.before))

  pub parted_past : (due : ℕ) (t : T) (past new : List (ℕ × T)) (lap : Lap T) (later : List (ℕ × T))
      → IsParted past lap later → due < lap.start
      → (new ≡ added due t past) ⊎ (new ≡ past) → IsParted new lap later
  parted_past due t past new lap later h lt way = record {
    before = All-either (λ (e : ℕ × T). e.0 < lap.start) due t past new lt h.before way;
    within =
        h.within;
    after = h.after;
  }

  pub parted_lap : (due : ℕ) (t : T) (past : List (ℕ × T)) (lap new : Lap T) (later : List (ℕ × T))
      → IsParted past lap later → lap.start ≤ due → due < lap.start + ROWS → new.start ≡ lap.start
      → (new.tokens ≡ added due t lap.tokens) ⊎ (new.tokens ≡ lap.tokens) → IsParted past new later
  parted_lap due t past lap new later h low high start way =
      let within : AreWithin lap.start new.tokens = All-either
      (λ (e : ℕ × T). (lap.start ≤ e.0) × (e.0 < lap.start + ROWS)) due t lap.tokens new.tokens
      (low, high) h.within way in
      record {
        before = subst (λ (n : ℕ). All (λ (e : ℕ × T). e.0 < n) past) (sym start) h.before;
        within = subst (λ (n : ℕ). AreWithin n new.tokens) (sym start) within;
        after = subst (λ (n : ℕ). All (λ (e : ℕ × T). n + ROWS ≤ e.0) later) (sym start) h.after;
      }

  pub parted_after : (due : ℕ) (t : T) (past : List (ℕ × T)) (lap : Lap T) (later new : List (ℕ × T))
      → IsParted past lap later → lap.start + ROWS ≤ due
      → (new ≡ added due t later) ⊎ (new ≡ later) → IsParted past lap new
  parted_after due t past lap later new h high way = record {
    before = h.before;
    within = h.within;
    after = All-either (λ (e : ℕ × T). lap.start + ROWS ≤ e.0) due t
        later new high h.after way;
  }

  -- the first token may be taken from before the lap or from the lap
  pub taken_past : (now : ℕ) (past new : List (ℕ × T)) (lap : Lap T) (later : List (ℕ × T))
      → IsParted past lap later → new ≡ after_due now past → IsParted new lap later
  taken_past now past new lap later h is = record {
    before = subst (λ (l : List (ℕ × T)). All (λ (e : ℕ × T). e.0 < lap.start) l) (sym is)
        (All-after_due (λ (e : ℕ × T). e.0 < lap.start) now past h.before);
    within = h.within;
    after = h.after;
  }

  pub taken_lap : (now : ℕ) (lap new : Lap T) (later : List (ℕ × T)) → IsParted [] lap later
      → new.start ≡ lap.start → new.tokens ≡ after_due now lap.tokens → IsParted [] new later
  taken_lap now lap new later h start is =
      let W : ℕ × T → Type 0 = λ e. (lap.start ≤ e.0) × (e.0 < lap.start + ROWS) in
      let within : AreWithin lap.start new.tokens = subst (λ (l : List (ℕ × T)). All W l) (sym is)
      (All-after_due W now lap.tokens h.within) in
      record {
        before = All-nil (λ (e : ℕ × T). e.0 < new.start);
        within = subst (λ (n : ℕ). AreWithin n new.tokens) (sym start) within;
        after = subst (λ (n : ℕ). All (λ (e : ℕ × T). n + ROWS ≤ e.0) later) (sym start) h.after;
      }

  -- what holds of the moments of all tokens holds of that of the first row
  pub of_row : (P : ℕ → Type 0) (due : ℕ) (ts : List T) (rest : List (ℕ × T)) → 0 < length ts
      → All (λ e. P e.0) (all_at due ts ++ rest) → P due
  of_row P due [] rest full all = absurd (omega arith)
  of_row P due (t ∷ ts) rest full all = All-head (λ (e : ℕ × T). P e.0) (due, t) (all_at due ts ++ rest) all

  -- What holds while rows are moved into a lap: what was moved is in the lap, before all that is left.
  pub record IsMoving (start : ℕ) (lap : Lap T) (later all : List (ℕ × T)) : Type 0 where
    pub started : lap.start ≡ start
    pub within : AreWithin start lap.tokens
    pub left : All (λ e. start ≤ e.0) later
    pub moved : lap.tokens ++ later ≡ all
    pub before : All (λ e. All (λ f. e.0 < f.0) later) lap.tokens

  pub move_begins : (start : ℕ) (lap : Lap T) (later : List (ℕ × T)) → lap.start ≡ start → lap.tokens ≡ []
      → All (λ e. start ≤ e.0) later → IsMoving start lap later later
  move_begins start lap later is none left = record {
    started = is;
    within = subst (λ (l : List (ℕ × T)). AreWithin start l) (sym none)
        (All-nil (λ (e : ℕ × T). (start ≤ e.0) × (e.0 < start + ROWS)));
    left = left;
    moved = ap (λ zs. zs ++ later) none;
    before = subst (λ (l : List (ℕ × T)). All (λ (e : ℕ × T). All (λ (f : ℕ × T). e.0 < f.0) later) l)
        (sym none) (All-nil (λ (e : ℕ × T). All (λ (f : ℕ × T). e.0 < f.0) later));
  }

  pub row_within : (start due : ℕ) (ts : List T) (lap : Lap T) (later rest all : List (ℕ × T))
      → IsMoving start lap later all → later ≡ all_at due ts ++ rest → 0 < length ts → due ≤ start + LAST_ROW
      → (lap.start ≤ due) × (due < lap.start + ROWS)
  row_within start due ts lap later rest all h is full high =
      let low : start ≤ due = of_row (λ m. start ≤ m) due ts rest full
      (subst (λ (l : List (ℕ × T)). All (λ (e : ℕ × T). start ≤ e.0) l) is h.left) in
      let started = h.started in (omega arith, omega arith)

  pub row_last : (start due : ℕ) (ts : List T) (lap : Lap T) (later rest all : List (ℕ × T))
      → IsMoving start lap later all → later ≡ all_at due ts ++ rest → 0 < length ts
      → All (λ e. e.0 < due) lap.tokens
  row_last start due ts lap later rest all h is full k d lt =
      of_row (λ m. (get_or lap.tokens k d).0 < m) due ts rest full
      (subst (λ (l : List (ℕ × T)). All (λ (f : ℕ × T). (get_or lap.tokens k d).0 < f.0) l) is
      (h.before k d lt))

  pub move_goes_on : (start due : ℕ) (ts : List T) (lap new : Lap T) (later rest all : List (ℕ × T))
      → IsMoving start lap later all → later ≡ all_at due ts ++ rest → 0 < length ts → due ≤ start + LAST_ROW
      → All (λ e. due < e.0) rest → new.start ≡ lap.start → new.tokens ≡ lap.tokens ++ all_at due ts
      → IsMoving start new rest all
  move_goes_on start due ts lap new later rest all h is full high after same put =
      let fits = row_within start due ts lap later rest all h is full high in
      let started : lap.start ≡ start = h.started in
      let W : ℕ × T → Type 0 = λ e. (start ≤ e.0) × (e.0 < start + ROWS) in
      let low = fits.0 in
      let up = fits.1 in
      let B : ℕ × T → Type 0 = λ e. All (λ (f : ℕ × T). e.0 < f.0) rest in
      record {
        started = same ∙ started;
        within = subst (λ (l : List (ℕ × T)). All W l) (sym put)
            (All-append W lap.tokens (all_at due ts) h.within
            (All-all_at W due ts (λ t. (omega arith, omega arith))));
        left = all_rest (λ (e : ℕ × T). start ≤ e.0) (all_at due ts) rest
            (subst (λ (l : List (ℕ × T)). All (λ (e : ℕ × T). start ≤ e.0) l) is h.left);
        moved = ap (λ zs. zs ++ rest) put ∙ append_assoc lap.tokens (all_at due ts) rest ∙ ap
            (λ zs. lap.tokens ++ zs) (sym is) ∙ h.moved;
        before = subst (λ (l : List (ℕ × T)). All B l) (sym put) (All-append B lap.tokens (all_at due ts)
            (λ k d lt. all_rest (λ (f : ℕ × T). (get_or lap.tokens k d).0 < f.0) (all_at due ts) rest
            (subst (λ (l : List (ℕ × T)). All (λ (f : ℕ × T). (get_or lap.tokens k d).0 < f.0) l) is
            (h.before k d lt)))
            (All-all_at B due ts (λ t. after)));
      }

  -- where the lap stayed empty, the first token was not due within it
  pub none_moved : (start due : ℕ) (lap : Lap T) (later all : List (ℕ × T)) → IsMoving start lap later all
      → next_moment all ≡ Some due → due ≤ start + LAST_ROW → All (λ e. start + LAST_ROW < e.0) later
      → lap.tokens ≡ [] → ⊥
  none_moved start due lap later all h first high after none = first_above (start + LAST_ROW) due later
      (ap next_moment (ap (λ zs. zs ++ later) (sym none) ∙ h.moved) ∙ first) after high
    where
      first_above : (m due : ℕ) (l : List (ℕ × T)) → next_moment l ≡ Some due → All (λ e. m < e.0) l → due ≤ m
          → ⊥
      first_above m due [] first above le = cc
      first_above m due (e ∷ es) first above le = let is : e.0 ≡ due = cc in let lt : m < e.0 = All-head
          (λ (f : ℕ × T). m < f.0) e es above in omega arith
