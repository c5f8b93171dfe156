-- Tokens in rows, one row for each due moment.
use Rattle.std.specs.Prelude.{◌≡◌, ℕ, ◌+◌, ◌<◌, ◌≤◌, List, [], ◌∷◌, ◌++◌, length, map, All, slice_index_or}
use Rattle.ts_wheel.specs.declared.TheConstants.{ROWS}
use Rattle.ts_wheel.specs.declared.lap.TheConstants.{LAST_START}
use Rattle.ts_wheel.specs.Due.{added}
use Rattle.std.specs.declared.alloc.Global.{Global}
use Rattle.std.specs.declared.collections.VecDeque.{VecDeque}

-- the tokens of a row, which are all due at one moment
abbrev pub all_at : {T : Type 0} → ℕ → List T → List (ℕ × T)
all_at due tokens = map (λ t. (due, t)) tokens

module _ {T : Type 0} where
  -- the tokens of rows, each at its moment, one row after the other
  abbrev pub row_tokens : List (ℕ × VecDeque T Global) → List (ℕ × T)
  row_tokens [] = []
  row_tokens (r ∷ rs) = all_at r.0 r.1.items ++ row_tokens rs

  -- each row has a token
  abbrev pub AllFull : List (ℕ × VecDeque T Global) → Type 0
  AllFull rows = All (λ r. 0 < length r.1.items) rows

  -- the tokens of rows for one millisecond after the other, of which the first is this
  abbrev pub spread : ℕ → List (VecDeque T Global) → List (ℕ × T)
  spread from [] = []
  spread from (r ∷ rs) = all_at from r.items ++ spread (from + 1) rs

  -- no row below this place has a token
  abbrev pub AreEmptyBelow : ℕ → List (VecDeque T Global) → Type 0
  AreEmptyBelow place rows =
      (k : ℕ) (d : VecDeque T Global) → k < place → (slice_index_or rows k d).items ≡ []

  -- the row at this place has a token
  abbrev pub HasToken : List (VecDeque T Global) → ℕ → Type 0
  HasToken rows place = (d : VecDeque T Global) → 0 < length (slice_index_or rows place d).items

  -- a row changes, and no lower one gets a token
  abbrev pub KeepsEmpty : ℕ → List (VecDeque T Global) → List (VecDeque T Global) → Type 0
  KeepsEmpty place old new = (k : ℕ) → k ≤ place → AreEmptyBelow k old → AreEmptyBelow k new

  -- wherever the rows start, they have the same tokens
  abbrev pub SameRows : List (VecDeque T Global) → List (VecDeque T Global) → Type 0
  SameRows old new = (start : ℕ) → spread start new ≡ spread start old

  -- a token was added at the moment of a row, behind those that are due no later
  abbrev pub PushesAt : ℕ → T → List (VecDeque T Global) → List (VecDeque T Global) → Type 0
  PushesAt place token old new = (start : ℕ)
      → spread start new ≡ added (start + place) token (spread start old)

  -- the first token was taken, which is due at the moment of a row
  abbrev pub PopsAt : ℕ → T → List (VecDeque T Global) → List (VecDeque T Global) → Type 0
  PopsAt place token old new = (start : ℕ) → spread start old ≡ (start + place, token) ∷ spread start new

  -- tokens were put at the moment of a row, behind all others, where all others are due before it
  abbrev pub PutsAt : ℕ → List T → List (VecDeque T Global) → List (VecDeque T Global) → Type 0
  PutsAt place tokens old new =
      (start : ℕ) → All (λ e. e.0 < start + place) (spread start old)
      → spread start new ≡ spread start old ++ all_at (start + place) tokens

  -- these are the rows of a lap, of which none below the first has a token
  pub record AreOfLap (start first : ℕ) (rows : List (VecDeque T Global)) : Type 0 where
    pub len : length rows ≡ ROWS
    pub fits : start ≤ LAST_START
    pub first_fits : first ≤ ROWS
    pub empty : AreEmptyBelow first rows

-- the rows of a lap as clauses see them: the moment of the first row, and the tokens
pub record Lap (T : Type 0) : Type 0 where
  pub start : ℕ
  pub tokens : List (ℕ × T)
