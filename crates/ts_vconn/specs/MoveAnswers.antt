-- What the answers of a pull and of a push say.
use Rattle.std.specs.Prelude.{◌≡◌, ◌≢◌, ℕ, ◌≤◌, List, [], length, drop, Bool, true, false, ⊤}
use Rattle.ts_link.specs.Counts.{one_more}
use Rattle.ts_vconn.specs.declared.moves.Pulled.{Pulled}
use Rattle.ts_vconn.specs.declared.moves.Pulled.TheVariants as U
use Rattle.ts_vconn.specs.declared.moves.Pushed.{Pushed}
use Rattle.ts_vconn.specs.declared.moves.Pushed.TheVariants as V

abbrev pub pull_failed : Pulled → Bool
pull_failed U.Failed = true
pull_failed _ = false

abbrev pub pull_again : Pulled → Bool
pull_again U.Again = true
pull_again _ = false

-- these bytes came: some, and no more than were asked for, or else none
abbrev pub Came : Pulled → ℕ → List ℕ → Type 0
Came (U.Some n) most more = (length more ≡ n) × (1 ≤ n) × (n ≤ most)
Came _ most more = more ≡ []

-- the end comes only where nothing is left
abbrev pub EndsPull : Pulled → List ℕ → Type 0
EndsPull U.End left = left ≡ []
EndsPull _ left = ⊤

abbrev pub push_failed : Pushed → Bool
push_failed V.Failed = true
push_failed _ = false

abbrev pub push_again : Pushed → Bool
push_again V.Again = true
push_again _ = false

-- how many bytes went
abbrev pub count_pushed : Pushed → ℕ
count_pushed (V.Some n) = n
count_pushed _ = 0

-- what a push left of the bytes: it has nothing to do exactly where there were none
abbrev pub Went : Pushed → List ℕ → List ℕ → Type 0
Went (V.Some n) before after = (1 ≤ n) × (n ≤ length before) × (after ≡ drop n before)
Went V.Nothing before after = (before ≡ []) × (after ≡ before)
Went _ before after = (before ≢ []) × (after ≡ before)

-- the number of writes after a push: one more, but where there was nothing to write, or memory lacked
abbrev pub writes_after_push : Pushed → ℕ → ℕ
writes_after_push V.Nothing writes = writes
writes_after_push V.NoMemory writes = writes
writes_after_push _ writes = one_more writes
