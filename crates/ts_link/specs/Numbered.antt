-- Which calls of a memory form go wrong. Calls of one kind are numbered from 1; a call after as many as the
-- greatest u64 has no number, and goes wrong by none.
use Rattle.std.specs.Prelude.{ℕ, ◌+◌, ◌==◌, List, [], ◌∷◌, Bool, true, false, if◌then◌else◌, nat_lt}
use Rattle.std.specs.List.{list_any}
use Rattle.ts_link.specs.Counts.{greatest, one_more}
use Rattle.ts_link.specs.declared.numbered.Mishap.{Mishap}
use Rattle.ts_link.specs.declared.numbered.Mishap.TheVariants.{Nothing, Fails, Waits}

-- whether the call after so many has a number of the list
abbrev pub is_listed : ℕ → List ℕ → Bool
is_listed made numbers = if made == greatest then false else list_any (λ n. n == made + 1) numbers

-- the numbers of the calls of one kind that fail, and of those that wait, and how many calls were made
pub record Numbered : Type 0 where
  pub fail : List ℕ
  pub again : List ℕ
  pub made : ℕ

-- calls of which none was made
abbrev pub no_calls : List ℕ → List ℕ → Numbered
no_calls fail again = record { fail = fail; again = again; made = 0 }

-- what goes wrong at a call that is on the first list, or on the second
abbrev pub mishap_of : Bool → Bool → Mishap
mishap_of true waits = Fails
mishap_of false true = Waits
mishap_of false false = Nothing

-- what goes wrong at the next call
abbrev pub mishap_at : Numbered → Mishap
mishap_at c = mishap_of (is_listed c.made c.fail) (is_listed c.made c.again)

-- the same, with one call more
abbrev pub after_call : Numbered → Numbered
after_call c = record c { made = one_more c.made }

-- how many of the numbers are of later calls
abbrev pub later : ℕ → List ℕ → ℕ
later made [] = 0
later made (n ∷ ns) = (if nat_lt made n then 1 else 0) + later made ns

-- how many calls may still wait
abbrev pub waits_left : Numbered → ℕ
waits_left c = later c.made c.again
