-- What a parse of the words of `serve` found: the text of each option that has to be there, and a number in its
-- range of each other one.
use Rattle.std.specs.Prelude.{◌≡◌, ◌≤◌, ◌^◌, ℕ, pos, true, is_some, Some, codes}
use Rattle.clap.specs.Words.{IsSignedIn, Text, first_value, one_text, without_minus}
use Rattle.clap.specs.declared.parser.matches.Found.{Found}
use Rattle.ts_thread.specs.declared.TheConstants.{MOST_THREADS}
use Rattle.ts_words.specs.Serve.{most_connections}

-- there is a number of this name, from 1 to `most`
pub record HoldsNumber (f : Found) (name : Text) (most : ℕ) : Type 0 where
  pub given : Text
  pub read : one_text f name ≡ Some (without_minus given)
  pub passes : IsSignedIn (pos 1) (pos most) given

-- how many numbers a `u32` has
abbrev pub u32_numbers : ℕ
u32_numbers = 2 ^ 32

-- a number is from 1 to `most`
abbrev pub IsUpTo : ℕ → ℕ → Type 0
IsUpTo most n = (1 ≤ n) × (n ≤ most)

-- there is a text of this name
abbrev pub HoldsText : Found → Text → Type 0
HoldsText f name = is_some (first_value f name) ≡ true

-- all options are there
pub record IsFound (f : Found) : Type 0 where
  pub listen : HoldsText f (codes "listen")
  pub origin : HoldsText f (codes "origin")
  pub config : HoldsText f (codes "config")
  pub threads : HoldsNumber f (codes "threads") MOST_THREADS
  pub connections : HoldsNumber f (codes "connections") most_connections
