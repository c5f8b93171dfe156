-- How the program ends whose words could be had or not.
use Rattle.std.specs.Prelude.{◌≡◌, ℕ, ◌⊎◌, Bool, true, false, Option, None, Result, Ok, Err}
use Rattle.std.specs.IoError.{error_kind}
use Rattle.std.specs.declared.io.Error.{Error}
use Rattle.std.specs.declared.string.String.{String}
use Rattle.std.specs.declared.vec.Vec.{Vec}
use Rattle.ts_link.specs.Seen.{ShelfSeen}
use Rattle.ts_net.specs.Heard.{lacks_memory}
use Rattle.ts_proxy.specs.Ends.{IsStatusOf, out_of_memory}
use Rattle.ts_proxy.specs.Words.{Task, begins_serve, task_of, word_bytes}

-- the task of the words; none where they could not be had
abbrev pub task_asked : {Y Z F : Type 0} → Result (Vec (String Y) Z) F → Option Task
task_asked (Ok words) = task_of words.items
task_asked (Err fault) = None

-- The status is one that the task of the words may end with. Where they could not be had, it is that of want
-- of memory exactly where memory was lacking for them; else they are no text, and it is that of words of no
-- command.
abbrev pub EndsAs : {Y Z : Type 0} → Bool → ShelfSeen → Result (Vec (String Y) Z) Error → ℕ → Type 0
EndsAs tells shelf (Ok words) n =
    IsStatusOf (begins_serve (word_bytes words.items)) tells shelf (task_of words.items) n
EndsAs tells shelf (Err error) n =
    ((lacks_memory (error_kind error) ≡ true) × (n ≡ out_of_memory))
    ⊎ ((lacks_memory (error_kind error) ≡ false) × IsStatusOf false tells shelf None n)
