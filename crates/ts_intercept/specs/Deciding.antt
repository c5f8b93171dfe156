-- Who answers a request, by what was written of it.
use Rattle.std.specs.Prelude.{◌≡◌, ℕ, ◌≤◌, List, ◌++◌, length, Some, None, ⊤}
use Rattle.ts_config.specs.declared.setup.InterceptLine.{InterceptLine}
use Rattle.ts_wire.specs.Blank.{EndsBlank, LacksBlank}
use Rattle.ts_intercept.specs.Served.{line_for, longest, served}
use Rattle.ts_intercept.specs.declared.choice.Stage.{Stage}
use Rattle.ts_intercept.specs.declared.choice.Stage.TheVariants as S

-- the text begins with this whole head, up to its empty line (RFC 9112, section 2.1)
pub record HasHead (text head : List ℕ) : Type 0 where
  pub rest : List ℕ
  pub text_is : text ≡ head ++ rest
  pub ends : EndsBlank head

-- the text has a whole head, whose host no line serves
pub record IsOther (lines : List InterceptLine) (text : List ℕ) : Type 0 where
  pub head : List ℕ
  pub begins : HasHead text head
  pub none : line_for lines head ≡ None

-- the text has a whole head, whose host a line serves, with this answer
pub record IsServed (lines : List InterceptLine) (text answer : List ℕ) : Type 0 where
  pub head : List ℕ
  pub begins : HasHead text head
  pub line : InterceptLine
  pub found : line_for lines head ≡ Some line
  pub answer_is : answer ≡ served line.kind head

-- who answers, of which nothing was given yet
abbrev pub Decides : List InterceptLine → List ℕ → Stage → Type 0
Decides lines text S.Undecided = LacksBlank text
Decides lines text S.HandedOn = IsOther lines text
Decides lines text (S.Served answer given) = (given ≡ 0) × IsServed lines text answer.items

-- an answer is no longer than the longest
abbrev pub HasRoom : List InterceptLine → Stage → Type 0
HasRoom lines (S.Served answer given) = length answer.items ≤ longest lines
HasRoom lines _ = ⊤
