-- What the calls of a link that chooses do to it.
use Rattle.std.specs.Prelude.{◌≡◌, ℕ, ◌+◌, ◌≤◌, ◌<◌, Bool, true, List, [], length, take, drop, min, Option}
use Rattle.std.specs.Prelude.{Some, None, ⊤}
use Rattle.std.specs.Arc.{arc_value}
use Rattle.ts_link.specs.Counts.{one_more}
use Rattle.ts_link.specs.Link.{Calls, GivesMore, Look, ReadsSurely}
use Rattle.ts_link.specs.LinkAnswers.{EndsWell, FillsSome, count_got, got_again, got_bytes, got_failed}
use Rattle.ts_link.specs.declared.link.Got.{Got}
use Rattle.ts_link.specs.declared.link.Got.TheVariants as G
use Rattle.ts_link.specs.declared.link.Put.{Put}
use Rattle.ts_link.specs.declared.link.Put.TheVariants as P
use Rattle.ts_intercept.specs.Limits.{most_held, most_piece}
use Rattle.ts_intercept.specs.declared.choice.Choice.{Choice}
use Rattle.ts_intercept.specs.declared.choice.Stage.{Stage}
use Rattle.ts_intercept.specs.declared.choice.Stage.TheVariants as S

-- one read of the origin, or none where there is no origin, which counts for nothing but its answer
pub record ReadsInside (tells : Bool) (old new : Look) (answer : Got) (into : List ℕ) : Type 0 where
  pub fills : FillsSome answer (length into)
  pub calls : Calls old new (got_failed answer) (got_again answer)
  pub sure : ReadsSurely old (got_failed answer) (got_again answer)
  pub told : tells ≡ true → GivesMore old new (got_bytes answer into)
  pub ends : tells ≡ true → EndsWell answer new.left

-- A read gives the front of what is left: as much as there is room for, and not too much at once; and the end
-- where nothing is left.
abbrev pub GivesFront : Got → List ℕ → List ℕ → Type 0
GivesFront (G.Bytes n) left into =
    (n ≡ min (min (length left) (length into)) most_piece) × (1 ≤ n) × (take n into ≡ take n left)
GivesFront G.End left into = left ≡ []
GivesFront _ left into = ⊥

-- a relation between two origins, or between none and none
abbrev pub Both : {O : Type 0} → (O → O → Type 0) → Option O → Option O → Type 0
Both R None None = ⊤
Both R None (Some p) = ⊥
Both R (Some o) None = ⊥
Both R (Some o) (Some p) = R o p

module _ {O : Type 0} where
  -- without an origin there is nothing to read, and never will be
  abbrev pub EndsWithout : Option O → Got → Type 0
  EndsWithout None answer = answer ≡ G.End
  EndsWithout (Some o) answer = ⊤

  -- A read of a link that a line serves: the next piece of the answer, and nothing else. Before a head is
  -- whole it comes too early. Without an origin, a host that no line serves ends at once.
  abbrev pub ReadsBy : Stage → Choice O → Choice O → Got → List ℕ → Type 0
  ReadsBy S.Undecided c d answer into = (d.early ≡ true) × EndsWithout c.origin answer
  ReadsBy S.HandedOn c d answer into = (d.early ≡ c.early) × EndsWithout c.origin answer
  ReadsBy (S.Served text given) c d answer into = GivesFront answer (drop given text.items) into
      × (d ≡ record c { stage = S.Served text (given + count_got answer); reads = one_more c.reads })

  -- A piece that would make it hold too much before a head is whole is not taken.
  abbrev pub HoldsNoMore : Choice O → List ℕ → Put → Type 0
  HoldsNoMore c piece answer =
      c.stage ≡ S.Undecided → most_held < length c.held.items + length piece → answer ≡ P.NoMemory

  -- Calls of `Link` led from one to the other: the origin's were calls of `Link` too, the setup is the
  -- same, and nothing that was held was sent.
  pub record Goes (goes : O → O → Type 0) (c d : Choice O) : Type 0 where
    pub origin : Both goes c.origin d.origin
    pub handed : d.handed.value ≡ c.handed.value
    pub setup : arc_value d.setup ≡ arc_value c.setup
    pub sent : d.sent ≡ c.sent
    pub held : length c.held.items ≤ length d.held.items
    pub gone : length c.gone ≤ length d.gone

  -- it is the same link, with the same setup, whatever was called on it
  pub record IsStill (still : O → O → Type 0) (c d : Choice O) : Type 0 where
    pub origin : Both still c.origin d.origin
    pub handed : d.handed.value ≡ c.handed.value
    pub setup : arc_value d.setup ≡ arc_value c.setup
