-- How a link that chooses stands between two calls.
use Rattle.std.specs.Prelude.{◌≡◌, ℕ, ◌≤◌, Bool, true, false, List, [], ◌++◌, length, drop, Option, Some}
use Rattle.std.specs.Prelude.{None, is_some, ⊤}
use Rattle.std.specs.Arc.{arc_value}
use Rattle.ts_config.specs.declared.setup.InterceptLine.{InterceptLine}
use Rattle.ts_config.specs.declared.setup.Setup.{Setup}
use Rattle.ts_link.specs.Link.{Look}
use Rattle.ts_wire.specs.Blank.{LacksBlank}
use Rattle.ts_intercept.specs.Deciding.{IsOther, IsServed}
use Rattle.ts_intercept.specs.Limits.{most_held}
use Rattle.ts_intercept.specs.Seen.{inside, lines_in}
use Rattle.ts_intercept.specs.declared.choice.Choice.{Choice}
use Rattle.ts_intercept.specs.declared.choice.Stage.{Stage}
use Rattle.ts_intercept.specs.declared.choice.Stage.TheVariants as S

-- a link that gave nothing and took nothing
pub record IsUnused (l : Look) : Type 0 where
  pub no_given : l.given ≡ []
  pub no_taken : l.taken ≡ []

module _ {O : Type 0} (tells : Bool) (look : O → Look) (lines : List InterceptLine) (handed : Option O) where
  -- the origin is as it was handed in, and was sent nothing; and nothing was read too early
  pub record IsUntouched (origin : Option O) (sent : ℕ) (early : Bool) : Type 0 where
    pub same : origin ≡ handed
    pub not_sent : sent ≡ 0
    pub on_time : early ≡ false

  -- no head is whole
  pub record StandsUndecided (origin : Option O) (held : List ℕ) (sent : ℕ) (gone : List ℕ) (early : Bool) :
      Type 0 where
    pub untouched : IsUntouched origin sent early
    pub not_whole : LacksBlank held
    pub no_gone : gone ≡ []

  -- a line serves the host, and of its answer so many bytes were given
  pub record StandsServed (answer : List ℕ) (given : ℕ) (origin : Option O) (held : List ℕ) (sent : ℕ)
      (gone : List ℕ) (early : Bool) : Type 0 where
    pub untouched : IsUntouched origin sent early
    pub within : given ≤ length answer
    pub serves : IsServed lines (held ++ gone) answer

  -- The origin is handed on to, and none of what it is to get was dropped. No line serves the host, unless
  -- the link was read before a head was whole.
  pub record StandsHandedOn (origin : Option O) (held : List ℕ) (sent : ℕ) (gone : List ℕ) (early : Bool) :
      Type 0 where
    pub none_lost : is_some origin ≡ true → gone ≡ []
    pub other : tells ≡ true → early ≡ false
        → IsOther lines ((inside look origin).taken ++ (drop sent held ++ gone))

  abbrev pub StandsBy : Stage → Option O → List ℕ → ℕ → List ℕ → Bool → Type 0
  StandsBy S.Undecided = StandsUndecided
  StandsBy S.HandedOn = StandsHandedOn
  StandsBy (S.Served answer given) = StandsServed answer.items given

  -- no more is held than may be, an origin is there if one was handed in, that one was not used, and who
  -- answers is what was written says
  pub record Stands (stage : Stage) (origin : Option O) (held : List ℕ) (sent : ℕ) (gone : List ℕ)
      (early : Bool) : Type 0 where
    pub few : length held ≤ most_held
    pub within : sent ≤ length held
    pub origin_is : is_some origin ≡ is_some handed
    pub unused : tells ≡ true → IsUnused (inside look handed)
    pub stands : StandsBy stage origin held sent gone early

-- a line serves
abbrev pub IsServing : Stage → Type 0
IsServing (S.Served answer given) = ⊤
IsServing _ = ⊥

module _ {O : Type 0} where
  -- HOW IT STANDS
  abbrev pub IsSound : Bool → (O → Look) → Choice O → Type 0
  IsSound tells look c =
      Stands tells look (lines_in c) c.handed.value c.stage c.origin c.held.items c.sent c.gone c.early

  -- Where the link did not hand on, the origin is as it was handed in.
  abbrev pub KeepsBy : Stage → Option O → Option O → Type 0
  KeepsBy S.HandedOn origin handed = ⊤
  KeepsBy _ origin handed = origin ≡ handed

  abbrev pub KeepsOrigin : Choice O → Type 0
  KeepsOrigin c = KeepsBy c.stage c.origin c.handed.value

  -- What is written may be dropped: a line serves, or there is no origin.
  abbrev pub MayDrop : Stage → Option O → Type 0
  MayDrop S.Undecided origin = ⊥
  MayDrop S.HandedOn None = ⊤
  MayDrop S.HandedOn (Some o) = ⊥
  MayDrop (S.Served answer given) origin = ⊤

  -- there is an origin, and all that was held for it was sent
  pub record HoldsNothing (c : Choice O) : Type 0 where
    pub there : is_some c.origin ≡ true
    pub all_sent : length c.held.items ≤ c.sent

  -- it is made of this origin and this setup, and was not used
  pub record IsMadeOf (origin : Option O) (setup : Setup) (c : Choice O) : Type 0 where
    pub origin_is : c.origin ≡ origin
    pub handed_is : c.handed.value ≡ origin
    pub setup_is : arc_value c.setup ≡ setup
    pub undecided : c.stage ≡ S.Undecided
    pub no_held : c.held.items ≡ []
    pub no_gone : c.gone ≡ []
    pub not_sent : c.sent ≡ 0
    pub on_time : c.early ≡ false
    pub no_reads : c.reads ≡ 0
    pub no_writes : c.writes ≡ 0
    pub not_uploaded : c.uploaded ≡ false
