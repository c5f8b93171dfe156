-- What is seen of a link that chooses, by what is seen of the origin that was handed in.
use Rattle.std.specs.Prelude.{ℕ, Bool, true, List, [], ◌++◌, take, drop, replicate, Option, Some, None}
use Rattle.std.specs.Arc.{arc_value}
use Rattle.ts_config.specs.declared.setup.InterceptLine.{InterceptLine}
use Rattle.ts_link.specs.Link.{Look, Plan}
use Rattle.ts_intercept.specs.Served.{longest}
use Rattle.ts_intercept.specs.declared.choice.Choice.{Choice}
use Rattle.ts_intercept.specs.declared.choice.Stage.{Stage}
use Rattle.ts_intercept.specs.declared.choice.Stage.TheVariants as S

-- a plan by which nothing goes wrong
abbrev pub calm_plan : Plan
calm_plan = record {
  fail_reads = [];
  fail_writes = [];
  again_reads = [];
  again_writes = [];
  stalls = [];
  leave = None;
}

-- a link that ends at once
abbrev pub no_link : Look
no_link = record {
  given = [];
  left = [];
  taken = [];
  source = [];
  name = 0;
  reads = 0;
  writes = 0;
  faults = 0;
  waits = 0;
  agains = Some 0;
  plan = Some calm_plan;
  carried = [];
  uploaded = true;
  before = ([], []);
}

-- what is seen of the origin: without one, of a link that ends at once
abbrev pub inside : {O : Type 0} → (O → Look) → Option O → Look
inside look None = no_link
inside look (Some o) = look o

-- what it gave: what the origin gave, and of what a line serves the front
abbrev pub given_by : Stage → List ℕ → List ℕ
given_by (S.Served answer given) before = before ++ take given answer.items
given_by _ before = before

-- What it may still give. Until it is decided who answers, that is some list that no answer is longer than.
abbrev pub left_by : Stage → ℕ → List ℕ → List ℕ
left_by S.Undecided most left = replicate most 0 ++ left
left_by S.HandedOn most left = left
left_by (S.Served answer given) most left = drop given answer.items

-- how many Again answers it has left: none where a line serves
abbrev pub agains_by : Stage → Option ℕ → Option ℕ
agains_by (S.Served answer given) agains = Some 0
agains_by _ agains = agains

-- the plan, unless it says that the link leaves: what is held was taken before the origin takes it
abbrev pub unless_leaves : Option ℕ → Plan → Option Plan
unless_leaves None plan = Some plan
unless_leaves (Some n) plan = None

abbrev pub plan_told : Option Plan → Option Plan
plan_told None = None
plan_told (Some plan) = unless_leaves plan.leave plan

-- who answers, how long an answer may be, what was taken and not sent to the origin, its own calls, and
-- whether it told that no upload is left: by these and what is seen of the origin is seen what it shows
abbrev pub shown : Stage → ℕ → List ℕ → ℕ → ℕ → Bool → Look → Look
shown stage most kept reads writes uploaded l = record {
  given = given_by stage l.given;
  left = left_by stage most l.left;
  taken = l.taken ++ kept;
  source = l.source;
  name = l.name;
  reads = reads;
  writes = writes;
  faults = l.faults;
  waits = l.waits;
  agains = agains_by stage l.agains;
  plan = plan_told l.plan;
  carried = l.carried;
  uploaded = uploaded;
  before = l.before;
}

module _ {O : Type 0} where
  -- the lines of intercepts of its setup
  abbrev pub lines_in : Choice O → List InterceptLine
  lines_in c = (arc_value c.setup).intercepts.items

  -- what is held and was not sent
  abbrev pub unsent : Choice O → List ℕ
  unsent c = drop c.sent c.held.items

  -- what it took and did not send to the origin
  abbrev pub kept : Choice O → List ℕ
  kept c = unsent c ++ c.gone

  -- WHAT IS SEEN of it
  abbrev pub seen : (O → Look) → Choice O → Look
  seen look c =
      shown c.stage (longest (lines_in c)) (kept c) c.reads c.writes c.uploaded (inside look c.origin)
