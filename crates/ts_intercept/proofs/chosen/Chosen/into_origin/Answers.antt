-- Who answered is read off how the link stands.
use Rattle.std.proofs.Common.{◌≡◌, subst}
use Rattle.std.specs.Prelude.{is_some}
use Rattle.ts_intercept.specs.Answered.{Answered}
use Rattle.ts_intercept.specs.Standing.{KeepsOrigin}
use Rattle.ts_intercept.specs.declared.choice.Choice.{Choice}
use Rattle.ts_intercept.proofs.Answering.{answered, kept_sound}
use Rattle.ts_intercept.proofs.chosen.Chosen.into_origin.Goals as goal

pub returns-clause-there : goal.returns-clause-there
returns-clause-there g c =
    subst (λ (x : Choice g.row.O.Denot). is_some x.origin ≡ is_some x.handed.value) c.self.view_is
    c.self.invariant.origin_is

pub returns-clause-answered : goal.returns-clause-answered
returns-clause-answered g c = λ t.
    subst (λ (x : Choice g.row.O.Denot). Answered g.O.Link.look x) c.self.view_is
    (answered g.O.Link.tells g.O.Link.look c.self.inside.choice t c.self.invariant)

pub returns-clause-kept : goal.returns-clause-kept
returns-clause-kept g c =
    subst (λ (x : Choice g.row.O.Denot). KeepsOrigin x) c.self.view_is
    (kept_sound g.O.Link.tells g.O.Link.look c.self.inside.choice c.self.invariant)
