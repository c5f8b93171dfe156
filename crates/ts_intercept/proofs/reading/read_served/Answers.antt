-- The next piece of the answer was given.
use Rattle.std.proofs.Common.{◌≤◌, List, ℕ, drop, length, subst, sym}
use Rattle.ts_intercept.specs.Moving.{GivesFront}
use Rattle.ts_intercept.specs.Seen.{lines_in}
use Rattle.ts_intercept.proofs.Bounds.{given_sound}
use Rattle.ts_intercept.proofs.Calls.{served_at, served_shows}
use Rattle.ts_intercept.proofs.reading.read_served.Goals as goal

pub give_front-requires-clause-within : goal.give_front-requires-clause-within
give_front-requires-clause-within g c =
    let served = c.in-Served in
    subst (λ (x : List ℕ). served.given ≤ length x) (sym c.as_slice.ensures.value)
    (served_at g.O.Link.tells g.O.Link.look c.args.choice.now c.requires.sound served.answer served.given
    served.is).within

pub returns-clause-reads : goal.returns-clause-reads
returns-clause-reads g c =
    let served = c.in-Served in
    let gave = c.give_front in
    served_shows g.O.Link.tells g.O.Link.look c.args.choice.now c.requires.sound served.answer served.given
    gave.new.given c.counted-choice.result gave.result gave.new.into served.is c.counted-choice.ensures
    (subst (λ (x : List ℕ). GivesFront gave.result (drop served.given x) gave.new.into)
    c.as_slice.ensures.value
    gave.ensures.gives) gave.ensures.counts

pub returns-clause-sound : goal.returns-clause-sound
returns-clause-sound g c =
    let old = c.args.choice.now in
    let served = c.in-Served in
    let gave = c.give_front in
    given_sound g.O.Link.tells g.O.Link.look (lines_in old) old.handed.value old.stage served.answer
    served.given
    gave.new.given old.origin old.held.items old.sent old.gone old.early served.is
    (subst (λ (x : List ℕ). gave.new.given ≤ length x) c.as_slice.ensures.value gave.ensures.within)
    c.requires.sound
