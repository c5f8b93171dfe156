-- No more is given than the request has left.
use Rattle.std.proofs.Common.{ℕ, ◌-◌, arith, subst, sym}
use Rattle.ts_session.specs.Reading.{Shows}
use Rattle.ts_session.specs.declared.request.Reading.TheVariants as R
use Rattle.ts_session.proofs.Giving.{known_ended, known_given}
use Rattle.ts_session.proofs.reading.give_known.Goals as goal

pub returns-then-left-eq0-clause-shows : goal.returns-then-left-eq0-clause-shows
returns-then-left-eq0-clause-shows g c =
    known_ended g.C.Link.tells c.args.request.now c.args.left c.requires.known
    (g.C.Link.look c.args.client.now) c.args.into.now c.if-left-eq0.true

pub returns-clause-shows : goal.returns-clause-shows
returns-clause-shows g c =
    let r = c.args.request.now in
    let some = c.give_some-got in
    let l = g.C.Link.look c.args.client.now in
    let m = g.C.Link.look some.new.client in
    subst (λ (k : ℕ). Shows g.C.Link.tells r
    (record r { held = some.new.held; reading = R.Known (c.args.left - k) }) l m some.result some.new.into)
    (sym c.count_of.ensures)
    (known_given g.C.Link.tells r c.args.left c.requires.known some.new.held l m some.result some.new.into
    some.ensures.gives (omega (arith, c.if-left-eq0.false)))
