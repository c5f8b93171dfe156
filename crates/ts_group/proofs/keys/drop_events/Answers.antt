-- Each turn of the loop drops the first event of the key that is left.
use Rattle.std.proofs.Common.{◌≡◌, ◌∷◌, refl, ap, sym, ◌∙◌}
use Rattle.ts_journal.specs.State.{State, numbers_of}
use Rattle.ts_group.proofs.Drops.{first_there, dropping_more, dropping_all}
use Rattle.ts_group.proofs.keys.drop_events.Goals as goal

pub push-requires-clause-allowed : goal.push-requires-clause-allowed
push-requires-clause-allowed c =
    let s : State = c.loop-number.journal.state in
    let found = c.in-Some.ensures.found in
    let first : numbers_of c.args.key s.pending ≡ c.in-Some.number ∷ found.0 = ap (numbers_of c.args.key)
    (sym c.pending.ensures) ∙ found.1 in
    let f = first_there s c.args.key c.in-Some.number found.0 c.loop-number.invariant.valid first in
    (c.loop-number.invariant.held, f.event, f.there)

pub loop-number-preserved : goal.loop-number-preserved
loop-number-preserved c =
    let s : State = c.loop-number.journal.state in
    let found = c.in-Some.ensures.found in
    let first : numbers_of c.args.key s.pending ≡ c.in-Some.number ∷ found.0 = ap (numbers_of c.args.key)
    (sym c.pending.ensures) ∙ found.1 in
    dropping_more c.args.journal.now c.loop-number.journal c.push.new.self c.args.key c.in-Some.number found.0
    c.loop-number.invariant first c.push.ensures.log c.push.ensures.state c.push.ensures.room
    c.known-in-Some.ensures.valid

pub returns-clause-drops : goal.returns-clause-drops
returns-clause-drops c =
    let none = ap (numbers_of c.args.key) (sym c.pending.ensures) ∙ c.in_default.ensures.none refl in
    dropping_all c.args.journal.now c.loop-number.journal c.args.key c.loop-number.invariant none
