use Rattle.std.proofs.Common.{◌++◌, ◌∷◌, ◌+◌, [], ap, ◌∙◌}
use Rattle.ts_record.specs.Generator.{after, letters}
use Rattle.ts_record.proofs.Generating.{draw_more, letter_more}
use Rattle.ts_record.proofs.generator.draw_body.Goals as goal

pub letters-preserved : goal.letters-preserved
letters-preserved c = (
  letter_more c.args.count c.letters.counter c.letters.draws.state c.below.new.self.state
      c.letters.body.items c.push.new.self.items (letters c.args.count c.args.draws.now.state)
      c.letters-test.true c.below.ensures.state
      (c.in_ok-push.ensures.items ∙ ap (λ d. c.letters.body.items ++ (97 + d) ∷ []) c.below.ensures.drawn)
      c.letters.invariant.0,
  draw_more c.args.count c.letters.counter c.letters.draws.state c.below.new.self.state
      (after c.args.count c.args.draws.now.state) c.letters-test.true c.below.ensures.state
      c.letters.invariant.1,
)
