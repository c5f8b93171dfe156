-- All lines have a part of their own.
use Rattle.std.proofs.Common.{◌≡◌, List, [], ◌∷◌, ap, drop, filter, refl, subst, true}
use Rattle.std.proofs.lemmas.List.{drop_all}
use Rattle.ts_config.specs.declared.setup.TransformLine.{TransformLine}
use Rattle.ts_passing.specs.Inserted.{AreOfLines}
use Rattle.ts_passing.proofs.Parting.{part_last}
use Rattle.ts_request.proofs.making.fresh_parts.Goals as goal

all_lines : (ls : List TransformLine) → filter (λ line. true) ls ≡ ls
all_lines [] = refl
all_lines (l ∷ ls) = ap (λ (xs : List TransformLine). l ∷ xs) (all_lines ls)

pub returns : goal.returns
returns g c =
    subst (λ (ls : List TransformLine). AreOfLines g.P.Transform ls c.loop-line.parts.items)
    (all_lines c.args.lines.now)
    (part_last g.P.Transform (λ line. true) c.args.lines.now (drop c.loop-line.line-index c.args.lines.now)
    c.loop-line.parts.items (drop_all c.loop-line.line-index _ c.loop-line-test.false) c.loop-line.invariant)
