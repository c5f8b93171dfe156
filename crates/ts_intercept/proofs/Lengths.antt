-- How long answers are.
use Rattle.std.proofs.Common.{◌≡◌, ◌≤◌, List, [], ◌∷◌, Bool, cond, Some, None, ap, subst, arith}
use Rattle.std.specs.List.{find}
use Rattle.std.specs.Prelude.{unwrap_or}
use Rattle.ts_lists.proofs.Cases.{split}
use Rattle.ts_config.specs.declared.setup.InterceptLine.{InterceptLine}
use Rattle.ts_intercept.specs.Served.{longest, room_of}

-- a line that is found serves no more than the longest answer
pub longest_found : (test : InterceptLine → Bool) (lines : List InterceptLine) (line : InterceptLine)
    → find test lines ≡ Some line → room_of line.kind ≤ longest lines
longest_found test [] line e = absurd (let wrong : None ≡ Some line = e in cc)
longest_found test (first ∷ lines) line e =
    split (test first)
    (λ b. cond b (Some first) (find test lines) ≡ Some line → room_of line.kind ≤ longest (first ∷ lines))
    (λ is found.
    let same : first ≡ line = ap (λ o. unwrap_or o first) found in
    let few : room_of first.kind ≤ longest (first ∷ lines) = omega arith in
    subst (λ (l : InterceptLine). room_of l.kind ≤ longest (first ∷ lines)) same few)
    (λ other found.
    let few = longest_found test lines line found in
    let more : longest lines ≤ longest (first ∷ lines) = omega arith in
    omega (arith, few, more))
    e
