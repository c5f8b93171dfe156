-- A line that is told part by part.
use Rattle.std.proofs.Common.{◌≡◌, ℕ, ◌+◌, ◌<◌, List, ◌++◌, Bor, length, get_or, drop, map, ap, subst}
use Rattle.std.proofs.Common.{inr, ◌⊎◌}
use Rattle.std.proofs.lemmas.List.{drop_more}
use Rattle.ts_link.specs.Counts.{Rose}
use Rattle.ts_link.specs.Seen.{SinkSeen}
use Rattle.ts_proxy.specs.Took.{TookBut, TookFront}
use Rattle.ts_proxy.proofs.Fronts.{took-broken}
use Rattle.std.specs.List.{concat}
use Rattle.ts_proxy.specs.Lines.{LineTold}

-- the part at place i stands in front of those behind it
joined-drop : (parts : List (Bor (List ℕ))) (i : ℕ) (d : Bor (List ℕ)) → i < length parts
    → concat (map (λ p. p.now) (drop i parts)) ≡ (get_or parts i d).now ++ concat
    (map (λ p. p.now) (drop (i + 1) parts))
joined-drop parts i d below = ap (λ ps. concat (map (λ p. p.now) ps)) (drop_more parts i d below)

-- a part was not taken whole, since a count rose
pub told-broken : (parts : List (Bor (List ℕ))) (i : ℕ) (d : Bor (List ℕ)) (old mid new : SinkSeen)
    → TookBut old mid (concat (map (λ p. p.now) parts)) (concat (map (λ p. p.now) (drop i parts)))
    → i < length parts
    → TookFront mid new (get_or parts i d).now → (Rose old.faults new.faults ⊎ Rose old.lacks new.lacks)
    → LineTold old new (concat (map (λ p. p.now) parts))
told-broken parts i d old mid new before below broken rose = record {
  front =
      took-broken old mid new (concat (map (λ p. p.now) parts)) (get_or parts i d).now
      (concat (map (λ p. p.now) (drop (i + 1) parts)))
      (subst (TookBut old mid (concat (map (λ p. p.now) parts))) (joined-drop parts i d below) before) broken;
  whole = inr rose;
}

-- two ways to write one line
pub told-same : (old new : SinkSeen) (line line' : List ℕ) → line ≡ line' → LineTold old new line
    → LineTold old new line'
told-same old new line line' same told = subst (λ t. LineTold old new t) same told
