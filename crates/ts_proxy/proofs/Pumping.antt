-- What a chain still gives stays while its stages work.
use Rattle.std.proofs.Common.{◌≡◌, inl, inr, ℕ, zero, suc, List, [], ap, ◌∙◌}
use Rattle.ts_journal.specs.declared.entry.Entry.{Entry}
use Rattle.ts_journal.specs.State.{State}
use Rattle.ts_group.specs.declared.group.Group.{Group}
use Rattle.ts_group.specs.declared.world.Handling.{Handling}
use Rattle.ts_group.specs.declared.world.Handling.TheVariants as H
use Rattle.ts_group.specs.Answers.{HandleGives}
use Rattle.ts_group.specs.Calls.{RunsFrom}
use Rattle.ts_transform.specs.declared.world.ChainWorld.{ChainWorld}
use Rattle.ts_transform.specs.Flow.{ChainState, PumpsOnce, flow}
use Rattle.ts_transform.proofs.Acting.{nothing_more}
use Rattle.ts_transform.proofs.Moving.{stepped-flow}
use Rattle.ts_proxy.specs.Sending.{to_come}

-- at most one stage worked
pumped_flow : {P : Type 0} (rest : P → List ℕ → List ℕ) (c d : ChainState P) → PumpsOnce rest c d
    → flow rest d [] ≡ flow rest c []
pumped_flow rest c d (inl same) = ap (λ x. flow rest x []) same
pumped_flow rest c d (inr (at, h)) = stepped-flow rest c.given c.first c.stages at h.pumped d.first d.stages
    h.answers h.steps [] (nothing_more c.given)

-- the handlers that ran one after the other
runs_flow : {P : Type 0} (rest : P → List ℕ → List ℕ) (v w : ChainWorld P) (s : State) (moment number : ℕ)
    (queue : List ℕ) (k : ℕ) (es : List Entry) (left : List ℕ)
    → RunsFrom (λ x y asked. PumpsOnce rest x.driven.chain y.driven.chain) v w s moment number queue k es left
    → to_come rest w ≡ to_come rest v
runs_flow rest v w s moment number queue zero es left h = absurd h
runs_flow rest v w s moment number queue (suc zero) es left (asked, run, step, is) =
    pumped_flow rest v.driven.chain w.driven.chain step
runs_flow rest v w s moment number queue (suc (suc k)) es left
    (asked, run, others, is_run, is, mid, step, next, behind, found, runs) =
    runs_flow rest mid w _ moment next behind (suc k) others left runs
    ∙ pumped_flow rest v.driven.chain mid.driven.chain step

-- so it is after a call of the group
pub handled_flow : {P Q R T U : Type 0} (rest : P → List ℕ → List ℕ) (old new : Group (ChainWorld P) Q R T U)
    (number moment : ℕ) (handling : Handling Q)
    → HandleGives (λ x y asked. PumpsOnce rest x.driven.chain y.driven.chain) old new number moment handling
    → to_come rest new.world ≡ to_come rest old.world
handled_flow rest old new number moment (H.Handled events) gives =
    runs_flow rest old.world new.world _ moment number [] events gives.0.es _ gives.0.runs
handled_flow rest old new number moment (H.Asks events group question) gives =
    runs_flow rest old.world new.world _ moment number [] events gives.es _ gives.runs
handled_flow rest old new number moment H.NotPending gives = ap (to_come rest) gives.1.world
handled_flow rest old new number moment (H.NotDue due) gives = ap (to_come rest) gives.4.world
