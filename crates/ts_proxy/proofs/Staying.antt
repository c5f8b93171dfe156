-- A world of a chain stays sound while its client takes bytes.
use Rattle.std.proofs.Common.{◌≡◌, ℕ, ◌<◌, ◌≤◌, ◌++◌, List, length, take, sym, ap, subst, ◌∙◌, append_assoc}
use Rattle.std.proofs.lemmas.List.{take-take}
use Rattle.ts_journal.specs.declared.entry.Pending.{Pending}
use Rattle.ts_group.specs.declared.action.Named.{Named}
use Rattle.ts_transform.specs.declared.world.ChainWorld.{ChainWorld}
use Rattle.ts_transform.specs.Cover.{IsAwake}
use Rattle.ts_transform.specs.World.{IsSound}
use Rattle.ts_link.specs.Seen.{SinkSeen}
use Rattle.ts_proxy.specs.Sending.{IsWoken, Passes, StaysSound}

pub stays_refl : {P : Type 0} (w : ChainWorld P) → StaysSound w w
stays_refl w = record { sound = λ pending roles awake s. s; awake = λ awake. awake }

-- its client takes some more
pub stays_taken : {P : Type 0} (u v w : ChainWorld P) → StaysSound u v
    → ((pending : List Pending) (roles : List Named) → IsSound v pending roles → IsWoken v → IsSound w pending
    roles)
    → (IsAwake v.driven.chain v.driven.table.items → IsAwake w.driven.chain w.driven.table.items)
    → w.driven.running ≡ v.driven.running → StaysSound u w
stays_taken u v w h sound awake same = record {
  sound = λ pending roles woken s. sound pending roles (h.sound pending roles woken s) (h.awake woken);
  awake = λ woken runs. awake (h.awake woken (sym same ∙ runs));
}

-- a world that was woken is sound after its client has taken bytes
pub drained : {P : Type 0} (was before now : ChainWorld P) (pending : List Pending) (roles : List Named)
    → before ≡ was
    → StaysSound before now
    → IsWoken was → IsSound was pending roles
    → IsSound now pending roles
drained was before now pending roles same h awake s =
    h.sound pending roles
    (subst IsWoken (sym same) awake)
    (subst (λ w. IsSound w pending roles) (sym same) s)

-- more was taken
pub passes_then : (old mid new : SinkSeen) (a b c d : List ℕ) → Passes old mid a b → c ≡ b
    → Passes mid new c d → Passes old new a d
passes_then old mid new a b c d p same q = record {
  took = p.took ++ q.took;
  grew = q.grew ∙ ap (λ l. l ++ q.took) p.grew ∙ append_assoc old.taken p.took q.took;
  front = p.front ∙ ap (λ l. p.took ++ l) (sym same ∙ q.front) ∙ sym (append_assoc p.took q.took d);
}

-- a block is a front of what waits
abbrev pub IsFront : List ℕ → List ℕ → Type 0
IsFront b w = (0 < length b) × (length b ≤ length w) × (b ≡ take (length b) w)

-- a front of a block was taken, and so a front of what waits
pub passes_taken : (old mid new : SinkSeen) (a b c w block : List ℕ) (n : ℕ) → Passes old mid a b
    → new.taken ≡ mid.taken ++ take n block → block ≡ take (length block) w → n ≤ length block
    → b ≡ take n w ++ c → Passes old new a c
passes_taken old mid new a b c w block n p grew is within flow = record {
  took = p.took ++ take n block;
  grew = grew ∙ ap (λ l. l ++ take n block) p.grew ∙ append_assoc old.taken p.took (take n block);
  front =
      let same : take n block ≡ take n w = ap (take n) is ∙ take-take n (length block) w within in
      p.front ∙ ap (λ l. p.took ++ l) (flow ∙ ap (λ l. l ++ c) (sym same)) ∙ sym
      (append_assoc p.took (take n block) c);
}
