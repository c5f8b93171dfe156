-- What the entry of a key that is made leaves, and its role.
use Rattle.std.proofs.Common.{◌≡◌, ◌+◌, Some, None, eqb, [], ◌∷◌, ◌++◌, refl, ap, sym, ◌∙◌, arith}
use Rattle.std.proofs.lemmas.Bool.{eq-eqb, cond-true}
use Rattle.ts_journal.specs.State.{State, generation_at}
use Rattle.ts_journal.proofs.Keys.{generation_push}
use Rattle.ts_group.specs.declared.action.Named.{Named}
use Rattle.ts_group.specs.Context.{needed, keys_of}
use Rattle.ts_group.proofs.Facts.{stay_same}
use Rattle.ts_group.proofs.Room.{needed_made}
use Rattle.ts_group.proofs.Roles.{keys_push}
use Rattle.ts_group.proofs.Acts.{makes_one}
use Rattle.ts_group.proofs.Grows.{log_one}
use Rattle.ts_journal.proofs.Extends.{extends_after}
use Rattle.ts_journal.specs.declared.entry.Entry.TheVariants.{Made}
use Rattle.ts_group.proofs.keys.make_key.Goals as goal

pub returns-clause-makes : goal.returns-clause-makes
returns-clause-makes c =
    let s : State = c.spare.new.journal.state in
    let r : Named = record { key = c.in-Some.key; role = c.args.role } in
    let free = c.in-Some.ensures.free in
    let e = c.push.ensures.state in
    let g = c.spare.ensures.same.state in
    let none : generation_at r.key.index s.live ≡ None = ap (λ (x : State). generation_at r.key.index x.live)
    g ∙ free.free in
    let live = ap (λ (x : State). generation_at r.key.index x.live) e ∙ generation_push r.key.index s.live
    r.key none
    ∙ cond-true (eqb r.key.index r.key.index) (Some r.key.generation) None
    (eq-eqb r.key.index r.key.index refl) in
    makes_one c.args.journal.now c.push.new.self c.args.roles.now.items c.push_reserved.new.self.items r live
    free.free c.requires.kept.keys
    (extends_after c.spare.ensures.same c.push.ensures.log)
    (ap (λ (x : State). x.live) e ∙ ap (λ (x : State). x.live ++ r.key ∷ []) g)
    (c.push_reserved.ensures.items ∙ ap (λ rs. rs ++ r ∷ []) c.reserve_moved.ensures.items)
    (record {
      pending = ap (λ (x : State). x.pending) e ∙ ap (λ (x : State). x.pending) g;
      next = ap
          (λ (x : State). x.next) e ∙ ap (λ (x : State). x.next) g;
    })
    (ap (λ (x : State). x.held) e ∙ ap (λ (x : State). x.held) g ∙ c.requires.turn) c.in-Some.ensures.least

pub returns-clause-stay : goal.returns-clause-stay
returns-clause-stay c =
    let a = ap (λ (x : State). x.next) c.push.ensures.state in
    let b = ap (λ (x : State). x.next) c.spare.ensures.same.state in
    stay_same c.args.journal.now.state c.push.new.self.state
    (ap (λ (x : State). x.pending) c.push.ensures.state ∙ ap (λ (x : State). x.pending)
    c.spare.ensures.same.state) (omega arith)

pub returns-clause-grows : goal.returns-clause-grows
returns-clause-grows c = log_one c.args.journal.now c.push.new.self (Made c.in-Some.key)
    (extends_after c.spare.ensures.same c.push.ensures.log) tt

pub returns-clause-kept : goal.returns-clause-kept
returns-clause-kept c =
    let s : State = c.spare.new.journal.state in
    let t : State = c.push.new.self.state in
    let e = c.push.ensures.state in
    let r : Named = record { key = c.in-Some.key; role = c.args.role } in
    let held = ap (λ (x : State). x.held) c.spare.ensures.same.state ∙ c.requires.turn in
    let n : needed t ≡ needed s + 1 = needed_made s t c.in-Some.key held (ap (λ (x : State). x.pending) e)
    (ap (λ (x : State). x.live) e) (ap (λ (x : State). x.held) e ∙ held) in
    let enough = c.in_default-spare.ensures.ok.room in
    let left = c.push.ensures.room in
    record {
      room = omega arith;
      keys = ap keys_of
          (c.push_reserved.ensures.items ∙ ap (λ rs. rs ++ r ∷ []) c.reserve_moved.ensures.items)
          ∙ keys_push c.args.roles.now.items r
          ∙ ap (λ ks. ks ++ c.in-Some.key ∷ [])
          (c.requires.kept.keys ∙ ap (λ (x : State). x.live) (sym c.spare.ensures.same.state)) ∙ ap
          (λ (x : State). x.live) (sym e);
    }
