-- What the entries of a key that is destroyed leave, and the roles without its own.
use Rattle.std.proofs.Common.{◌≡◌, ◌+◌, Some, [], ◌∷◌, ◌++◌, length, ap, sym, ◌∙◌, arith}
use Rattle.ts_journal.specs.State.{State, generation_at, IsLive, without_index, numbers_of}
use Rattle.ts_journal.specs.declared.entry.Entry.TheVariants.{Destroyed}
use Rattle.ts_journal.proofs.Extends.{extends_trans}
use Rattle.ts_group.specs.Context.{needed, keys_of}
use Rattle.ts_group.specs.Entries.{drops}
use Rattle.ts_group.proofs.Facts.{stay_less}
use Rattle.ts_group.proofs.Room.{needed_held, needed_destroyed}
use Rattle.ts_group.proofs.Roles.{keys_without}
use Rattle.ts_group.proofs.Acts.{destroys_one}
use Rattle.ts_group.proofs.Grows.{own_drops}
use Rattle.ts_group.proofs.keys.destroy_key.Goals as goal

pub returns-clause-destroys : goal.returns-clause-destroys
returns-clause-destroys c =
    let e = c.push.ensures.state in
    let d = c.drop_events.ensures.drops in
    let pending = ap (λ (x : State). x.pending) e ∙ d.others in
    let next = ap (λ (x : State). x.next) e ∙ d.next in
    let live = ap (λ (x : State). x.live) e ∙ ap (without_index c.args.key.index) d.live in
    destroys_one c.args.journal.now c.push.new.self c.args.roles.now.items c.remove_role.new.roles.items
    c.args.key c.known.ensures.valid
    (c.is_live.ensures.0 c.if-not-is_live.false) (extends_trans d.by c.push.ensures.log) pending next live
    (ap (λ (x : State). x.held) e ∙ d.held) c.remove_role.ensures

pub returns-clause-stay : goal.returns-clause-stay
returns-clause-stay c = stay_less c.args.journal.now.state c.push.new.self.state
    (returns-clause-destroys c).less

pub returns-clause-grows : goal.returns-clause-grows
returns-clause-grows c = record {
  own = drops (numbers_of c.args.key c.args.journal.now.state.pending) ++ Destroyed c.args.key ∷ [];
  by = extends_trans c.drop_events.ensures.drops.by c.push.ensures.log;
  all_own = own_drops (numbers_of c.args.key c.args.journal.now.state.pending) (Destroyed c.args.key ∷ [])
      (tt, tt);
}

pub returns-clause-kept : goal.returns-clause-kept
returns-clause-kept c =
    let s : State = c.args.journal.now.state in
    let m : State = c.drop_events.new.journal.state in
    let t : State = c.push.new.self.state in
    let e = c.push.ensures.state in
    let live : IsLive s.live c.args.key = c.is_live.ensures.0 c.if-not-is_live.false in
    let there : generation_at c.args.key.index m.live ≡ Some c.args.key.generation = ap
    (generation_at c.args.key.index) c.drop_events.ensures.drops.live ∙ live in
    let n : needed t + 1 ≡ needed m = needed_destroyed m t c.args.key.index c.args.key.generation there
    c.drop_events.ensures.drops.held (ap (λ (x : State). x.pending) e) (ap (λ (x : State). x.live) e)
    (ap (λ (x : State). x.held) e ∙ c.drop_events.ensures.drops.held) in
    let a = needed_held m c.drop_events.ensures.drops.held in
    let b = needed_held s c.requires.turn in
    let l : length m.live ≡ length s.live = ap length c.drop_events.ensures.drops.live in
    let enough = c.requires.kept.room in
    let dropped = c.drop_events.ensures.room in
    let left = c.push.ensures.room in
    record {
      room = omega arith;
      keys = ap keys_of c.remove_role.ensures ∙ keys_without c.args.key.index c.args.roles.now.items
          ∙ ap (without_index c.args.key.index) (c.requires.kept.keys ∙ sym c.drop_events.ensures.drops.live)
          ∙ ap (λ (x : State). x.live) (sym e);
    }
