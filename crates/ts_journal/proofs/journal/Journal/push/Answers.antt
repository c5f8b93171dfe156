-- The tables follow the entry that is added.
use Rattle.std.proofs.Common.{◌≡◌, sym, ap, subst}
use Rattle.ts_journal.specs.State.{State}
use Rattle.ts_journal.specs.Machine.{Allowed}
use Rattle.ts_journal.specs.Tables.{state_in}
use Rattle.ts_journal.proofs.Validity.{reached_push}
use Rattle.ts_journal.proofs.journal.Journal.push.Goals as goal

pub invariant_of-self : goal.invariant_of-self
invariant_of-self c =
    let same : c.args.self.now.state ≡ state_in c.self.inside.tables = ap (λ v. v.state) (sym c.self.view_is)
    in
    let allowed : Allowed (state_in c.self.inside.tables) c.args.entry = subst
    (λ (s : State). Allowed s c.args.entry) same c.requires.allowed in (
      reached_push (state_in c.self.inside.base) c.self.inside.entries.items c.push_reserved.new.self.items
          c.args.entry (state_in c.self.inside.tables) (state_in c.apply_over.new.tables) c.self.invariant.0
          allowed c.push_reserved.ensures.items c.apply_over.ensures.state,
      c.apply_over.ensures.hold,
      c.self.invariant.2,
    )
