use Rattle.std.proofs.Common.{refl, sym, subst}
use Rattle.ts_journal.specs.declared.entry.Event.TheVariants.{Error}
use Rattle.ts_transform.specs.Driving.{IsTellingBefore}
use Rattle.ts_transform.specs.Seats.{HasKey}
use Rattle.ts_transform.proofs.Seating.{key_passed, seated_as, seated_then}
use Rattle.ts_transform.proofs.Kept.{adds_none, few_refl}
use Rattle.ts_transform.proofs.Setting.{named_marked, only_none}
use Rattle.ts_transform.proofs.handler.pass_error.Goals as goal

pub returns-then-not-mark_error_passed-clause-adds : goal.returns-then-not-mark_error_passed-clause-adds
returns-then-not-mark_error_passed-clause-adds c = adds_none c.args.cx.now 1 c.requires.turn

pub returns-then-not-mark_error_passed-clause-only : goal.returns-then-not-mark_error_passed-clause-only
returns-then-not-mark_error_passed-clause-only c = λ first named. only_none
    (IsTellingBefore Error first c.args.at c.args.cx.now.roles) c.args.cx.now

pub returns-then-not-mark_error_passed-clause-quiet : goal.returns-then-not-mark_error_passed-clause-quiet
returns-then-not-mark_error_passed-clause-quiet c = λ passed. (refl, few_refl c.args.cx.now 0)

pub returns-clause-only : goal.returns-clause-only
returns-clause-only c = λ first named.
    c.tell_before.ensures.only first (named_marked c.args.cx.now.roles first c.args.at c.args.table.now
    c.mark_error_passed.new.table c.mark_error_passed.ensures.table named)

-- It is of the stage before.
pub returns-then-not-mark_error_passed-clause-table : goal.returns-then-not-mark_error_passed-clause-table
returns-then-not-mark_error_passed-clause-table c =
    let table = c.args.table.now in
    let marked = c.mark_error_passed.new.table in (
      c.mark_error_passed.ensures.table,
      seated_as table marked c.args.cx.now c.args.cx.now refl
          (λ k has. subst (λ us. HasKey us k) (sym c.mark_error_passed.ensures.table)
          (key_passed table c.args.at k has)),
    )

pub returns-clause-table : goal.returns-clause-table
returns-clause-table c =
    let table = c.args.table.now in
    let marked = c.mark_error_passed.new.table in (
      c.mark_error_passed.ensures.table,
      seated_then table marked marked c.args.cx.now c.args.cx.now c.tell_before.new.cx
          (seated_as table marked c.args.cx.now c.args.cx.now refl
          (λ k has. subst (λ us. HasKey us k) (sym c.mark_error_passed.ensures.table)
          (key_passed table c.args.at k has))) c.tell_before.ensures.seated,
    )
