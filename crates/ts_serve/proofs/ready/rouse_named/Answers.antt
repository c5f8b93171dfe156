-- Name after name, the desk goes on, and each that was tried is settled, or left.
use Rattle.std.proofs.Common.{◌≤◌, length, arith}
use Rattle.std.proofs.lemmas.Bool.Decides.{nat_tests}
use Rattle.ts_slot.specs.Words.{tags_of}
use Rattle.ts_serve.proofs.Desks.{desk_on, desk_some, desk_stays}
use Rattle.ts_serve.proofs.Settled.{left_on}
use Rattle.ts_serve.proofs.ready.rouse_named.Goals as goal

pub tries-init : goal.tries-init
tries-init g c = (c.requires.desk, desk_stays c.args.desk.now, λ j low. absurd (omega (arith, low)))

pub returns-in_err-rouse_or_keep-clause-keeps : goal.returns-in_err-rouse_or_keep-clause-keeps
returns-in_err-rouse_or_keep-clause-keeps g c =
    desk_on c.args.desk.now c.tries.desk c.rouse_or_keep.new.desk c.tries.invariant.1
    (desk_some c.tries.desk c.rouse_or_keep.new.desk 1 c.rouse_or_keep.ensures.keeps.desk)

pub tries-preserved : goal.tries-preserved
tries-preserved g c = (
  c.rouse_or_keep.ensures.desk,
  desk_on c.args.desk.now c.tries.desk c.rouse_or_keep.new.desk c.tries.invariant.1
      (desk_some c.tries.desk c.rouse_or_keep.new.desk 1 c.rouse_or_keep.ensures.keeps.desk),
  left_on g.W.Slotted.fits g.W.Tenant.keeps g.W.World.sound g.P.Slotted.fits g.P.World.sound g.P.World.is_first
      (tags_of c.args.shared.now.slots.now) c.args.row.now c.args.moment c.tries.place 1 c.args.names.now
      c.tries.missed.items c.rouse_or_keep.new.missed.items c.tries.desk c.rouse_or_keep.new.desk
      c.rouse_or_keep.ensures.keeps c.in_ok-rouse_or_keep.ensures.stays c.tries.invariant.2
      c.in_ok-rouse_or_keep.ensures.left,
)

pub returns-clause-left : goal.returns-clause-left
returns-clause-left g c =
    let past : length c.args.names.now ≤ c.tries.place = grind (arith, nat_tests, c.tries-test.false) in
    λ j low. c.tries.invariant.2 j (omega (arith, low, past))
