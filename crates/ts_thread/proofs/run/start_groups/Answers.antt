use Rattle.std.proofs.Common.{refl, ◌∙◌, sym}
use Rattle.ts_journal.specs.declared.entry.TheConstants.{GREATEST}
use Rattle.ts_queue.specs.Passes.{pass_view}
use Rattle.ts_slot.specs.Words.{tags_of, view}
use Rattle.ts_thread.specs.News.{HasPlaceAt}
use Rattle.ts_thread.specs.Started.{HasPut, IsFirst}
use Rattle.ts_thread.proofs.Groups.{ok_to}
use Rattle.ts_thread.proofs.Joins.{joined_more, joined_front, joined_put}
use Rattle.ts_thread.proofs.Openings.{unopened, joined_opened}
use Rattle.ts_thread.proofs.Starts.{all_more, place_put, none_waits}
use Rattle.ts_thread.proofs.run.start_groups.Goals as goal

pub returns-in_err-wheel-clause-opened : goal.returns-in_err-wheel-clause-opened
returns-in_err-wheel-clause-opened g c =
    unopened c.args.starts c.args.seat.now c.args.pass.now c.args.pass.now c.requires.opening refl

pub returns-in_err-own_pass-clause-opened : goal.returns-in_err-own_pass-clause-opened
returns-in_err-own_pass-clause-opened g c =
    unopened c.args.starts c.args.seat.now c.args.pass.now c.split.new.pass c.requires.opening
    c.in_err-own_pass.ensures.err

pub returns-in_default-clause-opened : goal.returns-in_default-clause-opened
returns-in_default-clause-opened g c =
    joined_opened c.args.starts c.args.seat.now c.split-own_seat.new.seat c.split-own_seat.result
    c.start_all-started.new.desk.seat c.join.new.into c.args.pass.now c.split.new.pass c.in_ok-own_pass.own_pass
    c.start_all-started.new.desk.pass c.join-2.new.into c.requires.opening
    c.split-own_seat.ensures.left c.split-own_seat.ensures.right c.start_all-started.ensures.keeps.desk.seat
    c.join.ensures.both c.in_ok-own_pass.ensures.kept c.in_ok-own_pass.ensures.split.1
    c.start_all-started.ensures.keeps.desk.share c.start_all-started.ensures.keeps.places.taken
    c.join-2.ensures.both

pub returns-clause-opened : goal.returns-clause-opened
returns-clause-opened g c =
    joined_opened c.args.starts c.args.seat.now c.split-own_seat.new.seat c.split-own_seat.result
    c.start_all-started.new.desk.seat c.join.new.into c.args.pass.now c.split.new.pass c.in_ok-own_pass.own_pass
    c.start_all-started.new.desk.pass c.join-2.new.into c.requires.opening
    c.split-own_seat.ensures.left c.split-own_seat.ensures.right c.start_all-started.ensures.keeps.desk.seat
    c.join.ensures.both c.in_ok-own_pass.ensures.kept c.in_ok-own_pass.ensures.split.1
    c.start_all-started.ensures.keeps.desk.share c.start_all-started.ensures.keeps.places.taken
    c.join-2.ensures.both

pub returns-clause-knows : goal.returns-clause-knows
returns-clause-knows g c =
    joined_front (view c.args.seat.now) (view c.split-own_seat.new.seat)
    (view c.start_all-started.new.desk.seat) (view c.join.new.into) c.split-own_seat.ensures.left
    c.join.ensures.both

pub returns-in_default-clause-knows : goal.returns-in_default-clause-knows
returns-in_default-clause-knows g c =
    joined_front (view c.args.seat.now) (view c.split-own_seat.new.seat)
    (view c.start_all-started.new.desk.seat) (view c.join.new.into) c.split-own_seat.ensures.left
    c.join.ensures.both

pub returns-clause-started : goal.returns-clause-started
returns-clause-started g c =
    ok_to c.start_all-started.result
    (all_more g.row.W-Question.Denot g.row.W-Reply.Denot g.row.W-Trace.Denot g.W.Slotted.fits
    (IsFirst g.W.World.is_first (tags_of c.args.shared.now.slots.now)) g.W.World.begun g.W.World.sound
    (HasPlaceAt GREATEST c.start_all-started.new.desk)
    (HasPut c.join-2.new.into)
    (view c.start_all-started.new.desk.seat).known
    (view c.join.new.into).known
    c.args.starts
    (joined_more (view c.split-own_seat.new.seat) (view c.start_all-started.new.desk.seat)
    (view c.join.new.into) c.join.ensures.both)
    (λ k p has. joined_put _ (pass_view c.split.new.pass) (pass_view c.start_all-started.new.desk.pass)
    (pass_view c.join-2.new.into) c.join-2.ensures.both
    (place_put GREATEST c.start_all-started.new.desk
    (none_waits c.start_all-started.new.desk.wheel (sym c.next_due-waits.ensures ∙ c.in-None.is)) k p
    has)))
    c.start_all-started.ensures.started
