use Rattle.std.proofs.Common.{◌≡◌, ℕ, ◌+◌, ◌*◌, ◌∙◌, ap, length, sym, subst, true, arith}
use mathlib.Core.Option.{some}
use lib.ListN.{get_elem?}
use Rattle.std.proofs.Math.Nat.{le_refl}
use Rattle.ts_lists.proofs.Pairs.{zip_from_found, zip_from_places}
use Rattle.ts_lists.proofs.Elements.{all_from_places}
use Rattle.ts_group.specs.declared.group.Group.{Group}
use Rattle.ts_group.specs.Standing.{FollowsGroup, StandsAfter}
use Rattle.ts_slot.specs.Lists.{IsIn, entries}
use Rattle.ts_slot.specs.Words.{tags_of, view}
use Rattle.ts_thread.specs.Ran.{AllRanToEnd}
use Rattle.ts_thread.specs.Started.{CanStart, IsFirst, AllStarted, HasPut}
use Rattle.ts_thread.specs.Tags.{GroupFits}
use Rattle.ts_thread.specs.Threads.{HasHadTurns, turns_of}
use Rattle.ts_thread.proofs.Ended.{fit_count}
use Rattle.ts_thread.proofs.Ran.{all_ran}
use Rattle.ts_thread.proofs.Starts.{few_entries, few_all, still_young, was_started, after_known, given_known}
use Rattle.ts_thread.proofs.run.run_groups.Goals as goal

pub start_groups-requires-clause-tags : goal.start_groups-requires-clause-tags
start_groups-requires-clause-tags g c = subst (λ ts. CanStart g.W.World.only_asked ts c.args.plan.starts)
    (sym c.in-Ok.ensures.tags) c.requires.run.plan.tagged

pub returns-clause-groups : goal.returns-clause-groups
returns-clause-groups g c =
    let G = Group g.row.W.Denot g.row.W-Question.Denot g.row.W-Reply.Denot g.row.W-Tag.Denot
    g.row.W-Trace.Denot in
    let seat = view c.run_threads-seat.result.0 in
    let first = IsFirst g.W.World.is_first c.args.tags.items in
    let fit = λ (t : g.row.W-Tag.Denot) (x : G). GroupFits g.W.Slotted.fits g.W.World.sound
    g.W.World.only_asked g.W.World.is_first t x in
    let count = c.in-Ok-close.ensures.count ∙ ap length c.in-Ok.ensures.tags in
    -- each group that was given is still known
    let known : (k : ℕ) (h : G) → get_elem? c.args.groups.items k ≡ some h
    → IsIn (k, 0, h) seat.known = λ k h at.
    let was : IsIn (k, 0, h) (view c.in-Ok.seat).known = subst (λ v. IsIn (k, 0, h) v.known)
    (sym c.in-Ok.ensures.view) (given_known c.args.groups.items 0 k k h (omega arith) at) in
    c.run_threads-seat.ensures.back.keeps.known.stays (k, 0, h)
    (c.in_ok-start_groups.ensures.knows.stays (k, 0, h) was) in
    record {
      follow = zip_from_places (FollowsGroup g.W.Slotted.fits) c.in-Ok-close.groups.items c.args.groups.items
          (fit_count fit c.args.tags.items c.args.groups.items c.requires.run.fits ∙ sym count)
          (λ k x h at at'. (after_known (StandsAfter g.W.Slotted.fits) seat.known k (entries k seat.turns + 1)
          0 h x (c.in-Ok-close.ensures.values k x at).later (known k h at')).follows);
      fits = zip_from_found fit c.args.tags.items c.in-Ok-close.groups.items count (λ k x at.
          let last = c.in-Ok-close.ensures.values k x at in
          subst (λ ts. (t : g.row.W-Tag.Denot) × (get_elem? ts k ≡ some t) × fit t x) c.in-Ok.ensures.tags
          last.fit);
      turns = all_from_places (HasHadTurns (turns_of c.args.plan.starts c.args.plan.threads c.args.plan.budget))
          c.in-Ok-close.groups.items (λ k x at.
          let last = c.in-Ok-close.ensures.values k x at in
          few_all x.cx.log.state.turns (entries k seat.turns) (length seat.turns)
          (length (view c.start_groups.new.seat).turns) c.args.plan.starts
          (c.args.plan.threads * (2 * c.args.plan.budget)) last.stamped (few_entries k seat.turns)
          c.run_threads-seat.ensures.back.keeps.turns c.in_ok-start_groups.ensures.opened.few);
      started = λ k h x low given at.
          let last = c.in-Ok-close.ensures.values k x at in
          let old = (view c.start_groups.new.seat).known in
          let started = subst (λ ts. AllStarted g.row.W-Question.Denot g.row.W-Reply.Denot g.row.W-Trace.Denot
          g.W.Slotted.fits (IsFirst g.W.World.is_first ts) g.W.World.begun g.W.World.sound
          (HasPut c.start_groups.new.pass) old c.args.plan.starts) c.in-Ok.ensures.tags
          c.in_ok-start_groups.ensures.started in
          let few = few_all (entries k seat.turns) (entries k seat.turns) (length seat.turns)
          (length (view c.start_groups.new.seat).turns) c.args.plan.starts
          (c.args.plan.threads * (2 * c.args.plan.budget)) (le_refl (entries k seat.turns))
          (few_entries k seat.turns) c.run_threads-seat.ensures.back.keeps.turns
          c.in_ok-start_groups.ensures.opened.few in
          let stood = c.in_ok-start_groups.ensures.knows.stays (k, 0, h)
          (subst (λ v. IsIn (k, 0, h) v.known) (sym c.in-Ok.ensures.view)
          (given_known c.args.groups.items 0 k k h (omega arith) given)) in
          was_started g.W.Slotted.fits first g.W.World.begun g.W.World.sound (HasPut c.start_groups.new.pass)
          old seat.known seat.turns k h x (still_young (entries k seat.turns)
          (turns_of c.args.plan.starts c.args.plan.threads c.args.plan.budget) few c.requires.run.plan.turns)
          (started k low) c.in_ok-start_groups.ensures.later stood
          c.run_threads-seat.ensures.back.keeps.known last.later;
    }

pub returns-clause-ran : goal.returns-clause-ran
returns-clause-ran g c = record {
  seat = c.start_groups.new.seat;
  pass = c.start_groups.new.pass;
  back = c.run_threads-seat.result.0;
  back_pass = c.run_threads-seat.result.1;
  started = subst
      (λ ts. AllStarted g.row.W-Question.Denot g.row.W-Reply.Denot g.row.W-Trace.Denot g.W.Slotted.fits
      (IsFirst g.W.World.is_first ts)
      g.W.World.begun g.W.World.sound (HasPut c.start_groups.new.pass) (view c.start_groups.new.seat).known
      c.args.plan.starts)
      c.in-Ok.ensures.tags c.in_ok-start_groups.ensures.started;
  ran =
      let ended : c.run_threads-seat.result.2 ≡ true = let is = c.if-not-ended.false in grind arith in
      subst
      (λ ts. AllRanToEnd g.W.Slotted.fits g.W.World.asking g.W.World.answers g.W.World.called g.W.World.heard
      g.W.World.left ts c.args.plan.budget c.args.plan.threads
      c.start_groups.new.seat c.start_groups.new.pass c.run_threads-seat.result.0 c.run_threads-seat.result.1)
      c.in-Ok.ensures.tags
      (all_ran g.W.Slotted.fits g.W.World.asking g.W.World.answers g.W.World.called g.W.World.heard
      g.W.World.left (tags_of c.in-Ok.slots) c.args.plan.budget c.args.plan.threads c.run_threads-seat.result.2 ended
      c.start_groups.new.seat c.run_threads-seat.result.0 c.start_groups.new.pass c.run_threads-seat.result.1
      c.run_threads-seat.ensures.ran);
  stand = λ k x at. (c.in-Ok-close.ensures.values k x at).later;
}
