-- Whoever is looked for in the group that was found has ended there, or the seat knows that it has not.
use Rattle.std.proofs.Common.{◌≡◌, ◌<◌, ◌∙◌, true, false, inr, subst, sym}
use Rattle.ts_slot.specs.Words.{tags_of, view}
use Rattle.ts_slot.proofs.Lists.{each_map}
use Rattle.ts_thread.specs.Entering.{Finds}
use Rattle.ts_thread.specs.Seats.{KnowsTurn}
use Rattle.ts_journal.specs.Machine.{HasLived}
use Rattle.ts_group.specs.Either.{EitherFits}
use Rattle.ts_serve.specs.Places.{PlaceFits}
use Rattle.ts_serve.specs.TakingOut.{EntersEnded, HasEndedAt}
use Rattle.ts_serve.proofs.step.enter_ended.Goals as goal

pub leave_found-requires-clause-finds : goal.leave_found-requires-clause-finds
leave_found-requires-clause-finds g c =
    subst (Finds (tags_of c.args.slots.now) (view c.enter.new.seat)) (sym c.finds_lacking.ensures.same)
    c.in-Some.ensures.finds

pub leave_found-requires-then-not-finds_ended-clause-finds :
    goal.leave_found-requires-then-not-finds_ended-clause-finds
leave_found-requires-then-not-finds_ended-clause-finds g c =
    subst (Finds (tags_of c.args.slots.now) (view c.enter.new.seat))
    (sym (c.finds_ended.ensures.same ∙ c.finds_lacking.ensures.same)) c.in-Some.ensures.finds

-- memory lacked in whoever lives there
pub returns-then-finds_lacking-clause-err : goal.returns-then-finds_lacking-clause-err
returns-then-finds_lacking-clause-err g c =
    let turn = c.in-Some.turn in
    let left = c.leave_found in (
      c.in-Some.ensures.keeps (view left.new.seat) left.ensures.leaves,
      record {
        turn = turn.number;
        later = each_map _ (λ e. e.0 ≡ c.args.k → e.1 < turn.number) (view c.args.seat.now).known
            (λ e after is. (after is).0) c.in-Some.ensures.again;
        found = turn.boxed.value;
        lacks = sym c.finds_lacking.ensures.lacks ∙ c.if-finds_lacking.true;
        knows = subst (λ j. KnowsTurn j turn.number turn.boxed.value (view left.new.seat).known)
            c.in-Some.ensures.group
            (subst (λ t. KnowsTurn t.group t.number t.boxed.value (view left.new.seat).known)
            c.finds_lacking.ensures.same left.ensures.knows);
      },
    )

pub returns-then-not-finds_ended-clause-found : goal.returns-then-not-finds_ended-clause-found
returns-then-not-finds_ended-clause-found g c =
    let turn = c.in-Some.turn in
    let left = c.leave_found-then-not-finds_ended in
    let same = c.finds_ended.ensures.same ∙ c.finds_lacking.ensures.same in (
      inr (record {
        turn = turn.number;
        later = each_map _ (λ e. e.0 ≡ c.args.k → e.1 < turn.number) (view c.args.seat.now).known
            (λ e after is. (after is).0) c.in-Some.ensures.again;
        found = turn.boxed.value;
        stays = record {
          lives_on = λ ended. absurd (let wrong : true ≡ false =
              sym (c.finds_ended.ensures.over.1 (subst (λ t. HasEndedAt g.W.World.sound g.W.Handler.whose_of
              g.W.Handler.is_ended c.args.whose c.args.made t.boxed.value) (sym c.finds_lacking.ensures.same)
              ended)) ∙ c.if-not-finds_ended.true in cc);
          lacks_not = sym c.finds_lacking.ensures.lacks ∙ c.if-finds_lacking.false;
          knows = subst (λ j. KnowsTurn j turn.number turn.boxed.value (view left.new.seat).known)
              c.in-Some.ensures.group
              (subst (λ t. KnowsTurn t.group t.number t.boxed.value (view left.new.seat).known) same
              left.ensures.knows);
        };
      }),
      c.in-Some.ensures.keeps (view left.new.seat) left.ensures.leaves,
    )

pub returns-clause-found : goal.returns-clause-found
returns-clause-found g c =
    let same = c.open_turn.ensures.same ∙ c.finds_ended.ensures.same ∙ c.finds_lacking.ensures.same in
    let before = c.finds_ended.ensures.same ∙ c.finds_lacking.ensures.same in
    subst (EntersEnded g.W.World.sound g.W.Handler.whose_of g.W.Handler.is_ended
    (EitherFits (PlaceFits g.W.Slotted.fits g.W.Tenant.keeps) g.P.Slotted.fits) (tags_of c.args.slots.now)
    c.args.whose c.args.made c.args.k (view c.args.seat.now) (view c.enter.new.seat)) (sym same)
    (record {
      group = c.in-Some.ensures.group;
      finds = c.in-Some.ensures.finds;
      ended = subst (λ t. HasEndedAt g.W.World.sound g.W.Handler.whose_of g.W.Handler.is_ended c.args.whose
          c.args.made t.boxed.value) c.finds_lacking.ensures.same
          (c.finds_ended.ensures.over.0 c.if-not-finds_ended.false);
      keeps = c.in-Some.ensures.keeps;
      again = c.in-Some.ensures.again;
      lived = subst (λ t. HasLived t.boxed.value.cx.log.base.made t.boxed.value.cx.log.state) before
          c.open_turn.ensures.lived;
    })
