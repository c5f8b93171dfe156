-- A group stands after itself when a turn was recorded, or none was.
use Rattle.std.proofs.Common.{[], ◌∷◌, inr, ap, sym, ◌∙◌, subst, arith}
use Rattle.ts_journal.specs.declared.entry.Entry.TheVariants.{Took, Gave}
use Rattle.ts_journal.specs.Later.{IsLater}
use Rattle.ts_journal.proofs.Later.{later_refl, follows_trans, extends_follows, goes_on_follows}
use Rattle.ts_toys.proofs.recorded.record.Goals as goal

pub returns-in_err-begin_turn-clause-stands : goal.returns-in_err-begin_turn-clause-stands
returns-in_err-begin_turn-clause-stands g c =
    let old = c.args.group.now in
    let same = c.in_err-begin_turn.ensures.err in
    record {
      follows = record {
        journal = inr (
          ap (λ b. b.made) same.log.base,
          subst (IsLater old.cx.log.state) (sym same.log.state)
              (later_refl old.cx.log.state),
        );
        tags = λ made tag. subst (g.W.Slotted.fits tag) (sym c.begin_turn.ensures.world);
      };
      news = λ made. let from = same.news_from in omega arith;
    }

pub returns-clause-stands : goal.returns-clause-stands
returns-clause-stands g c =
    let old = c.args.group.now in
    let mid = c.begin_turn.new.self in
    let new = c.give_turn.new.self in
    record {
      follows = record {
        journal = follows_trans (new.cx.log.base.made, new.cx.log.state)
            (mid.cx.log.base.made, mid.cx.log.state) (old.cx.log.base.made, old.cx.log.state)
            (goes_on_follows mid.cx.log new.cx.log (Gave mid.cx.log.state.turns ∷ []) c.known-2.ensures.valid
            c.give_turn.ensures.gives.by)
            (extends_follows old.cx.log mid.cx.log (Took c.args.turn c.args.seat ∷ []) c.known.ensures.valid
            c.in_ok-begin_turn.ensures.begins.by);
        tags = λ made tag. subst (g.W.Slotted.fits tag)
            (sym (c.give_turn.ensures.world ∙ c.begin_turn.ensures.world));
      };
      news = λ made. let a = c.begin_turn.ensures.kept.news_from in let b = c.give_turn.ensures.kept.news_from
          in omega arith;
    }
