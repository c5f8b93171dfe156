-- Both continuations that may wait for a link were hastened, or the next step calls none.
use Rattle.std.proofs.Common.{Option, arith, refl, subst, sym, ◌∙◌}
use Rattle.std.proofs.lemmas.Bool.{true≢false}
use Rattle.ts_group.proofs.Grows.{grows_refl, grows_trans}
use Rattle.ts_transform.specs.declared.continuation.StageContinuation.{StageContinuation}
use Rattle.ts_txn.specs.Rousing.{HastensEnd}
use Rattle.ts_txn.proofs.Forward.{work_same, work_then}
use Rattle.ts_txn.proofs.rouse.rouse_on.Goals as goal

-- The next step calls no link.
pub returns-then-not-is_link_next-clause-rouses : goal.returns-then-not-is_link_next-clause-rouses
returns-then-not-is_link_next-clause-rouses g c = record {
  rests = λ rests. refl;
  hastens = λ next. absurd
      (true≢false (sym next ∙ sym c.is_link_next.ensures ∙ c.if-not-is_link_next.true));
}

pub returns-then-not-is_link_next-clause-keeps : goal.returns-then-not-is_link_next-clause-keeps
returns-then-not-is_link_next-clause-keeps g c = work_same 2 c.args.cx.now

pub returns-then-not-is_link_next-clause-grows : goal.returns-then-not-is_link_next-clause-grows
returns-then-not-is_link_next-clause-grows g c = grows_refl c.args.cx.now

-- It calls one.
pub returns-clause-rouses : goal.returns-clause-rouses
returns-clause-rouses g c = record {
  rests = λ rests. absurd
      (true≢false (sym c.if-not-is_link_next.false ∙ c.is_link_next.ensures ∙ rests));
  hastens = λ next. record {
    mid = c.hasten_end.new.cx;
    before = c.hasten_end.ensures.hastens;
    behind = subst (λ (end : Option StageContinuation). HastensEnd end c.hasten_end.new.cx
        c.hasten_end-2.new.cx) c.reader_of.ensures c.hasten_end-2.ensures.hastens;
  };
}

pub returns-clause-keeps : goal.returns-clause-keeps
returns-clause-keeps g c =
    work_then 1 1 2 c.args.cx.now c.hasten_end.new.cx c.hasten_end-2.new.cx (omega arith)
    c.hasten_end.ensures.keeps c.hasten_end-2.ensures.keeps

pub returns-clause-grows : goal.returns-clause-grows
returns-clause-grows g c = grows_trans c.hasten_end.ensures.grows c.hasten_end-2.ensures.grows
