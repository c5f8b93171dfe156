use Rattle.std.proofs.Common.{◌++◌, ◌∷◌, [], ap, refl, subst, ◌∙◌}
use Rattle.ts_config.specs.Bodies.{compose_lines}
use Rattle.ts_proxy.specs.Outcome.{Text}
use Rattle.ts_proxy.specs.Performed.{IsOfBody}
use Rattle.ts_proxy.specs.Took.{TookAll, TookFront}
use Rattle.ts_proxy.proofs.Performing.{work-lacking, work-stopped, work-unwritten, work-written}
use Rattle.ts_proxy.proofs.transform.send_body.Goals as goal

pub returns-in_default : goal.returns-in_default
returns-in_default g c =
    rw c.without.ensures.answer
    (work-lacking IsOfBody (Text (compose_lines c.args.lines.now c.args.body)) g.K.Sink.tells _ _
    c.without.ensures.none)

pub returns-in-Done : goal.returns-in-Done
returns-in-Done g c =
    let text = compose_lines c.args.lines.now c.args.body in
    work-written IsOfBody (Text text) text g.K.Sink.tells _ _ _ tt refl (
      c.in-Done.ensures.journals.0,
      c.in-Done.ensures.journals.1 ∙ ap
          (λ l. l ++ c.in-Done.ensures.journals.0 ∷ []) c.new-journals.ensures.items,
      c.in-Done.ensures.journals.2,
    ) tt
    (λ tells. subst (TookAll (g.K.Sink.seen c.args.out.now) (g.K.Sink.seen c.drive.new.out))
    c.in-Ok.ensures.flow (c.in-Done.ensures.told tells))
    c.in-Done.ensures.faults

pub returns-in-Failed : goal.returns-in-Failed
returns-in-Failed g c =
    let text = compose_lines c.args.lines.now c.args.body in
    work-unwritten IsOfBody (Text text) text g.K.Sink.tells _ _ _ tt refl
    (λ tells. subst (TookFront (g.K.Sink.seen c.args.out.now) (g.K.Sink.seen c.drive.new.out))
    c.in-Ok.ensures.flow (c.in-Failed.ensures.told tells))
    c.in-Failed.ensures.faults (c.in-Failed.ensures.journals ∙ c.new-journals.ensures.items)

pub returns-in-NoMemory : goal.returns-in-NoMemory
returns-in-NoMemory g c =
    let text = compose_lines c.args.lines.now c.args.body in
    work-stopped IsOfBody (Text text) text g.K.Sink.tells _ _ _ refl
    (λ tells. subst (TookFront (g.K.Sink.seen c.args.out.now) (g.K.Sink.seen c.drive.new.out))
    c.in-Ok.ensures.flow (c.in-NoMemory.ensures.told tells))
    c.in-NoMemory.ensures.faults (c.in-NoMemory.ensures.journals ∙ c.new-journals.ensures.items)
