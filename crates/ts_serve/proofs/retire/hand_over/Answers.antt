-- What is left of a handler is handed over with the journal of its group.
use Rattle.std.proofs.Common.{ap, sym, subst, ◌≡◌, ◌∙◌, false}
use Rattle.std.proofs.lemmas.Result.{on_ok_weaker}
use Rattle.ts_group.specs.declared.either.Either.TheVariants.{One}
use Rattle.ts_journal.proofs.Final.{is_kept}
use Rattle.ts_serve.specs.declared.whose.Whose.{Whose}
use Rattle.ts_serve.proofs.Cleared.{over_in, whose_over}
use Rattle.ts_serve.proofs.Tenants.{one_handler}
use Rattle.ts_serve.proofs.retire.hand_over.Goals as goal

pub returns-clause-journal : goal.returns-clause-journal
returns-clause-journal g c =
    let world = sym c.into_parts-world.ensures.0 ∙ c.in-One-Tenant.is ∙ ap One c.in-One-Tenant.field-0-is in
    on_ok_weaker c.retire-2.result
    (λ handed handler lives lasts.
    let same = one_handler handler c.in-One-Tenant.handler (sym lives ∙ world) in
    record {
      retired = c.retire.result;
      handed = handed;
      journal_is = c.retire.ensures.journal (subst (λ w. g.W.Handler.may_wait w ≡ false) same lasts)
          ∙ c.into_parts-world.ensures.1;
    })
    c.retire-2.ensures.ok

pub returns-clause-ok : goal.returns-clause-ok
returns-clause-ok g c =
    let group = c.args.group in
    let world = sym c.into_parts-world.ensures.0 ∙ c.in-One-Tenant.is ∙ ap One c.in-One-Tenant.field-0-is in
    let whose = whose_over g.W.World.sound g.W.Handler.whose_of g.W.Handler.is_ended g.W.Handler.may_wait
    c.args.whose group.world c.in-One-Tenant.handler world c.requires.over in
    let kept = is_kept group.cx.log c.journal-journal.result.now c.entries.result.now
    c.journal-journal.ensures c.entries.ensures.entries c.entries.ensures.lawful c.entries.ensures.state
    c.known-2.ensures.lived_base c.known-2.ensures.lived
    c.known-2.ensures.valid.counts in
    on_ok_weaker c.retire-2.result
    (λ handed terms fits. record {
      retired = c.retire.result;
      handed = handed;
      number_is = c.retire.ensures.number ∙ ap (λ (v : Whose). v.number) whose;
      origin_is = c.retire.ensures.origin ∙ ap (λ (v : Whose). v.has_origin) whose;
      done = c.retire.ensures.done terms
          (over_in g.W.Slotted.fits g.W.Tenant.keeps g.W.World.sound g.P.Slotted.fits g.P.World.sound
          g.P.World.only_asked g.P.World.is_first g.W.Handler.whose_of g.W.Handler.is_ended
          g.W.Handler.may_wait c.args.whose terms group c.in-One-Tenant.handler
          c.into_parts-world.result.1 c.requires.over world c.into_parts-world.ensures.1 kept fits);
    })
    c.retire-2.ensures.ok
