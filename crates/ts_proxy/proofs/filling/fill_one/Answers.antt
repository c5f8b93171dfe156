-- The line that was filled is the one of the outcome.
use Rattle.std.proofs.Common.{ap, sym, ◌∙◌}
use Rattle.ts_config.specs.Setup.{lines_of, with_file}
use Rattle.ts_proxy.specs.Outcome.{named_filled}
use Rattle.ts_proxy.proofs.filling.fill_one.Goals as goal

pub returns-in-Ok-read_text-clause-told : goal.returns-in-Ok-read_text-clause-told
returns-in-Ok-read_text-clause-told g c = λ tells config input next.
    let files = (g.S.Shelf.seen c.args.shelf.now).file in
    let old = lines_of c.args.setup.now in
    ap (λ o. named_filled files o c.args.place old next) c.in-Ok.ensures.name
    ∙ c.in-Ok-read_text.ensures.told tells config input (λ text. next (with_file c.args.place text old))
    ∙ ap next (sym c.fill_at.ensures.filled)
