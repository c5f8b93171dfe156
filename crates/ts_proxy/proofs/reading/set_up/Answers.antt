-- The lines that were read stay few and plain when they are filled, and those that act are among them.
use Rattle.std.proofs.Common.{◌∙◌, ap, sym}
use Rattle.ts_config.specs.Setup.{lines_of}
use Rattle.ts_config.specs.Value.{config_of}
use Rattle.ts_proxy.specs.Outcome.{lines_filled}
use Rattle.ts_proxy.proofs.ActingLines.{plain_acting}
use Rattle.ts_proxy.proofs.Opening.{set-up-read}
use Rattle.ts_proxy.proofs.reading.set_up.Goals as goal

pub returns-in-Ok-ordered-clause-told : goal.returns-in-Ok-ordered-clause-told
returns-in-Ok-ordered-clause-told g c = λ tells input next.
    let read = c.in-Ok-read_config.setup in
    let places = read.files.items in
    set-up-read c.args.sessions (g.S.Shelf.seen c.args.shelf.now).file c.args.config.now c.in-Ok.bytes
    (lines_of read) (lines_of c.in-Ok-fill_setup.setup) (lines_of c.in-Ok-ordered.setup) places
    (c.in-Ok.ensures.told tells) c.in-Ok.ensures.limit
    (ap config_of (sym c.bytes-2.ensures) ∙ c.in-Ok-read_config.ensures.value)
    (λ goes. ap (λ files. lines_filled files places (lines_of read) goes) (sym (c.in-Ok.ensures.files tells))
    ∙ c.in-Ok-fill_setup.ensures.told tells c.args.config.now input goes)
    c.in-Ok-ordered.ensures.lines next

pub returns-in-Ok-ordered-clause-lines : goal.returns-in-Ok-ordered-clause-lines
returns-in-Ok-ordered-clause-lines g c =
    plain_acting c.args.sessions c.bytes-2.result.now c.in-Ok-read_config.setup c.in-Ok-fill_setup.setup
    c.in-Ok-ordered.setup c.in-Ok-read_config.ensures.read c.in-Ok-read_config.ensures.rules
    c.in-Ok-fill_setup.ensures.lines c.in-Ok-ordered.ensures.lines
