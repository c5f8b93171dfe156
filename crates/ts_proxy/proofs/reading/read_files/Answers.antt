use Rattle.ts_config.specs.Setup.{lines_of}
use Rattle.ts_proxy.proofs.Opening.{input-refused, performed-read, performed-refused}
use Rattle.ts_proxy.proofs.reading.read_files.Goals as goal

pub returns-in-Ok-read-clause-told : goal.returns-in-Ok-read-clause-told
returns-in-Ok-read-clause-told g c = λ tells command.
    performed-read command (g.S.Shelf.seen c.args.shelf.now).file (g.S.Shelf.seen c.set_up.new.shelf).file
    c.args.config.now c.args.input.now c.in-Ok-read.input
    (lines_of c.in-Ok.setup) (c.in-Ok.ensures.told tells c.args.input.now) (c.in-Ok.ensures.files tells)
    (c.in-Ok-read.ensures.told tells) c.in-Ok-read.ensures.limit

pub returns-in-Err-read-clause-told : goal.returns-in-Err-read-clause-told
returns-in-Err-read-clause-told g c = λ tells command.
    rw c.refused.ensures
    (performed-refused command (g.S.Shelf.seen c.args.shelf.now).file
    (g.S.Shelf.seen c.set_up.new.shelf).file c.args.config.now c.args.input.now (lines_of c.in-Ok.setup)
    c.in-Err-read.fault (c.in-Ok.ensures.told tells c.args.input.now) (c.in-Ok.ensures.files tells)
    c.in-Err-read.ensures.limit (c.in-Err-read.ensures.told tells))

pub returns-in-Err-read-clause-named : goal.returns-in-Err-read-clause-named
returns-in-Err-read-clause-named g c = λ tells.
    rw c.refused.ensures
    (input-refused (g.S.Shelf.seen c.args.shelf.now) c.args.config.now (lines_of c.in-Ok.setup)
    c.in-Err-read.fault (c.in-Ok.ensures.told tells c.args.input.now))
