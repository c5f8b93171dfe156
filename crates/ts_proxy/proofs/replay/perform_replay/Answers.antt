-- The files are read, the transactions run, and the report written.
use Rattle.ts_config.specs.Setup.{lines_of}
use Rattle.ts_proxy.specs.Words.{Replay}
use Rattle.ts_proxy.proofs.Performing.{performed-unread, performed-worked, work-unrun}
use Rattle.ts_proxy.proofs.replay.perform_replay.Goals as goal

pub send_report-requires : goal.send_report-requires
send_report-requires g c = record { reported = c.in-Ok-run_recording.ensures.replayed.on.replayed.comes.reported }

pub returns-in-Err : goal.returns-in-Err
returns-in-Err g c =
    rw c.without.ensures.answer
    (performed-unread Replay c.args.task.now.config.now c.args.task.now.recording.now
    g.S.Shelf.tells g.K.Sink.tells
    (g.S.Shelf.seen c.args.shelf.now) (g.S.Shelf.seen c.read_files.new.shelf) _
    c.in-Err.answer _ c.in-Err.ensures.told c.in-Err.ensures.named c.in-Err.ensures.cause
    c.without.ensures.none)

pub returns-in-Ok-run_recording : goal.returns-in-Ok-run_recording
returns-in-Ok-run_recording g c =
    performed-worked Replay c.args.task.now.config.now c.args.task.now.recording.now g.S.Shelf.tells
    g.K.Sink.tells
    (g.S.Shelf.seen c.args.shelf.now) (g.S.Shelf.seen c.read_files.new.shelf) _ _ _ _
    (lines_of c.in-Ok.files.setup) c.in-Ok.files.input c.in-Ok.ensures.told c.in-Ok.ensures.same
    (c.send_report.ensures (lines_of c.in-Ok.files.setup) c.in-Ok.files.input
    c.in-Ok-run_recording.ensures.replayed)

pub returns-in-Err-run_recording : goal.returns-in-Err-run_recording
returns-in-Err-run_recording g c =
    rw c.without-in-Err-run_recording.ensures.answer
    (performed-worked Replay c.args.task.now.config.now c.args.task.now.recording.now
    g.S.Shelf.tells g.K.Sink.tells
    (g.S.Shelf.seen c.args.shelf.now) (g.S.Shelf.seen c.read_files.new.shelf) _ _ _ _
    (lines_of c.in-Ok.files.setup) c.in-Ok.files.input c.in-Ok.ensures.told c.in-Ok.ensures.same
    (work-unrun (lines_of c.in-Ok.files.setup) c.in-Ok.files.input g.K.Sink.tells _
    c.in-Err-run_recording.answer _ c.in-Err-run_recording.ensures.refusal
    c.without-in-Err-run_recording.ensures.none))
