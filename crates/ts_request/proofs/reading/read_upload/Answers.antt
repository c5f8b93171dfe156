-- What came with the head is handed over first, and then what the client gives.
use Rattle.ts_request.proofs.FrontShows.{behind_handed, client_handed}
use Rattle.ts_request.proofs.reading.read_upload.Goals as goal

pub returns-then-count-gt0-clause-reads : goal.returns-then-count-gt0-clause-reads
returns-then-count-gt0-clause-reads g c =
    (behind_handed g.C.Link.tells c.args.text.now c.hand_over-count.new.self (g.C.Link.look c.args.client.now)
    c.requires.uploading.0 c.args.into.now c.hand_over-count.new.into c.hand_over-count.result
    c.hand_over-count.ensures c.if-count-gt0.true c.requires.uploading.1 c.requires.holds).0

pub returns-then-count-gt0-clause-holds : goal.returns-then-count-gt0-clause-holds
returns-then-count-gt0-clause-holds g c =
    (behind_handed g.C.Link.tells c.args.text.now c.hand_over-count.new.self (g.C.Link.look c.args.client.now)
    c.requires.uploading.0 c.args.into.now c.hand_over-count.new.into c.hand_over-count.result
    c.hand_over-count.ensures c.if-count-gt0.true c.requires.uploading.1 c.requires.holds).1

pub returns-clause-reads : goal.returns-clause-reads
returns-clause-reads g c =
    (client_handed g.C.Link.tells c.args.text.now c.hand_over-count.new.self (g.C.Link.look c.args.client.now)
    (g.C.Link.look c.read.new.self) c.requires.uploading.0 c.read.result c.args.into.now
    c.hand_over-count.new.into c.read.new.into c.hand_over-count.result c.hand_over-count.ensures
    c.if-count-gt0.false c.requires.room c.requires.uploading.1 c.requires.holds c.read.ensures.reads).0

pub returns-clause-holds : goal.returns-clause-holds
returns-clause-holds g c =
    (client_handed g.C.Link.tells c.args.text.now c.hand_over-count.new.self (g.C.Link.look c.args.client.now)
    (g.C.Link.look c.read.new.self) c.requires.uploading.0 c.read.result c.args.into.now
    c.hand_over-count.new.into c.read.new.into c.hand_over-count.result c.hand_over-count.ensures
    c.if-count-gt0.false c.requires.room c.requires.uploading.1 c.requires.holds c.read.ensures.reads).1
