use Rattle.ts_wire.proofs.FrameFronts.{reads_fronts}
use Rattle.ts_wire.proofs.FrameLemmas.{reads_back, cut-joined}
use Rattle.ts_wire.proofs.frames.frame_end.Goals as goal

pub returns-in-Plain-clause-read_back : goal.returns-in-Plain-clause-read_back
returns-in-Plain-clause-read_back c = reads_back

pub returns-in-Plain-clause-cut_back : goal.returns-in-Plain-clause-cut_back
returns-in-Plain-clause-cut_back c = cut-joined

pub returns-in-Chunked-clause-read_back : goal.returns-in-Chunked-clause-read_back
returns-in-Chunked-clause-read_back c = reads_back

pub returns-in-Chunked-clause-cut_back : goal.returns-in-Chunked-clause-cut_back
returns-in-Chunked-clause-cut_back c = cut-joined

pub returns-in-Plain-clause-read_fronts : goal.returns-in-Plain-clause-read_fronts
returns-in-Plain-clause-read_fronts c = reads_fronts

pub returns-in-Chunked-clause-read_fronts : goal.returns-in-Chunked-clause-read_fronts
returns-in-Chunked-clause-read_fronts c = reads_fronts
