use Rattle.std.proofs.Common.{◌-◌, ◌≤◌, length}
use Rattle.ts_session.proofs.Following.{HasFollowed}
use Rattle.ts_session.proofs.chunks.follow_chunks.Given as goal

-- so many of the bytes were fed, and the body goes on
abbrev pub invariant-chunks : goal.invariant-chunks
invariant-chunks l = record {
  within : l.at ≤ length l.bytes;
  so : HasFollowed l.initial.reader l.at l.bytes l.reader;
  room : l.initial.reader.room ≤ l.reader.room;
}

abbrev pub decreases-chunks : goal.decreases-chunks
decreases-chunks l = length l.bytes - l.at
