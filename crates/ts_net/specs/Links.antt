-- What contracts see of a link over a stream, and what its calls leave of it.
use Rattle.std.specs.Prelude.{◌≡◌, ℕ, [], Bool, true, None}
use Rattle.ts_link.specs.Counts.{one_more, one_more_if}
use Rattle.ts_link.specs.Link.{Look}
use Rattle.ts_link.specs.LinkAnswers.{got_failed, got_again, put_failed, put_again, writes_after}
use Rattle.ts_link.specs.declared.link.Got.{Got}
use Rattle.ts_link.specs.declared.link.Put.{Put}
use Rattle.ts_net.specs.declared.stream_link.StreamLink.{StreamLink}

-- it shows its name and its counts, and nothing of its bytes
abbrev pub look_of : {S : Type 0} → StreamLink S → Look
look_of l = record {
  given = [];
  left = [];
  taken = [];
  source = [];
  name = l.name;
  reads = l.reads;
  writes = l.writes;
  faults = l.faults;
  waits = l.waits;
  agains = None;
  plan = None;
  carried = [];
  uploaded = true;
  before = ([], []);
}

-- a link of which no call was made
abbrev pub fresh_link : {S : Type 0} → S → ℕ → StreamLink S
fresh_link stream name = record {
  stream = stream;
  name = name;
  reads = 0;
  writes = 0;
  faults = 0;
  waits = 0;
}

-- the system was asked to watch a link under a name, with this answer, and the link is the same but for what
-- that left of its stream
pub record IsWatchedLink {S : Type 0} (watches : ℕ → Bool → S → S → Type 0) (name : ℕ) (answer : Bool)
    (old new : StreamLink S) : Type 0 where
  pub watched : watches name answer old.stream new.stream
  pub same : new ≡ record old { stream = new.stream }

-- the link after a read of this answer, which left the stream so
abbrev pub after_read : {S : Type 0} → S → Got → StreamLink S → StreamLink S
after_read stream answer l = record l {
  stream = stream;
  reads = one_more l.reads;
  faults = one_more_if (got_failed answer) l.faults;
  waits = one_more_if (got_again answer) l.waits;
}

-- the link after a write of this answer, which left the stream so
abbrev pub after_write : {S : Type 0} → S → Put → StreamLink S → StreamLink S
after_write stream answer l = record l {
  stream = stream;
  writes = writes_after answer l.writes;
  faults = one_more_if (put_failed answer) l.faults;
  waits = one_more_if (put_again answer) l.waits;
}
