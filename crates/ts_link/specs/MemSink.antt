-- What contracts see of a sink in memory, and exactly what its calls do.
use Rattle.std.specs.Prelude.{◌≡◌, ◌++◌, ℕ, List, [], length, min, true, false}
use Rattle.ts_link.specs.Counts.{one_more, one_more_if}
use Rattle.ts_link.specs.Numbered.{is_listed}
use Rattle.ts_link.specs.Sink.{is_fault, is_lack, taken_of}
use Rattle.ts_link.specs.declared.sink.Wrote.{Wrote}
use Rattle.ts_link.specs.declared.sink.Wrote.TheVariants.{Took, Failed, NoMemory}

-- what a sink in memory took, how much it takes a call, the numbers of the calls that fail, the number of
-- calls, and the counts
pub record SinkState : Type 0 where
  pub taken : List ℕ
  pub most : ℕ
  pub failing : List ℕ
  pub calls : ℕ
  pub faults : ℕ
  pub lacks : ℕ

-- a sink to which nothing was written
abbrev pub fresh_sink : ℕ → List ℕ → SinkState
fresh_sink most failing = record {
  taken = [];
  most = most;
  failing = failing;
  calls = 0;
  faults = 0;
  lacks =
      0;
}

-- a sink in memory fails exactly at the calls of its list, and takes what it can of a piece
abbrev pub WritesAt : SinkState → List ℕ → Wrote → Type 0
WritesAt old piece (Took n) = (n ≡ min old.most (length piece)) × (is_listed old.calls old.failing ≡ false)
WritesAt old piece Failed = is_listed old.calls old.failing ≡ true
WritesAt old piece NoMemory = is_listed old.calls old.failing ≡ false

-- the sink after a write of a piece that was answered so
abbrev pub after_sink_write : SinkState → List ℕ → Wrote → SinkState
after_sink_write s piece answer = record s {
  taken = s.taken ++ taken_of answer piece;
  calls = one_more s.calls;
  faults = one_more_if (is_fault answer) s.faults;
  lacks = one_more_if (is_lack answer) s.lacks;
}
