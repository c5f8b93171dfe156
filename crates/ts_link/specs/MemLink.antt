-- What contracts see of a link in memory, and exactly what its calls do.
use Rattle.std.specs.Prelude.{◌≡◌, ℕ, zero, suc, ◌+◌, ◌-◌, ◌++◌, min, List, [], length, take, true, Option, Some, None, ⊤}
use Rattle.std.specs.Option.{option_map}
use Rattle.ts_link.specs.Counts.{one_more, one_more_if}
use Rattle.ts_link.specs.Inputs.{Input, bytes_of, given_of, stalled_reads, next_answer, next_ahead}
use Rattle.ts_link.specs.Link.{Look, Plan}
use Rattle.ts_link.specs.LinkAnswers.{got_failed, got_again}
use Rattle.ts_link.specs.Numbered.{Numbered, mishap_at, after_call, waits_left}
use Rattle.ts_link.specs.declared.input.MemInput.{MemInput}
use Rattle.ts_link.specs.declared.input.MemInput.TheVariants.{Cut, Pieces}
use Rattle.ts_link.specs.declared.link.Got.{Got}
use Rattle.ts_link.specs.declared.link.Got.TheVariants as G
use Rattle.ts_link.specs.declared.link.Put.{Put}
use Rattle.ts_link.specs.declared.link.Put.TheVariants as P
use Rattle.ts_link.specs.declared.numbered.Mishap.{Mishap}
use Rattle.ts_link.specs.declared.numbered.Mishap.TheVariants.{Nothing, Fails, Waits}
use Rattle.ts_link.specs.declared.piece.Piece.{Piece}

-- what a link in memory has to give, of whichever form
abbrev pub input_of : MemInput → Input
input_of (Cut i) = i
input_of (Pieces i) = i

-- What it has to give, what it took, how much it takes a write and, where it leaves, how much before that;
-- its reads and its writes by number; and the counts of its answers.
pub record LinkState : Type 0 where
  pub input : Input
  pub taken : List ℕ
  pub most : ℕ
  pub may_take : Option ℕ
  pub reads : Numbered
  pub writes : Numbered
  pub faults : ℕ
  pub waits : ℕ
  pub name : ℕ

-- which of its calls go wrong
abbrev pub plan_of : LinkState → Plan
plan_of s = record {
  fail_reads = s.reads.fail;
  fail_writes = s.writes.fail;
  again_reads = s.reads.again;
  again_writes = s.writes.again;
  stalls = s.input.stalls;
  leave = option_map (λ m. length s.taken + m) s.may_take;
}

-- what is seen of it as a link
abbrev pub look_of : LinkState → Look
look_of s = record {
  given = given_of s.input;
  left = bytes_of s.input.ahead;
  taken = s.taken;
  source = s.input.source;
  name = s.name;
  reads = s.reads.made;
  writes = s.writes.made;
  faults = s.faults;
  waits = s.waits;
  agains = Some (stalled_reads s.input.ahead + waits_left s.reads + waits_left s.writes);
  plan = Some (plan_of s);
  carried = [];
  uploaded = true;
  before = ([], []);
}

-- a link that nothing was done with: it has all of its input ahead
abbrev pub fresh_link : Input → ℕ → Option ℕ → Numbered → Numbered → LinkState
fresh_link input most may_take reads writes = record {
  input = input;
  taken = [];
  most = most;
  may_take = may_take;
  reads = reads;
  writes = writes;
  faults = 0;
  waits = 0;
  name = 0;
}

abbrev pub read_by : Mishap → ℕ → List Piece → Got
read_by Nothing room ahead = next_answer room ahead
read_by Fails room ahead = G.Failed
read_by Waits room ahead = G.Again

-- what a read into so much room answers: by its number, and else by what is ahead
abbrev pub read_answer : LinkState → ℕ → Got
read_answer s room = read_by (mishap_at s.reads) room s.input.ahead

abbrev pub ahead_by : Mishap → ℕ → List Piece → List Piece
ahead_by Nothing room ahead = next_ahead room ahead
ahead_by Fails room ahead = ahead
ahead_by Waits room ahead = ahead

abbrev pub after_by : Mishap → ℕ → Input → Input
after_by m room i = record i { ahead = ahead_by m room i.ahead }

-- the link after a read into so much room that was answered so
abbrev pub after_read : LinkState → ℕ → Got → LinkState
after_read s room answer = record s {
  input = after_by (mishap_at s.reads) room s.input;
  reads = after_call s.reads;
  faults = one_more_if (got_failed answer) s.faults;
  waits = one_more_if (got_again answer) s.waits;
}

-- the lesser of both, where there is one
abbrev pub at_most : Option ℕ → ℕ → ℕ
at_most None n = n
at_most (Some m) n = min n m

-- what is left of it after n, where there is one
abbrev pub less : ℕ → Option ℕ → Option ℕ
less n None = None
less n (Some m) = Some (m - n)

-- how much a write takes of a piece of this length: none once the link has left
abbrev pub taken_of_piece : LinkState → ℕ → ℕ
taken_of_piece s piece = at_most s.may_take (min s.most piece)

abbrev pub write_by : Mishap → ℕ → Put
write_by Nothing zero = P.Failed
write_by Nothing (suc n) = P.Took (suc n)
write_by Fails n = P.Failed
write_by Waits n = P.Again

-- what a write of a piece of this length answers: by its number, and else by what the link still takes
abbrev pub write_answer : LinkState → ℕ → Put
write_answer s piece = write_by (mishap_at s.writes) (taken_of_piece s piece)

-- the answer is the wanted one, or it lacks memory for bytes that were to be taken
abbrev pub IsPut : Put → Put → Type 0
IsPut P.NoMemory (P.Took n) = ⊤
IsPut answer wanted = answer ≡ wanted

-- the link after a write of a piece that was answered so
abbrev pub after_write : LinkState → List ℕ → Put → LinkState
after_write s piece (P.Took n) = record s {
  taken = s.taken ++ take n piece;
  may_take = less n s.may_take;
  writes = after_call s.writes;
}
after_write s piece P.Again = record s { writes = after_call s.writes; waits = one_more s.waits }
after_write s piece P.Failed = record s { writes = after_call s.writes; faults = one_more s.faults }
after_write s piece P.NoMemory = s
