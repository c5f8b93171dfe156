use Rattle.std.proofs.Common.{◌≡◌, drop}
use Rattle.std.specs.Prelude.{bytes_eq, find}
use Rattle.ts_config.specs.Table.{name_of, spelling}
use Rattle.ts_config.proofs.table.name_of.Given as goal

-- the word is none of the names that were passed
abbrev pub invariant-loop-name : goal.invariant-loop-name
invariant-loop-name l = name_of l.word ≡ find (λ n. bytes_eq (spelling n) l.word) (drop l.name-index l.names)
