-- The numbers at which slots end.
use Rattle.std.specs.Prelude.{ℕ}

-- all parts of the right to close the slots: 2 ^ 32
abbrev pub whole_share : ℕ
whole_share = 4294967296

-- the number of groups is at most this
abbrev pub most_groups : ℕ
most_groups = 4096

-- the turn after which a group is worn: 2 ^ 63
abbrev pub last_turn : ℕ
last_turn = 9223372036854775808

-- the word of a worn group: the greatest u64
abbrev pub worn_word : ℕ
worn_word = 18446744073709551615
