-- What a store holds: blocks of bytes, and free bytes behind them.
use Rattle.std.specs.Prelude.{ℕ, ◌*◌, ◌<◌, List, ◌++◌, length, take, drop, flat_map, All, max, min}
use Rattle.ts_iobuf.specs.declared.filling.TheConstants.{MOST_ROOM}
use Rattle.ts_iobuf.specs.Buffer.{one_block}

-- the blocks that hold bytes, in order, and the free bytes behind the last of them
pub record Contents : Type 0 where
  pub blocks : List (List ℕ)
  pub behind : List ℕ

-- the bytes of these blocks, one block behind the other
abbrev pub joined : List (List ℕ) → List ℕ
joined blocks = flat_map (λ b. b) blocks

-- none of the blocks is empty
abbrev pub AreFull : List (List ℕ) → Type 0
AreFull blocks = All (λ b. 0 < length b) blocks

-- what the block in filling holds: its bytes from start to filled
abbrev pub stored : ℕ → ℕ → List ℕ → List ℕ
stored start filled filling = drop start (take filled filling)

-- the full blocks, and the block in filling if it holds any bytes
abbrev pub held : List (List ℕ) → ℕ → ℕ → List ℕ → List (List ℕ)
held blocks start filled filling = blocks ++ one_block (stored start filled filling)

-- the room of the block after one of this room: twice as much, and at least so much, up to the most of a block
abbrev pub room_after : ℕ → ℕ → ℕ
room_after room least = min (max (2 * room) least) MOST_ROOM

-- free bytes with w written over their front
abbrev pub written_over : List ℕ → List ℕ → List ℕ
written_over room w = take (length room) (w ++ drop (length w) room)
