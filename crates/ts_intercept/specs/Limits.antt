-- The numbers that the definitions of this crate name; each stands in the code as a constant too.
use Rattle.std.specs.Prelude.{ℕ}

-- how many bytes are held at most, all in all, until the origin was sent them
abbrev pub most_held : ℕ
most_held = 4194304

-- how many bytes one read gives at most of what a line serves
abbrev pub most_piece : ℕ
most_piece = 4096

-- what each byte that may still be held counts of the upload that is left: one more than the 8 that sending
-- it may add
abbrev pub held_weight : ℕ
held_weight = 9
