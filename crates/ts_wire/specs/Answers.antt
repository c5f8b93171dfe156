-- Words on what a reader of heads answers
use Rattle.std.specs.Prelude.{ℕ, Result, Ok, Err, ⊤}
use Rattle.ts_link.specs.declared.octets.NoMemory.{NoMemory}
use Rattle.ts_wire.specs.declared.reading.Read as R
use Rattle.ts_wire.specs.declared.reading.Read.TheVariants.{Head, More, Bad, TooLong}

-- P of the head and of how many bytes it takes, if the answer is a head
abbrev pub IfHead : {H : Type 0} → Result (R.Read H) NoMemory → (H → ℕ → Type 0) → Type 0
IfHead (Ok (Head head used)) P = P head used
IfHead _ P = ⊤

-- the answer is a head, or memory ran out
abbrev pub IsHeadUnlessMemory : {H : Type 0} → Result (R.Read H) NoMemory → Type 0
IsHeadUnlessMemory (Ok (Head head used)) = ⊤
IsHeadUnlessMemory (Err e) = ⊤
IsHeadUnlessMemory _ = ⊥

-- P, if more bytes are awaited
abbrev pub OnMore : {H : Type 0} → Result (R.Read H) NoMemory → Type 0 → Type 0
OnMore (Ok More) P = P
OnMore _ P = ⊤

-- P, if no head can come
abbrev pub OnBad : {H : Type 0} → Result (R.Read H) NoMemory → Type 0 → Type 0
OnBad (Ok Bad) P = P
OnBad _ P = ⊤

-- P, if the head is too long
abbrev pub OnTooLong : {H : Type 0} → Result (R.Read H) NoMemory → Type 0 → Type 0
OnTooLong (Ok TooLong) P = P
OnTooLong _ P = ⊤
