-- What the lines of a configuration make of a body (the Developer's Guide, "Transformations"): of a whole
-- one, and of one that came so far and may go on. Which lines act on a response is not said here.
use Rattle.std.specs.Prelude.{◌≡◌, ℕ, ◌==◌, nat_le, not, Bool, true, false, List, [], ◌∷◌, ◌++◌, length, map, filter, take, Option, Some, None, if◌then◌else◌}
use Rattle.std.specs.Option.{option_and_then}
use Rattle.ts_config.specs.declared.setup.TransformLine.{TransformLine}
use Rattle.ts_config.specs.declared.setup.TransformLine.TheVariants as t

-- the body with each byte `from` replaced by `to`
abbrev pub mapped : ℕ → ℕ → List ℕ → List ℕ
mapped from to x = map (λ b. if b == from then to else b) x

-- the body without a byte
abbrev pub without_byte : ℕ → List ℕ → List ℕ
without_byte byte x = filter (λ b. not (b == byte)) x

-- what a line makes of a whole body
abbrev pub whole_of : TransformLine → List ℕ → List ℕ
whole_of t.Null x = x
whole_of (t.Append file text) x = x ++ text
whole_of t.Bnull x = x
whole_of (t.Prepend text) x = text ++ x
whole_of (t.Map from to) x = mapped from to x
whole_of (t.Drop byte) x = without_byte byte x
whole_of (t.Delay ms) x = x
whole_of (t.Limit most) x = take most x

-- what the lines make of a whole body, the first line acting first
abbrev pub compose_lines : List TransformLine → List ℕ → List ℕ
compose_lines [] x = x
compose_lines (l ∷ ls) x = compose_lines ls (whole_of l x)

-- what a line has given of a body that came so far, and may go on
abbrev pub soon_of : TransformLine → List ℕ → List ℕ
soon_of t.Bnull x = []
soon_of (t.Prepend text) [] = []
soon_of (t.Append file text) x = x
soon_of line x = whole_of line x

-- a line finishes early once this much of a body came: whatever still comes, it gives nothing more
abbrev pub is_early_of : TransformLine → List ℕ → Bool
is_early_of (t.Limit most) x = nat_le most (length x)
is_early_of line x = false

-- what the lines have given of a body that came so far, the first line acting first
abbrev pub soon_lines : List TransformLine → List ℕ → List ℕ
soon_lines [] x = x
soon_lines (l ∷ ls) x = soon_lines ls (soon_of l x)

-- one of the lines finishes early by what the lines before it have given
abbrev pub is_early : List TransformLine → List ℕ → Bool
is_early [] x = false
is_early (l ∷ ls) x = if is_early_of l x then true else is_early ls (soon_of l x)

-- what a line has given, as long as it has not finished early
abbrev pub so_far_of : TransformLine → List ℕ → Option (List ℕ)
so_far_of l x = if is_early_of l x then None else Some (soon_of l x)

-- and so of all lines
abbrev pub so_far : List TransformLine → List ℕ → Option (List ℕ)
so_far [] x = Some x
so_far (l ∷ ls) x = option_and_then (so_far ls) (so_far_of l x)

-- step by step the lines give what `soon_lines` says, until one finishes early
abbrev pub TellsSoFar : Type 0
TellsSoFar = (ls : List TransformLine) (x : List ℕ)
    → so_far ls x ≡ (if is_early ls x then None else Some (soon_lines ls x))

-- once a line finished early, no more of the body changes that, nor what the lines make of the whole
abbrev pub IsFinalEarly : Type 0
IsFinalEarly = (ls : List TransformLine) (x z : List ℕ) → is_early ls x ≡ true
    → (is_early ls (x ++ z) ≡ true) × (compose_lines ls (x ++ z) ≡ compose_lines ls x)
