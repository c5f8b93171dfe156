-- Who answered, by all that a link took that chooses, and what that left of the origin.
use Rattle.std.specs.Prelude.{◌≡◌, ℕ, false, List, [], ◌++◌, Some, None}
use Rattle.ts_link.specs.Link.{Look, all_of}
use Rattle.ts_wire.specs.Blank.{LacksBlank}
use Rattle.ts_intercept.specs.Deciding.{IsOther, IsServed}
use Rattle.ts_intercept.specs.Seen.{lines_in, seen, unsent}
use Rattle.ts_intercept.specs.declared.choice.Choice.{Choice}

-- What the origin took and gave is what the link took and gave, with this that the link still holds.
pub record HandsOn (held : List ℕ) (c o : Look) : Type 0 where
  pub taken : c.taken ≡ o.taken ++ held
  pub given : c.given ≡ o.given
  pub left : c.left ≡ o.left

module _ {O : Type 0} (look : O → Look) (c : Choice O) where
  -- its host is not served, unless it was read before a head was whole
  abbrev pub MayBeOther : Type 0
  MayBeOther = c.early ≡ false → IsOther (lines_in c) (seen look c).taken

  -- WHO ANSWERED. It is known once a head is whole, or the link was read before.
  pub data Answered : Type 0 where
    -- Nobody: no head is whole. The origin is as it was handed in.
    nobody : LacksBlank (seen look c).taken → (seen look c).given ≡ [] → c.origin ≡ c.handed.value
        → c.early ≡ false → Answered
    -- The link by itself: a line serves the host, and what the link gave and may still give is what that line
    -- serves. The origin is as it was handed in.
    itself : IsServed (lines_in c) (seen look c).taken (all_of (seen look c)) → c.origin ≡ c.handed.value
        → c.early ≡ false → Answered
    -- The origin, but for what is held for it and was not sent.
    origin : (o : O) → c.origin ≡ Some o → HandsOn (unsent c) (seen look c) (look o) → MayBeOther → Answered
    -- Nobody ever: no line serves the host, and no origin was handed in.
    ended : c.origin ≡ None → all_of (seen look c) ≡ [] → MayBeOther → Answered
