-- A carrier as a link: the link to the origin inside, with the head that it holds and without the framing
-- line that it puts into it.
use Rattle.std.specs.Prelude.{◌≡◌, ℕ, ◌+◌, ◌-◌, ◌≤◌, List, [], ◌++◌, length, take, drop, Bool, true, false}
use Rattle.std.specs.Prelude.{Option, Some, None, if◌then◌else◌}
use Rattle.std.specs.Arc.{arc_value}
use Rattle.httparse.specs.Ascii.{crlf_bytes}
use Rattle.ts_config.specs.declared.setup.Setup.{Setup}
use Rattle.ts_config.specs.declared.setup.TransformLine.{TransformLine}
use Rattle.ts_link.specs.Counts.{one_more}
use Rattle.ts_link.specs.Link.{Look, Plan}
use Rattle.ts_link.specs.declared.link.Link as link
use Rattle.ts_link.specs.declared.link.Put.{Put}
use Rattle.ts_link.specs.declared.link.Put.TheVariants as P
use Rattle.ts_request.specs.declared.carrier.Carrier.{Carrier}
use Rattle.ts_request.specs.declared.carrier.HeadState.{HeadState}
use Rattle.ts_request.specs.declared.carrier.HeadState.TheVariants as H
use Rattle.ts_request.specs.declared.carrier.TheConstants.{MOST_HELD}

-- ---- what is seen of it

-- where the framing line stands in a head of so many bytes: before its last CR LF
abbrev pub line_place : ℕ → ℕ
line_place len = len - length crlf_bytes

-- what was sent and waits to be, without that line
abbrev pub without_line : HeadState → List ℕ → List ℕ
without_line H.Held all = all
without_line (H.Sent len line) all = take (line_place len) all ++ drop (line_place len + line) all

-- of this, what the upload wrote: all that stands behind the head
abbrev pub behind_head : HeadState → List ℕ → List ℕ → List ℕ
behind_head H.Held carried all = carried
behind_head (H.Sent len line) carried all = drop len (without_line (H.Sent len line) all)

-- the plan of a link that never leaves; of another nothing is told, since what a carrier tells as taken is
-- ahead of what its origin took
abbrev pub plan_if : Option ℕ → Plan → Option Plan
plan_if None p = Some p
plan_if (Some m) p = None

abbrev pub stays_plan : Option Plan → Option Plan
stays_plan None = None
stays_plan (Some p) = plan_if p.leave p

-- a carrier whose origin is seen so, as a link
abbrev pub look_over : {O P : Type 0} → Bool → Look → Carrier O P → Look
look_over tells l c = record l {
  taken = if tells then without_line c.head (l.taken ++ c.out) else [];
  carried = if tells then behind_head c.head l.carried (l.taken ++ c.out) else [];
  uploaded = c.over;
  writes = c.writes;
  plan = stays_plan l.plan;
}

abbrev pub carrier_look : {O P : Type 0} → Bool → (O → Look) → Carrier O P → Look
carrier_look tells look c = look_over tells (look c.origin) c

-- the lines that its body goes through
abbrev pub request_lines : {O P : Type 0} → Carrier O P → List TransformLine
request_lines c = (arc_value c.setup).requests.items

-- ---- what its calls do

-- nothing was done with it yet
pub record IsFreshCarrier {O P : Type 0} (origin : O) (setup : Setup) (c : Carrier O P) : Type 0 where
  pub origin_is : c.origin ≡ origin
  pub setup_is : arc_value c.setup ≡ setup
  pub out : c.out ≡ []
  pub inbox : c.inbox ≡ []
  pub head : c.head ≡ H.Held
  pub asked : c.asked ≡ false
  pub over : c.over ≡ false
  pub passage : c.passage ≡ None
  pub writes : c.writes ≡ 0

-- a piece was put behind what is held, or that would be too much, or memory lacked
abbrev pub HoldsPiece : List ℕ → List ℕ → ℕ → ℕ → Put → List ℕ → Type 0
HoldsPiece before after writes writes' (P.Took n) piece =
    (n ≡ length piece) × (after ≡ before ++ piece) × (length after ≤ MOST_HELD) × (writes' ≡ one_more writes)
HoldsPiece before after writes writes' P.NoMemory piece = (after ≡ before) × (writes' ≡ writes)
HoldsPiece before after writes writes' P.Again piece = ⊥
HoldsPiece before after writes writes' P.Failed piece = ⊥

-- what is held grows, within its limit, and from then on calls of it as a link leave what waits
abbrev pub GoesOut : HeadState → List ℕ → List ℕ → Type 0
GoesOut H.Held before after = length before ≤ MOST_HELD → length after ≤ MOST_HELD
GoesOut (H.Sent len line) before after = after ≡ before

-- the second carrier is the first after some calls of it as a link, none of which writes to the origin
pub record CarrierGoes {O P : Type 0} (origin : link.Ghosts O) (c d : Carrier O P) : Type 0 where
  pub inside : origin.goes c.origin d.origin
  pub taken : origin.tells ≡ true → (origin.look d.origin).taken ≡ (origin.look c.origin).taken
  pub carried : (origin.look d.origin).carried ≡ (origin.look c.origin).carried
  pub out : GoesOut c.head c.out d.out
  pub others : d ≡ record c { origin = d.origin; out = d.out; writes = d.writes }

-- it is the same carrier, whatever was called on it
pub record CarrierStill {O P : Type 0} (origin : link.Ghosts O) (c d : Carrier O P) : Type 0 where
  pub inside : origin.still c.origin d.origin
  pub setup : d.setup ≡ c.setup
