-- The lines of a response's head as they are written, however they are cut.
use Rattle.std.specs.Prelude.{◌≡◌, ◌⊎◌, ℕ, ◌-◌, ◌<◌, Bool, true, false, not, ◌&&◌, ◌||◌, List, [], ◌∷◌, ◌++◌}
use Rattle.std.specs.Prelude.{◌==◌}
use Rattle.std.specs.Prelude.{length, min, take, drop, codes, nat_le}
use Rattle.ts_session.specs.Kept.{AreLines, close_line, empty_line, lacks_feed}
use Rattle.ts_session.specs.declared.lines.LineFront.{LineFront}
use Rattle.ts_session.specs.declared.lines.Lines.{Lines}
use Rattle.ts_session.specs.declared.lines.TheConstants.{LINE_FRONT}

-- the line so far goes with the text: one of them begins with the other
abbrev pub agrees : List ℕ → List ℕ → Bool
agrees [] line = true
agrees (p ∷ ps) [] = true
agrees (p ∷ ps) (b ∷ line) = (p == b) && agrees ps line

-- What is known of a line that was begun: how many of its bytes were written, up to as many as are looked at,
-- and which lines it may still become.
pub record IsFront (line : List ℕ) (f : LineFront) : Type 0 where
  pub at_is : f.at ≡ min (length line) LINE_FRONT
  pub no_content : f.no_content ≡ agrees (codes "HTTP/1.1 204") line
  pub not_modified : f.not_modified ≡ agrees (codes "HTTP/1.1 304") line
  pub sized : f.sized ≡ agrees (codes "content-length:") line
  pub chunked : f.chunked ≡ agrees (codes "transfer-encoding: chunked\r") line
  pub closes : f.closes ≡ agrees close_line line
  pub empty : f.empty ≡ agrees empty_line line

-- the lines before it, and whether they tell where the response ends: none, where it is the status line
abbrev pub LinesBefore : Bool → Bool → List ℕ → Type 0
LinesBefore true told lines = (lines ≡ []) × (told ≡ false)
LinesBefore false told lines = AreLines told lines

-- these bytes of a head were written: whole lines, and a line that was begun
pub record IsInHead (sent : List ℕ) (s : Lines) : Type 0 where
  pub lines : List ℕ
  pub line : List ℕ
  pub whole : sent ≡ lines ++ line
  pub open_line : lacks_feed line
  pub front : IsFront line s.front
  pub before : LinesBefore s.first s.told lines

-- the line is `connection: close`, or ends the head
abbrev pub IsLast : List ℕ → Type 0
IsLast line = (line ≡ close_line) ⊎ (line ≡ empty_line)

-- these bytes begin with a head that has ended, or had its `connection: close`
pub record HasEnded (sent : List ℕ) : Type 0 where
  pub told : Bool
  pub lines : List ℕ
  pub are : AreLines told lines
  pub last : List ℕ
  pub is_last : IsLast last
  pub behind : List ℕ
  pub is : sent ≡ lines ++ (last ++ behind)

-- these bytes of a response were written: its head has ended, or had its `connection: close`, or not
pub record ShowsHead (sent : List ℕ) (s : Lines) : Type 0 where
  pub going : s.ended ≡ false → IsInHead sent s
  pub over : s.ended ≡ true → HasEnded sent

-- Whole lines of a head were written, and no line of it is begun. They tell where the response ends, unless
-- it has only a head: so the next line is dropped, where it is `connection: close` and the connection may go
-- on.
pub record BeginsLine (asks : Bool) (sent : List ℕ) : Type 0 where
  pub told : Bool
  pub are : AreLines told sent
  pub ends : told || asks ≡ true

-- whatever was written before, these bytes were written behind it
abbrev pub GoesOver : Lines → List ℕ → Lines → Type 0
GoesOver s bytes t = (sent : List ℕ) → ShowsHead sent s → ShowsHead (sent ++ bytes) t

-- nothing of a line was written
abbrev pub new_front : LineFront
new_front = record {
  at = 0;
  no_content = true;
  not_modified = true;
  sized = true;
  chunked = true;
  closes = true;
  empty = true;
}

-- nothing of a head was written
abbrev pub new_lines : Lines
new_lines = record { front = new_front; first = true; told = false; ended = false }

-- up to its line feed, it is the status line of a response that has no body
abbrev pub front_bodiless : LineFront → Bool
front_bodiless f = nat_le (length (codes "HTTP/1.1 204")) f.at && (f.no_content || f.not_modified)

-- it is a field line that tells where the body ends
abbrev pub front_tells : LineFront → Bool
front_tells f =
    (nat_le (length (codes "content-length:")) f.at && f.sized)
    || ((f.at == length (codes "transfer-encoding: chunked\r")) && f.chunked)

-- it is `connection: close`, or ends the head
abbrev pub front_last : LineFront → Bool
front_last f =
    (f.closes && (f.at == length close_line - 1)) || (f.empty && (f.at == length empty_line - 1))

-- a line may begin here that is dropped: the head has not ended, and its lines told where the response ends,
-- or it has only a head
abbrev pub may_drop_at : Lines → Bool → Bool
may_drop_at s asks = (s.front.at == 0) && (not s.first && (not s.ended && (s.told || asks)))

-- No front of the bytes, of more than none and fewer than so many, ends where a line begins that may be
-- dropped, and has the line or a front of it behind it.
abbrev pub PassesNoLine : Bool → Lines → List ℕ → ℕ → Type 0
PassesNoLine asks s bytes count =
    (sent : List ℕ) → ShowsHead sent s → (at : ℕ) → 0 < at → at < count → BeginsLine asks
    (sent ++ take at bytes)
    → agrees close_line (drop at bytes) ≡ false

-- The client took whole lines of a head, then the line was dropped, and the client took what follows. The
-- lines tell where the response ends, unless it has only a head.
pub record IsCut (asks : Bool) (start cut taken : List ℕ) : Type 0 where
  pub lines : List ℕ
  pub told : Bool
  pub are : AreLines told lines
  pub ends : told || asks ≡ true
  pub cut_is : cut ≡ start ++ lines
  pub behind : List ℕ
  pub taken_is : taken ≡ cut ++ behind
