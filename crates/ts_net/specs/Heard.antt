-- What the system's answers are to a link (POSIX, `read` and `write` of a socket that does not block), and
-- which of its errors end the listening (Linux, accept(2)).
use Rattle.std.specs.Prelude.{◌≡◌, ◌≢◌, ℕ, List, ℤ, Bool, true, false, ◌||◌, if◌then◌else◌, ◌==◌, Option}
use Rattle.std.specs.Prelude.{Some, None, Result, Ok, Err}
use Rattle.std.specs.IoError.{error_kind}
use Rattle.std.proofs.Common.{int_eq}
use Rattle.std.specs.declared.io.Error.{Error}
use Rattle.std.specs.declared.io.ErrorKind.{ErrorKind}
use Rattle.std.specs.declared.io.ErrorKind.TheVariants as K
use Rattle.ts_link.specs.declared.link.Got.{Got}
use Rattle.ts_link.specs.declared.link.Got.TheVariants as G
use Rattle.ts_link.specs.declared.link.Put.{Put}
use Rattle.ts_link.specs.declared.link.Put.TheVariants as P
use Rattle.ts_net.specs.declared.heard.TheConstants.{NO_DESCRIPTOR, NOT_LISTENING, NO_SOCKET}
use Rattle.ts_net.specs.declared.stream_link.TheConstants.{HURRIES_BEHIND}

-- the call would have waited, or a signal broke it off
abbrev pub would_wait : ErrorKind → Bool
would_wait K.WouldBlock = true
would_wait K.Interrupted = true
would_wait _ = false

-- memory was lacking
abbrev pub lacks_memory : ErrorKind → Bool
lacks_memory K.OutOfMemory = true
lacks_memory _ = false

-- what a read is to a link: no bytes are the end
abbrev pub got_of : Result ℕ Error → Got
got_of (Ok n) = if n == 0 then G.End else G.Bytes n
got_of (Err e) = if would_wait (error_kind e) then G.Again else G.Failed

-- what a write that failed is to a link
abbrev pub put_failed_of : ErrorKind → Put
put_failed_of kind = if would_wait kind then P.Again else (if lacks_memory kind then P.NoMemory else P.Failed)

-- what a write is to a link: to take no bytes is to fail
abbrev pub put_of : Result ℕ Error → Put
put_of (Ok n) = if n == 0 then P.Failed else P.Took n
put_of (Err e) = put_failed_of (error_kind e)

-- no accept can succeed after an error of this number
abbrev pub is_final_code : ℤ → Bool
is_final_code c = int_eq c NO_DESCRIPTOR || int_eq c NOT_LISTENING || int_eq c NO_SOCKET

-- nor after an error that has this number or none
abbrev pub is_final : Option ℤ → Bool
is_final None = false
is_final (Some c) = is_final_code c

-- a stream was read once, which left these bytes in the room, and the link's answer is what the system's is
abbrev pub HearsRead : {S : Type 0} → (S → S → Result ℕ Error → List ℕ → Type 0) → S → S → Got → List ℕ
    → Type 0
HearsRead reads old new answer into =
    (heard : Result ℕ Error) × reads old new heard into × (answer ≡ got_of heard)

-- A stream is told to send at once before the second write of its link, and is left alone before every other
-- one. A first write goes out at once as it is (RFC 896: what is held back is a small segment behind one that
-- the peer has not confirmed).
pub record Hurries {S : Type 0} (hurries : S → S → Type 0) (made : ℕ) (old new : S) : Type 0 where
  pub second : made ≡ HURRIES_BEHIND → hurries old new
  pub other : made ≢ HURRIES_BEHIND → new ≡ old

-- Behind so many writes these bytes were written to a stream once, and the link's answer is what the system's
-- is.
pub record HearsWrite {S : Type 0} (hurries : S → S → Type 0)
    (writes : S → S → List ℕ → Result ℕ Error → Type 0) (made : ℕ) (old new : S) (answer : Put)
    (piece : List ℕ) : Type 0 where
  pub ready : S
  pub hurried : Hurries hurries made old ready
  pub heard : Result ℕ Error
  pub written : writes ready new piece heard
  pub answers : answer ≡ put_of heard
