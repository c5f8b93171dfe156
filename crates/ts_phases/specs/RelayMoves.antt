-- What one call moves on a side of a transaction that passes a body on: a read of the origin, a head or a
-- piece of body that is queued for the client, and the end of that body (RFC 9112, sections 6 and 7).
use Rattle.std.specs.Prelude.{◌≡◌, ℕ, ◌++◌, List, [], ◌∷◌, length, Bool}
use Rattle.ts_vconn.specs.declared.moves.Pulled.{Pulled}
use Rattle.ts_wire.specs.declared.frames.Mode.{Mode}
use Rattle.ts_wire.specs.Frames.{end_of, frame_of}
use Rattle.ts_phases.specs.View.{View}
use Rattle.ts_phases.specs.Moving.{SideReads}
use Rattle.ts_phases.specs.declared.parts.Sent.{Sent}

-- one read of the origin's link, behind what came before
pub record ReadsOrigin (tells : Bool) (v w : View) (answer : Pulled) : Type 0 where
  pub origin : SideReads tells v.origin w.origin answer
  pub others : w ≡ record v { origin = w.origin }

-- Behind what waits for the client comes this text, and this much more is known of what was queued.
pub record AddsText (text cuts : List ℕ) (s t : Sent) (before after : List ℕ) : Type 0 where
  pub outbox : after ≡ before ++ text
  pub head : t.head ≡ s.head
  pub mode : t.mode ≡ s.mode
  pub cuts_are : t.cuts.items ≡ s.cuts.items ++ cuts

-- the same of a transaction, of which all else stays
pub record QueuesText (text cuts : List ℕ) (v w : View) : Type 0 where
  pub adds : AddsText text cuts v.sent w.sent v.client.outbox w.client.outbox
  pub client : w.client ≡ record v.client { outbox = w.client.outbox }
  pub dialed : w.dialed ≡ v.dialed
  pub origin : w.origin ≡ v.origin

-- a piece of a body was framed, and the end of a body
abbrev pub FramesPiece : List ℕ → View → View → Type 0
FramesPiece piece v w = QueuesText (frame_of v.sent.mode piece) (length piece ∷ []) v w

abbrev pub FramesEnd : View → View → Type 0
FramesEnd v w = QueuesText (end_of v.sent.mode) [] v w

-- nothing was queued
abbrev pub QueuesNothing : View → View → Type 0
QueuesNothing v w = QueuesText [] [] v w

-- the head of a response was queued for the client, and how its body is framed
pub record QueuesHead (head : List ℕ) (mode : Mode) (v w : View) : Type 0 where
  pub client : w.client ≡ record v.client { outbox = v.client.outbox ++ head }
  pub dialed : w.dialed ≡ v.dialed
  pub origin : w.origin ≡ v.origin
  pub head_is : w.sent.head ≡ length head
  pub mode_is : w.sent.mode ≡ mode
  pub no_cuts : w.sent.cuts.items ≡ []
