-- How a transaction ends, and what then stands of what its links gave and took (Developer's Guide, "HTTP
-- Hooks and Transactions"; RFC 9112, section 8, on incomplete messages).
use Rattle.std.specs.Prelude.{◌≡◌, ℕ, ◌⊎◌, ◌++◌, List, [], length, map, All, Bool, true, false, ⊤}
use Rattle.ts_config.specs.declared.setup.Setup.{Setup}
use Rattle.ts_config.specs.declared.setup.TransformLine.{TransformLine}
use Rattle.ts_config.specs.Bodies.{compose_lines, is_early, soon_lines}
use Rattle.ts_hooks.specs.declared.txn_end.TxnEnd.{TxnEnd}
use Rattle.ts_hooks.specs.declared.txn_end.TxnEnd.TheVariants as E
use Rattle.ts_link.specs.Link.{all_of}
use Rattle.ts_wire.specs.declared.framing.Framing.{Framing}
use Rattle.ts_wire.specs.declared.framing.Framing.TheVariants as F
use Rattle.ts_wire.specs.declared.heads.ResponseHead.{ResponseHead}
use Rattle.ts_wire.specs.declared.body.BodyState.TheVariants as B
use Rattle.ts_wire.specs.Body.{BodyOf, IsCutShort}
use Rattle.ts_wire.specs.Frames.{IsPiece, cut_body, frames}
use Rattle.ts_wire.specs.Place.{Place, IsFed, state_of}
use Rattle.ts_block.specs.Relayed.{framing_of, mode_of}
use Rattle.ts_block.specs.Heads.{FinalHead}
use Rattle.ts_block.specs.Block.{IsBlock, IsGood, body_lines, framing_for, relayed_head}
use Rattle.ts_phases.specs.View.{HasFailed, LinkSide, View}
use Rattle.ts_phases.specs.Facts.{HasOwnCause, HasOwnText, HasTook, Quiet, Served, TookExactly}
use Rattle.ts_block.specs.declared.block.Block.{Block}
use Rattle.ts_phases.specs.declared.parts.Sent.{Sent}
use Rattle.ts_phases.specs.declared.phase.OwnAnswer.{OwnAnswer}
use Rattle.ts_phases.specs.declared.phase.Request.{Request}

-- The client's text: a head, and the body that was framed behind it in pieces, with its end if that was
-- framed.
pub record HasText (client : LinkSide) (s : Sent) (head body : List ℕ) (fin : Bool) : Type 0 where
  pub pieces : List (List ℕ)
  pub each : All IsPiece pieces
  pub text : client.look.taken ++ client.outbox ≡ head ++ frames s.mode pieces fin
  pub head_is : s.head ≡ length head
  pub cuts : s.cuts.items ≡ map length pieces
  pub body_is : cut_body pieces ≡ body

-- The body has ended: its reader says so, or it goes up to the close, and the origin gives no more.
pub data IsBodyOver (framing : Framing) (origin : LinkSide) (place : Place) : Type 0 where
  told : state_of place.phase ≡ B.Ended → IsBodyOver framing origin place
  closed : framing ≡ F.UntilClose → state_of place.phase ≡ B.Unfinished → origin.look.left ≡ []
      → origin.inbox ≡ [] → IsBodyOver framing origin place

-- What all bytes behind the origin's head have of a body that does not end with them, by the end of its
-- transaction: it is cut, or it is bad.
abbrev pub StopsShort : TxnEnd → Framing → List ℕ → List ℕ → Type 0
StopsShort E.OriginCut framing bytes body = IsCutShort framing bytes body
StopsShort E.OriginBad framing bytes body = BodyOf framing bytes body B.Bad
StopsShort end framing bytes body = ⊥

-- one list is a front of the other
abbrev pub IsFrontOf : List ℕ → List ℕ → Type 0
IsFrontOf xs ys = (more : List ℕ) × (xs ++ more ≡ ys)

-- What was sent is a front of the lines' work on a body: on what was read of it, if it has ended, and else on
-- whatever begins with that.
abbrev pub IsFrontThrough : List TransformLine → Bool → List ℕ → List ℕ → Type 0
IsFrontThrough lines true read sent = IsFrontOf sent (compose_lines lines read)
IsFrontThrough lines false read sent = (more : List ℕ) → IsFrontOf sent (compose_lines lines (read ++ more))

-- The body of the origin's response is cut or bad, and what was sent is what the lines had written once they
-- got so much of it and no end.
pub record SendsSoon (setup : Setup) (v : View) (end : TxnEnd) (q : Request) (h : ResponseHead)
    (sent : List ℕ) : Type 0 where
  pub rest : List ℕ
  pub reads : FinalHead (all_of v.origin.look) h rest
  pub body : List ℕ
  pub stops : StopsShort end (framing_of q.head h) rest body
  pub so : sent ≡ soon_lines (body_lines setup q.head h) body

module _ (setup : Setup) (refuses : Type 0) where
  -- The client's text is the head of the origin's response to this request, and a front of its body through
  -- the lines. `done`: the body has ended; `fin`: so was what the client gets of it, where the body has ended
  -- or a line finished early.
  pub record Relayed (v : View) (done fin : Bool) (sent : List ℕ) : Type 0 where
    pub q : Request
    pub h : ResponseHead
    pub served : Served setup refuses (all_of v.client.look) q v.dialed v.origin
    pub good : IsGood q.head h
    pub fed : List ℕ
    pub read : List ℕ
    pub place : Place
    pub reads : FinalHead v.origin.look.given h (fed ++ v.origin.inbox)
    pub is_fed : IsFed (framing_of q.head h) fed read place
    pub over : done ≡ true → IsBodyOver (framing_of q.head h) v.origin place
    pub mode : v.sent.mode ≡ mode_of (framing_for setup q.head h)
    pub text : HasText v.client v.sent (relayed_head setup q.head h) sent fin
    pub front : IsFrontThrough (body_lines setup q.head h) done read sent
    pub whole : fin ≡ true → (sent ≡ compose_lines (body_lines setup q.head h) read)
        × ((done ≡ true) ⊎ (is_early (body_lines setup q.head h) read ≡ true))

  -- What holds of the client's text at every moment: it is nothing, or an own answer for its cause, or the
  -- origin's.
  pub data SomeText (v : View) : Type 0 where
    quiet : Quiet v.client v.sent → SomeText v
    own : (a : OwnAnswer) → HasOwnCause setup refuses v a → HasOwnText setup v.client v.sent a → SomeText v
    relayed : (done fin : Bool) (sent : List ℕ) → Relayed v done fin sent → SomeText v

  -- After a fault of the origin: the 502 answer, if no final head had come, and else what was framed of the
  -- body.
  pub data FaultText (v : View) : Type 0 where
    own : (a : OwnAnswer) → a.end ≡ E.OriginFault → HasOwnCause setup refuses v a
        → HasOwnText setup v.client v.sent a → FaultText v
    cut_off : (done : Bool) (sent : List ℕ) → Relayed v done false sent → FaultText v

  -- what holds whatever the end
  pub record AnyEnd (v : View) : Type 0 where
    pub took : HasTook setup v
    pub text : SomeText v

  -- the block of all bytes of both links, which the origin's side took its part of
  pub record HasBlock (v : View) (end : TxnEnd) (block : Block) : Type 0 where
    pub is_block : IsBlock setup v.dialed refuses (all_of v.origin.look) (all_of v.client.look) block
    pub ends : block.end ≡ end
    pub took : TookExactly refuses block.request v.origin
    pub no_waits : v.client.outbox ≡ []
    pub mode : v.sent.mode ≡ block.mode

  -- the client took exactly what the block says
  pub record WholeEnd (v : View) : Type 0 where
    pub block : Block
    pub has : HasBlock v E.Whole block
    pub text : HasText v.client v.sent block.head block.body true

  -- the client took the block's head, and what the lines had written of the body, without its end
  pub record ShortEnd (v : View) (end : TxnEnd) : Type 0 where
    pub block : Block
    pub has : HasBlock v end block
    pub sent : List ℕ
    pub text : HasText v.client v.sent block.head sent false
    pub relayed : Relayed v false false sent
    pub soon : SendsSoon setup v end relayed.q relayed.h sent

  -- the client took all of what it gets after a fault of the origin's link
  pub record FaultEnd (v : View) : Type 0 where
    pub failed : HasFailed v.origin
    pub no_waits : v.client.outbox ≡ []
    pub text : FaultText v

  abbrev pub EndsBy : View → TxnEnd → Type 0
  EndsBy v E.Whole = WholeEnd v
  EndsBy v E.OriginCut = ShortEnd v E.OriginCut
  EndsBy v E.OriginBad = ShortEnd v E.OriginBad
  EndsBy v E.OriginFault = FaultEnd v
  EndsBy v E.ClientFault = HasFailed v.client
  EndsBy v E.NoMemory = ⊤

  pub record EndFact (v : View) (end : TxnEnd) : Type 0 where
    pub any : AnyEnd v
    pub by : EndsBy v end
