-- What holds of a transaction between two events, phase by phase up to the head that the client gets, for
-- links that tell (Developer's Guide, "HTTP Hooks and Transactions"; RFC 9110, section 7.6, and RFC 9112,
-- section 9.3). Each fact is said of the parts that it speaks of, so that it stays where another part
-- changes. In all of them `c` is all that the client gives.
use Rattle.std.specs.Prelude.{◌≡◌, ◌≢◌, ℕ, ◌≤◌, ◌++◌, ◌⊎◌, List, [], length, Bool, true, false, Ok}
use Rattle.ts_config.specs.declared.setup.Setup.{Setup}
use Rattle.ts_config.specs.declared.fields.Side.{Side}
use Rattle.ts_hooks.specs.declared.hook.Hook.TheVariants as hook
use Rattle.ts_hooks.specs.declared.txn_end.TxnEnd.TheVariants as E
use Rattle.ts_link.specs.Link.{all_of}
use Rattle.ts_wire.specs.declared.fields.Field.{Field}
use Rattle.ts_wire.specs.declared.heads.ResponseHead.{ResponseHead}
use Rattle.ts_wire.specs.declared.frames.Mode.TheVariants as M
use Rattle.ts_wire.specs.Limits.{head_limit}
use Rattle.ts_wire.specs.Check.{check, plugin_host}
use Rattle.ts_block.specs.Rules.{is_denied, ruled}
use Rattle.ts_block.specs.Own.{own_sent}
use Rattle.ts_phases.specs.Moving.{cuts_of}
use Rattle.ts_block.specs.Relayed.{asks_head}
use Rattle.ts_block.specs.Heads.{HasRequest, PassesInterims, FinalHead, LacksFinal}
use Rattle.ts_block.specs.Block.{IsBlock, IsGood, own_block, own_text, request_text}
use Rattle.ts_plugin.specs.Lines.{lines_at, lines_left}
use Rattle.ts_plugin.specs.Replies.{hook_of_side}
use Rattle.ts_phases.specs.View.{HasCount, HasFailed, LinkSide, View}
use Rattle.ts_block.specs.declared.own_answer.OwnStatus.TheVariants as O
use Rattle.ts_phases.specs.declared.parts.Sent.{Sent}
use Rattle.ts_phases.specs.declared.phase.OwnAnswer.{OwnAnswer}
use Rattle.ts_phases.specs.declared.phase.Request.{Request}

-- nothing was queued for the client
pub record Quiet (client : LinkSide) (sent : Sent) : Type 0 where
  pub no_taken : client.look.taken ≡ []
  pub no_waits : client.outbox ≡ []
  pub no_head : sent.head ≡ 0
  pub plain : sent.mode ≡ M.Plain
  pub no_cuts : sent.cuts.items ≡ []

-- the client, which gave something, waits for its answer
pub record ClientWaits (client : LinkSide) (sent : Sent) : Type 0 where
  pub count : HasCount client
  pub quiet : Quiet client sent
  pub some : client.look.given ≢ []

-- the origin's link gave nothing and got nothing
pub record Untouched (origin : LinkSide) : Type 0 where
  pub count : HasCount origin
  pub no_taken : origin.look.taken ≡ []
  pub no_carried : origin.look.carried ≡ []
  pub no_waits : origin.outbox ≡ []
  pub no_given : origin.look.given ≡ []
  pub no_held : origin.inbox ≡ []

-- THE REQUEST HEAD IS READ

-- no head was found in what the client gave
pub record Asking (v : View) : Type 0 where
  pub count : HasCount v.client
  pub quiet : Quiet v.client v.sent
  pub untouched : Untouched v.origin
  pub held : v.client.look.given ≡ v.client.inbox

-- THE REQUEST IS KNOWN

-- the client's head is that of the request, and passed the check
pub record Knows (c : List ℕ) (q : Request) : Type 0 where
  pub some : c ≢ []
  pub rest : List ℕ
  pub reads : HasRequest c q.head rest
  pub passes : check q.head ≡ Ok (q.target, q.host)

pub record PassesCheck (v : View) (q : Request) : Type 0 where
  pub waits : ClientWaits v.client v.sent
  pub untouched : Untouched v.origin
  pub knows : Knows (all_of v.client.look) q

-- The origin took exactly this request and what the upload wrote behind it; of a request that is not empty no
-- upload is left to move, or it is refused.
pub record TookExactly (refuses : Type 0) (request : List ℕ) (origin : LinkSide) : Type 0 where
  pub text : origin.look.taken ≡ request ++ origin.look.carried
  pub nothing : request ≡ [] → origin.look.carried ≡ []
  pub uploaded : request ≢ [] → (origin.look.uploaded ≡ true) ⊎ refuses
  pub no_waits : origin.outbox ≡ []

module _ (setup : Setup) where
  -- So many plugins at OS_DNS let the request pass: its host is denied if a line that is still to come denies
  -- it.
  pub record PassesDeny (v : View) (q : Request) (place : ℕ) : Type 0 where
    pub checked : PassesCheck v q
    pub few : place ≤ length (lines_at hook.OsDns setup.plugins.items)
    pub still : is_denied setup.plugins.items (plugin_host q.host)
        ≡ is_denied (lines_left hook.OsDns place setup.plugins.items) (plugin_host q.host)

  -- So many plugins at the hook of a side have answered, and the rules that are still to come make of these
  -- fields what all rules make of those before.
  pub record IsRuledTo (side : Side) (before : List Field) (place : ℕ) (fields : List Field) : Type 0 where
    pub few : place ≤ length (lines_at (hook_of_side side) setup.plugins.items)
    pub still : ruled side setup.plugins.items before
        ≡ ruled side (lines_left (hook_of_side side) place setup.plugins.items) fields

  -- the request goes to an origin: no deny line denies its host, and there is one
  pub record Goes (c : List ℕ) (q : Request) (dialed : Bool) : Type 0 where
    pub knows : Knows c q
    pub allowed : is_denied setup.plugins.items (plugin_host q.host) ≡ false
    pub has_origin : dialed ≡ true

  pub record IsAllowed (v : View) (q : Request) : Type 0 where
    pub waits : ClientWaits v.client v.sent
    pub untouched : Untouched v.origin
    pub goes : Goes (all_of v.client.look) q v.dialed

  -- THE REQUEST IS SENT

  -- What the origin took, with what waits for it, is the request's head and what the upload wrote behind it,
  -- once the head was written.
  pub record CarriesRequest (q : Request) (origin : LinkSide) : Type 0 where
    pub text : origin.look.taken ++ origin.outbox
        ≡ request_text setup q.head q.target q.host ++ origin.look.carried
    pub behind : origin.outbox ≢ [] → origin.look.carried ≡ []

  -- the origin of the request has given nothing yet
  pub record IsUnanswered (v : View) (q : Request) : Type 0 where
    pub waits : ClientWaits v.client v.sent
    pub goes : Goes (all_of v.client.look) q v.dialed
    pub count : HasCount v.origin
    pub no_given : v.origin.look.given ≡ []
    pub no_held : v.origin.inbox ≡ []

  -- its head is written
  pub record SendingRequest (v : View) (q : Request) : Type 0 where
    pub unanswered : IsUnanswered v q
    pub text : v.origin.look.taken ++ v.origin.outbox ≡ request_text setup q.head q.target q.host
    pub no_carried : v.origin.look.carried ≡ []

  -- its upload is
  pub record Uploading (v : View) (q : Request) : Type 0 where
    pub unanswered : IsUnanswered v q
    pub carries : CarriesRequest q v.origin
    pub no_waits : v.origin.outbox ≡ []

  -- what the origin took, with what waits for it, is nothing, or that of a request that goes to it
  pub data OriginTook (c : List ℕ) (dialed : Bool) (origin : LinkSide) : Type 0 where
    nothing : origin.look.taken ≡ [] → origin.outbox ≡ [] → OriginTook c dialed origin
    request : (q : Request) → Goes c q dialed → CarriesRequest q origin → OriginTook c dialed origin

  abbrev pub HasTook : View → Type 0
  HasTook v = OriginTook (all_of v.client.look) v.dialed v.origin

  -- the client's text is this own answer: its head, and its body, but to a HEAD request, in one piece
  pub record HasOwnText (client : LinkSide) (sent : Sent) (a : OwnAnswer) : Type 0 where
    pub text : client.look.taken ++ client.outbox ≡ own_text setup a.status ++ own_sent a.to_head a.status
    pub head : sent.head ≡ length (own_text setup a.status)
    pub plain : sent.mode ≡ M.Plain
    pub cuts : sent.cuts.items ≡ cuts_of (own_sent a.to_head a.status)

  module _ (refuses : Type 0) where
    -- THE RESPONSE HEAD IS READ

    -- the origin has all that it gets, also of the upload, and its answer counts
    pub record Served (c : List ℕ) (q : Request) (dialed : Bool) (origin : LinkSide) : Type 0 where
      pub goes : Goes c q dialed
      pub accepts : refuses → ⊥
      pub uploaded : origin.look.uploaded ≡ true
      pub count : HasCount origin
      pub carries : CarriesRequest q origin
      pub no_waits : origin.outbox ≡ []

    -- no final head was found behind some interim ones, and no more waits than a head may be long
    pub record AwaitsFinal (v : View) (q : Request) : Type 0 where
      pub waits : ClientWaits v.client v.sent
      pub served : Served (all_of v.client.look) q v.dialed v.origin
      pub passed : PassesInterims v.origin.look.given v.origin.inbox
      pub held : length v.origin.inbox ≤ head_limit

    -- the final head is one that can be passed on, and behind it no more waits than that
    pub record Relays (v : View) (q : Request) (h : ResponseHead) : Type 0 where
      pub waits : ClientWaits v.client v.sent
      pub served : Served (all_of v.client.look) q v.dialed v.origin
      pub reads : FinalHead v.origin.look.given h v.origin.inbox
      pub good : IsGood q.head h
      pub held : length v.origin.inbox ≤ head_limit

    -- THE PROXY ANSWERS BY ITSELF

    -- Why: the block says so, and the origin took the block's request; or the origin's link failed before a
    -- final head.
    pub data OwnCause (c : List ℕ) (dialed : Bool) (origin : LinkSide) (a : OwnAnswer) : Type 0 where
      decided : (request : List ℕ)
          → IsBlock setup dialed refuses (all_of origin.look) c (own_block setup request a.status a.to_head)
          → a.end ≡ E.Whole → TookExactly refuses request origin → OwnCause c dialed origin a
      fault : (q : Request) → Goes c q dialed → a.status ≡ O.BadGateway → a.to_head ≡ asks_head q.head
          → a.end ≡ E.OriginFault → HasFailed origin → LacksFinal origin.look.given
          → OwnCause c dialed origin a

    abbrev pub HasOwnCause : View → OwnAnswer → Type 0
    HasOwnCause v a = OwnCause (all_of v.client.look) v.dialed v.origin a

    pub record OwnReady (v : View) (a : OwnAnswer) : Type 0 where
      pub waits : ClientWaits v.client v.sent
      pub cause : HasOwnCause v a
      pub took : HasTook v

    -- the answer was queued whole
    pub record OwnSends (v : View) (a : OwnAnswer) : Type 0 where
      pub count : HasCount v.client
      pub some : v.client.look.given ≢ []
      pub cause : HasOwnCause v a
      pub took : HasTook v
      pub text : HasOwnText v.client v.sent a
