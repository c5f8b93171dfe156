-- The phases in which a request is denied or sent to its origin, with its upload: where each step leads.
use Rattle.std.proofs.Common.{◌≡◌, ℕ, List, [], ◌++◌, Bool, true, false, Result, refl, sym, ap, subst, ◌∙◌}
use Rattle.std.proofs.lemmas.List.{append-nil}
use Rattle.ts_config.specs.declared.setup.Setup.{Setup}
use Rattle.ts_config.specs.declared.fields.PluginLine.{PluginLine}
use Rattle.ts_hooks.specs.declared.hook.Hook.TheVariants as hook
use Rattle.ts_hooks.specs.declared.txn_end.TxnEnd.TheVariants as E
use Rattle.ts_link.specs.Link.{all_of}
use Rattle.ts_vconn.specs.declared.moves.Pushed.{Pushed}
use Rattle.ts_vconn.specs.declared.moves.Pushed.TheVariants as V
use Rattle.ts_wire.specs.Check.{plugin_host}
use Rattle.ts_wire.proofs.OneResponse.{lacks_nil}
use Rattle.ts_block.specs.Rules.{is_denied}
use Rattle.ts_block.specs.Heads.{LacksFinal}
use Rattle.ts_block.specs.Relayed.{asks_head}
use Rattle.ts_block.specs.Block.{DenySays, DialSays, IsBlock, VerdictSays, asked, own_block, request_text}
use Rattle.ts_plugin.specs.Lines.{lines_left}
use Rattle.ts_phases.specs.Asking.{denial_of}
use Rattle.ts_phases.specs.View.{HasFailed, LinkSide, View}
use Rattle.ts_phases.specs.Moving.{QueuesRequest, SideWrites, WritesOrigin}
use Rattle.ts_phases.specs.Facts.{IsAllowed, CarriesRequest, PassesCheck, PassesDeny, Goes, Knows}
use Rattle.ts_phases.specs.Facts.{IsUnanswered, OwnReady, SendingRequest, Uploading, fault}
use Rattle.ts_phases.specs.Facts as facts
use Rattle.ts_phases.specs.Ends.{AnyEnd}
use Rattle.ts_phases.specs.Ends as ends
use Rattle.ts_block.specs.declared.own_answer.OwnStatus.TheVariants as O
use Rattle.ts_block.specs.declared.block.Block.{Block}
use Rattle.ts_phases.specs.declared.phase.OwnAnswer.{OwnAnswer}
use Rattle.ts_phases.specs.declared.phase.Request.{Request}
use Rattle.ts_block.proofs.OneHead.{lacks_final}
use Rattle.ts_phases.proofs.OneSide.{write_count, write_failed}
use Rattle.ts_phases.proofs.Asks.{untouched_own}

-- ---- the block of a request that is known

module _ (setup : Setup) (dialed : Bool) (refuses : Type 0) (o c : List ℕ) (q : Request) (b : Block) where
  -- by the deny lines
  known_block : Knows c q → DenySays setup dialed refuses o (is_denied setup.plugins.items
      (plugin_host q.host)) (request_text setup q.head q.target q.host) q.head b
      → IsBlock setup dialed refuses o c b
  known_block knows says =
      asked knows.some q.head knows.rest knows.reads
      (subst (λ (r : Result (List ℕ × List ℕ) ℕ). VerdictSays setup dialed refuses o r q.head b)
      (sym knows.passes) says)

  -- by the origin
  pub gone_block : Goes setup c q dialed → DialSays setup dialed refuses o true
      (request_text setup q.head q.target q.host) q.head b → IsBlock setup dialed refuses o c b
  gone_block goes says =
      known_block goes.knows
      (subst (λ (d : Bool). DenySays setup dialed refuses o d (request_text setup q.head q.target q.host)
      q.head b) (sym goes.allowed)
      (subst (λ (d : Bool). DialSays setup dialed refuses o d (request_text setup q.head q.target q.host)
      q.head b) (sym goes.has_origin) says))

  denied_block : Knows c q → is_denied setup.plugins.items (plugin_host q.host) ≡ true
      → b ≡ own_block setup [] O.Forbidden (asks_head q.head)
      → IsBlock setup dialed refuses o c b
  denied_block knows denied is =
      known_block knows
      (subst (λ (d : Bool). DenySays setup dialed refuses o d (request_text setup q.head q.target q.host)
      q.head b) (sym denied) is)

  no_origin_block : Knows c q → is_denied setup.plugins.items (plugin_host q.host) ≡ false → dialed ≡ false
      → b ≡ own_block setup [] O.BadGateway (asks_head q.head)
      → IsBlock setup dialed refuses o c b
  no_origin_block knows allowed none is =
      known_block knows
      (subst (λ (d : Bool). DenySays setup dialed refuses o d (request_text setup q.head q.target q.host)
      q.head b) (sym allowed)
      (subst (λ (d : Bool). DialSays setup dialed refuses o d (request_text setup q.head q.target q.host)
      q.head b) (sym none) is))

-- ---- denied, without an origin, or on to it

-- where no plugin is left at OS_DNS, no line denies the host
let_pass : (setup : Setup) (v : View) (q : Request) (place : ℕ) → PassesDeny setup v q place
    → lines_left hook.OsDns place setup.plugins.items ≡ []
    → is_denied setup.plugins.items (plugin_host q.host) ≡ false
let_pass setup v q place h none =
    h.still ∙ ap (λ (ls : List PluginLine). is_denied ls (plugin_host q.host)) none

pub denied : (setup : Setup) (refuses : Type 0) (v : View) (q : Request) → PassesCheck v q
    → is_denied setup.plugins.items (plugin_host q.host) ≡ true → OwnReady setup refuses v (denial_of q)
denied setup refuses v q h so =
    untouched_own setup refuses v (denial_of q) h.waits h.untouched refl
    (denied_block setup v.dialed refuses (all_of v.origin.look) (all_of v.client.look) q
    (own_block setup [] O.Forbidden (asks_head q.head)) h.knows so refl)

pub not_dialed : (setup : Setup) (refuses : Type 0) (v : View) (q : Request) (place : ℕ) (a : OwnAnswer)
    → PassesDeny setup v q place → lines_left hook.OsDns place setup.plugins.items ≡ []
    → v.dialed ≡ false → a ≡ record { status = O.BadGateway; to_head = asks_head q.head; end = E.Whole }
    → OwnReady setup refuses v a
not_dialed setup refuses v q place a h none alone same =
    subst (λ (x : OwnAnswer). OwnReady setup refuses v x) (sym same)
    (untouched_own setup refuses v (record {
      status = O.BadGateway;
      to_head = asks_head q.head;
      end =
          E.Whole;
    }) h.checked.waits h.checked.untouched refl
    (no_origin_block setup v.dialed refuses (all_of v.origin.look) (all_of v.client.look) q
    (own_block setup [] O.BadGateway (asks_head q.head)) h.checked.knows (let_pass setup v q place h none)
    alone refl))

pub allowed : (setup : Setup) (v : View) (q : Request) (place : ℕ) → PassesDeny setup v q place
    → lines_left hook.OsDns place setup.plugins.items ≡ [] → v.dialed ≡ true → IsAllowed setup v q
allowed setup v q place h none dialed =
    record {
      waits = h.checked.waits;
      untouched = h.checked.untouched;
      goes = record {
        knows = h.checked.knows;
        allowed = let_pass setup v q place h none;
        has_origin = dialed;
      };
    }

pub checked_any : (setup : Setup) (refuses : Type 0) (v : View) (q : Request) → PassesCheck v q
    → AnyEnd setup refuses v
checked_any setup refuses v q h = record {
  took = facts.nothing h.untouched.no_taken h.untouched.no_waits;
  text = ends.quiet h.waits.quiet;
}

-- ---- the head is queued

pub allowed_any : (setup : Setup) (refuses : Type 0) (v : View) (q : Request) → IsAllowed setup v q
    → AnyEnd setup refuses v
allowed_any setup refuses v q h = record {
  took = facts.nothing h.untouched.no_taken h.untouched.no_waits;
  text = ends.quiet h.waits.quiet;
}

-- where nothing was queued, neither
pub allowed_still : (setup : Setup) (refuses : Type 0) (v w : View) (q : Request) → IsAllowed setup v q
    → w ≡ v → AnyEnd setup refuses w
allowed_still setup refuses v w q h same =
    subst (λ (x : View). AnyEnd setup refuses x) (sym same) (allowed_any setup refuses v q h)

queued_at : (setup : Setup) (v : View) (q : Request) → IsAllowed setup v q
    → SendingRequest setup (record v {
      origin = record v.origin
          { outbox = v.origin.outbox ++ request_text setup q.head q.target q.host };
    }) q
queued_at setup v q h =
    let text = request_text setup q.head q.target q.host in
    record {
      unanswered = record {
        waits = h.waits;
        goes = h.goes;
        count = h.untouched.count;
        no_given = h.untouched.no_given;
        no_held = h.untouched.no_held;
      };
      text = ap (λ (x : List ℕ). x ++ (v.origin.outbox ++ text)) h.untouched.no_taken
          ∙ ap (λ (x : List ℕ). x ++ text) h.untouched.no_waits;
      no_carried = h.untouched.no_carried;
    }

pub queued : (setup : Setup) (v w : View) (q : Request) (text : List ℕ) → IsAllowed setup v q
    → text ≡ request_text setup q.head q.target q.host → QueuesRequest text v w
    → SendingRequest setup w q
queued setup v w q text h is queues =
    subst (λ (x : View). SendingRequest setup x q) (sym (queues
    ∙ ap (λ (t : List ℕ). record v { origin = record v.origin { outbox = v.origin.outbox ++ t } }) is))
    (queued_at setup v q h)

-- ---- the head is written

writes_at : (setup : Setup) (t : Bool) (v : View) (s : LinkSide) (p : Pushed) (q : Request) → t ≡ true
    → SendingRequest setup v q → SideWrites t v.origin s p
    → SendingRequest setup (record v { origin = s }) q
writes_at setup t v s p q told h writes =
    let takes = writes.pushes.told told in
    record {
      unanswered = record {
        waits = h.unanswered.waits;
        goes = h.unanswered.goes;
        count = write_count t v.origin s p writes h.unanswered.count;
        no_given = takes.given ∙ h.unanswered.no_given;
        no_held = writes.inbox ∙ h.unanswered.no_held;
      };
      text = writes.pushes.text told ∙ h.text;
      no_carried = writes.pushes.calls.carried ∙ h.no_carried;
    }

pub writes_on : (setup : Setup) (t : Bool) (v w : View) (p : Pushed) (q : Request) → t ≡ true
    → SendingRequest setup v q → WritesOrigin t v w p → SendingRequest setup w q
writes_on setup t v w p q told h writes = subst (λ (x : View). SendingRequest setup x q) (sym writes.others)
    (writes_at setup t v w.origin p q told h writes.origin)

-- what the origin took, with what waits for it, is the head alone
head_alone : (setup : Setup) (v : View) (q : Request) → SendingRequest setup v q
    → CarriesRequest setup q v.origin
head_alone setup v q h =
    let text = request_text setup q.head q.target q.host in
    record {
      text = h.text ∙ sym (append-nil text) ∙ ap (λ (x : List ℕ). text ++ x) (sym h.no_carried);
      behind = λ some. h.no_carried;
    }

-- all of it was
pub written : (setup : Setup) (t : Bool) (v w : View) (q : Request) → t ≡ true → SendingRequest setup v q
    → WritesOrigin t v w V.Nothing → Uploading setup w q
written setup t v w q told h writes =
    let now = writes_on setup t v w V.Nothing q told h writes in
    record {
      unanswered = now.unanswered;
      carries = head_alone setup w q now;
      no_waits =
          writes.origin.pushes.went.1 ∙ writes.origin.pushes.went.0;
    }

pub unanswered_any : (setup : Setup) (refuses : Type 0) (v : View) (q : Request) → IsUnanswered setup v q
    → CarriesRequest setup q v.origin → AnyEnd setup refuses v
unanswered_any setup refuses v q h carries = record {
  took = facts.request q h.goes carries;
  text =
      ends.quiet h.waits.quiet;
}

pub sends_any : (setup : Setup) (refuses : Type 0) (v : View) (q : Request) → SendingRequest setup v q
    → AnyEnd setup refuses v
sends_any setup refuses v q h = unanswered_any setup refuses v q h.unanswered (head_alone setup v q h)

no_final : (given : List ℕ) → given ≡ [] → LacksFinal given
no_final given is = subst LacksFinal (sym is) (lacks_final [] [] (record { interims = []; after = refl })
    lacks_nil)

-- the origin's link failed
pub faulty : (setup : Setup) (refuses : Type 0) (v : View) (q : Request) (a : OwnAnswer)
    → IsUnanswered setup v q → CarriesRequest setup q v.origin → HasFailed v.origin
    → a ≡ record { status = O.BadGateway; to_head = asks_head q.head; end = E.OriginFault }
    → OwnReady setup refuses v a
faulty setup refuses v q a h carries failed same =
    subst (λ (x : OwnAnswer). OwnReady setup refuses v x) (sym same)
    (record {
      waits = h.waits;
      cause = fault q h.goes refl refl refl failed (no_final v.origin.look.given h.no_given);
      took = facts.request q h.goes carries;
    })

pub write_fault : (setup : Setup) (refuses : Type 0) (t : Bool) (v w : View) (q : Request) (a : OwnAnswer)
    → t ≡ true → SendingRequest setup v q → WritesOrigin t v w V.Failed
    → a ≡ record { status = O.BadGateway; to_head = asks_head q.head; end = E.OriginFault }
    → OwnReady setup refuses w a
write_fault setup refuses t v w q a told h writes same =
    let now = writes_on setup t v w V.Failed q told h writes in
    faulty setup refuses w q a now.unanswered (head_alone setup w q now)
    (write_failed t v.origin w.origin V.Failed refl writes.origin h.unanswered.count) same
