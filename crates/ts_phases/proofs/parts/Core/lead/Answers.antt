-- What the event of each phase leads to, as its own call says, or as nothing is done there.
use Rattle.std.proofs.Common.{ap, refl, subst, sym}
use Rattle.std.specs.Arc.{arc_value}
use Rattle.ts_phases.specs.Leading.{LeadsTo}
use Rattle.ts_phases.specs.View.{upload_of, view_of}
use Rattle.ts_phases.specs.declared.phase.Led.TheVariants as L
use Rattle.ts_phases.specs.declared.phase.Phase.TheVariants as P
use Rattle.ts_phases.proofs.Leading.{deny_begins, ends, goes, holds_at, led_by, led_step}
use Rattle.ts_phases.proofs.LoweringStands.{checked_lowers, fresh_lowers, heard_lowers, start_lowers}
use Rattle.ts_phases.proofs.Minding.{stood}
use Rattle.ts_phases.proofs.parts.Core.lead.Goals as goal

-- ---- nothing is done but to go on

pub returns-in-Fresh : goal.returns-in-Fresh
returns-in-Fresh g c =
    let t = c.args.self.now in
    led_by g.C.Link g.O.Link g.O.Upstream t t c.in-Fresh.is
    (ap (λ s. L.Steps s) c.step_to.ensures)
    (goes g.C.Link g.O.Link g.O.Upstream t P.Fresh P.TxnStart tt
    (holds_at g.C.Link g.O.Link g.O.Upstream t c.in-Fresh.is c.requires.stands.0) tt (stood _ _ _ refl)
    (fresh_lowers _ _ (arc_value t.setup) (view_of g.C.Link g.O.Link t) (upload_of g.O.Upstream t))
    (λ has. tt))

pub returns-in-TxnStart : goal.returns-in-TxnStart
returns-in-TxnStart g c =
    let t = c.args.self.now in
    led_by g.C.Link g.O.Link g.O.Upstream t t c.in-TxnStart.is
    (ap (λ s. L.Steps s) c.step_to-in-TxnStart.ensures)
    (goes g.C.Link g.O.Link g.O.Upstream t P.TxnStart P.ReadRequest tt
    (holds_at g.C.Link g.O.Link g.O.Upstream t c.in-TxnStart.is c.requires.stands.0) tt (stood _ _ _ refl)
    (start_lowers _ _ (arc_value t.setup) (view_of g.C.Link g.O.Link t) (upload_of g.O.Upstream t))
    (λ has. tt))

pub returns-in-ReadRequestHdr : goal.returns-in-ReadRequestHdr
returns-in-ReadRequestHdr g c =
    let t = c.args.self.now in
    let q = c.in-ReadRequestHdr.request in
    led_by g.C.Link g.O.Link g.O.Upstream t t c.in-ReadRequestHdr.is
    (ap (λ s. L.Steps s) c.look_up.ensures)
    (goes g.C.Link g.O.Link g.O.Upstream t (P.ReadRequestHdr q) (P.OsDns q 0) tt
    (λ told also. deny_begins (arc_value t.setup) (view_of g.C.Link g.O.Link t) q
    (holds_at g.C.Link g.O.Link g.O.Upstream t c.in-ReadRequestHdr.is c.requires.stands.0 told also))
    (refl, refl) (stood _ _ _ refl)
    (checked_lowers _ _ (arc_value t.setup) (view_of g.C.Link g.O.Link t) (upload_of g.O.Upstream t) q)
    (λ has. tt))

pub returns-in-ReadResponseHdr : goal.returns-in-ReadResponseHdr
returns-in-ReadResponseHdr g c =
    let t = c.args.self.now in
    let q = c.in-ReadResponseHdr.request in
    let h = c.in-ReadResponseHdr.head in
    led_by g.C.Link g.O.Link g.O.Upstream t t c.in-ReadResponseHdr.is
    (ap (λ s. L.Steps s) c.choose_transforms.ensures)
    (goes g.C.Link g.O.Link g.O.Upstream t (P.ReadResponseHdr q h) (P.ResponseTransform q h) tt
    (holds_at g.C.Link g.O.Link g.O.Upstream t c.in-ReadResponseHdr.is c.requires.stands.0) (refl, refl)
    (stood _ _ _ refl)
    (heard_lowers _ _ (arc_value t.setup) (view_of g.C.Link g.O.Link t) (upload_of g.O.Upstream t) q h)
    (λ has. tt))

-- ---- a step is made

pub returns-in-ReadRequest : goal.returns-in-ReadRequest
returns-in-ReadRequest g c = led_step g.C.Link g.O.Link g.O.Upstream _ _ c.read_request.result
    c.in-ReadRequest.is (record {
      leads = c.read_request.ensures.leads;
      fact = c.read_request.ensures.fact;
      owes = c.read_request.ensures.owes;
      falls = c.read_request.ensures.falls;
    })

pub returns-in-SendRequest : goal.returns-in-SendRequest
returns-in-SendRequest g c = led_step g.C.Link g.O.Link g.O.Upstream _ _ c.send_request.result
    c.in-SendRequest.is (record {
      leads = c.send_request.ensures.leads;
      fact = c.send_request.ensures.fact;
      owes = c.send_request.ensures.owes;
      falls = c.send_request.ensures.falls;
    })

pub returns-in-Upload : goal.returns-in-Upload
returns-in-Upload g c = led_step g.C.Link g.O.Link g.O.Upstream _ _ c.upload_some.result
    c.in-Upload.is (record {
      leads = c.upload_some.ensures.leads;
      fact = c.upload_some.ensures.fact;
      owes = c.upload_some.ensures.owes;
      falls = c.upload_some.ensures.falls;
    })

pub returns-in-ReadResponse : goal.returns-in-ReadResponse
returns-in-ReadResponse g c = led_step g.C.Link g.O.Link g.O.Upstream _ _ c.read_response.result
    c.in-ReadResponse.is (record {
      leads = c.read_response.ensures.leads;
      fact = c.read_response.ensures.fact;
      owes = c.read_response.ensures.owes;
      falls = c.read_response.ensures.falls;
    })

pub returns-in-Sending : goal.returns-in-Sending
returns-in-Sending g c = led_step g.C.Link g.O.Link g.O.Upstream _ _ c.send.result
    c.in-Sending.is (record {
      leads = c.send.ensures.leads;
      fact = c.send.ensures.fact;
      owes = c.send.ensures.owes;
      falls = c.send.ensures.falls;
    })

-- ---- the transaction ends

pub returns-in-TxnClose : goal.returns-in-TxnClose
returns-in-TxnClose g c =
    let t = c.args.self.now in
    subst (λ u. LeadsTo g.C.Link g.O.Link g.O.Upstream t u c.args.phase (L.Steps c.close.result))
    (sym c.close.ensures.same)
    (led_by g.C.Link g.O.Link g.O.Upstream t t c.in-TxnClose.is (ap (λ s. L.Steps s) c.close.ensures.ended)
    (ends g.C.Link g.O.Link g.O.Upstream t (P.TxnClose c.in-TxnClose.end) c.in-TxnClose.end
    (holds_at g.C.Link g.O.Link g.O.Upstream t c.in-TxnClose.is c.requires.stands.0) refl
    (stood _ _ _ refl, refl) (λ has. has)))

pub returns-in-Ended : goal.returns-in-Ended
returns-in-Ended g c =
    let t = c.args.self.now in
    led_by g.C.Link g.O.Link g.O.Upstream t t c.in-Ended.is (ap (λ s. L.Steps s) c.ended.ensures)
    (ends g.C.Link g.O.Link g.O.Upstream t (P.Ended c.in-Ended.end) c.in-Ended.end
    (holds_at g.C.Link g.O.Link g.O.Upstream t c.in-Ended.is c.requires.stands.0) refl (stood _ _ _ refl)
    (λ has. has))

-- ---- a hook

pub returns-in-OsDns : goal.returns-in-OsDns
returns-in-OsDns g c = led_by g.C.Link g.O.Link g.O.Upstream _ _ c.in-OsDns.is refl c.os_dns.ensures

pub returns-in-SendRequestHdr : goal.returns-in-SendRequestHdr
returns-in-SendRequestHdr g c = led_by g.C.Link g.O.Link g.O.Upstream _ _ c.in-SendRequestHdr.is refl
    c.send_request_hdr.ensures

pub returns-in-RuleRequest : goal.returns-in-RuleRequest
returns-in-RuleRequest g c = led_by g.C.Link g.O.Link g.O.Upstream _ _ c.in-RuleRequest.is refl
    c.rule_request.ensures

pub returns-in-ResponseTransform : goal.returns-in-ResponseTransform
returns-in-ResponseTransform g c = led_by g.C.Link g.O.Link g.O.Upstream _ _ c.in-ResponseTransform.is refl
    c.response_transform.ensures

pub returns-in-RuleResponse : goal.returns-in-RuleResponse
returns-in-RuleResponse g c = led_by g.C.Link g.O.Link g.O.Upstream _ _ c.in-RuleResponse.is refl
    c.rule_response.ensures

pub returns-in-SendResponseHdr : goal.returns-in-SendResponseHdr
returns-in-SendResponseHdr g c = led_by g.C.Link g.O.Link g.O.Upstream _ _ c.in-SendResponseHdr.is refl
    c.send_response_hdr.ensures

pub returns-in-RuleAnswer : goal.returns-in-RuleAnswer
returns-in-RuleAnswer g c = led_by g.C.Link g.O.Link g.O.Upstream _ _ c.in-RuleAnswer.is refl
    c.rule_answer.ensures
