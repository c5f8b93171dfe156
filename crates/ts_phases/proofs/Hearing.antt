-- What comes of a question leads to what holds then, and to less that is left.
use Rattle.std.proofs.Common.{◌≡◌, ℕ, ◌+◌, suc, List, [], length, Bool, true, false, Some, Ok}
use Rattle.std.proofs.Common.{Err, Result, refl, sym, ap, subst, ◌∙◌}
use Rattle.std.specs.Prelude.{◌||◌, IfOk, Option}
use Rattle.ts_config.specs.declared.setup.Setup.{Setup}
use Rattle.ts_config.specs.declared.fields.PluginLine.{PluginLine}
use Rattle.ts_config.specs.declared.fields.PluginLine.TheVariants.{Deny, Header, SessionHeader}
use Rattle.ts_config.specs.declared.fields.Side.{Side}
use Rattle.ts_config.specs.declared.fields.Side.TheVariants as S
use Rattle.ts_group.specs.Answers.{IsAnswer}
use Rattle.ts_group.specs.declared.world.Asked.{Asked}
use Rattle.ts_group.specs.declared.world.Asked.TheVariants as A
use Rattle.ts_hooks.specs.declared.hook.Hook.TheVariants as hook
use Rattle.ts_hooks.specs.declared.hook.HookAnswer.{HookAnswer}
use Rattle.ts_hooks.specs.declared.hook.HookAnswer.TheVariants.{Continue, Error}
use Rattle.ts_hooks.specs.declared.txn_end.TxnEnd.TheVariants as E
use Rattle.ts_link.specs.Link.{NoMore}
use Rattle.ts_wire.specs.declared.fields.Field.{Field}
use Rattle.ts_wire.specs.declared.heads.ResponseHead.{ResponseHead}
use Rattle.ts_wire.specs.Check.{plugin_host}
use Rattle.ts_block.specs.Rules.{denies, is_denied, ruled}
use Rattle.ts_plugin.specs.declared.question.HookQuestion.{HookQuestion}
use Rattle.ts_plugin.specs.declared.question.HookReply.{HookReply}
use Rattle.ts_plugin.specs.declared.question.PluginFault.{PluginFault}
use Rattle.ts_plugin.specs.Asked.{is_error, question_at}
use Rattle.ts_plugin.specs.Lines.{IsNext, lines_left}
use Rattle.ts_plugin.specs.Replies.{IsReplyOf, answer_of, fields_of, hook_of_side}
use Rattle.ts_plugin.proofs.HookLines.{next_within}
use Rattle.ts_plugin.proofs.InTurn.{answer_denies, fields_after}
use Rattle.ts_phases.specs.Asking.{AsksFor, AsksPlugins, IsRightReply, asked_phase, continued_step, denial_of}
use Rattle.ts_phases.specs.Asking.{lacking_step, question_in, refused_step, replied_step, told_step}
use Rattle.ts_phases.specs.Cover.{StepLeads}
use Rattle.ts_phases.specs.Facts.{IsRuledTo, OwnReady, PassesDeny}
use Rattle.ts_phases.specs.Holding.{PhaseFact}
use Rattle.ts_phases.specs.Lowering.{StepFalls, ToldLowers, asks_left, work_left}
use Rattle.ts_phases.specs.View.{View}
use Rattle.ts_phases.specs.declared.phase.OwnAnswer.{OwnAnswer}
use Rattle.ts_phases.specs.declared.phase.Phase.{Phase}
use Rattle.ts_phases.specs.declared.phase.Phase.TheVariants as P
use Rattle.ts_phases.specs.declared.phase.Request.{Request}
use Rattle.ts_phases.proofs.Always.{always}
use Rattle.ts_phases.proofs.Asks.{lacks_memory}
use Rattle.ts_phases.proofs.Going.{denied}
use Rattle.ts_phases.proofs.Lowering.{none_rise}
use Rattle.ts_phases.proofs.LoweringSteps.{dns_answered, own_answered, request_answered, response_answered}
use Rattle.ts_phases.proofs.LoweringSteps.{stays_calm, to_end, to_own}

-- ---- the phases that ask no question

module _ (p : Phase) (fields : List Field) (no_lookup : (q : Request) (place : ℕ) → p ≡ P.OsDns q place → ⊥)
    (no_request : (q : Request) (place : ℕ) (fs : List Field) → p ≡ P.RuleRequest q place fs → ⊥) where
  -- such a phase is told nothing
  pub asks_nothing : ((q : Request) (h : ResponseHead) (place : ℕ) (fs : List Field)
      → p ≡ P.RuleResponse q h place fs → ⊥)
      → ((a : OwnAnswer) (place : ℕ) (fs : List Field) → p ≡ P.RuleAnswer a place fs → ⊥)
      → AsksPlugins p → ⊥
  asks_nothing no_response no_answer = by_phase p no_lookup no_request no_response no_answer
    where
      by_phase : (p : Phase) → ((q : Request) (place : ℕ) → p ≡ P.OsDns q place → ⊥)
          → ((q : Request) (place : ℕ) (fs : List Field) → p ≡ P.RuleRequest q place fs → ⊥)
          → ((q : Request) (h : ResponseHead) (place : ℕ) (fs : List Field)
          → p ≡ P.RuleResponse q h place fs → ⊥)
          → ((a : OwnAnswer) (place : ℕ) (fs : List Field) → p ≡ P.RuleAnswer a place fs → ⊥)
          → AsksPlugins p → ⊥
      by_phase (P.OsDns q place) not_one not_two not_three not_four asks = not_one q place refl
      by_phase (P.RuleRequest q place fs) not_one not_two not_three not_four asks = not_two q place fs refl
      by_phase (P.RuleResponse q h place fs) not_one not_two not_three not_four asks =
          not_three q h place fs refl
      by_phase (P.RuleAnswer a place fs) not_one not_two not_three not_four asks = not_four a place fs refl
      by_phase _ not_one not_two not_three not_four asks = asks

  -- behind the request's hooks an error is taken as if it went on
  pub error_ignored : continued_step p fields ≡ refused_step p fields
  error_ignored = by_phase p no_lookup no_request
    where
      by_phase : (p : Phase) → ((q : Request) (place : ℕ) → p ≡ P.OsDns q place → ⊥)
          → ((q : Request) (place : ℕ) (fs : List Field) → p ≡ P.RuleRequest q place fs → ⊥)
          → continued_step p fields ≡ refused_step p fields
      by_phase (P.OsDns q place) not_one not_two = absurd (not_one q place refl)
      by_phase (P.RuleRequest q place fs) not_one not_two = absurd (not_two q place fs refl)
      by_phase _ not_one not_two = refl

-- ---- one plugin has answered

-- a header rule's plugin, and a deny list at another hook, answer no error
never_refuses : (side : Side) (line : PluginLine) (host : List ℕ) (fields : List Field)
    → Error ≡ answer_of line (question_at (hook_of_side side) host fields) → ⊥
never_refuses S.Request (Deny sites) host fields is = cc
never_refuses S.Response (Deny sites) host fields is = cc
never_refuses side (Header of rule) host fields is = cc
never_refuses side (SessionHeader of rule) host fields is = cc

module _ (setup : Setup) (at place group : ℕ) where
  -- It let the host pass: those that are still to come decide.
  passes_next : (v : View) (q : Request) (next : IsNext hook.OsDns at setup.plugins.items place group)
      → PassesDeny setup v q place
      → Continue ≡ answer_of next.line (question_at hook.OsDns (plugin_host q.host) [])
      → PassesDeny setup v q (place + 1)
  passes_next v q next h answer =
      let host = plugin_host q.host in
      let passes : denies host next.line ≡ false = sym (answer_denies next.line host [])
      ∙ sym (ap is_error answer) in
      record {
        checked = h.checked;
        few = next_within hook.OsDns at setup.plugins.items place group next;
        still = h.still ∙ ap (λ (ls : List PluginLine). is_denied ls host) next.left
            ∙ ap (λ (b : Bool). b || is_denied (lines_left hook.OsDns (place + 1) setup.plugins.items) host)
            passes;
      }

  -- It denies the host.
  refuses_host : (refuses : Type 0) (v : View) (q : Request)
      (next : IsNext hook.OsDns at setup.plugins.items place group) → PassesDeny setup v q place
      → Error ≡ answer_of next.line (question_at hook.OsDns (plugin_host q.host) [])
      → OwnReady setup refuses v (denial_of q)
  refuses_host refuses v q next h answer =
      let host = plugin_host q.host in
      let is : denies host next.line ≡ true = sym (answer_denies next.line host [])
      ∙ sym (ap is_error answer) in
      denied setup refuses v q h.checked (h.still ∙ ap (λ (ls : List PluginLine). is_denied ls host) next.left
      ∙ ap (λ (b : Bool). b || is_denied (lines_left hook.OsDns (place + 1) setup.plugins.items) host) is)

  -- It changed the fields by its rule.
  rules_next : (side : Side) (before fields after : List Field) (host : List ℕ)
      (next : IsNext (hook_of_side side) at setup.plugins.items place group)
      → IsRuledTo setup side before place fields
      → after ≡ fields_of next.line (question_at (hook_of_side side) host fields)
      → IsRuledTo setup side before (place + 1) after
  rules_next side before fields after host next h is = record {
    few = next_within (hook_of_side side) at setup.plugins.items place group next;
    still = h.still ∙ ap (λ (ls : List PluginLine). ruled side ls fields) next.left
        ∙ ap (λ (fs : List Field). ruled side (lines_left (hook_of_side side) (place + 1) setup.plugins.items)
        fs) (sym (is ∙ fields_after side next.line host fields));
  }

-- ---- the plugin that was asked

some_is : {X : Type 0} (x y : X) → Some x ≡ Some y → x ≡ y
some_is x y is = cc

module _ (setup : Setup) (at group : ℕ) (question : HookQuestion) where
  module _ (p : Phase) (asks : AsksFor setup at p group question) (e : ℕ × HookQuestion)
      (is : question_in (asked_phase p question) ≡ Some e) where
    -- the place and the question are those of the phase
    pub asked_is : e ≡ (asks.place, question)
    asked_is = some_is e (asks.place, question) (sym is ∙ asks.asked)

    pub next_at : IsNext e.1.hook at setup.plugins.items e.0 group
    next_at = subst (λ (x : ℕ × HookQuestion). IsNext x.1.hook at setup.plugins.items x.0 group)
        (sym asked_is) asks.in_turn

    -- the reply is that of its line
    reply_at : (reply : HookReply) (answer : HookAnswer) → IsRightReply setup at group question reply
        → reply.answer ≡ Ok answer
        → (answer ≡ answer_of next_at.line e.1) × (reply.fields ≡ fields_of next_at.line e.1)
    reply_at reply answer right ok = subst (λ (r : Result HookAnswer PluginFault). IfOk r
        (λ (a : HookAnswer). (a ≡ answer_of next_at.line e.1) × (reply.fields ≡ fields_of next_at.line e.1)))
        ok (subst (λ (x : ℕ × HookQuestion). IsReplyOf next_at.line x.1 reply) (sym asked_is)
        (right next_at.number next_at.line next_at.there next_at.group_is))

    -- one less is left to ask
    one_less : asks_left setup e.1.hook e.0 ≡ suc (asks_left setup e.1.hook (e.0 + 1))
    one_less = ap length next_at.left

  -- ---- what holds then

  module _ (refuses : Type 0) (v : View) (reply : HookReply)
      (right : IsRightReply setup at group question reply) where
    continued : (p : Phase) → AsksFor setup at p group question → reply.answer ≡ Ok Continue
        → PhaseFact setup refuses v (asked_phase p question)
        → PhaseFact setup refuses v (continued_step p reply.fields).phase
    continued (P.OsDns q place) asks ok h =
        let p = P.OsDns q place in
        let e : ℕ × HookQuestion = (place, question_at hook.OsDns (plugin_host q.host) []) in
        passes_next setup at place group v q (next_at p asks e refl) h
        (reply_at p asks e refl reply Continue right ok).0
    continued (P.RuleRequest q place none) asks ok h =
        let p = P.RuleRequest q place none in
        let e : ℕ × HookQuestion =
        (place, question_at hook.SendRequestHdr (plugin_host q.host) question.fields) in (
          h.0,
          rules_next setup at place group S.Request _ question.fields reply.fields (plugin_host q.host)
              (next_at p asks e refl) h.1 (reply_at p asks e refl reply Continue right ok).1,
        )
    continued (P.RuleResponse q head place none) asks ok h =
        let p = P.RuleResponse q head place none in
        let e : ℕ × HookQuestion =
        (place, question_at hook.SendResponseHdr (plugin_host q.host) question.fields) in (
          h.0,
          rules_next setup at place group S.Response _ question.fields reply.fields (plugin_host q.host)
              (next_at p asks e refl) h.1 (reply_at p asks e refl reply Continue right ok).1,
        )
    continued (P.RuleAnswer a place none) asks ok h =
        let p = P.RuleAnswer a place none in
        let e : ℕ × HookQuestion = (place, question_at hook.SendResponseHdr [] question.fields) in (
          h.0,
          rules_next setup at place group S.Response _ question.fields reply.fields []
              (next_at p asks e refl) h.1 (reply_at p asks e refl reply Continue right ok).1,
        )
    continued _ asks ok h = absurd (let none = asks.asked in cc)

    refused : (p : Phase) → AsksFor setup at p group question → reply.answer ≡ Ok Error
        → PhaseFact setup refuses v (asked_phase p question)
        → PhaseFact setup refuses v (refused_step p reply.fields).phase
    refused (P.OsDns q place) asks ok h =
        let p = P.OsDns q place in
        let e : ℕ × HookQuestion = (place, question_at hook.OsDns (plugin_host q.host) []) in
        refuses_host setup at place group refuses v q (next_at p asks e refl) h
        (reply_at p asks e refl reply Error right ok).0
    refused (P.RuleRequest q place none) asks ok h =
        let p = P.RuleRequest q place none in
        let e : ℕ × HookQuestion =
        (place, question_at hook.SendRequestHdr (plugin_host q.host) question.fields) in
        absurd (never_refuses S.Request (next_at p asks e refl).line (plugin_host q.host) question.fields
        (reply_at p asks e refl reply Error right ok).0)
    refused (P.RuleResponse q head place none) asks ok h =
        let p = P.RuleResponse q head place none in
        let e : ℕ × HookQuestion =
        (place, question_at hook.SendResponseHdr (plugin_host q.host) question.fields) in
        absurd (never_refuses S.Response (next_at p asks e refl).line (plugin_host q.host) question.fields
        (reply_at p asks e refl reply Error right ok).0)
    refused (P.RuleAnswer a place none) asks ok h =
        let p = P.RuleAnswer a place none in
        let e : ℕ × HookQuestion = (place, question_at hook.SendResponseHdr [] question.fields) in
        absurd (never_refuses S.Response (next_at p asks e refl).line [] question.fields
        (reply_at p asks e refl reply Error right ok).0)
    refused _ asks ok h = absurd (let none = asks.asked in cc)

    replied : (p : Phase) → AsksFor setup at p group question
        → PhaseFact setup refuses v (asked_phase p question)
        → (answer : Result HookAnswer PluginFault) → reply.answer ≡ answer
        → PhaseFact setup refuses v (replied_step p answer reply.fields).phase
    replied p asks h (Ok Continue) is = continued p asks is h
    replied p asks h (Ok Error) is = refused p asks is h
    replied p asks h (Err fault) is = lacks_memory setup refuses v
        (always setup refuses v (asked_phase p question) h)

  -- what stood with the question's fields put back goes on to stand
  pub told_fact : (refuses : Type 0) (v : View) (p : Phase) (asked : Asked HookQuestion HookReply)
      → PhaseFact setup refuses v (asked_phase p question) → AsksFor setup at p group question
      → IsAnswer (IsRightReply setup at) group question asked
      → PhaseFact setup refuses v (told_step p asked).phase
  told_fact refuses v p (A.Reply reply) h asks right =
      replied refuses v reply right p asks h reply.answer refl
  told_fact refuses v p (A.Missed seen again) h asks same =
      subst (λ (x : HookQuestion). PhaseFact setup refuses v (asked_phase p x)) (sym same) h
  told_fact refuses v p (A.NoMemory again) h asks same = lacks_memory setup refuses v
      (always setup refuses v (asked_phase p question) h)

  -- ---- where it leads

  continued_leads : (p : Phase) (fields : List Field) → AsksFor setup at p group question
      → StepLeads (continued_step p fields)
  continued_leads (P.OsDns q place) fields asks = tt
  continued_leads (P.RuleRequest q place none) fields asks = tt
  continued_leads (P.RuleResponse q head place none) fields asks = tt
  continued_leads (P.RuleAnswer a place none) fields asks = tt
  continued_leads _ fields asks = refl

  refused_leads : (p : Phase) (fields : List Field) → AsksFor setup at p group question
      → StepLeads (refused_step p fields)
  refused_leads (P.OsDns q place) fields asks = tt
  refused_leads (P.RuleRequest q place none) fields asks = tt
  refused_leads (P.RuleResponse q head place none) fields asks = tt
  refused_leads (P.RuleAnswer a place none) fields asks = tt
  refused_leads _ fields asks = refl

  replied_leads : (p : Phase) (answer : Result HookAnswer PluginFault) (fields : List Field)
      → AsksFor setup at p group question → StepLeads (replied_step p answer fields)
  replied_leads p (Ok Continue) fields asks = continued_leads p fields asks
  replied_leads p (Ok Error) fields asks = refused_leads p fields asks
  replied_leads p (Err fault) fields asks = refl

  pub told_leads : (p : Phase) (asked : Asked HookQuestion HookReply) → AsksFor setup at p group question
      → StepLeads (told_step p asked)
  told_leads p (A.Reply reply) asks = replied_leads p reply.answer reply.fields asks
  told_leads (P.OsDns q place) (A.Missed seen again) asks = tt
  told_leads (P.RuleRequest q place none) (A.Missed seen again) asks = tt
  told_leads (P.RuleResponse q head place none) (A.Missed seen again) asks = tt
  told_leads (P.RuleAnswer a place none) (A.Missed seen again) asks = tt
  told_leads _ (A.Missed seen again) asks = absurd (let none = asks.asked in cc)
  told_leads p (A.NoMemory again) asks = refl

  -- ---- less is left

  module _ (u : Option ℕ) (v : View) where
    lacks_lowers : (p : Phase) → NoMore (work_left setup u v p) (work_left setup u v (P.Ended E.NoMemory))
    lacks_lowers p = to_end setup false 0 v v u u (stays_calm setup v v refl) (none_rise u) p E.NoMemory

    continued_lowers : (p : Phase) (fields : List Field) → AsksFor setup at p group question
        → StepFalls (continued_step p fields).next (work_left setup u v p)
        (work_left setup u v (continued_step p fields).phase)
    continued_lowers (P.OsDns q place) fields asks = dns_answered setup v u q place
        (one_less (P.OsDns q place) asks (place, question_at hook.OsDns (plugin_host q.host) []) refl)
    continued_lowers (P.RuleRequest q place none) fields asks = request_answered setup v u q place none fields
        (one_less (P.RuleRequest q place none) asks
        (place, question_at hook.SendRequestHdr (plugin_host q.host) question.fields) refl)
    continued_lowers (P.RuleResponse q head place none) fields asks =
        response_answered setup v u q head place none fields
        (one_less (P.RuleResponse q head place none) asks
        (place, question_at hook.SendResponseHdr (plugin_host q.host) question.fields) refl)
    continued_lowers (P.RuleAnswer a place none) fields asks = own_answered setup v u a place none fields
        (one_less (P.RuleAnswer a place none) asks
        (place, question_at hook.SendResponseHdr [] question.fields) refl)
    continued_lowers _ fields asks = absurd (let none = asks.asked in cc)

    refused_lowers : (p : Phase) (fields : List Field) → AsksFor setup at p group question
        → StepFalls (refused_step p fields).next (work_left setup u v p)
        (work_left setup u v (refused_step p fields).phase)
    refused_lowers (P.OsDns q place) fields asks =
        to_own setup false 0 v v u u (stays_calm setup v v refl) (none_rise u) (P.OsDns q place)
        (denial_of q) tt
    refused_lowers (P.RuleRequest q place none) fields asks =
        to_own setup false 0 v v u u (stays_calm setup v v refl) (none_rise u) (P.RuleRequest q place none)
        (denial_of q) tt
    refused_lowers (P.RuleResponse q head place none) fields asks =
        continued_lowers (P.RuleResponse q head place none) fields asks
    refused_lowers (P.RuleAnswer a place none) fields asks =
        continued_lowers (P.RuleAnswer a place none) fields asks
    refused_lowers _ fields asks = absurd (let none = asks.asked in cc)

    replied_lowers : (p : Phase) (answer : Result HookAnswer PluginFault) (fields : List Field)
        → AsksFor setup at p group question
        → StepFalls (replied_step p answer fields).next (work_left setup u v p)
        (work_left setup u v (replied_step p answer fields).phase)
    replied_lowers p (Ok Continue) fields asks = continued_lowers p fields asks
    replied_lowers p (Ok Error) fields asks = refused_lowers p fields asks
    replied_lowers p (Err fault) fields asks = lacks_lowers p

    -- a reply lowers what is left, and so does want of memory; a miss leaves it
    pub told_lowers : (p : Phase) (asked : Asked HookQuestion HookReply) → AsksFor setup at p group question
        → ToldLowers asked (told_step p asked).next (work_left setup u v p)
        (work_left setup u v (told_step p asked).phase)
    told_lowers p (A.Reply reply) asks = replied_lowers p reply.answer reply.fields asks
    told_lowers (P.OsDns q place) (A.Missed seen again) asks = refl
    told_lowers (P.RuleRequest q place none) (A.Missed seen again) asks = refl
    told_lowers (P.RuleResponse q head place none) (A.Missed seen again) asks = refl
    told_lowers (P.RuleAnswer a place none) (A.Missed seen again) asks = refl
    told_lowers _ (A.Missed seen again) asks = absurd (let none = asks.asked in cc)
    told_lowers p (A.NoMemory again) asks = lacks_lowers p
