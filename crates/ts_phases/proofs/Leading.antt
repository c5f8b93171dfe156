-- What the event of a hook's phase leads to: its next plugin is asked, or the hook is left; so it is where the
-- hook begins.
use Rattle.std.proofs.Common.{◌≡◌, ℕ, List, [], ◌∷◌, Option, Some, None, arith, refl, sym, ap, subst, ◌∙◌}
use Rattle.std.proofs.Common.{slice_get}
use Rattle.std.specs.Arc.{arc_value}
use Rattle.ts_config.specs.declared.setup.Setup.{Setup}
use Rattle.ts_config.specs.declared.fields.PluginLine.{PluginLine}
use Rattle.ts_config.specs.declared.fields.Side.{Side}
use Rattle.ts_config.specs.declared.fields.Side.TheVariants as S
use Rattle.ts_hooks.specs.declared.hook.Hook.{Hook}
use Rattle.ts_hooks.specs.declared.hook.Hook.TheVariants as hook
use Rattle.ts_hooks.specs.declared.txn_end.TxnEnd.{TxnEnd}
use Rattle.ts_hooks.specs.declared.txn_end.TxnEnd.TheVariants as E
use Rattle.ts_hooks.specs.Hooks.{HookPlugins, hook_list}
use Rattle.ts_link.specs.Link.{Fewer, NoMore}
use Rattle.ts_link.specs.declared.link.Link as link
use Rattle.ts_upstream.specs.declared.upstream.Upstream as upstream
use Rattle.ts_wire.specs.declared.fields.Field.{Field}
use Rattle.ts_wire.specs.declared.heads.ResponseHead.{ResponseHead}
use Rattle.ts_wire.specs.Check.{plugin_host}
use Rattle.ts_wire.specs.Forward.{forwarded}
use Rattle.ts_block.specs.declared.own_answer.OwnStatus.{OwnStatus}
use Rattle.ts_block.specs.Block.{own_text, request_text, request_with}
use Rattle.ts_block.specs.Own.{own_field, own_head}
use Rattle.ts_block.specs.Rules.{ruled}
use Rattle.ts_plugin.specs.Asked.{question_at}
use Rattle.ts_plugin.specs.Lines.{IsNext, lines_left}
use Rattle.ts_plugin.specs.Replies.{hook_of_side}
use Rattle.ts_plugin.proofs.HookLines.{left_first, left_none}
use Rattle.ts_plugin.proofs.InTurn.{denied_at, ruled_at}
use Rattle.ts_phases.specs.Asking.{lacking_step}
use Rattle.ts_phases.specs.Causes.{EndsForCause, HasCause}
use Rattle.ts_phases.specs.Cover.{StepLeads}
use Rattle.ts_phases.specs.Facts.{IsRuledTo, PassesCheck, PassesDeny}
use Rattle.ts_phases.specs.Holding.{HasTable, PhaseHolds}
use Rattle.ts_phases.specs.Leading.{AsksPlugin, BeginsBody, LeadsTo, MakesStep}
use Rattle.ts_phases.specs.Lowering.{StepFalls, StepFallsFrom, work_left}
use Rattle.ts_phases.specs.Owed.{MayAsk, MayFollow, StepOwes}
use Rattle.ts_phases.specs.Steps.{LeavesSides, MindsLinksIn}
use Rattle.ts_phases.specs.View.{OriginRefuses, View, upload_of, view_of}
use Rattle.ts_phases.specs.declared.parts.Core.{Core}
use Rattle.ts_phases.specs.declared.phase.Led.{Led}
use Rattle.ts_phases.specs.declared.phase.Led.TheVariants as L
use Rattle.ts_phases.specs.declared.phase.Next.{Next}
use Rattle.ts_phases.specs.declared.phase.Next.TheVariants as N
use Rattle.ts_phases.specs.declared.phase.OwnAnswer.{OwnAnswer}
use Rattle.ts_phases.specs.declared.phase.Phase.{Phase}
use Rattle.ts_phases.specs.declared.phase.Phase.TheVariants as P
use Rattle.ts_phases.specs.declared.phase.Request.{Request}
use Rattle.ts_phases.specs.declared.phase.Step.{Step}
use Rattle.ts_phases.proofs.Always.{always}
use Rattle.ts_phases.proofs.Asks.{lacks_memory}
use Rattle.ts_phases.proofs.Lowering.{no_more_same}
use Rattle.ts_phases.proofs.LoweringStands.{still_end}
use Rattle.ts_phases.proofs.LoweringSteps.{body_begins, own_asked, request_asked, response_asked}
use Rattle.ts_phases.proofs.Owed.{lines_of, stands}

-- ---- numbers that are told

no_more_then : (a b c : Option ℕ) → NoMore a b → NoMore b c → NoMore a c
no_more_then None b c kept still = tt
no_more_then (Some x) None c kept still = absurd kept
no_more_then (Some x) (Some y) None kept still = absurd still
no_more_then (Some x) (Some y) (Some z) kept still = omega (arith, kept, still)

fewer_behind : (a b c : Option ℕ) → NoMore a b → Fewer b c → Fewer a c
fewer_behind None b c kept fell = tt
fewer_behind (Some x) None c kept fell = absurd kept
fewer_behind (Some x) (Some y) None kept fell = absurd fell
fewer_behind (Some x) (Some y) (Some z) kept fell = omega (arith, kept, fell)

-- what is no more at first and falls then, has fallen
falls_then : (n : Next) (a b c : Option ℕ) → NoMore a b → StepFalls n b c → StepFalls n a c
falls_then N.Done a b c kept falls = no_more_then a b c kept falls
falls_then _ a b c kept falls = fewer_behind a b c kept falls

-- ---- what holds where a hook begins, and where it is left

module _ (setup : Setup) where
  pub deny_begins : (v : View) (q : Request) → PassesCheck v q → PassesDeny setup v q 0
  deny_begins v q checked = record {
    checked = checked;
    few = omega arith;
    still = sym (denied_at setup.plugins.items (plugin_host q.host));
  }

  pub rules_begin : (side : Side) (fields : List Field) → IsRuledTo setup side fields 0 fields
  rules_begin side fields = record {
    few = omega arith;
    still = sym (ruled_at side setup.plugins.items fields);
  }

  -- where none is left, the fields are those after all rules
  pub rules_end : (side : Side) (before : List Field) (place : ℕ) (fields : List Field)
      → IsRuledTo setup side before place fields
      → lines_left (hook_of_side side) place setup.plugins.items ≡ []
      → fields ≡ ruled side setup.plugins.items before
  rules_end side before place fields h none =
      sym (h.still ∙ ap (λ (ls : List PluginLine). ruled side ls fields) none)

  -- so they are at first
  pub begins_ruled : (side : Side) (before fields : List Field) → fields ≡ before
      → IsRuledTo setup side before 0 fields
  begins_ruled side before fields is = subst (λ (fs : List Field). IsRuledTo setup side fs 0 fields) is
      (rules_begin side fields)

  -- what is queued with them are the texts that the setup makes
  pub request_is : (q : Request) (place : ℕ) (fields : List Field) (text : List ℕ)
      → text ≡ request_with q.head q.target q.host fields
      → IsRuledTo setup S.Request (forwarded q.head.fields) place fields
      → lines_left hook.SendRequestHdr place setup.plugins.items ≡ []
      → text ≡ request_text setup q.head q.target q.host
  request_is q place fields text is h none = is ∙ ap (λ (fs : List Field). request_with q.head q.target q.host fs)
      (rules_end S.Request (forwarded q.head.fields) place fields h none)

  pub answer_is : (status : OwnStatus) (place : ℕ) (fields : List Field) (text : List ℕ)
      → text ≡ own_head status fields → IsRuledTo setup S.Response (own_field ∷ []) place fields
      → lines_left hook.SendResponseHdr place setup.plugins.items ≡ []
      → text ≡ own_text setup status
  answer_is status place fields text is h none = is ∙ ap (λ (fs : List Field). own_head status fs)
      (rules_end S.Response (own_field ∷ []) place fields h none)

-- ---- the table of a transaction

module _ {C O : Type 0} (t : Core C O) (table : HasTable t) (at : Hook) (place : ℕ) where
  -- the plugin that it has at a place is the one whose turn it is
  pub in_turn : (group : ℕ) → Some group ≡ slice_get (hook_list t.hooks at) place
      → IsNext at t.plugins_at (lines_of t) place group
  in_turn group is = left_first at t.plugins_at (lines_of t) place group table.ordered
      (sym (is ∙ ap (λ (x : HookPlugins). slice_get (hook_list x at) place) table.table_is))

  -- where it has none, none is left
  pub all_asked : None ≡ slice_get (hook_list t.hooks at) place → lines_left at place (lines_of t) ≡ []
  all_asked is = left_none at t.plugins_at (lines_of t) place table.ordered
      (sym (is ∙ ap (λ (x : HookPlugins). slice_get (hook_list x at) place) table.table_is))

module _ {C O : Type 0} (client : link.Ghosts C) (origin : link.Ghosts O) (both : upstream.Ghosts O C) where
  -- ---- memory lacks, and nothing was done

  pub lacks : (t : Core C O) (p : Phase) → PhaseHolds client origin both t p
      → MayFollow (lines_of t) p (P.Ended E.NoMemory) → MindsLinksIn client origin both t t p lacking_step
      → MakesStep client origin both t t p lacking_step
  lacks t p holds follows minds = record {
    leads = refl;
    fact = λ told also. lacks_memory (arc_value t.setup) (OriginRefuses client both t)
        (view_of client origin t) (always (arc_value t.setup) (OriginRefuses client both t)
        (view_of client origin t) p (holds told also));
    owes = stands client origin both t p follows minds tt (λ has. tt);
    falls = still_end _ _ (arc_value t.setup) (view_of client origin t) (upload_of both t) p E.NoMemory;
  }

  -- ---- a step was made

  -- of a phase that is known by an equation, as was answered by another
  pub led_by : (t u : Core C O) {p q : Phase} {led made : Led} → p ≡ q → led ≡ made
      → LeadsTo client origin both t u q made → LeadsTo client origin both t u p led
  led_by t u {p} {q} {led} {made} is same leads =
      subst (λ (x : Phase). LeadsTo client origin both t u x led) (sym is)
      (subst (λ (l : Led). LeadsTo client origin both t u q l) (sym same) leads)

  pub led_step : (t u : Core C O) {p q : Phase} (s : Step) → p ≡ q → MakesStep client origin both t u q s
      → LeadsTo client origin both t u p (L.Steps s)
  led_step t u s is made = subst (λ (x : Phase). LeadsTo client origin both t u x (L.Steps s)) (sym is) made

  -- what stands of a phase that is known by an equation
  pub holds_at : (t : Core C O) {p q : Phase} → p ≡ q → PhaseHolds client origin both t p
      → PhaseHolds client origin both t q
  holds_at t is holds = subst (λ (x : Phase). PhaseHolds client origin both t x) is holds

  -- it does nothing but lead on, or end
  pub goes : (t : Core C O) (p next : Phase) → StepLeads (record { phase = next; next = N.Go })
      → PhaseHolds client origin both t next → MayFollow (lines_of t) p next
      → MindsLinksIn client origin both t t p (record { phase = next; next = N.Go })
      → StepFallsFrom client origin both t t p (record { phase = next; next = N.Go })
      → (EndsForCause (view_of client origin t) p → EndsForCause (view_of client origin t) next)
      → MakesStep client origin both t t p (record { phase = next; next = N.Go })
  goes t p next leads holds follows minds falls cause = record {
    leads = leads;
    fact = holds;
    owes = stands client origin both t p follows minds tt cause;
    falls = falls;
  }

  pub ends : (t : Core C O) (p : Phase) (end : TxnEnd) → PhaseHolds client origin both t (P.Ended end)
      → MayFollow (lines_of t) p (P.Ended end)
      → MindsLinksIn client origin both t t p (record { phase = P.Ended end; next = N.Done })
      → (EndsForCause (view_of client origin t) p → HasCause (view_of client origin t) end)
      → MakesStep client origin both t t p (record { phase = P.Ended end; next = N.Done })
  ends t p end holds follows minds cause = record {
    leads = refl;
    fact = holds;
    owes = stands client origin both t p follows minds tt cause;
    falls = still_end _ _ (arc_value t.setup) (view_of client origin t) (upload_of both t) p end;
  }

  -- ---- a plugin is asked

  module _ (t : Core C O) (place group : ℕ) where
    pub asks_dns : (q : Request) (host : List ℕ) (none : List Field) → host ≡ plugin_host q.host → none ≡ []
        → IsNext hook.OsDns t.plugins_at (lines_of t) place group
        → PhaseHolds client origin both t (P.OsDns q place)
        → AsksPlugin client origin both t t (P.OsDns q place) (P.OsDns q place) group
        (question_at hook.OsDns host none)
    asks_dns q host none host_is none_is next holds = record {
      same = refl;
      asks = record {
        place = place;
        asked = λ i. Some (place, question_at hook.OsDns (sym host_is i) (sym none_is i));
        in_turn = next;
      };
      follows = (refl, refl);
      fields = none_is;
      fact = holds;
      falls = no_more_same (work_left (arc_value t.setup) (upload_of both t) (view_of client origin t)
          (P.OsDns q place));
    }

    pub asks_request : (q : Request) (fields none : List Field) (host : List ℕ) → host ≡ plugin_host q.host
        → IsNext hook.SendRequestHdr t.plugins_at (lines_of t) place group
        → PhaseHolds client origin both t (P.RuleRequest q place fields)
        → AsksPlugin client origin both t t (P.RuleRequest q place fields) (P.RuleRequest q place none) group
        (question_at hook.SendRequestHdr host fields)
    asks_request q fields none host host_is next holds = record {
      same = refl;
      asks = record {
        place = place;
        asked = λ i. Some (place, question_at hook.SendRequestHdr (sym host_is i) fields);
        in_turn = next;
      };
      follows = (refl, refl);
      fields = refl;
      fact = holds;
      falls = no_more_same (work_left (arc_value t.setup) (upload_of both t) (view_of client origin t)
          (P.RuleRequest q place fields));
    }

    pub asks_response : (q : Request) (h : ResponseHead) (fields none : List Field) (host : List ℕ)
        → host ≡ plugin_host q.host
        → IsNext hook.SendResponseHdr t.plugins_at (lines_of t) place group
        → PhaseHolds client origin both t (P.RuleResponse q h place fields)
        → AsksPlugin client origin both t t (P.RuleResponse q h place fields) (P.RuleResponse q h place none)
        group (question_at hook.SendResponseHdr host fields)
    asks_response q h fields none host host_is next holds = record {
      same = refl;
      asks = record {
        place = place;
        asked = λ i. Some (place, question_at hook.SendResponseHdr (sym host_is i) fields);
        in_turn = next;
      };
      follows = (refl, refl, refl);
      fields = refl;
      fact = holds;
      falls = no_more_same (work_left (arc_value t.setup) (upload_of both t) (view_of client origin t)
          (P.RuleResponse q h place fields));
    }

    pub asks_own : (a : OwnAnswer) (fields none : List Field) (host : List ℕ) → host ≡ []
        → IsNext hook.SendResponseHdr t.plugins_at (lines_of t) place group
        → PhaseHolds client origin both t (P.RuleAnswer a place fields)
        → AsksPlugin client origin both t t (P.RuleAnswer a place fields) (P.RuleAnswer a place none) group
        (question_at hook.SendResponseHdr host fields)
    asks_own a fields none host host_is next holds = record {
      same = refl;
      asks = record {
        place = place;
        asked = λ i. Some (place, question_at hook.SendResponseHdr (sym host_is i) fields);
        in_turn = next;
      };
      follows = (refl, refl);
      fields = refl;
      fact = holds;
      falls = no_more_same (work_left (arc_value t.setup) (upload_of both t) (view_of client origin t)
          (P.RuleAnswer a place fields));
    }

  -- ---- a body begins

  pub begins_body : (t : Core C O) (q : Request) (h : ResponseHead) (place : ℕ) (fields : List Field)
      → lines_left hook.SendResponseHdr place (lines_of t) ≡ []
      → PhaseHolds client origin both t (P.RuleResponse q h place fields)
      → BeginsBody client origin both t t (P.RuleResponse q h place fields) q h fields
  begins_body t q h place fields none holds = record {
    same = refl;
    follows = (refl, refl, none);
    fact = λ told also. (
      (holds told also).0,
      rules_end (arc_value t.setup) S.Response (forwarded h.fields) place fields (holds told also).1 none,
    );
    falls = body_begins (arc_value t.setup) (view_of client origin t) (upload_of both t) q h place fields;
  }

  -- ---- where a hook begins, its first plugin is asked in the same event, or the hook is left

  module _ (t u : Core C O) where
    -- what a step of the hook's phase owes, that of the phase before it does
    owes_before : (p before : Phase) (s : Step) → MayFollow (lines_of t) before s.phase
        → MindsLinksIn client origin both t u before s
        → (LeavesSides p (view_of client origin t) (view_of client origin u)
        → LeavesSides before (view_of client origin t) (view_of client origin u))
        → (EndsForCause (view_of client origin t) before → EndsForCause (view_of client origin t) p)
        → StepOwes client origin both t u p s → StepOwes client origin both t u before s
    owes_before p before s follows minds leaves cause owes = record {
      follows = follows;
      minds = minds;
      waits = owes.waits;
      causes = λ stood. owes.causes (record { counts = stood.counts; ends = cause stood.ends });
      leaves = λ told also. leaves (owes.leaves told also);
      keeps = owes.keeps;
    }

    pub request_begins : (q : Request) (fields : List Field) (led : Led)
        → fields ≡ forwarded q.head.fields
        → LeadsTo client origin both t u (P.RuleRequest q 0 fields) led
        → LeadsTo client origin both t u (P.SendRequestHdr q) led
    request_begins q fields (L.Steps s) before made = record {
      leads = made.leads;
      fact = made.fact;
      owes = owes_before (P.RuleRequest q 0 fields) (P.SendRequestHdr q) s (follows s.phase made.owes.follows)
          made.owes.minds (λ leaves. record { origin = leaves.origin; client = leaves.client }) (λ has. tt)
          made.owes;
      falls = λ told also. falls_then s.next _ _ _ (request_asked (arc_value t.setup)
          (view_of client origin t) (upload_of both t) q fields) (made.falls told also);
    }
      where
        follows : (p : Phase) → MayFollow (lines_of t) (P.RuleRequest q 0 fields) p
            → MayFollow (lines_of t) (P.SendRequestHdr q) p
        follows (P.SendRequest r) may = may
        follows (P.Ended last) may = may
        follows _ may = absurd may
    request_begins q fields (L.Asks next group question) before asks = record {
      same = asks.same;
      asks = asks.asks;
      follows = follows next asks.follows;
      fields = asks.fields ∙ before;
      fact = asks.fact;
      falls = no_more_then _ _ _ (request_asked (arc_value t.setup) (view_of client origin t)
          (upload_of both t) q fields) asks.falls;
    }
      where
        follows : (p : Phase) → MayAsk (P.RuleRequest q 0 fields) p → MayAsk (P.SendRequestHdr q) p
        follows (P.RuleRequest r place still) may = may
        follows _ may = absurd may
    request_begins q fields (L.Enters r h after) before enters = absurd enters.follows

    pub response_begins : (q : Request) (h : ResponseHead) (fields : List Field) (led : Led)
        → fields ≡ forwarded h.fields
        → LeadsTo client origin both t u (P.RuleResponse q h 0 fields) led
        → LeadsTo client origin both t u (P.ResponseTransform q h) led
    response_begins q h fields (L.Steps s) before made = record {
      leads = made.leads;
      fact = made.fact;
      owes = owes_before (P.RuleResponse q h 0 fields) (P.ResponseTransform q h) s
          (follows s.phase made.owes.follows) made.owes.minds
          (λ leaves. record { origin = leaves.origin; client = leaves.client }) (λ has. tt) made.owes;
      falls = λ told also. falls_then s.next _ _ _ (response_asked (arc_value t.setup)
          (view_of client origin t) (upload_of both t) q h fields) (made.falls told also);
    }
      where
        follows : (p : Phase) → MayFollow (lines_of t) (P.RuleResponse q h 0 fields) p
            → MayFollow (lines_of t) (P.ResponseTransform q h) p
        follows (P.Ended last) may = may
        follows _ may = absurd may
    response_begins q h fields (L.Asks next group question) before asks = record {
      same = asks.same;
      asks = asks.asks;
      follows = follows next asks.follows;
      fields = asks.fields ∙ before;
      fact = asks.fact;
      falls = no_more_then _ _ _ (response_asked (arc_value t.setup) (view_of client origin t)
          (upload_of both t) q h fields) asks.falls;
    }
      where
        follows : (p : Phase) → MayAsk (P.RuleResponse q h 0 fields) p → MayAsk (P.ResponseTransform q h) p
        follows (P.RuleResponse r k place still) may = may
        follows _ may = absurd may
    response_begins q h fields (L.Enters r k after) before enters = record {
      same = enters.same;
      follows = enters.follows;
      fact = enters.fact;
      falls = no_more_then _ _ _ (response_asked (arc_value t.setup) (view_of client origin t)
          (upload_of both t) q h fields) enters.falls;
    }

    pub own_begins : (a : OwnAnswer) (fields : List Field) (led : Led)
        → fields ≡ own_field ∷ []
        → LeadsTo client origin both t u (P.RuleAnswer a 0 fields) led
        → LeadsTo client origin both t u (P.SendResponseHdr a) led
    own_begins a fields (L.Steps s) before made = record {
      leads = made.leads;
      fact = made.fact;
      owes = owes_before (P.RuleAnswer a 0 fields) (P.SendResponseHdr a) s (follows s.phase made.owes.follows)
          made.owes.minds (λ leaves. record { origin = leaves.origin; client = leaves.client }) (λ has. has)
          made.owes;
      falls = λ told also. falls_then s.next _ _ _ (own_asked (arc_value t.setup) (view_of client origin t)
          (upload_of both t) a fields) (made.falls told also);
    }
      where
        follows : (p : Phase) → MayFollow (lines_of t) (P.RuleAnswer a 0 fields) p
            → MayFollow (lines_of t) (P.SendResponseHdr a) p
        follows (P.Sending b) may = may
        follows (P.Ended last) may = may
        follows _ may = absurd may
    own_begins a fields (L.Asks next group question) before asks = record {
      same = asks.same;
      asks = asks.asks;
      follows = follows next asks.follows;
      fields = asks.fields ∙ before;
      fact = asks.fact;
      falls = no_more_then _ _ _ (own_asked (arc_value t.setup) (view_of client origin t) (upload_of both t) a
          fields) asks.falls;
    }
      where
        follows : (p : Phase) → MayAsk (P.RuleAnswer a 0 fields) p → MayAsk (P.SendResponseHdr a) p
        follows (P.RuleAnswer b place still) may = may
        follows _ may = absurd may
    own_begins a fields (L.Enters q h after) before enters = absurd enters.follows
