-- The plugins of the setup's lines stand beside the places, and the transactions ask them. A handler of a
-- session may go to another thread where its links and its transforms may.
use denote.Exit.{no}
use denote.Param.Send.{arg_send, param_send}
use Rattle.std.proofs.Common.{◌∙◌, None, ap, refl, subst}
use Rattle.std.specs.Arc.{arc_value}
use Rattle.ts_config.specs.declared.setup.Setup.{Setup}
use Rattle.ts_exchange.specs.Plugins.{ArePluginsOf}
use Rattle.ts_serve.proofs.Askers.{plugins_few, plugins_stand}
use Rattle.ts_serve.proofs.SessionAskers.{sessions_ask}
use Rattle.ts_serve.proofs.SessionCrossing.{session_send}
use Rattle.ts_serve.proofs.sessions.serve_connections.Goals as goal
use Rattle.ts_serve.specs.declared.acceptor.TheConstants.{PLACES}
use Rattle.ts_serve.specs.declared.sessions.SessionTerms.{SessionTerms}

-- the terms of the places of sessions under a setup
abbrev setup_terms : (O : Type 0) → Setup → SessionTerms O
setup_terms O setup = record {
  setup = record { marker = record {}; value = setup };
  plugins_at = PLACES;
  behind = record { marker = record {}; value = None };
}

pub serve-requires-clause-others : goal.serve-requires-clause-others
serve-requires-clause-others g c κs within =
    let lines = c.as_slice.ensures.value ∙ ap (λ (s : Setup). s.plugins.items) c.deref.ensures in
    let are = subst (λ ls. ArePluginsOf ls c.in-Ok.plugins.items) lines c.in-Ok.ensures in (
      record {
        few = plugins_few (arc_value c.args.setup) c.in-Ok.plugins.items are c.requires.setup;
        each = plugins_stand (arc_value c.args.setup).plugins.items c.in-Ok.plugins.items are;
      },
      λ terms of_setting. sessions_ask g.row.K.Denot g.row.O.Denot g.row.Q.Denot g.K.Link g.O.Link
          g.Q.Transform (arc_value c.args.setup) terms c.in-Ok.plugins.items of_setting.setup
          of_setting.plugins_at are,
    )

pub returns-clause-retired : goal.returns-clause-retired
returns-clause-retired g c = λ telling.
    let terms = setup_terms g.row.O.Denot (arc_value c.args.setup) in
    c.serve.ensures.retired telling terms (record { setup = refl; plugins_at = refl; behind = refl })

pub returns-clause-sessions : goal.returns-clause-sessions
returns-clause-sessions g c = λ telling.
    let terms = setup_terms g.row.O.Denot (arc_value c.args.setup) in
    c.serve.ensures.sessions telling terms (record { setup = refl; plugins_at = refl; behind = refl })

pub returns-clause-spent : goal.returns-clause-spent
returns-clause-spent g c = λ telling whole.
    let terms = setup_terms g.row.O.Denot (arc_value c.args.setup) in
    c.serve.ensures.spent telling whole terms (record { setup = refl; plugins_at = refl; behind = refl })

pub serve-requires-send-W : goal.serve-requires-send-W
serve-requires-send-W g c κs within = param_send _ _ (
    arg_send _ no _
    (session_send _ _ _ g.K.Sourced g.K.Link g.O.Link c.type_bounds.send-K c.type_bounds.send-O
    c.type_bounds.send-Q))
