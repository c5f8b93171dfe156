-- The plugins of the setup's lines stand beside the places, and the transactions ask them. A transaction with
-- its layers may go to another thread where its links and its transforms may.
use denote.Exit.{no}
use denote.Param.Send.{arg_send, param_send}
use Rattle.std.proofs.Common.{◌∙◌, ap, refl, subst}
use Rattle.std.specs.Arc.{arc_value}
use Rattle.ts_config.specs.declared.setup.Setup.{Setup}
use Rattle.ts_exchange.specs.Plugins.{ArePluginsOf}
use Rattle.ts_serve.specs.declared.acceptor.TheConstants.{PLACES}
use Rattle.ts_serve.specs.declared.exchanges.TxnTerms.{TxnTerms}
use Rattle.ts_serve.proofs.Askers.{plugins_few, plugins_stand, server_asks}
use Rattle.ts_serve.proofs.Crossing.{placed_send}
use Rattle.ts_serve.proofs.Notes.{none_noted}
use Rattle.ts_serve.proofs.exchanges.serve_links.Goals as goal

-- the terms of the places under a setup
abbrev setup_terms : Setup → TxnTerms
setup_terms setup = record { setup = record { marker = record {}; value = setup }; plugins_at = PLACES }

pub serve-requires-clause-others : goal.serve-requires-clause-others
serve-requires-clause-others g c κs within =
    let lines = c.as_slice.ensures.value ∙ ap (λ (s : Setup). s.plugins.items) c.deref.ensures in
    let are = subst (λ ls. ArePluginsOf ls c.in-Ok.plugins.items) lines c.in-Ok.ensures in (
      record {
        few = plugins_few (arc_value c.args.setup) c.in-Ok.plugins.items are c.requires.setup;
        each = plugins_stand (arc_value c.args.setup).plugins.items c.in-Ok.plugins.items are;
      },
      λ terms of_setting. server_asks g.row.K.Denot g.row.O.Denot g.row.Q.Denot g.K.Link
          g.O.Link (arc_value c.args.setup) terms c.in-Ok.plugins.items of_setting.setup
          of_setting.plugins_at are,
    )

pub returns-clause-retired : goal.returns-clause-retired
returns-clause-retired g c = λ telling.
    let terms = setup_terms (arc_value c.args.setup) in
    c.serve.ensures.retired telling terms (record { setup = refl; plugins_at = refl })

pub returns-clause-noted : goal.returns-clause-noted
returns-clause-noted g c = λ telling.
    let terms = setup_terms (arc_value c.args.setup) in
    none_noted (g.N.Net.seen c.serve.new.net).noted
    (c.serve.ensures.sessions telling terms (record { setup = refl; plugins_at = refl })).each

pub serve-requires-send-W : goal.serve-requires-send-W
serve-requires-send-W g c κs within =
    param_send _ _ (arg_send _ no _
    (placed_send _ _ _ g.K.Link g.O.Link c.type_bounds.send-K c.type_bounds.send-O c.type_bounds.send-Q))
