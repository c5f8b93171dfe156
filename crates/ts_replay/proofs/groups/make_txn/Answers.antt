-- Two recorded sides that were just made are the ends of a transaction, and its tag is that of the recording.
use Rattle.std.proofs.Common.{◌≡◌, Some, None, ap, false, subst, sym, true, ◌∙◌}
use Rattle.std.specs.Arc.{arc_value}
use Rattle.ts_exchange.specs.Ends.{Ends, ends_of}
use Rattle.ts_layers.specs.Layers.{AreSureLayers, IsLayeredTag}
use Rattle.ts_link.specs.MemLink.{LinkState, look_of}
use Rattle.ts_record.specs.Grammar.{TxnPieces}
use Rattle.ts_record.specs.Links.{recorded_side}
use Rattle.ts_replay.specs.Recorded.{recorded_promise}
use Rattle.ts_replay.proofs.Rows.{new_sides, sure_sides, taken_setup}
use Rattle.ts_exchange.proofs.Rows.{no_turns}
use Rattle.ts_replay.proofs.groups.make_txn.Goals as goal

pub make_layered_group-requires-clause-setting : goal.make_layered_group-requires-clause-setting
make_layered_group-requires-clause-setting c = taken_setup (arc_value c.args.setting.now.setup)
    c.args.setting.now.plugins_at c.requires.lines c.requires.at

pub make_layered_group-requires-clause-ends : goal.make_layered_group-requires-clause-ends
make_layered_group-requires-clause-ends c =
    new_sides c.make-client.result c.make.result _ _ c.make-client.ensures.new c.make.ensures.new

pub make_layered_group-requires-clause-sure : goal.make_layered_group-requires-clause-sure
make_layered_group-requires-clause-sure c = λ is.
    let inside = c.txn.inside in
    subst (λ l. AreSureLayers look_of look_of l (Some c.make.result)) (sym c.make-client.ensures.made)
    (subst (λ o. AreSureLayers look_of look_of (recorded_side inside.client.items inside.leave) (Some o))
    (sym c.make.ensures.made) (sure_sides inside.client.items inside.origin.items inside.leave))

pub returns-clause-tag : goal.returns-clause-tag
returns-clause-tag c =
    let same = c.txn.view_is in
    let inside = c.txn.inside in
    let client : inside.client.items ≡ c.args.txn.client = ap (λ (s : TxnPieces). s.client) same in
    let origin : inside.origin.items ≡ c.args.txn.origin = ap (λ (s : TxnPieces). s.origin) same in
    let leave : inside.leave ≡ c.args.txn.leave = ap (λ (s : TxnPieces). s.leave) same in
    let of_client : c.make-client.result ≡ recorded_side c.args.txn.client c.args.txn.leave =
    c.make-client.ensures.made ∙ ap (λ pieces. recorded_side pieces inside.leave) client
    ∙ ap (recorded_side c.args.txn.client) leave in
    let of_origin : c.make.result ≡ recorded_side c.args.txn.origin None =
    c.make.ensures.made ∙ ap (λ pieces. recorded_side pieces None) origin in
    let ends : Ends LinkState LinkState =
    ends_of c.args.setting.now c.args.number c.make-client.result (Some c.make.result) in
    record {
      between = subst (λ o. IsLayeredTag (record ends {
        client = recorded_side c.args.txn.client c.args.txn.leave;
        origin = Some o;
      }) true recorded_promise false c.in_ok-group.tag) of_origin
          (subst (λ l. IsLayeredTag (record ends { client = l }) true recorded_promise false c.in_ok-group.tag)
          of_client c.in_ok-group.ensures.tag);
      takes_some = c.requires.leave;
    }

pub returns-clause-new : goal.returns-clause-new
returns-clause-new c = no_turns c.in_ok-group.group c.in_ok-group.ensures.fresh
