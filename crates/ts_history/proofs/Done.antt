-- A transaction that has ended in its place, once its layers were taken off, is done.
use Rattle.std.proofs.Common.{◌≡◌, ◌∙◌, ℕ, List, Option, Some, None, Bool, true, false, is_some, refl}
use Rattle.std.proofs.Common.{sym, ap}
use Rattle.ts_config.specs.declared.setup.Setup.{Setup}
use Rattle.ts_config.specs.declared.setup.TransformLine.{TransformLine}
use Rattle.ts_exchange.specs.Ends.{Ends}
use Rattle.ts_exchange.specs.Left.{end_of, has_ended}
use Rattle.ts_exchange.specs.declared.exchange.Promise.{Promise}
use Rattle.ts_group.specs.declared.action.Named.{Named}
use Rattle.ts_history.specs.Done.{AreEndsAt, IsTxnDone}
use Rattle.ts_journal.specs.Final.{IsFinal}
use Rattle.ts_journal.specs.Log.{Log}
use Rattle.ts_journal.specs.State.{State}
use Rattle.ts_layers.specs.Layers.{IsLayeredBetween, IsLayeredTag, LayeredExchanges, LeavesExchange}
use Rattle.ts_layers.specs.Links.{ClientEnd, OriginEnd, client_link, origin_link, origin_uploads}
use Rattle.ts_layers.specs.Links.{watched_look}
use Rattle.ts_layers.specs.declared.layers.PlainExchange.{PlainExchange}
use Rattle.ts_link.specs.declared.link.Link as link
use Rattle.ts_transform.specs.declared.transform.Transform as transform
use Rattle.ts_txn.specs.World.{IsSoundTxn, IsTxnOf}
use Rattle.ts_txn.specs.declared.txn.Txn.{Txn}
use Rattle.ts_txn.specs.declared.txn.TxnTag.{TxnTag}
use Rattle.ts_upstream.specs.declared.upstream.Upstream as upstream

-- an end, where there is one
some_end : {A : Type 0} (o : Option A) → is_some o ≡ true → (a : A) × (o ≡ Some a)
some_end None is = absurd (cc)
some_end (Some a) is = (a, refl)

module _ {C O P : Type 0} (client : link.Ghosts C) (origin : link.Ghosts O) (both : upstream.Ghosts O C)
    (stage : transform.Ghosts P TransformLine) (ends : Ends C O) where
  -- the number of a transaction that is left is still that of its ends
  pub left_number : (keeps started : Bool) (s : State) (left : PlainExchange C O)
      → LayeredExchanges client origin both stage ends keeps started s left → left.parts.number ≡ ends.number
  left_number keeps started s left exchanges =
      exchanges.inside.number ∙ exchanges.exchanges.keeps.number ∙ exchanges.over.number

  -- and the name of its client's link
  pub left_named : (keeps started : Bool) (s : State) (left : PlainExchange C O)
      → LayeredExchanges client origin both stage ends keeps started s left
      → (client.look ends.client).name ≡ ends.number
      → (client.look left.parts.client).name ≡ left.parts.number
  left_named keeps started s left exchanges named =
      let kept : (watched_look client.look exchanges.shown.client.client).name
      ≡ (watched_look client.look exchanges.layered.client.client).name =
      exchanges.exchanges.keeps.client_is.name in
      ap (λ l. (client.look l).name) exchanges.inside.client ∙ kept
      ∙ ap (λ l. (client.look l).name) exchanges.over.client.inside ∙ named
      ∙ sym (left_number keeps started s left exchanges)

  -- IT IS DONE, between the ends that its tag names
  pub txn_done : (setup : Setup) (plugins_at : ℕ) (promise : Promise)
      (tag : TxnTag (ClientEnd C) (OriginEnd O P)) (txn : Txn (ClientEnd C) (OriginEnd O P) P) (journal : Log)
      (roles : List Named) (left : PlainExchange C O)
      → AreEndsAt client.look setup plugins_at ends → IsLayeredTag ends false promise false tag
      → IsTxnOf (client_link client) (origin_link origin) tag txn
      → IsSoundTxn (client_link client) (origin_link origin) (origin_uploads client origin both stage) stage
      txn journal.state.pending journal.state.next roles
      → (IsLayeredBetween client origin both stage ends false false txn journal.state
      → LeavesExchange client origin both stage ends false false journal.state txn left)
      → left.parts.end ≡ end_of txn → has_ended txn ≡ true → IsFinal journal
      → (done : IsTxnDone client origin both stage setup plugins_at
      (record { parts = left.parts; journal = journal }))
      × (done.ends ≡ ends)
  txn_done setup plugins_at promise tag txn journal roles left at tagged fits sound take ended has final =
      let between : IsLayeredBetween client origin both stage ends false false txn journal.state = record {
        layered = tagged.layered;
        over = tagged.over;
        between = record {
          promise = promise;
          tag = tag;
          tag_is = tagged.tag_is;
          fits = fits;
          roles = roles;
          sound = sound;
        };
      } in
      let leaves = take between in
      let ending = some_end (end_of txn) has in (
        record {
          ends = ends;
          ends_are = at;
          named = left_named false false journal.state left leaves.exchanges at.named;
          txn = txn;
          between = between;
          left = left;
          parts_are = refl;
          leaves = leaves;
          ending = ending.0;
          ended = ended ∙ ending.1;
          final = final;
        },
        refl,
      )
