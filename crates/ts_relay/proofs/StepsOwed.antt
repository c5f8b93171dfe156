-- Steps that did nothing to the chain of a body: what they leave, whether they called a link or not.
use Rattle.std.proofs.Common.{◌≡◌, [], true, false, refl, subst}
use Rattle.ts_group.specs.Context.{Context}
use Rattle.ts_link.specs.declared.link.Link as link
use Rattle.ts_upstream.specs.declared.upstream.Upstream as upstream
use Rattle.ts_vconn.specs.MoveAnswers.{pull_again, pull_failed, push_again, push_failed}
use Rattle.ts_vconn.specs.declared.moves.Pulled.{Pulled}
use Rattle.ts_vconn.specs.declared.moves.Pushed.{Pushed}
use Rattle.ts_phases.specs.Holding.{StepKeeps}
use Rattle.ts_phases.specs.Moving.{WritesClient}
use Rattle.ts_phases.specs.RelayMoves.{ReadsOrigin}
use Rattle.ts_phases.specs.View.{view_of}
use Rattle.ts_phases.specs.declared.parts.Core.{Core}
use Rattle.ts_relay.specs.BodyLinks.{ReadsLinks, WritesLinks, is_client_fault, is_late, is_origin_fault}
use Rattle.ts_relay.specs.Duties.{MustReadOn}
use Rattle.ts_relay.specs.StepsOwed.{ReaderSteps, WriterSteps}
use Rattle.ts_relay.specs.declared.last_writes.BodyStep.{BodyStep}
use Rattle.ts_relay.specs.declared.relay.Relay.{Relay}
use Rattle.ts_relay.proofs.BodyLinks.{reader_read, writer_wrote}
use Rattle.ts_relay.proofs.Chaining.{chain_still}

module _ {C O : Type 0} (client : link.Ghosts C) (origin : link.Ghosts O) (both : upstream.Ghosts O C) where
  module _ {P : Type 0} (old new : Core C O) (step : BodyStep) (r : Relay P) (a : Context) where
    -- the writer did nothing to the body
    pub writer_still : a.log.state.held ≡ true → StepKeeps client origin both old new
        → WritesLinks client.tells origin.tells (view_of client origin old) (view_of client origin new)
        r r step
        → WriterSteps client origin both old new step r r a a
    writer_still turn keeps links =
        record { keeps = keeps; links = links; chain = chain_still step 1 r.driven a turn; relay = refl }

    -- it wrote once of what waited
    pub writer_wrote_still : (p : Pushed) → a.log.state.held ≡ true → StepKeeps client origin both old new
        → WritesClient client.tells (view_of client origin old) (view_of client origin new) p
        → is_client_fault step ≡ push_failed p → is_late step ≡ push_again p → is_origin_fault step ≡ false
        → WriterSteps client origin both old new step r r a a
    writer_wrote_still p turn keeps writes failed again no_origin =
        writer_still turn keeps
        (writer_wrote client.tells origin.tells (view_of client origin old) (view_of client origin new)
        r r step p failed again no_origin refl writes)

    -- the reader did nothing to the body
    pub reader_still : a.log.state.held ≡ true → StepKeeps client origin both old new
        → ReadsLinks client.tells origin.tells (view_of client origin old) (view_of client origin new)
        r r step
        → ReaderSteps client origin both old new step r r a a
    reader_still turn keeps links =
        record {
          keeps = keeps;
          links = links;
          chain = chain_still step 2 r.driven a turn;
          reader = refl;
          stays = λ why is. is;
        }

    -- it read once, and got this answer
    pub reader_read_still : {p q : Pulled} → p ≡ q → a.log.state.held ≡ true
        → StepKeeps client origin both old new → MustReadOn r
        → (view_of client origin old).origin.inbox ≡ []
        → ReadsOrigin origin.tells (view_of client origin old) (view_of client origin new) p
        → is_origin_fault step ≡ pull_failed q → is_late step ≡ pull_again q → is_client_fault step ≡ false
        → ReaderSteps client origin both old new step r r a a
    reader_read_still {p} {q} is turn keeps must none reads failed again no_client =
        reader_still turn keeps
        (reader_read client.tells origin.tells (view_of client origin old) (view_of client origin new)
        r r step q failed again no_client must none refl
        (subst (λ x. ReadsOrigin origin.tells (view_of client origin old) (view_of client origin new) x)
        is reads))
