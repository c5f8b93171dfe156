-- What a transaction has left to do on its course, as one number, with the events that are pending.
use Rattle.std.specs.Prelude.{ℕ, List, Bool, true, false, ◌&&◌, Option, None, ⊤}
use Rattle.std.specs.Arc.{arc_value}
use Rattle.ts_config.specs.declared.setup.Setup.{Setup}
use Rattle.ts_group.specs.Answers.{Falls}
use Rattle.ts_group.specs.Context.{Context}
use Rattle.ts_journal.specs.declared.entry.Pending.{Pending}
use Rattle.ts_config.specs.declared.setup.TransformLine.{TransformLine}
use Rattle.ts_link.specs.declared.link.Link as link
use Rattle.ts_upstream.specs.declared.upstream.Upstream as upstream
use Rattle.ts_transform.specs.declared.transform.Transform as transform
use Rattle.ts_phases.specs.Holding.{IfTold}
use Rattle.ts_link.specs.Link.{NoMore}
use Rattle.ts_phases.specs.Lowering.{enter_left, number_left, work_left}
use Rattle.ts_relay.specs.LoweringBody.{IsOfLines, finish_left, relay_left}
use Rattle.ts_phases.specs.View.{View, upload_of, view_of}
use Rattle.ts_txn.specs.declared.course.Course.{Course}
use Rattle.ts_txn.specs.declared.course.Course.TheVariants as K
use Rattle.ts_phases.specs.declared.parts.Core.{Core}
use Rattle.ts_phases.specs.declared.phase.Phase.{Phase}

module _ {Q : Type 0} (setup : Setup) (rest : Q → List ℕ → List ℕ) where
  -- what is left to do, by how far the transaction is
  abbrev pub course_left : Option ℕ → View → Course Q → Option ℕ
  course_left upload v (K.Phased p) = work_left setup upload v p
  course_left upload v (K.Relaying r) = relay_left setup rest v r
  course_left upload v (K.Finishing end) = finish_left v

  -- a body that is passed on goes through a chain of the configuration's
  abbrev pub IsOfLinesOn : Course Q → Type 0
  IsOfLinesOn (K.Phased p) = ⊤
  IsOfLinesOn (K.Relaying r) = IsOfLines setup rest r.driven.chain
  IsOfLinesOn (K.Finishing end) = ⊤

-- the number of a transaction whose links tell, and none of another
abbrev pub number_if : Bool → Option ℕ → Option ℕ
number_if true n = n
number_if false n = None

module _ {C O : Type 0} (client : link.Ghosts C) (origin : link.Ghosts O) (both : upstream.Ghosts O C) where
  -- what is left in a phase pays for the body that begins behind it
  abbrev pub PaysToEnter : Core C O → Phase → Type 0
  PaysToEnter core phase =
      NoMore (work_left (arc_value core.setup) (upload_of both core) (view_of client origin core) phase)
      (enter_left (arc_value core.setup) (view_of client origin core))

module _ {C O Q : Type 0} (client : link.Ghosts C) (origin : link.Ghosts O) (both : upstream.Ghosts O C)
    (stage : transform.Ghosts Q TransformLine) where
  -- what the parts of a transaction have left to do
  abbrev pub parts_left : Core C O → Course Q → Option ℕ
  parts_left core course =
      course_left (arc_value core.setup) stage.rest (upload_of both core) (view_of client origin core) course

  -- The number of a transaction in its group: it has one where both links tell.
  abbrev pub transaction_left : Core C O → Course Q → List Pending → Option ℕ
  transaction_left core course pending =
      number_if (client.tells && origin.tells) (number_left pending (parts_left core course))

  -- no event that is set raises it
  abbrev pub PaysEvents : Core C O → Core C O → Course Q → Course Q → Context → Context → Type 0
  PaysEvents old new before after a b = IfTold client.tells origin.tells
      (Falls (number_left a.log.state.pending (parts_left old before)) 0 (number_left b.log.state.pending
      (course_left (arc_value old.setup) stage.rest (upload_of both new) (view_of client origin new) after)))
