-- What a step of a body owes, and an event of it, each as one record over the transaction before and after:
-- what all of its kind leave, beside where it leads and what it lowers (Developer's Guide,
-- "Transformations").
use Rattle.std.specs.Prelude.{◌≡◌, ℕ, Option}
use Rattle.std.specs.Arc.{arc_value}
use Rattle.ts_journal.specs.declared.entry.Event.{Event}
use Rattle.ts_group.specs.Context.{Context}
use Rattle.ts_link.specs.Link.{Fewer}
use Rattle.ts_link.specs.declared.link.Link as link
use Rattle.ts_upstream.specs.declared.upstream.Upstream as upstream
use Rattle.ts_transform.specs.declared.transform.Transform as transform
use Rattle.ts_transform.specs.declared.continuation.StageContinuation.{StageContinuation}
use Rattle.ts_phases.specs.Holding.{IfTold, StepKeeps}
use Rattle.ts_phases.specs.View.{view_of}
use Rattle.ts_phases.specs.declared.parts.Core.{Core}
use Rattle.ts_relay.specs.BodyLinks.{HandlesLinks, KeepsShort, ReadsLinks, WritesLinks}
use Rattle.ts_relay.specs.Duties.{HandlesBody}
use Rattle.ts_relay.specs.LoweringBody.{LowersBody, LowersEntering, PaysBody, finish_left, rest_after}
use Rattle.ts_relay.specs.Relaying.{StepsChain, set_by_part, set_by_stage}
use Rattle.ts_relay.specs.declared.last_writes.BodyStep.{BodyStep}
use Rattle.ts_relay.specs.declared.relay.Relay.{Relay}

module _ {C O P : Type 0} (client : link.Ghosts C) (origin : link.Ghosts O) (both : upstream.Ghosts O C)
    (old new : Core C O) where
  -- A step of the writer.
  pub record WriterSteps (step : BodyStep) (r s : Relay P) (a b : Context) : Type 0 where
    pub keeps : StepKeeps client origin both old new
    pub links : WritesLinks client.tells origin.tells (view_of client origin old) (view_of client origin new)
        r s step  -- nothing is done with the origin's link
    pub chain : StepsChain step set_by_stage r.driven s.driven a b
    pub relay : s ≡ record r { driven = s.driven }  -- of the body only the chain changes

  -- A step of the reader.
  pub record ReaderSteps (step : BodyStep) (r s : Relay P) (a b : Context) : Type 0 where
    pub keeps : StepKeeps client origin both old new
    pub links : ReadsLinks client.tells origin.tells (view_of client origin old) (view_of client origin new)
        r s step  -- nothing is done with the client's link
    pub chain : StepsChain step set_by_part r.driven s.driven a b
    pub reader : s.reader ≡ r.reader  -- whether the reader is roused stays
    pub stays : KeepsShort r s  -- and so does why no more of the body comes

  -- An event of a role: what it keeps, who is roused by then, and what it does with the links.
  pub record BodyHandles (role : ℕ) (event : Event) (step : BodyStep) (t m : Option StageContinuation)
      (r s : Relay P) (a b : Context) : Type 0 where
    pub keeps : StepKeeps client origin both old new
    pub body : HandlesBody step role event (view_of client origin old) (view_of client origin new) t m r s a b
    pub links : HandlesLinks client.tells origin.tells (view_of client origin old) (view_of client origin new)
        t r s step a b

module _ {C O P L : Type 0} (client : link.Ghosts C) (origin : link.Ghosts O) (stage : transform.Ghosts P L)
    (old new : Core C O) where
  -- the step of an end of a body lowers what is left, unless it had nothing to do
  abbrev pub EndLowers : Type 0 → BodyStep → Relay P → Relay P → Context → Context → Type 0
  EndLowers must step r s a b = LowersBody client.tells origin.tells must (arc_value old.setup) stage.rest
      step (view_of client origin old) (view_of client origin new) r s a b

  -- an event pays for the events that it sets
  abbrev pub EventPays : BodyStep → Option StageContinuation → Relay P → Relay P → Context → Context → Type 0
  EventPays step main r s a b = PaysBody client.tells origin.tells (arc_value old.setup) stage.rest
      step (view_of client origin old) (view_of client origin new) main r s a b

  -- the head of a response was queued whose body is passed on
  abbrev pub EntryLowers : Relay P → Type 0
  EntryLowers r = LowersEntering client.tells origin.tells (arc_value old.setup) stage.rest
      (view_of client origin old) (view_of client origin new) r

-- one of the last writes lowers what is left
abbrev pub RestLowers : {C O : Type 0} → link.Ghosts C → link.Ghosts O → Core C O → Core C O → BodyStep
    → Type 0
RestLowers client origin old new step = IfTold client.tells origin.tells
    (Fewer (finish_left (view_of client origin old)) (rest_after step (view_of client origin new)))
