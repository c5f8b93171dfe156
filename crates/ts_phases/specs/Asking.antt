-- What a transaction asks the plugins of its hooks, one after the other in the order of their lines, and
-- where each reply leads it (Developer's Guide, "Hooks and Transactions").
use Rattle.std.specs.Prelude.{◌≡◌, ℕ, ◌+◌, ◌<◌, ◌^◌, List, [], ◌∷◌, length, Option, Some, None, Result, Ok}
use Rattle.std.specs.Prelude.{Err, slice_get, ⊤}
use Rattle.ts_config.specs.declared.setup.Setup.{Setup}
use Rattle.ts_config.specs.declared.fields.PluginLine.{PluginLine}
use Rattle.ts_group.specs.declared.world.Asked.{Asked}
use Rattle.ts_group.specs.declared.world.Asked.TheVariants as A
use Rattle.ts_hooks.specs.declared.hook.Hook.TheVariants as h
use Rattle.ts_hooks.specs.declared.hook.HookAnswer.{HookAnswer}
use Rattle.ts_hooks.specs.declared.hook.HookAnswer.TheVariants.{Continue, Error}
use Rattle.ts_hooks.specs.declared.txn_end.TxnEnd.TheVariants as E
use Rattle.ts_wire.specs.declared.fields.Field.{Field}
use Rattle.ts_wire.specs.Check.{plugin_host}
use Rattle.ts_wire.specs.Forward.{forwarded}
use Rattle.ts_block.specs.declared.own_answer.OwnStatus.TheVariants as O
use Rattle.ts_block.specs.Own.{own_field}
use Rattle.ts_block.specs.Relayed.{asks_head}
use Rattle.ts_plugin.specs.declared.question.HookQuestion.{HookQuestion}
use Rattle.ts_plugin.specs.declared.question.HookReply.{HookReply}
use Rattle.ts_plugin.specs.declared.question.PluginFault.{PluginFault}
use Rattle.ts_plugin.specs.Asked.{question_at}
use Rattle.ts_plugin.specs.Lines.{IsNext}
use Rattle.ts_plugin.specs.Replies.{IsReplyOf}
use Rattle.ts_phases.specs.declared.phase.Next.TheVariants as N
use Rattle.ts_phases.specs.declared.phase.OwnAnswer.{OwnAnswer}
use Rattle.ts_phases.specs.declared.phase.Phase.{Phase}
use Rattle.ts_phases.specs.declared.phase.Phase.TheVariants as P
use Rattle.ts_phases.specs.declared.phase.Request.{Request}
use Rattle.ts_phases.specs.declared.phase.Step.{Step}

-- A QUESTION

-- The place among a hook's plugins of the one that is asked next in a phase, and the question to it. An
-- answer of the proxy's own has no host any more.
abbrev pub question_in : Phase → Option (ℕ × HookQuestion)
question_in (P.OsDns q place) = Some (place, question_at h.OsDns (plugin_host q.host) [])
question_in (P.RuleRequest q place fields) =
    Some (place, question_at h.SendRequestHdr (plugin_host q.host) fields)
question_in (P.RuleResponse q head place fields) =
    Some (place, question_at h.SendResponseHdr (plugin_host q.host) fields)
question_in (P.RuleAnswer a place fields) = Some (place, question_at h.SendResponseHdr [] fields)
question_in phase = None

-- While a question is open the fields stand in it: this is the phase with them.
abbrev pub asked_phase : Phase → HookQuestion → Phase
asked_phase (P.RuleRequest q place none) question = P.RuleRequest q place question.fields
asked_phase (P.RuleResponse q head place none) question = P.RuleResponse q head place question.fields
asked_phase (P.RuleAnswer a place none) question = P.RuleAnswer a place question.fields
asked_phase phase question = phase

-- plugins are asked in this phase, so that it is told what came of a question
abbrev pub AsksPlugins : Phase → Type 0
AsksPlugins (P.OsDns q place) = ⊤
AsksPlugins (P.RuleRequest q place fields) = ⊤
AsksPlugins (P.RuleResponse q head place fields) = ⊤
AsksPlugins (P.RuleAnswer a place fields) = ⊤
AsksPlugins phase = ⊥

-- The question of the phase goes to the group of the plugin whose turn it is. `at` is the group of the first
-- line.
pub record AsksFor (setup : Setup) (at : ℕ) (phase : Phase) (group : ℕ)
    (question : HookQuestion) : Type 0 where
  pub place : ℕ
  pub asked : question_in (asked_phase phase question) ≡ Some (place, question)
  pub in_turn : IsNext question.hook at setup.plugins.items place group

-- The fields of the question that an event asks: those after the plugins that have answered, or, where a hook
-- begins, those of the head before all of them. A lookup has none.
abbrev pub HasFieldsOf : Phase → List Field → Type 0
HasFieldsOf (P.OsDns q place) fields = fields ≡ []
HasFieldsOf (P.SendRequestHdr q) fields = fields ≡ forwarded q.head.fields
HasFieldsOf (P.RuleRequest q place after) fields = fields ≡ after
HasFieldsOf (P.ResponseTransform q h) fields = fields ≡ forwarded h.fields
HasFieldsOf (P.RuleResponse q h place after) fields = fields ≡ after
HasFieldsOf (P.SendResponseHdr a) fields = fields ≡ own_field ∷ []
HasFieldsOf (P.RuleAnswer a place after) fields = fields ≡ after
HasFieldsOf phase fields = ⊥

-- the group is that of a hook plugin line
pub record IsPluginGroup (setup : Setup) (at group : ℕ) : Type 0 where
  pub place : ℕ
  pub there : place < length setup.plugins.items
  pub group_is : group ≡ at + place

-- the reply is that of the line whose plugin has the group, or says that memory lacked
abbrev pub IsRightReply : Setup → ℕ → ℕ → HookQuestion → HookReply → Type 0
IsRightReply setup at group question reply =
    (place : ℕ) (line : PluginLine) → slice_get setup.plugins.items place ≡ Some line → group ≡ at + place
    → IsReplyOf line question reply

-- how many of a hook's plugins have answered in a phase
abbrev pub place_in : Phase → ℕ
place_in (P.OsDns q place) = place
place_in (P.RuleRequest q place fields) = place
place_in (P.RuleResponse q head place fields) = place
place_in (P.RuleAnswer a place fields) = place
place_in phase = 0

-- no hook has more plugins than a place counts
abbrev pub most_places : ℕ
most_places = 2 ^ 32

-- WHERE A REPLY LEADS

-- the answer to a request that a plugin refuses
abbrev pub denial_of : Request → OwnAnswer
denial_of q = record { status = O.Forbidden; to_head = asks_head q.head; end = E.Whole }

-- memory lacked
abbrev pub lacking_step : Step
lacking_step = record { phase = P.Ended E.NoMemory; next = N.Done }

-- the plugin let it go on, with these fields; in no other phase is there one
abbrev pub continued_step : Phase → List Field → Step
continued_step (P.OsDns q place) fields = record { phase = P.OsDns q (place + 1); next = N.Go }
continued_step (P.RuleRequest q place none) fields =
    record { phase = P.RuleRequest q (place + 1) fields; next = N.Go }
continued_step (P.RuleResponse q head place none) fields =
    record { phase = P.RuleResponse q head (place + 1) fields; next = N.Go }
continued_step (P.RuleAnswer a place none) fields =
    record { phase = P.RuleAnswer a (place + 1) fields; next = N.Go }
continued_step phase fields = lacking_step

-- It answered with an error: the client gets the 403 answer, but where a response is about to be sent
-- already.
abbrev pub refused_step : Phase → List Field → Step
refused_step (P.OsDns q place) fields = record { phase = P.SendResponseHdr (denial_of q); next = N.Go }
refused_step (P.RuleRequest q place none) fields =
    record { phase = P.SendResponseHdr (denial_of q); next = N.Go }
refused_step phase fields = continued_step phase fields

abbrev pub answered_step : Phase → HookAnswer → List Field → Step
answered_step phase Continue fields = continued_step phase fields
answered_step phase Error fields = refused_step phase fields

abbrev pub replied_step : Phase → Result HookAnswer PluginFault → List Field → Step
replied_step phase (Ok answer) fields = answered_step phase answer fields
replied_step phase (Err fault) fields = lacking_step

-- A reply leads on. A group that was missed is asked again later, and the fields go back into the phase.
abbrev pub told_step : Phase → Asked HookQuestion HookReply → Step
told_step phase (A.Reply reply) = replied_step phase reply.answer reply.fields
told_step phase (A.Missed seen question) = record { phase = asked_phase phase question; next = N.Wait }
told_step phase (A.NoMemory question) = lacking_step
