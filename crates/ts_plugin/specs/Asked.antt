-- What comes of asking the plugins of some lines one after the other, in the order of the lines.
use Rattle.std.specs.Prelude.{◌≡◌, ℕ, List, Bool, true, false, fold}
use Rattle.std.specs.List.{list_any}
use Rattle.ts_wire.specs.declared.fields.Field.{Field}
use Rattle.ts_config.specs.declared.fields.Side.{Side}
use Rattle.ts_config.specs.declared.fields.PluginLine.{PluginLine}
use Rattle.ts_hooks.specs.declared.hook.Hook.{Hook}
use Rattle.ts_hooks.specs.declared.hook.Hook.TheVariants as h
use Rattle.ts_hooks.specs.declared.hook.HookAnswer.{HookAnswer}
use Rattle.ts_hooks.specs.declared.hook.HookAnswer.TheVariants.{Continue, Error}
use Rattle.ts_block.specs.Rules.{is_denied, ruled}
use Rattle.ts_plugin.specs.declared.question.HookQuestion.{HookQuestion}
use Rattle.ts_plugin.specs.Replies.{hook_of_side, answer_of, fields_of}
use Rattle.ts_plugin.specs.Lines.{lines_at}

-- a question at a hook
abbrev pub question_at : Hook → List ℕ → List Field → HookQuestion
question_at hook host fields = record { hook = hook; host = host; fields = fields }

abbrev pub is_error : HookAnswer → Bool
is_error Continue = false
is_error Error = true

-- some plugin answers a question with an error
abbrev pub some_refuses : HookQuestion → List PluginLine → Bool
some_refuses q lines = list_any (λ line. is_error (answer_of line q)) lines

-- the fields after each plugin was asked in turn, with the fields that the one before it left
abbrev pub fields_in_turn : HookQuestion → List PluginLine → List Field
fields_in_turn q lines = fold (λ fields line. fields_of line (record q { fields = fields })) q.fields lines

-- At the hook of a lookup some plugin refuses the host exactly where some line denies it.
abbrev pub RefusesDenied : Type 0
RefusesDenied = (lines : List PluginLine) (host : List ℕ) (fields : List Field)
    → some_refuses (question_at h.OsDns host fields) (lines_at h.OsDns lines)
    ≡ is_denied lines host

-- At the hook of a side the plugins make of the fields what all rules of the side make of them.
abbrev pub AppliesRules : Type 0
AppliesRules = (side : Side) (lines : List PluginLine) (host : List ℕ) (fields : List Field)
    → fields_in_turn (question_at (hook_of_side side) host fields) (lines_at (hook_of_side side) lines)
    ≡ ruled side lines fields
