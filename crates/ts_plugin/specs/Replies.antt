-- What the plugin of a line replies to a question (Developer's Guide, "Hooks and Transactions").
use Rattle.std.specs.Prelude.{◌≡◌, List, ◌&&◌, if◌then◌else◌, IfOk}
use Rattle.ts_wire.specs.declared.fields.Field.{Field}
use Rattle.ts_config.specs.declared.fields.Rule.{Rule}
use Rattle.ts_config.specs.declared.fields.Side.{Side}
use Rattle.ts_config.specs.declared.fields.Side.TheVariants as S
use Rattle.ts_config.specs.declared.fields.PluginLine.{PluginLine}
use Rattle.ts_config.specs.declared.fields.PluginLine.TheVariants.{Deny, Header, SessionHeader}
use Rattle.ts_hooks.specs.declared.hook.Hook.{Hook}
use Rattle.ts_hooks.specs.declared.hook.Hook.TheVariants as h
use Rattle.ts_hooks.specs.declared.hook.HookAnswer.{HookAnswer}
use Rattle.ts_hooks.specs.declared.hook.HookAnswer.TheVariants.{Continue, Error}
use Rattle.ts_hooks.specs.Hooks.{is_same}
use Rattle.ts_block.specs.Rules.{apply_rule, is_site}
use Rattle.ts_plugin.specs.declared.question.HookQuestion.{HookQuestion}
use Rattle.ts_plugin.specs.declared.question.HookReply.{HookReply}

-- the hook at which the head of a side is about to be sent
abbrev pub hook_of_side : Side → Hook
hook_of_side S.Request = h.SendRequestHdr
hook_of_side S.Response = h.SendResponseHdr

-- the hook at which the plugin of a line stands
abbrev pub hook_of : PluginLine → Hook
hook_of (Deny sites) = h.OsDns
hook_of (Header side rule) = hook_of_side side
hook_of (SessionHeader side rule) = hook_of_side side

-- An error comes only of a deny list, at its hook, for a host that is one of its sites.
abbrev pub answer_of : PluginLine → HookQuestion → HookAnswer
answer_of (Deny sites) q = if is_same q.hook h.OsDns && is_site q.host sites then Error else Continue
answer_of (Header side rule) q = Continue
answer_of (SessionHeader side rule) q = Continue

-- A header rule is applied to the fields at the hook of its side.
abbrev pub fields_ruled : Side → Rule → HookQuestion → List Field
fields_ruled side rule q = if is_same q.hook (hook_of_side side) then apply_rule rule q.fields else q.fields

-- A deny list changes no fields; a rule of a session does what a rule of all transactions does.
abbrev pub fields_of : PluginLine → HookQuestion → List Field
fields_of (Deny sites) q = q.fields
fields_of (Header side rule) q = fields_ruled side rule q
fields_of (SessionHeader side rule) q = fields_ruled side rule q

-- The reply is the one of the line, or says that memory lacked.
abbrev pub IsReplyOf : PluginLine → HookQuestion → HookReply → Type 0
IsReplyOf line q r = IfOk r.answer (λ answer. (answer ≡ answer_of line q) × (r.fields ≡ fields_of line q))
