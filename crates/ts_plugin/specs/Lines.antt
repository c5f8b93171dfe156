-- Which plugins are asked at a hook, and in which order: those of the lines that stand there, in the order of
-- the lines (Developer's Guide, "Hooks and Transactions").
use Rattle.std.specs.Prelude.{◌≡◌, ℕ, ◌+◌, List, [], ◌∷◌, Bool, true, not, Some, drop, slice_get, if◌then◌else◌}
use Rattle.std.specs.List.{filter}
use Rattle.ts_config.specs.declared.fields.PluginLine.{PluginLine}
use Rattle.ts_config.specs.Setup.{acting_plugins, is_session}
use Rattle.ts_hooks.specs.declared.hook.Hook.{Hook}
use Rattle.ts_hooks.specs.Hooks.{HookPlugins, hook_list, is_same}
use Rattle.ts_plugin.specs.Replies.{hook_of}

-- the hooks of those lines that pass a test, each with the group of its plugin; the first line's has this
-- number, and each line's the next
abbrev pub hooks_where : (PluginLine → Bool) → ℕ → List PluginLine → List (Hook × ℕ)
hooks_where test group [] = []
hooks_where test group (line ∷ lines) =
    if test line then (hook_of line, group) ∷ hooks_where test (group + 1) lines
    else hooks_where test (group + 1) lines

-- the table of the plugins that each transaction asks: those of a session's lines are the session's, and
-- those of all others are asked by all transactions
abbrev pub table_of : ℕ → List PluginLine → HookPlugins
table_of first lines = record {
  global = hooks_where (λ line. not (is_session line)) first lines;
  session = hooks_where is_session first lines;
  txn = [];
}

-- the lines stand in the order in which they act: no line of all transactions stands behind a session's
abbrev pub AreOrdered : List PluginLine → Type 0
AreOrdered lines = acting_plugins true lines ≡ lines

-- a table is that of these lines, which stand in the order in which they act
pub record IsTableOf (first : ℕ) (lines : List PluginLine) (table : HookPlugins) : Type 0 where
  pub table_is : table ≡ table_of first lines
  pub ordered : AreOrdered lines

-- the lines whose plugins stand at a hook
abbrev pub lines_at : Hook → List PluginLine → List PluginLine
lines_at hook lines = filter (λ line. is_same (hook_of line) hook) lines

-- those of them that are still to be asked once so many of the hook's plugins have answered
abbrev pub lines_left : Hook → ℕ → List PluginLine → List PluginLine
lines_left hook place lines = drop place (lines_at hook lines)

-- The plugin of this group is asked next at the hook, where so many have answered: it stands at that place of
-- the hook's list, and its line is the first of those that are left. Groups are counted as in a table that
-- begins with `first`.
pub record IsNext (hook : Hook) (first : ℕ) (lines : List PluginLine) (place group : ℕ) : Type 0 where
  pub listed : slice_get (hook_list (table_of first lines) hook) place ≡ Some group
  pub number : ℕ
  pub line : PluginLine
  pub group_is : group ≡ first + number
  pub there : slice_get lines number ≡ Some line
  pub stands : is_same (hook_of line) hook ≡ true
  pub left : lines_left hook place lines ≡ line ∷ lines_left hook (place + 1) lines
