-- What holds of the plugin of a line in its group, and of which line its tag speaks.
use Rattle.std.specs.Prelude.{◌≡◌, [], ◌∷◌, refl}
use Rattle.std.proofs.Common.{subst, sym}
use Rattle.ts_journal.specs.State.{State, IsLive}
use Rattle.ts_group.specs.Context.{AllPlain, own_key}
use Rattle.ts_plugin.specs.declared.plugin.Plugin.{Plugin}
use Rattle.ts_plugin.specs.declared.plugin.PluginTag.{PluginTag}

-- Its own continuation, by which it is asked, is the only one: it makes none. No event is periodic.
pub record OnlyAnswers (s : State) : Type 0 where
  pub only : s.live ≡ own_key ∷ []
  pub plain : AllPlain s.pending

-- so its own continuation is live
pub own_lives : (s : State) → OnlyAnswers s → IsLive s.live own_key
own_lives s answers = subst (λ live. IsLive live own_key) (sym answers.only) refl

-- the plugin is that of the line that the tag names
abbrev pub IsPluginOf : PluginTag → Plugin → Type 0
IsPluginOf tag p = p.line ≡ tag.line.value
