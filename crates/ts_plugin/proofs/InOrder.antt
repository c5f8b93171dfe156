-- Where lines stand in the order in which they act, a hook's list has their plugins in this order.
use Rattle.std.proofs.Common.{◌≡◌, ◌∙◌, ◌+◌, ◌++◌, ℕ, List, [], ◌∷◌, Bool, true, false, ap, refl, sym, cond, append-nil}
use Rattle.std.specs.Prelude.{All, map, not}
use Rattle.std.specs.List.{filter}
use Rattle.std.proofs.lemmas.List.Elements.{All-head, filter-append, filter_passes}
use Rattle.ts_config.specs.declared.fields.PluginLine.{PluginLine}
use Rattle.ts_config.specs.declared.fields.PluginLine.TheVariants.{Deny, Header, SessionHeader}
use Rattle.ts_config.specs.Setup.{acting_plugins, is_session}
use Rattle.ts_hooks.specs.declared.hook.Hook.{Hook}
use Rattle.ts_hooks.specs.Hooks.{is_same, plugins_at, hook_list}
use Rattle.ts_plugin.specs.Replies.{hook_of}
use Rattle.ts_plugin.specs.Lines.{AreOrdered, hooks_where, table_of}

-- each line's hook with the group of its plugin; the first line's has this number, and each line's the next
abbrev pub hooks_from : ℕ → List PluginLine → List (Hook × ℕ)
hooks_from first lines = hooks_where (λ line. true) first lines

-- the line is asked by all transactions
abbrev is_global : PluginLine → Bool
is_global line = not (is_session line)

-- ---- lines of sessions alone

-- lines that are all global, and behind which a session's line is the first, are none
none_before : (globals behind more : List PluginLine) (line : PluginLine) → is_global line ≡ false
    → All (λ l. is_global l ≡ true) globals → globals ++ behind ≡ line ∷ more → globals ≡ []
none_before [] behind more line session global is = refl
none_before (g ∷ globals) behind more line session global is =
    let same : g ≡ line = cc in
    let wrong : true ≡ false =
    sym (All-head (λ l. is_global l ≡ true) g globals global) ∙ ap is_global same ∙ session in
    absurd (cc)

-- where no line is global, the table has none for all transactions, and each line in its place
sessions_alone : (first : ℕ) (lines : List PluginLine) → filter is_global lines ≡ []
    → (hooks_where is_global first lines ≡ []) × (hooks_where is_session first lines ≡ hooks_from first lines)
sessions_alone first [] none = (refl, refl)
sessions_alone first (Deny sites ∷ lines) none = absurd (cc)
sessions_alone first (Header side rule ∷ lines) none = absurd (cc)
sessions_alone first (SessionHeader side rule ∷ lines) none =
    let (global, session) = sessions_alone (first + 1) lines none in
    (global, ap (λ hooks. (hook_of (SessionHeader side rule), first) ∷ hooks) session)

-- ---- lines in the order in which they act

-- one plugin more in front of both
one_more : (hook at : Hook) (group : ℕ) (globals all : List (Hook × ℕ)) (sessions : List ℕ)
    → plugins_at hook globals ++ sessions ≡ plugins_at hook all
    → plugins_at hook ((at, group) ∷ globals) ++ sessions ≡ plugins_at hook ((at, group) ∷ all)
one_more hook at group globals all sessions is = by_same (is_same at hook)
  where
    at_hook : List (Hook × ℕ) → List (Hook × ℕ)
    at_hook plugins = filter (λ (p : Hook × ℕ). is_same p.0 hook) plugins

    by_same : (b : Bool)
        → map (λ (p : Hook × ℕ). p.1) (cond b ((at, group) ∷ at_hook globals) (at_hook globals)) ++ sessions
        ≡ map (λ (p : Hook × ℕ). p.1) (cond b ((at, group) ∷ at_hook all) (at_hook all))
    by_same true = ap (λ groups. group ∷ groups) is
    by_same false = is

-- the global plugins of a hook and then the session's are those of all lines, in their order
in_order : (hook : Hook) (first : ℕ) (lines : List PluginLine) → AreOrdered lines
    → plugins_at hook (hooks_where is_global first lines) ++ plugins_at hook (hooks_where is_session first lines)
    ≡ plugins_at hook (hooks_from first lines)
in_order hook first [] ordered = refl
in_order hook first (Deny sites ∷ lines) ordered =
    let behind : AreOrdered lines = cc in
    one_more hook (hook_of (Deny sites)) first (hooks_where is_global (first + 1) lines)
    (hooks_from (first + 1) lines) (plugins_at hook (hooks_where is_session (first + 1) lines))
    (in_order hook (first + 1) lines behind)
in_order hook first (Header side rule ∷ lines) ordered =
    let behind : AreOrdered lines = cc in
    one_more hook (hook_of (Header side rule)) first (hooks_where is_global (first + 1) lines)
    (hooks_from (first + 1) lines) (plugins_at hook (hooks_where is_session (first + 1) lines))
    (in_order hook (first + 1) lines behind)
in_order hook first (SessionHeader side rule ∷ lines) ordered =
    let line : PluginLine = SessionHeader side rule in
    let none : filter is_global lines ≡ [] =
    none_before (filter is_global lines) (line ∷ filter is_session lines) lines line refl
    (filter_passes is_global lines) ordered in
    let (global, session) = sessions_alone (first + 1) lines none in
    ap (λ hooks. plugins_at hook hooks
    ++ plugins_at hook ((hook_of line, first) ∷ hooks_where is_session (first + 1) lines)) global
    ∙ ap (λ hooks. plugins_at hook ((hook_of line, first) ∷ hooks)) session

-- a hook's list is that of all lines, in their order; no plugin is asked by one transaction alone
pub all_groups : (hook : Hook) (first : ℕ) (lines : List PluginLine) → AreOrdered lines
    → hook_list (table_of first lines) hook ≡ plugins_at hook (hooks_from first lines)
all_groups hook first lines ordered =
    ap (λ sessions. plugins_at hook (hooks_where is_global first lines) ++ sessions)
    (append-nil (plugins_at hook (hooks_where is_session first lines)))
    ∙ in_order hook first lines ordered

-- ---- the lines that act stand in that order

globals_twice : (lines : List PluginLine) → filter is_global (filter is_global lines) ≡ filter is_global lines
globals_twice [] = refl
globals_twice (Deny sites ∷ lines) = ap (λ ls. Deny sites ∷ ls) (globals_twice lines)
globals_twice (Header side rule ∷ lines) = ap (λ ls. Header side rule ∷ ls) (globals_twice lines)
globals_twice (SessionHeader side rule ∷ lines) = globals_twice lines

sessions_twice : (lines : List PluginLine)
    → filter is_session (filter is_session lines) ≡ filter is_session lines
sessions_twice [] = refl
sessions_twice (Deny sites ∷ lines) = sessions_twice lines
sessions_twice (Header side rule ∷ lines) = sessions_twice lines
sessions_twice (SessionHeader side rule ∷ lines) =
    ap (λ ls. SessionHeader side rule ∷ ls) (sessions_twice lines)

no_session : (lines : List PluginLine) → filter is_session (filter is_global lines) ≡ []
no_session [] = refl
no_session (Deny sites ∷ lines) = no_session lines
no_session (Header side rule ∷ lines) = no_session lines
no_session (SessionHeader side rule ∷ lines) = no_session lines

no_global : (lines : List PluginLine) → filter is_global (filter is_session lines) ≡ []
no_global [] = refl
no_global (Deny sites ∷ lines) = no_global lines
no_global (Header side rule ∷ lines) = no_global lines
no_global (SessionHeader side rule ∷ lines) = no_global lines

-- global lines, and then those of sessions, act in this order
ordered_by : (globals sessions : List PluginLine) → filter is_global globals ≡ globals
    → filter is_session globals ≡ [] → filter is_global sessions ≡ [] → filter is_session sessions ≡ sessions
    → AreOrdered (globals ++ sessions)
ordered_by globals sessions global none other session =
    ap (λ gs. gs ++ filter is_session (globals ++ sessions))
    (filter-append is_global globals sessions
    ∙ ap (λ gs. gs ++ filter is_global sessions) global ∙ ap (λ ss. globals ++ ss) other
    ∙ append-nil globals)
    ∙ ap (λ ss. globals ++ ss)
    (filter-append is_session globals sessions ∙ ap (λ gs. gs ++ filter is_session sessions) none ∙ session)

-- the lines that act, with sessions or without, stand in the order in which they act
pub acting_ordered : (sessions : Bool) (lines : List PluginLine) → AreOrdered (acting_plugins sessions lines)
acting_ordered true lines =
    ordered_by (filter is_global lines) (filter is_session lines) (globals_twice lines) (no_session lines)
    (no_global lines) (sessions_twice lines)
acting_ordered false lines =
    ordered_by (filter is_global lines) [] (globals_twice lines) (no_session lines) refl refl
