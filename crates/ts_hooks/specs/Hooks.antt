-- Which plugins a transaction asks at a hook, and in which order (Developer's Guide, "Hooks and
-- Transactions").
use Rattle.std.specs.Prelude.{◌≡◌, ℕ, ◌==◌, ◌+◌, Bool, List, [], ◌∷◌, ◌++◌, length, map, slice_get, Some, Result, Ok, Err}
use Rattle.std.specs.List.{filter}
use Rattle.ts_hooks.specs.declared.hook.Hook.{Hook}
use Rattle.ts_hooks.specs.declared.hook.Hook.TheVariants as h

-- plugins with their hooks, in the order in which they were added: those of all transactions, those of the
-- session, which is the connection that a transaction came on, and those of one transaction
pub record HookPlugins : Type 0 where
  pub global : List (Hook × ℕ)
  pub session : List (Hook × ℕ)
  pub txn : List (Hook × ℕ)

-- one plugin more of all transactions, of the session, or of one transaction
abbrev pub with_global : HookPlugins → Hook → ℕ → HookPlugins
with_global table hook plugin = record table { global = table.global ++ (hook, plugin) ∷ [] }

abbrev pub with_session : HookPlugins → Hook → ℕ → HookPlugins
with_session table hook plugin = record table { session = table.session ++ (hook, plugin) ∷ [] }

abbrev pub with_txn : HookPlugins → Hook → ℕ → HookPlugins
with_txn table hook plugin = record table { txn = table.txn ++ (hook, plugin) ∷ [] }

-- the place of a hook among all hooks, in the order in which a transaction comes to them
abbrev pub order_of : Hook → ℕ
order_of h.TxnStart = 0
order_of h.ReadRequestHdr = 1
order_of h.OsDns = 2
order_of h.SendRequestHdr = 3
order_of h.ReadResponseHdr = 4
order_of h.ResponseTransform = 5
order_of h.SendResponseHdr = 6
order_of h.TxnClose = 7

abbrev pub is_same : Hook → Hook → Bool
is_same a b = order_of a == order_of b

-- of these plugins those of one hook, in their order
abbrev pub plugins_at : Hook → List (Hook × ℕ) → List ℕ
plugins_at hook plugins = map (λ p. p.1) (filter (λ p. is_same p.0 hook) plugins)

-- a hook's list: the plugins of all transactions in the order of adding, then the session's, and then those
-- of this transaction
abbrev pub hook_list : HookPlugins → Hook → List ℕ
hook_list table hook =
    plugins_at hook table.global ++ (plugins_at hook table.session ++ plugins_at hook table.txn)

-- the plugin at a place of a list, or by how many the place is past the list
abbrev pub Finds : List ℕ → ℕ → Result ℕ ℕ → Type 0
Finds plugins place (Ok plugin) = slice_get plugins place ≡ Some plugin
Finds plugins place (Err left) = place ≡ length plugins + left
