-- The lines that act, in the order in which they act: they are few and plain as all lines are.
use Rattle.std.proofs.Common.{◌≡◌, ◌≤◌, ℕ, Bool, true, false, List, length, not, sym, ap, subst, arith, refl}
use Rattle.std.proofs.Common.{append-nil}
use Rattle.std.specs.List.{All, filter}
use Rattle.std.proofs.lemmas.List.{length-append}
use Rattle.std.proofs.lemmas.List.Elements.{All-append, All-filter}
use Rattle.std.proofs.lemmas.List.Filters.{length-filter_both}
use Rattle.ts_config.specs.Reading.{AreFew, IsConfiguration}
use Rattle.ts_config.specs.Rules.{HasPlainRule}
use Rattle.ts_config.specs.Setup.{ConfigLines, acting_plugins, in_order, is_session, lines_of}
use Rattle.ts_config.specs.declared.fields.PluginLine.{PluginLine}
use Rattle.ts_config.specs.declared.setup.Setup.{Setup}
use Rattle.ts_plugin.proofs.InOrder.{acting_ordered}
use Rattle.ts_proxy.proofs.FilledLines.{few-same}
use Rattle.ts_proxy.specs.Answers.{KeepsLines}
use Rattle.ts_replay.specs.Recorded.{HasPlainLines}

abbrev is_global : PluginLine → Bool
is_global line = not (is_session line)

-- they are no more than all
acting_few : (sessions : Bool) (lines : List PluginLine)
    → length (acting_plugins sessions lines) ≤ length lines
acting_few true lines =
    omega (
      arith,
      length-append (filter is_global lines) (filter is_session lines),
      length-filter_both is_session is_global (λ line. refl) lines,
    )
acting_few false lines =
    let none : length (acting_plugins false lines) ≡ length (filter is_global lines) =
    ap length (append-nil (filter is_global lines)) in
    omega (arith, none, length-filter_both is_session is_global (λ line. refl) lines)

-- and their rules are those of the text
acting_plain : (sessions : Bool) (lines : List PluginLine) → All HasPlainRule lines
    → All HasPlainRule (acting_plugins sessions lines)
acting_plain true lines plain =
    All-append HasPlainRule (filter is_global lines) (filter is_session lines)
    (All-filter is_global HasPlainRule lines plain) (All-filter is_session HasPlainRule lines plain)
acting_plain false lines plain =
    subst (All HasPlainRule) (sym (append-nil (filter is_global lines)))
    (All-filter is_global HasPlainRule lines plain)

-- WHAT ACTS OF LINES THAT WERE READ AND FILLED is few and plain, and stands in its order.
pub plain_acting : (sessions : Bool) (bytes : List ℕ) (read filled acts : Setup)
    → IsConfiguration bytes (lines_of read) → All HasPlainRule read.plugins.items → KeepsLines read filled
    → lines_of acts ≡ in_order sessions (lines_of filled) → HasPlainLines acts
plain_acting sessions bytes read filled acts is rules kept same =
    let few : AreFew (lines_of filled) =
    few-same (lines_of read) (lines_of filled) kept.lines (subst AreFew (sym is.lines_are) is.read.few) in
    let plain : All HasPlainRule filled.plugins.items =
    subst (All HasPlainRule) (sym (ap (λ (ls : ConfigLines). ls.plugins) kept.lines)) rules in
    let ordered : AreFew (in_order sessions (lines_of filled)) = record {
      transforms = few.transforms;
      requests = few.requests;
      intercepts = few.intercepts;
      plugins = omega (arith, few.plugins, acting_few sessions filled.plugins.items);
      taps = few.taps;
    } in
    let plugins : acts.plugins.items ≡ acting_plugins sessions filled.plugins.items =
    ap (λ (ls : ConfigLines). ls.plugins) same in
    record {
      few = subst AreFew (sym same) ordered;
      plain = subst (All HasPlainRule) (sym plugins) (acting_plain sessions filled.plugins.items plain);
      ordered = subst (λ ps. acting_plugins true ps ≡ ps) (sym plugins)
          (acting_ordered sessions filled.plugins.items);
    }
