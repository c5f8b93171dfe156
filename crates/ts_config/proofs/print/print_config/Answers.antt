-- What is printed is read back.
use Rattle.std.proofs.Common.{◌≡◌, ◌++◌, ℕ, List, ap, sym, ◌∙◌, subst}
use Rattle.std.specs.Prelude.{flat_map}
use Rattle.ts_config.specs.Printing.{printed, printed_line, printed_request, printed_intercept, printed_plugin, printed_tap}
use Rattle.ts_config.specs.Reading.{IsConfiguration}
use Rattle.ts_config.specs.Setup.{lines_of, untexted_lines}
use Rattle.ts_config.proofs.ReadBack.{come_again}
use Rattle.ts_config.proofs.print.print_config.Goals as goal

pub returns-clause-again : goal.returns-clause-again
returns-clause-again c =
    let lines = lines_of c.args.setup.now in
    let transforms : List ℕ = flat_map printed_line lines.transforms in
    let requests : List ℕ = transforms ++ flat_map printed_request lines.requests in
    let intercepts : List ℕ = requests ++ flat_map printed_intercept lines.intercepts in
    let plugins : List ℕ = intercepts ++ flat_map printed_plugin lines.plugins in
    let first : c.print_lines.new.out.items ≡ transforms =
    c.in_ok-print_lines.ensures
    ∙ ap (λ (front : List ℕ). front ++ flat_map printed_line c.as_slice.result.now) c.new-out.ensures.items
    ∙ ap (flat_map printed_line) c.as_slice.ensures.value in
    let second : c.print_requests.new.out.items ≡ requests =
    c.in_ok-print_requests.ensures
    ∙ ap (λ (front : List ℕ). front ++ flat_map printed_request c.as_slice-2.result.now) first
    ∙ ap (λ ls. transforms ++ flat_map printed_request ls) c.as_slice-2.ensures.value in
    let third : c.print_intercepts.new.out.items ≡ intercepts =
    c.in_ok-print_intercepts.ensures
    ∙ ap (λ (front : List ℕ). front ++ flat_map printed_intercept c.as_slice-3.result.now) second
    ∙ ap (λ ls. requests ++ flat_map printed_intercept ls) c.as_slice-3.ensures.value in
    let fourth : c.print_plugins.new.out.items ≡ plugins =
    c.in_ok-print_plugins.ensures
    ∙ ap (λ (front : List ℕ). front ++ flat_map printed_plugin c.as_slice-4.result.now) third
    ∙ ap (λ ls. intercepts ++ flat_map printed_plugin ls) c.as_slice-4.ensures.value in
    let text : c.of_vec.result ≡ printed lines =
    c.of_vec.ensures ∙ c.in_ok-print_tap.ensures
    ∙ ap (λ (front : List ℕ). front ++ flat_map printed_tap lines.taps) fourth in
    subst (λ (bytes : List ℕ). IsConfiguration bytes (untexted_lines lines)) (sym text)
    (come_again lines c.requires)
