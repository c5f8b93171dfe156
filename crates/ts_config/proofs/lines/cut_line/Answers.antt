-- The bytes up to the first line feed are the first line.
use Rattle.std.proofs.Common.{◌≡◌, ℕ, List, ◌+◌, ◌-◌, ◌∷◌, [], length, take, drop, arith, ap, refl, sym, ◌∙◌, length-drop}
use Rattle.std.proofs.lemmas.List.{take_all}
use Rattle.ts_config.specs.Lines.{config_lines}
use Rattle.ts_config.proofs.LineCuts.{first_line, last_line}
use Rattle.ts_config.proofs.lines.cut_line.Goals as goal

pub returns-in-Some-clause-lines : goal.returns-in-Some-clause-lines
returns-in-Some-clause-lines c =
    let bytes : List ℕ = c.args.bytes.now in
    let end : ℕ = c.in-Some.end in
    let behind : List ℕ = take (length bytes - (end + 1)) (drop (end + 1) bytes) in
    let rest : behind ≡ drop (end + 1) bytes =
    take_all (length bytes - (end + 1)) (drop (end + 1) bytes)
    (omega (arith, length-drop (end + 1) bytes)) in
    first_line bytes (take end bytes) behind end (sym c.line_end.ensures.at ∙ c.in-Some.is) refl rest
    ∙ ap (λ (line : List ℕ). line ∷ config_lines behind) (sym c.less_return.ensures)

pub returns-in-None-clause-lines : goal.returns-in-None-clause-lines
returns-in-None-clause-lines c =
    last_line c.args.bytes.now (sym c.line_end.ensures.at ∙ c.in-None.is) c.requires
    ∙ ap (λ (line : List ℕ). line ∷ []) (sym c.less_return-in-None.ensures)
