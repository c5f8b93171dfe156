-- A line begins with its blanks.
use Rattle.std.proofs.Common.{ℕ, List, ◌∷◌, arith, take, drop, ap, sym, ◌∙◌, subst}
use Rattle.ts_config.specs.Words.{EndsLine}
use Rattle.ts_config.proofs.Fronts.{EndsLine-empty, end-found, plain-found, quoted-found}
use Rattle.ts_config.proofs.words.next_word.Goals as goal

pub returns-in_default : goal.returns-in_default
returns-in_default c =
    let line : List ℕ = c.args.line.now in
    end-found line c.split_at.result.1.now (c.split_at.ensures.back
    ∙ ap (λ n. drop n line) c.count_blanks.ensures.count)
    (EndsLine-empty c.split_at.result.1.now c.in_default.ensures.cases)

pub returns-in-35 : goal.returns-in-35
returns-in-35 c =
    let line : List ℕ = c.args.line.now in
    end-found line c.split_at.result.1.now (c.split_at.ensures.back
    ∙ ap (λ n. drop n line) c.count_blanks.ensures.count)
    (subst EndsLine (sym c.in-Some.ensures.cases.0) c.in-35.is)

pub returns-in-34 : goal.returns-in-34
returns-in-34 c =
    let line : List ℕ = c.args.line.now in
    quoted-found line c.split_at.result.1.now (c.split_at.ensures.back
    ∙ ap (λ n. drop n line) c.count_blanks.ensures.count)
    c.in-Some.behind.now c.quoted_word.result (c.in-Some.ensures.cases.0
    ∙ ap (λ (b : ℕ). b ∷ c.in-Some.behind.now) c.in-34.is) c.quoted_word.ensures

pub returns-in_default-first : goal.returns-in_default-first
returns-in_default-first c =
    let line : List ℕ = c.args.line.now in
    let text : List ℕ = c.split_at.result.1.now in
    plain-found line text (c.split_at.ensures.back ∙ ap (λ n. drop n line) c.count_blanks.ensures.count)
    c.in-Some.first.now c.in-Some.behind.now c.split_at-in_default-first.result.0.now
    c.split_at-in_default-first.result.1.now c.in-Some.ensures.cases.0 (λ e. omega (arith, e))
    (λ e. omega (arith, e))
    (c.split_at-in_default-first.ensures.front ∙ ap (λ n. take n text) c.count_plain.ensures.count)
    (c.split_at-in_default-first.ensures.back ∙ ap (λ n. drop n text) c.count_plain.ensures.count)
