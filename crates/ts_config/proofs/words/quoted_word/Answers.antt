-- A word between quotes ends at the first quote behind it.
use Rattle.std.proofs.Common.{ℕ, List, take, drop, ap, ◌∙◌, refl}
use Rattle.ts_config.proofs.Fronts.{never_closed, closed_within, closed_word}
use Rattle.ts_config.proofs.words.quoted_word.Goals as goal

pub returns-in_default : goal.returns-in_default
returns-in_default c =
    let text : List ℕ = c.args.text.now in
    never_closed text c.split_at.result.1.now (c.split_at.ensures.back
    ∙ ap (λ n. drop n text) c.count_quoted.ensures.count) c.in_default.ensures.cases

pub returns-then-not-ends_word : goal.returns-then-not-ends_word
returns-then-not-ends_word c =
    let text : List ℕ = c.args.text.now in
    closed_within text c.split_at.result.1.now (c.split_at.ensures.back
    ∙ ap (λ n. drop n text) c.count_quoted.ensures.count)
    c.in-Some.field-0-0.now c.in-Some.rest.now c.in-Some.ensures.cases.0 (λ ends. let wrong =
    c.if-not-ends_word.ensures.no ends in cc)

pub returns : goal.returns
returns c =
    let text : List ℕ = c.args.text.now in
    let word = closed_word text c.split_at.result.1.now (c.split_at.ensures.back
    ∙ ap (λ n. drop n text) c.count_quoted.ensures.count)
    c.split_at.result.0.now (c.split_at.ensures.front
    ∙ ap (λ n. take n text) c.count_quoted.ensures.count) c.in-Some.field-0-0.now c.in-Some.rest.now
    c.in-Some.ensures.cases.0 in
    (word.0, c.if-not-ends_word.ensures.yes refl, word.1)
