-- The text of a flag that is there is `true`, and of one that is not `false`.
use Rattle.std.proofs.Common.{◌∙◌, ap, codes, sym}
use Rattle.std.specs.Str.{bytes_eq}
use Rattle.clap.specs.Matches.{found_of}
use Rattle.ts_words.proofs.Asked.{no_text, text_is}
use Rattle.ts_words.proofs.serve.flag_in.Goals as goal

pub returns-in-Some : goal.returns-in-Some
returns-in-Some c =
    let is = text_is (found_of c.args.matches.now) c.args.name.now c.in-Some.text.now c.in-Some.ensures in
    c.eq.ensures ∙ ap (λ t. bytes_eq t (codes "true")) is

pub returns-in-None : goal.returns-in-None
returns-in-None c =
    let none = no_text (found_of c.args.matches.now) c.args.name.now c.in-None.ensures in
    ap (λ t. bytes_eq t (codes "true")) (sym none)
