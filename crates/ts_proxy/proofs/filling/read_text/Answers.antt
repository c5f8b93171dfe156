use Rattle.std.proofs.Common.{◌≡◌, refl, subst, ◌∙◌, ℕ, List, Err}
use Rattle.ts_link.specs.Shelf.{ReadsFile}
use Rattle.ts_proxy.specs.declared.answer.NamedFile.TheVariants as file
use Rattle.ts_proxy.specs.Outcome.{most_append}
use Rattle.ts_proxy.proofs.Opening.{refused-comes}
use Rattle.ts_proxy.proofs.filling.read_text.Goals as goal

pub returns-in-Err-clause-told : goal.returns-in-Err-clause-told
returns-in-Err-clause-told g c = λ tells config body next.
    let read = (g.S.Shelf.seen c.args.shelf.now).file in
    let named : c.in-Ok.name.now ≡ c.args.file = c.in-Ok.ensures.cases.0 ∙ c.bytes.ensures in
    let told : ReadsFile (read c.args.file) most_append (Err c.in-Err.fault) =
    subst (λ (n : List ℕ). ReadsFile (read n) most_append (Err c.in-Err.fault)) named
    (c.in-Err.ensures.told tells) in
    rw c.refused.ensures
    (refused-comes config body c.args.file most_append (read c.args.file) c.in-Err.fault
    (file.Appended c.args.file) next refl c.in-Err.ensures.limit told)
