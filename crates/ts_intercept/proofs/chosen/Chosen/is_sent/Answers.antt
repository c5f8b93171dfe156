-- What is held for the origin is what is held behind what it was sent.
use Rattle.std.proofs.Common.{◌≡◌, ℕ, true, false, List, [], length, drop, Option, Some, None, leb}
use Rattle.std.proofs.Common.{ap, subst, sym, arith}
use Rattle.std.specs.Prelude.{◌↔◌, IsTrue, is_some}
use Rattle.std.proofs.lemmas.Bool.{le-leb, leb-true}
use Rattle.std.proofs.lemmas.List.{drop_all, length-drop}
use Rattle.ts_intercept.specs.Uploading.{owed, owed_by}
use Rattle.ts_intercept.specs.declared.choice.Stage.{Stage}
use Rattle.ts_intercept.specs.declared.choice.Stage.TheVariants as S
use Rattle.ts_intercept.proofs.chosen.Chosen.is_sent.Goals as goal

sent_holds_none : {O : Type 0} (stage : Stage) (origin : Option O) (held : List ℕ) (sent : ℕ)
    → stage ≡ S.HandedOn → is_some origin ≡ true
    → IsTrue (leb (length held) sent) ↔ (owed_by stage origin (drop sent held) ≡ [])
sent_holds_none stage None held sent is some = absurd (let wrong : false ≡ true = some in cc)
sent_holds_none stage (Some o) held sent is some =
    subst (λ (x : Stage). IsTrue (leb (length held) sent) ↔ (owed_by x (Some o) (drop sent held) ≡ []))
    (sym is) (
      (λ few. drop_all sent held (leb-true (length held) sent few)),
      (λ none. le-leb (length held) sent (omega (arith, ap (length {A = ℕ}) none, length-drop sent held))),
    )

pub returns-else-is_none : goal.returns-else-is_none
returns-else-is_none g c =
    let choice = c.self.inside.choice in
    subst (λ d. IsTrue (leb (length c.as_slice.result.now) choice.sent) ↔ (owed d ≡ [])) c.self.view_is
    (subst (λ (held : List ℕ). IsTrue (leb (length held) choice.sent) ↔ (owed choice ≡ []))
    (sym c.as_slice.ensures.value)
    (sent_holds_none choice.stage choice.origin choice.held.items choice.sent c.in-HandedOn.is
    (let some = c.is_none.ensures in let none = c.if-is_none.false in cc)))
