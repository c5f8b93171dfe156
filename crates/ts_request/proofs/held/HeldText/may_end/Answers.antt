-- No head ends among empty lines ahead of it, nor within bytes that have no line feed.
use Rattle.std.proofs.Common.{◌≡◌, ◌∙◌, ◌-◌, ◌+◌, ℕ, List, ap, arith, drop, false, length, subst, sym, take}
use Rattle.std.specs.List.{list_any}
use Rattle.std.specs.Prelude.{◌==◌}
use Rattle.std.proofs.lemmas.List.{drop-take, length-take}
use Rattle.httparse.specs.Ascii.{line_feed}
use Rattle.ts_request.specs.Lines.{AreBlank}
use Rattle.ts_request.specs.Text.{CannotEnd, Text}
use Rattle.ts_request.proofs.EmptyLines.{blank_none}
use Rattle.ts_request.proofs.LineEnds.{still_none}
use Rattle.ts_request.proofs.held.HeldText.may_end.Goals as goal

pub returns-then-self : goal.returns-then-self
returns-then-self c none =
    let x = c.self.inside in
    let held : List ℕ = take x.kept x.room.items in
    let long : length held ≡ x.kept =
    omega (arith, length-take x.kept x.room.items, c.self.invariant.0, c.self.invariant.1) in
    let blank : AreBlank held =
    subst (λ n. AreBlank (take n x.room.items)) c.if-self.true c.self.invariant.5 in
    subst (CannotEnd c.args.fresh) (ap (λ (u : Text). u.front) c.self.view_is) (record {
      short = omega (arith, long, c.if-self-eq-MAX_HEAD.false, c.self.invariant.0, c.self.invariant.1);
      none = λ before. blank_none held blank;
    })

pub returns : goal.returns
returns c none =
    let x = c.self.inside in
    let at : ℕ = x.kept - c.args.fresh in
    let more : ℕ = x.kept - at in
    let held : List ℕ = take x.kept x.room.items in
    let long : length held ≡ x.kept =
    omega (arith, length-take x.kept x.room.items, c.self.invariant.0, c.self.invariant.1) in
    let parts : x.kept ≡ at + more = omega arith in
    let same : drop (length held - c.args.fresh) held ≡ take more (drop at c.deref.result.now) =
    ap (λ n. drop (n - c.args.fresh) held) long ∙ ap (λ k. drop at (take k x.room.items)) parts
    ∙ drop-take at more x.room.items ∙ ap (λ l. take more (drop at l)) (sym c.deref.ensures.value) in
    let quiet : list_any (λ b. b == line_feed) (drop (length held - c.args.fresh) held) ≡ false =
    ap (list_any (λ b. b == line_feed)) same ∙ sym c.contains.ensures.value ∙ none in
    subst (CannotEnd c.args.fresh) (ap (λ (u : Text). u.front) c.self.view_is) (record {
      short = omega (arith, long, c.if-self-eq-MAX_HEAD.false, c.self.invariant.0, c.self.invariant.1);
      none = still_none held c.args.fresh quiet;
    })
