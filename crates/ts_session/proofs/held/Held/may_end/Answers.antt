-- No head ends among empty lines ahead of it, nor within bytes that have no line feed.
use Rattle.std.proofs.Common.{◌≡◌, ◌∙◌, ◌-◌, ◌+◌, ◌≤◌, ℕ, List, ap, arith, drop, false, length, subst, sym}
use Rattle.std.proofs.Common.{take}
use Rattle.std.specs.List.{list_any, slice_range}
use Rattle.std.specs.Prelude.{◌==◌}
use Rattle.httparse.specs.Ascii.{line_feed}
use Rattle.ts_session.specs.Held.{AreBlank, CannotEnd}
use Rattle.ts_session.proofs.EmptyLines.{blank_lacks}
use Rattle.ts_session.proofs.HeldBytes.{drop_slice, slice_long}
use Rattle.ts_session.proofs.LineEnds.{still_lacks}
use Rattle.ts_session.proofs.held.Held.may_end.Goals as goal

pub returns-then-self-len : goal.returns-then-self-len
returns-then-self-len c none =
    let x = c.self.inside in
    let held : List ℕ = slice_range x.room.items x.from x.to in
    let long : length held ≡ x.to - x.from =
    slice_long x.room.items x.from x.to (omega (arith, c.self.invariant.0, c.self.invariant.2)) in
    let blank : AreBlank held =
    subst (λ n. AreBlank (take n (drop x.from x.room.items))) c.if-self-len.true c.self.invariant.4 in
    subst (CannotEnd c.args.fresh) c.self.view_is (record {
      short = omega (arith, long, c.if-len-eq-MAX_HEAD.false, c.self.invariant.1, c.self.invariant.2);
      lacks = λ before. blank_lacks held blank;
    })

pub returns : goal.returns
returns c none =
    let x = c.self.inside in
    let held : List ℕ = slice_range x.room.items x.from x.to in
    let long : length held ≡ x.to - x.from =
    slice_long x.room.items x.from x.to (omega (arith, c.self.invariant.0, c.self.invariant.2)) in
    let short : c.args.fresh ≤ length held = subst (λ l. c.args.fresh ≤ length l) (sym c.self.view_is) c.requires in
    let at : ℕ = length held - c.args.fresh in
    let place : x.from + at ≡ x.to - c.args.fresh = omega (arith, long, short, c.self.invariant.1) in
    let same : drop at held ≡ slice_range c.deref.result.now (x.to - c.args.fresh) x.to =
    drop_slice x.room.items x.from x.to at (omega (arith, long))
    ∙ ap (λ k. slice_range x.room.items k x.to) place
    ∙ ap (λ r. slice_range r (x.to - c.args.fresh) x.to) (sym c.deref.ensures.value) in
    let quiet : list_any (λ b. b == line_feed) (drop at held) ≡ false =
    ap (list_any (λ b. b == line_feed)) same ∙ sym c.contains.ensures.value ∙ none in
    subst (CannotEnd c.args.fresh) c.self.view_is (record {
      short = omega (arith, long, c.if-len-eq-MAX_HEAD.false, c.self.invariant.1, c.self.invariant.2);
      lacks = still_lacks held c.args.fresh quiet;
    })
