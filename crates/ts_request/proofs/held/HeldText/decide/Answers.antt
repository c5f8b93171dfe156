-- What was found of the held bytes decides; the head of an upload is stripped in its room.
use Rattle.std.proofs.Common.{◌≡◌, ◌<◌, ◌≤◌, length, ap, subst, sym, refl, take, drop, ◌∙◌, arith}
use Rattle.std.specs.List.{slice_range}
use Rattle.std.specs.Vec.{with_items}
use Rattle.std.proofs.lemmas.List.{with_items_is}
use Rattle.httparse.specs.Grammar.{HasNoRequest}
use Rattle.ts_wire.specs.Limits.{head_limit}
use Rattle.ts_request.specs.Finding.{IsFound}
use Rattle.ts_request.specs.Lines.{kept_lines}
use Rattle.ts_request.specs.Text.{Decides, Text}
use Rattle.ts_request.specs.Upload.{HasUpload}
use Rattle.ts_request.specs.declared.finding.Found.TheVariants as F
use Rattle.ts_request.specs.declared.stage.Stage.TheVariants as S
use Rattle.ts_request.proofs.HeldBytes.{stripped}
use Rattle.ts_request.proofs.held.HeldText.decide.Goals as goal

pub returns-then-not-may_end : goal.returns-then-not-may_end
returns-then-not-may_end c =
    let now = c.args.self.now in
    let quiet = c.may_end.ensures c.if-not-may_end.true in
    subst (λ s. Decides now now s) (sym c.requires.heading) (
      refl,
      quiet.none c.requires.none,
      quiet.short,
    )

pub returns-in-More : goal.returns-in-More
returns-in-More c =
    let now = c.args.self.now in
    let front : take c.self.inside.kept c.deref.result.now ≡ now.front =
    ap (take c.self.inside.kept) c.deref.ensures.value ∙ ap (λ (u : Text). u.front) c.self.view_is in
    subst (λ s. Decides now now s) (sym c.requires.heading) (
      refl,
      subst HasNoRequest front c.in-More.ensures.0,
      subst (λ b. length b < head_limit) front c.in-More.ensures.1,
    )

pub returns-in-Upload : goal.returns-in-Upload
returns-in-Upload c =
    let x = c.self.inside in
    let used = c.in-Upload.used in
    let framing = c.in-Upload.framing in
    let short = c.keep_lines-self-inside.result in
    let new = c.keep_lines-self-inside.new.room in
    let was : c.deref_mut.result.now ≡ x.room.items = c.deref_mut.ensures.value in
    let same : (with_items x.room new).items ≡ new =
    with_items_is x.room new (c.keep_lines-self-inside.auto.room ∙ c.deref_mut.ensures.len) in
    let found : IsFound (take x.kept x.room.items) (F.Upload framing used) =
    subst (λ r. IsFound (take x.kept r) (F.Upload framing used)) c.deref.ensures.value c.in-Upload.ensures in
    let within : x.kept ≤ length x.room.items = omega (arith, c.self.invariant.0, c.self.invariant.1) in
    let front : take short new ≡ kept_lines (take used x.room.items) =
    c.keep_lines-self-inside.ensures.kept ∙ ap (λ r. kept_lines (take used r)) was in
    let behind : drop used new ≡ drop used x.room.items =
    c.keep_lines-self-inside.ensures.behind ∙ ap (drop used) was in
    let s = stripped x.room.items new x.kept used short framing within found front behind in
    let shown : x.shown ≡ 0 = ap (λ (u : Text). u.shown) c.self.view_is ∙ c.requires.shown in
    let has : HasUpload (take x.kept x.room.items) s.0 framing
    (slice_range (with_items x.room new).items used x.kept) =
    subst (λ r. HasUpload (take x.kept x.room.items) s.0 framing (slice_range r used x.kept))
    (sym same) s.1 in (
      s.0,
      subst (λ f. HasUpload f s.0 framing (slice_range (with_items x.room new).items used x.kept))
          (ap (λ (u : Text). u.front) c.self.view_is) has,
      λ i. record {
        stage = S.Uploading framing;
        front = (ap (take short) same ∙ s.2) i;
        shown = shown i;
        used = s.3 i;
        behind = slice_range (with_items x.room new).items used x.kept;
      },
    )
