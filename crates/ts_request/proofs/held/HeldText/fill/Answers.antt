-- What came stands behind what was held, whose empty lines are as they were.
use Rattle.std.proofs.Common.{◌≡◌, ◌≤◌, ◌+◌, ◌++◌, ℕ, List, [], length, ap, subst, sym, take, ◌∙◌, arith}
use Rattle.std.specs.List.{slice_range}
use Rattle.ts_link.specs.LinkAnswers.{count_got}
use Rattle.ts_request.specs.Lines.{AreBlank}
use Rattle.ts_request.specs.Text.{Text}
use Rattle.ts_request.proofs.EmptyLines.{blank_begun, blank_stays}
use Rattle.ts_request.proofs.HeldBytes.{front_more, no_slice}
use Rattle.ts_request.proofs.held.HeldText.fill.Goals as goal

pub blank_len-self-inside-requires-clause-blank : goal.blank_len-self-inside-requires-clause-blank
blank_len-self-inside-requires-clause-blank g c =
    let x = c.self.inside in
    let reads = c.read_behind-got.ensures.reads in
    let begins = c.begin_room.ensures.begins in
    let begun : List ℕ = c.begin_room.new.room.items in
    let within : x.kept ≤ length begun = omega (arith, begins.more) in
    subst (λ r. AreBlank (take x.blank r)) (sym (c.deref.ensures.value ∙ reads.room_is))
    (blank_stays begun reads.into x.kept x.blank c.self.invariant.4 within
    (blank_begun x.room.items begun x.kept x.blank c.self.invariant.4 begins.front c.self.invariant.5))

pub returns-clause-fills : goal.returns-clause-fills
returns-clause-fills g c =
    let x = c.self.inside in
    let got = c.read_behind-got.result in
    let room = c.read_behind-got.new.room.items in
    let reads = c.read_behind-got.ensures.reads in
    let begins = c.begin_room.ensures.begins in
    let begun : List ℕ = c.begin_room.new.room.items in
    let within : x.kept ≤ length begun = omega (arith, begins.more) in
    let front : take (x.kept + c.count_of.result) room ≡ take x.kept x.room.items ++ take
    (count_got got) reads.into =
    ap (λ k. take (x.kept + k) room) c.count_of.ensures ∙ ap (take (x.kept + count_got got)) reads.room_is
    ∙ front_more begun reads.into x.kept (count_got got) within
    ∙ ap (λ l. l ++ take (count_got got) reads.into) begins.front in
    let none : slice_range x.room.items x.from x.to ≡ [] =
    ap (λ (u : Text). u.behind) c.self.view_is ∙ c.requires.behind in
    rw (← c.self.view_is) (record {
      into = reads.into;
      reads = reads.reads;
      text = λ i. record {
        stage = x.stage;
        front = front i;
        shown = x.shown;
        used = x.used;
        behind = (no_slice room (x.kept + c.count_of.result) ∙ sym none) i;
      };
    })
