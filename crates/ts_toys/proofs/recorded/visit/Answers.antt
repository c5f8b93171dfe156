-- The turn that the group records is this one, of this seat.
use Rattle.std.proofs.Common.{◌≡◌, ℕ, inl, inr, [], ◌∷◌, sym, ap, ◌∙◌, subst, ⊎_elim}
use Rattle.std.specs.List.{Contains}
use Rattle.ts_journal.specs.declared.entry.Entry.TheVariants.{Took, Gave}
use Rattle.ts_group.specs.Context.{IsSame}
use Rattle.ts_group.specs.Slot.{marks_of, marks_in}
use Rattle.ts_toys.specs.Recorded.{Records}
use Rattle.ts_toys.proofs.recorded.visit.Goals as goal
use Rattle.ts_group.proofs.Slots.{marks_go, marks_same, one_mark, either_way}

pub leave-requires-clause-marks : goal.leave-requires-clause-marks
leave-requires-clause-marks g c mark there =
    let old = c.value-group.result.now in
    let new = c.record-recorded.new.group in
    let turn = c.number-number.result in
    let seat = c.number-owner.result in
    let found : marks_in old.cx.log ≡ marks_in c.in_ok-turn.turn.found.value.cx.log =
    ap (λ v. marks_in v.cx.log) (c.value-group.ensures.value ∙ sym c.in_ok-turn.ensures.turn.1) in
    let own : ◌≡◌ {A = ℕ × ℕ} (turn, seat) (c.in_ok-turn.turn.number, c.try_enter.new.seat.number) = λ i.
    (c.number-number.ensures i, c.number-owner.ensures i) in
    ⊎_elim
    (λ (r : Records old new turn seat). ⊎_elim
    (λ (was : Contains (marks_in old.cx.log) mark). inl (subst (λ ms. Contains ms mark) found was))
    (λ (one : Contains (marks_of (Took turn seat ∷ Gave turn ∷ [])) mark). inr
    (one_mark (turn, seat) mark one ∙ own))
    (marks_go old.cx.log new.cx.log (Took turn seat ∷ Gave turn ∷ []) mark r.by there))
    (λ (same : IsSame old.cx new.cx × (new.world ≡ old.world)).
    inl (subst (λ ms. Contains ms mark) (marks_same old.cx.log new.cx.log same.0.log ∙ found) there))
    (either_way c.record-recorded.result _ _ c.record-recorded.ensures.ok c.record-recorded.ensures.err)
