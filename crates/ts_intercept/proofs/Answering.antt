-- Who answered is read off how the link stands.
use Rattle.std.proofs.Common.{◌≡◌, ◌++◌, [], drop, take, true, Bool, Option, Some, None, refl, sym, ap, subst}
use Rattle.std.proofs.Common.{◌∙◌}
use Rattle.std.proofs.lemmas.List.{append-nil, take-append-drop}
use Rattle.std.specs.Prelude.{is_some}
use Rattle.ts_link.specs.Link.{Look, all_of}
use Rattle.ts_wire.specs.Blank.{LacksBlank}
use Rattle.ts_intercept.specs.Answered.{Answered, ended, itself, nobody, origin}
use Rattle.ts_intercept.specs.Deciding.{IsServed}
use Rattle.ts_intercept.specs.Seen.{given_by, inside, kept, left_by, lines_in, seen, shown, unsent}
use Rattle.ts_intercept.specs.Served.{longest}
use Rattle.ts_intercept.specs.Standing.{IsSound, KeepsBy, StandsBy}
use Rattle.ts_intercept.specs.declared.choice.Choice.{Choice}
use Rattle.ts_intercept.specs.declared.choice.Stage.{Stage}
use Rattle.ts_intercept.specs.declared.choice.Stage.TheVariants as S
use Rattle.ts_intercept.proofs.Bounds.{untouched_unused}

module _ {O : Type 0} (tells : Bool) (look : O → Look) (c : Choice O) (t : tells ≡ true)
    (h : IsSound tells look c)
  where
    -- what was taken, where the origin was not used
    taken_is : c.origin ≡ c.handed.value → c.sent ≡ 0 → (seen look c).taken ≡ c.held.items ++ c.gone
    taken_is same zero =
        ap (λ x. x ++ kept c) (untouched_unused tells look (lines_in c) c.handed.value c.origin same
        h.unused t).no_taken
        ∙ ap (λ n. drop n c.held.items ++ c.gone) zero

    given_is : c.origin ≡ c.handed.value → (inside look c.origin).given ≡ []
    given_is same = (untouched_unused tells look (lines_in c) c.handed.value c.origin same h.unused
        t).no_given

    answered_by : (stage : Stage) → c.stage ≡ stage
        → StandsBy tells look (lines_in c) c.handed.value stage c.origin c.held.items c.sent c.gone c.early
        → Answered look c
    answered_by S.Undecided is at =
        nobody
        (subst LacksBlank (sym (taken_is at.untouched.same at.untouched.not_sent
        ∙ ap (λ x. c.held.items ++ x) at.no_gone ∙ append-nil c.held.items)) at.not_whole)
        (subst (λ (x : Stage). given_by x (inside look c.origin).given ≡ []) (sym is)
        (given_is at.untouched.same))
        at.untouched.same
        at.untouched.on_time
    answered_by (S.Served answer given) is at =
        let all : all_of (shown (S.Served answer given) (longest (lines_in c)) (kept c) c.reads c.writes
        c.uploaded
        (inside look c.origin)) ≡ answer.items =
        ap (λ x. (x ++ take given answer.items) ++ drop given answer.items) (given_is at.untouched.same)
        ∙ take-append-drop given answer.items in
        itself
        (subst (λ x. IsServed (lines_in c) x (all_of (seen look c)))
        (sym (taken_is at.untouched.same at.untouched.not_sent))
        (subst (λ (x : Stage). IsServed (lines_in c) (c.held.items ++ c.gone)
        (all_of (shown x (longest (lines_in c)) (kept c) c.reads c.writes c.uploaded
        (inside look c.origin)))) (sym is)
        (subst (λ x. IsServed (lines_in c) (c.held.items ++ c.gone) x) (sym all) at.serves)))
        at.untouched.same
        at.untouched.on_time
    answered_by S.HandedOn is at = handed c.origin refl
      where
        handed : (o : Option O) → c.origin ≡ o → Answered look c
        handed (Some o) there = origin o there
            (record {
              taken = ap (λ x. (inside look x).taken ++ kept c) there
                  ∙ ap (λ x. (look o).taken ++ (unsent c ++ x)) (at.none_lost (ap is_some there))
                  ∙ ap (λ x. (look o).taken ++ x) (append-nil (unsent c));
              given = subst (λ (x : Stage). given_by x (inside look c.origin).given ≡ (look o).given) (sym is)
                  (ap (λ x. (inside look x).given) there);
              left = subst (λ (x : Stage). left_by x (longest (lines_in c)) (inside look c.origin).left ≡
                  (look o).left)
                  (sym is) (ap (λ x. (inside look x).left) there);
            })
            (λ on_time. at.other t on_time)
        handed None there = ended there
            (subst (λ (x : Stage). given_by x (inside look c.origin).given
            ++ left_by x (longest (lines_in c)) (inside look c.origin).left ≡ []) (sym is)
            (ap (λ x. (inside look x).given ++ (inside look x).left) there))
            (λ on_time. at.other t on_time)

    -- who answered
    pub answered : Answered look c
    answered = answered_by c.stage refl h.stands

-- where it did not hand on, the origin is as it was handed in
kept_by : {O : Type 0} (tells : Bool) (look : O → Look) (c : Choice O) (stage : Stage)
    → StandsBy tells look (lines_in c) c.handed.value stage c.origin c.held.items c.sent c.gone c.early
    → KeepsBy stage c.origin c.handed.value
kept_by tells look c S.Undecided h = h.untouched.same
kept_by tells look c S.HandedOn h = tt
kept_by tells look c (S.Served answer given) h = h.untouched.same

pub kept_sound : {O : Type 0} (tells : Bool) (look : O → Look) (c : Choice O) → IsSound tells look c
    → KeepsBy c.stage c.origin c.handed.value
kept_sound tells look c h = kept_by tells look c c.stage h.stands
