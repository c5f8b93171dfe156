-- How a link that chooses stands after a call.
use Rattle.std.proofs.Common.{◌≡◌, ℕ, ◌≤◌, ◌++◌, Vec, Global, List, [], length, drop, Bool, true, false}
use Rattle.std.proofs.Common.{Option, Some, None, refl, sym, ap, subst, ◌∙◌, append_assoc, length-append}
use Rattle.std.proofs.Common.{arith}
use Rattle.std.specs.Prelude.{is_some}
use Rattle.std.proofs.lemmas.Bool.{false≢true}
use Rattle.std.proofs.lemmas.List.{append-nil, drop-append-le}
use Rattle.ts_config.specs.declared.setup.InterceptLine.{InterceptLine}
use Rattle.ts_link.specs.Link.{Look}
use Rattle.ts_intercept.specs.Deciding.{Decides, HasHead, IsOther, IsServed}
use Rattle.ts_intercept.specs.Limits.{most_held}
use Rattle.ts_intercept.specs.Moving.{Both}
use Rattle.ts_intercept.specs.Seen.{inside}
use Rattle.ts_intercept.specs.Standing.{IsUnused, MayDrop, Stands, StandsBy, StandsHandedOn, StandsServed}
use Rattle.ts_intercept.specs.Standing.{StandsUndecided}
use Rattle.ts_intercept.specs.declared.choice.Stage.{Stage}
use Rattle.ts_intercept.specs.declared.choice.Stage.TheVariants as S

-- a head stays whole, whatever comes behind it
head_more : (text head more : List ℕ) → HasHead text head → HasHead (text ++ more) head
head_more text head more h = record {
  rest = h.rest ++ more;
  text_is = ap (λ x. x ++ more) h.text_is ∙ append_assoc head h.rest more;
  ends = h.ends;
}

pub other_more : (lines : List InterceptLine) (text more : List ℕ) → IsOther lines text
    → IsOther lines (text ++ more)
other_more lines text more h = record {
  head = h.head;
  begins = head_more text h.head more h.begins;
  none = h.none;
}

served_more : (lines : List InterceptLine) (text more answer : List ℕ) → IsServed lines text answer
    → IsServed lines (text ++ more) answer
served_more lines text more answer h = record {
  head = h.head;
  begins = head_more text h.head more h.begins;
  line = h.line;
  found = h.found;
  answer_is = h.answer_is;
}

-- what is kept grows by what is held more
pub kept_more : (held piece gone : List ℕ) (sent : ℕ) → sent ≤ length held → gone ≡ []
    → drop sent (held ++ piece) ++ gone ≡ (drop sent held ++ gone) ++ piece
kept_more held piece gone sent within none =
    ap (λ x. x ++ gone) (drop-append-le sent held piece within)
    ∙ ap (λ x. (drop sent held ++ piece) ++ x) none ∙ append-nil (drop sent held ++ piece)
    ∙ ap (λ x. x ++ piece) (sym (append-nil (drop sent held)) ∙ ap (λ x. drop sent held ++ x) (sym none))

module _ {O : Type 0} (goes : O → O → Type 0) where
  pub both_some : (o p : Option O) → Both goes o p → is_some p ≡ is_some o
  both_some None None g = refl
  both_some None (Some p) g = absurd g
  both_some (Some o) None g = absurd g
  both_some (Some o) (Some p) g = refl

module _ {O : Type 0} (tells : Bool) (look : O → Look) (lines : List InterceptLine) (handed : Option O) where
  -- what is known of the stage that it stands in
  pub stands_at : (stage at : Stage) (origin : Option O) (held : List ℕ) (sent : ℕ) (gone : List ℕ)
      (early : Bool)
      → stage ≡ at → StandsBy tells look lines handed stage origin held sent gone early
      → StandsBy tells look lines handed at origin held sent gone early
  stands_at stage at origin held sent gone early is h =
      subst (λ (s : Stage). StandsBy tells look lines handed s origin held sent gone early) is h

  -- handed on, after a call of the origin that took nothing of what is kept
  pub handed_sound : (stage : Stage) (origin after : Option O) (held : List ℕ) (sent sent' : ℕ)
      (gone : List ℕ)
      (early : Bool) → stage ≡ S.HandedOn → Stands tells look lines handed stage origin held sent gone early
      → is_some after ≡ is_some origin → sent' ≤ length held
      → (tells ≡ true → (more : List ℕ) × ((inside look after).taken ++ (drop sent' held ++ gone)
      ≡ ((inside look origin).taken ++ (drop sent held ++ gone)) ++ more))
      → Stands tells look lines handed stage after held sent' gone early
  handed_sound stage origin after held sent sent' gone early is h some within grows =
      let at : StandsHandedOn tells look lines handed origin held sent gone early =
      stands_at stage S.HandedOn origin held sent gone early is h.stands in
      record {
        few = h.few;
        within = within;
        origin_is = some ∙ h.origin_is;
        unused = h.unused;
        stands = stands_at S.HandedOn stage after held sent' gone early (sym is) (record {
          none_lost = λ there. at.none_lost (sym some ∙ there);
          other = λ t on_time. let g = grows t in
              subst (IsOther lines) (sym g.1)
              (other_more lines ((inside look origin).taken ++ (drop sent held ++ gone)) g.0
              (at.other t on_time));
        });
      }

  -- read before a head was whole
  pub early_sound : (stage : Stage) (origin after : Option O) (held : List ℕ) (sent : ℕ) (gone : List ℕ)
      (early : Bool) → stage ≡ S.Undecided → Stands tells look lines handed stage origin held sent gone early
      → is_some after ≡ is_some origin
      → Stands tells look lines handed S.HandedOn after held sent gone true
  early_sound stage origin after held sent gone early is h some =
      let at : StandsUndecided tells look lines handed origin held sent gone early =
      stands_at stage S.Undecided origin held sent gone early is h.stands in
      record {
        few = h.few;
        within = h.within;
        origin_is = some ∙ h.origin_is;
        unused = h.unused;
        stands = record {
          none_lost = λ there. at.no_gone;
          other = λ t on_time. absurd (false≢true (sym on_time));
        };
      }

  -- the origin of one that did not hand on was not used
  pub untouched_unused : (origin : Option O) → origin ≡ handed →
      (tells ≡ true → IsUnused (inside look handed))
      → tells ≡ true → IsUnused (inside look origin)
  untouched_unused origin same unused t = subst (λ (o : Option O). IsUnused (inside look o)) (sym same)
      (unused t)

  -- by what was decided
  decided_by : (after : Stage) (origin : Option O) (held : List ℕ) (sent : ℕ) (gone : List ℕ) (early : Bool)
      → origin ≡ handed → sent ≡ 0 → gone ≡ [] → early ≡ false
      → (tells ≡ true → IsUnused (inside look handed)) → Decides lines held after
      → StandsBy tells look lines handed after origin held sent gone early
  decided_by S.Undecided origin held sent gone early same zero none on_time unused h = record {
    untouched = record { same = same; not_sent = zero; on_time = on_time };
    not_whole = h;
    no_gone = none;
  }
  decided_by S.HandedOn origin held sent gone early same zero none on_time unused h = record {
    none_lost = λ there. none;
    other = λ t on_time.
        let all : (inside look origin).taken ++ (drop sent held ++ gone) ≡ held =
        ap (λ x. x ++ (drop sent held ++ gone)) (untouched_unused origin same unused t).no_taken
        ∙ ap (λ n. drop n held ++ gone) zero ∙ ap (λ x. held ++ x) none ∙ append-nil held in
        subst (IsOther lines) (sym all) h;
  }
  decided_by (S.Served answer given) origin held sent gone early same zero none on_time unused (start, h) =
      record {
        untouched = record { same = same; not_sent = zero; on_time = on_time };
        within = let none_given : given ≡ 0 = start in omega (arith, none_given);
        serves = subst (λ (x : List ℕ). IsServed lines x answer.items)
            (sym (ap (λ x. held ++ x) none ∙ append-nil held)) h;
      }

  -- a piece was held, and it may be known who answers
  pub decided_sound : (stage after : Stage) (origin : Option O) (held held' : List ℕ) (sent : ℕ)
      (gone : List ℕ)
      (early : Bool) → stage ≡ S.Undecided → Stands tells look lines handed stage origin held sent gone early
      → length held' ≤ most_held → length held ≤ length held' → Decides lines held' after
      → Stands tells look lines handed after origin held' sent gone early
  decided_sound stage after origin held held' sent gone early is h few longer decides =
      let at : StandsUndecided tells look lines handed origin held sent gone early =
      stands_at stage S.Undecided origin held sent gone early is h.stands in
      record {
        few = few;
        within = omega (arith, h.within, longer);
        origin_is = h.origin_is;
        unused = h.unused;
        stands = decided_by after origin held' sent gone early at.untouched.same at.untouched.not_sent
            at.no_gone
            at.untouched.on_time h.unused decides;
      }

  -- a piece was held for the origin
  pub behind_sound : (stage : Stage) (origin : Option O) (held held' piece : List ℕ) (sent : ℕ)
      (gone : List ℕ)
      (early : Bool) → stage ≡ S.HandedOn → is_some origin ≡ true
      → Stands tells look lines handed stage origin held sent gone early
      → length held' ≤ most_held → held' ≡ held ++ piece
      → Stands tells look lines handed stage origin held' sent gone early
  behind_sound stage origin held held' piece sent gone early is there h few grows =
      let at : StandsHandedOn tells look lines handed origin held sent gone early =
      stands_at stage S.HandedOn origin held sent gone early is h.stands in
      let none : gone ≡ [] = at.none_lost there in
      let more : drop sent held' ++ gone ≡ (drop sent held ++ gone) ++ piece =
      ap (λ x. drop sent x ++ gone) grows ∙ kept_more held piece gone sent h.within none in
      record {
        few = few;
        within = omega (arith, h.within, ap length grows, length-append held piece);
        origin_is = h.origin_is;
        unused = h.unused;
        stands = stands_at S.HandedOn stage origin held' sent gone early (sym is) (record {
          none_lost = λ some. none;
          other = λ t on_time.
              let taken : List ℕ = (inside look origin).taken in
              subst (IsOther lines) (sym (ap (λ x. taken ++ x) more
              ∙ sym (append_assoc taken (drop sent held ++ gone) piece)))
              (other_more lines (taken ++ (drop sent held ++ gone)) piece (at.other t on_time));
        });
      }

  dropped_by : (stage : Stage) (origin : Option O) (held : List ℕ) (sent : ℕ) (gone gone' piece : List ℕ)
      (early : Bool) → MayDrop stage origin → gone' ≡ gone ++ piece
      → StandsBy tells look lines handed stage origin held sent gone early
      → StandsBy tells look lines handed stage origin held sent gone' early
  dropped_by S.Undecided origin held sent gone gone' piece early may grows h = absurd may
  dropped_by S.HandedOn (Some o) held sent gone gone' piece early may grows h = absurd may
  dropped_by S.HandedOn None held sent gone gone' piece early may grows h = record {
    none_lost = λ some. absurd (false≢true some);
    other = λ t on_time.
        subst (IsOther lines) (sym (ap (λ x. drop sent held ++ x) grows
        ∙ sym (append_assoc (drop sent held) gone piece)))
        (other_more lines (drop sent held ++ gone) piece (h.other t on_time));
  }
  dropped_by (S.Served answer given) origin held sent gone gone' piece early may grows h = record {
    untouched = h.untouched;
    within = h.within;
    serves = subst (λ (x : List ℕ). IsServed lines x answer.items)
        (sym (ap (λ x. held ++ x) grows ∙ sym (append_assoc held gone piece)))
        (served_more lines (held ++ gone) piece answer.items h.serves);
  }

  -- a piece was dropped
  pub dropped_sound : (stage : Stage) (origin : Option O) (held : List ℕ) (sent : ℕ)
      (gone gone' piece : List ℕ)
      (early : Bool) → MayDrop stage origin → gone' ≡ gone ++ piece
      → Stands tells look lines handed stage origin held sent gone early
      → Stands tells look lines handed stage origin held sent gone' early
  dropped_sound stage origin held sent gone gone' piece early may grows h = record {
    few = h.few;
    within = h.within;
    origin_is = h.origin_is;
    unused = h.unused;
    stands = dropped_by stage origin held sent gone gone' piece early may grows h.stands;
  }

  -- more of an answer was given
  pub given_sound : (stage : Stage) (text : Vec ℕ Global) (given given' : ℕ) (origin : Option O)
      (held : List ℕ)
      (sent : ℕ) (gone : List ℕ) (early : Bool) → stage ≡ S.Served text given → given' ≤ length text.items
      → Stands tells look lines handed stage origin held sent gone early
      → Stands tells look lines handed (S.Served text given') origin held sent gone early
  given_sound stage text given given' origin held sent gone early is within h =
      let at : StandsServed tells look lines handed text.items given origin held sent gone early =
      stands_at stage (S.Served text given) origin held sent gone early is h.stands in
      record {
        few = h.few;
        within = h.within;
        origin_is = h.origin_is;
        unused = h.unused;
        stands = record { untouched = at.untouched; within = within; serves = at.serves };
      }

  -- the same bytes are held elsewhere
  pub held_sound : (stage : Stage) (origin : Option O) (held held' : List ℕ) (sent : ℕ) (gone : List ℕ)
      (early : Bool) → held' ≡ held → Stands tells look lines handed stage origin held sent gone early
      → Stands tells look lines handed stage origin held' sent gone early
  held_sound stage origin held held' sent gone early same h =
      subst (λ (x : List ℕ). Stands tells look lines handed stage origin x sent gone early) (sym same) h
