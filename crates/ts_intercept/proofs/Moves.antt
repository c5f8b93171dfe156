-- What an upload of a link that chooses shows, by what the origin's own calls show.
use Rattle.std.proofs.Common.{◌≡◌, ℕ, ◌+◌, ◌≤◌, ◌++◌, List, [], length, take, drop, true, false, Bool, Option}
use Rattle.std.proofs.Common.{Some, None, refl, sym, ap, subst, ◌∙◌, append_assoc, length-append, inr, arith}
use Rattle.std.specs.Prelude.{◌||◌, IsSomeAnd}
use Rattle.std.proofs.lemmas.Bool.{false≢true}
use Rattle.std.proofs.lemmas.List.{append-nil, length-take, take-append-drop, drop-drop}
use Rattle.ts_link.specs.Counts.{Counted}
use Rattle.ts_link.specs.Link.{Fewer, IsSure, IsSurePlan, Look, NoMore, Writes}
use Rattle.ts_link.specs.LinkAnswers.{PutsSome, count_put, put_again, put_failed}
use Rattle.ts_link.specs.declared.link.Put.{Put}
use Rattle.ts_link.specs.declared.link.Put.TheVariants as P
use Rattle.ts_upstream.specs.Uploads.{KeepsLink, Rose8, UploadCauses, UploadFalls, UploadKeeps, Uploads}
use Rattle.ts_upstream.specs.Uploads.{UploadsSurely, both, taken_since}
use Rattle.ts_upstream.specs.declared.upstream.Uploaded.{Uploaded}
use Rattle.ts_upstream.specs.declared.upstream.Uploaded.TheVariants as U
use Rattle.ts_intercept.specs.Limits.{most_held}
use Rattle.ts_intercept.specs.Seen.{plan_told, shown}
use Rattle.ts_intercept.specs.Uploading.{is_done, sending, told_if, with_held}
use Rattle.ts_intercept.specs.declared.choice.Stage.{Stage}
use Rattle.ts_intercept.specs.declared.choice.Stage.TheVariants as S
use Rattle.ts_link.proofs.MemReads.{same_replaces}
use Rattle.ts_intercept.proofs.Plans.{told_same}
use Rattle.ts_intercept.proofs.Looks.{never_left, sure_inside}

-- a count that rose did not fall
not_fallen : (b : Bool) (old new : ℕ) → Counted b old new → old ≤ new
not_fallen true old new h = omega (arith, h)
not_fallen false old new h = omega (arith, h)

keeps_same : (l : Look) → KeepsLink l l
keeps_same l = record {
  source = refl;
  name = refl;
  plan = refl;
  before = refl;
  faults = omega arith;
  waits = omega arith;
}

-- the client's link is as it was
pub client_same : (c : Look) (o o' : Look) → KeepsLink o o' → UploadKeeps c c o o'
client_same c o o' keeps = record {
  client = keeps_same c;
  reads = refl;
  writes = refl;
  carried = refl;
  uploaded = refl;
  origin = keeps;
}

-- ---- no upload

module _ (ctells tells : Bool) (stage : Stage) (most : ℕ) (kept : List ℕ) (reads writes : ℕ) (uploaded : Bool)
    (c l : Look) where
  abbrev was : Look
  was = shown stage most kept reads writes uploaded l

  abbrev is : Look
  is = shown stage most kept reads writes true l

  pub nothing_causes : UploadCauses ctells (λ list. ⊥) U.Done c c was is
  nothing_causes = record { refusal = λ t refused. refused; counts = tt; lacks = tt; ends = refl }

  pub nothing_bytes : Uploads ctells tells c c was is
  nothing_bytes = record {
    client = λ t. record { all = refl; given = refl; taken = refl };
    origin = λ t. record {
      given = refl;
      left = same_replaces was.given was.left;
      more = [];
      taken = sym (append-nil was.taken);
      carried = sym (append-nil was.carried);
    };
  }

  pub nothing_keeps : UploadKeeps c c was is
  nothing_keeps = client_same c was is (record {
    source = refl;
    name = refl;
    plan = refl;
    before = refl;
    faults = omega arith;
    waits = omega arith;
  })

  pub nothing_sure : UploadsSurely U.Done c c was is
  nothing_sure = record { faults = λ never. (refl, refl, refl); waits = λ calm never. refl }

-- ---- what is held is sent

-- what sending lowers: each byte weighs one more than it may raise the origin's own upload by
falls_held : (a b : Option ℕ) (sent sent' n : ℕ) → 1 ≤ n → sent' ≡ sent + n → sent' ≤ most_held → Rose8 a b n
    → Fewer (with_held sent a) (with_held sent' b)
falls_held None b sent sent' n some is few r = tt
falls_held (Some k) None sent sent' n some is few r = r
falls_held (Some k) (Some m) sent sent' n some is few r = omega (arith, some, is, few, r)

same_held : (a b : Option ℕ) (sent sent' : ℕ) → sent' ≡ sent → Rose8 a b 0
    → NoMore (with_held sent a) (with_held sent' b)
same_held None b sent sent' is r = tt
same_held (Some k) None sent sent' is r = r
same_held (Some k) (Some m) sent sent' is r = omega (arith, is, r)

falls_told : (tells : Bool) (a b : Option ℕ) → (tells ≡ true → Fewer a b) → Fewer (told_if tells a)
    (told_if tells b)
falls_told true a b h = h refl
falls_told false a b h = tt

stays_told : (tells : Bool) (a b : Option ℕ) → (tells ≡ true → NoMore a b) → NoMore (told_if tells a)
    (told_if tells b)
stays_told true a b h = h refl
stays_told false a b h = tt

-- Again answers of two links, of which the second calls
agains_fewer : (a b b' : Option ℕ) → Fewer b b' → Fewer (both a b) (both a b')
agains_fewer None b b' h = tt
agains_fewer (Some m) None b' h = tt
agains_fewer (Some m) (Some n) None h = h
agains_fewer (Some m) (Some n) (Some k) h = omega (arith, h)

agains_same : (a b b' : Option ℕ) → NoMore b b' → NoMore (both a b) (both a b')
agains_same None b b' h = tt
agains_same (Some m) None b' h = tt
agains_same (Some m) (Some n) None h = h
agains_same (Some m) (Some n) (Some k) h = omega (arith, h)

module _ (ctells tells : Bool) (most : ℕ) (kept kept' : List ℕ) (reads writes : ℕ) (uploaded : Bool)
    (c l l' : Look)
    (put : Put) (waits : List ℕ) (h : Writes tells l l' put waits) where
  abbrev before : Look
  before = shown S.HandedOn most kept reads writes uploaded l

  abbrev after : Look
  after = shown S.HandedOn most kept' reads writes uploaded l'

  sends_keeps_origin : KeepsLink before after
  sends_keeps_origin = record {
    source = h.calls.source;
    name = h.calls.name;
    plan = ap plan_told h.calls.plan;
    before = h.calls.before;
    faults = not_fallen (put_failed put) l.faults l'.faults h.calls.faults;
    waits = not_fallen (put_again put) l.waits l'.waits h.calls.waits;
  }

  pub sends_keeps : UploadKeeps c c before after
  sends_keeps = client_same c before after sends_keeps_origin

  pub sends_bytes : (tells ≡ true → l'.taken ++ kept' ≡ l.taken ++ kept) → Uploads ctells tells c c before
      after
  sends_bytes same = record {
    client = λ t. record { all = refl; given = refl; taken = refl };
    origin = λ t. let more = h.told t in record {
      given = more.given;
      left = more.left;
      more = [];
      taken = same t ∙ sym (append-nil (l.taken ++ kept));
      carried = h.calls.carried ∙ sym (append-nil l.carried);
    };
  }

  -- how many bytes went
  pub went : tells ≡ true → taken_since l l' ≡ count_put put
  went t =
      let more = ap length (h.told t).taken ∙ length-append l.taken (take (count_put put) waits) in
      let cut = length-take (count_put put) waits in
      omega (arith, more, cut, within put h.takes)
    where
      within : (answer : Put) → PutsSome answer (length waits) → count_put answer ≤ length waits
      within (P.Took n) some = some.1
      within P.Again some = omega arith
      within P.Failed some = omega arith
      within P.NoMemory some = omega arith

module _ (ctells tells : Bool) (most : ℕ) (reads writes : ℕ) (uploaded : Bool) (c l l' : Look)
    (waits : List ℕ) where
  -- why, by the answer
  pub sends_causes : (kept kept' : List ℕ) (put : Put) → Writes tells l l' put waits
      → (put ≡ P.NoMemory → kept' ≡ kept)
      → UploadCauses ctells (λ list. ⊥) (sending put) c c (shown S.HandedOn most kept reads writes uploaded l)
      (shown S.HandedOn most kept' reads writes uploaded l')
  sends_causes kept kept' (P.Took n) h same = record { refusal = λ t. tt; counts = tt; lacks = tt; ends = tt }
  sends_causes kept kept' P.Again h same =
      record { refusal = λ t. tt; counts = inr h.calls.waits; lacks = tt; ends = tt }
  sends_causes kept kept' P.Failed h same =
      record { refusal = λ t. tt; counts = h.calls.faults; lacks = tt; ends = tt }
  sends_causes kept kept' P.NoMemory h same = record {
    refusal = λ t. tt;
    counts = tt;
    lacks = (
      refl,
      ap (λ (x : Look). shown S.HandedOn most kept' reads writes uploaded x) h.lacks
          ∙ ap (λ x. shown S.HandedOn most x reads writes uploaded l) (same refl),
    );
    ends = tt;
  }

  -- between sure links nothing fails and nothing waits
  pub sends_sure : (kept kept' : List ℕ) (put : Put) → Writes tells l l' put waits
      → IsSure (shown S.HandedOn most kept reads writes uploaded l)
      → UploadsSurely (sending put) c c (shown S.HandedOn most kept reads writes uploaded l)
      (shown S.HandedOn most kept' reads writes uploaded l')
  sends_sure kept kept' (P.Took n) h sure =
      record { faults = λ never. (refl, refl, h.calls.faults); waits = λ calm never. refl }
  sends_sure kept kept' P.NoMemory h sure =
      record { faults = λ never. (refl, refl, h.calls.faults); waits = λ calm never. refl }
  sends_sure kept kept' P.Again h sure =
      absurd (false≢true (sym (h.sure (sure_inside S.HandedOn most kept reads writes uploaded l sure)).0))
  sends_sure kept kept' P.Failed h sure =
      absurd (never_left S.HandedOn most kept reads writes uploaded l sure
      ((h.sure (sure_inside S.HandedOn most kept reads writes uploaded l sure)).1 refl))

  -- what is left
  pub sends_falls : (kept kept' : List ℕ) (put : Put) (a b : Option ℕ) (sent sent' : ℕ) → Writes tells l l'
      put waits
      → sent' ≡ sent + count_put put → sent' ≤ most_held
      → (tells ≡ true → Rose8 a b (count_put put))
      → UploadFalls (sending put) (told_if tells (with_held sent a)) (told_if tells (with_held sent' b))
      (both c.agains (shown S.HandedOn most kept reads writes uploaded l).agains)
      (both c.agains (shown S.HandedOn most kept' reads writes uploaded l').agains)
  sends_falls kept kept' (P.Took n) a b sent sent' h is few r = (
    falls_told tells (with_held sent a) (with_held sent' b)
        (λ t. falls_held a b sent sent' n h.takes.0 is few (r t)),
    agains_same c.agains l.agains l'.agains h.calls.agains,
  )
  sends_falls kept kept' P.Again a b sent sent' h is few r = (
    stays_told tells (with_held sent a) (with_held sent' b)
        (λ t. same_held a b sent sent' (omega (arith, is)) (r t)),
    agains_fewer c.agains l.agains l'.agains h.calls.agains,
  )
  sends_falls kept kept' P.Failed a b sent sent' h is few r = (
    stays_told tells (with_held sent a) (with_held sent' b)
        (λ t. same_held a b sent sent' (omega (arith, is)) (r t)),
    agains_same c.agains l.agains l'.agains h.calls.agains,
  )
  sends_falls kept kept' P.NoMemory a b sent sent' h is few r = (
    stays_told tells (with_held sent a) (with_held sent' b)
        (λ t. same_held a b sent sent' (omega (arith, is)) (r t)),
    agains_same c.agains l.agains l'.agains h.calls.agains,
  )

-- it is not done
pub not_done : (put : Put) → sending put ≡ U.Done → ⊥
not_done (P.Took n) e = let wrong : U.More ≡ U.Done = e in cc
not_done P.Again e = let wrong : U.Again ≡ U.Done = e in cc
not_done P.Failed e = let wrong : U.OriginFailed ≡ U.Done = e in cc
not_done P.NoMemory e = let wrong : U.NoMemory ≡ U.Done = e in cc

-- what was kept and what the origin took are one text
pub one_text : (l l' : List ℕ) (held gone : List ℕ) (sent sent' n : ℕ) → sent' ≡ sent + n
    → l' ≡ l ++ take n (drop sent held)
    → l' ++ (drop sent' held ++ gone) ≡ l ++ (drop sent held ++ gone)
one_text l l' held gone sent sent' n is taken =
    let rest : drop sent' held ≡ drop n (drop sent held) =
    ap (λ k. drop k held) is ∙ sym (drop-drop n sent held) in
    ap (λ x. x ++ (drop sent' held ++ gone)) taken
    ∙ append_assoc l (take n (drop sent held)) (drop sent' held ++ gone)
    ∙ ap (λ x. l ++ x) (sym (append_assoc (take n (drop sent held)) (drop sent' held) gone)
    ∙ ap (λ x. x ++ gone) (ap (λ x. take n (drop sent held) ++ x) rest ∙ take-append-drop n (drop sent held)))

-- ---- the origin's own upload

falls_both : (answer : Uploaded) (tells : Bool) (a b x y x' y' : Option ℕ) (sent : ℕ) → UploadFalls answer a
    b x y
    → (Fewer x y → Fewer x' y') → (NoMore x y → NoMore x' y')
    → UploadFalls answer (told_if tells (with_held sent a)) (told_if tells (with_held sent b)) x' y'
falls_both answer tells a b x y x' y' sent h fewer same = by answer h
  where
    fewer_held : (a b : Option ℕ) → Fewer a b → Fewer (with_held sent a) (with_held sent b)
    fewer_held None b f = tt
    fewer_held (Some k) None f = f
    fewer_held (Some k) (Some m) f = omega (arith, f)

    no_more_held : (a b : Option ℕ) → NoMore a b → NoMore (with_held sent a) (with_held sent b)
    no_more_held None b f = tt
    no_more_held (Some k) None f = f
    no_more_held (Some k) (Some m) f = omega (arith, f)

    lower : Fewer a b → Fewer (told_if tells (with_held sent a)) (told_if tells (with_held sent b))
    lower f = falls_told tells (with_held sent a) (with_held sent b) (λ t. fewer_held a b f)

    level : NoMore a b → NoMore (told_if tells (with_held sent a)) (told_if tells (with_held sent b))
    level f = stays_told tells (with_held sent a) (with_held sent b) (λ t. no_more_held a b f)

    by : (answer : Uploaded) → UploadFalls answer a b x y
        → UploadFalls answer (told_if tells (with_held sent a)) (told_if tells (with_held sent b)) x' y'
    by U.More f = (lower f.0, same f.1)
    by U.Again f = (level f.0, fewer f.1)
    by U.Done f = (level f.0, same f.1)
    by U.ClientFailed f = (level f.0, same f.1)
    by U.OriginFailed f = (level f.0, same f.1)
    by U.Refused f = (level f.0, same f.1)
    by U.NoMemory f = (level f.0, same f.1)

module _ (ctells tells : Bool) (most : ℕ) (kept : List ℕ) (reads writes : ℕ) (uploaded : Bool)
    (c d l l' : Look) where
  -- what is left
  pub moves_falls : (answer : Uploaded) (a b : Option ℕ) (sent : ℕ)
      → UploadFalls answer a b (both c.agains l.agains) (both d.agains l'.agains)
      → UploadFalls answer (told_if tells (with_held sent a)) (told_if tells (with_held sent b))
      (both c.agains (shown S.HandedOn most kept reads writes uploaded l).agains)
      (both d.agains (shown S.HandedOn most kept reads writes (is_done answer || uploaded) l').agains)
  moves_falls answer a b sent h =
      falls_both answer tells a b (both c.agains l.agains) (both d.agains l'.agains) (both c.agains l.agains)
      (both d.agains l'.agains) sent h (λ f. f) (λ f. f)

  pub moves_causes : (Refuses : List ℕ → Type 0) → ((list : List ℕ) → Refuses list → ⊥) → (answer : Uploaded)
      → UploadCauses ctells Refuses answer c d l l'
      → UploadCauses ctells (λ list. ⊥) answer c d (shown S.HandedOn most kept reads writes uploaded l)
      (shown S.HandedOn most kept reads writes (is_done answer || uploaded) l')
  moves_causes Refuses takes U.Done h = record {
    refusal = λ t refused. refused;
    counts = tt;
    lacks = tt;
    ends = refl;
  }
  moves_causes Refuses takes U.More h = record { refusal = λ t. tt; counts = tt; lacks = tt; ends = tt }
  moves_causes Refuses takes U.Again h = record {
    refusal = λ t. tt;
    counts = h.counts;
    lacks = tt;
    ends =
        tt;
  }
  moves_causes Refuses takes U.ClientFailed h = record {
    refusal = λ t. tt;
    counts = h.counts;
    lacks = tt;
    ends = tt;
  }
  moves_causes Refuses takes U.OriginFailed h = record {
    refusal = λ t. tt;
    counts = h.counts;
    lacks = tt;
    ends = tt;
  }
  moves_causes Refuses takes U.Refused h =
      record { refusal = λ t. takes c.source (h.refusal t); counts = tt; lacks = tt; ends = tt }
  moves_causes Refuses takes U.NoMemory h = record {
    refusal = λ t. tt;
    counts = tt;
    lacks = (h.lacks.0, ap (λ (x : Look). shown S.HandedOn most kept reads writes uploaded x) h.lacks.1);
    ends = tt;
  }

  pub moves_bytes : (up : Bool) → kept ≡ [] → Uploads ctells tells c d l l'
      → Uploads ctells tells c d (shown S.HandedOn most kept reads writes uploaded l)
      (shown S.HandedOn most kept reads writes up l')
  moves_bytes up none h = record {
    client = h.client;
    origin = λ t. let more = h.origin t in record {
      given = more.given;
      left = more.left;
      more = more.more;
      taken = ap (λ x. l'.taken ++ x) none ∙ append-nil l'.taken ∙ more.taken
          ∙ ap (λ x. x ++ more.more) (sym (append-nil l.taken) ∙ ap (λ x. l.taken ++ x) (sym none));
      carried = more.carried;
    };
  }

  pub moves_keeps : (up : Bool) → UploadKeeps c d l l'
      → UploadKeeps c d (shown S.HandedOn most kept reads writes uploaded l)
      (shown S.HandedOn most kept reads writes up l')
  moves_keeps up h = record {
    client = h.client;
    reads = h.reads;
    writes = h.writes;
    carried = h.carried;
    uploaded = h.uploaded;
    origin = record {
      source = h.origin.source;
      name = h.origin.name;
      plan = ap plan_told h.origin.plan;
      before = h.origin.before;
      faults = h.origin.faults;
      waits = h.origin.waits;
    };
  }

  pub moves_sure : (answer : Uploaded) (up : Bool)
      → IsSure (shown S.HandedOn most kept reads writes uploaded l)
      → (IsSure l → UploadsSurely answer c d l l')
      → UploadsSurely answer c d (shown S.HandedOn most kept reads writes uploaded l)
      (shown S.HandedOn most kept reads writes up l')
  moves_sure answer up sure h =
      let same : plan_told l.plan ≡ l.plan = told_same IsSurePlan l.plan sure in
      let inner = h (sure_inside S.HandedOn most kept reads writes uploaded l sure) in
      record {
        faults = λ never. inner.faults (subst (λ p. IsSomeAnd p (λ q. q.leave ≡ None)) same never);
        waits = λ calm never. inner.waits calm (subst (λ p. IsSomeAnd p (λ q. q.stalls ≡ [])) same never);
      }
