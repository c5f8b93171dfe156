-- What one call of a link that chooses shows, and how it stands behind it.
use Rattle.std.proofs.Common.{◌≡◌, ℕ, ◌+◌, ◌<◌, ◌≤◌, ◌++◌, Vec, Global, List, [], length, take, drop}
use Rattle.std.proofs.Common.{replicate, true, Bool, Option, Some, refl, sym, ap, subst, ◌∙◌, length-append}
use Rattle.std.proofs.Common.{arith}
use Rattle.std.specs.Prelude.{is_some}
use Rattle.std.proofs.lemmas.Bool.{false≢true}
use Rattle.std.proofs.lemmas.List.{append-nil, drop_all, length-drop, length-replicate}
use Rattle.ts_config.specs.declared.setup.InterceptLine.{InterceptLine}
use Rattle.ts_link.specs.Counts.{one_more}
use Rattle.ts_link.specs.Link.{Look, NoMore, Reads, Writes}
use Rattle.ts_link.specs.LinkAnswers.{count_got, count_put, writes_after}
use Rattle.ts_link.specs.declared.link.Got.{Got}
use Rattle.ts_link.specs.declared.link.Put.{Put}
use Rattle.ts_link.specs.declared.link.Put.TheVariants as P
use Rattle.ts_upstream.specs.Uploads.{Uploads}
use Rattle.ts_intercept.specs.Deciding.{Decides, HasRoom}
use Rattle.ts_intercept.specs.Moving.{Both, GivesFront, ReadsInside}
use Rattle.ts_intercept.specs.Seen.{agains_by, given_by, inside, kept, left_by, lines_in, seen, shown, unsent}
use Rattle.ts_intercept.specs.Served.{longest}
use Rattle.ts_intercept.specs.Standing.{IsSound, StandsHandedOn, StandsServed, StandsUndecided}
use Rattle.ts_intercept.specs.declared.choice.Choice.{Choice}
use Rattle.ts_intercept.specs.declared.choice.Stage.{Stage}
use Rattle.ts_intercept.specs.declared.choice.Stage.TheVariants as S
use Rattle.ts_intercept.proofs.Bounds.{both_some, handed_sound, kept_more, stands_at, untouched_unused}
use Rattle.ts_intercept.proofs.Looks.{no_more_none, no_more_same, shorter_replaces, shown_early, shown_on}
use Rattle.ts_intercept.proofs.Looks.{shown_served, shown_taken, shown_write}
use Rattle.ts_link.proofs.MemReads.{same_replaces}
use Rattle.ts_intercept.proofs.Moves.{one_text}
use Rattle.ts_intercept.proofs.Plans.{told_within}

-- ---- what was decided, as it is seen

given_after : (lines : List InterceptLine) (text : List ℕ) (after : Stage) → Decides lines text after
    → given_by after [] ≡ []
given_after lines text S.Undecided h = refl
given_after lines text S.HandedOn h = refl
given_after lines text (S.Served answer given) h = ap (λ n. take n answer.items) h.0

left_after : (lines : List InterceptLine) (after : Stage) (left : List ℕ) → HasRoom lines after
    → length (left_by after (longest lines) left) ≤ length (replicate (longest lines) 0 ++ left)
left_after lines S.Undecided left h = omega arith
left_after lines S.HandedOn left h = omega (arith, length-append (replicate (longest lines) 0) left)
left_after lines (S.Served answer given) left h =
    omega (
      arith,
      h,
      length-drop given answer.items,
      length-append (replicate (longest lines) 0) left,
      length-replicate {A = ℕ} (longest lines) 0,
    )

agains_after : (after : Stage) (agains : Option ℕ) → NoMore agains (agains_by after agains)
agains_after S.Undecided agains = no_more_same agains
agains_after S.HandedOn agains = no_more_same agains
agains_after (S.Served answer given) agains = no_more_none agains

module _ {O : Type 0} (tells : Bool) (look : O → Look) (c : Choice O) (sound : IsSound tells look c) where
  -- ---- what is known of a stage

  pub undecided_at : c.stage ≡ S.Undecided
      → StandsUndecided tells look (lines_in c) c.handed.value c.origin c.held.items c.sent c.gone c.early
  undecided_at is =
      stands_at tells look (lines_in c) c.handed.value c.stage S.Undecided c.origin c.held.items c.sent
      c.gone c.early is
      sound.stands

  pub handed_at : c.stage ≡ S.HandedOn
      → StandsHandedOn tells look (lines_in c) c.handed.value c.origin c.held.items c.sent c.gone c.early
  handed_at is =
      stands_at tells look (lines_in c) c.handed.value c.stage S.HandedOn c.origin c.held.items c.sent
      c.gone c.early is
      sound.stands

  pub served_at : (text : Vec ℕ Global) (given : ℕ) → c.stage ≡ S.Served text given
      → StandsServed tells look (lines_in c) c.handed.value text.items given c.origin c.held.items c.sent
      c.gone
      c.early
  served_at text given is =
      stands_at tells look (lines_in c) c.handed.value c.stage (S.Served text given) c.origin c.held.items
      c.sent
      c.gone c.early is sound.stands

  none_given : c.stage ≡ S.Undecided → tells ≡ true → (inside look c.origin).given ≡ []
  none_given is t =
      (untouched_unused tells look (lines_in c) c.handed.value c.origin (undecided_at is).untouched.same
      sound.unused
      t).no_given

  -- ---- reads

  pub early_shows : (p : Option O) (reads : ℕ) (answer : Got) (into : List ℕ) → c.stage ≡ S.Undecided
      → reads ≡ one_more c.reads → ReadsInside tells (inside look c.origin) (inside look p) answer into
      → Reads tells (seen look c)
      (seen look (record c { stage = S.HandedOn; early = true; reads = reads; origin = p })) answer into
  early_shows p reads answer into is more h =
      let most = longest (lines_in c) in
      let l : Look = inside look c.origin in
      subst (λ (x : Stage). Reads tells (shown x most (kept c) c.reads c.writes c.uploaded l)
      (shown S.HandedOn most (kept c) reads c.writes c.uploaded (inside look p)) answer into) (sym is)
      (subst (λ n. Reads tells (shown S.Undecided most (kept c) c.reads c.writes c.uploaded l)
      (shown S.HandedOn most (kept c) n c.writes c.uploaded (inside look p)) answer into) (sym more)
      (shown_early tells most (kept c) c.reads c.writes c.uploaded l (inside look p) answer into
      (none_given is) h))

  pub on_shows : (p : Option O) (reads : ℕ) (answer : Got) (into : List ℕ) → c.stage ≡ S.HandedOn
      → reads ≡ one_more c.reads → ReadsInside tells (inside look c.origin) (inside look p) answer into
      → Reads tells (seen look c) (seen look (record c { reads = reads; origin = p })) answer into
  on_shows p reads answer into is more h =
      let most = longest (lines_in c) in
      let l : Look = inside look c.origin in
      subst (λ (x : Stage). Reads tells (shown x most (kept c) c.reads c.writes c.uploaded l)
      (shown x most (kept c) reads c.writes c.uploaded (inside look p)) answer into) (sym is)
      (subst (λ n. Reads tells (shown S.HandedOn most (kept c) c.reads c.writes c.uploaded l)
      (shown S.HandedOn most (kept c) n c.writes c.uploaded (inside look p)) answer into) (sym more)
      (shown_on tells most (kept c) c.reads c.writes c.uploaded l (inside look p) answer into h))

  pub on_sound : (goes : O → O → Type 0) (p : Option O) (answer : Got) (into : List ℕ) → c.stage ≡ S.HandedOn
      → Both goes c.origin p → ReadsInside tells (inside look c.origin) (inside look p) answer into
      → IsSound tells look (record c { origin = p })
  on_sound goes p answer into is g h =
      handed_sound tells look (lines_in c) c.handed.value c.stage c.origin p c.held.items c.sent c.sent
      c.gone c.early is
      sound (both_some goes c.origin p g) sound.within
      (λ t. (
        [],
        ap (λ x. x ++ kept c) (h.told t).taken ∙ sym (append-nil ((inside look c.origin).taken ++ kept c)),
      ))

  pub served_shows : (text : Vec ℕ Global) (given given' reads : ℕ) (answer : Got) (into : List ℕ)
      → c.stage ≡ S.Served text given → reads ≡ one_more c.reads → GivesFront answer (drop given text.items)
      into
      → given' ≡ given + count_got answer
      → Reads tells (seen look c) (seen look (record c { stage = S.Served text given'; reads = reads }))
      answer into
  served_shows text given given' reads answer into is more h counts =
      let most = longest (lines_in c) in
      let l : Look = inside look c.origin in
      subst (λ (x : Stage). Reads tells (shown x most (kept c) c.reads c.writes c.uploaded l)
      (shown (S.Served text given') most (kept c) reads c.writes c.uploaded l) answer into) (sym is)
      (subst (λ n. Reads tells (shown (S.Served text given) most (kept c) c.reads c.writes c.uploaded l)
      (shown (S.Served text given') most (kept c) n c.writes c.uploaded l) answer into) (sym more)
      (shown_served tells most (kept c) c.reads c.writes c.uploaded l text given given' answer into h counts))

  -- ---- writes

  -- a piece was held, and it may be known who answers
  pub decided_shows : (held : Vec ℕ Global) (after : Stage) (writes : ℕ) (piece : List ℕ) → 0 < length piece
      → c.stage ≡ S.Undecided → held.items ≡ c.held.items ++ piece → Decides (lines_in c) held.items after
      → HasRoom (lines_in c) after → writes ≡ one_more c.writes
      → Writes tells (seen look c) (seen look (record c { held = held; stage = after; writes = writes }))
      (P.Took (length piece)) piece
  decided_shows held after writes piece some is grows decides room more =
      let most = longest (lines_in c) in
      let l : Look = inside look c.origin in
      let later : List ℕ = drop c.sent held.items ++ c.gone in
      let behind : later ≡ kept c ++ piece = ap (λ x. drop c.sent x ++ c.gone) grows
      ∙ kept_more c.held.items piece c.gone c.sent sound.within (undecided_at is).no_gone in
      subst (λ (x : Stage). Writes tells (shown x most (kept c) c.reads c.writes c.uploaded l)
      (shown after most later c.reads writes c.uploaded l) (P.Took (length piece)) piece) (sym is)
      (subst (λ n. Writes tells (shown S.Undecided most (kept c) c.reads c.writes c.uploaded l)
      (shown after most later c.reads n c.uploaded l) (P.Took (length piece)) piece) (sym more)
      (shown_taken tells most (kept c) c.reads c.writes c.uploaded l S.Undecided after later piece some behind
      (λ t. subst (λ (g : List ℕ). given_by after g ≡ g) (sym (none_given is t))
      (given_after (lines_in c) held.items after decides))
      (λ t. shorter_replaces l.given (replicate most 0 ++ l.left) (left_by after most l.left)
      (none_given is t)
      (left_after (lines_in c) after l.left room))
      (agains_after after l.agains)))

  -- a piece was taken, and nothing else changed but what is kept
  pub taken_shows : (later : List ℕ) (writes : ℕ) (piece : List ℕ) → 0 < length piece → later ≡ kept c ++
      piece
      → writes ≡ one_more c.writes
      → Writes tells (seen look c)
      (shown c.stage (longest (lines_in c)) later c.reads writes c.uploaded (inside look c.origin))
      (P.Took (length piece)) piece
  taken_shows later writes piece some behind more =
      let most = longest (lines_in c) in
      let l : Look = inside look c.origin in
      subst (λ n. Writes tells (seen look c) (shown c.stage most later c.reads n c.uploaded l)
      (P.Took (length piece)) piece) (sym more)
      (shown_taken tells most (kept c) c.reads c.writes c.uploaded l c.stage c.stage later piece some behind
      (λ t. refl) (λ t. same_replaces (given_by c.stage l.given) (left_by c.stage most l.left))
      (no_more_same (agains_by c.stage l.agains)))

  -- what is kept where a piece is held for an origin
  pub behind_kept : (held : Vec ℕ Global) (piece : List ℕ) → c.stage ≡ S.HandedOn → is_some c.origin ≡ true
      → held.items ≡ c.held.items ++ piece → drop c.sent held.items ++ c.gone ≡ kept c ++ piece
  behind_kept held piece is there grows =
      ap (λ x. drop c.sent x ++ c.gone) grows
      ∙ kept_more c.held.items piece c.gone c.sent sound.within ((handed_at is).none_lost there)

  -- want of memory: the same bytes are held
  pub lacks_shows : (held : Vec ℕ Global) (piece : List ℕ) → held.items ≡ c.held.items
      → Writes tells (seen look c) (seen look (record c { held = held })) P.NoMemory piece
  lacks_shows held piece same =
      let most = longest (lines_in c) in
      let l : Look = inside look c.origin in
      let later : List ℕ = drop c.sent held.items ++ c.gone in
      let still : later ≡ kept c = ap (λ x. drop c.sent x ++ c.gone) same in
      record {
        takes = tt;
        once = record { reads = refl; writes = refl };
        calls = record {
          source = refl;
          name = refl;
          plan = refl;
          carried = refl;
          uploaded = refl;
          before = refl;
          faults = refl;
          waits = refl;
          agains = no_more_same (agains_by c.stage l.agains);
        };
        sure = λ sure. (refl, λ failed. absurd (false≢true failed));
        lacks = ap (λ x. shown c.stage most x c.reads c.writes c.uploaded l) still;
        told = λ t. record {
          taken = ap (λ x. l.taken ++ x) still ∙ sym (append-nil (l.taken ++ kept c));
          within = λ w. told_within (l.taken ++ later) l.plan;
          given = refl;
          left = same_replaces (given_by c.stage l.given) (left_by c.stage most l.left);
        };
      }

  -- nothing is kept, where nothing is held for an origin
  pub none_kept : c.stage ≡ S.HandedOn → is_some c.origin ≡ true → length c.held.items ≤ c.sent → kept c ≡ []
  none_kept is there none =
      ap (λ x. x ++ c.gone) (drop_all c.sent c.held.items none) ∙ (handed_at is).none_lost there

  pub write_shows : (o q : O) (writes : ℕ) (put : Put) (piece : List ℕ) → c.stage ≡ S.HandedOn → c.origin ≡
      Some o
      → length c.held.items ≤ c.sent → writes ≡ writes_after put c.writes → Writes tells (look o) (look q)
      put piece
      → Writes tells (seen look c) (seen look (record c { origin = Some q; writes = writes })) put piece
  write_shows o q writes put piece is there none more h =
      let most = longest (lines_in c) in
      let some : is_some c.origin ≡ true = ap (λ (x : Option O). is_some x) there in
      subst (λ (x : Stage). Writes tells (shown x most (kept c) c.reads c.writes c.uploaded (inside look
      c.origin))
      (shown x most (kept c) c.reads writes c.uploaded (look q)) put piece) (sym is)
      (subst (λ (y : Option O). Writes tells
      (shown S.HandedOn most (kept c) c.reads c.writes c.uploaded (inside look y))
      (shown S.HandedOn most (kept c) c.reads writes c.uploaded (look q)) put piece) (sym there)
      (subst (λ n. Writes tells (shown S.HandedOn most (kept c) c.reads c.writes c.uploaded (look o))
      (shown S.HandedOn most (kept c) c.reads n c.uploaded (look q)) put piece) (sym more)
      (shown_write tells most (kept c) c.reads c.writes c.uploaded (look o) (look q) put piece
      (none_kept is some none)
      h)))

  pub write_sound : (o q : O) (put : Put) (piece : List ℕ) → c.stage ≡ S.HandedOn → c.origin ≡ Some o
      → length c.held.items ≤ c.sent → Writes tells (look o) (look q) put piece
      → IsSound tells look (record c { origin = Some q })
  write_sound o q put piece is there none h =
      let some : is_some c.origin ≡ true = ap (λ (x : Option O). is_some x) there in
      let empty : kept c ≡ [] = none_kept is some none in
      handed_sound tells look (lines_in c) c.handed.value c.stage c.origin (Some q) c.held.items c.sent
      c.sent c.gone
      c.early is sound (sym some) sound.within
      (λ t.
      let piece_taken : List ℕ = take (count_put put) piece in (
        piece_taken,
        ap (λ x. (look q).taken ++ x) empty ∙ append-nil (look q).taken ∙ (h.told t).taken
            ∙ ap (λ x. x ++ piece_taken)
            (sym (ap (λ x. (inside look x).taken ++ kept c) there ∙ ap (λ x. (look o).taken ++ x) empty
            ∙ append-nil (look o).taken)),
      ))

  -- what is held was sent in part
  pub sent_sound : (goes : O → O → Type 0) (p : Option O) (sent' : ℕ) (put : Put) → c.stage ≡ S.HandedOn
      → Both goes c.origin p → Writes tells (inside look c.origin) (inside look p) put (unsent c)
      → sent' ≡ c.sent + count_put put → sent' ≤ length c.held.items
      → IsSound tells look (record c { origin = p; sent = sent' })
  sent_sound goes p sent' put is g h sent within =
      let taken : List ℕ = (inside look c.origin).taken in
      handed_sound tells look (lines_in c) c.handed.value c.stage c.origin p c.held.items c.sent sent'
      c.gone c.early is
      sound (both_some goes c.origin p g) within
      (λ t. (
        [],
        one_text taken (inside look p).taken c.held.items c.gone c.sent sent' (count_put put) sent
            (h.told t).taken
            ∙ sym (append-nil (taken ++ kept c)),
      ))

  -- and so it stands, whatever link stands behind it
  pub sent_stands : (goes : O → O → Type 0) (d : Choice O) (put : Put) → c.stage ≡ S.HandedOn
      → Both goes c.origin d.origin
      → Writes tells (inside look c.origin) (inside look d.origin) put (unsent c)
      → d ≡ record c { origin = d.origin; sent = c.sent + count_put put }
      → d.sent ≤ length c.held.items → IsSound tells look d
  sent_stands goes d put is g h same within =
      let count : d.sent ≡ c.sent + count_put put = ap (λ (x : Choice O). x.sent) same in
      subst (λ (x : Choice O). IsSound tells look x) (sym same)
      (sent_sound goes d.origin (c.sent + count_put put) put is g h refl (omega (arith, count, within)))

  -- the origin moved some of its own upload
  pub moved_sound : (o q : O) (d d' : Look) (client_tells : Bool) → c.stage ≡ S.HandedOn → c.origin ≡ Some o
      → length c.held.items ≤ c.sent → Uploads client_tells tells d d' (look o) (look q)
      → IsSound tells look (record c { origin = Some q })
  moved_sound o q d d' client_tells is there none h =
      let some : is_some c.origin ≡ true = ap (λ (x : Option O). is_some x) there in
      let empty : kept c ≡ [] = none_kept is some none in
      handed_sound tells look (lines_in c) c.handed.value c.stage c.origin (Some q) c.held.items c.sent
      c.sent c.gone
      c.early is sound (sym some) sound.within
      (λ t. let moved = h.origin t in (
        moved.more,
        ap (λ x. (look q).taken ++ x) empty ∙ append-nil (look q).taken ∙ moved.taken
            ∙ ap (λ x. x ++ moved.more)
            (sym (ap (λ x. (inside look x).taken ++ kept c) there ∙ ap (λ x. (look o).taken ++ x) empty
            ∙ append-nil (look o).taken)),
      ))
