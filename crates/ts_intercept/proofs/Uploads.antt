-- An upload of a link that chooses is what the link to an origin promises.
use Rattle.std.proofs.Common.{◌≡◌, ℕ, ◌+◌, ◌<◌, ◌≤◌, ◌++◌, List, [], length, drop, true, Bool, Option, Some}
use Rattle.std.proofs.Common.{None, refl, sym, ap, subst, ◌∙◌, arith}
use Rattle.std.specs.Prelude.{◌≢◌, ◌||◌, is_some}
use Rattle.std.proofs.lemmas.Bool.{false≢true}
use Rattle.std.proofs.lemmas.List.{length-drop}
use Rattle.ts_link.specs.Link.{IsOneWrite, IsSure, Look, Writes}
use Rattle.ts_link.specs.LinkAnswers.{count_put}
use Rattle.ts_link.specs.declared.link.Link as link
use Rattle.ts_link.specs.declared.link.Put.{Put}
use Rattle.ts_link.specs.declared.link.Put.TheVariants as P
use Rattle.ts_upstream.specs.Uploads.{Rose8, SameRefusal, StayPaired, UploadCauses, UploadFalls, UploadKeeps}
use Rattle.ts_upstream.specs.Uploads.{Uploads, UploadsSurely, both, taken_since}
use Rattle.ts_upstream.specs.declared.upstream.Upstream as upstream
use Rattle.ts_upstream.specs.declared.upstream.Uploaded.{Uploaded}
use Rattle.ts_upstream.specs.declared.upstream.Uploaded.TheVariants as U
use Rattle.ts_intercept.specs.Going.{both_same, both_weaker, pair_by}
use Rattle.ts_intercept.specs.Limits.{most_held}
use Rattle.ts_intercept.specs.Moving.{Both}
use Rattle.ts_intercept.specs.Seen.{inside, kept, lines_in, shown, unsent}
use Rattle.ts_intercept.specs.Served.{longest}
use Rattle.ts_intercept.specs.Uploading.{HasNoUpload, IsOneUpload, PairIf, PairsWith, RefusesNone, UploadsAs}
use Rattle.ts_intercept.specs.Uploading.{is_done, left_if, none_to_move, one_upload, one_write, owed_by}
use Rattle.ts_intercept.specs.Uploading.{sending}
use Rattle.ts_intercept.specs.declared.choice.Choice.{Choice}
use Rattle.ts_intercept.specs.declared.choice.Stage.{Stage}
use Rattle.ts_intercept.specs.declared.choice.Stage.TheVariants as S
use Rattle.ts_intercept.proofs.Looks.{no_more_same}
use Rattle.ts_intercept.proofs.Moves.{moves_bytes, moves_causes, moves_falls, moves_keeps, moves_sure}
use Rattle.ts_intercept.proofs.Moves.{not_done, nothing_bytes, nothing_causes, nothing_keeps, nothing_sure}
use Rattle.ts_intercept.proofs.Moves.{one_text, sends_bytes, sends_causes, sends_falls, sends_keeps}
use Rattle.ts_intercept.proofs.Moves.{sends_sure, went}

owed_none : {O : Type 0} (stage : Stage) (origin : Option O) (waits : List ℕ) → HasNoUpload stage origin
    → owed_by stage origin waits ≡ []
owed_none S.Undecided origin waits h = refl
owed_none S.HandedOn None waits h = refl
owed_none S.HandedOn (Some o) waits h = absurd h
owed_none (S.Served answer given) origin waits h = refl

-- the number of none: it stays as it was
same_count : (put : Put) (sent sent' : ℕ) → sent' ≡ sent + count_put put → put ≡ P.NoMemory → sent' ≡ sent
same_count P.NoMemory sent sent' is lacked = omega (arith, is)
same_count (P.Took n) sent sent' is lacked = absurd (let wrong : P.Took n ≡ P.NoMemory = lacked in cc)
same_count P.Again sent sent' is lacked = omega (arith, is)
same_count P.Failed sent sent' is lacked = omega (arith, is)

module _ {C O : Type 0} (clients : link.Ghosts C) (origins : link.Ghosts O) (pair : upstream.Ghosts O C) where
  -- no upload to move
  pub uploads_nothing : ((x : C) → clients.still x x) → ((o : O) → origins.still o o)
      → (c : C) (s : Choice O) → HasNoUpload s.stage s.origin → PairIf pair.paired pair.refuses c s.origin
      → UploadsAs clients origins pair c s c (record s { uploaded = true }) U.Done
  uploads_nothing itself same c s none paired =
      let most = longest (lines_in s) in
      let look : Look = clients.look c in
      let l : Look = inside origins.look s.origin in
      record {
        paired = record {
          client = itself c;
          origin = record { origin = both_same origins.still same s.origin; handed = refl; setup = refl };
          pair = paired;
          refusal = record { still = λ list refused. refused; before = λ list refused. refused };
        };
        once = none_to_move none refl refl refl;
        causes = nothing_causes clients.tells origins.tells s.stage most (kept s) s.reads s.writes
            s.uploaded look l;
        bytes = nothing_bytes clients.tells origins.tells s.stage most (kept s) s.reads s.writes s.uploaded
            look l;
        keeps = nothing_keeps clients.tells origins.tells s.stage most (kept s) s.reads s.writes s.uploaded
            look l;
        falls = (
          no_more_same (left_if origins.tells pair.upload_left s.sent c s.origin),
          no_more_same (both look.agains
              (shown s.stage most (kept s) s.reads s.writes s.uploaded l).agains),
        );
        sure = λ a b. nothing_sure clients.tells origins.tells s.stage most (kept s) s.reads s.writes
            s.uploaded look l;
        sends = λ done. owed_none s.stage s.origin (unsent s) none;
      }

  -- what is held is sent
  module _ (itself : (x : C) → clients.still x x) (same : (x : C) → clients.goes x x)
      (weaker : (l m : O) → origins.goes l m → origins.still l m)
      (stays : (c d : C) (o p : O) → pair.paired c o → clients.goes c d → origins.goes o p → pair.paired d p)
      (refusal : (o p : O) → origins.goes o p → SameRefusal (pair.refuses o) (pair.refuses p))
      (rises : (c d : C) (o p : O) → clients.goes c d → origins.goes o p
      → Rose8 (pair.upload_left c o) (pair.upload_left d p) (taken_since (origins.look o) (origins.look p)))
    where
      once_sends : (c : C) (s : Choice O) (so p : Option O) (sent' : ℕ) (put : Put)
          → s.stage ≡ S.HandedOn → s.origin ≡ so
          → is_some so ≡ true → Both origins.goes so p → unsent s ≢ []
          → IsOneWrite put (inside origins.look so) (inside origins.look p) → sent' ≡ s.sent + count_put put
          → IsOneUpload origins.look pair.one_upload c s c (record s { origin = p; sent = sent' })
          (sending put)
      once_sends c s None p sent' put at e there g some one is = absurd (false≢true there)
      once_sends c s (Some o) None sent' put at e there g some one is = absurd g
      once_sends c s (Some o) (Some q) sent' put at e there g some one is =
          one_write o q put at e some one refl (ap (λ n. record s { origin = Some q; sent = n }) is) refl

      falls_sends : (c : C) (so p : Option O) (most : ℕ) (was is_now : List ℕ) (reads writes : ℕ)
          (uploaded : Bool)
          (waits : List ℕ) (sent sent' : ℕ) (put : Put) → is_some so ≡ true → Both origins.goes so p
          → Writes origins.tells (inside origins.look so) (inside origins.look p) put waits
          → sent' ≡ sent + count_put put → sent' ≤ most_held
          → UploadFalls (sending put) (left_if origins.tells pair.upload_left sent c so)
          (left_if origins.tells pair.upload_left sent' c p)
          (both (clients.look c).agains
          (shown S.HandedOn most was reads writes uploaded (inside origins.look so)).agains)
          (both (clients.look c).agains
          (shown S.HandedOn most is_now reads writes uploaded (inside origins.look p)).agains)
      falls_sends c None p most was is_now reads writes uploaded waits sent sent' put there g h is few =
          absurd (false≢true there)
      falls_sends c (Some o) None most was is_now reads writes uploaded waits sent sent' put there g h is few
          = absurd g
      falls_sends c (Some o) (Some q) most was is_now reads writes uploaded waits sent sent' put there g h is
          few =
          sends_falls clients.tells origins.tells most reads writes uploaded (clients.look c) (origins.look o)
          (origins.look q) waits was is_now put (pair.upload_left c o) (pair.upload_left c q) sent sent' h is
          few
          (λ t. subst (λ n. Rose8 (pair.upload_left c o) (pair.upload_left c q) n)
          (went clients.tells origins.tells most was is_now reads writes uploaded (clients.look c)
          (origins.look o)
          (origins.look q) put waits h t)
          (rises c c o q (same c) g))

      pub uploads_held : (c : C) (s : Choice O) (p : Option O) (sent' : ℕ) (put : Put) → s.stage ≡ S.HandedOn
          → is_some s.origin ≡ true → s.sent < length s.held.items → length s.held.items ≤ most_held
          → PairIf pair.paired pair.refuses c s.origin
          → Writes origins.tells (inside origins.look s.origin) (inside origins.look p) put (unsent s)
          → Both origins.goes s.origin p → sent' ≡ s.sent + count_put put → sent' ≤ length s.held.items
          → UploadsAs clients origins pair c s c (record s { origin = p; sent = sent' }) (sending put)
      uploads_held c s p sent' put is there some few paired h g sent within =
          let most = longest (lines_in s) in
          let look : Look = clients.look c in
          let l : Look = inside origins.look s.origin in
          let l' : Look = inside origins.look p in
          let before : List ℕ = kept s in
          let after : List ℕ = drop sent' s.held.items ++ s.gone in
          let text : origins.tells ≡ true → l'.taken ++ after ≡ l.taken ++ before =
          λ t. one_text l.taken l'.taken s.held.items s.gone s.sent sent' (count_put put) sent
          (h.told t).taken in
          let lacks : put ≡ P.NoMemory → after ≡ before =
          λ lacked. ap (λ n. drop n s.held.items ++ s.gone) (same_count put s.sent sent' sent lacked) in
          record {
            paired = record {
              client = itself c;
              origin = record {
                origin = both_weaker origins.goes origins.still weaker s.origin p g;
                handed = refl;
                setup = refl;
              };
              pair = pair_by clients.goes origins.goes pair.paired pair.refuses stays refusal c c s.origin p
                  paired
                  (same c) g;
              refusal = record { still = λ list refused. refused; before = λ list refused. refused };
            };
            once = once_sends c s s.origin p sent' put is refl there g
                (λ none. absurd (omega (arith, some, ap length none, length-drop s.sent s.held.items))) h.once
                sent;
            causes = subst (λ (x : Stage). UploadCauses clients.tells (RefusesNone s) (sending put) look look
                (shown x most before s.reads s.writes s.uploaded l)
                (shown x most after s.reads s.writes s.uploaded l'))
                (sym is)
                (sends_causes clients.tells origins.tells most s.reads s.writes s.uploaded look l l'
                (unsent s) before after
                put h lacks);
            bytes = subst (λ (x : Stage). Uploads clients.tells origins.tells look look
                (shown x most before s.reads s.writes s.uploaded l)
                (shown x most after s.reads s.writes s.uploaded l'))
                (sym is)
                (sends_bytes clients.tells origins.tells most before after s.reads s.writes s.uploaded look l
                l' put
                (unsent s) h text);
            keeps = subst (λ (x : Stage). UploadKeeps look look
                (shown x most before s.reads s.writes s.uploaded l)
                (shown x most after s.reads s.writes s.uploaded l'))
                (sym is)
                (sends_keeps clients.tells origins.tells most before after s.reads s.writes s.uploaded look l
                l' put
                (unsent s) h);
            falls = subst (λ (x : Stage). UploadFalls (sending put)
                (left_if origins.tells pair.upload_left s.sent c s.origin)
                (left_if origins.tells pair.upload_left sent' c p)
                (both look.agains (shown x most before s.reads s.writes s.uploaded l).agains)
                (both look.agains (shown x most after s.reads s.writes s.uploaded l').agains))
                (sym is)
                (falls_sends c s.origin p most before after s.reads s.writes s.uploaded (unsent s) s.sent
                sent' put there g
                h sent (omega (arith, within, few)));
            sure = λ calm. subst (λ (x : Stage). IsSure (shown x most before s.reads s.writes s.uploaded l)
                → UploadsSurely (sending put) look look
                (shown x most before s.reads s.writes s.uploaded l)
                (shown x most after s.reads s.writes s.uploaded l'))
                (sym is)
                (λ sure. sends_sure clients.tells origins.tells most s.reads s.writes s.uploaded look l l'
                (unsent s)
                before after put h sure);
            sends = λ done. absurd (not_done put done);
          }

      -- the same of whatever link stands behind it
      pub uploads_sent : (c : C) (s t : Choice O) (put : Put) (answer : Uploaded) → s.stage ≡ S.HandedOn
          → is_some s.origin ≡ true → s.sent < length s.held.items → length s.held.items ≤ most_held
          → PairIf pair.paired pair.refuses c s.origin
          → Writes origins.tells (inside origins.look s.origin) (inside origins.look t.origin) put (unsent s)
          → Both origins.goes s.origin t.origin
          → t ≡ record s { origin = t.origin; sent = s.sent + count_put put }
          → t.sent ≤ length s.held.items → answer ≡ sending put
          → UploadsAs clients origins pair c s c t answer
      uploads_sent c s t put answer is there some few paired h g same within sends =
          let count : t.sent ≡ s.sent + count_put put = ap (λ (x : Choice O). x.sent) same in
          subst (λ (a : Uploaded). UploadsAs clients origins pair c s c t a) (sym sends)
          (subst (λ (x : Choice O). UploadsAs clients origins pair c s c x (sending put)) (sym same)
          (uploads_held c s t.origin (s.sent + count_put put) put is there some few paired h g refl
          (omega (arith, count, within))))

  -- the origin's own upload
  pub uploads_on : (c : C) (s : Choice O) (d : C) (o q : O) (answer : Uploaded) → s.stage ≡ S.HandedOn
      → s.origin ≡ Some o → unsent s ≡ [] → s.gone ≡ []
      → PairIf pair.paired pair.refuses c s.origin
      → StayPaired clients.still origins.still pair.paired pair.refuses c d o q
      → pair.one_upload c o d q answer
      → UploadCauses clients.tells (pair.refuses o) answer (clients.look c) (clients.look d) (origins.look o)
      (origins.look q)
      → Uploads clients.tells origins.tells (clients.look c) (clients.look d) (origins.look o)
      (origins.look q)
      → UploadKeeps (clients.look c) (clients.look d) (origins.look o) (origins.look q)
      → UploadFalls answer (pair.upload_left c o) (pair.upload_left d q)
      (both (clients.look c).agains (origins.look o).agains)
      (both (clients.look d).agains (origins.look q).agains)
      → (IsSure (clients.look c) → IsSure (origins.look o)
      → UploadsSurely answer (clients.look c) (clients.look d) (origins.look o) (origins.look q))
      → UploadsAs clients origins pair c s d
      (record s { origin = Some q; uploaded = is_done answer || s.uploaded }) answer
  uploads_on c s d o q answer is there none lost paired still once causes bytes keeps falls sure =
      let most = longest (lines_in s) in
      let look : Look = clients.look c in
      let later : Look = clients.look d in
      let l : Look = origins.look o in
      let l' : Look = origins.look q in
      let up : Bool = is_done answer || s.uploaded in
      let holds : PairsWith pair.paired pair.refuses c o =
      subst (λ (x : Option O). PairIf pair.paired pair.refuses c x) there paired in
      let empty : kept s ≡ [] = ap (λ x. x ++ s.gone) none ∙ lost in
      let at : (P : Stage → Option O → Type 0) → P S.HandedOn (Some o) → P s.stage s.origin =
      λ P h. subst (λ (x : Stage). P x s.origin) (sym is)
      (subst (λ (y : Option O). P S.HandedOn y) (sym there) h) in
      record {
        paired = record {
          client = still.client;
          origin = record {
            origin = subst (λ (x : Option O). Both origins.still x (Some q)) (sym there) still.origin;
            handed = refl;
            setup = refl;
          };
          pair = record {
            pair = still.pair;
            takes = λ list refused. holds.takes list (still.refusal.before list refused);
          };
          refusal = record { still = λ list refused. refused; before = λ list refused. refused };
        };
        once = one_upload o q is there none once refl;
        causes = at (λ x y. UploadCauses clients.tells (RefusesNone s) answer look later
            (shown x most (kept s) s.reads s.writes s.uploaded (inside origins.look y))
            (shown x most (kept s) s.reads s.writes up l'))
            (moves_causes clients.tells origins.tells most (kept s) s.reads s.writes s.uploaded look later l
            l'
            (pair.refuses o) holds.takes answer causes);
        bytes = at (λ x y. Uploads clients.tells origins.tells look later
            (shown x most (kept s) s.reads s.writes s.uploaded (inside origins.look y))
            (shown x most (kept s) s.reads s.writes up l'))
            (moves_bytes clients.tells origins.tells most (kept s) s.reads s.writes s.uploaded look later l
            l' up empty
            bytes);
        keeps = at (λ x y. UploadKeeps look later
            (shown x most (kept s) s.reads s.writes s.uploaded (inside origins.look y))
            (shown x most (kept s) s.reads s.writes up l'))
            (moves_keeps clients.tells origins.tells most (kept s) s.reads s.writes s.uploaded look later l
            l' up keeps);
        falls = at (λ x y. UploadFalls answer (left_if origins.tells pair.upload_left s.sent c y)
            (left_if origins.tells pair.upload_left s.sent d (Some q))
            (both look.agains (shown x most (kept s) s.reads s.writes s.uploaded
            (inside origins.look y)).agains)
            (both later.agains (shown x most (kept s) s.reads s.writes up l').agains))
            (moves_falls clients.tells origins.tells most (kept s) s.reads s.writes s.uploaded look later l
            l' answer
            (pair.upload_left c o) (pair.upload_left d q) s.sent falls);
        sure = λ calm. at (λ x y. IsSure (shown x most (kept s) s.reads s.writes s.uploaded (inside
            origins.look y))
            → UploadsSurely answer look later
            (shown x most (kept s) s.reads s.writes s.uploaded (inside origins.look y))
            (shown x most (kept s) s.reads s.writes up l'))
            (λ inside_sure. moves_sure clients.tells origins.tells most (kept s) s.reads s.writes s.uploaded
            look later
            l l' answer up inside_sure (sure calm));
        sends = λ done. subst (λ (x : Stage). owed_by x (Some q) (unsent s) ≡ []) (sym is) none;
      }
