-- From what becomes of a net to what `serve` came to and leaves.
use Rattle.std.proofs.Common.{◌≡◌, ◌≤◌, ◌⊎◌, ℕ, ◌+◌, Bool, false, true, List, [], All, Some, inl, inr, refl}
use Rattle.std.proofs.Common.{sym, subst, arith, ap}
use Rattle.std.specs.List.{sum_by}
use Rattle.std.proofs.lemmas.List.Elements.{All-nil}
use Rattle.ts_config.specs.Setup.{ConfigLines, lines_of}
use Rattle.ts_config.specs.declared.setup.Setup.{Setup}
use Rattle.ts_journal.specs.Log.{Log}
use Rattle.ts_link.specs.Counts.{Rose, greatest}
use Rattle.ts_link.specs.Seen.{ShelfSeen, SinkSeen}
use Rattle.ts_link.specs.declared.link.Link as link
use Rattle.ts_serve.specs.Balance.{had_number, lacked_origin}
use Rattle.ts_serve.specs.Notes.{noted_none}
use Rattle.ts_serve.specs.Served.{AreRetired, AreSessions}
use Rattle.ts_history.specs.Done.{IsTxnDone}
use Rattle.ts_serve.specs.declared.acceptor.TheConstants.{PLACES}
use Rattle.ts_stock.specs.StockTransform.{stock_transform}
use Rattle.ts_txn.specs.Net.{IsFreshNet, NetSeen}
use Rattle.ts_txn.specs.declared.retired.Noted.{Noted}
use Rattle.ts_txn.specs.declared.retired.Retired.{Retired}
use Rattle.ts_upstream.specs.declared.upstream.Upstream as upstream
use Rattle.ts_proxy.specs.declared.answer.Answer.{Answer}
use Rattle.ts_proxy.specs.declared.answer.Answer.TheVariants as a
use Rattle.ts_proxy.specs.Answers.{ComesAt, IsOfReading, IsServing, IsUnfailed, TookAt}
use Rattle.ts_proxy.specs.Ends.{IsFileStatus, done, network, out_of_memory, status_of}
use Rattle.ts_proxy.specs.Outcome.{Outcome, Serving, outcome_of, set_up}
use Rattle.ts_proxy.specs.Performed.{IsPerformed, LeavesJournalsAt}
use Rattle.ts_proxy.specs.Serving.{EndsNet, HadSessionsAt, HasSessionsIf, IsHandedNone}
use Rattle.ts_proxy.specs.Serving.{IsNetLeft, IsServedNet}
use Rattle.ts_proxy.specs.Words.{Serve}
use Rattle.ts_words.specs.Serve.{ServeWords}

-- ---- what the task came to

-- by how the part that serves ended
by-end : {C O : Type 0} (P : Answer → Type 0) (answer : Answer) (most : ℕ) (old new : NetSeen C O)
    → (EndsNet a.Done most old new → P a.Done) → (EndsNet a.Network most old new → P a.Network)
    → P a.OutOfMemory → EndsNet answer most old new → P answer
by-end P a.Done most old new d n m h = d h
by-end P a.Network most old new d n m h = n h
by-end P a.OutOfMemory most old new d n m h = m
by-end P a.Usage most old new d n m h = absurd h
by-end P (a.BadLine f) most old new d n m h = absurd h
by-end P (a.BadRecording offset) most old new d n m h = absurd h
by-end P (a.CannotRead f) most old new d n m h = absurd h
by-end P a.CannotWrite most old new d n m h = absurd h
by-end P (a.TooLong f) most old new d n m h = absurd h

-- a net was served
pub performed-served : {C O : Type 0} (words : ServeWords) (tells out_tells : Bool) (shelf shelf' : ShelfSeen)
    (out : SinkSeen) (answer : Answer) (js : List Log) (lines : ConfigLines) (most : ℕ)
    (old new : NetSeen C O)
    → (tells ≡ true → set_up words.sessions shelf.file words.config (λ ls. Serving ls) ≡ Serving lines)
    → IsUnfailed shelf shelf' → EndsNet answer most old new → js ≡ []
    → IsPerformed (Serve words) tells out_tells shelf shelf' out out answer js
performed-served words tells out_tells shelf shelf' out answer js lines most old new told read ended none =
    let at : (P : Outcome → Type 0) → P (Serving lines) → tells ≡ true
    → P (outcome_of shelf (Some (Serve words))) =
    λ P p tell. subst P (sym (told tell)) p in
    by-end (λ x. IsPerformed (Serve words) tells out_tells shelf shelf' out out x js) answer most old new
    (λ h. record {
      comes = at (ComesAt words.config [] a.Done) tt;
      named = λ tell. tt;
      of_files = tt;
      took = λ tell out_tell. at (TookAt a.Done out out) refl tell;
      quiet = tt;
      cause = record { reads = record { faults = read.faults; longs = read.longs }; writes = refl };
      of_net = tt;
      unread = tt;
      unwritten = refl;
      journals = none;
      each = at (λ o. LeavesJournalsAt a.Done o js) tt;
    })
    (λ h. record {
      comes = at (ComesAt words.config [] a.Network) tt;
      named = λ tell. tt;
      of_files = tt;
      took = λ tell out_tell. refl;
      quiet = refl;
      cause = record { reads = record { faults = read.faults; longs = read.longs }; writes = refl };
      of_net = tt;
      unread = tt;
      unwritten = refl;
      journals = none;
      each = λ tell. tt;
    })
    (record {
      comes = λ tell. tt;
      named = λ tell. tt;
      of_files = tt;
      took = λ tell out_tell. inl refl;
      quiet = tt;
      cause = record { reads = record { faults = read.faults; longs = read.longs }; writes = refl };
      of_net = tt;
      unread = tt;
      unwritten = refl;
      journals = none;
      each = λ tell. tt;
    })
    ended

-- ---- what it leaves of the net

module _ {C O : Type 0} (Done : Retired C O → Type 0) where
  -- a net that was handed nothing
  pub none-retired : (old new : NetSeen C O) → IsFreshNet new → new.counts.misdials ≡ old.counts.misdials
      → AreRetired Done old new
  none-retired old new fresh misdials =
      let each : All Done new.retired = subst (All Done) (sym fresh.retired) (All-nil Done) in
      let none : sum_by lacked_origin new.retired ≡ 0 = ap (λ rs. sum_by lacked_origin rs) fresh.retired in
      record {
        each = each;
        once = λ x.
            let no : sum_by (had_number x) new.retired ≡ 0 = ap
            (λ rs. sum_by (had_number x) rs) fresh.retired in
            omega arith;
        dialed = inl (omega arith);
      }

  -- a net that began to listen before it was served
  pub retired-since : (old mid new : NetSeen C O) → mid.counts.misdials ≡ old.counts.misdials
      → AreRetired Done mid new → AreRetired Done old new
  retired-since old mid new same are = record {
    each = are.each;
    once = are.once;
    dialed = subst (λ n. (n + sum_by lacked_origin new.retired ≤ new.counts.misdials)
        ⊎ (greatest ≤ new.counts.misdials))
        same are.dialed;
  }

module _ {C O : Type 0} (Note : Noted O → Type 0) (Session : List (Noted O) → Retired C O → Type 0) where
  -- the same of sessions
  pub sessions-since : (old mid new : NetSeen C O) → mid.counts.misdials ≡ old.counts.misdials
      → AreSessions Note Session mid new → AreSessions Note Session old new
  sessions-since old mid new same are = record {
    each = are.each;
    known = are.known;
    order = are.order;
    had = are.had;
    dialed = subst (λ n. (n + sum_by lacked_origin new.retired + sum_by noted_none new.noted
        ≤ new.counts.misdials) ⊎ (greatest ≤ new.counts.misdials))
        same are.dialed;
  }

module _ {C O : Type 0} (client : link.Ghosts C) (origin : link.Ghosts O) (both : upstream.Ghosts O C) where
  -- the net was served under a setup
  pub net-served : (words : ServeWords) (tells net_tells : Bool) (shelf shelf' : ShelfSeen) (answer : Answer)
      (setup : Setup) (old new : NetSeen C O)
      → (tells ≡ true
      → set_up words.sessions shelf.file words.config (λ ls. Serving ls) ≡ Serving (lines_of setup))
      → (words.sessions ≡ false → net_tells ≡ true
      → AreRetired (IsTxnDone client origin both stock_transform setup PLACES) old new)
      → (words.sessions ≡ true → net_tells ≡ true → HasSessionsIf client origin setup answer old new)
      → (words.sessions ≡ false → net_tells ≡ true → new.noted ≡ [])
      → IsNetLeft answer words.connections old new
      → IsServedNet client origin both tells net_tells shelf shelf' words (status_of answer) old new
  net-served words tells net_tells shelf shelf' answer setup old new told are had none left =
      let o : Outcome = outcome_of shelf (Some (Serve words)) in
      let ends : (P : Answer → Type 0) → (EndsNet a.Done words.connections old new → P a.Done)
      → (EndsNet a.Network words.connections old new → P a.Network) → P a.OutOfMemory → P answer =
      λ P d n m. by-end P answer words.connections old new d n m left.ended in
      record {
        retired = λ net_tell plain.
            let all = are plain net_tell in
            record {
              each = λ k d lt. record { setup = setup; given = told; is_done = all.each k d lt };
              once = all.once;
              dialed = all.dialed;
            };
        one = λ net_tell plain.
            inr (record { setup = setup; given = told; are_done = (are plain net_tell).each });
        sessions = λ net_tell many. at_status (had many net_tell);
        quiet = λ net_tell plain. none plain net_tell;
        few = left.few;
        no_more = left.no_more;
        shut = left.shut;
        ended = ends (λ x. status_of x ≡ done → EndsNet a.Done words.connections old new) (λ h is. h)
            (λ h is. absurd (omega (arith, is))) (λ is. absurd (omega (arith, is)));
        failed = ends (λ x. status_of x ≡ network → EndsNet a.Network words.connections old new)
            (λ h is. absurd (omega (arith, is))) (λ h is. h) (λ is. absurd (omega (arith, is)));
        untouched = ends (λ x. IsFileStatus (status_of x) → new ≡ old) (λ h is. absurd (whole is))
            (λ h is. absurd (failed is)) (λ is. absurd (lacking is));
        completes = λ tell serving read net.
            ends (λ x. (status_of x ≡ done) ⊎ (status_of x ≡ out_of_memory)) (λ h. inl refl)
            (λ h. absurd (net h.2)) (inr refl);
      }
    where
      at_status : HasSessionsIf client origin setup answer old new
          → IsHandedNone new ⊎ HadSessionsAt client origin tells (outcome_of shelf (Some (Serve words)))
          (status_of answer) old new
      at_status (inl none) = inl none
      at_status (inr all) = inr (record {
        setup = setup;
        given = told;
        last = all.last;
        had = all.had;
        spent = λ other. all.spent (λ lacks. other (ap status_of lacks));
      })

      whole : IsFileStatus (status_of a.Done) → ⊥
      whole (inl is) = omega (arith, is)
      whole (inr (inl is)) = omega (arith, is)
      whole (inr (inr is)) = omega (arith, is)

      failed : IsFileStatus (status_of a.Network) → ⊥
      failed (inl is) = omega (arith, is)
      failed (inr (inl is)) = omega (arith, is)
      failed (inr (inr is)) = omega (arith, is)

      lacking : IsFileStatus (status_of a.OutOfMemory) → ⊥
      lacking (inl is) = omega (arith, is)
      lacking (inr (inl is)) = omega (arith, is)
      lacking (inr (inr is)) = omega (arith, is)

  -- the files of the task were not read, so the net was not asked
  pub net-unserved : (words : ServeWords) (tells net_tells : Bool) (shelf shelf' : ShelfSeen)
      (answer : Answer)
      (old : NetSeen C O) → IsFreshNet old
      → (tells ≡ true → ComesAt words.config [] answer
      (set_up words.sessions shelf.file words.config (λ ls. Serving ls)))
      → IsOfReading answer shelf shelf'
      → IsServedNet client origin both tells net_tells shelf shelf' words (status_of answer) old old
  net-unserved words tells net_tells shelf shelf' answer old fresh told cause = record {
    retired = λ net_tell plain. none-retired _ old old fresh refl;
    one = λ net_tell plain. inl fresh.retired;
    sessions = λ net_tell many. inl (record { retired = fresh.retired; noted = fresh.noted });
    quiet = λ net_tell plain. fresh.noted;
    few = subst (λ n. n ≤ words.connections) (sym fresh.given) (omega arith);
    no_more = let given = fresh.given in let handed = fresh.handed in omega arith;
    shut = inl refl;
    ended = λ is. absurd (not-done answer cause is);
    failed = λ is. absurd (not-net answer cause is);
    untouched = λ is. refl;
    completes = λ tell serving read net. complete answer cause (told tell) serving read;
  }
    where
      not-done : (x : Answer) → IsOfReading x shelf shelf' → status_of x ≡ done → ⊥
      not-done a.Done h is = h
      not-done (a.BadLine f) h is = omega (arith, is)
      not-done (a.CannotRead f) h is = omega (arith, is)
      not-done a.OutOfMemory h is = omega (arith, is)
      not-done (a.TooLong f) h is = omega (arith, is)
      not-done x h is = h

      not-net : (x : Answer) → IsOfReading x shelf shelf' → status_of x ≡ network → ⊥
      not-net (a.BadLine f) h is = omega (arith, is)
      not-net (a.CannotRead f) h is = omega (arith, is)
      not-net a.OutOfMemory h is = omega (arith, is)
      not-net (a.TooLong f) h is = omega (arith, is)
      not-net x h is = h

      complete : (x : Answer) → IsOfReading x shelf shelf' → ComesAt words.config [] x
          (outcome_of shelf (Some (Serve words)))
          → IsServing (outcome_of shelf (Some (Serve words))) → (Rose shelf.faults shelf'.faults → ⊥)
          → (status_of x ≡ done) ⊎ (status_of x ≡ out_of_memory)
      complete (a.BadLine f) h comes serving read = absurd (subst IsServing comes serving)
      complete (a.CannotRead f) h comes serving read = absurd (read h.faults)
      complete a.OutOfMemory h comes serving read = inr refl
      complete (a.TooLong f) h comes serving read = absurd (subst IsServing comes serving)
      complete x h comes serving read = absurd h
