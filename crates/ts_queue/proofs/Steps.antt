-- Each step on the queue keeps its rule.
use Rattle.std.proofs.Common.{◌≡◌, ℕ, ◌+◌, ◌<◌, ◌≤◌, List, [], ◌∷◌, ◌++◌, get_or, set, refl, ap, sym, ◌∙◌, subst, ⊎_elim, All, arith, ◌==◌}
use Rattle.std.specs.List.{sum_by, count_by}
use Rattle.std.proofs.lemmas.List.Sums.{sum_by-cons, sum_by-append, sum_by_push, get_or-le-sum_by}
use Rattle.std.proofs.lemmas.List.Elements.{All-cons, All-head, All-tail, All-set, All-push, All-append, All-contains, All-weaker}
use Rattle.std.proofs.lemmas.List.Quantifiers.{all_pairs_push}
use mathlib.Core.Option.{some}
use lib.ListN.{get_elem?}
use Rattle.crossbeam_queue.specs.Fifo.{Pushes, Pops, Learns, Forks, Merges}
use Rattle.crossbeam_queue.proofs.Lists.{set_else}
use Rattle.ts_queue.specs.declared.TheConstants.{WHOLE_SHARE}
use Rattle.ts_queue.specs.declared.ticket.Ticket.{Ticket}
use Rattle.ts_queue.specs.declared.view.PassView.{PassView}
use Rattle.ts_queue.specs.Tickets.{is_numbered, is_same_ticket, IsInOrder, Exactly}
use Rattle.ts_queue.specs.Views.{spent, owned, putting, taking, kept_part, split_part, with_joined}
use Rattle.ts_queue.specs.Rule.{IsLawfulView, IsLawfulQueue}
use Rattle.ts_queue.specs.Passes.{TakesTicket, Looks}
use Rattle.ts_lists.proofs.Sums.{sum_by-set_at, le-sum_by_at, two_le-sum_by, sum_by-zero_by, sum_by-le_by}
use Rattle.ts_lists.proofs.Places.{place_contained}
use Rattle.ts_lists.proofs.Elements.{all_pairs_head, all_pairs_tail}
use Rattle.ts_queue.proofs.Counts.{one_if, numbered_cases, same-le-numbered, all_low, owned-spent, owned-split, named-itself, spent_lawful, none_later}

-- the view that a lawful list has at a place is lawful
view_at : (items : List Ticket) (views : List PassView) (id : ℕ) (v : PassView) → IsLawfulQueue items views
    → get_elem? views id ≡ some v → IsLawfulView v
view_at items views id v h at = All-contains IsLawfulView views v h.each_view (place_contained views id v at)

-- each ticket that a pass took comes before those of a list
abbrev IsAhead : List Ticket → PassView → Type 0
IsAhead items v = All (λ t. All (IsInOrder t) items) v.taken

-- no ticket in the queue, and none that was taken, is under this pass's number and above its last serial
none_left : (items : List Ticket) (views : List PassView) (id : ℕ) (v : PassView) → IsLawfulQueue items views
    → get_elem? views id ≡ some v → 0 < v.share → (s : ℕ) → v.serial < s
    → sum_by (λ u. count_by (is_numbered v.number s) u.taken) views + count_by (is_numbered v.number s) items
    ≡ 0
none_left items views id v h at alive s later =
    sym (h.balance (λ t. one_if (is_numbered v.number s t))) ∙ none_later items views id v h at alive s later

-- a pass that put its next ticket is lawful
put_view : (v : PassView) (t : Ticket) → IsLawfulView v → 0 < v.share → t.putter ≡ v.number
    → v.serial < t.serial
    → IsLawfulView (putting t v)
put_view v t ok alive mine later = record {
  own = ok.own;
  names =
      let named : 0 < count_by (λ n. n == t.putter) v.names = subst
      (λ (q : ℕ). 0 < count_by (λ n. n == q) v.names) (sym mine) (ok.own alive) in
      All-cons (λ (u : Ticket). (0 < count_by (λ n. n == u.putter) v.names) × (0 < u.serial)) t v.put
      (named, omega arith) ok.names;
  last =
      All-cons (λ (u : Ticket). u.putter ≡ v.number → u.serial ≤ t.serial) t v.put (λ _. omega arith)
      (All-weaker (λ (u : Ticket). u.putter ≡ v.number → u.serial ≤ v.serial)
      (λ (u : Ticket). u.putter ≡ v.number → u.serial ≤ t.serial)
      (λ u low same. let le : u.serial ≤ v.serial = low same in omega arith)
      v.put
      ok.last);
  blank = λ none. absurd (omega arith);
}

-- no serial is put twice when a pass puts its next ticket
put_once : (items : List Ticket) (views : List PassView) (id : ℕ) (v : PassView) (t : Ticket)
    → IsLawfulQueue items views → get_elem? views id ≡ some v → 0 < v.share → t.putter ≡ v.number
    → v.serial < t.serial
    → (p s : ℕ) → sum_by (λ u. count_by (is_numbered p s) u.put) (set views id (putting t v)) ≤ 1
put_once items views id v t h at alive mine later p s =
    let F : PassView → ℕ = λ u. count_by (is_numbered p s) u.put in
    let all : sum_by F views ≤ 1 = h.once p s in
    let more : count_by (is_numbered p s) (t ∷ v.put) ≡ one_if (is_numbered p s t) + count_by
    (is_numbered p s) v.put = sum_by-cons (λ (u : Ticket). one_if (is_numbered p s u)) t v.put in
    let changed : sum_by F (set views id (putting t v)) + count_by (is_numbered p s) v.put ≡ sum_by F views +
    count_by (is_numbered p s) (t ∷ v.put) = sum_by-set_at F views id v (putting t v) at in
    ⊎_elim
    (λ (is : (t.putter ≡ p) × (t.serial ≡ s) × (one_if (is_numbered p s t) ≡ 1)).
    let none : sum_by (λ u. count_by (is_numbered v.number t.serial) u.put) views ≡ 0 = none_later items views
    id v h at alive t.serial later in
    let here : sum_by F views ≡ 0 = subst (λ (q : ℕ). sum_by (λ u. count_by (is_numbered q s) u.put) views ≡
    0) (sym mine ∙ is.0)
    (subst (λ (r : ℕ). sum_by (λ u. count_by (is_numbered v.number r) u.put) views ≡ 0) is.1 none) in
    let one : one_if (is_numbered p s t) ≡ 1 = is.2 in
    omega arith)
    (λ (no : one_if (is_numbered p s t) ≡ 0). omega arith)
    (numbered_cases p s t)

put_kept : (items : List Ticket) (views : List PassView) (id : ℕ) (v : PassView) (t : Ticket)
    → IsLawfulQueue items views → get_elem? views id ≡ some v → 0 < v.share → t.putter ≡ v.number
    → v.serial < t.serial
    → IsLawfulQueue (items ++ t ∷ []) (set views id (putting t v))
put_kept items views id v t h at alive mine later =
    let w : PassView = putting t v in
    let low_items : All (λ u. u.putter ≡ v.number → u.serial ≤ v.serial) items = all_low v.number v.serial
    items (λ s lt. let none = none_left items views id v h at alive s lt in omega arith) in
    let ahead : All (IsAhead (items ++ t ∷ [])) views = λ k d in' j e in''.
    let low : All (λ x. x.putter ≡ v.number → x.serial ≤ v.serial) (get_or views k d).taken = all_low v.number
    v.serial (get_or views k d).taken (λ s lt.
    let none = none_left items views id v h at alive s lt in
    let le = get_or-le-sum_by (λ (u : PassView). count_by (is_numbered v.number s) u.taken) views k d in' in
    omega arith) in
    let x : Ticket = get_or (get_or views k d).taken j e in
    All-push (IsInOrder x) items t (h.before k d in' j e in'')
    (λ same. let le : x.serial ≤ v.serial = low j e in'' (sym same ∙ mine) in omega arith) in
    record {
      shares = let one = sum_by-set_at (λ (u : PassView). u.share) views id v w at in let all = h.shares in
          omega
          arith;
      apart = λ x. let one = sum_by-set_at (owned x) views id v w at in let all = h.apart x in omega arith;
      once = put_once items views id v t h at alive mine later;
      balance = λ f.
          let puts = sum_by-set_at (λ (u : PassView). sum_by f u.put) views id v w at in
          let takes = sum_by-set_at (λ (u : PassView). sum_by f u.taken) views id v w at in
          let all = h.balance f in
          omega (arith, sum_by-cons f t v.put, sum_by_push f items t);
      rising = all_pairs_push IsInOrder items t h.rising
          (λ k d in' same. let le : (get_or items k d).serial ≤ v.serial = low_items k d in' (sym same ∙ mine)
          in omega arith);
      before = All-set (IsAhead (items ++ t ∷ [])) views id w
          (All-contains (IsAhead (items ++ t ∷ [])) views v ahead (place_contained views id v at)) ahead;
      each_view = All-set IsLawfulView views id w
          (put_view v t (view_at items views id v h at) alive mine later) h.each_view;
    }

pub put_step : (n id : ℕ) (v : PassView) (t : Ticket) → 0 < v.share → t.putter ≡ v.number
    → v.serial < t.serial
    → Pushes IsLawfulQueue n id v t (λ w. w ≡ putting t v)
put_step n id v t alive mine later items views room h at =
    (putting t v, put_kept items views id v t h at alive mine later, refl)

take_kept : (items : List Ticket) (views : List PassView) (id : ℕ) (v : PassView) (t : Ticket)
    → IsLawfulQueue (t ∷ items) views → get_elem? views id ≡ some v → 0 < v.share
    → IsLawfulQueue items (set views id (taking t v))
take_kept items views id v t h at alive =
    let w : PassView = taking t v in
    let ok : IsLawfulView v = view_at (t ∷ items) views id v h at in
    let ahead : All (IsAhead items) views = λ k d in' j e in''. All-tail
    (IsInOrder (get_or (get_or views k d).taken j e)) t items (h.before k d in' j e in'') in
    record {
      shares = let one = sum_by-set_at (λ (u : PassView). u.share) views id v w at in let all = h.shares in
          omega
          arith;
      apart = λ x. let one = sum_by-set_at (owned x) views id v w at in let all = h.apart x in omega arith;
      once = λ p s. let one = sum_by-set_at (λ (u : PassView). count_by (is_numbered p s) u.put) views id v w
          at
          in let all = h.once p s in omega arith;
      balance = λ f.
          let puts = sum_by-set_at (λ (u : PassView). sum_by f u.put) views id v w at in
          let takes = sum_by-set_at (λ (u : PassView). sum_by f u.taken) views id v w at in
          let all = h.balance f in
          omega (arith, sum_by-cons f t v.taken, sum_by-cons f t items);
      rising = all_pairs_tail IsInOrder t items h.rising;
      before =
          let mine : IsAhead items v = All-contains (IsAhead items) views v ahead
          (place_contained views id v at) in
          All-set (IsAhead items) views id w (All-cons (λ (x : Ticket). All (IsInOrder x) items) t v.taken
          (all_pairs_head IsInOrder t items h.rising) mine) ahead;
      each_view = All-set IsLawfulView views id w
          (record { own = ok.own; names = ok.names; last = ok.last; blank = λ none. absurd (omega arith) })
          h.each_view;
    }

pub take_step : (id : ℕ) (v : PassView) → 0 < v.share → Pops IsLawfulQueue id v (TakesTicket v)
take_step id v alive t items views h at = (
  taking t v,
  take_kept items views id v t h at alive,
  record {
    adds = refl;
    rises =
        let mine : IsAhead (t ∷ items) v = All-contains (IsAhead (t ∷ items)) views v h.before
        (place_contained views id v at) in
        λ j e in'. All-head (IsInOrder (get_or v.taken j e)) t items (mine j e in');
    once = λ p s.
        let f : Ticket → ℕ = λ u. one_if (is_numbered p s u) in
        let all : sum_by (λ u. sum_by f u.put) views ≤ 1 = h.once p s in
        let taken : sum_by f v.taken ≤ sum_by (λ u. sum_by f u.taken) views = le-sum_by_at
        (λ (u : PassView). sum_by f u.taken) views id v at in
        let even = h.balance f in
        omega (arith, sum_by-cons f t v.taken, sum_by-cons f t items);
    front = (items, record { views = views; there = place_contained views id v at; lawful = h });
  },
)

-- of views that are lawful and have no share, nothing is counted
nothing_left : (G : PassView → ℕ) (views : List PassView) → G spent ≡ 0 → All IsLawfulView views
    → sum_by (λ u. u.share) views ≡ 0 → sum_by G views ≡ 0
nothing_left G views none ok shares = sum_by-zero_by IsLawfulView (λ (u : PassView). u.share) G
    (λ u fine zero_share. ap G (fine.blank zero_share) ∙ none) views ok shares

-- a pass with the whole share put each ticket once or never, and what it did not take stands in the queue
pub whole_balance : (items : List Ticket) (views : List PassView) (id : ℕ) (v : PassView)
    → IsLawfulQueue items views → get_elem? views id ≡ some v → v.share ≡ WHOLE_SHARE → (t : Ticket)
    → (count_by (is_same_ticket t) v.put
    ≡ count_by (is_same_ticket t) v.taken + count_by (is_same_ticket t) items)
    × (count_by (is_same_ticket t) v.put ≤ 1)
whole_balance items views id v h at whole t =
    let f : Ticket → ℕ = λ u. one_if (is_same_ticket t u) in
    let g : Ticket → ℕ = λ u. one_if (is_numbered t.putter t.serial u) in
    let others : List PassView = set views id spent in
    let fine : All IsLawfulView others = All-set IsLawfulView views id spent spent_lawful h.each_view in
    let shares : sum_by (λ u. u.share) others ≡ 0 = let one = sum_by-set_at (λ (u : PassView). u.share) views
    id v
    spent at in let all = h.shares in omega arith in
    let puts : sum_by (λ u. sum_by f u.put) others ≡ 0 = nothing_left (λ u. sum_by f u.put) others refl fine
    shares in
    let takes : sum_by (λ u. sum_by f u.taken) others ≡ 0 = nothing_left (λ u. sum_by f u.taken) others refl
    fine shares in
    let put_here = sum_by-set_at (λ (u : PassView). sum_by f u.put) views id v spent at in
    let took_here = sum_by-set_at (λ (u : PassView). sum_by f u.taken) views id v spent at in
    let even = h.balance f in
    let once : sum_by (λ u. sum_by g u.put) views ≤ 1 = h.once t.putter t.serial in
    let mine : sum_by g v.put ≤ sum_by (λ u. sum_by g u.put) views = le-sum_by_at
    (λ (u : PassView). sum_by g u.put) views id v at in
    let less : sum_by f v.put ≤ sum_by g v.put = sum_by-le_by f g (same-le-numbered t) v.put in
    (omega arith, omega arith)

-- where the queue is empty, a pass with the whole share took exactly what was put
whole_taken : (views : List PassView) (id : ℕ) (v : PassView) → IsLawfulQueue [] views
    → get_elem? views id ≡ some v
    → v.share ≡ WHOLE_SHARE → Exactly v.put v.taken
whole_taken views id v h at whole t =
    let even = whole_balance [] views id v h at whole t in (omega arith, even.1)

pub look : (id : ℕ) (v : PassView) → Learns IsLawfulQueue id v (Looks v)
look id v items views h at none =
    let empty : IsLawfulQueue [] views = subst (λ (ts : List Ticket). IsLawfulQueue ts views) none h in
    record {
      empty = record { views = views; there = place_contained views id v at; lawful = empty };
      whole =
          whole_taken views id v empty at;
    }

pub split_step : (id : ℕ) (v : PassView) → 2 ≤ v.share → v.free_from < v.free_to
    → Forks IsLawfulQueue id v (kept_part v) (split_part v)
split_step id v two free items views h at =
    let l : PassView = kept_part v in
    let r : PassView = split_part v in
    let vs : List PassView = set views id l in
    let ok : IsLawfulView v = view_at items views id v h at in
    let kept : IsLawfulView l = record {
      own = λ some_share. ok.own (omega arith);
      names = ok.names;
      last =
          ok.last;
      blank = λ none. absurd (omega arith);
    } in
    let split : IsLawfulView r = record {
      own = λ _. named-itself v.free_from;
      names = λ k d h. absurd
          (omega arith);
      last = λ k d h. absurd (omega arith);
      blank = λ none. absurd (omega arith);
    } in
    record {
      shares = let one = sum_by-set_at (λ (u : PassView). u.share) views id v l at in let all = h.shares in
          omega
          (arith, sum_by_push (λ (u : PassView). u.share) vs r);
      apart = λ x. let one = sum_by-set_at (owned x) views id v l at in let all = h.apart x in omega
          (arith, sum_by_push (owned x) vs r, owned-split x v free);
      once = λ p s.
          let F : PassView → ℕ = λ u. count_by (is_numbered p s) u.put in
          let one = sum_by-set_at F views id v l at in
          let all : sum_by F views ≤ 1 = h.once p s in
          omega (arith, sum_by_push F vs r);
      balance = λ f.
          let puts = sum_by-set_at (λ (u : PassView). sum_by f u.put) views id v l at in
          let takes = sum_by-set_at (λ (u : PassView). sum_by f u.taken) views id v l at in
          let all = h.balance f in
          omega (
            arith,
            sum_by_push (λ (u : PassView). sum_by f u.put) vs r,
            sum_by_push
                (λ (u : PassView). sum_by f u.taken) vs r,
          );
      rising = h.rising;
      before =
          let mine : IsAhead items v = All-contains (IsAhead items) views v h.before
          (place_contained views id v at) in
          All-push (IsAhead items) vs r (All-set (IsAhead items) views id l mine h.before)
          (λ k d h. absurd (omega arith));
      each_view = All-push IsLawfulView vs r (All-set IsLawfulView views id l kept h.each_view) split;
    }

-- a pass to which another was joined is lawful
joined_view : (items : List Ticket) (views : List PassView) (id : ℕ) (v : PassView) (other : ℕ) (w : PassView)
    → IsLawfulQueue items views → get_elem? views id ≡ some v → get_elem? views other ≡ some w
    → (id ≡ other → ⊥) → 0 < v.share → IsLawfulView (with_joined v w)
joined_view items views id v other w h at was apart alive =
    let ok : IsLawfulView v = view_at items views id v h at in
    let fine : IsLawfulView w = view_at items views other w h was in
    let Named : Ticket → Type 0 = λ t. (0 < count_by (λ n. n == t.putter) (w.names ++ v.names)) ×
    (0 < t.serial) in
    let Low : Ticket → Type 0 = λ t. t.putter ≡ v.number → t.serial ≤ v.serial in
    let count : (x : ℕ) → count_by (λ n. n == x) (w.names ++ v.names) ≡ count_by (λ n. n == x) w.names +
    count_by (λ n. n == x) v.names = λ x. sum_by-append (λ (n : ℕ). one_if (n == x)) w.names v.names in
    record {
      own = λ _. let mine = ok.own alive in omega (arith, count v.number);
      names = All-append Named w.put v.put
          (All-weaker (λ (t : Ticket). (0 < count_by (λ n. n == t.putter) w.names) × (0 < t.serial)) Named
          (λ t it. let name = it.0 in (omega (arith, count t.putter), it.1)) w.put fine.names)
          (All-weaker (λ (t : Ticket). (0 < count_by (λ n. n == t.putter) v.names) × (0 < t.serial)) Named
          (λ t it. let name = it.0 in (omega (arith, count t.putter), it.1)) v.put ok.names);
      last = All-append Low w.put v.put
          (λ k d in' same.
          let name : 0 < count_by (λ n. n == (get_or w.put k d).putter) w.names = (fine.names k d in').0 in
          let theirs : 0 < count_by (λ n. n == v.number) w.names = subst
          (λ (q : ℕ). 0 < count_by (λ n. n == q) w.names) same name in
          let mine : 0 < count_by (λ n. n == v.number) v.names = ok.own alive in
          let both = two_le-sum_by (owned v.number) views id other v w apart at was in
          let all = h.apart v.number in
          absurd (omega arith))
          ok.last;
      blank = λ none. absurd (omega arith);
    }

pub join_step : (id : ℕ) (v : PassView) (other : ℕ) (w : PassView) → 0 < v.share
    → Merges IsLawfulQueue id v other w (with_joined v w) spent
join_step id v other w alive items views h at apart there =
    let b : PassView = with_joined v w in
    let vs : List PassView = set views id b in
    let was : get_elem? views other ≡ some w = sym (set_else views id other b apart) ∙ there in
    let sums : (G : PassView → ℕ) → (sum_by G vs + G v ≡ sum_by G views + G b) ×
    (sum_by G (set vs other spent) + G w ≡ sum_by G vs + G spent) = λ G.
    (sum_by-set_at G views id v b at, sum_by-set_at G vs other w spent there) in
    record {
      shares = let s = sums (λ u. u.share) in let all = h.shares in omega arith;
      apart = λ x.
          let s = sums (owned x) in
          let all = h.apart x in
          omega (arith, owned-spent x, sum_by-append (λ (n : ℕ). one_if (n == x)) w.names v.names);
      once = λ p s.
          let both = sums (λ u. count_by (is_numbered p s) u.put) in
          let all = h.once p s in
          omega (arith, sum_by-append (λ (t : Ticket). one_if (is_numbered p s t)) w.put v.put);
      balance = λ f.
          let puts = sums (λ u. sum_by f u.put) in
          let takes = sums (λ u. sum_by f u.taken) in
          let all = h.balance f in
          omega (arith, sum_by-append f w.put v.put, sum_by-append f w.taken v.taken);
      rising = h.rising;
      before =
          let mine : IsAhead items v = All-contains (IsAhead items) views v h.before
          (place_contained views id v at) in
          let theirs : IsAhead items w = All-contains (IsAhead items) views w h.before
          (place_contained views other w was) in
          All-set (IsAhead items) vs other spent (λ k d h. absurd (omega arith))
          (All-set (IsAhead items) views id b (All-append (λ (t : Ticket). All (IsInOrder t) items) w.taken
          v.taken theirs mine) h.before);
      each_view =
          All-set IsLawfulView vs other spent spent_lawful
          (All-set IsLawfulView views id b
          (joined_view items views id v other w h at was (λ e. apart (sym e)) alive) h.each_view);
    }
